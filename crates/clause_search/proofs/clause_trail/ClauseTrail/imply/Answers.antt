use Rattle.std.proofs.Common.{◌≡◌, [], ◌∷◌, ◌++◌, Some, arith}
use Rattle.std.proofs.lemmas.Grind.{common_steps}
use Rattle.clause_search.specs.Stored.{lists}
use Rattle.clause_search.proofs.ReasonLaws.{AreReasons-push}
use Rattle.clause_search.proofs.clause_trail.ClauseTrail.imply.Goals as goal

pub invariant_of-self-else-is_err : goal.invariant_of-self-else-is_err
invariant_of-self-else-is_err c =
    let it = c.self.inside in
    let lit = c.args.lit.now in
    let trail : c.push-2.new.self ≡ record it.trail { lits = it.trail.lits ++ lit ∷ [] } = grind (arith, common_steps) in
    let reasons : c.push.new.self.items ≡ it.reasons.items ++ Some c.args.reason ∷ [] = grind (arith, common_steps) in
    record {
      trail = c.push-2.ensures.trail;
      clauses = rw trail (record { each = c.self.invariant.clauses.each; few = c.self.invariant.clauses.few });
      reasons = rw (trail, reasons) (AreReasons-push (lists it) lit it.reasons.items (Some c.args.reason) (rw (← c.self.view_is) at c.requires.reason) c.self.invariant.reasons);
    }
