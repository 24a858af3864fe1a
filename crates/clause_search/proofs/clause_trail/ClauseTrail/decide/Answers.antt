use Rattle.std.proofs.Common.{◌≡◌, [], ◌∷◌, ◌++◌, length, None, arith}
use Rattle.std.proofs.lemmas.Grind.{common_steps}
use Rattle.std.proofs.lemmas.List.Elements.{Contains-push}
use Rattle.clause_search.specs.Search.{Search}
use Rattle.clause_search.specs.Stored.{lists, AreReasons}
use Rattle.clause_search.proofs.ReasonLaws.{AreReasons-open, AreReasons-push}
use Rattle.clause_search.proofs.clause_trail.ClauseTrail.decide.Goals as goal

pub invariant_of-self-else-is_err : goal.invariant_of-self-else-is_err
invariant_of-self-else-is_err c =
    let it = c.self.inside in
    let lit = c.args.lit.now in
    let trail : c.open_level.new.self ≡ record it.trail { lits = it.trail.lits ++ lit ∷ []; levels = it.trail.levels ++ length it.trail.lits ∷ [] } = grind (arith, common_steps) in
    let reasons : c.push.new.self.items ≡ it.reasons.items ++ None ∷ [] = grind (arith, common_steps) in
    let state : Search = record { store = it.clauses; trail = record it.trail { levels = it.trail.levels ++ length it.trail.lits ∷ [] } } in
    let before : AreReasons state it.reasons.items = AreReasons-open (lists it) (length it.trail.lits) it.reasons.items c.self.invariant.reasons in
    record {
      trail = c.open_level.ensures.trail;
      clauses = rw trail (record { each = c.self.invariant.clauses.each; few = c.self.invariant.clauses.few });
      reasons = rw (trail, reasons) (AreReasons-push state lit it.reasons.items None (Contains-push it.trail.levels (length it.trail.lits)) before);
    }
