use Rattle.std.proofs.Common.{◌≡◌, [], ◌∷◌, ◌++◌, length, arith}
use Rattle.std.proofs.lemmas.List.{length_push}
use Rattle.std.proofs.lemmas.List.Elements.{All-push}
use Rattle.mix_system.specs.System.{IsClause}
use Rattle.clause_search.specs.Stored.{lists}
use Rattle.clause_search.proofs.ReasonLaws.{AreReasons-add}
use Rattle.clause_search.proofs.clause_trail.ClauseTrail.add_clause.Goals as goal

pub invariant_of-self-2 : goal.invariant_of-self-2
invariant_of-self-2 c =
    let it = c.self.inside in
    let lits = c.args.lits.now in
    let clauses : c.add.new.self ≡ it.clauses ++ lits ∷ [] = c.in_ok-add.ensures.ok in
    let known : IsClause (length it.trail.ranges) it.trail.rows lits = rw (← c.self.view_is) at c.requires in
    let count = length_push it.clauses lits in
    record {
      trail = c.self.invariant.trail;
      clauses = rw clauses (record {
        each = All-push (IsClause (length it.trail.ranges) it.trail.rows) it.clauses lits c.self.invariant.clauses.each known;
        few = omega arith;
      });
      reasons = rw clauses (AreReasons-add (lists it) lits it.reasons.items c.self.invariant.reasons);
    }
