use Rattle.std.proofs.Common.{[], ◌∷◌, ◌++◌, map, ap, ◌∙◌}
use Rattle.std.proofs.lemmas.List.{map-append}
use Rattle.mix_system.specs.Stored.{lists}
use Rattle.mix_system.proofs.WellFormedLaws.{IsWellFormed-add_clause}
use Rattle.mix_system.proofs.system.System.add_clause.Goals as goal

pub invariant_of-self-2 : goal.invariant_of-self-2
invariant_of-self-2 c =
    let clauses = (lists c.self.inside).clauses in
    let added = ap (map (λ clause. clause.items)) c.in_ok-push.ensures.items ∙ map-append (λ clause. clause.items) c.self.inside.clauses.items _ ∙ ap (λ lits. clauses ++ lits ∷ []) c.in_ok-clause.ensures.ok in
    IsWellFormed-add_clause (lists c.self.inside) _ _ added c.self.invariant (rw (← c.self.view_is) at c.requires.clause) (rw (← c.self.view_is) at c.requires.room)
