use Rattle.std.proofs.Common.{[], ◌∷◌, ◌++◌, map, ap, ◌∙◌}
use Rattle.std.proofs.lemmas.List.{map-append}
use Rattle.mix_system.specs.Stored.{lists}
use Rattle.mix_system.proofs.WellFormedLaws.{IsWellFormed-add_row}
use Rattle.mix_system.proofs.system.System.add_row.Goals as goal

pub invariant_of-self-2 : goal.invariant_of-self-2
invariant_of-self-2 c =
    let rows = (lists c.self.inside).rows in
    let added = ap (map (λ row. row.items)) c.in_ok-push.ensures.items ∙ map-append (λ row. row.items) c.self.inside.rows.items _ ∙ ap (λ parts. rows ++ parts ∷ []) c.in_ok-row.ensures.ok in
    IsWellFormed-add_row (lists c.self.inside) _ _ added c.self.invariant (rw (← c.self.view_is) at c.requires.row) (rw (← c.self.view_is) at c.requires.room)
