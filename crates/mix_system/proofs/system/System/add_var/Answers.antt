use Rattle.std.proofs.lemmas.Int.{to_z-of_z}
use Rattle.mix_system.specs.Stored.{lists}
use Rattle.mix_system.proofs.WellFormedLaws.{IsWellFormed-add_var}
use Rattle.mix_system.proofs.system.System.add_var.Goals as goal

pub invariant_of-self-2 : goal.invariant_of-self-2
invariant_of-self-2 c =
    let low_fits = c.ranges.low in
    let high_fits = c.ranges.high in
    let added = simp to_z-of_z at c.in_ok-push.ensures.items in
    IsWellFormed-add_var (lists c.self.inside) _ _ added c.self.invariant c.requires.range (rw (← c.self.view_is) at c.requires.room)
