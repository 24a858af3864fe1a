use Rattle.std.proofs.Common.{ℕ, ◌<◌, List, ℤ, length, rules}
use Rattle.mix_system.specs.declared.literal.Side.{Side}
use Rattle.bounded_simplex.specs.Combination.{IsCalmBox}
use Rattle.bounded_simplex.specs.Point.{NoneContradict}
use Rattle.bounded_simplex.specs.Sums.{IsFixedAt, KeepsSum}
use Rattle.integer_splits.specs.Work.{AreNarrow}
use Rattle.integer_splits.proofs.PointLaws.{fixed_inside}
use Rattle.integer_splits.proofs.work.without_point.Goals as goal

pub returns-clause-found : goal.returns-clause-found
returns-clause-found c =
    let bounds = c.args.simplex.now.bounds in
    let narrow : AreNarrow bounds = search rules in
    let apart : NoneContradict bounds = search rules in
    let sums : IsCalmBox bounds → (point : List ℤ) → IsFixedAt bounds point → (row : ℕ) (side : Side) → row < length bounds.system.rows → KeepsSum bounds point row side = search rules in
    fixed_inside bounds c.in_ok-low_ends.field-0 narrow apart c.in_ok-low_ends.ensures.low c.in_ok-low_ends.ensures.count c.requires.calm sums
