-- A box in which each variable is fixed.
use Rattle.std.specs.Prelude.{◌≡◌, ℕ, ◌<◌, ℤ, pos, List, [], length, slice_index_or, Some}
use Rattle.mix_system.specs.declared.literal.Side.{Side}
use Rattle.mix_system.specs.declared.literal.Term.TheVariants.{Var, Row}
use Rattle.mix_system.specs.Row.{number_at, row_value}
use Rattle.bounded_simplex.specs.InForce.{BoundChanges, in_force}
use Rattle.bounded_simplex.specs.Point.{Admits}

-- both bounds in force on each variable are its number at the point
abbrev pub IsFixedAt : BoundChanges → List ℤ → Type 0
IsFixedAt bounds point = (var : ℕ) (side : Side) → var < length bounds.system.ranges → in_force bounds (Var var) side ≡ Some (number_at point var)

-- the sum of a row at a point keeps the bound in force on a side
abbrev pub KeepsSum : BoundChanges → List ℤ → ℕ → Side → Type 0
KeepsSum bounds point row side = Admits side (in_force bounds (Row row) side) (pos 1) (row_value (slice_index_or bounds.system.rows row []) point)
