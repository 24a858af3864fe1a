-- The least and the greatest sum of a row over the ranges, and bounds that each sum keeps.
use Rattle.std.specs.Prelude.{◌≡◌, ℕ, Bool, true, false, ℤ, pos, ◌*ℤ◌, ◌≤ℤ◌, List, [], length, slice_index_or, Some}
use Rattle.mix_system.specs.Bounds.{range_end}
use Rattle.mix_system.specs.Sum.{int_sum_by}
use Rattle.mix_system.specs.System.{System}
use Rattle.mix_system.specs.declared.literal.Side.{Side}
use Rattle.mix_system.specs.declared.literal.Side.TheVariants.{Le, Ge}
use Rattle.mix_system.specs.declared.literal.Term.{Term}
use Rattle.mix_system.specs.declared.literal.Term.TheVariants.{Var, Row}
use Rattle.mix_system.specs.declared.row.Part.{Part}
use Rattle.bounded_simplex.specs.InForce.{BoundChanges}
use Rattle.bounded_simplex.specs.Refutation.{hindering, bound_on}
use Rattle.bounded_simplex.specs.Terms.{term_of}

-- the end of its variable's range at which a part's product is greatest, or least
abbrev pub end_of : List (ℤ × ℤ) → (upwards : Bool) → Part → ℤ
end_of ranges upwards part = range_end (hindering upwards part.coeff) (slice_index_or ranges part.var (pos 0, pos 0))

-- the greatest sum of a row's parts over the ranges, or the least
abbrev pub extreme : List (ℤ × ℤ) → (upwards : Bool) → List Part → ℤ
extreme ranges upwards parts = int_sum_by (λ part. part.coeff *ℤ end_of ranges upwards part) parts

abbrev pub extreme_at : System → ℕ → (upwards : Bool) → ℤ
extreme_at system row upwards = extreme system.ranges upwards (slice_index_or system.rows row [])

-- a bound on a row that each sum over the ranges keeps
abbrev pub IsLaxAt : System → Term → Side → ℤ → Type 0
IsLaxAt system (Var var) side bound = ⊥
IsLaxAt system (Row row) Ge bound = bound ≤ℤ extreme_at system row false
IsLaxAt system (Row row) Le bound = extreme_at system row true ≤ℤ bound

-- the bound in force on a column's side, if there is one, is such
abbrev pub IsLax : BoundChanges → ℕ → Side → Type 0
IsLax bounds column side = (bound : ℤ) → bound_on bounds column side ≡ Some bound → IsLaxAt bounds.system (term_of (length bounds.system.ranges) column) side bound
