-- Values within the ranges and the sums over them, and what is known of these sums.
use Rattle.std.specs.Prelude.{◌≡◌, ◌⊎◌, ℕ, ◌+◌, ◌<◌, Bool, true, false, ℤ, pos, ◌*ℤ◌, ◌≤ℤ◌, ◌<ℤ◌, List, [], length, map, slice_index_or, Option, None, Some, IsSome, All}
use Rattle.wx_num.specs.Excess.{Overflows}
use Rattle.wx_num.specs.declared.excess.Excess.{Excess}
use Rattle.mix_system.specs.Fits.{IsInRange}
use Rattle.mix_system.specs.Row.{number_at}
use Rattle.mix_system.specs.System.{System, IsWellFormed}
use Rattle.mix_system.specs.declared.literal.Side.{Side}
use Rattle.mix_system.specs.declared.literal.Side.TheVariants.{Le, Ge}
use Rattle.mix_system.specs.declared.literal.Term.TheVariants.{Row}
use Rattle.mix_system.specs.declared.row.Part.{Part}
use Rattle.tableau_rows.specs.declared.equation.Equation.{Equation}
use Rattle.tableau_rows.specs.Turning.{IsSumStep, entry_of}
use Rattle.bounded_simplex.specs.Broken.{side_of}
use Rattle.bounded_simplex.specs.InForce.{BoundChanges, in_force}
use Rattle.bounded_simplex.specs.Lax.{end_of, extreme_at}
use Rattle.bounded_simplex.specs.Point.{IsOutside}
use Rattle.bounded_simplex.specs.declared.reach.Beyond.{Beyond}
use Rattle.bounded_simplex.specs.declared.reach.Beyond.TheVariants.{Unknown, Broken}
use Rattle.bounded_simplex.specs.declared.reach.Reach.{Reach}

-- each variable's value lies in its range, and that of each row outside the basis between its least and its greatest sum
pub record AreInReach (system : System) (rows : List Equation) (values : List ℤ) : Type 0 where
  pub vars : (var : ℕ) → var < length system.ranges → IsInRange (slice_index_or system.ranges var (pos 0, pos 0)) (number_at values var)
  pub sums : (row : ℕ) → row < length system.rows → IsOutside rows (length system.ranges + row)
      → (extreme_at system row false ≤ℤ number_at values (length system.ranges + row)) × (number_at values (length system.ranges + row) ≤ℤ extreme_at system row true)

-- each part's variable stands at that end
abbrev pub AreAtEnds : List (ℤ × ℤ) → (upwards : Bool) → (ℕ → ℤ) → List Part → Type 0
AreAtEnds ranges upwards number parts = All (λ part. number part.var ≡ end_of ranges upwards part) parts

-- a step of such a sum
abbrev pub IsEndStep : List (ℤ × ℤ) → (upwards : Bool) → List Part → Excess → Type 0
IsEndStep ranges upwards parts step = (number : ℕ → ℤ) → AreAtEnds ranges upwards number parts → IsSumStep number (map entry_of parts) step

-- what is kept of a row's sums is right
pub record IsReachOf (system : System) (row : ℕ) (reach : Reach) : Type 0 where
  pub least : (sum : ℤ) → reach.least ≡ Some sum → sum ≡ extreme_at system row false
  pub greatest : (sum : ℤ) → reach.greatest ≡ Some sum → sum ≡ extreme_at system row true

pub record AreReaches (system : System) (reaches : List Reach) : Type 0 where
  pub one_each : length reaches ≡ length system.rows
  pub each : (row : ℕ) (d : Reach) → row < length reaches → IsReachOf system row (slice_index_or reaches row d)

-- both sums of a row are kept, and no bound in force on it lies beyond them
pub record HasRoom (bounds : BoundChanges) (row : ℕ) (reach : Reach) : Type 0 where
  pub least : reach.least ≡ Some (extreme_at bounds.system row false)
  pub greatest : reach.greatest ≡ Some (extreme_at bounds.system row true)
  pub low : (bound : ℤ) → in_force bounds (Row row) Ge ≡ Some bound → bound ≤ℤ extreme_at bounds.system row true
  pub high : (bound : ℤ) → in_force bounds (Row row) Le ≡ Some bound → extreme_at bounds.system row false ≤ℤ bound

abbrev pub IsFree : BoundChanges → ℕ → Type 0
IsFree bounds row = (in_force bounds (Row row) Ge ≡ None) × (in_force bounds (Row row) Le ≡ None)

-- so it is with each row that has a bound
pub record HaveRoom (bounds : BoundChanges) (reaches : List Reach) : Type 0 where
  pub one_each : length reaches ≡ length bounds.system.rows
  pub each : (row : ℕ) (d : Reach) → row < length reaches → IsFree bounds row ⊎ HasRoom bounds row (slice_index_or reaches row d)

-- what a row's bounds come to: a sum of it leaves 128 bits, or a bound in force lies beyond it
abbrev pub LiesBeyond : (upwards : Bool) → (bound sum : ℤ) → Type 0
LiesBeyond true bound sum = sum <ℤ bound
LiesBeyond false bound sum = bound <ℤ sum

pub record IsUnknownRow (bounds : BoundChanges) (row : ℕ) (upwards : Bool) (excess : Excess) : Type 0 where
  pub formed : IsWellFormed bounds.system
  pub within : row < length bounds.system.rows
  pub bounded : IsSome (in_force bounds (Row row) Ge) ⊎ IsSome (in_force bounds (Row row) Le)
  pub step : IsEndStep bounds.system.ranges upwards (slice_index_or bounds.system.rows row []) excess
  pub overflows : Overflows excess

pub record IsBrokenRow (bounds : BoundChanges) (row : ℕ) (upwards : Bool) : Type 0 where
  pub formed : IsWellFormed bounds.system
  pub within : row < length bounds.system.rows
  pub bound : ℤ
  pub is : in_force bounds (Row row) (side_of upwards) ≡ Some bound
  pub beyond : LiesBeyond upwards bound (extreme_at bounds.system row upwards)

abbrev pub IsBeyondRow : BoundChanges → Beyond → Type 0
IsBeyondRow bounds (Unknown row upwards excess) = IsUnknownRow bounds row upwards excess
IsBeyondRow bounds (Broken row upwards) = IsBrokenRow bounds row upwards

-- each sum of the row keeps the bound, as far as is known
abbrev pub IsAtMost : ℤ → Option ℤ → Type 0
IsAtMost bound None = ⊥
IsAtMost bound (Some sum) = bound ≤ℤ sum

abbrev pub IsAtLeast : ℤ → Option ℤ → Type 0
IsAtLeast bound None = ⊥
IsAtLeast bound (Some sum) = sum ≤ℤ bound

abbrev pub AllKeep : Reach → Side → ℤ → Type 0
AllKeep reach Ge bound = IsAtMost bound reach.least
AllKeep reach Le bound = IsAtLeast bound reach.greatest
