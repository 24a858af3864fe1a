-- A pivot: a column enters the basis in the place of another.
use Rattle.std.specs.Prelude.{◌≡◌, ◌≢◌, ◌⊎◌, ℕ, ◌<◌, pos, List, Option, None, Some, length, set, slice_index_or}
use Rattle.wx_num.specs.declared.excess.Excess.{Excess}
use Rattle.wx_num.specs.Excess.{Overflows}
use Rattle.tableau_rows.specs.declared.equation.Equation.{Equation}
use Rattle.tableau_rows.specs.Substitution.{taken, IsMultiple, IsCombination, IsTurningStep, IsSubstitutionStep}

-- what a pivot makes of another equation
pub record IsChanged (new row pivot : Equation) (entering : ℕ) : Type 0 where
  pub basic : new.basic ≡ row.basic
  pub combination : IsCombination new row pivot
  pub gone : taken new entering ≡ pos 0

-- what it makes of the equation whose basic column leaves
pub record IsSolvedAnew (new pivot : Equation) (entering : ℕ) : Type 0 where
  pub basic : new.basic ≡ entering
  pub multiple : IsMultiple new pivot

-- the equations after a pivot on the one at a place: it is solved for the column that enters, which is gone from all others
pub record ArePivoted (at entering : ℕ) (old new : List Equation) : Type 0 where
  pub as_many : length new ≡ length old
  pub own : (d : Equation) → IsSolvedAnew (slice_index_or new at d) (slice_index_or old at d) entering
  pub others : (k : ℕ) (d : Equation) → k < length old → k ≢ at → IsChanged (slice_index_or new k d) (slice_index_or old k d) (slice_index_or old at d) entering

-- an equation after the pivot, None where it stays as it is
abbrev pub IsFresh : (rows : List Equation) (at entering k : ℕ) → Option Equation → Type 0
IsFresh rows at entering k None = (k ≢ at) × ((d : Equation) → taken (slice_index_or rows k d) entering ≡ pos 0)
IsFresh rows at entering k (Some new) =
    (d : Equation) → (k ≡ at → IsSolvedAnew new (slice_index_or rows at d) entering) × (k ≢ at → IsChanged new (slice_index_or rows k d) (slice_index_or rows at d) entering)

-- a step of forming the equation at a place anew
abbrev pub IsStepAt : (rows : List Equation) (at entering place : ℕ) → Excess → Type 0
IsStepAt rows at entering place excess =
    (d : Equation) → ((place ≡ at) × IsTurningStep (slice_index_or rows at d) excess)
    ⊎ ((place ≢ at) × IsSubstitutionStep (slice_index_or rows place d) (slice_index_or rows at d) entering excess)

-- a step of the pivot that would overflow: it forms the equation of the basic column `changed` anew
pub record IsPivotExcess (rows : List Equation) (at entering changed : ℕ) (excess : Excess) : Type 0 where
  pub place : ℕ
  pub within : place < length rows
  pub basic : (d : Equation) → changed ≡ (slice_index_or rows place d).basic
  pub step : IsStepAt rows at entering place excess
  pub overflows : Overflows excess

-- the one in the place of the other, where there is one
abbrev pub chosen : Option Equation → Equation → Equation
chosen None row = row
chosen (Some new) row = new

abbrev pub set_chosen : List Equation → ℕ → Option Equation → List Equation
set_chosen rows place None = rows
set_chosen rows place (Some new) = set rows place new

-- each equation has made way for the one that was formed in its place
pub record ArePut (old : List Equation) (fresh : List (Option Equation)) (new : List Equation) : Type 0 where
  pub as_many : length new ≡ length old
  pub each : (k : ℕ) (d : Equation) (o : Option Equation) → k < length old → slice_index_or new k d ≡ chosen (slice_index_or fresh k o) (slice_index_or old k d)
