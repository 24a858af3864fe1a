-- The numbers that a place of the tableau forms, and that leave 128 bits.
use Rattle.std.specs.Prelude.{◌≡◌, ◌⊎◌, ℕ, ◌<◌, ℤ, List, length, slice_index_or, Some, IsSome}
use Rattle.wx_num.specs.declared.excess.NumOp.TheVariants.{Times}
use Rattle.wx_num.specs.declared.excess.Excess.{Excess}
use Rattle.wx_num.specs.Excess.{Overflows}
use Rattle.mix_system.specs.declared.literal.Side.TheVariants.{Le, Ge}
use Rattle.mix_system.specs.declared.literal.Term.{Term}
use Rattle.mix_system.specs.Row.{number_at}
use Rattle.tableau_rows.specs.declared.equation.Equation.{Equation}
use Rattle.tableau_rows.specs.Turning.{others, IsSumStep}
use Rattle.bounded_simplex.specs.Combination.{IsCombineStep}
use Rattle.bounded_simplex.specs.InForce.{BoundChanges, in_force}
use Rattle.bounded_simplex.specs.Listing.{IsListed}
use Rattle.bounded_simplex.specs.Pivot.{IsPivotExcess}
use Rattle.bounded_simplex.specs.Refutation.{bound_on}
use Rattle.bounded_simplex.specs.TableauOf.{TableauOf}
use Rattle.bounded_simplex.specs.Terms.{term_of}
use Rattle.bounded_simplex.specs.declared.excess.Place.{Place}
use Rattle.bounded_simplex.specs.declared.excess.Place.TheVariants.{Value, Compare, Pivot, Combine}
use Rattle.bounded_simplex.specs.declared.excess.TableauExcess.{TableauExcess}
use Rattle.bounded_simplex.specs.declared.fault.Fault.{Fault}

-- the term of an equation's basic column
abbrev pub basic_term : BoundChanges → Equation → Term
basic_term bounds equation = term_of (length bounds.system.ranges) equation.basic

-- the denominator times a bound in force on the basic term
pub record IsCompareStep (bounds : BoundChanges) (equation : Equation) (bound : ℤ) (excess : Excess) : Type 0 where
  pub bounded : (bound_on bounds equation.basic Ge ≡ Some bound) ⊎ (bound_on bounds equation.basic Le ≡ Some bound)
  pub formed : excess ≡ record { op = Times; x = equation.denominator; y = bound }

-- what an equation forms at a place
abbrev pub IsFormedAt : BoundChanges → List ℤ → Equation → Place → Excess → Type 0
IsFormedAt bounds values equation (Value basic) excess =
    (basic ≡ basic_term bounds equation) × IsSumStep (number_at values) (others equation.basic equation.entries.items) excess
IsFormedAt bounds values equation (Compare basic bound) excess =
    (basic ≡ basic_term bounds equation) × IsCompareStep bounds equation bound excess
IsFormedAt bounds values equation (Combine basic) excess =
    (basic ≡ basic_term bounds equation) × IsCombineStep bounds equation excess
IsFormedAt bounds values equation (Pivot basic entering changed) excess = ⊥

pub record IsOfEquation (bounds : BoundChanges) (rows : List Equation) (values : List ℤ) (fault : Fault) : Type 0 where
  pub at : ℕ
  pub within : at < length rows
  pub formed : (d : Equation) → IsFormedAt bounds values (slice_index_or rows at d) fault.place fault.excess

-- a pivot's step
pub record IsOfPivot (bounds : BoundChanges) (rows : List Equation) (fault : Fault) : Type 0 where
  pub at : ℕ
  pub within : at < length rows
  pub entering : ℕ
  pub changed : ℕ
  pub place : (d : Equation) → fault.place
      ≡ Pivot (basic_term bounds (slice_index_or rows at d)) (term_of (length bounds.system.ranges) entering) (term_of (length bounds.system.ranges) changed)
  pub step : IsPivotExcess rows at entering changed fault.excess

-- an equation or a pivot forms the two numbers, and the result of the operation on them leaves 128 bits
pub record IsFault (bounds : BoundChanges) (rows : List Equation) (values : List ℤ) (fault : Fault) : Type 0 where
  pub formed : IsOfEquation bounds rows values fault ⊎ IsOfPivot bounds rows fault
  pub overflows : Overflows fault.excess

-- its place and its numbers
abbrev pub fault_of : TableauExcess → Fault
fault_of excess = record { place = excess.place; excess = record { op = excess.op; x = excess.x; y = excess.y } }

-- the place forms the two numbers on the tableau of that basis, with those values of the other terms and the bounds in force
pub record IsEvent (bounds : BoundChanges) (excess : TableauExcess) : Type 0 where
  pub rows : List Equation
  pub values : List ℤ
  pub tableau_of : TableauOf bounds.system rows
  pub listed : IsListed bounds.system rows values excess.basis excess.rest
  pub fault : IsFault bounds rows values (fault_of excess)

-- the same on a basis and values that are given
pub record IsEventOn (bounds : BoundChanges) (basis : List Term) (rest : List ℤ) (excess : TableauExcess) : Type 0 where
  pub event : IsEvent bounds excess
  pub of_basis : excess.basis ≡ basis
  pub of_rest : excess.rest ≡ rest

-- a basic term whose value is formed has a bound in force
abbrev pub IsOfBounded : BoundChanges → Place → Type 0
IsOfBounded bounds (Value basic) = IsSome (in_force bounds basic Ge) ⊎ IsSome (in_force bounds basic Le)
IsOfBounded bounds _ = Unit {0}
