-- The combination of bounds that an equation gives, in the order in which it is formed, and its numbers.
use Rattle.std.specs.Prelude.{◌≡◌, ◌⊎◌, ℕ, Bool, ℤ, pos, neg_ℤ, List, [], ◌∷◌, ◌++◌, length, FitsSigned, Some, All}
use Rattle.std.specs.Int.{w128}
use Rattle.wx_num.specs.Excess.{exact}
use Rattle.wx_num.specs.declared.excess.NumOp.TheVariants.{Minus}
use Rattle.wx_num.specs.declared.excess.Excess.{Excess}
use Rattle.mix_system.specs.Calm.{IsCalm, IsSmall}
use Rattle.mix_system.specs.Row.{number_at}
use Rattle.mix_system.specs.Sum.{int_sum_by}
use Rattle.mix_system.specs.System.{Exists, IsWellFormed}
use Rattle.mix_system.specs.declared.literal.Side.{Side}
use Rattle.mix_system.specs.declared.literal.Term.{Term}
use Rattle.mix_system.specs.declared.row.Part.{Part}
use Rattle.mix_system.specs.declared.farkas.FarkasPart.{FarkasPart}
use Rattle.mix_system.specs.FarkasSum.{FarkasRefutes, weight, bound_weight, leaf_steps}
use Rattle.tableau_rows.specs.declared.entry.Entry.{Entry}
use Rattle.tableau_rows.specs.declared.equation.Equation.{Equation}
use Rattle.tableau_rows.specs.Substitution.{IsTurningStep}
use Rattle.tableau_rows.specs.Turning.{others}
use Rattle.bounded_simplex.specs.InForce.{BoundChanges, in_force}
use Rattle.bounded_simplex.specs.Refutation.{box_of, SaysInForce, IsPartOf}

-- the basic column's entry
abbrev pub basic_entry : Equation → Entry
basic_entry equation = record { column = equation.basic; coeff = neg_ℤ equation.denominator }

-- the basic column's entry, and then the others
abbrev pub in_order : Equation → List Entry
in_order equation = basic_entry equation ∷ others equation.basic equation.entries.items

-- one part for each entry
abbrev pub ArePartsOf : BoundChanges → Bool → List Entry → List FarkasPart → Type 0
ArePartsOf bounds upwards [] [] = Unit {0}
ArePartsOf bounds upwards (entry ∷ entries) (part ∷ parts) = IsPartOf bounds upwards entry part × ArePartsOf bounds upwards entries parts
ArePartsOf bounds upwards _ _ = ⊥

-- the result of a step fits into 128 bits
abbrev pub Fits : Excess → Type 0
Fits step = FitsSigned w128 (exact step.op step.x step.y)

-- a step of a list of them
pub record IsAmong (steps : List Excess) (step : Excess) : Type 0 where
  pub before : List Excess
  pub after : List Excess
  pub split : steps ≡ before ++ step ∷ after

-- a number of working the parts of an equation's entries, in their order, as far as some entry
pub record IsLeafStep (bounds : BoundChanges) (equation : Equation) (step : Excess) : Type 0 where
  pub upwards : Bool
  pub front : List Entry
  pub back : List Entry
  pub parts : List FarkasPart
  pub split : in_order equation ≡ front ++ back
  pub of : ArePartsOf bounds upwards front parts
  pub among : IsAmong (leaf_steps bounds.system.rows parts) step

-- a sign that is turned, or such a number
abbrev pub IsCombineStep : BoundChanges → Equation → Excess → Type 0
IsCombineStep bounds equation step = IsTurningStep equation step ⊎ IsLeafStep bounds equation step

-- parts, what they add up to on each variable, and the sum of their bounds; each number of working them fits
pub record AreWorked (rows : List (List Part)) (parts : List FarkasPart) (sums : List ℤ) (constant : ℤ) : Type 0 where
  pub summed : (var : ℕ) → number_at sums var ≡ int_sum_by (weight rows var) parts
  pub bounds : constant ≡ int_sum_by bound_weight parts
  pub fit : All Fits (leaf_steps rows parts)

-- the part of an entry was put behind the others
pub record IsPut (bounds : BoundChanges) (upwards : Bool) (entry : Entry) (old new : List FarkasPart) : Type 0 where
  pub part : FarkasPart
  pub of : IsPartOf bounds upwards entry part
  pub added : new ≡ old ++ part ∷ []

-- a number of working it behind the others
pub record IsPartStep (bounds : BoundChanges) (upwards : Bool) (entry : Entry) (old : List FarkasPart) (step : Excess) : Type 0 where
  pub part : FarkasPart
  pub of : IsPartOf bounds upwards entry part
  pub among : IsAmong (leaf_steps bounds.system.rows (old ++ part ∷ [])) step

-- the turned sign of its coefficient, or such a number
abbrev pub IsPutStep : BoundChanges → Bool → Entry → List FarkasPart → Excess → Type 0
IsPutStep bounds upwards entry old step =
    (step ≡ record { op = Minus; x = pos 0; y = entry.coeff }) ⊎ IsPartStep bounds upwards entry old step

-- each bound in force is below 2^100 in size
abbrev pub AreSmall : BoundChanges → Type 0
AreSmall bounds =
    (term : Term) (side : Side) (bound : ℤ) → Exists (length bounds.system.ranges) (length bounds.system.rows) term
    → in_force bounds term side ≡ Some bound → IsSmall bound

-- such bounds on a calm system
pub record IsCalmBox (bounds : BoundChanges) : Type 0 where
  pub formed : IsWellFormed bounds.system
  pub system : IsCalm bounds.system
  pub small : AreSmall bounds

-- Bounds in force that refute the box. In a calm one each number of working them fits into 128 bits.
pub record IsRefutation (bounds : BoundChanges) (parts : List FarkasPart) : Type 0 where
  pub refutes : FarkasRefutes bounds.system.rows (box_of bounds) parts
  pub known : All (λ part. Exists (length bounds.system.ranges) (length bounds.system.rows) part.lit.term) parts
  pub says : All (λ part. SaysInForce bounds part.lit) parts
  pub fit : IsCalmBox bounds → All Fits (leaf_steps bounds.system.rows parts)
