-- The bounds in force: those that the ranges and a list of changes give.
use Rattle.std.specs.Prelude.{ℕ, Bool, true, false, ◌&&◌, cond, ℤ, pos, ◌<ℤ◌, int_lt, List, Option, None, Some, fold, slice_index_or}
use Rattle.mix_system.specs.declared.literal.Term.{Term}
use Rattle.mix_system.specs.declared.literal.Term.TheVariants.{Var, Row}
use Rattle.mix_system.specs.declared.literal.Side.{Side}
use Rattle.mix_system.specs.declared.literal.Side.TheVariants.{Le, Ge}
use Rattle.mix_system.specs.declared.literal.Lit.{Lit}
use Rattle.mix_system.specs.System.{System}
use Rattle.mix_system.specs.Bounds.{range_end}
use Rattle.mix_system.specs.Tally.{is_same_term}

-- a system, the literals that were put to its ranges in order, and how many may be
pub record BoundChanges : Type 0 where
  pub system : System
  pub changes : List Lit
  pub room : ℕ

abbrev pub is_same_side : Side → Side → Bool
is_same_side Le Le = true
is_same_side Ge Ge = true
is_same_side _ _ = false

-- whether a literal bounds the term on that side
abbrev pub bounds_on : Term → Side → Lit → Bool
bounds_on term side lit = is_same_term lit.term term && is_same_side lit.side side

-- the tighter one of two bounds on a side
abbrev pub tighter : Side → ℤ → ℤ → ℤ
tighter Le end bound = cond (int_lt bound end) bound end
tighter Ge end bound = cond (int_lt end bound) bound end

abbrev pub tightened : Side → Option ℤ → ℤ → Option ℤ
tightened side None bound = Some bound
tightened side (Some end) bound = Some (tighter side end bound)

-- what a literal leaves of a term's bound on a side
abbrev pub after_change : Term → Side → Option ℤ → Lit → Option ℤ
after_change term side end lit = cond (bounds_on term side lit) (tightened side end lit.bound) end

-- the bound that the ranges give: a row has none
abbrev pub from_ranges : List (ℤ × ℤ) → Term → Side → Option ℤ
from_ranges ranges (Var var) side = Some (range_end side (slice_index_or ranges var (pos 0, pos 0)))
from_ranges ranges (Row row) side = None

-- the bound in force on a term's side: the tightest that the ranges and the changes give
abbrev pub in_force : BoundChanges → Term → Side → Option ℤ
in_force bounds term side = fold (after_change term side) (from_ranges bounds.system.ranges term side) bounds.changes

-- the lower bound is above the upper one
abbrev pub Contradict : Option ℤ → Option ℤ → Type 0
Contradict (Some low) (Some high) = high <ℤ low
Contradict _ _ = ⊥
