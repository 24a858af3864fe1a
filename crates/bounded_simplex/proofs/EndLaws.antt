-- The bounds in force on a variable: there is one on each side, and it is as tight as the range's.
use Rattle.std.proofs.Common.{◌≡◌, ℕ, Bool, true, false, cond, List, [], ◌∷◌, get_or, Option, Some, ℤ, pos, ◌≤ℤ◌, ◌<ℤ◌, refl, sym, ap, ◌∙◌, subst, ⊎_elim, arith}
use Rattle.std.specs.Prelude.{fold, int_lt}
use Rattle.std.proofs.lemmas.Int.{ints}
use Rattle.std.proofs.lemmas.Bool.{cases_Bool}
use Rattle.mix_system.specs.declared.literal.Term.{Term}
use Rattle.mix_system.specs.declared.literal.Term.TheVariants.{Var}
use Rattle.mix_system.specs.declared.literal.Side.{Side}
use Rattle.mix_system.specs.declared.literal.Side.TheVariants.{Le, Ge}
use Rattle.mix_system.specs.declared.literal.Lit.{Lit}
use Rattle.mix_system.specs.Lit.{IsWithin}
use Rattle.mix_system.specs.Fits.{IsInRange}
use Rattle.mix_system.specs.Bounds.{range_end}
use Rattle.bounded_simplex.specs.InForce.{BoundChanges, bounds_on, tighter, tightened, after_change, in_force, Contradict}

within_refl : (side : Side) (end : ℤ) → IsWithin side end end
within_refl Le end = omega (arith, ints)
within_refl Ge end = omega (arith, ints)

within_trans : (side : Side) (a b c : ℤ) → IsWithin side a b → IsWithin side b c → IsWithin side a c
within_trans Le a b c one two = omega (arith, ints, one, two)
within_trans Ge a b c one two = omega (arith, ints, one, two)

tighter_cond : (side : Side) (end bound : ℤ) (t : Bool) → (t ≡ true → IsWithin side end bound) → IsWithin side end (cond t bound end)
tighter_cond side end bound true less = less refl
tighter_cond side end bound false less = within_refl side end

lt_from : (a b : ℤ) → int_lt a b ≡ true → a <ℤ b
lt_from a b h = grind (arith, ints)

tighter_within : (side : Side) (end bound : ℤ) → IsWithin side end (tighter side end bound)
tighter_within Le end bound = tighter_cond Le end bound (int_lt bound end) (λ yes. omega (arith, ints, lt_from bound end yes))
tighter_within Ge end bound = tighter_cond Ge end bound (int_lt end bound) (λ yes. omega (arith, ints, lt_from end bound yes))

-- what changes leave of a bound
pub record IsLeft (side : Side) (end : ℤ) (left : Option ℤ) : Type 0 where
  pub bound : ℤ
  pub is : left ≡ Some bound
  pub as_tight : IsWithin side end bound

pub left_after : (term : Term) (side : Side) (end : ℤ) (changes : List Lit) → IsLeft side end (fold (after_change term side) (Some end) changes)
left_after term side end [] = record { bound = end; is = refl; as_tight = within_refl side end }
left_after term side end (lit ∷ changes) =
    ⊎_elim (λ on.
    let next = tighter side end lit.bound in
    let rest = left_after term side next changes in
    record {
      bound = rest.bound;
      is = ap (λ t. fold (after_change term side) (cond t (tightened side (Some end) lit.bound) (Some end)) changes) on ∙ rest.is;
      as_tight = within_trans side end next rest.bound (tighter_within side end lit.bound) rest.as_tight;
    })
    (λ apart.
    let rest = left_after term side end changes in
    record {
      bound = rest.bound;
      is = ap (λ t. fold (after_change term side) (cond t (tightened side (Some end) lit.bound) (Some end)) changes) apart ∙ rest.is;
      as_tight = rest.as_tight;
    }) (cases_Bool (bounds_on term side lit))

-- the range of a variable
abbrev pub range_at : BoundChanges → ℕ → ℤ × ℤ
range_at bounds var = get_or bounds.system.ranges var (pos 0, pos 0)

pub var_end : (bounds : BoundChanges) (var : ℕ) (side : Side) → IsLeft side (range_end side (range_at bounds var)) (in_force bounds (Var var) side)
var_end bounds var side = left_after (Var var) side (range_end side (range_at bounds var)) bounds.changes

pub end_as_tight : (bounds : BoundChanges) (var : ℕ) (side : Side) (bound : ℤ) → in_force bounds (Var var) side ≡ Some bound → IsWithin side (range_end side (range_at bounds var)) bound
end_as_tight bounds var side bound is =
    let left = var_end bounds var side in
    let both : Some left.bound ≡ Some bound = sym left.is ∙ is in
    let same : left.bound ≡ bound = cc in
    subst (IsWithin side (range_end side (range_at bounds var))) same left.as_tight

-- where a variable's bounds don't contradict each other, both lie in its range
pub end_in_range : (bounds : BoundChanges) (var : ℕ) → ¬ Contradict (in_force bounds (Var var) Ge) (in_force bounds (Var var) Le) → (side : Side) (bound : ℤ)
    → in_force bounds (Var var) side ≡ Some bound → IsInRange (range_at bounds var) bound
end_in_range bounds var apart side bound is =
    let low = var_end bounds var Ge in
    let high = var_end bounds var Le in
    let ordered : ¬ (high.bound <ℤ low.bound) = λ less. apart (rw (low.is, high.is) less) in
    of_side side low.bound high.bound low.is high.is ordered low.as_tight high.as_tight is
  where
    of_side : (side : Side) (l h : ℤ) → in_force bounds (Var var) Ge ≡ Some l → in_force bounds (Var var) Le ≡ Some h → ¬ (h <ℤ l) → IsWithin Ge (range_at bounds var).0 l → IsWithin Le (range_at bounds var).1 h
        → in_force bounds (Var var) side ≡ Some bound → IsInRange (range_at bounds var) bound
    of_side Ge l h l_is h_is ordered l_in h_in is =
        let both : Some l ≡ Some bound = sym l_is ∙ is in
        let same : l ≡ bound = cc in
        let le : l ≤ℤ h = grind (arith, ints) in
        (omega (arith, ints, l_in, same), omega (arith, ints, le, h_in, same))
    of_side Le l h l_is h_is ordered l_in h_in is =
        let both : Some h ≡ Some bound = sym h_is ∙ is in
        let same : h ≡ bound = cc in
        let le : l ≤ℤ h = grind (arith, ints) in
        (omega (arith, ints, l_in, le, same), omega (arith, ints, h_in, same))
