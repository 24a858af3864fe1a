-- Laws of literals and boxes.
use Rattle.std.proofs.Common.{◌≡◌, ◌⊎◌, ◌↔◌, ℕ, zero, suc, ◌+◌, ◌<◌, List, [], ◌∷◌, ◌++◌, length, slice_index_or, ℤ, pos, All, refl, sym, ap, ◌∙◌, subst, ⊎_elim, arith}
use Rattle.std.specs.Prelude.{Contains}
use Rattle.std.proofs.lemmas.Int.{ints}
use Rattle.std.proofs.lemmas.List.Elements.{All-nil, All-cons, All-head, All-tail}
use Rattle.mix_system.specs.declared.literal.Term.TheVariants.{Var}
use Rattle.mix_system.specs.declared.literal.Side.{Side}
use Rattle.mix_system.specs.declared.literal.Side.TheVariants.{Le, Ge}
use Rattle.mix_system.specs.declared.literal.Lit.{Lit}
use Rattle.mix_system.specs.declared.row.Part.{Part}
use Rattle.mix_system.specs.Lit.{IsWithin, other_side, negated_bound, negation, highest_below, atom}
use Rattle.mix_system.specs.Row.{number_at}
use Rattle.mix_system.specs.Fits.{term_value, IsTrueAt, IsInRange, IsInRanges}
use Rattle.mix_system.specs.Bounds.{Entails, IsIn, IsFalseIn, low_bound, high_bound, range_bounds_from, range_bounds, range_end, AreTrueAt}
use Rattle.mix_system.proofs.AnyLaws.{Any-append_left, Any-append_right, Any-append_cases, Any-here, Any-there, Any-cons_cases, Any-none, Any-weaker, AreAmong, Any-among, Any-with_all}

-- a literal and its negation

within_or_not : (side : Side) (bound value : ℤ) → IsWithin side bound value ⊎ IsWithin (other_side side) (negated_bound side bound) value
within_or_not Le bound value = grind (arith, ints)
within_or_not Ge bound value = grind (arith, ints)

not_within_both : (side : Side) (bound value : ℤ) → IsWithin side bound value → IsWithin (other_side side) (negated_bound side bound) value → ⊥
not_within_both Le bound value one other = omega (arith, ints)
not_within_both Ge bound value one other = omega (arith, ints)

other_side-twice : (side : Side) → other_side (other_side side) ≡ side
other_side-twice Le = refl
other_side-twice Ge = refl

negated_bound-twice : (side : Side) (bound : ℤ) → negated_bound (other_side side) (negated_bound side bound) ≡ bound
negated_bound-twice Le bound = omega (arith, ints)
negated_bound-twice Ge bound = omega (arith, ints)

highest_below-negated : (side : Side) (bound : ℤ) → highest_below (other_side side) (negated_bound side bound) ≡ highest_below side bound
highest_below-negated Le bound = omega (arith, ints)
highest_below-negated Ge bound = omega (arith, ints)

module _ (rows : List (List Part)) (point : List ℤ) where
  pub true_or_negation : (lit : Lit) → IsTrueAt rows point lit ⊎ IsTrueAt rows point (negation lit)
  true_or_negation lit = within_or_not lit.side lit.bound (term_value rows point lit.term)

  pub not_both_true : (lit : Lit) → IsTrueAt rows point lit → IsTrueAt rows point (negation lit) → ⊥
  not_both_true lit one other = not_within_both lit.side lit.bound (term_value rows point lit.term) one other

pub negation-twice : (lit : Lit) → negation (negation lit) ≡ lit
negation-twice lit = rw (other_side-twice lit.side, negated_bound-twice lit.side lit.bound) refl

pub atom-negation : (lit : Lit) → atom (negation lit) ≡ atom lit
atom-negation lit = ap (λ bound. (lit.term, bound)) (highest_below-negated lit.side lit.bound)

-- one bound says what another says

IsWithin_refl : (side : Side) (bound : ℤ) → IsWithin side bound bound
IsWithin_refl Le bound = omega (arith, ints)
IsWithin_refl Ge bound = omega (arith, ints)

IsWithin_trans : (side : Side) (a b c : ℤ) → IsWithin side b a → IsWithin side c b → IsWithin side c a
IsWithin_trans Le a b c first second = omega (arith, ints)
IsWithin_trans Ge a b c first second = omega (arith, ints)

pub Entails_refl : (lit : Lit) → Entails lit lit
Entails_refl lit = record { same_term = refl; same_side = refl; as_strong = IsWithin_refl lit.side lit.bound }

pub Entails_trans : (a b c : Lit) → Entails a b → Entails b c → Entails a c
Entails_trans a b c first second = record {
  same_term = first.same_term ∙ second.same_term;
  same_side = first.same_side ∙ second.same_side;
  as_strong = IsWithin_trans c.side a.bound b.bound c.bound (subst (λ side. IsWithin side b.bound a.bound) second.same_side first.as_strong) second.as_strong;
}

module _ (rows : List (List Part)) (point : List ℤ) where
  pub true_from_Entails : (bound lit : Lit) → Entails bound lit → IsTrueAt rows point bound → IsTrueAt rows point lit
  true_from_Entails bound lit entails holds =
      let value = term_value rows point lit.term in
      let moved : IsWithin lit.side bound.bound value =
      subst (λ side. IsWithin side bound.bound value) entails.same_side (subst (λ term. IsWithin bound.side bound.bound (term_value rows point term)) entails.same_term holds) in
      IsWithin_trans lit.side value bound.bound lit.bound moved entails.as_strong

  -- a literal in a box whose bounds are true is true, and one that is false by them is not
  pub true_from_IsIn : (box : List Lit) (lit : Lit) → AreTrueAt rows point box → IsIn box lit → IsTrueAt rows point lit
  true_from_IsIn box lit all within =
      let found = Any-with_all (IsTrueAt rows point) (λ bound. Entails bound lit) box all within in
      true_from_Entails found.0 lit found.2 found.1

  pub not_true_from_IsFalseIn : (box : List Lit) (lit : Lit) → AreTrueAt rows point box → IsFalseIn box lit → IsTrueAt rows point lit → ⊥
  not_true_from_IsFalseIn box lit all is_false holds = not_both_true rows point lit holds (true_from_IsIn box (negation lit) all is_false)

-- what is in a box

pub IsIn-none : (lit : Lit) → IsIn [] lit → ⊥
IsIn-none lit within = Any-none (λ bound. Entails bound lit) within

pub IsIn-here : (lit : Lit) (box : List Lit) → IsIn (lit ∷ box) lit
IsIn-here lit box = Any-here (λ bound. Entails bound lit) lit box (Entails_refl lit)

pub IsIn-first : (bound : Lit) (box : List Lit) (lit : Lit) → Entails bound lit → IsIn (bound ∷ box) lit
IsIn-first bound box lit entails = Any-here (λ bound. Entails bound lit) bound box entails

pub IsIn-there : (bound : Lit) (box : List Lit) (lit : Lit) → IsIn box lit → IsIn (bound ∷ box) lit
IsIn-there bound box lit within = Any-there (λ bound. Entails bound lit) bound box within

pub IsIn-cons_cases : (bound : Lit) (box : List Lit) (lit : Lit) → IsIn (bound ∷ box) lit → Entails bound lit ⊎ IsIn box lit
IsIn-cons_cases bound box lit within = Any-cons_cases (λ bound. Entails bound lit) bound box within

pub IsIn-append_left : (box more : List Lit) (lit : Lit) → IsIn box lit → IsIn (box ++ more) lit
IsIn-append_left box more lit within = Any-append_left (λ bound. Entails bound lit) box more within

pub IsIn-append_right : (box more : List Lit) (lit : Lit) → IsIn more lit → IsIn (box ++ more) lit
IsIn-append_right box more lit within = Any-append_right (λ bound. Entails bound lit) box more within

pub IsIn-append_cases : (box more : List Lit) (lit : Lit) → IsIn (box ++ more) lit → IsIn box lit ⊎ IsIn more lit
IsIn-append_cases box more lit within = Any-append_cases (λ bound. Entails bound lit) box more within

-- a literal of the box is in the box
pub IsIn-contained : (box : List Lit) (lit : Lit) → Contains box lit → IsIn box lit
IsIn-contained box lit within = (within.0, lit, within.1, within.2, Entails_refl lit)

-- a box that has each bound of another says what that one says; so the order of bounds and what stands twice are free
pub IsIn-among : (box more : List Lit) (lit : Lit) → AreAmong box more → IsIn box lit → IsIn more lit
IsIn-among box more lit among within = Any-among (λ bound. Entails bound lit) box more among within

-- what a literal in the box says is in the box
pub IsIn-entailed : (box : List Lit) (lit weaker : Lit) → IsIn box lit → Entails lit weaker → IsIn box weaker
IsIn-entailed box lit weaker within entails =
    Any-weaker (λ bound. Entails bound lit) (λ bound. Entails bound weaker) (λ bound first. Entails_trans bound lit weaker first entails) box within

-- a box each of whose bounds is in another says no more than that one
pub IsIn-said : (box more : List Lit) (lit : Lit) → All (IsIn more) box → IsIn box lit → IsIn more lit
IsIn-said box more lit said within =
    let found = Any-with_all (IsIn more) (λ bound. Entails bound lit) box said within in
    IsIn-entailed more found.0 lit found.1 found.2

-- the ends of the ranges

module _ (rows : List (List Part)) (point : List ℤ) where
  true_from_range_bounds : (first : ℕ) (ranges : List (ℤ × ℤ)) → AreTrueAt rows point (range_bounds_from first ranges) → (k : ℕ) → k < length ranges → IsInRange (slice_index_or ranges k (pos 0, pos 0)) (number_at point (first + k))
  true_from_range_bounds first [] all k h = absurd (omega (arith, h))
  true_from_range_bounds first (range ∷ ranges) all zero h =
      let rest = range_bounds_from (first + 1) ranges in
      let low = All-head (IsTrueAt rows point) (low_bound first range) (high_bound first range ∷ rest) all in
      let high = All-head (IsTrueAt rows point) (high_bound first range) rest (All-tail (IsTrueAt rows point) (low_bound first range) (high_bound first range ∷ rest) all) in
      subst (λ var. IsInRange range (number_at point var)) (omega arith) (low, high)
  true_from_range_bounds first (range ∷ ranges) all (suc k) h =
      let rest = range_bounds_from (first + 1) ranges in
      let tail = All-tail (IsTrueAt rows point) (high_bound first range) rest (All-tail (IsTrueAt rows point) (low_bound first range) (high_bound first range ∷ rest) all) in
      subst (λ var. IsInRange (slice_index_or ranges k (pos 0, pos 0)) (number_at point var)) (omega arith) (true_from_range_bounds (first + 1) ranges tail k (omega (arith, h)))

  range_bounds_are_true : (first : ℕ) (ranges : List (ℤ × ℤ)) → ((k : ℕ) → k < length ranges → IsInRange (slice_index_or ranges k (pos 0, pos 0)) (number_at point (first + k))) → AreTrueAt rows point (range_bounds_from first ranges)
  range_bounds_are_true first [] within = All-nil (IsTrueAt rows point)
  range_bounds_are_true first (range ∷ ranges) within =
      let rest = range_bounds_from (first + 1) ranges in
      let here : IsInRange range (number_at point first) = subst (λ var. IsInRange range (number_at point var)) (omega arith) (within zero (omega arith)) in
      let later = range_bounds_are_true (first + 1) ranges (λ k h. subst (λ var. IsInRange (slice_index_or ranges k (pos 0, pos 0)) (number_at point var)) (omega arith) (within (suc k) (omega (arith, h)))) in
      All-cons (IsTrueAt rows point) (low_bound first range) (high_bound first range ∷ rest) here.0 (All-cons (IsTrueAt rows point) (high_bound first range) rest here.1 later)

  pub range_bounds-true : (ranges : List (ℤ × ℤ)) → AreTrueAt rows point (range_bounds ranges) ↔ IsInRanges ranges point
  range_bounds-true ranges = (
    λ all k h. subst (λ var. IsInRange (slice_index_or ranges k (pos 0, pos 0)) (number_at point var)) (omega arith) (true_from_range_bounds 0 ranges all k h),
    λ within. range_bounds_are_true 0 ranges (λ k h. subst (λ var. IsInRange (slice_index_or ranges k (pos 0, pos 0)) (number_at point var)) (omega arith) (within k h)),
  )

-- the bounds of the ranges say of a variable what the end of its range on that side says
in_range_bounds_from : (first k : ℕ) (ranges : List (ℤ × ℤ)) (side : Side) (bound : ℤ) → k < length ranges → IsWithin side bound (range_end side (slice_index_or ranges k (pos 0, pos 0))) → IsIn (range_bounds_from first ranges) (record { term = Var (first + k); side = side; bound = bound })
in_range_bounds_from first k [] side bound h within = absurd (omega (arith, h))
in_range_bounds_from first zero (range ∷ ranges) Ge bound h within =
    IsIn-first (low_bound first range) (high_bound first range ∷ range_bounds_from (first + 1) ranges) _ (record { same_term = ap Var (omega arith); same_side = refl; as_strong = within })
in_range_bounds_from first zero (range ∷ ranges) Le bound h within =
    IsIn-there (low_bound first range) (high_bound first range ∷ range_bounds_from (first + 1) ranges) _
    (IsIn-first (high_bound first range) (range_bounds_from (first + 1) ranges) _ (record { same_term = ap Var (omega arith); same_side = refl; as_strong = within }))
in_range_bounds_from first (suc k) (range ∷ ranges) side bound h within =
    let later = in_range_bounds_from (first + 1) k ranges side bound (omega (arith, h)) within in
    let there : IsIn (range_bounds_from (first + 1) ranges) (record { term = Var (first + suc k); side = side; bound = bound }) =
    subst (λ var. IsIn (range_bounds_from (first + 1) ranges) (record { term = Var var; side = side; bound = bound })) (omega arith) later in
    IsIn-there (low_bound first range) (high_bound first range ∷ range_bounds_from (first + 1) ranges) _ (IsIn-there (high_bound first range) (range_bounds_from (first + 1) ranges) _ there)

pub IsIn-range_bounds : (ranges : List (ℤ × ℤ)) (lit : Lit) (var : ℕ) → lit.term ≡ Var var → var < length ranges → IsWithin lit.side lit.bound (range_end lit.side (slice_index_or ranges var (pos 0, pos 0))) → IsIn (range_bounds ranges) lit
IsIn-range_bounds ranges lit var is h within =
    subst (λ term. IsIn (range_bounds ranges) (record { term = term; side = lit.side; bound = lit.bound })) (ap Var (omega arith) ∙ sym is) (in_range_bounds_from 0 var ranges lit.side lit.bound h within)

-- and nothing else
pub record IsFromRange (first : ℕ) (ranges : List (ℤ × ℤ)) (lit : Lit) : Type 0 where
  pub at : ℕ
  pub within : at < length ranges
  pub term : lit.term ≡ Var (first + at)
  pub as_strong : IsWithin lit.side lit.bound (range_end lit.side (slice_index_or ranges at (pos 0, pos 0)))

range_bounds_from_says : (first : ℕ) (ranges : List (ℤ × ℤ)) (lit : Lit) → IsIn (range_bounds_from first ranges) lit → IsFromRange first ranges lit
range_bounds_from_says first [] lit within = absurd (IsIn-none lit within)
range_bounds_from_says first (range ∷ ranges) lit within =
    let rest = range_bounds_from (first + 1) ranges in
    let of_end : (side : Side) (bound : ℤ) → bound ≡ range_end side range → Entails (record { term = Var first; side = side; bound = bound }) lit → IsFromRange first (range ∷ ranges) lit =
    λ side bound is e. record {
      at = 0;
      within = omega arith;
      term = sym e.same_term ∙ ap Var (omega arith);
      as_strong = subst (λ side. IsWithin lit.side lit.bound (range_end side range)) e.same_side (subst (IsWithin lit.side lit.bound) is e.as_strong);
    } in
    let of_rest : IsIn rest lit → IsFromRange first (range ∷ ranges) lit =
    λ there. let later = range_bounds_from_says (first + 1) ranges lit there in record {
      at = suc later.at;
      within = omega (arith, later.within);
      term = later.term ∙ ap Var (omega arith);
      as_strong = later.as_strong;
    } in
    ⊎_elim (of_end Ge range.0 refl)
    (λ there. ⊎_elim (of_end Le range.1 refl) of_rest (IsIn-cons_cases (high_bound first range) rest lit there))
    (IsIn-cons_cases (low_bound first range) (high_bound first range ∷ rest) lit within)

pub range_bounds_say : (ranges : List (ℤ × ℤ)) (lit : Lit) → IsIn (range_bounds ranges) lit → IsFromRange 0 ranges lit
range_bounds_say ranges lit within = range_bounds_from_says 0 ranges lit within
