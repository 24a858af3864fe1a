-- How deep halving goes: each half can be halved once less often than the whole, and the bounds in force no more often than the ranges.
use Rattle.std.proofs.Common.{◌≡◌, ◌≢◌, ℕ, zero, suc, ◌+◌, ◌-◌, ◌/◌, ◌^◌, ◌<◌, ◌≤◌, true, false, cond, eqb, List, [], ◌∷◌, ◌++◌, append_assoc, length, length-append, get_or, Some, ℤ, pos, negsuc, ◌+ℤ◌, ◌-ℤ◌, ◌≤ℤ◌, ◌<ℤ◌, refl, sym, ap, ◌∙◌, subst, ⊎_elim, arith}
use Rattle.std.specs.Prelude.{fold, int_lt, unsigned_abs, sum_by, ◌&&◌}
use Rattle.std.proofs.lemmas.Int.{ints}
use Rattle.std.proofs.lemmas.Int.Digits.{length-digits_of_step}
use Rattle.std.proofs.lemmas.Bool.{cases_Bool, cases_lt, cases_eq}
use Rattle.std.proofs.lemmas.Bool.Decides.{nat_tests}
use Rattle.std.proofs.lemmas.List.{get_or_at, append-nil}
use Rattle.std.proofs.lemmas.List.Sums.{fold-append, sum_by-cons}
use Rattle.mix_system.specs.declared.literal.Lit.{Lit}
use Rattle.mix_system.specs.declared.literal.Side.{Side}
use Rattle.mix_system.specs.declared.literal.Side.TheVariants.{Le, Ge}
use Rattle.mix_system.specs.declared.literal.Term.{Term}
use Rattle.mix_system.specs.declared.literal.Term.TheVariants.{Var}
use Rattle.mix_system.specs.Calm.{IsSmall}
use Rattle.mix_system.specs.System.{Exists}
use Rattle.mix_system.specs.Tally.{halvings, halving_depth}
use Rattle.mix_system.proofs.SizeLaws.{above_negated_size, below_size, unsigned_abs-le}
use Rattle.proof_term.specs.Refutes.{low_half, high_half}
use Rattle.bounded_simplex.specs.InForce.{BoundChanges, bounds_on, tighter, tightened, after_change, from_ranges, in_force}
use Rattle.bounded_simplex.specs.Combination.{AreSmall}
use Rattle.bounded_simplex.proofs.BoundListLaws.{from_bounds_on, bounds_on_itself}
use Rattle.bounded_simplex.proofs.EndLaws.{range_at, var_end}
use Rattle.integer_splits.specs.Boxes.{with_splits}
use Rattle.integer_splits.specs.Halving.{IsHalving, gap, width, digits, depth_from, depth}
use Rattle.integer_splits.specs.Stack.{HasRoom}

-- digits of numbers

digits_positive : (n : ℕ) → 0 < n → digits n ≡ digits (n / 2) + 1
digits_positive n positive = length-digits_of_step 2 n (omega arith) positive

-- by recursion on a bound
digits_up : (bound m n : ℕ) → n ≤ bound → m ≤ n → digits m ≤ digits n
digits_up zero m n small le = let is : m ≡ n = omega (arith, small, le) in subst (λ k. digits m ≤ digits k) is (omega arith)
digits_up (suc bound) m n small le =
    ⊎_elim (λ (positive : 0 < m).
    let rest = digits_up bound (m / 2) (n / 2) (omega (arith, small, le, positive)) (omega (arith, le)) in
    omega (arith, digits_positive m positive, digits_positive n (omega (arith, positive, le)), rest))
    (λ (none : m ≤ 0). let is : 0 ≡ m = omega (arith, none) in subst (λ k. digits k ≤ digits n) is (omega arith)) (cases_lt 0 m)

pub digits_le : (m n : ℕ) → m ≤ n → digits m ≤ digits n
digits_le m n le = digits_up n m n (omega arith) le

-- a number at most half as large has fewer digits
pub digits_half : (m n : ℕ) → 0 < n → m + m ≤ n → digits m + 1 ≤ digits n
digits_half m n positive half = omega (arith, digits_positive n positive, digits_le m (n / 2) (omega (arith, half)))

-- sums over the variables

pub depth_no_deeper : (old new : BoundChanges) (var : ℕ) (ranges : List (ℤ × ℤ)) → ((k : ℕ) → width new k ≤ width old k) → depth_from new var ranges ≤ depth_from old var ranges
depth_no_deeper old new var [] less = omega arith
depth_no_deeper old new var (range ∷ ranges) less =
    omega (arith, digits_le (width new var) (width old var) (less var), depth_no_deeper old new (var + 1) ranges less)

depth_falls_from : (old new : BoundChanges) (at var : ℕ) (ranges : List (ℤ × ℤ)) → ((k : ℕ) → width new k ≤ width old k) → digits (width new at) + 1 ≤ digits (width old at)
    → var ≤ at → at < var + length ranges → depth_from new var ranges + 1 ≤ depth_from old var ranges
depth_falls_from old new at var [] less falls from within = absurd (omega (arith, from, within))
depth_falls_from old new at var (range ∷ ranges) less falls from within =
    ⊎_elim (λ (here : var ≡ at).
    let first : digits (width new var) + 1 ≤ digits (width old var) = subst (λ k. digits (width new k) + 1 ≤ digits (width old k)) (sym here) falls in
    omega (arith, first, depth_no_deeper old new (var + 1) ranges less))
    (λ (later : var ≢ at).
    let above : var < at = ⊎_elim (λ (lt : var < at). lt) (λ (le : at ≤ var). absurd (later (omega (arith, le, from)))) (cases_lt var at) in
    omega (arith, digits_le (width new var) (width old var) (less var), depth_falls_from old new at (var + 1) ranges less falls (omega (arith, above)) (omega (arith, within)))) (cases_eq var at)

-- gaps

lt_true : (a b : ℤ) → a <ℤ b → int_lt a b ≡ true
lt_true a b h = grind (arith, ints)

lt_from : (a b : ℤ) → int_lt a b ≡ true → a <ℤ b
lt_from a b h = grind (arith, ints)

gap_of : (low high : ℤ) → low <ℤ high → gap (Some low) (Some high) ≡ unsigned_abs (high -ℤ low)
gap_of low high less = ap (λ t. cond t (unsigned_abs (high -ℤ low)) 0) (lt_true low high less)

gap_at_most : (low high : ℤ) → gap (Some low) (Some high) ≤ unsigned_abs (high -ℤ low)
gap_at_most low high = elim (int_lt low high) as (λ t. cond t (unsigned_abs (high -ℤ low)) 0 ≤ unsigned_abs (high -ℤ low)) [ true ↦ omega arith | false ↦ omega arith ]

doubled : (a b : ℤ) → pos 0 ≤ℤ a → (a +ℤ a) ≤ℤ b → unsigned_abs a + unsigned_abs a ≤ unsigned_abs b
doubled (pos a) (pos b) positive le = omega (arith, ints, le)
doubled (pos a) (negsuc b) positive le = absurd (omega (arith, ints, le))
doubled (negsuc a) b positive le = absurd (omega (arith, ints, positive))

positive_size : (a : ℤ) → pos 0 <ℤ a → 0 < unsigned_abs a
positive_size (pos a) positive = omega (arith, ints, positive)
positive_size (negsuc a) positive = absurd (omega (arith, ints, positive))

-- the bounds in force are no wider than the ranges
gap_in_range : (range : ℤ × ℤ) (low high : ℤ) → range.0 ≤ℤ low → high ≤ℤ range.1 → gap (Some low) (Some high) ≤ unsigned_abs (range.1 -ℤ range.0)
gap_in_range range low high below above =
    ⊎_elim (λ yes.
    let less = lt_from low high yes in
    let is : gap (Some low) (Some high) ≡ unsigned_abs (high -ℤ low) = ap (λ t. cond t (unsigned_abs (high -ℤ low)) 0) yes in
    omega (arith, is, sizes (high -ℤ low) (range.1 -ℤ range.0) (omega (arith, ints, less)) (omega (arith, ints, below, above))))
    (λ no. let is : gap (Some low) (Some high) ≡ 0 = ap (λ t. cond t (unsigned_abs (high -ℤ low)) 0) no in omega (arith, is)) (cases_Bool (int_lt low high))
  where
    sizes : (a b : ℤ) → pos 0 ≤ℤ a → a ≤ℤ b → unsigned_abs a ≤ unsigned_abs b
    sizes (pos a) (pos b) positive le = omega (arith, ints, le)
    sizes (pos a) (negsuc b) positive le = absurd (omega (arith, ints, le))
    sizes (negsuc a) b positive le = absurd (omega (arith, ints, positive))

width_in_range : (bounds : BoundChanges) (var : ℕ) → width bounds var ≤ unsigned_abs ((range_at bounds var).1 -ℤ (range_at bounds var).0)
width_in_range bounds var =
    let low = var_end bounds var Ge in
    let high = var_end bounds var Le in
    subst (λ w. w ≤ unsigned_abs ((range_at bounds var).1 -ℤ (range_at bounds var).0)) (λ i. gap (sym low.is i) (sym high.is i))
    (gap_in_range (range_at bounds var) low.bound high.bound low.as_tight high.as_tight)

depth_in_ranges : (bounds : BoundChanges) (front ranges : List (ℤ × ℤ)) → bounds.system.ranges ≡ front ++ ranges → depth_from bounds (length front) ranges ≤ sum_by halvings ranges
depth_in_ranges bounds front [] is = omega arith
depth_in_ranges bounds front (range ∷ ranges) is =
    let here : range_at bounds (length front) ≡ range = ap (λ rs. get_or rs (length front) (pos 0, pos 0)) is ∙ get_or_at front range ranges (pos 0, pos 0) (length front) refl in
    let first = subst (λ (r : ℤ × ℤ). width bounds (length front) ≤ unsigned_abs (r.1 -ℤ r.0)) here (width_in_range bounds (length front)) in
    let rest = depth_in_ranges bounds (front ++ range ∷ []) ranges (is ∙ sym (append_assoc front (range ∷ []) ranges)) in
    let next : length (front ++ range ∷ []) ≡ length front + 1 = omega (arith, length-append front (range ∷ [])) in
    let later = subst (λ n. depth_from bounds n ranges ≤ sum_by halvings ranges) next rest in
    omega (arith, sum_by-cons halvings range ranges, digits_le (width bounds (length front)) (unsigned_abs (range.1 -ℤ range.0)) first, later)

-- so there is room at the beginning
pub room_at_first : (base : BoundChanges) → AreSmall base → HasRoom base []
room_at_first base small = record {
  small = subst AreSmall same small;
  room = subst (λ b. 0 + depth b ≤ halving_depth base.system) same (omega (arith, depth_in_ranges base [] base.system.ranges refl));
}
  where
    same : base ≡ with_splits base []
    same = ap (λ cs. record base { changes = cs }) (sym (append-nil base.changes))

-- one more bound

eqb_not : (a b : ℕ) → a ≢ b → eqb a b ≡ false
eqb_not a b h = grind (arith, nat_tests)

eqb_is : (a : ℕ) → eqb a a ≡ true
eqb_is a = grind (arith, nat_tests)

between_small : (low at high : ℤ) → IsSmall low → IsSmall high → low ≤ℤ at → at ≤ℤ high → IsSmall at
between_small low at high low_small high_small lower upper =
    omega (arith, unsigned_abs-le (2 ^ 100 - 1) at (omega (arith, ints, above_negated_size low, low_small, lower)) (omega (arith, ints, below_size high, high_small, upper)))

module _ (base : BoundChanges) (splits : List Lit) (lit : Lit) where
  abbrev old : BoundChanges
  old = with_splits base splits

  abbrev new : BoundChanges
  new = with_splits base (splits ++ lit ∷ [])

  push_is : (term : Term) (side : Side) → in_force new term side ≡ after_change term side (in_force old term side) lit
  push_is term side =
      ap (fold (after_change term side) (from_ranges base.system.ranges term side)) (sym (append_assoc base.changes splits (lit ∷ [])))
      ∙ fold-append (after_change term side) (from_ranges base.system.ranges term side) (base.changes ++ splits) (lit ∷ [])

  push_other : (term : Term) (side : Side) → bounds_on term side lit ≡ false → in_force new term side ≡ in_force old term side
  push_other term side apart = push_is term side ∙ ap (λ t. cond t (tightened side (in_force old term side) lit.bound) (in_force old term side)) apart

  push_own : (term : Term) (side : Side) (end : ℤ) → bounds_on term side lit ≡ true → in_force old term side ≡ Some end → in_force new term side ≡ Some (tighter side end lit.bound)
  push_own term side end on is =
      push_is term side ∙ ap (λ t. cond t (tightened side (in_force old term side) lit.bound) (in_force old term side)) on ∙ ap (λ o. tightened side o lit.bound) is

  push_small : AreSmall old → ((term : Term) (side : Side) (bound : ℤ) → bounds_on term side lit ≡ true → in_force new term side ≡ Some bound → IsSmall bound) → AreSmall new
  push_small before own term side bound exists is =
      ⊎_elim (λ on. own term side bound on is) (λ apart. before term side bound exists (sym (push_other term side apart) ∙ is)) (cases_Bool (bounds_on term side lit))

-- the two halves

module _ (base : BoundChanges) (splits : List Lit) (var : ℕ) (at : ℤ) (is : IsHalving (with_splits base splits) var at) (room : HasRoom base splits) where
  abbrev low_lit : Lit
  low_lit = low_half var at

  abbrev high_lit : Lit
  high_lit = high_half var at

  abbrev now : BoundChanges
  now = with_splits base splits

  exists : Exists (length base.system.ranges) (length base.system.rows) (Var var)
  exists = is.within

  low_small : IsSmall is.low
  low_small = room.small (Var var) Ge is.low exists is.below

  high_small : IsSmall is.high
  high_small = room.small (Var var) Le is.high exists is.above

  pub at_small : IsSmall at
  at_small = between_small is.low at is.high low_small high_small is.lower (omega (arith, ints, is.upper))

  next_small : IsSmall (at +ℤ pos 1)
  next_small = between_small is.low (at +ℤ pos 1) is.high low_small high_small (omega (arith, ints, is.lower)) (omega (arith, ints, is.upper))

  -- the ends of the variable
  low_le : in_force (with_splits base (splits ++ low_lit ∷ [])) (Var var) Le ≡ Some at
  low_le =
      push_own base splits low_lit (Var var) Le is.high (bounds_on_itself low_lit) is.above ∙ ap Some (ap (λ t. cond t at is.high) (lt_true at is.high is.upper))

  low_ge : in_force (with_splits base (splits ++ low_lit ∷ [])) (Var var) Ge ≡ Some is.low
  low_ge = push_other base splits low_lit (Var var) Ge (ap (λ t. t && false) (eqb_is var)) ∙ is.below

  high_ge : in_force (with_splits base (splits ++ high_lit ∷ [])) (Var var) Ge ≡ Some (at +ℤ pos 1)
  high_ge =
      push_own base splits high_lit (Var var) Ge is.low (bounds_on_itself high_lit) is.below
      ∙ ap Some (ap (λ t. cond t (at +ℤ pos 1) is.low) (lt_true is.low (at +ℤ pos 1) (omega (arith, ints, is.lower))))

  high_le : in_force (with_splits base (splits ++ high_lit ∷ [])) (Var var) Le ≡ Some is.high
  high_le = push_other base splits high_lit (Var var) Le (ap (λ t. t && false) (eqb_is var)) ∙ is.above

  -- other variables keep their width
  low_other : (k : ℕ) → k ≢ var → width (with_splits base (splits ++ low_lit ∷ [])) k ≡ width now k
  low_other k other =
      let apart = eqb_not var k (λ same. other (sym same)) in
      λ i. gap (push_other base splits low_lit (Var k) Ge (ap (λ t. t && false) apart) i) (push_other base splits low_lit (Var k) Le (ap (λ t. t && true) apart) i)

  high_other : (k : ℕ) → k ≢ var → width (with_splits base (splits ++ high_lit ∷ [])) k ≡ width now k
  high_other k other =
      let apart = eqb_not var k (λ same. other (sym same)) in
      λ i. gap (push_other base splits high_lit (Var k) Ge (ap (λ t. t && true) apart) i) (push_other base splits high_lit (Var k) Le (ap (λ t. t && false) apart) i)

  -- the gaps as numbers
  whole_gap : width now var ≡ unsigned_abs (is.high -ℤ is.low)
  whole_gap = (λ i. gap (is.below i) (is.above i)) ∙ gap_of is.low is.high (omega (arith, ints, is.lower, is.upper))

  low_gap : width (with_splits base (splits ++ low_lit ∷ [])) var ≤ unsigned_abs (at -ℤ is.low)
  low_gap = subst (λ w. w ≤ unsigned_abs (at -ℤ is.low)) (λ i. gap (sym low_ge i) (sym low_le i)) (gap_at_most is.low at)

  high_gap : width (with_splits base (splits ++ high_lit ∷ [])) var ≤ unsigned_abs (is.high -ℤ (at +ℤ pos 1))
  high_gap = subst (λ w. w ≤ unsigned_abs (is.high -ℤ (at +ℤ pos 1))) (λ i. gap (sym high_ge i) (sym high_le i)) (gap_at_most (at +ℤ pos 1) is.high)

  low_half_gap : unsigned_abs (at -ℤ is.low) + unsigned_abs (at -ℤ is.low) ≤ unsigned_abs (is.high -ℤ is.low)
  low_half_gap = doubled (at -ℤ is.low) (is.high -ℤ is.low) (omega (arith, ints, is.lower)) is.low_half

  high_half_gap : unsigned_abs (is.high -ℤ (at +ℤ pos 1)) + unsigned_abs (is.high -ℤ (at +ℤ pos 1)) ≤ unsigned_abs (is.high -ℤ is.low)
  high_half_gap = doubled (is.high -ℤ (at +ℤ pos 1)) (is.high -ℤ is.low) (omega (arith, ints, is.upper)) (omega (arith, ints, is.high_half))

  positive_gap : 0 < width now var
  positive_gap = rw whole_gap (positive_size (is.high -ℤ is.low) (omega (arith, ints, is.lower, is.upper)))

  falls : (bounds : BoundChanges) → ((k : ℕ) → k ≢ var → width bounds k ≡ width now k) → width bounds var + width bounds var ≤ width now var → bounds.system ≡ base.system
      → depth_from bounds 0 base.system.ranges + 1 ≤ depth now
  falls bounds others half same =
      depth_falls_from now bounds var 0 base.system.ranges
      (λ k. ⊎_elim (λ (here : k ≡ var). subst (λ n. width bounds n ≤ width now n) (sym here) (omega (arith, half))) (λ (other : k ≢ var). omega (arith, others k other)) (cases_eq k var))
      (digits_half (width bounds var) (width now var) positive_gap half) (omega arith) (omega (arith, is.within))

  pub low_room : HasRoom base (splits ++ low_lit ∷ [])
  low_room = record {
    small = push_small base splits low_lit room.small (λ term side bound on end. own term side bound (from_bounds_on term side low_lit on) end);
    room = omega (arith, length-append splits (low_lit ∷ []), room.room, falls (with_splits base (splits ++ low_lit ∷ [])) low_other (omega (arith, low_gap, low_half_gap, whole_gap)) refl);
  }
    where
      own : (term : Term) (side : Side) (bound : ℤ) → (Var var ≡ term) × (Le ≡ side) → in_force (with_splits base (splits ++ low_lit ∷ [])) term side ≡ Some bound → IsSmall bound
      own term side bound (of_term, of_side) end =
          let both : Some at ≡ Some bound = sym low_le ∙ (λ i. in_force (with_splits base (splits ++ low_lit ∷ [])) (of_term i) (of_side i)) ∙ end in
          let same : at ≡ bound = cc in
          subst IsSmall same at_small

  pub high_room : HasRoom base (splits ++ high_lit ∷ [])
  high_room = record {
    small = push_small base splits high_lit room.small (λ term side bound on end. own term side bound (from_bounds_on term side high_lit on) end);
    room = omega (arith, length-append splits (high_lit ∷ []), room.room, falls (with_splits base (splits ++ high_lit ∷ [])) high_other (omega (arith, high_gap, high_half_gap, whole_gap)) refl);
  }
    where
      own : (term : Term) (side : Side) (bound : ℤ) → (Var var ≡ term) × (Ge ≡ side) → in_force (with_splits base (splits ++ high_lit ∷ [])) term side ≡ Some bound → IsSmall bound
      own term side bound (of_term, of_side) end =
          let both : Some (at +ℤ pos 1) ≡ Some bound = sym high_ge ∙ (λ i. in_force (with_splits base (splits ++ high_lit ∷ [])) (of_term i) (of_side i)) ∙ end in
          let same : at +ℤ pos 1 ≡ bound = cc in
          subst IsSmall same next_small
