-- How large a row's sum and its steps are, at a point whose numbers lie in the ranges.
use Rattle.std.proofs.Common.{ℕ, ◌+◌, ◌^◌, ◌<◌, ◌≤◌, List, [], ◌∷◌, ◌++◌, length, length-append, slice_index_or, refl, subst, ℤ, pos, negsuc, neg_ℤ, ◌+ℤ◌, ◌≤ℤ◌, FitsSigned, All, ⊎_elim, arith}
use Rattle.std.specs.Prelude.{unsigned_abs}
use Rattle.std.specs.Int.{w128}
use Rattle.std.proofs.lemmas.Int.{ints, unsigned_abs-mul, fits_signed_from_abs}
use Rattle.std.proofs.lemmas.Nat.{mul-le}
use Rattle.std.proofs.lemmas.List.{get_or_append_left, get_or_at}
use Rattle.std.proofs.lemmas.List.Elements.{All-head, All-tail, All-weaker, All-contains}
use Rattle.std.proofs.lemmas.List.Sums.{sum_by-cons, sum_by-append}
use Rattle.wx_num.specs.Excess.{exact}
use Rattle.wx_num.specs.declared.excess.Excess.{Excess}
use Rattle.mix_system.specs.declared.row.Part.{Part}
use Rattle.mix_system.specs.Row.{number_at, product_at, row_value, IsStepOf}
use Rattle.mix_system.specs.System.{System, IsRow, IsWellFormed}
use Rattle.mix_system.specs.Fits.{IsInRange, IsInRanges, IsRowExcess}
use Rattle.mix_system.specs.Calm.{IsCalm, range_size, part_size, row_size}

-- a number lies between its size and the negation of it
pub above_negated_size : (z : ℤ) → neg_ℤ (pos (unsigned_abs z)) ≤ℤ z
above_negated_size (pos n) = omega (arith, ints)
above_negated_size (negsuc n) = omega (arith, ints)

pub below_size : (z : ℤ) → z ≤ℤ pos (unsigned_abs z)
below_size (pos n) = omega (arith, ints)
below_size (negsuc n) = omega (arith, ints)

-- and a number between n and -n has at most that size
pub unsigned_abs-le : (n : ℕ) (z : ℤ) → neg_ℤ (pos n) ≤ℤ z → z ≤ℤ pos n → unsigned_abs z ≤ n
unsigned_abs-le n (pos m) low high = omega (arith, ints)
unsigned_abs-le n (negsuc m) low high = omega (arith, ints)

-- the size of a sum is at most the sum of the sizes
pub unsigned_abs-add : (a b : ℤ) → unsigned_abs (a +ℤ b) ≤ unsigned_abs a + unsigned_abs b
unsigned_abs-add a b =
    unsigned_abs-le _ (a +ℤ b) (omega (arith, ints, above_negated_size a, above_negated_size b)) (omega (arith, ints, below_size a, below_size b))

-- a number in a range is at most as large as one of its ends
pub unsigned_abs-in_range : (range : ℤ × ℤ) (number : ℤ) → IsInRange range number → unsigned_abs number ≤ range_size range
unsigned_abs-in_range range number h =
    unsigned_abs-le _ number (omega (arith, ints, h.0, above_negated_size range.0)) (omega (arith, ints, h.1, below_size range.1))

-- the part's number is in size at most its variable's range
abbrev IsSized : List (ℤ × ℤ) → List ℤ → Part → Type 0
IsSized ranges point part = unsigned_abs (number_at point part.var) ≤ range_size (slice_index_or ranges part.var (pos 0, pos 0))

IsSized-in_ranges : (ranges : List (ℤ × ℤ)) (point : List ℤ) (parts : List Part) → IsInRanges ranges point → IsRow (length ranges) parts → All (IsSized ranges point) parts
IsSized-in_ranges ranges point parts in_ranges row =
    All-weaker (λ part. part.var < length ranges) (IsSized ranges point) (λ part h. unsigned_abs-in_range _ _ (in_ranges part.var h)) parts row.known

product_size : (ranges : List (ℤ × ℤ)) (point : List ℤ) (part : Part) → IsSized ranges point part → unsigned_abs (product_at point part) ≤ part_size ranges part
product_size ranges point part sized = rw unsigned_abs-mul (mul-le _ _ _ _ (omega arith) sized)

value_size : (ranges : List (ℤ × ℤ)) (point : List ℤ) (parts : List Part) → All (IsSized ranges point) parts → unsigned_abs (row_value parts point) ≤ row_size ranges parts
value_size ranges point [] sized = omega arith
value_size ranges point (part ∷ parts) sized =
    let first = product_size ranges point part (All-head (IsSized ranges point) part parts sized) in
    let rest = value_size ranges point parts (All-tail (IsSized ranges point) part parts sized) in
    omega (arith, sum_by-cons (part_size ranges) part parts, unsigned_abs-add (product_at point part) (row_value parts point), first, rest)

All-front : {X : Type 0} (P : X → Type 0) (xs ys : List X) → All P (xs ++ ys) → All P xs
All-front P xs ys all k d h = subst P (get_or_append_left xs ys d k h) (all k d (omega (arith, length-append xs ys)))

All-middle : {X : Type 0} (P : X → Type 0) (xs : List X) (y : X) (ys : List X) → All P (xs ++ y ∷ ys) → P y
All-middle P xs y ys all =
    subst P (get_or_at xs y ys y (length xs) refl) (all (length xs) y (omega (arith, length-append xs (y ∷ ys))))

-- no step of a row's sum leaves i128 where the row's size is small
step_fits : (ranges : List (ℤ × ℤ)) (point : List ℤ) (parts : List Part) (step : Excess) → All (IsSized ranges point) parts → row_size ranges parts < 2 ^ 100 → IsStepOf parts point step → FitsSigned w128 (exact step.op step.x step.y)
step_fits ranges point parts step sized small s =
    let P = IsSized ranges point in
    let all = rw s.split at sized in
    let product = product_size ranges point s.part (All-middle P s.before s.part s.after all) in
    let before = value_size ranges point s.before (All-front P s.before (s.part ∷ s.after) all) in
    let added = unsigned_abs-add (row_value s.before point) (product_at point s.part) in
    let whole : row_size ranges s.before + part_size ranges s.part ≤ row_size ranges parts =
    rw s.split (omega (arith, sum_by-append (part_size ranges) s.before (s.part ∷ s.after), sum_by-cons (part_size ranges) s.part s.after)) in
    ⊎_elim (λ e. rw e (fits_signed_from_abs w128 _ (omega arith))) (λ e. rw e (fits_signed_from_abs w128 _ (omega arith))) s.numbers

-- so a point in the ranges of a calm system has no step that overflows
pub calm_has_no_excess : (s : System) (point : List ℤ) (excess : Excess) → IsWellFormed s → IsCalm s → IsInRanges s.ranges point → IsRowExcess s point excess → ⊥
calm_has_no_excess s point excess s_ok calm in_ranges e =
    let row = All-contains (IsRow (length s.ranges)) s.rows e.row s_ok.rows e.among in
    let small = All-contains (λ parts. row_size s.ranges parts < 2 ^ 100) s.rows e.row calm.sums e.among in
    e.overflows (step_fits s.ranges point e.row excess (IsSized-in_ranges s.ranges point e.row in_ranges row) small e.step)
