-- The piece of a parameter with a range.
use Rattle.std.proofs.Common.{◌≡◌, ◌≢◌, ℕ, ◌<◌, ◌≤◌, Bool, true, false, cond, not, ◌||◌, ◌&&◌, nat_lt, ℤ, pos, List, refl, sym, ap, ap₂, ◌∙◌, arith}
use Rattle.std.specs.Prelude.{Some, IfSome, nat_le, int_lt, int_le, unsigned_abs}
use Rattle.std.proofs.lemmas.Bool.Decides.{nat_tests}
use Rattle.std.proofs.lemmas.Int.{ints}
use Rattle.mix_system.specs.Row.{number_at}
use Rattle.ll_tree.specs.declared.func.Range.{Range}
use Rattle.ll_tree.specs.Formed.{IsRange}
use Rattle.ll_tree.specs.Formed as formed
use Rattle.ir_meaning.specs.Value.{poison_if}
use Rattle.wrap_rows.specs.Vars.{IsNumber}
use Rattle.wrap_rows.proofs.CaseLaws.{by_test}
use Rattle.wrap_rows.proofs.ReadLaws.{same_tests, le_yes, le_said, lt_yes, lt_said}
use Rattle.ir_pieces.specs.Pieces.{IsAt, CanFill, CanSay, meaning}
use Rattle.ir_pieces.specs.Choice.{range_piece, ranged_value}

le_not : (a b : ℕ) → nat_le a b ≡ not (nat_lt b a)
le_not a b = by_test (λ test. nat_le a b ≡ not test) (nat_lt b a) (λ is. isnt is) (λ fails. passes fails)
  where
    isnt : nat_lt b a ≡ true → nat_le a b ≡ false
    isnt is = grind (arith, nat_tests)

    passes : nat_lt b a ≡ false → nat_le a b ≡ true
    passes fails = grind (arith, nat_tests)

other_way : (a b : ℕ) → a ≢ b → nat_lt b a ≡ not (nat_lt a b)
other_way a b apart = by_test (λ test. nat_lt b a ≡ not test) (nat_lt a b) (λ is. isnt is) (λ fails. passes fails)
  where
    isnt : nat_lt a b ≡ true → nat_lt b a ≡ false
    isnt is = grind (arith, nat_tests)

    passes : nat_lt a b ≡ false → nat_lt b a ≡ true
    passes fails = grind (arith, nat_tests)

-- tests of numbers as whole ones
lt_same : (a b : ℕ) → int_lt (pos a) (pos b) ≡ nat_lt a b
lt_same a b =
    same_tests (int_lt (pos a) (pos b)) (nat_lt a b)
    (λ is. let below : a < b = omega (arith, ints, lt_said (pos a) (pos b) is) in is_below below)
    (λ is. lt_yes (pos a) (pos b) (omega (arith, ints, said is)))
  where
    is_below : a < b → nat_lt a b ≡ true
    is_below below = grind (arith, nat_tests)

    said : nat_lt a b ≡ true → a < b
    said is = grind (arith, nat_tests)

le_same : (a b : ℕ) → int_le (pos a) (pos b) ≡ nat_le a b
le_same a b =
    same_tests (int_le (pos a) (pos b)) (nat_le a b)
    (λ is. let below : a ≤ b = omega (arith, ints, le_said (pos a) (pos b) is) in is_below below)
    (λ is. le_yes (pos a) (pos b) (omega (arith, ints, said is)))
  where
    is_below : a ≤ b → nat_le a b ≡ true
    is_below below = grind (arith, nat_tests)

    said : nat_le a b ≡ true → a ≤ b
    said is = grind (arith, nat_tests)

-- the order of the bounds, the number below the low one, the number not below the high one
abbrev outside : (rising below above : Bool) → Bool
outside rising below above = cond rising (below || above) (below && above)

abbrev inside : (falling from below : Bool) → Bool
inside falling from below = cond falling (from || below) (from && below)

turned : (rising below above : Bool) → outside rising below above ≡ not (inside (not rising) (not below) (not above))
turned true true above = refl
turned true false true = refl
turned true false false = refl
turned false true true = refl
turned false true false = refl
turned false false above = refl

outside_is : (lo hi n : ℕ) → lo ≢ hi → outside (nat_lt lo hi) (int_lt (pos n) (pos lo)) (int_le (pos hi) (pos n)) ≡ not (inside (nat_lt hi lo) (nat_le lo n) (nat_lt n hi))
outside_is lo hi n apart =
    ap₂ (λ below above. outside (nat_lt lo hi) below above) (lt_same n lo) (le_same hi n ∙ le_not hi n)
    ∙ turned_at (nat_lt lo hi) (nat_lt n lo) (nat_lt n hi)
    ∙ ap (λ falling. not (inside falling (not (nat_lt n lo)) (nat_lt n hi))) (sym (other_way lo hi apart))
    ∙ ap (λ from. not (inside (nat_lt hi lo) from (nat_lt n hi))) (sym (le_not lo n))
  where
    turned_at : (rising below under : Bool) → outside rising below (not under) ≡ not (inside (not rising) (not below) under)
    turned_at rising below true = turned rising below false
    turned_at rising below false = turned rising below true

pub range_stands : (range : Range) (width number first : ℕ) → formed.IsWidth width → IsRange width range → number < first → IfSome (range_piece (Some range) width number) (λ piece. IsAt piece first)
range_stands range width number first wide is before =
    record { width = record { least = wide.0; greatest = wide.1 }; low = is.0; high = is.1; number = before }

pub range_takes : (range : Range) (width number : ℕ) (point : List ℤ) → IsNumber width (number_at point number) → IfSome (range_piece (Some range) width number) (λ piece. CanFill piece point × CanSay piece point)
range_takes range width number point is = (is, is)

pub range_means : (range : Range) (width number n : ℕ) (point : List ℤ) → IsRange width range → number_at point number ≡ pos n → IfSome (range_piece (Some range) width number) (λ piece. meaning piece point ≡ ranged_value range n)
range_means range width number n point is at =
    ap (λ z. poison_if (outside (nat_lt range.lo range.hi) (int_lt z (pos range.lo)) (int_le (pos range.hi) z)) (unsigned_abs z)) at
    ∙ ap (λ test. poison_if test n) (outside_is range.lo range.hi n is.2)
