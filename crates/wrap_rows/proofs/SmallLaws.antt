-- What pieces lay in common is small.
use Rattle.std.proofs.Common.{◌≡◌, ℕ, zero, suc, ◌+◌, ◌-◌, ◌^◌, ◌<◌, ◌≤◌, Bool, true, false, cond, ◌&&◌, nat_lt, ℤ, pos, negsuc, neg_ℤ, ◌+ℤ◌, ◌-ℤ◌, List, [], ◌∷◌, ◌++◌, map, refl, subst, arith}
use Rattle.std.specs.Prelude.{All, unsigned_abs}
use Rattle.std.specs.List.{list_all}
use Rattle.std.proofs.Math.Nat.{pow-le-pow_right}
use Rattle.std.proofs.lemmas.Bool.{false≢true}
use Rattle.std.proofs.lemmas.Bool.Decides.{nat_tests}
use Rattle.std.proofs.lemmas.Int.{ints}
use Rattle.mix_system.specs.declared.literal.Side.{Side}
use Rattle.mix_system.specs.declared.literal.Side.TheVariants.{Le, Ge}
use Rattle.mix_system.specs.declared.literal.Lit.{Lit}
use Rattle.mix_system.specs.declared.literal.Term.TheVariants.{Var}
use Rattle.mix_system.specs.declared.row.Part.{Part}
use Rattle.mix_system.specs.Lit.{negated_bound}
use Rattle.mix_system.proofs.SizeLaws.{unsigned_abs-add}
use Rattle.ir_meaning.specs.Whole.{IsWidth}
use Rattle.wrap_rows.specs.Normal.{sizes}
use Rattle.wrap_rows.specs.Layout.{Layout, at_least}
use Rattle.wrap_rows.specs.Blocks.{equals, from_operand, from_listed, closing, marks, sign_row, sign_clauses}
use Rattle.wrap_rows.specs.Small.{IsNarrow, IsShort, IsSmall}
use Rattle.wrap_rows.specs.Wrapping.{leaving, exceeding, listed}
use Rattle.wrap_rows.proofs.CaseLaws.{Each, All-from_Each}
use Rattle.wrap_rows.proofs.BlockLaws.{Each-append}

-- ---- numbers

pub power_small : (exponent : ℕ) → exponent ≤ 32 → 2 ^ exponent ≤ 2 ^ 32
power_small exponent below = pow-le-pow_right {n = 2} (omega arith) {i = exponent} {j = 32} below

pub half_small : (width : ℕ) → IsWidth width → 2 ^ (width - 1) ≤ 2 ^ 32
half_small width w = power_small (width - 1) (omega (arith, w.greatest))

pub negation_size : (z : ℤ) → unsigned_abs (neg_ℤ z) ≡ unsigned_abs z
negation_size (pos zero) = refl
negation_size (pos (suc n)) = refl
negation_size (negsuc n) = refl

-- a bound and that of the negation differ by 1
pub negated_size : (side : Side) (bound : ℤ) → unsigned_abs (negated_bound side bound) ≤ unsigned_abs bound + 1
negated_size Le bound = unsigned_abs-add bound (pos 1)
negated_size Ge bound =
    let same : bound +ℤ negsuc 0 ≡ bound -ℤ pos 1 = omega (arith, ints) in
    subst (λ z. unsigned_abs z ≤ unsigned_abs bound + 1) same (unsigned_abs-add bound (negsuc 0))

-- ---- ranges

pub number_narrow : (width : ℕ) → IsWidth width → IsNarrow (pos 0, pos (2 ^ width - 1))
number_narrow width w = omega (arith, power_small width w.greatest)

pub mark_narrow : IsNarrow (pos 0, pos 1)
mark_narrow = omega arith

-- ---- lists by a test of each

-- a row's coefficients are small
abbrev pub IsLight : List Part → Type 0
IsLight parts = sizes parts < 2 ^ 66

abbrev pub is_short : Lit → Bool
is_short lit = nat_lt (unsigned_abs lit.bound) (2 ^ 66)

both_pass : (a b : Bool) → (a && b) ≡ true → (a ≡ true) × (b ≡ true)
both_pass true b passes = (refl, passes)
both_pass false b passes = absurd (false≢true passes)

below_said : (n m : ℕ) → nat_lt n m ≡ true → n < m
below_said n m passes = grind (arith, nat_tests)

short_clause : (lits : List Lit) → list_all is_short lits ≡ true → Each IsShort lits
short_clause [] passes = tt
short_clause (lit ∷ lits) passes =
    let parts = both_pass (is_short lit) (list_all is_short lits) passes in
    (below_said (unsigned_abs lit.bound) (2 ^ 66) parts.0, short_clause lits parts.1)

-- clauses whose bounds are numerals
pub short_by_test : (clauses : List (List Lit)) → list_all (list_all is_short) clauses ≡ true → Each (Each IsShort) clauses
short_by_test [] passes = tt
short_by_test (lits ∷ clauses) passes =
    let parts = both_pass (list_all is_short lits) (list_all (list_all is_short) clauses) passes in
    (short_clause lits parts.0, short_by_test clauses parts.1)

pub Each-if : {X : Type 0} (P : X → Type 0) (test : Bool) (xs ys : List X) → Each P xs → Each P ys → Each P (cond test xs ys)
Each-if P true xs ys left right = left
Each-if P false xs ys left right = right

pub small-from : (layout : Layout) → Each IsLight layout.rows → Each (Each IsShort) layout.clauses → IsSmall layout
small-from layout rows clauses = record {
  rows = All-from_Each IsLight layout.rows rows;
  bounds = All-from_Each (All IsShort) layout.clauses (all_of layout.clauses clauses);
}
  where
    all_of : (clauses : List (List Lit)) → Each (Each IsShort) clauses → Each (All IsShort) clauses
    all_of [] each = tt
    all_of (lits ∷ others) each = (All-from_Each IsShort lits each.0, all_of others each.1)

pub equation-short : (row : ℕ) → Each (Each IsShort) (equals row (pos 0))
equation-short row = short_by_test (equals row (pos 0)) refl

-- ---- marks

-- a literal that may be listed: its negation is short too
abbrev pub IsListed : Lit → Type 0
IsListed lit = unsigned_abs lit.bound ≤ 2 ^ 33

operands-short : (mark : ℕ) (operands : List ℕ) → Each (Each IsShort) (map (from_operand mark) operands)
operands-short mark [] = tt
operands-short mark (operand ∷ operands) = ((omega arith, (omega arith, tt)), operands-short mark operands)

listed-short : (mark : ℕ) (listed : List Lit) → Each IsListed listed → Each (Each IsShort) (map (from_listed mark) listed)
listed-short mark [] each = tt
listed-short mark (lit ∷ listed) each = ((omega arith, (omega (arith, each.0, negated_size lit.side lit.bound), tt)), listed-short mark listed each.1)

closing-short : (operands : List ℕ) (listed : List Lit) → Each IsListed listed → Each IsShort (map (λ operand. at_least (Var operand) (pos 1)) operands ++ listed)
closing-short [] [] each = tt
closing-short [] (lit ∷ listed) each = (omega (arith, each.0), closing-short [] listed each.1)
closing-short (operand ∷ operands) listed each = (omega arith, closing-short operands listed each)

pub marks-short : (mark : ℕ) (operands : List ℕ) (listed : List Lit) → Each IsListed listed → Each (Each IsShort) (marks mark operands listed)
marks-short mark operands listed each =
    Each-append (Each IsShort) (map (from_operand mark) operands) (map (from_listed mark) listed ++ closing mark operands listed ∷ []) (operands-short mark operands)
    (Each-append (Each IsShort) (map (from_listed mark) listed) (closing mark operands listed ∷ []) (listed-short mark listed each)
    ((omega arith, closing-short operands listed each), tt))

-- ---- what flags of wrapping list

pub leaving-listed : (carry : ℕ) → Each IsListed (leaving carry)
leaving-listed carry = (omega arith, (omega arith, tt))

pub listed-of : (nuw nsw : Bool) (leaves exceeds : List Lit) → Each IsListed leaves → Each IsListed exceeds → Each IsListed (listed nuw nsw leaves exceeds)
listed-of nuw nsw leaves exceeds left right =
    Each-append IsListed (cond nuw leaves []) (cond nsw exceeds []) (Each-if IsListed nuw leaves [] left tt) (Each-if IsListed nsw exceeds [] right tt)

pub exceeding-listed : (width row : ℕ) → IsWidth width → Each IsListed (exceeding width row)
exceeding-listed width row w =
    let half = half_small width w in
    let size = negation_size (pos (2 ^ (width - 1))) in
    (omega (arith, half), (omega (arith, half, size, negated_size Ge (neg_ℤ (pos (2 ^ (width - 1))))), tt))

-- ---- signs

pub sign_row-light : (width number sign : ℕ) → IsWidth width → IsLight (sign_row width number sign)
sign_row-light width number sign w = omega (arith, half_small width w, negation_size (pos (2 ^ (width - 1))))

pub sign_clauses-short : (width row : ℕ) → IsWidth width → Each (Each IsShort) (sign_clauses width row)
sign_clauses-short width row w = ((omega arith, tt), ((omega (arith, half_small width w), tt), tt))
