-- Sums in normal form have the sum's value, and are rows.
use Rattle.std.proofs.Common.{false, ◌≡◌, ◌≢◌, ℕ, ◌+◌, ◌<◌, ◌≤◌, cond, nat_lt, ℤ, pos, ◌+ℤ◌, ◌*ℤ◌, List, [], ◌∷◌, ◌++◌, refl, ap, ◌∙◌, subst, arith, zero, suc, add-one, length, get_or, take, drop}
use Rattle.std.specs.Prelude.{◌==◌, AllPairs, fold, unsigned_abs}
use Rattle.std.specs.Ordering.{int_eq}
use Rattle.std.proofs.Math.IntN.{zero-*ℤ}
use Rattle.std.proofs.lemmas.Bool.Decides.{Decides-int_eq, nat_tests, not_from_Decides}
use Rattle.std.proofs.lemmas.Int.{ints}
use Rattle.std.proofs.lemmas.List.Kept.{AllPairs-cons}
use Rattle.std.proofs.lemmas.List.Sums.{fold_more}
use Rattle.mix_system.specs.declared.row.Part.{Part}
use Rattle.mix_system.specs.Row.{number_at, product_at, row_value}
use Rattle.mix_system.specs.System.{IsRow}
use Rattle.mix_system.proofs.ProductLaws.{add-*ℤ}
use Rattle.mix_system.proofs.SizeLaws.{unsigned_abs-add}
use Rattle.wrap_rows.specs.Normal.{unless_zero, merged, lesser_count, with_part, sizes, row_of}
use Rattle.wrap_rows.proofs.CaseLaws.{by_test, Each, All-from_Each}

-- ---- the value

value-unless_zero : (point : List ℤ) (part : Part) (parts : List Part) → row_value (unless_zero part parts) point ≡ product_at point part +ℤ row_value parts point
value-unless_zero point part parts =
    by_test (λ test. row_value (cond test parts (part ∷ parts)) point ≡ product_at point part +ℤ row_value parts point) (int_eq part.coeff (pos 0))
    (λ yes.
    let none : product_at point part ≡ pos 0 = ap (λ c. c *ℤ number_at point part.var) ((Decides-int_eq part.coeff (pos 0)).0 yes) ∙ zero-*ℤ (number_at point part.var) in
    omega (arith, ints))
    (λ no. refl)

value-merged : (point : List ℤ) (part : Part) (parts : List Part) → row_value (merged part parts) point ≡ product_at point part +ℤ row_value parts point
value-merged point part [] = value-unless_zero point part []
value-merged point part (next ∷ parts) =
    by_test (λ test. row_value (cond test (unless_zero (record { coeff = part.coeff +ℤ next.coeff; var = part.var }) parts) (unless_zero part (next ∷ parts))) point ≡ product_at point part +ℤ row_value (next ∷ parts) point) (part.var == next.var)
    (λ yes.
    let same : part.var ≡ next.var = grind (arith, nat_tests) in
    let at : number_at point part.var ≡ number_at point next.var = ap (number_at point) same in
    let spread = add-*ℤ part.coeff next.coeff (number_at point part.var) in
    let moved : next.coeff *ℤ number_at point part.var ≡ product_at point next = ap (λ v. next.coeff *ℤ v) at in
    let whole = value-unless_zero point (record { coeff = part.coeff +ℤ next.coeff; var = part.var }) parts in
    omega (arith, ints, whole, spread, moved))
    (λ no. value-unless_zero point part (next ∷ parts))

value-with_part : (point : List ℤ) (parts : List Part) (part : Part) → row_value (with_part parts part) point ≡ product_at point part +ℤ row_value parts point
value-with_part point [] part = value-unless_zero point part []
value-with_part point (next ∷ parts) part =
    by_test (λ test. row_value (cond test (next ∷ with_part parts part) (merged part (next ∷ parts))) point ≡ product_at point part +ℤ row_value (next ∷ parts) point) (nat_lt next.var part.var)
    (λ yes. omega (arith, ints, value-with_part point parts part))
    (λ no. value-merged point part (next ∷ parts))

value-fold : (point : List ℤ) (sum parts : List Part) → row_value (fold with_part sum parts) point ≡ row_value sum point +ℤ row_value parts point
value-fold point sum [] = omega (arith, ints)
value-fold point sum (part ∷ parts) = omega (arith, ints, value-fold point (with_part sum part) parts, value-with_part point sum part)

-- a sum in normal form has the value of the sum
pub row_of-value : (point : List ℤ) (parts : List Part) → row_value (row_of parts) point ≡ row_value parts point
unfolding row_of
row_of-value point parts = omega (arith, ints, value-fold point [] parts)

-- ---- the form

-- the variables rise from a least one on, and no part is zero
abbrev pub Rises : ℕ → ℕ → List Part → Type 0
Rises vars least [] = Unit {0}
Rises vars least (part ∷ parts) = (least ≤ part.var) × (part.var < vars) × (part.coeff ≢ pos 0) × Rises vars (part.var + 1) parts

Rises-from_less : (vars least less : ℕ) (parts : List Part) → less ≤ least → Rises vars least parts → Rises vars less parts
Rises-from_less vars least less [] below rises = tt
Rises-from_less vars least less (part ∷ parts) below rises = (omega (arith, rises.0), rises.1, rises.2, rises.3)

Rises-unless_zero : (vars least : ℕ) (part : Part) (parts : List Part) → least ≤ part.var → part.var < vars → Rises vars (part.var + 1) parts → Rises vars least (unless_zero part parts)
Rises-unless_zero vars least part parts low within rises =
    by_test (λ test. Rises vars least (cond test parts (part ∷ parts))) (int_eq part.coeff (pos 0))
    (λ yes. Rises-from_less vars (part.var + 1) least parts (omega arith) rises)
    (λ no. (low, within, not_from_Decides (int_eq part.coeff (pos 0)) (Decides-int_eq part.coeff (pos 0)) no, rises))

Rises-merged : (vars least : ℕ) (part : Part) (parts : List Part) → least ≤ part.var → part.var < vars → Rises vars part.var parts → Rises vars least (merged part parts)
Rises-merged vars least part [] low within rises = Rises-unless_zero vars least part [] low within tt
Rises-merged vars least part (next ∷ parts) low within rises =
    by_test (λ test. Rises vars least (cond test (unless_zero (record { coeff = part.coeff +ℤ next.coeff; var = part.var }) parts) (unless_zero part (next ∷ parts)))) (part.var == next.var)
    (λ yes.
    let same : next.var ≡ part.var = grind (arith, nat_tests) in
    let rest : Rises vars (part.var + 1) parts = subst (λ v. Rises vars (v + 1) parts) same rises.3 in
    Rises-unless_zero vars least (record { coeff = part.coeff +ℤ next.coeff; var = part.var }) parts low within rest)
    (λ no.
    let above : part.var + 1 ≤ next.var = grind (arith, nat_tests, rises.0) in
    Rises-unless_zero vars least part (next ∷ parts) low within (above, rises.1, rises.2, rises.3))

Rises-with_part : (vars least : ℕ) (parts : List Part) (part : Part) → least ≤ part.var → part.var < vars → Rises vars least parts → Rises vars least (with_part parts part)
Rises-with_part vars least [] part low within rises = Rises-unless_zero vars least part [] low within tt
Rises-with_part vars least (next ∷ parts) part low within rises =
    by_test (λ test. Rises vars least (cond test (next ∷ with_part parts part) (merged part (next ∷ parts)))) (nat_lt next.var part.var)
    (λ yes.
    let above : next.var + 1 ≤ part.var = grind (arith, nat_tests) in
    (rises.0, rises.1, rises.2, Rises-with_part vars (next.var + 1) parts part above within rises.3))
    (λ no.
    let above : part.var ≤ next.var = grind (arith, nat_tests) in
    Rises-merged vars least part (next ∷ parts) low within (above, rises.1, rises.2, rises.3))

Rises-fold : (vars : ℕ) (sum parts : List Part) → Each (λ part. part.var < vars) parts → Rises vars 0 sum → Rises vars 0 (fold with_part sum parts)
Rises-fold vars sum [] known rises = rises
Rises-fold vars sum (part ∷ parts) known rises = Rises-fold vars (with_part sum part) parts known.1 (Rises-with_part vars 0 sum part (omega arith) known.0 rises)

-- the parts of a rising row
above_all : (vars least : ℕ) (parts : List Part) → Rises vars least parts → Each (λ part. least ≤ part.var) parts
above_all vars least [] rises = tt
above_all vars least (part ∷ parts) rises = (rises.0, above_all vars least parts (Rises-from_less vars (part.var + 1) least parts (omega (arith, rises.0)) rises.3))

known_all : (vars least : ℕ) (parts : List Part) → Rises vars least parts → Each (λ part. part.var < vars) parts
known_all vars least [] rises = tt
known_all vars least (part ∷ parts) rises = (rises.1, known_all vars (part.var + 1) parts rises.3)

nonzero_all : (vars least : ℕ) (parts : List Part) → Rises vars least parts → Each (λ part. part.coeff ≢ pos 0) parts
nonzero_all vars least [] rises = tt
nonzero_all vars least (part ∷ parts) rises = (rises.2, nonzero_all vars (part.var + 1) parts rises.3)

rising_pairs : (vars least : ℕ) (parts : List Part) → Rises vars least parts → AllPairs (λ part later. part.var < later.var) parts
rising_pairs vars least [] rises = λ i j d before within. absurd (omega arith)
rising_pairs vars least (part ∷ parts) rises =
    AllPairs-cons (λ part later. part.var < later.var) part parts
    (λ k d within. omega (arith, All-from_Each (λ later. part.var + 1 ≤ later.var) parts (above_all vars (part.var + 1) parts rises.3) k d within))
    (rising_pairs vars (part.var + 1) parts rises.3)

IsRow-from_Rises : (vars : ℕ) (parts : List Part) → Rises vars 0 parts → IsRow vars parts
IsRow-from_Rises vars parts rises = record {
  known = All-from_Each (λ part. part.var < vars) parts (known_all vars 0 parts rises);
  rising = rising_pairs vars 0 parts rises;
  nonzero = All-from_Each (λ part. part.coeff ≢ pos 0) parts (nonzero_all vars 0 parts rises);
}

-- a sum over known variables is a row in normal form
pub row_of-IsRow : (vars : ℕ) (parts : List Part) → Each (λ part. part.var < vars) parts → IsRow vars (row_of parts)
unfolding row_of
row_of-IsRow vars parts known = IsRow-from_Rises vars (fold with_part [] parts) (Rises-fold vars [] parts known tt)

-- ---- the sizes of the coefficients

sizes-unless_zero : (part : Part) (parts : List Part) → sizes (unless_zero part parts) ≤ unsigned_abs part.coeff + sizes parts
sizes-unless_zero part parts =
    by_test (λ test. sizes (cond test parts (part ∷ parts)) ≤ unsigned_abs part.coeff + sizes parts) (int_eq part.coeff (pos 0))
    (λ zero. omega arith) (λ more. omega arith)

sizes-merged : (part : Part) (parts : List Part) → sizes (merged part parts) ≤ unsigned_abs part.coeff + sizes parts
sizes-merged part [] = sizes-unless_zero part []
sizes-merged part (next ∷ parts) =
    by_test (λ test. sizes (cond test (unless_zero (record { coeff = part.coeff +ℤ next.coeff; var = part.var }) parts) (unless_zero part (next ∷ parts))) ≤ unsigned_abs part.coeff + sizes (next ∷ parts)) (part.var == next.var)
    (λ same. omega (arith, sizes-unless_zero (record { coeff = part.coeff +ℤ next.coeff; var = part.var }) parts, unsigned_abs-add part.coeff next.coeff))
    (λ other. sizes-unless_zero part (next ∷ parts))

pub sizes-with_part : (parts : List Part) (part : Part) → sizes (with_part parts part) ≤ unsigned_abs part.coeff + sizes parts
sizes-with_part [] part = sizes-unless_zero part []
sizes-with_part (next ∷ parts) part =
    by_test (λ test. sizes (cond test (next ∷ with_part parts part) (merged part (next ∷ parts))) ≤ unsigned_abs part.coeff + sizes (next ∷ parts)) (nat_lt next.var part.var)
    (λ before. omega (arith, sizes-with_part parts part))
    (λ here. sizes-merged part (next ∷ parts))

pub sizes-more : (parts : List Part) (i : ℕ) (d : Part) → i < length parts → sizes (take (i + 1) parts) ≡ unsigned_abs (get_or parts i d).coeff + sizes (take i parts)
sizes-more parts i d within = rw add-one (sizes-suc parts i d within)
  where
    sizes-suc : (parts : List Part) (i : ℕ) (d : Part) → i < length parts → sizes (take (suc i) parts) ≡ unsigned_abs (get_or parts i d).coeff + sizes (take i parts)
    sizes-suc [] i d within = absurd (omega arith)
    sizes-suc (part ∷ parts) zero d within = refl
    sizes-suc (part ∷ parts) (suc i) d within = omega (arith, sizes-suc parts i d (omega arith))

pub sizes-take : (parts : List Part) (i : ℕ) → sizes (take i parts) ≤ sizes parts
sizes-take [] zero = omega arith
sizes-take [] (suc i) = omega arith
sizes-take (part ∷ parts) zero = omega arith
sizes-take (part ∷ parts) (suc i) = omega (arith, sizes-take parts i)

pub sizes-drop : (parts : List Part) (i : ℕ) → sizes (drop i parts) ≤ sizes parts
sizes-drop [] zero = omega arith
sizes-drop [] (suc i) = omega arith
sizes-drop (part ∷ parts) zero = omega arith
sizes-drop (part ∷ parts) (suc i) = omega (arith, sizes-drop parts i)

-- ---- as the code goes

pub row_of-none : row_of [] ≡ []
unfolding row_of
row_of-none = refl

pub with_part-split : (parts : List Part) (part : Part) → with_part parts part ≡ take (lesser_count part.var parts) parts ++ merged part (drop (lesser_count part.var parts) parts)
with_part-split [] part = refl
with_part-split (next ∷ parts) part =
    by_test (λ test. cond test (next ∷ with_part parts part) (merged part (next ∷ parts)) ≡ take (cond test (1 + lesser_count part.var parts) 0) (next ∷ parts) ++ merged part (drop (cond test (1 + lesser_count part.var parts) 0) (next ∷ parts))) (nat_lt next.var part.var)
    (λ before.
    let more : 1 + lesser_count part.var parts ≡ suc (lesser_count part.var parts) = omega arith in
    rw more (ap (λ rest. next ∷ rest) (with_part-split parts part)))
    (λ here. refl)

-- a part of a greater variable than all others comes last
pub with_part-behind : (parts : List Part) (part : Part) → Each (λ other. other.var < part.var) parts → with_part parts part ≡ parts ++ unless_zero part []
with_part-behind [] part less = refl
with_part-behind (next ∷ parts) part less =
    by_test (λ test. cond test (next ∷ with_part parts part) (merged part (next ∷ parts)) ≡ next ∷ (parts ++ unless_zero part [])) (nat_lt next.var part.var)
    (λ before. ap (λ rest. next ∷ rest) (with_part-behind parts part less.1))
    (λ here. absurd (no_less next.var part.var here less.0))
  where
    no_less : (a b : ℕ) → nat_lt a b ≡ false → a < b → ⊥
    no_less a b none less = grind (arith, nat_tests)

pub row_of-more : (parts : List Part) (i : ℕ) (d : Part) → i < length parts → row_of (take (i + 1) parts) ≡ with_part (row_of (take i parts)) (get_or parts i d)
unfolding row_of
row_of-more parts i d within = fold_more with_part [] parts i d within
