-- What is listed of a tableau, one equation or column after the other.
use Rattle.std.proofs.Common.{◌≡◌, ◌≢◌, ℕ, zero, suc, ◌+◌, ◌<◌, ◌≤◌, Bool, true, false, eqb, List, [], ◌∷◌, ◌++◌, length, get_or, map, Option, None, Some, ℤ, refl, sym, ap, ◌∙◌, subst, ⊎_elim, arith, length-append}
use Rattle.std.specs.Prelude.{not, filter, set, ◌||◌}
use Rattle.std.specs.List.{range_with_len}
use Rattle.std.proofs.lemmas.Bool.{cases_eq, cases_lt, false≢true}
use Rattle.std.proofs.lemmas.Bool.Decides.{nat_tests}
use Rattle.std.proofs.lemmas.List.{get_or-set_same, get_or-set_other, length-set, get_or_append_left, get_or_at, map-append}
use Rattle.std.proofs.lemmas.List.Elements.{filter-append, All-cons, All-nil}
use Rattle.mix_system.specs.Row.{number_at}
use Rattle.tableau_rows.specs.declared.equation.Equation.{Equation}
use Rattle.bounded_simplex.specs.Listing.{is_basic, outside_of, IsPlaceOf, ArePlaced}
use Rattle.bounded_simplex.specs.Point.{IsOutside}

-- one more place, that of no equation
pub none_more : (places more : List (Option ℕ)) (n : ℕ) → length places ≡ n → more ≡ places ++ None ∷ []
    → ((column : ℕ) (o : Option ℕ) → column < n → get_or places column o ≡ None) → (column : ℕ) (o : Option ℕ) → column < n + 1 → get_or more column o ≡ None
none_more places more n count added before column o within =
    ⊎_elim (λ (lt : column < n). ap (λ l. get_or l column o) added ∙ get_or_append_left places (None ∷ []) o column (omega (arith, lt, count)) ∙ before column o lt)
    (λ (le : n ≤ column).
    let same : column ≡ n = omega (arith, le, within) in
    ap (λ l. get_or l column o) added ∙ get_or_at places None [] o column (omega (arith, same, count))) (cases_lt column n)

abbrev there : Option ℕ → Bool
there None = false
there (Some at) = true

-- what is said of a place, by cases
abbrev PlaceIs : List Equation → ℕ → Option ℕ → Type 0
PlaceIs rows column None = is_basic rows column ≡ false
PlaceIs rows column (Some at) = (at < length rows) × ((d : Equation) → (get_or rows at d).basic ≡ column)

from_cases : (rows : List Equation) (column : ℕ) (place : Option ℕ) → PlaceIs rows column place → IsPlaceOf rows column place
from_cases rows column None is = (λ e. is, λ at e. absurd (false≢true (ap there e)))
from_cases rows column (Some k) is =
    (λ e. absurd (false≢true (sym (ap there e))), λ at e. let same : k ≡ at = cc in subst (λ n. (n < length rows) × ((d : Equation) → (get_or rows n d).basic ≡ column)) same is)

to_cases : (rows : List Equation) (column : ℕ) (place : Option ℕ) → IsPlaceOf rows column place → PlaceIs rows column place
to_cases rows column None is = is.0 refl
to_cases rows column (Some k) is = is.1 k refl

-- a column is basic in none of no equations
pub placed_none : (places : List (Option ℕ)) → ((column : ℕ) (o : Option ℕ) → column < length places → get_or places column o ≡ None) → ArePlaced [] places
placed_none places none = λ column o within. subst (IsPlaceOf [] column) (sym (none column o within)) (from_cases [] column None refl)

or_false : (a b : Bool) → a ≡ false → b ≡ false → (a || b) ≡ false
or_false a b x y = rw (x, y) refl

or_true : (a : Bool) → (a || true) ≡ true
or_true true = refl
or_true false = refl

basic_push : (rows : List Equation) (row : Equation) (column : ℕ) → is_basic (rows ++ row ∷ []) column ≡ (is_basic rows column || eqb row.basic column)
basic_push [] row column = or_none (eqb row.basic column)
  where
    or_none : (a : Bool) → (a || false) ≡ a
    or_none true = refl
    or_none false = refl
basic_push (x ∷ rows) row column = ap (λ b. eqb x.basic column || b) (basic_push rows row column) ∙ or_assoc (eqb x.basic column) (is_basic rows column) (eqb row.basic column)
  where
    or_assoc : (a b c : Bool) → (a || (b || c)) ≡ ((a || b) || c)
    or_assoc true b c = refl
    or_assoc false b c = refl

is_other : (a b : ℕ) → a ≢ b → eqb a b ≡ false
is_other a b h = grind (arith, nat_tests)

is_same : (a b : ℕ) → a ≡ b → eqb a b ≡ true
is_same a b h = grind (arith, nat_tests)

-- one more equation has its place
pub placed_more : (rows more : List Equation) (row : Equation) (places : List (Option ℕ)) → more ≡ rows ++ row ∷ [] → row.basic < length places
    → ArePlaced rows places → ArePlaced more (set places row.basic (Some (length rows)))
placed_more rows more row places added within before column o inside =
    ⊎_elim (λ (same : column ≡ row.basic).
    let read : get_or (set places row.basic (Some (length rows))) column o ≡ Some (length rows) = ap (λ c. get_or (set places row.basic (Some (length rows))) c o) same ∙ get_or-set_same places row.basic (Some (length rows)) o within in
    subst (IsPlaceOf more column) (sym read) (from_cases more column (Some (length rows)) (
      omega (arith, ap length added, length-append rows (row ∷ [])),
      λ d. ap (λ (l : List Equation). (get_or l (length rows) d).basic) added ∙ ap (λ (x : Equation). x.basic) (get_or_at rows row [] d (length rows) refl) ∙ sym same,
    )))
    (λ (other : column ≢ row.basic).
    let read : get_or (set places row.basic (Some (length rows))) column o ≡ get_or places column o = get_or-set_other places row.basic column (Some (length rows)) o other in
    let old = before column o (omega (arith, inside, length-set places row.basic (Some (length rows)))) in
    subst (IsPlaceOf more column) (sym read) (from_cases more column (get_or places column o) (still (get_or places column o) (λ e. other (sym e)) (to_cases rows column (get_or places column o) old)))) (cases_eq column row.basic)
  where
    still : (place : Option ℕ) → row.basic ≢ column → PlaceIs rows column place → PlaceIs more column place
    still None other none = ap (λ l. is_basic l column) added ∙ basic_push rows row column ∙ or_false (is_basic rows column) (eqb row.basic column) none (is_other row.basic column other)
    still (Some at) other here = (
      omega (arith, here.0, ap length added, length-append rows (row ∷ [])),
      λ d. ap (λ (l : List Equation). (get_or l at d).basic) added ∙ ap (λ (x : Equation). x.basic) (get_or_append_left rows (row ∷ []) d at here.0) ∙ here.1 d,
    )

pub basic_at : (rows : List Equation) (column at : ℕ) → at < length rows → ((d : Equation) → (get_or rows at d).basic ≡ column) → is_basic rows column ≡ true
basic_at [] column at within is = absurd (omega arith)
basic_at (row ∷ rows) column zero within is = ap (λ b. b || is_basic rows column) (is_same row.basic column (is row))
basic_at (row ∷ rows) column (suc at) within is = ap (λ b. eqb row.basic column || b) (basic_at rows column at (omega (arith, within)) is) ∙ or_true (eqb row.basic column)

pub outside_from : (rows : List Equation) (column : ℕ) → is_basic rows column ≡ false → IsOutside rows column
outside_from [] column none = All-nil (λ (equation : Equation). equation.basic ≢ column)
outside_from (row ∷ rows) column none =
    ⊎_elim (λ (same : row.basic ≡ column). absurd (false≢true (sym none ∙ ap (λ b. b || is_basic rows column) (is_same row.basic column same))))
    (λ (other : row.basic ≢ column).
    let rest : is_basic rows column ≡ false = sym (ap (λ b. b || is_basic rows column) (is_other row.basic column other)) ∙ none in
    All-cons (λ (equation : Equation). equation.basic ≢ column) row rows other (outside_from rows column rest)) (cases_eq row.basic column)

range_more : (a n : ℕ) → range_with_len a (suc n) ≡ range_with_len a n ++ (a + n) ∷ []
range_more a zero = let same : a ≡ a + 0 = omega arith in ap (λ m. m ∷ []) same
range_more a (suc n) =
    let shift : (a + 1) + n ≡ a + suc n = omega arith in
    ap (λ l. a ∷ l) (range_more (a + 1) n) ∙ ap (λ m. a ∷ (range_with_len (a + 1) n ++ m ∷ [])) shift

outside_more : (rows : List Equation) (n : ℕ) → outside_of rows (n + 1) ≡ outside_of rows n ++ filter (λ column. not (is_basic rows column)) (n ∷ [])
outside_more rows n =
    let next : n + 1 ≡ suc n = omega arith in
    let here : 0 + n ≡ n = omega arith in
    ap (outside_of rows) next ∙ ap (filter (λ column. not (is_basic rows column))) (range_more 0 n ∙ ap (λ m. range_with_len 0 n ++ m ∷ []) here)
    ∙ filter-append (λ column. not (is_basic rows column)) (range_with_len 0 n) (n ∷ [])

-- the value of one more column, which is outside the basis
pub rest_more : (rows : List Equation) (values rest more : List ℤ) (n : ℕ) (value : ℤ) → is_basic rows n ≡ false → value ≡ number_at values n → more ≡ rest ++ value ∷ []
    → rest ≡ map (number_at values) (outside_of rows n) → more ≡ map (number_at values) (outside_of rows (n + 1))
rest_more rows values rest more n value outside is added before =
    let kept : filter (λ column. not (is_basic rows column)) (n ∷ []) ≡ n ∷ [] = kept_if (is_basic rows n) outside in
    added ∙ ap (λ l. l ++ value ∷ []) before ∙ ap (λ v. map (number_at values) (outside_of rows n) ++ v ∷ []) is
    ∙ sym (ap (map (number_at values)) (outside_more rows n ∙ ap (λ l. outside_of rows n ++ l) kept) ∙ map-append (number_at values) (outside_of rows n) (n ∷ []))
  where
    kept_if : (b : Bool) → b ≡ false → filter (λ column. not b) (n ∷ []) ≡ n ∷ []
    kept_if b is = rw is refl

-- or that is basic
pub rest_same : (rows : List Equation) (values rest : List ℤ) (n : ℕ) → is_basic rows n ≡ true
    → rest ≡ map (number_at values) (outside_of rows n) → rest ≡ map (number_at values) (outside_of rows (n + 1))
rest_same rows values rest n basic before =
    let none : filter (λ column. not (is_basic rows column)) (n ∷ []) ≡ [] = none_if (is_basic rows n) basic in
    before ∙ sym (ap (map (number_at values)) (outside_more rows n ∙ ap (λ l. outside_of rows n ++ l) none ∙ append_nil (outside_of rows n)))
  where
    none_if : (b : Bool) → b ≡ true → filter (λ column. not b) (n ∷ []) ≡ []
    none_if b is = rw is refl

    append_nil : (xs : List ℕ) → xs ++ [] ≡ xs
    append_nil [] = refl
    append_nil (x ∷ xs) = ap (λ l. x ∷ l) (append_nil xs)
