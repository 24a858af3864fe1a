-- A property of each item of a list, one by one.
use Rattle.std.proofs.Common.{◌≡◌, ◌≢◌, ◌⊎◌, ℕ, suc, ◌+◌, ◌<◌, ◌≤◌, List, [], ◌∷◌, ◌++◌, length, get_or, Option, None, Some, ℤ, pos, refl, sym, ap, ◌∙◌, subst, inl, inr, ⊎_elim, arith}
use Rattle.std.specs.Prelude.{IfSome, IfNone}
use Rattle.std.proofs.lemmas.Bool.{cases_lt, cases_eq}
use Rattle.std.proofs.lemmas.List.{get_or_default, get_or_append_left, get_or_at}
use Rattle.std.proofs.lemmas.List.Elements.{All-cons, All-nil}
use Rattle.mix_system.specs.Row.{number_at}
use Rattle.tableau_rows.specs.declared.equation.Equation.{Equation}
use Rattle.bounded_simplex.specs.Point.{IsOutside}

-- what holds of the items before a place and of that one holds of those before the next
pub each_more : {X : Type 0} (P : X → Type 0) (xs : List X) (i : ℕ) (x : X) → i < length xs → ((k : ℕ) (d : X) → k < i → P (get_or xs k d)) → P (get_or xs i x)
    → (k : ℕ) (d : X) → k < i + 1 → P (get_or xs k d)
each_more P xs i x within before here k d below =
    ⊎_elim (λ (lt : k < i). before k d lt)
    (λ (le : i ≤ k). let same : k ≡ i = omega arith in rw same (subst P (get_or_default xs i x d within) here)) (cases_lt k i)

-- the equation of a basic column
pub record IsBasicOf (rows : List Equation) (column : ℕ) : Type 0 where
  pub row : Equation
  pub at : ℕ
  pub within : at < length rows
  pub is : row ≡ get_or rows at row
  pub same : row.basic ≡ column

-- a column is outside the basis, or that of an equation
pub outside_or_basic : (rows : List Equation) (column : ℕ) → IsOutside rows column ⊎ IsBasicOf rows column
outside_or_basic [] column = inl (All-nil (λ (equation : Equation). equation.basic ≢ column))
outside_or_basic (row ∷ rows) column =
    ⊎_elim (λ (same : row.basic ≡ column). inr (record { row = row; at = 0; within = omega arith; is = refl; same = same }))
    (λ (other : row.basic ≢ column).
    ⊎_elim (λ (out : IsOutside rows column). inl (All-cons (λ (equation : Equation). equation.basic ≢ column) row rows other out))
    (λ (of : IsBasicOf rows column). inr (record { row = of.row; at = suc of.at; within = omega (arith, of.within); is = of.is; same = of.same }))
    (outside_or_basic rows column)) (cases_eq row.basic column)

-- one more value, the low end of the next range
pub low_more : (ranges : List (ℤ × ℤ)) (values more : List ℤ) (var : ℕ) (low : ℤ) → length values ≡ var → more ≡ values ++ low ∷ [] → low ≡ (get_or ranges var (pos 0, pos 0)).0
    → ((k : ℕ) → k < var → number_at values k ≡ (get_or ranges k (pos 0, pos 0)).0) → (k : ℕ) → k < var + 1 → number_at more k ≡ (get_or ranges k (pos 0, pos 0)).0
low_more ranges values more var low count added here before k within =
    ⊎_elim (λ (lt : k < var). ap (λ vs. number_at vs k) added ∙ get_or_append_left values (low ∷ []) (pos 0) k (omega (arith, lt, count)) ∙ before k lt)
    (λ (le : var ≤ k).
    let same : k ≡ var = omega (arith, le, within) in
    ap (λ vs. number_at vs k) added ∙ get_or_at values low [] (pos 0) k (omega (arith, same, count)) ∙ here ∙ ap (λ n. (get_or ranges n (pos 0, pos 0)).0) (sym same)) (cases_lt k var)

-- the one of two, each of which may be missing
pub of_both_some : {X : Type 0} (P : X → Type 0) (found next result : Option X) → (result ≡ found) ⊎ (result ≡ next) → IfSome found P → IfSome next P → IfSome result P
of_both_some P found next result of one two =
    ⊎_elim (λ (e : result ≡ found). subst (λ o. IfSome o P) (sym e) one) (λ (e : result ≡ next). subst (λ o. IfSome o P) (sym e) two) of

pub of_both_none : {X A B C : Type 0} (found next result : Option X) → IfNone result ((found ≡ None) × (next ≡ None)) → IfNone found A → IfNone next B → (A → B → C) → IfNone result C
of_both_none {X} {A} {B} {C} found next None none one two both = both (subst (λ o. IfNone o A) none.0 one) (subst (λ o. IfNone o B) none.1 two)
of_both_none found next (Some x) none one two both = tt

pub some_also : {X : Type 0} (P Q : X → Type 0) (o : Option X) → IfSome o P → ((x : X) → P x → Q x) → IfSome o Q
some_also P Q None some also = tt
some_also P Q (Some x) some also = also x some

-- the same where the property of the next item is shown at each default
pub each_all : {X : Type 0} (P : X → Type 0) (xs : List X) (i : ℕ) → i < length xs → ((k : ℕ) (d : X) → k < i → P (get_or xs k d)) → ((d : X) → P (get_or xs i d))
    → (k : ℕ) (d : X) → k < i + 1 → P (get_or xs k d)
each_all P xs i within before here k d below = each_more P xs i d within before (here d) k d below
