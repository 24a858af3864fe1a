-- Clauses in normal form are true where the clause is, and hold no literal twice.
use Rattle.std.proofs.Common.{◌≡◌, ◌≢◌, ℕ, ◌+◌, ◌<◌, Bool, true, false, cond, ◌&&◌, ◌||◌, ◌⊎◌, List, [], ◌∷◌, ◌++◌, length, get_or, take, refl, ap, sym, ◌∙◌, subst, inl, inr, arith}
use Rattle.std.specs.Prelude.{All, AllPairs, fold}
use Rattle.std.specs.List.{list_any}
use Rattle.std.proofs.lemmas.Bool.{false≢true}
use Rattle.std.proofs.lemmas.Bool.Decides.{Decides-int_eq, Decides-eqb}
use Rattle.std.proofs.lemmas.List.Elements.{All-append}
use Rattle.std.proofs.lemmas.List.Sums.{fold_more}
use Rattle.std.proofs.lemmas.List.Quantifiers.{all_pairs_push}
use Rattle.mix_system.specs.declared.literal.Term.{Term}
use Rattle.mix_system.specs.declared.literal.Term.TheVariants.{Var, Row}
use Rattle.mix_system.specs.declared.literal.Side.{Side}
use Rattle.mix_system.specs.declared.literal.Side.TheVariants.{Le, Ge}
use Rattle.mix_system.specs.declared.literal.Lit.{Lit}
use Rattle.mix_system.specs.System.{IsInner, Exists, IsClause}
use Rattle.wrap_rows.specs.Normal.{is_same_term, is_same_side, is_same_lit, with_lit, clause_of}
use Rattle.wrap_rows.proofs.CaseLaws.{by_test, Each, Some_of, All-from_Each}

-- ---- the test for the same literal

both : (a b : Bool) → (a && b) ≡ true → (a ≡ true) × (b ≡ true)
both true b is = (refl, is)
both false b is = absurd (false≢true is)

same_term : (a b : Term) → is_same_term a b ≡ true → a ≡ b
same_term (Var a) (Var b) is = ap Var ((Decides-eqb a b).0 is)
same_term (Var a) (Row b) is = absurd (false≢true is)
same_term (Row a) (Var b) is = absurd (false≢true is)
same_term (Row a) (Row b) is = ap Row ((Decides-eqb a b).0 is)

same_side : (a b : Side) → is_same_side a b ≡ true → a ≡ b
same_side Le Le is = refl
same_side Le Ge is = absurd (false≢true is)
same_side Ge Le is = absurd (false≢true is)
same_side Ge Ge is = refl

same_lit : (a b : Lit) → is_same_lit a b ≡ true → a ≡ b
same_lit a b is =
    let parts = both (is_same_term a.term b.term) _ is in
    let rest = both (is_same_side a.side b.side) _ parts.1 in
    let term = same_term a.term b.term parts.0 in
    let side = same_side a.side b.side rest.0 in
    let bound = (Decides-int_eq a.bound b.bound).0 rest.1 in
    ap (λ t. let l : Lit = record { term = t; side = a.side; bound = a.bound } in l) term
    ∙ ap (λ s. let l : Lit = record { term = b.term; side = s; bound = a.bound } in l) side
    ∙ ap (λ c. let l : Lit = record { term = b.term; side = b.side; bound = c } in l) bound

itself_term : (a : Term) → is_same_term a a ≡ true
itself_term (Var a) = (Decides-eqb a a).1 refl
itself_term (Row a) = (Decides-eqb a a).1 refl

itself_side : (a : Side) → is_same_side a a ≡ true
itself_side Le = refl
itself_side Ge = refl

itself : (a : Lit) → is_same_lit a a ≡ true
itself a = rw (itself_term a.term, itself_side a.side) ((Decides-int_eq a.bound a.bound).1 refl)

-- ---- true where the clause is

Some_of-append_left : {X : Type 0} (P : X → Type 0) (xs ys : List X) → Some_of P xs → Some_of P (xs ++ ys)
Some_of-append_left P [] ys some = elim some [ ]
Some_of-append_left P (x ∷ xs) ys some = elim some [ inl here ↦ inl here | inr later ↦ inr (Some_of-append_left P xs ys later) ]

Some_of-append_right : {X : Type 0} (P : X → Type 0) (xs ys : List X) → Some_of P ys → Some_of P (xs ++ ys)
Some_of-append_right P [] ys some = some
Some_of-append_right P (x ∷ xs) ys some = inr (Some_of-append_right P xs ys some)

Some_of-append_cases : {X : Type 0} (P : X → Type 0) (xs ys : List X) → Some_of P (xs ++ ys) → Some_of P xs ⊎ Some_of P ys
Some_of-append_cases P [] ys some = inr some
Some_of-append_cases P (x ∷ xs) ys some =
    elim some [
      | inl here ↦ inl (inl here)
      | inr later ↦ elim (Some_of-append_cases P xs ys later) [ inl left ↦ inl (inr left) | inr right ↦ inr right ]
    ]

among : (P : Lit → Type 0) (lit : Lit) (lits : List Lit) → list_any (is_same_lit lit) lits ≡ true → P lit → Some_of P lits
among P lit [] is here = absurd (false≢true is)
among P lit (other ∷ lits) is here =
    by_test (λ test. (test || list_any (is_same_lit lit) lits) ≡ true → (is_same_lit lit other ≡ test) → Some_of P (other ∷ lits)) (is_same_lit lit other)
    (λ yes _ _. inl (subst P (same_lit lit other yes) here))
    (λ no later _. inr (among P lit lits later here))
    is refl

with_lit-true : (P : Lit → Type 0) (lits : List Lit) (lit : Lit) → Some_of P lits ⊎ P lit → Some_of P (with_lit lits lit)
with_lit-true P lits lit some =
    by_test (λ test. Some_of P (cond test lits (lits ++ lit ∷ []))) (list_any (is_same_lit lit) lits)
    (λ yes. elim some [ inl there ↦ there | inr here ↦ among P lit lits yes here ])
    (λ no. elim some [ inl there ↦ Some_of-append_left P lits (lit ∷ []) there | inr here ↦ Some_of-append_right P lits (lit ∷ []) (inl here) ])

with_lit-said : (P : Lit → Type 0) (lits : List Lit) (lit : Lit) → Some_of P (with_lit lits lit) → Some_of P lits ⊎ P lit
with_lit-said P lits lit =
    by_test (λ test. Some_of P (cond test lits (lits ++ lit ∷ [])) → Some_of P lits ⊎ P lit) (list_any (is_same_lit lit) lits)
    (λ yes some. inl some)
    (λ no some. elim (Some_of-append_cases P lits (lit ∷ []) some) [ inl there ↦ inl there | inr last ↦ elim last [ inl here ↦ inr here | inr none ↦ elim none [ ] ] ])

fold-true : (P : Lit → Type 0) (lits more : List Lit) → Some_of P lits ⊎ Some_of P more → Some_of P (fold with_lit lits more)
fold-true P lits [] some = elim some [ inl there ↦ there | inr none ↦ elim none [ ] ]
fold-true P lits (lit ∷ more) some =
    fold-true P (with_lit lits lit) more
    (elim some as (λ _. Some_of P (with_lit lits lit) ⊎ Some_of P more) [
      | inl there ↦ inl (with_lit-true P lits lit (inl there))
      | inr later ↦ elim later [ inl here ↦ inl (with_lit-true P lits lit (inr here)) | inr rest ↦ inr rest ]
    ])

fold-said : (P : Lit → Type 0) (lits more : List Lit) → Some_of P (fold with_lit lits more) → Some_of P lits ⊎ Some_of P more
fold-said P lits [] some = inl some
fold-said P lits (lit ∷ more) some =
    elim (fold-said P (with_lit lits lit) more some) as (λ _. Some_of P lits ⊎ Some_of P (lit ∷ more)) [
      | inl there ↦ elim (with_lit-said P lits lit there) [ inl left ↦ inl left | inr here ↦ inr (inl here) ]
      | inr rest ↦ inr (inr rest)
    ]

pub clause_of-true : (P : Lit → Type 0) (lits : List Lit) → Some_of P lits → Some_of P (clause_of lits)
unfolding clause_of
clause_of-true P lits some = fold-true P [] lits (inr some)

pub clause_of-said : (P : Lit → Type 0) (lits : List Lit) → Some_of P (clause_of lits) → Some_of P lits
unfolding clause_of
clause_of-said P lits some = elim (fold-said P [] lits some) [ inl none ↦ elim none [ ] | inr there ↦ there ]

-- ---- what holds of each literal, and that none stands twice

pub with_lit-each : (P : Lit → Type 0) (lits : List Lit) (lit : Lit) → All P lits → P lit → All P (with_lit lits lit)
with_lit-each P lits lit each here =
    by_test (λ test. All P (cond test lits (lits ++ lit ∷ []))) (list_any (is_same_lit lit) lits)
    (λ yes. each)
    (λ no. All-append P lits (lit ∷ []) each (All-from_Each P (lit ∷ []) (here, tt)))

apart : (lit : Lit) (lits : List Lit) → list_any (is_same_lit lit) lits ≡ false → Each (λ other. other ≢ lit) lits
apart lit [] none = tt
apart lit (other ∷ lits) none =
    by_test (λ test. (test || list_any (is_same_lit lit) lits) ≡ false → (is_same_lit lit other ≡ test) → Each (λ other. other ≢ lit) (other ∷ lits)) (is_same_lit lit other)
    (λ yes is _. absurd (false≢true (sym is)))
    (λ no rest here. (λ same. false≢true (sym here ∙ ap (is_same_lit lit) same ∙ itself lit), apart lit lits rest))
    none refl

pub with_lit-distinct : (lits : List Lit) (lit : Lit) → AllPairs (λ lit later. lit ≢ later) lits → AllPairs (λ lit later. lit ≢ later) (with_lit lits lit)
with_lit-distinct lits lit distinct =
    by_test (λ test. AllPairs (λ lit later. lit ≢ later) (cond test lits (lits ++ lit ∷ []))) (list_any (is_same_lit lit) lits)
    (λ yes. distinct)
    (λ no. all_pairs_push (λ lit later. lit ≢ later) lits lit distinct (All-from_Each (λ other. other ≢ lit) lits (apart lit lits no)))

fold-each : (P : Lit → Type 0) (lits more : List Lit) → All P lits → Each P more → All P (fold with_lit lits more)
fold-each P lits [] each rest = each
fold-each P lits (lit ∷ more) each rest = fold-each P (with_lit lits lit) more (with_lit-each P lits lit each rest.0) rest.1

fold-distinct : (lits more : List Lit) → AllPairs (λ lit later. lit ≢ later) lits → AllPairs (λ lit later. lit ≢ later) (fold with_lit lits more)
fold-distinct lits [] distinct = distinct
fold-distinct lits (lit ∷ more) distinct = fold-distinct (with_lit lits lit) more (with_lit-distinct lits lit distinct)

-- a clause in normal form over known terms is a clause of a system
pub clause_of-IsClause : (vars rows : ℕ) (lits : List Lit) → Each (λ lit. Exists vars rows lit.term) lits → Each (λ lit. IsInner lit.bound) lits → IsClause vars rows (clause_of lits)
unfolding clause_of
clause_of-IsClause vars rows lits known inner = record {
  known = fold-each (λ lit. Exists vars rows lit.term) [] lits (λ k d within. absurd (omega arith)) known;
  distinct = fold-distinct [] lits (λ i j d before within. absurd (omega arith));
  inner = fold-each (λ lit. IsInner lit.bound) [] lits (λ k d within. absurd (omega arith)) inner;
}

pub clause_of-none : clause_of [] ≡ []
unfolding clause_of
clause_of-none = refl

pub clause_of-more : (lits : List Lit) (i : ℕ) (d : Lit) → i < length lits → clause_of (take (i + 1) lits) ≡ with_lit (clause_of (take i lits)) (get_or lits i d)
unfolding clause_of
clause_of-more lits i d within = fold_more with_lit [] lits i d within
