-- Where a word stands in a table: what `position` gives, in the words of the contract.
use Rattle.std.proofs.Common.{◌≡◌, ◌<◌, ℕ, zero, suc, ◌≤◌, Bool, true, false, not, cond, List, [], ◌∷◌, length, get_or, ◌+◌, Option, Some, None, IfSome, IfNone, Contains, slice_get, refl, sym, ap, ◌∙◌, arith}
use Rattle.std.specs.List.{position, position_or_len, prefix_len, list_any}
use Rattle.std.specs.Str.{bytes_eq}
use Rattle.std.specs.Borrow.{Bor}
use Rattle.std.proofs.lemmas.Slice.Eq.{bytes_eq-Decides}
use Rattle.std.proofs.lemmas.List.Quantifiers.{position-Some}
use Rattle.std.proofs.lemmas.List.Sums.{fails_before_first}
use Rattle.std.proofs.lemmas.Bool.{and_parts, or_right, ltb-false, false≢true}
use Rattle.std.proofs.lemmas.Option.{slice_get-get_or, slice_get_within, get_or_from_slice_get}
use Rattle.std.proofs.lemmas.List.{length-map}
use Rattle.op_table.specs.Rows.{rows_of, IsFirstAt, are_distinct}

-- the test that a row is the word
abbrev pub is_word : List ℕ → List ℕ → Bool
is_word word row = bytes_eq row word

-- a search goes over the words behind the references
same_prefix : (word : List ℕ) (rows : List (Bor (List ℕ))) → prefix_len (λ row. not (bytes_eq row.now word)) rows ≡ prefix_len (λ row. not (is_word word row)) (rows_of rows)
same_prefix word [] = refl
same_prefix word (row ∷ rows) = ap (λ n. cond (not (bytes_eq row.now word)) (1 + n) 0) (same_prefix word rows)

pub position-rows_of : (word : List ℕ) (rows : List (Bor (List ℕ))) → position (λ row. bytes_eq row.now word) rows ≡ position (is_word word) (rows_of rows)
position-rows_of word rows = rw (same_prefix word rows, length-map rows (λ (row : Bor (List ℕ)). row.now)) refl

none_past : (b : Bool) (x : ℕ) → None ≡ cond b (Some x) None → b ≡ false
none_past true x e = absurd cc
none_past false x e = refl

module _ (word : List ℕ) (rows : List (List ℕ)) where
  pub finds_first : (found : Option ℕ) → found ≡ position (is_word word) rows → IfSome found (IsFirstAt rows word)
  finds_first None e = tt
  finds_first (Some at) e =
      let p = position-Some (is_word word) rows at word (sym e) in
      record {
        there = slice_get-get_or rows at word p.0 ∙ ap (λ (row : List ℕ). Some row) ((bytes_eq-Decides (get_or rows at word) word).0 p.1);
        not_before = λ k before same. false≢true (sym (p.2 k before) ∙ (bytes_eq-Decides (get_or rows k word) word).1 (get_or_from_slice_get rows k word word same));
      }

  pub finds_within : (found : Option ℕ) (n : ℕ) → found ≡ position (is_word word) rows → length rows ≡ n → IfSome found (λ at. at < n)
  finds_within None n e long = tt
  finds_within (Some at) n e long = omega (arith, long, (position-Some (is_word word) rows at word (sym e)).0)

  pub finds_all : (found : Option ℕ) → found ≡ position (is_word word) rows → IfNone found (Contains rows word → ⊥)
  finds_all None e =
      let past : length rows ≤ position_or_len (is_word word) rows = ltb-false _ _ (none_past _ _ e) in
      λ place. false≢true (sym (fails_before_first (is_word word) rows place.0 word (omega (arith, place.1))) ∙ (bytes_eq-Decides (get_or rows place.0 word) word).1 place.2)
  finds_all (Some at) e = tt

any_at : (test : List ℕ → Bool) (rows : List (List ℕ)) (at : ℕ) (word : List ℕ) → slice_get rows at ≡ Some word → test word ≡ true → list_any test rows ≡ true
any_at test [] at word there passes = absurd cc
any_at test (row ∷ rows) zero word there passes =
    let same : row ≡ word = cc in
    rw (same, passes) refl
any_at test (row ∷ rows) (suc at) word there passes =
    or_right (test row) (list_any test rows) (any_at test rows at word there passes)

-- the first row of a table without repeats stands nowhere else
first_alone : (row : List ℕ) (rows : List (List ℕ)) (at : ℕ) (word : List ℕ) → are_distinct (row ∷ rows) ≡ true → row ≡ word → slice_get rows at ≡ Some word → ⊥
first_alone row rows at word distinct same there =
    let repeated : list_any (bytes_eq row) rows ≡ true = any_at (bytes_eq row) rows at word there ((bytes_eq-Decides row word).1 same) in
    let not_repeated = (and_parts (not (list_any (bytes_eq row) rows)) (are_distinct rows) distinct).0 in
    false≢true (ap not (sym repeated) ∙ not_repeated)

-- in a table without repeats a word has one place
one_place : (rows : List (List ℕ)) (word : List ℕ) (i j : ℕ) → are_distinct rows ≡ true → slice_get rows i ≡ Some word → slice_get rows j ≡ Some word → i ≡ j
one_place [] word i j distinct at_i at_j = absurd cc
one_place (row ∷ rows) word zero zero distinct at_i at_j = refl
one_place (row ∷ rows) word zero (suc j) distinct at_i at_j = absurd (first_alone row rows j word distinct (cc) at_j)
one_place (row ∷ rows) word (suc i) zero distinct at_i at_j = absurd (first_alone row rows i word distinct (cc) at_i)
one_place (row ∷ rows) word (suc i) (suc j) distinct at_i at_j = ap suc (one_place rows word i j (and_parts (not (list_any (bytes_eq row) rows)) (are_distinct rows) distinct).1 at_i at_j)

pub finds_back : (word : List ℕ) (rows : List (List ℕ)) (found : Option ℕ) → found ≡ position (is_word word) rows → are_distinct rows ≡ true → (at : ℕ) → slice_get rows at ≡ Some word → found ≡ Some at
finds_back word rows None e distinct at there = absurd (finds_all word rows None e (at, slice_get_within rows at word there, get_or_from_slice_get rows at word word there))
finds_back word rows (Some first) e distinct at there = ap (λ (i : ℕ). Some i) (one_place rows word first at distinct (finds_first word rows (Some first) e).there there)
