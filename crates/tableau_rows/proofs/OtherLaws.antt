-- The entries beside the basic column, one by one.
use Rattle.std.proofs.Common.{◌≡◌, ◌≢◌, ℕ, ◌+◌, ◌<◌, List, [], ◌∷◌, ◌++◌, length, get_or, take, drop, true, false, eqb, cond, ℤ, ◌+ℤ◌, ◌*ℤ◌, refl, sym, ap, ◌∙◌, inl, inr, arith}
use Rattle.std.specs.Prelude.{not}
use Rattle.std.proofs.lemmas.Bool.Decides.{nat_tests}
use Rattle.std.proofs.lemmas.List.{take_more, drop_more, take-append-drop, append-nil}
use Rattle.std.proofs.lemmas.List.Elements.{filter-append}
use Rattle.wx_num.specs.declared.excess.NumOp.TheVariants.{Plus, Times}
use Rattle.tableau_rows.specs.declared.entry.Entry.{Entry}
use Rattle.tableau_rows.specs.Equation.{total}
use Rattle.tableau_rows.specs.Turning.{others, IsSumStep}
use Rattle.tableau_rows.proofs.TotalLaws.{total_push}

is_other : (a b : ℕ) → a ≢ b → not (eqb a b) ≡ true
is_other a b h = grind (arith, nat_tests)

is_basic : (a b : ℕ) → a ≡ b → not (eqb a b) ≡ false
is_basic a b h = grind (arith, nat_tests)

module _ (basic : ℕ) (entries : List Entry) (i : ℕ) (d : Entry) (within : i < length entries) where
  others_more : others basic (take (i + 1) entries) ≡ others basic (take i entries) ++ others basic (get_or entries i d ∷ [])
  others_more = ap (others basic) (take_more entries i d within) ∙ filter-append (λ entry. not (eqb entry.column basic)) (take i entries) (get_or entries i d ∷ [])

  pub total_others_skip : (number : ℕ → ℤ) → (get_or entries i d).column ≡ basic → total number (others basic (take (i + 1) entries)) ≡ total number (others basic (take i entries))
  total_others_skip number same =
      ap (total number) (others_more ∙ ap (λ b. others basic (take i entries) ++ cond b (get_or entries i d ∷ []) []) (is_basic _ basic same) ∙ append-nil (others basic (take i entries)))

  pub total_others_more : (number : ℕ → ℤ) → (get_or entries i d).column ≢ basic
      → total number (others basic (take (i + 1) entries)) ≡ total number (others basic (take i entries)) +ℤ (get_or entries i d).coeff *ℤ number (get_or entries i d).column
  total_others_more number other =
      ap (total number) (others_more ∙ ap (λ b. others basic (take i entries) ++ cond b (get_or entries i d ∷ []) []) (is_other _ basic other))
      ∙ total_push number (others basic (take i entries)) (get_or entries i d)

  others_split : (get_or entries i d).column ≢ basic → others basic entries ≡ others basic (take i entries) ++ get_or entries i d ∷ others basic (drop (i + 1) entries)
  others_split other =
      ap (others basic) (sym (take-append-drop i entries) ∙ ap (λ rest. take i entries ++ rest) (drop_more entries i d within))
      ∙ filter-append (λ entry. not (eqb entry.column basic)) (take i entries) (get_or entries i d ∷ drop (i + 1) entries)
      ∙ ap (λ b. others basic (take i entries) ++ cond b (get_or entries i d ∷ others basic (drop (i + 1) entries)) (others basic (drop (i + 1) entries))) (is_other _ basic other)

  pub IsSumStep_product : (number : ℕ → ℤ) → (get_or entries i d).column ≢ basic
      → IsSumStep number (others basic entries) (record { op = Times; x = (get_or entries i d).coeff; y = number (get_or entries i d).column })
  IsSumStep_product number other = record {
    before = others basic (take i entries);
    entry = get_or entries i d;
    after = others basic (drop (i + 1) entries);
    split = others_split other;
    formed = inl refl;
  }

  pub IsSumStep_sum : (number : ℕ → ℤ) → (get_or entries i d).column ≢ basic
      → IsSumStep number (others basic entries) (record { op = Plus; x = total number (others basic (take i entries)); y = (get_or entries i d).coeff *ℤ number (get_or entries i d).column })
  IsSumStep_sum number other = record {
    before = others basic (take i entries);
    entry = get_or entries i d;
    after = others basic (drop (i + 1) entries);
    split = others_split other;
    formed = inr refl;
  }
