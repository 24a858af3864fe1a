-- Sums that are set to 0 again, and whether they were 0.
use Rattle.std.proofs.Common.{◌≡◌, ◌≢◌, ◌⊎◌, ◌<◌, ℕ, ℤ, pos, List, length, set, Bool, true, false, refl, ◌∙◌, ap, inl, inr, ⊎_elim}
use Rattle.std.proofs.lemmas.Bool.{cases_eq, true≢false, false≢true}
use Rattle.std.proofs.lemmas.List.{get_or-set_same, get_or-set_other, length-set}
use Rattle.mix_system.specs.Row.{number_at}
use Rattle.leaf_check.specs.Sums.{Settles}

pub settled_zero : (old : List ℤ) (at : ℕ) → number_at old at ≡ pos 0 → Settles (λ v. v ≡ at) (λ _. ⊥) old old true
settled_zero old at is_zero = record {
  one_each = refl;
  cleared = λ v same. inl (ap (λ (w : ℕ). number_at old w) same ∙ is_zero);
  kept = λ v. inl refl;
  same = λ _. refl;
  other = λ e. absurd (true≢false e);
}

pub settled_other : (old : List ℤ) (at : ℕ) → at < length old → number_at old at ≢ pos 0 → Settles (λ v. v ≡ at) (λ _. ⊥) old (set old at (pos 0)) false
settled_other old at within not_zero =
    let here = get_or-set_same old at (pos 0) (pos 0) within in record {
      one_each = length-set old at (pos 0);
      cleared = λ v same. inl (ap (λ (w : ℕ). number_at (set old at (pos 0)) w) same ∙ here);
      kept = λ v. ⊎_elim (λ same. inr (ap (λ (w : ℕ). number_at (set old at (pos 0)) w) same ∙ here)) (λ apart. inl (get_or-set_other old at v (pos 0) (pos 0) apart)) (cases_eq v at);
      same = λ e. absurd (false≢true e);
      other = λ _. (at, not_zero);
    }

pub settling_start : (named : ℕ → Type 0) (old : List ℤ) → Settles named named old old true
settling_start named old = record {
  one_each = refl;
  cleared = λ v is. inr is;
  kept = λ v. inl refl;
  same = λ _. refl;
  other = λ e. absurd (true≢false e);
}

module _ (named left piece rest : ℕ → Type 0) (old now new : List ℤ) (were_zero : Bool) (h : Settles named left old now were_zero) (parts : (v : ℕ) → left v → piece v ⊎ rest v) where
  cleared_more : (here : Bool) → Settles piece (λ _. ⊥) now new here → (v : ℕ) → named v → (number_at new v ≡ pos 0) ⊎ rest v
  cleared_more here next v is =
      ⊎_elim (λ zero_now. inl (⊎_elim (λ same. same ∙ zero_now) (λ zero_new. zero_new) (next.kept v)))
      (λ is_left. ⊎_elim (λ here'. ⊎_elim (λ zero_new. inl zero_new) (λ none. absurd none) (next.cleared v here')) (λ later. inr later) (parts v is_left))
      (h.cleared v is)

  kept_more : (here : Bool) → Settles piece (λ _. ⊥) now new here → (v : ℕ) → (number_at new v ≡ number_at old v) ⊎ (number_at new v ≡ pos 0)
  kept_more here next v =
      ⊎_elim (λ same. ⊎_elim (λ before. inl (same ∙ before)) (λ zero_now. inr (same ∙ zero_now)) (h.kept v)) (λ zero_new. inr zero_new) (next.kept v)

  -- the next ones were 0 too
  pub settling_zero : Settles piece (λ _. ⊥) now new true → Settles named rest old new were_zero
  settling_zero next = record {
    one_each = next.one_each ∙ h.one_each;
    cleared = cleared_more true next;
    kept = kept_more true next;
    same = λ e. next.same refl ∙ h.same e;
    other = h.other;
  }

  -- some of the next ones was not
  pub settling_other : Settles piece (λ _. ⊥) now new false → Settles named rest old new false
  settling_other next = record {
    one_each = next.one_each ∙ h.one_each;
    cleared = cleared_more false next;
    kept = kept_more false next;
    same = λ e. absurd (false≢true e);
    other = λ _.
        let found = next.other refl in
        ⊎_elim (λ same. (found.0, λ is_zero. found.1 (same ∙ is_zero))) (λ zero_now. absurd (found.1 zero_now)) (h.kept found.0);
  }

pub settling_end : (named left : ℕ → Type 0) (old now : List ℤ) (were_zero : Bool) → Settles named left old now were_zero → ((v : ℕ) → left v → ⊥) → Settles named (λ _. ⊥) old now were_zero
settling_end named left old now were_zero h none = record {
  one_each = h.one_each;
  cleared = λ v is. ⊎_elim (λ zero_now. inl zero_now) (λ is_left. absurd (none v is_left)) (h.cleared v is);
  kept = h.kept;
  same = h.same;
  other = h.other;
}
