-- Marks over one operand and over two: what their clauses say, and that they are true where the mark is filled in.
use Rattle.std.proofs.Common.{◌≡◌, ℕ, Bool, true, ◌||◌, ℤ, pos, ◌⊎◌, List, [], ◌∷◌, sym, ◌∙◌, subst, inl, inr}
use Rattle.std.specs.Prelude.{◌↔◌}
use Rattle.std.specs.Ordering.{int_eq}
use Rattle.mix_system.specs.declared.literal.Lit.{Lit}
use Rattle.mix_system.specs.declared.row.Part.{Part}
use Rattle.mix_system.specs.Fits.{IsTrueAt}
use Rattle.mix_system.specs.Row.{number_at}
use Rattle.wrap_rows.specs.Blocks.{marks}
use Rattle.wrap_rows.specs.Vars.{IsMark}
use Rattle.wrap_rows.specs.Piece.{mark_of}
use Rattle.wrap_rows.proofs.CaseLaws.{Each, Some_of}
use Rattle.wrap_rows.proofs.BlockLaws.{marks-said, marks-true}
use Rattle.wrap_rows.proofs.ReadLaws.{eq_yes, eq_said, mark_of-IsMark, mark_of-one, or_said, or_left, or_right}

module _ (rows : List (List Part)) (point : List ℤ) where
  pub one_said : (mark a : ℕ) (listed : List Lit) (barred : Bool) → IsMark (number_at point mark) → IsMark (number_at point a) → (Some_of (IsTrueAt rows point) listed ↔ barred ≡ true)
      → Each (Some_of (IsTrueAt rows point)) (marks mark (a ∷ []) listed) → number_at point mark ≡ pos 1 ↔ ((number_at point a ≡ pos 1) ⊎ (barred ≡ true))
  one_said mark a listed barred is_mark is_a lists each =
      let marked = marks-said rows point mark (a ∷ []) listed is_mark (is_a, tt) each in (
        λ one. elim (marked.0 one) [ inl some ↦ elim some [ inl here ↦ inl here | inr none ↦ elim none [ ] ] | inr some ↦ inr (lists.0 some) ],
        λ either. elim either [ inl here ↦ marked.1 (inl (inl here)) | inr bars ↦ marked.1 (inr (lists.1 bars)) ],
      )

  pub one_filled : (mark a : ℕ) (listed : List Lit) (barred : Bool) → number_at point mark ≡ mark_of (int_eq (number_at point a) (pos 1) || barred) → IsMark (number_at point a) → (Some_of (IsTrueAt rows point) listed ↔ barred ≡ true)
      → Each (Some_of (IsTrueAt rows point)) (marks mark (a ∷ []) listed)
  one_filled mark a listed barred is is_a lists =
      let poison = int_eq (number_at point a) (pos 1) in
      let test = poison || barred in
      marks-true rows point mark (a ∷ []) listed (subst IsMark (sym is) (mark_of-IsMark test)) (is_a, tt) (
        λ one. elim (or_said poison barred ((mark_of-one test).0 (sym is ∙ one))) [
          | inl bad ↦ inl (inl (eq_said (number_at point a) (pos 1) bad))
          | inr bars ↦ inr (lists.1 bars)
        ],
        λ either. is ∙ (mark_of-one test).1 (elim either [
          | inl some ↦ or_left poison barred (elim some [ inl here ↦ eq_yes (number_at point a) (pos 1) here | inr none ↦ elim none [ ] ])
          | inr some ↦ or_right poison barred (lists.0 some)
        ]),
      )

  pub two_said : (mark a b : ℕ) (listed : List Lit) (barred : Bool) → IsMark (number_at point mark) → IsMark (number_at point a) → IsMark (number_at point b) → (Some_of (IsTrueAt rows point) listed ↔ barred ≡ true)
      → Each (Some_of (IsTrueAt rows point)) (marks mark (a ∷ b ∷ []) listed) → number_at point mark ≡ pos 1 ↔ ((number_at point a ≡ pos 1) ⊎ ((number_at point b ≡ pos 1) ⊎ (barred ≡ true)))
  two_said mark a b listed barred is_mark is_a is_b lists each =
      let marked = marks-said rows point mark (a ∷ b ∷ []) listed is_mark (is_a, (is_b, tt)) each in (
        λ one. elim (marked.0 one) [
          | inl some ↦ elim some [ inl here ↦ inl here | inr rest ↦ elim rest [ inl here ↦ inr (inl here) | inr none ↦ elim none [ ] ] ]
          | inr some ↦ inr (inr (lists.0 some))
        ],
        λ either. elim either [
          | inl here ↦ marked.1 (inl (inl here))
          | inr rest ↦ elim rest [ inl here ↦ marked.1 (inl (inr (inl here))) | inr bars ↦ marked.1 (inr (lists.1 bars)) ]
        ],
      )

  pub two_filled : (mark a b : ℕ) (listed : List Lit) (barred : Bool) → number_at point mark ≡ mark_of (int_eq (number_at point a) (pos 1) || (int_eq (number_at point b) (pos 1) || barred)) → IsMark (number_at point a) → IsMark (number_at point b) → (Some_of (IsTrueAt rows point) listed ↔ barred ≡ true)
      → Each (Some_of (IsTrueAt rows point)) (marks mark (a ∷ b ∷ []) listed)
  two_filled mark a b listed barred is is_a is_b lists =
      let first = int_eq (number_at point a) (pos 1) in
      let second = int_eq (number_at point b) (pos 1) in
      let test = first || (second || barred) in
      marks-true rows point mark (a ∷ b ∷ []) listed (subst IsMark (sym is) (mark_of-IsMark test)) (is_a, (is_b, tt)) (
        λ one. elim (or_said first (second || barred) ((mark_of-one test).0 (sym is ∙ one))) [
          | inl bad ↦ inl (inl (eq_said (number_at point a) (pos 1) bad))
          | inr rest ↦ elim (or_said second barred rest) [
            | inl bad ↦ inl (inr (inl (eq_said (number_at point b) (pos 1) bad)))
            | inr bars ↦ inr (lists.1 bars)
          ]
        ],
        λ either. is ∙ (mark_of-one test).1 (elim either [
          | inl some ↦ elim some [
            | inl here ↦ or_left first (second || barred) (eq_yes (number_at point a) (pos 1) here)
            | inr rest ↦ or_right first (second || barred) (or_left second barred (elim rest [ inl here ↦ eq_yes (number_at point b) (pos 1) here | inr none ↦ elim none [ ] ]))
          ]
          | inr some ↦ or_right first (second || barred) (or_right second barred (lists.0 some))
        ]),
      )
