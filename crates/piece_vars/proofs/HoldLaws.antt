-- A layout that names only some variables holds at points that have the same numbers there.
use Rattle.std.proofs.Common.{◌≡◌, ℕ, zero, suc, ℤ, ◌+ℤ◌, ◌*ℤ◌, List, [], ◌∷◌, refl, sym, ap, ap₂, inl, inr, subst}
use Rattle.std.specs.Prelude.{slice_index_or}
use Rattle.std.specs.List.{AllByRecursion}
use Rattle.mix_system.specs.declared.literal.Term.{Term}
use Rattle.mix_system.specs.declared.literal.Term.TheVariants.{Var, Row}
use Rattle.mix_system.specs.declared.literal.Lit.{Lit}
use Rattle.mix_system.specs.declared.row.Part.{Part}
use Rattle.mix_system.specs.Lit.{IsWithin}
use Rattle.mix_system.specs.Fits.{IsTrueAt, term_value}
use Rattle.mix_system.specs.Row.{number_at, row_value}
use Rattle.wrap_rows.specs.Layout.{Layout, Holds}
use Rattle.wrap_rows.proofs.CaseLaws.{Each, Some_of}
use Rattle.wrap_rows.proofs.BlockLaws.{each-said, all-true}
use Rattle.piece_vars.specs.Named.{IsPartIn, IsLitIn, NamesOnly}

module _ (Is : ℕ → Type 0) (point other : List ℤ) (same : (var : ℕ) → Is var → number_at other var ≡ number_at point var) where
  row-same : (parts : List Part) → AllByRecursion (IsPartIn Is) parts → row_value parts other ≡ row_value parts point
  row-same [] named = refl
  row-same (part ∷ parts) named =
      ap₂ (λ x y. x +ℤ y) (ap (λ z. part.coeff *ℤ z) (same part.var named.0)) (row-same parts named.1)

  row_at-same : (rows : List (List Part)) (row : ℕ) → AllByRecursion (AllByRecursion (IsPartIn Is)) rows → row_value (slice_index_or rows row []) other ≡ row_value (slice_index_or rows row []) point
  row_at-same [] zero named = refl
  row_at-same [] (suc row) named = refl
  row_at-same (parts ∷ rows) zero named = row-same parts named.0
  row_at-same (parts ∷ rows) (suc row) named = row_at-same rows row named.1

  term-same : (rows : List (List Part)) (lit : Lit) (term : Term) → lit.term ≡ term → AllByRecursion (AllByRecursion (IsPartIn Is)) rows → IsLitIn Is lit → term_value rows other lit.term ≡ term_value rows point lit.term
  term-same rows lit (Var var) is named within = rw is (same var (rw is at within))
  term-same rows lit (Row row) is named within = rw is (row_at-same rows row named)

  some-same : (rows : List (List Part)) (lits : List Lit) → AllByRecursion (AllByRecursion (IsPartIn Is)) rows → AllByRecursion (IsLitIn Is) lits → Some_of (IsTrueAt rows point) lits → Some_of (IsTrueAt rows other) lits
  some-same rows [] named within some = some
  some-same rows (lit ∷ lits) named within some =
      elim some [
        | inl here ↦ inl (subst (IsWithin lit.side lit.bound) (sym (term-same rows lit lit.term refl named within.0)) here)
        | inr later ↦ inr (some-same rows lits named within.1 later)
      ]

  clauses-same : (rows : List (List Part)) (clauses : List (List Lit)) → AllByRecursion (AllByRecursion (IsPartIn Is)) rows → AllByRecursion (AllByRecursion (IsLitIn Is)) clauses → Each (Some_of (IsTrueAt rows point)) clauses → Each (Some_of (IsTrueAt rows other)) clauses
  clauses-same rows [] named within each = tt
  clauses-same rows (lits ∷ clauses) named within each = (some-same rows lits named within.0 each.0, clauses-same rows clauses named within.1 each.1)

  pub holds-same : (layout : Layout) → NamesOnly Is layout → Holds layout point → Holds layout other
  holds-same layout named holds =
      all-true (IsTrueAt layout.rows other) layout.clauses
      (clauses-same layout.rows layout.clauses named.rows named.clauses (each-said (IsTrueAt layout.rows point) layout.clauses holds))
