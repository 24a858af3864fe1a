-- What is laid says at a point of a system what the layout says over its own rows.
use Rattle.std.proofs.Common.{◌≡◌, ℕ, zero, suc, ◌+◌, ◌<◌, ℤ, List, [], ◌∷◌, length, refl, inl, inr, ap, sym, ◌∙◌, subst, arith, map}
use Rattle.std.specs.Prelude.{slice_index_or, All, Any, ◌↔◌}
use Rattle.mix_system.specs.declared.literal.Term.{Term}
use Rattle.mix_system.specs.declared.literal.Term.TheVariants.{Var, Row}
use Rattle.mix_system.specs.declared.literal.Lit.{Lit}
use Rattle.mix_system.specs.declared.row.Part.{Part}
use Rattle.mix_system.specs.Lit.{IsWithin}
use Rattle.mix_system.specs.Fits.{IsTrueAt, term_value}
use Rattle.mix_system.specs.Row.{row_value}
use Rattle.wrap_rows.specs.Layout.{Layout, raised_term, raised, clause_from, IsOfRows, StandsAt, Holds}
use Rattle.wrap_rows.proofs.CaseLaws.{Each, Some_of, Each-from_All, All-from_Each, Some_of-from_Any, Any-from_Some_of}
use Rattle.wrap_rows.proofs.ClauseLaws.{clause_of-true, clause_of-said}
use Rattle.wrap_rows.proofs.SumLaws.{row_of-value}

module _ (point : List ℤ) (first : ℕ) (mine rows : List (List Part)) (stands : StandsAt first mine rows) where
  row_at : (row at : ℕ) → at ≡ first + row → row < length mine → row_value (slice_index_or rows at []) point ≡ row_value (slice_index_or mine row []) point
  row_at row at is within =
      ap (λ k. row_value (slice_index_or rows k []) point) is
      ∙ ap (λ parts. row_value parts point) (stands row within)
      ∙ row_of-value point (slice_index_or mine row [])

  term-raised : (term : Term) → IsOfRows (length mine) term → term_value rows point (raised_term first term) ≡ term_value mine point term
  term-raised (Var var) within = refl
  term-raised (Row zero) within = row_at 0 first (omega arith) within
  term-raised (Row (suc row)) within = row_at (suc row) (first + suc row) refl within

  true-raised : (lit : Lit) → IsOfRows (length mine) lit.term → IsTrueAt mine point lit → IsTrueAt rows point (raised first lit)
  true-raised lit within here = subst (IsWithin lit.side lit.bound) (sym (term-raised lit.term within)) here

  true-lowered : (lit : Lit) → IsOfRows (length mine) lit.term → IsTrueAt rows point (raised first lit) → IsTrueAt mine point lit
  true-lowered lit within here = subst (IsWithin lit.side lit.bound) (term-raised lit.term within) here

  some-raised : (lits : List Lit) → Each (λ lit. IsOfRows (length mine) lit.term) lits → Some_of (IsTrueAt mine point) lits → Some_of (IsTrueAt rows point) (map (raised first) lits)
  some-raised [] within some = some
  some-raised (lit ∷ lits) within some =
      elim some [ inl here ↦ inl (true-raised lit within.0 here) | inr later ↦ inr (some-raised lits within.1 later) ]

  some-lowered : (lits : List Lit) → Each (λ lit. IsOfRows (length mine) lit.term) lits → Some_of (IsTrueAt rows point) (map (raised first) lits) → Some_of (IsTrueAt mine point) lits
  some-lowered [] within some = some
  some-lowered (lit ∷ lits) within some =
      elim some [ inl here ↦ inl (true-lowered lit within.0 here) | inr later ↦ inr (some-lowered lits within.1 later) ]

  clauses-laid : (clauses : List (List Lit)) → Each (All (λ lit. IsOfRows (length mine) lit.term)) clauses → Each (Any (IsTrueAt mine point)) clauses → Each (Any (IsTrueAt rows point)) (map (clause_from first) clauses)
  clauses-laid [] within each = tt
  clauses-laid (lits ∷ clauses) within each = (
    Any-from_Some_of (IsTrueAt rows point) (clause_from first lits) (clause_of-true (IsTrueAt rows point) (map (raised first) lits) (some-raised lits (Each-from_All (λ lit. IsOfRows (length mine) lit.term) lits within.0) (Some_of-from_Any (IsTrueAt mine point) lits each.0))),
    clauses-laid clauses within.1 each.1,
  )

  clauses-said : (clauses : List (List Lit)) → Each (All (λ lit. IsOfRows (length mine) lit.term)) clauses → Each (Any (IsTrueAt rows point)) (map (clause_from first) clauses) → Each (Any (IsTrueAt mine point)) clauses
  clauses-said [] within each = tt
  clauses-said (lits ∷ clauses) within each = (
    Any-from_Some_of (IsTrueAt mine point) lits (some-lowered lits (Each-from_All (λ lit. IsOfRows (length mine) lit.term) lits within.0) (clause_of-said (IsTrueAt rows point) (map (raised first) lits) (Some_of-from_Any (IsTrueAt rows point) (clause_from first lits) each.0))),
    clauses-said clauses within.1 each.1,
  )

-- the clauses that are laid are true exactly where the layout holds
pub laid-says : (layout : Layout) (point : List ℤ) (first : ℕ) (rows : List (List Part)) → StandsAt first layout.rows rows → All (All (λ lit. IsOfRows (length layout.rows) lit.term)) layout.clauses → All (Any (IsTrueAt rows point)) (map (clause_from first) layout.clauses) ↔ Holds layout point
laid-says layout point first rows stands within =
    let each = Each-from_All (All (λ lit. IsOfRows (length layout.rows) lit.term)) layout.clauses within in (
      λ all. All-from_Each (Any (IsTrueAt layout.rows point)) layout.clauses (clauses-said point first layout.rows rows stands layout.clauses each (Each-from_All (Any (IsTrueAt rows point)) (map (clause_from first) layout.clauses) all)),
      λ all. All-from_Each (Any (IsTrueAt rows point)) (map (clause_from first) layout.clauses) (clauses-laid point first layout.rows rows stands layout.clauses each (Each-from_All (Any (IsTrueAt layout.rows point)) layout.clauses all)),
    )
