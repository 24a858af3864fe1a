-- Points that have the same numbers where it matters.
use Rattle.std.proofs.Common.{◌≡◌, ℕ, zero, suc, ◌+◌, ◌<◌, ◌≤◌, ℤ, ◌+ℤ◌, ◌*ℤ◌, List, [], ◌∷◌, length, slice_set, refl, sym, ap, ap₂, ◌∙◌, inl, inr, subst, arith}
use Rattle.std.specs.Prelude.{slice_index_or}
use Rattle.std.specs.List.{AllByRecursion}
use Rattle.std.proofs.Math.ListN.{length-set}
use Rattle.mix_system.specs.declared.literal.Term.{Term}
use Rattle.mix_system.specs.declared.literal.Term.TheVariants.{Var, Row}
use Rattle.mix_system.specs.declared.literal.Lit.{Lit}
use Rattle.mix_system.specs.declared.row.Part.{Part}
use Rattle.mix_system.specs.Lit.{IsWithin}
use Rattle.mix_system.specs.Fits.{IsTrueAt, IsInRange, term_value}
use Rattle.mix_system.specs.Row.{number_at, row_value}
use Rattle.wrap_rows.specs.Layout.{Layout, Holds}
use Rattle.wrap_rows.specs.Piece.{put_from, AreIn}
use Rattle.wrap_rows.proofs.CaseLaws.{Each, Some_of}
use Rattle.wrap_rows.proofs.BlockLaws.{each-said, all-true}
use Rattle.wrap_rows.proofs.PutLaws.{set_other}
use Rattle.ir_pieces.specs.Bounded.{IsPartOf, IsLitOf, NamesBefore}

-- what stands behind the numbers that are put in is kept
pub put-behind : (first : ℕ) (numbers point : List ℤ) (var : ℕ) → first + length numbers ≤ var → number_at (put_from first numbers point) var ≡ number_at point var
put-behind first [] point var behind = refl
put-behind first (number ∷ numbers) point var behind =
    put-behind (first + 1) numbers (slice_set point first number) var (omega (arith, behind))
    ∙ set_other point first var number (omega (arith, behind))

pub put-length : (first : ℕ) (numbers point : List ℤ) → length (put_from first numbers point) ≡ length point
put-length first [] point = refl
put-length first (number ∷ numbers) point = put-length (first + 1) numbers (slice_set point first number) ∙ length-set point first number

pub in-same : (first : ℕ) (ranges : List (ℤ × ℤ)) (point other : List ℤ) → ((var : ℕ) → first ≤ var → var < first + length ranges → number_at other var ≡ number_at point var) → AreIn first ranges point → AreIn first ranges other
in-same first [] point other same within = tt
in-same first (range ∷ ranges) point other same within = (
  subst (IsInRange range) (sym (same first (omega arith) (omega arith))) within.0,
  in-same (first + 1) ranges point other (λ var from to. same var (omega (arith, from)) (omega (arith, to))) within.1,
)

-- ---- at points that have the same numbers of the first so many variables

module _ (vars : ℕ) (point other : List ℤ) (same : (var : ℕ) → var < vars → number_at other var ≡ number_at point var) where
  row-same : (parts : List Part) → AllByRecursion (IsPartOf vars) parts → row_value parts other ≡ row_value parts point
  row-same [] named = refl
  row-same (part ∷ parts) named =
      ap₂ (λ x y. x +ℤ y) (ap (λ z. part.coeff *ℤ z) (same part.var named.0)) (row-same parts named.1)

  row_at-same : (rows : List (List Part)) (row : ℕ) → AllByRecursion (AllByRecursion (IsPartOf vars)) rows → row_value (slice_index_or rows row []) other ≡ row_value (slice_index_or rows row []) point
  row_at-same [] zero named = refl
  row_at-same [] (suc row) named = refl
  row_at-same (parts ∷ rows) zero named = row-same parts named.0
  row_at-same (parts ∷ rows) (suc row) named = row_at-same rows row named.1

  term-same : (rows : List (List Part)) (lit : Lit) (term : Term) → lit.term ≡ term → AllByRecursion (AllByRecursion (IsPartOf vars)) rows → IsLitOf vars lit → term_value rows other lit.term ≡ term_value rows point lit.term
  term-same rows lit (Var var) is named within = rw is (same var (rw is at within))
  term-same rows lit (Row row) is named within = rw is (row_at-same rows row named)

  some-same : (rows : List (List Part)) (lits : List Lit) → AllByRecursion (AllByRecursion (IsPartOf vars)) rows → AllByRecursion (IsLitOf vars) lits → Some_of (IsTrueAt rows point) lits → Some_of (IsTrueAt rows other) lits
  some-same rows [] named within some = some
  some-same rows (lit ∷ lits) named within some =
      elim some [
        | inl here ↦ inl (subst (IsWithin lit.side lit.bound) (sym (term-same rows lit lit.term refl named within.0)) here)
        | inr later ↦ inr (some-same rows lits named within.1 later)
      ]

  clauses-same : (rows : List (List Part)) (clauses : List (List Lit)) → AllByRecursion (AllByRecursion (IsPartOf vars)) rows → AllByRecursion (AllByRecursion (IsLitOf vars)) clauses → Each (Some_of (IsTrueAt rows point)) clauses → Each (Some_of (IsTrueAt rows other)) clauses
  clauses-same rows [] named within each = tt
  clauses-same rows (lits ∷ clauses) named within each = (some-same rows lits named within.0 each.0, clauses-same rows clauses named within.1 each.1)

  -- a layout that names these alone holds at both
  pub holds-same : (layout : Layout) → NamesBefore vars layout → Holds layout point → Holds layout other
  holds-same layout named holds =
      all-true (IsTrueAt layout.rows other) layout.clauses
      (clauses-same layout.rows layout.clauses named.rows named.clauses (each-said (IsTrueAt layout.rows point) layout.clauses holds))
