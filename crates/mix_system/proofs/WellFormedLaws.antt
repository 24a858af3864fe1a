-- A well-formed system stays so with one more variable, row or clause.
use Rattle.std.proofs.Common.{◌≡◌, ℕ, ◌+◌, ◌^◌, ◌<◌, ◌≤◌, List, [], ◌∷◌, ◌++◌, length, get_or, map, ℤ, All, Some, refl, sym, ap, ◌∙◌, subst, arith}
use Rattle.std.specs.Prelude.{slice_get}
use Rattle.std.specs.Option.{option_map}
use Rattle.std.proofs.lemmas.List.{length_push}
use Rattle.std.proofs.lemmas.List.Elements.{All-push, All-weaker}
use Rattle.std.proofs.lemmas.Option.{get_or_from_slice_get, slice_get_within, slice_get-map, slice_get_read}
use Rattle.mix_system.specs.declared.literal.Term.{Term}
use Rattle.mix_system.specs.declared.literal.Term.TheVariants.{Var, Row}
use Rattle.mix_system.specs.declared.literal.Lit.{Lit}
use Rattle.mix_system.specs.declared.row.Part.{Part}
use Rattle.mix_system.specs.System.{System, IsRange, Exists, IsRow, IsClause, IsWellFormed}

-- what holds of each item holds of the one at a place
pub All-slice_get : {X : Type 0} (P : X → Type 0) (xs : List X) (i : ℕ) (x : X) → slice_get xs i ≡ Some x → All P xs → P x
All-slice_get P xs i x at all = subst P (get_or_from_slice_get xs i x x at) (all i x (slice_get_within xs i x at))

-- what a map has at a place where the list was read
pub slice_get-map_read : {X Y : Type 0} (f : X → Y) (xs : List X) (i : ℕ) (x : X) (y : Y) → i < length xs → x ≡ get_or xs i x → y ≡ f x → slice_get (map f xs) i ≡ Some y
slice_get-map_read f xs i x y h read made =
    slice_get-map f xs i ∙ ap (option_map f) (slice_get_read xs (length xs) i x refl h read) ∙ ap Some (sym made)

Exists-more : (vars more_vars rows more_rows : ℕ) → vars ≤ more_vars → rows ≤ more_rows → (term : Term) → Exists vars rows term → Exists more_vars more_rows term
Exists-more vars more_vars rows more_rows v r (Var var) h = omega arith
Exists-more vars more_vars rows more_rows v r (Row row) h = omega arith

IsRow-more : (vars more_vars : ℕ) → vars ≤ more_vars → (parts : List Part) → IsRow vars parts → IsRow more_vars parts
IsRow-more vars more_vars v parts row = record {
  known = All-weaker (λ part. part.var < vars) (λ part. part.var < more_vars) (λ part h. omega arith) parts row.known;
  rising = row.rising;
  nonzero = row.nonzero;
}

IsClause-more : (vars more_vars rows more_rows : ℕ) → vars ≤ more_vars → rows ≤ more_rows → (lits : List Lit) → IsClause vars rows lits → IsClause more_vars more_rows lits
IsClause-more vars more_vars rows more_rows v r lits clause = record {
  known = All-weaker (λ lit. Exists vars rows lit.term) (λ lit. Exists more_vars more_rows lit.term) (λ lit h. Exists-more vars more_vars rows more_rows v r lit.term h) lits clause.known;
  distinct = clause.distinct;
  inner = clause.inner;
}

pub IsWellFormed-add_var : (s : System) (ranges : List (ℤ × ℤ)) (range : ℤ × ℤ) → ranges ≡ s.ranges ++ range ∷ [] → IsWellFormed s → IsRange range → length s.ranges + 1 < 2 ^ 31 → IsWellFormed (record s { ranges = ranges })
IsWellFormed-add_var s ranges range added s_ok range_ok room =
    let count = length_push s.ranges range in
    let more : length s.ranges ≤ length (s.ranges ++ range ∷ []) = omega arith in
    rw added (record {
      ranges = All-push IsRange s.ranges range s_ok.ranges range_ok;
      rows = All-weaker (IsRow (length s.ranges)) (IsRow (length (s.ranges ++ range ∷ []))) (IsRow-more _ _ more) s.rows s_ok.rows;
      clauses = All-weaker (IsClause (length s.ranges) (length s.rows)) (IsClause (length (s.ranges ++ range ∷ [])) (length s.rows)) (IsClause-more _ _ _ _ more (omega arith)) s.clauses s_ok.clauses;
      few_vars = omega arith;
      few_rows = s_ok.few_rows;
      few_clauses = s_ok.few_clauses;
    })

pub IsWellFormed-add_row : (s : System) (rows : List (List Part)) (row : List Part) → rows ≡ s.rows ++ row ∷ [] → IsWellFormed s → IsRow (length s.ranges) row → length s.rows + 1 < 2 ^ 31 → IsWellFormed (record s { rows = rows })
IsWellFormed-add_row s rows row added s_ok row_ok room =
    let count = length_push s.rows row in
    let more : length s.rows ≤ length (s.rows ++ row ∷ []) = omega arith in
    rw added (record {
      ranges = s_ok.ranges;
      rows = All-push (IsRow (length s.ranges)) s.rows row s_ok.rows row_ok;
      clauses = All-weaker (IsClause (length s.ranges) (length s.rows)) (IsClause (length s.ranges) (length (s.rows ++ row ∷ []))) (IsClause-more _ _ _ _ (omega arith) more) s.clauses s_ok.clauses;
      few_vars = s_ok.few_vars;
      few_rows = omega arith;
      few_clauses = s_ok.few_clauses;
    })

pub IsWellFormed-add_clause : (s : System) (clauses : List (List Lit)) (clause : List Lit) → clauses ≡ s.clauses ++ clause ∷ [] → IsWellFormed s → IsClause (length s.ranges) (length s.rows) clause → length s.clauses + 1 < 2 ^ 31 → IsWellFormed (record s { clauses = clauses })
IsWellFormed-add_clause s clauses clause added s_ok clause_ok room =
    let count = length_push s.clauses clause in
    rw added (record {
      ranges = s_ok.ranges;
      rows = s_ok.rows;
      clauses = All-push (IsClause (length s.ranges) (length s.rows)) s.clauses clause s_ok.clauses clause_ok;
      few_vars = s_ok.few_vars;
      few_rows = s_ok.few_rows;
      few_clauses = omega arith;
    })
