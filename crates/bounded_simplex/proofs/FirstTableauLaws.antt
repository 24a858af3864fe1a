-- The tableau whose basis is the rows.
use Rattle.std.proofs.Common.{◌≡◌, ◌≢◌, ℕ, ◌+◌, ◌<◌, ◌≤◌, List, [], ◌∷◌, ◌++◌, length, get_or, map, ℤ, pos, negsuc, ◌-ℤ◌, ◌*ℤ◌, sym, ap, ◌∙◌, subst, ⊎_elim, arith}
use Rattle.std.proofs.lemmas.Int.{ints}
use Rattle.std.proofs.lemmas.Bool.{cases_lt}
use Rattle.std.proofs.lemmas.List.{get_or_append_left, get_or_at}
use Rattle.std.proofs.lemmas.List.Elements.{All-push, All-map, All-weaker}
use Rattle.mix_system.specs.Sum.{int_sum_by}
use Rattle.mix_system.specs.System.{System, IsRow, IsWellFormed}
use Rattle.tableau_rows.specs.declared.equation.Equation.{Equation}
use Rattle.tableau_rows.specs.Equation.{total, coefficient}
use Rattle.tableau_rows.specs.Substitution.{taken, sum_at}
use Rattle.tableau_rows.specs.Turning.{entry_of}
use Rattle.tableau_rows.proofs.TotalLaws.{total_push, coefficient_none}
use Rattle.tableau_rows.proofs.FirstRowLaws.{parts_total}
use Rattle.bounded_simplex.specs.TableauOf.{AllHold, TableauOf, IsOfRow}

-- what the entries of a row's equation add up to
first_sum : (system : System) (row : ℕ) (equation : Equation) → IsOfRow system row equation → (number : ℕ → ℤ)
    → sum_at number equation ≡ int_sum_by (λ part. part.coeff *ℤ number part.var) (get_or system.rows row []) -ℤ number (length system.ranges + row)
first_sum system row equation is number =
    let parts = get_or system.rows row [] in
    ap (total number) is.entries ∙ total_push number (map entry_of parts) (record { column = length system.ranges + row; coeff = negsuc 0 })
    ∙ omega (arith, ints, parts_total number parts)

-- it takes no other row's column
first_apart : (system : System) (i j : ℕ) (equation : Equation) → IsRow (length system.ranges) (get_or system.rows i []) → IsOfRow system i equation → i ≢ j → taken equation (length system.ranges + j) ≡ pos 0
first_apart system i j equation row is differ =
    let parts = get_or system.rows i [] in
    ap (λ entries. coefficient entries (length system.ranges + j)) is.entries
    ∙ coefficient_none (map entry_of parts ++ record { column = length system.ranges + i; coeff = negsuc 0 } ∷ []) (length system.ranges + j)
    (All-push (λ entry. entry.column ≢ length system.ranges + j) (map entry_of parts) (record { column = length system.ranges + i; coeff = negsuc 0 })
    (All-map (λ entry. entry.column ≢ length system.ranges + j) entry_of parts (All-weaker (λ part. part.var < length system.ranges) (λ part. part.var ≢ length system.ranges + j) (λ part h same. absurd (omega arith)) parts row.known))
    (λ same. differ (omega arith)))

-- nor a column behind all others
first_known : (system : System) (i column : ℕ) (equation : Equation) → IsRow (length system.ranges) (get_or system.rows i []) → IsOfRow system i equation → i < length system.rows
    → length system.ranges + length system.rows ≤ column → taken equation column ≡ pos 0
first_known system i column equation row is within beyond =
    let parts = get_or system.rows i [] in
    ap (λ entries. coefficient entries column) is.entries
    ∙ coefficient_none (map entry_of parts ++ record { column = length system.ranges + i; coeff = negsuc 0 } ∷ []) column
    (All-push (λ entry. entry.column ≢ column) (map entry_of parts) (record { column = length system.ranges + i; coeff = negsuc 0 })
    (All-map (λ entry. entry.column ≢ column) entry_of parts (All-weaker (λ part. part.var < length system.ranges) (λ part. part.var ≢ column) (λ part h same. absurd (omega arith)) parts row.known))
    (λ same. absurd (omega arith)))

solved : (system : System) (rows : List Equation) → length rows ≡ length system.rows → ((k : ℕ) (d : Equation) → k < length rows → IsOfRow system k (get_or rows k d))
    → (row : ℕ) → row < length system.rows → (number : ℕ → ℤ) → AllHold rows number → number (length system.ranges + row) ≡ int_sum_by (λ part. part.coeff *ℤ number part.var) (get_or system.rows row [])
solved system [] count each row within number all = absurd (omega arith)
solved system (x ∷ rows) count each row within number all =
    let inside : row < length (x ∷ rows) = omega arith in
    let sum = first_sum system row (get_or (x ∷ rows) row x) (each row x inside) number in
    let holds = all row x inside in
    omega (arith, ints, sum, holds)

pub first_tableau : (system : System) (rows : List Equation) → IsWellFormed system → length rows ≡ length system.rows
    → ((k : ℕ) (d : Equation) → k < length rows → IsOfRow system k (get_or rows k d)) → TableauOf system rows
first_tableau system rows formed count each = record {
  apart = λ i j d i_within j_within differ.
      let of_i = each i d i_within in
      let of_j = each j d j_within in
      let row : IsRow (length system.ranges) (get_or system.rows i []) = formed.rows i [] (omega arith) in
      rw (of_j.basic) (first_apart system i j (get_or rows i d) row of_i differ);
  one_each = count;
  known = λ k d column within beyond. first_known system k column (get_or rows k d) (formed.rows k [] (omega arith)) (each k d within) (omega arith) beyond;
  same_solutions = λ number. (
    λ solves k d within.
        let sum = first_sum system k (get_or rows k d) (each k d within) number in
        let row = solves k (omega arith) in
        omega (arith, ints, sum, row),
    λ all row within. solved system rows count each row within number all,
  );
}

-- one more row
pub of_row_more : (system : System) (row : ℕ) (rows more : List Equation) (equation : Equation) → length rows ≡ row → more ≡ rows ++ equation ∷ [] → IsOfRow system row equation
    → ((k : ℕ) (d : Equation) → k < row → IsOfRow system k (get_or rows k d)) → (k : ℕ) (d : Equation) → k < row + 1 → IsOfRow system k (get_or more k d)
of_row_more system row rows more equation count is here before k d within =
    ⊎_elim (λ (lt : k < row). subst (IsOfRow system k) (sym (ap (λ l. get_or l k d) is ∙ get_or_append_left rows (equation ∷ []) d k (omega arith))) (before k d lt))
    (λ (le : row ≤ k).
    let same : k ≡ row = omega arith in
    subst (IsOfRow system k) (sym (ap (λ l. get_or l k d) is ∙ get_or_at rows equation [] d k (count ∙ sym same))) (subst (λ n. IsOfRow system n equation) (sym same) here)) (cases_lt k row)
