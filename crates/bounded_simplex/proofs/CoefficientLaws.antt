-- The equations of a tableau cancel out on every variable.
use Rattle.std.proofs.Common.{◌≡◌, ℕ, ◌+◌, ◌-◌, ◌<◌, ◌≤◌, Bool, true, false, cond, eqb, ltb, List, [], ◌∷◌, length, get_or, ℤ, pos, ◌+ℤ◌, ◌*ℤ◌, All, refl, sym, ap, ◌∙◌, arith}
use Rattle.std.proofs.lemmas.Int.{ints}
use Rattle.std.proofs.lemmas.Bool.Decides.{nat_tests}
use Rattle.std.proofs.lemmas.List.Elements.{All-head, All-tail}
use Rattle.mix_system.specs.declared.literal.Term.TheVariants.{Var, Row}
use Rattle.mix_system.specs.declared.row.Part.{Part}
use Rattle.mix_system.specs.Sum.{int_sum_by}
use Rattle.mix_system.specs.System.{System, IsRow, IsWellFormed}
use Rattle.mix_system.specs.FarkasSum.{coeff_on}
use Rattle.tableau_rows.specs.declared.equation.Equation.{Equation}
use Rattle.tableau_rows.specs.Equation.{total}
use Rattle.bounded_simplex.specs.TableauOf.{Solves, TableauOf}
use Rattle.bounded_simplex.specs.Terms.{term_of, times_in, times_in_column}

below_true : (a b : ℕ) → a < b → ltb a b ≡ true
below_true a b h = grind (arith, nat_tests)

above_false : (a b : ℕ) → b ≤ a → ltb a b ≡ false
above_false a b h = grind (arith, nat_tests)

pub term_of_var : (vars var : ℕ) → var < vars → term_of vars var ≡ Var var
term_of_var vars var h = ap (λ b. cond b (Var var) (Row (var - vars))) (below_true var vars h)

pub term_of_row : (vars row : ℕ) → term_of vars (vars + row) ≡ Row row
term_of_row vars row = ap (λ b. cond b (Var (vars + row)) (Row (vars + row - vars))) (above_false (vars + row) vars (omega arith)) ∙ ap Row (omega arith)

taken_once : (coeff : ℤ) (b : Bool) → cond b coeff (pos 0) ≡ coeff *ℤ (cond b (pos 1) (pos 0) +ℤ pos 0)
taken_once coeff true = omega (arith, ints)
taken_once coeff false = omega (arith, ints)

parts_times : (system : System) (var : ℕ) (parts : List Part) → All (λ part. part.var < length system.ranges) parts
    → int_sum_by (coeff_on var) parts ≡ int_sum_by (λ part. part.coeff *ℤ times_in_column system var part.var) parts
parts_times system var [] known = refl
parts_times system var (part ∷ parts) known =
    let rest = parts_times system var parts (All-tail (λ part. part.var < length system.ranges) part parts known) in
    let here : times_in_column system var part.var ≡ cond (eqb part.var var) (pos 1) (pos 0) +ℤ pos 0 = ap (times_in system var) (term_of_var (length system.ranges) part.var (All-head (λ part. part.var < length system.ranges) part parts known)) in
    let first : coeff_on var part ≡ part.coeff *ℤ times_in_column system var part.var = taken_once part.coeff (eqb part.var var) ∙ ap (λ z. part.coeff *ℤ z) (sym here) in
    (λ i. first i +ℤ rest i)

pub times_solve : (system : System) (var : ℕ) → IsWellFormed system → Solves system (times_in_column system var)
times_solve system var formed row within =
    let is : IsRow (length system.ranges) (get_or system.rows row []) = formed.rows row [] within in
    ap (times_in system var) (term_of_row (length system.ranges) row) ∙ parts_times system var (get_or system.rows row []) is.known

pub cancels_out : (system : System) (rows : List Equation) → IsWellFormed system → TableauOf system rows → (k : ℕ) (d : Equation) → k < length rows → (var : ℕ)
    → total (times_in_column system var) (get_or rows k d).entries.items ≡ pos 0
cancels_out system rows formed tableau k d within var =
    (tableau.same_solutions (times_in_column system var)).0 (times_solve system var formed) k d within
