-- A row's bound beyond its sums is refuted by one bound of each of its variables.
use Rattle.std.proofs.Common.{◌≡◌, ◌≢◌, ℕ, ◌+◌, ◌<◌, Bool, true, false, cond, eqb, List, [], ◌∷◌, ◌++◌, length, get_or, map, Option, None, Some, ℤ, pos, negsuc, neg_ℤ, ◌+ℤ◌, ◌-ℤ◌, ◌*ℤ◌, ◌≤ℤ◌, ◌<ℤ◌, All, refl, sym, ap, ◌∙◌, subst, ◌⊎◌, inl, inr, ⊎_elim, arith}
use Rattle.std.specs.Prelude.{not}
use Rattle.std.proofs.lemmas.Int.{ints}
use Rattle.std.proofs.lemmas.Bool.Decides.{nat_tests}
use Rattle.std.proofs.lemmas.List.{get_or-map, length-map, get_or_append_left, length-append}
use Rattle.std.proofs.lemmas.List.Elements.{All-cons, All-map, All-head, All-tail}
use Rattle.mix_system.specs.declared.literal.Side.{Side}
use Rattle.mix_system.specs.declared.literal.Side.TheVariants.{Le, Ge}
use Rattle.mix_system.specs.declared.literal.Term.TheVariants.{Var, Row}
use Rattle.mix_system.specs.declared.row.Part.{Part}
use Rattle.mix_system.specs.Sum.{int_sum_by}
use Rattle.mix_system.specs.System.{System, IsRow}
use Rattle.tableau_rows.specs.declared.entry.Entry.{Entry}
use Rattle.tableau_rows.specs.declared.equation.Equation.{Equation}
use Rattle.tableau_rows.specs.Equation.{total, coefficient}
use Rattle.tableau_rows.specs.Turning.{entry_of, turned_number}
use Rattle.tableau_rows.proofs.TotalLaws.{coefficient_at}
use Rattle.bounded_simplex.specs.Broken.{side_of}
use Rattle.bounded_simplex.specs.Combination.{in_order}
use Rattle.bounded_simplex.specs.InForce.{BoundChanges, in_force, Contradict}
use Rattle.bounded_simplex.specs.Lax.{extreme_at}
use Rattle.bounded_simplex.specs.Point.{NoneContradict}
use Rattle.bounded_simplex.specs.Reach.{LiesBeyond, IsBrokenRow}
use Rattle.bounded_simplex.specs.Refutation.{bound_on, hindering, IsHindered}
use Rattle.bounded_simplex.specs.TableauOf.{IsOfRow}
use Rattle.bounded_simplex.proofs.CoefficientLaws.{term_of_var, term_of_row}
use Rattle.bounded_simplex.proofs.EndLaws.{var_end, end_in_range}
use Rattle.bounded_simplex.proofs.ReachLaws.{sum_reach, Ordered, IsOver}
use Rattle.bounded_simplex.proofs.RowSumLaws.{row_order, row_total, own}

abbrev pub number_or : Option ℤ → ℤ
number_or None = pos 0
number_or (Some z) = z

module _ (bounds : BoundChanges) (upwards : Bool) (k : ℕ) (within : k < length bounds.system.rows) (equation : Equation) (is : IsOfRow bounds.system k equation)
    (row : IsRow (length bounds.system.ranges) (get_or bounds.system.rows k [])) (apart : NoneContradict bounds) where
  abbrev parts : List Part
  parts = get_or bounds.system.rows k []

  abbrev c : ℕ
  c = length bounds.system.ranges + k

  -- the bound in force that hinders each column, and that of the row
  abbrev pub hinders : ℤ → ℕ → ℤ
  hinders bound column = cond (eqb column c) bound (number_or (bound_on bounds column (hindering upwards (coefficient equation.entries.items column))))

  at_row : (bound : ℤ) → hinders bound c ≡ bound
  at_row bound = ap (λ t. cond t bound (number_or (bound_on bounds c (hindering upwards (coefficient equation.entries.items c))))) (same c)
    where
      same : (a : ℕ) → eqb a a ≡ true
      same a = grind (arith, nat_tests)

  -- a part's coefficient is that of its column
  part_coeff : (i : ℕ) (d : Part) → i < length parts → coefficient equation.entries.items (get_or parts i d).var ≡ (get_or parts i d).coeff
  part_coeff i d inside =
      let es = equation.entries.items in
      let all = map entry_of parts in
      let blank = entry_of d in
      let many : i < length all = omega (arith, length-map parts entry_of, inside) in
      let in_all : get_or all i blank ≡ entry_of (get_or parts i d) = get_or-map entry_of parts i d blank inside in
      let in_es : get_or es i blank ≡ entry_of (get_or parts i d) = ap (λ l. get_or l i blank) is.entries ∙ get_or_append_left all (own bounds.system k equation is row ∷ []) blank i many ∙ in_all in
      let count : length es ≡ length all + 1 = ap length is.entries ∙ length-append all (own bounds.system k equation is row ∷ []) in
      let at = coefficient_at es equation.sound.sparse.rising i blank (omega (arith, many, count)) in
      ap (coefficient es) (ap (λ (x : Entry). x.column) (sym in_es)) ∙ at ∙ ap (λ (x : Entry). x.coeff) in_es

  -- the bound that hinders a part's variable
  part_bound : (bound : ℤ) (i : ℕ) (d : Part) → i < length parts
      → in_force bounds (Var (get_or parts i d).var) (hindering upwards (get_or parts i d).coeff) ≡ Some (hinders bound (get_or parts i d).var)
  part_bound bound i d inside =
      let part = get_or parts i d in
      let known : part.var < length bounds.system.ranges = row.known i d inside in
      let left = var_end bounds part.var (hindering upwards part.coeff) in
      let on : bound_on bounds part.var (hindering upwards (coefficient equation.entries.items part.var)) ≡ Some left.bound =
      ap (λ z. bound_on bounds part.var (hindering upwards z)) (part_coeff i d inside) ∙ ap (λ t. in_force bounds t (hindering upwards part.coeff)) (term_of_var (length bounds.system.ranges) part.var known) ∙ left.is in
      let value : hinders bound part.var ≡ left.bound =
      ap (λ t. cond t bound (number_or (bound_on bounds part.var (hindering upwards (coefficient equation.entries.items part.var))))) (other part.var c (λ e. absurd (omega (arith, e, known)))) ∙ ap (λ o. number_or o) on in
      left.is ∙ ap Some (sym value)
    where
      other : (a b : ℕ) → a ≢ b → eqb a b ≡ false
      other a b h = grind (arith, nat_tests)

  pub row_hindered : (bound : ℤ) → in_force bounds (Row k) (side_of upwards) ≡ Some bound → All (IsHindered bounds upwards (hinders bound)) (in_order equation)
  row_hindered bound bounded =
      subst (All (IsHindered bounds upwards (hinders bound))) (sym (row_order bounds.system k equation is row))
      (All-cons (IsHindered bounds upwards (hinders bound)) (own bounds.system k equation is row) (map entry_of parts)
      (ap (λ t. in_force bounds t (side_of upwards)) (term_of_row (length bounds.system.ranges) k) ∙ bounded ∙ ap Some (sym (at_row bound)))
      (All-map (IsHindered bounds upwards (hinders bound)) entry_of parts
      (λ i d inside. ap (λ t. in_force bounds t (hindering upwards (get_or parts i d).coeff)) (term_of_var (length bounds.system.ranges) (get_or parts i d).var (row.known i d inside)) ∙ part_bound bound i d inside)))

  -- the bounds that hinder lie in the ranges
  hinders_over : (bound : ℤ) → All (λ part. IsOver (pos 1) (get_or bounds.system.ranges part.var (pos 0, pos 0)) (hinders bound part.var)) parts
  hinders_over bound i d inside =
      let part = get_or parts i d in
      let none : ¬ Contradict (in_force bounds (Var part.var) Ge) (in_force bounds (Var part.var) Le) =
      subst (λ t. ¬ Contradict (in_force bounds t Ge) (in_force bounds t Le)) (term_of_var (length bounds.system.ranges) part.var (row.known i d inside)) (apart part.var (omega (arith, row.known i d inside))) in
      let range = end_in_range bounds part.var none (hindering upwards part.coeff) (hinders bound part.var) (part_bound bound i d inside) in
      (omega (arith, ints, range.0), omega (arith, ints, range.1))

  pub row_refutes : (bound : ℤ) → LiesBeyond upwards bound (extreme_at bounds.system k upwards) → turned_number (not upwards) (total (hinders bound) equation.entries.items) <ℤ pos 0
  row_refutes bound beyond =
      let sum = row_total bounds.system k equation is row (hinders bound) in
      let reach = sum_reach upwards bounds.system.ranges (pos 1) (hinders bound) parts (hinders_over bound) in
      less upwards (int_sum_by (λ part. part.coeff *ℤ hinders bound part.var) parts) (extreme_at bounds.system k upwards) bound (total (hinders bound) equation.entries.items) (sum ∙ ap (λ z. int_sum_by (λ part. part.coeff *ℤ hinders bound part.var) parts -ℤ z) (at_row bound)) reach beyond
    where
      less : (up : Bool) (s e b t : ℤ) → t ≡ s -ℤ b → Ordered up s (pos 1 *ℤ e) → LiesBeyond up b e → turned_number (not up) t <ℤ pos 0
      less true s e b t is reach beyond = omega (arith, ints, is, reach, beyond)
      less false s e b t is reach beyond = omega (arith, ints, is, reach, beyond)
