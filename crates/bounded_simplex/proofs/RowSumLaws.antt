-- A row's bound and one bound of each of its variables: what they form fits in a calm box in which each variable is fixed, and they refute it where the sum breaks the bound.
use Rattle.std.proofs.Common.{◌≡◌, ◌≢◌, ℕ, ◌+◌, ◌^◌, ◌<◌, ◌≤◌, Bool, true, false, cond, eqb, List, [], ◌∷◌, ◌++◌, length, get_or, drop, map, Option, None, Some, Result, Ok, ℤ, pos, negsuc, neg_ℤ, ◌+ℤ◌, ◌-ℤ◌, ◌*ℤ◌, ◌≤ℤ◌, ◌<ℤ◌, All, refl, sym, ap, ◌∙◌, subst, ⊎_elim, arith}
use Rattle.std.specs.Prelude.{unsigned_abs, not, IfOk, IfNone, IsSome}
use Rattle.std.specs.Int.{w128}
use Rattle.std.proofs.lemmas.Int.{ints, fits_signed_from_abs}
use Rattle.std.proofs.lemmas.Bool.{cases_eq, cases_lt}
use Rattle.std.proofs.lemmas.Bool.Decides.{nat_tests}
use Rattle.std.proofs.lemmas.List.{append-nil, get_or_at, length-append}
use Rattle.std.proofs.lemmas.List.Elements.{All-head, All-tail, All-cons, All-weaker, All-map, filter-append}
use Rattle.wx_num.specs.declared.excess.Excess.{Excess}
use Rattle.wx_num.specs.Excess.{Overflows}
use Rattle.mix_system.specs.declared.farkas.Farkas.{Farkas}
use Rattle.mix_system.specs.declared.literal.Side.{Side}
use Rattle.mix_system.specs.declared.literal.Side.TheVariants.{Le, Ge}
use Rattle.mix_system.specs.declared.literal.Term.TheVariants.{Var, Row}
use Rattle.mix_system.specs.declared.row.Part.{Part}
use Rattle.mix_system.specs.Calm.{IsSmall}
use Rattle.mix_system.specs.Row.{number_at, row_value}
use Rattle.mix_system.specs.Sum.{int_sum_by}
use Rattle.mix_system.specs.System.{System, IsRow}
use Rattle.mix_system.specs.FarkasSum.{coeff_on}
use Rattle.tableau_rows.specs.declared.entry.Entry.{Entry}
use Rattle.tableau_rows.specs.declared.equation.Equation.{Equation}
use Rattle.tableau_rows.specs.Equation.{total, unit, coefficient}
use Rattle.tableau_rows.specs.Substitution.{taken}
use Rattle.tableau_rows.specs.Turning.{others, entry_of, turned_number}
use Rattle.tableau_rows.proofs.FirstRowLaws.{parts_total}
use Rattle.tableau_rows.proofs.TotalLaws.{total_push, unit_same, unit_other, coefficient_none}
use Rattle.bounded_simplex.specs.Broken.{side_of}
use Rattle.bounded_simplex.specs.InForce.{BoundChanges, in_force, Contradict}
use Rattle.bounded_simplex.specs.Combination.{in_order, Fits, IsAmong, IsCombineStep, IsCalmBox}
use Rattle.bounded_simplex.specs.Point.{Admits}
use Rattle.bounded_simplex.specs.Refutation.{hindering, IsHindered}
use Rattle.bounded_simplex.specs.Sums.{IsFixedAt, KeepsSum}
use Rattle.bounded_simplex.specs.TableauOf.{IsOfRow}
use Rattle.bounded_simplex.proofs.CoefficientLaws.{term_of_var, term_of_row}
use Rattle.bounded_simplex.proofs.EndLaws.{end_in_range}
use Rattle.bounded_simplex.proofs.LeafSizeLaws.{coeffs_size, sub_size, coeff_same, coeff_other, AreInRanges, row_entry, row_fit}
use Rattle.bounded_simplex.proofs.StepLaws.{no_none}
use Rattle.bounded_simplex.proofs.PointLaws.{others_skip, others_keep, le_or_above}

-- the equation of a row, in the order of its parts

others_all : (b : ℕ) (es : List Entry) → All (λ entry. entry.column ≢ b) es → others b es ≡ es
others_all b [] all = refl
others_all b (e ∷ es) all =
    others_keep b e es (All-head (λ (entry : Entry). entry.column ≢ b) e es all) ∙ ap (λ rest. e ∷ rest) (others_all b es (All-tail (λ (entry : Entry). entry.column ≢ b) e es all))

module _ (system : System) (k : ℕ) (equation : Equation) (is : IsOfRow system k equation) (row : IsRow (length system.ranges) (get_or system.rows k [])) where
  abbrev pub parts_at : List Part
  parts_at = get_or system.rows k []

  abbrev pub own : Entry
  own = row_entry (length system.ranges + k)

  parts_apart : All (λ entry. entry.column ≢ length system.ranges + k) (map entry_of parts_at)
  parts_apart =
      All-map (λ (entry : Entry). entry.column ≢ length system.ranges + k) entry_of parts_at
      (All-weaker (λ (part : Part). part.var < length system.ranges) (λ (part : Part). part.var ≢ length system.ranges + k) (λ part h same. absurd (omega (arith, h, same))) parts_at row.known)

  denominator_once : neg_ℤ equation.denominator ≡ negsuc 0
  denominator_once =
      let c = length system.ranges + k in
      let sum = ap (λ es. coefficient es c) is.entries ∙ total_push (unit c) (map entry_of parts_at) own in
      let none = coefficient_none (map entry_of parts_at) c parts_apart in
      let solved = ap (coefficient equation.entries.items) is.basic in
      omega (arith, ints, equation.sound.solved, solved, sum, none, ap (λ u. negsuc 0 *ℤ u) (unit_same c))

  pub row_order : in_order equation ≡ own ∷ map entry_of parts_at
  row_order =
      let c = length system.ranges + k in
      (λ i. (record { column = is.basic i; coeff = denominator_once i }) ∷ others (is.basic i) (is.entries i))
      ∙ ap (λ es. own ∷ es) (filter-append (λ entry. not (eqb entry.column c)) (map entry_of parts_at) (own ∷ [])
      ∙ (λ i. others_all c (map entry_of parts_at) parts_apart i ++ others_skip c own [] refl i) ∙ append-nil (map entry_of parts_at))

  pub row_total : (number : ℕ → ℤ) → total number equation.entries.items ≡ int_sum_by (λ part. part.coeff *ℤ number part.var) parts_at -ℤ number (length system.ranges + k)
  row_total number =
      ap (total number) is.entries ∙ total_push number (map entry_of parts_at) own
      ∙ omega (arith, ints, parts_total number parts_at)

  -- a coefficient is small
  unit_coeff : (column : ℕ) (part : Part) → part.coeff *ℤ unit column part.var ≡ coeff_on column part
  unit_coeff column part =
      ⊎_elim (λ (same : part.var ≡ column). subst (λ v. part.coeff *ℤ unit column v ≡ part.coeff) (sym same) (ap (λ u. part.coeff *ℤ u) (unit_same column) ∙ omega (arith, ints)) ∙ sym (coeff_same column part same))
      (λ (other : part.var ≢ column). ap (λ u. part.coeff *ℤ u) (unit_other column part.var (λ e. other (sym e))) ∙ omega (arith, ints) ∙ sym (coeff_other column part other))
      (cases_eq part.var column)

  unit_sum : (column : ℕ) (parts : List Part) → int_sum_by (λ part. part.coeff *ℤ unit column part.var) parts ≡ int_sum_by (coeff_on column) parts
  unit_sum column [] = refl
  unit_sum column (part ∷ parts) = λ i. unit_coeff column part i +ℤ unit_sum column parts i

  taken_size : (column : ℕ) → All (λ part. IsSmall part.coeff) parts_at → unsigned_abs (taken equation column) < 2 ^ 101
  taken_size column small =
      let sum : int_sum_by (coeff_on column) parts_at -ℤ unit column (length system.ranges + k) ≡ taken equation column =
      sym (row_total (unit column) ∙ ap (λ z. z -ℤ unit column (length system.ranges + k)) (unit_sum column parts_at)) in
      subst (λ z. unsigned_abs z < 2 ^ 101) sum
      (omega (arith, sub_size (int_sum_by (coeff_on column) parts_at) (unit column (length system.ranges + k)), coeffs_size column parts_at row.rising small, unit_size column (length system.ranges + k)))
    where
      unit_size : (a b : ℕ) → unsigned_abs (unit a b) ≤ 1
      unit_size a b = elim (eqb a b) as (λ t. unsigned_abs (cond t (pos 1) (pos 0)) ≤ 1) [ true ↦ omega arith | false ↦ omega arith ]

All-among : (steps : List Excess) (step : Excess) → All Fits steps → IsAmong steps step → Fits step
All-among steps step all among =
    let split = subst (All Fits) among.split all in
    subst Fits (get_or_at among.before step among.after step (length among.before) refl) (split (length among.before) step (omega (arith, length-append among.before (step ∷ among.after))))

-- no number of the combination leaves 128 bits, in a calm box whose bounds lie in the ranges
pub row_step_fits : (bounds : BoundChanges) (k : ℕ) (equation : Equation) (step : Excess) → IsCalmBox bounds → AreInRanges bounds → k < length bounds.system.rows → IsOfRow bounds.system k equation
    → IsCombineStep bounds equation step → Fits step
row_step_fits bounds k equation step calm in_ranges within is of =
    let row = calm.formed.rows k [] within in
    let small = calm.system.coefficients k [] within in
    ⊎_elim (λ turned. subst Fits (sym turned.formed)
    (fits_signed_from_abs w128 (pos 0 -ℤ taken equation turned.column) (omega (arith, sub_size (pos 0) (taken equation turned.column), taken_size bounds.system k equation is row turned.column small))))
    (λ leaf. All-among _ step (row_fit bounds leaf.upwards in_ranges k leaf.front leaf.back leaf.parts calm within (sym leaf.split ∙ row_order bounds.system k equation is row) leaf.of) leaf.among) of

-- a box in which each variable is fixed

module _ (bounds : BoundChanges) (point : List ℤ) (fixed : IsFixedAt bounds point) where
  pub fixed_in_ranges : AreInRanges bounds
  fixed_in_ranges var side bound within is =
      end_in_range bounds var apart side bound is
    where
      apart : ¬ Contradict (in_force bounds (Var var) Ge) (in_force bounds (Var var) Le)
      apart less =
          let one = subst (λ o. Contradict o (in_force bounds (Var var) Le)) (fixed var Ge within) less in
          let both : number_at point var <ℤ number_at point var = subst (λ o. Contradict (Some (number_at point var)) o) (fixed var Le within) one in
          absurd (omega (arith, ints, both))

  module _ (upwards : Bool) (k : ℕ) (within : k < length bounds.system.rows) (equation : Equation) (is : IsOfRow bounds.system k equation) (row : IsRow (length bounds.system.ranges) (get_or bounds.system.rows k [])) where
    abbrev c : ℕ
    c = length bounds.system.ranges + k

    -- each variable's number, and the bound for the row
    abbrev pub numbers : ℤ → ℕ → ℤ
    numbers bound column = cond (eqb column c) bound (number_at point column)

    at_row : (bound : ℤ) → numbers bound c ≡ bound
    at_row bound = ap (λ t. cond t bound (number_at point c)) (same c)
      where
        same : (a : ℕ) → eqb a a ≡ true
        same a = grind (arith, nat_tests)

    at_var : (bound : ℤ) (var : ℕ) → var < length bounds.system.ranges → numbers bound var ≡ number_at point var
    at_var bound var known = ap (λ t. cond t bound (number_at point var)) (other var c (λ e. absurd (omega (arith, e, known))))
      where
        other : (a b : ℕ) → a ≢ b → eqb a b ≡ false
        other a b h = grind (arith, nat_tests)

    sum_is : (bound : ℤ) (parts : List Part) → All (λ part. part.var < length bounds.system.ranges) parts → int_sum_by (λ part. part.coeff *ℤ numbers bound part.var) parts ≡ row_value parts point
    sum_is bound [] known = refl
    sum_is bound (part ∷ parts) known =
        let first = at_var bound part.var (All-head (λ (part : Part). part.var < length bounds.system.ranges) part parts known) in
        let rest = sum_is bound parts (All-tail (λ (part : Part). part.var < length bounds.system.ranges) part parts known) in
        λ i. part.coeff *ℤ first i +ℤ rest i

    var_hindered : (bound : ℤ) (part : Part) → part.var < length bounds.system.ranges → IsHindered bounds upwards (numbers bound) (entry_of part)
    var_hindered bound part known =
        ap (λ t. in_force bounds t (hindering upwards part.coeff)) (term_of_var (length bounds.system.ranges) part.var known) ∙ fixed part.var (hindering upwards part.coeff) known
        ∙ ap Some (sym (at_var bound part.var known))

    pub sum_hindered : (bound : ℤ) → in_force bounds (Row k) (side_of upwards) ≡ Some bound → All (IsHindered bounds upwards (numbers bound)) (in_order equation)
    sum_hindered bound bounded =
        subst (All (IsHindered bounds upwards (numbers bound))) (sym (row_order bounds.system k equation is row))
        (All-cons (IsHindered bounds upwards (numbers bound)) (own bounds.system k equation is row) (map entry_of (get_or bounds.system.rows k []))
        (ap (λ t. in_force bounds t (side_of upwards)) (term_of_row (length bounds.system.ranges) k) ∙ bounded ∙ ap Some (sym (at_row bound)))
        (All-map (IsHindered bounds upwards (numbers bound)) entry_of (get_or bounds.system.rows k [])
        (All-weaker (λ (part : Part). part.var < length bounds.system.ranges) (λ (part : Part). IsHindered bounds upwards (numbers bound) (entry_of part)) (λ part known. var_hindered bound part known) (get_or bounds.system.rows k []) row.known)))

    total_is : (bound : ℤ) → total (numbers bound) equation.entries.items ≡ row_value (get_or bounds.system.rows k []) point -ℤ bound
    total_is bound = row_total bounds.system k equation is row (numbers bound) ∙ (λ i. sum_is bound (get_or bounds.system.rows k []) row.known i -ℤ at_row bound i)

    -- the sum keeps the bound where nothing is refuted
    pub sum_keeps : ((number : ℕ → ℤ) → All (IsHindered bounds upwards number) (in_order equation) → turned_number (not upwards) (total number equation.entries.items) <ℤ pos 0 → ⊥)
        → KeepsSum bounds point k (side_of upwards)
    sum_keeps none = of_end (in_force bounds (Row k) (side_of upwards)) refl
      where
        keeps : (up : Bool) (bound value : ℤ) → ¬ (turned_number (not up) (value -ℤ bound) <ℤ pos 0) → Admits (side_of up) (Some bound) (pos 1) value
        keeps true bound value ordered =
            ⊎_elim (λ (h : (pos 1 *ℤ bound) ≤ℤ value). h) (λ (h : (value +ℤ pos 1) ≤ℤ (pos 1 *ℤ bound)). absurd (ordered (omega (arith, ints, h)))) (le_or_above (pos 1 *ℤ bound) value)
        keeps false bound value ordered =
            ⊎_elim (λ (h : value ≤ℤ (pos 1 *ℤ bound)). h) (λ (h : ((pos 1 *ℤ bound) +ℤ pos 1) ≤ℤ value). absurd (ordered (omega (arith, ints, h)))) (le_or_above value (pos 1 *ℤ bound))

        of_end : (end : Option ℤ) → in_force bounds (Row k) (side_of upwards) ≡ end → Admits (side_of upwards) end (pos 1) (row_value (get_or bounds.system.rows k []) point)
        of_end None e = tt
        of_end (Some bound) e =
            let not_below = none (numbers bound) (sum_hindered bound e) in
            let sum = total_is bound in
            keeps upwards bound (row_value (get_or bounds.system.rows k []) point) (λ less. not_below (subst (λ z. turned_number (not upwards) z <ℤ pos 0) (sym sum) less))

-- what a refutation that isn't found says
pub keeps_where_none : (bounds : BoundChanges) (upwards : Bool) (k : ℕ) (equation : Equation) (found : Option Farkas) (answer : Result (Option Farkas) Excess) → k < length bounds.system.rows
    → IsOfRow bounds.system k equation → answer ≡ Ok found
    → ((number : ℕ → ℤ) → All (IsHindered bounds upwards number) (in_order equation) → turned_number (not upwards) (total number equation.entries.items) <ℤ pos 0 → IfOk answer IsSome)
    → IfNone found (IsCalmBox bounds → (point : List ℤ) → IsFixedAt bounds point → KeepsSum bounds point k (side_of upwards))
keeps_where_none bounds upwards k equation None answer within is answered clause =
    λ calm point fixed. sum_keeps bounds point fixed upwards k within equation is (calm.formed.rows k [] within)
    (λ number hindered less. no_none answer answered (clause number hindered less))
keeps_where_none bounds upwards k equation (Some farkas) answer within is answered clause = tt

-- a step of it can't leave 128 bits
pub keeps_where_fits : (bounds : BoundChanges) (upwards : Bool) (k : ℕ) (equation : Equation) (step : Excess) → k < length bounds.system.rows → IsOfRow bounds.system k equation
    → IsCombineStep bounds equation step → Overflows step → IsCalmBox bounds → (point : List ℤ) → IsFixedAt bounds point → KeepsSum bounds point k (side_of upwards)
keeps_where_fits bounds upwards k equation step within is of over calm point fixed =
    absurd (over (row_step_fits bounds k equation step calm (fixed_in_ranges bounds point fixed) within is of))

-- one more row
pub keeps_next : (bounds : BoundChanges) (point : List ℤ) (row : ℕ) → ((k : ℕ) (side : Side) → k < row → KeepsSum bounds point k side) → KeepsSum bounds point row Ge → KeepsSum bounds point row Le
    → (k : ℕ) (side : Side) → k < row + 1 → KeepsSum bounds point k side
keeps_next bounds point row before low high k side within =
    ⊎_elim (λ (lt : k < row). before k side lt)
    (λ (le : row ≤ k). let same : row ≡ k = omega (arith, le, within) in subst (λ n. KeepsSum bounds point n side) same (of_side side)) (cases_lt k row)
  where
    of_side : (side : Side) → KeepsSum bounds point row side
    of_side Ge = low
    of_side Le = high

-- the entries of a row's equation beside its own
pub row_others : (system : System) (k : ℕ) (equation : Equation) → IsOfRow system k equation → IsRow (length system.ranges) (get_or system.rows k []) → others equation.basic equation.entries.items ≡ map entry_of (get_or system.rows k [])
row_others system k equation is row = ap (drop 1) (row_order system k equation is row)
