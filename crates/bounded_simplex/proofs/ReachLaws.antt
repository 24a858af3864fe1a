-- Sums over the ranges: each number within them lies between the least and the greatest, and a bound beyond them is refuted.
use Rattle.std.proofs.Common.{◌≡◌, ◌≢◌, ℕ, zero, suc, ◌+◌, ◌<◌, ◌≤◌, Bool, true, false, cond, eqb, List, [], ◌∷◌, ◌++◌, length, get_or, take, drop, map, Option, None, Some, ℤ, pos, negsuc, neg_ℤ, ◌+ℤ◌, ◌-ℤ◌, ◌*ℤ◌, ◌≤ℤ◌, ◌<ℤ◌, All, refl, sym, ap, ap₂, ◌∙◌, subst, ◌⊎◌, inl, inr, ⊎_elim, arith}
use Rattle.std.specs.Prelude.{not, set, int_lt}
use Rattle.std.proofs.lemmas.Int.{ints}
use Rattle.std.proofs.lemmas.Bool.{cases_eq}
use Rattle.std.proofs.lemmas.Bool.Decides.{nat_tests}
use Rattle.std.proofs.lemmas.List.{get_or-set_same, get_or-set_other, take-append-drop, drop_more, map-append}
use Rattle.std.proofs.lemmas.List.Elements.{All-head, All-tail, All-cons, All-map, All-take, All-filter}
use Rattle.std.proofs.Math.IntN.{zero-*ℤ}
use Rattle.wx_num.specs.declared.excess.NumOp.TheVariants.{Plus, Times}
use Rattle.mix_system.specs.declared.literal.Side.{Side}
use Rattle.mix_system.specs.declared.literal.Side.TheVariants.{Le, Ge}
use Rattle.mix_system.specs.declared.literal.Term.TheVariants.{Var, Row}
use Rattle.mix_system.specs.declared.row.Part.{Part}
use Rattle.mix_system.specs.Fits.{IsInRange}
use Rattle.mix_system.specs.Bounds.{range_end}
use Rattle.mix_system.specs.Row.{number_at}
use Rattle.mix_system.specs.Sum.{int_sum_by}
use Rattle.mix_system.specs.System.{System, IsRow, IsRange}
use Rattle.mix_system.proofs.ProductLaws.{le-*ℤ}
use Rattle.tableau_rows.specs.declared.entry.Entry.{Entry}
use Rattle.tableau_rows.specs.declared.equation.Equation.{Equation}
use Rattle.tableau_rows.specs.Equation.{total, coefficient}
use Rattle.tableau_rows.specs.Turning.{others, entry_of, turned_number, IsSumStep}
use Rattle.tableau_rows.proofs.FirstRowLaws.{parts_total}
use Rattle.tableau_rows.proofs.RingLaws.{mul_comm, mul_assoc, mul-add, neg-mul}
use Rattle.tableau_rows.proofs.TotalLaws.{coefficient_at}
use Rattle.bounded_simplex.specs.Broken.{side_of}
use Rattle.bounded_simplex.specs.InForce.{BoundChanges, in_force, Contradict}
use Rattle.bounded_simplex.specs.Lax.{end_of, extreme, extreme_at, IsLaxAt, IsLax}
use Rattle.bounded_simplex.specs.Point.{Admits, AreInBounds, NoneContradict, IsOutside, IsKeptPoint}
use Rattle.bounded_simplex.specs.Reach.{AreAtEnds, IsEndStep}
use Rattle.bounded_simplex.specs.Refutation.{columns_of, bound_on, hindering}
use Rattle.bounded_simplex.specs.TableauOf.{Solves}
use Rattle.bounded_simplex.proofs.CoefficientLaws.{term_of_var, term_of_row}
use Rattle.bounded_simplex.proofs.EndLaws.{var_end}

swapped : (a b c : ℤ) → a *ℤ (b *ℤ c) ≡ b *ℤ (a *ℤ c)
swapped a b c = sym (mul_assoc a b c) ∙ ap (λ z. z *ℤ c) (mul_comm a b) ∙ mul_assoc b a c

-- in the order of going upwards, or downwards
abbrev pub Ordered : (upwards : Bool) → ℤ → ℤ → Type 0
Ordered true a b = a ≤ℤ b
Ordered false a b = b ≤ℤ a

below_product : (p : ℕ) (d n end : ℤ) → n ≤ℤ (d *ℤ end) → (pos p *ℤ n) ≤ℤ (d *ℤ (pos p *ℤ end))
below_product p d n end le = subst (λ z. (pos p *ℤ n) ≤ℤ z) (swapped (pos p) d end) (le-*ℤ (pos p) n (d *ℤ end) (omega (arith, ints)) le)

above_product : (p : ℕ) (d n end : ℤ) → (d *ℤ end) ≤ℤ n → (d *ℤ (pos p *ℤ end)) ≤ℤ (pos p *ℤ n)
above_product p d n end le = subst (λ z. z ≤ℤ (pos p *ℤ n)) (swapped (pos p) d end) (le-*ℤ (pos p) (d *ℤ end) n (omega (arith, ints)) le)

turned_product : (p : ℕ) (n : ℤ) → negsuc p *ℤ n ≡ neg_ℤ (pos (suc p) *ℤ n)
turned_product p n = neg-mul (pos (suc p)) n

turned_twice : (p : ℕ) (d end : ℤ) → d *ℤ (negsuc p *ℤ end) ≡ neg_ℤ (d *ℤ (pos (suc p) *ℤ end))
turned_twice p d end = swapped d (negsuc p) end ∙ turned_product p (d *ℤ end) ∙ ap neg_ℤ (swapped (pos (suc p)) d end)

hindering_above : (upwards : Bool) (p : ℕ) → hindering upwards (pos (suc p)) ≡ cond upwards Le Ge
hindering_above upwards p = ap (λ t. cond t (cond upwards Le Ge) (cond upwards Ge Le)) above
  where
    above : int_lt (pos 0) (pos (suc p)) ≡ true
    above = first_of (grind (arith, nat_tests), grind (arith, ints))

-- a part's product over a denominator is at most that at the end, or at least
part_reach : (upwards : Bool) (c d n : ℤ) (range : ℤ × ℤ) → (d *ℤ range.0) ≤ℤ n → n ≤ℤ (d *ℤ range.1) → Ordered upwards (c *ℤ n) (d *ℤ (c *ℤ range_end (hindering upwards c) range))
part_reach true (pos zero) d n range low high = omega (arith, ints, zero-*ℤ n, ap (λ z. d *ℤ z) (zero-*ℤ range.0), mul_comm d (pos 0), zero-*ℤ d)
part_reach false (pos zero) d n range low high = omega (arith, ints, zero-*ℤ n, ap (λ z. d *ℤ z) (zero-*ℤ range.1), mul_comm d (pos 0), zero-*ℤ d)
part_reach true (pos (suc p)) d n range low high =
    subst (λ side. (pos (suc p) *ℤ n) ≤ℤ (d *ℤ (pos (suc p) *ℤ range_end side range))) (sym (hindering_above true p)) (below_product (suc p) d n range.1 high)
part_reach false (pos (suc p)) d n range low high =
    subst (λ side. (d *ℤ (pos (suc p) *ℤ range_end side range)) ≤ℤ (pos (suc p) *ℤ n)) (sym (hindering_above false p)) (above_product (suc p) d n range.0 low)
part_reach true (negsuc p) d n range low high =
    omega (arith, ints, turned_product p n, turned_twice p d range.0, above_product (suc p) d n range.0 low)
part_reach false (negsuc p) d n range low high =
    omega (arith, ints, turned_product p n, turned_twice p d range.1, below_product (suc p) d n range.1 high)

ordered_add : (upwards : Bool) (d a b x y : ℤ) → Ordered upwards a (d *ℤ x) → Ordered upwards b (d *ℤ y) → Ordered upwards (a +ℤ b) (d *ℤ (x +ℤ y))
ordered_add true d a b x y one two = omega (arith, ints, one, two, mul-add d x y)
ordered_add false d a b x y one two = omega (arith, ints, one, two, mul-add d x y)

ordered_zero : (upwards : Bool) (d : ℤ) → Ordered upwards (pos 0) (d *ℤ pos 0)
ordered_zero true d = omega (arith, ints, mul_comm d (pos 0), zero-*ℤ d)
ordered_zero false d = omega (arith, ints, mul_comm d (pos 0), zero-*ℤ d)

-- a number over a denominator lies in a range
abbrev pub IsOver : ℤ → ℤ × ℤ → ℤ → Type 0
IsOver d range n = ((d *ℤ range.0) ≤ℤ n) × (n ≤ℤ (d *ℤ range.1))

pub sum_reach : (upwards : Bool) (ranges : List (ℤ × ℤ)) (d : ℤ) (number : ℕ → ℤ) (parts : List Part) → All (λ part. IsOver d (get_or ranges part.var (pos 0, pos 0)) (number part.var)) parts
    → Ordered upwards (int_sum_by (λ part. part.coeff *ℤ number part.var) parts) (d *ℤ extreme ranges upwards parts)
sum_reach upwards ranges d number [] all = ordered_zero upwards d
sum_reach upwards ranges d number (part ∷ parts) all =
    let first = All-head (λ (part : Part). IsOver d (get_or ranges part.var (pos 0, pos 0)) (number part.var)) part parts all in
    let rest = sum_reach upwards ranges d number parts (All-tail (λ (part : Part). IsOver d (get_or ranges part.var (pos 0, pos 0)) (number part.var)) part parts all) in
    ordered_add upwards d (part.coeff *ℤ number part.var) (int_sum_by (λ part. part.coeff *ℤ number part.var) parts) (part.coeff *ℤ end_of ranges upwards part) (extreme ranges upwards parts)
    (part_reach upwards part.coeff d (number part.var) (get_or ranges part.var (pos 0, pos 0)) first.0 first.1) rest

-- a variable that keeps its bounds in force lies in its range
pub over_range : (bounds : BoundChanges) (var : ℕ) (d n : ℤ) → pos 1 ≤ℤ d → ((side : Side) → Admits side (in_force bounds (Var var) side) d n) → IsOver d (get_or bounds.system.ranges var (pos 0, pos 0)) n
over_range bounds var d n positive admits =
    let range = get_or bounds.system.ranges var (pos 0, pos 0) in
    let low = var_end bounds var Ge in
    let high = var_end bounds var Le in
    let keeps_low : (d *ℤ low.bound) ≤ℤ n = subst (λ o. Admits Ge o d n) low.is (admits Ge) in
    let keeps_high : n ≤ℤ (d *ℤ high.bound) = subst (λ o. Admits Le o d n) high.is (admits Le) in (
      omega (arith, ints, keeps_low, le-*ℤ d range.0 low.bound (omega (arith, ints, positive)) low.as_tight),
      omega (arith, ints, keeps_high, le-*ℤ d high.bound range.1 (omega (arith, ints, positive)) high.as_tight),
    )

-- values within the bounds in force lie in the ranges
pub vars_in_range : (bounds : BoundChanges) (values : List ℤ) → length values ≡ columns_of bounds.system → AreInBounds bounds values → (var : ℕ) → var < length bounds.system.ranges
    → IsInRange (get_or bounds.system.ranges var (pos 0, pos 0)) (number_at values var)
vars_in_range bounds values count in_bounds var within =
    let over = over_range bounds var (pos 1) (number_at values var) (omega (arith, ints))
    (λ side. subst (λ t. Admits side (in_force bounds t side) (pos 1) (number_at values var)) (term_of_var (length bounds.system.ranges) var within) (in_bounds var side (omega (arith, within, count)))) in
    (omega (arith, ints, over.0), omega (arith, ints, over.1))

-- a lax bound holds at each solution of the system whose variables keep their bounds
pub lax_holds : (bounds : BoundChanges) (row : ℕ) (d : ℤ) (number : ℕ → ℤ) → IsRow (length bounds.system.ranges) (get_or bounds.system.rows row []) → row < length bounds.system.rows → pos 1 ≤ℤ d → Solves bounds.system number
    → ((var : ℕ) (side : Side) → var < length bounds.system.ranges → Admits side (in_force bounds (Var var) side) d (number var)) → (side : Side) (end : Option ℤ)
    → ((bound : ℤ) → end ≡ Some bound → IsLaxAt bounds.system (Row row) side bound) → Admits side end d (number (length bounds.system.ranges + row))
lax_holds bounds row d number is within positive solves vars side None lax = tt
lax_holds bounds row d number is within positive solves vars Ge (Some bound) lax =
    let parts = get_or bounds.system.rows row [] in
    let sum = sum_reach false bounds.system.ranges d number parts (λ k e inside. over_range bounds (get_or parts k e).var d (number (get_or parts k e).var) positive (λ side. vars (get_or parts k e).var side (is.known k e inside))) in
    let less : bound ≤ℤ extreme_at bounds.system row false = lax bound refl in
    omega (arith, ints, solves row within, sum, le-*ℤ d bound (extreme_at bounds.system row false) (omega (arith, ints, positive)) less)
lax_holds bounds row d number is within positive solves vars Le (Some bound) lax =
    let parts = get_or bounds.system.rows row [] in
    let sum = sum_reach true bounds.system.ranges d number parts (λ k e inside. over_range bounds (get_or parts k e).var d (number (get_or parts k e).var) positive (λ side. vars (get_or parts k e).var side (is.known k e inside))) in
    let less : extreme_at bounds.system row true ≤ℤ bound = lax bound refl in
    omega (arith, ints, solves row within, sum, le-*ℤ d (extreme_at bounds.system row true) bound (omega (arith, ints, positive)) less)

-- the steps of a sum at the ends
module _ (ranges : List (ℤ × ℤ)) (upwards : Bool) (parts : List Part) (i : ℕ) (e : Part) (within : i < length parts) (number : ℕ → ℤ) (ends : AreAtEnds ranges upwards number parts) where
  entries_split : map entry_of parts ≡ map entry_of (take i parts) ++ entry_of (get_or parts i e) ∷ map entry_of (drop (i + 1) parts)
  entries_split =
      ap (map entry_of) (sym (take-append-drop i parts) ∙ ap (λ rest. take i parts ++ rest) (drop_more parts i e within))
      ∙ map-append entry_of (take i parts) (get_or parts i e ∷ drop (i + 1) parts)

  sum_at : (ps : List Part) → AreAtEnds ranges upwards number ps → int_sum_by (λ part. part.coeff *ℤ number part.var) ps ≡ extreme ranges upwards ps
  sum_at [] all = refl
  sum_at (p ∷ ps) all =
      let first = All-head (λ (part : Part). number part.var ≡ end_of ranges upwards part) p ps all in
      let rest = sum_at ps (All-tail (λ (part : Part). number part.var ≡ end_of ranges upwards part) p ps all) in
      λ j. p.coeff *ℤ first j +ℤ rest j

  pub product_step : IsSumStep number (map entry_of parts) (record { op = Times; x = (get_or parts i e).coeff; y = end_of ranges upwards (get_or parts i e) })
  product_step = record {
    before = map entry_of (take i parts);
    entry = entry_of (get_or parts i e);
    after = map entry_of (drop (i + 1) parts);
    split = entries_split;
    formed = inl (ap (λ y. record { op = Times; x = (get_or parts i e).coeff; y = y }) (sym (ends i e within)));
  }

  pub sum_step : IsSumStep number (map entry_of parts) (record { op = Plus; x = extreme ranges upwards (take i parts); y = (get_or parts i e).coeff *ℤ end_of ranges upwards (get_or parts i e) })
  sum_step =
      let before = parts_total number (take i parts) ∙ sum_at (take i parts) (All-take (λ (part : Part). number part.var ≡ end_of ranges upwards part) i parts ends) in
      record {
        before = map entry_of (take i parts);
        entry = entry_of (get_or parts i e);
        after = map entry_of (drop (i + 1) parts);
        split = entries_split;
        formed = inr (ap₂ (λ x y. record { op = Plus; x = x; y = (get_or parts i e).coeff *ℤ y }) (sym before) (sym (ends i e within)));
      }
