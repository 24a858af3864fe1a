-- Values stay within the ranges and the sums over them, where columns are moved to bounds in force.
use Rattle.std.proofs.Common.{◌≡◌, ◌≢◌, ℕ, ◌+◌, ◌<◌, ◌≤◌, true, false, List, [], ◌∷◌, length, get_or, Option, None, Some, ℤ, pos, ◌+ℤ◌, ◌*ℤ◌, ◌≤ℤ◌, ◌<ℤ◌, All, refl, sym, ap, ◌∙◌, subst, ◌⊎◌, inl, inr, ⊎_elim, arith}
use Rattle.std.specs.Prelude.{set}
use Rattle.std.proofs.lemmas.Int.{ints}
use Rattle.std.proofs.lemmas.Bool.{cases_eq}
use Rattle.std.proofs.lemmas.List.{get_or-set_same, get_or-set_other, length-set}
use Rattle.mix_system.specs.declared.literal.Side.{Side}
use Rattle.mix_system.specs.declared.literal.Side.TheVariants.{Le, Ge}
use Rattle.mix_system.specs.declared.literal.Term.TheVariants.{Var, Row}
use Rattle.mix_system.specs.Fits.{IsInRange}
use Rattle.mix_system.specs.Row.{number_at}
use Rattle.mix_system.specs.System.{System, IsWellFormed}
use Rattle.tableau_rows.specs.declared.equation.Equation.{Equation}
use Rattle.bounded_simplex.specs.InForce.{BoundChanges, in_force}
use Rattle.bounded_simplex.specs.Lax.{extreme_at, IsLaxAt, IsLax}
use Rattle.bounded_simplex.specs.Pivot.{ArePivoted}
use Rattle.bounded_simplex.specs.Point.{AreInBounds, IsOutside}
use Rattle.bounded_simplex.specs.Reach.{AreInReach, IsFree, HasRoom, HaveRoom}
use Rattle.bounded_simplex.specs.Refutation.{columns_of, bound_on}
use Rattle.bounded_simplex.specs.Settled.{AreLow, IsMoved, StaysBetween, at_bound, stays, up, down}
use Rattle.bounded_simplex.specs.TableauOf.{IsOfRow}
use Rattle.bounded_simplex.specs.Terms.{term_of}
use Rattle.bounded_simplex.specs.declared.reach.Reach.{Reach}
use Rattle.bounded_simplex.proofs.CoefficientLaws.{term_of_row}
use Rattle.bounded_simplex.proofs.PointLaws.{le_or_above}
use Rattle.bounded_simplex.proofs.ReachLaws.{vars_in_range}
use Rattle.bounded_simplex.proofs.StepLaws.{length_at_bound}

-- where the basis is the rows, none of them is outside it
pub none_outside : (system : System) (rows : List Equation) → length rows ≡ length system.rows → ((k : ℕ) (d : Equation) → k < length rows → IsOfRow system k (get_or rows k d))
    → (row : ℕ) → row < length system.rows → IsOutside rows (length system.ranges + row) → ⊥
none_outside system [] count each row within outside = absurd (omega (arith, count, within))
none_outside system (x ∷ xs) count each row within outside =
    let inside : row < length (x ∷ xs) = omega (arith, count, within) in
    outside row x inside (each row x inside).basic

pub first_in_reach : (system : System) (rows : List Equation) (values : List ℤ) → length rows ≡ length system.rows → ((k : ℕ) (d : Equation) → k < length rows → IsOfRow system k (get_or rows k d))
    → ((var : ℕ) → var < length system.ranges → IsInRange (get_or system.ranges var (pos 0, pos 0)) (number_at values var)) → AreInReach system rows values
first_in_reach system rows values count each vars = record {
  vars = vars;
  sums = λ row within outside. absurd (none_outside system rows count each row within outside);
}

pub low_in_range : (system : System) (values : List ℤ) → IsWellFormed system → AreLow system values
    → (var : ℕ) → var < length system.ranges → IsInRange (get_or system.ranges var (pos 0, pos 0)) (number_at values var)
low_in_range system values formed low var within =
    let ordered = (formed.ranges var (pos 0, pos 0) within).ordered in
    (omega (arith, ints, low var within), omega (arith, ints, low var within, ordered))

abbrev pub blank : Reach
blank = record { least = None; greatest = None }

-- a row that has a bound has room for it
pub room_of : (bounds : BoundChanges) (reaches : List Reach) → HaveRoom bounds reaches → (row : ℕ) → row < length bounds.system.rows → (side : Side) (bound : ℤ) → in_force bounds (Row row) side ≡ Some bound
    → HasRoom bounds row (get_or reaches row blank)
room_of bounds reaches room row within side bound is =
    ⊎_elim (λ (free : IsFree bounds row). absurd (none side free is)) (λ (has : HasRoom bounds row (get_or reaches row blank)). has) (room.each row blank (omega (arith, within, room.one_each)))
  where
    none : (side : Side) → IsFree bounds row → in_force bounds (Row row) side ≡ Some bound → ⊥
    none Ge free is = let e : None ≡ Some bound = sym free.0 ∙ is in cc
    none Le free is = let e : None ≡ Some bound = sym free.1 ∙ is in cc

abbrev pub IsBetween : System → ℕ → ℤ → Type 0
IsBetween system row value = (extreme_at system row false ≤ℤ value) × (value ≤ℤ extreme_at system row true)

module _ (bounds : BoundChanges) (reaches : List Reach) (room : HaveRoom bounds reaches) where
  moved_between : (row : ℕ) → row < length bounds.system.rows → (old new : ℤ) → IsMoved (in_force bounds (Row row) Ge) (in_force bounds (Row row) Le) old new → IsBetween bounds.system row old → IsBetween bounds.system row new
  moved_between row within old new (stays same) between = rw same between
  moved_between row within old new (up is le) between =
      let has = room_of bounds reaches room row within Ge new is in
      (omega (arith, ints, between.0, le), has.low new is)
  moved_between row within old new (down is le) between =
      let has = room_of bounds reaches room row within Le new is in
      (has.high new is, omega (arith, ints, between.1, le))

  -- columns that are moved into their bounds
  pub settled_in_reach : (rows : List Equation) (old new : List ℤ) → length old ≡ columns_of bounds.system → length new ≡ columns_of bounds.system → AreInReach bounds.system rows old → AreInBounds bounds new
      → ((column : ℕ) → column < length old → StaysBetween bounds column (number_at old column) (number_at new column)) → AreInReach bounds.system rows new
  settled_in_reach rows old new count_old count_new reach in_bounds kept = record {
    vars = vars_in_range bounds new count_new in_bounds;
    sums = λ row within outside.
        let column = length bounds.system.ranges + row in
        let moved = subst (λ t. IsMoved (in_force bounds t Ge) (in_force bounds t Le) (number_at old column) (number_at new column)) (term_of_row (length bounds.system.ranges) row) (kept column (omega (arith, within, count_old))) in
        moved_between row within (number_at old column) (number_at new column) moved (reach.sums row within outside);
  }

  -- a bound that isn't lax lies between the sums
  tight_between : (row : ℕ) → row < length bounds.system.rows → (side : Side) (bound : ℤ) → in_force bounds (Row row) side ≡ Some bound → ¬ IsLaxAt bounds.system (Row row) side bound → IsBetween bounds.system row bound
  tight_between row within Ge bound is tight =
      let has = room_of bounds reaches room row within Ge bound is in
      let low : extreme_at bounds.system row false ≤ℤ bound =
      ⊎_elim (λ (h : bound ≤ℤ extreme_at bounds.system row false). absurd (tight h)) (λ (h : (extreme_at bounds.system row false +ℤ pos 1) ≤ℤ bound). omega (arith, ints, h)) (le_or_above bound (extreme_at bounds.system row false)) in
      (low, has.low bound is)
  tight_between row within Le bound is tight =
      let has = room_of bounds reaches room row within Le bound is in
      let high : bound ≤ℤ extreme_at bounds.system row true =
      ⊎_elim (λ (h : extreme_at bounds.system row true ≤ℤ bound). absurd (tight h)) (λ (h : (bound +ℤ pos 1) ≤ℤ extreme_at bounds.system row true). omega (arith, ints, h)) (le_or_above (extreme_at bounds.system row true) bound) in
      (has.high bound is, high)

  module _ (rows new : List Equation) (values : List ℤ) (at entering basic : ℕ) (within : at < length rows) (pivoted : ArePivoted at entering rows new) (is_basic : (d : Equation) → basic ≡ (get_or rows at d).basic) where
    -- what is outside the basis after a pivot was so before, but for the column that left
    was_outside : (column : ℕ) → column ≢ basic → IsOutside new column → IsOutside rows column
    was_outside column other outside k d inside same =
        ⊎_elim (λ (here : k ≡ at). other (sym same ∙ ap (λ n. (get_or rows n d).basic) here ∙ sym (is_basic d)))
        (λ (there : k ≢ at). outside k d (omega (arith, inside, pivoted.as_many)) ((pivoted.others k d inside there).basic ∙ same)) (cases_eq k at)

    -- a column that leaves the basis at a bound that isn't lax
    pub left_in_reach : (side : Side) (end : Option ℤ) → end ≡ bound_on bounds basic side → basic < length values → length values ≡ columns_of bounds.system → ¬ IsLax bounds basic side
        → AreInReach bounds.system rows values → AreInBounds bounds (at_bound values basic end) → AreInReach bounds.system new (at_bound values basic end)
    left_in_reach side None is inside count tight reach in_bounds = absurd (tight (λ bound e. let f : None ≡ Some bound = is ∙ e in cc))
    left_in_reach side (Some bound) is inside count tight reach in_bounds = record {
      vars = vars_in_range bounds (set values basic bound) (length-set values basic bound ∙ count) in_bounds;
      sums = λ row within outside.
          let column = length bounds.system.ranges + row in
          ⊎_elim (λ (same : column ≡ basic).
          let value : number_at (set values basic bound) column ≡ bound = ap (number_at (set values basic bound)) same ∙ get_or-set_same values basic bound (pos 0) inside in
          let at_row : in_force bounds (Row row) side ≡ Some bound = ap (λ t. in_force bounds t side) (sym (term_of_row (length bounds.system.ranges) row)) ∙ ap (λ c. bound_on bounds c side) same ∙ sym is in
          let not_lax : ¬ IsLaxAt bounds.system (Row row) side bound = λ lax.
          tight (λ b e.
          let f : Some bound ≡ Some b = is ∙ e in
          let g : bound ≡ b = cc in
          lax_there row same b g lax) in
          rw value (tight_between row within side bound at_row not_lax))
          (λ (other : column ≢ basic).
          rw (get_or-set_other values basic column bound (pos 0) other) (reach.sums row within (was_outside column other outside))) (cases_eq column basic);
    }
      where
        lax_there : (row : ℕ) → length bounds.system.ranges + row ≡ basic → (b : ℤ) → bound ≡ b → IsLaxAt bounds.system (Row row) side bound → IsLaxAt bounds.system (term_of (length bounds.system.ranges) basic) side b
        lax_there row same b g lax =
            subst (λ t. IsLaxAt bounds.system t side b) (sym (term_of_row (length bounds.system.ranges) row) ∙ ap (term_of (length bounds.system.ranges)) same) (subst (λ z. IsLaxAt bounds.system (Row row) side z) g lax)

-- one more column is moved into its bounds
pub moved_more : (bounds : BoundChanges) (old values : List ℤ) (i : ℕ) (v : ℤ) → i < length values → ((column : ℕ) → i ≤ column → number_at values column ≡ number_at old column) → StaysBetween bounds i (number_at values i) v
    → ((column : ℕ) → column < i → StaysBetween bounds column (number_at old column) (number_at values column)) → (column : ℕ) → column < i + 1 → StaysBetween bounds column (number_at old column) (number_at (set values i v) column)
moved_more bounds old values i v within later here before column inside =
    ⊎_elim (λ (same : column ≡ i).
    let value : number_at (set values i v) column ≡ v = ap (number_at (set values i v)) same ∙ get_or-set_same values i v (pos 0) within in
    rw (value, same, ← later i (omega arith)) here)
    (λ (other : column ≢ i).
    rw (get_or-set_other values i column v (pos 0) other) (before column (omega (arith, inside, other)))) (cases_eq column i)

pub later_more : (old values : List ℤ) (i : ℕ) (v : ℤ) → ((column : ℕ) → i ≤ column → number_at values column ≡ number_at old column) → (column : ℕ) → i + 1 ≤ column → number_at (set values i v) column ≡ number_at old column
later_more old values i v later column above = get_or-set_other values i column v (pos 0) (λ same. absurd (omega (arith, same, above))) ∙ later column (omega (arith, above))

-- an equation of a list that has one
pub some_equation : (rows : List Equation) (at : ℕ) → at < length rows → Equation
some_equation [] at within = absurd (omega (arith, within))
some_equation (x ∷ xs) at within = x

-- the basic term of a row's equation
pub row_term : (system : System) (row : ℕ) (equation : Equation) → IsOfRow system row equation → Row row ≡ term_of (length system.ranges) equation.basic
row_term system row equation is = sym (ap (term_of (length system.ranges)) is.basic ∙ term_of_row (length system.ranges) row)
