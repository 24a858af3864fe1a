-- The kept point: there is one, and each bound keeps or breaks all ways to write it.
use Rattle.std.proofs.Common.{◌≡◌, ◌≢◌, ℕ, suc, ◌<◌, ◌≤◌, ◌+◌, ◌-◌, true, false, cond, eqb, List, [], ◌∷◌, length, get_or, Option, None, Some, ℤ, pos, negsuc, ◌+ℤ◌, ◌-ℤ◌, ◌*ℤ◌, ◌≤ℤ◌, All, refl, sym, ap, ◌∙◌, subst, ◌⊎◌, inl, inr, ⊎_elim, arith}
use Rattle.std.specs.Prelude.{not}
use Rattle.std.proofs.lemmas.Int.{ints}
use Rattle.std.proofs.lemmas.Bool.{cases_eq, cases_lt}
use Rattle.std.proofs.lemmas.Bool.Decides.{nat_tests}
use Rattle.std.proofs.lemmas.List.Elements.{All-head, All-tail, All-cons, All-nil, All-filter}
use Rattle.std.proofs.lemmas.List.{get_or_default}
use Rattle.std.proofs.Math.IntN.{*ℤ-zero}
use Rattle.mix_system.specs.declared.literal.Side.{Side}
use Rattle.mix_system.specs.declared.literal.Side.TheVariants.{Le, Ge}
use Rattle.mix_system.specs.Row.{number_at}
use Rattle.mix_system.specs.System.{System, IsWellFormed}
use Rattle.mix_system.specs.declared.literal.Term.TheVariants.{Var, Row}
use Rattle.mix_system.proofs.ProductLaws.{le-*ℤ}
use Rattle.tableau_rows.specs.declared.entry.Entry.{Entry}
use Rattle.tableau_rows.specs.declared.equation.Equation.{Equation}
use Rattle.tableau_rows.specs.Equation.{total, unit, coefficient}
use Rattle.tableau_rows.specs.Substitution.{taken, sum_at, Satisfies}
use Rattle.tableau_rows.specs.Turning.{others}
use Rattle.tableau_rows.proofs.TotalLaws.{unit_same, unit_other}
use Rattle.tableau_rows.proofs.RingLaws.{mul_comm, add-mul, mul-add, mul_assoc, neg-mul}
use Rattle.bounded_simplex.specs.InForce.{BoundChanges, in_force}
use Rattle.bounded_simplex.specs.Lax.{IsLaxAt, IsLax}
use Rattle.bounded_simplex.specs.Terms.{term_of}
use Rattle.bounded_simplex.specs.Point.{Admits, AreInBounds, numerator_of, Keeps, IsOutside, IsKeptPoint, IsPoint, IsBeyond}
use Rattle.bounded_simplex.specs.Refutation.{columns_of, bound_on}
use Rattle.bounded_simplex.specs.TableauOf.{AllHold, AreApart, Solves, TableauOf}
use Rattle.bounded_simplex.proofs.CoefficientLaws.{term_of_var, term_of_row}
use Rattle.bounded_simplex.proofs.EndLaws.{var_end}
use Rattle.bounded_simplex.proofs.ReachLaws.{lax_holds}
use Rattle.bounded_simplex.proofs.EachLaws.{IsBasicOf, outside_or_basic}
use Rattle.bounded_simplex.proofs.WithinLaws.{no_entry, entry_taken}

eqb_same : (a : ℕ) → eqb a a ≡ true
eqb_same a = grind (arith, nat_tests)

eqb_other : (a b : ℕ) → a ≢ b → eqb a b ≡ false
eqb_other a b h = grind (arith, nat_tests)

positive_product : (a b : ℤ) → pos 1 ≤ℤ a → pos 1 ≤ℤ b → pos 1 ≤ℤ (a *ℤ b)
positive_product a b pa pb = let le = le-*ℤ a (pos 1) b (omega (arith, ints)) pb in omega (arith, ints, le)

pub le_or_above : (x y : ℤ) → (x ≤ℤ y) ⊎ ((y +ℤ pos 1) ≤ℤ x)
le_or_above (pos x) (pos y) = ⊎_elim (λ (h : y < x). inr (omega (arith, ints))) (λ (h : x ≤ y). inl (omega (arith, ints))) (cases_lt y x)
le_or_above (pos x) (negsuc y) = inr (omega (arith, ints))
le_or_above (negsuc x) (pos y) = inl (omega (arith, ints))
le_or_above (negsuc x) (negsuc y) = ⊎_elim (λ (h : x < y). inr (omega (arith, ints))) (λ (h : y ≤ x). inl (omega (arith, ints))) (cases_lt x y)

-- a factor of 1 or more is left out of an order
cancel_le : (d x y : ℤ) → pos 1 ≤ℤ d → (d *ℤ x) ≤ℤ (d *ℤ y) → x ≤ℤ y
cancel_le d x y positive le =
    ⊎_elim (λ (h : x ≤ℤ y). h)
    (λ (h : (y +ℤ pos 1) ≤ℤ x).
    let more = le-*ℤ d (y +ℤ pos 1) x (omega (arith, ints)) h in
    absurd (omega (arith, ints, more, mul-add d y (pos 1), le, positive)))
    (le_or_above x y)

swapped : (a b c : ℤ) → a *ℤ (b *ℤ c) ≡ b *ℤ (a *ℤ c)
swapped a b c = sym (mul_assoc a b c) ∙ ap (λ z. z *ℤ c) (mul_comm a b) ∙ mul_assoc b a c

-- one value over two denominators keeps the same bounds
pub admits_same : (side : Side) (bound : Option ℤ) (d n e m : ℤ) → pos 1 ≤ℤ d → pos 1 ≤ℤ e → d *ℤ m ≡ e *ℤ n → Admits side bound d n → Admits side bound e m
admits_same side None d n e m pd pe same keeps = tt
admits_same Ge (Some bound) d n e m pd pe same keeps =
    cancel_le d (e *ℤ bound) m pd (rw (swapped d e bound, same) (le-*ℤ e (d *ℤ bound) n (omega (arith, ints)) keeps))
admits_same Le (Some bound) d n e m pd pe same keeps =
    cancel_le d m (e *ℤ bound) pd (rw (swapped d e bound, same) (le-*ℤ e n (d *ℤ bound) (omega (arith, ints)) keeps))

-- sums over columns
pub total_same : (es : List Entry) (f g : ℕ → ℤ) → All (λ entry. f entry.column ≡ g entry.column) es → total f es ≡ total g es
total_same [] f g all = refl
total_same (e ∷ es) f g all =
    let first = All-head (λ (entry : Entry). f entry.column ≡ g entry.column) e es all in
    let rest = total_same es f g (All-tail (λ (entry : Entry). f entry.column ≡ g entry.column) e es all) in
    (λ i. e.coeff *ℤ first i +ℤ rest i)

total_times : (es : List Entry) (k : ℤ) (f : ℕ → ℤ) → total (λ column. k *ℤ f column) es ≡ k *ℤ total f es
total_times [] k f = omega (arith, ints)
total_times (e ∷ es) k f =
    (λ i. swapped e.coeff k (f e.column) i +ℤ total_times es k f i) ∙ sym (mul-add k (e.coeff *ℤ f e.column) (total f es))

pub others_skip : (b : ℕ) (e : Entry) (es : List Entry) → e.column ≡ b → others b (e ∷ es) ≡ others b es
others_skip b e es same = ap (λ t. cond t (e ∷ others b es) (others b es)) (is_basic e.column b same)
  where
    is_basic : (a b : ℕ) → a ≡ b → not (eqb a b) ≡ false
    is_basic a b h = grind (arith, nat_tests)

pub others_keep : (b : ℕ) (e : Entry) (es : List Entry) → e.column ≢ b → others b (e ∷ es) ≡ e ∷ others b es
others_keep b e es other = ap (λ t. cond t (e ∷ others b es) (others b es)) (is_other e.column b other)
  where
    is_other : (a b : ℕ) → a ≢ b → not (eqb a b) ≡ true
    is_other a b h = grind (arith, nat_tests)

-- none of the others has the basic column
pub others_apart : (es : List Entry) (b : ℕ) → All (λ entry. entry.column ≢ b) (others b es)
others_apart [] b = All-nil (λ (entry : Entry). entry.column ≢ b)
others_apart (e ∷ es) b =
    let rest = others_apart es b in
    ⊎_elim (λ (same : e.column ≡ b). subst (All (λ (entry : Entry). entry.column ≢ b)) (sym (others_skip b e es same)) rest)
    (λ (other : e.column ≢ b). subst (All (λ (entry : Entry). entry.column ≢ b)) (sym (others_keep b e es other)) (All-cons (λ (entry : Entry). entry.column ≢ b) e (others b es) other rest))
    (cases_eq e.column b)

split_at : (b : ℕ) (f : ℕ → ℤ) (e : Entry) (es : List Entry) → total f es ≡ coefficient es b *ℤ f b +ℤ total f (others b es)
    → total f (e ∷ es) ≡ coefficient (e ∷ es) b *ℤ f b +ℤ total f (others b (e ∷ es))
split_at b f e es rest =
    ⊎_elim (λ (same : e.column ≡ b).
    let here : unit b e.column ≡ pos 1 = subst (λ c. unit b c ≡ pos 1) (sym same) (unit_same b) in
    let coeff : coefficient (e ∷ es) b ≡ e.coeff +ℤ coefficient es b = omega (arith, ints, ap (λ u. e.coeff *ℤ u) here) in
    omega (arith, ints, rest, ap (total f) (others_skip b e es same), ap (λ z. z *ℤ f b) coeff, add-mul e.coeff (coefficient es b) (f b), ap (λ c. e.coeff *ℤ f c) same))
    (λ (other : e.column ≢ b).
    let here : unit b e.column ≡ pos 0 = unit_other b e.column (λ same. other (sym same)) in
    let coeff : coefficient (e ∷ es) b ≡ coefficient es b = omega (arith, ints, ap (λ u. e.coeff *ℤ u) here) in
    omega (arith, ints, rest, ap (total f) (others_keep b e es other), ap (λ z. z *ℤ f b) coeff)) (cases_eq e.column b)

-- the basic column apart from the others
pub total_split : (es : List Entry) (b : ℕ) (f : ℕ → ℤ) → total f es ≡ coefficient es b *ℤ f b +ℤ total f (others b es)
total_split [] b f = omega (arith, ints)
total_split (e ∷ es) b f = split_at b f e es (total_split es b f)

pub solved_split : (equation : Equation) (f : ℕ → ℤ) → sum_at f equation ≡ total f (others equation.basic equation.entries.items) -ℤ equation.denominator *ℤ f equation.basic
solved_split equation f =
    omega (arith, ints, total_split equation.entries.items equation.basic f, ap (λ z. z *ℤ f equation.basic) equation.sound.solved, neg-mul equation.denominator (f equation.basic))

-- numbers that an equation's other columns take so many times from the values
others_total : (equation : Equation) (values : List ℤ) (denominator : ℤ) (number : ℕ → ℤ)
    → All (λ entry. entry.column ≢ equation.basic → number entry.column ≡ denominator *ℤ number_at values entry.column) equation.entries.items
    → total number (others equation.basic equation.entries.items) ≡ denominator *ℤ numerator_of values equation
others_total equation values denominator number all =
    let es = equation.entries.items in
    let kept = All-filter (λ (entry : Entry). not (eqb entry.column equation.basic)) (λ (entry : Entry). entry.column ≢ equation.basic → number entry.column ≡ denominator *ℤ number_at values entry.column) es all in
    total_same (others equation.basic es) number (λ column. denominator *ℤ number_at values column) (λ k d within. kept k d within (others_apart es equation.basic k d within))
    ∙ total_times (others equation.basic es) denominator (number_at values)

-- a column that an equation of a tableau takes is outside the basis, or its own
taken_outside : (rows : List Equation) (k : ℕ) (row : Equation) → AreApart rows → k < length rows → row ≡ get_or rows k row
    → (i : ℕ) (e : Entry) → i < length row.entries.items → (get_or row.entries.items i e).column ≢ row.basic → IsOutside rows (get_or row.entries.items i e).column
taken_outside rows k row apart within is i e inside other j d j_within same =
    let at_j : get_or rows j row ≡ get_or rows j d = get_or_default rows j row d j_within in
    let basic : (get_or rows j row).basic ≡ (get_or row.entries.items i e).column = ap (λ (x : Equation). x.basic) at_j ∙ same in
    ⊎_elim (λ (eq : k ≡ j). other (sym basic ∙ ap (λ n. (get_or rows n row).basic) (sym eq) ∙ ap (λ (x : Equation). x.basic) (sym is)))
    (λ (differ : k ≢ j).
    entry_taken row i e inside ((λ t. taken (is t) (sym basic t)) ∙ apart k j row within j_within differ)) (cases_eq k j)

-- numbers over one denominator that meet some equations, and outside their basis are the values
record MeetsAll (rows : List Equation) (values : List ℤ) : Type 0 where
  pub denominator : ℤ
  pub number : ℕ → ℤ
  pub positive : pos 1 ≤ℤ denominator
  pub holds : AllHold rows number
  pub rest : (column : ℕ) → IsOutside rows column → number column ≡ denominator *ℤ number_at values column

module _ (row : Equation) (rows : List Equation) (values : List ℤ) (apart : AreApart (row ∷ rows)) (before : MeetsAll rows values) where
  abbrev next : ℕ → ℤ
  next column = cond (eqb column row.basic) (before.denominator *ℤ numerator_of values row) (row.denominator *ℤ before.number column)

  next_here : next row.basic ≡ before.denominator *ℤ numerator_of values row
  next_here = ap (λ t. cond t (before.denominator *ℤ numerator_of values row) (row.denominator *ℤ before.number row.basic)) (eqb_same row.basic)

  next_other : (column : ℕ) → column ≢ row.basic → next column ≡ row.denominator *ℤ before.number column
  next_other column other = ap (λ t. cond t (before.denominator *ℤ numerator_of values row) (row.denominator *ℤ before.number column)) (eqb_other column row.basic other)

  -- without the basic column, a sum is so many times what it was
  next_total : (es : List Entry) → All (λ entry. entry.column ≢ row.basic) es → total next es ≡ row.denominator *ℤ total before.number es
  next_total es all =
      total_same es next (λ column. row.denominator *ℤ before.number column) (λ k d within. next_other (get_or es k d).column (all k d within))
      ∙ total_times es row.denominator before.number

  outside_rest : (i : ℕ) (e : Entry) → i < length row.entries.items → IsOutside rows (get_or row.entries.items i e).column
  outside_rest i e inside j d within same =
      entry_taken row i e inside (ap (taken row) (sym same) ∙ apart 0 (suc j) d (omega arith) (omega arith) (λ eq. absurd (omega arith)))

  next_row : Satisfies next row
  next_row =
      let es = row.entries.items in
      let n = numerator_of values row in
      let of_next = next_total (others row.basic es) (others_apart es row.basic) in
      let of_before = others_total row values before.denominator before.number (λ i e inside other. before.rest (get_or es i e).column (outside_rest i e inside)) in
      omega (arith, ints, solved_split row next, of_next, ap (λ z. row.denominator *ℤ z) of_before, ap (λ z. row.denominator *ℤ z) next_here)

  next_rows : AllHold rows next
  next_rows k d within =
      let other = get_or rows k d in
      let none = no_entry other row.basic (apart (suc k) 0 d (omega arith) (omega arith) (λ eq. absurd (omega arith))) in
      next_total other.entries.items none ∙ ap (λ z. row.denominator *ℤ z) (before.holds k d within) ∙ *ℤ-zero row.denominator

  meets_more : MeetsAll (row ∷ rows) values
  meets_more = record {
    denominator = row.denominator *ℤ before.denominator;
    number = next;
    positive = positive_product row.denominator before.denominator row.sound.positive before.positive;
    holds = All-cons (Satisfies next) row rows next_row next_rows;
    rest = λ column outside.
        let other : column ≢ row.basic = λ same. All-head (λ (equation : Equation). equation.basic ≢ column) row rows outside (sym same) in
        next_other column other ∙ ap (λ z. row.denominator *ℤ z) (before.rest column (All-tail (λ (equation : Equation). equation.basic ≢ column) row rows outside))
        ∙ sym (mul_assoc row.denominator before.denominator (number_at values column));
  }

apart_rest : (row : Equation) (rows : List Equation) → AreApart (row ∷ rows) → AreApart rows
apart_rest row rows apart i j d i_within j_within differ = apart (suc i) (suc j) d (omega arith) (omega arith) (λ same. differ (omega arith))

meets_all : (rows : List Equation) (values : List ℤ) → AreApart rows → MeetsAll rows values
meets_all [] values apart = record {
  denominator = pos 1;
  number = number_at values;
  positive = omega (arith, ints);
  holds = All-nil (Satisfies (number_at values));
  rest = λ column outside. omega (arith, ints);
}
meets_all (row ∷ rows) values apart = meets_more row rows values apart (meets_all rows values (apart_rest row rows apart))

-- the basic column's number over the denominator is its equation's numerator over its own
pub value_of : (system : System) (rows : List Equation) (values : List ℤ) (denominator : ℤ) (number : ℕ → ℤ) → TableauOf system rows → IsKeptPoint system rows values denominator number
    → (k : ℕ) (row : Equation) → k < length rows → row ≡ get_or rows k row → row.denominator *ℤ number row.basic ≡ denominator *ℤ numerator_of values row
value_of system rows values denominator number of kept k row within is =
    let holds : Satisfies number row = subst (Satisfies number) (sym is) ((of.same_solutions number).0 kept.solves k row within) in
    let sum = others_total row values denominator number (λ i e inside other. kept.rest (get_or row.entries.items i e).column (taken_outside rows k row of.apart within is i e inside other)) in
    omega (arith, ints, solved_split row number, holds, sum)

module _ (bounds : BoundChanges) (rows : List Equation) (values : List ℤ) (of : TableauOf bounds.system rows) where
  -- each column keeps a bound, or it is a row's bound that is lax
  abbrev Unless : ℤ → (ℕ → ℤ) → Type 0
  Unless d number = (column : ℕ) (side : Side) → column < columns_of bounds.system → Admits side (bound_on bounds column side) d (number column) ⊎ IsLax bounds column side

  vars_keep : (d : ℤ) (number : ℕ → ℤ) → Unless d number → (var : ℕ) (side : Side) → var < length bounds.system.ranges → Admits side (in_force bounds (Var var) side) d (number var)
  vars_keep d number unless var side inside =
      let vars = length bounds.system.ranges in
      ⊎_elim (λ (keeps : Admits side (bound_on bounds var side) d (number var)). subst (λ t. Admits side (in_force bounds t side) d (number var)) (term_of_var vars var inside) keeps)
      (λ (lax : IsLax bounds var side).
      let left = var_end bounds var side in
      absurd (subst (λ t. IsLaxAt bounds.system t side left.bound) (term_of_var vars var inside) (lax left.bound (ap (λ t. in_force bounds t side) (term_of_var vars var inside) ∙ left.is))))
      (unless var side (omega (arith, inside)))

  -- then each keeps its bounds
  all_keep : (d : ℤ) (number : ℕ → ℤ) → IsWellFormed bounds.system → pos 1 ≤ℤ d → Solves bounds.system number → Unless d number
      → (column : ℕ) (side : Side) → column < columns_of bounds.system → Admits side (bound_on bounds column side) d (number column)
  all_keep d number formed positive solves unless column side within =
      let vars = length bounds.system.ranges in
      ⊎_elim (λ (var : column < vars).
      subst (λ t. Admits side (in_force bounds t side) d (number column)) (sym (term_of_var vars column var)) (vars_keep d number unless column side var))
      (λ (beyond : vars ≤ column).
      let row = column - vars in
      let same : vars + row ≡ column = omega (arith, beyond) in
      let inside : row < length bounds.system.rows = omega (arith, same, within) in
      let term : term_of vars column ≡ Row row = ap (term_of vars) (sym same) ∙ term_of_row vars row in
      ⊎_elim (λ (keeps : Admits side (bound_on bounds column side) d (number column)). keeps)
      (λ (lax : IsLax bounds column side).
      let holds = lax_holds bounds row d number (formed.rows row [] inside) inside positive solves (vars_keep d number unless) side (in_force bounds (Row row) side)
      (λ bound is. subst (λ t. IsLaxAt bounds.system t side bound) term (lax bound (ap (λ t. in_force bounds t side) term ∙ is))) in
      subst (λ c. Admits side (bound_on bounds column side) d (number c)) same (subst (λ t. Admits side (in_force bounds t side) d (number (vars + row))) (sym term) holds))
      (unless column side within)) (cases_lt column vars)

  pub point_from : IsWellFormed bounds.system → length values ≡ columns_of bounds.system → AreInBounds bounds values → All (λ equation. (side : Side) → Keeps bounds values equation side ⊎ IsLax bounds equation.basic side) rows
      → IsPoint bounds rows values
  point_from formed count in_bounds all =
      let meets = meets_all rows values of.apart in
      let kept : IsKeptPoint bounds.system rows values meets.denominator meets.number = record {
        positive = meets.positive;
        solves = (of.same_solutions meets.number).1 meets.holds;
        rest = meets.rest;
      } in
      record {
        denominator = meets.denominator;
        number = meets.number;
        kept = kept;
        inside = all_keep meets.denominator meets.number formed meets.positive kept.solves (λ column side within.
            ⊎_elim (λ (outside : IsOutside rows column).
            inl (admits_same side (bound_on bounds column side) (pos 1) (number_at values column) meets.denominator (meets.number column) (omega (arith, ints)) meets.positive
            (omega (arith, ints, meets.rest column outside)) (in_bounds column side (omega (arith, count)))))
            (λ (basic : IsBasicOf rows column).
            let row = basic.row in
            let value = value_of bounds.system rows values meets.denominator meets.number of kept basic.at row basic.within basic.is in
            subst (λ c. Admits side (bound_on bounds c side) meets.denominator (meets.number c) ⊎ IsLax bounds c side) basic.same
            (⊎_elim (λ (keeps : Keeps bounds values row side).
            inl (admits_same side (bound_on bounds row.basic side) row.denominator (numerator_of values row) meets.denominator (meets.number row.basic) row.sound.positive meets.positive value keeps))
            (λ (lax : IsLax bounds row.basic side). inr lax)
            (subst (λ (x : Equation). Keeps bounds values x side ⊎ IsLax bounds x.basic side) (sym basic.is) (all basic.at row basic.within side))))
            (outside_or_basic rows column));
      }

  pub beyond_from : (at : ℕ) (side : Side) → at < length rows → ((d : Equation) → ¬ Keeps bounds values (get_or rows at d) side) → IsBeyond bounds rows values
  beyond_from at side within breaks = record {
    at = at;
    within = within;
    side = side;
    outside = λ d denominator number kept admits.
        let row = get_or rows at d in
        let value = value_of bounds.system rows values denominator number of kept at row within (get_or_default rows at d row within) in
        breaks d (admits_same side (bound_on bounds row.basic side) denominator (number row.basic) row.denominator (numerator_of values row) kept.positive row.sound.positive (sym value) admits);
  }
