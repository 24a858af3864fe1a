-- What an equation forms, and what a broken one refutes.
use Rattle.std.proofs.Common.{◌≡◌, ◌≢◌, ◌⊎◌, ℕ, ◌+◌, ◌<◌, Bool, true, false, cond, eqb, List, length, get_or, Option, None, Some, Result, Ok, ℤ, pos, negsuc, neg_ℤ, ◌+ℤ◌, ◌-ℤ◌, ◌*ℤ◌, ◌≤ℤ◌, ◌<ℤ◌, All, refl, sym, ap, ◌∙◌, subst, inl, inr, ⊎_elim, arith}
use Rattle.std.specs.Prelude.{not, set, IfSome, IfNone, IfOk, IsSome}
use Rattle.std.proofs.lemmas.Int.{ints}
use Rattle.std.proofs.lemmas.Bool.{cases_eq, false≢true}
use Rattle.std.proofs.lemmas.Bool.Decides.{nat_tests}
use Rattle.std.proofs.lemmas.List.{get_or-set_same, get_or-set_other, length-set}
use Rattle.std.proofs.lemmas.List.Elements.{All-cons, All-filter}
use Rattle.wx_num.specs.declared.excess.Excess.{Excess}
use Rattle.mix_system.specs.declared.literal.Side.{Side}
use Rattle.mix_system.specs.declared.literal.Side.TheVariants.{Le, Ge}
use Rattle.mix_system.specs.Row.{number_at}
use Rattle.tableau_rows.specs.declared.entry.Entry.{Entry}
use Rattle.tableau_rows.specs.declared.equation.Equation.{Equation}
use Rattle.tableau_rows.specs.Equation.{total, coefficient}
use Rattle.tableau_rows.specs.Turning.{others, turned_number}
use Rattle.tableau_rows.proofs.TotalLaws.{coefficient_at}
use Rattle.bounded_simplex.specs.Broken.{IsProduct, bound_of}
use Rattle.bounded_simplex.specs.Combination.{basic_entry, in_order}
use Rattle.bounded_simplex.specs.Event.{IsCompareStep}
use Rattle.bounded_simplex.specs.InForce.{BoundChanges}
use Rattle.bounded_simplex.specs.Point.{Admits, AreInBounds, numerator_of, Keeps}
use Rattle.bounded_simplex.specs.Settled.{at_bound}
use Rattle.bounded_simplex.specs.Refutation.{bound_on, hindering, IsHindered}
use Rattle.bounded_simplex.proofs.PointLaws.{solved_split, others_apart, total_same, le_or_above}

-- where something was found, it isn't none
pub no_none : {A E : Type 0} (r : Result (Option A) E) → r ≡ Ok None → IfOk r IsSome → ⊥
no_none r is some = absurd (false≢true (rw is at some))

-- what a clause says where the answer is true
pub ok_true : {E : Type 0} (P : Type 0) (r : Result Bool E) (b : Bool) → r ≡ Ok b → b ≡ true → IfOk r (λ found. found ≡ true → P) → P
ok_true {E} P r b is holds clause = (subst (λ (x : Result Bool E). IfOk x (λ found. found ≡ true → P)) (is ∙ ap Ok holds) clause) refl

-- what is said of an end that is there
pub some_is : {A : Type 0} (P : A → Type 0) (o : Option A) → IfSome o P → (a : A) → o ≡ Some a → P a
some_is P None some a is = absurd (cc)
some_is P (Some x) some a is = let e : x ≡ a = cc in subst P e some

pub none_is : {A : Type 0} (P : Type 0) (o : Option A) → IfNone o P → o ≡ None → P
none_is P None none is = none
none_is P (Some x) none is = absurd (cc)

-- an end that stands for a bound or says that it is lax
tight_keeps : (side : Side) (tight bound : Option ℤ) (Lax : Type 0) (d n : ℤ) → ((b : ℤ) → tight ≡ Some b → bound ≡ Some b) → (tight ≡ None → Lax) → Admits side tight d n → Admits side bound d n ⊎ Lax
tight_keeps side None bound Lax d n is lax keeps = inr (lax refl)
tight_keeps side (Some b) bound Lax d n is lax keeps = inl (subst (λ o. Admits side o d n) (sym (is b refl)) keeps)

-- a bound that is broken is there
pub broken_bound : (side : Side) (o : Option ℤ) (d n : ℤ) → ¬ Admits side o d n → (bound : ℤ) × (o ≡ Some bound)
broken_bound side None d n broken = absurd (broken tt)
broken_bound side (Some bound) d n broken = (bound, refl)

module _ (f : Side → Option ℤ) (Lax : Side → Type 0) (low high : Option ℤ) (is_low : (b : ℤ) → low ≡ Some b → f Ge ≡ Some b) (is_high : (b : ℤ) → high ≡ Some b → f Le ≡ Some b) where
  pub compare_step : (bounds : BoundChanges) (equation : Equation) (excess : Excess) → f ≡ bound_on bounds equation.basic
      → IsProduct low equation.denominator excess ⊎ IsProduct high equation.denominator excess → IsCompareStep bounds equation excess.y excess
  compare_step bounds equation excess same of =
      ⊎_elim (λ (p : IsProduct low equation.denominator excess). record { bounded = inl (sym (ap (λ g. g Ge) same) ∙ is_low excess.y p.0); formed = p.1 })
      (λ (p : IsProduct high equation.denominator excess). record { bounded = inr (sym (ap (λ g. g Le) same) ∙ is_high excess.y p.0); formed = p.1 }) of

  pub sides_break : (d n m : ℤ) → n ≡ m → (found : Option Side) → IfSome found (λ side. ¬ Admits side (bound_of low high side) d n) → IfSome found (λ side. ¬ Admits side (f side) d m)
  sides_break d n m same None breaks = breaks
  sides_break d n m same (Some Ge) breaks = λ keeps. breaks (there low Ge is_low (subst (λ z. Admits Ge (f Ge) d z) (sym same) keeps))
    where
      there : (o : Option ℤ) (side : Side) → ((b : ℤ) → o ≡ Some b → f side ≡ Some b) → Admits side (f side) d n → Admits side o d n
      there None side is keeps = tt
      there (Some b) side is keeps = subst (λ o. Admits side o d n) (is b refl) keeps
  sides_break d n m same (Some Le) breaks = λ keeps. breaks (there high Le is_high (subst (λ z. Admits Le (f Le) d z) (sym same) keeps))
    where
      there : (o : Option ℤ) (side : Side) → ((b : ℤ) → o ≡ Some b → f side ≡ Some b) → Admits side (f side) d n → Admits side o d n
      there None side is keeps = tt
      there (Some b) side is keeps = subst (λ o. Admits side o d n) (is b refl) keeps

  pub sides_keep : (d n m : ℤ) → (low ≡ None → Lax Ge) → (high ≡ None → Lax Le) → n ≡ m → (found : Option Side) → IfNone found (Admits Ge low d n × Admits Le high d n)
      → IfNone found ((side : Side) → Admits side (f side) d m ⊎ Lax side)
  sides_keep d n m lax_low lax_high same None keeps = of_side
    where
      of_side : (side : Side) → Admits side (f side) d m ⊎ Lax side
      of_side Ge = tight_keeps Ge low (f Ge) (Lax Ge) d m is_low lax_low (subst (λ z. Admits Ge low d z) same keeps.0)
      of_side Le = tight_keeps Le high (f Le) (Lax Le) d m is_high lax_high (subst (λ z. Admits Le high d z) same keeps.1)
  sides_keep d n m lax_low lax_high same (Some side) keeps = keeps

  -- the side that is found isn't lax
  pub sides_tight : (d n : ℤ) → ((b : ℤ) → low ≡ Some b → ¬ Lax Ge) → ((b : ℤ) → high ≡ Some b → ¬ Lax Le) → (found : Option Side) → IfSome found (λ side. ¬ Admits side (bound_of low high side) d n) → IfSome found (λ side. ¬ Lax side)
  sides_tight d n tight_low tight_high None breaks = breaks
  sides_tight d n tight_low tight_high (Some Ge) breaks = let (b, is) = broken_bound Ge low d n breaks in tight_low b is
  sides_tight d n tight_low tight_high (Some Le) breaks = let (b, is) = broken_bound Le high d n breaks in tight_high b is

hindering_below : (upwards : Bool) (z : ℤ) → z <ℤ pos 0 → hindering upwards z ≡ cond upwards Ge Le
hindering_below upwards (pos n) below = absurd (omega (arith, ints))
hindering_below upwards (negsuc n) below = refl

module _ (bounds : BoundChanges) (values : List ℤ) (row : Equation) (upwards : Bool) (bound : ℤ)
    (bounded : bound_on bounds row.basic (cond upwards Ge Le) ≡ Some bound) where
  -- the values, and the bound for the basic column
  abbrev pub bounded_values : ℕ → ℤ
  bounded_values column = cond (eqb column row.basic) bound (number_at values column)

  bounded_here : (column : ℕ) → column ≡ row.basic → bounded_values column ≡ bound
  bounded_here column same = ap (λ t. cond t bound (number_at values column)) (is_same column row.basic same)
    where
      is_same : (a b : ℕ) → a ≡ b → eqb a b ≡ true
      is_same a b h = grind (arith, nat_tests)

  bounded_other : (column : ℕ) → column ≢ row.basic → bounded_values column ≡ number_at values column
  bounded_other column other = ap (λ t. cond t bound (number_at values column)) (is_other column row.basic other)
    where
      is_other : (a b : ℕ) → a ≢ b → eqb a b ≡ false
      is_other a b h = grind (arith, nat_tests)

  pub all_hindered : All (λ entry. (entry.column ≡ row.basic) ⊎ IsHindered bounds upwards (number_at values) entry) row.entries.items → All (IsHindered bounds upwards bounded_values) row.entries.items
  all_hindered all k d within =
      let e = get_or row.entries.items k d in
      ⊎_elim (λ (same : e.column ≡ row.basic).
      let coeff : e.coeff ≡ neg_ℤ row.denominator = sym (coefficient_at row.entries.items row.sound.sparse.rising k d within) ∙ ap (coefficient row.entries.items) same ∙ row.sound.solved in
      let below : e.coeff <ℤ pos 0 = omega (arith, ints, coeff, row.sound.positive) in
      ap (bound_on bounds e.column) (hindering_below upwards e.coeff below) ∙ ap (λ c. bound_on bounds c (cond upwards Ge Le)) same ∙ bounded ∙ ap Some (sym (bounded_here e.column same)))
      (λ (other : e.column ≢ row.basic).
      ⊎_elim (λ (same : e.column ≡ row.basic). absurd (other same))
      (λ (hindered : IsHindered bounds upwards (number_at values) e). hindered ∙ ap Some (sym (bounded_other e.column other))) (all k d within))
      (cases_eq e.column row.basic)

  -- the same in the order in which they are put together
  pub order_hindered : All (λ entry. (entry.column ≡ row.basic) ⊎ IsHindered bounds upwards (number_at values) entry) row.entries.items → All (IsHindered bounds upwards bounded_values) (in_order row)
  order_hindered all =
      let below : neg_ℤ row.denominator <ℤ pos 0 = omega (arith, ints, row.sound.positive) in
      All-cons (IsHindered bounds upwards bounded_values) (basic_entry row) (others row.basic row.entries.items)
      (ap (bound_on bounds row.basic) (hindering_below upwards (neg_ℤ row.denominator) below) ∙ bounded ∙ ap Some (sym (bounded_here row.basic refl)))
      (All-filter (λ (entry : Entry). not (eqb entry.column row.basic)) (IsHindered bounds upwards bounded_values) row.entries.items (all_hindered all))

  total_is : total bounded_values row.entries.items ≡ numerator_of values row -ℤ row.denominator *ℤ bound
  total_is =
      let es = others row.basic row.entries.items in
      let same = total_same es bounded_values (number_at values) (λ k d within. bounded_other (get_or es k d).column (others_apart row.entries.items row.basic k d within)) in
      omega (arith, ints, solved_split row bounded_values, same, ap (λ z. row.denominator *ℤ z) (bounded_here row.basic refl))

below_zero : (upwards : Bool) (d n bound sum : ℤ) → sum ≡ n -ℤ d *ℤ bound → ¬ Admits (cond upwards Ge Le) (Some bound) d n → turned_number (not upwards) sum <ℤ pos 0
below_zero true d n bound sum is broken =
    ⊎_elim (λ (h : (d *ℤ bound) ≤ℤ n). absurd (broken h)) (λ (h : (n +ℤ pos 1) ≤ℤ (d *ℤ bound)). omega (arith, ints, is, h)) (le_or_above (d *ℤ bound) n)
below_zero false d n bound sum is broken =
    ⊎_elim (λ (h : n ≤ℤ (d *ℤ bound)). absurd (broken h)) (λ (h : ((d *ℤ bound) +ℤ pos 1) ≤ℤ n). omega (arith, ints, is, h)) (le_or_above n (d *ℤ bound))

pub refutes_below : (bounds : BoundChanges) (values : List ℤ) (row : Equation) (upwards : Bool) (bound : ℤ) (bounded : bound_on bounds row.basic (cond upwards Ge Le) ≡ Some bound)
    → ¬ Keeps bounds values row (cond upwards Ge Le) → turned_number (not upwards) (total (bounded_values bounds values row upwards bound bounded) row.entries.items) <ℤ pos 0
refutes_below bounds values row upwards bound bounded broken =
    below_zero upwards row.denominator (numerator_of values row) bound _ (total_is bounds values row upwards bound bounded)
    (subst (λ o. ¬ Admits (cond upwards Ge Le) o row.denominator (numerator_of values row)) bounded broken)

within_both : (side other : Side) (o : Option ℤ) (b v : ℤ) → Admits side (Some b) (pos 1) v → Admits other o (pos 1) v → (other ≡ side → o ≡ Some b) → Admits other o (pos 1) b
within_both side other None b v keeps keeps_other same = tt
within_both Ge Le (Some o) b v keeps keeps_other same = omega (arith, ints, keeps, keeps_other)
within_both Le Ge (Some o) b v keeps keeps_other same = omega (arith, ints, keeps, keeps_other)
within_both Ge Ge (Some o) b v keeps keeps_other same = let e : Some o ≡ Some b = same refl in let f : o ≡ b = cc in omega (arith, ints, f)
within_both Le Le (Some o) b v keeps keeps_other same = let e : Some o ≡ Some b = same refl in let f : o ≡ b = cc in omega (arith, ints, f)

-- a column that has the value of one of its bounds keeps the other one too
pub at_bound_in_bounds : (bounds : BoundChanges) (values : List ℤ) (column : ℕ) (side : Side) (end : Option ℤ) → column < length values → end ≡ bound_on bounds column side → AreInBounds bounds values
    → AreInBounds bounds (at_bound values column end)
at_bound_in_bounds bounds values column side None within is in_bounds = in_bounds
at_bound_in_bounds bounds values column side (Some b) within is in_bounds =
    λ other_column other inside.
    ⊎_elim (λ (same : other_column ≡ column).
    let value : number_at (set values column b) other_column ≡ b = ap (number_at (set values column b)) same ∙ get_or-set_same values column b (pos 0) within in
    let old = in_bounds column other within in
    let own : Admits side (Some b) (pos 1) (number_at values column) = subst (λ o. Admits side o (pos 1) (number_at values column)) (sym is) (in_bounds column side within) in
    let keeps : Admits other (bound_on bounds column other) (pos 1) b =
    within_both side other (bound_on bounds column other) b (number_at values column) own old (λ e. ap (bound_on bounds column) e ∙ sym is) in
    rw (value, same) keeps)
    (λ (differ : other_column ≢ column).
    rw (get_or-set_other values column other_column b (pos 0) differ) (in_bounds other_column other (omega (arith, length-set values column b)))) (cases_eq other_column column)

pub length_at_bound : (values : List ℤ) (column : ℕ) (end : Option ℤ) → length (at_bound values column end) ≡ length values
length_at_bound values column None = refl
length_at_bound values column (Some b) = length-set values _ _

-- one more column is moved
pub settle_more : (bounds : BoundChanges) (values : List ℤ) (i : ℕ) (v : ℤ) → i < length values → Admits Ge (bound_on bounds i Ge) (pos 1) v → Admits Le (bound_on bounds i Le) (pos 1) v
    → ((column : ℕ) (side : Side) → column < i → Admits side (bound_on bounds column side) (pos 1) (number_at values column))
    → (column : ℕ) (side : Side) → column < i + 1 → Admits side (bound_on bounds column side) (pos 1) (number_at (set values i v) column)
settle_more bounds values i v within low high before column side below =
    ⊎_elim (λ (same : column ≡ i).
    let value : number_at (set values i v) column ≡ v = ap (number_at (set values i v)) same ∙ get_or-set_same values i v (pos 0) within in
    rw (value, same) (of_side side))
    (λ (differ : column ≢ i).
    rw (get_or-set_other values i column v (pos 0) differ) (before column side (omega arith))) (cases_eq column i)
  where
    of_side : (side : Side) → Admits side (bound_on bounds i side) (pos 1) v
    of_side Ge = low
    of_side Le = high
