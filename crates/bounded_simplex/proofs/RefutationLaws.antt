-- The parts of a refutation, one by one.
use Rattle.std.proofs.Common.{◌≡◌, ◌≢◌, None, Some, ℕ, ◌+◌, ◌-◌, ◌<◌, ◌≤◌, Bool, true, false, eqb, inl, inr, drop, List, [], ◌∷◌, ◌++◌, length, get_or, take, ℤ, pos, ◌+ℤ◌, ◌*ℤ◌, ◌<ℤ◌, All, refl, sym, ap, ◌∙◌, subst, ⊎_elim, arith}
use Rattle.std.specs.Prelude.{not}
use Rattle.std.proofs.lemmas.Int.{ints}
use Rattle.std.proofs.lemmas.Bool.{cases_lt}
use Rattle.std.proofs.lemmas.List.{take_more, take_all, take-append-drop, append-nil, get_or_append_left, get_or_at, length-append}
use Rattle.std.proofs.lemmas.List.Elements.{All-push, All-nil, filter-append}
use Rattle.wx_num.specs.declared.excess.NumOp.TheVariants.{Minus}
use Rattle.wx_num.specs.declared.excess.Excess.{Excess}
use Rattle.mix_system.specs.declared.literal.Side.{Side}
use Rattle.mix_system.specs.declared.literal.Side.TheVariants.{Le, Ge}
use Rattle.mix_system.specs.declared.farkas.FarkasPart.{FarkasPart}
use Rattle.mix_system.specs.Sum.{int_sum_by}
use Rattle.mix_system.specs.System.{Exists}
use Rattle.mix_system.specs.Bounds.{IsIn}
use Rattle.mix_system.specs.FarkasSum.{by_side, weight, bound_weight}
use Rattle.mix_system.proofs.SumLaws.{int_sum_by_push}
use Rattle.tableau_rows.specs.declared.entry.Entry.{Entry}
use Rattle.tableau_rows.specs.Equation.{total}
use Rattle.tableau_rows.specs.declared.equation.Equation.{Equation}
use Rattle.tableau_rows.specs.Substitution.{taken}
use Rattle.tableau_rows.specs.Turning.{others, turned_number}
use Rattle.tableau_rows.proofs.RingLaws.{neg-mul}
use Rattle.tableau_rows.proofs.TotalLaws.{total_push, coefficient_at}
use Rattle.bounded_simplex.specs.InForce.{BoundChanges, in_force}
use Rattle.bounded_simplex.specs.Terms.{term_of, times_in, times_in_column}
use Rattle.bounded_simplex.specs.Refutation.{box_of, bound_on, hindering, SaysInForce, IsHindered, IsPartOf}
use Rattle.bounded_simplex.proofs.CoefficientLaws.{term_of_var, term_of_row}
use Rattle.bounded_simplex.specs.Combination.{basic_entry, in_order, ArePartsOf, AreWorked, IsPut, IsPartStep, IsPutStep, IsCombineStep, IsRefutation}
use Rattle.bounded_simplex.proofs.InBoxLaws.{in_box}
use Rattle.bounded_simplex.proofs.PointLaws.{others_skip, others_keep, solved_split}

turned_add : (turn : Bool) (a b : ℤ) → turned_number turn (a +ℤ b) ≡ turned_number turn a +ℤ turned_number turn b
turned_add true a b = omega (arith, ints)
turned_add false a b = refl

turned_mul : (turn : Bool) (a b : ℤ) → turned_number turn (a *ℤ b) ≡ turned_number turn a *ℤ b
turned_mul true a b = sym (neg-mul a b)
turned_mul false a b = refl

turned_zero : (turn : Bool) → turned_number turn (pos 0) ≡ pos 0
turned_zero true = refl
turned_zero false = refl

signed_mul : (side : Side) (a b : ℤ) → by_side side (a *ℤ b) ≡ by_side side a *ℤ b
signed_mul Le a b = refl
signed_mul Ge a b = sym (neg-mul a b)

pub term_exists : (vars rows column : ℕ) → column < vars + rows → Exists vars rows (term_of vars column)
term_exists vars rows column within =
    ⊎_elim (λ (lt : column < vars). subst (Exists vars rows) (sym (term_of_var vars column lt)) lt)
    (λ (le : vars ≤ column).
    let split : vars + (column - vars) ≡ column = omega arith in
    let row : column - vars < rows = omega arith in
    subst (λ n. Exists vars rows (term_of vars n)) split (subst (Exists vars rows) (sym (term_of_row vars (column - vars))) row)) (cases_lt column vars)

All-front : {X : Type 0} (P : X → Type 0) (xs ys : List X) → All P (xs ++ ys) → All P xs
All-front P xs ys all k d h = subst P (get_or_append_left xs ys d k h) (all k d (omega (arith, length-append xs ys)))

All-last : {X : Type 0} (P : X → Type 0) (xs : List X) (y : X) → All P (xs ++ y ∷ []) → P y
All-last P xs y all = subst P (get_or_at xs y [] y (length xs) refl) (all (length xs) y (omega (arith, length-append xs (y ∷ []))))

module _ (bounds : BoundChanges) (upwards : Bool) where
  weight_is : (entry : Entry) (part : FarkasPart) → IsPartOf bounds upwards entry part → (var : ℕ)
      → weight bounds.system.rows var part ≡ turned_number (not upwards) (entry.coeff *ℤ times_in_column bounds.system var entry.column)
  weight_is entry part is var =
      signed_mul part.lit.side part.by (times_in bounds.system var part.lit.term) ∙ (λ i. is.counted i *ℤ times_in bounds.system var (is.term i))
      ∙ sym (turned_mul (not upwards) entry.coeff (times_in_column bounds.system var entry.column))

  -- the bound of the part of an entry whose column stands at it
  bound_is : (entry : Entry) (part : FarkasPart) (number : ℕ → ℤ) → IsPartOf bounds upwards entry part
      → IsHindered bounds upwards number entry
      → bound_weight part ≡ turned_number (not upwards) (entry.coeff *ℤ number entry.column)
  bound_is entry part number is hindered =
      let same : Some part.lit.bound ≡ Some (number entry.column) = sym is.says ∙ (λ i. in_force bounds (is.term i) (is.side i)) ∙ hindered in
      let bound : part.lit.bound ≡ number entry.column = cc in
      signed_mul part.lit.side part.by part.lit.bound ∙ (λ i. is.counted i *ℤ bound i)
      ∙ sym (turned_mul (not upwards) entry.coeff (number entry.column))

  -- no bound is wanting where a column stands at it
  pub bound_found : (entry : Entry) (number : ℕ → ℤ) → bound_on bounds entry.column (hindering upwards entry.coeff) ≡ None → IsHindered bounds upwards number entry → ⊥
  bound_found entry number none hindered =
      let apart : None ≡ Some (number entry.column) = sym none ∙ hindered in
      cc

  -- the parts of some entries
  pub record Refuting (entries : List Entry) (parts : List FarkasPart) : Type 0 where
    pub of : ArePartsOf bounds upwards entries parts
    pub at_bounds : (number : ℕ → ℤ) → All (IsHindered bounds upwards number) entries → int_sum_by bound_weight parts ≡ turned_number (not upwards) (total number entries)
    pub counted : (var : ℕ) → int_sum_by (weight bounds.system.rows var) parts ≡ turned_number (not upwards) (total (times_in_column bounds.system var) entries)
    pub known : All (λ part. Exists (length bounds.system.ranges) (length bounds.system.rows) part.lit.term) parts
    pub says : All (λ part. SaysInForce bounds part.lit) parts
    pub in_box : All (λ part. IsIn (box_of bounds) part.lit) parts

  pub refuting_none : Refuting [] []
  refuting_none = record {
    of = tt;
    at_bounds = λ number hindered. sym (turned_zero (not upwards));
    counted = λ var. sym (turned_zero (not upwards));
    known = All-nil (λ (part : FarkasPart). Exists (length bounds.system.ranges) (length bounds.system.rows) part.lit.term);
    says = All-nil (λ (part : FarkasPart). SaysInForce bounds part.lit);
    in_box = All-nil (λ (part : FarkasPart). IsIn (box_of bounds) part.lit);
  }

  parts_push : (entries : List Entry) (parts : List FarkasPart) (entry : Entry) (part : FarkasPart) → ArePartsOf bounds upwards entries parts → IsPartOf bounds upwards entry part
      → ArePartsOf bounds upwards (entries ++ entry ∷ []) (parts ++ part ∷ [])
  parts_push [] [] entry part of is = (is, tt)
  parts_push [] (p ∷ parts) entry part of is = absurd of
  parts_push (e ∷ entries) [] entry part of is = absurd of
  parts_push (e ∷ entries) (p ∷ parts) entry part of is = (of.0, parts_push entries parts entry part of.1 is)

  -- the part of one more entry
  pub refuting_push : (entries : List Entry) (entry : Entry) (parts : List FarkasPart) (part : FarkasPart) → entry.column < length bounds.system.ranges + length bounds.system.rows
      → IsPartOf bounds upwards entry part → Refuting entries parts → Refuting (entries ++ entry ∷ []) (parts ++ part ∷ [])
  refuting_push entries entry parts part within is before =
      let vars = length bounds.system.ranges in
      let rows = length bounds.system.rows in
      let exists = subst (Exists vars rows) (sym is.term) (term_exists vars rows entry.column within) in
      record {
        of = parts_push entries parts entry part before.of is;
        at_bounds = λ number hindered.
            let here = All-last (IsHindered bounds upwards number) entries entry hindered in
            let front = All-front (IsHindered bounds upwards number) entries (entry ∷ []) hindered in
            int_sum_by_push bound_weight parts part ∙ (λ j. before.at_bounds number front j +ℤ bound_is entry part number is here j)
            ∙ sym (turned_add (not upwards) (total number entries) (entry.coeff *ℤ number entry.column))
            ∙ ap (turned_number (not upwards)) (sym (total_push number entries entry));
        counted = λ var.
            int_sum_by_push (weight bounds.system.rows var) parts part ∙ (λ j. before.counted var j +ℤ weight_is entry part is var j)
            ∙ sym (turned_add (not upwards) (total (times_in_column bounds.system var) entries) (entry.coeff *ℤ times_in_column bounds.system var entry.column))
            ∙ ap (turned_number (not upwards)) (sym (total_push (times_in_column bounds.system var) entries entry));
        known = All-push (λ part. Exists vars rows part.lit.term) parts part before.known exists;
        says = All-push (λ part. SaysInForce bounds part.lit) parts part before.says is.says;
        in_box = All-push (λ part. IsIn (box_of bounds) part.lit) parts part before.in_box (in_box bounds part.lit exists is.says);
      }

  -- the same by what a call says of it
  pub refuting_put : (entries : List Entry) (entry : Entry) (old new : List FarkasPart) → entry.column < length bounds.system.ranges + length bounds.system.rows
      → IsPut bounds upwards entry old new → Refuting entries old → Refuting (entries ++ entry ∷ []) new
  refuting_put entries entry old new within put before = subst (Refuting (entries ++ entry ∷ [])) (sym put.added) (refuting_push entries entry old put.part within put.of before)

  module _ (equation : Equation) where
    -- the entries as far as one of them
    abbrev pub front_of : ℕ → List Entry
    front_of i = basic_entry equation ∷ others equation.basic (take i equation.entries.items)

    others_more : (i : ℕ) (d : Entry) → i < length equation.entries.items
        → others equation.basic (take (i + 1) equation.entries.items) ≡ others equation.basic (take i equation.entries.items) ++ others equation.basic (get_or equation.entries.items i d ∷ [])
    others_more i d within =
        ap (others equation.basic) (take_more equation.entries.items i d within)
        ∙ filter-append (λ entry. not (eqb entry.column equation.basic)) (take i equation.entries.items) (get_or equation.entries.items i d ∷ [])

    pub front_skip : (i : ℕ) (d : Entry) → i < length equation.entries.items → (get_or equation.entries.items i d).column ≡ equation.basic → front_of (i + 1) ≡ front_of i
    front_skip i d within same =
        ap (λ es. basic_entry equation ∷ es) (others_more i d within
        ∙ ap (λ es. others equation.basic (take i equation.entries.items) ++ es) (others_skip equation.basic (get_or equation.entries.items i d) [] same) ∙ append-nil (others equation.basic (take i equation.entries.items)))

    pub front_more : (i : ℕ) (d : Entry) → i < length equation.entries.items → (get_or equation.entries.items i d).column ≢ equation.basic
        → front_of (i + 1) ≡ front_of i ++ get_or equation.entries.items i d ∷ []
    front_more i d within other =
        ap (λ es. basic_entry equation ∷ es) (others_more i d within
        ∙ ap (λ es. others equation.basic (take i equation.entries.items) ++ es) (others_keep equation.basic (get_or equation.entries.items i d) [] other))

    -- it is a front of all of them, also with the next one
    pub front_split : (i : ℕ) → in_order equation ≡ front_of i ++ others equation.basic (drop i equation.entries.items)
    front_split i =
        ap (λ es. basic_entry equation ∷ es) (ap (others equation.basic) (sym (take-append-drop i equation.entries.items))
        ∙ filter-append (λ entry. not (eqb entry.column equation.basic)) (take i equation.entries.items) (drop i equation.entries.items))

    pub front_all : (i : ℕ) → length equation.entries.items ≤ i → front_of i ≡ in_order equation
    front_all i all = ap (λ es. basic_entry equation ∷ others equation.basic es) (take_all i equation.entries.items all)

    order_total : (number : ℕ → ℤ) → total number (in_order equation) ≡ total number equation.entries.items
    order_total number = omega (arith, ints, solved_split equation number, neg-mul equation.denominator (number equation.basic))

    -- all parts refute the box, where their bounds add up to less than 0
    pub refuting_end : (parts : List FarkasPart) (sums : List ℤ) (constant : ℤ) → Refuting (in_order equation) parts → AreWorked bounds.system.rows parts sums constant
        → ((var : ℕ) → total (times_in_column bounds.system var) equation.entries.items ≡ pos 0) → constant <ℤ pos 0 → IsRefutation bounds parts
    refuting_end parts sums constant done worked cancels below = record {
      refutes = record {
        in_box = done.in_box;
        vanishes = λ var. done.counted var ∙ ap (turned_number (not upwards)) (order_total (times_in_column bounds.system var) ∙ cancels var) ∙ turned_zero (not upwards);
        contradictory = subst (λ z. z <ℤ pos 0) worked.bounds below;
      };
      known = done.known;
      says = done.says;
      fit = λ calm. worked.fit;
    }

    -- they do where each column stands at its bound, and the equation's sum is less than 0
    pub refuting_found : (parts : List FarkasPart) (sums : List ℤ) (constant : ℤ) → Refuting (in_order equation) parts → AreWorked bounds.system.rows parts sums constant
        → (number : ℕ → ℤ) → All (IsHindered bounds upwards number) (in_order equation) → turned_number (not upwards) (total number equation.entries.items) <ℤ pos 0 → constant <ℤ pos 0
    refuting_found parts sums constant done worked number hindered below =
        let sum = done.at_bounds number hindered ∙ ap (turned_number (not upwards)) (order_total number) in
        subst (λ z. z <ℤ pos 0) (sym (worked.bounds ∙ sum)) below

    -- a step of putting the next entry is one of the combination
    pub step_of_front : (i : ℕ) (entry : Entry) (parts : List FarkasPart) (step : Excess) (front back : List Entry) → in_order equation ≡ (front ++ entry ∷ []) ++ back → ArePartsOf bounds upwards front parts
        → taken equation entry.column ≡ entry.coeff → IsPutStep bounds upwards entry parts step → IsCombineStep bounds equation step
    step_of_front i entry parts step front back split of taken_is put =
        ⊎_elim (λ (turned : step ≡ record { op = Minus; x = pos 0; y = entry.coeff }).
        inl (record { column = entry.column; formed = turned ∙ ap (λ z. record { op = Minus; x = pos 0; y = z }) (sym taken_is) }))
        (λ (later : IsPartStep bounds upwards entry parts step).
        inr (record {
          upwards = upwards;
          front = front ++ entry ∷ [];
          back = back;
          parts = parts ++ later.part ∷ [];
          split = split;
          of = parts_push front parts entry later.part of later.of;
          among = later.among;
        })) put

    -- the basic column's entry is put first
    pub first_put : (entry : Entry) (old new : List FarkasPart) → entry ≡ basic_entry equation → old ≡ [] → equation.basic < length bounds.system.ranges + length bounds.system.rows
        → IsPut bounds upwards entry old new → Refuting (front_of 0) new
    first_put entry old new is none within put =
        let own : IsPut bounds upwards (basic_entry equation) [] new = subst (λ e. IsPut bounds upwards e [] new) is (subst (λ ps. IsPut bounds upwards entry ps new) none put) in
        refuting_put [] (basic_entry equation) [] new within own refuting_none

    pub first_step : (entry : Entry) (old : List FarkasPart) (step : Excess) → entry ≡ basic_entry equation → old ≡ [] → IsPutStep bounds upwards entry old step → IsCombineStep bounds equation step
    first_step entry old step is none put =
        let own : IsPutStep bounds upwards (basic_entry equation) [] step = subst (λ e. IsPutStep bounds upwards e [] step) is (subst (λ ps. IsPutStep bounds upwards entry ps step) none put) in
        step_of_front 0 (basic_entry equation) [] step [] (others equation.basic equation.entries.items) refl tt equation.sound.solved own

    -- and then each other one
    module _ (es : List Entry) (same : es ≡ equation.entries.items) (i : ℕ) (d : Entry) (within : i < length es) where
      inside : i < length equation.entries.items
      inside = subst (λ (xs : List Entry). i < length xs) same within

      pub next_skip : (parts : List FarkasPart) → (get_or es i d).column ≡ equation.basic → Refuting (front_of i) parts → Refuting (front_of (i + 1)) parts
      next_skip parts basic before =
          subst (λ xs. Refuting xs parts) (sym (front_skip i d inside (subst (λ (xs : List Entry). (get_or xs i d).column ≡ equation.basic) same basic))) before

      pub next_put : (old new : List FarkasPart) → (get_or es i d).column ≢ equation.basic → (get_or es i d).column < length bounds.system.ranges + length bounds.system.rows
          → IsPut bounds upwards (get_or es i d) old new → Refuting (front_of i) old → Refuting (front_of (i + 1)) new
      next_put old new other known put before =
          let entry = get_or equation.entries.items i d in
          let own = subst (λ (xs : List Entry). IsPut bounds upwards (get_or xs i d) old new) same put in
          let column = subst (λ (xs : List Entry). (get_or xs i d).column < length bounds.system.ranges + length bounds.system.rows) same known in
          subst (λ xs. Refuting xs new) (sym (front_more i d inside (subst (λ (xs : List Entry). (get_or xs i d).column ≢ equation.basic) same other)))
          (refuting_put (front_of i) entry old new column own before)

      pub next_step : (parts : List FarkasPart) (step : Excess) → (get_or es i d).column ≢ equation.basic → Refuting (front_of i) parts → IsPutStep bounds upwards (get_or es i d) parts step
          → IsCombineStep bounds equation step
      next_step parts step other before put =
          let entry = get_or equation.entries.items i d in
          let own = subst (λ (xs : List Entry). IsPutStep bounds upwards (get_or xs i d) parts step) same put in
          let apart = subst (λ (xs : List Entry). (get_or xs i d).column ≢ equation.basic) same other in
          let back = others equation.basic (drop (i + 1) equation.entries.items) in
          let split = front_split (i + 1) ∙ ap (λ xs. xs ++ back) (front_more i d inside apart) in
          step_of_front i entry parts step (front_of i) back split before.of (coefficient_at equation.entries.items equation.sound.sparse.rising i d inside) own

      -- no bound is wanting where each column stands at its own
      pub next_found : (number : ℕ → ℤ) → (get_or es i d).column ≢ equation.basic → bound_on bounds (get_or es i d).column (hindering upwards (get_or es i d).coeff) ≡ None
          → All (IsHindered bounds upwards number) (in_order equation) → ⊥
      next_found number other none hindered =
          let entry = get_or equation.entries.items i d in
          let apart = subst (λ (xs : List Entry). (get_or xs i d).column ≢ equation.basic) same other in
          let back = others equation.basic (drop (i + 1) equation.entries.items) in
          let split = front_split (i + 1) ∙ ap (λ xs. xs ++ back) (front_more i d inside apart) in
          let front = All-front (IsHindered bounds upwards number) (front_of i ++ entry ∷ []) back (subst (All (IsHindered bounds upwards number)) split hindered) in
          bound_found entry number (subst (λ (xs : List Entry). bound_on bounds (get_or xs i d).column (hindering upwards (get_or xs i d).coeff) ≡ None) same none)
          (All-last (IsHindered bounds upwards number) (front_of i) entry front)
