-- Parts that are put together, one by one, and the steps of it.
use Rattle.std.proofs.Common.{◌≡◌, ◌≢◌, ◌⊎◌, ℕ, ◌+◌, ◌<◌, true, false, cond, eqb, List, [], ◌∷◌, ◌++◌, append_assoc, length, get_or, take, drop, set, ℤ, pos, ◌+ℤ◌, ◌*ℤ◌, All, sym, ap, ◌∙◌, subst, ⊎_elim, arith}
use Rattle.std.proofs.lemmas.Int.{ints}
use Rattle.std.proofs.lemmas.Bool.{cases_eq}
use Rattle.std.proofs.lemmas.Bool.Decides.{nat_tests}
use Rattle.std.proofs.lemmas.List.{take_more, take-append-drop, get_or-set_same, get_or-set_other}
use Rattle.std.proofs.lemmas.List.Elements.{All-cons, All-nil, All-append}
use Rattle.wx_num.specs.declared.excess.NumOp.TheVariants.{Times}
use Rattle.wx_num.specs.declared.excess.Excess.{Excess}
use Rattle.mix_system.specs.declared.literal.Side.{Side}
use Rattle.mix_system.specs.declared.literal.Side.TheVariants.{Le, Ge}
use Rattle.mix_system.specs.declared.row.Part.{Part}
use Rattle.mix_system.specs.declared.farkas.FarkasPart.{FarkasPart}
use Rattle.mix_system.specs.Row.{number_at}
use Rattle.mix_system.specs.Sum.{int_sum_by}
use Rattle.mix_system.specs.FarkasSum.{parts_of, by_side, coeff_on, sum_op, weight, bound_weight, term_steps, leaf_steps_from, leaf_steps}
use Rattle.mix_system.proofs.SumLaws.{int_sum_by_push}
use Rattle.tableau_rows.proofs.RingLaws.{mul-add}
use Rattle.bounded_simplex.specs.Combination.{Fits, IsAmong, AreWorked}

-- a step among the later ones, or the earlier ones
pub among_later : (xs ys : List Excess) (step : Excess) → IsAmong ys step → IsAmong (xs ++ ys) step
among_later xs ys step a = record { before = xs ++ a.before; after = a.after; split = ap (λ zs. xs ++ zs) a.split ∙ sym (append_assoc xs a.before (step ∷ a.after)) }

pub among_earlier : (xs ys : List Excess) (step : Excess) → IsAmong xs step → IsAmong (xs ++ ys) step
among_earlier xs ys step a = record { before = a.before; after = a.after ++ ys; split = ap (λ zs. zs ++ ys) a.split ∙ append_assoc a.before (step ∷ a.after) ys }

pub among_two : (a b : Excess) (rest : List Excess) (step : Excess) → (step ≡ a) ⊎ (step ≡ b) → IsAmong (a ∷ b ∷ rest) step
among_two a b rest step of =
    ⊎_elim (λ (e : step ≡ a). record { before = []; after = b ∷ rest; split = ap (λ x. x ∷ b ∷ rest) (sym e) })
    (λ (e : step ≡ b). record { before = a ∷ []; after = rest; split = ap (λ x. a ∷ x ∷ rest) (sym e) }) of

pub fit_two : (a b : Excess) → Fits a → Fits b → All Fits (a ∷ b ∷ [])
fit_two a b fit_a fit_b = All-cons Fits a (b ∷ []) fit_a (All-cons Fits b [] fit_b (All-nil Fits))

by_side_add : (side : Side) (by a b : ℤ) → by_side side (by *ℤ (a +ℤ b)) ≡ by_side side (by *ℤ a) +ℤ by_side side (by *ℤ b)
by_side_add Le by a b = mul-add by a b
by_side_add Ge by a b = omega (arith, ints, mul-add by a b)

pub by_side_zero : (side : Side) (by : ℤ) → by_side side (by *ℤ pos 0) ≡ pos 0
by_side_zero Le by = omega (arith, ints)
by_side_zero Ge by = omega (arith, ints)

term_steps_same : (side : Side) (by : ℤ) (s t : ℕ → ℤ) (parts : List Part) → ((var : ℕ) → s var ≡ t var) → term_steps side by s parts ≡ term_steps side by t parts
term_steps_same side by s t parts same = λ i. term_steps side by (λ var. same var i) parts

pub term_append : (side : Side) (by : ℤ) (s : ℕ → ℤ) (xs ys : List Part)
    → term_steps side by s (xs ++ ys) ≡ term_steps side by s xs ++ term_steps side by (λ var. s var +ℤ by_side side (by *ℤ int_sum_by (coeff_on var) xs)) ys
term_append side by s [] ys = term_steps_same side by s (λ var. s var +ℤ by_side side (by *ℤ pos 0)) ys (λ var. omega (arith, ints, by_side_zero side by))
term_append side by s (x ∷ xs) ys =
    let next = λ (var : ℕ). s var +ℤ by_side side (by *ℤ coeff_on var x) in
    let rest = term_append side by next xs ys in
    let same = term_steps_same side by (λ var. next var +ℤ by_side side (by *ℤ int_sum_by (coeff_on var) xs)) (λ var. s var +ℤ by_side side (by *ℤ int_sum_by (coeff_on var) (x ∷ xs))) ys
    (λ var. omega (arith, ints, by_side_add side by (coeff_on var x) (int_sum_by (coeff_on var) xs))) in
    ap (λ zs. (record { op = Times; x = by; y = x.coeff }) ∷ (record { op = sum_op side; x = s x.var; y = by *ℤ x.coeff }) ∷ zs) (rest ∙ ap (λ zs. term_steps side by next xs ++ zs) same)

-- one more part of a row
pub term_more : (side : Side) (by : ℤ) (old new : List ℤ) (parts : List Part) (i : ℕ) (d : Part) → i < length parts
    → ((var : ℕ) → number_at new var ≡ number_at old var +ℤ by_side side (by *ℤ int_sum_by (coeff_on var) (take i parts)))
    → term_steps side by (number_at old) (take (i + 1) parts) ≡ term_steps side by (number_at old) (take i parts) ++ term_steps side by (number_at new) (get_or parts i d ∷ [])
term_more side by old new parts i d within summed =
    ap (term_steps side by (number_at old)) (take_more parts i d within) ∙ term_append side by (number_at old) (take i parts) (get_or parts i d ∷ [])
    ∙ ap (λ zs. term_steps side by (number_at old) (take i parts) ++ zs) (term_steps_same side by _ (number_at new) (get_or parts i d ∷ []) (λ var. sym (summed var)))

pub summed_more : (side : Side) (by : ℤ) (old now new : List ℤ) (parts : List Part) (i : ℕ) (d : Part) → i < length parts
    → ((var : ℕ) → number_at now var ≡ number_at old var +ℤ by_side side (by *ℤ int_sum_by (coeff_on var) (take i parts)))
    → ((var : ℕ) → number_at new var ≡ number_at now var +ℤ by_side side (by *ℤ coeff_on var (get_or parts i d)))
    → (var : ℕ) → number_at new var ≡ number_at old var +ℤ by_side side (by *ℤ int_sum_by (coeff_on var) (take (i + 1) parts))
summed_more side by old now new parts i d within before here var =
    let sum = ap (int_sum_by (coeff_on var)) (take_more parts i d within) ∙ int_sum_by_push (coeff_on var) (take i parts) (get_or parts i d) in
    omega (arith, ints, before var, here var, ap (λ z. by_side side (by *ℤ z)) sum, by_side_add side by (int_sum_by (coeff_on var) (take i parts)) (coeff_on var (get_or parts i d)))

-- a step of a row's front is one of the row
pub among_front : (side : Side) (by : ℤ) (s : ℕ → ℤ) (parts : List Part) (n : ℕ) (step : Excess) → IsAmong (term_steps side by s (take n parts)) step → IsAmong (term_steps side by s parts) step
among_front side by s parts n step a =
    let split = ap (term_steps side by s) (sym (take-append-drop n parts)) ∙ term_append side by s (take n parts) (drop n parts) in
    subst (λ zs. IsAmong zs step) (sym split) (among_earlier (term_steps side by s (take n parts)) _ step a)

-- a variable's sum with a product of it, and that of each other one
pub sums_with : (sums : List ℤ) (part : Part) (z : ℤ) → part.var < length sums → (side : Side) (by : ℤ) → z ≡ number_at sums part.var +ℤ by_side side (by *ℤ part.coeff)
    → (var : ℕ) → number_at (set sums part.var z) var ≡ number_at sums var +ℤ by_side side (by *ℤ coeff_on var part)
sums_with sums part z within side by is var =
    ⊎_elim (λ (same : part.var ≡ var).
    let test : eqb part.var var ≡ true = is_same part.var var same in
    ap (number_at (set sums part.var z)) (sym same) ∙ get_or-set_same sums part.var z (pos 0) within ∙ is ∙ (λ i. number_at sums (same i) +ℤ by_side side (by *ℤ cond (sym test i) part.coeff (pos 0))))
    (λ (other : part.var ≢ var).
    let test : eqb part.var var ≡ false = is_other part.var var other in
    get_or-set_other sums part.var var z (pos 0) (λ e. other (sym e)) ∙ omega (arith, ints, by_side_zero side by, ap (λ t. by_side side (by *ℤ cond t part.coeff (pos 0))) test))
    (cases_eq part.var var)
  where
    is_same : (a b : ℕ) → a ≡ b → eqb a b ≡ true
    is_same a b h = grind (arith, nat_tests)

    is_other : (a b : ℕ) → a ≢ b → eqb a b ≡ false
    is_other a b h = grind (arith, nat_tests)

module _ (rows : List (List Part)) where
  leaf_same : (s t : ℕ → ℤ) (c d : ℤ) (parts : List FarkasPart) → ((var : ℕ) → s var ≡ t var) → c ≡ d → leaf_steps_from rows s c parts ≡ leaf_steps_from rows t d parts
  leaf_same s t c d parts same constant = λ i. leaf_steps_from rows (λ var. same var i) (constant i) parts

  -- the steps of a part, where the sums and the constant are so far
  abbrev part_steps : (ℕ → ℤ) → ℤ → FarkasPart → List Excess
  part_steps s c part =
      term_steps part.lit.side part.by s (parts_of rows part.lit.term)
      ++ (record { op = Times; x = part.by; y = part.lit.bound }) ∷ (record { op = sum_op part.lit.side; x = c; y = part.by *ℤ part.lit.bound }) ∷ []

  leaf_push : (s : ℕ → ℤ) (c : ℤ) (xs : List FarkasPart) (part : FarkasPart)
      → leaf_steps_from rows s c (xs ++ part ∷ []) ≡ leaf_steps_from rows s c xs ++ part_steps (λ var. s var +ℤ int_sum_by (weight rows var) xs) (c +ℤ int_sum_by bound_weight xs) part
  leaf_push s c [] part = leaf_same s (λ var. s var +ℤ pos 0) c (c +ℤ pos 0) (part ∷ []) (λ var. omega (arith, ints)) (omega (arith, ints))
  leaf_push s c (x ∷ xs) part =
      let next = λ (var : ℕ). s var +ℤ weight rows var x in
      let rest = leaf_push next (c +ℤ bound_weight x) xs part in
      let same = leaf_same (λ var. next var +ℤ int_sum_by (weight rows var) xs) (λ var. s var +ℤ int_sum_by (weight rows var) (x ∷ xs))
      ((c +ℤ bound_weight x) +ℤ int_sum_by bound_weight xs) (c +ℤ int_sum_by bound_weight (x ∷ xs)) (part ∷ []) (λ var. omega (arith, ints)) (omega (arith, ints)) in
      ap (λ zs. term_steps x.lit.side x.by s (parts_of rows x.lit.term) ++ (record { op = Times; x = x.by; y = x.lit.bound }) ∷ (record { op = sum_op x.lit.side; x = c; y = x.by *ℤ x.lit.bound }) ∷ zs)
      (rest ∙ ap (λ zs. leaf_steps_from rows next (c +ℤ bound_weight x) xs ++ zs) same)
      ∙ sym (append_assoc (term_steps x.lit.side x.by s (parts_of rows x.lit.term)) ((record { op = Times; x = x.by; y = x.lit.bound }) ∷ (record { op = sum_op x.lit.side; x = c; y = x.by *ℤ x.lit.bound }) ∷ leaf_steps_from rows next (c +ℤ bound_weight x) xs) _)

  -- one more part
  pub leaf_more : (parts : List FarkasPart) (part : FarkasPart) (sums : List ℤ) (constant : ℤ) → AreWorked rows parts sums constant
      → leaf_steps rows (parts ++ part ∷ []) ≡ leaf_steps rows parts ++ part_steps (number_at sums) constant part
  leaf_more parts part sums constant worked =
      leaf_push (λ _. pos 0) (pos 0) parts part
      ∙ ap (λ zs. leaf_steps rows parts ++ zs) (leaf_same (λ var. pos 0 +ℤ int_sum_by (weight rows var) parts) (number_at sums) (pos 0 +ℤ int_sum_by bound_weight parts) constant (part ∷ [])
      (λ var. omega (arith, ints, worked.summed var)) (omega (arith, ints, worked.bounds)))

  pub worked_more : (parts more : List FarkasPart) (part : FarkasPart) (sums next : List ℤ) (constant sum : ℤ) → AreWorked rows parts sums constant → more ≡ parts ++ part ∷ []
      → ((var : ℕ) → number_at next var ≡ number_at sums var +ℤ weight rows var part) → sum ≡ constant +ℤ bound_weight part
      → All Fits (term_steps part.lit.side part.by (number_at sums) (parts_of rows part.lit.term))
      → Fits (record { op = Times; x = part.by; y = part.lit.bound }) → Fits (record { op = sum_op part.lit.side; x = constant; y = part.by *ℤ part.lit.bound }) → AreWorked rows more next sum
  worked_more parts more part sums next constant sum worked is summed added fit_term fit_times fit_sum = record {
    summed = λ var. summed var ∙ omega (arith, ints, worked.summed var, ap (int_sum_by (weight rows var)) is, int_sum_by_push (weight rows var) parts part);
    bounds = added ∙ omega (arith, ints, worked.bounds, ap (int_sum_by bound_weight) is, int_sum_by_push bound_weight parts part);
    fit = rw (is, leaf_more parts part sums constant worked)
        (All-append Fits (leaf_steps rows parts) (part_steps (number_at sums) constant part) worked.fit
        (All-append Fits (term_steps part.lit.side part.by (number_at sums) (parts_of rows part.lit.term)) _ fit_term (fit_two _ _ fit_times fit_sum)));
  }

  pub among_term : (parts : List FarkasPart) (part : FarkasPart) (sums : List ℤ) (constant : ℤ) (step : Excess) → AreWorked rows parts sums constant
      → IsAmong (term_steps part.lit.side part.by (number_at sums) (parts_of rows part.lit.term)) step → IsAmong (leaf_steps rows (parts ++ part ∷ [])) step
  among_term parts part sums constant step worked a =
      subst (λ zs. IsAmong zs step) (sym (leaf_more parts part sums constant worked))
      (among_later (leaf_steps rows parts) (part_steps (number_at sums) constant part) step (among_earlier (term_steps part.lit.side part.by (number_at sums) (parts_of rows part.lit.term)) _ step a))

  pub among_bound : (parts : List FarkasPart) (part : FarkasPart) (sums : List ℤ) (constant : ℤ) (step : Excess) → AreWorked rows parts sums constant
      → (step ≡ record { op = Times; x = part.by; y = part.lit.bound }) ⊎ (step ≡ record { op = sum_op part.lit.side; x = constant; y = part.by *ℤ part.lit.bound })
      → IsAmong (leaf_steps rows (parts ++ part ∷ [])) step
  among_bound parts part sums constant step worked of =
      subst (λ zs. IsAmong zs step) (sym (leaf_more parts part sums constant worked))
      (among_later (leaf_steps rows parts) (part_steps (number_at sums) constant part) step
      (among_later (term_steps part.lit.side part.by (number_at sums) (parts_of rows part.lit.term)) _ step (among_two _ _ [] step of)))
