-- How large the numbers are that working bounds of a calm box forms: two bounds of a term, or a row's bound and one of each of its variables.
use Rattle.std.proofs.Common.{◌≡◌, ◌≢◌, ℕ, zero, suc, ◌+◌, ◌*◌, ◌^◌, ◌<◌, ◌≤◌, Bool, true, false, cond, eqb, List, [], ◌∷◌, ◌++◌, length, get_or, map, Some, ℤ, pos, negsuc, neg_ℤ, ◌+ℤ◌, ◌-ℤ◌, ◌*ℤ◌, All, refl, sym, ap, ◌∙◌, subst, ⊎_elim, arith}
use Rattle.std.specs.Prelude.{AllPairs, unsigned_abs, not}
use Rattle.std.specs.Int.{w128}
use Rattle.std.proofs.lemmas.Int.{ints, unsigned_abs-mul, fits_signed_from_abs}
use Rattle.std.proofs.lemmas.Bool.{cases_eq}
use Rattle.std.proofs.lemmas.Bool.Decides.{nat_tests}
use Rattle.std.proofs.lemmas.Nat.{mul-le}
use Rattle.std.proofs.lemmas.List.Elements.{All-head, All-tail, All-cons, All-nil, All-append, All-weaker}
use Rattle.std.proofs.lemmas.List.Sums.{sum_by-cons}
use Rattle.wx_num.specs.declared.excess.NumOp.TheVariants.{Times}
use Rattle.wx_num.specs.declared.excess.Excess.{Excess}
use Rattle.mix_system.specs.declared.literal.Side.{Side}
use Rattle.mix_system.specs.declared.literal.Side.TheVariants.{Le, Ge}
use Rattle.mix_system.specs.declared.literal.Term.{Term}
use Rattle.mix_system.specs.declared.literal.Term.TheVariants.{Var, Row}
use Rattle.mix_system.specs.declared.row.Part.{Part}
use Rattle.mix_system.specs.declared.farkas.FarkasPart.{FarkasPart}
use Rattle.mix_system.specs.Calm.{IsCalm, IsSmall, part_size, row_size}
use Rattle.mix_system.specs.Fits.{IsInRange}
use Rattle.mix_system.specs.Sum.{int_sum_by}
use Rattle.mix_system.specs.System.{System, Exists, IsWellFormed}
use Rattle.mix_system.specs.FarkasSum.{parts_of, by_side, coeff_on, sum_op, weight, bound_weight, term_steps, leaf_steps_from, leaf_steps}
use Rattle.mix_system.proofs.SizeLaws.{above_negated_size, below_size, unsigned_abs-le, unsigned_abs-add, unsigned_abs-in_range}
use Rattle.tableau_rows.specs.declared.entry.Entry.{Entry}
use Rattle.tableau_rows.specs.Turning.{entry_of, turned_number}
use Rattle.bounded_simplex.specs.InForce.{BoundChanges, in_force}
use Rattle.bounded_simplex.specs.Combination.{ArePartsOf, Fits, IsCalmBox}
use Rattle.bounded_simplex.specs.Refutation.{IsPartOf}
use Rattle.bounded_simplex.proofs.CoefficientLaws.{term_of_var, term_of_row}
use Rattle.bounded_simplex.proofs.CombinationLaws.{by_side_zero}
use Rattle.bounded_simplex.proofs.EndLaws.{range_at}

-- sizes of differences, negations and steps

pub sub_size : (a b : ℤ) → unsigned_abs (a -ℤ b) ≤ unsigned_abs a + unsigned_abs b
sub_size a b =
    unsigned_abs-le _ (a -ℤ b) (omega (arith, ints, above_negated_size a, below_size b)) (omega (arith, ints, below_size a, above_negated_size b))

neg_size : (a : ℤ) → unsigned_abs (neg_ℤ a) ≡ unsigned_abs a
neg_size (pos zero) = refl
neg_size (pos (suc n)) = omega (arith, ints)
neg_size (negsuc n) = omega (arith, ints)

by_side_size : (side : Side) (z : ℤ) → unsigned_abs (by_side side z) ≡ unsigned_abs z
by_side_size Le z = refl
by_side_size Ge z = neg_size z

turned_size : (turn : Bool) (z : ℤ) → unsigned_abs (turned_number turn z) ≡ unsigned_abs z
turned_size turn z = elim turn as (λ t. unsigned_abs (turned_number t z) ≡ unsigned_abs z) [ true ↦ neg_size z | false ↦ refl ]

sum_fits : (side : Side) (s p : ℤ) → unsigned_abs s < 2 ^ 125 → unsigned_abs p < 2 ^ 125 → Fits (record { op = sum_op side; x = s; y = p })
sum_fits Le s p s_small p_small = fits_signed_from_abs w128 (s +ℤ p) (omega (arith, unsigned_abs-add s p))
sum_fits Ge s p s_small p_small = fits_signed_from_abs w128 (s -ℤ p) (omega (arith, sub_size s p))

product_fits : (a b : ℤ) → unsigned_abs (a *ℤ b) < 2 ^ 125 → Fits (record { op = Times; x = a; y = b })
product_fits a b small = fits_signed_from_abs w128 (a *ℤ b) (omega (arith, small))

-- a row's coefficient on a variable

abbrev IsRising : List Part → Type 0
IsRising parts = AllPairs (λ part later. part.var < later.var) parts

rising_tail : (p : Part) (parts : List Part) → IsRising (p ∷ parts) → IsRising parts
rising_tail p parts rising i j d before within = rising (suc i) (suc j) d (omega arith) (omega arith)

rising_head : (p : Part) (parts : List Part) → IsRising (p ∷ parts) → All (λ later. p.var < later.var) parts
rising_head p parts rising k d within = rising 0 (suc k) d (omega arith) (omega arith)

rising_one : (p : Part) → IsRising (p ∷ [])
rising_one p i j d before within = absurd (omega (arith, before, within))

eqb_is : (a b : ℕ) → a ≡ b → eqb a b ≡ true
eqb_is a b h = grind (arith, nat_tests)

eqb_not : (a b : ℕ) → a ≢ b → eqb a b ≡ false
eqb_not a b h = grind (arith, nat_tests)

pub coeff_same : (var : ℕ) (part : Part) → part.var ≡ var → coeff_on var part ≡ part.coeff
coeff_same var part same = ap (λ t. cond t part.coeff (pos 0)) (eqb_is part.var var same)

pub coeff_other : (var : ℕ) (part : Part) → part.var ≢ var → coeff_on var part ≡ pos 0
coeff_other var part other = ap (λ t. cond t part.coeff (pos 0)) (eqb_not part.var var other)

coeffs_none : (var : ℕ) (parts : List Part) → All (λ part. part.var ≢ var) parts → int_sum_by (coeff_on var) parts ≡ pos 0
coeffs_none var [] none = refl
coeffs_none var (p ∷ parts) none =
    omega (arith, ints, coeff_other var p (All-head (λ (part : Part). part.var ≢ var) p parts none), coeffs_none var parts (All-tail (λ (part : Part). part.var ≢ var) p parts none))

pub coeffs_size : (var : ℕ) (parts : List Part) → IsRising parts → All (λ part. IsSmall part.coeff) parts → unsigned_abs (int_sum_by (coeff_on var) parts) < 2 ^ 100
coeffs_size var [] rising small = omega arith
coeffs_size var (p ∷ parts) rising small =
    ⊎_elim (λ (same : p.var ≡ var).
    let later = All-weaker (λ (part : Part). p.var < part.var) (λ (part : Part). part.var ≢ var) (λ part h e. absurd (omega (arith, h, e, same))) parts (rising_head p parts rising) in
    let is : p.coeff ≡ int_sum_by (coeff_on var) (p ∷ parts) = omega (arith, ints, coeff_same var p same, coeffs_none var parts later) in
    subst (λ z. unsigned_abs z < 2 ^ 100) is (All-head (λ (part : Part). IsSmall part.coeff) p parts small))
    (λ (other : p.var ≢ var).
    let is : int_sum_by (coeff_on var) parts ≡ int_sum_by (coeff_on var) (p ∷ parts) = omega (arith, ints, coeff_other var p other) in
    subst (λ z. unsigned_abs z < 2 ^ 100) is (coeffs_size var parts (rising_tail p parts rising) (All-tail (λ (part : Part). IsSmall part.coeff) p parts small)))
    (cases_eq p.var var)

-- the steps of a term, and of a part

abbrev AreSmallAt : (ℕ → ℤ) → List Part → Type 0
AreSmallAt sums parts = All (λ part. unsigned_abs (sums part.var) < 2 ^ 125) parts

abbrev AreTimes : ℤ → List Part → Type 0
AreTimes by parts = All (λ part. unsigned_abs (by *ℤ part.coeff) < 2 ^ 125) parts

term_fits : (side : Side) (by : ℤ) (sums : ℕ → ℤ) (parts : List Part) → IsRising parts → AreTimes by parts → AreSmallAt sums parts → All Fits (term_steps side by sums parts)
term_fits side by sums [] rising products at = All-nil Fits
term_fits side by sums (p ∷ parts) rising products at =
    let product = All-head (λ (part : Part). unsigned_abs (by *ℤ part.coeff) < 2 ^ 125) p parts products in
    let sum = All-head (λ (part : Part). unsigned_abs (sums part.var) < 2 ^ 125) p parts at in
    let next = λ (var : ℕ). sums var +ℤ by_side side (by *ℤ coeff_on var p) in
    let later : AreSmallAt next parts = λ k d within.
    let var = (get_or parts k d).var in
    let other = coeff_other var p (λ same. absurd (omega (arith, rising_head p parts rising k d within, same))) in
    let same : sums var ≡ next var = omega (arith, ints, ap (λ c. by_side side (by *ℤ c)) other, by_side_zero side by) in
    subst (λ z. unsigned_abs z < 2 ^ 125) same (All-tail (λ (part : Part). unsigned_abs (sums part.var) < 2 ^ 125) p parts at k d within) in
    let times : Excess = record { op = Times; x = by; y = p.coeff } in
    let put : Excess = record { op = sum_op side; x = sums p.var; y = by *ℤ p.coeff } in
    let rest = term_steps side by next parts in
    All-cons Fits times (put ∷ rest) (product_fits by p.coeff product)
    (All-cons Fits put rest (sum_fits side (sums p.var) (by *ℤ p.coeff) sum product)
    (term_fits side by next parts (rising_tail p parts rising) (All-tail (λ (part : Part). unsigned_abs (by *ℤ part.coeff) < 2 ^ 125) p parts products) later))

leaf_more : (rows : List (List Part)) (sums : ℕ → ℤ) (constant : ℤ) (part : FarkasPart) (parts : List FarkasPart)
    → All Fits (term_steps part.lit.side part.by sums (parts_of rows part.lit.term)) → unsigned_abs (part.by *ℤ part.lit.bound) < 2 ^ 125 → unsigned_abs constant < 2 ^ 125
    → All Fits (leaf_steps_from rows (λ var. sums var +ℤ weight rows var part) (constant +ℤ bound_weight part) parts) → All Fits (leaf_steps_from rows sums constant (part ∷ parts))
leaf_more rows sums constant part parts term product before rest =
    let times : Excess = record { op = Times; x = part.by; y = part.lit.bound } in
    let put : Excess = record { op = sum_op part.lit.side; x = constant; y = part.by *ℤ part.lit.bound } in
    let later = leaf_steps_from rows (λ var. sums var +ℤ weight rows var part) (constant +ℤ bound_weight part) parts in
    All-append Fits (term_steps part.lit.side part.by sums (parts_of rows part.lit.term)) (times ∷ put ∷ later) term
    (All-cons Fits times (put ∷ later) (product_fits part.by part.lit.bound product)
    (All-cons Fits put later (sum_fits part.lit.side constant (part.by *ℤ part.lit.bound) before product) rest))

weight_size : (rows : List (List Part)) (var : ℕ) (part : FarkasPart) → unsigned_abs (weight rows var part) ≡ unsigned_abs part.by * unsigned_abs (int_sum_by (coeff_on var) (parts_of rows part.lit.term))
weight_size rows var part = by_side_size part.lit.side _ ∙ unsigned_abs-mul part.by _

once_size : (by a : ℤ) → unsigned_abs by ≡ 1 → unsigned_abs (by *ℤ a) ≡ unsigned_abs a
once_size by a once = unsigned_abs-mul by a ∙ ap (λ n. n * unsigned_abs a) once ∙ omega arith

-- the parts of a term of a calm system

module _ (system : System) (formed : IsWellFormed system) (calm : IsCalm system) where
  parts_rising : (term : Term) → Exists (length system.ranges) (length system.rows) term → IsRising (parts_of system.rows term)
  parts_rising (Var var) exists = rising_one (record { coeff = pos 1; var = var })
  parts_rising (Row row) exists = (formed.rows row [] exists).rising

  parts_small : (term : Term) → Exists (length system.ranges) (length system.rows) term → All (λ part. IsSmall part.coeff) (parts_of system.rows term)
  parts_small (Var var) exists = All-cons (λ (part : Part). IsSmall part.coeff) (record { coeff = pos 1; var = var }) [] (omega arith) (All-nil (λ (part : Part). IsSmall part.coeff))
  parts_small (Row row) exists = calm.coefficients row [] exists

  -- a bound of a term that is taken once, as the first part
  module _ (part : FarkasPart) (exists : Exists (length system.ranges) (length system.rows) part.lit.term) (once : unsigned_abs part.by ≡ 1) (small : IsSmall part.lit.bound) where
    once_times : AreTimes part.by (parts_of system.rows part.lit.term)
    once_times k d within = omega (arith, once_size part.by (get_or (parts_of system.rows part.lit.term) k d).coeff once, parts_small part.lit.term exists k d within)

    once_bound : unsigned_abs (part.by *ℤ part.lit.bound) < 2 ^ 100
    once_bound = omega (arith, once_size part.by part.lit.bound once, small)

    -- what it leaves on each variable, and the constant
    pub once_sum : (var : ℕ) → unsigned_abs (pos 0 +ℤ weight system.rows var part) < 2 ^ 100
    once_sum var =
        let size = weight_size system.rows var part ∙ ap (λ n. n * unsigned_abs (int_sum_by (coeff_on var) (parts_of system.rows part.lit.term))) once in
        let is : weight system.rows var part ≡ pos 0 +ℤ weight system.rows var part = omega (arith, ints) in
        subst (λ z. unsigned_abs z < 2 ^ 100) is (omega (arith, size, coeffs_size var (parts_of system.rows part.lit.term) (parts_rising part.lit.term exists) (parts_small part.lit.term exists)))

    pub once_constant : unsigned_abs (pos 0 +ℤ bound_weight part) < 2 ^ 100
    once_constant =
        let is : bound_weight part ≡ pos 0 +ℤ bound_weight part = omega (arith, ints) in
        subst (λ z. unsigned_abs z < 2 ^ 100) is (omega (arith, by_side_size part.lit.side (part.by *ℤ part.lit.bound), once_bound))

    pub first_fits : (parts : List FarkasPart) → All Fits (leaf_steps_from system.rows (λ var. pos 0 +ℤ weight system.rows var part) (pos 0 +ℤ bound_weight part) parts) → All Fits (leaf_steps system.rows (part ∷ parts))
    first_fits parts rest =
        let none : AreSmallAt (λ _. pos 0) (parts_of system.rows part.lit.term) = λ k d within. omega arith in
        leaf_more system.rows (λ _. pos 0) (pos 0) part parts (term_fits part.lit.side part.by (λ _. pos 0) (parts_of system.rows part.lit.term) (parts_rising part.lit.term exists) once_times none)
        (omega (arith, once_bound)) (omega arith) rest

  -- two bounds of one term
  pub two_fit : (p q : FarkasPart) → Exists (length system.ranges) (length system.rows) p.lit.term → Exists (length system.ranges) (length system.rows) q.lit.term
      → unsigned_abs p.by ≡ 1 → unsigned_abs q.by ≡ 1 → IsSmall p.lit.bound → IsSmall q.lit.bound → All Fits (leaf_steps system.rows (p ∷ q ∷ []))
  two_fit p q p_exists q_exists p_once q_once p_small q_small =
      let sums = λ (var : ℕ). pos 0 +ℤ weight system.rows var p in
      let at : AreSmallAt sums (parts_of system.rows q.lit.term) = λ k d within. omega (arith, once_sum p p_exists p_once p_small (get_or (parts_of system.rows q.lit.term) k d).var) in
      first_fits p p_exists p_once p_small (q ∷ [])
      (leaf_more system.rows sums (pos 0 +ℤ bound_weight p) q [] (term_fits q.lit.side q.by sums (parts_of system.rows q.lit.term) (parts_rising q.lit.term q_exists) (once_times q q_exists q_once q_small) at)
      (omega (arith, once_bound q q_exists q_once q_small)) (omega (arith, once_constant p p_exists p_once p_small)) (All-nil Fits))

-- A row's bound, and one of each of its variables

-- each bound in force on a variable lies in its range
abbrev pub AreInRanges : BoundChanges → Type 0
AreInRanges bounds = (var : ℕ) (side : Side) (bound : ℤ) → var < length bounds.system.ranges → in_force bounds (Var var) side ≡ Some bound → IsInRange (range_at bounds var) bound

part_by : (bounds : BoundChanges) (upwards : Bool) (entry : Entry) (part : FarkasPart) → IsPartOf bounds upwards entry part → unsigned_abs part.by ≡ unsigned_abs entry.coeff
part_by bounds upwards entry part is = sym (by_side_size part.lit.side part.by) ∙ ap unsigned_abs is.counted ∙ turned_size (not upwards) entry.coeff

-- a row's own column, with -1
abbrev pub row_entry : ℕ → Entry
row_entry column = record { column = column; coeff = negsuc 0 }

module _ (bounds : BoundChanges) (upwards : Bool) (in_ranges : AreInRanges bounds) where
  abbrev IsKnown : Part → Type 0
  IsKnown part = part.var < length bounds.system.ranges

  -- the part of a variable that stands in a row
  module _ (p : Part) (f : FarkasPart) (is : IsPartOf bounds upwards (entry_of p) f) (known : IsKnown p) where
    abbrev one_of : Part
    one_of = record { coeff = pos 1; var = p.var }

    var_term : f.lit.term ≡ Var p.var
    var_term = is.term ∙ term_of_var (length bounds.system.ranges) p.var known

    var_parts : parts_of bounds.system.rows f.lit.term ≡ one_of ∷ []
    var_parts = ap (parts_of bounds.system.rows) var_term

    var_by : unsigned_abs f.by ≡ unsigned_abs p.coeff
    var_by = part_by bounds upwards (entry_of p) f is

    var_bound : unsigned_abs (f.by *ℤ f.lit.bound) ≤ part_size bounds.system.ranges p
    var_bound =
        let says : in_force bounds (Var p.var) f.lit.side ≡ Some f.lit.bound = subst (λ t. in_force bounds t f.lit.side ≡ Some f.lit.bound) var_term is.says in
        let size = unsigned_abs-in_range (range_at bounds p.var) f.lit.bound (in_ranges p.var f.lit.side f.lit.bound known says) in
        rw (unsigned_abs-mul f.by f.lit.bound, var_by) (mul-le _ _ _ _ (omega arith) size)

    var_steps : (sums : ℕ → ℤ) → IsSmall p.coeff → unsigned_abs (sums p.var) < 2 ^ 125 → All Fits (term_steps f.lit.side f.by sums (parts_of bounds.system.rows f.lit.term))
    var_steps sums small at =
        subst (λ ps. All Fits (term_steps f.lit.side f.by sums ps)) (sym var_parts)
        (term_fits f.lit.side f.by sums (one_of ∷ []) (rising_one one_of)
        (All-cons (λ (part : Part). unsigned_abs (f.by *ℤ part.coeff) < 2 ^ 125) one_of [] (omega (arith, unsigned_abs-mul f.by (pos 1), var_by, small)) (All-nil (λ (part : Part). unsigned_abs (f.by *ℤ part.coeff) < 2 ^ 125)))
        (All-cons (λ (part : Part). unsigned_abs (sums part.var) < 2 ^ 125) one_of [] at (All-nil (λ (part : Part). unsigned_abs (sums part.var) < 2 ^ 125))))

    -- it counts on no other variable
    var_other : (sums : ℕ → ℤ) (var : ℕ) → p.var ≢ var → sums var ≡ sums var +ℤ weight bounds.system.rows var f
    var_other sums var other =
        let none : int_sum_by (coeff_on var) (one_of ∷ []) ≡ pos 0 = omega (arith, ints, coeff_other var one_of other) in
        let zero : weight bounds.system.rows var f ≡ pos 0 =
        ap (λ ps. by_side f.lit.side (f.by *ℤ int_sum_by (coeff_on var) ps)) var_parts ∙ ap (λ z. by_side f.lit.side (f.by *ℤ z)) none ∙ by_side_zero f.lit.side f.by in
        omega (arith, ints, zero)

  rest_fit : (front back : List Entry) (row : List Part) (parts : List FarkasPart) (sums : ℕ → ℤ) (constant : ℤ) → front ++ back ≡ map entry_of row
      → ArePartsOf bounds upwards front parts → IsRising row → All IsKnown row → All (λ part. IsSmall part.coeff) row → AreSmallAt sums row
      → unsigned_abs constant + row_size bounds.system.ranges row < 2 ^ 125 → All Fits (leaf_steps_from bounds.system.rows sums constant parts)
  rest_fit [] back row [] sums constant split of rising known small at room = All-nil Fits
  rest_fit [] back row (f ∷ fs) sums constant split of rising known small at room = absurd of
  rest_fit (e ∷ front) back [] parts sums constant split of rising known small at room = let no : ⊥ = cc in absurd no
  rest_fit (e ∷ front) back (p ∷ row) [] sums constant split of rising known small at room = absurd of
  rest_fit (e ∷ front) back (p ∷ row) (f ∷ fs) sums constant split of rising known small at room =
      let first : e ≡ entry_of p = cc in
      let others_split : front ++ back ≡ map entry_of row = cc in
      let is : IsPartOf bounds upwards (entry_of p) f = subst (λ x. IsPartOf bounds upwards x f) first of.0 in
      let p_known = All-head IsKnown p row known in
      let p_small = All-head (λ (part : Part). IsSmall part.coeff) p row small in
      let p_at = All-head (λ (part : Part). unsigned_abs (sums part.var) < 2 ^ 125) p row at in
      let product = var_bound p f is p_known in
      let size = sum_by-cons (part_size bounds.system.ranges) p row in
      let next = λ (var : ℕ). sums var +ℤ weight bounds.system.rows var f in
      let later : AreSmallAt next row = λ k d within.
      let var = (get_or row k d).var in
      let same = var_other p f is p_known sums var (λ e. absurd (omega (arith, e, rising_head p row rising k d within))) in
      subst (λ z. unsigned_abs z < 2 ^ 125) same (All-tail (λ (part : Part). unsigned_abs (sums part.var) < 2 ^ 125) p row at k d within) in
      let more = unsigned_abs-add constant (bound_weight f) in
      let added = by_side_size f.lit.side (f.by *ℤ f.lit.bound) in
      leaf_more bounds.system.rows sums constant f fs (var_steps p f is p_known sums p_small p_at) (omega (arith, product, size, room)) (omega (arith, room))
      (rest_fit front back row fs next (constant +ℤ bound_weight f) others_split of.1 (rising_tail p row rising) (All-tail IsKnown p row known) (All-tail (λ (part : Part). IsSmall part.coeff) p row small) later
      (omega (arith, more, added, product, size, room)))

  -- as many of these parts as there are so far
  pub row_fit : (k : ℕ) (front back : List Entry) (parts : List FarkasPart) → IsCalmBox bounds → k < length bounds.system.rows
      → front ++ back ≡ row_entry (length bounds.system.ranges + k) ∷ map entry_of (get_or bounds.system.rows k [])
      → ArePartsOf bounds upwards front parts → All Fits (leaf_steps bounds.system.rows parts)
  row_fit k [] back [] calm within split of = All-nil Fits
  row_fit k [] back (f ∷ fs) calm within split of = absurd of
  row_fit k (e ∷ front) back [] calm within split of = absurd of
  row_fit k (e ∷ front) back (f ∷ fs) calm within split of =
      let row = get_or bounds.system.rows k [] in
      let own = row_entry (length bounds.system.ranges + k) in
      let first : e ≡ own = cc in
      let others_split : front ++ back ≡ map entry_of row = cc in
      let is : IsPartOf bounds upwards own f = subst (λ x. IsPartOf bounds upwards x f) first of.0 in
      let term : Row k ≡ f.lit.term = sym (is.term ∙ term_of_row (length bounds.system.ranges) k) in
      let exists : Exists (length bounds.system.ranges) (length bounds.system.rows) f.lit.term = subst (Exists (length bounds.system.ranges) (length bounds.system.rows)) term within in
      let once : unsigned_abs f.by ≡ 1 = part_by bounds upwards own f is in
      let small : IsSmall f.lit.bound = calm.small f.lit.term f.lit.side f.lit.bound exists is.says in
      let formed_row = calm.formed.rows k [] within in
      first_fits bounds.system calm.formed calm.system f exists once small fs
      (rest_fit front back row fs (λ var. pos 0 +ℤ weight bounds.system.rows var f) (pos 0 +ℤ bound_weight f) others_split of.1 formed_row.rising formed_row.known (calm.system.coefficients k [] within)
      (λ j d inside. omega (arith, once_sum bounds.system calm.formed calm.system f exists once small (get_or row j d).var))
      (omega (arith, once_constant bounds.system calm.formed calm.system f exists once small, calm.system.sums k [] within)))
