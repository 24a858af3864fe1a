-- The law of wrapping: a number and a carry that make up an exact result, and what the flags bar.
use Rattle.std.proofs.Common.{◌≡◌, ℕ, zero, suc, ◌+◌, ◌-◌, ◌^◌, ◌<◌, ◌≤◌, Bool, true, false, cond, not, ◌&&◌, ◌||◌, ℤ, pos, negsuc, neg_ℤ, ◌+ℤ◌, ◌-ℤ◌, ◌*ℤ◌, ◌≤ℤ◌, ◌⊎◌, List, [], ◌∷◌, ◌++◌, length, map, length-append, refl, sym, ap, ap₂, ◌∙◌, inl, inr, arith}
use Rattle.std.specs.Prelude.{◌↔◌, int_lt, int_le, unsigned_abs, All}
use Rattle.std.proofs.Math.Nat.{pow-le-pow_right}
use Rattle.std.proofs.lemmas.Int.{ints, by_lt_z}
use Rattle.std.proofs.lemmas.List.{length-map}
use Rattle.mix_system.specs.declared.literal.Lit.{Lit}
use Rattle.mix_system.specs.declared.literal.Term.TheVariants.{Var, Row}
use Rattle.mix_system.specs.declared.row.Part.{Part}
use Rattle.mix_system.specs.Fits.{IsTrueAt, term_value}
use Rattle.mix_system.specs.Lit.{negation}
use Rattle.mix_system.specs.Row.{number_at}
use Rattle.mix_system.specs.System.{IsInner, Exists}
use Rattle.ir_meaning.specs.Whole.{IsWidth, signed, modulo, is_unsigned, is_signed}
use Rattle.ir_meaning.proofs.ModuloLaws.{modulo-pos, modulo-negsuc}
use Rattle.wrap_rows.specs.declared.wrapping.Wrapped.{Wrapped}
use Rattle.wrap_rows.specs.Blocks.{from_operand, from_listed, closing, marks, sign_of}
use Rattle.wrap_rows.specs.Layout.{at_most, at_least}
use Rattle.wrap_rows.specs.Vars.{IsNumber}
use Rattle.wrap_rows.specs.Wrapping.{leaving, exceeding, listed, literals}
use Rattle.wrap_rows.proofs.CaseLaws.{Each, Some_of, All-from_Each}
use Rattle.wrap_rows.proofs.BlockLaws.{Each-append}
use Rattle.wrap_rows.proofs.SignLaws.{signed-law}
use Rattle.wrap_rows.proofs.ReadLaws.{not_both, le_yes, le_no, lt_yes, lt_no}
use Rattle.wrap_rows.proofs.WrapLaws.{number_of}

-- ---- an exact result is the number, with 2^width times the carry

pub record Wraps (width : ℕ) (exact x carry : ℤ) : Type 0 where
  pub number : IsNumber width x
  pub sum : exact ≡ x +ℤ (pos (2 ^ width) *ℤ carry)

pub modulo-wraps : (width : ℕ) (exact x carry : ℤ) → Wraps width exact x carry → modulo width exact ≡ unsigned_abs x
modulo-wraps width (pos n) x (pos k) w =
    modulo-pos width k (unsigned_abs x) n (omega (arith, ints, w.number.0, w.number.1)) (omega (arith, ints, w.sum, w.number.0))
modulo-wraps width (pos n) x (negsuc k) w = absurd (omega (arith, ints, w.sum, w.number.1))
modulo-wraps width (negsuc n) x (pos k) w = absurd (omega (arith, ints, w.sum, w.number.0))
modulo-wraps width (negsuc n) x (negsuc k) w =
    modulo-negsuc width k (unsigned_abs x) n (omega (arith, ints, w.number.0, w.number.1)) (omega (arith, ints, w.sum, w.number.0))

-- ---- a list of two literals, one of which bars

two_true : {A B : Type 0} (test : Bool) → (A → test ≡ true) → (B → test ≡ true) → (test ≡ true → A ⊎ B) → (A ⊎ (B ⊎ ⊥)) ↔ test ≡ true
two_true test first second either = (
  λ some. elim some [ inl a ↦ first a | inr rest ↦ elim rest [ inl b ↦ second b | inr none ↦ elim none [ ] ] ],
  λ passes. elim (either passes) [ inl a ↦ inl a | inr b ↦ inr (inl b) ],
)

-- the carry isn't 0 exactly where the exact result leaves the numbers of the width
abbrev pub leaves : ℕ → ℤ → Bool
leaves width exact = not (is_unsigned width exact)

stays : (width : ℕ) (exact x : ℤ) → Wraps width exact x (pos 0) → leaves width exact ≡ false
stays width exact x w =
    let same : exact ≡ x = omega (arith, ints, w.sum) in
    ap (λ t. not (t && int_lt exact (pos (2 ^ width)))) (le_yes (pos 0) exact (omega (arith, ints, same, w.number.0)))
    ∙ ap not (lt_yes exact (pos (2 ^ width)) (omega (arith, ints, same, w.number.1)))

not_above : (low below : Bool) → below ≡ false → not (low && below) ≡ true
not_above true below fails = ap not fails
not_above false below fails = refl

not_below : (low below : Bool) → low ≡ false → not (low && below) ≡ true
not_below low below fails = ap (λ t. not (t && below)) fails

leaves-above : (width k : ℕ) (exact x : ℤ) → Wraps width exact x (pos (suc k)) → leaves width exact ≡ true
leaves-above width k exact x w =
    not_above (int_le (pos 0) exact) (int_lt exact (pos (2 ^ width)))
    (lt_no exact (pos (2 ^ width)) (omega (arith, ints, w.sum, w.number.0)))

leaves-below : (width k : ℕ) (exact x : ℤ) → Wraps width exact x (negsuc k) → leaves width exact ≡ true
leaves-below width k exact x w =
    not_below (int_le (pos 0) exact) (int_lt exact (pos (2 ^ width)))
    (le_no (pos 0) exact (omega (arith, ints, w.sum, w.number.1)))

pub leaving-said : (width : ℕ) (exact x carry : ℤ) → Wraps width exact x carry → ((pos 1 ≤ℤ carry) ⊎ ((carry ≤ℤ negsuc 0) ⊎ ⊥)) ↔ leaves width exact ≡ true
leaving-said width exact x (pos zero) w =
    two_true (leaves width exact) (λ above. absurd (omega (arith, ints, above))) (λ below. absurd (omega (arith, ints, below)))
    (λ passes. absurd (not_both (leaves width exact) passes (stays width exact x w)))
leaving-said width exact x (pos (suc k)) w =
    two_true (leaves width exact) (λ above. leaves-above width k exact x w) (λ below. leaves-above width k exact x w) (λ passes. inl (omega (arith, ints)))
leaving-said width exact x (negsuc k) w =
    two_true (leaves width exact) (λ above. leaves-below width k exact x w) (λ below. leaves-below width k exact x w) (λ passes. inr (omega (arith, ints)))

-- the signed result leaves the signed numbers of the width
abbrev pub exceeds : ℕ → ℤ → Bool
exceeds width t = not (is_signed width t)

pub exceeding-said : (width : ℕ) (sum t : ℤ) → sum ≡ t → ((pos (2 ^ (width - 1)) ≤ℤ sum) ⊎ ((sum ≤ℤ (neg_ℤ (pos (2 ^ (width - 1))) -ℤ pos 1)) ⊎ ⊥)) ↔ exceeds width t ≡ true
exceeding-said width sum t is =
    let half = 2 ^ (width - 1) in
    let low = int_le (neg_ℤ (pos half)) t in
    let below = int_lt t (pos half) in
    two_true (exceeds width t)
    (λ above. not_above low below (lt_no t (pos half) (omega (arith, ints, above, is))))
    (λ under. not_below low below (le_no (neg_ℤ (pos half)) t (omega (arith, ints, under, is))))
    (λ passes. by_lt_z t (neg_ℤ (pos half)) (λ under. inr (omega (arith, ints, under, is)))
    (λ not_under. by_lt_z t (pos half)
    (λ small. absurd (not_both (exceeds width t) passes (ap (λ s. not (s && below)) (le_yes (neg_ℤ (pos half)) t not_under) ∙ ap not (lt_yes t (pos half) small))))
    (λ large. inl (omega (arith, ints, large, is)))))

-- ---- the literals of two flags

some_left : {X : Type 0} (P : X → Type 0) (xs ys : List X) → Some_of P xs → Some_of P (xs ++ ys)
some_left P [] ys some = elim some [ ]
some_left P (x ∷ xs) ys some = elim some [ inl here ↦ inl here | inr later ↦ inr (some_left P xs ys later) ]

some_right : {X : Type 0} (P : X → Type 0) (xs ys : List X) → Some_of P ys → Some_of P (xs ++ ys)
some_right P [] ys some = some
some_right P (x ∷ xs) ys some = inr (some_right P xs ys some)

some_either : {X : Type 0} (P : X → Type 0) (xs ys : List X) → Some_of P (xs ++ ys) → Some_of P xs ⊎ Some_of P ys
some_either P [] ys some = inr some
some_either P (x ∷ xs) ys some =
    elim some [
      | inl here ↦ inl (inl here)
      | inr later ↦ elim (some_either P xs ys later) [ inl left ↦ inl (inr left) | inr right ↦ inr right ]
    ]

one_of : {X : Type 0} (P : X → Type 0) (flag test : Bool) (lits : List X) → (flag ≡ true → (Some_of P lits ↔ test ≡ true)) → (Some_of P (cond flag lits []) ↔ (flag && test) ≡ true)
one_of P true test lits same = same refl
one_of P false test lits same = (λ some. elim some [ ], λ passes. absurd (not_both false passes refl))

either_test : {X : Type 0} (P : X → Type 0) (left right : Bool) (xs ys : List X) → (Some_of P xs ↔ left ≡ true) → (Some_of P ys ↔ right ≡ true) → (Some_of P (xs ++ ys) ↔ (left || right) ≡ true)
either_test P true right xs ys first second = (λ some. refl, λ passes. some_left P xs ys (first.1 refl))
either_test P false right xs ys first second = (
  λ some. elim (some_either P xs ys some) [ inl left ↦ absurd (not_both false (first.0 left) refl) | inr there ↦ second.0 there ],
  λ passes. some_right P xs ys (second.1 passes),
)

-- a listed literal is true exactly where a flag bars the result
pub listed-said : {X : Type 0} (P : X → Type 0) (nuw nsw left right : Bool) (xs ys : List X) → (nuw ≡ true → (Some_of P xs ↔ left ≡ true)) → (nsw ≡ true → (Some_of P ys ↔ right ≡ true))
    → (Some_of P (cond nuw xs [] ++ cond nsw ys []) ↔ ((nuw && left) || (nsw && right)) ≡ true)
listed-said P nuw nsw left right xs ys first second =
    either_test P (nuw && left) (nsw && right) (cond nuw xs []) (cond nsw ys []) (one_of P nuw left xs first) (one_of P nsw right ys second)

-- where the carry may be of either sign
pub bars-said : (rows : List (List Part)) (point : List ℤ) (nuw nsw : Bool) (width carry row : ℕ) (exact exact_signed x : ℤ) → Wraps width exact x (number_at point carry) → (nsw ≡ true → term_value rows point (Row row) ≡ exact_signed)
    → (Some_of (IsTrueAt rows point) (listed nuw nsw (leaving carry) (exceeding width row)) ↔ ((nuw && leaves width exact) || (nsw && exceeds width exact_signed)) ≡ true)
bars-said rows point nuw nsw width carry row exact exact_signed x wraps means =
    listed-said (IsTrueAt rows point) nuw nsw (leaves width exact) (exceeds width exact_signed) (leaving carry) (exceeding width row)
    (λ set. leaving-said width exact x (number_at point carry) wraps)
    (λ set. exceeding-said width (term_value rows point (Row row)) exact_signed (means set))

-- ---- signed readings

pub signed_by : (width : ℕ) (a sign : ℤ) → IsWidth width → IsNumber width a → sign ≡ sign_of width a → signed width (unsigned_abs a) ≡ a -ℤ (pos (2 ^ width) *ℤ sign)
signed_by width a sign w is_a is =
    let whole : pos (unsigned_abs a) ≡ a = number_of a is_a.0 in
    signed-law width (unsigned_abs a) w (omega (arith, ints, is_a.1, whole))
    ∙ ap (λ z. z -ℤ (pos (2 ^ width) *ℤ sign_of width z)) whole
    ∙ ap (λ s. a -ℤ (pos (2 ^ width) *ℤ s)) (sym is)

pub lt_failed : (x y : ℤ) → int_lt x y ≡ false → y ≤ℤ x
lt_failed x y fails = by_lt_z x y (λ below. absurd (not_both (int_lt x y) (lt_yes x y below) fails)) (λ above. above)

-- ---- what is asked of the literals that are listed

pub each-listed : {X : Type 0} (P : X → Type 0) (nuw nsw : Bool) (xs ys : List X) → Each P xs → (nsw ≡ true → Each P ys) → Each P (cond nuw xs [] ++ cond nsw ys [])
each-listed {X = X} P nuw nsw xs ys left right = Each-append P (cond nuw xs []) (cond nsw ys []) (chosen nuw xs (λ set. left)) (chosen nsw ys right)
  where
    chosen : (flag : Bool) (lits : List X) → (flag ≡ true → Each P lits) → Each P (cond flag lits [])
    chosen true lits each = each refl
    chosen false lits each = tt

half_small : (width : ℕ) → IsWidth width → 2 ^ (width - 1) ≤ 2 ^ 31
half_small width w = pow-le-pow_right {n = 2} (omega arith) {i = width - 1} {j = 31} (omega (arith, w.greatest))

pub leaving-inner : (carry : ℕ) → Each (λ lit. IsInner lit.bound) (leaving carry)
leaving-inner carry = (
  record { above_least = omega (arith, ints); below_greatest = omega (arith, ints) },
  (record { above_least = omega (arith, ints); below_greatest = omega (arith, ints) }, tt),
)

pub leaving-opposite : (carry : ℕ) → Each (λ lit. IsInner (negation lit).bound) (leaving carry)
leaving-opposite carry = (
  record { above_least = omega (arith, ints); below_greatest = omega (arith, ints) },
  (record { above_least = omega (arith, ints); below_greatest = omega (arith, ints) }, tt),
)

pub exceeding-inner : (width row : ℕ) → IsWidth width → Each (λ lit. IsInner lit.bound) (exceeding width row)
exceeding-inner width row w =
    let small = half_small width w in (
      record { above_least = omega (arith, ints, small); below_greatest = omega (arith, ints, small) },
      (record { above_least = omega (arith, ints, small); below_greatest = omega (arith, ints, small) }, tt),
    )

pub exceeding-opposite : (width row : ℕ) → IsWidth width → Each (λ lit. IsInner (negation lit).bound) (exceeding width row)
exceeding-opposite width row w =
    let small = half_small width w in (
      record { above_least = omega (arith, ints, small); below_greatest = omega (arith, ints, small) },
      (record { above_least = omega (arith, ints, small); below_greatest = omega (arith, ints, small) }, tt),
    )

-- ---- the literals of a result that is exact but for its carry

pub literals_are : (wrapped : Wrapped) (a b t u : Lit) (lits : List Lit) → lits ≡ listed wrapped.flags.nuw wrapped.flags.nsw (a ∷ b ∷ []) (t ∷ u ∷ [])
    → a ≡ at_least (Var wrapped.carry) (pos 1) → b ≡ at_most (Var wrapped.carry) (negsuc 0) → t ≡ at_least (Row wrapped.row) (pos (2 ^ (wrapped.width - 1))) → u ≡ at_most (Row wrapped.row) (neg_ℤ (pos (2 ^ (wrapped.width - 1))) -ℤ pos 1)
    → lits ≡ literals wrapped
literals_are wrapped a b t u lits is is_a is_b is_t is_u =
    is
    ∙ ap₂ (listed wrapped.flags.nuw wrapped.flags.nsw) (ap₂ (λ p q. p ∷ q ∷ []) is_a is_b) (ap₂ (λ p q. p ∷ q ∷ []) is_t is_u)

pub literals_known : (wrapped : Wrapped) (vars rows : ℕ) → wrapped.carry < vars → (wrapped.flags.nsw ≡ true → wrapped.row < rows) → All (λ lit. Exists vars rows lit.term) (literals wrapped)
literals_known wrapped vars rows carry_known row_known =
    All-from_Each (λ lit. Exists vars rows lit.term) (literals wrapped)
    (each-listed (λ lit. Exists vars rows lit.term) wrapped.flags.nuw wrapped.flags.nsw (leaving wrapped.carry) (exceeding wrapped.width wrapped.row) (carry_known, (carry_known, tt)) (λ set. (row_known set, (row_known set, tt))))

pub literals_inner : (wrapped : Wrapped) → IsWidth wrapped.width → All (λ lit. IsInner lit.bound) (literals wrapped)
literals_inner wrapped w =
    All-from_Each (λ lit. IsInner lit.bound) (literals wrapped)
    (each-listed (λ lit. IsInner lit.bound) wrapped.flags.nuw wrapped.flags.nsw (leaving wrapped.carry) (exceeding wrapped.width wrapped.row) (leaving-inner wrapped.carry) (λ set. exceeding-inner wrapped.width wrapped.row w))

pub literals_opposite : (wrapped : Wrapped) → IsWidth wrapped.width → All (λ lit. IsInner (negation lit).bound) (literals wrapped)
literals_opposite wrapped w =
    All-from_Each (λ lit. IsInner (negation lit).bound) (literals wrapped)
    (each-listed (λ lit. IsInner (negation lit).bound) wrapped.flags.nuw wrapped.flags.nsw (leaving wrapped.carry) (exceeding wrapped.width wrapped.row) (leaving-opposite wrapped.carry) (λ set. exceeding-opposite wrapped.width wrapped.row w))

pub marks_count : (mark : ℕ) (operands : List ℕ) (listed : List Lit) → length (marks mark operands listed) ≡ length operands + (length listed + 1)
marks_count mark operands listed =
    let front = map (from_operand mark) operands in
    let middle = map (from_listed mark) listed in
    omega (
      arith,
      length-append front (middle ++ closing mark operands listed ∷ []),
      length-append middle (closing mark operands listed ∷ []),
      length-map operands (from_operand mark),
      length-map listed (from_listed mark),
    )
