-- The laws of a phi's piece.
use Rattle.std.proofs.Common.{◌≡◌, ℕ, zero, suc, ◌+◌, ◌*◌, ◌<◌, ◌≤◌, Bool, true, cond, nat_lt, ℤ, pos, ◌-ℤ◌, ◌≤ℤ◌, ◌⊎◌, List, [], ◌∷◌, ◌++◌, map, take, drop, get_or, length, refl, sym, ap, ◌∙◌, inl, inr, subst, arith}
use Rattle.std.specs.Prelude.{unsigned_abs, slice_index_or}
use Rattle.std.specs.List.{list_all}
use Rattle.std.specs.Ordering.{int_eq}
use Rattle.std.proofs.lemmas.Bool.Decides.{nat_tests}
use Rattle.std.proofs.lemmas.Int.{ints}
use Rattle.std.proofs.lemmas.List.{length-map, length-take-le, map-append, take_more, drop_more}
use Rattle.std.proofs.lemmas.Nat.{pow_pos}
use Rattle.mix_system.specs.declared.literal.Term.TheVariants.{Row}
use Rattle.mix_system.specs.declared.literal.Lit.{Lit}
use Rattle.mix_system.specs.declared.row.Part.{Part}
use Rattle.mix_system.specs.Fits.{IsTrueAt, term_value}
use Rattle.mix_system.specs.Row.{number_at, row_value}
use Rattle.ir_meaning.specs.Value.{poison_if}
use Rattle.wrap_rows.specs.declared.phi.Incoming.{Incoming}
use Rattle.wrap_rows.specs.declared.phi.Phi.{Phi}
use Rattle.wrap_rows.specs.Normal.{clause_of}
use Rattle.wrap_rows.specs.Layout.{clause_from, Holds}
use Rattle.wrap_rows.specs.Vars.{IsMark, IsNumber, value_at}
use Rattle.wrap_rows.specs.Piece.{put_from, AreIn, is_of_rows, names_own_rows}
use Rattle.wrap_rows.specs.Phi.{StandsBefore, IsAt, vars, ranges, row_for, clauses_for, clauses_from, layout, is_taken, taken_count, taken_number, taken_mark, taken_value, numbers, IsIncoming, CanFill, CanSay, meaning}
use Rattle.wrap_rows.proofs.CaseLaws.{by_test, Each, Some_of, Each-from_All}
use Rattle.wrap_rows.proofs.BlockLaws.{mark_cases, each-said, all-true, Each-append, Each-left, Each-right}
use Rattle.wrap_rows.proofs.LinearLaws.{once, less_once}
use Rattle.wrap_rows.proofs.PutLaws.{put-before, put-first, put-second}
use Rattle.wrap_rows.proofs.ReadLaws.{not_both, eq_yes, eq_said}

-- ---- the rows that the clauses name

own_from : (row mark rows : ℕ) (incoming : List Incoming) → row + length incoming ≤ rows → list_all (list_all (λ lit. is_of_rows rows lit.term)) (clauses_from row mark incoming) ≡ true
own_from row mark rows [] within = refl
own_from row mark rows (one ∷ others) within =
    let here : nat_lt row rows ≡ true = below (omega (arith, within)) in
    rw here (own_from (row + 1) mark rows others (omega (arith, within)))
  where
    below : row < rows → nat_lt row rows ≡ true
    below less = grind (arith, nat_tests)

pub own_rows : (phi : Phi) (first : ℕ) → names_own_rows (layout phi first) ≡ true
own_rows phi first =
    own_from 0 (first + 1) (length (map (row_for first) phi.incoming.items)) phi.incoming.items (omega (arith, length-map phi.incoming.items (row_for first)))

-- ---- the rows of the edges from one on

abbrev Stand : ℕ → ℕ → List (List Part) → List Incoming → Type 0
Stand first row rows [] = Unit {0}
Stand first row rows (one ∷ others) = (slice_index_or rows row [] ≡ row_for first one) × Stand first (row + 1) rows others

index_behind : {X : Type 0} (front : List X) (x : X) (rest : List X) (d : X) → slice_index_or (front ++ x ∷ rest) (length front) d ≡ x
index_behind [] x rest d = refl
index_behind (y ∷ front) x rest d = index_behind front x rest d

append_one : {X : Type 0} (front : List X) (x : X) (rest : List X) → (front ++ x ∷ []) ++ rest ≡ front ++ x ∷ rest
append_one [] x rest = refl
append_one (y ∷ front) x rest = ap (λ xs. y ∷ xs) (append_one front x rest)

length_one_more : {X : Type 0} (front : List X) (x : X) → length (front ++ x ∷ []) ≡ length front + 1
length_one_more [] x = refl
length_one_more (y ∷ front) x = omega (arith, length_one_more front x)

stand_behind : (first row : ℕ) (front rows : List (List Part)) (incoming : List Incoming) → rows ≡ front ++ map (row_for first) incoming → row ≡ length front → Stand first row rows incoming
stand_behind first row front rows [] is at = tt
stand_behind first row front rows (one ∷ others) is at = (
  rw (is, at) (index_behind front (row_for first one) (map (row_for first) others) []),
  stand_behind first (row + 1) (front ++ row_for first one ∷ []) rows others (is ∙ sym (append_one front (row_for first one) (map (row_for first) others))) (omega (arith, at, length_one_more front (row_for first one))),
)

stand : (phi : Phi) (first : ℕ) → Stand first 0 (layout phi first).rows phi.incoming.items
stand phi first = stand_behind first 0 [] (layout phi first).rows phi.incoming.items refl refl

-- ---- what the clauses say

module _ (first width : ℕ) (rows : List (List Part)) (point : List ℤ) where
  abbrev Says : List Lit → Type 0
  Says = Some_of (IsTrueAt rows point)

  row_sum : (row : ℕ) (one : Incoming) → slice_index_or rows row [] ≡ row_for first one → term_value rows point (Row row) ≡ number_at point first -ℤ number_at point one.value.number
  row_sum row one at =
      let sum : row_value (slice_index_or rows row []) point ≡ row_value (row_for first one) point = ap (λ parts. row_value parts point) at in
      omega (arith, ints, sum, once (number_at point first), less_once (number_at point one.value.number))

  -- number and mark are those of an operand
  abbrev Equals : Incoming → Type 0
  Equals one = (number_at point first ≡ number_at point one.value.number) × (number_at point (first + 1) ≡ number_at point one.value.mark)

  same_marks : (m n : ℤ) → IsMark m → IsMark n → (pos 1 ≤ℤ m) ⊎ ((n ≤ℤ pos 0) ⊎ ⊥) → (m ≤ℤ pos 0) ⊎ ((pos 1 ≤ℤ n) ⊎ ⊥) → m ≡ n
  same_marks m n is_m is_n forth back =
      elim (mark_cases m is_m) [
        | inl low ↦ elim forth [
          | inl above ↦ absurd (omega (arith, ints, low, above))
          | inr rest ↦ elim rest [ inl below ↦ omega (arith, ints, low, below, is_n.0) | inr none ↦ elim none [ ] ]
        ]
        | inr one ↦ elim back [
          | inl below ↦ absurd (omega (arith, ints, one, below))
          | inr rest ↦ elim rest [ inl above ↦ omega (arith, ints, one, above, is_n.1) | inr none ↦ elim none [ ] ]
        ]
      ]

  -- a clause behind the literal of an edge that is 1
  behind : {A : Type 0} (edge : ℤ) → edge ≡ pos 1 → (edge ≤ℤ pos 0) ⊎ A → A
  behind edge one either = elim either [ inl low ↦ absurd (omega (arith, ints, one, low)) | inr rest ↦ rest ]

  only_one : {A : Type 0} → A ⊎ ⊥ → A
  only_one either = elim either [ inl a ↦ a | inr none ↦ elim none [ ] ]

  said_for : (row : ℕ) (one : Incoming) → slice_index_or rows row [] ≡ row_for first one → IsMark (number_at point (first + 1)) → IsIncoming width point one → number_at point one.edge ≡ pos 1
      → Each Says (clauses_for row (first + 1) one) → Equals one
  said_for row one at is_mark is_incoming taken each =
      let edge = number_at point one.edge in
      let sum = row_sum row one at in
      let above = only_one (behind edge taken each.0) in
      let below = only_one (behind edge taken each.1.0) in (
        omega (arith, ints, sum, above, below),
        same_marks (number_at point (first + 1)) (number_at point one.value.mark) is_mark is_incoming.value.mark (behind edge taken each.1.1.0) (behind edge taken each.1.1.1.0),
      )

  mark_either : (m n : ℤ) → IsMark m → m ≡ n → (pos 1 ≤ℤ m) ⊎ ((n ≤ℤ pos 0) ⊎ ⊥)
  mark_either m n is same = elim (mark_cases m is) [ inl low ↦ inr (inl (omega (arith, ints, low, same))) | inr one ↦ inl (omega (arith, ints, one)) ]

  mark_or : (m n : ℤ) → IsMark m → m ≡ n → (m ≤ℤ pos 0) ⊎ ((pos 1 ≤ℤ n) ⊎ ⊥)
  mark_or m n is same = elim (mark_cases m is) [ inl low ↦ inl (omega (arith, ints, low)) | inr one ↦ inr (inl (omega (arith, ints, one, same))) ]

  true_for : (row : ℕ) (one : Incoming) → slice_index_or rows row [] ≡ row_for first one → IsMark (number_at point (first + 1)) → IsMark (number_at point one.edge) → (number_at point one.edge ≡ pos 1 → Equals one)
      → Each Says (clauses_for row (first + 1) one)
  true_for row one at is_mark is_edge equals =
      elim (mark_cases (number_at point one.edge) is_edge) [
        | inl low ↦
            let off : number_at point one.edge ≤ℤ pos 0 = omega (arith, ints, low) in
            (inl off, (inl off, (inl off, (inl off, tt))))
        | inr taken ↦
            let sum = row_sum row one at in
            let same = equals taken in
            let none : term_value rows point (Row row) ≡ pos 0 = omega (arith, ints, sum, same.0) in (
              inr (inl (omega (arith, ints, none))),
              (
                inr (inl (omega (arith, ints, none))),
                (
                  inr (mark_either (number_at point (first + 1)) (number_at point one.value.mark) is_mark same.1),
                  (inr (mark_or (number_at point (first + 1)) (number_at point one.value.mark) is_mark same.1), tt),
                ),
              ),
            )
      ]

  -- ---- over all edges

  abbrev Here : List Incoming → Type 0
  Here incoming = poison_if (int_eq (number_at point (first + 1)) (pos 1)) (unsigned_abs (number_at point first)) ≡ taken_value point incoming

  equal_values : (one : Incoming) → Equals one → poison_if (int_eq (number_at point (first + 1)) (pos 1)) (unsigned_abs (number_at point first)) ≡ value_at one.value point
  equal_values one same =
      ap (λ m. poison_if (int_eq m (pos 1)) (unsigned_abs (number_at point first))) same.1
      ∙ ap (λ x. poison_if (int_eq (number_at point one.value.mark) (pos 1)) (unsigned_abs x)) same.0

  said_all : (row : ℕ) (incoming : List Incoming) → Stand first row rows incoming → IsMark (number_at point (first + 1)) → Each (IsIncoming width point) incoming → taken_count point incoming ≡ 1 → Each Says (clauses_from row (first + 1) incoming) → Here incoming
  said_all row [] at is_mark are count each = absurd (omega (arith, count))
  said_all row (one ∷ others) at is_mark are count each =
      let mine = clauses_for row (first + 1) one in
      let rest = clauses_from (row + 1) (first + 1) others in
      let value = λ (test : Bool). cond test (value_at one.value point) (taken_value point others) in
      by_test (λ test. cond {A = ℕ} test 1 0 + taken_count point others ≡ 1 → poison_if (int_eq (number_at point (first + 1)) (pos 1)) (unsigned_abs (number_at point first)) ≡ cond test (value_at one.value point) (taken_value point others)) (is_taken point one)
      (λ passes counted. equal_values one (said_for row one at.0 is_mark are.0 (eq_said (number_at point one.edge) (pos 1) passes) (Each-left Says mine rest each)))
      (λ fails counted. said_all (row + 1) others at.1 is_mark are.1 (omega (arith, counted)) (Each-right Says mine rest each))
      count

  true_all : (row : ℕ) (incoming : List Incoming) → Stand first row rows incoming → IsMark (number_at point (first + 1)) → Each (IsIncoming width point) incoming → Each (λ one. number_at point one.edge ≡ pos 1 → Equals one) incoming → Each Says (clauses_from row (first + 1) incoming)
  true_all row [] at is_mark are equals = tt
  true_all row (one ∷ others) at is_mark are equals =
      Each-append Says (clauses_for row (first + 1) one) (clauses_from (row + 1) (first + 1) others)
      (true_for row one at.0 is_mark are.0.edge equals.0)
      (true_all (row + 1) others at.1 is_mark are.1 equals.1)

pub sound : (phi : Phi) (first : ℕ) (point : List ℤ) → IsAt phi first → CanSay phi point → AreIn first (ranges phi) point → Holds (layout phi first) point → value_at (vars phi first) point ≡ meaning phi point
sound phi first point is_at says in_ranges holds =
    let rows = (layout phi first).rows in
    said_all first phi.width rows point 0 phi.incoming.items (stand phi first) in_ranges.1.0 (Each-from_All (IsIncoming phi.width point) phi.incoming.items says.incoming) says.exactly_one
    (each-said (IsTrueAt rows point) (layout phi first).clauses holds)

-- ---- completeness

-- what is filled in is the operand's of each edge that is 1
none_taken : (point : List ℤ) (incoming : List Incoming) (P : Incoming → Type 0) → taken_count point incoming ≡ 0 → Each (λ one. number_at point one.edge ≡ pos 1 → P one) incoming
none_taken point [] P none = tt
none_taken point (one ∷ others) P none =
    by_test (λ test. cond {A = ℕ} test 1 0 + taken_count point others ≡ 0 → (number_at point one.edge ≡ pos 1 → P one) × Each (λ other. number_at point other.edge ≡ pos 1 → P other) others) (is_taken point one)
    (λ passes counted. absurd (omega (arith, counted)))
    (λ fails counted. (λ taken. absurd (not_both (is_taken point one) (eq_yes (number_at point one.edge) (pos 1) taken) fails), none_taken point others P (omega (arith, counted))))
    none

abbrev Filled : List ℤ → (x m : ℤ) → Incoming → Type 0
Filled point x m one = (x ≡ number_at point one.value.number) × (m ≡ number_at point one.value.mark)

filled_all : (point : List ℤ) (incoming : List Incoming) → taken_count point incoming ≤ 1 → Each (λ one. number_at point one.edge ≡ pos 1 → Filled point (taken_number point incoming) (taken_mark point incoming) one) incoming
filled_all point [] most = tt
filled_all point (one ∷ others) most =
    by_test (λ test. cond {A = ℕ} test 1 0 + taken_count point others ≤ 1
    → (number_at point one.edge ≡ pos 1 → Filled point (cond test (number_at point one.value.number) (taken_number point others)) (cond test (number_at point one.value.mark) (taken_mark point others)) one)
    × Each (λ other. number_at point other.edge ≡ pos 1 → Filled point (cond test (number_at point one.value.number) (taken_number point others)) (cond test (number_at point one.value.mark) (taken_mark point others)) other) others)
    (is_taken point one)
    (λ passes counted. (λ taken. (refl, refl), none_taken point others (Filled point (number_at point one.value.number) (number_at point one.value.mark)) (omega (arith, counted))))
    (λ fails counted. (λ taken. absurd (not_both (is_taken point one) (eq_yes (number_at point one.edge) (pos 1) taken) fails), filled_all point others (omega (arith, counted))))
    most

-- the number and the mark that are filled in lie in their ranges
in_range_all : (width : ℕ) (point : List ℤ) (incoming : List Incoming) → Each (IsIncoming width point) incoming → IsNumber width (taken_number point incoming) × IsMark (taken_mark point incoming)
in_range_all width point [] are = ((omega (arith, ints), omega (arith, ints, pow_pos width)), (omega (arith, ints), omega (arith, ints)))
in_range_all width point (one ∷ others) are =
    by_test (λ test. IsNumber width (cond test (number_at point one.value.number) (taken_number point others)) × IsMark (cond test (number_at point one.value.mark) (taken_mark point others))) (is_taken point one)
    (λ passes. (are.0.value.number, are.0.value.mark))
    (λ fails. in_range_all width point others are.1)

-- edges and operands are kept
kept_all : (first width : ℕ) (numbers point : List ℤ) (x m : ℤ) (incoming : List Incoming) → Each (StandsBefore first) incoming → Each (IsIncoming width point) incoming → Each (λ one. number_at point one.edge ≡ pos 1 → Filled point x m one) incoming
    → Each (IsIncoming width (put_from first numbers point)) incoming × Each (λ one. number_at (put_from first numbers point) one.edge ≡ pos 1 → Filled (put_from first numbers point) x m one) incoming
kept_all first width numbers point x m [] before are filled = (tt, tt)
kept_all first width numbers point x m (one ∷ others) before are filled =
    let rest = kept_all first width numbers point x m others before.1 are.1 filled.1 in
    let edge = put-before first numbers point one.edge before.0.edge in
    let number = put-before first numbers point one.value.number before.0.number in
    let mark = put-before first numbers point one.value.mark before.0.mark in (
      (
        record {
          edge = subst IsMark (sym edge) are.0.edge;
          value = record { number = subst (IsNumber width) (sym number) are.0.value.number; mark = subst IsMark (sym mark) are.0.value.mark };
        },
        rest.0,
      ),
      (λ taken. let same = filled.0 (sym edge ∙ taken) in (same.0 ∙ sym number, same.1 ∙ sym mark), rest.1),
    )

-- number and mark stand at their place
placed_all : (first : ℕ) (point : List ℤ) (x m : ℤ) (incoming : List Incoming) → number_at point first ≡ x → number_at point (first + 1) ≡ m → Each (λ one. number_at point one.edge ≡ pos 1 → Filled point x m one) incoming
    → Each (λ one. number_at point one.edge ≡ pos 1 → Filled point (number_at point first) (number_at point (first + 1)) one) incoming
placed_all first point x m incoming is_x is_m filled = rw (is_x, is_m) filled

pub complete : (phi : Phi) (first : ℕ) (point : List ℤ) → IsAt phi first → CanFill phi point → first + length (ranges phi) ≤ length point → AreIn first (ranges phi) (put_from first (numbers phi point) point) × Holds (layout phi first) (put_from first (numbers phi point) point)
complete phi first point is_at takes within =
    let incoming = phi.incoming.items in
    let rows = (layout phi first).rows in
    let new = put_from first (numbers phi point) point in
    let x_number = taken_number point incoming in
    let m_number = taken_mark point incoming in
    let are = Each-from_All (IsIncoming phi.width point) incoming takes.incoming in
    let before = Each-from_All (StandsBefore first) incoming is_at.incoming in
    let x : number_at new first ≡ x_number = put-first first x_number (m_number ∷ []) point (omega (arith, within)) in
    let m : number_at new (first + 1) ≡ m_number = put-second first x_number m_number [] point (omega (arith, within)) in
    let fits = in_range_all phi.width point incoming are in
    let is_x : IsNumber phi.width (number_at new first) = subst (IsNumber phi.width) (sym x) fits.0 in
    let is_m : IsMark (number_at new (first + 1)) = subst IsMark (sym m) fits.1 in
    let kept = kept_all first phi.width (numbers phi point) point x_number m_number incoming before are (filled_all point incoming takes.at_most_one) in (
      ((is_x.0, omega (arith, ints, is_x.1)), (is_m, tt)),
      all-true (IsTrueAt rows new) (layout phi first).clauses
          (true_all first phi.width rows new 0 incoming (stand phi first) is_m kept.0 (placed_all first new x_number m_number incoming x m kept.1)),
    )

-- ---- the clauses that are laid, an edge at a time

clauses_from-more : (row mark at : ℕ) (incoming : List Incoming) (one : Incoming) → at ≡ row + length incoming → clauses_from row mark (incoming ++ one ∷ []) ≡ clauses_from row mark incoming ++ clauses_for at mark one
clauses_from-more row mark at [] one is =
    let here : row ≡ at = omega (arith, is) in
    ap (λ place. clauses_for place mark one) here
clauses_from-more row mark at (first ∷ others) one is =
    ap (λ rest. clauses_for row mark first ++ rest) (clauses_from-more (row + 1) mark at others one (omega (arith, is)))

raised_for : (first row mark : ℕ) (one : Incoming) → map (clause_from first) (clauses_for row mark one) ≡ map clause_of (clauses_for (first + row) mark one)
raised_for first zero mark one =
    let here : first ≡ first + 0 = omega arith in
    ap (λ row. map clause_of (clauses_for row mark one)) here
raised_for first (suc row) mark one = refl

pub laid-more : (first mark i : ℕ) (incoming : List Incoming) (one : Incoming) → i < length incoming → map (clause_from first) (clauses_from 0 mark (take (i + 1) incoming)) ≡ map (clause_from first) (clauses_from 0 mark (take i incoming)) ++ map clause_of (clauses_for (first + i) mark (get_or incoming i one))
laid-more first mark i incoming one within =
    ap (λ taken. map (clause_from first) (clauses_from 0 mark taken)) (take_more incoming i one within)
    ∙ ap (map (clause_from first)) (clauses_from-more 0 mark i (take i incoming) (get_or incoming i one) (omega (arith, length-take-le i incoming (omega (arith, within)))))
    ∙ map-append (clause_from first) (clauses_from 0 mark (take i incoming)) (clauses_for i mark (get_or incoming i one))
    ∙ ap (λ last. map (clause_from first) (clauses_from 0 mark (take i incoming)) ++ last) (raised_for first i mark (get_or incoming i one))

pub clauses_length : (row mark : ℕ) (incoming : List Incoming) → length (clauses_from row mark incoming) ≡ 4 * length incoming
clauses_length row mark [] = refl
clauses_length row mark (one ∷ others) = omega (arith, clauses_length (row + 1) mark others)

-- ---- the first edge that is 1

module _ (point : List ℤ) (incoming : List Incoming) (i : ℕ) (one : Incoming) (low : i < length incoming) (taken : is_taken point (get_or incoming i one) ≡ true) where
  pub number_here : taken_number point (drop i incoming) ≡ number_at point (get_or incoming i one).value.number
  number_here =
      ap (taken_number point) (drop_more incoming i one low)
      ∙ ap (λ (b : Bool). cond b (number_at point (get_or incoming i one).value.number) (taken_number point (drop (i + 1) incoming))) taken

  pub mark_here : taken_mark point (drop i incoming) ≡ number_at point (get_or incoming i one).value.mark
  mark_here =
      ap (taken_mark point) (drop_more incoming i one low)
      ∙ ap (λ (b : Bool). cond b (number_at point (get_or incoming i one).value.mark) (taken_mark point (drop (i + 1) incoming))) taken
