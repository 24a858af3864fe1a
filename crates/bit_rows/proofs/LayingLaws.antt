-- What is laid, part by part, and how much it is.
use Rattle.std.proofs.Common.{◌≡◌, ℕ, zero, suc, ◌+◌, ◌<◌, ◌≤◌, Bool, true, false, pos, List, [], ◌∷◌, ◌++◌, length, map, append_assoc, length-append, refl, sym, ap, ap₂, ◌∙◌, arith, add-zero}
use Rattle.std.specs.Prelude.{Option, None, Some}
use Rattle.std.specs.List.{list_all}
use Rattle.std.proofs.lemmas.List.{length-map, map-append}
use Rattle.mix_system.specs.declared.literal.Lit.{Lit}
use Rattle.mix_system.specs.declared.row.Part.{Part}
use Rattle.mix_system.specs.System.{System}
use Rattle.wrap_rows.specs.Normal.{row_of, clause_of}
use Rattle.wrap_rows.specs.Layout.{clause_from}
use Rattle.wrap_rows.specs.Blocks.{equals}
use Rattle.wrap_rows.specs.Piece.{Lays, is_of_rows, names_own_rows}
use Rattle.bit_rows.specs.declared.bits.BitVars.{BitVars}
use Rattle.bit_rows.specs.declared.bitwise.BitKind.{BitKind}
use Rattle.bit_rows.specs.declared.bitwise.BitKind.TheVariants.{And, Or, Xor}
use Rattle.bit_rows.specs.declared.bitwise.Bitwise.{Bitwise}
use Rattle.bit_rows.specs.Bits.{bits_row, lowest, others, StandBefore}
use Rattle.bit_rows.proofs.BitsLaws.{ranges_length}
use Rattle.bit_rows.specs.Bitwise.{ranges, helper_count, bits_at, left_at, right_at, result_at, operand_rows, row_count, is_disjoint, excess_rows, operand_clauses, bit_clauses, bits_clauses, number_clauses, mark_clauses, layout_of, layout}

-- ---- own rows

abbrev Own : ℕ → List (List Lit) → Bool
Own rows clauses = list_all (list_all (λ lit. is_of_rows rows lit.term)) clauses

own_bits : (rows : ℕ) (kind : BitKind) (width x : ℕ) (a b : BitVars) (rest : List (List Lit)) → Own rows rest ≡ true → Own rows (bits_clauses kind width x a b ++ rest) ≡ true
own_bits rows kind zero x a b rest own = own
own_bits rows And (suc width) x a b rest own = own_bits rows And width (x + 1) (others a) (others b) rest own
own_bits rows Or (suc width) x a b rest own = own_bits rows Or width (x + 1) (others a) (others b) rest own
own_bits rows Xor (suc width) x a b rest own = own_bits rows Xor width (x + 1) (others a) (others b) rest own

own : (disjoint : Bool) (a b : Option ℕ) (bitwise : Bitwise) (first : ℕ) → names_own_rows (layout_of disjoint a b bitwise first) ≡ true
own true None None bitwise first = own_bits 4 bitwise.kind bitwise.width _ _ _ (mark_clauses true bitwise (first + 1) 3) refl
own true None (Some other) bitwise first = own_bits 3 bitwise.kind bitwise.width _ _ _ (mark_clauses true bitwise (first + 1) 2) refl
own true (Some literal) None bitwise first = own_bits 3 bitwise.kind bitwise.width _ _ _ (mark_clauses true bitwise (first + 1) 2) refl
own true (Some literal) (Some other) bitwise first = own_bits 2 bitwise.kind bitwise.width _ _ _ (mark_clauses true bitwise (first + 1) 1) refl
own false None None bitwise first = own_bits 3 bitwise.kind bitwise.width _ _ _ (mark_clauses false bitwise (first + 1) 3) refl
own false None (Some other) bitwise first = own_bits 2 bitwise.kind bitwise.width _ _ _ (mark_clauses false bitwise (first + 1) 2) refl
own false (Some literal) None bitwise first = own_bits 2 bitwise.kind bitwise.width _ _ _ (mark_clauses false bitwise (first + 1) 2) refl
own false (Some literal) (Some other) bitwise first = own_bits 1 bitwise.kind bitwise.width _ _ _ (mark_clauses false bitwise (first + 1) 1) refl

pub own_rows : (bitwise : Bitwise) (first : ℕ) → names_own_rows (layout bitwise first) ≡ true
own_rows bitwise first = own (is_disjoint bitwise.kind bitwise.flags) bitwise.a.literal bitwise.b.literal bitwise first

-- ---- the clauses in a system where the piece's first row has a number

raised_equals : (r k : ℕ) → map (clause_from r) (equals k (pos 0)) ≡ map clause_of (equals (r + k) (pos 0))
raised_equals r zero = ap (λ j. map clause_of (equals j (pos 0))) (sym (add-zero r))
raised_equals r (suc k) = refl

raised_operand : (literal : Option ℕ) (r k : ℕ) → map (clause_from r) (operand_clauses literal k) ≡ map clause_of (operand_clauses literal (r + k))
raised_operand None r k = raised_equals r k
raised_operand (Some literal) r k = refl

raised_bits : (kind : BitKind) (width r x : ℕ) (a b : BitVars) → map (clause_from r) (bits_clauses kind width x a b) ≡ map clause_of (bits_clauses kind width x a b)
raised_bits kind zero r x a b = refl
raised_bits And (suc width) r x a b = ap (λ later. map clause_of (bit_clauses And x (lowest a) (lowest b)) ++ later) (raised_bits And width r (x + 1) (others a) (others b))
raised_bits Or (suc width) r x a b = ap (λ later. map clause_of (bit_clauses Or x (lowest a) (lowest b)) ++ later) (raised_bits Or width r (x + 1) (others a) (others b))
raised_bits Xor (suc width) r x a b = ap (λ later. map clause_of (bit_clauses Xor x (lowest a) (lowest b)) ++ later) (raised_bits Xor width r (x + 1) (others a) (others b))

raised_marks : (disjoint : Bool) (bitwise : Bitwise) (mark r k : ℕ) → map (clause_from r) (mark_clauses disjoint bitwise mark k) ≡ map clause_of (mark_clauses disjoint bitwise mark (r + k))
raised_marks false bitwise mark r k = refl
raised_marks true bitwise mark r zero = ap (λ j. map clause_of (mark_clauses true bitwise mark j)) (sym (add-zero r))
raised_marks true bitwise mark r (suc k) = refl

-- ---- what is laid

module _ (bitwise : Bitwise) (first : ℕ) where
  abbrev flag : Bool
  flag = is_disjoint bitwise.kind bitwise.flags

  abbrev lit_a : Option ℕ
  lit_a = bitwise.a.literal

  abbrev lit_b : Option ℕ
  lit_b = bitwise.b.literal

  abbrev left_rows : List (List Part)
  left_rows = map row_of (operand_rows lit_a bitwise.width bitwise.a.vars.number (left_at first))

  abbrev right_rows : List (List Part)
  right_rows = map row_of (operand_rows lit_b bitwise.width bitwise.b.vars.number (right_at lit_a bitwise.width first))

  abbrev number_row : List Part
  number_row = row_of (bits_row bitwise.width first (result_at lit_a lit_b bitwise.width first))

  abbrev last_rows : List (List Part)
  last_rows = map row_of (excess_rows flag bitwise first)

  abbrev bits_laid : List (List Lit)
  bits_laid = map clause_of (number_clauses lit_a lit_b bitwise first)

  -- the rows, one part behind the other
  rows_laid : (old : List (List Part)) → (((old ++ left_rows) ++ right_rows) ++ number_row ∷ []) ++ last_rows ≡ old ++ map row_of (layout bitwise first).rows
  rows_laid old =
      let mine = bits_row bitwise.width first (result_at lit_a lit_b bitwise.width first) ∷ excess_rows flag bitwise first in
      let second = operand_rows lit_b bitwise.width bitwise.b.vars.number (right_at lit_a bitwise.width first) in
      let spread : map row_of (layout bitwise first).rows ≡ left_rows ++ (right_rows ++ number_row ∷ last_rows) =
      map-append row_of (operand_rows lit_a bitwise.width bitwise.a.vars.number (left_at first)) (second ++ mine) ∙ ap (λ rest. left_rows ++ rest) (map-append row_of second mine) in
      append_assoc ((old ++ left_rows) ++ right_rows) (number_row ∷ []) last_rows
      ∙ append_assoc (old ++ left_rows) right_rows (number_row ∷ last_rows)
      ∙ append_assoc old left_rows (right_rows ++ number_row ∷ last_rows)
      ∙ ap (λ rest. old ++ rest) (sym spread)

  clauses_laid : (r : ℕ) (old : List (List Lit))
      → ((((old ++ map clause_of (operand_clauses lit_a r)) ++ map clause_of (operand_clauses lit_b (r + row_count lit_a))) ++ map clause_of (equals (r + (row_count lit_a + row_count lit_b)) (pos 0))) ++ bits_laid) ++ map clause_of (mark_clauses flag bitwise (first + 1) (r + (row_count lit_a + row_count lit_b + 1)))
      ≡ old ++ map (clause_from r) (layout bitwise first).clauses
  clauses_laid r old =
      let f = clause_from r in
      let one = operand_clauses lit_a 0 in
      let two = operand_clauses lit_b (row_count lit_a) in
      let three = equals (row_count lit_a + row_count lit_b) (pos 0) in
      let four = number_clauses lit_a lit_b bitwise first in
      let five = mark_clauses flag bitwise (first + 1) (row_count lit_a + row_count lit_b + 1) in
      let spread : map f (layout bitwise first).clauses ≡ map f one ++ (map f two ++ (map f three ++ (map f four ++ map f five))) =
      map-append f one (two ++ (three ++ (four ++ five)))
      ∙ ap (λ rest. map f one ++ rest) (map-append f two (three ++ (four ++ five)))
      ∙ ap (λ rest. map f one ++ (map f two ++ rest)) (map-append f three (four ++ five))
      ∙ ap (λ rest. map f one ++ (map f two ++ (map f three ++ rest))) (map-append f four five) in
      let is_one : map f one ≡ map clause_of (operand_clauses lit_a r) = raised_operand lit_a r 0 ∙ ap (λ j. map clause_of (operand_clauses lit_a j)) (add-zero r) in
      let is_two = raised_operand lit_b r (row_count lit_a) in
      let is_three = raised_equals r (row_count lit_a + row_count lit_b) in
      let is_four = raised_bits bitwise.kind bitwise.width r (result_at lit_a lit_b bitwise.width first) _ _ in
      let is_five = raised_marks flag bitwise (first + 1) r (row_count lit_a + row_count lit_b + 1) in
      let one_laid = map clause_of (operand_clauses lit_a r) in
      let two_laid = map clause_of (operand_clauses lit_b (r + row_count lit_a)) in
      let three_laid = map clause_of (equals (r + (row_count lit_a + row_count lit_b)) (pos 0)) in
      let five_laid = map clause_of (mark_clauses flag bitwise (first + 1) (r + (row_count lit_a + row_count lit_b + 1))) in
      append_assoc (((old ++ one_laid) ++ two_laid) ++ three_laid) bits_laid five_laid
      ∙ append_assoc ((old ++ one_laid) ++ two_laid) three_laid (bits_laid ++ five_laid)
      ∙ append_assoc (old ++ one_laid) two_laid (three_laid ++ (bits_laid ++ five_laid))
      ∙ append_assoc old one_laid (two_laid ++ (three_laid ++ (bits_laid ++ five_laid)))
      ∙ ap (λ rest. old ++ rest)
      (ap₂ (λ u v. u ++ v) (sym is_one) (ap₂ (λ u v. u ++ v) (sym is_two) (ap₂ (λ u v. u ++ v) (sym is_three) (ap₂ (λ u v. u ++ v) (sym is_four) (sym is_five))))
      ∙ sym spread)

-- ---- the system, part by part

abbrev pub with_operand : (literal : Option ℕ) → (width number first : ℕ) → System → System
with_operand literal width number first system = record system {
  rows = system.rows ++ map row_of (operand_rows literal width number first);
  clauses = system.clauses ++ map clause_of (operand_clauses literal (length system.rows));
}

abbrev pub with_number : (width number first : ℕ) → System → System
with_number width number first system = record system {
  rows = system.rows ++ row_of (bits_row width number first) ∷ [];
  clauses = system.clauses ++ map clause_of (equals (length system.rows) (pos 0));
}

operand_count : (literal : Option ℕ) (width number first : ℕ) (rows : List (List Part)) → length (rows ++ map row_of (operand_rows literal width number first)) ≡ length rows + row_count literal
operand_count None width number first rows = length-append rows (row_of (bits_row width number first) ∷ [])
operand_count (Some literal) width number first rows = length-append rows []

pub rows_with_operand : (literal : Option ℕ) (width number first : ℕ) (old new : System) → new ≡ with_operand literal width number first old → length new.rows ≡ length old.rows + row_count literal
rows_with_operand literal width number first old new is = ap {A = System} (λ s. length s.rows) is ∙ operand_count literal width number first old.rows

any_row : (literal : Option ℕ) (row : ℕ) → length (operand_clauses literal row) ≡ length (operand_clauses literal 0)
any_row None row = refl
any_row (Some literal) row = refl

pub clauses_with_operand : (literal : Option ℕ) (width number first : ℕ) (old new : System) → new ≡ with_operand literal width number first old → length new.clauses ≡ length old.clauses + length (operand_clauses literal 0)
clauses_with_operand literal width number first old new is =
    ap {A = System} (λ s. length s.clauses) is
    ∙ length-append old.clauses (map clause_of (operand_clauses literal (length old.rows)))
    ∙ ap (λ k. length old.clauses + k) (length-map (operand_clauses literal (length old.rows)) clause_of ∙ any_row literal (length old.rows))

-- how much is laid

pub ranges_count : (bitwise : Bitwise) → length (ranges bitwise) ≡ 2 + (helper_count bitwise.a.literal bitwise.width + helper_count bitwise.b.literal bitwise.width + bitwise.width)
ranges_count bitwise = omega (arith, ranges_length (helper_count bitwise.a.literal bitwise.width + helper_count bitwise.b.literal bitwise.width + bitwise.width))

rows_of_operand : (literal : Option ℕ) (width number first : ℕ) → length (operand_rows literal width number first) ≡ row_count literal
rows_of_operand None width number first = refl
rows_of_operand (Some literal) width number first = refl

pub rows_count : (bitwise : Bitwise) (first : ℕ) → length (layout bitwise first).rows ≡ row_count bitwise.a.literal + row_count bitwise.b.literal + 1 + length (excess_rows (is_disjoint bitwise.kind bitwise.flags) bitwise first)
rows_count bitwise first =
    let a = operand_rows bitwise.a.literal bitwise.width bitwise.a.vars.number (left_at first) in
    let b = operand_rows bitwise.b.literal bitwise.width bitwise.b.vars.number (right_at bitwise.a.literal bitwise.width first) in
    let rest = bits_row bitwise.width first (result_at bitwise.a.literal bitwise.b.literal bitwise.width first) ∷ excess_rows (is_disjoint bitwise.kind bitwise.flags) bitwise first in
    omega (arith, length-append a (b ++ rest), length-append b rest, rows_of_operand bitwise.a.literal bitwise.width bitwise.a.vars.number (left_at first), rows_of_operand bitwise.b.literal bitwise.width bitwise.b.vars.number (right_at bitwise.a.literal bitwise.width first))

any_mark : (disjoint : Bool) (bitwise : Bitwise) (mark row other : ℕ) → length (mark_clauses disjoint bitwise mark row) ≡ length (mark_clauses disjoint bitwise mark other)
any_mark true bitwise mark row other = refl
any_mark false bitwise mark row other = refl

pub clauses_count : (bitwise : Bitwise) (first row : ℕ)
    → length (layout bitwise first).clauses ≡ length (operand_clauses bitwise.a.literal 0) + length (operand_clauses bitwise.b.literal 0) + 2 + length (number_clauses bitwise.a.literal bitwise.b.literal bitwise first) + length (mark_clauses (is_disjoint bitwise.kind bitwise.flags) bitwise (first + 1) row)
clauses_count bitwise first row =
    let a = bitwise.a.literal in
    let b = bitwise.b.literal in
    let one = operand_clauses a 0 in
    let two = operand_clauses b (row_count a) in
    let three = equals (row_count a + row_count b) (pos 0) in
    let four = number_clauses a b bitwise first in
    let disjoint = is_disjoint bitwise.kind bitwise.flags in
    let five = mark_clauses disjoint bitwise (first + 1) (row_count a + row_count b + 1) in
    omega (arith, length-append one (two ++ (three ++ (four ++ five))), length-append two (three ++ (four ++ five)), length-append three (four ++ five), length-append four five, any_row b (row_count a), any_mark disjoint bitwise (first + 1) (row_count a + row_count b + 1) row)

pub stand_before : (literal : Option ℕ) (width first vars : ℕ) → first + helper_count literal width ≤ vars → 1 < vars → StandBefore width vars (bits_at literal first)
stand_before None width first vars known constants = known
stand_before (Some literal) width first vars known constants = constants

-- ---- the whole

pub lays : (bitwise : Bitwise) (first next bits row : ℕ) (left_bits right_bits : BitVars) (old one two three four five new : System)
    → next ≡ right_at bitwise.a.literal bitwise.width first
    → bits ≡ result_at bitwise.a.literal bitwise.b.literal bitwise.width first
    → row ≡ length old.rows + (row_count bitwise.a.literal + row_count bitwise.b.literal + 1)
    → left_bits ≡ bits_at bitwise.a.literal (left_at first)
    → right_bits ≡ bits_at bitwise.b.literal next
    → one ≡ with_operand bitwise.a.literal bitwise.width bitwise.a.vars.number (left_at first) old
    → two ≡ with_operand bitwise.b.literal bitwise.width bitwise.b.vars.number next one
    → three ≡ with_number bitwise.width first bits two
    → four ≡ record three { rows = three.rows ++ map row_of (excess_rows (is_disjoint bitwise.kind bitwise.flags) bitwise first) }
    → five ≡ record four { clauses = four.clauses ++ map clause_of (bits_clauses bitwise.kind bitwise.width bits left_bits right_bits) }
    → new ≡ record five { clauses = five.clauses ++ map clause_of (mark_clauses (is_disjoint bitwise.kind bitwise.flags) bitwise (first + 1) row) }
    → Lays (layout bitwise first) old new
lays bitwise first next bits row left_bits right_bits old one two three four five new at_next at_bits at is_left is_right is_one is_two is_three is_four is_five is_new =
    let a = bitwise.a.literal in
    let b = bitwise.b.literal in
    let width = bitwise.width in
    let r = length old.rows in
    let disjoint = is_disjoint bitwise.kind bitwise.flags in
    let mine = bits_clauses bitwise.kind width bits left_bits right_bits in
    let same_bits : mine ≡ number_clauses a b bitwise first =
    ap (λ k. bits_clauses bitwise.kind width k left_bits right_bits) at_bits
    ∙ ap₂ (λ u v. bits_clauses bitwise.kind width (result_at a b width first) u v) is_left (is_right ∙ ap (bits_at b) at_next) in
    let step_one : System → System = with_operand a width bitwise.a.vars.number (left_at first) in
    let step_two : System → System = with_operand b width bitwise.b.vars.number (right_at a width first) in
    let step_three : System → System = with_number width first (result_at a b width first) in
    let step_four : System → System = λ s. record s { rows = s.rows ++ map row_of (excess_rows disjoint bitwise first) } in
    let step_five : System → System = λ s. record s { clauses = s.clauses ++ map clause_of (number_clauses a b bitwise first) } in
    let step_six : System → System = λ s. record s { clauses = s.clauses ++ map clause_of (mark_clauses disjoint bitwise (first + 1) row) } in
    let to_two : two ≡ step_two one = is_two ∙ ap (λ k. with_operand b width bitwise.b.vars.number k one) at_next in
    let to_three : three ≡ step_three two = is_three ∙ ap (λ k. with_number width first k two) at_bits in
    let to_five : five ≡ step_five four = is_five ∙ ap {A = List (List Lit)} (λ k. record four { clauses = four.clauses ++ map clause_of k }) same_bits in
    let rows_one = old.rows ++ left_rows bitwise first in
    let rows_two = rows_one ++ right_rows bitwise first in
    let count_one : length rows_one ≡ r + row_count a = operand_count a width bitwise.a.vars.number (left_at first) old.rows in
    let count_two : length rows_two ≡ r + (row_count a + row_count b) = operand_count b width bitwise.b.vars.number (right_at a width first) rows_one ∙ omega (arith, count_one) in
    let clauses : ℕ → ℕ → ℕ → List (List Lit) =
    λ j k l. ((((old.clauses ++ map clause_of (operand_clauses a r)) ++ map clause_of (operand_clauses b j)) ++ map clause_of (equals k (pos 0))) ++ bits_laid bitwise first) ++ map clause_of (mark_clauses disjoint bitwise (first + 1) l) in
    is_new
    ∙ ap step_six (to_five ∙ ap step_five (is_four ∙ ap step_four (to_three ∙ ap step_three (to_two ∙ ap step_two is_one))))
    ∙ ap₂ (λ rows clauses. record { ranges = old.ranges; rows = rows; clauses = clauses })
    (rows_laid bitwise first old.rows)
    (ap (λ j. clauses j (length rows_two) row) count_one
    ∙ ap (λ k. clauses (r + row_count a) k row) count_two
    ∙ ap (λ l. clauses (r + row_count a) (r + (row_count a + row_count b)) l) at
    ∙ clauses_laid bitwise first r old.clauses)
