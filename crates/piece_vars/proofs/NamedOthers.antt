-- What the pieces of bit_rows and div_rows name.
use Rattle.std.proofs.Common.{◌≡◌, ℕ, zero, suc, ◌+◌, ◌-◌, ◌%◌, ◌^◌, ◌<◌, Bool, true, false, cond, pos, [], ◌∷◌, ◌++◌, length, arith}
use Rattle.std.specs.Prelude.{Option, None, Some}
use Rattle.std.specs.List.{AllByRecursion as Each}
use Rattle.mix_system.specs.declared.literal.Term.TheVariants.{Var, Row}
use Rattle.bit_rows.specs.declared.bits.BitVars.{BitVars}
use Rattle.bit_rows.specs.declared.bits.BitVars.TheVariants.{Helpers, Literal}
use Rattle.bit_rows.specs.declared.bitwise.BitKind.{BitKind}
use Rattle.bit_rows.specs.declared.bitwise.BitKind.TheVariants.{And, Or, Xor}
use Rattle.bit_rows.specs.declared.bitwise.Bitwise.{Bitwise}
use Rattle.div_rows.specs.declared.division.DivisionKind.{DivisionKind}
use Rattle.div_rows.specs.declared.division.DivisionKind.TheVariants.{Quotient, Remainder}
use Rattle.div_rows.specs.declared.unsigned_division.UnsignedDivision.{UnsignedDivision}
use Rattle.div_rows.specs.declared.signed_division.SignedDivision.{SignedDivision}
use Rattle.div_rows.specs.declared.abs.Abs.{Abs}
use Rattle.div_rows.specs.declared.extreme.ExtremeKind.{ExtremeKind}
use Rattle.div_rows.specs.declared.extreme.Extreme.{Extreme}
use Rattle.wrap_rows.specs.Layout.{at_least}
use Rattle.wrap_rows.specs.Blocks.{equals, marks, sign_clauses}
use Rattle.bit_rows.specs.Bits.{bits_row, minus_bits, lowest, others}
use Rattle.bit_rows.specs.Bitwise as bitwise
use Rattle.div_rows.specs.Division.{is_exact, chosen}
use Rattle.div_rows.specs.UnsignedDivision as unsigned_division
use Rattle.div_rows.specs.SignedDivision as signed_division
use Rattle.div_rows.specs.Abs as abs
use Rattle.div_rows.specs.Extreme as extreme
use Rattle.bit_rows.proofs.LayingLaws.{ranges_count}
use Rattle.ir_pieces.proofs.BoundLaws.{each-append, each-if}
use Rattle.piece_vars.specs.Named.{IsPartIn, IsLitIn, NamesOnly, Own}
use Rattle.piece_vars.specs.Reads.{Both}
use Rattle.piece_vars.proofs.NamedBlocks.{AreOf, both, equals-of, sign_clauses-of, marks-of}

module _ (Is : ℕ → Type 0) where
  -- ---- divisions

  unsigned-of : (kind : DivisionKind) (piece : UnsignedDivision) (first : ℕ) → Own Is first (length (unsigned_division.ranges piece)) → Both Is piece.a × Is piece.divisor_mark → NamesOnly Is (unsigned_division.layout_of kind piece first)
  unsigned-of Quotient piece first own reads =
      let operands = piece.a.mark ∷ piece.divisor_mark ∷ [] in
      let rest = at_least (Var (first + 1 + 1)) (pos 1) ∷ [] in
      let list = cond piece.flags.exact rest [] in
      let marked = marks (first + 1) operands list in
      record {
        rows = ((reads.0.0, (own _ (omega arith) (omega arith), (own _ (omega arith) (omega arith), tt))), tt);
        clauses = both Is (equals 0 (pos 0)) marked (equals-of Is 0 (pos 0)) (marks-of Is (first + 1) operands list (own _ (omega arith) (omega arith)) (reads.0.1, (reads.1, tt)) (each-if (IsLitIn Is) piece.flags.exact rest [] (own _ (omega arith) (omega arith), tt) tt));
      }
  unsigned-of Remainder piece first own reads =
      let operands = piece.a.mark ∷ piece.divisor_mark ∷ [] in
      let marked = marks (first + 1) operands [] in
      record {
        rows = ((reads.0.0, (own _ (omega arith) (omega arith), (own _ (omega arith) (omega arith), tt))), tt);
        clauses = ((own _ (omega arith) (omega arith), tt), both Is (equals 0 (pos 0)) marked (equals-of Is 0 (pos 0)) (marks-of Is (first + 1) operands [] (own _ (omega arith) (omega arith)) (reads.0.1, (reads.1, tt)) tt));
      }

  pub unsigned_division-named : (piece : UnsignedDivision) (first : ℕ) → Own Is first (length (unsigned_division.ranges piece)) → Both Is piece.a × Is piece.divisor_mark → NamesOnly Is (unsigned_division.layout piece first)
  unsigned_division-named piece first own reads = unsigned-of piece.kind piece first own reads

  signed-of : (kind : DivisionKind) (exact : Bool) (piece : SignedDivision) (first : ℕ) → Own Is first (length (signed_division.ranges piece)) → Both Is piece.a × Is piece.divisor_mark → NamesOnly Is (record {
    rows = signed_division.rows_of kind piece first;
    clauses = sign_clauses piece.width 0 ++ (equals 1 (pos 0) ++ (signed_division.side_clauses first ++ (equals 2 (pos 0) ++ marks (first + 1) (piece.a.mark ∷ piece.divisor_mark ∷ []) (signed_division.listed exact (signed_division.remainder_at first)))));
  })
  signed-of kind exact piece first own reads =
      let a : Is piece.a.number = reads.0.0 in
      let operands = piece.a.mark ∷ piece.divisor_mark ∷ [] in
      let rest = signed_division.listed true (signed_division.remainder_at first) in
      let list = cond exact rest [] in
      let marked = marks (first + 1) operands list in
      let sides = signed_division.side_clauses first in
      record {
        rows = ((a, (own _ (omega arith) (omega arith), tt)), ((a, (own _ (omega arith) (omega arith), (own _ (omega arith) (omega arith), (own _ (omega arith) (omega arith), tt)))), ((own _ (omega arith) (omega arith), (chosen_of kind, (own _ (omega arith) (omega arith), tt))), tt)));
        clauses =
            both Is (sign_clauses piece.width 0) (equals 1 (pos 0) ++ (sides ++ (equals 2 (pos 0) ++ marked))) (sign_clauses-of Is piece.width 0)
            (both Is (equals 1 (pos 0)) (sides ++ (equals 2 (pos 0) ++ marked)) (equals-of Is 1 (pos 0))
            (both Is sides (equals 2 (pos 0) ++ marked) ((own _ (omega arith) (omega arith), (own _ (omega arith) (omega arith), tt)), ((own _ (omega arith) (omega arith), (own _ (omega arith) (omega arith), tt)), tt))
            (both Is (equals 2 (pos 0)) marked (equals-of Is 2 (pos 0))
            (marks-of Is (first + 1) operands list (own _ (omega arith) (omega arith)) (reads.0.1, (reads.1, tt)) (each-if (IsLitIn Is) exact rest [] (own _ (omega arith) (omega arith), (own _ (omega arith) (omega arith), tt)) tt)))));
      }
    where
      chosen_of : (k : DivisionKind) → Is (chosen k (signed_division.quotient_at first) (signed_division.remainder_at first))
      chosen_of Quotient = own _ (omega arith) (omega arith)
      chosen_of Remainder = own _ (omega arith) (omega arith)

  pub signed_division-named : (piece : SignedDivision) (first : ℕ) → Own Is first (length (signed_division.ranges piece)) → Both Is piece.a × Is piece.divisor_mark → NamesOnly Is (signed_division.layout piece first)
  signed_division-named piece first own reads = signed-of piece.kind (is_exact piece.kind piece.flags) piece first own reads

  -- ---- absolute values

  pub abs-named : (piece : Abs) (first : ℕ) → Own Is first (length (abs.ranges piece)) → Both Is piece.a → NamesOnly Is (abs.layout piece first)
  abs-named piece first own reads =
      let a : Is piece.a.number = reads.0 in
      let x : Is first = own _ (omega arith) (omega arith) in
      let s : Is (first + 1 + 1) = own _ (omega arith) (omega arith) in
      let large = at_least (Var first) (pos (2 ^ (piece.width - 1))) ∷ [] in
      let list = cond piece.strict large [] in
      let operands = piece.a.mark ∷ [] in
      let marked = marks (first + 1) operands list in
      let sizes = abs.size_clauses piece (first + 1 + 1) in
      record {
        rows = ((a, (s, tt)), ((x, (a, tt)), ((x, (a, tt)), tt)));
        clauses =
            both Is (sign_clauses piece.width 0) (sizes ++ marked) (sign_clauses-of Is piece.width 0)
            (both Is sizes marked ((s, (tt, tt)), ((s, (tt, tt)), ((s, (tt, tt)), ((s, (tt, tt)), tt))))
            (marks-of Is (first + 1) operands list (own _ (omega arith) (omega arith)) (reads.1, tt) (each-if (IsLitIn Is) piece.strict large [] (x, tt) tt)));
      }

  -- ---- the lesser and the greater

  choices-of : (kind : ExtremeKind) (signed : Bool) (test : ℕ) → Is test → AreOf Is (extreme.test_clauses kind signed test)
  choices-of kind signed test t = ((t, (tt, tt)), ((t, (tt, tt)), ((t, (tt, tt)), ((t, (tt, tt)), ((t, (tt, tt)), ((t, (tt, tt)), tt))))))

  extreme-of : (kind : ExtremeKind) (signed : Bool) (piece : Extreme) (first : ℕ) → Own Is first (length ((pos 0, pos (2 ^ piece.width - 1)) ∷ (pos 0, pos 1) ∷ extreme.helper_ranges signed)) → Both Is piece.a × Both Is piece.b → NamesOnly Is (extreme.layout_of kind signed piece first)
  extreme-of kind false piece first own reads =
      let a : Is piece.a.number = reads.0.0 in
      let b : Is piece.b.number = reads.1.0 in
      let x : Is first = own _ (omega arith) (omega arith) in
      let operands = piece.a.mark ∷ piece.b.mark ∷ [] in
      let marked = marks (first + 1) operands [] in
      let tests = extreme.test_clauses kind false (first + 1 + 1) in
      record {
        rows = ((a, (b, tt)), ((x, (a, tt)), ((x, (b, tt)), tt)));
        clauses = both Is tests marked (choices-of kind false (first + 1 + 1) (own _ (omega arith) (omega arith))) (marks-of Is (first + 1) operands [] (own _ (omega arith) (omega arith)) (reads.0.1, (reads.1.1, tt)) tt);
      }
  extreme-of kind true piece first own reads =
      let a : Is piece.a.number = reads.0.0 in
      let b : Is piece.b.number = reads.1.0 in
      let x : Is first = own _ (omega arith) (omega arith) in
      let operands = piece.a.mark ∷ piece.b.mark ∷ [] in
      let marked = marks (first + 1) operands [] in
      let tests = extreme.test_clauses kind true (first + 1 + 1 + 1 + 1) in
      record {
        rows = ((a, (own _ (omega arith) (omega arith), tt)), ((b, (own _ (omega arith) (omega arith), tt)), ((a, (own _ (omega arith) (omega arith), (b, (own _ (omega arith) (omega arith), tt)))), ((x, (a, tt)), ((x, (b, tt)), tt)))));
        clauses =
            both Is (sign_clauses piece.width 0 ++ sign_clauses piece.width 1) (tests ++ marked) (both Is (sign_clauses piece.width 0) (sign_clauses piece.width 1) (sign_clauses-of Is piece.width 0) (sign_clauses-of Is piece.width 1))
            (both Is tests marked (choices-of kind true (first + 1 + 1 + 1 + 1) (own _ (omega arith) (omega arith))) (marks-of Is (first + 1) operands [] (own _ (omega arith) (omega arith)) (reads.0.1, (reads.1.1, tt)) tt));
      }

  pub extreme-named : (piece : Extreme) (first : ℕ) → Own Is first (length (extreme.ranges piece)) → Both Is piece.a × Both Is piece.b → NamesOnly Is (extreme.layout piece first)
  extreme-named piece first own reads = extreme-of piece.kind piece.signed piece first own reads

  -- ---- bit by bit

  -- so many bits are such variables
  abbrev StandIn : (width : ℕ) → BitVars → Type 0
  StandIn width (Helpers first) = Own Is first width
  StandIn width (Literal number) = Is 0 × Is 1

  own_others : (first width : ℕ) → Own Is first (suc width) → Own Is (first + 1) width
  own_others first width own = λ var from to. own var (omega (arith, from)) (omega (arith, to))

  bit_in : (bit : ℕ) → bit < 2 → Is 0 → Is 1 → Is bit
  bit_in zero below zero_in one_in = zero_in
  bit_in (suc zero) below zero_in one_in = one_in
  bit_in (suc (suc bit)) below zero_in one_in = absurd (omega (arith, below))

  lowest_in : (width : ℕ) (bits : BitVars) → StandIn (suc width) bits → Is (lowest bits)
  lowest_in width (Helpers first) stand = stand first (omega arith) (omega arith)
  lowest_in width (Literal number) stand = bit_in (number % 2) (omega arith) stand.0 stand.1

  others_in : (width : ℕ) (bits : BitVars) → StandIn (suc width) bits → StandIn width (others bits)
  others_in width (Helpers first) stand = own_others first width stand
  others_in width (Literal number) stand = stand

  stand_in : (literal : Option ℕ) (width first : ℕ) → Own Is first (bitwise.helper_count literal width) → Is 0 → Is 1 → StandIn width (bitwise.bits_at literal first)
  stand_in None width first own zero_in one_in = own
  stand_in (Some literal) width first own zero_in one_in = (zero_in, one_in)

  minus-of : (width place first : ℕ) → Own Is first width → Each (IsPartIn Is) (minus_bits width place first)
  minus-of zero place first own = tt
  minus-of (suc width) place first own = (own first (omega arith) (omega arith), minus-of width (place + 1) (first + 1) (own_others first width own))

  bits_row-of : (width number first : ℕ) → Is number → Own Is first width → Each (IsPartIn Is) (bits_row width number first)
  bits_row-of width number first here own = (here, minus-of width 0 first own)

  bits-of : (kind : BitKind) (width x : ℕ) (a b : BitVars) → Own Is x width → StandIn width a → StandIn width b → AreOf Is (bitwise.bits_clauses kind width x a b)
  bits-of kind zero x a b own left right = tt
  bits-of And (suc width) x a b own left right =
      let here = own x (omega arith) (omega arith) in
      let la = lowest_in width a left in
      let lb = lowest_in width b right in
      ((here, (la, tt)), ((here, (lb, tt)), ((here, (la, (lb, tt))), bits-of And width (x + 1) (others a) (others b) (own_others x width own) (others_in width a left) (others_in width b right))))
  bits-of Or (suc width) x a b own left right =
      let here = own x (omega arith) (omega arith) in
      let la = lowest_in width a left in
      let lb = lowest_in width b right in
      ((here, (la, tt)), ((here, (lb, tt)), ((here, (la, (lb, tt))), bits-of Or width (x + 1) (others a) (others b) (own_others x width own) (others_in width a left) (others_in width b right))))
  bits-of Xor (suc width) x a b own left right =
      let here = own x (omega arith) (omega arith) in
      let la = lowest_in width a left in
      let lb = lowest_in width b right in
      ((here, (la, (lb, tt))), ((here, (la, (lb, tt))), ((here, (la, (lb, tt))), ((here, (la, (lb, tt))), bits-of Xor width (x + 1) (others a) (others b) (own_others x width own) (others_in width a left) (others_in width b right)))))

  operand_rows-of : (literal : Option ℕ) (width number first : ℕ) → Is number → Own Is first (bitwise.helper_count literal width) → Each (Each (IsPartIn Is)) (bitwise.operand_rows literal width number first)
  operand_rows-of None width number first here own = (bits_row-of width number first here own, tt)
  operand_rows-of (Some literal) width number first here own = tt

  operand_clauses-of : (literal : Option ℕ) (row : ℕ) → AreOf Is (bitwise.operand_clauses literal row)
  operand_clauses-of None row = equals-of Is row (pos 0)
  operand_clauses-of (Some literal) row = tt

  pub bitwise-named : (piece : Bitwise) (first : ℕ) → Own Is first (length (bitwise.ranges piece)) → (Is 0 × Is 1) × Both Is piece.a.vars × Both Is piece.b.vars → NamesOnly Is (bitwise.layout piece first)
  bitwise-named piece first own reads =
      let w = piece.width in
      let a = piece.a.literal in
      let b = piece.b.literal in
      let disjoint = bitwise.is_disjoint piece.kind piece.flags in
      let count : length (bitwise.ranges piece) ≡ 2 + (bitwise.helper_count a w + bitwise.helper_count b w + w) = ranges_count piece in
      let left = bitwise.left_at first in
      let right = bitwise.right_at a w first in
      let result = bitwise.result_at a b w first in
      let own_left : Own Is left (bitwise.helper_count a w) = λ var from to. own var (omega (arith, from)) (omega (arith, to, count)) in
      let own_right : Own Is right (bitwise.helper_count b w) = λ var from to. own var (omega (arith, from)) (omega (arith, to, count)) in
      let own_result : Own Is result w = λ var from to. own var (omega (arith, from)) (omega (arith, to, count)) in
      let x : Is first = own first (omega arith) (omega (arith, count)) in
      let m : Is (first + 1) = own (first + 1) (omega arith) (omega (arith, count)) in
      let a_rows = bitwise.operand_rows a w piece.a.vars.number left in
      let b_rows = bitwise.operand_rows b w piece.b.vars.number right in
      let own_row = bits_row w first result in
      let excess = bitwise.excess_row piece first ∷ [] in
      let excess_rows = cond disjoint excess [] in
      let a_clauses = bitwise.operand_clauses a 0 in
      let b_clauses = bitwise.operand_clauses b (bitwise.row_count a) in
      let sum = equals (bitwise.row_count a + bitwise.row_count b) (pos 0) in
      let bits = bitwise.number_clauses a b piece first in
      let operands = piece.a.vars.mark ∷ piece.b.vars.mark ∷ [] in
      let large = at_least (Row (bitwise.row_count a + bitwise.row_count b + 1)) (pos 1) ∷ [] in
      let list = cond disjoint large [] in
      let marked = marks (first + 1) operands list in
      record {
        rows =
            each-append (Each (IsPartIn Is)) a_rows (b_rows ++ own_row ∷ excess_rows) (operand_rows-of a w piece.a.vars.number left reads.1.0 own_left)
            (each-append (Each (IsPartIn Is)) b_rows (own_row ∷ excess_rows) (operand_rows-of b w piece.b.vars.number right reads.2.0 own_right) (
              bits_row-of w first result x own_result,
              each-if (Each (IsPartIn Is)) disjoint excess [] ((reads.1.0, (reads.2.0, (x, tt))), tt) tt,
            ));
        clauses =
            both Is a_clauses (b_clauses ++ (sum ++ (bits ++ marked))) (operand_clauses-of a 0)
            (both Is b_clauses (sum ++ (bits ++ marked)) (operand_clauses-of b (bitwise.row_count a))
            (both Is sum (bits ++ marked) (equals-of Is (bitwise.row_count a + bitwise.row_count b) (pos 0))
            (both Is bits marked
            (bits-of piece.kind w result (bitwise.bits_at a left) (bitwise.bits_at b right) own_result (stand_in a w left own_left reads.0.0 reads.0.1) (stand_in b w right own_right reads.0.0 reads.0.1))
            (marks-of Is (first + 1) operands list m (reads.1.1, (reads.2.1, tt)) (each-if (IsLitIn Is) disjoint large [] (tt, tt) tt)))));
      }
