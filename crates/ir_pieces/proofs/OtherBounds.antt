-- The pieces of bit_rows and div_rows are bounded.
use Rattle.std.proofs.Common.{◌≡◌, ℕ, zero, suc, ◌+◌, ◌-◌, ◌*◌, ◌^◌, ◌<◌, ◌≤◌, Bool, true, false, cond, pos, List, [], ◌∷◌, ◌++◌, length, length-append, arith}
use Rattle.std.specs.Prelude.{Option, None, Some}
use Rattle.std.specs.List.{AllByRecursion as Each}
use Rattle.mix_system.specs.declared.literal.Term.TheVariants.{Var, Row}
use Rattle.mix_system.specs.declared.literal.Lit.{Lit}
use Rattle.bit_rows.specs.declared.bits.BitVars.{BitVars}
use Rattle.bit_rows.specs.declared.bitwise.BitKind.{BitKind}
use Rattle.bit_rows.specs.declared.bitwise.BitKind.TheVariants.{And, Or, Xor}
use Rattle.bit_rows.specs.declared.bitwise.Bitwise.{Bitwise}
use Rattle.div_rows.specs.declared.division.DivisionKind.{DivisionKind}
use Rattle.div_rows.specs.declared.division.DivisionKind.TheVariants.{Quotient, Remainder}
use Rattle.div_rows.specs.declared.unsigned_division.UnsignedDivision.{UnsignedDivision}
use Rattle.div_rows.specs.declared.signed_division.SignedDivision.{SignedDivision}
use Rattle.div_rows.specs.declared.abs.Abs.{Abs}
use Rattle.div_rows.specs.declared.extreme.ExtremeKind.{ExtremeKind}
use Rattle.div_rows.specs.declared.extreme.Extreme.{Extreme}
use Rattle.wrap_rows.specs.Layout.{at_least}
use Rattle.wrap_rows.specs.Blocks.{equals, marks, sign_clauses}
use Rattle.bit_rows.specs.Bits.{bits_row, minus_bits, others, StandBefore}
use Rattle.bit_rows.specs.Bitwise as bitwise
use Rattle.div_rows.specs.Division.{is_exact, chosen}
use Rattle.div_rows.specs.UnsignedDivision as unsigned_division
use Rattle.div_rows.specs.SignedDivision as signed_division
use Rattle.div_rows.specs.Abs as abs
use Rattle.div_rows.specs.Extreme as extreme
use Rattle.bit_rows.proofs.BitsLaws.{lowest_before, others_before}
use Rattle.bit_rows.proofs.LayingLaws.{stand_before, ranges_count}
use Rattle.ir_pieces.specs.Bounded.{IsPartOf, IsLitOf, IsBounded}
use Rattle.ir_pieces.proofs.BoundLaws.{each-append, each-if, AreOf, equals-of, sign_clauses-of, marks-of, marks-count, if-count}

abbrev both : (vars : ℕ) (xs ys : List (List Lit)) → AreOf vars xs → AreOf vars ys → AreOf vars (xs ++ ys)
both vars xs ys left right = each-append (Each (IsLitOf vars)) xs ys left right

-- ---- bit by bit

minus-of : (vars width place first : ℕ) → first + width ≤ vars → Each (IsPartOf vars) (minus_bits width place first)
minus-of vars zero place first within = tt
minus-of vars (suc width) place first within = (omega (arith, within), minus-of vars width (place + 1) (first + 1) (omega (arith, within)))

bits_row-of : (vars width number first : ℕ) → number < vars → first + width ≤ vars → Each (IsPartOf vars) (bits_row width number first)
bits_row-of vars width number first here within = (here, minus-of vars width 0 first within)

bits-of : (vars : ℕ) (kind : BitKind) (width x : ℕ) (a b : BitVars) → x + width ≤ vars → StandBefore width vars a → StandBefore width vars b → AreOf vars (bitwise.bits_clauses kind width x a b)
bits-of vars kind zero x a b within left right = tt
bits-of vars And (suc width) x a b within left right =
    let here : x < vars = omega (arith, within) in
    let la = lowest_before width vars a left in
    let lb = lowest_before width vars b right in
    ((here, (la, tt)), ((here, (lb, tt)), ((here, (la, (lb, tt))), bits-of vars And width (x + 1) (others a) (others b) (omega (arith, within)) (others_before width vars a left) (others_before width vars b right))))
bits-of vars Or (suc width) x a b within left right =
    let here : x < vars = omega (arith, within) in
    let la = lowest_before width vars a left in
    let lb = lowest_before width vars b right in
    ((here, (la, tt)), ((here, (lb, tt)), ((here, (la, (lb, tt))), bits-of vars Or width (x + 1) (others a) (others b) (omega (arith, within)) (others_before width vars a left) (others_before width vars b right))))
bits-of vars Xor (suc width) x a b within left right =
    let here : x < vars = omega (arith, within) in
    let la = lowest_before width vars a left in
    let lb = lowest_before width vars b right in
    ((here, (la, (lb, tt))), ((here, (la, (lb, tt))), ((here, (la, (lb, tt))), ((here, (la, (lb, tt))), bits-of vars Xor width (x + 1) (others a) (others b) (omega (arith, within)) (others_before width vars a left) (others_before width vars b right)))))

bits-count : (kind : BitKind) (width x : ℕ) (a b : BitVars) → length (bitwise.bits_clauses kind width x a b) ≤ 4 * width
bits-count kind zero x a b = omega arith
bits-count And (suc width) x a b = omega (arith, bits-count And width (x + 1) (others a) (others b))
bits-count Or (suc width) x a b = omega (arith, bits-count Or width (x + 1) (others a) (others b))
bits-count Xor (suc width) x a b = omega (arith, bits-count Xor width (x + 1) (others a) (others b))

operand_rows-of : (literal : Option ℕ) (vars width number first : ℕ) → number < vars → first + bitwise.helper_count literal width ≤ vars → Each (Each (IsPartOf vars)) (bitwise.operand_rows literal width number first)
operand_rows-of None vars width number first here within = (bits_row-of vars width number first here within, tt)
operand_rows-of (Some literal) vars width number first here within = tt

operand_rows-count : (literal : Option ℕ) (width number first : ℕ) → length (bitwise.operand_rows literal width number first) ≤ 1
operand_rows-count None width number first = omega arith
operand_rows-count (Some literal) width number first = omega arith

operand_clauses-of : (literal : Option ℕ) (vars row : ℕ) → AreOf vars (bitwise.operand_clauses literal row)
operand_clauses-of None vars row = equals-of vars row (pos 0)
operand_clauses-of (Some literal) vars row = tt

operand_clauses-count : (literal : Option ℕ) (row : ℕ) → length (bitwise.operand_clauses literal row) ≤ 2
operand_clauses-count None row = omega arith
operand_clauses-count (Some literal) row = omega arith

helpers-few : (literal : Option ℕ) (width : ℕ) → bitwise.helper_count literal width ≤ width
helpers-few None width = omega arith
helpers-few (Some literal) width = omega arith

pub bitwise-bounded : (piece : Bitwise) (first : ℕ) → bitwise.IsAt piece first → IsBounded first 0 (bitwise.ranges piece) (bitwise.layout piece first)
bitwise-bounded piece first at =
    let w = piece.width in
    let a = piece.a.literal in
    let b = piece.b.literal in
    let end = first + length (bitwise.ranges piece) in
    let disjoint = bitwise.is_disjoint piece.kind piece.flags in
    let count : length (bitwise.ranges piece) ≡ 2 + (bitwise.helper_count a w + bitwise.helper_count b w + w) = ranges_count piece in
    let left = bitwise.left_at first in
    let right = bitwise.right_at a w first in
    let result = bitwise.result_at a b w first in
    let few_a = helpers-few a w in
    let few_b = helpers-few b w in
    let a_rows = bitwise.operand_rows a w piece.a.vars.number left in
    let b_rows = bitwise.operand_rows b w piece.b.vars.number right in
    let own_row = bits_row w first result in
    let excess = bitwise.excess_row piece first ∷ [] in
    let excess_rows = cond disjoint excess [] in
    let a_clauses = bitwise.operand_clauses a 0 in
    let b_clauses = bitwise.operand_clauses b (bitwise.row_count a) in
    let own = equals (bitwise.row_count a + bitwise.row_count b) (pos 0) in
    let bits = bitwise.number_clauses a b piece first in
    let operands = piece.a.vars.mark ∷ piece.b.vars.mark ∷ [] in
    let large = at_least (Row (bitwise.row_count a + bitwise.row_count b + 1)) (pos 1) ∷ [] in
    let list = cond disjoint large [] in
    let marked = marks (first + 1) operands list in
    record {
      named = record {
        rows =
            each-append (Each (IsPartOf end)) a_rows (b_rows ++ own_row ∷ excess_rows)
            (operand_rows-of a end w piece.a.vars.number left (omega (arith, at.a)) (omega (arith, count)))
            (each-append (Each (IsPartOf end)) b_rows (own_row ∷ excess_rows)
            (operand_rows-of b end w piece.b.vars.number right (omega (arith, at.b)) (omega (arith, count))) (
              bits_row-of end w first result (omega (arith, count)) (omega (arith, count)),
              each-if (Each (IsPartOf end)) disjoint excess [] ((omega (arith, at.a), (omega (arith, at.b), (omega (arith, count), tt))), tt) tt,
            ));
        clauses =
            both end a_clauses (b_clauses ++ (own ++ (bits ++ marked))) (operand_clauses-of a end 0)
            (both end b_clauses (own ++ (bits ++ marked)) (operand_clauses-of b end (bitwise.row_count a))
            (both end own (bits ++ marked) (equals-of end (bitwise.row_count a + bitwise.row_count b) (pos 0))
            (both end bits marked
            (bits-of end piece.kind w result (bitwise.bits_at a left) (bitwise.bits_at b right) (omega (arith, count)) (stand_before a w left end (omega (arith, count)) (omega (arith, at.constants))) (stand_before b w right end (omega (arith, count)) (omega (arith, at.constants))))
            (marks-of end (first + 1) operands list (omega (arith, count)) (omega (arith, at.a_mark), (omega (arith, at.b_mark), tt)) (each-if (IsLitOf end) disjoint large [] (tt, tt) tt)))));
      };
      vars = omega (arith, count, few_a, few_b, at.width.greatest);
      rows = omega (arith, length-append a_rows (b_rows ++ own_row ∷ excess_rows), length-append b_rows (own_row ∷ excess_rows), operand_rows-count a w piece.a.vars.number left, operand_rows-count b w piece.b.vars.number right, if-count disjoint excess);
      clauses =
          omega (
            arith,
            length-append a_clauses (b_clauses ++ (own ++ (bits ++ marked))),
            length-append b_clauses (own ++ (bits ++ marked)),
            length-append bits marked,
            operand_clauses-count a 0,
            operand_clauses-count b (bitwise.row_count a),
            bits-count piece.kind w result (bitwise.bits_at a left) (bitwise.bits_at b right),
            marks-count (first + 1) operands list,
            if-count disjoint large,
            at.width.greatest,
          );
    }

-- ---- divisions

unsigned-of : (kind : DivisionKind) (piece : UnsignedDivision) (first : ℕ) → unsigned_division.IsAt piece first → IsBounded first 0 (unsigned_division.ranges piece) (unsigned_division.layout_of kind piece first)
unsigned-of Quotient piece first at =
    let end = first + 3 in
    let operands = piece.a.mark ∷ piece.divisor_mark ∷ [] in
    let rest = at_least (Var (first + 1 + 1)) (pos 1) ∷ [] in
    let list = cond piece.flags.exact rest [] in
    let marked = marks (first + 1) operands list in
    record {
      named = record {
        rows = ((omega (arith, at.a), (omega arith, (omega arith, tt))), tt);
        clauses = both end (equals 0 (pos 0)) marked (equals-of end 0 (pos 0)) (marks-of end (first + 1) operands list (omega arith) (omega (arith, at.a_mark), (omega (arith, at.divisor_mark), tt)) (each-if (IsLitOf end) piece.flags.exact rest [] (omega arith, tt) tt));
      };
      vars = omega arith;
      rows = omega arith;
      clauses = omega (arith, marks-count (first + 1) operands list, if-count piece.flags.exact rest);
    }
unsigned-of Remainder piece first at =
    let end = first + 3 in
    let operands = piece.a.mark ∷ piece.divisor_mark ∷ [] in
    let marked = marks (first + 1) operands [] in
    record {
      named = record {
        rows = ((omega (arith, at.a), (omega arith, (omega arith, tt))), tt);
        clauses = ((omega arith, tt), both end (equals 0 (pos 0)) marked (equals-of end 0 (pos 0)) (marks-of end (first + 1) operands [] (omega arith) (omega (arith, at.a_mark), (omega (arith, at.divisor_mark), tt)) tt));
      };
      vars = omega arith;
      rows = omega arith;
      clauses = omega arith;
    }

pub unsigned_division-bounded : (piece : UnsignedDivision) (first : ℕ) → unsigned_division.IsAt piece first → IsBounded first 0 (unsigned_division.ranges piece) (unsigned_division.layout piece first)
unsigned_division-bounded piece first at = unsigned-of piece.kind piece first at

signed-of : (kind : DivisionKind) (exact : Bool) (piece : SignedDivision) (first : ℕ) → signed_division.IsAt piece first
    → IsBounded first 0 (signed_division.ranges piece) (record {
      rows = signed_division.rows_of kind piece first;
      clauses = sign_clauses piece.width 0 ++ (equals 1 (pos 0) ++ (signed_division.side_clauses first ++ (equals 2 (pos 0) ++ marks (first + 1) (piece.a.mark ∷ piece.divisor_mark ∷ []) (signed_division.listed exact (signed_division.remainder_at first)))));
    })
signed-of kind exact piece first at =
    let end = first + 6 in
    let a : piece.a.number < end = omega (arith, at.a) in
    let operands = piece.a.mark ∷ piece.divisor_mark ∷ [] in
    let rest = signed_division.listed true (signed_division.remainder_at first) in
    let list = cond exact rest [] in
    let marked = marks (first + 1) operands list in
    let sides = signed_division.side_clauses first in
    record {
      named = record {
        rows = ((a, (omega arith, tt)), ((a, (omega arith, (omega arith, (omega arith, tt)))), ((omega arith, (chosen_of kind, (omega arith, tt))), tt)));
        clauses =
            both end (sign_clauses piece.width 0) (equals 1 (pos 0) ++ (sides ++ (equals 2 (pos 0) ++ marked))) (sign_clauses-of end piece.width 0)
            (both end (equals 1 (pos 0)) (sides ++ (equals 2 (pos 0) ++ marked)) (equals-of end 1 (pos 0))
            (both end sides (equals 2 (pos 0) ++ marked) ((omega arith, (omega arith, tt)), ((omega arith, (omega arith, tt)), tt))
            (both end (equals 2 (pos 0)) marked (equals-of end 2 (pos 0))
            (marks-of end (first + 1) operands list (omega arith) (omega (arith, at.a_mark), (omega (arith, at.divisor_mark), tt)) (each-if (IsLitOf end) exact rest [] (omega arith, (omega arith, tt)) tt)))));
      };
      vars = omega arith;
      rows = omega arith;
      clauses = omega (arith, marks-count (first + 1) operands list, if-count exact rest);
    }
  where
    chosen_of : (k : DivisionKind) → chosen k (signed_division.quotient_at first) (signed_division.remainder_at first) < first + 6
    chosen_of Quotient = omega arith
    chosen_of Remainder = omega arith

pub signed_division-bounded : (piece : SignedDivision) (first : ℕ) → signed_division.IsAt piece first → IsBounded first 0 (signed_division.ranges piece) (signed_division.layout piece first)
signed_division-bounded piece first at = signed-of piece.kind (is_exact piece.kind piece.flags) piece first at

-- ---- absolute values

pub abs-bounded : (piece : Abs) (first : ℕ) → abs.IsAt piece first → IsBounded first 0 (abs.ranges piece) (abs.layout piece first)
abs-bounded piece first at =
    let end = first + 3 in
    let a : piece.a.number < end = omega (arith, at.a) in
    let x : first < end = omega arith in
    let s : first + 1 + 1 < end = omega arith in
    let large = at_least (Var first) (pos (2 ^ (piece.width - 1))) ∷ [] in
    let list = cond piece.strict large [] in
    let operands = piece.a.mark ∷ [] in
    let marked = marks (first + 1) operands list in
    let sizes = abs.size_clauses piece (first + 1 + 1) in
    record {
      named = record {
        rows = ((a, (s, tt)), ((x, (a, tt)), ((x, (a, tt)), tt)));
        clauses =
            both end (sign_clauses piece.width 0) (sizes ++ marked) (sign_clauses-of end piece.width 0)
            (both end sizes marked ((s, (tt, tt)), ((s, (tt, tt)), ((s, (tt, tt)), ((s, (tt, tt)), tt))))
            (marks-of end (first + 1) operands list (omega arith) (omega (arith, at.a_mark), tt) (each-if (IsLitOf end) piece.strict large [] (x, tt) tt)));
      };
      vars = omega arith;
      rows = omega arith;
      clauses = omega (arith, marks-count (first + 1) operands list, if-count piece.strict large);
    }

-- ---- the lesser and the greater

choices-of : (vars : ℕ) (kind : ExtremeKind) (signed : Bool) (test : ℕ) → test < vars → AreOf vars (extreme.test_clauses kind signed test)
choices-of vars kind signed test t = ((t, (tt, tt)), ((t, (tt, tt)), ((t, (tt, tt)), ((t, (tt, tt)), ((t, (tt, tt)), ((t, (tt, tt)), tt))))))

extreme-of : (kind : ExtremeKind) (signed : Bool) (piece : Extreme) (first : ℕ) → extreme.IsAt piece first → IsBounded first 0 ((pos 0, pos (2 ^ piece.width - 1)) ∷ (pos 0, pos 1) ∷ extreme.helper_ranges signed) (extreme.layout_of kind signed piece first)
extreme-of kind false piece first at =
    let end = first + 3 in
    let a : piece.a.number < end = omega (arith, at.a) in
    let b : piece.b.number < end = omega (arith, at.b) in
    let x : first < end = omega arith in
    let operands = piece.a.mark ∷ piece.b.mark ∷ [] in
    let marked = marks (first + 1) operands [] in
    let tests = extreme.test_clauses kind false (first + 1 + 1) in
    record {
      named = record {
        rows = ((a, (b, tt)), ((x, (a, tt)), ((x, (b, tt)), tt)));
        clauses = both end tests marked (choices-of end kind false (first + 1 + 1) (omega arith)) (marks-of end (first + 1) operands [] (omega arith) (omega (arith, at.a_mark), (omega (arith, at.b_mark), tt)) tt);
      };
      vars = omega arith;
      rows = omega arith;
      clauses = omega arith;
    }
extreme-of kind true piece first at =
    let end = first + 5 in
    let a : piece.a.number < end = omega (arith, at.a) in
    let b : piece.b.number < end = omega (arith, at.b) in
    let x : first < end = omega arith in
    let operands = piece.a.mark ∷ piece.b.mark ∷ [] in
    let marked = marks (first + 1) operands [] in
    let tests = extreme.test_clauses kind true (first + 1 + 1 + 1 + 1) in
    record {
      named = record {
        rows = ((a, (omega arith, tt)), ((b, (omega arith, tt)), ((a, (omega arith, (b, (omega arith, tt)))), ((x, (a, tt)), ((x, (b, tt)), tt)))));
        clauses =
            both end (sign_clauses piece.width 0 ++ sign_clauses piece.width 1) (tests ++ marked) (both end (sign_clauses piece.width 0) (sign_clauses piece.width 1) (sign_clauses-of end piece.width 0) (sign_clauses-of end piece.width 1))
            (both end tests marked (choices-of end kind true (first + 1 + 1 + 1 + 1) (omega arith)) (marks-of end (first + 1) operands [] (omega arith) (omega (arith, at.a_mark), (omega (arith, at.b_mark), tt)) tt));
      };
      vars = omega arith;
      rows = omega arith;
      clauses = omega arith;
    }

pub extreme-bounded : (piece : Extreme) (first : ℕ) → extreme.IsAt piece first → IsBounded first 0 (extreme.ranges piece) (extreme.layout piece first)
extreme-bounded piece first at = extreme-of piece.kind piece.signed piece first at
