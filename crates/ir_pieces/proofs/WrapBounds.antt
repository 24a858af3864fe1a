-- The pieces of wrap_rows are bounded.
use Rattle.std.proofs.Common.{◌≡◌, ℕ, ◌+◌, ◌-◌, ◌*◌, ◌^◌, ◌<◌, ◌≤◌, Bool, true, false, cond, ◌||◌, nat_lt, pos, List, [], ◌∷◌, ◌++◌, length, length-append, map, refl, arith}
use Rattle.std.specs.List.{AllByRecursion as Each}
use Rattle.std.proofs.lemmas.List.{length-map}
use Rattle.std.proofs.lemmas.List.Elements.{recursion_from_All}
use Rattle.mix_system.specs.declared.literal.Term.TheVariants.{Var}
use Rattle.mix_system.specs.declared.literal.Lit.{Lit}
use Rattle.wrap_rows.specs.declared.zext.Zext.{Zext}
use Rattle.wrap_rows.specs.declared.sext.Sext.{Sext}
use Rattle.wrap_rows.specs.declared.trunc.Trunc.{Trunc}
use Rattle.wrap_rows.specs.declared.select.Select.{Select}
use Rattle.wrap_rows.specs.declared.ranged.Ranged.{Ranged}
use Rattle.wrap_rows.specs.declared.sum.Sum.{Sum}
use Rattle.wrap_rows.specs.declared.scaled.Scale.{Scale}
use Rattle.wrap_rows.specs.declared.scaled.Scale.TheVariants.{Before, Behind, Shift}
use Rattle.wrap_rows.specs.declared.scaled.Scaled.{Scaled}
use Rattle.wrap_rows.specs.declared.shift_out.ShiftOut.{ShiftOut}
use Rattle.wrap_rows.specs.declared.shift_right.ShiftRight.{ShiftRight}
use Rattle.wrap_rows.specs.declared.compare.Compare.{Compare}
use Rattle.wrap_rows.specs.declared.phi.Incoming.{Incoming}
use Rattle.wrap_rows.specs.declared.phi.Phi.{Phi}
use Rattle.wrap_rows.specs.Layout.{at_least}
use Rattle.wrap_rows.specs.Blocks.{equals, marks, sign_clauses, compared}
use Rattle.wrap_rows.specs.Wrapping.{leaving, exceeding, listed}
use Rattle.wrap_rows.specs.Zext as zext
use Rattle.wrap_rows.specs.Sext as sext
use Rattle.wrap_rows.specs.Trunc as trunc
use Rattle.wrap_rows.specs.Select as select
use Rattle.wrap_rows.specs.Ranged as ranged
use Rattle.wrap_rows.specs.Sum as sum
use Rattle.wrap_rows.specs.Scaled as scaled
use Rattle.wrap_rows.specs.ShiftOut as shift_out
use Rattle.wrap_rows.specs.ShiftRight as shift_right
use Rattle.wrap_rows.specs.Compare as compare
use Rattle.wrap_rows.specs.Phi as phi
use Rattle.ir_pieces.specs.Bounded.{IsPartOf, IsLitOf, IsBounded}
use Rattle.ir_pieces.proofs.BoundLaws.{each-append, each-if, AreOf, equals-of, sign_clauses-of, marks-of, compared-of, marks-count, if-count, compared-count}

-- clauses one behind the other
abbrev both : (vars : ℕ) (xs ys : List (List Lit)) → AreOf vars xs → AreOf vars ys → AreOf vars (xs ++ ys)
both vars xs ys left right = each-append (Each (IsLitOf vars)) xs ys left right

-- ---- conversions

pub zext-bounded : (piece : Zext) (first : ℕ) → zext.IsAt piece first → IsBounded first 0 (zext.ranges piece) (zext.layout piece first)
zext-bounded piece first at =
    let end = first + 2 in
    let large = at_least (Var piece.a.number) (pos (2 ^ (piece.from - 1))) ∷ [] in
    let list = cond piece.flags.nneg large [] in
    let listed : Each (IsLitOf end) list = each-if (IsLitOf end) piece.flags.nneg large [] (omega (arith, at.number), tt) tt in
    record {
      named = record {
        rows = ((omega (arith, at.number), (omega arith, tt)), tt);
        clauses = both end (equals 0 (pos 0)) (marks (first + 1) (piece.a.mark ∷ []) list) (equals-of end 0 (pos 0)) (marks-of end (first + 1) (piece.a.mark ∷ []) list (omega arith) (omega (arith, at.mark), tt) listed);
      };
      vars = omega arith;
      rows = omega arith;
      clauses = omega (arith, marks-count (first + 1) (piece.a.mark ∷ []) list, if-count piece.flags.nneg large);
    }

pub sext-bounded : (piece : Sext) (first : ℕ) → sext.IsAt piece first → IsBounded first 0 (sext.ranges piece) (sext.layout piece first)
sext-bounded piece first at =
    let end = first + 3 in
    let number : piece.a.number < end = omega (arith, at.number) in
    record {
      named = record {
        rows = ((number, (omega arith, tt)), ((number, (omega arith, (omega arith, tt))), tt));
        clauses = both end (sign_clauses piece.from 0) (equals 1 (pos 0) ++ marks (first + 1) (piece.a.mark ∷ []) []) (sign_clauses-of end piece.from 0)
            (both end (equals 1 (pos 0)) (marks (first + 1) (piece.a.mark ∷ []) []) (equals-of end 1 (pos 0)) (marks-of end (first + 1) (piece.a.mark ∷ []) [] (omega arith) (omega (arith, at.mark), tt) tt));
      };
      vars = omega arith;
      rows = omega arith;
      clauses = omega arith;
    }

-- the literals of flags of wrapping, over so many variables
listed-of : (vars : ℕ) (nuw nsw : Bool) (leaves exceeds : List Lit) → Each (IsLitOf vars) leaves → Each (IsLitOf vars) exceeds → Each (IsLitOf vars) (listed nuw nsw leaves exceeds)
listed-of vars nuw nsw leaves exceeds left right =
    each-append (IsLitOf vars) (cond nuw leaves []) (cond nsw exceeds []) (each-if (IsLitOf vars) nuw leaves [] left tt) (each-if (IsLitOf vars) nsw exceeds [] right tt)

listed-count : (nuw nsw : Bool) (leaves exceeds : List Lit) → length (listed nuw nsw leaves exceeds) ≤ length leaves + length exceeds
listed-count nuw nsw leaves exceeds =
    omega (arith, length-append (cond nuw leaves []) (cond nsw exceeds []), if-count nuw leaves, if-count nsw exceeds)

trunc-bounded-of : (nuw nsw : Bool) (piece : Trunc) (first : ℕ) → trunc.IsAt piece first → IsBounded first 0 ((pos 0, pos (2 ^ piece.to - 1)) ∷ (pos 0, pos 1) ∷ trunc.helpers nsw piece) (trunc.layout_of nuw nsw piece first)
trunc-bounded-of nuw false piece first at =
    let end = first + 3 in
    let carry = at_least (Var (first + 1 + 1)) (pos 1) ∷ [] in
    let list = listed nuw false carry (exceeding piece.to 2) in
    record {
      named = record {
        rows = ((omega (arith, at.number), (omega arith, (omega arith, tt))), tt);
        clauses = both end (equals 0 (pos 0)) (marks (first + 1) (piece.a.mark ∷ []) list) (equals-of end 0 (pos 0))
            (marks-of end (first + 1) (piece.a.mark ∷ []) list (omega arith) (omega (arith, at.mark), tt) (listed-of end nuw false carry (exceeding piece.to 2) (omega arith, tt) (tt, (tt, tt))));
      };
      vars = omega arith;
      rows = omega arith;
      clauses = omega (arith, marks-count (first + 1) (piece.a.mark ∷ []) list, listed-count nuw false carry (exceeding piece.to 2));
    }
trunc-bounded-of nuw true piece first at =
    let end = first + 4 in
    let number : piece.a.number < end = omega (arith, at.number) in
    let carry = at_least (Var (first + 1 + 1 + 1)) (pos 1) ∷ [] in
    let list = listed nuw true carry (exceeding piece.to 2) in
    let marked = marks (first + 1) (piece.a.mark ∷ []) list in
    record {
      named = record {
        rows = ((number, (omega arith, tt)), ((number, (omega arith, (omega arith, tt))), ((number, (omega arith, tt)), tt)));
        clauses = both end (sign_clauses piece.from 0) (equals 1 (pos 0) ++ marked) (sign_clauses-of end piece.from 0)
            (both end (equals 1 (pos 0)) marked (equals-of end 1 (pos 0))
            (marks-of end (first + 1) (piece.a.mark ∷ []) list (omega arith) (omega (arith, at.mark), tt) (listed-of end nuw true carry (exceeding piece.to 2) (omega arith, tt) (tt, (tt, tt)))));
      };
      vars = omega arith;
      rows = omega arith;
      clauses = omega (arith, marks-count (first + 1) (piece.a.mark ∷ []) list, listed-count nuw true carry (exceeding piece.to 2));
    }

pub trunc-bounded : (piece : Trunc) (first : ℕ) → trunc.IsAt piece first → IsBounded first 0 (trunc.ranges piece) (trunc.layout piece first)
trunc-bounded piece first at = trunc-bounded-of piece.flags.nuw piece.flags.nsw piece first at

-- ---- choices and ranges

pub select-bounded : (piece : Select) (first : ℕ) → select.IsAt piece first → IsBounded first 0 (select.ranges piece) (select.layout piece first)
select-bounded piece first at =
    let end = first + 2 in
    let c : piece.cond.number < end = omega (arith, at.cond) in
    let c_mark : piece.cond.mark < end = omega (arith, at.cond_mark) in
    let yes_mark : piece.yes.mark < end = omega (arith, at.yes_mark) in
    let no_mark : piece.no.mark < end = omega (arith, at.no_mark) in
    let m : first + 1 < end = omega arith in
    record {
      named = record {
        rows = ((omega arith, (omega (arith, at.yes), tt)), ((omega arith, (omega (arith, at.no), tt)), tt));
        clauses = (
          (c, (tt, tt)),
          (
            (c, (tt, tt)),
            (
              (c, (tt, tt)),
              (
                (c, (tt, tt)),
                (
                  (m, (c_mark, tt)),
                  (
                    (c, (m, (yes_mark, tt))),
                    (
                      (c, (m, (no_mark, tt))),
                      ((m, (c_mark, (c, (yes_mark, tt)))), ((m, (c_mark, (c, (no_mark, tt)))), tt)),
                    ),
                  ),
                ),
              ),
            ),
          ),
        );
      };
      vars = omega arith;
      rows = omega arith;
      clauses = omega arith;
    }

ranged-of : (test : Bool) (piece : Ranged) (first : ℕ) → ranged.IsAt piece first
    → IsBounded first 0 (ranged.ranges piece) (record { rows = []; clauses = cond test (ranged.between_clauses piece.number piece.low piece.high first) (ranged.around_clauses piece.number piece.low piece.high first) })
ranged-of true piece first at =
    let end = first + 1 in
    let x : piece.number < end = omega (arith, at.number) in
    let m : first < end = omega arith in
    record {
      named = record { rows = tt; clauses = ((m, (x, (x, tt))), ((m, (x, tt)), ((m, (x, tt)), tt))) };
      vars = omega arith;
      rows = omega arith;
      clauses = omega arith;
    }
ranged-of false piece first at =
    let end = first + 1 in
    let x : piece.number < end = omega (arith, at.number) in
    let m : first < end = omega arith in
    record {
      named = record { rows = tt; clauses = ((m, (x, (x, tt))), ((m, (x, tt)), ((m, (x, tt)), tt))) };
      vars = omega arith;
      rows = omega arith;
      clauses = omega arith;
    }

pub ranged-bounded : (piece : Ranged) (first : ℕ) → ranged.IsAt piece first → IsBounded first 0 (ranged.ranges piece) (ranged.layout piece first)
ranged-bounded piece first at = ranged-of (nat_lt piece.low piece.high) piece first at

-- ---- sums and products

sum-of : (nuw nsw : Bool) (piece : Sum) (first : ℕ) → sum.IsAt piece first → IsBounded first 0 ((pos 0, pos (2 ^ piece.width - 1)) ∷ (pos 0, pos 1) ∷ sum.carry_range piece.kind ∷ sum.sign_ranges nsw) (sum.layout_of nuw nsw piece first)
sum-of nuw false piece first at =
    let end = first + 3 in
    let list = listed nuw false (leaving (first + 1 + 1)) (exceeding piece.width 3) in
    record {
      named = record {
        rows = ((omega (arith, at.a), (omega (arith, at.b), (omega arith, (omega arith, tt)))), tt);
        clauses = both end (equals 0 (pos 0)) (marks (first + 1) (sum.operands piece) list) (equals-of end 0 (pos 0))
            (marks-of end (first + 1) (sum.operands piece) list (omega arith) (omega (arith, at.a_mark), (omega (arith, at.b_mark), tt)) (listed-of end nuw false (leaving (first + 1 + 1)) (exceeding piece.width 3) (omega arith, (omega arith, tt)) (tt, (tt, tt))));
      };
      vars = omega arith;
      rows = omega arith;
      clauses = omega (arith, marks-count (first + 1) (sum.operands piece) list, listed-count nuw false (leaving (first + 1 + 1)) (exceeding piece.width 3));
    }
sum-of nuw true piece first at =
    let end = first + 5 in
    let a : piece.a.number < end = omega (arith, at.a) in
    let b : piece.b.number < end = omega (arith, at.b) in
    let list = listed nuw true (leaving (first + 1 + 1)) (exceeding piece.width 3) in
    let marked = marks (first + 1) (sum.operands piece) list in
    record {
      named = record {
        rows = ((a, (b, (omega arith, (omega arith, tt)))), ((a, (omega arith, tt)), ((b, (omega arith, tt)), ((a, (b, (omega arith, (omega arith, tt)))), tt))));
        clauses = both end (equals 0 (pos 0)) (sum.signed_clauses true piece.width 1 2 ++ marked) (equals-of end 0 (pos 0))
            (both end (sum.signed_clauses true piece.width 1 2) marked (both end (sign_clauses piece.width 1) (sign_clauses piece.width 2) (sign_clauses-of end piece.width 1) (sign_clauses-of end piece.width 2))
            (marks-of end (first + 1) (sum.operands piece) list (omega arith) (omega (arith, at.a_mark), (omega (arith, at.b_mark), tt)) (listed-of end nuw true (leaving (first + 1 + 1)) (exceeding piece.width 3) (omega arith, (omega arith, tt)) (tt, (tt, tt)))));
      };
      vars = omega arith;
      rows = omega arith;
      clauses = omega (arith, marks-count (first + 1) (sum.operands piece) list, listed-count nuw true (leaving (first + 1 + 1)) (exceeding piece.width 3));
    }

pub sum-bounded : (piece : Sum) (first : ℕ) → sum.IsAt piece first → IsBounded first 0 (sum.ranges piece) (sum.layout piece first)
sum-bounded piece first at = sum-of piece.flags.nuw piece.flags.nsw piece first at

operands_of-of : (vars : ℕ) (scale : Scale) (a constant : ℕ) → a < vars → constant < vars → Each (λ operand. operand < vars) (scaled.operands_of scale a constant)
operands_of-of vars (Before c) a constant first second = (second, (first, tt))
operands_of-of vars (Behind c) a constant first second = (first, (second, tt))
operands_of-of vars (Shift amount) a constant first second = (first, (second, tt))

operands_of-count : (scale : Scale) (a constant : ℕ) → length (scaled.operands_of scale a constant) ≡ 2
operands_of-count (Before c) a constant = refl
operands_of-count (Behind c) a constant = refl
operands_of-count (Shift amount) a constant = refl

scaled-of : (nuw nsw : Bool) (piece : Scaled) (first : ℕ) → scaled.IsAt piece first → IsBounded first 0 ((pos 0, pos (2 ^ piece.width - 1)) ∷ (pos 0, pos 1) ∷ (pos 0, pos (scaled.factor piece.scale - 1)) ∷ scaled.sign_ranges nsw) (scaled.layout_of nuw nsw piece first)
scaled-of nuw false piece first at =
    let end = first + 3 in
    let list = listed nuw false (leaving (first + 1 + 1)) (exceeding piece.width 2) in
    record {
      named = record {
        rows = ((omega (arith, at.a), (omega arith, (omega arith, tt))), tt);
        clauses = both end (equals 0 (pos 0)) (marks (first + 1) (scaled.operands piece) list) (equals-of end 0 (pos 0))
            (marks-of end (first + 1) (scaled.operands piece) list (omega arith) (operands_of-of end piece.scale piece.a.mark piece.constant_mark (omega (arith, at.a_mark)) (omega (arith, at.constant_mark))) (listed-of end nuw false (leaving (first + 1 + 1)) (exceeding piece.width 2) (omega arith, (omega arith, tt)) (tt, (tt, tt))));
      };
      vars = omega arith;
      rows = omega arith;
      clauses = omega (arith, marks-count (first + 1) (scaled.operands piece) list, listed-count nuw false (leaving (first + 1 + 1)) (exceeding piece.width 2), operands_of-count piece.scale piece.a.mark piece.constant_mark);
    }
scaled-of nuw true piece first at =
    let end = first + 4 in
    let a : piece.a.number < end = omega (arith, at.a) in
    let list = listed nuw true (leaving (first + 1 + 1)) (exceeding piece.width 2) in
    let marked = marks (first + 1) (scaled.operands piece) list in
    record {
      named = record {
        rows = ((a, (omega arith, (omega arith, tt))), ((a, (omega arith, tt)), ((a, (omega arith, tt)), tt)));
        clauses = both end (equals 0 (pos 0)) (sign_clauses piece.width 1 ++ marked) (equals-of end 0 (pos 0))
            (both end (sign_clauses piece.width 1) marked (sign_clauses-of end piece.width 1)
            (marks-of end (first + 1) (scaled.operands piece) list (omega arith) (operands_of-of end piece.scale piece.a.mark piece.constant_mark (omega (arith, at.a_mark)) (omega (arith, at.constant_mark))) (listed-of end nuw true (leaving (first + 1 + 1)) (exceeding piece.width 2) (omega arith, (omega arith, tt)) (tt, (tt, tt)))));
      };
      vars = omega arith;
      rows = omega arith;
      clauses = omega (arith, marks-count (first + 1) (scaled.operands piece) list, listed-count nuw true (leaving (first + 1 + 1)) (exceeding piece.width 2), operands_of-count piece.scale piece.a.mark piece.constant_mark);
    }

pub scaled-bounded : (piece : Scaled) (first : ℕ) → scaled.IsAt piece first → IsBounded first 0 (scaled.ranges piece) (scaled.layout piece first)
scaled-bounded piece first at = scaled-of piece.flags.nuw piece.flags.nsw piece first at

-- ---- shifts

pub shift_out-bounded : (piece : ShiftOut) (first : ℕ) → IsBounded first 0 (shift_out.ranges piece) (shift_out.layout piece first)
shift_out-bounded piece first = record {
  named = record { rows = tt; clauses = ((omega arith, tt), ((omega arith, tt), tt)) };
  vars = omega arith;
  rows = omega arith;
  clauses = omega arith;
}

shift_right-of : (signed : Bool) (piece : ShiftRight) (first : ℕ) → shift_right.IsAt piece first → IsBounded first 0 ((pos 0, pos (2 ^ piece.width - 1)) ∷ (pos 0, pos 1) ∷ shift_right.helper_ranges signed piece.amount) (shift_right.layout_of signed piece first)
shift_right-of false piece first at =
    let end = first + 3 in
    let rest = at_least (Var (first + 1 + 1)) (pos 1) ∷ [] in
    let list = cond piece.flags.exact rest [] in
    let operands = piece.a.mark ∷ piece.amount_mark ∷ [] in
    record {
      named = record {
        rows = ((omega (arith, at.a), (omega arith, (omega arith, tt))), tt);
        clauses = both end (equals 0 (pos 0)) (marks (first + 1) operands list) (equals-of end 0 (pos 0))
            (marks-of end (first + 1) operands list (omega arith) (omega (arith, at.a_mark), (omega (arith, at.amount_mark), tt)) (each-if (IsLitOf end) piece.flags.exact rest [] (omega arith, tt) tt));
      };
      vars = omega arith;
      rows = omega arith;
      clauses = omega (arith, marks-count (first + 1) operands list, if-count piece.flags.exact rest);
    }
shift_right-of true piece first at =
    let end = first + 4 in
    let a : piece.a.number < end = omega (arith, at.a) in
    let rest = at_least (Var (first + 1 + 1 + 1)) (pos 1) ∷ [] in
    let list = cond piece.flags.exact rest [] in
    let operands = piece.a.mark ∷ piece.amount_mark ∷ [] in
    record {
      named = record {
        rows = ((a, (omega arith, tt)), ((a, (omega arith, (omega arith, (omega arith, (omega arith, tt))))), tt));
        clauses = both end (sign_clauses piece.width 0) (equals 1 (pos 0) ++ marks (first + 1) operands list) (sign_clauses-of end piece.width 0)
            (both end (equals 1 (pos 0)) (marks (first + 1) operands list) (equals-of end 1 (pos 0))
            (marks-of end (first + 1) operands list (omega arith) (omega (arith, at.a_mark), (omega (arith, at.amount_mark), tt)) (each-if (IsLitOf end) piece.flags.exact rest [] (omega arith, tt) tt)));
      };
      vars = omega arith;
      rows = omega arith;
      clauses = omega (arith, marks-count (first + 1) operands list, if-count piece.flags.exact rest);
    }

pub shift_right-bounded : (piece : ShiftRight) (first : ℕ) → shift_right.IsAt piece first → IsBounded first 0 (shift_right.ranges piece) (shift_right.layout piece first)
shift_right-bounded piece first at = shift_right-of piece.signed piece first at

-- ---- comparisons

compare-of : (signed samesign : Bool) (piece : Compare) (first : ℕ) → compare.IsAt piece first → IsBounded first 0 ((pos 0, pos 1) ∷ (pos 0, pos 1) ∷ compare.sign_ranges (signed || samesign)) (compare.layout_of signed samesign piece first)
compare-of false false piece first at =
    let end = first + 2 in
    let operands = piece.a.mark ∷ piece.b.mark ∷ [] in
    let marked = marks (first + 1) operands [] in
    record {
      named = record {
        rows = ((omega (arith, at.a), (omega (arith, at.b), tt)), tt);
        clauses = both end (compared piece.pred first 0) marked (compared-of end piece.pred first 0 (omega arith))
            (marks-of end (first + 1) operands [] (omega arith) (omega (arith, at.a_mark), (omega (arith, at.b_mark), tt)) tt);
      };
      vars = omega arith;
      rows = omega arith;
      clauses = omega (arith, length-append (compared piece.pred first 0) marked, compared-count piece.pred first 0);
    }
compare-of true false piece first at =
    let end = first + 4 in
    let a : piece.a.number < end = omega (arith, at.a) in
    let b : piece.b.number < end = omega (arith, at.b) in
    let operands = piece.a.mark ∷ piece.b.mark ∷ [] in
    let marked = marks (first + 1) operands [] in
    record {
      named = record {
        rows = ((a, (omega arith, tt)), ((b, (omega arith, tt)), ((a, (omega arith, (b, (omega arith, tt)))), tt)));
        clauses = both end (sign_clauses piece.width 0 ++ sign_clauses piece.width 1) (compared piece.pred first 2 ++ marked) (both end (sign_clauses piece.width 0) (sign_clauses piece.width 1) (sign_clauses-of end piece.width 0) (sign_clauses-of end piece.width 1))
            (both end (compared piece.pred first 2) marked (compared-of end piece.pred first 2 (omega arith))
            (marks-of end (first + 1) operands [] (omega arith) (omega (arith, at.a_mark), (omega (arith, at.b_mark), tt)) tt));
      };
      vars = omega arith;
      rows = omega arith;
      clauses = omega (arith, length-append (compared piece.pred first 2) marked, compared-count piece.pred first 2);
    }
compare-of false true piece first at =
    let end = first + 4 in
    let a : piece.a.number < end = omega (arith, at.a) in
    let b : piece.b.number < end = omega (arith, at.b) in
    let operands = piece.a.mark ∷ piece.b.mark ∷ [] in
    let marked = marks (first + 1) operands (compare.listed true) in
    record {
      named = record {
        rows = ((a, (omega arith, tt)), ((b, (omega arith, tt)), ((omega arith, (omega arith, tt)), ((a, (b, tt)), tt))));
        clauses = both end (sign_clauses piece.width 0 ++ sign_clauses piece.width 1) (compared piece.pred first 3 ++ marked) (both end (sign_clauses piece.width 0) (sign_clauses piece.width 1) (sign_clauses-of end piece.width 0) (sign_clauses-of end piece.width 1))
            (both end (compared piece.pred first 3) marked (compared-of end piece.pred first 3 (omega arith))
            (marks-of end (first + 1) operands (compare.listed true) (omega arith) (omega (arith, at.a_mark), (omega (arith, at.b_mark), tt)) (tt, (tt, tt))));
      };
      vars = omega arith;
      rows = omega arith;
      clauses = omega (arith, length-append (compared piece.pred first 3) marked, compared-count piece.pred first 3);
    }
compare-of true true piece first at =
    let end = first + 4 in
    let a : piece.a.number < end = omega (arith, at.a) in
    let b : piece.b.number < end = omega (arith, at.b) in
    let operands = piece.a.mark ∷ piece.b.mark ∷ [] in
    let marked = marks (first + 1) operands (compare.listed true) in
    record {
      named = record {
        rows = ((a, (omega arith, tt)), ((b, (omega arith, tt)), ((omega arith, (omega arith, tt)), ((a, (omega arith, (b, (omega arith, tt)))), tt))));
        clauses = both end (sign_clauses piece.width 0 ++ sign_clauses piece.width 1) (compared piece.pred first 3 ++ marked) (both end (sign_clauses piece.width 0) (sign_clauses piece.width 1) (sign_clauses-of end piece.width 0) (sign_clauses-of end piece.width 1))
            (both end (compared piece.pred first 3) marked (compared-of end piece.pred first 3 (omega arith))
            (marks-of end (first + 1) operands (compare.listed true) (omega arith) (omega (arith, at.a_mark), (omega (arith, at.b_mark), tt)) (tt, (tt, tt))));
      };
      vars = omega arith;
      rows = omega arith;
      clauses = omega (arith, length-append (compared piece.pred first 3) marked, compared-count piece.pred first 3);
    }

pub compare-bounded : (piece : Compare) (first : ℕ) → compare.IsAt piece first → IsBounded first 0 (compare.ranges piece) (compare.layout piece first)
compare-bounded piece first at = compare-of (compare.reads_signs piece.pred) piece.flags.samesign piece first at

-- ---- phis

phi-rows : (first vars : ℕ) (incoming : List Incoming) → first < vars → Each (phi.StandsBefore first) incoming → Each (Each (IsPartOf vars)) (map (phi.row_for first) incoming)
phi-rows first vars [] within each = tt
phi-rows first vars (one ∷ others) within each = ((within, (omega (arith, within, each.0.number), tt)), phi-rows first vars others within each.1)

phi-clauses : (first vars row : ℕ) (incoming : List Incoming) → first + 1 < vars → Each (phi.StandsBefore first) incoming → AreOf vars (phi.clauses_from row (first + 1) incoming)
phi-clauses first vars row [] within each = tt
phi-clauses first vars row (one ∷ others) within each =
    let edge : one.edge < vars = omega (arith, within, each.0.edge) in
    let operand : one.value.mark < vars = omega (arith, within, each.0.mark) in (
      (edge, (tt, tt)),
      ((edge, (tt, tt)), ((edge, (within, (operand, tt))), ((edge, (within, (operand, tt))), phi-clauses first vars (row + 1) others within each.1))),
    )

phi-count : (row mark : ℕ) (incoming : List Incoming) → length (phi.clauses_from row mark incoming) ≡ 4 * length incoming
phi-count row mark [] = refl
phi-count row mark (one ∷ others) = omega (arith, phi-count (row + 1) mark others)

pub phi-bounded : (piece : Phi) (first : ℕ) → phi.IsAt piece first → IsBounded first (length piece.incoming.items) (phi.ranges piece) (phi.layout piece first)
phi-bounded piece first at =
    let incoming = piece.incoming.items in
    let each = recursion_from_All (phi.StandsBefore first) incoming at.incoming in
    record {
      named = record { rows = phi-rows first (first + 2) incoming (omega arith) each; clauses = phi-clauses first (first + 2) 0 incoming (omega arith) each };
      vars = omega arith;
      rows = omega (arith, length-map incoming (phi.row_for first));
      clauses = omega (arith, phi-count 0 (first + 1) incoming);
    }
