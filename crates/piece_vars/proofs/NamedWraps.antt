-- What the pieces of wrap_rows name.
use Rattle.std.proofs.Common.{ℕ, ◌+◌, ◌-◌, ◌^◌, Bool, true, false, cond, ◌||◌, nat_lt, pos, List, [], ◌∷◌, ◌++◌, length, map, arith}
use Rattle.std.specs.List.{AllByRecursion as Each}
use Rattle.mix_system.specs.declared.literal.Term.TheVariants.{Var}
use Rattle.wrap_rows.specs.declared.zext.Zext.{Zext}
use Rattle.wrap_rows.specs.declared.sext.Sext.{Sext}
use Rattle.wrap_rows.specs.declared.trunc.Trunc.{Trunc}
use Rattle.wrap_rows.specs.declared.select.Select.{Select}
use Rattle.wrap_rows.specs.declared.ranged.Ranged.{Ranged}
use Rattle.wrap_rows.specs.declared.sum.Sum.{Sum}
use Rattle.wrap_rows.specs.declared.scaled.Scale.{Scale}
use Rattle.wrap_rows.specs.declared.scaled.Scale.TheVariants.{Before, Behind, Shift}
use Rattle.wrap_rows.specs.declared.scaled.Scaled.{Scaled}
use Rattle.wrap_rows.specs.declared.shift_out.ShiftOut.{ShiftOut}
use Rattle.wrap_rows.specs.declared.shift_right.ShiftRight.{ShiftRight}
use Rattle.wrap_rows.specs.declared.compare.Compare.{Compare}
use Rattle.wrap_rows.specs.declared.phi.Incoming.{Incoming}
use Rattle.wrap_rows.specs.declared.phi.Phi.{Phi}
use Rattle.wrap_rows.specs.Layout.{at_least}
use Rattle.wrap_rows.specs.Blocks.{equals, marks, sign_clauses, compared}
use Rattle.wrap_rows.specs.Wrapping.{leaving, exceeding, listed}
use Rattle.wrap_rows.specs.Zext as zext
use Rattle.wrap_rows.specs.Sext as sext
use Rattle.wrap_rows.specs.Trunc as trunc
use Rattle.wrap_rows.specs.Select as select
use Rattle.wrap_rows.specs.Ranged as ranged
use Rattle.wrap_rows.specs.Sum as sum
use Rattle.wrap_rows.specs.Scaled as scaled
use Rattle.wrap_rows.specs.ShiftOut as shift_out
use Rattle.wrap_rows.specs.ShiftRight as shift_right
use Rattle.wrap_rows.specs.Compare as compare
use Rattle.wrap_rows.specs.Phi as phi
use Rattle.ir_pieces.proofs.BoundLaws.{each-if}
use Rattle.piece_vars.specs.Named.{IsPartIn, IsLitIn, NamesOnly, Own}
use Rattle.piece_vars.specs.Reads.{Both, ReadsEdge}
use Rattle.piece_vars.proofs.NamedBlocks.{AreOf, both, equals-of, sign_clauses-of, marks-of, compared-of, listed-of}

module _ (Is : ℕ → Type 0) where
  -- ---- conversions

  pub zext-named : (piece : Zext) (first : ℕ) → Own Is first (length (zext.ranges piece)) → Both Is piece.a → NamesOnly Is (zext.layout piece first)
  zext-named piece first own reads =
      let large = at_least (Var piece.a.number) (pos (2 ^ (piece.from - 1))) ∷ [] in
      let list = cond piece.flags.nneg large [] in
      let listed : Each (IsLitIn Is) list = each-if (IsLitIn Is) piece.flags.nneg large [] (reads.0, tt) tt in
      record {
        rows = ((reads.0, (own _ (omega arith) (omega arith), tt)), tt);
        clauses = both Is (equals 0 (pos 0)) (marks (first + 1) (piece.a.mark ∷ []) list) (equals-of Is 0 (pos 0)) (marks-of Is (first + 1) (piece.a.mark ∷ []) list (own _ (omega arith) (omega arith)) (reads.1, tt) listed);
      }

  pub sext-named : (piece : Sext) (first : ℕ) → Own Is first (length (sext.ranges piece)) → Both Is piece.a → NamesOnly Is (sext.layout piece first)
  sext-named piece first own reads =
      let number : Is piece.a.number = reads.0 in
      record {
        rows = ((number, (own _ (omega arith) (omega arith), tt)), ((number, (own _ (omega arith) (omega arith), (own _ (omega arith) (omega arith), tt))), tt));
        clauses = both Is (sign_clauses piece.from 0) (equals 1 (pos 0) ++ marks (first + 1) (piece.a.mark ∷ []) []) (sign_clauses-of Is piece.from 0)
            (both Is (equals 1 (pos 0)) (marks (first + 1) (piece.a.mark ∷ []) []) (equals-of Is 1 (pos 0)) (marks-of Is (first + 1) (piece.a.mark ∷ []) [] (own _ (omega arith) (omega arith)) (reads.1, tt) tt));
      }

  trunc-of : (nuw nsw : Bool) (piece : Trunc) (first : ℕ) → Own Is first (length ((pos 0, pos (2 ^ piece.to - 1)) ∷ (pos 0, pos 1) ∷ trunc.helpers nsw piece)) → Both Is piece.a → NamesOnly Is (trunc.layout_of nuw nsw piece first)
  trunc-of nuw false piece first own reads =
      let carry = at_least (Var (first + 1 + 1)) (pos 1) ∷ [] in
      let list = listed nuw false carry (exceeding piece.to 2) in
      record {
        rows = ((reads.0, (own _ (omega arith) (omega arith), (own _ (omega arith) (omega arith), tt))), tt);
        clauses = both Is (equals 0 (pos 0)) (marks (first + 1) (piece.a.mark ∷ []) list) (equals-of Is 0 (pos 0))
            (marks-of Is (first + 1) (piece.a.mark ∷ []) list (own _ (omega arith) (omega arith)) (reads.1, tt) (listed-of Is nuw false carry (exceeding piece.to 2) (own _ (omega arith) (omega arith), tt) (tt, (tt, tt))));
      }
  trunc-of nuw true piece first own reads =
      let number : Is piece.a.number = reads.0 in
      let carry = at_least (Var (first + 1 + 1 + 1)) (pos 1) ∷ [] in
      let list = listed nuw true carry (exceeding piece.to 2) in
      let marked = marks (first + 1) (piece.a.mark ∷ []) list in
      record {
        rows = ((number, (own _ (omega arith) (omega arith), tt)), ((number, (own _ (omega arith) (omega arith), (own _ (omega arith) (omega arith), tt))), ((number, (own _ (omega arith) (omega arith), tt)), tt)));
        clauses = both Is (sign_clauses piece.from 0) (equals 1 (pos 0) ++ marked) (sign_clauses-of Is piece.from 0)
            (both Is (equals 1 (pos 0)) marked (equals-of Is 1 (pos 0))
            (marks-of Is (first + 1) (piece.a.mark ∷ []) list (own _ (omega arith) (omega arith)) (reads.1, tt) (listed-of Is nuw true carry (exceeding piece.to 2) (own _ (omega arith) (omega arith), tt) (tt, (tt, tt)))));
      }

  pub trunc-named : (piece : Trunc) (first : ℕ) → Own Is first (length (trunc.ranges piece)) → Both Is piece.a → NamesOnly Is (trunc.layout piece first)
  trunc-named piece first own reads = trunc-of piece.flags.nuw piece.flags.nsw piece first own reads

  -- ---- choices and ranges

  pub select-named : (piece : Select) (first : ℕ) → Own Is first (length (select.ranges piece)) → Both Is piece.cond × Both Is piece.yes × Both Is piece.no → NamesOnly Is (select.layout piece first)
  select-named piece first own reads =
      let c : Is piece.cond.number = reads.0.0 in
      let c_mark : Is piece.cond.mark = reads.0.1 in
      let yes_mark : Is piece.yes.mark = reads.1.1 in
      let no_mark : Is piece.no.mark = reads.2.1 in
      let m : Is (first + 1) = own _ (omega arith) (omega arith) in
      record {
        rows = ((own _ (omega arith) (omega arith), (reads.1.0, tt)), ((own _ (omega arith) (omega arith), (reads.2.0, tt)), tt));
        clauses = (
          (c, (tt, tt)),
          (
            (c, (tt, tt)),
            (
              (c, (tt, tt)),
              (
                (c, (tt, tt)),
                (
                  (m, (c_mark, tt)),
                  (
                    (c, (m, (yes_mark, tt))),
                    (
                      (c, (m, (no_mark, tt))),
                      ((m, (c_mark, (c, (yes_mark, tt)))), ((m, (c_mark, (c, (no_mark, tt)))), tt)),
                    ),
                  ),
                ),
              ),
            ),
          ),
        );
      }

  ranged-of : (test : Bool) (piece : Ranged) (first : ℕ) → Own Is first (length (ranged.ranges piece)) → Is piece.number → NamesOnly Is (record { rows = []; clauses = cond test (ranged.between_clauses piece.number piece.low piece.high first) (ranged.around_clauses piece.number piece.low piece.high first) })
  ranged-of true piece first own reads =
      let x : Is piece.number = reads in
      let m : Is first = own _ (omega arith) (omega arith) in
      record { rows = tt; clauses = ((m, (x, (x, tt))), ((m, (x, tt)), ((m, (x, tt)), tt))) }
  ranged-of false piece first own reads =
      let x : Is piece.number = reads in
      let m : Is first = own _ (omega arith) (omega arith) in
      record { rows = tt; clauses = ((m, (x, (x, tt))), ((m, (x, tt)), ((m, (x, tt)), tt))) }

  pub ranged-named : (piece : Ranged) (first : ℕ) → Own Is first (length (ranged.ranges piece)) → Is piece.number → NamesOnly Is (ranged.layout piece first)
  ranged-named piece first own reads = ranged-of (nat_lt piece.low piece.high) piece first own reads

  -- ---- sums and products

  sum-of : (nuw nsw : Bool) (piece : Sum) (first : ℕ) → Own Is first (length ((pos 0, pos (2 ^ piece.width - 1)) ∷ (pos 0, pos 1) ∷ sum.carry_range piece.kind ∷ sum.sign_ranges nsw)) → Both Is piece.a × Both Is piece.b → NamesOnly Is (sum.layout_of nuw nsw piece first)
  sum-of nuw false piece first own reads =
      let list = listed nuw false (leaving (first + 1 + 1)) (exceeding piece.width 3) in
      record {
        rows = ((reads.0.0, (reads.1.0, (own _ (omega arith) (omega arith), (own _ (omega arith) (omega arith), tt)))), tt);
        clauses = both Is (equals 0 (pos 0)) (marks (first + 1) (sum.operands piece) list) (equals-of Is 0 (pos 0))
            (marks-of Is (first + 1) (sum.operands piece) list (own _ (omega arith) (omega arith)) (reads.0.1, (reads.1.1, tt)) (listed-of Is nuw false (leaving (first + 1 + 1)) (exceeding piece.width 3) (own _ (omega arith) (omega arith), (own _ (omega arith) (omega arith), tt)) (tt, (tt, tt))));
      }
  sum-of nuw true piece first own reads =
      let a : Is piece.a.number = reads.0.0 in
      let b : Is piece.b.number = reads.1.0 in
      let list = listed nuw true (leaving (first + 1 + 1)) (exceeding piece.width 3) in
      let marked = marks (first + 1) (sum.operands piece) list in
      record {
        rows = ((a, (b, (own _ (omega arith) (omega arith), (own _ (omega arith) (omega arith), tt)))), ((a, (own _ (omega arith) (omega arith), tt)), ((b, (own _ (omega arith) (omega arith), tt)), ((a, (b, (own _ (omega arith) (omega arith), (own _ (omega arith) (omega arith), tt)))), tt))));
        clauses = both Is (equals 0 (pos 0)) (sum.signed_clauses true piece.width 1 2 ++ marked) (equals-of Is 0 (pos 0))
            (both Is (sum.signed_clauses true piece.width 1 2) marked (both Is (sign_clauses piece.width 1) (sign_clauses piece.width 2) (sign_clauses-of Is piece.width 1) (sign_clauses-of Is piece.width 2))
            (marks-of Is (first + 1) (sum.operands piece) list (own _ (omega arith) (omega arith)) (reads.0.1, (reads.1.1, tt)) (listed-of Is nuw true (leaving (first + 1 + 1)) (exceeding piece.width 3) (own _ (omega arith) (omega arith), (own _ (omega arith) (omega arith), tt)) (tt, (tt, tt)))));
      }

  pub sum-named : (piece : Sum) (first : ℕ) → Own Is first (length (sum.ranges piece)) → Both Is piece.a × Both Is piece.b → NamesOnly Is (sum.layout piece first)
  sum-named piece first own reads = sum-of piece.flags.nuw piece.flags.nsw piece first own reads

  operands_of-of : (scale : Scale) (a constant : ℕ) → Is a → Is constant → Each (λ operand. Is operand) (scaled.operands_of scale a constant)
  operands_of-of (Before c) a constant first second = (second, (first, tt))
  operands_of-of (Behind c) a constant first second = (first, (second, tt))
  operands_of-of (Shift amount) a constant first second = (first, (second, tt))

  scaled-of : (nuw nsw : Bool) (piece : Scaled) (first : ℕ) → Own Is first (length ((pos 0, pos (2 ^ piece.width - 1)) ∷ (pos 0, pos 1) ∷ (pos 0, pos (scaled.factor piece.scale - 1)) ∷ scaled.sign_ranges nsw)) → Both Is piece.a × Is piece.constant_mark → NamesOnly Is (scaled.layout_of nuw nsw piece first)
  scaled-of nuw false piece first own reads =
      let list = listed nuw false (leaving (first + 1 + 1)) (exceeding piece.width 2) in
      record {
        rows = ((reads.0.0, (own _ (omega arith) (omega arith), (own _ (omega arith) (omega arith), tt))), tt);
        clauses = both Is (equals 0 (pos 0)) (marks (first + 1) (scaled.operands piece) list) (equals-of Is 0 (pos 0))
            (marks-of Is (first + 1) (scaled.operands piece) list (own _ (omega arith) (omega arith)) (operands_of-of piece.scale piece.a.mark piece.constant_mark (reads.0.1) (reads.1)) (listed-of Is nuw false (leaving (first + 1 + 1)) (exceeding piece.width 2) (own _ (omega arith) (omega arith), (own _ (omega arith) (omega arith), tt)) (tt, (tt, tt))));
      }
  scaled-of nuw true piece first own reads =
      let a : Is piece.a.number = reads.0.0 in
      let list = listed nuw true (leaving (first + 1 + 1)) (exceeding piece.width 2) in
      let marked = marks (first + 1) (scaled.operands piece) list in
      record {
        rows = ((a, (own _ (omega arith) (omega arith), (own _ (omega arith) (omega arith), tt))), ((a, (own _ (omega arith) (omega arith), tt)), ((a, (own _ (omega arith) (omega arith), tt)), tt)));
        clauses = both Is (equals 0 (pos 0)) (sign_clauses piece.width 1 ++ marked) (equals-of Is 0 (pos 0))
            (both Is (sign_clauses piece.width 1) marked (sign_clauses-of Is piece.width 1)
            (marks-of Is (first + 1) (scaled.operands piece) list (own _ (omega arith) (omega arith)) (operands_of-of piece.scale piece.a.mark piece.constant_mark (reads.0.1) (reads.1)) (listed-of Is nuw true (leaving (first + 1 + 1)) (exceeding piece.width 2) (own _ (omega arith) (omega arith), (own _ (omega arith) (omega arith), tt)) (tt, (tt, tt)))));
      }

  pub scaled-named : (piece : Scaled) (first : ℕ) → Own Is first (length (scaled.ranges piece)) → Both Is piece.a × Is piece.constant_mark → NamesOnly Is (scaled.layout piece first)
  scaled-named piece first own reads = scaled-of piece.flags.nuw piece.flags.nsw piece first own reads

  -- ---- shifts

  pub shift_out-named : (piece : ShiftOut) (first : ℕ) → Own Is first (length (shift_out.ranges piece)) → NamesOnly Is (shift_out.layout piece first)
  shift_out-named piece first own = record { rows = tt; clauses = ((own _ (omega arith) (omega arith), tt), ((own _ (omega arith) (omega arith), tt), tt)) }

  shift_right-of : (signed : Bool) (piece : ShiftRight) (first : ℕ) → Own Is first (length ((pos 0, pos (2 ^ piece.width - 1)) ∷ (pos 0, pos 1) ∷ shift_right.helper_ranges signed piece.amount)) → Both Is piece.a × Is piece.amount_mark → NamesOnly Is (shift_right.layout_of signed piece first)
  shift_right-of false piece first own reads =
      let rest = at_least (Var (first + 1 + 1)) (pos 1) ∷ [] in
      let list = cond piece.flags.exact rest [] in
      let operands = piece.a.mark ∷ piece.amount_mark ∷ [] in
      record {
        rows = ((reads.0.0, (own _ (omega arith) (omega arith), (own _ (omega arith) (omega arith), tt))), tt);
        clauses = both Is (equals 0 (pos 0)) (marks (first + 1) operands list) (equals-of Is 0 (pos 0))
            (marks-of Is (first + 1) operands list (own _ (omega arith) (omega arith)) (reads.0.1, (reads.1, tt)) (each-if (IsLitIn Is) piece.flags.exact rest [] (own _ (omega arith) (omega arith), tt) tt));
      }
  shift_right-of true piece first own reads =
      let a : Is piece.a.number = reads.0.0 in
      let rest = at_least (Var (first + 1 + 1 + 1)) (pos 1) ∷ [] in
      let list = cond piece.flags.exact rest [] in
      let operands = piece.a.mark ∷ piece.amount_mark ∷ [] in
      record {
        rows = ((a, (own _ (omega arith) (omega arith), tt)), ((a, (own _ (omega arith) (omega arith), (own _ (omega arith) (omega arith), (own _ (omega arith) (omega arith), (own _ (omega arith) (omega arith), tt))))), tt));
        clauses = both Is (sign_clauses piece.width 0) (equals 1 (pos 0) ++ marks (first + 1) operands list) (sign_clauses-of Is piece.width 0)
            (both Is (equals 1 (pos 0)) (marks (first + 1) operands list) (equals-of Is 1 (pos 0))
            (marks-of Is (first + 1) operands list (own _ (omega arith) (omega arith)) (reads.0.1, (reads.1, tt)) (each-if (IsLitIn Is) piece.flags.exact rest [] (own _ (omega arith) (omega arith), tt) tt)));
      }

  pub shift_right-named : (piece : ShiftRight) (first : ℕ) → Own Is first (length (shift_right.ranges piece)) → Both Is piece.a × Is piece.amount_mark → NamesOnly Is (shift_right.layout piece first)
  shift_right-named piece first own reads = shift_right-of piece.signed piece first own reads

  -- ---- comparisons

  compare-of : (signed samesign : Bool) (piece : Compare) (first : ℕ) → Own Is first (length ((pos 0, pos 1) ∷ (pos 0, pos 1) ∷ compare.sign_ranges (signed || samesign))) → Both Is piece.a × Both Is piece.b → NamesOnly Is (compare.layout_of signed samesign piece first)
  compare-of false false piece first own reads =
      let operands = piece.a.mark ∷ piece.b.mark ∷ [] in
      let marked = marks (first + 1) operands [] in
      record {
        rows = ((reads.0.0, (reads.1.0, tt)), tt);
        clauses = both Is (compared piece.pred first 0) marked (compared-of Is piece.pred first 0 (own _ (omega arith) (omega arith)))
            (marks-of Is (first + 1) operands [] (own _ (omega arith) (omega arith)) (reads.0.1, (reads.1.1, tt)) tt);
      }
  compare-of true false piece first own reads =
      let a : Is piece.a.number = reads.0.0 in
      let b : Is piece.b.number = reads.1.0 in
      let operands = piece.a.mark ∷ piece.b.mark ∷ [] in
      let marked = marks (first + 1) operands [] in
      record {
        rows = ((a, (own _ (omega arith) (omega arith), tt)), ((b, (own _ (omega arith) (omega arith), tt)), ((a, (own _ (omega arith) (omega arith), (b, (own _ (omega arith) (omega arith), tt)))), tt)));
        clauses = both Is (sign_clauses piece.width 0 ++ sign_clauses piece.width 1) (compared piece.pred first 2 ++ marked) (both Is (sign_clauses piece.width 0) (sign_clauses piece.width 1) (sign_clauses-of Is piece.width 0) (sign_clauses-of Is piece.width 1))
            (both Is (compared piece.pred first 2) marked (compared-of Is piece.pred first 2 (own _ (omega arith) (omega arith)))
            (marks-of Is (first + 1) operands [] (own _ (omega arith) (omega arith)) (reads.0.1, (reads.1.1, tt)) tt));
      }
  compare-of false true piece first own reads =
      let a : Is piece.a.number = reads.0.0 in
      let b : Is piece.b.number = reads.1.0 in
      let operands = piece.a.mark ∷ piece.b.mark ∷ [] in
      let marked = marks (first + 1) operands (compare.listed true) in
      record {
        rows = ((a, (own _ (omega arith) (omega arith), tt)), ((b, (own _ (omega arith) (omega arith), tt)), ((own _ (omega arith) (omega arith), (own _ (omega arith) (omega arith), tt)), ((a, (b, tt)), tt))));
        clauses = both Is (sign_clauses piece.width 0 ++ sign_clauses piece.width 1) (compared piece.pred first 3 ++ marked) (both Is (sign_clauses piece.width 0) (sign_clauses piece.width 1) (sign_clauses-of Is piece.width 0) (sign_clauses-of Is piece.width 1))
            (both Is (compared piece.pred first 3) marked (compared-of Is piece.pred first 3 (own _ (omega arith) (omega arith)))
            (marks-of Is (first + 1) operands (compare.listed true) (own _ (omega arith) (omega arith)) (reads.0.1, (reads.1.1, tt)) (tt, (tt, tt))));
      }
  compare-of true true piece first own reads =
      let a : Is piece.a.number = reads.0.0 in
      let b : Is piece.b.number = reads.1.0 in
      let operands = piece.a.mark ∷ piece.b.mark ∷ [] in
      let marked = marks (first + 1) operands (compare.listed true) in
      record {
        rows = ((a, (own _ (omega arith) (omega arith), tt)), ((b, (own _ (omega arith) (omega arith), tt)), ((own _ (omega arith) (omega arith), (own _ (omega arith) (omega arith), tt)), ((a, (own _ (omega arith) (omega arith), (b, (own _ (omega arith) (omega arith), tt)))), tt))));
        clauses = both Is (sign_clauses piece.width 0 ++ sign_clauses piece.width 1) (compared piece.pred first 3 ++ marked) (both Is (sign_clauses piece.width 0) (sign_clauses piece.width 1) (sign_clauses-of Is piece.width 0) (sign_clauses-of Is piece.width 1))
            (both Is (compared piece.pred first 3) marked (compared-of Is piece.pred first 3 (own _ (omega arith) (omega arith)))
            (marks-of Is (first + 1) operands (compare.listed true) (own _ (omega arith) (omega arith)) (reads.0.1, (reads.1.1, tt)) (tt, (tt, tt))));
      }

  pub compare-named : (piece : Compare) (first : ℕ) → Own Is first (length (compare.ranges piece)) → Both Is piece.a × Both Is piece.b → NamesOnly Is (compare.layout piece first)
  compare-named piece first own reads = compare-of (compare.reads_signs piece.pred) piece.flags.samesign piece first own reads

  -- ---- phis

  phi-rows : (first : ℕ) (incoming : List Incoming) → Is first → Each (ReadsEdge Is) incoming → Each (Each (IsPartIn Is)) (map (phi.row_for first) incoming)
  phi-rows first [] own each = tt
  phi-rows first (one ∷ others) own each = ((own, (each.0.1.0, tt)), phi-rows first others own each.1)

  phi-clauses : (mark row : ℕ) (incoming : List Incoming) → Is mark → Each (ReadsEdge Is) incoming → AreOf Is (phi.clauses_from row mark incoming)
  phi-clauses mark row [] own each = tt
  phi-clauses mark row (one ∷ others) own each =
      let edge : Is one.edge = each.0.0 in
      let operand : Is one.value.mark = each.0.1.1 in
      ((edge, (tt, tt)), ((edge, (tt, tt)), ((edge, (own, (operand, tt))), ((edge, (own, (operand, tt))), phi-clauses mark (row + 1) others own each.1))))

  pub phi-named : (piece : Phi) (first : ℕ) → Own Is first (length (phi.ranges piece)) → Each (ReadsEdge Is) piece.incoming.items → NamesOnly Is (phi.layout piece first)
  phi-named piece first own reads = record {
    rows = phi-rows first piece.incoming.items (own _ (omega arith) (omega arith)) reads;
    clauses = phi-clauses (first + 1) 0 piece.incoming.items (own _ (omega arith) (omega arith)) reads;
  }
