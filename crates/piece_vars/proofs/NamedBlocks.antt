-- What the blocks of layouts name.
use Rattle.std.proofs.Common.{ℕ, Bool, cond, ℤ, pos, List, [], ◌∷◌, ◌++◌, map}
use Rattle.std.specs.List.{AllByRecursion as Each}
use Rattle.mix_system.specs.declared.literal.Term.TheVariants.{Var}
use Rattle.mix_system.specs.declared.literal.Lit.{Lit}
use Rattle.ll_tree.specs.declared.op.Pred.{Pred}
use Rattle.ll_tree.specs.declared.op.Pred.TheVariants.{Eq, Ne, Ugt, Uge, Ult, Ule, Sgt, Sge, Slt, Sle}
use Rattle.wrap_rows.specs.Layout.{at_least}
use Rattle.wrap_rows.specs.Blocks.{equals, from_operand, from_listed, closing, marks, sign_clauses, compared}
use Rattle.wrap_rows.specs.Wrapping.{listed}
use Rattle.ir_pieces.proofs.BoundLaws.{each-append, each-if}
use Rattle.piece_vars.specs.Named.{IsLitIn}

module _ (Is : ℕ → Type 0) where
  abbrev pub AreOf : List (List Lit) → Type 0
  AreOf clauses = Each (Each (IsLitIn Is)) clauses

  -- clauses one behind the other
  pub both : (xs ys : List (List Lit)) → AreOf xs → AreOf ys → AreOf (xs ++ ys)
  both xs ys left right = each-append (Each (IsLitIn Is)) xs ys left right

  pub equals-of : (row : ℕ) (number : ℤ) → AreOf (equals row number)
  equals-of row number = ((tt, tt), ((tt, tt), tt))

  pub sign_clauses-of : (width row : ℕ) → AreOf (sign_clauses width row)
  sign_clauses-of width row = ((tt, tt), ((tt, tt), tt))

  operands-of : (mark : ℕ) (operands : List ℕ) → Is mark → Each Is operands → AreOf (map (from_operand mark) operands)
  operands-of mark [] own each = tt
  operands-of mark (operand ∷ operands) own each = ((own, (each.0, tt)), operands-of mark operands own each.1)

  lits-of : (mark : ℕ) (lits : List Lit) → Is mark → Each (IsLitIn Is) lits → AreOf (map (from_listed mark) lits)
  lits-of mark [] own each = tt
  lits-of mark (lit ∷ lits) own each = ((own, (each.0, tt)), lits-of mark lits own each.1)

  closing-of : (operands : List ℕ) (lits : List Lit) → Each Is operands → Each (IsLitIn Is) lits → Each (IsLitIn Is) (map (λ operand. at_least (Var operand) (pos 1)) operands ++ lits)
  closing-of [] lits operands each = each
  closing-of (operand ∷ others) lits operands each = (operands.0, closing-of others lits operands.1 each)

  pub marks-of : (mark : ℕ) (operands : List ℕ) (lits : List Lit) → Is mark → Each Is operands → Each (IsLitIn Is) lits → AreOf (marks mark operands lits)
  marks-of mark operands lits own each all =
      both (map (from_operand mark) operands) (map (from_listed mark) lits ++ closing mark operands lits ∷ []) (operands-of mark operands own each)
      (both (map (from_listed mark) lits) (closing mark operands lits ∷ []) (lits-of mark lits own all)
      ((own, closing-of operands lits each all), tt))

  pub compared-of : (pred : Pred) (x row : ℕ) → Is x → AreOf (compared pred x row)
  compared-of Eq x row own = ((own, (tt, tt)), ((own, (tt, tt)), ((own, (tt, (tt, tt))), tt)))
  compared-of Ne x row own = ((own, (tt, tt)), ((own, (tt, tt)), ((own, (tt, (tt, tt))), tt)))
  compared-of Ult x row own = ((own, (tt, tt)), ((own, (tt, tt)), tt))
  compared-of Slt x row own = ((own, (tt, tt)), ((own, (tt, tt)), tt))
  compared-of Ule x row own = ((own, (tt, tt)), ((own, (tt, tt)), tt))
  compared-of Sle x row own = ((own, (tt, tt)), ((own, (tt, tt)), tt))
  compared-of Ugt x row own = ((own, (tt, tt)), ((own, (tt, tt)), tt))
  compared-of Sgt x row own = ((own, (tt, tt)), ((own, (tt, tt)), tt))
  compared-of Uge x row own = ((own, (tt, tt)), ((own, (tt, tt)), tt))
  compared-of Sge x row own = ((own, (tt, tt)), ((own, (tt, tt)), tt))

  -- the literals of flags of wrapping
  pub listed-of : (nuw nsw : Bool) (leaves exceeds : List Lit) → Each (IsLitIn Is) leaves → Each (IsLitIn Is) exceeds → Each (IsLitIn Is) (listed nuw nsw leaves exceeds)
  listed-of nuw nsw leaves exceeds left right =
      each-append (IsLitIn Is) (cond nuw leaves []) (cond nsw exceeds []) (each-if (IsLitIn Is) nuw leaves [] left tt) (each-if (IsLitIn Is) nsw exceeds [] right tt)
