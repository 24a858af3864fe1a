-- What the blocks of layouts name, and how much they lay.
use Rattle.std.proofs.Common.{◌≡◌, ℕ, ◌+◌, ◌<◌, ◌≤◌, Bool, true, false, cond, ℤ, pos, List, [], ◌∷◌, ◌++◌, length, length-append, map, arith}
use Rattle.std.specs.List.{AllByRecursion as Each}
use Rattle.std.proofs.lemmas.List.{length-map}
use Rattle.mix_system.specs.declared.literal.Term.TheVariants.{Var}
use Rattle.mix_system.specs.declared.literal.Lit.{Lit}
use Rattle.mix_system.specs.declared.row.Part.{Part}
use Rattle.ll_tree.specs.declared.op.Pred.{Pred}
use Rattle.ll_tree.specs.declared.op.Pred.TheVariants.{Eq, Ne, Ugt, Uge, Ult, Ule, Sgt, Sge, Slt, Sle}
use Rattle.wrap_rows.specs.Layout.{at_least}
use Rattle.wrap_rows.specs.Blocks.{equals, from_operand, from_listed, closing, marks, sign_clauses, compared}
use Rattle.ir_pieces.specs.Bounded.{IsPartOf, IsLitOf}

pub each-append : {X : Type 0} (P : X → Type 0) (xs ys : List X) → Each P xs → Each P ys → Each P (xs ++ ys)
each-append P [] ys left right = right
each-append P (x ∷ xs) ys left right = (left.0, each-append P xs ys left.1 right)

pub each-if : {X : Type 0} (P : X → Type 0) (test : Bool) (xs ys : List X) → Each P xs → Each P ys → Each P (cond test xs ys)
each-if P true xs ys left right = left
each-if P false xs ys left right = right

-- clauses over so many variables
abbrev pub AreOf : ℕ → List (List Lit) → Type 0
AreOf vars clauses = Each (Each (IsLitOf vars)) clauses

pub equals-of : (vars row : ℕ) (number : ℤ) → AreOf vars (equals row number)
equals-of vars row number = ((tt, tt), ((tt, tt), tt))

pub sign_clauses-of : (vars width row : ℕ) → AreOf vars (sign_clauses width row)
sign_clauses-of vars width row = ((tt, tt), ((tt, tt), tt))

operands-of : (vars mark : ℕ) (operands : List ℕ) → mark < vars → Each (λ operand. operand < vars) operands → AreOf vars (map (from_operand mark) operands)
operands-of vars mark [] within each = tt
operands-of vars mark (operand ∷ operands) within each = ((within, (each.0, tt)), operands-of vars mark operands within each.1)

listed-of : (vars mark : ℕ) (listed : List Lit) → mark < vars → Each (IsLitOf vars) listed → AreOf vars (map (from_listed mark) listed)
listed-of vars mark [] within each = tt
listed-of vars mark (lit ∷ listed) within each = ((within, (each.0, tt)), listed-of vars mark listed within each.1)

closing-of : (vars : ℕ) (operands : List ℕ) (listed : List Lit) → Each (λ operand. operand < vars) operands → Each (IsLitOf vars) listed → Each (IsLitOf vars) (map (λ operand. at_least (Var operand) (pos 1)) operands ++ listed)
closing-of vars [] listed operands each = each
closing-of vars (operand ∷ others) listed operands each = (operands.0, closing-of vars others listed operands.1 each)

pub marks-of : (vars mark : ℕ) (operands : List ℕ) (listed : List Lit) → mark < vars → Each (λ operand. operand < vars) operands → Each (IsLitOf vars) listed → AreOf vars (marks mark operands listed)
marks-of vars mark operands listed within each lits =
    each-append (Each (IsLitOf vars)) (map (from_operand mark) operands) (map (from_listed mark) listed ++ closing mark operands listed ∷ []) (operands-of vars mark operands within each)
    (each-append (Each (IsLitOf vars)) (map (from_listed mark) listed) (closing mark operands listed ∷ []) (listed-of vars mark listed within lits)
    ((within, closing-of vars operands listed each lits), tt))

pub compared-of : (vars : ℕ) (pred : Pred) (x row : ℕ) → x < vars → AreOf vars (compared pred x row)
compared-of vars Eq x row within = ((within, (tt, tt)), ((within, (tt, tt)), ((within, (tt, (tt, tt))), tt)))
compared-of vars Ne x row within = ((within, (tt, tt)), ((within, (tt, tt)), ((within, (tt, (tt, tt))), tt)))
compared-of vars Ult x row within = ((within, (tt, tt)), ((within, (tt, tt)), tt))
compared-of vars Slt x row within = ((within, (tt, tt)), ((within, (tt, tt)), tt))
compared-of vars Ule x row within = ((within, (tt, tt)), ((within, (tt, tt)), tt))
compared-of vars Sle x row within = ((within, (tt, tt)), ((within, (tt, tt)), tt))
compared-of vars Ugt x row within = ((within, (tt, tt)), ((within, (tt, tt)), tt))
compared-of vars Sgt x row within = ((within, (tt, tt)), ((within, (tt, tt)), tt))
compared-of vars Uge x row within = ((within, (tt, tt)), ((within, (tt, tt)), tt))
compared-of vars Sge x row within = ((within, (tt, tt)), ((within, (tt, tt)), tt))

pub compared-count : (pred : Pred) (x row : ℕ) → length (compared pred x row) ≤ 3
compared-count Eq x row = omega arith
compared-count Ne x row = omega arith
compared-count Ult x row = omega arith
compared-count Slt x row = omega arith
compared-count Ule x row = omega arith
compared-count Sle x row = omega arith
compared-count Ugt x row = omega arith
compared-count Sgt x row = omega arith
compared-count Uge x row = omega arith
compared-count Sge x row = omega arith

-- a sum of one variable and another
pub two-of : (vars : ℕ) (one two : Part) → one.var < vars → two.var < vars → Each (IsPartOf vars) (one ∷ two ∷ [])
two-of vars one two first second = (first, (second, tt))

pub three-of : (vars : ℕ) (one two three : Part) → one.var < vars → two.var < vars → three.var < vars → Each (IsPartOf vars) (one ∷ two ∷ three ∷ [])
three-of vars one two three first second third = (first, (second, (third, tt)))

-- ---- how much it is

pub marks-count : (mark : ℕ) (operands : List ℕ) (listed : List Lit) → length (marks mark operands listed) ≡ length operands + length listed + 1
marks-count mark operands listed =
    omega (
      arith,
      length-append (map (from_operand mark) operands) (map (from_listed mark) listed ++ closing mark operands listed ∷ []),
      length-append (map (from_listed mark) listed) (closing mark operands listed ∷ []),
      length-map operands (from_operand mark),
      length-map listed (from_listed mark),
    )

pub if-count : {X : Type 0} (test : Bool) (xs : List X) → length (cond test xs []) ≤ length xs
if-count true xs = omega arith
if-count false xs = omega arith
