-- The operands of an operation at a point where values and constants are known, and what it computes of them.
use Rattle.std.proofs.Common.{◌≡◌, ℕ, ℤ, List, [], ◌∷◌, Bool, true, false, ◌||◌, Option, Some, None, refl, ap, subst, arith}
use Rattle.std.specs.Prelude.{Contains, unsigned_abs}
use Rattle.std.proofs.lemmas.Bool.{false≢true}
use Rattle.std.proofs.lemmas.Int.{ints}
use Rattle.std.proofs.lemmas.Nat.{pow_pos}
use Rattle.mix_system.specs.Row.{number_at}
use Rattle.ll_tree.specs.Formed.{FitsOperand, IsFormedOp}
use Rattle.ll_tree.specs.declared.block.Operand.{Operand}
use Rattle.ll_tree.specs.declared.block.Operand.TheVariants as operand
use Rattle.ll_tree.specs.declared.op.BinKind.{BinKind}
use Rattle.ll_tree.specs.declared.op.BinKind.TheVariants as bin
use Rattle.ll_tree.specs.declared.op.Op.{Op}
use Rattle.ll_tree.specs.declared.op.Op.TheVariants.{Bin, Cmp, Cast, Select, Abs, Assume}
use Rattle.ll_rules.specs.Items.{Part, Use, op_parts}
use Rattle.ll_rules.specs.Arithmetic.{is_constant, are_linear, is_linear}
use Rattle.ll_verifier.specs.Sound.{SoundFunc}
use Rattle.ir_meaning.specs.Value.{poison_if}
use Rattle.ir_runs.specs.Values.{Vals, operand_value, op_value}
use Rattle.ir_runs.proofs.MemberLaws.{in_here, in_there}
use Rattle.ir_constants.specs.Counted.{counted_of, counted}
use Rattle.path_values.specs.Way.{told}
use Rattle.wrap_rows.specs.declared.vars.ValueVars.{ValueVars}
use Rattle.bit_rows.specs.Bitwise.{IsLiteral}
use Rattle.wrap_rows.specs.Vars.{IsMark, IsValue, is_marked, value_at}
use Rattle.ir_pieces.specs.Choice.{literal_of, given_value, value_of, computed, IsOperand, IsConstant, AreBoth, AreFactors, AreWithConstant, AreOfBin, AreOperands, AreNumbers, AreGiven}
use Rattle.path_encoding.specs.declared.spots.PathSpots.{PathSpots}
use Rattle.path_encoding.specs.Spots.{operand_vars}
use Rattle.point_runs.specs.Told.{told_at}
use Rattle.value_pieces.specs.Pieces.{operand_of, operands_of, name_vars}
use Rattle.piece_values.specs.Known.{IsConst}

-- an operand reads as its variables do
pub read_of : (point : List ℤ) (literal : Option ℕ) (vars : ValueVars) → IsLiteral literal (number_at point vars.number) → value_at vars point ≡ given_value literal vars point
read_of point None vars is = refl
read_of point (Some n) vars is = ap (λ (z : ℤ). poison_if (is_marked vars point) (unsigned_abs z)) is

module _ (it : SoundFunc) (spots : PathSpots) (point : List ℤ) (numbers : AreNumbers point) where
  abbrev said : Vals
  said = told (told_at it spots point)

  mark_0 : IsMark (number_at point 0)
  mark_0 = (omega (arith, ints, numbers.zero_is), omega (arith, ints, numbers.zero_is))

  mark_1 : IsMark (number_at point 1)
  mark_1 = (omega (arith, ints, numbers.one_is), omega (arith, ints, numbers.one_is))

  -- ---- operands

  pub is_operand : (width : ℕ) (asked : Operand) → FitsOperand width asked → ((name : List ℕ) → asked ≡ operand.Name name → IsValue width (name_vars it spots name) point) → ((n : ℕ) → asked ≡ operand.Const n → IsConst it spots point n)
      → IsOperand width (operand_of it spots asked) point
  is_operand width (operand.Name name) fits named is = record { value = named name refl; literal = tt }
  is_operand width (operand.Const n) fits named is =
      let here = is n refl in
      record {
        value = record { number = (omega (arith, ints, here), omega (arith, ints, here, fits)); mark = mark_0 };
        literal = here;
      }
  is_operand width operand.Poison fits named is = record {
    value = record { number = (omega (arith, ints, numbers.zero_is), omega (arith, ints, numbers.zero_is, pow_pos width)); mark = mark_1 };
    literal = numbers.zero_is;
  }

  is_literal : (asked : Operand) → is_constant asked ≡ true → IsConstant (operand_of it spots asked) point
  is_literal (operand.Name name) constant = absurd (false≢true constant)
  is_literal (operand.Const n) constant = record { mark = mark_0 }
  is_literal operand.Poison constant = record { mark = mark_1 }

  -- ---- what operands say

  pub operand_said : (asked : Operand) → operand_value said asked ≡ Some (given_value (literal_of asked) (operand_vars it spots asked) point)
  operand_said (operand.Name name) = refl
  operand_said (operand.Const n) = rw numbers.zero_is refl
  operand_said operand.Poison = rw numbers.one_is refl

  -- an operation computes of what its operands say
  pub op_said : (op : Op) → op_value said op ≡ computed op (value_of (operands_of it spots op) point)
  op_said (Bin kind flags width left right) = rw (operand_said left, operand_said right) refl
  op_said (Cmp pred flags width left right) = rw (operand_said left, operand_said right) refl
  op_said (Cast kind flags from arg to) = rw (operand_said arg) refl
  op_said (Select width test first second) = rw (operand_said test, operand_said first, operand_said second) refl
  op_said (Abs width arg strict) = rw (operand_said arg) refl
  op_said (Assume test) = refl

  pub are_given : (op : Op) → AreGiven op (operands_of it spots op)
  are_given (Bin kind flags width left right) = (refl, refl)
  are_given (Cmp pred flags width left right) = tt
  are_given (Cast kind flags from arg to) = tt
  are_given (Select width test first second) = tt
  are_given (Abs width arg strict) = tt
  are_given (Assume test) = tt

  -- ---- all operands of an operation

  abbrev IsNamed : ℕ → Operand → Type 0
  IsNamed width asked = (name : List ℕ) → asked ≡ operand.Name name → IsValue width (name_vars it spots name) point

  abbrev AreConsts : List Operand → Type 0
  AreConsts operands = (n : ℕ) → Contains operands (operand.Const n) → IsConst it spots point n

  among : (operands : List Operand) (width : ℕ) (asked : Operand) → FitsOperand width asked → IsNamed width asked → Contains operands asked → AreConsts operands → IsOperand width (operand_of it spots asked) point
  among operands width asked fits named there consts = is_operand width asked fits named (λ n is. consts n (subst (Contains operands) is there))

  module _ (width : ℕ) (left right : Operand) (left_fits : FitsOperand width left) (right_fits : FitsOperand width right) (left_named : IsNamed width left) (right_named : IsNamed width right) where
    both : AreConsts (left ∷ right ∷ []) → AreBoth width (operand_of it spots left) (operand_of it spots right) point
    both consts = (
      among (left ∷ right ∷ []) width left left_fits left_named (in_here left (right ∷ [])) consts,
      among (left ∷ right ∷ []) width right right_fits right_named (in_there left right (right ∷ []) (in_here right [])) consts,
    )

    with_constant : is_constant right ≡ true → AreConsts (left ∷ []) → AreWithConstant width (operand_of it spots left) (operand_of it spots right) point
    with_constant constant consts = (among (left ∷ []) width left left_fits left_named (in_here left []) consts, is_literal right constant)

    of_left : is_constant left ≡ true → AreConsts (right ∷ []) → IsConstant (operand_of it spots left) point × IsOperand width (operand_of it spots right) point
    of_left constant consts = (is_literal left constant, among (right ∷ []) width right right_fits right_named (in_here right []) consts)

  or_false : (a : Bool) → (a || false) ≡ true → a ≡ true
  or_false true is = refl
  or_false false is = is

  factors : (width : ℕ) (left right : Operand) → FitsOperand width left → FitsOperand width right → IsNamed width left → IsNamed width right → (is_constant left || is_constant right) ≡ true → AreConsts (counted_of bin.Mul left right)
      → AreFactors (literal_of right) width (operand_of it spots left) (operand_of it spots right) point
  factors width left (operand.Name name) left_fits right_fits left_named right_named linear consts = of_left width left (operand.Name name) left_fits right_fits left_named right_named (or_false (is_constant left) linear) consts
  factors width left (operand.Const n) left_fits right_fits left_named right_named linear consts = with_constant width left (operand.Const n) left_fits right_fits left_named right_named refl consts
  factors width left operand.Poison left_fits right_fits left_named right_named linear consts = with_constant width left operand.Poison left_fits right_fits left_named right_named refl consts

  of_bin : (of : BinKind) (width : ℕ) (left right : Operand) → FitsOperand width left → FitsOperand width right → IsNamed width left → IsNamed width right → are_linear of (is_constant left) (is_constant right) ≡ true → AreConsts (counted_of of left right)
      → AreOfBin of width (operand_of it spots left) (operand_of it spots right) point
  of_bin bin.Add w l r fl fr nl nr linear consts = both w l r fl fr nl nr consts
  of_bin bin.Sub w l r fl fr nl nr linear consts = both w l r fl fr nl nr consts
  of_bin bin.Mul w l r fl fr nl nr linear consts = factors w l r fl fr nl nr linear consts
  of_bin bin.Shl w l r fl fr nl nr linear consts = with_constant w l r fl fr nl nr linear consts
  of_bin bin.Lshr w l r fl fr nl nr linear consts = with_constant w l r fl fr nl nr linear consts
  of_bin bin.Ashr w l r fl fr nl nr linear consts = with_constant w l r fl fr nl nr linear consts
  of_bin bin.And w l r fl fr nl nr linear consts = both w l r fl fr nl nr consts
  of_bin bin.Or w l r fl fr nl nr linear consts = both w l r fl fr nl nr consts
  of_bin bin.Xor w l r fl fr nl nr linear consts = both w l r fl fr nl nr consts
  of_bin bin.Udiv w l r fl fr nl nr linear consts = with_constant w l r fl fr nl nr linear consts
  of_bin bin.Sdiv w l r fl fr nl nr linear consts = with_constant w l r fl fr nl nr linear consts
  of_bin bin.Urem w l r fl fr nl nr linear consts = with_constant w l r fl fr nl nr linear consts
  of_bin bin.Srem w l r fl fr nl nr linear consts = with_constant w l r fl fr nl nr linear consts
  of_bin bin.Smin w l r fl fr nl nr linear consts = both w l r fl fr nl nr consts
  of_bin bin.Smax w l r fl fr nl nr linear consts = both w l r fl fr nl nr consts
  of_bin bin.Umin w l r fl fr nl nr linear consts = both w l r fl fr nl nr consts
  of_bin bin.Umax w l r fl fr nl nr linear consts = both w l r fl fr nl nr consts

  abbrev AreNamed : List Part → Type 0
  AreNamed parts = (name : List ℕ) (width : ℕ) → Contains parts (Use (operand.Name name) width) → IsValue width (name_vars it spots name) point

  named_in : (parts : List Part) (width : ℕ) (asked : Operand) → Contains parts (Use asked width) → AreNamed parts → IsNamed width asked
  named_in parts width asked there named name is = named name width (subst (λ (o : Operand). Contains parts (Use o width)) is there)

  pub are_operands : (op : Op) → IsFormedOp op → is_linear op ≡ true → AreNamed (op_parts op) → AreConsts (counted op) → AreOperands op (operands_of it spots op) point
  are_operands (Bin kind flags width left right) formed linear named consts =
      of_bin kind width left right formed.1 formed.2
      (named_in (Use left width ∷ Use right width ∷ []) width left (in_here (Use left width) (Use right width ∷ [])) named)
      (named_in (Use left width ∷ Use right width ∷ []) width right (in_there (Use left width) (Use right width) (Use right width ∷ []) (in_here (Use right width) [])) named)
      linear consts
  are_operands (Cmp pred flags width left right) formed linear named consts =
      both width left right formed.1 formed.2
      (named_in (Use left width ∷ Use right width ∷ []) width left (in_here (Use left width) (Use right width ∷ [])) named)
      (named_in (Use left width ∷ Use right width ∷ []) width right (in_there (Use left width) (Use right width) (Use right width ∷ []) (in_here (Use right width) [])) named)
      consts
  are_operands (Cast kind flags from arg to) formed linear named consts =
      among (arg ∷ []) from arg formed.2 (named_in (Use arg from ∷ []) from arg (in_here (Use arg from) []) named) (in_here arg []) consts
  are_operands (Select width test first second) formed linear named consts =
      let parts = Use test 1 ∷ Use first width ∷ Use second width ∷ [] in
      let all = test ∷ first ∷ second ∷ [] in (
        among all 1 test formed.1 (named_in parts 1 test (in_here (Use test 1) (Use first width ∷ Use second width ∷ [])) named) (in_here test (first ∷ second ∷ [])) consts,
        among all width first formed.2 (named_in parts width first (in_there (Use test 1) (Use first width) (Use first width ∷ Use second width ∷ []) (in_here (Use first width) (Use second width ∷ []))) named) (in_there test first (first ∷ second ∷ []) (in_here first (second ∷ []))) consts,
        among all width second formed.3 (named_in parts width second (in_there (Use test 1) (Use second width) (Use first width ∷ Use second width ∷ []) (in_there (Use first width) (Use second width) (Use second width ∷ []) (in_here (Use second width) []))) named) (in_there test second (first ∷ second ∷ []) (in_there first second (second ∷ []) (in_here second []))) consts,
      )
  are_operands (Abs width arg strict) formed linear named consts =
      among (arg ∷ []) width arg formed.1 (named_in (Use arg width ∷ []) width arg (in_here (Use arg width) []) named) (in_here arg []) consts
  are_operands (Assume test) formed linear named consts = tt
