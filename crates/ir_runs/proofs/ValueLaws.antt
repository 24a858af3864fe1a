-- What items compute where their operands have values, and that it stays while values are added.
use Rattle.std.proofs.Common.{◌≡◌, ℕ, List, [], ◌∷◌, Option, Some, None, option_map, option_and_then, refl, sym, ◌∙◌, ap}
use Rattle.std.specs.Prelude.{Contains}
use Rattle.std.proofs.lemmas.Option.{none-some, same_Some}
use Rattle.ll_tree.specs.declared.block.Operand.{Operand}
use Rattle.ll_tree.specs.declared.block.Operand.TheVariants as operand
use Rattle.ll_tree.specs.declared.op.Op.{Op}
use Rattle.ll_tree.specs.declared.op.Op.TheVariants.{Bin, Cmp, Cast, Select, Abs, Assume}
use Rattle.ll_rules.specs.Items.{Item, OfPhi, OfInstr, OfEnd, Part, Use, op_parts, result_width}
use Rattle.ir_meaning.specs.declared.value.Val.{Val}
use Rattle.ir_meaning.specs.Value.{on_number, select_of}
use Rattle.ir_meaning.specs.Rows.{bin_of, cast_of, abs_of}
use Rattle.ir_meaning.specs.Compare.{cmp_of}
use Rattle.ir_runs.specs.Values.{Vals, operand_value, of_two, of_three, op_value, operand_for}
use Rattle.ir_runs.specs.Walk.{item_value}
use Rattle.ir_runs.proofs.MemberLaws.{in_here, in_there}

-- ---- functions of one, two and three values

one_is : (f : Val → Val) (a : Option Val) (x : Val) → a ≡ Some x → option_map f a ≡ Some (f x)
one_is f a x is = ap (option_map f) is

two_is : (f : Val → Val → Val) (a b : Option Val) (x y : Val) → a ≡ Some x → b ≡ Some y → of_two f a b ≡ Some (f x y)
two_is f a b x y is_a is_b = λ i. of_two f (is_a i) (is_b i)

three_is : (f : Val → Val → Val → Val) (a b c : Option Val) (x y z : Val) → a ≡ Some x → b ≡ Some y → c ≡ Some z → of_three f a b c ≡ Some (f x y z)
three_is f a b c x y z is_a is_b is_c = λ i. of_three f (is_a i) (is_b i) (is_c i)

pub one_some : {A : Type 0} (f : Val → A) (a : Option Val) (v : A) → option_map f a ≡ Some v → (x : Val) × (a ≡ Some x) × (f x ≡ v)
one_some f None v e = absurd (none-some v e)
one_some f (Some x) v e = (x, refl, same_Some (f x) v e)

pub two_some : (f : Val → Val → Val) (a b : Option Val) (v : Val) → of_two f a b ≡ Some v → (x : Val) × (y : Val) × (a ≡ Some x) × (b ≡ Some y) × (f x y ≡ v)
two_some f None b v e = absurd (none-some v e)
two_some f (Some x) None v e = absurd (none-some v e)
two_some f (Some x) (Some y) v e = (x, y, refl, refl, same_Some (f x y) v e)

pub three_some : (f : Val → Val → Val → Val) (a b c : Option Val) (v : Val) → of_three f a b c ≡ Some v → (x : Val) × (y : Val) × (z : Val) × (a ≡ Some x) × (b ≡ Some y) × (c ≡ Some z) × (f x y z ≡ v)
three_some f None b c v e = absurd (none-some v e)
three_some f (Some x) b c v e =
    let rest = two_some (f x) b c v e in
    (x, rest.0, rest.1, refl, rest.2, rest.3, rest.4)

-- ---- operands

-- an operand has a value
abbrev pub IsThere : Vals → Operand → Type 0
IsThere vals value = (val : Val) × (operand_value vals value ≡ Some val)

abbrev pub AllThere : Vals → List Part → Type 0
AllThere vals parts = (value : Operand) (width : ℕ) → Contains parts (Use value width) → IsThere vals value

pub op_has : (vals : Vals) (op : Op) → AllThere vals (op_parts op) → (width : ℕ) → result_width op ≡ Some width → (val : Val) × (op_value vals op ≡ Some val)
op_has vals (Bin kind flags width left right) all w has =
    let a = all left width (in_here (Use left width) (Use right width ∷ [])) in
    let b = all right width (in_there (Use left width) (Use right width) (Use right width ∷ []) (in_here (Use right width) [])) in
    (bin_of kind flags width a.0 b.0, two_is (bin_of kind flags width) (operand_value vals left) (operand_value vals right) a.0 b.0 a.1 b.1)
op_has vals (Cmp pred flags width left right) all w has =
    let a = all left width (in_here (Use left width) (Use right width ∷ [])) in
    let b = all right width (in_there (Use left width) (Use right width) (Use right width ∷ []) (in_here (Use right width) [])) in
    (cmp_of pred flags width a.0 b.0, two_is (cmp_of pred flags width) (operand_value vals left) (operand_value vals right) a.0 b.0 a.1 b.1)
op_has vals (Cast kind flags from arg to) all w has =
    let a = all arg from (in_here (Use arg from) []) in
    (cast_of kind flags from to a.0, one_is (cast_of kind flags from to) (operand_value vals arg) a.0 a.1)
op_has vals (Select width cond first second) all w has =
    let c = all cond 1 (in_here (Use cond 1) (Use first width ∷ Use second width ∷ [])) in
    let a = all first width (in_there (Use cond 1) (Use first width) (Use first width ∷ Use second width ∷ []) (in_here (Use first width) (Use second width ∷ []))) in
    let b = all second width (in_there (Use cond 1) (Use second width) (Use first width ∷ Use second width ∷ []) (in_there (Use first width) (Use second width) (Use second width ∷ []) (in_here (Use second width) []))) in
    (select_of c.0 a.0 b.0, three_is select_of (operand_value vals cond) (operand_value vals first) (operand_value vals second) c.0 a.0 b.0 c.1 a.1 b.1)
op_has vals (Abs width arg strict) all w has =
    let a = all arg width (in_here (Use arg width) []) in
    (on_number (abs_of strict width) a.0, one_is (on_number (abs_of strict width)) (operand_value vals arg) a.0 a.1)
op_has vals (Assume cond) all w has = absurd (none-some w has)

-- ---- values that are added

-- each value of the first map is one of the second
abbrev pub Grows : Vals → Vals → Type 0
Grows vals more = (name : List ℕ) (val : Val) → vals name ≡ Some val → more name ≡ Some val

module _ (vals more : Vals) (grows : Grows vals more) where
  pub operand_grows : (value : Operand) (val : Val) → operand_value vals value ≡ Some val → operand_value more value ≡ Some val
  operand_grows (operand.Name name) val is = grows name val is
  operand_grows (operand.Const n) val is = is
  operand_grows operand.Poison val is = is

  pub operand_same : (value : Operand) → IsThere vals value → operand_value more value ≡ operand_value vals value
  operand_same value (val, is) = operand_grows value val is ∙ sym is

  pub there_grows : (value : Operand) → IsThere vals value → IsThere more value
  there_grows value (val, is) = (val, operand_grows value val is)

  op_grows : (op : Op) (val : Val) → op_value vals op ≡ Some val → op_value more op ≡ Some val
  op_grows (Bin kind flags width left right) val is =
      let (x, y, is_x, is_y, same) = two_some (bin_of kind flags width) (operand_value vals left) (operand_value vals right) val is in
      two_is (bin_of kind flags width) (operand_value more left) (operand_value more right) x y (operand_grows left x is_x) (operand_grows right y is_y) ∙ ap Some same
  op_grows (Cmp pred flags width left right) val is =
      let (x, y, is_x, is_y, same) = two_some (cmp_of pred flags width) (operand_value vals left) (operand_value vals right) val is in
      two_is (cmp_of pred flags width) (operand_value more left) (operand_value more right) x y (operand_grows left x is_x) (operand_grows right y is_y) ∙ ap Some same
  op_grows (Cast kind flags from arg to) val is =
      let (x, is_x, same) = one_some (cast_of kind flags from to) (operand_value vals arg) val is in
      one_is (cast_of kind flags from to) (operand_value more arg) x (operand_grows arg x is_x) ∙ ap Some same
  op_grows (Select width cond first second) val is =
      let (x, y, z, is_x, is_y, is_z, same) = three_some select_of (operand_value vals cond) (operand_value vals first) (operand_value vals second) val is in
      three_is select_of (operand_value more cond) (operand_value more first) (operand_value more second) x y z (operand_grows cond x is_x) (operand_grows first y is_y) (operand_grows second z is_z) ∙ ap Some same
  op_grows (Abs width arg strict) val is =
      let (x, is_x, same) = one_some (on_number (abs_of strict width)) (operand_value vals arg) val is in
      one_is (on_number (abs_of strict width)) (operand_value more arg) x (operand_grows arg x is_x) ∙ ap Some same
  op_grows (Assume cond) val is = absurd (none-some val is)

  chosen_grows : (value : Option Operand) (val : Val) → option_and_then (operand_value vals) value ≡ Some val → option_and_then (operand_value more) value ≡ Some val
  chosen_grows None val is = absurd (none-some val is)
  chosen_grows (Some value) val is = operand_grows value val is

  pub item_grows : (before : Option (List ℕ)) (item : Item) (val : Val) → item_value vals before item ≡ Some val → item_value more before item ≡ Some val
  item_grows before (OfPhi phi) val is = chosen_grows (option_and_then (λ label. operand_for label phi) before) val is
  item_grows before (OfInstr instr) val is = op_grows instr.op val is
  item_grows before (OfEnd end) val is = absurd (none-some val is)
