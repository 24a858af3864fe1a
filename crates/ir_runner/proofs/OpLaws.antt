-- An operation on slots computes what the operation on names does.
use Rattle.std.proofs.Common.{◌≡◌, ◌≢◌, ◌⊎◌, inl, inr, not, ℕ, List, [], ◌∷◌, map, true, eqb, Some, None, option_map, refl, ap}
use Rattle.std.specs.Prelude.{Contains}
use Rattle.std.proofs.lemmas.Bool.{false≢true, eqb-false, and_parts, not-true}
use Rattle.ll_tree.specs.declared.func.Func.{Func}
use Rattle.ll_tree.specs.declared.block.Operand.{Operand}
use Rattle.ll_tree.specs.declared.block.Operand.TheVariants as operand
use Rattle.ll_tree.specs.declared.op.Op.{Op}
use Rattle.ll_tree.specs.declared.op.Op.TheVariants as op
use Rattle.ll_tree.specs.declared.op.BinKind.{BinKind}
use Rattle.ll_tree.specs.declared.op.BinKind.TheVariants as kind
use Rattle.ll_tree.specs.declared.op.Flags.{Flags}
use Rattle.ll_tree.specs.Formed.{FitsOperand, IsFormedOp}
use Rattle.ll_tree.specs.Formed as formed
use Rattle.ll_rules.specs.Items.{Part, Use, op_parts, result_width}
use Rattle.ll_rules.specs.Arithmetic.{is_constant, are_linear, is_linear, is_divisor, has_divisor}
use Rattle.ll_links.specs.declared.link.Source.{Source}
use Rattle.ll_links.specs.Links.{op_operands}
use Rattle.ir_meaning.specs.declared.value.Val.{Val}
use Rattle.ir_meaning.specs.declared.value.Val.TheVariants.{Num}
use Rattle.ir_meaning.specs.Value.{FitsWidth, on_number, select_of}
use Rattle.ir_meaning.specs.Rows.{bin_of, cast_of, abs_of, divides}
use Rattle.ir_meaning.specs.Compare.{cmp_of}
use Rattle.ir_runs.specs.Values.{Vals, of_two, of_three, op_value}
use Rattle.ir_runs.specs.Walk.{is_one, is_assumed}
use Rattle.ir_runs.proofs.MemberLaws.{in_here, in_there}
use Rattle.ir_runner.specs.declared.code.Pair.{Pair}
use Rattle.ir_runner.specs.declared.code.Step.{Step}
use Rattle.ir_runner.specs.declared.code.Step.TheVariants.{Give, Assume}
use Rattle.ir_runner.specs.declared.code.StepOp.{StepOp}
use Rattle.ir_runner.specs.declared.code.StepOp.TheVariants as code
use Rattle.ir_runner.specs.Code.{source_code, step_with}
use Rattle.ir_runner.specs.Slots.{slot_value, IsThere, IsFit, AreFit, op_result, CanCompute, holds}
use Rattle.ir_runner.proofs.SlotLaws.{Reads}

module _ (func : Func) (vals : Vals) (slots : List Val) where
  -- an operand has the value that the map gives it, of so many bits
  pub record ReadsFit (value : Operand) (width : ℕ) : Type 0 where
    pub reads : Reads func vals slots value
    pub fits : FitsWidth width (slot_value slots (source_code func value))

  abbrev pub AllRead : List Part → Type 0
  AllRead parts = (value : Operand) (width : ℕ) → Contains parts (Use value width) → FitsOperand width value → ReadsFit value width

  fit : (value : Operand) (width : ℕ) → ReadsFit value width → IsFit slots width (source_code func value)
  fit value width it = record { there = it.reads.there; fits = it.fits }

  abbrev pair : Flags → ℕ → Operand → Operand → Pair
  pair flags width left right = record { flags = flags; width = width; left = source_code func left; right = source_code func right }

  both : (flags : Flags) (width : ℕ) (left right : Operand) → formed.IsWidth width → ReadsFit left width → ReadsFit right width → AreFit slots (pair flags width left right)
  both flags width left right wide a b = record { width = record { least = wide.0; greatest = wide.1 }; left = fit left width a; right = fit right width b }

  -- ---- divisors

  number_same : (n : ℕ) → Num n ≡ Num 0 → n ≡ 0
  number_same n same = cc

  apart : (n : ℕ) → not (eqb n 0) ≡ true → Num n ≢ Num 0
  apart n test same = eqb-false n 0 (not-true (eqb n 0) test) (number_same n same)

  unsigned_apart : (right : Operand) → is_constant right ≡ true → is_divisor kind.Udiv 1 right ≡ true → slot_value slots (source_code func right) ≢ Num 0
  unsigned_apart (operand.Name name) constant divisor same = false≢true constant
  unsigned_apart (operand.Const n) constant divisor same = apart n divisor same
  unsigned_apart operand.Poison constant divisor same = false≢true divisor

  signed_apart : (width : ℕ) (right : Operand) → is_constant right ≡ true → is_divisor kind.Sdiv width right ≡ true → slot_value slots (source_code func right) ≢ Num 0
  signed_apart width (operand.Name name) constant divisor same = false≢true constant
  signed_apart width (operand.Const n) constant divisor same = apart n (and_parts (not (eqb n 0)) _ divisor).0 same
  signed_apart width operand.Poison constant divisor same = false≢true divisor

  divisor_apart : (of : BinKind) (width : ℕ) (left right : Operand) → are_linear of (is_constant left) (is_constant right) ≡ true → is_divisor of width right ≡ true → divides of ≡ true → slot_value slots (source_code func right) ≢ Num 0
  divisor_apart kind.Add width left right linear divisor test = absurd (false≢true test)
  divisor_apart kind.Sub width left right linear divisor test = absurd (false≢true test)
  divisor_apart kind.Mul width left right linear divisor test = absurd (false≢true test)
  divisor_apart kind.Shl width left right linear divisor test = absurd (false≢true test)
  divisor_apart kind.Lshr width left right linear divisor test = absurd (false≢true test)
  divisor_apart kind.Ashr width left right linear divisor test = absurd (false≢true test)
  divisor_apart kind.And width left right linear divisor test = absurd (false≢true test)
  divisor_apart kind.Or width left right linear divisor test = absurd (false≢true test)
  divisor_apart kind.Xor width left right linear divisor test = absurd (false≢true test)
  divisor_apart kind.Udiv width left right linear divisor test = unsigned_apart right linear divisor
  divisor_apart kind.Sdiv width left right linear divisor test = signed_apart width right linear divisor
  divisor_apart kind.Urem width left right linear divisor test = unsigned_apart right linear divisor
  divisor_apart kind.Srem width left right linear divisor test = signed_apart width right linear divisor
  divisor_apart kind.Smin width left right linear divisor test = absurd (false≢true test)
  divisor_apart kind.Smax width left right linear divisor test = absurd (false≢true test)
  divisor_apart kind.Umin width left right linear divisor test = absurd (false≢true test)
  divisor_apart kind.Umax width left right linear divisor test = absurd (false≢true test)

  -- ---- one step

  -- It gives a result.
  pub record Gives (what : Op) (to : ℕ) (now : Step) : Type 0 where
    pub op : StepOp
    pub is : now ≡ Give op to
    pub can : CanCompute slots op
    pub value : op_value vals what ≡ Some (op_result slots op)
    pub width : ℕ
    pub wide : result_width what ≡ Some width
    pub assumed : is_assumed vals what ≡ true

  -- It is an assume.
  pub record Assumes (what : Op) (now : Step) : Type 0 where
    pub cond : Source
    pub is : now ≡ Assume cond
    pub there : IsThere slots cond
    pub assumed : is_assumed vals what ≡ holds slots cond
    pub none : result_width what ≡ None

  abbrev with_sources : Op → ℕ → Step
  with_sources what to = step_with what (map (source_code func) (op_operands what)) to

  pub op_runs : (what : Op) → IsFormedOp what → is_linear what ≡ true → has_divisor what ≡ true → AllRead (op_parts what) → (to : ℕ) → Gives what to (with_sources what to) ⊎ Assumes what (with_sources what to)
  op_runs (op.Bin of flags width left right) formed linear divisor all to =
      let a = all left width (in_here (Use left width) (Use right width ∷ [])) formed.1 in
      let b = all right width (in_there (Use left width) (Use right width) (Use right width ∷ []) (in_here (Use right width) [])) formed.2 in
      inl (record {
        op = code.Bin of (pair flags width left right);
        is = refl;
        can = (both flags width left right formed.0 a b, divisor_apart of width left right linear divisor);
        value = λ i. of_two (bin_of of flags width) (a.reads.is i) (b.reads.is i);
        width = width;
        wide = refl;
        assumed = refl;
      })
  op_runs (op.Cmp pred flags width left right) formed linear divisor all to =
      let a = all left width (in_here (Use left width) (Use right width ∷ [])) formed.1 in
      let b = all right width (in_there (Use left width) (Use right width) (Use right width ∷ []) (in_here (Use right width) [])) formed.2 in
      inl (record {
        op = code.Cmp pred (pair flags width left right);
        is = refl;
        can = both flags width left right formed.0 a b;
        value = λ i. of_two (cmp_of pred flags width) (a.reads.is i) (b.reads.is i);
        width = 1;
        wide = refl;
        assumed = refl;
      })
  op_runs (op.Cast of flags from arg width) formed linear divisor all to =
      let a = all arg from (in_here (Use arg from) []) formed.2 in
      inl (record {
        op = code.Cast of flags from (source_code func arg) width;
        is = refl;
        can = (record { least = formed.0.0; greatest = formed.0.1 }, record { least = formed.1.0; greatest = formed.1.1 }, fit arg from a);
        value = ap (option_map (cast_of of flags from width)) a.reads.is;
        width = width;
        wide = refl;
        assumed = refl;
      })
  op_runs (op.Select width cond first second) formed linear divisor all to =
      let c = all cond 1 (in_here (Use cond 1) (Use first width ∷ Use second width ∷ [])) formed.1 in
      let a = all first width (in_there (Use cond 1) (Use first width) (Use first width ∷ Use second width ∷ []) (in_here (Use first width) (Use second width ∷ []))) formed.2 in
      let b = all second width (in_there (Use cond 1) (Use second width) (Use first width ∷ Use second width ∷ []) (in_there (Use first width) (Use second width) (Use second width ∷ []) (in_here (Use second width) []))) formed.3 in
      inl (record {
        op = code.Select (source_code func cond) (source_code func first) (source_code func second);
        is = refl;
        can = (fit cond 1 c, a.reads.there, b.reads.there);
        value = λ i. of_three select_of (c.reads.is i) (a.reads.is i) (b.reads.is i);
        width = width;
        wide = refl;
        assumed = refl;
      })
  op_runs (op.Abs width arg strict) formed linear divisor all to =
      let a = all arg width (in_here (Use arg width) []) formed.1 in
      inl (record {
        op = code.Abs width (source_code func arg) strict;
        is = refl;
        can = (record { least = formed.0.0; greatest = formed.0.1 }, fit arg width a);
        value = ap (option_map (on_number (abs_of strict width))) a.reads.is;
        width = width;
        wide = refl;
        assumed = refl;
      })
  op_runs (op.Assume cond) formed linear divisor all to =
      let c = all cond 1 (in_here (Use cond 1) []) formed in
      inr (record {
        cond = source_code func cond;
        is = refl;
        there = c.reads.there;
        assumed = ap is_one c.reads.is;
        none = refl;
      })
