-- Operands by what they stand for.
use Rattle.std.proofs.Common.{◌≡◌, ◌∷◌, [], ℕ, List, length, get_or, drop, map, Option, Some, None, refl, sym, ◌∙◌, ap, arith}
use Rattle.std.specs.Option.{unwrap_or, option_map, option_and_then}
use Rattle.std.proofs.lemmas.Option.{none-some, same_Some}
use Rattle.ll_tree.specs.declared.block.Operand.{Operand}
use Rattle.ll_tree.specs.declared.block.Operand.TheVariants as operand
use Rattle.ll_tree.specs.declared.op.Op.{Op}
use Rattle.ll_tree.specs.declared.op.Op.TheVariants.{Bin, Cmp, Cast, Select, Abs, Assume}
use Rattle.ll_rules.specs.Items.{values_of}
use Rattle.ll_links.specs.declared.link.Source.{Source}
use Rattle.ll_links.specs.declared.link.Source.TheVariants as source
use Rattle.ll_links.specs.declared.link.ValueId.{ValueId}
use Rattle.ll_links.specs.Links.{number_of, value_source, source_of, op_operands}
use Rattle.ll_verifier.specs.Sound.{SoundFunc}
use Rattle.bit_rows.specs.declared.bitwise.BitOperand.{BitOperand}
use Rattle.ir_pieces.specs.Choice.{literal_of, operand_at, piece_of}
use Rattle.path_encoding.specs.declared.spots.PathSpots.{PathSpots}
use Rattle.path_encoding.specs.Spots.{source_vars}
use Rattle.value_pieces.specs.Pieces.{operand_of, operands_of}
use Rattle.value_pieces.specs.Sources.{source_literal, operand_from}

-- ---- what is written of an operand is what is written of its source

no_literal : (id : Option ValueId) (what : Source) → Some what ≡ value_source id → source_literal what ≡ None
no_literal None what is = absurd (none-some what (sym is))
no_literal (Some id) what is = ap source_literal (same_Some what (source.Value id) is)

same_literal : (values : List (List ℕ × ℕ)) (one : Operand) (what : Source) → Some what ≡ source_of values one → source_literal what ≡ literal_of one
same_literal values (operand.Name name) what is = no_literal (number_of values name) what is
same_literal values (operand.Const n) what is = ap source_literal (same_Some what (source.Const n) is)
same_literal values operand.Poison what is = ap source_literal (same_Some what source.Poison is)

module _ (it : SoundFunc) (spots : PathSpots) where
  same_operand : (one : Operand) (what : Source) → Some what ≡ source_of (values_of it.func) one → operand_from spots what ≡ operand_of it spots one
  same_operand one what is =
      let stands : what ≡ unwrap_or (source_of (values_of it.func) one) source.Poison = ap (λ (o : Option Source). unwrap_or o source.Poison) is in
      λ i. record { vars = source_vars spots (stands i); literal = same_literal (values_of it.func) one what is i }

  pub same_operands : (operands : List Operand) (sources : List Source) → map Some sources ≡ map (source_of (values_of it.func)) operands → map (operand_from spots) sources ≡ map (operand_of it spots) operands
  same_operands [] [] are = refl
  same_operands [] (what ∷ sources) are = absurd (omega (arith, ap length are))
  same_operands (one ∷ operands) [] are = absurd (omega (arith, ap length are))
  same_operands (one ∷ operands) (what ∷ sources) are =
      let first : Some what ≡ source_of (values_of it.func) one = ap (λ (list : List (Option Source)). get_or list 0 None) are in
      let rest : map Some sources ≡ map (source_of (values_of it.func)) operands = ap (λ (list : List (Option Source)). drop 1 list) are in
      λ i. same_operand one what first i ∷ same_operands operands sources rest i

-- only the first three operands count
pub by_three : (op : Op) (given : List BitOperand) → piece_of op (operand_at given 0 ∷ operand_at given 1 ∷ operand_at given 2 ∷ []) ≡ piece_of op given
by_three (Bin kind flags width left right) given = refl
by_three (Cmp pred flags width left right) given = refl
by_three (Cast kind flags from arg to) given = refl
by_three (Select width test first second) given = refl
by_three (Abs width arg strict) given = refl
by_three (Assume test) given = refl

-- what the operand for a label stands for, poison where there is none
pub coming_source : (values : List (List ℕ × ℕ)) (one : Option Operand) → unwrap_or (option_and_then (source_of values) one) source.Poison ≡ unwrap_or (source_of values (unwrap_or one operand.Poison)) source.Poison
coming_source values None = refl
coming_source values (Some one) = refl
