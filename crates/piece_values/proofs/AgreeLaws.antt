-- The operands of assumes and terminators are what their variables say.
use Rattle.std.proofs.Common.{◌≡◌, ◌<◌, ⊎_elim, ℕ, ℤ, List, [], ◌∷◌, length, map, Bool, true, false, Some, refl, sym, ◌∙◌, ap, subst}
use Rattle.std.specs.Prelude.{Contains}
use Rattle.std.proofs.lemmas.Bool.{true≢false}
use Rattle.std.proofs.lemmas.List.Elements.{All-contains}
use Rattle.ll_tree.specs.Formed.{FitsOperand, IsFormedBlock, IsFormedInstr, IsFormedOp, IsFormedEnd}
use Rattle.ll_tree.specs.declared.block.Block.{Block}
use Rattle.ll_tree.specs.declared.block.Case.{Case}
use Rattle.ll_tree.specs.declared.block.Instr.{Instr}
use Rattle.ll_tree.specs.declared.block.Operand.{Operand}
use Rattle.ll_tree.specs.declared.block.Operand.TheVariants as operand
use Rattle.ll_tree.specs.declared.block.End.{End}
use Rattle.ll_tree.specs.declared.block.End.TheVariants as end
use Rattle.ll_tree.specs.declared.op.Op.{Op}
use Rattle.ll_tree.specs.declared.op.Op.TheVariants.{Bin, Cmp, Cast, Select, Abs, Assume}
use Rattle.ll_rules.specs.Items.{Item, OfInstr, OfEnd, items_of, Part, Use, Goal, parts_of, op_parts, end_parts}
use Rattle.ll_flow.proofs.PlaceLaws.{no_item, cons_cases}
use Rattle.ll_links.specs.Links.{end_operands}
use Rattle.ll_verifier.specs.Sound.{SoundFunc, IsSound}
use Rattle.ir_runs.specs.Values.{Vals}
use Rattle.ir_runs.proofs.MemberLaws.{in_here, map_in}
use Rattle.ir_runs.proofs.BlockLaws.{instr_among, end_among}
use Rattle.ir_constants.specs.Counted.{counted}
use Rattle.path_values.specs.Way.{told}
use Rattle.ir_pieces.specs.Choice.{literal_of, IsOperand}
use Rattle.path_encoding.specs.declared.spots.PathSpots.{PathSpots}
use Rattle.path_encoding.specs.Spots.{operand_vars, block_at}
use Rattle.path_encoding.specs.Agree.{Agrees, AllAgree, assume_parts, AgreesOn}
use Rattle.point_runs.specs.Told.{told_at}
use Rattle.point_runs.proofs.BlocksLaws.{block_there}
use Rattle.value_pieces.specs.Pieces.{operand_of}
use Rattle.piece_values.specs.Known.{IsConst, AreKnown}
use Rattle.piece_values.proofs.NameLaws.{name_given}
use Rattle.piece_values.proofs.OperandLaws.{is_operand, operand_said, read_of}

-- ---- the one operand among some parts

abbrev is_use : Part → Bool
is_use (Use asked width) = true
is_use (Goal label) = false

abbrev used_operand : Part → Operand
used_operand (Use asked width) = asked
used_operand (Goal label) = operand.Poison

abbrev used_width : Part → ℕ
used_width (Use asked width) = width
used_width (Goal label) = 0

abbrev AreGoals : List Part → Type 0
AreGoals parts = (part : Part) → Contains parts part → is_use part ≡ false

none_used : (parts : List Part) → AreGoals parts → (asked : Operand) (width : ℕ) → Contains parts (Use asked width) → ⊥
none_used parts goals asked width used = true≢false (goals (Use asked width) used)

only_used : (value : Operand) (own : ℕ) (parts : List Part) → AreGoals parts → (asked : Operand) (width : ℕ) → Contains (Use value own ∷ parts) (Use asked width) → (value ≡ asked) × (own ≡ width)
only_used value own parts goals asked width used =
    ⊎_elim (λ same. (ap used_operand same, ap used_width same)) (λ later. absurd (none_used parts goals asked width later)) (cons_cases (Use value own) parts (Use asked width) used)

goals_of : (labels : List (List ℕ)) → AreGoals (map Goal labels)
goals_of labels part there = let found = map_in Goal labels part there in ap is_use (sym found.2)

goals_cons : (label : List ℕ) (parts : List Part) → AreGoals parts → AreGoals (Goal label ∷ parts)
goals_cons label parts goals part there = ⊎_elim (λ same. ap is_use (sym same)) (λ later. goals part later) (cons_cases (Goal label) parts part there)

no_goals : AreGoals []
no_goals part there = absurd (no_item part there)

case_goals : (cases : List Case) → AreGoals (map (λ case. Goal case.to) cases)
case_goals cases part there = let found = map_in (λ (case : Case). Goal case.to) cases part there in ap is_use (sym found.2)

-- the operand that a terminator uses fits the width that is written, and is the one that is counted
abbrev IsEndOperand : End → Operand → ℕ → Type 0
IsEndOperand terminator asked width = FitsOperand width asked × Contains (end_operands terminator) asked

moved : (terminator : End) (value asked : Operand) (own width : ℕ) → (value ≡ asked) × (own ≡ width) → IsEndOperand terminator value own → IsEndOperand terminator asked width
moved terminator value asked own width same is = subst (λ (w : ℕ). IsEndOperand terminator asked w) same.1 (subst (λ (o : Operand). IsEndOperand terminator o own) same.0 is)

end_operand : (terminator : End) → IsFormedEnd terminator → (asked : Operand) (width : ℕ) → Contains (end_parts terminator) (Use asked width) → IsEndOperand terminator asked width
end_operand end.RetVoid formed asked width used = absurd (no_item (Use asked width) used)
end_operand (end.Ret own value) formed asked width used =
    moved (end.Ret own value) value asked own width (only_used value own [] no_goals asked width used) (formed.1, in_here value [])
end_operand (end.Br to) formed asked width used = absurd (none_used (Goal to ∷ []) (goals_of (to ∷ [])) asked width used)
end_operand (end.CondBr test when_set when_clear) formed asked width used =
    moved (end.CondBr test when_set when_clear) test asked 1 width (only_used test 1 (Goal when_set ∷ Goal when_clear ∷ []) (goals_of (when_set ∷ when_clear ∷ [])) asked width used) (formed, in_here test [])
end_operand (end.Switch own value default cases) formed asked width used =
    moved (end.Switch own value default cases) value asked own width
    (only_used value own (Goal default ∷ map (λ case. Goal case.to) cases) (goals_cons default (map (λ case. Goal case.to) cases) (case_goals cases)) asked width used) (formed.1, in_here value [])
end_operand end.Unreachable formed asked width used = absurd (no_item (Use asked width) used)

module _ (it : SoundFunc) (sound : IsSound it) (spots : PathSpots) (point : List ℤ) (known : AreKnown it spots point) where
  abbrev said : Vals
  said = told (told_at it spots point)

  agrees : (width : ℕ) (asked : Operand) → IsOperand width (operand_of it spots asked) point → Agrees it spots point said width asked
  agrees width asked is = record {
    value = operand_said it spots point known.numbers asked ∙ ap Some (sym (read_of point (literal_of asked) (operand_vars it spots asked) is.literal));
    fits = is.value;
  }

  module _ (block : Block) (there : Contains it.func.blocks block) where
    formed : IsFormedBlock block
    formed = All-contains IsFormedBlock it.func.blocks block sound.rules.formed.blocks there

    operand_is : (item : Item) → Contains (items_of block) item → (asked : Operand) (width : ℕ) → Contains (parts_of item) (Use asked width) → FitsOperand width asked → ((n : ℕ) → asked ≡ operand.Const n → IsConst it spots point n) → Agrees it spots point said width asked
    operand_is item inside asked width used fits consts =
        agrees width asked (is_operand it spots point known.numbers width asked fits
        (λ name is. known.values name width (name_given it.func sound.rules block there item inside name width (subst (λ (o : Operand). Contains (parts_of item) (Use o width)) is used)))
        consts)

    ends_agree : AllAgree it spots point said (end_parts block.end)
    ends_agree asked width used =
        let is = end_operand block.end formed.ends asked width used in
        operand_is (OfEnd block.end) (end_among block) asked width used is.0 (λ n same. known.constants.ends block there n (subst (Contains (end_operands block.end)) same is.1))

    module _ (instr : Instr) (inside : Contains block.body instr) where
      instr_formed : IsFormedInstr instr
      instr_formed = All-contains IsFormedInstr block.body instr formed.body inside

      of_op : (op : Op) → instr.op ≡ op → AllAgree it spots point said (assume_parts op)
      of_op (Bin kind flags width left right) same asked w used = absurd (no_item (Use asked w) used)
      of_op (Cmp pred flags width left right) same asked w used = absurd (no_item (Use asked w) used)
      of_op (Cast kind flags from arg to) same asked w used = absurd (no_item (Use asked w) used)
      of_op (Select width test first second) same asked w used = absurd (no_item (Use asked w) used)
      of_op (Abs width arg strict) same asked w used = absurd (no_item (Use asked w) used)
      of_op (Assume test) same asked w used =
          let is = only_used test 1 [] no_goals asked w used in
          let fits : FitsOperand 1 test = subst IsFormedOp same instr_formed.1 in
          operand_is (OfInstr instr) (instr_among block instr inside) asked w (subst (λ (o : Op). Contains (op_parts o) (Use asked w)) (sym same) used)
          (subst (λ (n : ℕ). FitsOperand n asked) is.1 (subst (FitsOperand 1) is.0 fits))
          (λ n const. known.constants.operations block there instr inside n (subst (λ (o : Op). Contains (counted o) (operand.Const n)) (sym same) (subst (Contains (test ∷ [])) (is.0 ∙ const) (in_here test []))))

      pub assume_agrees : AllAgree it spots point said (assume_parts instr.op)
      assume_agrees = of_op instr.op refl

  pub all_agree : (path : List ℕ) → ((at : ℕ) → Contains path at → at < length it.flow.order) → AgreesOn it spots point said path
  all_agree path low at there_at =
      let there = block_there it sound at (low at there_at) in
      record {
        assumes = λ instr inside. assume_agrees (block_at it at) there instr inside;
        ends = ends_agree (block_at it at) there;
      }
