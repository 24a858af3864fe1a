use Rattle.std.proofs.Common.{◌≡◌, ◌∷◌, [], List, map, Some, ◌∙◌, ap, subst}
use Rattle.ll_rules.specs.Items.{Item, values_of}
use Rattle.ll_links.specs.Links.{source_of, op_operands, operands_of}
use Rattle.bit_rows.specs.declared.bitwise.BitOperand.{BitOperand}
use Rattle.ir_pieces.specs.Choice.{operand_at, piece_of}
use Rattle.value_pieces.specs.Sources.{operand_from}
use Rattle.value_pieces.proofs.SourceLaws.{same_operands, by_three}
use Rattle.value_pieces.proofs.operation.op_piece.Goals as goal

pub returns : goal.returns
returns c =
    let it = c.args.sound.now in
    let spots = c.args.spots.now in
    let op = c.args.instr.now.op in
    let sources = c.links.result.sources.now in
    let given : List BitOperand = map (operand_from spots) sources in
    let are : map Some sources ≡ map (source_of (values_of it.func)) (op_operands op) =
    subst (λ (what : Item). map Some sources ≡ map (source_of (values_of it.func)) (operands_of what)) c.requires.there c.links.ensures.links.sources in
    let three : piece_of op (c.operand_of-first.result ∷ c.operand_of-second.result ∷ c.operand_of-third.result ∷ []) ≡ piece_of op (operand_at given 0 ∷ operand_at given 1 ∷ operand_at given 2 ∷ []) =
    λ i. piece_of op (c.operand_of-first.ensures i ∷ c.operand_of-second.ensures i ∷ c.operand_of-third.ensures i ∷ []) in
    c.piece_of.ensures ∙ three ∙ by_three op given ∙ ap (piece_of op) (same_operands it spots (op_operands op) sources are)
