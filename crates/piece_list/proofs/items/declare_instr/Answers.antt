use Rattle.std.proofs.Common.{◌∙◌, sym}
use Rattle.ll_rules.specs.Items.{OfInstr}
use Rattle.piece_list.proofs.ItemLaws.{item_low, item_is, linked, instr_skipped, op_at, instr_over, instr_there, instr_room}
use Rattle.piece_list.proofs.items.declare_instr.Goals as goal

pub op_piece-requires : goal.op_piece-requires
op_piece-requires c =
    let it = c.args.sound.now in
    let what = OfInstr c.args.instr.now in
    record {
      constants = c.requires.constants;
      within = item_low it c.args.at c.args.item what c.requires.here c.block_at-place.result.0 c.block_at-place.ensures.place c.block_at-place.ensures.within;
      there = item_is it c.args.at c.args.item what c.requires.here c.block_at-place.result.0 c.block_at-place.ensures.place c.block_at-place.ensures.within;
    }

pub returns-in_default : goal.returns-in_default
returns-in_default c =
    instr_skipped c.args.sound.now c.block_at-place.ensures.sound c.args.at c.args.item c.args.into.now c.args.into.now c.requires.drafted c.args.instr.now c.requires.here (sym c.op_piece.ensures ∙ c.in_default.is)

pub links-id-requires : goal.links-id-requires
links-id-requires c =
    item_low c.args.sound.now c.args.at c.args.item (OfInstr c.args.instr.now) c.requires.here c.block_at-place.result.0 c.block_at-place.ensures.place c.block_at-place.ensures.within

pub keep-requires : goal.keep-requires
keep-requires c =
    let it = c.args.sound.now in
    let what = OfInstr c.args.instr.now in
    let is = sym c.op_piece.ensures ∙ c.in-Some.is in
    let id = linked it c.args.at c.args.item what c.requires.here c.block_at-place.result.0 c.block_at-place.ensures.place c.block_at-place.ensures.within c.links-id.result c.links-id.ensures.links in
    record {
      at = op_at it c.links-id.ensures.sound c.args.at c.args.item c.args.into.now c.args.into.now c.requires.drafted c.args.instr.now c.requires.here c.in-Some.piece is;
      room = instr_room it c.links-id.ensures.sound c.args.at c.args.item c.args.into.now c.args.into.now c.requires.drafted c.args.instr.now c.requires.here c.in-Some.piece is;
      there = instr_there it c.links-id.ensures.sound c.args.at c.args.item c.args.into.now c.args.into.now c.requires.drafted c.args.instr.now c.requires.here c.in-Some.piece is c.links-id.result.result id;
    }

pub returns : goal.returns
returns c =
    let it = c.args.sound.now in
    let what = OfInstr c.args.instr.now in
    let is = sym c.op_piece.ensures ∙ c.in-Some.is in
    let id = linked it c.args.at c.args.item what c.requires.here c.block_at-place.result.0 c.block_at-place.ensures.place c.block_at-place.ensures.within c.links-id.result c.links-id.ensures.links in
    instr_over it c.links-id.ensures.sound c.args.at c.args.item c.args.into.now c.keep.new.self c.requires.drafted c.args.instr.now c.requires.here c.in-Some.piece is c.links-id.result.result id c.in_ok-keep.ensures
