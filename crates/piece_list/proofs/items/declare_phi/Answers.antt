use Rattle.ll_rules.specs.Items.{OfPhi}
use Rattle.piece_list.proofs.ItemLaws.{item_low, item_is, linked, phi_at, phi_over, phi_there, phi_room}
use Rattle.piece_list.proofs.items.declare_phi.Goals as goal

pub phi_piece-requires : goal.phi_piece-requires
phi_piece-requires c =
    let it = c.args.sound.now in
    let what = OfPhi c.args.phi.now in
    record {
      constants = c.requires.constants;
      edges = c.requires.drafted.edges;
      within = item_low it c.args.at c.args.item what c.requires.here c.block_at-place.result.0 c.block_at-place.ensures.place c.block_at-place.ensures.within;
      there = item_is it c.args.at c.args.item what c.requires.here c.block_at-place.result.0 c.block_at-place.ensures.place c.block_at-place.ensures.within;
    }

pub links-id-requires : goal.links-id-requires
links-id-requires c =
    item_low c.args.sound.now c.args.at c.args.item (OfPhi c.args.phi.now) c.requires.here c.block_at-place.result.0 c.block_at-place.ensures.place c.block_at-place.ensures.within

pub keep-requires : goal.keep-requires
keep-requires c =
    let it = c.args.sound.now in
    let what = OfPhi c.args.phi.now in
    let id = linked it c.args.at c.args.item what c.requires.here c.block_at-place.result.0 c.block_at-place.ensures.place c.block_at-place.ensures.within c.links-id.result c.links-id.ensures.links in
    record {
      at = phi_at it c.links-id.ensures.sound c.args.at c.args.item c.args.into.now c.args.into.now c.requires.drafted c.args.phi.now c.requires.here c.in_ok-piece.piece c.in_ok-piece.ensures;
      room = phi_room it c.links-id.ensures.sound c.args.at c.args.item c.args.into.now c.args.into.now c.requires.drafted c.args.phi.now c.requires.here c.in_ok-piece.piece c.in_ok-piece.ensures;
      there = phi_there it c.links-id.ensures.sound c.args.at c.args.item c.args.into.now c.args.into.now c.requires.drafted c.args.phi.now c.requires.here c.in_ok-piece.piece c.in_ok-piece.ensures c.links-id.result.result id;
    }

pub returns : goal.returns
returns c =
    let it = c.args.sound.now in
    let what = OfPhi c.args.phi.now in
    let id = linked it c.args.at c.args.item what c.requires.here c.block_at-place.result.0 c.block_at-place.ensures.place c.block_at-place.ensures.within c.links-id.result c.links-id.ensures.links in
    phi_over it c.links-id.ensures.sound c.args.at c.args.item c.args.into.now c.keep.new.self c.requires.drafted c.args.phi.now c.requires.here c.in_ok-piece.piece c.in_ok-piece.ensures c.links-id.result.result id c.in_ok-keep.ensures
