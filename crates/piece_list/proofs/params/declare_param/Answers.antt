use Rattle.std.proofs.Common.{◌∙◌, sym}
use Rattle.mix_system.specs.System.{System}
use Rattle.piece_list.proofs.RangeLaws.{added_none, piece_at, piece_room, added_some}
use Rattle.piece_list.proofs.params.declare_param.Goals as goal

pub place-requires-clause-at : goal.place-requires-clause-at
place-requires-clause-at c =
    let param = c.args.param.now in
    let old : System = c.args.system.now in
    let some = sym c.range_piece.ensures ∙ c.in-Some.is in
    piece_at param c.requires.formed old c.add_number.new.system c.in_ok-number.number c.in_ok-number.ensures.number c.in_ok-number.ensures.system c.in-Some.piece some

pub place-requires-clause-room : goal.place-requires-clause-room
place-requires-clause-room c =
    let param = c.args.param.now in
    let old : System = c.args.system.now in
    let some = sym c.range_piece.ensures ∙ c.in-Some.is in
    piece_room param c.requires.formed old c.add_number.new.system c.in_ok-number.number c.in_ok-number.ensures.number c.in_ok-number.ensures.system c.in-Some.piece some c.requires.room

pub returns-in_default : goal.returns-in_default
returns-in_default c =
    let param = c.args.param.now in
    let old : System = c.args.system.now in
    let none = sym c.range_piece.ensures ∙ c.in_default.is in
    let added = added_none param c.requires.formed old c.add_number.new.system c.in_ok-number.number c.in_ok-number.ensures.number c.in_ok-number.ensures.system c.args.placed.now.items none in
    record { vars = added.vars_are; system = added.grown; placed = added.placed; stand = added.stand; compact = added.compact }

pub returns : goal.returns
returns c =
    let param = c.args.param.now in
    let old : System = c.args.system.now in
    let some = sym c.range_piece.ensures ∙ c.in-Some.is in
    let added = added_some param c.requires.formed old c.add_number.new.system c.in_ok-number.number c.in_ok-number.ensures.number c.in_ok-number.ensures.system c.in-Some.piece some
    c.place.new.into c.args.placed.now.items c.place.new.list.items c.in_ok-vars.vars c.in_ok-vars.ensures.vars c.in_ok-vars.ensures.ok c.in_ok-vars.ensures.list c.in_ok-vars.ensures.placed c.in_ok-vars.ensures.compact in
    record { vars = added.vars_are; system = added.grown; placed = added.placed; stand = added.stand; compact = added.compact }
