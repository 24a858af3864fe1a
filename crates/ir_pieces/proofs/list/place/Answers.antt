use Rattle.ir_pieces.specs.declared.list.Placed.{Placed}
use Rattle.ir_pieces.proofs.TurnLaws.{placed_now}
use Rattle.ir_pieces.proofs.list.place.Goals as goal

pub returns-clause-placed : goal.returns-clause-placed
returns-clause-placed c =
    let it : Placed = record { first = c.in_ok-first.first; piece = c.args.piece } in
    λ are.
    placed_now c.args.list.now.items c.push.new.self.items it c.args.into.now c.declare.new.into are c.requires.at c.in_ok-first.ensures.number c.in_ok-push.ensures.items c.in_ok-first.ensures.ok
