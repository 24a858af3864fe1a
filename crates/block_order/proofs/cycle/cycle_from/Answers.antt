use Rattle.std.proofs.Common.{List, ℕ, nat_lt, length, reverse, subst}
use Rattle.std.specs.List.{IsFirstBest}
use Rattle.block_order.proofs.TurnLaws.{closed_from_cut, turned_cycle}
use Rattle.block_order.proofs.cycle.cycle_from.Goals as goal

pub returns : goal.returns
returns c =
    let cycle = c.in_ok-cycle.cycle.items in
    turned_cycle c.args.edges.now cycle c.rotate_left.new.self.items c.least_place-least.result
    (closed_from_cut c.args.edges.now c.in_ok-walk.at (reverse c.in_ok-walk.walk.items) cycle c.in_ok-walk.ensures.steps c.in_ok-cycle.ensures)
    (subst (λ (list : List ℕ). IsFirstBest nat_lt list (length list) c.least_place-least.result) c.deref.ensures.value c.least_place-least.ensures)
    c.rotate_left.ensures.items
