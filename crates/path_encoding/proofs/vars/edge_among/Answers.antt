use Rattle.std.proofs.Common.{◌≡◌, ◌<◌, ◌∙◌, false, get_or, length, arith, rules}
use Rattle.ll_verifier.specs.declared.order.PositionEdge.{PositionEdge}
use Rattle.path_encoding.specs.Spots.{goes_to}
use Rattle.path_encoding.proofs.PairLaws.{among_skipped}
use Rattle.path_encoding.proofs.vars.edge_among.Goals as goal

pub loop-item-preserved : goal.loop-item-preserved
loop-item-preserved c =
    let order = c.args.order.now in
    let edges = c.args.edges.now in
    let vars = c.args.vars.now in
    let i = c.loop-item.item in
    let none : PositionEdge = record { from = record { 0 = 0 }; to = record { 0 = 0 } } in
    let fails : goes_to order c.args.at c.args.to.0 (get_or edges i none) ≡ false = search rules in
    let low : i < length edges = c.loop-item-test.true in
    among_skipped order edges vars c.args.at c.args.to.0 i none low (omega (arith, low, c.requires)) fails ∙ c.loop-item.invariant
