use Rattle.std.proofs.Common.{◌≡◌, ◌++◌, ◌==◌, map}
use Rattle.ll_verifier.specs.Order.{position_edge}
use Rattle.value_pieces.specs.Pieces.{incoming_of, edges_into}
use Rattle.value_pieces.proofs.PairLaws.{made_from}
use Rattle.value_pieces.proofs.phi.phi_piece.Given as goal

-- what was put and what is left are the whole
abbrev pub invariant-loop-k : goal.invariant-loop-k
invariant-loop-k l =
    l.incoming.items ++ made_from (λ edge. edge.0.to.0 == l.at) (incoming_of l.sound l.spots l.phi) (map position_edge l.sound.flow.edges) l.spots.edges.items l.k
    ≡ map (incoming_of l.sound l.spots l.phi) (edges_into l.sound l.spots l.at)
