use Rattle.std.proofs.Common.{◌≡◌, ◌++◌, map, pos, ℕ}
use Rattle.std.specs.Prelude.{zip}
use Rattle.std.specs.List.{filter}
use Rattle.ll_verifier.specs.declared.order.PositionEdge.{PositionEdge}
use Rattle.wrap_rows.specs.Layout.{times}
use Rattle.path_encoding.specs.FlowRows.{enters}
use Rattle.path_encoding.proofs.PairLaws.{pairs_from}
use Rattle.path_encoding.proofs.rows.in_parts.Given as goal

abbrev pub invariant-loop-item : goal.invariant-loop-item
invariant-loop-item l =
    l.parts.items ++ map (λ (edge : PositionEdge × ℕ). times (pos 1) edge.1) (filter (enters l.at) (pairs_from l.edges l.vars l.item)) ≡ map (λ (edge : PositionEdge × ℕ). times (pos 1) edge.1) (filter (enters l.at) (zip l.edges l.vars))
