use Rattle.std.proofs.Common.{◌≡◌, ◌++◌, take}
use Rattle.std.specs.List.{flat_map}
use Rattle.ll_tree.specs.Pieces.{written}
use Rattle.ll_tree.specs.Text.{line, phi_pieces}
use Rattle.ll_tree.proofs.printing.block.push_phis.Given as goal

abbrev pub invariant-loop-phi : goal.invariant-loop-phi
invariant-loop-phi l = l.text.items ≡ l.initial.text.items ++ flat_map (λ phi. written (line (phi_pieces phi))) (take l.phi-index l.phis)
