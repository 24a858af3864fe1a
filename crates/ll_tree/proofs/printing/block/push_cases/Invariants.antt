use Rattle.std.proofs.Common.{◌≡◌, ◌++◌, take}
use Rattle.std.specs.List.{flat_map}
use Rattle.ll_tree.specs.Pieces.{written}
use Rattle.ll_tree.specs.Text.{case_pieces}
use Rattle.ll_tree.proofs.printing.block.push_cases.Given as goal

abbrev pub invariant-loop-case : goal.invariant-loop-case
invariant-loop-case l = l.text.items ≡ l.initial.text.items ++ flat_map (λ case. written (case_pieces case)) (take l.case-index l.cases)
