use Rattle.std.proofs.Common.{◌≡◌, ◌++◌, ◌∷◌, take}
use Rattle.std.specs.List.{flat_map}
use Rattle.ll_tree.specs.Pieces.{Mark, Blank, written}
use Rattle.ll_tree.specs.Text.{param_pieces}
use Rattle.ll_tree.proofs.printing.func.push_more_params.Given as goal

abbrev pub invariant-loop-param : goal.invariant-loop-param
invariant-loop-param l = l.text.items ≡ l.initial.text.items ++ flat_map (λ param. written (Mark 44 ∷ Blank ∷ param_pieces param)) (take l.param-index l.params)
