use Rattle.std.proofs.Common.{◌≡◌, ◌++◌, take}
use Rattle.std.specs.List.{flat_map}
use Rattle.ll_tree.specs.Pieces.{written}
use Rattle.ll_tree.specs.Text.{line, instr_pieces}
use Rattle.ll_tree.proofs.printing.block.push_body.Given as goal

abbrev pub invariant-loop-instr : goal.invariant-loop-instr
invariant-loop-instr l = l.text.items ≡ l.initial.text.items ++ flat_map (λ instr. written (line (instr_pieces instr))) (take l.instr-index l.body)
