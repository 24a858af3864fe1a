use Rattle.std.proofs.Common.{◌≡◌, ◌++◌, ◌∷◌, take}
use Rattle.std.specs.List.{flat_map}
use Rattle.ll_tree.specs.Pieces.{Mark, Blank, written}
use Rattle.ll_tree.specs.Text.{entry_pieces}
use Rattle.ll_tree.proofs.printing.block.push_more_entries.Given as goal

abbrev pub invariant-loop-entry : goal.invariant-loop-entry
invariant-loop-entry l = l.text.items ≡ l.initial.text.items ++ flat_map (λ entry. written (Mark 44 ∷ Blank ∷ entry_pieces l.width entry)) (take l.entry-index l.entries)
