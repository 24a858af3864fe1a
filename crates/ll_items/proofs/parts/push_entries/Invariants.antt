use Rattle.std.proofs.Common.{◌≡◌, ◌∷◌, ◌++◌, [], take}
use Rattle.std.specs.List.{flat_map}
use Rattle.ll_rules.specs.Items.{Use, Goal}
use Rattle.ll_items.proofs.parts.push_entries.Given as goal

abbrev pub invariant-loop-entry : goal.invariant-loop-entry
invariant-loop-entry l = l.parts ≡ l.initial.parts ++ flat_map (λ entry. Use entry.value l.width ∷ Goal entry.from ∷ []) (take l.entry-index l.entries)
