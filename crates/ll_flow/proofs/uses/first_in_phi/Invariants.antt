use Rattle.std.proofs.Common.{take}
use Rattle.std.specs.Prelude.{All}
use Rattle.std.specs.List.{flat_map}
use Rattle.ll_items.specs.Sites.{site_of}
use Rattle.ll_flow.specs.Uses.{IsDefined, entry_uses}
use Rattle.ll_flow.proofs.uses.first_in_phi.Given as goal

abbrev pub invariant-loop-entry : goal.invariant-loop-entry
invariant-loop-entry l = All (IsDefined l.uses.func.now) (flat_map (entry_uses (site_of l.site)) (take l.entry-index l.entries))
