use Rattle.std.proofs.Common.{map, take}
use Rattle.std.specs.Prelude.{All}
use Rattle.std.specs.List.{flat_map}
use Rattle.ll_items.specs.Parts.{part_of}
use Rattle.ll_items.specs.Sites.{site_of}
use Rattle.ll_flow.specs.declared.uses.Moment.TheVariants.{At}
use Rattle.ll_flow.specs.Paths.{label_of}
use Rattle.ll_flow.specs.Uses.{IsDefined, part_uses}
use Rattle.ll_flow.proofs.uses.first_in_parts.Given as goal

abbrev pub invariant-loop-part : goal.invariant-loop-part
invariant-loop-part l = All (IsDefined l.uses.func.now) (flat_map (part_uses (site_of l.site) (label_of l.uses.func.now l.site.block) (At l.site.item)) (take l.part-index (map part_of l.parts)))
