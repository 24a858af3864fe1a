use Rattle.std.proofs.Common.{map}
use Rattle.ll_items.specs.Parts.{part_of}
use Rattle.ll_items.specs.Sites.{site_of}
use Rattle.ll_flow.specs.declared.uses.Moment.TheVariants.{At}
use Rattle.ll_flow.specs.Paths.{label_of}
use Rattle.ll_flow.specs.Uses.{part_uses}
use Rattle.ll_flow.proofs.FindLaws.{mapped, mapped_end, all_keep, one_more, found_here}
use Rattle.ll_flow.proofs.NamedLaws.{part_named}
use Rattle.ll_flow.proofs.uses.first_in_parts.Goals as goal

pub in_part-requires-clause-named : goal.in_part-requires-clause-named
in_part-requires-clause-named c =
    let at = mapped part_of c.args.parts.now c.loop-part.part-index c.part-item.result c.loop-part-test.true c.part-item.is in
    part_named c.args.uses.now.values.now c.args.uses.now.labels.now (map part_of c.args.parts.now) c.loop-part.part-index (part_of c.part-item.result) c.requires.named at.0 at.1

pub returns-in-Some : goal.returns-in-Some
returns-in-Some c =
    let at = mapped part_of c.args.parts.now c.loop-part.part-index c.part-item.result c.loop-part-test.true c.part-item.is in
    found_here c.args.uses.now (part_uses (site_of c.args.site) (label_of c.args.uses.now.func.now c.args.site.block) (At c.args.site.item)) (map part_of c.args.parts.now) c.loop-part.part-index (part_of c.part-item.result) at.0 at.1 c.in-Some.found c.loop-part.invariant (rw c.in-Some.is at c.in_part.ensures)

pub loop-part-preserved : goal.loop-part-preserved
loop-part-preserved c =
    let at = mapped part_of c.args.parts.now c.loop-part.part-index c.part-item.result c.loop-part-test.true c.part-item.is in
    one_more c.args.uses.now (part_uses (site_of c.args.site) (label_of c.args.uses.now.func.now c.args.site.block) (At c.args.site.item)) (map part_of c.args.parts.now) c.loop-part.part-index (part_of c.part-item.result) at.0 at.1 c.loop-part.invariant (rw c.in-None.is at c.in_part.ensures)

pub returns : goal.returns
returns c =
    all_keep c.args.uses.now (part_uses (site_of c.args.site) (label_of c.args.uses.now.func.now c.args.site.block) (At c.args.site.item)) (map part_of c.args.parts.now) c.loop-part.part-index (mapped_end part_of c.args.parts.now c.loop-part.part-index c.loop-part-test.false) c.loop-part.invariant
