use Rattle.std.proofs.Common.{◌≡◌, ◌==◌, get_or, false, arith}
use Rattle.std.proofs.lemmas.Bool.Decides.{nat_tests}
use Rattle.ll_links.specs.declared.link.Source.TheVariants as source
use Rattle.ll_links.specs.Links.{block_id}
use Rattle.ll_links.proofs.BesideLaws.{beside_next}
use Rattle.ll_links.proofs.link.source_beside.Goals as goal

pub loop-at-preserved : goal.loop-at-preserved
loop-at-preserved c =
    let apart : ((get_or c.args.blocks.now c.loop-at.at (block_id 0)).0 == c.args.from.0) ≡ false = grind (arith, nat_tests) in
    beside_next c.args.from.0 c.args.blocks.now c.args.sources.now c.loop-at.at (block_id 0) source.Poison _ c.loop-at-test.true c.requires apart c.loop-at.invariant
