use Rattle.std.proofs.Common.{◌≡◌, ◌<◌, ◌+◌, ◌∙◌, length, ap, arith}
use Rattle.ll_tree.specs.declared.block.Block.{Block}
use Rattle.path_encoding.specs.Spots.{cases_of, cases_before}
use Rattle.path_encoding.proofs.CountLaws.{before_more, before_le}
use Rattle.path_encoding.proofs.LittleLaws.{few_cases}
use Rattle.path_encoding.proofs.ResolvedLaws.{block_seen}
use Rattle.path_encoding.proofs.place.count_over.Goals as goal

pub overflow_add-count : goal.overflow_add-count
overflow_add-count c =
    let it = c.args.sound.now in
    let at = c.loop-at.at in
    let block = c.block_in-block.result.now in
    let low : at < length it.flow.order = omega (arith, c.loop-at-test.true, c.requires.blocks) in
    let seen = block_seen it c.requires.sound at c.place_at-place.result.0 block low c.place_at-place.ensures.place c.place_at-place.ensures.within c.block_in-block.ensures in
    omega (
      arith,
      before_more it at,
      before_le it (at + 1) (length it.flow.order) (omega (arith, low)),
      few_cases it c.requires.sound,
      c.requires.sound.rules.limits.cases,
      ap (λ (b : Block). length (cases_of b.end)) seen,
      c.case_count-mine.ensures,
      c.loop-at.invariant,
    )

pub loop-at-preserved : goal.loop-at-preserved
loop-at-preserved c =
    let it = c.args.sound.now in
    let at = c.loop-at.at in
    let block = c.block_in-block.result.now in
    let low : at < length it.flow.order = omega (arith, c.loop-at-test.true, c.requires.blocks) in
    let seen = block_seen it c.requires.sound at c.place_at-place.result.0 block low c.place_at-place.ensures.place c.place_at-place.ensures.within c.block_in-block.ensures in
    omega (arith, before_more it at, ap (λ (b : Block). length (cases_of b.end)) seen, c.case_count-mine.ensures, c.loop-at.invariant)

pub returns-clause-few : goal.returns-clause-few
returns-clause-few c =
    let it = c.args.sound.now in
    let all : c.loop-at.at ≡ length it.flow.order = omega (arith, c.loop-at-test.false, c.loop-at.auto.at-end, c.requires.blocks) in
    let count : c.loop-at.count ≡ cases_before it (length it.flow.order) = c.loop-at.invariant ∙ ap (cases_before it) all in
    omega (arith, count, few_cases it c.requires.sound, c.requires.sound.rules.limits.cases)
