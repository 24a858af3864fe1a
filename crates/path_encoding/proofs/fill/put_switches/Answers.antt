use Rattle.std.proofs.Common.{◌≡◌, ◌<◌, ◌+◌, ◌∙◌, ℕ, length, drop, sym, ap, arith}
use Rattle.mix_system.specs.Row.{number_at}
use Rattle.ll_tree.specs.declared.block.Block.{Block}
use Rattle.path_encoding.specs.Spots.{cases_before, cases_of}
use Rattle.path_encoding.specs.Agree.{asked_var}
use Rattle.path_encoding.specs.Filled.{put_cases}
use Rattle.path_encoding.proofs.CountLaws.{before_more, before_within, cases_few}
use Rattle.path_encoding.proofs.PutCaseLaws.{said_more}
use Rattle.path_encoding.proofs.ResolvedLaws.{block_seen}
use Rattle.path_encoding.proofs.fill.put_switches.Goals as goal

pub split_at-requires : goal.split_at-requires
split_at-requires c =
    let it = c.args.sound.now in
    let at = c.loop-at.at in
    omega (arith, ap length c.as_slice-all.ensures.value, c.loop-at.invariant.before, before_within it c.args.spots.now c.requires.spots at (omega (arith, c.loop-at-test.true, c.requires.blocks)))

pub put_block-requires-clause-each : goal.put_block-requires-clause-each
put_block-requires-clause-each c =
    let it = c.args.sound.now in
    let spots = c.args.spots.now in
    let at = c.loop-at.at in
    let block = c.block_in-block.result.now in
    let low : at < length it.flow.order = omega (arith, c.loop-at-test.true, c.requires.blocks) in
    let seen = block_seen it c.place_at-place.ensures.sound at c.place_at-place.result.0 block low c.place_at-place.ensures.place c.place_at-place.ensures.within c.block_in-block.ensures in
    let same : drop (cases_before it at) spots.cases.items ≡ c.split_at.result.1.now = ap (λ (n : ℕ). drop n spots.cases.items) (sym c.loop-at.invariant.before) ∙ ap (drop c.loop-at.before) (sym c.as_slice-all.ensures.value) ∙ sym c.split_at.ensures.back in
    omega (arith, cases_few it spots c.requires.spots at low, ap (λ (b : Block). length (cases_of b.end)) seen, ap length same)

pub loop-at-preserved : goal.loop-at-preserved
loop-at-preserved c =
    let it = c.args.sound.now in
    let spots = c.args.spots.now in
    let now = c.loop-at.point in
    let at = c.loop-at.at in
    let block = c.block_in-block.result.now in
    let low : at < length it.flow.order = omega (arith, c.loop-at-test.true, c.requires.blocks) in
    let seen = block_seen it c.place_at-place.ensures.sound at c.place_at-place.result.0 block low c.place_at-place.ensures.place c.place_at-place.ensures.within c.block_in-block.ensures in
    let same : drop (cases_before it at) spots.cases.items ≡ c.split_at.result.1.now = ap (λ (n : ℕ). drop n spots.cases.items) (sym c.loop-at.invariant.before) ∙ ap (drop c.loop-at.before) (sym c.as_slice-all.ensures.value) ∙ sym c.split_at.ensures.back in
    let put = c.put_block.ensures ∙ (λ i. put_cases (number_at now (asked_var it spots (sym seen i).end)) (cases_of (sym seen i).end) (sym same i) now) in
    record {
      before = omega (arith, before_more it at, ap (λ (b : Block). length (cases_of b.end)) seen, c.case_count-count.ensures, c.loop-at.invariant.before);
      done = said_more it spots c.requires.spots c.requires.apart c.args.point.now now c.put_block.new.point c.requires.known at low c.loop-at.invariant.done put;
    }
