use Rattle.std.proofs.Common.{◌∙◌}
use Rattle.std.proofs.lemmas.List.{length-set}
use Rattle.ll_phi_rules.proofs.AgreeLaws.{no_entry, entries_agree, next_like, next_first, none_later, none_later_set}
use Rattle.ll_phi_rules.proofs.firsts.operands_agree.Goals as goal

pub loop-at-preserved-then-ne : goal.loop-at-preserved-then-ne
loop-at-preserved-then-ne c =
    let entries = c.args.entries.now in
    let it = c.loop-at.invariant in
    let none = none_later_set c.args.labels.now entries c.loop-at.firsts.items c.loop-at.at c.in-Some.place c.index.result.now c.index-entries-at.result c.index-entries-index.result c.bytes.result.now c.bytes-in-loop-at.result.now c.bytes-in-loop-at-2.result.now c.ne.result
    c.loop-at-test.true it.size it.before it.like c.index-entries-at.is c.bytes.ensures c.in-Some.ensures.place c.in-Some.ensures.within c.index.ensures c.index-entries-index.is c.bytes-in-loop-at.ensures c.bytes-in-loop-at-2.ensures c.ne.ensures in
    let like = next_first c.args.labels.now entries c.loop-at.firsts.items c.loop-at.at c.in-Some.place c.index.result.now c.index-entries-at.result c.index-entries-index.result c.bytes.result.now c.bytes-in-loop-at.result.now c.bytes-in-loop-at-2.result.now c.ne.result
    c.loop-at-test.true it.size it.before it.like c.index-entries-at.is c.bytes.ensures c.in-Some.ensures.place c.in-Some.ensures.within c.index.ensures c.index-entries-index.is c.bytes-in-loop-at.ensures c.bytes-in-loop-at-2.ensures c.ne.ensures c.if-ne.true in
    record { size = length-set c.loop-at.firsts.items c.in-Some.place c.loop-at.at ∙ it.size; before = none; like = like }

pub loop-at-preserved : goal.loop-at-preserved
loop-at-preserved c =
    let entries = c.args.entries.now in
    let it = c.loop-at.invariant in
    let none = none_later c.args.labels.now entries c.loop-at.firsts.items c.loop-at.at c.in-Some.place c.index.result.now c.index-entries-at.result c.index-entries-index.result c.bytes.result.now c.bytes-in-loop-at.result.now c.bytes-in-loop-at-2.result.now c.ne.result
    c.loop-at-test.true it.size it.before it.like c.index-entries-at.is c.bytes.ensures c.in-Some.ensures.place c.in-Some.ensures.within c.index.ensures c.index-entries-index.is c.bytes-in-loop-at.ensures c.bytes-in-loop-at-2.ensures c.ne.ensures in
    let like = next_like c.args.labels.now entries c.loop-at.firsts.items c.loop-at.at c.in-Some.place c.index.result.now c.index-entries-at.result c.index-entries-index.result c.bytes.result.now c.bytes-in-loop-at.result.now c.bytes-in-loop-at-2.result.now c.ne.result
    c.loop-at-test.true it.size it.before it.like c.index-entries-at.is c.bytes.ensures c.in-Some.ensures.place c.in-Some.ensures.within c.index.ensures c.index-entries-index.is c.bytes-in-loop-at.ensures c.bytes-in-loop-at-2.ensures c.ne.ensures
    c.same_operand.result c.if-ne.false c.same_operand.ensures c.if-not-same_operand.false in
    record { size = it.size; before = none; like = like }

pub returns : goal.returns
returns c = λ is. entries_agree c.args.labels.now c.args.entries.now no_entry c.loop-at.firsts.items c.loop-at.at c.loop-at-test.false c.loop-at.invariant.like
