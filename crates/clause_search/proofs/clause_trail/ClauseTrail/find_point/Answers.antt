use Rattle.std.proofs.Common.{◌≡◌, ◌-◌, ◌<◌, ◌∙◌, length, ap, sym, subst, arith}
use Rattle.std.proofs.lemmas.List.{get_or_read}
use Rattle.clause_search.specs.Marks.{IsSearching}
use Rattle.clause_search.specs.declared.marks.Mark.TheVariants.{Clear}
use Rattle.clause_search.proofs.MarkLaws.{searching_first, searching_skip, searching_resolved, searching_ends, not_level_behind}
use Rattle.clause_search.proofs.clause_trail.ClauseTrail.find_point.Goals as goal

pub loop-low-init : goal.loop-low-init
loop-low-init c =
    let state = c.args.self.now in
    let marks = c.args.marks.now.items in
    let count : length marks ≡ length c.trail.result.now = c.requires.marks.one_each ∙ sym (ap length c.trail.ensures.lits) in
    subst (λ n. IsSearching state c.args.start c.args.lowest n marks marks) count (searching_first state c.args.start c.args.lowest marks c.requires.marks c.requires.lowest c.requires.found)

pub returns : goal.returns
returns c =
    searching_ends c.args.self.now c.args.start c.loop-low.low c.loop-low.at c.args.marks.now.items c.loop-low.marks.items (omega arith) c.loop-low.invariant

pub resolve-low-requires-clause-implied : goal.resolve-low-requires-clause-implied
resolve-low-requires-clause-implied c =
    not_level_behind c.args.self.now.trail.levels c.args.start (c.loop-low.at - 1) c.requires.levels (omega (arith, c.loop-low.invariant.is_lowest.above))

pub resolve-low-requires-clause-marks : goal.resolve-low-requires-clause-marks
resolve-low-requires-clause-marks c = c.loop-low.invariant.marks

pub resolve-low-requires-clause-within : goal.resolve-low-requires-clause-within
resolve-low-requires-clause-within c = omega (arith, c.loop-low.invariant.within)

pub resolve-low-requires-clause-lowest : goal.resolve-low-requires-clause-lowest
resolve-low-requires-clause-lowest c = c.loop-low.invariant.is_lowest

pub resolve-low-requires-clause-seen : goal.resolve-low-requires-clause-seen
resolve-low-requires-clause-seen c =
    let marks = c.loop-low.marks.items in
    let at = c.loop-low.at - 1 in
    let within : at < length marks = omega (arith, c.loop-low.invariant.within) in
    sym (get_or_read marks at c.index.result.now within c.index.ensures Clear) ∙ c.in-Seen.is

pub loop-low-preserved : goal.loop-low-preserved
loop-low-preserved c =
    searching_resolved c.args.self.now c.args.start c.loop-low.low c.resolve-low.result c.loop-low.at c.args.marks.now.items c.loop-low.marks.items c.resolve-low.new.marks.items (omega arith) c.resolve-low.ensures.falls c.resolve-low.ensures.resolves c.loop-low.invariant

pub loop-low-preserved-in_default : goal.loop-low-preserved-in_default
loop-low-preserved-in_default c =
    let marks = c.loop-low.marks.items in
    let at = c.loop-low.at - 1 in
    let within : at < length marks = omega (arith, c.loop-low.invariant.within) in
    searching_skip c.args.self.now c.args.start c.loop-low.low c.loop-low.at c.args.marks.now.items marks (omega arith)
    (λ seen. c.in_default.not-Seen (get_or_read marks at c.index.result.now within c.index.ensures Clear ∙ seen)) c.loop-low.invariant
