use Rattle.std.proofs.Common.{◌≡◌, ◌-◌, ◌<◌, ◌∙◌, length, ap, sym, subst, arith}
use Rattle.std.proofs.lemmas.List.{get_or_read}
use Rattle.clause_search.specs.Marks.{IsLowest}
use Rattle.clause_search.specs.declared.marks.Mark.TheVariants.{Clear}
use Rattle.clause_search.proofs.MarkLaws.{below_first, below_skip, below_resolved, not_level_before, lowest_at_end}
use Rattle.clause_search.proofs.clause_trail.ClauseTrail.resolve_below.Goals as goal

pub loop-at-init : goal.loop-at-init
loop-at-init c = (below_first c.args.self.now c.args.base c.args.marks.now.items c.requires.marks, omega arith)

pub resolve-requires-clause-marks : goal.resolve-requires-clause-marks
resolve-requires-clause-marks c = c.loop-at.invariant.0.marks

pub resolve-requires-clause-implied : goal.resolve-requires-clause-implied
resolve-requires-clause-implied c =
    not_level_before c.args.self.now.trail.levels c.args.base (c.loop-at.at - 1) c.requires.levels (omega (arith, c.loop-at.invariant.1))

pub resolve-requires-clause-lowest : goal.resolve-requires-clause-lowest
resolve-requires-clause-lowest c =
    let marks = c.loop-at.marks.items in
    let count : length marks ≡ length c.trail.result.now = c.loop-at.invariant.0.marks.one_each ∙ sym (ap length c.trail.ensures.lits) in
    subst (λ n. IsLowest n n marks) count (lowest_at_end marks)

pub resolve-requires-clause-seen : goal.resolve-requires-clause-seen
resolve-requires-clause-seen c =
    let marks = c.loop-at.marks.items in
    let at = c.loop-at.at - 1 in
    let within : at < length marks = omega (arith, c.loop-at.invariant.0.same_length, c.loop-at.invariant.1, c.requires.within) in
    sym (get_or_read marks at c.index.result.now within c.index.ensures Clear) ∙ c.in-Seen.is

pub loop-at-preserved : goal.loop-at-preserved
loop-at-preserved c = (
  below_resolved c.args.self.now c.loop-at.at c.args.base (length c.trail.result.now) c.resolve.result c.args.marks.now.items c.loop-at.marks.items c.resolve.new.marks.items (omega arith) c.loop-at.invariant.1 c.resolve.ensures.resolves c.loop-at.invariant.0,
  omega (arith, c.loop-at.invariant.1),
)

pub loop-at-preserved-in_default : goal.loop-at-preserved-in_default
loop-at-preserved-in_default c =
    let marks = c.loop-at.marks.items in
    let at = c.loop-at.at - 1 in
    let within : at < length marks = omega (arith, c.loop-at.invariant.0.same_length, c.loop-at.invariant.1, c.requires.within) in (
      below_skip c.args.self.now c.loop-at.at c.args.base c.args.marks.now.items marks (omega arith)
          (λ seen. c.in_default.not-Seen (get_or_read marks at c.index.result.now within c.index.ensures Clear ∙ seen)) c.loop-at.invariant.0,
      omega (arith, c.loop-at.invariant.1),
    )
