use Rattle.std.proofs.Common.{◌<◌, ◌∙◌, length, get_or, sym, arith}
use Rattle.std.proofs.lemmas.Bool.{false≢true}
use Rattle.std.proofs.lemmas.List.{get_or_default}
use Rattle.bound_trail.specs.Edges.{blank_lit}
use Rattle.clause_search.proofs.MarkLaws.{causes_none, causes_skip, causes_more, causes_end}
use Rattle.clause_search.proofs.clause_trail.ClauseTrail.mark_causes.Goals as goal

pub loop-at-init : goal.loop-at-init
loop-at-init c = (
  causes_none c.args.self.now.trail c.args.clause.now c.args.start c.args.lowest c.args.marks.now.items c.requires.lowest,
  omega arith,
)

pub loop-at-preserved-then-not-is_false : goal.loop-at-preserved-then-not-is_false
loop-at-preserved-then-not-is_false c =
    let clause = c.args.clause.now in
    let at = c.loop-at.at in
    let lit = get_or clause at blank_lit in
    let within : at < length clause = omega arith in (
      causes_skip c.args.self.now.trail clause at c.args.start c.loop-at.low c.args.marks.now.items c.loop-at.marks.items lit within (get_or_default clause at blank_lit lit within)
          (λ a. false≢true (sym c.if-not-is_false.true ∙ c.is_false.ensures.1 a)) c.loop-at.invariant.0,
      c.loop-at.invariant.1,
    )

pub loop-at-preserved : goal.loop-at-preserved
loop-at-preserved c =
    let clause = c.args.clause.now in
    let at = c.loop-at.at in
    let lit = get_or clause at blank_lit in
    let within : at < length clause = omega arith in (
      causes_more c.args.self.now.trail clause at c.args.start c.loop-at.low c.mark_cause-low.result c.args.marks.now.items c.loop-at.marks.items c.mark_cause-low.new.marks.items lit within (get_or_default clause at blank_lit lit within)
          c.mark_cause-low.ensures.marks c.loop-at.invariant.0,
      omega (arith, c.mark_cause-low.ensures.falls, c.loop-at.invariant.1),
    )

pub returns-clause-marks : goal.returns-clause-marks
returns-clause-marks c =
    causes_end c.args.self.now.trail c.args.clause.now c.loop-at.at c.args.start c.loop-at.low c.args.marks.now.items c.loop-at.marks.items (omega arith) c.loop-at.invariant.0

pub mark_cause-low-requires-clause-one_each : goal.mark_cause-low-requires-clause-one_each
mark_cause-low-requires-clause-one_each c = c.loop-at.invariant.0.grows.same_length ∙ c.requires.one_each

pub mark_cause-low-requires-clause-lowest : goal.mark_cause-low-requires-clause-lowest
mark_cause-low-requires-clause-lowest c = c.loop-at.invariant.0.is_lowest
