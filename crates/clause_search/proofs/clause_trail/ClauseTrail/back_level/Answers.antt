use Rattle.std.proofs.Common.{◌-◌, ◌<◌, ◌∙◌, length, sym, arith}
use Rattle.std.proofs.lemmas.List.{get_or_read}
use Rattle.clause_search.specs.declared.marks.Mark.TheVariants.{Clear}
use Rattle.clause_search.proofs.KeptLaws.{back_skip, back_found, back_none}
use Rattle.clause_search.proofs.clause_trail.ClauseTrail.back_level.Goals as goal

pub returns : goal.returns
returns c = back_none c.args.self.now.trail c.args.marks.now.items c.args.start (λ k from h. c.loop-at.invariant.0 k (omega arith) h)

pub loop-at-preserved : goal.loop-at-preserved
loop-at-preserved c =
    let marks = c.args.marks.now.items in
    let at = c.loop-at.at - 1 in
    let within : at < length marks = omega (arith, c.loop-at.invariant.1, c.requires.within) in (
      back_skip marks c.loop-at.at c.args.start c.loop-at-test.true
          (λ seen. c.in_default.not-Seen (get_or_read marks at c.index.result.now within c.index.ensures Clear ∙ seen)) c.loop-at.invariant.0,
      omega (arith, c.loop-at.invariant.1),
    )

pub returns-in-loop-at : goal.returns-in-loop-at
returns-in-loop-at c =
    let marks = c.args.marks.now.items in
    let at = c.loop-at.at - 1 in
    let within : at < length marks = omega (arith, c.loop-at.invariant.1, c.requires.within) in
    back_found c.args.self.now.trail marks c.loop-at.at c.args.start c.level_of.result c.loop-at-test.true c.loop-at.invariant.1
    (sym (get_or_read marks at c.index.result.now within c.index.ensures Clear) ∙ c.in-Seen.is) c.loop-at.invariant.0 c.level_of.ensures
