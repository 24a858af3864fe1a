use Rattle.std.proofs.Common.{◌≡◌, ◌<◌, ◌∙◌, length, sym, subst, arith}
use Rattle.std.proofs.lemmas.List.{get_or_read}
use Rattle.clause_search.specs.Marks.{mark_at}
use Rattle.clause_search.specs.Runs.{HasRun}
use Rattle.clause_search.specs.declared.marks.Mark.TheVariants.{Clear, Used}
use Rattle.clause_search.proofs.MarkLaws.{seen_or_used}
use Rattle.clause_search.proofs.RunLaws.{has_run_none, has_run_skip, has_run_used, has_run_end}
use Rattle.clause_search.proofs.clause_trail.ClauseTrail.hints.Goals as goal

pub loop-at-init : goal.loop-at-init
loop-at-init c = λ lits ready.
    rw c.new-hints.ensures (has_run_none c.args.self.now c.args.marks.now.items lits c.args.end c.args.last ready)

pub loop-at-preserved : goal.loop-at-preserved
loop-at-preserved c = λ lits ready.
    let marks = c.args.marks.now.items in
    let at = c.loop-at.at in
    let aim = c.requires.aim in
    let within : at < length marks = omega (arith, aim.within, c.requires.marks.one_each) in
    let used : mark_at marks at ≡ Used c.in-Used.number = sym (get_or_read marks at c.index.result.now within c.index.ensures Clear) ∙ c.in-Used.is in
    rw c.in_ok-push.ensures.ok (has_run_used c.args.self.now marks lits c.args.end at c.loop-at.hints c.requires.trail (c.loop-at.invariant lits ready)
    c.in-Used.number c.loop-at-test.true aim.within (aim.none_broken at c.loop-at-test.true) (c.requires.marks.used at c.in-Used.number used))

pub loop-at-preserved-in_default : goal.loop-at-preserved-in_default
loop-at-preserved-in_default c = λ lits ready.
    let marks = c.args.marks.now.items in
    let at = c.loop-at.at in
    let within : at < length marks = omega (arith, c.requires.aim.within, c.requires.marks.one_each) in
    has_run_skip c.args.self.now marks lits c.args.end at c.loop-at.hints
    (λ marked. seen_or_used (mark_at marks at) marked (λ number e. c.in_default.not-Used number (get_or_read marks at c.index.result.now within c.index.ensures Clear ∙ e)))
    (c.loop-at.invariant lits ready)

pub returns : goal.returns
returns c = λ lits ready.
    let marks = c.args.marks.now.items in
    let all : c.loop-at.at ≡ c.args.end = omega arith in
    rw c.in_ok-push-2.ensures.ok (has_run_end c.args.self.now marks lits c.args.end c.args.last c.loop-at.hints c.requires.aim ready c.requires.trail
    (subst (λ n. HasRun c.args.self.now marks lits c.args.end n c.loop-at.hints) all (c.loop-at.invariant lits ready)))
