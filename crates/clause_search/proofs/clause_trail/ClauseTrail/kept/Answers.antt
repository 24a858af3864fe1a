use Rattle.std.proofs.Common.{◌<◌, ◌∙◌, length, sym, arith}
use Rattle.std.proofs.lemmas.List.{get_or_read}
use Rattle.clause_search.specs.declared.marks.Mark.TheVariants.{Clear}
use Rattle.clause_search.proofs.KeptLaws.{kept_none, kept_skip, kept_push}
use Rattle.clause_search.proofs.clause_trail.ClauseTrail.kept.Goals as goal

pub loop-at-init : goal.loop-at-init
loop-at-init c = rw c.new-kept.ensures (kept_none c.args.self.now.trail c.args.marks.now.items)

pub loop-at-preserved-in_default : goal.loop-at-preserved-in_default
loop-at-preserved-in_default c =
    let marks = c.args.marks.now.items in
    let at = c.loop-at.at in
    let within : at < length marks = omega arith in
    kept_skip c.args.self.now.trail marks at c.loop-at.kept (λ seen. c.in_default.not-Seen (get_or_read marks at c.index.result.now within c.index.ensures Clear ∙ seen)) c.loop-at.invariant

pub loop-at-preserved : goal.loop-at-preserved
loop-at-preserved c =
    let marks = c.args.marks.now.items in
    let at = c.loop-at.at in
    let within : at < length marks = omega arith in
    let seen = sym (get_or_read marks at c.index.result.now within c.index.ensures Clear) ∙ c.in-Seen.is in
    rw (c.in_ok-push.ensures.ok, c.negation.ensures, c.put_at.ensures.lit) (kept_push c.args.self.now.trail marks at c.loop-at.kept seen c.loop-at.invariant)
