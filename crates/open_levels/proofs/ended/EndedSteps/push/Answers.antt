use Rattle.std.proofs.Common.{◌≡◌, ◌++◌, length, ap, ◌∙◌, arith}
use Rattle.std.proofs.lemmas.Result.{err_from_is_err_and}
use Rattle.open_levels.proofs.EndedLaws.{steps_more, marks_more, steps_pushed, marks_pushed}
use Rattle.open_levels.proofs.ended.EndedSteps.push.Goals as goal

pub returns-in_err-push-clause-err : goal.returns-in_err-push-clause-err
returns-in_err-push-clause-err c =
    let it = c.self.inside in
    let p = err_from_is_err_and c.from_residual-in_err-push.result c.from_residual-in_err-push.ensures.1 in
    let lits : c.extend_from_slice.new.self.items ≡ it.lits.items ++ c.args.clause.now = c.in_ok-extend_from_slice.ensures.items in
    let marks : c.push.new.self.items ≡ it.marks.items = c.in_err-push.ensures.items in
    rw (p.1, lits, marks) (steps_more it.lits.items c.args.clause.now it.marks.items c.self.invariant ∙ c.self.view_is)

pub returns-clause-ok : goal.returns-clause-ok
returns-clause-ok c =
    let it = c.self.inside in
    let lits : c.extend_from_slice.new.self.items ≡ it.lits.items ++ c.args.clause.now = c.in_ok-extend_from_slice.ensures.items in
    let marks = c.in_ok-push.ensures.items in
    let from : c.len-from.result ≡ length it.lits.items = omega arith in
    let to : c.len-to.result ≡ length (it.lits.items ++ c.args.clause.now) = omega (arith, ap length lits) in
    rw (lits, marks, ← c.self.view_is) (steps_pushed it.lits.items c.args.clause.now it.marks.items c.self.invariant c.args.number c.len-from.result c.len-to.result c.args.is_cut from to)

pub invariant_of-self-2 : goal.invariant_of-self-2
invariant_of-self-2 c =
    let it = c.self.inside in
    let lits : c.extend_from_slice.new.self.items ≡ it.lits.items ++ c.args.clause.now = c.in_ok-extend_from_slice.ensures.items in
    let marks = c.in_ok-push.ensures.items in
    let from : c.len-from.result ≡ length it.lits.items = omega arith in
    let to : c.len-to.result ≡ length (it.lits.items ++ c.args.clause.now) = omega (arith, ap length lits) in
    let below = rw (← c.self.view_is) at c.requires in
    rw (lits, marks) (marks_pushed it.lits.items c.args.clause.now it.marks.items c.self.invariant c.args.number c.len-from.result c.len-to.result c.args.is_cut from to below)
