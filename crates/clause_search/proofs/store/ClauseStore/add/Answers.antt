use Rattle.std.proofs.Common.{◌≡◌, ◌++◌, length, ap, ◌∙◌, arith}
use Rattle.std.proofs.lemmas.Result.{err_from_is_err_and}
use Rattle.clause_search.proofs.SpanLaws.{parts-append, parts-push}
use Rattle.clause_search.proofs.store.ClauseStore.add.Goals as goal

pub returns-in_err-push-clause-err : goal.returns-in_err-push-clause-err
returns-in_err-push-clause-err c =
    let it = c.self.inside in
    let p = err_from_is_err_and c.from_residual-in_err-push.result c.from_residual-in_err-push.ensures.1 in
    let lits : c.extend_from_slice.new.self.items ≡ it.lits.items ++ c.args.lits.now = c.in_ok-extend_from_slice.ensures.items in
    let spans : c.push.new.self.items ≡ it.spans.items = c.in_err-push.ensures.items in
    rw (p.1, lits, spans) (parts-append it.lits.items c.args.lits.now it.spans.items c.self.invariant ∙ c.self.view_is)

pub returns-clause-ok : goal.returns-clause-ok
returns-clause-ok c =
    let it = c.self.inside in
    let lits : c.extend_from_slice.new.self.items ≡ it.lits.items ++ c.args.lits.now = c.in_ok-extend_from_slice.ensures.items in
    let spans = c.in_ok-push.ensures.items in
    let from : c.len-from.result ≡ length it.lits.items = omega arith in
    let to : c.len-to.result ≡ length (it.lits.items ++ c.args.lits.now) = omega (arith, ap length lits) in
    rw (lits, spans, ← c.self.view_is) (parts-push it.lits.items c.args.lits.now it.spans.items c.len-from.result c.len-to.result from to c.self.invariant)
