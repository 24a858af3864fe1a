use Rattle.std.proofs.Common.{sym}
use Rattle.std.proofs.lemmas.Bool.{false≢true}
use Rattle.std.proofs.lemmas.Result.{IfOk-weaker}
use Rattle.clause_search.specs.Learnt.{WasCounted, Concludes, Teaches}
use Rattle.clause_search.proofs.AnalysisLaws.{teaches}
use Rattle.clause_search.proofs.clause_trail.ClauseTrail.analyse.Goals as goal

pub returns : goal.returns
returns c =
    let state = c.args.self.now in
    let before = c.args.tally.now in
    let after = c.tick.new.self in
    let counted : WasCounted before after = record {
      had_budget = λ e. false≢true (sym (c.if-not-tick.ensures.spent.1 e));
      counted = c.if-not-tick.ensures.counted;
    } in
    IfOk-weaker c.learn.result (λ learnt. Concludes learnt state) (λ learnt. Teaches learnt state before after) (λ learnt is. teaches learnt state before after is counted) c.learn.ensures

pub returns-then-levels-eq0 : goal.returns-then-levels-eq0
returns-then-levels-eq0 c =
    let state = c.args.self.now in
    let before = c.args.tally.now in
    let after = c.tick.new.self in
    let counted : WasCounted before after = record {
      had_budget = λ e. false≢true (sym (c.if-not-tick.ensures.spent.1 e));
      counted = c.if-not-tick.ensures.counted;
    } in
    IfOk-weaker c.refute.result (λ learnt. Concludes learnt state) (λ learnt. Teaches learnt state before after) (λ learnt is. teaches learnt state before after is counted) c.refute.ensures
