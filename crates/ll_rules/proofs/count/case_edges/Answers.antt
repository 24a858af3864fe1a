use Rattle.std.proofs.Common.{sym, ◌∙◌, ap}
use Rattle.ll_tree.specs.declared.block.Case.{Case}
use Rattle.ll_rules.proofs.DistinctLaws.{case_step}
use Rattle.ll_rules.proofs.count.case_edges.Goals as goal

pub loop-at-preserved : goal.loop-at-preserved
loop-at-preserved c =
    let step = case_step c.args.cases.now c.loop-at.at c.loop-at.count c.one_where_new-count.result _ c.split_at.result.1.now c.bytes.result.now c.goes_to.result c.index-cases-at.result c.loop-at-test.true c.index-cases-at.is (c.bytes.ensures ∙ ap (λ (case : Case). case.to) (sym c.index-cases-at.is)) c.split_at.ensures.back c.goes_to.ensures c.one_where_new-count.ensures c.loop-at.invariant.few c.loop-at.invariant.rest in
    record { few = step.0; rest = step.1 }
