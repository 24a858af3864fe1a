use Rattle.std.proofs.Common.{◌∙◌, ap}
use Rattle.ll_rules.specs.Limits.{held}
use Rattle.ll_rules.proofs.DistinctLaws.{switch_edges}
use Rattle.ll_rules.proofs.count.end_edges.Goals as goal

pub returns-in-Switch : goal.returns-in-Switch
returns-in-Switch c =
    let all = switch_edges c.in-Switch.default c.bytes-in-Switch.result.now c.in-Switch.cases c.items.result.now c.items-in-Switch.result.now c.goes_to-is_there.result c.case_edges.result c.one_where_new.result c.bytes-in-Switch.ensures c.items.ensures c.items-in-Switch.ensures c.goes_to-is_there.ensures c.case_edges.ensures c.one_where_new.ensures in
    rw c.in-Switch.is (c.saturating_add.ensures ∙ ap held all)
