use Rattle.std.proofs.Common.{◌≡◌, ◌≢◌, ◌<◌, ℕ, List, length, sym, ◌∙◌, ap, subst}
use Rattle.std.specs.List.{All, AllPairs}
use Rattle.std.proofs.lemmas.Result.{err_from_is_err_and}
use Rattle.flow_graph.specs.declared.edge.Edge.{Edge}
use Rattle.flow_graph.specs.Sorted.{AreSorted}
use Rattle.ll_rules.specs.Items.{labels_of}
use Rattle.cost_table.specs.Table.{Table, spelled}
use Rattle.sound_costs.specs.Edges.{edges_of}
use Rattle.sound_costs.proofs.EdgeLaws.{labels_differ, labels_apart, edges_within, edges_sorted}
use Rattle.sound_costs.proofs.costs.read_costs.Goals as goal

pub read_costs-requires-clause-different : goal.read_costs-requires-clause-different
read_costs-requires-clause-different c =
    let func = c.args.sound.now.func in
    let labels_are : spelled c.items.result.now ≡ labels_of c.args.sound.now.func = c.items.ensures ∙ c.in_ok-labels.ensures ∙ ap labels_of c.func.ensures.func in
    subst (AllPairs (λ label other. label ≢ other)) (sym labels_are) (labels_apart func (labels_differ func c.func.ensures.rules.names))

pub read_costs-requires-clause-within : goal.read_costs-requires-clause-within
read_costs-requires-clause-within c =
    let func = c.args.sound.now.func in
    let labels_are : spelled c.items.result.now ≡ labels_of c.args.sound.now.func = c.items.ensures ∙ c.in_ok-labels.ensures ∙ ap labels_of c.func.ensures.func in
    let edges_are : c.items-2.result.now ≡ edges_of c.args.sound.now.func = c.items-2.ensures ∙ c.in_ok-edges.ensures in
    subst (λ (labels : List (List ℕ)). All (λ (edge : Edge). (edge.from < length labels) × (edge.to < length labels)) c.items-2.result.now) (sym labels_are)
    (subst (λ (edges : List Edge). All (λ (edge : Edge). (edge.from < length (labels_of func)) × (edge.to < length (labels_of func))) edges) (sym edges_are) (edges_within func))

pub read_costs-requires-clause-sorted : goal.read_costs-requires-clause-sorted
read_costs-requires-clause-sorted c =
    let edges_are : c.items-2.result.now ≡ edges_of c.args.sound.now.func = c.items-2.ensures ∙ c.in_ok-edges.ensures in
    subst AreSorted (sym edges_are) (edges_sorted c.args.sound.now.func)

pub returns-in_err-lists-clause-only : goal.returns-in_err-lists-clause-only
returns-in_err-lists-clause-only c lists is =
    let labels_are : spelled c.items.result.now ≡ labels_of c.args.sound.now.func = c.items.ensures ∙ c.in_ok-labels.ensures ∙ ap labels_of c.func.ensures.func in
    let edges_are : c.items-2.result.now ≡ edges_of c.args.sound.now.func = c.items-2.ensures ∙ c.in_ok-edges.ensures in
    let table : Table c.args.text.now (spelled c.items.result.now) c.items-2.result.now lists =
    subst (λ (labels : List (List ℕ)). Table c.args.text.now labels c.items-2.result.now lists) (sym labels_are)
    (subst (λ (edges : List Edge). Table c.args.text.now (labels_of c.args.sound.now.func) edges lists) (sym edges_are) is) in
    let found = err_from_is_err_and c.from_residual-in_err-lists.result c.from_residual-in_err-lists.ensures.1 in
    rw found.1 (found.2 ∙ c.in_err-lists.ensures.only lists table)

pub invariant_of-result : goal.invariant_of-result
invariant_of-result c = record {
  sorted = subst AreSorted (sym c.in_ok-edges.ensures) (edges_sorted c.args.sound.now.func);
  one_each = c.in_ok-lists.ensures.table.one_each.1 ∙ ap length c.items-2.ensures;
}
