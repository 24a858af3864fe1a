use Rattle.std.proofs.Common.{◌≡◌, ◌<◌, ◌+◌, ◌++◌, ◌∷◌, [], List, pos, length, get_or, drop, append_assoc, rules, ap, sym, subst, ◌∙◌, arith}
use Rattle.std.proofs.lemmas.List.{length-map}
use Rattle.ll_verifier.specs.Order.{position_edge}
use Rattle.mix_system.specs.declared.row.Part.{Part}
use Rattle.wrap_rows.specs.Layout.{times}
use Rattle.wrap_rows.specs.Normal.{sizes}
use Rattle.portion_cuts.specs.Paths.{costs_at}
use Rattle.portion_cuts.proofs.BestLaws.{edge_at, no_edge, can_relax, edge_of_list}
use Rattle.cost_rows.specs.Rows.{edge_row}
use Rattle.cost_rows.proofs.FewLaws.{few_edges}
use Rattle.cost_rows.proofs.PartLaws.{AreKnown, known_more, sizes_more, next_edge}
use Rattle.cost_rows.proofs.parts.push_edges.Goals as goal

pub edge_cost-cost-requires-clause-from : goal.edge_cost-cost-requires-clause-from
edge_cost-cost-requires-clause-from c =
    let ends = can_relax c.args.sound.now c.edges-edges.ensures.sound c.edges-edges.result.now c.edges-edges.ensures.edges c.loop-k.k (omega (arith, c.loop-k-test.true, c.requires.size, ap length c.edges-edges.ensures.edges, length-map c.args.sound.now.flow.edges position_edge)) in
    omega (arith, ends.forward, ends.within)

pub edge_cost-cost-requires-clause-to : goal.edge_cost-cost-requires-clause-to
edge_cost-cost-requires-clause-to c =
    (can_relax c.args.sound.now c.edges-edges.ensures.sound c.edges-edges.result.now c.edges-edges.ensures.edges c.loop-k.k (omega (arith, c.loop-k-test.true, c.requires.size, ap length c.edges-edges.ensures.edges, length-map c.args.sound.now.flow.edges position_edge))).within

pub loop-k-preserved : goal.loop-k-preserved
loop-k-preserved c =
    let it = c.args.sound.now in
    let costs = costs_at it c.args.costs.now in
    let vars = c.args.vars.now in
    let k = c.loop-k.k in
    let items = c.loop-k.parts.items in
    let edge = get_or c.edges-edges.result.now k no_edge in
    let low : k < length vars = omega (arith, c.loop-k-test.true) in
    let there : k < length it.flow.edges = omega (arith, low, c.requires.size) in
    let pushed : c.push.new.self.items ≡ items ++ times (pos c.edge_cost-cost.result) (get_or vars k 0) ∷ [] = search rules in
    record {
      whole = λ inside are.
          let rest = edge_row costs inside (drop (k + 1) it.flow.edges) (drop (k + 1) vars) in
          ap (λ (parts : List Part). parts ++ rest) pushed
          ∙ append_assoc items (times (pos c.edge_cost-cost.result) (get_or vars k 0) ∷ []) rest
          ∙ ap (λ n. items ++ times (pos n) (get_or vars k 0) ∷ rest) (c.edge_cost-cost.ensures inside are)
          ∙ sym (ap (λ (parts : List Part). items ++ parts) (next_edge costs inside it.flow.edges vars k (edge_at edge.from.0 edge.to.0) low there (edge_of_list it.flow.edges c.edges-edges.result.now c.edges-edges.ensures.edges k there)))
          ∙ c.loop-k.invariant.whole inside are;
      known = λ count within known. subst (AreKnown count) (sym pushed) (known_more count items (times (pos c.edge_cost-cost.result) (get_or vars k 0)) (c.loop-k.invariant.known count within known) (within k 0 low));
      small = omega (arith, ap sizes pushed, sizes_more items (times (pos c.edge_cost-cost.result) (get_or vars k 0)), c.loop-k.invariant.small);
    }

pub returns-clause-small : goal.returns-clause-small
returns-clause-small c = omega (arith, c.loop-k.invariant.small, c.loop-k.auto.k-end, c.requires.size, few_edges c.args.sound.now c.edges-edges.ensures.sound)
