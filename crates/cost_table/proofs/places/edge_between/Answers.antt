use Rattle.std.proofs.Common.{◌≡◌, ◌<◌, ◌+◌, ◌-◌, ◌/◌, length, get_or, sym, ◌∙◌, subst, arith}
use Rattle.std.proofs.lemmas.List.{get_or_default}
use Rattle.std.proofs.lemmas.List.Elements.{All-from_get_or}
use Rattle.flow_graph.specs.declared.edge.Edge.{Edge}
use Rattle.flow_graph.specs.Sorted.{ComesBefore}
use Rattle.cost_table.proofs.HalvingLaws.{wanted, is_before, is_behind, is_found, before_middle, behind_middle, none_between}
use Rattle.cost_table.proofs.places.edge_between.Goals as goal

abbrev blank : Edge
blank = record { from = 0; to = 0 }

pub loop-low-preserved-then-comes_before : goal.loop-low-preserved-then-comes_before
loop-low-preserved-then-comes_before c =
    let edges = c.args.edges.now in
    let middle = c.loop-low.low + (c.loop-low.high - c.loop-low.low) / 2 in
    let within : middle < length edges = omega (arith, c.loop-low.invariant.within) in
    let here : ComesBefore (get_or edges middle blank) (wanted c.args.from c.args.to) = is_before (get_or edges middle blank) c.args.from c.args.to (sym c.comes_before.ensures ∙ c.if-comes_before.true) in
    record {
      within = c.loop-low.invariant.within;
      before = before_middle edges c.args.from c.args.to c.requires middle within (λ d. subst (λ (e : Edge). ComesBefore e (wanted c.args.from c.args.to)) (get_or_default edges middle blank d within) here);
      behind = c.loop-low.invariant.behind;
    }

pub returns-then-goes_between : goal.returns-then-goes_between
returns-then-goes_between c =
    let edges = c.args.edges.now in
    let middle = c.loop-low.low + (c.loop-low.high - c.loop-low.low) / 2 in
    let within : middle < length edges = omega (arith, c.loop-low.invariant.within) in
    let found = is_found (get_or edges middle blank) c.args.from c.args.to (sym c.goes_between.ensures ∙ c.if-goes_between.true) in
    (within, found.0, found.1)

pub loop-low-preserved : goal.loop-low-preserved
loop-low-preserved c =
    let edges = c.args.edges.now in
    let middle = c.loop-low.low + (c.loop-low.high - c.loop-low.low) / 2 in
    let within : middle < length edges = omega (arith, c.loop-low.invariant.within) in
    let here : ComesBefore (wanted c.args.from c.args.to) (get_or edges middle blank) = is_behind (get_or edges middle blank) c.args.from c.args.to (sym c.comes_before.ensures ∙ c.if-comes_before.false) (sym c.goes_between.ensures ∙ c.if-goes_between.false) in
    record {
      within = omega (arith, c.loop-low.invariant.within);
      before = c.loop-low.invariant.before;
      behind = behind_middle edges c.args.from c.args.to c.requires middle within (λ d. subst (λ (e : Edge). ComesBefore (wanted c.args.from c.args.to) e) (get_or_default edges middle blank d within) here);
    }

pub returns : goal.returns
returns c =
    All-from_get_or (λ (edge : Edge). (edge.from ≡ c.args.from) × (edge.to ≡ c.args.to) → ⊥) c.args.edges.now blank (λ k within.
    none_between c.args.edges.now c.args.from c.args.to c.loop-low.low c.loop-low.high (omega arith) c.loop-low.invariant.before c.loop-low.invariant.behind k blank within)
