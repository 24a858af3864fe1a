use Rattle.std.proofs.Common.{◌≡◌, ◌<◌, ◌+◌, ◌++◌, ◌∷◌, [], ◌∙◌, ℕ, List, true, false, map, pos, neg_ℤ, get_or, length, sym, ap, subst, arith, rules, eqb}
use Rattle.std.specs.Prelude.{zip}
use Rattle.std.specs.List.{filter}
use Rattle.mix_system.specs.declared.row.Part.{Part}
use Rattle.ll_verifier.specs.declared.order.PositionEdge.{PositionEdge}
use Rattle.wrap_rows.specs.Layout.{times}
use Rattle.path_encoding.specs.FlowRows.{enters}
use Rattle.path_encoding.proofs.PairLaws.{pairs_from, passed, skipped, all_passed}
use Rattle.path_encoding.proofs.rows.in_parts.Goals as goal

pub loop-item-preserved-then-not-is_in : goal.loop-item-preserved-then-not-is_in
loop-item-preserved-then-not-is_in c =
    let edges = c.args.edges.now in
    let vars = c.args.vars.now in
    let i = c.loop-item.item in
    let none : PositionEdge = record { from = record { 0 = 0 }; to = record { 0 = 0 } } in
    let low : i < length edges = c.loop-item-test.true in
    let fails : eqb (get_or edges i none).to.0 c.args.at ≡ false = search rules in
    skipped (enters c.args.at) (λ (edge : PositionEdge × ℕ). times (pos 1) edge.1) c.loop-item.parts.items edges vars i none 0 c.loop-item.invariant low (omega (arith, low, c.requires)) fails

pub loop-item-preserved : goal.loop-item-preserved
loop-item-preserved c =
    let edges = c.args.edges.now in
    let vars = c.args.vars.now in
    let i = c.loop-item.item in
    let none : PositionEdge = record { from = record { 0 = 0 }; to = record { 0 = 0 } } in
    let low : i < length edges = c.loop-item-test.true in
    let passes : eqb (get_or edges i none).to.0 c.args.at ≡ true = search rules in
    let part_is : c.times.result ≡ times (pos 1) (get_or vars i 0) = search rules in
    let pushed = c.in_ok-push.ensures.items ∙ ap (λ (part : Part). c.loop-item.parts.items ++ part ∷ []) part_is in
    subst (λ (now : List Part). now ++ map (λ (edge : PositionEdge × ℕ). times (pos 1) edge.1) (filter (enters c.args.at) (pairs_from edges vars (i + 1))) ≡ map (λ (edge : PositionEdge × ℕ). times (pos 1) edge.1) (filter (enters c.args.at) (zip edges vars))) (sym pushed)
    (passed (enters c.args.at) (λ (edge : PositionEdge × ℕ). times (pos 1) edge.1) c.loop-item.parts.items edges vars i none 0 c.loop-item.invariant low (omega (arith, low, c.requires)) passes)

pub returns : goal.returns
returns c =
    let edges = c.args.edges.now in
    let vars = c.args.vars.now in
    let none : PositionEdge = record { from = record { 0 = 0 }; to = record { 0 = 0 } } in
    let made = all_passed (enters c.args.at) (λ (edge : PositionEdge × ℕ). times (pos 1) edge.1) c.loop-item.parts.items edges vars c.loop-item.item none 0 c.loop-item.invariant (omega (arith, c.loop-item-test.false)) in
    c.in_ok-push-2.ensures.items ∙ ap (λ (part : Part). c.loop-item.parts.items ++ part ∷ []) c.times-2.ensures ∙ ap (λ (front : List Part). front ++ times (neg_ℤ (pos 1)) c.args.block ∷ []) made
