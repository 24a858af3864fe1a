use Rattle.std.proofs.Common.{◌≡◌, ◌<◌, ◌≤◌, ◌+◌, ◌++◌, ◌∙◌, ℕ, List, eqb, false, length, get_or, map, refl, sym, ap, subst, arith}
use Rattle.std.proofs.lemmas.List.{length-map, append-nil}
use Rattle.ll_verifier.specs.declared.order.PositionEdge.{PositionEdge}
use Rattle.ll_verifier.specs.Order.{position_edge}
use Rattle.portion_cuts.proofs.BestLaws.{no_edge, can_relax}
use Rattle.wrap_rows.specs.declared.phi.Incoming.{Incoming}
use Rattle.value_pieces.specs.Pieces.{incoming_of}
use Rattle.value_pieces.proofs.PairLaws.{apart, made_skipped, made_all}
use Rattle.value_pieces.proofs.phi.phi_piece.Goals as goal

pub loop-k-preserved-then-edge-at : goal.loop-k-preserved-then-edge-at
loop-k-preserved-then-edge-at c =
    let it = c.args.sound.now in
    let spots = c.args.spots.now in
    let at = c.args.at in
    let k = c.loop-k.k in
    let list = map position_edge it.flow.edges in
    let is : c.edges-edge-items.result.now ≡ list = c.edges-edge-items.ensures.edges in
    let low : k < length list = subst (λ (edges : List PositionEdge). k < length edges) is c.loop-k-test.true in
    let var_low : k < length spots.edges.items = omega (arith, low, length-map it.flow.edges position_edge, c.requires.edges) in
    let fails : eqb (get_or list k no_edge).to.0 at ≡ false = subst (λ (edges : List PositionEdge). eqb (get_or edges k no_edge).to.0 at ≡ false) is (apart (get_or c.edges-edge-items.result.now k no_edge).to.0 at c.if-edge-at.true) in
    let skipped = made_skipped (λ (edge : PositionEdge × ℕ). eqb edge.0.to.0 at) (incoming_of it spots c.args.phi.now) list spots.edges.items k no_edge 0 low var_low fails in
    ap (λ (rest : List Incoming). c.loop-k.incoming.items ++ rest) skipped ∙ c.loop-k.invariant

pub coming_vars-requires-clause-from : goal.coming_vars-requires-clause-from
coming_vars-requires-clause-from c =
    let ends = can_relax c.args.sound.now c.edges-edge-items.ensures.sound c.edges-edge-items.result.now c.edges-edge-items.ensures.edges c.loop-k.k c.loop-k-test.true in
    omega (arith, ends.forward, ends.within)

pub returns : goal.returns
returns c =
    let it = c.args.sound.now in
    let spots = c.args.spots.now in
    let at = c.args.at in
    let items = c.loop-k.incoming.items in
    let list = map position_edge it.flow.edges in
    let past : length list ≤ c.loop-k.k = subst (λ (edges : List PositionEdge). length edges ≤ c.loop-k.k) c.edges-edge-items.ensures.edges c.loop-k-test.false in
    let all = made_all (λ (edge : PositionEdge × ℕ). eqb edge.0.to.0 at) (incoming_of it spots c.args.phi.now) list spots.edges.items c.loop-k.k items past in
    record {
      of = record { width = c.args.phi.now.width; incoming = c.loop-k.incoming };
      is = refl;
      width = refl;
      incoming = sym (append-nil items) ∙ sym all ∙ c.loop-k.invariant;
    }
