use Rattle.std.proofs.Common.{◌≡◌, ◌∙◌, ℤ, List, [], ◌∷◌, ◌++◌, get_or, refl, ap, pos, FitsSigned, Some, None, rules, arith}
use Rattle.std.specs.Int.{w128}
use Rattle.std.proofs.lemmas.Int.{to_z-of_z}
use Rattle.std.proofs.lemmas.List.{take_more, append_assoc}
use Rattle.bound_trail.specs.Edges.{range_edges}
use Rattle.bound_trail.specs.declared.edge.Edge.{Edge}
use Rattle.bound_trail.proofs.made.range_edges_of.Goals as goal

joined : (ranges : List (ℤ × ℤ)) (range : ℤ × ℤ) → range_edges ranges ++ (record { bound = Some range.1; entry = None } ∷ (record { bound = Some range.0; entry = None } ∷ [])) ≡ range_edges (ranges ++ range ∷ [])
joined [] range = refl
joined (first ∷ ranges) range =
    let high : Edge = record { bound = Some first.1; entry = None } in
    let low : Edge = record { bound = Some first.0; entry = None } in
    ap (λ xs. high ∷ (low ∷ xs)) (joined ranges range)

two_more : (ranges : List (ℤ × ℤ)) (range : ℤ × ℤ) (edges one two : List Edge) → one ≡ edges ++ record { bound = Some range.1; entry = None } ∷ [] → two ≡ one ++ record { bound = Some range.0; entry = None } ∷ [] → edges ≡ range_edges ranges → two ≡ range_edges (ranges ++ range ∷ [])
two_more ranges range edges one two e f g =
    let high : Edge = record { bound = Some range.1; entry = None } in
    let low : Edge = record { bound = Some range.0; entry = None } in
    f ∙ ap (λ xs. xs ++ low ∷ []) (e ∙ ap (λ xs. xs ++ high ∷ []) g) ∙ append_assoc (range_edges ranges) (high ∷ []) (low ∷ []) ∙ joined ranges range

pub loop-low-preserved : goal.loop-low-preserved
loop-low-preserved c =
    let ranges = c.args.ranges.now in
    let range = get_or ranges c.loop-low.low-index (pos 0, pos 0) in
    let low_fits : FitsSigned w128 range.0 = search rules in
    let high_fits : FitsSigned w128 range.1 = search rules in
    let more = take_more ranges c.loop-low.low-index (pos 0, pos 0) (omega arith) in
    let one = simp to_z-of_z at c.in_ok-push.ensures.items in
    let two = simp to_z-of_z at c.in_ok-push-2.ensures.items in
    rw more (two_more _ _ _ _ _ one two c.loop-low.invariant)
