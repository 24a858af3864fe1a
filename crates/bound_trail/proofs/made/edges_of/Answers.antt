use Rattle.std.proofs.Common.{◌≡◌, ◌∙◌, ℕ, ◌+◌, ◌*◌, List, [], ◌∷◌, ◌++◌, replicate, ap, arith}
use Rattle.std.proofs.lemmas.List.{append_assoc, replicate-append-replicate}
use Rattle.bound_trail.specs.Edges.{range_edges, no_edge}
use Rattle.bound_trail.specs.declared.edge.Edge.{Edge}
use Rattle.bound_trail.proofs.made.edges_of.Goals as goal

two_blanks : (front edges one two : List Edge) (n : ℕ) → one ≡ edges ++ no_edge ∷ [] → two ≡ one ++ no_edge ∷ [] → edges ≡ front ++ replicate (2 * n) no_edge → two ≡ front ++ replicate (2 * (n + 1)) no_edge
two_blanks front edges one two n e f g =
    let count : 2 * n + 2 ≡ 2 * (n + 1) = omega arith in
    f ∙ ap (λ xs. xs ++ no_edge ∷ []) (e ∙ ap (λ xs. xs ++ no_edge ∷ []) g) ∙ append_assoc (front ++ replicate (2 * n) no_edge) (no_edge ∷ []) (no_edge ∷ []) ∙ append_assoc front (replicate (2 * n) no_edge) (replicate 2 no_edge) ∙ ap (λ xs. front ++ xs) (replicate-append-replicate (2 * n) 2 no_edge ∙ ap (λ m. replicate m no_edge) count)

pub loop-preserved : goal.loop-preserved
loop-preserved c =
    two_blanks (range_edges c.args.ranges.now) _ _ _ c.loop.counter c.in_ok-push.ensures.items c.in_ok-push-2.ensures.items c.loop.invariant
