-- What the numbers of blocks and edges say of the path that a point takes.
use Rattle.std.proofs.Common.{◌≡◌, ◌<◌, ⊎_elim, ℕ, ℤ, pos, Bool, true, false, List, ◌++◌, length, get_or, map, refl, sym, ◌∙◌, ap, subst, arith}
use Rattle.std.specs.Prelude.{◌↔◌, zip}
use Rattle.std.specs.List.{All, Contains}
use Rattle.std.proofs.lemmas.Bool.{true≢false}
use Rattle.std.proofs.lemmas.List.{length-map, get_or-map, get_or_default}
use Rattle.std.proofs.lemmas.List.Elements.{All-contains, All-get_or, Contains-get_or, Contains-append_left, Contains-append_right}
use Rattle.std.proofs.lemmas.Slice.Zip.{get_or-zip}
use Rattle.mix_system.specs.Row.{number_at}
use Rattle.flow_graph.specs.declared.edge.Edge.{Edge}
use Rattle.ll_verifier.specs.declared.order.PositionEdge.{PositionEdge}
use Rattle.ll_verifier.specs.Order.{position_edge}
use Rattle.ll_verifier.specs.Sound.{SoundFunc}
use Rattle.portion_cuts.specs.Paths.{passes, takes}
use Rattle.wrap_rows.specs.Piece.{mark_of}
use Rattle.wrap_rows.specs.Vars.{IsMark}
use Rattle.wrap_rows.proofs.BlockLaws.{mark_cases}
use Rattle.path_encoding.specs.declared.spots.PathSpots.{PathSpots}
use Rattle.path_encoding.specs.Spots.{block_var, edge_vars, AreSpotsOf}
use Rattle.path_encoding.specs.Paths.{Steps, IsTaken, AreMarks}
use Rattle.path_encoding.proofs.LayingLaws.{zip_low}
use Rattle.path_encoding.proofs.MemberLaws.{second_in}
use Rattle.path_encoding.proofs.PutPathLaws.{passed_there, there_passed, taken_steps, steps_taken}

-- ---- points with the same numbers there

module _ (it : SoundFunc) (spots : PathSpots) (are : AreSpotsOf it spots) (point other : List ℤ) (same : (var : ℕ) → Contains (spots.blocks.items ++ spots.edges.items) var → number_at other var ≡ number_at point var) where
  block_same : (i d : ℕ) → i < length spots.blocks.items → number_at other (get_or spots.blocks.items i d) ≡ number_at point (get_or spots.blocks.items i d)
  block_same i d low = same (get_or spots.blocks.items i d) (Contains-append_left spots.blocks.items spots.edges.items (get_or spots.blocks.items i d) (Contains-get_or spots.blocks.items i d low))

  edge_same : (var : ℕ) → Contains spots.edges.items var → number_at other var ≡ number_at point var
  edge_same var there = same var (Contains-append_right spots.blocks.items spots.edges.items var there)

  pub marks_kept : AreMarks spots point → AreMarks spots other
  marks_kept marks = record {
    blocks = λ i d low. subst IsMark (sym (block_same i d low)) (marks.blocks i d low);
    edges = λ i d low. subst IsMark (sym (edge_same (get_or spots.edges.items i d) (Contains-get_or spots.edges.items i d low))) (marks.edges i d low);
  }

  pub taken_kept : (path : List ℕ) → IsTaken it spots point path → IsTaken it spots other path
  taken_kept path is = record {
    is_path = is.is_path;
    ends = is.ends;
    visited = λ at low.
        let here = block_same at 0 (omega (arith, low, are.blocks)) in
        let was = is.visited at low in
        (λ one. was.0 (sym here ∙ one), λ there. here ∙ was.1 there);
    taken = λ k d low.
        let edge = get_or (edge_vars it spots) k d in
        let here = edge_same edge.1 (second_in (map position_edge it.flow.edges) spots.edges.items edge (Contains-get_or (edge_vars it spots) k d low)) in
        let was = is.taken k d low in
        (λ one. was.0 (sym here ∙ one), λ steps. here ∙ was.1 steps);
  }

-- ---- what a path marks

marked : (n : ℤ) (test : Bool) (P : Type 0) → IsMark n → ((n ≡ pos 1) ↔ P) → (test ≡ true → P) → (P → test ≡ true) → n ≡ mark_of test
marked n true P is says of_test to_test = says.1 (of_test refl)
marked n false P is says of_test to_test = ⊎_elim (λ off. off) (λ one. absurd (true≢false (sym (to_test (says.0 one))))) (mark_cases n is)

module _ (it : SoundFunc) (spots : PathSpots) (are : AreSpotsOf it spots) (point : List ℤ) (marks : AreMarks spots point) (path : List ℕ) (is : IsTaken it spots point path) where
  pub block_marked : (at : ℕ) → at < length spots.blocks.items → number_at point (get_or spots.blocks.items at 0) ≡ mark_of (passes path at)
  block_marked at low = marked (number_at point (get_or spots.blocks.items at 0)) (passes path at) (Contains path at) (marks.blocks at 0 low) (is.visited at (omega (arith, low, are.blocks))) (passed_there path at) (there_passed path at)

  pub edge_marked : (k : ℕ) (edge : Edge) → k < length spots.edges.items → get_or it.flow.edges k edge ≡ edge → number_at point (get_or spots.edges.items k 0) ≡ mark_of (takes path edge)
  edge_marked k edge low read =
      let edges = map position_edge it.flow.edges in
      let first : k < length it.flow.edges = omega (arith, low, are.edges) in
      let low_too : k < length edges = omega (arith, first, length-map it.flow.edges position_edge) in
      let here : get_or edges k (position_edge edge) ≡ position_edge edge = get_or-map position_edge it.flow.edges k edge (position_edge edge) first ∙ ap position_edge read in
      let pair : get_or (edge_vars it spots) k (position_edge edge, 0) ≡ (position_edge edge, get_or spots.edges.items k 0) = get_or-zip edges spots.edges.items k (position_edge edge, 0) low_too low ∙ (λ i. (here i, get_or spots.edges.items k 0)) in
      let says = subst (λ (e : PositionEdge × ℕ). (number_at point e.1 ≡ pos 1) ↔ Steps path e.0.from.0 e.0.to.0) pair (is.taken k (position_edge edge, 0) (zip_low edges spots.edges.items k low_too low)) in
      marked (number_at point (get_or spots.edges.items k 0)) (takes path edge) (Steps path edge.from edge.to) (marks.edges k 0 low) says (taken_steps path edge) (steps_taken path edge)
