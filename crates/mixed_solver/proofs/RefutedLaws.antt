-- What refutes the bounds of the simplex refutes the trail, by leaves that are exact.
use Rattle.std.proofs.Common.{◌≡◌, List, [], ◌∷◌, ◌++◌, length, get_or, ℤ, All, refl, sym, subst, inl, inr, ⊎_elim, arith}
use Rattle.std.specs.Prelude.{Contains}
use Rattle.std.specs.List.{flat_map}
use Rattle.std.proofs.lemmas.List.{append-nil}
use Rattle.std.proofs.lemmas.List.Elements.{All-nil, All-cons, All-contains}
use Rattle.mix_system.specs.declared.literal.Lit.{Lit}
use Rattle.mix_system.specs.declared.farkas.Farkas.{Farkas}
use Rattle.mix_system.specs.System.{System, Exists}
use Rattle.mix_system.specs.Bounds.{IsIn, range_bounds}
use Rattle.bound_trail.specs.Trail.{box}
use Rattle.bounded_simplex.specs.Combination.{IsCalmBox, IsRefutation}
use Rattle.bounded_simplex.specs.InForce.{BoundChanges}
use Rattle.bounded_simplex.specs.Refutation.{box_of, SaysInForce}
use Rattle.proof_term.specs.declared.tree.Node.{Node}
use Rattle.proof_term.specs.declared.tree.Node.TheVariants.{Leaf, Split}
use Rattle.proof_term.specs.declared.tree.Tree.{Tree}
use Rattle.proof_term.specs.Refutes.{Refutes, low_half, high_half}
use Rattle.proof_term.specs.Steps.{NodeNames, StaysWithin, node_steps}
use Rattle.level_steps.proofs.AlikeLaws.{refutes_more}
use Rattle.level_theories.specs.Theory.{IsExact, NodeIsExact}
use Rattle.integer_splits.specs.Boxes.{with_splits, LeadTo, IsTreeTo, IsRefutingTree}
use Rattle.integer_splits.proofs.TreeLaws.{tree_leaf, tree_refutes}
use Rattle.mixed_solver.specs.declared.mixed.Mixed.{Mixed}
use Rattle.mixed_solver.specs.Mixed.{IsMixed}
use Rattle.mixed_solver.specs.Turns.{AreAllPut}
use Rattle.mixed_solver.proofs.ForceLaws.{in_force_is_put, in_force_without}
use Rattle.mixed_solver.proofs.TrailLaws.{changes_on_trail, bounds_on_trail, trail_in_bounds}

-- a leaf alone is a tree that refutes
pub leaf_refutes : (bounds : BoundChanges) (farkas : Farkas) (tree : Tree) → IsCalmBox bounds → IsRefutation bounds farkas.parts → tree.nodes ≡ Leaf farkas ∷ [] → IsRefutingTree bounds tree
leaf_refutes bounds farkas tree calm refuted is =
    let first : IsTreeTo bounds [] ([] ∷ []) = record {
      leads = refl;
      names = All-nil (NodeNames bounds.system);
      numbers = All-nil StaysWithin;
      counted = omega arith;
    } in
    let here : IsRefutation (with_splits bounds []) farkas.parts = subst (λ (xs : List Lit). IsRefutation (record bounds { changes = xs }) farkas.parts) (sym (append-nil bounds.changes)) refuted in
    tree_refutes bounds tree
    (subst (λ (ns : List Node). IsTreeTo bounds ns []) (sym is) (tree_leaf bounds [] [] [] farkas first here refuted.known (refuted.fit calm)))

module _ (it : Mixed) (mixed : IsMixed it) (all : AreAllPut it) where
  abbrev bounds : BoundChanges
  bounds = it.bounds.simplex.bounds

  abbrev lits : List Lit
  lits = it.level.search.trail.lits

  -- a literal that says a bound in force, and is true on the trail, is one of the trail's or said by a range
  exact_lit : (splits : List Lit) (lit : Lit) → Exists (length bounds.system.ranges) (length bounds.system.rows) lit.term → SaysInForce (with_splits bounds splits) lit → IsExact it.level.search lit
  exact_lit splits lit exists says on_trail =
      let over = mixed.working.kept.over in
      let system = it.level.system.now in
      let own : IsIn (range_bounds system.ranges ++ lits) lit = subst (λ (ranges : List (ℤ × ℤ)). IsIn (range_bounds ranges ++ lits) lit) over.ranges on_trail in
      let before = in_force_without bounds splits lit (trail_in_bounds system lits it.bounds mixed.bounds all lit own) says in
      ⊎_elim
      (λ put. inl (All-contains (Contains lits) bounds.changes lit (changes_on_trail system lits it.bounds mixed.bounds) put))
      (λ range. inr (subst (λ (ranges : List (ℤ × ℤ)). IsIn (range_bounds ranges) lit) (sym over.ranges) (subst (λ (s : System). IsIn (range_bounds s.ranges) lit) mixed.bounds.over range)))
      (in_force_is_put bounds lit exists before)

  exact_nodes : (nodes : List Node) (boxes left : List (List Lit)) → LeadTo bounds nodes boxes left → All (NodeIsExact it.level.search) nodes
  exact_nodes [] boxes left leads = All-nil (NodeIsExact it.level.search)
  exact_nodes (node ∷ nodes) [] left leads = absurd leads
  exact_nodes (Leaf farkas ∷ nodes) (splits ∷ boxes) left leads =
      All-cons (NodeIsExact it.level.search) (Leaf farkas) nodes
      (λ k d within. exact_lit splits (get_or farkas.parts k d).lit (leads.0.known k d within) (leads.0.says k d within))
      (exact_nodes nodes boxes left leads.1)
  exact_nodes (Split var at ∷ nodes) (splits ∷ boxes) left leads =
      All-cons (NodeIsExact it.level.search) (Split var at) nodes tt
      (exact_nodes nodes ((splits ++ low_half var at ∷ []) ∷ (splits ++ high_half var at ∷ []) ∷ boxes) left leads.1)

  module _ (tree : Tree) (refutes : IsRefutingTree bounds tree) where
    pub tree_exact : All (NodeIsExact it.level.search) tree.nodes
    tree_exact = exact_nodes tree.nodes ([] ∷ []) [] refutes.tree_to_none.leads

    pub tree_names : All (NodeNames it.level.system.now) tree.nodes
    tree_names = subst (λ (s : System). All (NodeNames s) tree.nodes) mixed.bounds.over refutes.tree_to_none.names

    pub tree_numbers : All StaysWithin (flat_map (node_steps it.level.system.now.rows) tree.nodes)
    tree_numbers = subst (λ (s : System). All StaysWithin (flat_map (node_steps s.rows) tree.nodes)) mixed.bounds.over refutes.tree_to_none.numbers

    pub tree_refutes_trail : Refutes it.level.system.now.rows tree (box it.level.search.trail)
    tree_refutes_trail =
        let over = mixed.working.kept.over in
        let system = it.level.system.now in
        let more : (lit : Lit) → IsIn (box_of bounds) lit → IsIn (box it.level.search.trail) lit =
        λ lit within. subst (λ (ranges : List (ℤ × ℤ)). IsIn (range_bounds ranges ++ lits) lit) (sym over.ranges) (bounds_on_trail system lits it.bounds mixed.bounds lit within) in
        refutes_more system.rows tree.nodes (box_of bounds ∷ []) (box it.level.search.trail ∷ []) (more, tt)
        (subst (λ (s : System). Refutes s.rows tree (box_of bounds)) mixed.bounds.over refutes.refutes)
