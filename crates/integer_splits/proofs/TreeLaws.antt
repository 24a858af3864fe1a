-- Nodes that lead from boxes to boxes, one more at a time; those that lead to none refute.
use Rattle.std.proofs.Common.{◌≡◌, ℕ, ◌+◌, List, [], ◌∷◌, ◌++◌, append_assoc, length-append, map, ℤ, All, refl, sym, ◌∙◌, subst, ⊎_elim, arith}
use Rattle.std.specs.List.{flat_map}
use Rattle.std.proofs.lemmas.Grind.{flat_map-append}
use Rattle.std.proofs.lemmas.List.{append-nil}
use Rattle.std.proofs.lemmas.List.Elements.{All-push, All-append, All-weaker}
use Rattle.mix_system.specs.declared.literal.Lit.{Lit}
use Rattle.mix_system.specs.declared.farkas.Farkas.{Farkas}
use Rattle.mix_system.specs.declared.farkas.FarkasPart.{FarkasPart}
use Rattle.mix_system.specs.Bounds.{IsIn, range_bounds}
use Rattle.mix_system.specs.FarkasSum.{FarkasRefutes}
use Rattle.mix_system.proofs.BoundLaws.{IsIn-first, IsIn-there, IsIn-append_left, IsIn-append_right, IsIn-append_cases, IsIn-cons_cases}
use Rattle.proof_term.specs.declared.tree.Node.{Node}
use Rattle.proof_term.specs.declared.tree.Node.TheVariants.{Leaf, Split}
use Rattle.proof_term.specs.declared.tree.Tree.{Tree}
use Rattle.proof_term.specs.Refutes.{RefutesAll, low_half, high_half}
use Rattle.proof_term.specs.Steps.{node_steps, StaysWithin, NodeNames}
use Rattle.bounded_simplex.specs.InForce.{BoundChanges}
use Rattle.bounded_simplex.specs.Combination.{IsRefutation}
use Rattle.bounded_simplex.specs.Refutation.{box_of}
use Rattle.integer_splits.specs.Boxes.{with_splits, LeadTo, splits_of, IsTreeTo, IsRefutingTree}
use Rattle.integer_splits.specs.Halving.{IsHalving}

splits_append : (xs ys : List Node) → splits_of (xs ++ ys) ≡ splits_of xs + splits_of ys
splits_append [] ys = omega arith
splits_append (Leaf farkas ∷ xs) ys = splits_append xs ys
splits_append (Split var at ∷ xs) ys = omega (arith, splits_append xs ys)

module _ (base : BoundChanges) where
  lead_leaf : (nodes : List Node) (boxes : List (List Lit)) (splits : List Lit) (left : List (List Lit)) (farkas : Farkas) → LeadTo base nodes boxes (splits ∷ left)
      → IsRefutation (with_splits base splits) farkas.parts → LeadTo base (nodes ++ Leaf farkas ∷ []) boxes left
  lead_leaf [] boxes splits left farkas leads is = subst (λ bs. LeadTo base (Leaf farkas ∷ []) bs left) (sym leads) (is, refl)
  lead_leaf (node ∷ nodes) [] splits left farkas leads is = absurd leads
  lead_leaf (Leaf f ∷ nodes) (box ∷ boxes) splits left farkas leads is = (leads.0, lead_leaf nodes boxes splits left farkas leads.1 is)
  lead_leaf (Split v a ∷ nodes) (box ∷ boxes) splits left farkas leads is =
      (leads.0, lead_leaf nodes ((box ++ low_half v a ∷ []) ∷ (box ++ high_half v a ∷ []) ∷ boxes) splits left farkas leads.1 is)

  lead_split : (nodes : List Node) (boxes : List (List Lit)) (splits : List Lit) (left : List (List Lit)) (var : ℕ) (at : ℤ) → LeadTo base nodes boxes (splits ∷ left)
      → IsHalving (with_splits base splits) var at → LeadTo base (nodes ++ Split var at ∷ []) boxes ((splits ++ low_half var at ∷ []) ∷ (splits ++ high_half var at ∷ []) ∷ left)
  lead_split [] boxes splits left var at leads is =
      subst (λ bs. LeadTo base (Split var at ∷ []) bs ((splits ++ low_half var at ∷ []) ∷ (splits ++ high_half var at ∷ []) ∷ left)) (sym leads) (is, refl)
  lead_split (node ∷ nodes) [] splits left var at leads is = absurd leads
  lead_split (Leaf f ∷ nodes) (box ∷ boxes) splits left var at leads is = (leads.0, lead_split nodes boxes splits left var at leads.1 is)
  lead_split (Split v a ∷ nodes) (box ∷ boxes) splits left var at leads is =
      (leads.0, lead_split nodes ((box ++ low_half v a ∷ []) ∷ (box ++ high_half v a ∷ []) ∷ boxes) splits left var at leads.1 is)

  numbers_push : (nodes : List Node) (node : Node) → All StaysWithin (flat_map (node_steps base.system.rows) nodes) → All StaysWithin (node_steps base.system.rows node)
      → All StaysWithin (flat_map (node_steps base.system.rows) (nodes ++ node ∷ []))
  numbers_push nodes node before here =
      subst (All StaysWithin) (sym (flat_map-append (node_steps base.system.rows) nodes (node ∷ [])))
      (All-append StaysWithin (flat_map (node_steps base.system.rows) nodes) _ before (subst (All StaysWithin) (sym (append-nil (node_steps base.system.rows node))) here))

  -- one more leaf, or one more split
  pub tree_leaf : (nodes : List Node) (splits : List Lit) (left : List (List Lit)) (farkas : Farkas) → IsTreeTo base nodes (splits ∷ left) → IsRefutation (with_splits base splits) farkas.parts
      → NodeNames base.system (Leaf farkas) → All StaysWithin (node_steps base.system.rows (Leaf farkas)) → IsTreeTo base (nodes ++ Leaf farkas ∷ []) left
  tree_leaf nodes splits left farkas tree is names numbers = record {
    leads = lead_leaf nodes ([] ∷ []) splits left farkas tree.leads is;
    names = All-push (NodeNames base.system) nodes (Leaf farkas) tree.names names;
    numbers = numbers_push nodes (Leaf farkas) tree.numbers numbers;
    counted = omega (arith, tree.counted, length-append nodes (Leaf farkas ∷ []), splits_append nodes (Leaf farkas ∷ []));
  }

  pub tree_split : (nodes : List Node) (splits : List Lit) (left : List (List Lit)) (var : ℕ) (at : ℤ) → IsTreeTo base nodes (splits ∷ left) → IsHalving (with_splits base splits) var at
      → All StaysWithin (node_steps base.system.rows (Split var at)) → IsTreeTo base (nodes ++ Split var at ∷ []) ((splits ++ low_half var at ∷ []) ∷ (splits ++ high_half var at ∷ []) ∷ left)
  tree_split nodes splits left var at tree is numbers = record {
    leads = lead_split nodes ([] ∷ []) splits left var at tree.leads is;
    names = All-push (NodeNames base.system) nodes (Split var at) tree.names is.within;
    numbers = numbers_push nodes (Split var at) tree.numbers numbers;
    counted = omega (arith, tree.counted, length-append nodes (Split var at ∷ []), splits_append nodes (Split var at ∷ []));
  }

  pub splits_push : (nodes : List Node) (var : ℕ) (at : ℤ) → splits_of (nodes ++ Split var at ∷ []) ≡ splits_of nodes + 1
  splits_push nodes var at = splits_append nodes (Split var at ∷ [])

  pub leaves_push : (nodes : List Node) (farkas : Farkas) → splits_of (nodes ++ Leaf farkas ∷ []) ≡ splits_of nodes
  leaves_push nodes farkas = splits_append nodes (Leaf farkas ∷ []) ∙ omega arith

  -- the box of the rules of a proof: each split's bound stands before those above it
  box_after : List Lit → List Lit → List Lit
  box_after box [] = box
  box_after box (lit ∷ splits) = box_after (lit ∷ box) splits

  after_push : (box splits : List Lit) (lit : Lit) → box_after box (splits ++ lit ∷ []) ≡ lit ∷ box_after box splits
  unfolding box_after
  after_push box [] lit = refl
  after_push box (first ∷ splits) lit = after_push (first ∷ box) splits lit

  after_in : (box splits : List Lit) (lit : Lit) → IsIn (box ++ splits) lit → IsIn (box_after box splits) lit
  unfolding box_after
  after_in box [] lit within = subst (λ b. IsIn b lit) (append-nil box) within
  after_in box (first ∷ splits) lit within =
      after_in (first ∷ box) splits lit
      (⊎_elim (λ old. IsIn-append_left (first ∷ box) splits lit (IsIn-there first box lit old))
      (λ new. ⊎_elim (λ here. IsIn-append_left (first ∷ box) splits lit (IsIn-first first box lit here)) (λ later. IsIn-append_right (first ∷ box) splits lit later)
      (IsIn-cons_cases first splits lit new)) (IsIn-append_cases box (first ∷ splits) lit within))

  box_is : List Lit → List Lit
  box_is splits = box_after (box_of base) splits

  refutes_box : (splits : List Lit) (parts : List FarkasPart) → FarkasRefutes base.system.rows (box_of (with_splits base splits)) parts → FarkasRefutes base.system.rows (box_is splits) parts
  unfolding box_is
  refutes_box splits parts is = record {
    in_box = All-weaker (λ (part : FarkasPart). IsIn (box_of (with_splits base splits)) part.lit) (λ (part : FarkasPart). IsIn (box_is splits) part.lit)
        (λ part within. after_in (box_of base) splits part.lit (subst (λ b. IsIn b part.lit) (sym (append_assoc (range_bounds base.system.ranges) base.changes splits)) within)) parts is.in_box;
    vanishes = is.vanishes;
    contradictory = is.contradictory;
  }

  leads_refute : (nodes : List Node) (boxes : List (List Lit)) → LeadTo base nodes boxes [] → RefutesAll base.system.rows nodes (map box_is boxes)
  unfolding box_is
  leads_refute [] boxes leads = subst (λ bs. RefutesAll base.system.rows [] (map box_is bs)) (sym leads) tt
  leads_refute (node ∷ nodes) [] leads = absurd leads
  leads_refute (Leaf farkas ∷ nodes) (splits ∷ boxes) leads = (refutes_box splits farkas.parts leads.0.refutes, leads_refute nodes boxes leads.1)
  leads_refute (Split var at ∷ nodes) (splits ∷ boxes) leads =
      let rest = leads_refute nodes ((splits ++ low_half var at ∷ []) ∷ (splits ++ high_half var at ∷ []) ∷ boxes) leads.1 in
      let low = after_push (box_of base) splits (low_half var at) in
      let high = after_push (box_of base) splits (high_half var at) in
      subst (λ b. RefutesAll base.system.rows nodes ((low_half var at ∷ box_is splits) ∷ b ∷ map box_is boxes)) high
      (subst (λ b. RefutesAll base.system.rows nodes (b ∷ box_is (splits ++ high_half var at ∷ []) ∷ map box_is boxes)) low rest)

  pub tree_refutes : (tree : Tree) → IsTreeTo base tree.nodes [] → IsRefutingTree base tree
  unfolding box_is box_after
  tree_refutes tree is = record {
    refutes = leads_refute tree.nodes ([] ∷ []) is.leads;
    tree_to_none = is;
  }
