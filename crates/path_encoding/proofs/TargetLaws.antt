-- The labels to which a block may go, and the edges out of it.
use Rattle.std.proofs.Common.{◌≡◌, ◌<◌, ◌&&◌, ⊎_elim, ℕ, zero, suc, eqb, Bool, true, false, List, [], ◌∷◌, length, get_or, map, Option, Some, refl, sym, ◌∙◌, ap, subst, arith}
use Rattle.std.specs.Option.{unwrap_or}
use Rattle.std.specs.Map.{lookup}
use Rattle.std.specs.List.{Contains}
use Rattle.std.proofs.lemmas.Bool.{true≢false, cond_both, cases_lt}
use Rattle.std.proofs.lemmas.Bool.Decides.{Decides-eqb}
use Rattle.std.proofs.lemmas.List.{get_or-map}
use Rattle.std.proofs.lemmas.List.Elements.{Contains-get_or}
use Rattle.flow_graph.specs.Paths.{HasEdge}
use Rattle.flow_rules.proofs.OrderLaws.{places_within, places_apart}
use Rattle.ll_tree.specs.declared.block.Block.{Block}
use Rattle.ll_rules.specs.Items.{labels_of, targets_of}
use Rattle.name_table.specs.Names.{place_of}
use Rattle.ll_edges.specs.Graph.{IsBlockAt}
use Rattle.ll_links.specs.declared.link.BlockId.{BlockId}
use Rattle.ll_links.specs.Links.{block_id}
use Rattle.ll_flow.proofs.PlaceLaws.{no_item, cons_cases, place_is, count, found_at, same_label}
use Rattle.ll_verifier.specs.declared.order.PositionEdge.{PositionEdge}
use Rattle.ll_verifier.specs.Order.{position_edge}
use Rattle.ll_verifier.specs.Sound.{SoundFunc, IsSound}
use Rattle.ir_runs.proofs.EntryLaws.{target_there}
use Rattle.ir_runs.proofs.MemberLaws.{in_here, in_there}
use Rattle.sound_costs.proofs.EdgeLaws.{labels_differ}
use Rattle.portion_cuts.specs.Paths.{place_at, label_at}
use Rattle.portion_cuts.proofs.WalkPaths.{position_of}
use Rattle.path_encoding.specs.declared.spots.PathSpots.{PathSpots}
use Rattle.path_encoding.specs.Spots.{no_block, block_at, edge_vars, place_with, edge_to, AreSpotsOf}
use Rattle.path_encoding.proofs.GraphLaws.{block_is, edge_of, var_of, single}

-- ---- the one of some pairs whose key passes

found_one : {K : Type 0} (test : K → Bool) (pairs : List (K × ℕ)) (pair : K × ℕ) → Contains pairs pair → test pair.0 ≡ true → ((other : K × ℕ) → Contains pairs other → test other.0 ≡ true → other ≡ pair) → unwrap_or (lookup test pairs) 0 ≡ pair.1
found_one test [] pair there passes only = absurd (no_item pair there)
found_one {K = K} test (first ∷ pairs) pair there passes only =
    cond_both (test first.0) (Some first.1) (lookup test pairs) (λ (found : Option ℕ). unwrap_or found 0 ≡ pair.1)
    (λ yes. ap (λ (p : K × ℕ). p.1) (only first (in_here first pairs) yes))
    (λ no. ⊎_elim (λ same. absurd (true≢false (sym passes ∙ ap (λ (p : K × ℕ). test p.0) (sym same) ∙ no)))
    (λ later. found_one test pairs pair later passes (λ other other_there. only other (in_there first other pairs other_there))) (cons_cases first pairs pair there))

both_parts : (a b : Bool) → (a && b) ≡ true → (a ≡ true) × (b ≡ true)
both_parts true b is = (refl, is)
both_parts false b is = absurd (true≢false (sym is))

place_of_id : (order : List ℕ) (at : ℕ) → (get_or (map block_id order) at (block_id 0)).0 ≡ get_or order at 0
place_of_id [] at = refl
place_of_id (place ∷ order) zero = refl
place_of_id (place ∷ order) (suc at) = place_of_id order at

blocks_at : (blocks : List Block) (place : ℕ) (default : Block) → place < length blocks → IsBlockAt blocks place (get_or blocks place default)
blocks_at [] place default low = absurd (omega (arith, low))
blocks_at (block ∷ blocks) zero default low = refl
blocks_at (block ∷ blocks) (suc place) default low = blocks_at blocks place default (omega (arith, low))

-- A target of the block at a position: the edge to it, with its variable, and the block that it is.
pub record IsTarget (it : SoundFunc) (spots : PathSpots) (at : ℕ) (label : List ℕ) : Type 0 where
  pub edge : PositionEdge × ℕ
  pub there : Contains (edge_vars it spots) edge
  pub from : edge.0.from.0 ≡ at
  pub place : place_with it.func label ≡ place_at it edge.0.to.0
  pub var : edge_to it spots at (place_with it.func label) ≡ edge.1
  pub block : label ≡ (block_at it edge.0.to.0).label

module _ (it : SoundFunc) (sound : IsSound it) where
  pub place_low : (at : ℕ) → at < length it.flow.order → place_at it at < length it.func.blocks
  place_low at low = places_within (length it.func.blocks) it.flow.graph it.flow.order sound.flow.flow.kept at 0 low

  pub label_is : (at : ℕ) → at < length it.flow.order → (block_at it at).label ≡ label_at it at
  label_is at low = sym (get_or-map (λ (block : Block). block.label) it.func.blocks (place_at it at) no_block [] (place_low at low))

  -- positions of one place are one
  pub one_position : (a b : ℕ) → a < length it.flow.order → b < length it.flow.order → place_at it a ≡ place_at it b → a ≡ b
  one_position a b a_low b_low same =
      let apart = places_apart (length it.func.blocks) it.flow.graph it.flow.order sound.flow.flow.kept in
      ⊎_elim (λ below. absurd (apart a b 0 below b_low same))
      (λ above. ⊎_elim (λ below. absurd (apart b a 0 below a_low (sym same))) (λ more. omega (arith, above, more)) (cases_lt b a)) (cases_lt a b)

  pub one_block : (a b : ℕ) → a < length it.flow.order → b < length it.flow.order → (block_at it a).label ≡ (block_at it b).label → a ≡ b
  one_block a b a_low b_low same =
      one_position a b a_low b_low
      (same_label it.func (labels_differ it.func sound.rules.names) (place_at it a) (place_at it b) (place_low a a_low) (place_low b b_low) (sym (label_is a a_low) ∙ same ∙ label_is b b_low))

  module _ (spots : PathSpots) (are : AreSpotsOf it spots) where
    abbrev order : List BlockId
    order = map block_id it.flow.order

    abbrev is_to : (at place : ℕ) → PositionEdge → Bool
    is_to at place edge = eqb edge.from.0 at && eqb (get_or order edge.to.0 (block_id 0)).0 place

    within : (edge : PositionEdge × ℕ) → Contains (edge_vars it spots) edge → edge.0.to.0 < length it.flow.order
    within edge there = ((sound.flow.flow.edges.same edge.0.from.0 edge.0.to.0).0 (edge_of it sound spots are edge there)).1

    -- the variable of an edge is found
    pub var_found : (edge : PositionEdge × ℕ) → Contains (edge_vars it spots) edge → edge_to it spots edge.0.from.0 (place_at it edge.0.to.0) ≡ edge.1
    var_found edge there =
        found_one (is_to edge.0.from.0 (place_at it edge.0.to.0)) (edge_vars it spots) edge there
        (λ i. ((Decides-eqb edge.0.from.0 edge.0.from.0).1 refl) i && ((Decides-eqb (get_or order edge.0.to.0 (block_id 0)).0 (place_at it edge.0.to.0)).1 (place_of_id it.flow.order edge.0.to.0)) i)
        (λ other other_there passes.
        let parts = both_parts (eqb other.0.from.0 edge.0.from.0) (eqb (get_or order other.0.to.0 (block_id 0)).0 (place_at it edge.0.to.0)) passes in
        let from : other.0.from.0 ≡ edge.0.from.0 = (Decides-eqb other.0.from.0 edge.0.from.0).0 parts.0 in
        let place : place_at it other.0.to.0 ≡ place_at it edge.0.to.0 = sym (place_of_id it.flow.order other.0.to.0) ∙ (Decides-eqb (get_or order other.0.to.0 (block_id 0)).0 (place_at it edge.0.to.0)).0 parts.1 in
        let to : other.0.to.0 ≡ edge.0.to.0 = one_position other.0.to.0 edge.0.to.0 (within other other_there) (within edge there) place in
        let ends : other.0 ≡ edge.0 = λ i. record { from = record { 0 = from i }; to = record { 0 = to i } } in
        single it sound spots are other edge other_there there ends)

    pub target : (at : ℕ) → at < length it.flow.order → (label : List ℕ) → Contains (targets_of (block_at it at).end) label → IsTarget it spots at label
    target at low label named =
        let block = block_at it at in
        let here : Contains it.func.blocks block = Contains-get_or it.func.blocks (place_at it at) no_block (place_low at low) in
        let (to, to_there, to_is) = target_there it.func sound.rules block here label named in
        let (next, next_low, next_is) = position_of it sound to to_there in
        let different = labels_differ it.func sound.rules.names in
        let place : place_of label (labels_of it.func) ≡ Some (place_at it next) = ap (λ (name : List ℕ). place_of name (labels_of it.func)) (sym (next_is ∙ to_is)) ∙ place_is (labels_of it.func) different (place_at it next) (omega (arith, place_low next next_low, count it.func)) in
        let leads = (sound.flow.edges (place_at it at) (place_at it next)).1 (block, blocks_at it.func.blocks (place_at it at) no_block (place_low at low), (label, named, place)) in
        let has : HasEdge it.flow.edges at next = (sound.flow.flow.edges.same at next).1 (low, next_low, leads) in
        let (var, there) = var_of it sound spots are at next has in
        let edge : PositionEdge × ℕ = (position_edge (record { from = at; to = next }), var) in
        let with_is : place_with it.func label ≡ place_at it next = ap (λ (found : Option ℕ). unwrap_or found 0) place in
        record {
          edge = edge;
          there = there;
          from = refl;
          place = with_is;
          var = ap (edge_to it spots at) with_is ∙ var_found edge there;
          block = sym to_is ∙ sym next_is ∙ sym (label_is next next_low);
        }

    -- targets with one place have one label
    pub one_target : (at : ℕ) → at < length it.flow.order → (label other : List ℕ) → Contains (targets_of (block_at it at).end) label → Contains (targets_of (block_at it at).end) other → place_with it.func label ≡ place_with it.func other → label ≡ other
    one_target at low label other named other_named same =
        let mine = target at low label named in
        let theirs = target at low other other_named in
        let to : mine.edge.0.to.0 ≡ theirs.edge.0.to.0 = one_position mine.edge.0.to.0 theirs.edge.0.to.0 (within mine.edge mine.there) (within theirs.edge theirs.there) (sym mine.place ∙ same ∙ theirs.place) in
        mine.block ∙ ap (λ (n : ℕ). (block_at it n).label) to ∙ sym theirs.block

    -- an edge leads to a target
    pub led_to : (edge : PositionEdge × ℕ) → Contains (edge_vars it spots) edge → Contains (targets_of (block_at it edge.0.from.0).end) (block_at it edge.0.to.0).label
    led_to edge there =
        let ends = (sound.flow.flow.edges.same edge.0.from.0 edge.0.to.0).0 (edge_of it sound spots are edge there) in
        let (block, at, (name, named, place)) = (sound.flow.edges (place_at it edge.0.from.0) (place_at it edge.0.to.0)).0 ends.2 in
        let label : name ≡ (block_at it edge.0.to.0).label = sym ((found_at name (labels_of it.func) (place_at it edge.0.to.0) place).1) ∙ sym (label_is edge.0.to.0 ends.1) in
        let here : block_at it edge.0.from.0 ≡ block = block_is it.func.blocks (place_at it edge.0.from.0) block no_block at in
        subst (λ (b : Block). Contains (targets_of b.end) (block_at it edge.0.to.0).label) (sym here) (subst (λ (n : List ℕ). Contains (targets_of block.end) n) label named)
