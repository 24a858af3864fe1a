-- What a block uses is given by a parameter, by a block before it in the kept order, or by an item before it.
use Rattle.std.proofs.Common.{◌≡◌, ◌⊎◌, inl, inr, ◌<◌, ◌≤◌, ⊎_elim, ℕ, List, [], ◌∷◌, ◌++◌, length, map, refl, sym, ◌∙◌, ap, subst, arith}
use Rattle.std.specs.Prelude.{Contains, flat_map}
use Rattle.std.proofs.lemmas.Bool.{cases_lt}
use Rattle.std.proofs.lemmas.List.{map-append}
use Rattle.std.proofs.lemmas.List.Elements.{All-contains, Contains-append_cases}
use Rattle.flow_graph.specs.declared.edge.Edge.{Edge}
use Rattle.flow_graph.specs.Paths.{HasEdge}
use Rattle.flow_rules.proofs.OrderLaws.{flow_forward, places_apart}
use Rattle.ll_tree.specs.declared.block.Block.{Block}
use Rattle.ll_tree.specs.declared.block.Phi.{Phi}
use Rattle.ll_tree.specs.declared.block.PhiEntry.{PhiEntry}
use Rattle.ll_tree.specs.declared.block.Operand.TheVariants as operand
use Rattle.ll_rules.specs.Items.{Item, OfPhi, items_of, Part, Use}
use Rattle.ll_items.specs.Sites.{Site}
use Rattle.ll_flow.specs.declared.uses.Moment.TheVariants.{At}
use Rattle.ll_flow.specs.Paths.{label_of, GoesTo, GoesOn, IsPathTo}
use Rattle.ll_flow.specs.Uses.{part_uses, item_uses}
use Rattle.ll_flow.proofs.PlaceLaws.{no_item, cons_cases, led, same_label}
use Rattle.ll_verifier.specs.Sound.{SoundFunc, IsSound}
use Rattle.ir_runs.specs.Walk.{block_names, names_on}
use Rattle.ir_runs.proofs.MemberLaws.{flat_in}
use Rattle.ir_runs.proofs.NamesLaws.{names_in, param_names, same_block}
use Rattle.ir_runs.proofs.UsedLaws.{block_label, AreWithin, item_known, entry_known}
use Rattle.ir_runs.proofs.EntryLaws.{target_there}
use Rattle.sound_costs.proofs.EdgeLaws.{labels_differ}
use Rattle.portion_cuts.specs.Paths.{place_at, label_at}
use Rattle.portion_cuts.proofs.EntryLaws.{first_place}
use Rattle.portion_cuts.proofs.LabelLaws.{place_within}
use Rattle.portion_cuts.proofs.WalkPaths.{position_of}
use Rattle.path_encoding.specs.Spots.{block_at}
use Rattle.point_runs.proofs.BlocksLaws.{label_is, block_there}

module _ (it : SoundFunc) (sound : IsSound it) where
  abbrev count : ℕ
  count = length it.flow.order

  forward : (from to : ℕ) → HasEdge it.flow.edges from to → from < to
  forward from to there =
      let edge : Edge = record { from = from; to = to } in
      All-contains (λ (e : Edge). e.from < e.to) it.flow.edges edge (flow_forward (length it.func.blocks) it.flow sound.flow.flow).later there

  edge_there : (from to : ℕ) → from < count → to < count → GoesTo it.func (label_at it from) (label_at it to) → HasEdge it.flow.edges from to
  edge_there from to from_low to_low going =
      let leads = led it.func (labels_differ it.func sound.rules.names) (place_at it from) (place_at it to) (place_within it sound from from_low) (place_within it sound to to_low) going in
      (sound.flow.flow.edges.same from to).1 (from_low, to_low, (sound.flow.edges (place_at it from) (place_at it to)).1 leads)

  -- a block that stands before a position
  pub record IsBefore (at : ℕ) (block : Block) : Type 0 where
    pub position : ℕ
    pub below : position < at
    pub low : position < count
    pub is : block ≡ block_at it position

  pub block_is : (block : Block) → Contains it.func.blocks block → (at : ℕ) → at < count → label_at it at ≡ block.label → block ≡ block_at it at
  block_is block there at low same = same_block it.func sound.rules.names block (block_at it at) there (block_there it sound at low) (sym same ∙ sym (label_is it sound at low))

  -- blocks from one position to another, the last left out
  record Comes (from : ℕ) (rest : List (List ℕ)) (to : ℕ) : Type 0 where
    pub done : List Block
    pub labels : label_at it from ∷ rest ≡ map block_label done ++ label_at it to ∷ []
    pub within : AreWithin it.func sound.rules done
    pub least : from ≤ to
    pub before : (block : Block) → Contains done block → IsBefore to block

  pub one_position : (from to : ℕ) → from < count → to < count → label_at it from ≡ label_at it to → from ≡ to
  one_position from to from_low to_low same = positions_same from to from_low to_low (labels_same same)
    where
      labels_same : label_at it from ≡ label_at it to → place_at it from ≡ place_at it to
      labels_same is = same_label it.func (labels_differ it.func sound.rules.names) (place_at it from) (place_at it to) (place_within it sound from from_low) (place_within it sound to to_low) is

      positions_same : (a b : ℕ) → a < count → b < count → place_at it a ≡ place_at it b → a ≡ b
      positions_same a b a_low b_low is =
          let apart = places_apart (length it.func.blocks) it.flow.graph it.flow.order sound.flow.flow.kept in
          ⊎_elim (λ below. absurd (apart a b 0 below b_low is))
          (λ above. ⊎_elim (λ below. absurd (apart b a 0 below a_low (sym is))) (λ more. omega (arith, above, more)) (cases_lt b a)) (cases_lt a b)

  comes : (from to : ℕ) (rest : List (List ℕ)) → from < count → to < count → GoesOn it.func (label_at it from) rest (label_at it to) → Comes from rest to
  comes from to [] from_low to_low same = record {
    done = [];
    labels = ap (λ (l : List ℕ). l ∷ []) same;
    within = λ block there. absurd (no_item block there);
    least = omega (arith, one_position from to from_low to_low same);
    before = λ block there. absurd (no_item block there);
  }
  comes from to (next ∷ rest) from_low to_low (going, later) =
      let (block, there, is, target) = going in
      let found = target_there it.func sound.rules block there next target in
      let at = position_of it sound found.0 found.1 in
      let next_is : label_at it at.0 ≡ next = at.2 ∙ found.2 in
      let step : from < at.0 = forward from at.0 (edge_there from at.0 from_low at.1 (subst (λ (l : List ℕ). GoesTo it.func (label_at it from) l) (sym next_is) going)) in
      let behind = comes at.0 to rest at.1 to_low (subst (λ (l : List ℕ). GoesOn it.func l rest (label_at it to)) (sym next_is) later) in
      let mine : Block = block_at it from in
      let below : from < to = omega (arith, step, behind.least) in
      let mine_before : IsBefore to mine = record { position = from; below = below; low = from_low; is = refl } in
      record {
        done = mine ∷ behind.done;
        labels = (λ i. sym (label_is it sound from from_low) i ∷ (ap (λ (l : List ℕ). l ∷ rest) (sym next_is) ∙ behind.labels) i);
        within = λ other among. ⊎_elim (λ same. subst (λ (b : Block). Contains it.func.blocks b) same (block_there it sound from from_low)) (λ later. behind.within other later) (cons_cases mine behind.done other among);
        least = omega (arith, below);
        before = λ other among. ⊎_elim (λ same. subst (IsBefore to) same mine_before) (λ later. behind.before other later) (cons_cases mine behind.done other among);
      }

  -- a way to the block at a position
  record Way (to : ℕ) : Type 0 where
    pub done : List Block
    pub path : IsPathTo it.func (map block_label done ++ label_at it to ∷ []) (label_at it to)
    pub within : AreWithin it.func sound.rules done
    pub before : (block : Block) → Contains done block → IsBefore to block

  way_to : (to : ℕ) → to < count → Way to
  way_to to low = by_path reached.0 reached.1
    where
      reached : (path : List (List ℕ)) × IsPathTo it.func path (label_at it to)
      reached = sound.rules.reached (place_at it to) (place_within it sound to low)

      entry : label_at it 0 ≡ label_of it.func 0
      entry = ap (label_of it.func) (first_place it sound)

      some : 0 < count
      some = omega (arith, sound.flow.entry, sound.flow.flow.size)

      by_path : (path : List (List ℕ)) → IsPathTo it.func path (label_at it to) → Way to
      by_path [] is = absurd is
      by_path (first ∷ rest) is =
          let first_is : first ≡ label_at it 0 = is.0 ∙ sym entry in
          let found = comes 0 to rest some low (subst (λ (l : List ℕ). GoesOn it.func l rest (label_at it to)) first_is is.1) in
          let same : first ∷ rest ≡ map block_label found.done ++ label_at it to ∷ [] = ap (λ (l : List ℕ). l ∷ rest) first_is ∙ found.labels in
          record {
            done = found.done;
            path = subst (λ (l : List (List ℕ)). IsPathTo it.func l (label_at it to)) same is;
            within = found.within;
            before = found.before;
          }

  -- ---- what is given before a position

  abbrev pub IsGivenBefore : ℕ → List ℕ → Type 0
  IsGivenBefore at name = Contains (param_names it.func) name ⊎ ((block : Block) × IsBefore at block × Contains (block_names block) name)

  given_on : (at : ℕ) (done : List Block) → ((block : Block) → Contains done block → IsBefore at block) → (name : List ℕ) → Contains (names_on it.func done) name → IsGivenBefore at name
  given_on at done before name known = by_cases (Contains-append_cases (param_names it.func) (flat_map block_names done) name known)
    where
      by_cases : Contains (param_names it.func) name ⊎ Contains (flat_map block_names done) name → IsGivenBefore at name
      by_cases (inl param) = inl param
      by_cases (inr result) = let found = flat_in block_names done name result in inr (found.0, before found.0 found.1, found.2)

  module _ (at : ℕ) (low : at < count) (front rest : List Item) (item : Item) (items : items_of (block_at it at) ≡ front ++ item ∷ rest) where
    abbrev block : Block
    block = block_at it at

    -- what an instruction uses
    pub used_before : (parts : List Part) → ((site : Site) → item_uses it.func site item ≡ flat_map (part_uses site (label_of it.func site.block) (At site.item)) parts) → (name : List ℕ) (width : ℕ) → Contains parts (Use (operand.Name name) width)
        → IsGivenBefore at name ⊎ Contains (names_in front) name
    used_before parts is name width used =
        let way = way_to at low in
        let path : IsPathTo it.func (map block_label way.done ++ block.label ∷ []) block.label = subst (λ (l : List ℕ). IsPathTo it.func (map block_label way.done ++ l ∷ []) l) (sym (label_is it sound at low)) way.path in
        by_cases (Contains-append_cases (names_on it.func way.done) (names_in front) name
        (item_known it.func sound.rules way.done way.within block (block_there it sound at low) front rest item items parts is path name width used))
      where
        by_cases : Contains (names_on it.func (way_to at low).done) name ⊎ Contains (names_in front) name → IsGivenBefore at name ⊎ Contains (names_in front) name
        by_cases (inl earlier) = inl (given_on at (way_to at low).done (way_to at low).before name earlier)
        by_cases (inr own) = inr own

    -- what the entry of a phi uses that comes from the block at a position
    pub entry_before : (phi : Phi) → item ≡ OfPhi phi → (from : ℕ) → HasEdge it.flow.edges from at → from < count → (entry : PhiEntry) → Contains phi.entries entry → entry.from ≡ label_at it from → (name : List ℕ) → entry.value ≡ operand.Name name → IsGivenBefore at name
    entry_before phi is from edge from_low entry among comes_from name value =
        let way = way_to from from_low in
        let before_block : Block = block_at it from in
        let all : List Block = way.done ++ before_block ∷ [] in
        let labels : map block_label all ≡ map block_label way.done ++ label_at it from ∷ [] = map-append block_label way.done (before_block ∷ []) ∙ ap (λ (l : List ℕ). map block_label way.done ++ l ∷ []) (label_is it sound from from_low) in
        let path : IsPathTo it.func (map block_label all) entry.from = subst (λ (l : List ℕ). IsPathTo it.func (map block_label all) l) (sym comes_from) (subst (λ (l : List (List ℕ)). IsPathTo it.func l (label_at it from)) (sym labels) way.path) in
        given_on at all (all_before way before_block refl) name
        (entry_known it.func sound.rules all (all_within way before_block refl) block (block_there it sound at low) front rest item items phi is entry among path name value)
      where
        all_before : (way : Way from) (mine : Block) → mine ≡ block_at it from → (other : Block) → Contains (way.done ++ mine ∷ []) other → IsBefore at other
        all_before way mine same other there = by_cases (Contains-append_cases way.done (mine ∷ []) other there)
          where
            by_cases : Contains way.done other ⊎ Contains (mine ∷ []) other → IsBefore at other
            by_cases (inl earlier) =
                let here = way.before other earlier in
                record { position = here.position; below = omega (arith, here.below, forward from at edge); low = here.low; is = here.is }
            by_cases (inr own) =
                ⊎_elim (λ is_mine. record { position = from; below = forward from at edge; low = from_low; is = sym is_mine ∙ same }) (λ none. absurd (no_item other none)) (cons_cases mine [] other own)

        all_within : (way : Way from) (mine : Block) → mine ≡ block_at it from → AreWithin it.func sound.rules (way.done ++ mine ∷ [])
        all_within way mine same other there = by_cases (Contains-append_cases way.done (mine ∷ []) other there)
          where
            by_cases : Contains way.done other ⊎ Contains (mine ∷ []) other → Contains it.func.blocks other
            by_cases (inl earlier) = way.within other earlier
            by_cases (inr own) =
                ⊎_elim (λ is_mine. subst (λ (b : Block). Contains it.func.blocks b) (sym same ∙ is_mine) (block_there it sound from from_low)) (λ none. absurd (no_item other none)) (cons_cases mine [] other own)
