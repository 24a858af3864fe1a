-- What is given before an item: what it reads is among it, and its result is none of it.
use Rattle.std.proofs.Common.{◌≡◌, ◌⊎◌, inl, inr, ◌+◌, ◌<◌, ⊎_elim, ℕ, zero, suc, List, [], ◌∷◌, ◌++◌, length, sym, ◌∙◌, ap, subst, arith, append_assoc, append-nil}
use Rattle.std.specs.Prelude.{Contains, flat_map}
use Rattle.std.specs.List.{range_with_len}
use Rattle.std.proofs.lemmas.List.Concat.{flat_map-append}
use Rattle.std.proofs.lemmas.List.Elements.{Contains-append_left, Contains-append_right}
use Rattle.ll_tree.specs.declared.block.Block.{Block}
use Rattle.ll_rules.specs.Items.{Item}
use Rattle.ll_flow.proofs.PlaceLaws.{no_item, cons_cases}
use Rattle.ll_verifier.specs.Sound.{SoundFunc, IsSound}
use Rattle.ir_runs.specs.Walk.{block_names, names_on}
use Rattle.ir_runs.proofs.MemberLaws.{in_map, map_in, in_flat}
use Rattle.ir_runs.proofs.NamesLaws.{item_names, names_in, param_names, is_new}
use Rattle.portion_cuts.specs.Paths.{label_at}
use Rattle.path_encoding.specs.Spots.{block_at}
use Rattle.path_encoding.proofs.GraphLaws.{counted}
use Rattle.point_runs.proofs.BlocksLaws.{label_is, block_there}
use Rattle.piece_values.proofs.OrderLaws.{IsGivenBefore, one_position}
use Rattle.piece_reads.specs.Given.{blocks_before, results_of, given_before, StandsBehind, AgreeOn}
use Rattle.path_encoding.specs.declared.spots.PathSpots.{PathSpots}

below_count : (first count number : ℕ) → Contains (range_with_len first count) number → number < first + count
below_count first zero number there = absurd (no_item number there)
below_count first (suc count) number there =
    ⊎_elim (λ same. omega (arith, same)) (λ later. let low = below_count (first + 1) count number later in omega (arith, low)) (cons_cases first (range_with_len (first + 1) count) number there)

module _ (it : SoundFunc) (sound : IsSound it) (at : ℕ) (front : List Item) where
  abbrev Names : Type 0
  Names = List (List ℕ)

  -- by a parameter, a block before, or an item before
  pub given_there : (name : List ℕ) → IsGivenBefore it sound at name ⊎ Contains (names_in front) name → Contains (given_before it at front) name
  given_there name (inr own) = Contains-append_right (names_on it.func (blocks_before it at)) (results_of front) name own
  given_there name (inl (inl param)) =
      Contains-append_left (names_on it.func (blocks_before it at)) (results_of front) name
      (Contains-append_left (param_names it.func) (flat_map block_names (blocks_before it at)) name param)
  given_there name (inl (inr (block, before, of_block))) =
      let place : Contains (range_with_len 0 at) before.position = counted 0 at before.position (omega arith) (omega (arith, before.below)) in
      let there : Contains (blocks_before it at) block = subst (λ (b : Block). Contains (blocks_before it at) b) (sym before.is) (in_map (block_at it) (range_with_len 0 at) before.position place) in
      Contains-append_left (names_on it.func (blocks_before it at)) (results_of front) name
      (Contains-append_right (param_names it.func) (flat_map block_names (blocks_before it at)) name (in_flat block_names (blocks_before it at) block name there of_block))

  module _ (item : Item) (stands : StandsBehind it at front item) where
    there : Contains it.func.blocks (block_at it at)
    there = block_there it sound at stands.within

    position_in : (block : Block) → Contains (blocks_before it at) block → (position : ℕ) × (position < at) × (block_at it position ≡ block)
    position_in block among =
        let found = map_in (block_at it) (range_with_len 0 at) block among in
        let low : found.0 < at = omega (arith, below_count 0 at found.0 found.1) in
        (found.0, low, found.2)

    all_there : (block : Block) → Contains (blocks_before it at) block → Contains it.func.blocks block
    all_there block among =
        let found = position_in block among in
        let low : found.0 < length it.flow.order = omega (arith, found.1, stands.within) in
        subst (λ (b : Block). Contains it.func.blocks b) found.2 (block_there it sound found.0 low)

    never_there : Contains (blocks_before it at) (block_at it at) → ⊥
    never_there among =
        let found = position_in (block_at it at) among in
        let low : found.0 < length it.flow.order = omega (arith, found.1, stands.within) in
        let labels : label_at it found.0 ≡ label_at it at =
        sym (label_is it sound found.0 low) ∙ ap (λ (b : Block). b.label) found.2 ∙ label_is it sound at stands.within in
        let same : found.0 ≡ at = one_position it sound found.0 at low stands.within labels in
        omega (arith, found.1, same)

    -- the result of an item isn't given before it
    pub result_new : (name : List ℕ) → Contains (item_names item) name → Contains (given_before it at front) name → ⊥
    result_new name mine earlier =
        is_new it.func sound.rules.names (block_at it at) there front stands.rest item stands.items (blocks_before it at) all_there never_there name mine earlier

    -- ---- behind it

    pub given_more : given_before it at (front ++ item ∷ []) ≡ given_before it at front ++ item_names item
    given_more =
        let own : results_of (front ++ item ∷ []) ≡ results_of front ++ item_names item = flat_map-append item_names front (item ∷ []) ∙ ap (λ (names : Names). results_of front ++ names) (append-nil (item_names item)) in
        ap (λ (names : Names). names_on it.func (blocks_before it at) ++ names) own ∙ sym (append_assoc (names_on it.func (blocks_before it at)) (results_of front) (item_names item))

    pub agree_before : (spots other : PathSpots) → AgreeOn it (given_before it at (front ++ item ∷ [])) spots other → AgreeOn it (given_before it at front) spots other
    agree_before spots other agree = record {
      edges = agree.edges;
      constants = agree.constants;
      values = λ name given. agree.values name (subst (λ (names : Names). Contains names name) (sym given_more) (Contains-append_left (given_before it at front) (item_names item) name given));
    }

    pub result_given : (name : List ℕ) → Contains (item_names item) name → Contains (given_before it at (front ++ item ∷ [])) name
    result_given name mine = subst (λ (names : Names). Contains names name) (sym given_more) (Contains-append_right (given_before it at front) (item_names item) name mine)
