-- A walk by labels is a path by positions.
use Rattle.std.proofs.Common.{◌≡◌, ◌<◌, ℕ, List, [], ◌∷◌, length, map, refl, sym, ◌∙◌, ap, subst, arith}
use Rattle.std.specs.List.{Contains}
use Rattle.std.proofs.lemmas.List.{get_or_default}
use Rattle.flow_graph.specs.Paths.{HasEdge}
use Rattle.block_order.specs.Walk.{IsChain}
use Rattle.ll_tree.specs.declared.block.Block.{Block}
use Rattle.ll_flow.specs.Paths.{label_of, GoesTo}
use Rattle.ll_flow.proofs.PlaceLaws.{led}
use Rattle.ll_verifier.specs.Sound.{SoundFunc, IsSound}
use Rattle.ir_runs.specs.Values.{Vals}
use Rattle.ir_runs.specs.Walk.{LeadOn, Walk}
use Rattle.ir_runs.proofs.MemberLaws.{in_here, in_there}
use Rattle.ir_runs.proofs.SiteLaws.{block_place, block_there}
use Rattle.ir_runs.proofs.StepLaws.{step_target}
use Rattle.ir_runs.proofs.UsedLaws.{block_label, AreWithin}
use Rattle.ir_runs.proofs.WalkLaws.{visited}
use Rattle.sound_costs.proofs.EdgeLaws.{labels_differ}
use Rattle.portion_cuts.specs.Paths.{place_at, label_at, IsPath}
use Rattle.portion_cuts.proofs.LabelLaws.{place_within}
use Rattle.portion_cuts.proofs.EntryLaws.{first_place}

abbrev first_label : List (List ℕ) → List ℕ
first_label [] = []
first_label (label ∷ labels) = label

module _ (it : SoundFunc) (sound : IsSound it) where
  -- a block of the function stands at a position
  pub position_of : (block : Block) → Contains it.func.blocks block → (at : ℕ) × (at < length it.flow.order) × (label_at it at ≡ block.label)
  position_of block there =
      let place = block_place it.func.blocks block there in
      let stands = block_there it.func.blocks place.0 block place.1 in
      let found = sound.flow.flow.kept.whole place.0 stands.1 in
      let here : place_at it found.0 ≡ place.0 = get_or_default it.flow.order found.0 0 place.0 found.1 ∙ found.2 in
      (found.0, found.1, ap (label_of it.func) here ∙ stands.2)

  edge_of : (from to : ℕ) (label next : List ℕ) → from < length it.flow.order → to < length it.flow.order → label_at it from ≡ label → label_at it to ≡ next → GoesTo it.func label next → HasEdge it.flow.edges from to
  edge_of from to label next from_low to_low from_is to_is going =
      let by_places : GoesTo it.func (label_at it from) (label_at it to) = subst (λ (name : List ℕ). GoesTo it.func name (label_at it to)) (sym from_is) (subst (λ (name : List ℕ). GoesTo it.func label name) (sym to_is) going) in
      let leads = led it.func (labels_differ it.func sound.rules.names) (place_at it from) (place_at it to) (place_within it sound from from_low) (place_within it sound to to_low) by_places in
      (sound.flow.flow.edges.same from to).1 (from_low, to_low, (sound.flow.edges (place_at it from) (place_at it to)).1 leads)

  module _ (args : List ℕ) (vals : Vals) where
    chain_of : (at : ℕ) (block : Block) (rest : List Block) → at < length it.flow.order → label_at it at ≡ block.label → AreWithin it.func sound.rules (block ∷ rest) → LeadOn it.func args vals (block ∷ rest)
        → (path : List ℕ) × IsChain it.flow.edges at path × (map (label_at it) path ≡ map block_label rest)
    chain_of at block [] low is within leads = ([], tt, refl)
    chain_of at block (next ∷ rest) low is within leads =
        let behind = position_of next (within next (in_there block next (next ∷ rest) (in_here next rest))) in
        let going : GoesTo it.func block.label next.label = (block, within block (in_here block (next ∷ rest)), refl, step_target it.func args vals block next.label leads.0) in
        let later = chain_of behind.0 next rest behind.1 behind.2 (λ other there. within other (in_there block other (next ∷ rest) there)) leads.1 in
        (behind.0 ∷ later.0, (edge_of at behind.0 block.label next.label low behind.1 is behind.2 going, later.1), (λ i. behind.2 i ∷ later.2 i))

    walk_path : (labels : List (List ℕ)) (rest : List (List ℕ)) → labels ≡ label_of it.func 0 ∷ rest → (blocks : List Block) → labels ≡ map block_label blocks → AreWithin it.func sound.rules blocks → LeadOn it.func args vals blocks
        → (path : List ℕ) × IsPath it.flow.edges path × (map (label_at it) path ≡ labels)
    walk_path labels rest starts [] are within leads = absurd (omega (arith, ap length (sym starts ∙ are)))
    walk_path labels rest starts (block ∷ blocks) are within leads =
        let entry : label_at it 0 ≡ block.label = ap (label_of it.func) (first_place it sound) ∙ ap first_label (sym starts ∙ are) in
        let low : 0 < length it.flow.order = omega (arith, sound.flow.entry, sound.flow.flow.size) in
        let chain = chain_of 0 block blocks low entry within leads in
        let same : map (label_at it) (0 ∷ chain.0) ≡ map block_label (block ∷ blocks) = (λ i. entry i ∷ chain.2 i) in
        (0 ∷ chain.0, (refl, chain.1), same ∙ sym are)

pub path_of_walk : (it : SoundFunc) → IsSound it → (args : List ℕ) (labels : List (List ℕ)) (vals : Vals) → Walk it.func args labels vals → (path : List ℕ) × IsPath it.flow.edges path × (map (label_at it) path ≡ labels)
path_of_walk it sound args labels vals walk =
    let is = visited it.func sound.rules args walk.arguments labels walk.blocks walk.visits in
    walk_path it sound args vals labels walk.entry.0 walk.entry.1 walk.blocks is.0 is.1 walk.follow
