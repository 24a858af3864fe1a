-- Where a way arrives, and that its blocks are different.
use Rattle.std.proofs.Common.{◌≡◌, ℕ, List, [], ◌∷◌, ◌++◌, map, Option, Some, None, refl, sym, ◌∙◌, subst, append_assoc}
use Rattle.std.specs.Prelude.{Contains}
use Rattle.std.proofs.lemmas.List.{map-append}
use Rattle.std.proofs.lemmas.List.Elements.{Contains-append_left, Contains-append_right}
use Rattle.ll_tree.specs.declared.func.Func.{Func}
use Rattle.ll_tree.specs.declared.block.Block.{Block}
use Rattle.ll_rules.specs.Items.{targets_of}
use Rattle.ll_flow.specs.Paths.{GoesTo, IsPathTo}
use Rattle.ll_flow.proofs.PlaceLaws.{no_item}
use Rattle.ll_verifier.specs.Rules.{Rules}
use Rattle.ir_runs.proofs.MemberLaws.{in_here, in_map}
use Rattle.ir_runs.proofs.TrailLaws.{no_return}
use Rattle.ir_runs.proofs.UsedLaws.{block_label, AreWithin}
use Rattle.ir_runs.proofs.BlockLaws.{leaving, Arrives, path_to}
use Rattle.ir_runs.proofs.WalkLaws.{leaving_push}
use Rattle.path_values.specs.Way.{Begins, FollowOn, IsWay}

follow_at : (done : List Block) (block next : Block) (after : List Block) → FollowOn (done ++ block ∷ next ∷ after) → Contains (targets_of block.end) next.label
follow_at [] block next after follow = follow.0
follow_at (first ∷ []) block next after follow = follow.1.0
follow_at (first ∷ second ∷ done) block next after follow = follow_at (second ∷ done) block next after follow.1

module _ (func : Func) (rules : Rules func) (blocks : List Block) (way : IsWay func blocks) where
  abbrev ArrivesAt : List Block → Block → Type 0
  ArrivesAt done block = Arrives func done (leaving None done) block.label

  module _ (done : List Block) (block : Block) (after : List Block) (are : blocks ≡ done ++ block ∷ after) where
    pub there : Contains func.blocks block
    there = way.within block (subst (λ (l : List Block). Contains l block) (sym are) (Contains-append_right done (block ∷ after) block (in_here block after)))

    pub before_within : AreWithin func rules done
    before_within other among = way.within other (subst (λ (l : List Block). Contains l other) (sym are) (Contains-append_left done (block ∷ after) other among))

    pub path : ArrivesAt done block → IsPathTo func (map block_label done ++ block.label ∷ []) block.label
    path arrives = path_to func done (leaving None done) block.label arrives

    pub never : ArrivesAt done block → Contains done block → ⊥
    never arrives among = by_before (leaving None done) arrives
      where
        by_before : (before : Option (List ℕ)) → Arrives func done before block.label → ⊥
        by_before None (none, is) = no_item block (subst (λ (l : List Block). Contains l block) none among)
        by_before (Some last) (is_path, goes) = no_return func rules.acyclic (map block_label done) last block.label is_path goes (in_map block_label done block among)

  next_arrives : (done : List Block) (block next : Block) (after : List Block) → blocks ≡ done ++ block ∷ next ∷ after → ArrivesAt done block → ArrivesAt (done ++ block ∷ []) next
  next_arrives done block next after are arrives =
      let target : Contains (targets_of block.end) next.label = follow_at done block next after (subst FollowOn are way.follow) in
      let to : GoesTo func block.label next.label = (block, there done block (next ∷ after) are, refl, target) in
      let on : IsPathTo func (map block_label (done ++ block ∷ [])) block.label =
      subst (λ (labels : List (List ℕ)). IsPathTo func labels block.label) (sym (map-append block_label done (block ∷ []))) (path done block (next ∷ after) are arrives) in
      subst (λ (before : Option (List ℕ)). Arrives func (done ++ block ∷ []) before next.label) (sym (leaving_push None done block)) (on, to)

  pub first_arrives : (block : Block) (after : List Block) → blocks ≡ block ∷ after → ArrivesAt [] block
  first_arrives block after are = (refl, subst (Begins func) are way.begins)

  on_from : (done : List Block) (block : Block) (rest : List Block) (last : Block) (after : List Block) → blocks ≡ done ++ ((block ∷ rest) ++ (last ∷ after)) → ArrivesAt done block → ArrivesAt (done ++ block ∷ rest) last
  on_from done block [] last after are arrives = next_arrives done block last after are arrives
  on_from done block (next ∷ rest) last after are arrives =
      subst (λ (l : List Block). ArrivesAt l last) (append_assoc done (block ∷ []) (next ∷ rest))
      (on_from (done ++ block ∷ []) next rest last after (are ∙ sym (append_assoc done (block ∷ []) ((next ∷ rest) ++ (last ∷ after)))) (next_arrives done block next (rest ++ (last ∷ after)) are arrives))

  -- the way arrives at each of its blocks
  pub arrives_at : (done : List Block) (block : Block) (after : List Block) → blocks ≡ done ++ block ∷ after → ArrivesAt done block
  arrives_at [] block after are = first_arrives block after are
  arrives_at (first ∷ done) block after are = on_from [] first done block after are (first_arrives first (done ++ block ∷ after) are)
