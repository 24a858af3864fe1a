-- Walks and ways.
use Rattle.std.proofs.Common.{◌≡◌, ℕ, List, [], ◌∷◌, length, map, Some, refl, sym, ◌∙◌, ap, arith}
use Rattle.wx_base.specs.Args.{AreArguments}
use Rattle.ll_tree.specs.declared.func.Func.{Func}
use Rattle.ll_tree.specs.declared.block.Block.{Block}
use Rattle.ll_flow.specs.Paths.{label_of}
use Rattle.ll_verifier.specs.Rules.{Rules}
use Rattle.ir_runs.specs.Values.{Vals}
use Rattle.ir_runs.specs.Walk.{LeadOn, widths_of, block_of, Walk}
use Rattle.ir_runs.proofs.MemberLaws.{in_here, in_there}
use Rattle.ir_runs.proofs.StepLaws.{step_target}
use Rattle.ir_runs.proofs.UsedLaws.{block_label, AreWithin}
use Rattle.ir_runs.proofs.EntryLaws.{block_is}
use Rattle.ir_runs.proofs.WalkLaws.{first_label, visited}
use Rattle.path_values.specs.Way.{Begins, FollowOn, IsWay, AreTheValues}

module _ (func : Func) (args : List ℕ) (vals : Vals) where
  pub follow_on : (blocks : List Block) → LeadOn func args vals blocks → FollowOn blocks
  follow_on [] leads = tt
  follow_on (block ∷ []) leads = tt
  follow_on (block ∷ next ∷ blocks) leads = (step_target func args vals block next.label leads.0, follow_on (next ∷ blocks) leads.1)

begins_with : (func : Func) (blocks : List Block) (rest : List (List ℕ)) → map block_label blocks ≡ label_of func 0 ∷ rest → Begins func blocks
begins_with func [] rest same = absurd (omega (arith, ap length same))
begins_with func (block ∷ blocks) rest same = ap first_label same

module _ (func : Func) (args : List ℕ) (path : List (List ℕ)) (vals : Vals) where
  module _ (rules : Rules func) (walk : Walk func args path vals) where
    seen : (path ≡ map block_label walk.blocks) × AreWithin func rules walk.blocks
    seen = visited func rules args walk.arguments path walk.blocks walk.visits

    pub way_of : IsWay func walk.blocks
    way_of = record {
      within = seen.1;
      begins = begins_with func walk.blocks walk.entry.0 (sym seen.0 ∙ walk.entry.1);
      follow = follow_on func args vals walk.blocks walk.follow;
    }

    pub path_of : path ≡ map block_label walk.blocks
    path_of = seen.0

  pub values_of : (walk : Walk func args path vals) → AreTheValues func args walk.blocks vals
  values_of walk = record {
    has = record { params = walk.params; values = walk.values };
    names = walk.names;
  }

module _ (func : Func) (rules : Rules func) where
  visits_of : (blocks : List Block) → AreWithin func rules blocks → map (block_of func) (map block_label blocks) ≡ map Some blocks
  visits_of [] within = refl
  visits_of (block ∷ blocks) within =
      let here = block_is func rules block (within block (in_here block blocks)) in
      let rest = visits_of blocks (λ other there. within other (in_there block other blocks there)) in
      λ i. here i ∷ rest i

  entry_of : (blocks : List Block) → Begins func blocks → (rest : List (List ℕ)) × (map block_label blocks ≡ label_of func 0 ∷ rest)
  entry_of [] begins = absurd begins
  entry_of (block ∷ blocks) begins = (map block_label blocks, ap (λ (label : List ℕ). label ∷ map block_label blocks) begins)

  module _ (args : List ℕ) (blocks : List Block) (vals : Vals) (fits : AreArguments (widths_of func) args) (way : IsWay func blocks) (values : AreTheValues func args blocks vals) (leads : LeadOn func args vals blocks) where
    abbrev walk : Walk func args (map block_label blocks) vals
    walk = record {
      arguments = fits;
      entry = entry_of blocks way.begins;
      blocks = blocks;
      visits = visits_of blocks way.within;
      names = values.names;
      params = values.has.params;
      values = values.has.values;
      follow = leads;
    }

    pub walk_on : (made : Walk func args (map block_label blocks) vals) × (made.blocks ≡ blocks)
    walk_on = (walk, refl)
