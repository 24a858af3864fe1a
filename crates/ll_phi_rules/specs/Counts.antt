-- How often labels stand among names.
use Rattle.std.specs.Prelude.{◌≡◌, ℕ, List, map}
use Rattle.ll_tree.specs.declared.block.Block.{Block}
use Rattle.ll_rules.specs.Items.{targets_of}
use Rattle.name_table.specs.Names.{AreDifferent}
use Rattle.ll_phi_rules.specs.Phis.{times}

-- how often each label stands among names
abbrev pub counts_of : List (List ℕ) → List (List ℕ) → List ℕ
counts_of labels names = map (λ label. times label names) labels

-- the same for the targets of each block
abbrev pub target_counts : List (List ℕ) → List Block → List (List ℕ)
target_counts labels blocks = map (λ block. counts_of labels (targets_of block.end)) blocks

-- what a test of phis knows of blocks: their labels, which differ, and how often targets name them
pub record KnowsTargets (blocks : List Block) (labels targets : List (List ℕ)) : Type 0 where
  pub labels_are : labels ≡ map (λ block. block.label) blocks
  pub different : AreDifferent labels
  pub counts : targets ≡ target_counts labels blocks
