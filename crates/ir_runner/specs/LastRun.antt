-- What contracts see of a runner.
use Rattle.std.specs.Prelude.{ℕ, List, map}
use Rattle.ll_tree.specs.declared.func.Func.{Func}
use Rattle.ll_flow.specs.Paths.{label_of}
use Rattle.ll_links.specs.declared.link.BlockId.{BlockId}

-- A function, and the blocks that its last run visited.
pub record LastRun : Type 0 where
  pub func : Func
  pub path : List BlockId

abbrev pub labels_at : Func → List BlockId → List (List ℕ)
labels_at func path = map (λ block. label_of func block.0) path

-- the labels of these blocks
abbrev pub path_labels : LastRun → List (List ℕ)
path_labels last_run = labels_at last_run.func last_run.path
