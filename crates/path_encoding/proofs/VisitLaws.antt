-- The clauses of a block as they are laid.
use Rattle.std.proofs.Common.{◌≡◌, ◌++◌, ℕ, List, drop}
use Rattle.std.specs.Prelude.{zip}
use Rattle.ll_tree.specs.declared.block.Block.{Block}
use Rattle.ll_verifier.specs.Sound.{SoundFunc}
use Rattle.path_encoding.specs.declared.spots.PathSpots.{PathSpots}
use Rattle.path_encoding.specs.Spots.{block_at, cases_of, cases_before}
use Rattle.path_encoding.specs.Ends.{assumes_at, end_clauses, block_clauses}

pub block_piece : (it : SoundFunc) (spots : PathSpots) (at : ℕ) (block : Block) (cases : List ℕ) → block_at it at ≡ block → drop (cases_before it at) spots.cases.items ≡ cases
    → block_clauses it spots at ≡ assumes_at it spots at block.body ++ end_clauses it spots at (zip (cases_of block.end) cases) block.end
block_piece it spots at block cases seen same = λ i. assumes_at it spots at (seen i).body ++ end_clauses it spots at (zip (cases_of (seen i).end) (same i)) (seen i).end
