-- Items stand in blocks of their function.
use Rattle.std.proofs.Common.{◌≡◌, ◌<◌, ◌+◌, ℕ, List, [], ◌∷◌, length, arith}
use Rattle.std.specs.Prelude.{All}
use Rattle.std.proofs.lemmas.List.Elements.{All-nil, All-cons, All-append}
use Rattle.ll_tree.specs.declared.func.Func.{Func}
use Rattle.ll_tree.specs.declared.block.Block.{Block}
use Rattle.ll_rules.specs.Items.{Item, items_of}
use Rattle.ll_items.specs.Sites.{Site, sites_from, sites_in, sites_of}

abbrev pub IsBelow : ℕ → Site → Type 0
IsBelow count site = site.block < count

from_below : (count block before : ℕ) (items : List Item) → block < count → All (IsBelow count) (sites_from block before items)
from_below count block before [] h = All-nil (IsBelow count)
from_below count block before (item ∷ items) h =
    All-cons (IsBelow count) (record { block = block; item = before; what = item }) (sites_from block (before + 1) items) h (from_below count block (before + 1) items h)

in_below : (count before : ℕ) (blocks : List Block) → before + length blocks ≡ count → All (IsBelow count) (sites_in before blocks)
in_below count before [] e = All-nil (IsBelow count)
in_below count before (block ∷ blocks) e =
    All-append (IsBelow count) (sites_from before 0 (items_of block)) (sites_in (before + 1) blocks) (from_below count before 0 (items_of block) (omega (arith, e))) (in_below count (before + 1) blocks (omega (arith, e)))

pub all_below : (func : Func) → All (IsBelow (length func.blocks)) (sites_of func)
all_below func = in_below (length func.blocks) 0 func.blocks (omega arith)
