-- The items of a function with their places.
use Rattle.std.specs.Prelude.{ℕ, ◌+◌, List, [], ◌∷◌, ◌++◌}
use Rattle.ll_tree.specs.declared.func.Func.{Func}
use Rattle.ll_tree.specs.declared.block.Block.{Block}
use Rattle.ll_rules.specs.Items.{Item, OfPhi, OfInstr, OfEnd, items_of}
use Rattle.ll_items.specs.declared.sites.ItemRef.{ItemRef}
use Rattle.ll_items.specs.declared.sites.ItemRef.TheVariants as lent
use Rattle.ll_items.specs.declared.sites.SiteRef.{SiteRef}

-- an item, the place of its block, and how many items of the block stand before it
pub record Site : Type 0 where
  pub block : ℕ
  pub item : ℕ
  pub what : Item

abbrev pub item_of : ItemRef → Item
item_of (lent.Phi phi) = OfPhi phi.now
item_of (lent.Instr instr) = OfInstr instr.now
item_of (lent.End end) = OfEnd end.now

abbrev pub site_of : SiteRef → Site
site_of site = record { block = site.block; item = site.item; what = item_of site.what }

-- items of one block, of which so many stand before them
abbrev pub sites_from : ℕ → ℕ → List Item → List Site
sites_from block before [] = []
sites_from block before (item ∷ items) = (record { block = block; item = before; what = item }) ∷ sites_from block (before + 1) items

-- the items of blocks, of which so many stand before them
abbrev pub sites_in : ℕ → List Block → List Site
sites_in before [] = []
sites_in before (block ∷ blocks) = sites_from before 0 (items_of block) ++ sites_in (before + 1) blocks

-- all items, in the order of the text
abbrev pub sites_of : Func → List Site
sites_of func = sites_in 0 func.blocks
