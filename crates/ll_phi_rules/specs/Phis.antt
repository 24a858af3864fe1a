-- Entries of a phi against the edges that lead to its block.
use Rattle.std.specs.Prelude.{ℕ, ◌+◌, List, [], ◌∷◌, map, Bool, true, false, ◌||◌, ◌&&◌, ◌==◌, not, slice_index_or, if◌then◌else◌}
use Rattle.std.specs.List.{list_all}
use Rattle.std.specs.Str.{bytes_eq}
use Rattle.ll_tree.specs.declared.block.Block.{Block}
use Rattle.ll_tree.specs.declared.block.PhiEntry.{PhiEntry}
use Rattle.ll_tree.specs.declared.block.Operand.{Operand}
use Rattle.ll_tree.specs.declared.block.Operand.TheVariants as operand
use Rattle.ll_rules.specs.Items.{Item, OfPhi, OfInstr, OfEnd, targets_of}
use Rattle.ll_items.specs.Sites.{Site}

-- how often a label stands among names
abbrev pub times : List ℕ → List (List ℕ) → ℕ
times label [] = 0
times label (name ∷ names) = (if bytes_eq name label then 1 else 0) + times label names

abbrev pub same_operand : Operand → Operand → Bool
same_operand (operand.Name name) (operand.Name other) = bytes_eq name other
same_operand (operand.Name name) (operand.Const number) = false
same_operand (operand.Name name) operand.Poison = false
same_operand (operand.Const number) (operand.Name name) = false
same_operand (operand.Const number) (operand.Const other) = number == other
same_operand (operand.Const number) operand.Poison = false
same_operand operand.Poison (operand.Name name) = false
same_operand operand.Poison (operand.Const number) = false
same_operand operand.Poison operand.Poison = true

-- entries for one block hold one operand
abbrev pub agree : PhiEntry → PhiEntry → Bool
agree entry other = not (bytes_eq other.from entry.from) || same_operand entry.value other.value

abbrev pub all_agree : List PhiEntry → Bool
all_agree [] = true
all_agree (entry ∷ entries) = list_all (agree entry) entries && all_agree entries

-- as many entries name a block as it has targets that are the phi's block
abbrev pub has_entries : List ℕ → List PhiEntry → Block → Bool
has_entries label entries block = times block.label (map (λ entry. entry.from) entries) == times label (targets_of block.end)

-- the count of a block's entries isn't that of its edges, or two entries for it hold different operands
abbrev pub entries_differ : List Block → List ℕ → List PhiEntry → Bool
entries_differ blocks label entries = not (list_all (has_entries label entries) blocks && all_agree entries)

abbrev pub item_entries_differ : List Block → List ℕ → Item → Bool
item_entries_differ blocks label (OfPhi phi) = entries_differ blocks label phi.entries
item_entries_differ blocks label (OfInstr instr) = false
item_entries_differ blocks label (OfEnd end) = false

-- the same of an item where it stands
abbrev pub differ_at : List Block → Site → Bool
differ_at blocks site = item_entries_differ blocks (slice_index_or (map (λ block. block.label) blocks) site.block []) site.what
