-- Names of operands that are no value's, and labels that are no block's.
use Rattle.std.specs.Prelude.{ℕ, List, [], ◌∷◌, map, Option, Some, None, is_some, if◌then◌else◌}
use Rattle.ll_tree.specs.declared.block.Operand.{Operand}
use Rattle.ll_tree.specs.declared.block.Operand.TheVariants as operand
use Rattle.ll_rules.specs.Items.{Part, Use, Goal}
use Rattle.name_table.specs.Names.{place_of}

abbrev pub lacking_value : List (List ℕ × ℕ) → Operand → Option (List ℕ)
lacking_value values (operand.Name name) = if is_some (place_of name (map (λ value. value.0) values)) then None else Some name
lacking_value values (operand.Const number) = None
lacking_value values operand.Poison = None

abbrev pub lacking_label : List (List ℕ) → List ℕ → Option (List ℕ)
lacking_label labels label = if is_some (place_of label labels) then None else Some label

-- the name of an operand that is no value's, or a label that is no block's
abbrev pub lacking_in : List (List ℕ × ℕ) → List (List ℕ) → Part → Option (List ℕ)
lacking_in values labels (Use operand width) = lacking_value values operand
lacking_in values labels (Goal label) = lacking_label labels label

-- the first of two
abbrev pub or_else : Option (List ℕ) → Option (List ℕ) → Option (List ℕ)
or_else None other = other
or_else (Some name) other = Some name

-- the first such name, in written order
abbrev pub lacking_name : List (List ℕ × ℕ) → List (List ℕ) → List Part → Option (List ℕ)
lacking_name values labels [] = None
lacking_name values labels (part ∷ parts) = or_else (lacking_in values labels part) (lacking_name values labels parts)
