-- The names of values and of blocks differ where all names do.
use Rattle.std.proofs.Common.{◌≡◌, ℕ, List, [], ◌∷◌, ◌++◌, map, refl, sym, ◌∙◌, ap, subst, append_assoc}
use Rattle.std.specs.List.{flat_map}
use Rattle.std.proofs.lemmas.List.{map-append}
use Rattle.ll_tree.specs.declared.func.Func.{Func}
use Rattle.ll_tree.specs.declared.func.Param.{Param}
use Rattle.ll_tree.specs.declared.block.Block.{Block}
use Rattle.ll_rules.specs.Items.{block_values, names_of, values_of, labels_of}
use Rattle.name_table.specs.Names.{AreDifferent}
use Rattle.name_table.proofs.DifferentLaws.{different-around, different-right}

abbrev first : List ℕ × ℕ → List ℕ
first value = value.0

abbrev value_names : Block → List (List ℕ)
value_names block = map first (block_values block)

abbrev all_names : List Block → List (List ℕ)
all_names blocks = flat_map (λ (block : Block). block.label ∷ value_names block) blocks

abbrev labels : List Block → List (List ℕ)
labels blocks = map (λ (block : Block). block.label) blocks

without_labels : (front : List (List ℕ)) (blocks : List Block) → AreDifferent (front ++ all_names blocks) → AreDifferent (front ++ map first (flat_map block_values blocks))
without_labels front [] d = d
without_labels front (block ∷ blocks) d =
    let no_label : AreDifferent (front ++ (value_names block ++ all_names blocks)) = different-around front (block.label ∷ []) (value_names block ++ all_names blocks) d in
    let later : AreDifferent ((front ++ value_names block) ++ map first (flat_map block_values blocks)) =
    without_labels (front ++ value_names block) blocks (subst AreDifferent (sym (append_assoc front (value_names block) (all_names blocks))) no_label) in
    subst AreDifferent (append_assoc front (value_names block) (map first (flat_map block_values blocks)) ∙ ap (λ (l : List (List ℕ)). front ++ l) (sym (map-append first (block_values block) (flat_map block_values blocks)))) later

without_values : (front : List (List ℕ)) (blocks : List Block) → AreDifferent (front ++ all_names blocks) → AreDifferent (front ++ labels blocks)
without_values front [] d = d
without_values front (block ∷ blocks) d =
    let grouped : AreDifferent ((front ++ block.label ∷ []) ++ (value_names block ++ all_names blocks)) = subst AreDifferent (sym (append_assoc front (block.label ∷ []) (value_names block ++ all_names blocks))) d in
    let later : AreDifferent ((front ++ block.label ∷ []) ++ labels blocks) = without_values (front ++ block.label ∷ []) blocks (different-around (front ++ block.label ∷ []) (value_names block) (all_names blocks) grouped) in
    subst AreDifferent (append_assoc front (block.label ∷ []) (labels blocks)) later

param_names : (params : List Param) → map (λ (param : Param). param.name) params ≡ map first (map (λ (param : Param). (param.name, param.width)) params)
param_names [] = refl
param_names (param ∷ params) = ap (λ (l : List (List ℕ)). param.name ∷ l) (param_names params)

pub values_differ : (func : Func) (values : List (List ℕ × ℕ)) → values ≡ values_of func → AreDifferent (names_of func) → AreDifferent (map first values)
values_differ func values is d =
    let bare : AreDifferent (map (λ (param : Param). param.name) func.params ++ map first (flat_map block_values func.blocks)) = without_labels (map (λ (param : Param). param.name) func.params) func.blocks d in
    let joined : map (λ (param : Param). param.name) func.params ++ map first (flat_map block_values func.blocks) ≡ map first (values_of func) =
    ap (λ (l : List (List ℕ)). l ++ map first (flat_map block_values func.blocks)) (param_names func.params) ∙ sym (map-append first (map (λ (param : Param). (param.name, param.width)) func.params) (flat_map block_values func.blocks)) in
    subst AreDifferent (joined ∙ ap (map first) (sym is)) bare

pub labels_differ : (func : Func) (list : List (List ℕ)) → list ≡ labels_of func → AreDifferent (names_of func) → AreDifferent list
labels_differ func list is d =
    subst AreDifferent (sym is) (different-right (map (λ (param : Param). param.name) func.params) (labels func.blocks) (without_values (map (λ (param : Param). param.name) func.params) func.blocks d))
