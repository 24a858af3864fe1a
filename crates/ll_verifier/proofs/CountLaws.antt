-- A function within the limits has few values, blocks and items.
use Rattle.std.proofs.Common.{◌≡◌, ◌<◌, ◌≤◌, ◌+◌, ◌^◌, ℕ, List, [], ◌∷◌, length, map, Option, Some, None, ap, arith}
use Rattle.std.specs.List.{flat_map, sum_by}
use Rattle.std.proofs.lemmas.List.{length-append, length-map}
use Rattle.std.proofs.lemmas.List.Concat.{length-flat_map}
use Rattle.std.proofs.lemmas.List.Sums.{sum_by-cons, sum_by-le-sum_by}
use Rattle.ll_tree.specs.declared.func.Func.{Func}
use Rattle.ll_tree.specs.declared.func.Param.{Param}
use Rattle.ll_tree.specs.declared.block.Block.{Block}
use Rattle.ll_tree.specs.declared.block.Phi.{Phi}
use Rattle.ll_tree.specs.declared.block.Instr.{Instr}
use Rattle.ll_rules.specs.Items.{block_values, values_of, labels_of, named, result_width}
use Rattle.ll_rules.specs.Limits.{KeepsLimits}
use Rattle.ll_links.specs.Table.{count_items}

at_most_one : (name : List ℕ) (width : Option ℕ) → length (named name width) ≤ 1
at_most_one name None = omega arith
at_most_one name (Some width) = omega arith

results_few : (body : List Instr) → length (flat_map (λ (instr : Instr). named instr.name (result_width instr.op)) body) ≤ length body
results_few [] = omega arith
results_few (instr ∷ body) =
    let first = at_most_one instr.name (result_width instr.op) in
    let rest = results_few body in
    let both = length-append (named instr.name (result_width instr.op)) (flat_map (λ (instr : Instr). named instr.name (result_width instr.op)) body) in
    omega (arith, first, rest, both)

block_few : (block : Block) → length (block_values block) ≤ length block.phis + length block.body
block_few block =
    let both = length-append {A = List ℕ × ℕ} (map (λ (phi : Phi). (phi.name, phi.width)) block.phis) (flat_map (λ (instr : Instr). named instr.name (result_width instr.op)) block.body) in
    let phis = length-map {B = List ℕ × ℕ} block.phis (λ (phi : Phi). (phi.name, phi.width)) in
    let rest = results_few block.body in
    omega (arith, both, phis, rest)

pub few_values : (func : Func) (values : List (List ℕ × ℕ)) → values ≡ values_of func → KeepsLimits func → length values < 2 ^ 32
few_values func values is keeps =
    let both = length-append {A = List ℕ × ℕ} (map (λ (param : Param). (param.name, param.width)) func.params) (flat_map block_values func.blocks) in
    let params = length-map {B = List ℕ × ℕ} func.params (λ (param : Param). (param.name, param.width)) in
    let blocks = length-flat_map block_values func.blocks in
    let less = sum_by-le-sum_by (λ (block : Block). length (block_values block)) (λ (block : Block). length block.phis + length block.body) func.blocks block_few in
    omega (arith, ap (length {A = List ℕ × ℕ}) is, both, params, blocks, less, keeps.values)

pub few_blocks : (func : Func) (labels : List (List ℕ)) → labels ≡ labels_of func → KeepsLimits func → length labels < 2 ^ 32
few_blocks func labels is keeps = omega (arith, ap (length {A = List ℕ}) is, length-map func.blocks (λ (block : Block). block.label), keeps.blocks)

items_are : (blocks : List Block) → count_items blocks ≡ sum_by (λ (block : Block). length block.phis + length block.body) blocks + length blocks
items_are [] = omega arith
items_are (block ∷ blocks) =
    let rest = items_are blocks in
    let more = sum_by-cons (λ (block : Block). length block.phis + length block.body) block blocks in
    omega (arith, rest, more)

pub few_items : (func : Func) → KeepsLimits func → count_items func.blocks < 2 ^ 32
few_items func keeps = let all = items_are func.blocks in omega (arith, all, keeps.values, keeps.blocks)
