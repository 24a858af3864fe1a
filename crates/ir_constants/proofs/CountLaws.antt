-- How many constants there are at most.
use Rattle.std.proofs.Common.{◌≡◌, ◌+◌, ◌*◌, ◌≤◌, ℕ, Bool, true, false, cond, ◌||◌, eqb, leb, List, [], ◌∷◌, ◌++◌, length, map, refl, sym, ◌∙◌, ap, arith}
use Rattle.std.specs.Prelude.{flat_map, sum_by}
use Rattle.std.specs.List.{list_any}
use Rattle.std.proofs.lemmas.List.{length-append, length-map}
use Rattle.std.proofs.lemmas.List.Sums.{sum_by-cons}
use Rattle.ll_tree.specs.declared.block.Block.{Block}
use Rattle.ll_tree.specs.declared.block.Phi.{Phi}
use Rattle.ll_tree.specs.declared.block.Instr.{Instr}
use Rattle.ll_tree.specs.declared.block.End.{End}
use Rattle.ll_tree.specs.declared.block.End.TheVariants as end
use Rattle.ll_tree.specs.declared.block.Operand.{Operand}
use Rattle.ll_tree.specs.declared.block.Operand.TheVariants as operand
use Rattle.ll_tree.specs.declared.op.BinKind.{BinKind}
use Rattle.ll_tree.specs.declared.op.BinKind.TheVariants as bin
use Rattle.ll_tree.specs.declared.op.Op.{Op}
use Rattle.ll_tree.specs.declared.op.Op.TheVariants.{Bin, Cmp, Cast, Select, Abs, Assume}
use Rattle.ll_links.specs.Links.{end_operands}
use Rattle.ir_constants.specs.Constants.{with_number, with_operand, with_operands, constants_of}
use Rattle.ir_constants.specs.Counted.{factored, counted_of, counted, entries_of, counted_in, most_in}

-- ---- operands of a block

factored_few : (constant : Bool) (left right : Operand) → length (factored constant left right) ≤ 3
factored_few true left right = omega arith
factored_few false left right = omega arith

bin_few : (kind : BinKind) (left right : Operand) → length (counted_of kind left right) ≤ 3
bin_few bin.Mul left right = factored_few _ left right
bin_few _ left right = omega arith

op_few : (op : Op) → length (counted op) ≤ 3
op_few (Bin kind flags width left right) = bin_few kind left right
op_few _ = omega arith

end_few : (end : End) → length (end_operands end) ≤ 1
end_few end.RetVoid = omega arith
end_few (end.Ret width value) = omega arith
end_few (end.Br to) = omega arith
end_few (end.CondBr cond on_one on_zero) = omega arith
end_few (end.Switch width value default cases) = omega arith
end_few end.Unreachable = omega arith

phis_few : (phis : List Phi) → length (flat_map entries_of phis) ≤ sum_by (λ phi. length phi.entries) phis
phis_few [] = omega arith
phis_few (phi ∷ phis) =
    let all = length-append (entries_of phi) (flat_map entries_of phis) in
    let one = length-map phi.entries (λ entry. entry.value) in
    let sum = sum_by-cons (λ (phi : Phi). length phi.entries) phi phis in
    omega (arith, phis_few phis, all, one, sum)

body_few : (body : List Instr) → length (flat_map (λ instr. counted instr.op) body) ≤ 3 * length body
body_few [] = omega arith
body_few (instr ∷ body) =
    let all = length-append (counted instr.op) (flat_map (λ instr. counted instr.op) body) in
    omega (arith, body_few body, all, op_few instr.op)

block_few : (block : Block) → length (counted_in block) ≤ most_in block
block_few block =
    let body = flat_map (λ instr. counted instr.op) block.body in
    let all = length-append (flat_map entries_of block.phis) (body ++ end_operands block.end) in
    let behind = length-append body (end_operands block.end) in
    omega (arith, all, behind, phis_few block.phis, body_few block.body, end_few block.end)

blocks_few : (blocks : List Block) → length (flat_map counted_in blocks) ≤ sum_by most_in blocks
blocks_few [] = omega arith
blocks_few (block ∷ blocks) =
    let all = length-append (counted_in block) (flat_map counted_in blocks) in
    omega (arith, blocks_few blocks, all, block_few block, sum_by-cons most_in block blocks)

-- ---- constants are no more than operands

number_few : (n : ℕ) (constants : List ℕ) → length (with_number constants n) ≤ length constants + 1
number_few n constants = by_test (leb n 1 || list_any (eqb n) constants)
  where
    by_test : (t : Bool) → length (cond t constants (constants ++ n ∷ [])) ≤ length constants + 1
    by_test true = omega arith
    by_test false = omega (arith, length-append constants (n ∷ []))

operand_few : (operand : Operand) (constants : List ℕ) → length (with_operand constants operand) ≤ length constants + 1
operand_few (operand.Name name) constants = omega arith
operand_few (operand.Const n) constants = number_few n constants
operand_few operand.Poison constants = omega arith

operands_few : (operands : List Operand) (constants : List ℕ) → length (with_operands constants operands) ≤ length constants + length operands
operands_few [] constants = omega arith
operands_few (operand ∷ operands) constants = omega (arith, operands_few operands (with_operand constants operand), operand_few operand constants)

pub few : (blocks : List Block) → length (constants_of blocks) ≤ sum_by most_in blocks
few blocks = omega (arith, operands_few (flat_map counted_in blocks) [], blocks_few blocks)
