use Rattle.std.proofs.Common.{◌≡◌, ◌<◌, ◌^◌, ◌+◌, ◌∙◌, ◌∷◌, [], ℕ, List, length, get_or, sym, ap, subst, arith}
use Rattle.std.proofs.Math.Facts.{Fits-of_lt}
use Rattle.std.proofs.lemmas.List.{length-map, length-append}
use Rattle.ll_tree.specs.declared.func.Func.{Func}
use Rattle.ir_runner.specs.declared.code.BlockCode.{BlockCode}
use Rattle.ir_runner.specs.Code.{block_code, code_of}
use Rattle.number_runner.specs.Costs.{IsBlock}
use Rattle.number_runner.specs.Goes.{LeadOut}
use Rattle.number_runner.proofs.LowerLaws.{block_leads, blocks_more}
use Rattle.number_runner.proofs.lower.number_code.Goals as goal

pub overflow_cast-at : goal.overflow_cast-at
overflow_cast-at g c =
    let size = ap length (c.items-block-items.ensures ∙ c.in_ok-code.ensures) ∙ length-map c.args.sound.now.func.blocks (block_code c.args.sound.now.func) in
    let few = c.func.ensures.rules.limits.blocks in
    let low : c.loop-at.at < 2 ^ 32 = omega (arith, c.loop-at-test.true, size, few) in
    Fits-of_lt low

pub number_block-requires-clause-out : goal.number_block-requires-clause-out
number_block-requires-clause-out g c =
    let func = c.args.sound.now.func in
    let all : c.items-block-items.result.now ≡ code_of func = c.items-block-items.ensures ∙ c.in_ok-code.ensures in
    let size = ap length all ∙ length-map func.blocks (block_code func) in
    let low : c.loop-at.at < length func.blocks = omega (arith, c.loop-at-test.true, size) in
    let here = c.block-item.is ∙ ap (λ (codes : List BlockCode). get_or codes c.loop-at.at c.block-item.result) all in
    subst (λ (f : Func). LeadOut f c.loop-at.at c.block-item.result.exit) (sym c.requires) (block_leads func c.func.ensures.rules c.loop-at.at c.block-item.result low here)

pub loop-at-preserved : goal.loop-at-preserved
loop-at-preserved g c =
    let func = c.args.sound.now.func in
    let costs = g.C.PathCosts.costs c.args.costs.now in
    let all : c.items-block-items.result.now ≡ code_of func = c.items-block-items.ensures ∙ c.in_ok-code.ensures in
    let within : c.loop-at.at < length (code_of func) = subst (λ (codes : List BlockCode). c.loop-at.at < length codes) all c.loop-at-test.true in
    let here = c.block-item.is ∙ ap (λ (codes : List BlockCode). get_or codes c.loop-at.at c.block-item.result) all in
    let block = c.in_ok-number_block.field-0 in
    let is = subst (λ (f : Func). IsBlock f costs c.loop-at.at c.block-item.result block) c.requires c.in_ok-number_block.ensures in
    rw c.in_ok-push.ensures.ok (record {
      count = length-append c.loop-at.blocks (block ∷ []) ∙ ap (λ (n : ℕ). n + 1) c.loop-at.invariant.count;
      are = blocks_more func costs (code_of func) c.loop-at.blocks c.loop-at.at c.block-item.result block c.loop-at.invariant.count within here c.loop-at.invariant.are is;
    })
