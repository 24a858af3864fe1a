use Rattle.std.proofs.Common.{◌≡◌, ◌∙◌, sym, get_or, set, arith, below_more}
use Rattle.std.proofs.lemmas.List.{get_or-set_same, get_or-set_other}
use Rattle.ir_meaning.specs.declared.value.Val.TheVariants.{Poison}
use Rattle.ir_runner.specs.Start.{taken}
use Rattle.ir_runner.proofs.StartLaws.{taken_here}
use Rattle.ir_runner.proofs.runner.place_arguments.Goals as goal

pub loop-at-preserved : goal.loop-at-preserved
loop-at-preserved c =
    let room = c.requires.room in
    let here : get_or (set c.loop-at.slots c.loop-at.at c.ranged.result) c.loop-at.at Poison ≡ get_or (taken c.args.params.now c.args.args.now) c.loop-at.at Poison =
    get_or-set_same c.loop-at.slots c.loop-at.at c.ranged.result Poison (omega arith) ∙ c.ranged.ensures
    ∙ sym (taken_here c.args.params.now c.args.args.now c.requires.count c.loop-at.at c.index-params-at.result c.loop-at-test.true c.index-params-at.is) in
    below_more _ _ (λ k low. get_or-set_other c.loop-at.slots c.loop-at.at k c.ranged.result Poison (λ same. absurd (omega (arith, same, low))) ∙ c.loop-at.invariant k low) here
