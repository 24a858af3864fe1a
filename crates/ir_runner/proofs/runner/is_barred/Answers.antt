use Rattle.std.proofs.Common.{◌≡◌, ◌||◌, ◌+◌, ◌∙◌, sym, ap, Bool, true, false, drop}
use Rattle.std.specs.Prelude.{zip}
use Rattle.std.specs.List.{list_any}
use Rattle.ir_runs.specs.Walk.{is_barred}
use Rattle.ir_runner.proofs.StartLaws.{barred_more, barred_none}
use Rattle.ir_runner.proofs.runner.is_barred.Goals as goal

pub returns-then-bars : goal.returns-then-bars
returns-then-bars c =
    let more = barred_more c.args.params.now c.args.args.now c.requires c.loop-at.at c.index-params-at.result c.loop-at-test.true c.index-params-at.is in
    let test : is_barred (c.index-params-at.result, _) ≡ true = sym c.bars.ensures ∙ c.if-bars.true in
    sym (ap (λ (b : Bool). b || list_any is_barred (drop (c.loop-at.at + 1) (zip c.args.params.now c.args.args.now))) test) ∙ sym more ∙ c.loop-at.invariant

pub loop-at-preserved : goal.loop-at-preserved
loop-at-preserved c =
    let more = barred_more c.args.params.now c.args.args.now c.requires c.loop-at.at c.index-params-at.result c.loop-at-test.true c.index-params-at.is in
    let test : is_barred (c.index-params-at.result, _) ≡ false = sym c.bars.ensures ∙ c.if-bars.false in
    sym (ap (λ (b : Bool). b || list_any is_barred (drop (c.loop-at.at + 1) (zip c.args.params.now c.args.args.now))) test) ∙ sym more ∙ c.loop-at.invariant

pub returns : goal.returns
returns c = sym (barred_none c.args.params.now c.args.args.now c.requires c.loop-at.at c.loop-at-test.false) ∙ c.loop-at.invariant
