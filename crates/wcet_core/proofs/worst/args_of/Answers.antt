use Rattle.std.proofs.Common.{◌^◌, ◌<◌, get_or, refl, sym, subst}
use Rattle.ll_tree.specs.declared.func.Param.{Param}
use Rattle.wcet_core.proofs.ArgsLaws.{fits_at, one_more, all_numbers}
use Rattle.wcet_core.proofs.worst.args_of.Goals as goal

pub bounds-numbers-at : goal.bounds-numbers-at
bounds-numbers-at c = (fits_at c.args.params.now c.args.numbers.now c.loop-at.at c.index-params-at.result c.requires c.loop-at-test.true).0

pub invariant_of-push : goal.invariant_of-push
invariant_of-push c = record {
  fits = subst (λ (param : Param). get_or c.args.numbers.now c.loop-at.at 0 < 2 ^ param.width) (sym c.index-params-at.is)
      (fits_at c.args.params.now c.args.numbers.now c.loop-at.at c.index-params-at.result c.requires c.loop-at-test.true).1;
}

pub loop-at-preserved : goal.loop-at-preserved
loop-at-preserved c =
    let fits = fits_at c.args.params.now c.args.numbers.now c.loop-at.at c.index-params-at.result c.requires c.loop-at-test.true in
    let so = one_more c.args.params.now c.args.numbers.now c.loop-at.at c.loop-at.args c.index-params-at.result _ c.push.new.self c.in_ok-push.ensures.ok c.index-params-at.is refl refl c.loop-at-test.true fits.0 (c.loop-at.invariant.numbers, c.loop-at.invariant.widths) in
    record { numbers = so.0; widths = so.1 }

pub returns-clause-numbers : goal.returns-clause-numbers
returns-clause-numbers c = all_numbers c.args.params.now c.args.numbers.now c.loop-at.at c.loop-at.args c.requires c.loop-at-test.false c.loop-at.auto.at-end c.loop-at.invariant.numbers
