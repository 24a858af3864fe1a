use Rattle.std.proofs.Common.{◌≡◌, ◌+◌, ◌-◌, ◌^◌, length, drop, sum, refl, subst, arith}
use Rattle.std.proofs.lemmas.List.{drop_all}
use Rattle.wcet_core.specs.Trial.{place}
use Rattle.wcet_core.proofs.PlaceLaws.{AreArguments-length, AreArguments-get_or, AreArguments-set, place-below, place-raised, place-carried}
use Rattle.wcet_core.proofs.trial.advance.Goals as goal

pub loop-i-init : goal.loop-i-init
loop-i-init c = record {
  are = c.requires.are;
  carried = rw (drop_all (length c.args.args.now) c.args.widths.now (omega (arith, AreArguments-length c.args.widths.now c.args.args.now c.requires.are))) refl;
}

pub bounds-widths-i : goal.bounds-widths-i
bounds-widths-i c = omega (arith, AreArguments-length c.args.widths.now c.loop-i.args c.loop-i.invariant.are)

pub returns-then-args-i-clause-are : goal.returns-then-args-i-clause-are
returns-then-args-i-clause-are c = AreArguments-set c.args.widths.now c.loop-i.args (c.loop-i.i - 1) _ c.loop-i.invariant.are (omega arith)

pub returns-then-args-i-clause-next : goal.returns-then-args-i-clause-next
returns-then-args-i-clause-next c = place-raised c.args.widths.now c.loop-i.args (c.loop-i.i - 1) c.loop-i.i _ c.loop-i.invariant.are (omega arith) (omega arith) c.loop-i.invariant.carried

pub loop-i-preserved : goal.loop-i-preserved
loop-i-preserved c =
    let below = AreArguments-get_or c.args.widths.now c.loop-i.args (c.loop-i.i - 1) c.loop-i.invariant.are in
    record {
      are = AreArguments-set c.args.widths.now c.loop-i.args (c.loop-i.i - 1) 0 c.loop-i.invariant.are (omega arith);
      carried = place-carried c.args.widths.now c.loop-i.args (c.loop-i.i - 1) c.loop-i.i _ c.loop-i.invariant.are (omega arith) (omega arith) c.loop-i.invariant.carried (omega arith);
    }

pub returns-clause-next : goal.returns-clause-next
returns-clause-next c =
    let start : c.loop-i.i ≡ 0 = omega arith in
    let carried = subst (λ n. place c.args.widths.now c.loop-i.args + 2 ^ sum (drop n c.args.widths.now) ≡ place c.args.widths.now c.args.args.now + 1) start c.loop-i.invariant.carried in
    omega (arith, carried, place-below c.args.widths.now c.args.args.now c.requires.are)
