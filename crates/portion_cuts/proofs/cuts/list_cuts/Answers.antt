use Rattle.std.proofs.Common.{◌<◌, ◌≤◌, ◌+◌, ℕ, List, length, get_or, sym, subst, arith}
use Rattle.std.specs.Prelude.{max}
use Rattle.portion_cuts.proofs.CutLaws.{AreFound, reach_none, found_yes, found_no}
use Rattle.portion_cuts.proofs.cuts.list_cuts.Goals as goal

pub loop-at-init : goal.loop-at-init
loop-at-init c = λ edges are. record { reach_is = sym (reach_none edges); cuts_are = c.new-cuts.ensures.items }

pub loop-at-preserved-then-reach-at : goal.loop-at-preserved-then-reach-at
loop-at-preserved-then-reach-at c = λ edges are.
    let steps = c.args.steps.now in
    let at = c.loop-at.at in
    let low : at < length steps = omega (arith, c.loop-at-test.true) in
    let far : at < max c.loop-at.reach (get_or steps at 0) = omega (arith, c.if-reach-at.true, c.max-reach.ensures) in
    subst (λ (n : ℕ). AreFound edges (at + 1) n c.loop-at.cuts.items) (sym c.max-reach.ensures) (found_no edges steps are at c.loop-at.reach c.loop-at.cuts.items low (c.loop-at.invariant edges are) far)

pub loop-at-preserved : goal.loop-at-preserved
loop-at-preserved c = λ edges are.
    let steps = c.args.steps.now in
    let at = c.loop-at.at in
    let low : at < length steps = omega (arith, c.loop-at-test.true) in
    let short : max c.loop-at.reach (get_or steps at 0) ≤ at = omega (arith, c.if-reach-at.false, c.max-reach.ensures) in
    let found = found_yes edges steps are at c.loop-at.reach c.loop-at.cuts.items low (c.loop-at.invariant edges are) short in
    subst (λ (n : ℕ). AreFound edges (at + 1) n c.push.new.self.items) (sym c.max-reach.ensures)
    (subst (λ (cuts : List ℕ). AreFound edges (at + 1) (max c.loop-at.reach (get_or steps at 0)) cuts) (sym c.in_ok-push.ensures.items) found)
