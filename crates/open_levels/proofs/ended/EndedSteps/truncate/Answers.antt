use Rattle.std.proofs.Common.{◌≡◌, ◌<◌, length, get_or, ap, arith}
use Rattle.open_levels.specs.declared.ended.StepMark.{StepMark}
use Rattle.open_levels.proofs.EndedLaws.{steps_kept, marks_kept}
use Rattle.open_levels.proofs.ended.EndedSteps.truncate.Goals as goal

pub invariant_of-self : goal.invariant_of-self
invariant_of-self c =
    let it = c.self.inside in
    let mark = c.index.result.now in
    let within : c.args.count < length it.marks.items = omega (arith, c.if-count-len.false, c.len.ensures) in
    let from_is : mark.from ≡ (get_or it.marks.items c.args.count mark).from = ap (λ (m : StepMark). m.from) c.index.ensures in
    rw (c.truncate-2.ensures.items, c.truncate.ensures.items, from_is) (marks_kept it.lits.items it.marks.items c.args.count mark c.self.invariant within)

pub returns : goal.returns
returns c =
    let it = c.self.inside in
    let mark = c.index.result.now in
    let within : c.args.count < length it.marks.items = omega (arith, c.if-count-len.false, c.len.ensures) in
    let from_is : mark.from ≡ (get_or it.marks.items c.args.count mark).from = ap (λ (m : StepMark). m.from) c.index.ensures in
    rw (c.truncate-2.ensures.items, c.truncate.ensures.items, from_is, ← c.self.view_is) (steps_kept it.lits.items it.marks.items c.args.count mark c.self.invariant within)
