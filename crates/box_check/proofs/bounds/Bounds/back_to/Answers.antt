use Rattle.std.proofs.Common.{◌<◌, ◌≤◌, [], ◌∷◌, ◌++◌, List, length, sym, ◌∙◌, ap, arith}
use Rattle.box_check.specs.declared.bounds.Change.{Change}
use Rattle.box_check.proofs.BoundsLaws.{Extends_pop, Extends_end}
use Rattle.box_check.proofs.bounds.Bounds.back_to.Goals as goal

pub loop-self-preserved-in-Some : goal.loop-self-preserved-in-Some
loop-self-preserved-in-Some c = λ start extends mark.
    let longer : length start.changes.items < length c.loop-self.self.changes.items = omega arith in
    Extends_pop start c.loop-self.self c.restore.new.self c.in-Some.change (c.loop-self.invariant start extends mark) longer
    (c.in-Some.ensures.items ∙ ap (λ (cs : List Change). cs ++ c.in-Some.change ∷ []) (sym c.restore.ensures.changes)) c.restore.ensures.ends c.restore.ensures.vars c.restore.ensures.level

pub returns : goal.returns
returns c = λ start extends mark.
    let short : length c.loop-self.self.changes.items ≤ length start.changes.items = omega arith in
    Extends_end start c.loop-self.self (c.loop-self.invariant start extends mark) short
