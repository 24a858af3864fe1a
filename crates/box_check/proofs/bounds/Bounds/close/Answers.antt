use Rattle.std.proofs.Common.{◌≡◌, ◌+◌, refl, arith}
use Rattle.box_check.specs.Bounds.{opened}
use Rattle.box_check.proofs.BoundsLaws.{close_back}
use Rattle.box_check.proofs.bounds.Bounds.close.Goals as goal

pub returns : goal.returns
returns c = λ start extends mark.
    let same = c.back_to.ensures (opened start) extends mark in
    let was = same.level in
    let less = c.around-self.ensures in
    close_back start c.back_to.new.self _ same refl refl refl (omega (arith, was, less))
