use Rattle.std.proofs.Common.{List, refl, sym, ◌∙◌, subst, All, arith}
use Rattle.std.proofs.lemmas.Bool.{false≢true}
use Rattle.std.proofs.lemmas.List.{take_all}
use Rattle.mix_system.specs.declared.farkas.FarkasPart.{FarkasPart}
use Rattle.box_check.specs.Bounds.{Says}
use Rattle.tree_check.proofs.BoxesLaws.{all_in, not_in, says_more}
use Rattle.tree_check.proofs.boxes.are_in.Goals as goal

pub returns-then-not-says : goal.returns-then-not-says
returns-then-not-says c = λ box stands. (
  λ e. absurd (false≢true e),
  λ all. absurd (not_in c.args.bounds.now c.args.parts.now c.requires c.loop-part.part-index c.part-item.result c.loop-part-test.true c.part-item.is
      (λ says. false≢true (sym c.if-not-says.true ∙ c.says.ensures.1 says)) box stands all),
)

pub loop-part-preserved : goal.loop-part-preserved
loop-part-preserved c =
    says_more c.args.bounds.now c.args.parts.now c.loop-part.part-index c.part-item.result c.loop-part-test.true c.part-item.is c.loop-part.invariant (c.says.ensures.0 c.if-not-says.false)

pub returns : goal.returns
returns c = λ box stands.
    let parts = c.args.parts.now in
    let says = subst (λ (ps : List FarkasPart). All (λ part. Says c.args.bounds.now part.lit) ps) (take_all c.loop-part.part-index parts (omega arith)) c.loop-part.invariant in
    (λ _. all_in c.args.bounds.now parts c.requires says box stands, λ _. refl)
