use Rattle.std.proofs.Common.{◌<◌, arith}
use Rattle.mix_system.specs.declared.farkas.FarkasPart.{FarkasPart}
use Rattle.level_theories.specs.Theory.{IsCovered}
use Rattle.level_theories.proofs.ExcludedLaws.{covered_more, hold_more}
use Rattle.level_theories.proofs.excluded.exclude_parts.Goals as goal

pub exclude_lit-requires-clause-exact : goal.exclude_lit-requires-clause-exact
exclude_lit-requires-clause-exact c = c.requires.exact c.loop-at.at c.index-parts-at.result c.loop-at-test.true

pub loop-at-preserved : goal.loop-at-preserved
loop-at-preserved c =
    let it = c.args.level.now in
    let old = c.loop-at.lits in
    let new = c.exclude_lit.new.lits in
    let made = c.in_ok-exclude_lit.ensures in
    record {
      lits = made.lits;
      more = λ lit among. made.more lit (c.loop-at.invariant.more lit among);
      covered = hold_more (λ (part : FarkasPart). IsCovered it old part.lit) (λ part. IsCovered it new part.lit) c.args.parts.now c.loop-at.at c.index-parts-at.result c.loop-at-test.true
          (λ part is. covered_more it old new part.lit made.more is) c.loop-at.invariant.covered made.covered;
    }

pub returns-clause-covered : goal.returns-clause-covered
returns-clause-covered c = λ k d within.
    let before : k < c.loop-at.at = omega (arith, within, c.loop-at-test.false, c.loop-at.auto.at-end) in
    c.loop-at.invariant.covered k before d
