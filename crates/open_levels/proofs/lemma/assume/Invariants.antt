use Rattle.std.proofs.Common.{All, length, drop, take, map}
use Rattle.mix_system.specs.Lit.{negation}
use Rattle.proof_term.specs.Steps.{StaysWithin, negation_step}
use Rattle.box_check.specs.Bounds.{IsOver, Stands}
use Rattle.open_levels.proofs.AddsLaws.{Adding}
use Rattle.open_levels.proofs.lemma.assume.Given as goal

abbrev pub invariant-loop-lit : goal.invariant-loop-lit
invariant-loop-lit l = record {
  adding : Adding Stands (map negation l.clause) (map negation (drop l.lit-index l.clause)) l.initial.bounds l.bounds;
  steps : All StaysWithin (map negation_step (take l.lit-index l.clause));
  over : IsOver (length l.system.ranges) (length l.system.rows) l.bounds;
}
