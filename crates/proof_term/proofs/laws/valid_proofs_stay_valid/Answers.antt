use Rattle.std.proofs.Common.{◌≢◌, refl, All}
use Rattle.std.proofs.lemmas.List.Elements.{All-nil}
use Rattle.mix_system.specs.declared.literal.Term.{Term}
use Rattle.mix_system.specs.declared.literal.Lit.{Lit}
use Rattle.proof_term.specs.declared.proof.Goal.{Goal}
use Rattle.proof_term.specs.declared.proof.Goal.TheVariants.{Nothing, AtMost, Below}
use Rattle.proof_term.specs.Levels.{cut_clause}
use Rattle.proof_term.specs.Valid.{at_start, IsOutermost}
use Rattle.proof_term.specs.Weaker.{IsWeaker, IsFree}
use Rattle.proof_term.proofs.WeakerLaws.{valid_with, start_free}
use Rattle.proof_term.proofs.laws.valid_proofs_stay_valid.Goals as goal

no_cut : (cost : Term) (g : Goal) → IsOutermost g → IsFree cost (cut_clause g)
no_cut cost Nothing outer = All-nil (λ (l : Lit). l.term ≢ cost)
no_cut cost (AtMost most) outer = All-nil (λ (l : Lit). l.term ≢ cost)
no_cut cost (Below term bound) outer = absurd outer

weaker_outer : (g weaker : Goal) → IsWeaker g weaker → IsOutermost weaker
weaker_outer Nothing Nothing is = tt
weaker_outer Nothing (AtMost more) is = tt
weaker_outer Nothing (Below term bound) is = absurd is
weaker_outer (AtMost most) Nothing is = absurd is
weaker_outer (AtMost most) (AtMost more) is = tt
weaker_outer (AtMost most) (Below term bound) is = absurd is
weaker_outer (Below term bound) weaker is = absurd is

pub returns : goal.returns
returns c = λ system cost proof weaker valid weak clauses steps. record {
  goal = weaker_outer proof.goal weaker weak;
  steps = valid_with cost system proof.goal weaker weak clauses (at_start system proof.goal) proof.steps refl (start_free cost system proof.goal (no_cut cost proof.goal valid.goal)) steps valid.steps;
}
