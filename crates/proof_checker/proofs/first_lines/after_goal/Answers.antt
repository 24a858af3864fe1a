use Rattle.std.proofs.Common.{refl, ◌∙◌, ap, sym, subst}
use Rattle.proof_term.specs.declared.proof.Goal.{Goal}
use Rattle.proof_term.specs.Valid.{Stage, at_start}
use Rattle.open_levels.specs.Kept.{stage_of, GoalFits}
use Rattle.proof_checker.specs.Place.{AtStep}
use Rattle.proof_checker.specs.Outcome.{Next}
use Rattle.proof_checker.proofs.KeptLaws.{outer_fits}
use Rattle.proof_checker.proofs.first_lines.after_goal.Goals as goal

pub new-requires : goal.new-requires
new-requires c = record {
  cost = c.requires.exists;
  fits = subst (λ (g : Goal). GoalFits c.args.base.now.system.now g) (sym c.goal_of.ensures) (outer_fits c.args.base.now.system.now c.args.most);
}

pub returns : goal.returns
returns c =
    let stage = c.in_ok-levels.ensures.stage ∙ ap (λ (g : Goal). at_start c.args.base.now.system.now g) c.goal_of.ensures in
    (AtStep (stage_of c.in_ok-levels.levels), (refl, c.in_ok-levels.ensures.kept), ap (λ (s : Stage). Next (AtStep s)) stage)
