use Rattle.std.proofs.Common.{◌≡◌, ◌∷◌, [], ◌∙◌, to_z, of_z, ap, subst}
use Rattle.std.specs.Int.{w128}
use Rattle.std.proofs.lemmas.Int.{to_z-of_z}
use Rattle.proof_term.specs.declared.proof.Goal.{Goal}
use Rattle.proof_term.specs.declared.proof.Goal.TheVariants.{Below}
use Rattle.open_levels.specs.Adds.{Begins}
use Rattle.open_levels.proofs.KeptLaws.{levels_entered}
use Rattle.open_levels.proofs.levels.OpenLevels.entered.Goals as goal

pub returns-clause-kept : goal.returns-clause-kept
returns-clause-kept c =
    let fits = c.ranges.bound in
    let old = c.args.self.stack in
    let same : to_z w128 (of_z w128 c.args.bound) ≡ c.args.bound = simp to_z-of_z in
    let goal_same = ap (Below c.args.term) same in
    let begun = subst (λ (g : Goal). Begins c.args.cost g c.args.self.bounds c.begin.new.bounds) goal_same c.in_ok-begin.ensures in
    let stack_is =
    c.in_ok-open.ensures ∙ ap (λ (g : Goal). record old { last = record { goal = g; mark = c.mark-mark.result; ended = [] }; enclosing = old.last ∷ old.enclosing }) goal_same in
    levels_entered c.args.system.now c.args.cost c.args.self c.open.new.self c.begin.new.bounds c.args.term c.args.bound c.mark-mark.result c.requires.kept c.requires.exists c.requires.fits
    c.mark-mark.ensures stack_is begun
