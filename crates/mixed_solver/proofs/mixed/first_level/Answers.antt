use Rattle.std.proofs.Common.{[], ◌∷◌, ◌∙◌, ap, sym, subst}
use Rattle.level_steps.specs.Level.{Level}
use Rattle.mixed_solver.specs.Mixed.{IsStored}
use Rattle.mixed_solver.proofs.StoredLaws.{stored_first, stored_goal}
use Rattle.mixed_solver.proofs.mixed.first_level.Goals.{in-Some+in_ok-set_goal, in_default}
use Rattle.mixed_solver.proofs.mixed.first_level.Goals as goal

pub returns-clause-stored : goal.returns-clause-stored
returns-clause-stored c =
    let level = c.in_ok-level.level in
    let same = c.in_ok-level.ensures.level in
    let first = stored_first level (ap (λ (l : Level). l.cuts) same) c.in_ok-level.ensures.steps (c.in_ok-level.ensures.store ∙ ap (λ (l : Level). l.system.clauses) (sym same)) in
    elim c.match-goal.branch [
      | in-Some+in_ok-set_goal w ↦ subst IsStored (sym w.level-is)
          (stored_goal level w.set_goal.new.self w.in-Some.goal ((w.in-Some.goal ∷ []) ∷ []) w.in_ok-set_goal.ensures.level w.in_ok-set_goal.ensures.steps w.in_ok-set_goal.ensures.search first)
      | in_default w ↦ subst IsStored (sym w.level-is) first
    ]
