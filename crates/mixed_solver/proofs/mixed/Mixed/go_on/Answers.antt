use Rattle.std.proofs.Common.{sym, subst, Bool}
use Rattle.clause_search.specs.Decided.{Decides as Decided}
use Rattle.integer_splits.specs.Answer.{Decides}
use Rattle.integer_splits.specs.Boxes.{IsRefutingTree}
use Rattle.bounded_simplex.specs.InForce.{BoundChanges}
use Rattle.level_search.proofs.KeptLaws.{if_ok}
use Rattle.mixed_solver.specs.declared.mixed.Mixed.{Mixed}
use Rattle.mixed_solver.specs.declared.solving.Turn.{Turn}
use Rattle.mixed_solver.specs.Turns.{Chooses, Leaves}
use Rattle.mixed_solver.proofs.MixedLaws.{calm_box, mixed_decided, mixed_same}
use Rattle.mixed_solver.proofs.PointLaws.{point_meets}
use Rattle.mixed_solver.proofs.TurnLaws.{mixed_simplex, comes_leaves}
use Rattle.mixed_solver.proofs.mixed.Mixed.go_on.Goals.{then-decided, else-decided}
use Rattle.mixed_solver.proofs.mixed.Mixed.go_on.Goals as goal

pub returns-in-Some-clause-leaves : goal.returns-in-Some-clause-leaves
returns-in-Some-clause-leaves c =
    let it = c.args.self.now in
    let new = c.decide.new.self in
    let after = c.decide.new.tally in
    let own : Mixed = record { level = new; bounds = it.bounds } in
    elim c.if-decided.branch [
      | then-decided w ↦ subst (λ (t : Turn). Leaves t own after) (sym w.result-is)
          (mixed_decided it c.requires.mixed new c.in-Some.lit c.args.tally.now after c.trail-trail.ensures.trail c.decide.ensures.kept c.decide.ensures.level c.decide.ensures.steps c.requires.quiet
          (subst (λ (b : Bool). Decided b c.in-Some.lit it.level.search new.search c.args.tally.now after) w.if-decided.true c.in_ok-decided.ensures.decides))
      | else-decided w ↦ subst (λ (t : Turn). Leaves t own after) (sym w.result-is)
          (let stays = subst (λ (b : Bool). Decided b c.in-Some.lit it.level.search new.search c.args.tally.now after) w.if-decided.false c.in_ok-decided.ensures.decides in (
            rw stays.tally stays.at_budget,
            mixed_same it new c.requires.mixed c.trail-trail.ensures.trail c.decide.ensures.kept c.decide.ensures.level c.decide.ensures.steps stays.state,
          ))
    ]

pub solve-requires-clause-calm : goal.solve-requires-clause-calm
solve-requires-clause-calm c = calm_box c.args.self.now c.requires.mixed

pub returns-in-Point-clause-leaves : goal.returns-in-Point-clause-leaves
returns-in-Point-clause-leaves c =
    let it = c.args.self.now in (
      point_meets it c.requires.mixed c.trail-trail.ensures.trail c.requires.quiet c.requires.put c.in-Point.point
          (subst (Decides it.bounds.simplex.bounds) c.in-Point.is c.in_ok-point.ensures.answer) (subst (Chooses it) c.in_default.is c.in_ok-lit.ensures),
      mixed_simplex it c.solve.new.simplex c.requires.mixed c.solve.ensures.bounds,
    )

pub refuted-requires-clause-mixed : goal.refuted-requires-clause-mixed
refuted-requires-clause-mixed c = mixed_simplex c.args.self.now c.solve.new.simplex c.requires.mixed c.solve.ensures.bounds

pub refuted-requires-clause-tree : goal.refuted-requires-clause-tree
refuted-requires-clause-tree c =
    subst (λ (b : BoundChanges). IsRefutingTree b c.in-Refuted.tree) (sym c.solve.ensures.bounds) (subst (Decides c.args.self.now.bounds.simplex.bounds) c.in-Refuted.is c.in_ok-point.ensures.answer)

pub returns-in-Refuted-clause-leaves : goal.returns-in-Refuted-clause-leaves
returns-in-Refuted-clause-leaves c = if_ok c.refuted.result _ _ (λ turn is. comes_leaves turn c.refuted.new.self _ is) c.refuted.ensures.comes
