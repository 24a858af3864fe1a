use Rattle.std.proofs.Common.{◌+◌, ◌≤◌, ◌≡◌, length, sym, subst}
use Rattle.mix_system.specs.declared.tally.Tally.{Tally}
use Rattle.mix_system.specs.Tally.{units, halving_depth}
use Rattle.bounded_simplex.specs.Answer.{Answers, IsSpent}
use Rattle.bounded_simplex.specs.InForce.{BoundChanges}
use Rattle.mixed_solver.proofs.MixedLaws.{calm_box}
use Rattle.mixed_solver.proofs.RefutedLaws.{leaf_refutes}
use Rattle.mixed_solver.proofs.TurnLaws.{mixed_handed, mixed_simplex}
use Rattle.mixed_solver.proofs.mixed.Mixed.look.Goals as goal

pub returns-in-Spent-clause-turns : goal.returns-in-Spent-clause-turns
returns-in-Spent-clause-turns c =
    let it = c.args.self.now in
    let handed = mixed_handed it c.hand.new.self c.trail.result.now c.ground-ground.result c.requires.mixed c.trail.ensures.lits c.in_ok-hand.ensures.bounds c.in_ok-hand.ensures.ground c.ground-ground.ensures in
    let spent = c.in_ok-check.ensures.spent.0 (subst IsSpent (sym c.in-Spent.is) tt) in (
      subst (λ (t : Tally). units t ≡ t.budget) (sym (c.check.ensures.unchanged spent)) spent,
      mixed_simplex (record { level = it.level; bounds = c.hand.new.self }) c.check.new.self handed c.check.ensures.bounds,
    )

pub refuted-requires-clause-mixed : goal.refuted-requires-clause-mixed
refuted-requires-clause-mixed c =
    let it = c.args.self.now in
    let handed = mixed_handed it c.hand.new.self c.trail.result.now c.ground-ground.result c.requires.mixed c.trail.ensures.lits c.in_ok-hand.ensures.bounds c.in_ok-hand.ensures.ground c.ground-ground.ensures in
    mixed_simplex (record { level = it.level; bounds = c.hand.new.self }) c.check.new.self handed c.check.ensures.bounds

pub refuted-requires-clause-tree : goal.refuted-requires-clause-tree
refuted-requires-clause-tree c =
    let it = c.args.self.now in
    let handed = mixed_handed it c.hand.new.self c.trail.result.now c.ground-ground.result c.requires.mixed c.trail.ensures.lits c.in_ok-hand.ensures.bounds c.in_ok-hand.ensures.ground c.ground-ground.ensures in
    let checked = mixed_simplex (record { level = it.level; bounds = c.hand.new.self }) c.check.new.self handed c.check.ensures.bounds in
    let new = c.check.new.self in
    let refuted = subst (Answers new.bounds new.tableau.rows.items new.values.items new.made new.listing.basis.items new.listing.rest.items) c.in-Refuted.is c.in_ok-check.ensures.answer in
    leaf_refutes new.bounds c.in-Refuted.farkas c.in_ok-tree-in-Refuted.tree (calm_box (record { level = it.level; bounds = record c.hand.new.self { simplex = new } }) checked) refuted c.in_ok-tree-in-Refuted.ensures

pub go_on-requires-clause-mixed : goal.go_on-requires-clause-mixed
go_on-requires-clause-mixed c =
    let it = c.args.self.now in
    let handed = mixed_handed it c.hand.new.self c.trail.result.now c.ground-ground.result c.requires.mixed c.trail.ensures.lits c.in_ok-hand.ensures.bounds c.in_ok-hand.ensures.ground c.ground-ground.ensures in
    mixed_simplex (record { level = it.level; bounds = c.hand.new.self }) c.check.new.self handed c.check.ensures.bounds

pub go_on-requires-clause-room : goal.go_on-requires-clause-room
go_on-requires-clause-room c =
    subst (λ (b : BoundChanges). length b.changes + halving_depth c.hand.new.self.system.now ≤ b.room) (sym c.check.ensures.bounds) c.in_ok-hand.ensures.room
