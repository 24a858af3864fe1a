use Rattle.mixed_solver.proofs.StoredLaws.{stored_same}
use Rattle.mixed_solver.proofs.FreshLaws.{goes_same}
use Rattle.std.proofs.Common.{◌∙◌, ap, sym, subst}
use Rattle.bound_trail.specs.Trail.{Trail}
use Rattle.level_search.specs.declared.level.LevelSearch.{LevelSearch}
use Rattle.level_search.specs.Kept.{level_of}
use Rattle.mixed_solver.specs.Mixed.{IsAtGround}
use Rattle.mixed_solver.proofs.MixedLaws.{stays_back, still_bounds, mixed_back}
use Rattle.mixed_solver.proofs.TurnLaws.{working_at_ground}
use Rattle.mixed_solver.proofs.mixed.Mixed.back_to_ground.Goals as goal

pub give_back-requires-clause-bounds : goal.give_back-requires-clause-bounds
give_back-requires-clause-bounds c =
    let it = c.args.self.now in
    let new = c.back_to.new.self in
    still_bounds it c.requires new (stays_back it c.requires c.trail-trail.ensures.trail new c.back_to.ensures.level 0 c.back_to.ensures.trail)

pub give_back-requires-clause-ground : goal.give_back-requires-clause-ground
give_back-requires-clause-ground c =
    let it = c.args.self.now in
    let new = c.back_to.new.self in
    (stays_back it c.requires c.trail-trail.ensures.trail new c.back_to.ensures.level 0 c.back_to.ensures.trail).ground

pub returns-clause-ground : goal.returns-clause-ground
returns-clause-ground c =
    let it = c.args.self.now in
    let new = c.back_to.new.self in
    let given = c.give_back.new.self in
    let stays = stays_back it c.requires c.trail-trail.ensures.trail new c.back_to.ensures.level 0 c.back_to.ensures.trail in
    let working = working_at_ground it.level new c.requires.working c.back_to.ensures.kept c.back_to.ensures.steps c.back_to.ensures.trail in
    subst (λ (l : LevelSearch). IsAtGround (record { level = l; bounds = given.bounds })) (sym c.give_back.ensures.level)
    (record {
      mixed = mixed_back it c.requires new stays given.bounds c.give_back.ensures.bounds c.give_back.ensures.ground working
          (stored_same it.level new c.back_to.ensures.level c.back_to.ensures.steps c.back_to.ensures.store c.requires.stored);
      ground = ap (λ (t : Trail). t.levels) c.back_to.ensures.trail;
    })

pub returns-clause-goes_on : goal.returns-clause-goes_on
returns-clause-goes_on c =
    goes_same c.args.self.now.level c.give_back.new.self.level (ap level_of c.give_back.ensures.level ∙ c.back_to.ensures.level)
    (ap (λ (l : LevelSearch). l.steps.items) c.give_back.ensures.level ∙ c.back_to.ensures.steps)
