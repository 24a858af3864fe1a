-- What is set at level 0 leaves the solver there.
use Rattle.std.proofs.Common.{◌≡◌, ◌≤◌, [], ◌∷◌, ◌++◌, length, Some, sym, ◌∙◌, ap, subst, arith}
use Rattle.std.specs.Prelude.{◌≢◌}
use Rattle.std.proofs.lemmas.List.Elements.{All-nil}
use Rattle.mix_system.specs.declared.literal.Lit.{Lit}
use Rattle.mix_system.specs.Calm.{IsCalm}
use Rattle.mix_system.specs.System.{System}
use Rattle.bound_trail.specs.Trail.{Trail, level_end}
use Rattle.clause_search.specs.Search.{Search}
use Rattle.proof_term.specs.declared.step.Step.{Step}
use Rattle.level_steps.specs.Level.{Level, clause_of}
use Rattle.level_steps.specs.Steps.{AreOpen}
use Rattle.level_search.specs.declared.level.LevelSearch.{LevelSearch}
use Rattle.level_search.specs.Kept.{level_of, IsKept}
use Rattle.trail_bounds.specs.TrailBounds.{AreBoundsOf}
use Rattle.mixed_solver.specs.declared.mixed.Mixed.{Mixed}
use Rattle.mixed_solver.specs.Mixed.{IsStored, IsAtGround}
use Rattle.mixed_solver.proofs.StoredLaws.{stored_cut, stored_goal}

-- the trail is the same, and has no level but the first
still_ground : (it : Mixed) (new : LevelSearch) → IsAtGround it → IsKept new → new.system.now ≡ it.level.system.now → new.search.trail ≡ it.level.search.trail → AreOpen new.steps.items → IsStored new
    → IsAtGround (record { level = new; bounds = it.bounds })
still_ground it new ground kept system trail open_ stored = record {
  mixed = record {
    working = record {
      kept = kept;
      quiet = λ level below. absurd (omega (arith, below, ap (λ (t : Trail). length t.levels) trail, ap length ground.ground));
      open_ = open_;
    };
    stored = stored;
    calm = subst IsCalm (sym system) ground.mixed.calm;
    bounds = subst (λ (s : System). AreBoundsOf s new.search.trail.lits it.bounds) (sym system)
        (subst (λ (t : Trail). AreBoundsOf it.level.system.now t.lits it.bounds) (sym trail) ground.mixed.bounds);
    ground = subst (λ (t : Trail). it.bounds.ground ≤ level_end t 0) (sym trail) ground.mixed.ground;
  };
  ground = ap (λ (t : Trail). t.levels) trail ∙ ground.ground;
}

pub ground_cut : (it : Mixed) (new : LevelSearch) (cut : Lit) → IsAtGround it → it.level.steps.items ≡ [] → IsKept new → level_of new ≡ record (level_of it.level) { cuts = it.level.cuts.items ++ cut ∷ [] }
    → new.steps.items ≡ [] → new.search ≡ record it.level.search { store = it.level.search.store ++ (cut ∷ []) ∷ [] } → IsAtGround (record { level = new; bounds = it.bounds })
ground_cut it new cut ground none kept level steps search =
    still_ground it new ground kept (ap (λ (l : Level). l.system) level) (ap (λ (s : Search). s.trail) search)
    (subst AreOpen (sym steps) (All-nil (λ (step : Step). clause_of step ≢ []))) (stored_cut it.level new cut level steps none search ground.mixed.stored)

pub ground_goal : (it : Mixed) (new : LevelSearch) (goal : Lit) → IsAtGround it → IsKept new → level_of new ≡ record (level_of it.level) { goal = Some goal } → new.steps.items ≡ it.level.steps.items
    → new.search ≡ record it.level.search { store = it.level.search.store ++ (goal ∷ []) ∷ [] } → IsAtGround (record { level = new; bounds = it.bounds })
ground_goal it new goal ground kept level steps search =
    still_ground it new ground kept (ap (λ (l : Level). l.system) level) (ap (λ (s : Search). s.trail) search)
    (subst AreOpen (sym steps) ground.mixed.working.open_) (stored_goal it.level new goal ((goal ∷ []) ∷ []) level steps search ground.mixed.stored)
