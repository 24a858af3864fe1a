-- The store has each clause that a step may name.
use Rattle.std.proofs.Common.{◌≡◌, List, [], ◌∷◌, ◌++◌, append_assoc, map, Some, sym, ◌∙◌, ap, subst, arith, All}
use Rattle.std.specs.Prelude.{Contains}
use Rattle.std.proofs.lemmas.List.{append-nil, map-append}
use Rattle.std.proofs.lemmas.List.Elements.{All-push, All-weaker, Contains-append_left, Contains-append_right}
use Rattle.mix_system.specs.declared.literal.Lit.{Lit}
use Rattle.bound_trail.specs.Trail.{Trail}
use Rattle.clause_search.specs.Search.{Search}
use Rattle.proof_term.specs.declared.step.Step.{Step}
use Rattle.level_steps.specs.Level.{Level, clause_of, cut_clauses, available}
use Rattle.level_search.specs.declared.level.LevelSearch.{LevelSearch}
use Rattle.level_search.specs.Kept.{level_of}
use Rattle.mixed_solver.specs.Mixed.{IsStored}
use Rattle.mixed_solver.proofs.TrailLaws.{each_among}

-- what a step adds to the clauses that may be named, and what a cut does
available_step : (level : Level) (steps : List Step) (step : Step) → available level (steps ++ step ∷ []) ≡ available level steps ++ clause_of step ∷ []
available_step level steps step =
    let front = level.system.clauses ++ cut_clauses level.cuts in
    ap (λ (cs : List (List Lit)). front ++ cs) (map-append clause_of steps (step ∷ [])) ∙ sym (append_assoc front (map clause_of steps) (clause_of step ∷ []))

available_cut : (level : Level) (cut : Lit) → available (record level { cuts = level.cuts ++ cut ∷ [] }) [] ≡ available level [] ++ (cut ∷ []) ∷ []
available_cut level cut =
    let clauses = level.system.clauses in
    append-nil (clauses ++ cut_clauses (level.cuts ++ cut ∷ []))
    ∙ ap (λ (cs : List (List Lit)). clauses ++ cs) (map-append (λ (c : Lit). c ∷ []) level.cuts (cut ∷ []))
    ∙ sym (append_assoc clauses (cut_clauses level.cuts) ((cut ∷ []) ∷ []))
    ∙ ap (λ (cs : List (List Lit)). cs ++ (cut ∷ []) ∷ []) (sym (append-nil (clauses ++ cut_clauses level.cuts)))

-- a store that grew still has them
pub stored_more : (store more clauses : List (List Lit)) → All (Contains store) clauses → All (Contains (store ++ more)) clauses
stored_more store more clauses all = All-weaker (Contains store) (Contains (store ++ more)) (λ clause among. Contains-append_left store more clause among) clauses all

stored_last : (store clauses : List (List Lit)) (clause : List Lit) → All (Contains store) clauses → All (Contains (store ++ clause ∷ [])) (clauses ++ clause ∷ [])
stored_last store clauses clause all =
    All-push (Contains (store ++ clause ∷ [])) clauses clause (stored_more store (clause ∷ []) clauses all) (Contains-append_right store (clause ∷ []) clause (each_among (clause ∷ []) 0 clause (omega arith)))

pub stored_same : (old new : LevelSearch) → level_of new ≡ level_of old → new.steps.items ≡ old.steps.items → new.search.store ≡ old.search.store → IsStored old → IsStored new
stored_same old new level steps store stored = subst (λ (t : Type 0). t) (λ i. All (Contains (sym store i)) (available (sym level i) (sym steps i))) stored

-- a step came, and its clause to the store
pub stored_step : (old new : LevelSearch) (step : Step) (trail : Trail) → level_of new ≡ level_of old → new.steps.items ≡ old.steps.items ++ step ∷ []
    → new.search ≡ record { store = old.search.store ++ clause_of step ∷ []; trail = trail } → IsStored old → IsStored new
stored_step old new step trail level steps search stored =
    let clauses : available (level_of old) old.steps.items ++ clause_of step ∷ [] ≡ available (level_of new) new.steps.items =
    sym ((λ i. available (level i) (steps i)) ∙ available_step (level_of old) old.steps.items step) in
    subst (λ (s : Search). All (Contains s.store) (available (level_of new) new.steps.items)) (sym search)
    (subst (All (Contains (old.search.store ++ clause_of step ∷ []))) clauses (stored_last old.search.store (available (level_of old) old.steps.items) (clause_of step) stored))

-- a cut came
pub stored_cut : (old new : LevelSearch) (cut : Lit) → level_of new ≡ record (level_of old) { cuts = old.cuts.items ++ cut ∷ [] } → new.steps.items ≡ [] → old.steps.items ≡ []
    → new.search ≡ record old.search { store = old.search.store ++ (cut ∷ []) ∷ [] } → IsStored old → IsStored new
stored_cut old new cut level steps none search stored =
    let clauses : available (level_of old) [] ++ (cut ∷ []) ∷ [] ≡ available (level_of new) new.steps.items = sym ((λ i. available (level i) (steps i)) ∙ available_cut (level_of old) cut) in
    let own : All (Contains old.search.store) (available (level_of old) []) = subst (λ (xs : List Step). All (Contains old.search.store) (available (level_of old) xs)) none stored in
    subst (λ (s : Search). All (Contains s.store) (available (level_of new) new.steps.items)) (sym search)
    (subst (All (Contains (old.search.store ++ (cut ∷ []) ∷ []))) clauses (stored_last old.search.store (available (level_of old) []) (cut ∷ []) own))

-- a goal came
pub stored_goal : (old new : LevelSearch) (goal : Lit) (more : List (List Lit)) → level_of new ≡ record (level_of old) { goal = Some goal } → new.steps.items ≡ old.steps.items
    → new.search ≡ record old.search { store = old.search.store ++ more } → IsStored old → IsStored new
stored_goal old new goal more level steps search stored =
    let clauses : available (level_of old) old.steps.items ≡ available (level_of new) new.steps.items = sym (λ i. available (level i) (steps i)) in
    subst (λ (s : Search). All (Contains s.store) (available (level_of new) new.steps.items)) (sym search)
    (subst (All (Contains (old.search.store ++ more))) clauses (stored_more old.search.store more (available (level_of old) old.steps.items) stored))

-- a level without cuts and steps
pub stored_first : (it : LevelSearch) → it.cuts.items ≡ [] → it.steps.items ≡ [] → it.search.store ≡ it.system.now.clauses → IsStored it
stored_first it cuts steps store =
    let clauses = it.system.now.clauses in
    let same : clauses ≡ available (level_of it) it.steps.items =
    sym ((λ i. (clauses ++ cut_clauses (cuts i)) ++ map clause_of (steps i)) ∙ append-nil (clauses ++ []) ∙ append-nil clauses) in
    subst (λ (cs : List (List Lit)). All (Contains cs) (available (level_of it) it.steps.items)) (sym store) (subst (All (Contains clauses)) same (each_among clauses))
