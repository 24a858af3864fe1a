-- What holds of a solver between calls, and what keeps it so.
use Rattle.mixed_solver.proofs.StoredLaws.{stored_same}
use Rattle.std.proofs.Common.{◌≡◌, ℕ, ◌≤◌, List, [], ◌∷◌, ◌++◌, length, take, drop, ℤ, All, refl, sym, ◌∙◌, ap, subst, ⊎_elim, arith}
use Rattle.std.specs.Prelude.{Contains}
use Rattle.std.proofs.lemmas.List.{take_all, take-append-drop}
use Rattle.std.proofs.lemmas.List.Elements.{All-contains, All-weaker}
use Rattle.mix_system.specs.declared.literal.Lit.{Lit}
use Rattle.mix_system.specs.declared.tally.Tally.{Tally}
use Rattle.mix_system.specs.Lit.{negation}
use Rattle.mix_system.specs.Calm.{IsCalm, IsSmall}
use Rattle.mix_system.specs.System.{System, IsWellFormed, Exists}
use Rattle.bound_trail.specs.Trail.{Trail, box, level_end, IsTrail}
use Rattle.clause_search.specs.Search.{Search, WasQuiet, Propagated}
use Rattle.clause_search.specs.Settled.{IsSettled}
use Rattle.clause_search.specs.Decided.{OpensLevel}
use Rattle.clause_search.proofs.LearntLaws.{ends_rise}
use Rattle.clause_search.proofs.QuietLaws.{quiet_propagated, quiet_decided}
use Rattle.clause_search.proofs.ReasonLaws.{level_end_within}
use Rattle.bounded_simplex.specs.Combination.{IsCalmBox}
use Rattle.bounded_simplex.proofs.SmallLaws.{small_bounds}
use Rattle.level_steps.specs.Level.{Level}
use Rattle.level_steps.specs.Steps.{AreOpen}
use Rattle.level_steps.specs.Plain.{IsNamed}
use Rattle.level_search.specs.declared.level.LevelSearch.{LevelSearch}
use Rattle.level_search.specs.declared.learning.Learning.{Learning}
use Rattle.level_search.specs.declared.learning.Learning.TheVariants.{Going, Ended, Spent}
use Rattle.level_search.specs.Kept.{level_of, IsAllowed, IsKept, IsWorking}
use Rattle.level_search.specs.Learning.{trail_at, Concludes}
use Rattle.level_search.proofs.LogLaws.{same_atom}
use Rattle.level_theories.specs.Theory.{Refutes}
use Rattle.trail_bounds.specs.declared.bounds.TrailBounds.{TrailBounds}
use Rattle.trail_bounds.specs.TrailBounds.{AreBoundsOf}
use Rattle.trail_bounds.proofs.BoundsLaws.{bounds_more}
use Rattle.mixed_solver.specs.declared.mixed.Mixed.{Mixed}
use Rattle.mixed_solver.specs.Mixed.{IsStored, IsMixed, GoesOn}
use Rattle.mixed_solver.proofs.TrailLaws.{changes_on_trail, end_more, end_opened, end_back, ground_left}

-- the bounds are small

pub named_small : (system : System) (lit : Lit) → IsCalm system → IsNamed system lit → IsSmall lit.bound
named_small system lit calm named =
    let P : Lit → Type 0 = λ other. IsSmall other.bound × IsSmall (negation other).bound in
    let inside = named.4 in
    let small = All-contains P named.1 inside.1 (All-contains (All P) system.clauses named.1 calm.bounds (named.0, named.2, named.3)) (inside.0, inside.2, inside.3) in
    ⊎_elim
    (λ equal. subst (λ (l : Lit). IsSmall l.bound) (sym equal) small.0)
    (λ opposite. subst (λ (l : Lit). IsSmall l.bound) (sym opposite) small.1)
    (same_atom lit inside.1 (sym inside.4))

allowed_small : (system : System) (store : List (List Lit)) (lit : Lit) → IsCalm system → IsAllowed system store lit → IsSmall lit.bound
allowed_small system store lit calm allowed = ⊎_elim (λ named. named_small system lit calm named) (λ set. set.0) allowed

module _ (it : Mixed) (mixed : IsMixed it) where
  abbrev lits : List Lit
  lits = it.level.search.trail.lits

  trail_small : All (λ lit. IsSmall lit.bound) lits
  trail_small =
      All-weaker (IsAllowed it.level.system.now it.level.search.store) (λ lit. IsSmall lit.bound)
      (λ lit allowed. allowed_small it.level.system.now it.level.search.store lit mixed.calm allowed) lits mixed.working.kept.over.put

  pub calm_box : IsCalmBox it.bounds.simplex.bounds
  calm_box =
      let bounds = it.bounds.simplex.bounds in
      let calm : IsCalm bounds.system = subst IsCalm (sym mixed.bounds.over) mixed.calm in
      let small = All-weaker (Contains lits) (λ (lit : Lit). IsSmall lit.bound) (λ lit among. All-contains (λ (l : Lit). IsSmall l.bound) lits lit trail_small among) bounds.changes
      (changes_on_trail it.level.system.now lits it.bounds mixed.bounds) in
      record {
        formed = subst IsWellFormed (sym mixed.bounds.over) mixed.working.kept.formed;
        system = calm;
        small = small_bounds bounds calm small;
      }

  -- the terms of the trail are the system's
  pub trail_known : IsTrail it.level.search.trail → All (λ lit. Exists (length it.level.system.now.ranges) (length it.level.system.now.rows) lit.term) lits
  trail_known ok =
      let over = mixed.working.kept.over in
      subst (λ rows. All (λ lit. Exists (length it.level.system.now.ranges) rows lit.term) lits) over.rows
      (subst (λ (ranges : List (ℤ × ℤ)). All (λ lit. Exists (length ranges) it.level.search.trail.rows lit.term) lits) over.ranges ok.terms)

  pub trail_term : (term : _) → Exists (length it.level.system.now.ranges) (length it.level.system.now.rows) term → Exists (length it.level.search.trail.ranges) it.level.search.trail.rows term
  trail_term term known =
      let over = mixed.working.kept.over in
      subst (λ rows. Exists (length it.level.search.trail.ranges) rows term) (sym over.rows)
      (subst (λ (ranges : List (ℤ × ℤ)). Exists (length ranges) (length it.level.system.now.rows) term) (sym over.ranges) known)

  -- literals were propagated
  pub mixed_grown : (new : LevelSearch) (before after : Tally) → IsTrail it.level.search.trail → IsKept new → level_of new ≡ level_of it.level → new.steps.items ≡ it.level.steps.items
      → Propagated it.level.search new.search before after → IsMixed (record { level = new; bounds = it.bounds })
  mixed_grown new before after ok kept same steps grown =
      let system : new.system.now ≡ it.level.system.now = ap (λ (l : Level). l.system) same in
      let added = grown.grown.added in
      record {
        working = record {
          kept = kept;
          quiet = quiet_propagated it.level.search new.search before after ok mixed.working.quiet grown;
          open_ = subst AreOpen (sym steps) mixed.working.open_;
        };
        stored = stored_same it.level new same steps (ap (λ (s : Search). s.store) grown.grown.lits) mixed.stored;
        calm = subst IsCalm (sym system) mixed.calm;
        bounds = subst (λ (s : System). AreBoundsOf s new.search.trail.lits it.bounds) (sym system)
            (subst (λ (s : Search). AreBoundsOf it.level.system.now s.trail.lits it.bounds) (sym grown.grown.lits) (bounds_more it.level.system.now lits it.bounds mixed.bounds added));
        ground = subst (λ (s : Search). it.bounds.ground ≤ level_end s.trail 0) (sym grown.grown.lits)
            (let more = end_more lits added it.level.search.trail.levels in omega (arith, mixed.ground, more));
      }

  -- a literal was decided
  pub mixed_decided : (new : LevelSearch) (lit : Lit) (before after : Tally) → IsTrail it.level.search.trail → IsKept new → level_of new ≡ level_of it.level → new.steps.items ≡ it.level.steps.items
      → All (IsSettled (box it.level.search.trail)) it.level.search.store → OpensLevel lit it.level.search new.search before after → IsMixed (record { level = new; bounds = it.bounds })
  mixed_decided new lit before after ok kept same steps settled opens =
      let system : new.system.now ≡ it.level.system.now = ap (λ (l : Level). l.system) same in
      record {
        working = record {
          kept = kept;
          quiet = quiet_decided it.level.search new.search lit before after ok mixed.working.quiet settled opens;
          open_ = subst AreOpen (sym steps) mixed.working.open_;
        };
        stored = stored_same it.level new same steps (ap (λ (s : Search). s.store) opens.level) mixed.stored;
        calm = subst IsCalm (sym system) mixed.calm;
        bounds = subst (λ (s : System). AreBoundsOf s new.search.trail.lits it.bounds) (sym system)
            (subst (λ (s : Search). AreBoundsOf it.level.system.now s.trail.lits it.bounds) (sym opens.level) (bounds_more it.level.system.now lits it.bounds mixed.bounds (lit ∷ [])));
        ground = subst (λ (s : Search). it.bounds.ground ≤ level_end s.trail 0) (sym opens.level)
            (let more = end_opened lits (lit ∷ []) it.level.search.trail.levels in omega (arith, mixed.ground, more));
      }

-- the level is the same, and so is the trail, or levels of it were given up
pub record Stays (it : Mixed) (new : LevelSearch) : Type 0 where
  pub level : level_of new ≡ level_of it.level
  pub count : ℕ
  pub lits : new.search.trail.lits ≡ take count it.level.search.trail.lits
  pub ground : it.bounds.ground ≤ length new.search.trail.lits
  pub end : it.bounds.ground ≤ level_end new.search.trail 0

module _ (it : Mixed) (mixed : IsMixed it) (ok : IsTrail it.level.search.trail) (new : LevelSearch) (same : level_of new ≡ level_of it.level) where
  pub stays_same : new.search ≡ it.level.search → Stays it new
  stays_same search =
      let trail = ap (λ (s : Search). s.trail) search in
      let within = level_end_within it.level.search.trail 0 ok in
      record {
        level = same;
        count = length it.level.search.trail.lits;
        lits = ap (λ (t : Trail). t.lits) trail ∙ sym (take_all (length it.level.search.trail.lits) it.level.search.trail.lits (omega arith));
        ground = subst (λ (t : Trail). it.bounds.ground ≤ length t.lits) (sym trail) (omega (arith, within, mixed.ground));
        end = subst (λ (t : Trail). it.bounds.ground ≤ level_end t 0) (sym trail) mixed.ground;
      }

  pub stays_back : (back : ℕ) → new.search.trail ≡ trail_at it.level.search.trail back → Stays it new
  stays_back back trail =
      let old = it.level.search.trail in
      let left = ground_left old back ok.places (ends_rise old 0 back ok (omega arith)) (level_end_within old back ok) in
      let end = end_back old back ok.places in
      record {
        level = same;
        count = level_end old back;
        lits = ap (λ (t : Trail). t.lits) trail;
        ground = subst (λ (t : Trail). it.bounds.ground ≤ length t.lits) (sym trail) (omega (arith, left, mixed.ground));
        end = subst (λ (t : Trail). it.bounds.ground ≤ level_end t 0) (sym trail) (omega (arith, end, mixed.ground));
      }

module _ (it : Mixed) (mixed : IsMixed it) (new : LevelSearch) (stays : Stays it new) where
  -- the bounds are those of a trail that begins with what is left
  pub still_bounds : (more : List Lit) × AreBoundsOf new.system.now (new.search.trail.lits ++ more) it.bounds
  still_bounds =
      let old = it.level.search.trail.lits in
      let whole : old ≡ new.search.trail.lits ++ drop stays.count old =
      sym (take-append-drop stays.count old) ∙ ap (λ (xs : List Lit). xs ++ drop stays.count old) (sym stays.lits) in (
        drop stays.count old,
        subst (λ (s : System). AreBoundsOf s (new.search.trail.lits ++ drop stays.count old) it.bounds) (sym (ap (λ (l : Level). l.system) stays.level))
            (subst (λ (xs : List Lit). AreBoundsOf it.level.system.now xs it.bounds) whole mixed.bounds),
      )

  -- after they were given back
  pub mixed_back : (bounds : TrailBounds) → AreBoundsOf new.system.now new.search.trail.lits bounds → bounds.ground ≡ it.bounds.ground → IsWorking new → IsStored new → IsMixed (record { level = new; bounds = bounds })
  mixed_back bounds are ground working stored = record {
    working = working;
    stored = stored;
    calm = subst IsCalm (sym (ap (λ (l : Level). l.system) stays.level)) mixed.calm;
    bounds = are;
    ground = omega (arith, ground, stays.end);
  }

-- what a conflict and a refutation leave
pub learnt_stays : (it : Mixed) (new : LevelSearch) (learning : Learning) → IsMixed it → IsTrail it.level.search.trail → Concludes learning it.level new → Stays it new
learnt_stays it new Going mixed ok is = stays_back it mixed ok new is.level is.back (ap (λ (s : Search). s.trail) is.search)
learnt_stays it new Ended mixed ok is = stays_same it mixed ok new is.level is.search
learnt_stays it new Spent mixed ok is = stays_same it mixed ok new (ap level_of is) (ap (λ (l : LevelSearch). l.search) is)

pub refuted_stays : (it : Mixed) (new : LevelSearch) (learning : Learning) → IsMixed it → IsTrail it.level.search.trail → Refutes learning it.level new → Stays it new
refuted_stays it new Going mixed ok is = stays_back it mixed ok new is.level is.back (ap (λ (s : Search). s.trail) is.search)
refuted_stays it new Ended mixed ok is = stays_same it mixed ok new is.level is.search
refuted_stays it new Spent mixed ok is = absurd is

-- what turns leave that went on
pub record HasTurned (old new : Mixed) (before after : Tally) : Type 0 where
  pub mixed : IsMixed new
  pub goes_on : GoesOn old.level new.level
  pub budget : after.budget ≡ before.budget

-- nothing changed but what counts nothing
pub mixed_same : (it : Mixed) (new : LevelSearch) → IsMixed it → IsTrail it.level.search.trail → IsKept new → level_of new ≡ level_of it.level → new.steps.items ≡ it.level.steps.items → new.search ≡ it.level.search
    → IsMixed (record { level = new; bounds = it.bounds })
mixed_same it new mixed ok kept same steps search =
    let bounds = subst (λ (s : System). AreBoundsOf s new.search.trail.lits it.bounds) (sym (ap (λ (l : Level). l.system) same))
    (subst (λ (s : Search). AreBoundsOf it.level.system.now s.trail.lits it.bounds) (sym search) mixed.bounds) in
    mixed_back it mixed new (stays_same it mixed ok new same search) it.bounds bounds refl
    (record { kept = kept; quiet = subst WasQuiet (sym search) mixed.working.quiet; open_ = subst AreOpen (sym steps) mixed.working.open_ })
    (stored_same it.level new same steps (ap (λ (s : Search). s.store) search) mixed.stored)
