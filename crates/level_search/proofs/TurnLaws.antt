-- What a logged step comes to.
use Rattle.std.proofs.Common.{◌≡◌, ◌≢◌, ℕ, ◌<◌, List, [], ◌∷◌, ◌++◌, length, sym, ◌∙◌, subst, arith, All}
use Rattle.std.proofs.lemmas.List.Elements.{All-nil, All-push, All-weaker}
use Rattle.mix_system.specs.declared.literal.Lit.{Lit}
use Rattle.mix_system.specs.System.{System}
use Rattle.mix_system.specs.Follows.{Propagates}
use Rattle.bound_trail.specs.Trail.{Trail, IsTrail}
use Rattle.clause_search.specs.Search.{Search, known as store_known, present_level, WasQuiet}
use Rattle.clause_search.specs.Learnt.{IsLearnt, IsAsserting, IsTop}
use Rattle.clause_search.proofs.QuietLaws.{quiet_learnt}
use Rattle.proof_term.specs.declared.step.Step.{Step}
use Rattle.proof_term.specs.declared.step.Step.TheVariants.{Lemma}
use Rattle.level_steps.specs.Level.{clause_of}
use Rattle.level_steps.specs.Steps.{IsStepOn, AreOpen}
use Rattle.level_steps.specs.Plain.{IsNamed, IsPlain}
use Rattle.level_search.specs.declared.level.LevelSearch.{LevelSearch}
use Rattle.level_search.specs.Local.{local_hints}
use Rattle.level_search.specs.Kept.{level_of, IsKept, IsWorking, GoalStands}
use Rattle.level_search.specs.Learning.{trail_at, Ends, Learns}
use Rattle.level_search.proofs.LocalLaws.{hints_within}
use Rattle.level_search.proofs.KeptLaws.{kept_ended, empty_is_clause}
use Rattle.level_search.proofs.LogLaws.{clause_over, lemma_on, safe_where_it_stands, safe_on_trail, learnt_is_named, learnt_is_false}

not_nil : (before after : List Lit) (point : Lit) → before ++ point ∷ after ≢ []
not_nil [] after point is = cc is
not_nil (first ∷ before) after point is = cc is

some_lits : (state : Search) (lits : List Lit) (level : ℕ) → IsAsserting state lits level → lits ≢ []
some_lits state lits level asserting is = not_nil asserting.before asserting.after asserting.point (sym asserting.split ∙ is)

above_zero : (state : Search) (lits : List Lit) (level : ℕ) → IsAsserting state lits level → 0 < present_level state
above_zero state lits level asserting = omega (arith, asserting.lower)

-- the learnt clause is a valid step, and plain
pub learnt_on : (it : LevelSearch) (lits : List Lit) (hints : List ℕ) (level : ℕ) → IsWorking it → IsTrail it.search.trail → IsLearnt it.search lits hints level
    → IsStepOn (level_of it) it.steps.items (Lemma lits (local_hints it.numbers.items hints))
learnt_on it lits hints level working ok learnt =
    let above = above_zero it.search lits level learnt.asserting in
    lemma_on it working.kept lits hints (clause_over it.system.now it.search lits working.kept.over learnt.clause)
    (safe_on_trail it working.kept ok working.quiet above lits (learnt_is_false it working.kept ok working.quiet above lits level learnt.asserting)) learnt.follows

pub learnt_named : (it : LevelSearch) (lits : List Lit) (hints : List ℕ) (level : ℕ) → IsWorking it → IsTrail it.search.trail → IsLearnt it.search lits hints level → All (IsNamed it.system.now) lits
learnt_named it lits hints level working ok learnt =
    learnt_is_named it working.kept ok working.quiet (above_zero it.search lits level learnt.asserting) lits hints level learnt

pub learnt_plain : (it : LevelSearch) (lits : List Lit) (hints own : List ℕ) (level : ℕ) → IsWorking it → IsTrail it.search.trail → IsLearnt it.search lits hints level → IsPlain it.system.now (Lemma lits own)
learnt_plain it lits hints own level working ok learnt =
    record { clause = clause_over it.system.now it.search lits working.kept.over learnt.clause; lits = learnt_named it lits hints level working ok learnt }

-- a clause was learnt and logged, and its clause added
pub learns : (old new : LevelSearch) (lits : List Lit) (hints own : List ℕ) (level : ℕ) → IsWorking old → IsTrail old.search.trail → IsLearnt old.search lits hints level
    → level_of new ≡ level_of old → new.steps.items ≡ old.steps.items ++ Lemma lits own ∷ []
    → new.search ≡ record { store = old.search.store ++ lits ∷ []; trail = trail_at old.search.trail level }
    → IsKept new → Learns old new
learns old new lits hints own level working ok learnt level_is steps search kept =
    let quiet = quiet_learnt old.search lits level ok working.quiet (omega (arith, learnt.asserting.lower)) learnt.asserting in
    let some : clause_of (Lemma lits own) ≢ [] = some_lits old.search lits level learnt.asserting in
    record {
      working = record {
        kept = kept;
        quiet = subst WasQuiet (sym search) quiet;
        open_ = subst AreOpen (sym steps) (All-push (λ (s : Step). clause_of s ≢ []) old.steps.items (Lemma lits own) working.open_ some);
      };
      level = level_is;
      step = Lemma lits own;
      steps = steps;
      hints = hints;
      back = level;
      learnt = learnt;
      search = search;
    }

-- the empty clause as the last step
pub ended_by : (it new : LevelSearch) (step : Step) → new.system ≡ it.system → new.cuts ≡ it.cuts → new.goal ≡ it.goal → new.search ≡ it.search → new.numbers ≡ it.numbers → new.singles ≡ it.singles
    → new.steps.items ≡ it.steps.items ++ step ∷ [] → clause_of step ≡ [] → IsStepOn (level_of it) it.steps.items step → IsPlain it.system.now step → IsKept it → AreOpen it.steps.items → Ends it new
ended_by it new step system cuts goal search numbers singles steps empty on plain kept open_ = record {
  kept = kept_ended it new step system cuts goal search numbers singles steps empty on plain kept;
  level = λ i. record { system = (system i).now; cuts = (cuts i).items; goal = goal i };
  step = step;
  steps = steps;
  ended = record { before = it.steps.items; last = step; split = steps; others = open_; empty = empty };
  search = search;
}

-- the places that hints name have numbers
pub hint_places : (it : LevelSearch) → IsKept it → (bounds : List Lit) (hints : List ℕ) → Propagates (store_known it.search) bounds hints → All (λ hint. hint < length it.numbers.items) hints
hint_places it kept bounds hints p =
    All-weaker (λ (h : ℕ). h < length it.search.store) (λ h. h < length it.numbers.items) (λ h few. omega (arith, few, kept.numbered.one_each)) hints (hints_within it.search.store bounds hints p)

pub top_on : (it : LevelSearch) (hints : List ℕ) → IsWorking it → GoalStands (level_of it) it.steps.items → IsTop it.search hints → IsStepOn (level_of it) it.steps.items (Lemma [] (local_hints it.numbers.items hints))
top_on it hints working stands top = lemma_on it working.kept [] hints (empty_is_clause (length it.system.now.ranges) (length it.system.now.rows)) (safe_where_it_stands it working.kept stands) top

pub empty_lemma_plain : (it : LevelSearch) (hints : List ℕ) → IsPlain it.system.now (Lemma [] hints)
empty_lemma_plain it hints = record { clause = empty_is_clause (length it.system.now.ranges) (length it.system.now.rows); lits = All-nil (IsNamed it.system.now) }

-- the same of a clause and hints that are known by equations
pub same_step : (it : LevelSearch) (clause lits : List Lit) (own local : List ℕ) → clause ≡ lits → own ≡ local → IsStepOn (level_of it) it.steps.items (Lemma lits local) → IsStepOn (level_of it) it.steps.items (Lemma clause own)
same_step it clause lits own local clauses hints on =
    subst (λ (c : List Lit). IsStepOn (level_of it) it.steps.items (Lemma c own)) (sym clauses) (subst (λ (h : List ℕ). IsStepOn (level_of it) it.steps.items (Lemma lits h)) (sym hints) on)

pub same_plain : (system : System) (clause lits : List Lit) (own : List ℕ) → clause ≡ lits → IsPlain system (Lemma lits own) → IsPlain system (Lemma clause own)
same_plain system clause lits own clauses plain = subst (λ (c : List Lit). IsPlain system (Lemma c own)) (sym clauses) plain

pub same_search : (store : List (List Lit)) (lits other : List Lit) (back : Trail) (new now : Search) → new ≡ record now { store = now.store ++ other ∷ [] } → now.store ≡ store → now.trail ≡ back → other ≡ lits
    → new ≡ record { store = store ++ lits ∷ []; trail = back }
same_search store lits other back new now is stores trails clauses = is ∙ (λ i. record { store = stores i ++ clauses i ∷ []; trail = trails i })
