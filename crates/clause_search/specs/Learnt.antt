-- What a conflict teaches.
use Rattle.std.specs.Prelude.{◌≡◌, ◌⊎◌, ℕ, ◌<◌, ◌≤◌, List, [], ◌∷◌, ◌++◌, length, All, Any, Contains}
use Rattle.mix_system.specs.declared.literal.Lit.{Lit}
use Rattle.mix_system.specs.declared.tally.Tally.{Tally}
use Rattle.mix_system.specs.declared.tally.Work.TheVariants.{Conflict}
use Rattle.mix_system.specs.Lit.{atom}
use Rattle.mix_system.specs.System.{IsClause}
use Rattle.mix_system.specs.Tally.{units, CountsOne}
use Rattle.mix_system.specs.Follows.{Follows}
use Rattle.bound_trail.specs.Trail.{BecameFalse}
use Rattle.clause_search.specs.Search.{Search, known, single_bounds, present_level}
use Rattle.clause_search.specs.declared.learnt.Learnt.{Learnt}
use Rattle.clause_search.specs.declared.learnt.Learnt.TheVariants.{Clause, Top, Spent}

-- the atom of the literal is that of a literal on the trail or in the store
abbrev pub HasKnownAtom : Search → Lit → Type 0
HasKnownAtom state lit =
    Any (λ other. atom other ≡ atom lit) state.trail.lits ⊎ Any (Any (λ other. atom other ≡ atom lit)) state.store

-- the literal became false above level 0 and below the present level, at the level or before
pub record BecameFalseBy (state : Search) (level : ℕ) (lit : Lit) : Type 0 where
  pub own : ℕ
  pub became_false : BecameFalse state.trail lit own
  pub above : 0 < own
  pub by : own ≤ level
  pub below : own < present_level state

-- one literal of the clause became false at the present level, and the others by a lower one; that is the greatest at which one of them did, or 0 where
-- there is no other
pub record IsAsserting (state : Search) (lits : List Lit) (level : ℕ) : Type 0 where
  pub before : List Lit
  pub point : Lit
  pub after : List Lit
  pub split : lits ≡ before ++ point ∷ after
  pub lower : level < present_level state
  pub at_present : BecameFalse state.trail point (present_level state)
  pub others : All (BecameFalseBy state level) (before ++ after)
  pub greatest : (before ++ after ≡ []) × (level ≡ 0) ⊎ Any (λ lit. BecameFalse state.trail lit level) (before ++ after)

-- the clause is new, and follows by its hints
pub record IsLearnt (state : Search) (lits : List Lit) (hints : List ℕ) (level : ℕ) : Type 0 where
  pub clause : IsClause (length state.trail.ranges) state.trail.rows lits
  pub follows : Follows lits hints (single_bounds state) (known state)
  pub fresh : All (λ other. ¬ All (Contains lits) other) state.store
  pub atoms : All (HasKnownAtom state) lits
  pub asserting : IsAsserting state lits level

-- the empty clause follows
abbrev pub IsTop : Search → List ℕ → Type 0
IsTop state hints = Follows [] hints (single_bounds state) (known state)

-- a conflict was counted while there was budget
pub record WasCounted (before after : Tally) : Type 0 where
  pub had_budget : ¬ (units before ≡ before.budget)
  pub counted : CountsOne Conflict before after

abbrev pub Teaches : Learnt → Search → Tally → Tally → Type 0
Teaches (Clause lits hints level) state before after = IsLearnt state lits hints level × WasCounted before after
Teaches (Top hints) state before after = IsTop state hints × WasCounted before after
Teaches Spent state before after = (units before ≡ before.budget) × (after ≡ before)

abbrev pub Concludes : Learnt → Search → Type 0
Concludes (Clause lits hints level) state = IsLearnt state lits hints level
Concludes (Top hints) state = IsTop state hints
Concludes Spent state = ⊥
