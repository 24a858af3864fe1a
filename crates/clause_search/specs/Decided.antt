-- What a decision leaves.
use Rattle.std.specs.Prelude.{◌≡◌, Bool, true, false, [], ◌∷◌, ◌++◌, length}
use Rattle.mix_system.specs.declared.literal.Lit.{Lit}
use Rattle.mix_system.specs.declared.tally.Tally.{Tally}
use Rattle.mix_system.specs.declared.tally.Work.TheVariants.{Decision}
use Rattle.mix_system.specs.Tally.{units, CountsOne}
use Rattle.clause_search.specs.Search.{Search}

-- a level more, which begins with the literal, and a decision was counted while there was budget
pub record OpensLevel (lit : Lit) (old new : Search) (before after : Tally) : Type 0 where
  pub had_budget : ¬ (units before ≡ before.budget)
  pub counted : CountsOne Decision before after
  pub level : new ≡ record old { trail = record old.trail { lits = old.trail.lits ++ lit ∷ []; levels = old.trail.levels ++ length old.trail.lits ∷ [] } }

-- nothing changed, and the budget was spent
pub record StaysSpent (old new : Search) (before after : Tally) : Type 0 where
  pub at_budget : units before ≡ before.budget
  pub state : new ≡ old
  pub tally : after ≡ before

abbrev pub Decides : Bool → Lit → Search → Search → Tally → Tally → Type 0
Decides true lit old new before after = OpensLevel lit old new before after
Decides false lit old new before after = StaysSpent old new before after
