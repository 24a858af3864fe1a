-- A goal that the level's bounds contradict.
use Rattle.std.specs.Prelude.{◌≡◌, ℕ, pos, List, [], ◌∷◌, Some}
use Rattle.mix_system.specs.declared.literal.Lit.{Lit}
use Rattle.mix_system.specs.declared.farkas.FarkasPart.{FarkasPart}
use Rattle.mix_system.specs.declared.farkas.Farkas.{Farkas}
use Rattle.mix_system.specs.Lit.{negation}
use Rattle.mix_system.specs.Bounds.{Entails}
use Rattle.proof_term.specs.declared.tree.Node.{Node}
use Rattle.proof_term.specs.declared.tree.Node.TheVariants.{Leaf}
use Rattle.level_steps.specs.Level.{known}
use Rattle.level_search.specs.declared.level.LevelSearch.{LevelSearch}
use Rattle.level_search.specs.declared.learning.Learning.{Learning}
use Rattle.level_search.specs.declared.learning.Learning.TheVariants.{Going, Ended, Spent}
use Rattle.level_search.specs.Kept.{level_of, GoalStands}
use Rattle.level_search.specs.Learning.{Ends}

-- the level's bounds don't contradict the goal, and nothing changed; or the empty clause was logged for that
abbrev pub Settles : Learning → LevelSearch → LevelSearch → Type 0
Settles Going old new = (new ≡ old) × GoalStands (level_of new) new.steps.items
Settles Ended old new = Ends old new
Settles Spent old new = ⊥

-- the available clause of that number has one literal, which the goal makes false
pub record IsAgainst (it : LevelSearch) (goal : Lit) (number : ℕ) : Type 0 where
  pub only : Lit
  pub among : known (level_of it) it.steps.items number ≡ Some (only ∷ [])
  pub excluded : Entails goal (negation only)

-- the one node is the leaf of a literal and its negation
pub record IsBoth (lit : Lit) (nodes : List Node) : Type 0 where
  pub first : FarkasPart
  pub second : FarkasPart
  pub farkas : Farkas
  pub node : nodes ≡ Leaf farkas ∷ []
  pub parts : farkas.parts ≡ first ∷ second ∷ []
  pub first_lit : first.lit ≡ lit
  pub second_lit : second.lit ≡ negation lit
  pub first_by : first.by ≡ pos 1
  pub second_by : second.by ≡ pos 1
