-- Trials over all arguments of some widths: the best of them, and how far a trial has come.
use Rattle.std.specs.Prelude.{◌↔◌, ℕ, ◌+◌, ◌*◌, ◌^◌, ◌<◌, ◌≤◌, List, [], ◌∷◌, sum, Option, Some, None}
use Rattle.wx_base.specs.Args.{AreArguments, ComesBefore}

-- Arguments of these widths that reach the cost: none reach more, and none that come before them reach as much.
pub record IsFirstBest (reaches : List ℕ → ℕ → Type 0) (widths args : List ℕ) (cost : ℕ) : Type 0 where
  pub are : AreArguments widths args
  pub reached : reaches args cost
  pub at_most : (others : List ℕ) (n : ℕ) → AreArguments widths others → reaches others n → n ≤ cost
  pub first : (others : List ℕ) → AreArguments widths others → reaches others cost → ComesBefore others args → ⊥

-- no arguments of these widths reach anything
abbrev pub NoneReach : (List ℕ → ℕ → Type 0) → List ℕ → Type 0
NoneReach reaches widths = (args : List ℕ) (n : ℕ) → AreArguments widths args → reaches args n → ⊥

-- the same arguments reach the same costs
abbrev pub ReachTheSame : (List ℕ → ℕ → Type 0) → (List ℕ → ℕ → Type 0) → Type 0
ReachTheSame old new = (args : List ℕ) (n : ℕ) → new args n ↔ old args n

-- the place of arguments in lexicographic order, from 0: the number whose digits they are
abbrev pub place : List ℕ → List ℕ → ℕ
place [] args = 0
place (width ∷ widths) [] = 0
place (width ∷ widths) (arg ∷ args) = arg * 2 ^ sum widths + place widths args

-- among the arguments at the first places, these are the first that cost the most
pub record IsFirstBestBelow (reaches : List ℕ → ℕ → Type 0) (widths : List ℕ) (places : ℕ) (args : List ℕ) (cost : ℕ) : Type 0 where
  pub are : AreArguments widths args
  pub reached : reaches args cost
  pub at_most : (others : List ℕ) (n : ℕ) → AreArguments widths others → place widths others < places → reaches others n → n ≤ cost
  pub first : (others : List ℕ) → AreArguments widths others → place widths others < place widths args → reaches others cost → ⊥

-- what a leader is worth once the arguments at the first places were tried
abbrev pub IsLeader : (List ℕ → ℕ → Type 0) → List ℕ → ℕ → List ℕ → Option ℕ → Type 0
IsLeader reaches widths places args None = (others : List ℕ) (n : ℕ) → AreArguments widths others → place widths others < places → reaches others n → ⊥
IsLeader reaches widths places args (Some cost) = IsFirstBestBelow reaches widths places args cost
