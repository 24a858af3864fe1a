-- The variables of cases, which pieces don't read.
use Rattle.std.specs.Prelude.{◌≡◌, ◌⊎◌, ◌<◌, ◌≤◌, ℕ, length, take, All, Contains}
use Rattle.ll_rules.specs.Items.{values_of}
use Rattle.ll_verifier.specs.Sound.{SoundFunc}
use Rattle.path_encoding.specs.declared.spots.PathSpots.{PathSpots}
use Rattle.piece_vars.specs.Reads.{Both}

-- the variable is no case's
abbrev pub IsNoCase : PathSpots → ℕ → Type 0
IsNoCase spots var = ¬ Contains spots.cases.items var

-- No case has the variable of a number, of an edge, of a value or of a constant.
pub record AreCasesApart (spots : PathSpots) : Type 0 where
  pub numbers : All (λ var. 2 ≤ var) spots.cases.items
  pub edges : All (IsNoCase spots) spots.edges.items
  pub values : All (Both (IsNoCase spots)) spots.values.items
  pub constants : All (λ spot. IsNoCase spots spot.var) spots.constants.items

-- ---- by their order

-- the variable is none of those from one to another
abbrev pub IsOutside : (from to : ℕ) → ℕ → Type 0
IsOutside from to var = (var < from) ⊎ (to ≤ var)

-- Cases have variables from one to another, behind those of the numbers 0 and 1, of edges and of constants; parameters have none of these.
pub record AreCasesBetween (it : SoundFunc) (spots : PathSpots) (from to : ℕ) : Type 0 where
  pub numbers : 2 ≤ from
  pub cases : All (λ var. (from ≤ var) × (var < to)) spots.cases.items
  pub edges : All (λ var. var < from) spots.edges.items
  pub constants : All (λ spot. spot.var < from) spots.constants.items
  pub count : length spots.values.items ≡ length (values_of it.func)
  pub params : All (Both (IsOutside from to)) (take (length it.func.params) spots.values.items)
