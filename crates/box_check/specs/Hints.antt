-- What bounds leave of a clause.
use Rattle.std.specs.Prelude.{◌≡◌, List, ◌∷◌, ◌++◌, Option, Some, None, All}
use Rattle.mix_system.specs.declared.literal.Lit.{Lit}
use Rattle.mix_system.specs.Lit.{negation}
use Rattle.box_check.specs.declared.bounds.Bounds.{Bounds}
use Rattle.box_check.specs.declared.hints.Open.{Open}
use Rattle.box_check.specs.declared.hints.Open.TheVariants.{Nothing, One, More}
use Rattle.box_check.specs.Bounds.{Says}

-- a literal is false where the bounds say its negation
abbrev pub IsFalse : Bounds → Lit → Type 0
IsFalse bounds lit = Says bounds (negation lit)

-- one literal isn't false, and those before and behind it are
pub record HasOneOpen (bounds : Bounds) (clause : List Lit) (lit : Lit) : Type 0 where
  pub before : List Lit
  pub after : List Lit
  pub split : clause ≡ before ++ lit ∷ after
  pub before_false : All (IsFalse bounds) before
  pub after_false : All (IsFalse bounds) after
  pub left : ¬ IsFalse bounds lit

-- two literals aren't false
pub record HasTwoOpen (bounds : Bounds) (clause : List Lit) : Type 0 where
  pub first : Lit
  pub second : Lit
  pub before : List Lit
  pub middle : List Lit
  pub after : List Lit
  pub split : clause ≡ before ++ first ∷ middle ++ second ∷ after
  pub first_left : ¬ IsFalse bounds first
  pub second_left : ¬ IsFalse bounds second

-- what is left of the clause
abbrev pub IsLeft : Bounds → List Lit → Open → Type 0
IsLeft bounds clause Nothing = All (IsFalse bounds) clause
IsLeft bounds clause (One lit) = HasOneOpen bounds clause lit
IsLeft bounds clause More = HasTwoOpen bounds clause

-- the one literal that was found so far not to be false
abbrev pub IsFound : Bounds → List Lit → Option Lit → Type 0
IsFound bounds clause None = All (IsFalse bounds) clause
IsFound bounds clause (Some lit) = HasOneOpen bounds clause lit
