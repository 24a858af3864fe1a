-- What the lines that were fed come to.
use Rattle.std.specs.Prelude.{◌≡◌, ◌⊎◌, ℕ, ◌+◌, List, [], ◌∷◌, length}
use Rattle.mix_system.specs.declared.literal.Term.{Term}
use Rattle.mix_system.specs.System.{System}
use Rattle.leaf_check.specs.Sums.{IsClear}
use Rattle.proof_checker.specs.declared.verdict.Reason.{Reason}
use Rattle.proof_checker.specs.declared.base.Base.{Base}
use Rattle.proof_checker.specs.declared.kept.Found.{Found}
use Rattle.proof_checker.specs.declared.kept.Found.TheVariants as found
use Rattle.proof_checker.specs.declared.checker.Checker.{Checker}
use Rattle.proof_checker.specs.declared.checker.Fed.{Fed as Answer}
use Rattle.proof_checker.specs.declared.checker.Fed.TheVariants as answer
use Rattle.proof_checker.specs.Place.{Place, AtHeader}
use Rattle.proof_checker.specs.Outcome.{Next, Fails, Gives}
use Rattle.proof_checker.specs.Kept.{IsBase, IsKept}

-- all lines pass, from a place to another
abbrev pub Pass : System → Term → Place → List (List ℕ) → Place → Type 0
Pass system cost place [] to = to ≡ place
Pass system cost place (line ∷ more) to = (next : Place) × Gives system cost place line (Next next) × Pass system cost next more to

-- the first line that fails has that number, where the first of them all has the other, and fails for that reason
abbrev pub FailsFirst : System → Term → Place → ℕ → List (List ℕ) → ℕ → Reason → Type 0
FailsFirst system cost place number [] at why = ⊥
FailsFirst system cost place number (line ∷ more) at why =
    (Gives system cost place line (Fails why) × (at ≡ number))
    ⊎ ((to : Place) × Gives system cost place line (Next to) × FailsFirst system cost to (number + 1) more at why)

-- what is found of the lines that were fed, where the next line, or the one that failed, has that number
abbrev pub IsFound : Base → List (List ℕ) → Found → ℕ → Type 0
IsFound base fed (found.At k) number =
    (to : Place) × IsKept base k to × Pass base.system.now base.cost AtHeader fed to × (number ≡ 1 + length fed)
IsFound base fed (found.Failed why) number = FailsFirst base.system.now base.cost AtHeader 1 fed number why

-- the checker was made for the system and the cost and fed these lines
pub record HasRead (system : System) (cost : Term) (fed : List (List ℕ)) (checker : Checker) : Type 0 where
  pub system_is : checker.base.system.now ≡ system
  pub cost_is : checker.base.cost ≡ cost
  pub sound : IsBase checker.base
  pub clear : IsClear (length checker.base.system.now.ranges) checker.sums
  pub found : IsFound checker.base fed checker.found checker.number

-- all lines pass, or this is the reason of the first that fails
abbrev pub IsFed : System → Term → List (List ℕ) → Answer → Type 0
IsFed system cost fed answer.Going = (to : Place) × Pass system cost AtHeader fed to
IsFed system cost fed (answer.Failed why) = (number : ℕ) × FailsFirst system cost AtHeader 1 fed number why
