-- What a combination of literals comes to: its first excess, or that and how it is no contradiction, or that it is one.
use Rattle.std.specs.Prelude.{◌≡◌, ◌≢◌, ℕ, pos, ◌<ℤ◌, List, All}
use Rattle.mix_system.specs.declared.row.Part.{Part}
use Rattle.mix_system.specs.declared.farkas.FarkasPart.{FarkasPart}
use Rattle.mix_system.specs.Sum.{int_sum_by}
use Rattle.mix_system.specs.FarkasSum.{weight, bound_weight, leaf_steps}
use Rattle.proof_term.specs.Steps.{StaysWithin}
use Rattle.leaf_check.specs.Steps.{IsFirstExcess}
use Rattle.leaf_check.specs.declared.combined.Combined.{Combined}
use Rattle.leaf_check.specs.declared.combined.Combined.TheVariants.{Refutes, NotZero, NotContradictory, TooLarge}

-- all variables cancel out
abbrev pub Vanishes : List (List Part) → List FarkasPart → Type 0
Vanishes rows parts = (var : ℕ) → int_sum_by (weight rows var) parts ≡ pos 0

-- some variable doesn't cancel out
abbrev pub HasRest : List (List Part) → List FarkasPart → Type 0
HasRest rows parts = (var : ℕ) × (int_sum_by (weight rows var) parts ≢ pos 0)

-- the bounds add up to less than 0
abbrev pub IsContradictory : List FarkasPart → Type 0
IsContradictory parts = int_sum_by bound_weight parts <ℤ pos 0

abbrev pub IsCombined : List (List Part) → List FarkasPart → Combined → Type 0
IsCombined rows parts Refutes = All StaysWithin (leaf_steps rows parts) × Vanishes rows parts × IsContradictory parts
IsCombined rows parts NotZero = All StaysWithin (leaf_steps rows parts) × HasRest rows parts
IsCombined rows parts NotContradictory = All StaysWithin (leaf_steps rows parts) × Vanishes rows parts × (¬ IsContradictory parts)
IsCombined rows parts (TooLarge excess) = IsFirstExcess (leaf_steps rows parts) excess
