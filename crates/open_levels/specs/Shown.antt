-- Whether a clause is shown by hints.
use Rattle.std.specs.Prelude.{ℕ, List, map, All, Bool, true, false}
use Rattle.mix_system.specs.declared.literal.Lit.{Lit}
use Rattle.mix_system.specs.Follows.{Known, Follows}
use Rattle.proof_term.specs.Steps.{StaysWithin, negation_step}
use Rattle.box_check.specs.declared.bounds.Bounds.{Bounds}
use Rattle.box_check.specs.Bounds.{IsSame}
use Rattle.leaf_check.specs.Steps.{IsFirstExcess}
use Rattle.open_levels.specs.declared.lemma.Shown.{Shown}
use Rattle.open_levels.specs.declared.lemma.Shown.TheVariants as shown

abbrev pub shown_by : Bool → Shown
shown_by true = shown.Follows
shown_by false = shown.Open

-- the negations of the clause's literals are formed first, then the hints are followed
abbrev pub IsShown : List Lit → List ℕ → List Lit → Known → Shown → Type 0
IsShown clause hints box known shown.Follows = All StaysWithin (map negation_step clause) × Follows clause hints box known
IsShown clause hints box known shown.Open = All StaysWithin (map negation_step clause) × (¬ Follows clause hints box known)
IsShown clause hints box known (shown.TooLarge excess) = IsFirstExcess (map negation_step clause) excess

-- the bounds are as before, but where a negation would overflow
abbrev pub Keeps : Shown → Bounds → Bounds → Type 0
Keeps shown.Follows old new = IsSame old new
Keeps shown.Open old new = IsSame old new
Keeps (shown.TooLarge excess) old new = Unit {0}
