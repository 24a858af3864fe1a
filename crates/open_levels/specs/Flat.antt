-- Steps that have ended, with their clauses in flat memory.
use Rattle.std.specs.Prelude.{◌≡◌, ◌<◌, ◌≤◌, ℕ, List, [], length, map, slice_range, slice_index_or, All, false}
use Rattle.std.specs.List.{AllPairs}
use Rattle.mix_system.specs.declared.literal.Lit.{Lit}
use Rattle.proof_term.specs.Levels.{Finished}
use Rattle.open_levels.specs.declared.ended.StepMark.{StepMark}

abbrev pub step_at : List Lit → StepMark → Finished
step_at lits mark = record { number = mark.number; clause = slice_range lits mark.from mark.to; is_cut = mark.is_cut }

abbrev pub steps : List Lit → List StepMark → List Finished
steps lits marks = map (step_at lits) marks

-- an earlier step has a smaller number
abbrev pub Rises : Finished → Finished → Type 0
Rises step later = step.number < later.number

-- the same, and its literals stand before those of the later
abbrev pub Precedes : StepMark → StepMark → Type 0
Precedes mark later = (mark.number < later.number) × (mark.to ≤ later.from)

abbrev pub AreOrdered : List StepMark → Type 0
AreOrdered marks = AllPairs Precedes marks

-- what is kept of steps whose literals are so many
pub record AreMarks (count : ℕ) (marks : List StepMark) : Type 0 where
  pub within : All (λ mark. (mark.from ≤ mark.to) × (mark.to ≤ count)) marks
  pub ordered : AreOrdered marks

abbrev pub blank : Finished
blank = record { number = 0; clause = []; is_cut = false }

-- the step at that place has the number
abbrev pub IsAt : List Finished → ℕ → ℕ → Type 0
IsAt steps number at = (at < length steps) × ((d : Finished) → (slice_index_or steps at d).number ≡ number)

-- the same of what is kept
abbrev pub IsMarkAt : List StepMark → ℕ → ℕ → Type 0
IsMarkAt marks number at = (at < length marks) × ((d : StepMark) → (slice_index_or marks at d).number ≡ number)

-- the numbers before a place are smaller
abbrev pub AreSmaller : List StepMark → ℕ → ℕ → Type 0
AreSmaller marks number low = (k : ℕ) (d : StepMark) → k < low → (slice_index_or marks k d).number < number

-- the numbers from a place on are greater
abbrev pub AreGreater : List StepMark → ℕ → ℕ → Type 0
AreGreater marks number high = (k : ℕ) (d : StepMark) → high ≤ k → k < length marks → number < (slice_index_or marks k d).number
