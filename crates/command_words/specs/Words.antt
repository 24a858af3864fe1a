-- The words of a command line, and what they ask for.
use Rattle.std.specs.Prelude.{◌≡◌, ◌≢◌, ℕ, List, [], ◌∷◌, All, codes}
use Rattle.std.specs.Str.{IsUtf8}
use Rattle.command_words.specs.declared.job.Command.{Command}
use Rattle.command_words.specs.declared.job.Command.TheVariants.{Analyse, Run, Brute}
use Rattle.command_words.specs.declared.job.Job.{Job}

abbrev pub command_word : Command → List ℕ
command_word Analyse = codes "analyse"
command_word Run = codes "run"
command_word Brute = codes "brute"

-- UTF-8 that isn't empty, and doesn't begin with a dash (45)
abbrev pub IsWord : List ℕ → Type 0
IsWord [] = ⊥
IsWord (byte ∷ bytes) = (byte ≢ 45) × IsUtf8 (byte ∷ bytes)

-- A command, and what its words name.
pub record JobWords : Type 0 where
  pub command : Command
  pub function : List ℕ
  pub file : List ℕ
  pub costs : List ℕ
  pub arguments : List (List ℕ)

-- `run` alone takes arguments
abbrev pub MayTake : Command → List (List ℕ) → Type 0
MayTake Analyse arguments = arguments ≡ []
MayTake Run arguments = Unit {0}
MayTake Brute arguments = arguments ≡ []

-- The words ask for this.
pub record Asks (words : List (List ℕ)) (job : JobWords) : Type 0 where
  pub words_are : words ≡ command_word job.command ∷ job.function ∷ job.file ∷ job.costs ∷ job.arguments
  pub each : All IsWord words
  pub takes : MayTake job.command job.arguments

abbrev pub words_of : Job → JobWords
words_of job = record { command = job.command; function = job.function.now; file = job.file.now; costs = job.costs.now; arguments = job.arguments.now }
