-- Where a text stops being that of a proof.
use Rattle.std.specs.Prelude.{◌≡◌, ◌≢◌, ◌⊎◌, ℕ, ◌+◌, List, [], ◌∷◌, ◌++◌, length, Result, Ok, Err}
use Rattle.proof_term.specs.declared.proof.Proof.{Proof}
use Rattle.proof_text.specs.declared.line.Line.{Line}
use Rattle.proof_text.specs.declared.line.LineRead.TheVariants as give
use Rattle.proof_text.specs.Line.{read}
use Rattle.proof_spelling.specs.declared.parsing.TextFault.{TextFault}
use Rattle.proof_spelling.specs.Lines.{proof_lines}
use Rattle.proof_spelling.specs.Complete.{IsComplete}
use Rattle.proof_spelling.specs.Spells.{lines, Spells}

-- these bytes are read as these lines, one by one
abbrev pub Say : List (List ℕ) → List Line → Type 0
Say [] [] = Unit {0}
Say [] (l ∷ ls) = ⊥
Say (bytes ∷ more) [] = ⊥
Say (bytes ∷ more) (l ∷ ls) = (read bytes ≡ give.Fits l) × Say more ls

-- the lines of some proof begin with these
pub record BeginAProof (texts : List (List ℕ)) : Type 0 where
  pub proof : Proof
  pub complete : IsComplete proof
  pub front : List Line
  pub rest : List Line
  pub whole : proof_lines proof ≡ front ++ rest
  pub says : Say texts front

-- these are the lines of some proof
pub record AreAProof (texts : List (List ℕ)) : Type 0 where
  pub proof : Proof
  pub complete : IsComplete proof
  pub says : Say texts (proof_lines proof)

-- Behind lines that begin a proof: the next line goes on with none, or no line feed ends it, or the text ends before the proof does.
abbrev pub Stops : List (List ℕ) → List (List ℕ) → Type 0
Stops before [] = ⊥
Stops before (rest ∷ []) = (rest ≢ []) ⊎ (AreAProof before → ⊥)
Stops before (bytes ∷ next ∷ more) = BeginAProof (before ++ bytes ∷ []) → ⊥

-- The line of that number, counted from 1, is the first with which the text begins no proof. Behind the last line the text's end counts as one.
pub record IsFault (text : List ℕ) (number : ℕ) : Type 0 where
  pub before : List (List ℕ)
  pub behind : List (List ℕ)
  pub split : lines text ≡ before ++ behind
  pub number_is : number ≡ length before + 1
  pub begins : BeginAProof before
  pub stops : Stops before behind

-- the proof that the text spells, or the first line with which it spells none
abbrev pub IsParsed : List ℕ → Result Proof TextFault → Type 0
IsParsed text (Ok proof) = Spells text proof
IsParsed text (Err fault) = IsFault text fault.line
