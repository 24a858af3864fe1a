-- The texts that spell a proof.
use Rattle.std.specs.Prelude.{◌≡◌, ℕ, ◌==◌, List, [], ◌∷◌, Bool, not}
use Rattle.std.specs.List.{slice_split, prefix_len}
use Rattle.proof_term.specs.declared.proof.Proof.{Proof}
use Rattle.proof_text.specs.declared.line.Line.{Line}
use Rattle.proof_text.specs.declared.line.LineRead.TheVariants as give
use Rattle.proof_text.specs.Line.{read}
use Rattle.proof_spelling.specs.Lines.{proof_lines}
use Rattle.proof_spelling.specs.Complete.{IsComplete}

abbrev pub is_feed : ℕ → Bool
is_feed byte = byte == 10

-- the lines of a text, and at last what stands behind its last line feed
abbrev pub lines : List ℕ → List (List ℕ)
lines text = slice_split is_feed text

-- how many bytes stand before the first line feed
abbrev pub line_len : List ℕ → ℕ
line_len bytes = prefix_len (λ byte. not (is_feed byte)) bytes

-- the lines behind the line feed with which some bytes begin
abbrev pub lines_after : List ℕ → List (List ℕ)
lines_after [] = []
lines_after (byte ∷ bytes) = lines bytes

-- The pieces between the line feeds of a text are read as these lines, each of which ends with a line feed.
abbrev pub AreRead : List (List ℕ) → List Line → Type 0
AreRead [] ls = ⊥
AreRead (rest ∷ []) [] = rest ≡ []
AreRead (rest ∷ []) (l ∷ ls) = ⊥
AreRead (bytes ∷ next ∷ more) [] = ⊥
AreRead (bytes ∷ next ∷ more) (l ∷ ls) = (read bytes ≡ give.Fits l) × AreRead (next ∷ more) ls

-- the text has the lines of the proof, which has the form of one
pub record Spells (text : List ℕ) (proof : Proof) : Type 0 where
  pub complete : IsComplete proof
  pub reads : AreRead (lines text) (proof_lines proof)
