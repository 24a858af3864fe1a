-- What the texts of proofs are: one for each proof that has the form of one, and a faulty text is none.
use Rattle.std.specs.Prelude.{◌≡◌, ℕ, List, All}
use Rattle.proof_term.specs.declared.proof.Proof.{Proof}
use Rattle.proof_spelling.specs.Lines.{proof_lines}
use Rattle.proof_spelling.specs.Complete.{IsComplete}
use Rattle.proof_spelling.specs.Ranges.{LineFits}
use Rattle.proof_spelling.specs.Spells.{Spells}
use Rattle.proof_spelling.specs.Text.{text_of}
use Rattle.proof_spelling.specs.Fault.{IsFault}

-- a proof of that form whose numbers are those of its types has a text
abbrev pub CompleteProofsHaveAText : Type 0
CompleteProofsHaveAText = (proof : Proof) → IsComplete proof → All LineFits (proof_lines proof) → Spells (text_of proof) proof

-- and no other text
abbrev pub ProofsHaveOneText : Type 0
ProofsHaveOneText = (proof : Proof) (text : List ℕ) → Spells text proof → text ≡ text_of proof

abbrev pub TextsSpellOneProof : Type 0
TextsSpellOneProof = (text : List ℕ) (first second : Proof) → Spells text first → Spells text second → first ≡ second

-- a text with a fault spells no proof
abbrev pub FaultyTextsSpellNothing : Type 0
FaultyTextsSpellNothing = (text : List ℕ) (number : ℕ) (proof : Proof) → IsFault text number → Spells text proof → ⊥

abbrev pub TextsHaveOneFault : Type 0
TextsHaveOneFault = (text : List ℕ) (first second : ℕ) → IsFault text first → IsFault text second → first ≡ second
