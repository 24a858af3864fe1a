-- The answer to a proof's text.
use Rattle.std.specs.Prelude.{◌≡◌, ◌⊎◌, ℕ, ◌+◌, ◌==◌, List, [], ◌∷◌, not}
use Rattle.std.specs.List.{slice_split, prefix_len}
use Rattle.mix_system.specs.declared.literal.Term.{Term}
use Rattle.mix_system.specs.System.{System}
use Rattle.proof_checker.specs.declared.verdict.Reason.{Reason}
use Rattle.proof_checker.specs.declared.verdict.Reason.TheVariants as reason
use Rattle.proof_checker.specs.declared.verdict.Verdict.{Verdict}
use Rattle.proof_checker.specs.declared.verdict.Verdict.TheVariants.{Yes, No}
use Rattle.proof_checker.specs.Place.{Place, AtHeader, AtEnd}
use Rattle.proof_checker.specs.Outcome.{Next, Fails, Gives}

-- the lines of a text, and at last what stands behind its last line feed
abbrev pub lines : List ℕ → List (List ℕ)
lines text = slice_split (λ byte. byte == 10) text

-- how many bytes stand before the first line feed
abbrev pub line_len : List ℕ → ℕ
line_len bytes = prefix_len (λ byte. not (byte == 10)) bytes

-- the lines behind the line feed with which some bytes begin
abbrev pub lines_after : List ℕ → List (List ℕ)
lines_after [] = []
lines_after (byte ∷ bytes) = lines bytes

-- the answer where the lines have come to a place and their text ends
abbrev pub ended : Place → ℕ → Verdict
ended (AtEnd goal) number = Yes goal
ended _ number = No number reason.Unfinished

-- the same where these bytes stand behind the last line feed
abbrev pub end_verdict : Place → ℕ → List ℕ → Verdict
end_verdict place number [] = ended place number
end_verdict place number (byte ∷ bytes) = No number reason.BadText

-- The answer to the lines from a place on, the first of which has that number: the first line that fails gives it.
abbrev pub AreAnswered : System → Term → Place → ℕ → List (List ℕ) → Verdict → Type 0
AreAnswered system cost place number [] verdict = ⊥
AreAnswered system cost place number (rest ∷ []) verdict = verdict ≡ end_verdict place number rest
AreAnswered system cost place number (line ∷ next ∷ more) verdict =
    ((why : Reason) × Gives system cost place line (Fails why) × (verdict ≡ No number why))
    ⊎ ((to : Place) × Gives system cost place line (Next to) × AreAnswered system cost to (number + 1) (next ∷ more) verdict)

-- the answer to a text
abbrev pub IsVerdict : System → Term → List ℕ → Verdict → Type 0
IsVerdict system cost text verdict = AreAnswered system cost AtHeader 1 (lines text) verdict
