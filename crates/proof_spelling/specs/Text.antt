-- The bytes of a proof's text.
use Rattle.std.specs.Prelude.{ℕ, ℤ, List, [], ◌∷◌, ◌++◌, codes, decimal, Option, Some, None}
use Rattle.std.specs.List.{flat_map}
use Rattle.std.specs.Fmt.{signed_decimal}
use Rattle.mix_system.specs.declared.literal.Term.{Term}
use Rattle.mix_system.specs.declared.literal.Term.TheVariants.{Var, Row}
use Rattle.mix_system.specs.declared.literal.Side.{Side}
use Rattle.mix_system.specs.declared.literal.Side.TheVariants.{Le, Ge}
use Rattle.mix_system.specs.declared.literal.Lit.{Lit}
use Rattle.proof_term.specs.declared.proof.Proof.{Proof}
use Rattle.proof_text.specs.declared.line.Multiple.{Multiple}
use Rattle.proof_text.specs.declared.line.Version.TheVariants as version
use Rattle.proof_text.specs.declared.line.Line.{Line}
use Rattle.proof_text.specs.declared.line.Line.TheVariants as line
use Rattle.proof_spelling.specs.Lines.{proof_lines}

-- a word with the space before it
abbrev pub spaced : List ℕ → List ℕ
spaced word = 32 ∷ word

abbrev pub term_text : Term → List ℕ
term_text (Var number) = 118 ∷ decimal number
term_text (Row number) = 114 ∷ decimal number

abbrev pub side_text : Side → List ℕ
side_text Le = codes "<="
side_text Ge = codes ">="

abbrev pub literal_text : Lit → List ℕ
literal_text lit = term_text lit.term ++ (side_text lit.side ++ signed_decimal lit.bound)

abbrev pub spaced_literal : Lit → List ℕ
spaced_literal lit = spaced (literal_text lit)

abbrev pub spaced_number : ℕ → List ℕ
spaced_number number = spaced (decimal number)

abbrev pub spaced_bound : ℤ → List ℕ
spaced_bound bound = spaced (signed_decimal bound)

abbrev pub spaced_multiple : Multiple → List ℕ
spaced_multiple part = spaced_bound part.by ++ spaced_literal part.lit

abbrev pub goal_text : Option ℕ → List ℕ
goal_text None = codes " none"
goal_text (Some most) = spaced_number most

-- a line without its line feed
abbrev pub line_text : Line → List ℕ
line_text (line.Header version.One) = codes "wcet proof 1"
line_text (line.Header version.Two) = codes "wcet proof 2"
line_text (line.Shape vars clauses) = codes "system" ++ (spaced_number vars ++ spaced_number clauses)
line_text (line.Goal most) = codes "goal" ++ goal_text most
line_text (line.Lemma clause hints) = codes "lemma" ++ (flat_map spaced_literal clause ++ (codes " :" ++ flat_map spaced_number hints))
line_text (line.Theory clause) = codes "theory" ++ flat_map spaced_literal clause
line_text (line.Split var at) = codes "split" ++ (spaced (term_text (Var var)) ++ spaced_bound at)
line_text (line.Leaf parts) = codes "leaf" ++ flat_map spaced_multiple parts
line_text (line.Cut term bound) = codes "cut" ++ (spaced (term_text term) ++ spaced_bound bound)
line_text line.End = codes "end"

abbrev pub line_bytes : Line → List ℕ
line_bytes l = line_text l ++ 10 ∷ []

abbrev pub lines_bytes : List Line → List ℕ
lines_bytes ls = flat_map line_bytes ls

abbrev pub text_of : Proof → List ℕ
text_of proof = lines_bytes (proof_lines proof)
