-- What a line of a proof's text says, by its words.
use Rattle.std.specs.Prelude.{ℕ, ◌==◌, ◌^◌, ℤ, pos, List, [], ◌∷◌, Bool, codes, Option, Some, None, int_lt, if◌then◌else◌}
use Rattle.std.specs.Str.{bytes_eq}
use Rattle.mix_system.specs.declared.literal.Term.{Term}
use Rattle.mix_system.specs.declared.literal.Lit.{Lit}
use Rattle.proof_text.specs.declared.line.Multiple.{Multiple}
use Rattle.proof_text.specs.declared.line.Version.TheVariants as version
use Rattle.proof_text.specs.declared.line.Kind.{Kind}
use Rattle.proof_text.specs.declared.line.Kind.TheVariants as kind
use Rattle.proof_text.specs.declared.line.Line.{Line}
use Rattle.proof_text.specs.declared.line.Line.TheVariants as line
use Rattle.proof_text.specs.declared.line.LineRead.{LineRead}
use Rattle.proof_text.specs.declared.line.LineRead.TheVariants as give
use Rattle.proof_text.specs.declared.reading.Reading.{Reading}
use Rattle.proof_text.specs.declared.reading.Reading.TheVariants.{Malformed, Unfit, Fits}
use Rattle.proof_text.specs.Words.{words, only_word, two_words}
use Rattle.proof_text.specs.Reading.{both, mapped, in_front}
use Rattle.proof_text.specs.Number.{natural, number}
use Rattle.proof_text.specs.Literal.{var_of, term_of, literal_of}

-- a number from 0 up to 2^32 or 2^64, as the text has it
abbrev pub natural_32 : List ℕ → Reading ℕ
natural_32 word = natural (2 ^ 32) word

abbrev pub natural_64 : List ℕ → Reading ℕ
natural_64 word = natural (2 ^ 64) word

-- a number of 128 bits that is at least 1
abbrev pub at_least_once : Reading ℤ → Reading ℤ
at_least_once Malformed = Malformed
at_least_once Unfit = Unfit
at_least_once (Fits by) = if int_lt (pos 0) by then Fits by else Unfit

abbrev pub multiple_of : List ℕ → List ℕ → Reading Multiple
multiple_of by lit = mapped (λ p. record { by = p.0; lit = p.1 }) (both (at_least_once (number by)) (literal_of lit))

-- each word is a literal
abbrev pub literals_of : List (List ℕ) → Reading (List Lit)
literals_of [] = Fits []
literals_of (word ∷ words) = in_front (literal_of word) (literals_of words)

-- each word is the number of a clause
abbrev pub hints_of : List (List ℕ) → Reading (List ℕ)
hints_of [] = Fits []
hints_of (word ∷ words) = in_front (natural_32 word) (hints_of words)

-- the words are multipliers, each with a literal
abbrev pub multiples_of : List (List ℕ) → Reading (List Multiple)
multiples_of [] = Fits []
multiples_of (by ∷ []) = Malformed
multiples_of (by ∷ lit ∷ words) = in_front (multiple_of by lit) (multiples_of words)

abbrev pub is_colon : List ℕ → Bool
is_colon word = bytes_eq word (codes ":")

abbrev pub is_system : List ℕ → Bool
is_system word = bytes_eq word (codes "system")

abbrev pub is_theory : List ℕ → Bool
is_theory word = bytes_eq word (codes "theory")

-- literals up to a colon, and the numbers of clauses behind it
abbrev pub lemma_of : List (List ℕ) → Reading (List Lit × List ℕ)
lemma_of [] = Malformed
lemma_of (word ∷ words) =
    if is_colon word then mapped (λ hints. ([], hints)) (hints_of words)
    else mapped (λ p. (p.0 ∷ p.1.0, p.1.1)) (both (literal_of word) (lemma_of words))

-- `none`, or the most that the cost may be
abbrev pub goal_of : List ℕ → Reading (Option ℕ)
goal_of word = if bytes_eq word (codes "none") then Fits None else mapped Some (natural_64 word)

abbrev pub as_line : {A : Type 0} → Kind → (A → Line) → Reading A → LineRead
as_line k make Malformed = give.Malformed
as_line k make Unfit = give.Unfit k
as_line k make (Fits x) = give.Fits (make x)

abbrev pub with_one : (List ℕ → LineRead) → Option (List ℕ) → LineRead
with_one reading None = give.Malformed
with_one reading (Some word) = reading word

abbrev pub with_two : (List ℕ → List ℕ → LineRead) → Option (List ℕ × List ℕ) → LineRead
with_two reading None = give.Malformed
with_two reading (Some two) = reading two.0 two.1

-- the lines, by the words behind their first
abbrev pub version_of : List ℕ → LineRead
version_of word =
    if bytes_eq word (codes "1") then give.Fits (line.Header version.One) else (
    if bytes_eq word (codes "2") then give.Fits (line.Header version.Two) else give.Malformed)

unfoldable pub header_line : List (List ℕ) → LineRead
header_line words = with_two (λ word number. if bytes_eq word (codes "proof") then version_of number else give.Malformed) (two_words words)

unfoldable pub shape_line : List (List ℕ) → LineRead
shape_line words = with_two (λ vars clauses. as_line kind.Shape (λ p. line.Shape p.0 p.1) (both (natural_32 vars) (natural_32 clauses))) (two_words words)

unfoldable pub goal_line : List (List ℕ) → LineRead
goal_line words = with_one (λ word. as_line kind.Goal line.Goal (goal_of word)) (only_word words)

unfoldable pub lemma_line : List (List ℕ) → LineRead
lemma_line words = as_line kind.Lemma (λ p. line.Lemma p.0 p.1) (lemma_of words)

unfoldable pub theory_line : List (List ℕ) → LineRead
theory_line words = as_line kind.Theory line.Theory (literals_of words)

unfoldable pub split_line : List (List ℕ) → LineRead
split_line words = with_two (λ var at. as_line kind.Split (λ p. line.Split p.0 p.1) (both (var_of var) (number at))) (two_words words)

unfoldable pub leaf_line : List (List ℕ) → LineRead
leaf_line [] = give.Malformed
leaf_line (by ∷ words) = as_line kind.Leaf line.Leaf (multiples_of (by ∷ words))

unfoldable pub cut_line : List (List ℕ) → LineRead
cut_line words = with_two (λ term bound. as_line kind.Cut (λ p. line.Cut p.0 p.1) (both (term_of term) (number bound))) (two_words words)

unfoldable pub end_line : List (List ℕ) → LineRead
end_line [] = give.Fits line.End
end_line (word ∷ words) = give.Malformed

unfoldable pub front_line : List ℕ → List (List ℕ) → LineRead
front_line word rest =
    if is_system word then shape_line rest else (
    if bytes_eq word (codes "goal") then goal_line rest else (
    if bytes_eq word (codes "wcet") then header_line rest else give.Malformed))

unfoldable pub short_line : List ℕ → List (List ℕ) → LineRead
short_line word rest =
    if bytes_eq word (codes "split") then split_line rest else (
    if bytes_eq word (codes "end") then end_line rest else (
    if bytes_eq word (codes "cut") then cut_line rest else front_line word rest))

unfoldable pub line_of : List (List ℕ) → LineRead
line_of [] = give.Malformed
line_of (word ∷ rest) =
    if is_theory word then theory_line rest else (
    if bytes_eq word (codes "lemma") then lemma_line rest else (
    if bytes_eq word (codes "leaf") then leaf_line rest else short_line word rest))

-- what the bytes of a line say
abbrev pub read : List ℕ → LineRead
read bytes = line_of (words bytes)
