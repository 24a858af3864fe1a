-- A leaf that is read takes each of its literals once at least.
use Rattle.std.proofs.Common.{◌≡◌, ℕ, ℤ, pos, ◌≤ℤ◌, List, [], ◌∷◌, Bool, true, false, Option, Some, None, sym, subst, inl, inr, All, arith}
use Rattle.std.specs.Prelude.{codes}
use Rattle.std.specs.Str.{bytes_eq}
use Rattle.std.proofs.lemmas.Int.{ints}
use Rattle.mix_system.specs.declared.literal.Term.{Term}
use Rattle.proof_text.specs.declared.line.Version.TheVariants as version
use Rattle.proof_text.specs.declared.line.Kind.TheVariants as kind
use Rattle.std.specs.Prelude.{int_lt, if◌then◌else◌}
use Rattle.std.proofs.lemmas.Bool.{cases_Bool}
use Rattle.std.proofs.lemmas.List.Elements.{All-nil, All-cons}
use Rattle.mix_system.specs.declared.literal.Lit.{Lit}
use Rattle.proof_text.specs.declared.line.Multiple.{Multiple}
use Rattle.proof_text.specs.declared.line.Kind.{Kind}
use Rattle.proof_text.specs.declared.line.Line.{Line}
use Rattle.proof_text.specs.declared.line.Line.TheVariants as line
use Rattle.proof_text.specs.declared.line.LineRead.{LineRead}
use Rattle.proof_text.specs.declared.line.LineRead.TheVariants as give
use Rattle.proof_text.specs.declared.reading.Reading.{Reading}
use Rattle.proof_text.specs.declared.reading.Reading.TheVariants.{Malformed, Unfit, Fits}
use Rattle.proof_text.specs.Words.{words, only_word, two_words}
use Rattle.proof_text.specs.Reading.{both, mapped, in_front, IfFits}
use Rattle.proof_text.specs.Number.{number}
use Rattle.proof_text.specs.Literal.{literal_of, var_of, term_of}
use Rattle.proof_text.specs.Line.{natural_32, at_least_once, multiple_of, literals_of, lemma_of, goal_of, is_system, is_theory, multiples_of, as_line, with_one, with_two, version_of, header_line, shape_line, goal_line, lemma_line, theory_line, split_line, leaf_line, cut_line, end_line, front_line, short_line, line_of, read}
use Rattle.proof_checker.specs.Kept.{TakesOnce}

above_zero : (by : ℤ) → int_lt (pos 0) by ≡ true → pos 1 ≤ℤ by
above_zero by e = grind (arith, ints)

once : (r : Reading ℤ) → IfFits (at_least_once r) (λ by. pos 1 ≤ℤ by)
once Malformed = tt
once Unfit = tt
once (Fits by) = elim (cases_Bool (int_lt (pos 0) by)) [
  | inl above ↦ rw above (above_zero by above)
  | inr below ↦ rw below tt
]

multiple_once : (by : Reading ℤ) (lit : Reading Lit) → IfFits by (λ n. pos 1 ≤ℤ n)
    → IfFits (mapped (λ (p : ℤ × Lit). record { by = p.0; lit = p.1 }) (both by lit)) (λ (m : Multiple). pos 1 ≤ℤ m.by)
multiple_once Malformed lit fits = tt
multiple_once Unfit Malformed fits = tt
multiple_once Unfit Unfit fits = tt
multiple_once Unfit (Fits lit) fits = tt
multiple_once (Fits by) Malformed fits = tt
multiple_once (Fits by) Unfit fits = tt
multiple_once (Fits by) (Fits lit) fits = fits

in_front_all : {A : Type 0} (P : A → Type 0) (first : Reading A) (rest : Reading (List A)) → IfFits first P → IfFits rest (λ xs. All P xs) → IfFits (in_front first rest) (λ xs. All P xs)
in_front_all P Malformed rest here there = tt
in_front_all P Unfit Malformed here there = tt
in_front_all P Unfit Unfit here there = tt
in_front_all P Unfit (Fits xs) here there = tt
in_front_all P (Fits x) Malformed here there = tt
in_front_all P (Fits x) Unfit here there = tt
in_front_all P (Fits x) (Fits xs) here there = All-cons P x xs here there

abbrev IsOnce : Multiple → Type 0
IsOnce m = pos 1 ≤ℤ m.by

multiples_once : (parts : List (List ℕ)) → IfFits (multiples_of parts) (λ ms. All IsOnce ms)
multiples_once [] = All-nil IsOnce
multiples_once (by ∷ []) = tt
multiples_once (by ∷ lit ∷ parts) =
    in_front_all IsOnce (multiple_of by lit) (multiples_of parts) (multiple_once (at_least_once (number by)) (literal_of lit) (once (number by))) (multiples_once parts)

-- the same of whole lines

abbrev OnceIn : LineRead → Type 0
OnceIn give.Malformed = Unit {0}
OnceIn (give.Unfit k) = Unit {0}
OnceIn (give.Fits l) = TakesOnce l

record ReadOnce (said : LineRead) : Type 0 where
  once_in : OnceIn said

malformed_once : ReadOnce give.Malformed
malformed_once = record { once_in = tt }

as_line_once : {A : Type 0} (k : Kind) (make : A → Line) (r : Reading A) → IfFits r (λ x. TakesOnce (make x)) → ReadOnce (as_line k make r)
as_line_once k make Malformed fits = record { once_in = tt }
as_line_once k make Unfit fits = record { once_in = tt }
as_line_once k make (Fits x) fits = record { once_in = fits }

other_line : {A : Type 0} (k : Kind) (make : A → Line) (r : Reading A) → ((x : A) → TakesOnce (make x)) → ReadOnce (as_line k make r)
other_line k make Malformed all = record { once_in = tt }
other_line k make Unfit all = record { once_in = tt }
other_line k make (Fits x) all = record { once_in = all x }

one_word : (reading : List ℕ → LineRead) (word : Option (List ℕ)) → ((a : List ℕ) → ReadOnce (reading a)) → ReadOnce (with_one reading word)
one_word reading None all = record { once_in = tt }
one_word reading (Some word) all = all word

both_words : (reading : List ℕ → List ℕ → LineRead) (two : Option (List ℕ × List ℕ)) → ((a b : List ℕ) → ReadOnce (reading a b)) → ReadOnce (with_two reading two)
both_words reading None all = record { once_in = tt }
both_words reading (Some two) all = all two.0 two.1

either : (b : Bool) (x y : LineRead) → ReadOnce x → ReadOnce y → ReadOnce (if b then x else y)
either true x y here there = here
either false x y here there = there

version_once : (word : List ℕ) → ReadOnce (version_of word)
version_once word =
    either (bytes_eq word (codes "1")) (give.Fits (line.Header version.One)) _ (record { once_in = tt })
    (either (bytes_eq word (codes "2")) (give.Fits (line.Header version.Two)) give.Malformed (record { once_in = tt }) malformed_once)

header_once : (rest : List (List ℕ)) → ReadOnce (header_line rest)
unfolding header_line
header_once rest =
    both_words (λ word number. if bytes_eq word (codes "proof") then version_of number else give.Malformed) (two_words rest)
    (λ word number. either (bytes_eq word (codes "proof")) (version_of number) give.Malformed (version_once number) malformed_once)

shape_once : (rest : List (List ℕ)) → ReadOnce (shape_line rest)
unfolding shape_line
shape_once rest =
    let make : ℕ × ℕ → Line = λ p. line.Shape p.0 p.1 in
    both_words (λ vars clauses. as_line kind.Shape make (both (natural_32 vars) (natural_32 clauses))) (two_words rest)
    (λ vars clauses. other_line kind.Shape make (both (natural_32 vars) (natural_32 clauses)) (λ _. tt))

goal_once : (rest : List (List ℕ)) → ReadOnce (goal_line rest)
unfolding goal_line
goal_once rest = one_word (λ word. as_line kind.Goal line.Goal (goal_of word)) (only_word rest) (λ word. other_line kind.Goal line.Goal (goal_of word) (λ _. tt))

lemma_once : (rest : List (List ℕ)) → ReadOnce (lemma_line rest)
unfolding lemma_line
lemma_once rest =
    let make : List Lit × List ℕ → Line = λ p. line.Lemma p.0 p.1 in
    other_line kind.Lemma make (lemma_of rest) (λ _. tt)

theory_once : (rest : List (List ℕ)) → ReadOnce (theory_line rest)
unfolding theory_line
theory_once rest = other_line kind.Theory line.Theory (literals_of rest) (λ _. tt)

split_once : (rest : List (List ℕ)) → ReadOnce (split_line rest)
unfolding split_line
split_once rest =
    let make : ℕ × ℤ → Line = λ p. line.Split p.0 p.1 in
    both_words (λ var at. as_line kind.Split make (both (var_of var) (number at))) (two_words rest)
    (λ var at. other_line kind.Split make (both (var_of var) (number at)) (λ _. tt))

leaf_once : (rest : List (List ℕ)) → ReadOnce (leaf_line rest)
unfolding leaf_line
leaf_once [] = malformed_once
leaf_once (by ∷ rest) = as_line_once kind.Leaf line.Leaf (multiples_of (by ∷ rest)) (multiples_once (by ∷ rest))

cut_once : (rest : List (List ℕ)) → ReadOnce (cut_line rest)
unfolding cut_line
cut_once rest =
    let make : Term × ℤ → Line = λ p. line.Cut p.0 p.1 in
    both_words (λ term bound. as_line kind.Cut make (both (term_of term) (number bound))) (two_words rest)
    (λ term bound. other_line kind.Cut make (both (term_of term) (number bound)) (λ _. tt))

end_once : (rest : List (List ℕ)) → ReadOnce (end_line rest)
unfolding end_line
end_once [] = record { once_in = tt }
end_once (word ∷ rest) = malformed_once

front_once : (word : List ℕ) (rest : List (List ℕ)) → ReadOnce (front_line word rest)
unfolding front_line
front_once word rest =
    either (is_system word) (shape_line rest) _ (shape_once rest)
    (either (bytes_eq word (codes "goal")) (goal_line rest) _ (goal_once rest)
    (either (bytes_eq word (codes "wcet")) (header_line rest) give.Malformed (header_once rest) malformed_once))

short_once : (word : List ℕ) (rest : List (List ℕ)) → ReadOnce (short_line word rest)
unfolding short_line
short_once word rest =
    either (bytes_eq word (codes "split")) (split_line rest) _ (split_once rest)
    (either (bytes_eq word (codes "end")) (end_line rest) _ (end_once rest)
    (either (bytes_eq word (codes "cut")) (cut_line rest) (front_line word rest) (cut_once rest) (front_once word rest)))

line_once : (parts : List (List ℕ)) → ReadOnce (line_of parts)
unfolding line_of
line_once [] = malformed_once
line_once (word ∷ rest) =
    either (is_theory word) (theory_line rest) _ (theory_once rest)
    (either (bytes_eq word (codes "lemma")) (lemma_line rest) _ (lemma_once rest)
    (either (bytes_eq word (codes "leaf")) (leaf_line rest) (short_line word rest) (leaf_once rest) (short_once word rest)))

pub read_once : (bytes : List ℕ) (l : Line) → give.Fits l ≡ read bytes → TakesOnce l
read_once bytes l e =
    let here : ReadOnce (give.Fits l) = subst ReadOnce (sym e) (line_once (words bytes)) in
    here.once_in
