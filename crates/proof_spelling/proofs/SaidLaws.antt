-- The bytes that are read as a line are its text, and its numbers fit.
use Rattle.std.proofs.Common.{◌≡◌, ℕ, ◌<◌, ◌^◌, ℤ, pos, ◌≤ℤ◌, List, [], ◌∷◌, ◌++◌, length, map, Bool, true, false, Option, Some, None, refl, sym, ◌∙◌, ap, subst, All, arith}
use Rattle.std.specs.Prelude.{codes, cond, int_lt, decimal}
use Rattle.std.specs.Str.{bytes_eq}
use Rattle.std.specs.List.{flat_map, join_with_byte}
use Rattle.std.specs.Fmt.{signed_decimal}
use Rattle.std.proofs.lemmas.Int.{ints}
use Rattle.std.proofs.lemmas.Bool.{cond_both}
use Rattle.std.proofs.lemmas.Slice.Eq.{bytes_eq-Decides}
use Rattle.std.proofs.lemmas.List.Elements.{All-nil, All-cons, All-head, All-tail}
use Rattle.std.proofs.lemmas.List.Splits.{join_with_byte-slice_split}
use Rattle.mix_system.specs.declared.literal.Term.{Term}
use Rattle.mix_system.specs.declared.literal.Term.TheVariants.{Var}
use Rattle.mix_system.specs.declared.literal.Lit.{Lit}
use Rattle.proof_text.specs.declared.line.Multiple.{Multiple}
use Rattle.proof_text.specs.declared.line.Version.TheVariants as version
use Rattle.proof_text.specs.declared.line.Kind.{Kind}
use Rattle.proof_text.specs.declared.line.Kind.TheVariants as kind
use Rattle.proof_text.specs.declared.line.Line.{Line}
use Rattle.proof_text.specs.declared.line.Line.TheVariants as line
use Rattle.proof_text.specs.declared.line.LineRead.{LineRead}
use Rattle.proof_text.specs.declared.line.LineRead.TheVariants as give
use Rattle.proof_text.specs.declared.reading.Reading.{Reading}
use Rattle.proof_text.specs.declared.reading.Reading.TheVariants.{Malformed, Unfit, Fits}
use Rattle.proof_text.specs.Words.{words, only_word, two_words}
use Rattle.proof_text.specs.Reading.{both, mapped, in_front, IfFits}
use Rattle.proof_text.specs.Number.{number}
use Rattle.proof_text.specs.Literal.{literal_of, var_of, term_of}
use Rattle.proof_text.specs.Line.{natural_32, natural_64, at_least_once, multiple_of, literals_of, hints_of, multiples_of, lemma_of, goal_of, is_colon, is_system, is_theory, as_line, with_one, with_two, version_of, header_line, shape_line, goal_line, lemma_line, theory_line, split_line, leaf_line, cut_line, end_line, front_line, short_line, line_of, read}
use Rattle.proof_spelling.specs.Text.{term_text, literal_text, line_text}
use Rattle.proof_spelling.specs.Ranges.{LitFits, MultipleFits, GoalFits, LineFits, LineIsFull, TakesOnce}
use Rattle.proof_spelling.proofs.NumberLaws.{IsDecimal, IsSigned, natural_said, number_said, mapped_fits}
use Rattle.proof_spelling.proofs.LiteralLaws.{IsTerm, IsVar, IsLiteral, both_fit, var_said, term_said, literal_said}
use Rattle.proof_spelling.proofs.LineWords.{multiple_words, goal_word, line_words, text_of_words}

-- parts of a line

above_zero : (by : ℤ) → int_lt (pos 0) by ≡ true → pos 1 ≤ℤ by
above_zero by e = grind (arith, ints)

record IsBy (word : List ℕ) (by : ℤ) : Type 0 where
  signed : IsSigned word by
  least : pos 1 ≤ℤ by

by_said : (word : List ℕ) (r : Reading ℤ) → IfFits r (IsSigned word) → IfFits (at_least_once r) (IsBy word)
by_said word Malformed is = tt
by_said word Unfit is = tt
by_said word (Fits by) is = cond_both {A = Reading ℤ} (int_lt (pos 0) by) (Fits by) Unfit (λ r. IfFits r (IsBy word)) (λ above. record { signed = is; least = above_zero by above }) (λ _. tt)

record IsMultiple (first second : List ℕ) (part : Multiple) : Type 0 where
  words : first ∷ second ∷ [] ≡ multiple_words part
  fits : MultipleFits part

multiple_said : (first second : List ℕ) → IfFits (multiple_of first second) (IsMultiple first second)
multiple_said first second =
    mapped_fits (λ (p : ℤ × Lit). IsBy first p.0 × IsLiteral second p.1) (IsMultiple first second) (λ p. record { by = p.0; lit = p.1 }) (both (at_least_once (number first)) (literal_of second))
    (both_fit (IsBy first) (IsLiteral second) (at_least_once (number first)) (literal_of second) (by_said first (number first) (number_said first)) (literal_said second))
    (λ p parts. record {
      words = two (signed_decimal p.0) (literal_text p.1) parts.0.signed.text parts.1.text;
      fits = record { least = parts.0.least; by = parts.0.signed.fits; lit = parts.1.fits };
    })
  where
    two : (a b : List ℕ) → first ≡ a → second ≡ b → first ∷ second ∷ [] ≡ a ∷ b ∷ []
    two a b one other = rw (one, other) refl

-- a list of items by its words

record AreItems {A : Type 0} (text : A → List ℕ) (Good : A → Type 0) (ws : List (List ℕ)) (xs : List A) : Type 0 where
  words : ws ≡ map text xs
  fits : All Good xs

record IsItem {A : Type 0} (text : A → List ℕ) (Good : A → Type 0) (w : List ℕ) (x : A) : Type 0 where
  word : w ≡ text x
  fits : Good x

items_front : {A : Type 0} (text : A → List ℕ) (Good : A → Type 0) (w : List ℕ) (ws : List (List ℕ)) (first : Reading A) (rest : Reading (List A))
    → IfFits first (IsItem text Good w) → IfFits rest (AreItems text Good ws) → IfFits (in_front first rest) (AreItems text Good (w ∷ ws))
items_front text Good w ws Malformed rest here there = tt
items_front text Good w ws Unfit Malformed here there = tt
items_front text Good w ws Unfit Unfit here there = tt
items_front text Good w ws Unfit (Fits xs) here there = tt
items_front text Good w ws (Fits x) Malformed here there = tt
items_front text Good w ws (Fits x) Unfit here there = tt
items_front text Good w ws (Fits x) (Fits xs) here there = record {
  words = ap (λ (v : List ℕ). v ∷ ws) here.word ∙ ap (λ (vs : List (List ℕ)). text x ∷ vs) there.words;
  fits = All-cons Good x xs here.fits there.fits;
}

item_as : {A : Type 0} (text : A → List ℕ) (Good : A → Type 0) (P : A → Type 0) (w : List ℕ) (r : Reading A) → IfFits r P → ((x : A) → P x → IsItem text Good w x) → IfFits r (IsItem text Good w)
item_as text Good P w Malformed is all = tt
item_as text Good P w Unfit is all = tt
item_as text Good P w (Fits x) is all = all x is

literals_said : (ws : List (List ℕ)) → IfFits (literals_of ws) (AreItems literal_text LitFits ws)
literals_said [] = record { words = refl; fits = All-nil LitFits }
literals_said (w ∷ ws) =
    items_front literal_text LitFits w ws (literal_of w) (literals_of ws)
    (item_as literal_text LitFits (IsLiteral w) w (literal_of w) (literal_said w) (λ x is. record { word = is.text; fits = is.fits })) (literals_said ws)

abbrev IsHint : ℕ → Type 0
IsHint hint = hint < 2 ^ 32

hints_said : (ws : List (List ℕ)) → IfFits (hints_of ws) (AreItems decimal IsHint ws)
hints_said [] = record { words = refl; fits = All-nil IsHint }
hints_said (w ∷ ws) =
    items_front decimal IsHint w ws (natural_32 w) (hints_of ws)
    (item_as decimal IsHint (IsDecimal (2 ^ 32) w) w (natural_32 w) (natural_said (2 ^ 32) w (omega arith)) (λ x is. record { word = is.text; fits = is.below })) (hints_said ws)

record AreMultiples (ws : List (List ℕ)) (parts : List Multiple) : Type 0 where
  words : ws ≡ flat_map multiple_words parts
  fits : All MultipleFits parts

multiples_front : (by lit : List ℕ) (ws : List (List ℕ)) (first : Reading Multiple) (rest : Reading (List Multiple))
    → IfFits first (IsMultiple by lit) → IfFits rest (AreMultiples ws) → IfFits (in_front first rest) (AreMultiples (by ∷ lit ∷ ws))
multiples_front by lit ws Malformed rest here there = tt
multiples_front by lit ws Unfit Malformed here there = tt
multiples_front by lit ws Unfit Unfit here there = tt
multiples_front by lit ws Unfit (Fits xs) here there = tt
multiples_front by lit ws (Fits x) Malformed here there = tt
multiples_front by lit ws (Fits x) Unfit here there = tt
multiples_front by lit ws (Fits x) (Fits xs) here there = record {
  words = ap (λ (vs : List (List ℕ)). vs ++ ws) here.words ∙ ap (λ (vs : List (List ℕ)). multiple_words x ++ vs) there.words;
  fits = All-cons MultipleFits x xs here.fits there.fits;
}

multiples_said : (ws : List (List ℕ)) → IfFits (multiples_of ws) (AreMultiples ws)
multiples_said [] = record { words = refl; fits = All-nil MultipleFits }
multiples_said (by ∷ []) = tt
multiples_said (by ∷ lit ∷ ws) = multiples_front by lit ws (multiple_of by lit) (multiples_of ws) (multiple_said by lit) (multiples_said ws)

record IsLemma (ws : List (List ℕ)) (parts : List Lit × List ℕ) : Type 0 where
  words : ws ≡ map literal_text parts.0 ++ codes ":" ∷ map decimal parts.1
  clause : All LitFits parts.0
  hints : All IsHint parts.1

same_text : (word text : List ℕ) → bytes_eq word text ≡ true → word ≡ text
same_text word text is = (bytes_eq-Decides word text).0 is

hints_behind : (word : List ℕ) (ws : List (List ℕ)) → is_colon word ≡ true → IfFits (mapped (λ (hints : List ℕ). ([], hints)) (hints_of ws)) (IsLemma (word ∷ ws))
hints_behind word ws colon =
    mapped_fits (AreItems decimal IsHint ws) (IsLemma (word ∷ ws)) (λ hints. ([], hints)) (hints_of ws) (hints_said ws)
    (λ hints is. record {
      words = ap (λ (v : List ℕ). v ∷ ws) (same_text word (codes ":") colon) ∙ ap (λ (vs : List (List ℕ)). codes ":" ∷ vs) is.words;
      clause = All-nil LitFits;
      hints = is.fits;
    })

literal_front : (word : List ℕ) (ws : List (List ℕ)) → IfFits (lemma_of ws) (IsLemma ws) → IfFits (mapped (λ (p : Lit × (List Lit × List ℕ)). (p.0 ∷ p.1.0, p.1.1)) (both (literal_of word) (lemma_of ws))) (IsLemma (word ∷ ws))
literal_front word ws rest =
    mapped_fits (λ (p : Lit × (List Lit × List ℕ)). IsLiteral word p.0 × IsLemma ws p.1) (IsLemma (word ∷ ws)) (λ p. (p.0 ∷ p.1.0, p.1.1)) (both (literal_of word) (lemma_of ws))
    (both_fit (IsLiteral word) (IsLemma ws) (literal_of word) (lemma_of ws) (literal_said word) rest)
    (λ p parts. record {
      words = ap (λ (v : List ℕ). v ∷ ws) parts.0.text ∙ ap (λ (vs : List (List ℕ)). literal_text p.0 ∷ vs) parts.1.words;
      clause = All-cons LitFits p.0 p.1.0 parts.0.fits parts.1.clause;
      hints = parts.1.hints;
    })

lemma_said : (ws : List (List ℕ)) → IfFits (lemma_of ws) (IsLemma ws)
lemma_said [] = tt
lemma_said (word ∷ ws) =
    cond_both {A = Reading (List Lit × List ℕ)} (is_colon word) (mapped (λ hints. ([], hints)) (hints_of ws)) (mapped (λ p. (p.0 ∷ p.1.0, p.1.1)) (both (literal_of word) (lemma_of ws))) (λ r. IfFits r (IsLemma (word ∷ ws)))
    (hints_behind word ws) (λ _. literal_front word ws (lemma_said ws))

record IsGoal (word : List ℕ) (most : Option ℕ) : Type 0 where
  text : word ≡ goal_word most
  fits : GoalFits most

goal_said : (word : List ℕ) → IfFits (goal_of word) (IsGoal word)
goal_said word =
    cond_both {A = Reading (Option ℕ)} (bytes_eq word (codes "none")) (Fits None) (mapped Some (natural_64 word)) (λ r. IfFits r (IsGoal word))
    (λ none. record { text = same_text word (codes "none") none; fits = tt })
    (λ _. mapped_fits (IsDecimal (2 ^ 64) word) (IsGoal word) Some (natural_64 word) (natural_said (2 ^ 64) word (omega arith)) (λ n d. record { text = d.text; fits = d.below }))

-- whole lines

pub record IsSaid (ws : List (List ℕ)) (l : Line) : Type 0 where
  pub words : ws ≡ line_words l
  pub fits : LineFits l
  pub full : LineIsFull l

abbrev SaidOf : List (List ℕ) → LineRead → Type 0
SaidOf ws give.Malformed = Unit {0}
SaidOf ws (give.Unfit k) = Unit {0}
SaidOf ws (give.Fits l) = IsSaid ws l

record Said (ws : List (List ℕ)) (r : LineRead) : Type 0 where
  said : SaidOf ws r

nothing : (ws : List (List ℕ)) → Said ws give.Malformed
nothing ws = record { said = tt }

line_said : {A : Type 0} (ws : List (List ℕ)) (P : A → Type 0) (k : Kind) (make : A → Line) (r : Reading A) → IfFits r P → ((x : A) → P x → IsSaid ws (make x)) → Said ws (as_line k make r)
line_said ws P k make Malformed is all = record { said = tt }
line_said ws P k make Unfit is all = record { said = tt }
line_said ws P k make (Fits x) is all = record { said = all x is }

one_word : (ws : List (List ℕ)) (reading : List ℕ → LineRead) (rest : List (List ℕ)) → ((a : List ℕ) → rest ≡ a ∷ [] → Said ws (reading a)) → Said ws (with_one reading (only_word rest))
one_word ws reading [] all = nothing ws
one_word ws reading (a ∷ []) all = all a refl
one_word ws reading (a ∷ b ∷ rest) all = nothing ws

both_words : (ws : List (List ℕ)) (reading : List ℕ → List ℕ → LineRead) (rest : List (List ℕ)) → ((a b : List ℕ) → rest ≡ a ∷ b ∷ [] → Said ws (reading a b)) → Said ws (with_two reading (two_words rest))
both_words ws reading [] all = nothing ws
both_words ws reading (a ∷ []) all = nothing ws
both_words ws reading (a ∷ b ∷ []) all = all a b refl
both_words ws reading (a ∷ b ∷ c ∷ rest) all = nothing ws

either : (ws : List (List ℕ)) (test : Bool) (x y : LineRead) → (test ≡ true → Said ws x) → Said ws y → Said ws (cond test x y)
either ws true x y here there = here refl
either ws false x y here there = there

two_are : (first a b c d : List ℕ) (rest : List (List ℕ)) → rest ≡ a ∷ b ∷ [] → a ≡ c → b ≡ d → first ∷ rest ≡ first ∷ c ∷ d ∷ []
two_are first a b c d rest is one other = rw (is, one, other) refl

version_said : (rest : List (List ℕ)) (word number : List ℕ) → rest ≡ word ∷ number ∷ [] → bytes_eq word (codes "proof") ≡ true → Said (codes "wcet" ∷ rest) (version_of number)
version_said rest word number is proof =
    let ws = codes "wcet" ∷ rest in
    either ws (bytes_eq number (codes "1")) (give.Fits (line.Header version.One)) _
    (λ one. record { said = record { words = two_are (codes "wcet") word number (codes "proof") (codes "1") rest is (same_text word (codes "proof") proof) (same_text number (codes "1") one); fits = tt; full = tt } })
    (either ws (bytes_eq number (codes "2")) (give.Fits (line.Header version.Two)) give.Malformed
    (λ two. record { said = record { words = two_are (codes "wcet") word number (codes "proof") (codes "2") rest is (same_text word (codes "proof") proof) (same_text number (codes "2") two); fits = tt; full = tt } })
    (nothing ws))

header_said : (rest : List (List ℕ)) → Said (codes "wcet" ∷ rest) (header_line rest)
unfolding header_line
header_said rest =
    both_words (codes "wcet" ∷ rest) (λ word number. cond (bytes_eq word (codes "proof")) (version_of number) give.Malformed) rest
    (λ word number is. either (codes "wcet" ∷ rest) (bytes_eq word (codes "proof")) (version_of number) give.Malformed (version_said rest word number is) (nothing (codes "wcet" ∷ rest)))

shape_said : (rest : List (List ℕ)) → Said (codes "system" ∷ rest) (shape_line rest)
unfolding shape_line
shape_said rest =
    let make : ℕ × ℕ → Line = λ p. line.Shape p.0 p.1 in
    both_words (codes "system" ∷ rest) (λ vars clauses. as_line kind.Shape make (both (natural_32 vars) (natural_32 clauses))) rest
    (λ vars clauses is. line_said (codes "system" ∷ rest) (λ (p : ℕ × ℕ). IsDecimal (2 ^ 32) vars p.0 × IsDecimal (2 ^ 32) clauses p.1) kind.Shape make (both (natural_32 vars) (natural_32 clauses))
    (both_fit (IsDecimal (2 ^ 32) vars) (IsDecimal (2 ^ 32) clauses) (natural_32 vars) (natural_32 clauses) (natural_said (2 ^ 32) vars (omega arith)) (natural_said (2 ^ 32) clauses (omega arith)))
    (λ p d. record { words = two_are (codes "system") vars clauses (decimal p.0) (decimal p.1) rest is d.0.text d.1.text; fits = (d.0.below, d.1.below); full = tt }))

goal_line_said : (rest : List (List ℕ)) → Said (codes "goal" ∷ rest) (goal_line rest)
unfolding goal_line
goal_line_said rest =
    one_word (codes "goal" ∷ rest) (λ word. as_line kind.Goal line.Goal (goal_of word)) rest
    (λ word is. line_said (codes "goal" ∷ rest) (IsGoal word) kind.Goal line.Goal (goal_of word) (goal_said word)
    (λ most g. record { words = ap (λ (ws : List (List ℕ)). codes "goal" ∷ ws) (is ∙ ap (λ (w : List ℕ). w ∷ []) g.text); fits = g.fits; full = tt }))

lemma_line_said : (rest : List (List ℕ)) → Said (codes "lemma" ∷ rest) (lemma_line rest)
unfolding lemma_line
lemma_line_said rest =
    let make : List Lit × List ℕ → Line = λ p. line.Lemma p.0 p.1 in
    line_said (codes "lemma" ∷ rest) (IsLemma rest) kind.Lemma make (lemma_of rest) (lemma_said rest)
    (λ p is. record { words = ap (λ (ws : List (List ℕ)). codes "lemma" ∷ ws) is.words; fits = (is.clause, is.hints); full = tt })

theory_line_said : (rest : List (List ℕ)) → Said (codes "theory" ∷ rest) (theory_line rest)
unfolding theory_line
theory_line_said rest =
    line_said (codes "theory" ∷ rest) (AreItems literal_text LitFits rest) kind.Theory line.Theory (literals_of rest) (literals_said rest)
    (λ clause is. record { words = ap (λ (ws : List (List ℕ)). codes "theory" ∷ ws) is.words; fits = is.fits; full = tt })

split_said : (rest : List (List ℕ)) → Said (codes "split" ∷ rest) (split_line rest)
unfolding split_line
split_said rest =
    let make : ℕ × ℤ → Line = λ p. line.Split p.0 p.1 in
    both_words (codes "split" ∷ rest) (λ var at. as_line kind.Split make (both (var_of var) (number at))) rest
    (λ var at is. line_said (codes "split" ∷ rest) (λ (p : ℕ × ℤ). IsVar var p.0 × IsSigned at p.1) kind.Split make (both (var_of var) (number at))
    (both_fit (IsVar var) (IsSigned at) (var_of var) (number at) (var_said var) (number_said at))
    (λ p d. record { words = two_are (codes "split") var at (term_text (Var p.0)) (signed_decimal p.1) rest is d.0.text d.1.text; fits = (d.0.fits, d.1.fits); full = tt }))

cut_said : (rest : List (List ℕ)) → Said (codes "cut" ∷ rest) (cut_line rest)
unfolding cut_line
cut_said rest =
    let make : Term × ℤ → Line = λ p. line.Cut p.0 p.1 in
    both_words (codes "cut" ∷ rest) (λ term bound. as_line kind.Cut make (both (term_of term) (number bound))) rest
    (λ term bound is. line_said (codes "cut" ∷ rest) (λ (p : Term × ℤ). IsTerm term p.0 × IsSigned bound p.1) kind.Cut make (both (term_of term) (number bound))
    (both_fit (IsTerm term) (IsSigned bound) (term_of term) (number bound) (term_said term) (number_said bound))
    (λ p d. record { words = two_are (codes "cut") term bound (term_text p.0) (signed_decimal p.1) rest is d.0.text d.1.text; fits = (d.0.fits, d.1.fits); full = tt }))

some_parts : (by : List ℕ) (ws : List (List ℕ)) (parts : List Multiple) → by ∷ ws ≡ flat_map multiple_words parts → 0 < length parts
some_parts by ws [] is = absurd (cc is)
some_parts by ws (part ∷ parts) is = omega arith

leaf_said : (rest : List (List ℕ)) → Said (codes "leaf" ∷ rest) (leaf_line rest)
unfolding leaf_line
leaf_said [] = nothing (codes "leaf" ∷ [])
leaf_said (by ∷ rest) =
    line_said (codes "leaf" ∷ by ∷ rest) (AreMultiples (by ∷ rest)) kind.Leaf line.Leaf (multiples_of (by ∷ rest)) (multiples_said (by ∷ rest))
    (λ parts is. record { words = ap (λ (ws : List (List ℕ)). codes "leaf" ∷ ws) is.words; fits = is.fits; full = some_parts by rest parts is.words })

end_said : (rest : List (List ℕ)) → Said (codes "end" ∷ rest) (end_line rest)
unfolding end_line
end_said [] = record { said = record { words = refl; fits = tt; full = tt } }
end_said (word ∷ rest) = nothing (codes "end" ∷ word ∷ rest)

-- the line of a word that is such a text
by_word : (word text : List ℕ) (rest : List (List ℕ)) (r : LineRead) → Said (text ∷ rest) r → bytes_eq word text ≡ true → Said (word ∷ rest) r
by_word word text rest r is same = subst (λ (w : List ℕ). Said (w ∷ rest) r) (sym (same_text word text same)) is

front_said : (word : List ℕ) (rest : List (List ℕ)) → Said (word ∷ rest) (front_line word rest)
unfolding front_line
front_said word rest =
    either (word ∷ rest) (is_system word) (shape_line rest) _ (by_word word (codes "system") rest (shape_line rest) (shape_said rest))
    (either (word ∷ rest) (bytes_eq word (codes "goal")) (goal_line rest) _ (by_word word (codes "goal") rest (goal_line rest) (goal_line_said rest))
    (either (word ∷ rest) (bytes_eq word (codes "wcet")) (header_line rest) give.Malformed (by_word word (codes "wcet") rest (header_line rest) (header_said rest)) (nothing (word ∷ rest))))

short_said : (word : List ℕ) (rest : List (List ℕ)) → Said (word ∷ rest) (short_line word rest)
unfolding short_line
short_said word rest =
    either (word ∷ rest) (bytes_eq word (codes "split")) (split_line rest) _ (by_word word (codes "split") rest (split_line rest) (split_said rest))
    (either (word ∷ rest) (bytes_eq word (codes "end")) (end_line rest) _ (by_word word (codes "end") rest (end_line rest) (end_said rest))
    (either (word ∷ rest) (bytes_eq word (codes "cut")) (cut_line rest) (front_line word rest) (by_word word (codes "cut") rest (cut_line rest) (cut_said rest)) (front_said word rest)))

words_said : (ws : List (List ℕ)) → Said ws (line_of ws)
unfolding line_of
words_said [] = nothing []
words_said (word ∷ rest) =
    either (word ∷ rest) (is_theory word) (theory_line rest) _ (by_word word (codes "theory") rest (theory_line rest) (theory_line_said rest))
    (either (word ∷ rest) (bytes_eq word (codes "lemma")) (lemma_line rest) _ (by_word word (codes "lemma") rest (lemma_line rest) (lemma_line_said rest))
    (either (word ∷ rest) (bytes_eq word (codes "leaf")) (leaf_line rest) (short_line word rest) (by_word word (codes "leaf") rest (leaf_line rest) (leaf_said rest)) (short_said word rest)))

pub record IsText (bytes : List ℕ) (l : Line) : Type 0 where
  pub text : bytes ≡ line_text l
  pub fits : LineFits l
  pub full : LineIsFull l

pub read_said : (bytes : List ℕ) (l : Line) → read bytes ≡ give.Fits l → IsText bytes l
read_said bytes l is =
    let here : Said (words bytes) (give.Fits l) = subst (Said (words bytes)) is (words_said (words bytes)) in
    record {
      text = sym (join_with_byte-slice_split 32 bytes) ∙ ap (join_with_byte 32) here.said.words ∙ text_of_words l;
      fits = here.said.fits;
      full = here.said.full;
    }

once_all : (parts : List Multiple) → All MultipleFits parts → All (λ part. pos 1 ≤ℤ part.by) parts
once_all [] fits = All-nil (λ part. pos 1 ≤ℤ part.by)
once_all (part ∷ parts) fits = All-cons (λ part. pos 1 ≤ℤ part.by) part parts (All-head MultipleFits part parts fits).least (once_all parts (All-tail MultipleFits part parts fits))

takes_once : (l : Line) → LineFits l → TakesOnce l
takes_once (line.Header v) fits = tt
takes_once (line.Shape vars clauses) fits = tt
takes_once (line.Goal most) fits = tt
takes_once (line.Lemma clause hints) fits = tt
takes_once (line.Theory clause) fits = tt
takes_once (line.Split var at) fits = tt
takes_once (line.Leaf parts) fits = once_all parts fits
takes_once (line.Cut term bound) fits = tt
takes_once line.End fits = tt

pub read_once : (bytes : List ℕ) (l : Line) → read bytes ≡ give.Fits l → TakesOnce l
read_once bytes l is = takes_once l (read_said bytes l is).fits
