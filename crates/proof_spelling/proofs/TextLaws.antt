-- The text of a line is read as the line, and that of lines as these lines.
use Rattle.std.proofs.Common.{◌≡◌, ℕ, ◌<◌, ◌^◌, ℤ, pos, ◌≤ℤ◌, List, [], ◌∷◌, ◌++◌, length, map, true, false, Option, Some, None, refl, sym, ◌∙◌, ap, subst, All, arith, append_assoc}
use Rattle.std.specs.Prelude.{codes, int_lt, decimal}
use Rattle.std.specs.Str.{bytes_eq}
use Rattle.std.specs.List.{flat_map}
use Rattle.std.specs.Fmt.{signed_decimal}
use Rattle.std.specs.Str.Parse.{AllDigits}
use Rattle.std.proofs.lemmas.Int.{ints}
use Rattle.std.proofs.lemmas.Bool.{ne_eqb}
use Rattle.std.proofs.lemmas.List.Elements.{All-head, All-tail}
use Rattle.std.proofs.lemmas.List.Splits.{slice_split_at}
use Rattle.std.proofs.lemmas.Fmt.{decimal_is_IsNumeral_wide}
use Rattle.std.proofs.lemmas.Str.Parse.{digit_from_value}
use Rattle.mix_system.specs.declared.literal.Term.{Term}
use Rattle.mix_system.specs.declared.literal.Term.TheVariants.{Var, Row}
use Rattle.mix_system.specs.declared.literal.Lit.{Lit}
use Rattle.proof_text.specs.declared.line.Multiple.{Multiple}
use Rattle.proof_text.specs.declared.line.Version.TheVariants as version
use Rattle.proof_text.specs.declared.line.Kind.TheVariants as kind
use Rattle.proof_text.specs.declared.line.Line.{Line}
use Rattle.proof_text.specs.declared.line.Line.TheVariants as line
use Rattle.proof_text.specs.declared.line.LineRead.TheVariants as give
use Rattle.proof_text.specs.declared.reading.Reading.{Reading}
use Rattle.proof_text.specs.declared.reading.Reading.TheVariants.{Fits}
use Rattle.proof_text.specs.Number.{number}
use Rattle.proof_text.specs.Literal.{var_of}
use Rattle.proof_text.specs.Line.{natural_32, multiple_of, literals_of, hints_of, multiples_of, lemma_of, goal_of, is_colon, as_line, header_line, shape_line, goal_line, lemma_line, theory_line, split_line, leaf_line, cut_line, end_line, front_line, short_line, line_of, read}
use Rattle.proof_spelling.specs.Text.{term_text, side_text, literal_text, line_text, line_bytes, lines_bytes}
use Rattle.proof_spelling.specs.Ranges.{LitFits, MultipleFits, GoalFits, LineFits, LineIsFull}
use Rattle.proof_spelling.specs.Spells.{is_feed, lines, AreRead}
use Rattle.proof_spelling.proofs.NumberLaws.{unsigned_of, natural_of, number_of}
use Rattle.proof_spelling.proofs.LiteralLaws.{term_of_text, literal_of_text}
use Rattle.proof_spelling.proofs.LineWords.{multiple_words, goal_word, line_words}
use Rattle.proof_spelling.proofs.WordSplitLaws.{words_of_text, one_line_text}

hint_of : (hint : ℕ) → hint < 2 ^ 32 → natural_32 (decimal hint) ≡ Fits hint
hint_of hint fits = natural_of (2 ^ 32) hint fits (omega (arith, fits))

literals_of_text : (lits : List Lit) → All LitFits lits → literals_of (map literal_text lits) ≡ Fits lits
literals_of_text [] fits = refl
literals_of_text (lit ∷ lits) fits = rw (literal_of_text lit (All-head LitFits lit lits fits), literals_of_text lits (All-tail LitFits lit lits fits)) refl

hints_of_text : (hints : List ℕ) → All (λ hint. hint < 2 ^ 32) hints → hints_of (map decimal hints) ≡ Fits hints
hints_of_text [] fits = refl
hints_of_text (hint ∷ hints) fits =
    rw (hint_of hint (All-head (λ (n : ℕ). n < 2 ^ 32) hint hints fits), hints_of_text hints (All-tail (λ (n : ℕ). n < 2 ^ 32) hint hints fits)) refl

is_above : (by : ℤ) → pos 1 ≤ℤ by → int_lt (pos 0) by ≡ true
is_above by least = grind (arith, ints)

multiple_of_text : (part : Multiple) → MultipleFits part → multiple_of (signed_decimal part.by) (literal_text part.lit) ≡ Fits part
multiple_of_text part fits = rw (number_of part.by fits.by, literal_of_text part.lit fits.lit, is_above part.by fits.least) refl

multiples_of_text : (parts : List Multiple) → All MultipleFits parts → multiples_of (flat_map multiple_words parts) ≡ Fits parts
multiples_of_text [] fits = refl
multiples_of_text (part ∷ parts) fits = rw (multiple_of_text part (All-head MultipleFits part parts fits), multiples_of_text parts (All-tail MultipleFits part parts fits)) refl

-- no literal is a colon
no_colon : (lit : Lit) → is_colon (literal_text lit) ≡ false
no_colon lit = go lit.term (side_text lit.side ++ signed_decimal lit.bound)
  where
    go : (term : Term) (rest : List ℕ) → is_colon (term_text term ++ rest) ≡ false
    go (Var number) rest = refl
    go (Row number) rest = refl

lemma_of_text : (clause : List Lit) (hints : List ℕ) → All LitFits clause → All (λ hint. hint < 2 ^ 32) hints → lemma_of (map literal_text clause ++ codes ":" ∷ map decimal hints) ≡ Fits (clause, hints)
lemma_of_text [] hints none fits = rw (hints_of_text hints fits) refl
lemma_of_text (lit ∷ clause) hints lits fits =
    rw (no_colon lit, literal_of_text lit (All-head LitFits lit clause lits), lemma_of_text clause hints (All-tail LitFits lit clause lits) fits) refl

-- a number isn't `none`
no_none : (ds : List ℕ) → AllDigits 10 ds → bytes_eq ds (codes "none") ≡ false
no_none [] d = refl
no_none (c ∷ cs) d =
    let within = digit_from_value c d.0 in
    rw (ne_eqb c 110 (λ e. omega (arith, within, e))) refl

goal_of_text : (most : Option ℕ) → GoalFits most → goal_of (goal_word most) ≡ Fits most
goal_of_text None fits = refl
goal_of_text (Some most) fits =
    let small : most < 10 ^ 64 = omega (arith, fits) in
    rw (no_none (decimal most) (decimal_is_IsNumeral_wide most small).0.1, natural_of (2 ^ 64) most fits small) refl

-- lines, by their words

shape_words : (vars clauses : ℕ) → vars < 2 ^ 32 → clauses < 2 ^ 32 → shape_line (decimal vars ∷ decimal clauses ∷ []) ≡ give.Fits (line.Shape vars clauses)
unfolding shape_line
shape_words vars clauses one other = rw (hint_of vars one, hint_of clauses other) refl

goal_words : (most : Option ℕ) → GoalFits most → goal_line (goal_word most ∷ []) ≡ give.Fits (line.Goal most)
unfolding goal_line
goal_words most fits = rw (goal_of_text most fits) refl

lemma_words : (clause : List Lit) (hints : List ℕ) → All LitFits clause → All (λ hint. hint < 2 ^ 32) hints
    → lemma_line (map literal_text clause ++ codes ":" ∷ map decimal hints) ≡ give.Fits (line.Lemma clause hints)
unfolding lemma_line
lemma_words clause hints lits fits = rw (lemma_of_text clause hints lits fits) refl

theory_words : (clause : List Lit) → All LitFits clause → theory_line (map literal_text clause) ≡ give.Fits (line.Theory clause)
unfolding theory_line
theory_words clause fits = rw (literals_of_text clause fits) refl

var_of_text : (var : ℕ) → var < 2 ^ 32 → var_of (term_text (Var var)) ≡ Fits var
var_of_text var fits = unsigned_of (2 ^ 32) var fits (omega (arith, fits))

split_words : (var : ℕ) (at : ℤ) → LineFits (line.Split var at) → split_line (term_text (Var var) ∷ signed_decimal at ∷ []) ≡ give.Fits (line.Split var at)
unfolding split_line
split_words var at fits = rw (var_of_text var fits.0, number_of at fits.1) refl

cut_words : (term : Term) (bound : ℤ) → LineFits (line.Cut term bound) → cut_line (term_text term ∷ signed_decimal bound ∷ []) ≡ give.Fits (line.Cut term bound)
unfolding cut_line
cut_words term bound fits = rw (term_of_text term fits.0, number_of bound fits.1) refl

leaf_words : (parts : List Multiple) → 0 < length parts → All MultipleFits parts → leaf_line (flat_map multiple_words parts) ≡ give.Fits (line.Leaf parts)
unfolding leaf_line
leaf_words [] some fits = absurd (omega (arith, some))
leaf_words (part ∷ parts) some fits = ap (λ (r : Reading (List Multiple)). as_line kind.Leaf line.Leaf r) (multiples_of_text (part ∷ parts) fits)

line_of_words : (l : Line) → LineFits l → LineIsFull l → line_of (line_words l) ≡ give.Fits l
unfolding line_of short_line front_line header_line end_line
line_of_words (line.Header version.One) fits full = refl
line_of_words (line.Header version.Two) fits full = refl
line_of_words (line.Shape vars clauses) fits full = shape_words vars clauses fits.0 fits.1
line_of_words (line.Goal most) fits full = goal_words most fits
line_of_words (line.Lemma clause hints) fits full = lemma_words clause hints fits.0 fits.1
line_of_words (line.Theory clause) fits full = theory_words clause fits
line_of_words (line.Split var at) fits full = split_words var at fits
line_of_words (line.Leaf parts) fits full = leaf_words parts full fits
line_of_words (line.Cut term bound) fits full = cut_words term bound fits
line_of_words line.End fits full = refl

pub read_of_text : (l : Line) → LineFits l → LineIsFull l → read (line_text l) ≡ give.Fits l
read_of_text l fits full = ap line_of (words_of_text l fits) ∙ line_of_words l fits full

-- texts of lines

pub lines_more : (l : Line) (rest : List ℕ) → LineFits l → lines (line_bytes l ++ rest) ≡ line_text l ∷ lines rest
lines_more l rest fits =
    ap lines (append_assoc (line_text l) (10 ∷ []) rest) ∙ slice_split_at is_feed (line_text l) 10 rest (one_line_text l fits) refl

pub lines_of_bytes : (ls : List Line) → All LineFits ls → lines (lines_bytes ls) ≡ map line_text ls ++ [] ∷ []
lines_of_bytes [] fits = refl
lines_of_bytes (l ∷ ls) fits =
    lines_more l (lines_bytes ls) (All-head LineFits l ls fits) ∙ ap (λ (ts : List (List ℕ)). line_text l ∷ ts) (lines_of_bytes ls (All-tail LineFits l ls fits))

read_all : (ls : List Line) → All LineFits ls → All LineIsFull ls → AreRead (map line_text ls ++ [] ∷ []) ls
read_all [] fits full = refl
read_all (l ∷ ls) fits full = go (map line_text ls ++ [] ∷ []) (some ls) (read_of_text l (All-head LineFits l ls fits) (All-head LineIsFull l ls full)) (read_all ls (All-tail LineFits l ls fits) (All-tail LineIsFull l ls full))
  where
    some : (ms : List Line) → 0 < length (map line_text ms ++ [] ∷ [])
    some [] = omega arith
    some (m ∷ ms) = omega arith

    go : (ts : List (List ℕ)) → 0 < length ts → read (line_text l) ≡ give.Fits l → AreRead ts ls → AreRead (line_text l ∷ ts) (l ∷ ls)
    go [] none here there = absurd (omega (arith, none))
    go (t ∷ ts) some here there = (here, there)

pub are_read : (ls : List Line) → All LineFits ls → All LineIsFull ls → AreRead (lines (lines_bytes ls)) ls
are_read ls fits full = subst (λ (ts : List (List ℕ)). AreRead ts ls) (sym (lines_of_bytes ls fits)) (read_all ls fits full)
