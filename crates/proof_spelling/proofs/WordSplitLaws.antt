-- The words of a line's text have neither a space nor a line feed in them.
use Rattle.std.proofs.Common.{◌≡◌, ℕ, suc, ◌<◌, ◌≤◌, ◌^◌, ℤ, pos, negsuc, List, [], ◌∷◌, ◌++◌, map, Bool, true, false, Option, Some, None, refl, sym, ◌∙◌, ap, subst, All, arith, FitsSigned}
use Rattle.std.specs.Prelude.{codes, decimal, nat_lt, ◌==◌}
use Rattle.std.specs.Int.{w128}
use Rattle.std.specs.List.{list_all, flat_map, join_with_byte}
use Rattle.std.specs.Fmt.{signed_decimal}
use Rattle.std.specs.Str.Parse.{AllDigits}
use Rattle.std.proofs.lemmas.Bool.{and_parts, and_from, lt-ltb, ltb-true, ne_eqb}
use Rattle.std.proofs.lemmas.List.Folds.{list_all-append}
use Rattle.std.proofs.lemmas.List.Elements.{All-nil, All-cons, All-head, All-tail}
use Rattle.std.proofs.lemmas.List.Splits.{slice_split_none, slice_split_at}
use Rattle.std.proofs.lemmas.Fmt.{decimal_is_IsNumeral_wide}
use Rattle.std.proofs.lemmas.Str.Parse.{digit_from_value}
use Rattle.mix_system.specs.declared.literal.Term.{Term}
use Rattle.mix_system.specs.declared.literal.Term.TheVariants.{Var, Row}
use Rattle.mix_system.specs.declared.literal.Side.{Side}
use Rattle.mix_system.specs.declared.literal.Side.TheVariants.{Le, Ge}
use Rattle.mix_system.specs.declared.literal.Lit.{Lit}
use Rattle.proof_text.specs.declared.line.Multiple.{Multiple}
use Rattle.proof_text.specs.declared.line.Version.TheVariants as version
use Rattle.proof_text.specs.declared.line.Line.{Line}
use Rattle.proof_text.specs.declared.line.Line.TheVariants as line
use Rattle.proof_text.specs.Words.{is_space, words}
use Rattle.proof_spelling.specs.Text.{term_text, side_text, literal_text, line_text}
use Rattle.proof_spelling.specs.Ranges.{TermFits, LitFits, MultipleFits, GoalFits, LineFits}
use Rattle.proof_spelling.proofs.LineWords.{multiple_words, goal_word, first_word, rest_words, line_words, text_of_words}

-- above a space
abbrev is_graphic : ℕ → Bool
is_graphic byte = nat_lt 32 byte

abbrev IsWord : List ℕ → Type 0
IsWord word = list_all is_graphic word ≡ true

both_words : (xs ys : List ℕ) → IsWord xs → IsWord ys → IsWord (xs ++ ys)
both_words xs ys front back = list_all-append is_graphic xs ys ∙ and_from (list_all is_graphic xs) (list_all is_graphic ys) front back

digits_word : (ds : List ℕ) → AllDigits 10 ds → IsWord ds
digits_word [] d = refl
digits_word (c ∷ cs) d =
    let within = digit_from_value c d.0 in
    and_from (is_graphic c) (list_all is_graphic cs) (lt-ltb 32 c (omega (arith, within))) (digits_word cs d.1)

decimal_word : (n : ℕ) → n < 10 ^ 64 → IsWord (decimal n)
decimal_word n small = digits_word (decimal n) (decimal_is_IsNumeral_wide n small).0.1

signed_word : (z : ℤ) → FitsSigned w128 z → IsWord (signed_decimal z)
signed_word (pos n) fits = decimal_word n (omega (arith, fits.sfits))
signed_word (negsuc n) fits = decimal_word (suc n) (omega (arith, fits.sfits))

term_word : (term : Term) → TermFits term → IsWord (term_text term)
term_word (Var number) fits = decimal_word number (omega (arith, fits))
term_word (Row number) fits = decimal_word number (omega (arith, fits))

side_word : (side : Side) → IsWord (side_text side)
side_word Le = refl
side_word Ge = refl

literal_word : (lit : Lit) → LitFits lit → IsWord (literal_text lit)
literal_word lit fits =
    both_words (term_text lit.term) (side_text lit.side ++ signed_decimal lit.bound) (term_word lit.term fits.term)
    (both_words (side_text lit.side) (signed_decimal lit.bound) (side_word lit.side) (signed_word lit.bound fits.bound))

-- lists of words

abbrev AreWords : List (List ℕ) → Type 0
AreWords [] = Unit {0}
AreWords (w ∷ ws) = IsWord w × AreWords ws

more_words : (ws vs : List (List ℕ)) → AreWords ws → AreWords vs → AreWords (ws ++ vs)
more_words [] vs here there = there
more_words (w ∷ ws) vs here there = (here.0, more_words ws vs here.1 there)

literal_words : (lits : List Lit) → All LitFits lits → AreWords (map literal_text lits)
literal_words [] fits = tt
literal_words (lit ∷ lits) fits = (literal_word lit (All-head LitFits lit lits fits), literal_words lits (All-tail LitFits lit lits fits))

hint_words : (hints : List ℕ) → All (λ hint. hint < 2 ^ 32) hints → AreWords (map decimal hints)
hint_words [] fits = tt
hint_words (hint ∷ hints) fits =
    let first = All-head (λ (n : ℕ). n < 2 ^ 32) hint hints fits in
    (decimal_word hint (omega (arith, first)), hint_words hints (All-tail (λ (n : ℕ). n < 2 ^ 32) hint hints fits))

part_words : (parts : List Multiple) → All MultipleFits parts → AreWords (flat_map multiple_words parts)
part_words [] fits = tt
part_words (part ∷ parts) fits =
    let first = All-head MultipleFits part parts fits in
    (signed_word part.by first.by, (literal_word part.lit first.lit, part_words parts (All-tail MultipleFits part parts fits)))

goal_is_word : (most : Option ℕ) → GoalFits most → IsWord (goal_word most)
goal_is_word None fits = refl
goal_is_word (Some most) fits = decimal_word most (omega (arith, fits))

words_of_line : (l : Line) → LineFits l → AreWords (line_words l)
words_of_line (line.Header version.One) fits = (refl, (refl, (refl, tt)))
words_of_line (line.Header version.Two) fits = (refl, (refl, (refl, tt)))
words_of_line (line.Shape vars clauses) fits = (refl, (decimal_word vars (omega (arith, fits.0)), (decimal_word clauses (omega (arith, fits.1)), tt)))
words_of_line (line.Goal most) fits = (refl, (goal_is_word most fits, tt))
words_of_line (line.Lemma clause hints) fits = (refl, more_words (map literal_text clause) (codes ":" ∷ map decimal hints) (literal_words clause fits.0) (refl, hint_words hints fits.1))
words_of_line (line.Theory clause) fits = (refl, literal_words clause fits)
words_of_line (line.Split var at) fits = (refl, (term_word (Var var) fits.0, (signed_word at fits.1, tt)))
words_of_line (line.Leaf parts) fits = (refl, part_words parts fits)
words_of_line (line.Cut term bound) fits = (refl, (term_word term fits.0, (signed_word bound fits.1, tt)))
words_of_line line.End fits = (refl, tt)

-- bytes without one that is below
none_is : (byte : ℕ) (ws : List ℕ) → byte ≤ 32 → IsWord ws → All (λ b. (b == byte) ≡ false) ws
none_is byte [] small word = All-nil (λ b. (b == byte) ≡ false)
none_is byte (w ∷ ws) small word =
    let parts = and_parts (is_graphic w) (list_all is_graphic ws) word in
    let above : 32 < w = ltb-true 32 w parts.0 in
    All-cons (λ b. (b == byte) ≡ false) w ws (ne_eqb w byte (λ e. omega (arith, above, small, e))) (none_is byte ws small parts.1)

split_joined : (word : List ℕ) (ws : List (List ℕ)) → AreWords (word ∷ ws) → words (join_with_byte 32 (word ∷ ws)) ≡ word ∷ ws
split_joined word [] are = slice_split_none is_space word (none_is 32 word (omega arith) are.0)
split_joined word (w ∷ ws) are =
    slice_split_at is_space word 32 (join_with_byte 32 (w ∷ ws)) (none_is 32 word (omega arith) are.0) refl ∙ ap (λ (vs : List (List ℕ)). word ∷ vs) (split_joined w ws are.1)

-- the words of a line's text
pub words_of_text : (l : Line) → LineFits l → words (line_text l) ≡ line_words l
words_of_text l fits = ap words (sym (text_of_words l)) ∙ split_joined (first_word l) (rest_words l) (words_of_line l fits)

abbrev NoFeed : ℕ → Type 0
NoFeed byte = (byte == 10) ≡ false

word_feeds : (xs : List ℕ) → IsWord xs → list_all (λ b. nat_lt 31 b) xs ≡ true
word_feeds [] is = refl
word_feeds (x ∷ xs) is =
    let parts = and_parts (is_graphic x) (list_all is_graphic xs) is in
    let above : 32 < x = ltb-true 32 x parts.0 in
    and_from (nat_lt 31 x) (list_all (λ b. nat_lt 31 b) xs) (lt-ltb 31 x (omega (arith, above))) (word_feeds xs parts.1)

joined_feeds : (word : List ℕ) (ws : List (List ℕ)) → AreWords (word ∷ ws) → list_all (λ b. nat_lt 31 b) (join_with_byte 32 (word ∷ ws)) ≡ true
joined_feeds word [] are = word_feeds word are.0
joined_feeds word (w ∷ ws) are =
    list_all-append (λ b. nat_lt 31 b) word (32 ∷ join_with_byte 32 (w ∷ ws))
    ∙ and_from (list_all (λ b. nat_lt 31 b) word) (list_all (λ b. nat_lt 31 b) (join_with_byte 32 (w ∷ ws))) (word_feeds word are.0) (joined_feeds w ws are.1)

no_feeds : (bytes : List ℕ) → list_all (λ b. nat_lt 31 b) bytes ≡ true → All NoFeed bytes
no_feeds [] is = All-nil NoFeed
no_feeds (b ∷ bytes) is =
    let parts = and_parts (nat_lt 31 b) (list_all (λ b. nat_lt 31 b) bytes) is in
    let above : 31 < b = ltb-true 31 b parts.0 in
    All-cons NoFeed b bytes (ne_eqb b 10 (λ e. omega (arith, above, e))) (no_feeds bytes parts.1)

-- a line's text has no line feed
pub one_line_text : (l : Line) → LineFits l → All NoFeed (line_text l)
one_line_text l fits = no_feeds (line_text l) (subst (λ (bytes : List ℕ). list_all (λ b. nat_lt 31 b) bytes ≡ true) (text_of_words l) (joined_feeds (first_word l) (rest_words l) (words_of_line l fits)))
