-- The words of a line's text.
use Rattle.std.proofs.Common.{◌≡◌, ℕ, List, [], ◌∷◌, ◌++◌, map, Option, Some, None, refl, sym, ◌∙◌, ap, append_assoc}
use Rattle.std.specs.Prelude.{codes, decimal}
use Rattle.std.specs.List.{flat_map, join_with_byte}
use Rattle.std.specs.Fmt.{signed_decimal}
use Rattle.std.proofs.lemmas.List.{append-nil}
use Rattle.mix_system.specs.declared.literal.Term.TheVariants.{Var}
use Rattle.mix_system.specs.declared.literal.Lit.{Lit}
use Rattle.proof_text.specs.declared.line.Multiple.{Multiple}
use Rattle.proof_text.specs.declared.line.Version.TheVariants as version
use Rattle.proof_text.specs.declared.line.Line.{Line}
use Rattle.proof_text.specs.declared.line.Line.TheVariants as line
use Rattle.proof_spelling.specs.Text.{spaced, term_text, literal_text, spaced_literal, spaced_number, spaced_multiple, line_text}

abbrev pub multiple_words : Multiple → List (List ℕ)
multiple_words part = signed_decimal part.by ∷ literal_text part.lit ∷ []

abbrev pub goal_word : Option ℕ → List ℕ
goal_word None = codes "none"
goal_word (Some most) = decimal most

abbrev pub first_word : Line → List ℕ
first_word (line.Header v) = codes "wcet"
first_word (line.Shape vars clauses) = codes "system"
first_word (line.Goal most) = codes "goal"
first_word (line.Lemma clause hints) = codes "lemma"
first_word (line.Theory clause) = codes "theory"
first_word (line.Split var at) = codes "split"
first_word (line.Leaf parts) = codes "leaf"
first_word (line.Cut term bound) = codes "cut"
first_word line.End = codes "end"

abbrev pub rest_words : Line → List (List ℕ)
rest_words (line.Header version.One) = codes "proof" ∷ codes "1" ∷ []
rest_words (line.Header version.Two) = codes "proof" ∷ codes "2" ∷ []
rest_words (line.Shape vars clauses) = decimal vars ∷ decimal clauses ∷ []
rest_words (line.Goal most) = goal_word most ∷ []
rest_words (line.Lemma clause hints) = map literal_text clause ++ codes ":" ∷ map decimal hints
rest_words (line.Theory clause) = map literal_text clause
rest_words (line.Split var at) = term_text (Var var) ∷ signed_decimal at ∷ []
rest_words (line.Leaf parts) = flat_map multiple_words parts
rest_words (line.Cut term bound) = term_text term ∷ signed_decimal bound ∷ []
rest_words line.End = []

abbrev pub line_words : Line → List (List ℕ)
line_words l = first_word l ∷ rest_words l

-- words with the space before each
pub behind : (word : List ℕ) (ws : List (List ℕ)) → join_with_byte 32 (word ∷ ws) ≡ word ++ flat_map spaced ws
behind word [] = sym (append-nil word)
behind word (w ∷ ws) = ap (λ (xs : List ℕ). word ++ (32 ∷ xs)) (behind w ws)

spaced_map : {A : Type 0} (f : A → List ℕ) (xs : List A) → flat_map spaced (map f xs) ≡ flat_map (λ x. spaced (f x)) xs
spaced_map f [] = refl
spaced_map f (x ∷ xs) = ap (λ (ys : List ℕ). spaced (f x) ++ ys) (spaced_map f xs)

spaced_more : (ws vs : List (List ℕ)) → flat_map spaced (ws ++ vs) ≡ flat_map spaced ws ++ flat_map spaced vs
spaced_more [] vs = refl
spaced_more (w ∷ ws) vs = ap (λ (xs : List ℕ). spaced w ++ xs) (spaced_more ws vs) ∙ sym (append_assoc (spaced w) (flat_map spaced ws) (flat_map spaced vs))

spaced_parts : (parts : List Multiple) → flat_map spaced (flat_map multiple_words parts) ≡ flat_map spaced_multiple parts
spaced_parts [] = refl
spaced_parts (part ∷ parts) =
    ap (λ (xs : List ℕ). spaced (signed_decimal part.by) ++ (spaced (literal_text part.lit) ++ xs)) (spaced_parts parts)
    ∙ sym (append_assoc (spaced (signed_decimal part.by)) (spaced (literal_text part.lit)) (flat_map spaced_multiple parts))

spaced_lemma : (clause : List Lit) (hints : List ℕ) → flat_map spaced (map literal_text clause ++ codes ":" ∷ map decimal hints)
    ≡ flat_map spaced_literal clause ++ (codes " :" ++ flat_map spaced_number hints)
spaced_lemma clause hints =
    spaced_more (map literal_text clause) (codes ":" ∷ map decimal hints)
    ∙ ap (λ (xs : List ℕ). xs ++ (codes " :" ++ flat_map spaced (map decimal hints))) (spaced_map literal_text clause)
    ∙ ap (λ (xs : List ℕ). flat_map spaced_literal clause ++ (codes " :" ++ xs)) (spaced_map decimal hints)

two_behind : (first a b : List ℕ) → first ++ flat_map spaced (a ∷ b ∷ []) ≡ first ++ (spaced a ++ spaced b)
two_behind first a b = ap (λ (xs : List ℕ). first ++ (spaced a ++ xs)) (append-nil (spaced b))

one_behind : (first a : List ℕ) → first ++ flat_map spaced (a ∷ []) ≡ first ++ spaced a
one_behind first a = ap (λ (xs : List ℕ). first ++ xs) (append-nil (spaced a))

line_behind : (l : Line) → first_word l ++ flat_map spaced (rest_words l) ≡ line_text l
line_behind (line.Header version.One) = refl
line_behind (line.Header version.Two) = refl
line_behind (line.Shape vars clauses) = two_behind (codes "system") (decimal vars) (decimal clauses)
line_behind (line.Goal None) = refl
line_behind (line.Goal (Some most)) = one_behind (codes "goal") (decimal most)
line_behind (line.Lemma clause hints) = ap (λ (xs : List ℕ). codes "lemma" ++ xs) (spaced_lemma clause hints)
line_behind (line.Theory clause) = ap (λ (xs : List ℕ). codes "theory" ++ xs) (spaced_map literal_text clause)
line_behind (line.Split var at) = two_behind (codes "split") (term_text (Var var)) (signed_decimal at)
line_behind (line.Leaf parts) = ap (λ (xs : List ℕ). codes "leaf" ++ xs) (spaced_parts parts)
line_behind (line.Cut term bound) = two_behind (codes "cut") (term_text term) (signed_decimal bound)
line_behind line.End = refl

-- the words with a space between two are the text
pub text_of_words : (l : Line) → join_with_byte 32 (line_words l) ≡ line_text l
text_of_words l = behind (first_word l) (rest_words l) ∙ line_behind l
