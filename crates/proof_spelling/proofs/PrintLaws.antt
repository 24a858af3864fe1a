-- The bytes that are printed piece by piece.
use Rattle.std.proofs.Common.{◌≡◌, ℕ, ◌+◌, ◌<◌, List, [], ◌∷◌, ◌++◌, length, take, get_or, map, Option, refl, sym, ◌∙◌, ap, subst, append_assoc, All}
use Rattle.std.specs.Prelude.{codes}
use Rattle.std.specs.List.{flat_map}
use Rattle.std.proofs.lemmas.List.{append-nil, take_more, map_more}
use Rattle.std.proofs.lemmas.List.Concat.{flat_map-append}
use Rattle.std.proofs.lemmas.List.Elements.{All-nil, All-cons, All-append, All-more}
use Rattle.mix_system.specs.declared.farkas.FarkasPart.{FarkasPart}
use Rattle.proof_term.specs.declared.step.Step.{Step}
use Rattle.proof_text.specs.declared.line.Multiple.{Multiple}
use Rattle.proof_term.specs.declared.proof.Proof.{Proof}
use Rattle.proof_term.specs.declared.proof.Shape.{Shape}
use Rattle.proof_text.specs.declared.line.Line.{Line}
use Rattle.proof_text.specs.declared.line.Line.TheVariants as line
use Rattle.proof_spelling.specs.Lines.{multiple_of, step_lines, steps_lines, first_lines, goal_number, proof_lines}
use Rattle.proof_spelling.specs.Complete.{IsComplete}
use Rattle.proof_spelling.specs.Ranges.{LineFits, MultipleFits}
use Rattle.proof_spelling.specs.Spells.{Spells}
use Rattle.proof_spelling.specs.Text.{spaced_multiple, line_bytes, lines_bytes, text_of}
use Rattle.proof_spelling.proofs.SpellLaws.{has_text}

pub bytes_more : (ls ms : List Line) → lines_bytes (ls ++ ms) ≡ lines_bytes ls ++ lines_bytes ms
bytes_more [] ms = refl
bytes_more (l ∷ ls) ms = ap (λ (bytes : List ℕ). line_bytes l ++ bytes) (bytes_more ls ms) ∙ sym (append_assoc (line_bytes l) (lines_bytes ls) (lines_bytes ms))

-- one line
pub one_line : (l : Line) → lines_bytes (l ∷ []) ≡ line_bytes l
one_line l = append-nil (line_bytes l)

whole : (shape : Option Shape) (most : Option ℕ) (ls : List Line)
    → lines_bytes (first_lines shape ++ line.Goal most ∷ (ls ++ line.End ∷ [])) ≡ ((lines_bytes (first_lines shape) ++ line_bytes (line.Goal most)) ++ lines_bytes ls) ++ codes "end\n"
whole shape most ls =
    bytes_more (first_lines shape) (line.Goal most ∷ (ls ++ line.End ∷ []))
    ∙ ap (λ (bytes : List ℕ). lines_bytes (first_lines shape) ++ (line_bytes (line.Goal most) ++ bytes)) (bytes_more ls (line.End ∷ []))
    ∙ sym (append_assoc (lines_bytes (first_lines shape)) (line_bytes (line.Goal most)) (lines_bytes ls ++ codes "end\n"))
    ∙ sym (append_assoc (lines_bytes (first_lines shape) ++ line_bytes (line.Goal most)) (lines_bytes ls) (codes "end\n"))

pub printed : (proof : Proof) (none first goal steps end : List ℕ) → none ≡ [] → first ≡ none ++ lines_bytes (first_lines proof.shape) → goal ≡ first ++ line_bytes (line.Goal (goal_number proof.goal))
    → steps ≡ goal ++ lines_bytes (flat_map step_lines proof.steps) → end ≡ steps ++ codes "end\n" → end ≡ text_of proof
printed proof none first goal steps end a b c d e =
    e ∙ ap (λ (bytes : List ℕ). bytes ++ codes "end\n") (d ∙ ap (λ (bytes : List ℕ). bytes ++ lines_bytes (flat_map step_lines proof.steps)) (c
    ∙ ap (λ (bytes : List ℕ). bytes ++ line_bytes (line.Goal (goal_number proof.goal))) (b ∙ ap (λ (bytes : List ℕ). bytes ++ lines_bytes (first_lines proof.shape)) a)))
    ∙ sym (whole proof.shape (goal_number proof.goal) (flat_map step_lines proof.steps))

pub all_fit : (proof : Proof) → All LineFits (first_lines proof.shape) → LineFits (line.Goal (goal_number proof.goal)) → All LineFits (flat_map step_lines proof.steps) → All LineFits (proof_lines proof)
all_fit proof first goal steps =
    All-append LineFits (first_lines proof.shape) (line.Goal (goal_number proof.goal) ∷ steps_lines proof.steps) first
    (All-cons LineFits (line.Goal (goal_number proof.goal)) (steps_lines proof.steps) goal (All-append LineFits (flat_map step_lines proof.steps) (line.End ∷ []) steps (All-cons LineFits line.End [] tt (All-nil LineFits))))

pub spelled : (proof : Proof) (text : List ℕ) → text ≡ text_of proof → All LineFits (proof_lines proof) → IsComplete proof → Spells text proof
spelled proof text is fits complete = rw is (has_text proof complete fits)

-- one item more of a list that is printed

flat_one : {A B : Type 0} (f : A → List B) (xs : List A) (i : ℕ) (d x : A) → i < length xs → x ≡ get_or xs i d → flat_map f (take (i + 1) xs) ≡ flat_map f (take i xs) ++ f x
flat_one {A} {B} f xs i d x within is =
    ap (flat_map f) (take_more xs i d within) ∙ flat_map-append f (take i xs) (get_or xs i d ∷ []) ∙ ap (λ (bs : List B). flat_map f (take i xs) ++ bs) (append-nil (f (get_or xs i d)))
    ∙ ap (λ (y : A). flat_map f (take i xs) ++ f y) (sym is)

pub items_more : {A : Type 0} (f : A → List ℕ) (P : A → Type 0) (xs : List A) (i : ℕ) (d x : A) (old here there : List ℕ) → i < length xs → x ≡ get_or xs i d
    → (here ≡ old ++ flat_map f (take i xs)) × All P (take i xs) → there ≡ here ++ f x → P x → (there ≡ old ++ flat_map f (take (i + 1) xs)) × All P (take (i + 1) xs)
items_more f P xs i d x old here there within is before text fits = (
  text ∙ ap (λ (bs : List ℕ). bs ++ f x) before.0 ∙ append_assoc old (flat_map f (take i xs)) (f x) ∙ ap (λ (bs : List ℕ). old ++ bs) (sym (flat_one f xs i d x within is)),
  All-more P xs i d within before.1 (subst P is fits),
)

pub parts_more : (parts : List FarkasPart) (i : ℕ) (x : FarkasPart) (old here there : List ℕ) → i < length parts → x ≡ get_or parts i x
    → (here ≡ old ++ flat_map spaced_multiple (map multiple_of (take i parts))) × All MultipleFits (map multiple_of (take i parts)) → there ≡ here ++ spaced_multiple (multiple_of x) → MultipleFits (multiple_of x)
    → (there ≡ old ++ flat_map spaced_multiple (map multiple_of (take (i + 1) parts))) × All MultipleFits (map multiple_of (take (i + 1) parts))
parts_more parts i x old here there within is before text fits =
    let front = map multiple_of (take i parts) in
    let last = multiple_of x in
    let whole : map multiple_of (take (i + 1) parts) ≡ front ++ last ∷ [] = map_more multiple_of parts i x within ∙ ap (λ (p : FarkasPart). front ++ multiple_of p ∷ []) (sym is) in
    let bytes : flat_map spaced_multiple (front ++ last ∷ []) ≡ flat_map spaced_multiple front ++ spaced_multiple last =
    flat_map-append spaced_multiple front (last ∷ []) ∙ ap (λ (bs : List ℕ). flat_map spaced_multiple front ++ bs) (append-nil (spaced_multiple last)) in (
      text ∙ ap (λ (bs : List ℕ). bs ++ spaced_multiple last) before.0 ∙ append_assoc old (flat_map spaced_multiple front) (spaced_multiple last)
          ∙ ap (λ (bs : List ℕ). old ++ bs) (sym (ap (λ (ms : List Multiple). flat_map spaced_multiple ms) whole ∙ bytes)),
      subst (λ (ms : List Multiple). All MultipleFits ms) (sym whole) (All-append MultipleFits front (last ∷ []) before.1 (All-cons MultipleFits last [] fits (All-nil MultipleFits))),
    )

pub steps_more : (steps : List Step) (i : ℕ) (x : Step) (old here there : List ℕ) → i < length steps → x ≡ get_or steps i x
    → (here ≡ old ++ lines_bytes (flat_map step_lines (take i steps))) × All LineFits (flat_map step_lines (take i steps)) → there ≡ here ++ lines_bytes (step_lines x) → All LineFits (step_lines x)
    → (there ≡ old ++ lines_bytes (flat_map step_lines (take (i + 1) steps))) × All LineFits (flat_map step_lines (take (i + 1) steps))
steps_more steps i x old here there within is before text fits =
    let front = flat_map step_lines (take i steps) in
    let whole : flat_map step_lines (take (i + 1) steps) ≡ front ++ step_lines x = flat_one step_lines steps i x x within is in (
      text ∙ ap (λ (bs : List ℕ). bs ++ lines_bytes (step_lines x)) before.0 ∙ append_assoc old (lines_bytes front) (lines_bytes (step_lines x))
          ∙ ap (λ (bs : List ℕ). old ++ bs) (sym (ap lines_bytes whole ∙ bytes_more front (step_lines x))),
      subst (λ (ls : List Line). All LineFits ls) (sym whole) (All-append LineFits front (step_lines x) before.1 fits),
    )
