-- What the texts of proofs are.
use Rattle.std.proofs.Common.{◌≡◌, ℕ, ◌<◌, List, [], ◌∷◌, ◌++◌, length, map, refl, sym, ◌∙◌, ap, All, arith, append_assoc}
use Rattle.std.specs.List.{join_with_byte}
use Rattle.std.proofs.lemmas.List.Elements.{All-nil, All-cons}
use Rattle.std.proofs.lemmas.List.Splits.{join_with_byte-slice_split}
use Rattle.proof_term.specs.declared.proof.Proof.{Proof}
use Rattle.proof_text.specs.declared.line.Line.{Line}
use Rattle.proof_text.specs.declared.line.LineRead.TheVariants as give
use Rattle.proof_spelling.specs.Lines.{proof_lines}
use Rattle.proof_spelling.specs.Complete.{IsComplete}
use Rattle.proof_spelling.specs.Ranges.{LineFits, LineIsFull}
use Rattle.proof_spelling.specs.Spells.{lines, AreRead, Spells}
use Rattle.proof_spelling.specs.Text.{line_text, line_bytes, lines_bytes, text_of}
use Rattle.proof_spelling.specs.Draft.{Spot, AtHeader, AtEnd}
use Rattle.proof_spelling.proofs.RunLaws.{Runs, complete_runs}
use Rattle.proof_spelling.proofs.SaidLaws.{read_said}
use Rattle.proof_spelling.proofs.SameLaws.{same_proof}
use Rattle.proof_spelling.proofs.TextLaws.{are_read}

-- lines that lead somewhere are full
full_lines : (spot : Spot) (ls : List Line) (to : Spot) → Runs spot ls to → All LineIsFull ls
full_lines spot [] to runs = All-nil LineIsFull
full_lines spot (l ∷ ls) to runs = All-cons LineIsFull l ls runs.0 (full_lines runs.1.0 ls to runs.1.2)

pub has_text : (proof : Proof) → IsComplete proof → All LineFits (proof_lines proof) → Spells (text_of proof) proof
has_text proof complete fits = record {
  complete = complete;
  reads = are_read (proof_lines proof) fits (full_lines AtHeader (proof_lines proof) AtEnd (complete_runs proof complete));
}

-- the pieces that are read as some lines are their texts
pieces_are : (ts : List (List ℕ)) (ls : List Line) → AreRead ts ls → ts ≡ map line_text ls ++ [] ∷ []
pieces_are [] ls reads = absurd reads
pieces_are (rest ∷ []) [] reads = ap (λ (t : List ℕ). t ∷ []) reads
pieces_are (rest ∷ []) (l ∷ ls) reads = absurd reads
pieces_are (bytes ∷ next ∷ more) [] reads = absurd reads
pieces_are (bytes ∷ next ∷ more) (l ∷ ls) reads =
    let text = read_said bytes l reads.0 in
    ap (λ (t : List ℕ). t ∷ next ∷ more) text.text ∙ ap (λ (ts : List (List ℕ)). line_text l ∷ ts) (pieces_are (next ∷ more) ls reads.1)

pub fits_read : (ts : List (List ℕ)) (ls : List Line) → AreRead ts ls → All LineFits ls
fits_read [] ls reads = absurd reads
fits_read (rest ∷ []) [] reads = All-nil LineFits
fits_read (rest ∷ []) (l ∷ ls) reads = absurd reads
fits_read (bytes ∷ next ∷ more) [] reads = absurd reads
fits_read (bytes ∷ next ∷ more) (l ∷ ls) reads = All-cons LineFits l ls (read_said bytes l reads.0).fits (fits_read (next ∷ more) ls reads.1)

joined_pieces : (ls : List Line) → join_with_byte 10 (map line_text ls ++ [] ∷ []) ≡ lines_bytes ls
joined_pieces [] = refl
joined_pieces (l ∷ ls) = go (map line_text ls ++ [] ∷ []) (some ls) (joined_pieces ls)
  where
    some : (ms : List Line) → 0 < length (map line_text ms ++ [] ∷ [])
    some [] = omega arith
    some (m ∷ ms) = omega arith

    go : (ts : List (List ℕ)) → 0 < length ts → join_with_byte 10 ts ≡ lines_bytes ls → join_with_byte 10 (line_text l ∷ ts) ≡ line_bytes l ++ lines_bytes ls
    go [] none is = absurd (omega (arith, none))
    go (t ∷ ts) some is = ap (λ (xs : List ℕ). line_text l ++ (10 ∷ xs)) is ∙ sym (append_assoc (line_text l) (10 ∷ []) (lines_bytes ls))

pub one_text : (proof : Proof) (text : List ℕ) → Spells text proof → text ≡ text_of proof
one_text proof text spells =
    sym (join_with_byte-slice_split 10 text) ∙ ap (join_with_byte 10) (pieces_are (lines text) (proof_lines proof) spells.reads) ∙ joined_pieces (proof_lines proof)

same_lines : (ts : List (List ℕ)) (ls ms : List Line) → AreRead ts ls → AreRead ts ms → ls ≡ ms
same_lines [] ls ms one other = absurd one
same_lines (rest ∷ []) [] [] one other = refl
same_lines (rest ∷ []) [] (m ∷ ms) one other = absurd other
same_lines (rest ∷ []) (l ∷ ls) ms one other = absurd one
same_lines (bytes ∷ next ∷ more) [] ms one other = absurd one
same_lines (bytes ∷ next ∷ more) (l ∷ ls) [] one other = absurd other
same_lines (bytes ∷ next ∷ more) (l ∷ ls) (m ∷ ms) one other =
    let e : give.Fits l ≡ give.Fits m = sym one.0 ∙ other.0 in
    let same : l ≡ m = cc e in
    ap (λ (x : Line). x ∷ ls) same ∙ ap (λ (xs : List Line). m ∷ xs) (same_lines (next ∷ more) ls ms one.1 other.1)

pub one_proof : (text : List ℕ) (first second : Proof) → Spells text first → Spells text second → first ≡ second
one_proof text first second one other =
    same_proof first second one.complete.goal other.complete.goal (same_lines (lines text) (proof_lines first) (proof_lines second) one.reads other.reads)
