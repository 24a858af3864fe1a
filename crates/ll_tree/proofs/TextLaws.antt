-- Texts written piece by piece.
use Rattle.std.proofs.Common.{◌≡◌, ◌≤◌, ◌+◌, ◌-◌, ℕ, List, [], ◌∷◌, ◌++◌, length, get_or, drop, take, take_all, refl, ap, ◌∙◌, append_assoc, arith}
use Rattle.std.specs.List.{flat_map}
use Rattle.std.proofs.lemmas.List.{append-nil}
use Rattle.std.proofs.lemmas.Grind.{flat_map-append}
use Rattle.ll_tree.specs.Text.{line, phi_pieces, instr_pieces, end_pieces, header_pieces, block_pieces, canonical}
use Rattle.ll_tree.specs.declared.func.Func.{Func}
use Rattle.ll_tree.specs.declared.block.Block.{Block}
use Rattle.ll_tree.specs.declared.block.Phi.{Phi}
use Rattle.ll_tree.specs.declared.block.Instr.{Instr}
use Rattle.ll_tree.specs.Naming.{name_text}
use Rattle.ll_tree.specs.Pieces.{Piece, Mark, Blank, written, separated}

-- the pieces of each item, one item after another
pub written-flat_map : {A : Type 0} (pieces : A → List Piece) (items : List A) → written (flat_map pieces items) ≡ flat_map (λ item. written (pieces item)) items
written-flat_map pieces [] = refl
written-flat_map pieces (item ∷ items) =
    rw (flat_map-append) (ap (λ rest. written (pieces item) ++ rest) (written-flat_map pieces items))

pub ruleset texts = (append_assoc, append-nil, flat_map-append, written-flat_map)

-- a separated list that isn't empty
pub written-separated : {A : Type 0} (pieces : A → List Piece) (item : A) (items : List A) → written (separated pieces (item ∷ items)) ≡ written (pieces item) ++ flat_map (λ next. written (Mark 44 ∷ Blank ∷ pieces next)) items
written-separated pieces item items =
    rw (flat_map-append) (ap (λ rest. written (pieces item) ++ rest) (written-flat_map (λ next. Mark 44 ∷ Blank ∷ pieces next) items))

-- the same behind a text, by the list's first item and the others
pub separated_from : {A : Type 0} (pieces : A → List Piece) (items others : List A) (first : A) (old new : List ℕ) → 1 ≤ length items → others ≡ take (length items - 1) (drop 1 items) → first ≡ get_or items 0 first → new ≡ old ++ written (pieces first)
    → new ++ flat_map (λ next. written (Mark 44 ∷ Blank ∷ pieces next)) others ≡ old ++ written (separated pieces items)
separated_from pieces [] others first old new some rest is written_first = absurd (omega (arith, some))
separated_from pieces (item ∷ items) others first old new some rest is written_first =
    let all : others ≡ items = rest ∙ take_all (length (item ∷ items) - 1) items (omega arith) in
    let tail = written-separated pieces item items in
    rw (written_first, all, is, tail) (append_assoc old (written (pieces item)) (flat_map (λ next. written (Mark 44 ∷ Blank ∷ pieces next)) items))

-- the whole text
pub printed : (func : Func) (items : List Block) (blank header blocks text : List ℕ) → items ≡ func.blocks → blank ≡ [] → header ≡ blank ++ written (header_pieces func) → blocks ≡ header ++ flat_map (λ block. written (block_pieces block)) items
    → text ≡ blocks ++ 125 ∷ 10 ∷ [] → text ≡ canonical func
printed func items blank header blocks text same is_blank is_header is_blocks is_text =
    rw (is_text, is_blocks, is_header, is_blank, same, flat_map-append, flat_map-append, written-flat_map) (append_assoc (written (header_pieces func)) (flat_map (λ block. written (block_pieces block)) func.blocks) (125 ∷ 10 ∷ []))

-- a block: its label's line, its phis, its instructions and its terminator
pub written-block : (block : Block) (bytes : List ℕ) (phis : List Phi) (body : List Instr) (old label colon after_phis after_body : List ℕ) → bytes ≡ block.label → phis ≡ block.phis → body ≡ block.body → label ≡ old ++ name_text bytes → colon ≡ label ++ 58 ∷ 10 ∷ []
    → after_phis ≡ colon ++ flat_map (λ phi. written (line (phi_pieces phi))) phis → after_body ≡ after_phis ++ flat_map (λ instr. written (line (instr_pieces instr))) body
    → after_body ++ written (line (end_pieces block.end)) ≡ old ++ written (block_pieces block)
unfolding block_pieces
written-block block bytes phis body old label colon after_phis after_body same_bytes same_phis same_body is_label is_colon is_phis is_body =
    simp (is_body, is_phis, is_colon, is_label, same_bytes, same_phis, same_body, flat_map-append, written-flat_map, append_assoc)
