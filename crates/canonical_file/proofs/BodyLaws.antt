-- The lines of the body of a canonical text.
use Rattle.std.proofs.Common.{◌≡◌, ◌⊎◌, ◌≤◌, ◌+◌, ℕ, zero, suc, Bool, true, false, List, [], ◌∷◌, ◌++◌, length, refl, sym, ap, ◌∙◌, subst, inl, inr, append_assoc, append-nil}
use Rattle.std.specs.Prelude.{codes, if◌then◌else◌}
use Rattle.std.specs.List.{flat_map}
use Rattle.std.proofs.lemmas.Grind.{flat_map-append}
use Rattle.ll_tree.specs.declared.block.Block.{Block}
use Rattle.ll_tree.specs.declared.block.Phi.{Phi}
use Rattle.ll_tree.specs.declared.block.Instr.{Instr}
use Rattle.ll_tree.specs.declared.op.Op.{Op}
use Rattle.ll_tree.specs.declared.op.Op.TheVariants as op
use Rattle.ll_tree.specs.Pieces.{Piece, Label, Blank, LineEnd, piece_text, written}
use Rattle.ll_tree.specs.Text.{result_pieces, has_result, op_pieces, instr_pieces, phi_pieces, end_pieces, line, block_pieces}
use Rattle.ll_grammar.specs.Tokens.{Tok}
use Rattle.ll_grammar.specs.Spells.{SpellsOp, SpellsResultOf, SpellPhis, SpellInstrs, SpellsBlock, SpellBlocks, SpellBody}
use Rattle.canonical_text.specs.Named.{AreNamed}
use Rattle.canonical_text.proofs.HeaderLaws.{entry_block}
use Rattle.canonical_text.proofs.LineLaws.{IsLine, op_line, result_line, phi_line, end_line}
use Rattle.canonical_file.proofs.LineEndLaws.{AreLines, no_lines, lines_both, blank_line_lines, label_lines}

pub named_parts : (front behind : List Piece) → AreNamed (front ++ behind) → AreNamed front × AreNamed behind
named_parts [] behind named = (tt, named)
named_parts (piece ∷ front) behind named = let p = named_parts front behind named.1 in ((named.0, p.0), p.1)

-- The bytes of pieces are lines of the body.
abbrev pub HaveLines : List Piece → Type 0
HaveLines pieces = (ls : List (List ℕ)) × AreLines (written pieces) ls

pub have_both : (front behind : List Piece) → HaveLines front → HaveLines behind → HaveLines (front ++ behind)
have_both front behind (ls, is) (ms, also) = (ls ++ ms, subst (λ (x : List ℕ). AreLines x (ls ++ ms)) (sym (flat_map-append piece_text front behind)) (lines_both (written front) (written behind) ls ms is also))

have_line : (pieces : List Piece) → IsLine pieces → AreNamed (line pieces) → HaveLines (line pieces)
have_line pieces is named = (written (line pieces) ∷ [], blank_line_lines pieces is (named_parts pieces (LineEnd ∷ []) named.1.1).0)

instr_line : (name : List ℕ) (o : Op) (us vs : List Tok) → SpellsResultOf name o us vs → IsLine ((if has_result o then result_pieces name else []) ++ op_pieces o)
instr_line name (op.Bin kind f w left right) us vs (a, b, is, equals, given) = result_line name (op_pieces (op.Bin kind f w left right)) (op_line (op.Bin kind f w left right) b vs given)
instr_line name (op.Cmp p f w left right) us vs (a, b, is, equals, given) = result_line name (op_pieces (op.Cmp p f w left right)) (op_line (op.Cmp p f w left right) b vs given)
instr_line name (op.Cast kind f from arg to) us vs (a, b, is, equals, given) = result_line name (op_pieces (op.Cast kind f from arg to)) (op_line (op.Cast kind f from arg to) b vs given)
instr_line name (op.Select w cond left right) us vs (a, b, is, equals, given) = result_line name (op_pieces (op.Select w cond left right)) (op_line (op.Select w cond left right) b vs given)
instr_line name (op.Abs w arg strict) us vs (a, b, is, equals, given) = result_line name (op_pieces (op.Abs w arg strict)) (op_line (op.Abs w arg strict) b vs given)
instr_line name (op.Assume cond) us vs given = op_line (op.Assume cond) us vs given.1

phis_have : (phis : List Phi) (us vs : List Tok) → SpellPhis phis us vs → AreNamed (flat_map (λ phi. line (phi_pieces phi)) phis) → HaveLines (flat_map (λ phi. line (phi_pieces phi)) phis)
phis_have [] us vs given named = ([], no_lines)
phis_have (p ∷ phis) us vs (k, (lines, pairs, m, n, passed, calm, given, meta), others) named =
    let parts = named_parts (line (phi_pieces p)) (flat_map (λ phi. line (phi_pieces phi)) phis) named in
    have_both (line (phi_pieces p)) (flat_map (λ phi. line (phi_pieces phi)) phis) (have_line (phi_pieces p) (phi_line p m n given) parts.0) (phis_have phis k vs others parts.1)

instrs_have : (body : List Instr) (us vs : List Tok) → SpellInstrs body us vs → AreNamed (flat_map (λ instr. line (instr_pieces instr)) body) → HaveLines (flat_map (λ instr. line (instr_pieces instr)) body)
instrs_have [] us vs given named = ([], no_lines)
instrs_have (i ∷ body) us vs (k, (lines, pairs, m, n, passed, calm, given, meta), others) named =
    let parts = named_parts (line (instr_pieces i)) (flat_map (λ instr. line (instr_pieces instr)) body) named in
    have_both (line (instr_pieces i)) (flat_map (λ instr. line (instr_pieces instr)) body) (have_line (instr_pieces i) (instr_line i.name i.op m n given) parts.0) (instrs_have body k vs others parts.1)

block_have : (b : Block) (us vs : List Tok) → SpellsBlock b us vs → AreNamed (block_pieces b) → HaveLines (block_pieces b)
unfolding block_pieces
block_have b us vs (k, l, phis, body, (lines, pairs, m, n, passed, calm, given, meta)) named =
    let P : List Piece = flat_map (λ phi. line (phi_pieces phi)) b.phis in
    let I : List Piece = flat_map (λ instr. line (instr_pieces instr)) b.body in
    let E : List Piece = line (end_pieces b.end) in
    let front = named_parts P (I ++ E) named.1.1 in
    let back = named_parts I E front.1 in
    have_both (Label b.label ∷ LineEnd ∷ []) (P ++ (I ++ E)) (written (Label b.label ∷ LineEnd ∷ []) ∷ [], label_lines b.label named.0)
    (have_both P (I ++ E) (phis_have b.phis us k phis front.0) (have_both I E (instrs_have b.body k l body back.0) (have_line (end_pieces b.end) (end_line b.end m n given) back.1)))

blocks_have : (blocks : List Block) (us vs : List Tok) → SpellBlocks blocks us vs → AreNamed (flat_map block_pieces blocks) → HaveLines (flat_map block_pieces blocks)
blocks_have [] us vs given named = ([], no_lines)
blocks_have (b ∷ blocks) us vs (k, l, label, first, others) named =
    let parts = named_parts (block_pieces b) (flat_map block_pieces blocks) named in
    have_both (block_pieces b) (flat_map block_pieces blocks) (block_have b k l first parts.0) (blocks_have blocks l vs others parts.1)

pub body_have : (unwritten : List ℕ) (blocks : List Block) (us : List Tok) → SpellBody unwritten blocks us [] → AreNamed (flat_map block_pieces blocks) → HaveLines (flat_map block_pieces blocks)
body_have unwritten [] us given named = absurd given
body_have unwritten (b ∷ blocks) us (k, first, others) named =
    let parts = named_parts (block_pieces b) (flat_map block_pieces blocks) named in
    let (l, given) = entry_block unwritten b us k first in
    have_both (block_pieces b) (flat_map block_pieces blocks) (block_have b l k given parts.0) (blocks_have blocks k [] others parts.1)
