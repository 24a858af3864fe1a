-- The pieces of a whole function stand well.
use Rattle.std.proofs.Common.{◌≡◌, ℕ, Bool, true, false, ◌||◌, List, [], ◌∷◌, ◌++◌, drop, Option, Some, None, refl, sym, ap, ◌∙◌, subst, inl, inr, true≢false, append_assoc, append-nil}
use Rattle.std.specs.Prelude.{codes, if◌then◌else◌}
use Rattle.std.specs.List.{flat_map}
use Rattle.std.specs.Fmt.{decimal}
use Rattle.op_table.specs.Words as tables
use Rattle.ll_tree.specs.declared.func.Func.{Func}
use Rattle.ll_tree.specs.declared.func.Ret.{Ret}
use Rattle.ll_tree.specs.declared.func.Ret.TheVariants as ret
use Rattle.ll_tree.specs.declared.func.Param.{Param}
use Rattle.ll_tree.specs.declared.func.Range.{Range}
use Rattle.ll_tree.specs.declared.block.Block.{Block}
use Rattle.ll_tree.specs.declared.block.Phi.{Phi}
use Rattle.ll_tree.specs.declared.block.Instr.{Instr}
use Rattle.ll_tree.specs.declared.block.Operand.{Operand}
use Rattle.ll_tree.specs.declared.block.End.{End}
use Rattle.ll_tree.specs.declared.block.End.TheVariants as end
use Rattle.ll_tree.specs.declared.op.Op.{Op}
use Rattle.ll_tree.specs.declared.op.Op.TheVariants as op
use Rattle.ll_tree.specs.Pieces.{Piece, Word, Bits, Number, Local, Global, Label, Intrinsic, Mark, Blank, LineEnd, separated}
use Rattle.ll_tree.specs.Text.{operand_piece, literal, flag, result_pieces, has_result, op_pieces, instr_pieces, phi_pieces, end_pieces, line, block_pieces, range_pieces, ret_piece, ret_width, param_pieces, ret_pieces, signature_pieces, header_pieces, pieces_of}
use Rattle.ll_grammar.specs.Tokens.{Tok}
use Rattle.ll_grammar.specs.Spells.{SpellsOp, SpellsResultOf, SpellPhis, SpellInstrs, SpellsBlock, SpellBlocks, SpellBody, SpellsAttributes, SpellsResult, is_some, SpellsParam, SpellParams, unnamed_with, count_unnamed, SpellsFunction}
use Rattle.ll_grammar.proofs.FlagLaws.{or_true}
use Rattle.canonical_text.specs.Shown.{open_pieces}
use Rattle.canonical_text.proofs.HeaderLaws.{entry_block}
use Rattle.canonical_text.proofs.TokenLaws.{starts_apart, stands_alone, are_apart}
use Rattle.canonical_text.proofs.ScanLaws.{assumes, IsCalmAt, fresh_behind, Stand}
use Rattle.canonical_text.proofs.LineLaws.{is_line_end, IsLine, LeadsLine, blank_line, word_line, bits_line, mark_line, comma_line, apart_line, literal_placed, flag_leads, op_line, result_line, phi_line, end_line}

-- ---- a line and what stands behind it

behind_starts : (piece : Piece) (one other : List Piece) → starts_apart (piece ∷ one) ≡ starts_apart (piece ∷ other)
behind_starts (Word word) one other = refl
behind_starts (Bits w) one other = refl
behind_starts (Number n) one other = refl
behind_starts (Local n) one other = refl
behind_starts (Global n) one other = refl
behind_starts (Label n) one other = refl
behind_starts (Intrinsic word w) one other = refl
behind_starts (Mark byte) one other = refl
behind_starts Blank one other = refl
behind_starts LineEnd one other = refl

still_apart : (piece : Piece) (pieces behind : List Piece) → are_apart piece pieces ≡ true → are_apart piece (pieces ++ LineEnd ∷ behind) ≡ true
still_apart piece [] behind apart = refl
still_apart piece (next ∷ pieces) behind apart = ap (λ b. b || stands_alone piece) (behind_starts next (pieces ++ LineEnd ∷ behind) pieces) ∙ apart

calm_inside : (piece : Piece) (pieces : List Piece) → IsCalmAt false piece pieces
calm_inside (Word word) pieces = tt
calm_inside (Bits w) pieces = tt
calm_inside (Number n) pieces = tt
calm_inside (Local n) pieces = tt
calm_inside (Global n) pieces = tt
calm_inside (Label n) pieces = tt
calm_inside (Intrinsic word w) pieces = tt
calm_inside (Mark byte) pieces = tt
calm_inside Blank pieces = tt
calm_inside LineEnd pieces = tt

in_line : (piece : Piece) → is_line_end piece ≡ false → fresh_behind false piece ≡ false
in_line (Word word) is = refl
in_line (Bits w) is = refl
in_line (Number n) is = refl
in_line (Local n) is = refl
in_line (Global n) is = refl
in_line (Label n) is = refl
in_line (Intrinsic word w) is = refl
in_line (Mark byte) is = refl
in_line Blank is = refl
in_line LineEnd is = is

stand_line_end : (fresh : Bool) (pieces : List Piece) → Stand true pieces → Stand fresh (LineEnd ∷ pieces)
stand_line_end fresh pieces s = (tt, or_true (starts_apart pieces), tt, s)

stand_blank : (fresh : Bool) (pieces : List Piece) → Stand fresh pieces → Stand fresh (Blank ∷ pieces)
stand_blank fresh pieces s = (tt, or_true (starts_apart pieces), tt, s)

-- the rest of a line
stand_inside : (pieces behind : List Piece) → IsLine pieces → Stand true behind → Stand false (pieces ++ LineEnd ∷ behind)
stand_inside [] behind is s = stand_line_end false behind s
stand_inside (piece ∷ pieces) behind (placed, apart, is) s =
    (placed.0, still_apart piece pieces behind apart, calm_inside piece (pieces ++ LineEnd ∷ behind), subst (λ (f : Bool). Stand f (pieces ++ LineEnd ∷ behind)) (sym (in_line piece placed.1)) (stand_inside pieces behind is s))

-- a line that begins with this piece
stand_from : (piece : Piece) (pieces behind : List Piece) → IsLine (piece ∷ pieces) → fresh_behind true piece ≡ false → IsCalmAt true piece (pieces ++ LineEnd ∷ behind) → Stand true behind → Stand true (piece ∷ (pieces ++ LineEnd ∷ behind))
stand_from piece pieces behind (placed, apart, is) solid calm s =
    (placed.0, still_apart piece pieces behind apart, calm, subst (λ (f : Bool). Stand f (pieces ++ LineEnd ∷ behind)) (sym solid) (stand_inside pieces behind is s))

-- a line behind two blanks
stand_line : (pieces behind : List Piece) → Stand true (pieces ++ LineEnd ∷ behind) → Stand true (line pieces ++ behind)
stand_line pieces behind s =
    let grouped : Stand true ((pieces ++ LineEnd ∷ []) ++ behind) = subst (Stand true) (sym (append_assoc pieces (LineEnd ∷ []) behind)) s in
    stand_blank true (Blank ∷ ((pieces ++ LineEnd ∷ []) ++ behind)) (stand_blank true ((pieces ++ LineEnd ∷ []) ++ behind) grouped)

-- ---- statements

valued_stands : (name : List ℕ) (o : Op) (us vs : List Tok) (behind : List Piece) → SpellsOp o us vs → Stand true behind → Stand true ((result_pieces name ++ op_pieces o) ++ LineEnd ∷ behind)
valued_stands name o us vs behind given s =
    stand_from (Local name) (Blank ∷ Mark 61 ∷ Blank ∷ op_pieces o) behind (result_line name (op_pieces o) (op_line o us vs given)) refl tt s

assume_stands : (cond : Operand) (us vs : List Tok) (behind : List Piece) → SpellsOp (op.Assume cond) us vs → Stand true behind → Stand true (op_pieces (op.Assume cond) ++ LineEnd ∷ behind)
unfolding op_pieces
assume_stands cond us vs behind given s =
    let more : List Piece = Mark 40 ∷ Bits 1 ∷ Blank ∷ operand_piece 1 cond ∷ Mark 41 ∷ [] in
    stand_from (Word (codes "call")) (assumes more) behind (op_line (op.Assume cond) us vs given) refl (inr (refl, (more ++ LineEnd ∷ behind, refl))) s

instr_stands : (name : List ℕ) (o : Op) (us vs : List Tok) (behind : List Piece) → SpellsResultOf name o us vs → Stand true behind → Stand true (((if has_result o then result_pieces name else []) ++ op_pieces o) ++ LineEnd ∷ behind)
instr_stands name (op.Bin kind f w left right) us vs behind (a, b, is, equals, given) s = valued_stands name (op.Bin kind f w left right) b vs behind given s
instr_stands name (op.Cmp p f w left right) us vs behind (a, b, is, equals, given) s = valued_stands name (op.Cmp p f w left right) b vs behind given s
instr_stands name (op.Cast kind f from arg to) us vs behind (a, b, is, equals, given) s = valued_stands name (op.Cast kind f from arg to) b vs behind given s
instr_stands name (op.Select w cond left right) us vs behind (a, b, is, equals, given) s = valued_stands name (op.Select w cond left right) b vs behind given s
instr_stands name (op.Abs w arg strict) us vs behind (a, b, is, equals, given) s = valued_stands name (op.Abs w arg strict) b vs behind given s
instr_stands name (op.Assume cond) us vs behind given s = assume_stands cond us vs behind given.1 s

end_stands : (e : End) (behind : List Piece) → IsLine (end_pieces e) → Stand true behind → Stand true (end_pieces e ++ LineEnd ∷ behind)
unfolding end_pieces
end_stands end.RetVoid behind is s = stand_from (Word (codes "ret")) (drop 1 (end_pieces end.RetVoid)) behind is refl (inl refl) s
end_stands (end.Ret w x) behind is s = stand_from (Word (codes "ret")) (drop 1 (end_pieces (end.Ret w x))) behind is refl (inl refl) s
end_stands (end.Br to) behind is s = stand_from (Word (codes "br")) (drop 1 (end_pieces (end.Br to))) behind is refl (inl refl) s
end_stands (end.CondBr cond left right) behind is s = stand_from (Word (codes "br")) (drop 1 (end_pieces (end.CondBr cond left right))) behind is refl (inl refl) s
end_stands (end.Switch w x default cases) behind is s = stand_from (Word (codes "switch")) (drop 1 (end_pieces (end.Switch w x default cases))) behind is refl (inl refl) s
end_stands end.Unreachable behind is s = stand_from (Word (codes "unreachable")) (drop 1 (end_pieces end.Unreachable)) behind is refl (inl refl) s

-- ---- blocks

phis_stand : (phis : List Phi) (us vs : List Tok) (behind : List Piece) → SpellPhis phis us vs → Stand true behind → Stand true (flat_map (λ phi. line (phi_pieces phi)) phis ++ behind)
phis_stand [] us vs behind given s = s
phis_stand (p ∷ phis) us vs behind (k, (lines, pairs, m, n, passed, calm, given, meta), others) s =
    let rest : List Piece = flat_map (λ phi. line (phi_pieces phi)) phis ++ behind in
    let later : Stand true rest = phis_stand phis k vs behind others s in
    subst (Stand true) (sym (append_assoc (line (phi_pieces p)) (flat_map (λ phi. line (phi_pieces phi)) phis) behind))
    (stand_line (phi_pieces p) rest (stand_from (Local p.name) (drop 1 (phi_pieces p)) rest (phi_line p m n given) refl tt later))

instrs_stand : (body : List Instr) (us vs : List Tok) (behind : List Piece) → SpellInstrs body us vs → Stand true behind → Stand true (flat_map (λ instr. line (instr_pieces instr)) body ++ behind)
instrs_stand [] us vs behind given s = s
instrs_stand (i ∷ body) us vs behind (k, (lines, pairs, m, n, passed, calm, given, meta), others) s =
    let rest : List Piece = flat_map (λ instr. line (instr_pieces instr)) body ++ behind in
    let later : Stand true rest = instrs_stand body k vs behind others s in
    subst (Stand true) (sym (append_assoc (line (instr_pieces i)) (flat_map (λ instr. line (instr_pieces instr)) body) behind))
    (stand_line (instr_pieces i) rest (instr_stands i.name i.op m n rest given later))

block_stands : (b : Block) (us vs : List Tok) (behind : List Piece) → SpellsBlock b us vs → Stand true behind → Stand true (block_pieces b ++ behind)
unfolding block_pieces
block_stands b us vs behind (k, l, phis, body, (lines, pairs, m, n, passed, calm, given, meta)) s =
    let P : List Piece = flat_map (λ phi. line (phi_pieces phi)) b.phis in
    let I : List Piece = flat_map (λ instr. line (instr_pieces instr)) b.body in
    let E : List Piece = line (end_pieces b.end) in
    let ends : Stand true (E ++ behind) = stand_line (end_pieces b.end) behind (end_stands b.end behind (end_line b.end m n given) s) in
    let is_body : Stand true (I ++ (E ++ behind)) = instrs_stand b.body k l (E ++ behind) body ends in
    let all : Stand true (P ++ (I ++ (E ++ behind))) = phis_stand b.phis us k (I ++ (E ++ behind)) phis is_body in
    let grouped : Stand true ((P ++ (I ++ E)) ++ behind) = subst (Stand true) (sym (append_assoc P (I ++ E) behind ∙ ap (λ (x : List Piece). P ++ x) (append_assoc I E behind))) all in
    (tt, refl, tt, stand_line_end false ((P ++ (I ++ E)) ++ behind) grouped)

blocks_stand : (blocks : List Block) (us vs : List Tok) (behind : List Piece) → SpellBlocks blocks us vs → Stand true behind → Stand true (flat_map block_pieces blocks ++ behind)
blocks_stand [] us vs behind given s = s
blocks_stand (b ∷ blocks) us vs behind (k, l, label, first, others) s =
    subst (Stand true) (sym (append_assoc (block_pieces b) (flat_map block_pieces blocks) behind))
    (block_stands b k l (flat_map block_pieces blocks ++ behind) first (blocks_stand blocks l vs behind others s))

body_stands : (unwritten : List ℕ) (blocks : List Block) (us : List Tok) (behind : List Piece) → SpellBody unwritten blocks us [] → Stand true behind → Stand true (flat_map block_pieces blocks ++ behind)
body_stands unwritten [] us behind given s = absurd given
body_stands unwritten (b ∷ blocks) us behind (k, first, others) s =
    let (l, given) = entry_block unwritten b us k first in
    subst (Stand true) (sym (append_assoc (block_pieces b) (flat_map block_pieces blocks) behind))
    (block_stands b l k (flat_map block_pieces blocks ++ behind) given (blocks_stand blocks k [] behind others s))

-- ---- the header

range_leads : (table : List (List ℕ)) (w : ℕ) (noundef : Bool) (range : Option Range) (us vs : List Tok) → SpellsAttributes table w noundef range us vs → LeadsLine (range_pieces (Bits w) w range)
range_leads table w noundef None us vs given pieces is = is
range_leads table w noundef (Some r) us vs (before, behind, a, b, first, (differ, i, j, k, l, m, n, word, opens, type, lo, comma, hi, closes), others, same) pieces is =
    let upper : List Piece = literal w r.hi ∷ Mark 41 ∷ Blank ∷ pieces in
    let is_upper : IsLine upper = apart_line (literal w r.hi) (Mark 41 ∷ Blank ∷ pieces) (literal_placed w r.hi m n type.2 hi) refl (mark_line 41 (Blank ∷ pieces) refl (blank_line pieces is)) in
    let lower : List Piece = literal w r.lo ∷ Mark 44 ∷ Blank ∷ upper in
    let is_lower : IsLine lower = apart_line (literal w r.lo) (Mark 44 ∷ Blank ∷ upper) (literal_placed w r.lo k l type.2 lo) refl (comma_line upper is_upper) in
    apart_line (Word (codes "range")) (Mark 40 ∷ Bits w ∷ Blank ∷ lower) ((refl, refl), refl) refl (mark_line 40 (Bits w ∷ Blank ∷ lower) refl (bits_line w lower type.2 is_lower))

result_type_line : (r : Ret) (noundef : Bool) (range : Option Range) (us vs : List Tok) (pieces : List Piece) → SpellsResult r noundef range us vs → starts_apart pieces ≡ true → IsLine pieces
    → IsLine (flag noundef (codes "noundef") ++ (range_pieces (ret_piece r) (ret_width r) range ++ ret_piece r ∷ pieces))
result_type_line ret.Void noundef None us vs pieces given apart is =
    flag_leads noundef (codes "noundef") (refl, refl) (Word (codes "void") ∷ pieces) (apart_line (Word (codes "void")) pieces ((refl, refl), refl) apart is)
result_type_line ret.Void noundef (Some r) us vs pieces (k, none, given, void) apart is = absurd (true≢false (ap is_some none))
result_type_line (ret.Int w) noundef range us vs pieces (k, given, type) apart is =
    flag_leads noundef (codes "noundef") (refl, refl) (range_pieces (Bits w) w range ++ Bits w ∷ pieces) (range_leads tables.header w noundef range us k given (Bits w ∷ pieces) (apart_line (Bits w) pieces (type.2, refl) apart is))

param_line : (unnamed : ℕ) (p : Param) (us vs : List Tok) (pieces : List Piece) → SpellsParam unnamed p us vs → starts_apart pieces ≡ true → IsLine pieces → IsLine (param_pieces p ++ pieces)
unfolding param_pieces
param_line unnamed p us vs pieces (noundef, k, l, type, given, strict_is, name) apart is =
    let F : List Piece = flag p.strict (codes "noundef") in
    let R : List Piece = range_pieces (Bits p.width) p.width p.range in
    let named : IsLine (Local p.name ∷ pieces) = apart_line (Local p.name) pieces (tt, refl) apart is in
    let all : IsLine (F ++ (R ++ Local p.name ∷ pieces)) = flag_leads p.strict (codes "noundef") (refl, refl) (R ++ Local p.name ∷ pieces) (range_leads tables.attribute p.width noundef p.range k l given (Local p.name ∷ pieces) named) in
    let grouped : IsLine ((F ++ (R ++ Local p.name ∷ [])) ++ pieces) = subst IsLine (sym (append_assoc F (R ++ Local p.name ∷ []) pieces ∙ ap (λ (x : List Piece). F ++ x) (append_assoc R (Local p.name ∷ []) pieces))) all in
    bits_line p.width ((F ++ (R ++ Local p.name ∷ [])) ++ pieces) type.2 grouped

params_line : (unnamed : ℕ) (ps : List Param) (us vs : List Tok) (pieces : List Piece) → SpellParams unnamed ps us vs → IsLine pieces → IsLine (separated param_pieces ps ++ Mark 41 ∷ pieces)
params_line unnamed [] us vs pieces given is = mark_line 41 pieces refl is
params_line unnamed (p ∷ []) us vs pieces (k, given, closes) is =
    subst IsLine (sym (append_assoc (param_pieces p) [] (Mark 41 ∷ pieces))) (param_line unnamed p us k (Mark 41 ∷ pieces) given refl (mark_line 41 pieces refl is))
params_line unnamed (p ∷ next ∷ ps) us vs pieces (k, l, given, comma, others) is =
    let rest : List Piece = separated param_pieces (next ∷ ps) ++ Mark 41 ∷ pieces in
    let later : IsLine rest = params_line (unnamed_with unnamed p) (next ∷ ps) l vs pieces others is in
    subst IsLine (sym (append_assoc (param_pieces p) (Mark 44 ∷ Blank ∷ separated param_pieces (next ∷ ps)) (Mark 41 ∷ pieces))) (param_line unnamed p us k (Mark 44 ∷ Blank ∷ rest) given refl (comma_line rest later))

header_group : (F R Q behind : List Piece) (type name : Piece)
    → ((Word (codes "define") ∷ Blank ∷ (F ++ (R ++ type ∷ []))) ++ (Blank ∷ name ∷ Mark 40 ∷ (Q ++ Mark 41 ∷ Blank ∷ Mark 123 ∷ LineEnd ∷ []))) ++ behind
    ≡ Word (codes "define") ∷ ((Blank ∷ (F ++ (R ++ type ∷ Blank ∷ name ∷ Mark 40 ∷ (Q ++ Mark 41 ∷ Blank ∷ Mark 123 ∷ [])))) ++ LineEnd ∷ behind)
header_group F R Q behind type name = simp append_assoc

-- the pieces of the first line, but for its end
abbrev pub header_line_pieces : Func → List Piece
header_line_pieces func =
    Word (codes "define") ∷ Blank ∷ (flag func.ret_noundef (codes "noundef") ++ (range_pieces (ret_piece func.ret) (ret_width func.ret) func.ret_range
    ++ ret_piece func.ret ∷ Blank ∷ Global func.name ∷ Mark 40 ∷ (separated param_pieces func.params ++ Mark 41 ∷ Blank ∷ Mark 123 ∷ [])))

pub header_is_line : (func : Func) (behind : List Piece) → header_pieces func ++ behind ≡ header_line_pieces func ++ LineEnd ∷ behind
unfolding header_pieces ret_pieces signature_pieces
header_is_line func behind =
    header_group (flag func.ret_noundef (codes "noundef")) (range_pieces (ret_piece func.ret) (ret_width func.ret) func.ret_range) (separated param_pieces func.params) behind (ret_piece func.ret) (Global func.name)

pub header_line : (func : Func) (us : List Tok) → SpellsFunction func us → IsLine (header_line_pieces func)
header_line func us spells =
    let F : List Piece = flag func.ret_noundef (codes "noundef") in
    let R : List Piece = range_pieces (ret_piece func.ret) (ret_width func.ret) func.ret_range in
    let Q : List Piece = separated param_pieces func.params in
    let body : List Piece = Blank ∷ Mark 123 ∷ [] in
    let params : IsLine (Q ++ Mark 41 ∷ body) = params_line 0 func.params spells.params spells.rest body spells.are_params (blank_line (Mark 123 ∷ []) (mark_line 123 [] refl tt)) in
    let signature : List Piece = Blank ∷ Global func.name ∷ Mark 40 ∷ (Q ++ Mark 41 ∷ body) in
    let is_signature : IsLine signature = blank_line (Global func.name ∷ Mark 40 ∷ (Q ++ Mark 41 ∷ body)) (apart_line (Global func.name) (Mark 40 ∷ (Q ++ Mark 41 ∷ body)) (tt, refl) refl (mark_line 40 (Q ++ Mark 41 ∷ body) refl params)) in
    let typed : IsLine (F ++ (R ++ ret_piece func.ret ∷ signature)) = result_type_line func.ret func.ret_noundef func.ret_range spells.result spells.name signature spells.is_result refl is_signature in
    word_line (codes "define") (F ++ (R ++ ret_piece func.ret ∷ signature)) (refl, refl) typed

header_stands : (func : Func) (us : List Tok) (behind : List Piece) → SpellsFunction func us → Stand true behind → Stand true (header_pieces func ++ behind)
header_stands func us behind spells s =
    subst (Stand true) (sym (header_is_line func behind)) (stand_from (Word (codes "define")) (drop 1 (header_line_pieces func)) behind (header_line func us spells) refl (inl refl) s)

pub function_stands : (func : Func) (us : List Tok) → SpellsFunction func us → Stand true (pieces_of func)
function_stands func us spells =
    header_stands func us (flat_map block_pieces func.blocks ++ Mark 125 ∷ LineEnd ∷ []) spells
    (body_stands (decimal (count_unnamed 0 func.params)) func.blocks spells.body (Mark 125 ∷ LineEnd ∷ []) spells.is_body (refl, refl, tt, (tt, refl, tt, tt)))

pub open_stands : (func : Func) (us : List Tok) → SpellsFunction func us → Stand true (open_pieces func)
open_stands func us spells =
    header_stands func us (flat_map block_pieces func.blocks) spells
    (subst (Stand true) (append-nil (flat_map block_pieces func.blocks)) (body_stands (decimal (count_unnamed 0 func.params)) func.blocks spells.body [] spells.is_body tt))
