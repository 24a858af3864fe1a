-- Statements and blocks: what is shown spells them where something does.
use Rattle.std.proofs.Common.{◌≡◌, ◌≤◌, ◌&&◌, ℕ, false, List, [], ◌∷◌, ◌++◌, refl, sym, ap, ◌∙◌, subst, true≢false, append_assoc, append-nil}
use Rattle.std.specs.Prelude.{codes, if◌then◌else◌}
use Rattle.std.specs.List.{flat_map}
use Rattle.ll_token.specs.declared.token.TokenKind.{TokenKind}
use Rattle.ll_token.specs.declared.token.TokenKind.TheVariants as kinds
use Rattle.ll_tree.specs.declared.block.Block.{Block}
use Rattle.ll_tree.specs.declared.block.Phi.{Phi}
use Rattle.ll_tree.specs.declared.block.PhiEntry.{PhiEntry}
use Rattle.ll_tree.specs.declared.block.Instr.{Instr}
use Rattle.ll_tree.specs.declared.block.Case.{Case}
use Rattle.ll_tree.specs.declared.block.End.{End}
use Rattle.ll_tree.specs.declared.block.End.TheVariants as end
use Rattle.ll_tree.specs.declared.op.Op.{Op}
use Rattle.ll_tree.specs.declared.op.Op.TheVariants as op
use Rattle.ll_tree.specs.Pieces.{Piece, Word, Bits, Number, Local, Global, Label, Intrinsic, Mark, Blank, LineEnd, separated}
use Rattle.ll_tree.specs.Text.{operand_piece, literal, target, result_pieces, has_result, op_pieces, instr_pieces, entry_pieces, phi_pieces, case_pieces, end_pieces, line, block_pieces}
use Rattle.ll_grammar.specs.Tokens.{Tok, is_kind, starts_debug, debug_at}
use Rattle.ll_grammar.specs.Spells.{Is, IsMark, IsNameOf, IsTyped, IsTarget, IsNextTarget, IsNoGroup, SpellsOp, SpellsResultOf, SpellsInstr, SpellsEntry, SpellEntries, SpellsPhi, SpellsCase, SpellCases, SpellsEnd, IsStatement, SpellPhis, SpellInstrs, SpellsBlock, SpellBlocks}
use Rattle.canonical_text.specs.Shown.{ShowAll}
use Rattle.canonical_text.proofs.ShownLaws.{split, spaced, blank, line_end, last}
use Rattle.canonical_text.proofs.OperandLaws.{literal_again, operand_again, type_again, typed_again, target_again, next_target_again}
use Rattle.canonical_text.proofs.OpLaws.{op_again, assume_calm}

-- ---- what is shown has no Hash

kind_no_group : (kind : TokenKind) (text : List ℕ) (ts rest : List Tok) → is_kind kinds.Hash kind ≡ false → Is kind text ts rest → IsNoGroup ts
kind_no_group kind text ts rest other (t, e, k, is) = subst IsNoGroup (sym e) (λ group. true≢false (ap (is_kind kinds.Hash) (sym group.0 ∙ k) ∙ other))

name_no_group : (kind : TokenKind) (name : List ℕ) (ts rest : List Tok) → is_kind kinds.Hash kind ≡ false → IsNameOf kind name ts rest → IsNoGroup ts
name_no_group kind name ts rest other (t, e, k, is) = subst IsNoGroup (sym e) (λ group. true≢false (ap (is_kind kinds.Hash) (sym group.0 ∙ k) ∙ other))

pub no_group : (pieces : List Piece) (ts rest : List Tok) → ShowAll pieces ts rest → IsNoGroup rest → IsNoGroup ts
no_group [] ts rest e none = subst IsNoGroup (sym e) none
no_group (Word word ∷ pieces) ts rest (a, is, s) none = kind_no_group kinds.Word word ts a refl is.0
no_group (Bits w ∷ pieces) ts rest (a, is, s) none = kind_no_group kinds.Word _ ts a refl is
no_group (Number n ∷ pieces) ts rest (a, is, s) none = kind_no_group kinds.Number _ ts a refl is
no_group (Local name ∷ pieces) ts rest (a, is, s) none = name_no_group kinds.Local name ts a refl is
no_group (Global name ∷ pieces) ts rest (a, is, s) none = name_no_group kinds.Global name ts a refl is
no_group (Label name ∷ pieces) ts rest (a, is, s) none = name_no_group kinds.Label name ts a refl is
no_group (Intrinsic word w ∷ pieces) ts rest (a, is, s) none = name_no_group kinds.Global _ ts a refl is
no_group (Mark byte ∷ pieces) ts rest (a, is, s) none = kind_no_group kinds.Mark _ ts a refl is
no_group (Blank ∷ pieces) ts rest (a, e, s) none = subst IsNoGroup (sym e) (no_group pieces a rest s none)
no_group (LineEnd ∷ pieces) ts rest (a, e, s) none = subst IsNoGroup (sym e) (no_group pieces a rest s none)

-- a name begins no line that is passed over
local_calm : (name : List ℕ) (ts rest : List Tok) → IsNameOf kinds.Local name ts rest → debug_at ts ≡ false
unfolding debug_at
local_calm name ts rest (t, e, k, is) = ap debug_at e ∙ ap (λ k. starts_debug k && t.debug) k

-- ---- instructions

result_again : (name : List ℕ) (pieces : List Piece) (ts rest : List Tok) → ShowAll (result_pieces name ++ pieces) ts rest → (a b : List Tok) × IsNameOf kinds.Local name ts a × IsMark 61 a b × ShowAll pieces b rest
result_again name pieces ts rest s =
    let (a, is, s) = spaced (Local name) (Mark 61 ∷ Blank ∷ pieces) ts rest s in
    let (b, equals, s) = spaced (Mark 61) pieces a rest s in
    (a, b, is, equals, s)

-- a result and what it stands for
valued_again : (name : List ℕ) (o : Op) (us vs ts rest : List Tok) → IsNoGroup rest → SpellsOp o us vs → ShowAll (result_pieces name ++ op_pieces o) ts rest
    → (debug_at ts ≡ false) × ((a b : List Tok) × IsNameOf kinds.Local name ts a × IsMark 61 a b × SpellsOp o b rest)
valued_again name o us vs ts rest none given s =
    let (a, b, is, equals, s) = result_again name (op_pieces o) ts rest s in
    (local_calm name ts a is, (a, b, is, equals, op_again o us vs b rest none given s))

instr_again : (name : List ℕ) (o : Op) (us vs ts rest : List Tok) → IsNoGroup rest → SpellsResultOf name o us vs → ShowAll ((if has_result o then result_pieces name else []) ++ op_pieces o) ts rest
    → (debug_at ts ≡ false) × SpellsResultOf name o ts rest
instr_again name (op.Bin kind f w left right) us vs ts rest none (a, b, is, equals, given) s = valued_again name (op.Bin kind f w left right) b vs ts rest none given s
instr_again name (op.Cmp p f w left right) us vs ts rest none (a, b, is, equals, given) s = valued_again name (op.Cmp p f w left right) b vs ts rest none given s
instr_again name (op.Cast kind f from arg to) us vs ts rest none (a, b, is, equals, given) s = valued_again name (op.Cast kind f from arg to) b vs ts rest none given s
instr_again name (op.Select w cond left right) us vs ts rest none (a, b, is, equals, given) s = valued_again name (op.Select w cond left right) b vs ts rest none given s
instr_again name (op.Abs w arg strict) us vs ts rest none (a, b, is, equals, given) s = valued_again name (op.Abs w arg strict) b vs ts rest none given s
instr_again name (op.Assume cond) us vs ts rest none given s =
    (assume_calm cond ts rest s, (given.0, op_again (op.Assume cond) us vs ts rest none given.1 s))

-- ---- phis

entry_again : (w : ℕ) (e : PhiEntry) (us vs ts rest : List Tok) → w ≤ 32 → SpellsEntry w e us vs → ShowAll (entry_pieces w e) ts rest → SpellsEntry w e ts rest
entry_again w e us vs ts rest few (k, l, m, n, opens, given, comma, from, closes) s =
    let (a, is_open, s) = spaced (Mark 91) (operand_piece w e.value ∷ Mark 44 ∷ Blank ∷ Local e.from ∷ Blank ∷ Mark 93 ∷ []) ts rest s in
    let (b, is, s) = s in
    let (c, is_comma, s) = spaced (Mark 44) (Local e.from ∷ Blank ∷ Mark 93 ∷ []) b rest s in
    let (d, is_from, s) = spaced (Local e.from) (Mark 93 ∷ []) c rest s in
    (a, b, c, d, is_open, operand_again w e.value k l a b few given is, is_comma, is_from, last (Mark 93) d rest s)

entries_again : (w : ℕ) (es : List PhiEntry) (us vs ts rest : List Tok) → w ≤ 32 → SpellEntries w es us vs → ShowAll (separated (entry_pieces w) es) ts rest → SpellEntries w es ts rest
entries_again w [] us vs ts rest few given s = given
entries_again w (e ∷ []) us vs ts rest few given s =
    let (a, is, same) = split (entry_pieces w e) [] ts rest s in
    subst (λ (l : List Tok). SpellsEntry w e ts l) same (entry_again w e us vs ts a few given is)
entries_again w (e ∷ next ∷ es) us vs ts rest few (k, l, given, comma, others) s =
    let (a, is, s) = split (entry_pieces w e) (Mark 44 ∷ Blank ∷ separated (entry_pieces w) (next ∷ es)) ts rest s in
    let (b, is_comma, s) = spaced (Mark 44) (separated (entry_pieces w) (next ∷ es)) a rest s in
    (a, b, entry_again w e us k ts a few given is, is_comma, entries_again w (next ∷ es) l vs b rest few others s)

phi_again : (p : Phi) (us vs ts rest : List Tok) → SpellsPhi p us vs → ShowAll (phi_pieces p) ts rest → (debug_at ts ≡ false) × SpellsPhi p ts rest
phi_again p us vs ts rest (k, l, m, n, name, equals, word, type, given) s =
    let (a, b, is, is_equals, s) = result_again p.name (Word (codes "phi") ∷ Blank ∷ Bits p.width ∷ Blank ∷ separated (entry_pieces p.width) p.entries) ts rest s in
    let (c, is_word, s) = spaced (Word (codes "phi")) (Bits p.width ∷ Blank ∷ separated (entry_pieces p.width) p.entries) b rest s in
    let (d, is_type, s) = spaced (Bits p.width) (separated (entry_pieces p.width) p.entries) c rest s in
    (local_calm p.name ts a is, (a, b, c, d, is, is_equals, is_word.0, type_again p.width m n c d type is_type, entries_again p.width p.entries n vs d rest type.2 given s))

-- ---- terminators

case_again : (c : Case) (pieces : List Piece) (us vs ts rest : List Tok) → SpellsCase c us vs → ShowAll (case_pieces c ++ pieces) ts rest → (a : List Tok) × SpellsCase c ts a × ShowAll pieces a rest
case_again c pieces us vs ts rest (k, l, type, given, to) s =
    let (a, is_type, s) = spaced (Bits c.width) (literal c.width c.value ∷ Mark 44 ∷ Blank ∷ Word (codes "label") ∷ Blank ∷ Local c.to ∷ Blank ∷ pieces) ts rest s in
    let (b, is, s) = s in
    let (d, is_to, s) = next_target_again c.to (Blank ∷ pieces) b rest s in
    (d, (a, b, type_again c.width us k ts a type is_type, literal_again c.width c.value k l a b type.2 given is, is_to), blank pieces d rest s)

cases_again : (cases : List Case) (pieces : List Piece) (us vs ts rest : List Tok) → SpellCases cases us vs → ShowAll (flat_map case_pieces cases ++ pieces) ts rest → (a : List Tok) × SpellCases cases ts a × ShowAll pieces a rest
cases_again [] pieces us vs ts rest given s = (ts, refl, s)
cases_again (c ∷ cases) pieces us vs ts rest (k, first, others) s =
    let s : ShowAll (case_pieces c ++ (flat_map case_pieces cases ++ pieces)) ts rest = s in
    let (a, is, s) = case_again c (flat_map case_pieces cases ++ pieces) us k ts rest first s in
    let (b, are, s) = cases_again cases pieces k vs a rest others s in
    (b, (a, is, are), s)

end_again : (e : End) (us vs ts rest : List Tok) → SpellsEnd e us vs → ShowAll (end_pieces e) ts rest → (debug_at ts ≡ false) × SpellsEnd e ts rest
unfolding end_pieces
end_again end.RetVoid us vs ts rest given s =
    let (a, is, s) = spaced (Word (codes "ret")) (Word (codes "void") ∷ []) ts rest s in
    (is.1, (a, is.0, (last (Word (codes "void")) a rest s).0))
end_again (end.Ret w x) us vs ts rest (k, word, given) s =
    let (a, is, s) = spaced (Word (codes "ret")) (Bits w ∷ Blank ∷ operand_piece w x ∷ []) ts rest s in
    let (b, x_is, e) = typed_again w x [] k vs a rest given s in
    (is.1, (a, is.0, subst (λ (l : List Tok). IsTyped w x a l) e x_is))
end_again (end.Br to) us vs ts rest given s =
    let (a, is, s) = spaced (Word (codes "br")) (target to) ts rest s in
    let (b, to_is, e) = target_again to [] a rest s in
    (is.1, (a, is.0, subst (λ (l : List Tok). IsTarget to a l) e to_is))
end_again (end.CondBr cond left right) us vs ts rest (k, l, m, word, given, one, other) s =
    let targets : List Piece = Mark 44 ∷ Blank ∷ (target left ++ Mark 44 ∷ Blank ∷ target right) in
    let (a, is, s) = spaced (Word (codes "br")) (Bits 1 ∷ Blank ∷ operand_piece 1 cond ∷ targets) ts rest s in
    let (b, cond_is, s) = typed_again 1 cond targets k l a rest given s in
    let (c, left_is, s) = next_target_again left (Mark 44 ∷ Blank ∷ target right) b rest s in
    let (d, right_is, e) = next_target_again right [] c rest s in
    (is.1, (a, b, c, is.0, cond_is, left_is, subst (λ (l : List Tok). IsNextTarget right c l) e right_is))
end_again (end.Switch w x default cases) us vs ts rest (k, l, m, n, o, word, given, to, opens, are, closes) s =
    let rows : List Piece = flat_map case_pieces cases ++ Mark 93 ∷ [] in
    let behind : List Piece = Mark 44 ∷ Blank ∷ (target default ++ Blank ∷ Mark 91 ∷ Blank ∷ rows) in
    let (a, is, s) = spaced (Word (codes "switch")) (Bits w ∷ Blank ∷ operand_piece w x ∷ behind) ts rest s in
    let (b, x_is, s) = typed_again w x behind k l a rest given s in
    let (c, to_is, s) = next_target_again default (Blank ∷ Mark 91 ∷ Blank ∷ rows) b rest s in
    let (d, is_open, s) = spaced (Mark 91) rows c rest (blank (Mark 91 ∷ Blank ∷ rows) c rest s) in
    let (e, cases_are, s) = cases_again cases (Mark 93 ∷ []) n o d rest are s in
    (is.1, (a, b, c, d, e, is.0, x_is, to_is, is_open, cases_are, last (Mark 93) e rest s))
end_again end.Unreachable us vs ts rest given s =
    let is = last (Word (codes "unreachable")) ts rest s in
    (is.1, is.0)

-- ---- blocks

statement : (Spelled : (ts rest : List Tok) → Type 0) (ts rest : List Tok) → (debug_at ts ≡ false) × Spelled ts rest → IsStatement Spelled ts rest
statement Spelled ts rest (calm, is) = (0, 0, ts, rest, refl, calm, is, refl)

line_shown : (pieces behind : List Piece) (ts rest : List Tok) → ShowAll (line pieces ++ behind) ts rest → (a : List Tok) × ShowAll pieces ts a × ShowAll behind a rest
line_shown pieces behind ts rest s =
    let (a, is, more) = split (line pieces) behind ts rest s in
    let (b, shown, end) = split pieces (LineEnd ∷ []) ts a (blank (pieces ++ LineEnd ∷ []) ts a (blank (Blank ∷ (pieces ++ LineEnd ∷ [])) ts a is)) in
    (a, subst (λ (l : List Tok). ShowAll pieces ts l) (line_end [] b a end) shown, more)

pub regroup : (front middle behind : List Piece) (ts rest : List Tok) → ShowAll ((front ++ middle) ++ behind) ts rest → ShowAll (front ++ (middle ++ behind)) ts rest
regroup front middle behind ts rest s = subst (λ (ps : List Piece). ShowAll ps ts rest) (append_assoc front middle behind) s

phis_again : (phis : List Phi) (pieces : List Piece) (us vs ts rest : List Tok) → SpellPhis phis us vs → ShowAll (flat_map (λ phi. line (phi_pieces phi)) phis ++ pieces) ts rest → (a : List Tok) × SpellPhis phis ts a × ShowAll pieces a rest
phis_again [] pieces us vs ts rest given s = (ts, refl, s)
phis_again (p ∷ phis) pieces us vs ts rest (k, (lines, pairs, m, n, passed, calm, given, meta), others) s =
    let (a, is, s) = line_shown (phi_pieces p) (flat_map (λ phi. line (phi_pieces phi)) phis ++ pieces) ts rest (regroup (line (phi_pieces p)) (flat_map (λ phi. line (phi_pieces phi)) phis) pieces ts rest s) in
    let (b, are, s) = phis_again phis pieces k vs a rest others s in
    (b, (a, statement (SpellsPhi p) ts a (phi_again p m n ts a given is), are), s)

instrs_again : (body : List Instr) (pieces : List Piece) (us vs ts rest : List Tok) → IsNoGroup rest → SpellInstrs body us vs → ShowAll (flat_map (λ instr. line (instr_pieces instr)) body ++ pieces) ts rest → (a : List Tok) × SpellInstrs body ts a × ShowAll pieces a rest
instrs_again [] pieces us vs ts rest none given s = (ts, refl, s)
instrs_again (i ∷ body) pieces us vs ts rest none (k, (lines, pairs, m, n, passed, calm, given, meta), others) s =
    let (a, is, s) = line_shown (instr_pieces i) (flat_map (λ instr. line (instr_pieces instr)) body ++ pieces) ts rest (regroup (line (instr_pieces i)) (flat_map (λ instr. line (instr_pieces instr)) body) pieces ts rest s) in
    let behind = no_group (flat_map (λ instr. line (instr_pieces instr)) body ++ pieces) a rest s none in
    let (b, are, s) = instrs_again body pieces k vs a rest none others s in
    (b, (a, statement (SpellsInstr i) ts a (instr_again i.name i.op m n ts a behind given is), are), s)

pub block_again : (b : Block) (pieces : List Piece) (us vs ts rest : List Tok) → IsNoGroup rest → SpellsBlock b us vs → ShowAll (block_pieces b ++ pieces) ts rest → (a c : List Tok) × IsNameOf kinds.Label b.label ts a × SpellsBlock b a c × ShowAll pieces c rest
unfolding block_pieces
block_again b pieces us vs ts rest none (k, l, phis, body, (lines, pairs, m, n, passed, calm, given, meta)) s =
    let (c, shown, more) = split (block_pieces b) pieces ts rest s in
    let behind = no_group pieces c rest more none in
    let (a, label, s) = shown in
    let s = line_end (flat_map (λ phi. line (phi_pieces phi)) b.phis ++ (flat_map (λ instr. line (instr_pieces instr)) b.body ++ line (end_pieces b.end))) a c s in
    let (d, phis_are, s) = phis_again b.phis (flat_map (λ instr. line (instr_pieces instr)) b.body ++ line (end_pieces b.end)) us k a c phis s in
    let (e, body_is, s) = instrs_again b.body (line (end_pieces b.end)) k l d c behind body s in
    let (f, end_shown, same) = line_shown (end_pieces b.end) [] e c (subst (λ (ps : List Piece). ShowAll ps e c) (sym (append-nil (line (end_pieces b.end)))) s) in
    let end_is = statement (SpellsEnd b.end) e f (end_again b.end m n e f given end_shown) in
    (a, c, label, (d, e, phis_are, body_is, subst (λ (l : List Tok). IsStatement (SpellsEnd b.end) e l) same end_is), more)

pub blocks_again : (blocks : List Block) (us vs ts rest : List Tok) → IsNoGroup rest → SpellBlocks blocks us vs → ShowAll (flat_map block_pieces blocks) ts rest → SpellBlocks blocks ts rest
blocks_again [] us vs ts rest none given s = s
blocks_again (b ∷ blocks) us vs ts rest none (k, l, label, first, others) s =
    let (a, c, is, b_is, s) = block_again b (flat_map block_pieces blocks) k l ts rest none first s in
    (a, c, is, b_is, blocks_again blocks l vs c rest none others s)
