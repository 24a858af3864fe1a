-- The pieces of instructions, phis and terminators: each is lexed as it stands, none ends the line.
use Rattle.std.proofs.Common.{◌≡◌, ◌<◌, ◌≤◌, ◌^◌, ℕ, Bool, true, false, ◌||◌, eqb, List, [], ◌∷◌, ◌++◌, refl, sym, ap, subst, append_assoc}
use Rattle.std.specs.Prelude.{codes, if◌then◌else◌}
use Rattle.std.specs.List.{flat_map, list_all}
use Rattle.ll_token.specs.Bytes.{is_run_byte, is_mark}
use Rattle.ll_tree.specs.declared.block.Phi.{Phi}
use Rattle.ll_tree.specs.declared.block.PhiEntry.{PhiEntry}
use Rattle.ll_tree.specs.declared.block.Case.{Case}
use Rattle.ll_tree.specs.declared.block.Operand.{Operand}
use Rattle.ll_tree.specs.declared.block.Operand.TheVariants as value
use Rattle.ll_tree.specs.declared.block.End.{End}
use Rattle.ll_tree.specs.declared.block.End.TheVariants as end
use Rattle.ll_tree.specs.declared.op.Op.{Op}
use Rattle.ll_tree.specs.declared.op.Op.TheVariants as op
use Rattle.ll_tree.specs.declared.op.Flags.{Flags}
use Rattle.ll_tree.specs.declared.op.BinKind.{BinKind}
use Rattle.ll_tree.specs.declared.op.BinKind.TheVariants as bin
use Rattle.ll_tree.specs.declared.op.CastKind.{CastKind}
use Rattle.ll_tree.specs.declared.op.CastKind.TheVariants as cast
use Rattle.ll_tree.specs.declared.op.Pred.{Pred}
use Rattle.ll_tree.specs.declared.op.Pred.TheVariants as pred
use Rattle.ll_tree.specs.Words as words
use Rattle.ll_tree.specs.Pieces.{Piece, Word, Bits, Number, Local, Global, Intrinsic, Mark, Blank, LineEnd, separated}
use Rattle.ll_tree.specs.Text.{literal, operand_piece, pair, flag, flag_pieces, bin_pieces, truth, op_pieces, entry_pieces, phi_pieces, target, case_pieces, end_pieces}
use Rattle.ll_grammar.specs.Tokens.{Tok}
use Rattle.ll_tree.specs.Words.{is_called}
use Rattle.ll_grammar.specs.Spells.{IsLiteral, IsOperand, IsTyped, IsSecond, BeginsCall, SpellsBin, SpellsOp, word_of, SpellsEntry, SpellEntries, SpellsPhi, SpellsCase, SpellCases, SpellsEnd}
use Rattle.ll_grammar.proofs.FlagLaws.{or_true}
use Rattle.canonical_text.proofs.OperandLaws.{within_64, literal_fits}
use Rattle.canonical_text.proofs.OpLaws.{same_word, called_word}
use Rattle.canonical_text.proofs.TokenLaws.{IsLexed, starts_apart, stands_alone, are_apart}

-- ---- lines

abbrev pub is_line_end : Piece → Bool
is_line_end LineEnd = true
is_line_end piece = false

abbrev pub IsPlaced : Piece → Type 0
IsPlaced piece = IsLexed piece × (is_line_end piece ≡ false)

-- pieces of one line
abbrev pub IsLine : List Piece → Type 0
IsLine [] = Unit {0}
IsLine (piece ∷ pieces) = IsPlaced piece × (are_apart piece pieces ≡ true) × IsLine pieces

-- pieces that may stand before any others of a line
abbrev pub LeadsLine : List Piece → Type 0
LeadsLine front = (pieces : List Piece) → IsLine pieces → IsLine (front ++ pieces)

pub leads_both : (front middle : List Piece) → LeadsLine front → LeadsLine middle → LeadsLine (front ++ middle)
leads_both front middle one other pieces is = subst IsLine (sym (append_assoc front middle pieces)) (one (middle ++ pieces) (other pieces is))

pub blank_line : (pieces : List Piece) → IsLine pieces → IsLine (Blank ∷ pieces)
blank_line pieces is = ((tt, refl), or_true (starts_apart pieces), is)

pub word_line : (word : List ℕ) (pieces : List Piece) → IsLexed (Word word) → IsLine pieces → IsLine (Word word ∷ Blank ∷ pieces)
word_line word pieces lexed is = ((lexed, refl), refl, blank_line pieces is)

pub bits_line : (w : ℕ) (pieces : List Piece) → w ≤ 32 → IsLine pieces → IsLine (Bits w ∷ Blank ∷ pieces)
bits_line w pieces few is = ((few, refl), refl, blank_line pieces is)

pub mark_line : (byte : ℕ) (pieces : List Piece) → is_mark byte ≡ true → IsLine pieces → IsLine (Mark byte ∷ pieces)
mark_line byte pieces is s = ((is, refl), or_true (starts_apart pieces), s)

pub comma_line : (pieces : List Piece) → IsLine pieces → IsLine (Mark 44 ∷ Blank ∷ pieces)
comma_line pieces is = mark_line 44 (Blank ∷ pieces) refl (blank_line pieces is)

-- a piece before others that start apart
pub apart_line : (piece : Piece) (pieces : List Piece) → IsPlaced piece → starts_apart pieces ≡ true → IsLine pieces → IsLine (piece ∷ pieces)
apart_line piece pieces placed apart is = (placed, ap (λ b. b || stands_alone piece) apart, is)

-- ---- operands

placed_by : (n : ℕ) (one none : Bool) → n < 2 ^ 64 → IsPlaced (if one then (if none then Word (codes "false") else Word (codes "true")) else Number n)
placed_by n true true fits = ((refl, refl), refl)
placed_by n true false fits = ((refl, refl), refl)
placed_by n false none fits = (fits, refl)

pub literal_placed : (w n : ℕ) (us vs : List Tok) → w ≤ 32 → IsLiteral w n us vs → IsPlaced (literal w n)
literal_placed w n us vs few given = placed_by n (eqb w 1) (eqb n 0) (within_64 w n few (literal_fits w n us vs given))

pub operand_placed : (w : ℕ) (x : Operand) (us vs : List Tok) → w ≤ 32 → IsOperand w x us vs → IsPlaced (operand_piece w x)
operand_placed w (value.Name name) us vs few given = (tt, refl)
operand_placed w (value.Const n) us vs few given = literal_placed w n us vs few given
operand_placed w value.Poison us vs few given = ((refl, refl), refl)

pub typed_line : (w : ℕ) (x : Operand) (us vs : List Tok) (pieces : List Piece) → IsTyped w x us vs → starts_apart pieces ≡ true → IsLine pieces → IsLine (Bits w ∷ Blank ∷ operand_piece w x ∷ pieces)
typed_line w x us vs pieces (m, type, given) apart is =
    bits_line w (operand_piece w x ∷ pieces) type.2 (apart_line (operand_piece w x) pieces (operand_placed w x m vs type.2 given) apart is)

pair_line : (w : ℕ) (left right : Operand) (us vs xs : List Tok) → IsTyped w left us vs → IsSecond w right vs xs → IsLine (pair w left right)
pair_line w left right us vs xs l (m, comma, given) =
    typed_line w left us vs (Mark 44 ∷ Blank ∷ operand_piece w right ∷ []) l refl (comma_line (operand_piece w right ∷ []) (apart_line (operand_piece w right) [] (operand_placed w right m xs l.1.2 given) refl tt))

-- ---- flags

pub flag_leads : (b : Bool) (word : List ℕ) → IsLexed (Word word) → LeadsLine (flag b word)
flag_leads false word lexed pieces is = is
flag_leads true word lexed pieces is = word_line word pieces lexed is

flags_lead : (f : Flags) → LeadsLine (flag_pieces f)
unfolding flag_pieces
flags_lead f =
    leads_both (flag f.nuw (codes "nuw")) _ (flag_leads f.nuw (codes "nuw") (refl, refl))
    (leads_both (flag f.nsw (codes "nsw")) _ (flag_leads f.nsw (codes "nsw") (refl, refl))
    (leads_both (flag f.exact (codes "exact")) _ (flag_leads f.exact (codes "exact") (refl, refl))
    (leads_both (flag f.nneg (codes "nneg")) _ (flag_leads f.nneg (codes "nneg") (refl, refl))
    (leads_both (flag f.samesign (codes "samesign")) _ (flag_leads f.samesign (codes "samesign") (refl, refl))
    (flag_leads f.disjoint (codes "disjoint") (refl, refl))))))

-- ---- operations

bin_lexed : (kind : BinKind) → IsLexed (Word (words.bin_word kind)) × (list_all is_run_byte (words.bin_word kind) ≡ true)
bin_lexed bin.Add = ((refl, refl), refl)
bin_lexed bin.Sub = ((refl, refl), refl)
bin_lexed bin.Mul = ((refl, refl), refl)
bin_lexed bin.Shl = ((refl, refl), refl)
bin_lexed bin.Lshr = ((refl, refl), refl)
bin_lexed bin.Ashr = ((refl, refl), refl)
bin_lexed bin.And = ((refl, refl), refl)
bin_lexed bin.Or = ((refl, refl), refl)
bin_lexed bin.Xor = ((refl, refl), refl)
bin_lexed bin.Udiv = ((refl, refl), refl)
bin_lexed bin.Sdiv = ((refl, refl), refl)
bin_lexed bin.Urem = ((refl, refl), refl)
bin_lexed bin.Srem = ((refl, refl), refl)
bin_lexed bin.Smin = ((refl, refl), refl)
bin_lexed bin.Smax = ((refl, refl), refl)
bin_lexed bin.Umin = ((refl, refl), refl)
bin_lexed bin.Umax = ((refl, refl), refl)

cast_lexed : (kind : CastKind) → IsLexed (Word (words.cast_word kind))
cast_lexed cast.Zext = (refl, refl)
cast_lexed cast.Sext = (refl, refl)
cast_lexed cast.Trunc = (refl, refl)

pred_lexed : (p : Pred) → IsLexed (Word (words.pred_word p))
pred_lexed pred.Eq = (refl, refl)
pred_lexed pred.Ne = (refl, refl)
pred_lexed pred.Ugt = (refl, refl)
pred_lexed pred.Uge = (refl, refl)
pred_lexed pred.Ult = (refl, refl)
pred_lexed pred.Ule = (refl, refl)
pred_lexed pred.Sgt = (refl, refl)
pred_lexed pred.Sge = (refl, refl)
pred_lexed pred.Slt = (refl, refl)
pred_lexed pred.Sle = (refl, refl)

-- `)` at the end
close_line : IsLine (Mark 41 ∷ [])
close_line = mark_line 41 [] refl tt

call_line : (word name : List ℕ) (w : ℕ) (x : Operand) (pieces : List Piece) (us vs : List Tok) → list_all is_run_byte word ≡ true → BeginsCall name w x us vs → IsLine pieces
    → IsLine (Word (codes "call") ∷ Blank ∷ Bits w ∷ Blank ∷ Intrinsic word w ∷ Mark 40 ∷ Bits w ∷ Blank ∷ operand_piece w x ∷ Mark 44 ∷ Blank ∷ pieces)
call_line word name w x pieces us vs run (k, l, m, n, o, call, type, global, opens, given, comma) is =
    let operands = typed_line w x n o (Mark 44 ∷ Blank ∷ pieces) given refl (comma_line pieces is) in
    let called = apart_line (Intrinsic word w) (Mark 40 ∷ Bits w ∷ Blank ∷ operand_piece w x ∷ Mark 44 ∷ Blank ∷ pieces) ((run, type.2), refl) refl (mark_line 40 (Bits w ∷ Blank ∷ operand_piece w x ∷ Mark 44 ∷ Blank ∷ pieces) refl operands) in
    word_line (codes "call") (Bits w ∷ Blank ∷ Intrinsic word w ∷ Mark 40 ∷ Bits w ∷ Blank ∷ operand_piece w x ∷ Mark 44 ∷ Blank ∷ pieces) (refl, refl)
    (bits_line w (Intrinsic word w ∷ Mark 40 ∷ Bits w ∷ Blank ∷ operand_piece w x ∷ Mark 44 ∷ Blank ∷ pieces) type.2 called)

bin_line : (called : Bool) (kind : BinKind) (f : Flags) (w : ℕ) (left right : Operand) (us vs : List Tok) → is_called kind ≡ called → SpellsBin called kind f w left right us vs → IsLine (bin_pieces (words.is_called kind) kind f w left right)
bin_line false kind f w left right us vs plain (k, l, m, word, flags, first, second) =
    subst (λ (c : Bool). IsLine (bin_pieces c kind f w left right)) (sym (same_word kind plain).0)
    (word_line (words.bin_word kind) (flag_pieces f ++ pair w left right) (bin_lexed kind).0 (flags_lead f (pair w left right) (pair_line w left right l m vs first second)))
bin_line true kind f w left right us vs called (no_flags, k, l, begins, second, closes) =
    subst (λ (c : Bool). IsLine (bin_pieces c kind f w left right)) (sym (called_word kind called).0)
    (call_line (words.bin_word kind) (word_of kind) w left (Bits w ∷ Blank ∷ operand_piece w right ∷ Mark 41 ∷ []) us k (bin_lexed kind).1 begins (typed_line w right k l (Mark 41 ∷ []) second refl close_line))

truth_placed : (strict : Bool) → IsPlaced (truth strict)
truth_placed true = ((refl, refl), refl)
truth_placed false = ((refl, refl), refl)

pub op_line : (o : Op) (us vs : List Tok) → SpellsOp o us vs → IsLine (op_pieces o)
unfolding op_pieces
op_line (op.Bin kind f w left right) us vs given = bin_line (is_called kind) kind f w left right us vs refl given
op_line (op.Cmp p f w left right) us vs (k, l, m, n, icmp, flags, word, first, second) =
    let rest : List Piece = Word (words.pred_word p) ∷ Blank ∷ pair w left right in
    word_line (codes "icmp") (flag_pieces f ++ rest) (refl, refl) (flags_lead f rest (word_line (words.pred_word p) (pair w left right) (pred_lexed p) (pair_line w left right m n vs first second)))
op_line (op.Cast kind f from arg to) us vs (k, l, m, n, word, flags, given, is_to, type) =
    let behind : List Piece = Word (codes "to") ∷ Blank ∷ Bits to ∷ [] in
    let rest : List Piece = Bits from ∷ Blank ∷ operand_piece from arg ∷ Blank ∷ behind in
    let is_behind : IsLine behind = word_line (codes "to") (Bits to ∷ []) (refl, refl) (apart_line (Bits to) [] (type.2, refl) refl tt) in
    word_line (words.cast_word kind) (flag_pieces f ++ rest) (cast_lexed kind) (flags_lead f rest (typed_line from arg l m (Blank ∷ behind) given refl (blank_line behind is_behind)))
op_line (op.Select w cond left right) us vs (k, l, m, n, o, word, given, comma, first, other, second) =
    let third : List Piece = Bits w ∷ Blank ∷ operand_piece w right ∷ [] in
    let middle : List Piece = Bits w ∷ Blank ∷ operand_piece w left ∷ Mark 44 ∷ Blank ∷ third in
    let is_third : IsLine third = typed_line w right o vs [] second refl tt in
    let is_middle : IsLine middle = typed_line w left m n (Mark 44 ∷ Blank ∷ third) first refl (comma_line third is_third) in
    word_line (codes "select") (Bits 1 ∷ Blank ∷ operand_piece 1 cond ∷ Mark 44 ∷ Blank ∷ middle) (refl, refl) (typed_line 1 cond k l (Mark 44 ∷ Blank ∷ middle) given refl (comma_line middle is_middle))
op_line (op.Abs w arg strict) us vs (n, strict_is, k, l, m, begins, type, lit, closes) =
    let last : List Piece = Bits 1 ∷ Blank ∷ truth strict ∷ Mark 41 ∷ [] in
    let is_last : IsLine last = bits_line 1 (truth strict ∷ Mark 41 ∷ []) type.2 (apart_line (truth strict) (Mark 41 ∷ []) (truth_placed strict) refl close_line) in
    call_line (codes "abs") (codes "llvm.abs.") w arg last us k refl begins is_last
op_line (op.Assume cond) us vs (k, l, m, n, o, call, void, global, opens, given, closes) =
    let operand : List Piece = Bits 1 ∷ Blank ∷ operand_piece 1 cond ∷ Mark 41 ∷ [] in
    let is_operand : IsLine operand = typed_line 1 cond n o (Mark 41 ∷ []) given refl close_line in
    word_line (codes "call") (Word (codes "void") ∷ Blank ∷ Global (codes "llvm.assume") ∷ Mark 40 ∷ operand) (refl, refl)
    (word_line (codes "void") (Global (codes "llvm.assume") ∷ Mark 40 ∷ operand) (refl, refl) (apart_line (Global (codes "llvm.assume")) (Mark 40 ∷ operand) (tt, refl) refl (mark_line 40 operand refl is_operand)))

-- ---- phis

-- `%r = `
pub result_line : (name : List ℕ) (pieces : List Piece) → IsLine pieces → IsLine (Local name ∷ Blank ∷ Mark 61 ∷ Blank ∷ pieces)
result_line name pieces is =
    apart_line (Local name) (Blank ∷ Mark 61 ∷ Blank ∷ pieces) (tt, refl) refl (blank_line (Mark 61 ∷ Blank ∷ pieces) (mark_line 61 (Blank ∷ pieces) refl (blank_line pieces is)))

entry_leads : (w : ℕ) (e : PhiEntry) (us vs : List Tok) → w ≤ 32 → SpellsEntry w e us vs → LeadsLine (entry_pieces w e)
entry_leads w e us vs few (k, l, m, n, opens, given, comma, from, closes) pieces is =
    let name : List Piece = Local e.from ∷ Blank ∷ Mark 93 ∷ pieces in
    let is_name : IsLine name = apart_line (Local e.from) (Blank ∷ Mark 93 ∷ pieces) (tt, refl) refl (blank_line (Mark 93 ∷ pieces) (mark_line 93 pieces refl is)) in
    mark_line 91 (Blank ∷ operand_piece w e.value ∷ Mark 44 ∷ Blank ∷ name) refl (blank_line (operand_piece w e.value ∷ Mark 44 ∷ Blank ∷ name)
    (apart_line (operand_piece w e.value) (Mark 44 ∷ Blank ∷ name) (operand_placed w e.value k l few given) refl (comma_line name is_name)))

entries_line : (w : ℕ) (es : List PhiEntry) (us vs : List Tok) → w ≤ 32 → SpellEntries w es us vs → IsLine (separated (entry_pieces w) es)
entries_line w [] us vs few given = absurd given
entries_line w (e ∷ []) us vs few given = entry_leads w e us vs few given [] tt
entries_line w (e ∷ next ∷ es) us vs few (k, l, given, comma, others) =
    entry_leads w e us k few given (Mark 44 ∷ Blank ∷ separated (entry_pieces w) (next ∷ es)) (comma_line (separated (entry_pieces w) (next ∷ es)) (entries_line w (next ∷ es) l vs few others))

pub phi_line : (p : Phi) (us vs : List Tok) → SpellsPhi p us vs → IsLine (phi_pieces p)
phi_line p us vs (k, l, m, n, name, equals, word, type, given) =
    let entries : List Piece = separated (entry_pieces p.width) p.entries in
    result_line p.name (Word (codes "phi") ∷ Blank ∷ Bits p.width ∷ Blank ∷ entries)
    (word_line (codes "phi") (Bits p.width ∷ Blank ∷ entries) (refl, refl) (bits_line p.width entries type.2 (entries_line p.width p.entries n vs type.2 given)))

-- ---- terminators

target_line : (to : List ℕ) (pieces : List Piece) → starts_apart pieces ≡ true → IsLine pieces → IsLine (Word (codes "label") ∷ Blank ∷ Local to ∷ pieces)
target_line to pieces apart is = word_line (codes "label") (Local to ∷ pieces) (refl, refl) (apart_line (Local to) pieces (tt, refl) apart is)

case_leads : (c : Case) (us vs : List Tok) → SpellsCase c us vs → LeadsLine (case_pieces c)
case_leads c us vs (k, l, type, given, to) pieces is =
    let label : List Piece = Word (codes "label") ∷ Blank ∷ Local c.to ∷ Blank ∷ pieces in
    let is_label : IsLine label = target_line c.to (Blank ∷ pieces) refl (blank_line pieces is) in
    bits_line c.width (literal c.width c.value ∷ Mark 44 ∷ Blank ∷ label) type.2
    (apart_line (literal c.width c.value) (Mark 44 ∷ Blank ∷ label) (literal_placed c.width c.value k l type.2 given) refl (comma_line label is_label))

cases_lead : (cases : List Case) (us vs : List Tok) → SpellCases cases us vs → LeadsLine (flat_map case_pieces cases)
cases_lead [] us vs given pieces is = is
cases_lead (c ∷ cases) us vs (k, first, others) pieces is =
    leads_both (case_pieces c) (flat_map case_pieces cases) (case_leads c us k first) (cases_lead cases k vs others) pieces is

-- the word at the front of a terminator
abbrev pub end_word : End → List ℕ
end_word end.RetVoid = codes "ret"
end_word (end.Ret w x) = codes "ret"
end_word (end.Br to) = codes "br"
end_word (end.CondBr cond left right) = codes "br"
end_word (end.Switch w x default cases) = codes "switch"
end_word end.Unreachable = codes "unreachable"

pub end_line : (e : End) (us vs : List Tok) → SpellsEnd e us vs → IsLine (end_pieces e)
unfolding end_pieces
end_line end.RetVoid us vs given = word_line (codes "ret") (Word (codes "void") ∷ []) (refl, refl) (apart_line (Word (codes "void")) [] ((refl, refl), refl) refl tt)
end_line (end.Ret w x) us vs (k, word, given) = word_line (codes "ret") (Bits w ∷ Blank ∷ operand_piece w x ∷ []) (refl, refl) (typed_line w x k vs [] given refl tt)
end_line (end.Br to) us vs given = word_line (codes "br") (target to) (refl, refl) (target_line to [] refl tt)
end_line (end.CondBr cond left right) us vs (k, l, m, word, given, one, other) =
    let second : List Piece = Mark 44 ∷ Blank ∷ target right in
    let targets : List Piece = Mark 44 ∷ Blank ∷ (target left ++ second) in
    let is_second : IsLine second = comma_line (target right) (target_line right [] refl tt) in
    let are_targets : IsLine targets = comma_line (target left ++ second) (target_line left second refl is_second) in
    word_line (codes "br") (Bits 1 ∷ Blank ∷ operand_piece 1 cond ∷ targets) (refl, refl) (typed_line 1 cond k l targets given refl are_targets)
end_line (end.Switch w x default cases) us vs (k, l, m, n, o, word, given, to, opens, are, closes) =
    let rows : List Piece = flat_map case_pieces cases ++ Mark 93 ∷ [] in
    let are_rows : IsLine rows = cases_lead cases n o are (Mark 93 ∷ []) (mark_line 93 [] refl tt) in
    let behind : List Piece = Blank ∷ Mark 91 ∷ Blank ∷ rows in
    let is_behind : IsLine behind = blank_line (Mark 91 ∷ Blank ∷ rows) (mark_line 91 (Blank ∷ rows) refl (blank_line rows are_rows)) in
    let label : List Piece = Mark 44 ∷ Blank ∷ (target default ++ behind) in
    let is_label : IsLine label = comma_line (target default ++ behind) (target_line default behind refl is_behind) in
    word_line (codes "switch") (Bits w ∷ Blank ∷ operand_piece w x ∷ label) (refl, refl) (typed_line w x k l label given refl is_label)
end_line end.Unreachable us vs given = apart_line (Word (codes "unreachable")) [] ((refl, refl), refl) refl tt
