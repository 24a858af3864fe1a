-- Each name of a tree that tokens of a text spell has a byte.
use Rattle.std.proofs.Common.{◌≡◌, ◌<◌, ◌≤◌, ◌+◌, ◌^◌, ℕ, Bool, true, false, eqb, List, [], ◌∷◌, ◌++◌, length, Option, Some, None, refl, sym, ap, subst, inl, inr, arith}
use Rattle.std.specs.Prelude.{codes, if◌then◌else◌}
use Rattle.std.specs.List.{flat_map}
use Rattle.std.specs.Fmt.{decimal}
use Rattle.op_table.specs.Words as tables
use Rattle.ll_token.specs.declared.token.TokenKind.TheVariants as kinds
use Rattle.ll_tree.specs.declared.func.Func.{Func}
use Rattle.ll_tree.specs.declared.func.Ret.{Ret}
use Rattle.ll_tree.specs.declared.func.Ret.TheVariants as ret
use Rattle.ll_tree.specs.declared.func.Param.{Param}
use Rattle.ll_tree.specs.declared.func.Range.{Range}
use Rattle.ll_tree.specs.declared.block.Block.{Block}
use Rattle.ll_tree.specs.declared.block.Phi.{Phi}
use Rattle.ll_tree.specs.declared.block.PhiEntry.{PhiEntry}
use Rattle.ll_tree.specs.declared.block.Instr.{Instr}
use Rattle.ll_tree.specs.declared.block.Case.{Case}
use Rattle.ll_tree.specs.declared.block.Operand.{Operand}
use Rattle.ll_tree.specs.declared.block.Operand.TheVariants as value
use Rattle.ll_tree.specs.declared.block.End.{End}
use Rattle.ll_tree.specs.declared.block.End.TheVariants as end
use Rattle.ll_tree.specs.declared.op.Op.{Op}
use Rattle.ll_tree.specs.declared.op.Op.TheVariants as op
use Rattle.ll_tree.specs.declared.op.Flags.{Flags}
use Rattle.ll_tree.specs.declared.op.BinKind.{BinKind}
use Rattle.ll_tree.specs.Words as words
use Rattle.ll_tree.specs.Pieces.{Piece, Word, Bits, Number, Local, Mark, Blank, LineEnd, separated}
use Rattle.ll_tree.specs.Text.{literal, operand_piece, pair, flag, flag_pieces, bin_pieces, truth, op_pieces, result_pieces, has_result, instr_pieces, entry_pieces, phi_pieces, case_pieces, end_pieces, line, block_pieces, range_pieces, ret_piece, ret_width, param_pieces, ret_pieces, signature_pieces, header_pieces}
use Rattle.ll_grammar.specs.Tokens.{Tok}
use Rattle.ll_grammar.specs.Words.{takes, cast_takes, compare_takes}
use Rattle.ll_tree.specs.Words.{is_called, cast_word, pred_word}
use Rattle.ll_grammar.specs.Spells.{IsMark, IsNameOf, IsType, IsOperand, IsTyped, IsSecond, IsTarget, IsNextTarget, AreFlags, IsCall, ClosesCall, BeginsCall, SpellsBin, word_of, SpellsOp, SpellsInstr, SpellsResultOf, SpellsEntry, SpellEntries, SpellsPhi, SpellsCase, SpellCases, SpellsEnd, IsStatement, SpellPhis, SpellInstrs, SpellsBlock, SpellBlocks, SpellsEntryBlock, SpellBody, SpellsRange, SpellsAttributes, SpellsResult, SpellsParam, SpellParams, unnamed_with, is_unnamed, count_unnamed, SpellsFunction}
use Rattle.ll_grammar.proofs.LeavesLaws.{attributes_leave, param_leaves}
use Rattle.canonical_text.specs.Shown.{open_pieces}
use Rattle.canonical_text.specs.Named.{IsName, IsNamed, AreNamed, AreReal}
use Rattle.canonical_text.proofs.OpLaws.{same_word, called_word}
use Rattle.canonical_text.proofs.RealLaws.{name_real, one_real, literal_real, words_real, metadata_real, passed_real, behind_real, decimal_name, named_both}

-- ---- operands

literal_by : (n : ℕ) (one none : Bool) → IsNamed (if one then (if none then Word (codes "false") else Word (codes "true")) else Number n)
literal_by n true true = tt
literal_by n true false = tt
literal_by n false none = tt

literal_named : (w n : ℕ) → IsNamed (literal w n)
literal_named w n = literal_by n (eqb w 1) (eqb n 0)

operand_named : (w : ℕ) (x : Operand) (us vs : List Tok) → IsOperand w x us vs → AreReal us → IsNamed (operand_piece w x) × AreReal vs
operand_named w (value.Name name) us vs given real = name_real kinds.Local name us vs tt given real
operand_named w (value.Const n) us vs given real = (literal_named w n, literal_real w n us vs given real)
operand_named w value.Poison us vs given real = (tt, one_real kinds.Word (codes "poison") us vs given real)

type_real : (w : ℕ) (us vs : List Tok) → IsType w us vs → AreReal us → AreReal vs
type_real w us vs type real = one_real kinds.Word (codes "i" ++ decimal w) us vs type.0 real

mark_real : (byte : ℕ) (us vs : List Tok) → IsMark byte us vs → AreReal us → AreReal vs
mark_real byte us vs is real = one_real kinds.Mark (byte ∷ []) us vs is real

typed_named : (w : ℕ) (x : Operand) (us vs : List Tok) → IsTyped w x us vs → AreReal us → IsNamed (operand_piece w x) × AreReal vs
typed_named w x us vs (a, type, given) real = operand_named w x a vs given (type_real w us a type real)

second_named : (w : ℕ) (x : Operand) (us vs : List Tok) → IsSecond w x us vs → AreReal us → IsNamed (operand_piece w x) × AreReal vs
second_named w x us vs (a, comma, given) real = operand_named w x a vs given (mark_real 44 us a comma real)

target_named : (to : List ℕ) (us vs : List Tok) → IsTarget to us vs → AreReal us → IsName to × AreReal vs
target_named to us vs (a, word, name) real = name_real kinds.Local to a vs tt name (one_real kinds.Word (codes "label") us a word real)

next_target_named : (to : List ℕ) (us vs : List Tok) → IsNextTarget to us vs → AreReal us → IsName to × AreReal vs
next_target_named to us vs (a, comma, target) real = target_named to a vs target (mark_real 44 us a comma real)

-- ---- flags

flag_named : (b : Bool) (word : List ℕ) → AreNamed (flag b word)
flag_named false word = tt
flag_named true word = (tt, (tt, tt))

flags_named : (f : Flags) → AreNamed (flag_pieces f)
unfolding flag_pieces
flags_named f =
    named_both (flag f.nuw (codes "nuw")) _ (flag_named f.nuw (codes "nuw")) (named_both (flag f.nsw (codes "nsw")) _ (flag_named f.nsw (codes "nsw")) (named_both (flag f.exact (codes "exact")) _ (flag_named f.exact (codes "exact"))
    (named_both (flag f.nneg (codes "nneg")) _ (flag_named f.nneg (codes "nneg")) (named_both (flag f.samesign (codes "samesign")) _ (flag_named f.samesign (codes "samesign")) (flag_named f.disjoint (codes "disjoint"))))))

flags_real : (allowed f : Flags) (us vs : List Tok) → AreFlags allowed f us vs → AreReal us → AreReal vs
flags_real allowed f us vs (words, are, all, once, is) real = words_real words us vs are real

-- ---- operations

call_real : (us vs : List Tok) → IsCall us vs → AreReal us → AreReal vs
call_real us vs (inl is) real = one_real kinds.Word (codes "call") us vs is real
call_real us vs (inr (a, inl word, is)) real = one_real kinds.Word (codes "call") a vs is (one_real kinds.Word (codes "tail") us a word real)
call_real us vs (inr (a, inr word, is)) real = one_real kinds.Word (codes "call") a vs is (one_real kinds.Word (codes "notail") us a word real)

closes_real : (us vs : List Tok) → ClosesCall us vs → AreReal us → AreReal vs
closes_real us vs (a, is, inl (t, e, group)) real = (subst AreReal e (mark_real 41 us a is real)).1
closes_real us vs (a, is, inr (e, none)) real = subst AreReal e (mark_real 41 us a is real)

begins_named : (name : List ℕ) (w : ℕ) (x : Operand) (us vs : List Tok) → BeginsCall name w x us vs → AreReal us → IsNamed (operand_piece w x) × AreReal vs
begins_named name w x us vs (a, b, c, d, e, call, type, global, opens, given, comma) real =
    let named = name_real kinds.Global (name ++ (codes "i" ++ decimal w)) b c tt global (type_real w a b type (call_real us a call real)) in
    let p = typed_named w x d e given (mark_real 40 c d opens named.1) in
    (p.0, mark_real 44 e vs comma p.1)

bin_named : (called : Bool) (kind : BinKind) (f : Flags) (w : ℕ) (left right : Operand) (us vs : List Tok) → is_called kind ≡ called → SpellsBin called kind f w left right us vs → AreReal us
    → AreNamed (bin_pieces (words.is_called kind) kind f w left right) × AreReal vs
bin_named false kind f w left right us vs plain (a, b, c, word, flags, first, second) real =
    let l = typed_named w left b c first (flags_real (takes kind) f a b flags (one_real kinds.Word (word_of kind) us a word real)) in
    let r = second_named w right c vs second l.1 in
    (subst (λ (c : Bool). AreNamed (bin_pieces c kind f w left right)) (sym (same_word kind plain).0) (tt, (tt, named_both (flag_pieces f) (pair w left right) (flags_named f) (tt, (tt, (l.0, (tt, (tt, (r.0, tt)))))))), r.1)
bin_named true kind f w left right us vs called (no_flags, a, b, begins, second, closes) real =
    let l = begins_named (word_of kind) w left us a begins real in
    let r = typed_named w right a b second l.1 in
    (subst (λ (c : Bool). AreNamed (bin_pieces c kind f w left right)) (sym (called_word kind called).0) (tt, (tt, (tt, (tt, (tt, (tt, (tt, (tt, (l.0, (tt, (tt, (tt, (tt, (r.0, (tt, tt))))))))))))))), closes_real b vs closes r.1)

truth_named : (strict : Bool) → IsNamed (truth strict)
truth_named true = tt
truth_named false = tt

op_named : (o : Op) (us vs : List Tok) → SpellsOp o us vs → AreReal us → AreNamed (op_pieces o) × AreReal vs
unfolding op_pieces
op_named (op.Bin kind f w left right) us vs given real = bin_named (is_called kind) kind f w left right us vs refl given real
op_named (op.Cmp p f w left right) us vs (a, b, c, d, icmp, flags, word, first, second) real =
    let l = typed_named w left c d first (one_real kinds.Word (pred_word p) b c word (flags_real compare_takes f a b flags (one_real kinds.Word (codes "icmp") us a icmp real))) in
    let r = second_named w right d vs second l.1 in
    ((tt, (tt, named_both (flag_pieces f) (Word (words.pred_word p) ∷ Blank ∷ pair w left right) (flags_named f) (tt, (tt, (tt, (tt, (l.0, (tt, (tt, (r.0, tt)))))))))), r.1)
op_named (op.Cast kind f from arg to) us vs (a, b, c, d, word, flags, given, is_to, type) real =
    let l = typed_named from arg b c given (flags_real (cast_takes kind) f a b flags (one_real kinds.Word (cast_word kind) us a word real)) in
    ((tt, (tt, named_both (flag_pieces f) (Bits from ∷ Blank ∷ operand_piece from arg ∷ Blank ∷ Word (codes "to") ∷ Blank ∷ Bits to ∷ []) (flags_named f) (tt, (tt, (l.0, (tt, (tt, (tt, (tt, tt))))))))), type_real to d vs type (one_real kinds.Word (codes "to") c d is_to l.1))
op_named (op.Select w cond left right) us vs (a, b, c, d, e, word, given, comma, first, other, second) real =
    let x = typed_named 1 cond a b given (one_real kinds.Word (codes "select") us a word real) in
    let l = typed_named w left c d first (mark_real 44 b c comma x.1) in
    let r = typed_named w right e vs second (mark_real 44 d e other l.1) in
    ((tt, (tt, (tt, (tt, (x.0, (tt, (tt, (tt, (tt, (l.0, (tt, (tt, (tt, (tt, (r.0, tt))))))))))))))), r.1)
op_named (op.Abs w arg strict) us vs (n, strict_is, a, b, c, begins, type, lit, closes) real =
    let x = begins_named (codes "llvm.abs.") w arg us a begins real in
    ((tt, (tt, (tt, (tt, (tt, (tt, (tt, (tt, (x.0, (tt, (tt, (tt, (tt, (truth_named strict, (tt, tt))))))))))))))), closes_real c vs closes (literal_real 1 n b c lit (type_real 1 a b type x.1)))
op_named (op.Assume cond) us vs (a, b, c, d, e, call, void, global, opens, given, closes) real =
    let name = name_real kinds.Global (codes "llvm.assume") b c tt global (one_real kinds.Word (codes "void") a b void (call_real us a call real)) in
    let x = typed_named 1 cond d e given (mark_real 40 c d opens name.1) in
    ((tt, (tt, (tt, (tt, (name.0, (tt, (tt, (tt, (x.0, (tt, tt)))))))))), closes_real e vs closes x.1)

valued_named : (name : List ℕ) (o : Op) (us vs a b : List Tok) → IsNameOf kinds.Local name us a → IsMark 61 a b → SpellsOp o b vs → AreReal us → AreNamed (result_pieces name ++ op_pieces o) × AreReal vs
valued_named name o us vs a b is equals given real =
    let n = name_real kinds.Local name us a tt is real in
    let x = op_named o b vs given (mark_real 61 a b equals n.1) in
    ((n.0, (tt, (tt, (tt, x.0)))), x.1)

instr_named : (name : List ℕ) (o : Op) (us vs : List Tok) → SpellsResultOf name o us vs → AreReal us → AreNamed ((if has_result o then result_pieces name else []) ++ op_pieces o) × AreReal vs
instr_named name (op.Bin kind f w left right) us vs (a, b, is, equals, given) real = valued_named name (op.Bin kind f w left right) us vs a b is equals given real
instr_named name (op.Cmp p f w left right) us vs (a, b, is, equals, given) real = valued_named name (op.Cmp p f w left right) us vs a b is equals given real
instr_named name (op.Cast kind f from arg to) us vs (a, b, is, equals, given) real = valued_named name (op.Cast kind f from arg to) us vs a b is equals given real
instr_named name (op.Select w cond left right) us vs (a, b, is, equals, given) real = valued_named name (op.Select w cond left right) us vs a b is equals given real
instr_named name (op.Abs w arg strict) us vs (a, b, is, equals, given) real = valued_named name (op.Abs w arg strict) us vs a b is equals given real
instr_named name (op.Assume cond) us vs given real = op_named (op.Assume cond) us vs given.1 real

-- ---- phis

entry_named : (w : ℕ) (e : PhiEntry) (us vs : List Tok) → SpellsEntry w e us vs → AreReal us → AreNamed (entry_pieces w e) × AreReal vs
entry_named w e us vs (a, b, c, d, opens, given, comma, from, closes) real =
    let x = operand_named w e.value a b given (mark_real 91 us a opens real) in
    let n = name_real kinds.Local e.from c d tt from (mark_real 44 b c comma x.1) in
    ((tt, (tt, (x.0, (tt, (tt, (n.0, (tt, (tt, tt)))))))), mark_real 93 d vs closes n.1)

entries_named : (w : ℕ) (es : List PhiEntry) (us vs : List Tok) → SpellEntries w es us vs → AreReal us → AreNamed (separated (entry_pieces w) es) × AreReal vs
entries_named w [] us vs given real = absurd given
entries_named w (e ∷ []) us vs given real = let p = entry_named w e us vs given real in (named_both (entry_pieces w e) [] p.0 tt, p.1)
entries_named w (e ∷ next ∷ es) us vs (a, b, given, comma, others) real =
    let p = entry_named w e us a given real in
    let more = entries_named w (next ∷ es) b vs others (mark_real 44 a b comma p.1) in
    (named_both (entry_pieces w e) (Mark 44 ∷ Blank ∷ separated (entry_pieces w) (next ∷ es)) p.0 (tt, (tt, more.0)), more.1)

phi_named : (p : Phi) (us vs : List Tok) → SpellsPhi p us vs → AreReal us → AreNamed (phi_pieces p) × AreReal vs
phi_named p us vs (a, b, c, d, name, equals, word, type, given) real =
    let n = name_real kinds.Local p.name us a tt name real in
    let es = entries_named p.width p.entries d vs given (type_real p.width c d type (one_real kinds.Word (codes "phi") b c word (mark_real 61 a b equals n.1))) in
    ((n.0, (tt, (tt, (tt, (tt, (tt, (tt, (tt, es.0)))))))), es.1)

-- ---- terminators

case_named : (c : Case) (us vs : List Tok) → SpellsCase c us vs → AreReal us → AreNamed (case_pieces c) × AreReal vs
case_named c us vs (a, b, type, given, to) real =
    let t = next_target_named c.to b vs to (literal_real c.width c.value a b given (type_real c.width us a type real)) in
    ((tt, (tt, (literal_named c.width c.value, (tt, (tt, (tt, (tt, (t.0, (tt, tt))))))))), t.1)

cases_named : (cases : List Case) (us vs : List Tok) → SpellCases cases us vs → AreReal us → AreNamed (flat_map case_pieces cases) × AreReal vs
cases_named [] us vs e real = (tt, subst AreReal e real)
cases_named (c ∷ cases) us vs (a, first, others) real =
    let p = case_named c us a first real in
    let more = cases_named cases a vs others p.1 in
    (named_both (case_pieces c) (flat_map case_pieces cases) p.0 more.0, more.1)

end_named : (e : End) (us vs : List Tok) → SpellsEnd e us vs → AreReal us → AreNamed (end_pieces e) × AreReal vs
unfolding end_pieces
end_named end.RetVoid us vs (a, ret, void) real = ((tt, (tt, (tt, tt))), one_real kinds.Word (codes "void") a vs void (one_real kinds.Word (codes "ret") us a ret real))
end_named (end.Ret w x) us vs (a, word, given) real = let p = typed_named w x a vs given (one_real kinds.Word (codes "ret") us a word real) in ((tt, (tt, (tt, (tt, (p.0, tt))))), p.1)
end_named (end.Br to) us vs (a, word, target) real = let t = target_named to a vs target (one_real kinds.Word (codes "br") us a word real) in ((tt, (tt, (tt, (tt, (t.0, tt))))), t.1)
end_named (end.CondBr cond left right) us vs (a, b, c, word, given, one, other) real =
    let x = typed_named 1 cond a b given (one_real kinds.Word (codes "br") us a word real) in
    let l = next_target_named left b c one x.1 in
    let r = next_target_named right c vs other l.1 in
    ((tt, (tt, (tt, (tt, (x.0, (tt, (tt, (tt, (tt, (l.0, (tt, (tt, (tt, (tt, (r.0, tt))))))))))))))), r.1)
end_named (end.Switch w x default cases) us vs (a, b, c, d, e, word, given, to, opens, are, closes) real =
    let p = typed_named w x a b given (one_real kinds.Word (codes "switch") us a word real) in
    let t = next_target_named default b c to p.1 in
    let rows = cases_named cases d e are (mark_real 91 c d opens t.1) in
    ((tt, (tt, (tt, (tt, (p.0, (tt, (tt, (tt, (tt, (t.0, (tt, (tt, (tt, named_both (flat_map case_pieces cases) (Mark 93 ∷ []) rows.0 (tt, tt)))))))))))))), mark_real 93 e vs closes rows.1)
end_named end.Unreachable us vs given real = ((tt, tt), one_real kinds.Word (codes "unreachable") us vs given real)

-- ---- blocks

line_named : (pieces : List Piece) → AreNamed pieces → AreNamed (line pieces)
line_named pieces named = (tt, (tt, named_both pieces (LineEnd ∷ []) named (tt, tt)))

-- a statement whose spelling is named
statement_named : (Spelled : (us vs : List Tok) → Type 0) (pieces : List Piece) (us vs : List Tok) → ((us vs : List Tok) → Spelled us vs → AreReal us → AreNamed pieces × AreReal vs)
    → IsStatement Spelled us vs → AreReal us → AreNamed (line pieces) × AreReal vs
statement_named Spelled pieces us vs each (lines, pairs, a, b, passed, calm, given, meta) real =
    let p = each a b given (passed_real lines us a passed real) in
    (line_named pieces p.0, metadata_real pairs b vs meta p.1)

phis_named : (phis : List Phi) (us vs : List Tok) → SpellPhis phis us vs → AreReal us → AreNamed (flat_map (λ phi. line (phi_pieces phi)) phis) × AreReal vs
phis_named [] us vs e real = (tt, subst AreReal e real)
phis_named (p ∷ phis) us vs (a, first, others) real =
    let one = statement_named (SpellsPhi p) (phi_pieces p) us a (phi_named p) first real in
    let more = phis_named phis a vs others one.1 in
    (named_both (line (phi_pieces p)) (flat_map (λ phi. line (phi_pieces phi)) phis) one.0 more.0, more.1)

instrs_named : (body : List Instr) (us vs : List Tok) → SpellInstrs body us vs → AreReal us → AreNamed (flat_map (λ instr. line (instr_pieces instr)) body) × AreReal vs
instrs_named [] us vs e real = (tt, subst AreReal e real)
instrs_named (i ∷ body) us vs (a, first, others) real =
    let one = statement_named (SpellsInstr i) (instr_pieces i) us a (instr_named i.name i.op) first real in
    let more = instrs_named body a vs others one.1 in
    (named_both (line (instr_pieces i)) (flat_map (λ instr. line (instr_pieces instr)) body) one.0 more.0, more.1)

block_named : (b : Block) (us vs : List Tok) → IsName b.label → SpellsBlock b us vs → AreReal us → AreNamed (block_pieces b) × AreReal vs
unfolding block_pieces
block_named b us vs label (a, c, phis, body, ends) real =
    let p = phis_named b.phis us a phis real in
    let i = instrs_named b.body a c body p.1 in
    let e = statement_named (SpellsEnd b.end) (end_pieces b.end) c vs (end_named b.end) ends i.1 in
    ((label, (tt, named_both (flat_map (λ phi. line (phi_pieces phi)) b.phis) (flat_map (λ instr. line (instr_pieces instr)) b.body ++ line (end_pieces b.end)) p.0 (named_both (flat_map (λ instr. line (instr_pieces instr)) b.body) (line (end_pieces b.end)) i.0 e.0))), e.1)

blocks_named : (blocks : List Block) (us vs : List Tok) → SpellBlocks blocks us vs → AreReal us → AreNamed (flat_map block_pieces blocks)
blocks_named [] us vs e real = tt
blocks_named (b ∷ blocks) us vs (a, c, label, first, others) real =
    let n = name_real kinds.Label b.label us a tt label real in
    let p = block_named b a c n.0 first n.1 in
    named_both (block_pieces b) (flat_map block_pieces blocks) p.0 (blocks_named blocks c vs others p.1)

entry_block_named : (unwritten : List ℕ) (b : Block) (us vs : List Tok) → IsName unwritten → SpellsEntryBlock unwritten b us vs → AreReal us → AreNamed (block_pieces b) × AreReal vs
entry_block_named unwritten b us vs plain (inl (lines, a, c, passed, label, is)) real =
    let n = name_real kinds.Label b.label a c tt label (passed_real lines us a passed real) in
    block_named b c vs n.0 is n.1
entry_block_named unwritten b us vs plain (inr (same, is)) real = block_named b us vs (subst IsName (sym same) plain) is real

body_named : (unwritten : List ℕ) (blocks : List Block) (us : List Tok) → IsName unwritten → SpellBody unwritten blocks us [] → AreReal us → AreNamed (flat_map block_pieces blocks)
body_named unwritten [] us plain given real = absurd given
body_named unwritten (b ∷ blocks) us plain (a, first, others) real =
    let p = entry_block_named unwritten b us a plain first real in
    named_both (block_pieces b) (flat_map block_pieces blocks) p.0 (blocks_named blocks a [] others p.1)

-- ---- the header

range_named : (w : ℕ) (r : Option Range) (kind : Piece) → IsNamed kind → AreNamed (range_pieces kind w r)
range_named w None kind is = tt
range_named w (Some r) kind is = (tt, (tt, (is, (tt, (literal_named w r.lo, (tt, (tt, (literal_named w r.hi, (tt, (tt, tt))))))))))

range_real : (w : ℕ) (r : Range) (us vs : List Tok) → SpellsRange w r us vs → AreReal us → AreReal vs
range_real w r us vs (differ, a, b, c, d, e, f, word, opens, type, lo, comma, hi, closes) real =
    mark_real 41 f vs closes (literal_real w r.hi e f hi (mark_real 44 d e comma (literal_real w r.lo c d lo (type_real w b c type (mark_real 40 a b opens (one_real kinds.Word (codes "range") us a word real))))))

attributes_real : (table : List (List ℕ)) (w : ℕ) (noundef : Bool) (range : Option Range) (us vs : List Tok) → SpellsAttributes table w noundef range us vs → AreReal us → AreReal vs
attributes_real table w noundef None us vs (words, are, same) real = words_real words us vs are.0 real
attributes_real table w noundef (Some r) us vs (before, behind, a, b, first, given, others, same) real =
    words_real behind b vs others.0 (range_real w r a b given (words_real before us a first.0 real))

ret_named : (r : Ret) → IsNamed (ret_piece r)
ret_named ret.Void = tt
ret_named (ret.Int w) = tt

result_real : (r : Ret) (noundef : Bool) (range : Option Range) (us vs : List Tok) → SpellsResult r noundef range us vs → AreReal us → AreReal vs
result_real ret.Void noundef range us vs (a, none, given, void) real = one_real kinds.Word (codes "void") a vs void (attributes_real tables.header 1 noundef range us a given real)
result_real (ret.Int w) noundef range us vs (a, given, type) real = type_real w a vs type (attributes_real tables.header w noundef range us a given real)

param_named : (unnamed : ℕ) (p : Param) (us vs : List Tok) → unnamed < 2 ^ 64 → SpellsParam unnamed p us vs → AreReal us → AreNamed (param_pieces p) × AreReal vs
unfolding param_pieces
param_named unnamed p us vs few (noundef, a, b, type, given, strict_is, inl name) real =
    let n = name_real kinds.Local p.name b vs tt name (attributes_real tables.attribute p.width noundef p.range a b given (type_real p.width us a type real)) in
    ((tt, (tt, named_both (flag p.strict (codes "noundef")) (range_pieces (Bits p.width) p.width p.range ++ Local p.name ∷ []) (flag_named p.strict (codes "noundef")) (named_both (range_pieces (Bits p.width) p.width p.range) (Local p.name ∷ []) (range_named p.width p.range (Bits p.width) tt) (n.0, tt)))), n.1)
param_named unnamed p us vs few (noundef, a, b, type, given, strict_is, inr (e, same)) real =
    let after = attributes_real tables.attribute p.width noundef p.range a b given (type_real p.width us a type real) in
    ((tt, (tt, named_both (flag p.strict (codes "noundef")) (range_pieces (Bits p.width) p.width p.range ++ Local p.name ∷ []) (flag_named p.strict (codes "noundef")) (named_both (range_pieces (Bits p.width) p.width p.range) (Local p.name ∷ []) (range_named p.width p.range (Bits p.width) tt) (subst IsName (sym same) (decimal_name unnamed few), tt)))), subst AreReal e after)

-- one unnamed parameter more at most
one_more : (unnamed : ℕ) (p : Param) → unnamed_with unnamed p ≤ unnamed + 1
one_more unnamed p = go (is_unnamed p)
  where
    go : (b : Bool) → (if b then unnamed + 1 else unnamed) ≤ unnamed + 1
    go true = omega arith
    go false = omega arith

-- the parameters, and how many of them are unnamed
params_named : (unnamed : ℕ) (ps : List Param) (us vs : List Tok) → unnamed + length us < 2 ^ 64 → SpellParams unnamed ps us vs → AreReal us → AreNamed (separated param_pieces ps) × AreReal vs × (count_unnamed unnamed ps + length vs < 2 ^ 64)
params_named unnamed [] us vs few (t, e, k, is) real =
    (tt, mark_real 41 us vs (t, e, k, is) real, omega (arith, few, ap (λ (l : List Tok). length l) e))
params_named unnamed (p ∷ []) us vs few (a, given, (t, e, k, is)) real =
    let one = param_named unnamed p us a (omega (arith, few)) given real in
    let shorter = (param_leaves unnamed p us a given).takes in
    (named_both (param_pieces p) [] one.0 tt, mark_real 41 a vs (t, e, k, is) one.1, omega (arith, few, shorter, one_more unnamed p, ap (λ (l : List Tok). length l) e))
params_named unnamed (p ∷ next ∷ ps) us vs few (a, b, given, (t, e, k, is), others) real =
    let one = param_named unnamed p us a (omega (arith, few)) given real in
    let shorter = (param_leaves unnamed p us a given).takes in
    let still : unnamed_with unnamed p + length b < 2 ^ 64 = omega (arith, few, shorter, one_more unnamed p, ap (λ (l : List Tok). length l) e) in
    let more = params_named (unnamed_with unnamed p) (next ∷ ps) b vs still others (mark_real 44 a b (t, e, k, is) one.1) in
    (named_both (param_pieces p) (Mark 44 ∷ Blank ∷ separated param_pieces (next ∷ ps)) one.0 (tt, (tt, more.0)), more.1, more.2)

-- ---- the whole

one_takes : (us vs : List Tok) (t : Tok) → us ≡ t ∷ vs → length vs ≤ length us
one_takes us vs t e = omega (arith, ap (λ (l : List Tok). length l) e)

result_takes : (r : Ret) (noundef : Bool) (range : Option Range) (us vs : List Tok) → SpellsResult r noundef range us vs → length vs ≤ length us
result_takes ret.Void noundef range us vs (a, none, given, void) = omega (arith, (attributes_leave tables.header 1 noundef range us a given).takes, one_takes a vs void.0 void.1)
result_takes (ret.Int w) noundef range us vs (a, given, type) = omega (arith, (attributes_leave tables.header w noundef range us a given).takes, one_takes a vs type.0.0 type.0.1)

pub function_named : (func : Func) (given : List Tok) → length given < 2 ^ 64 → AreReal given → SpellsFunction func given → AreNamed (open_pieces func)
unfolding header_pieces ret_pieces signature_pieces
function_named func given few real s =
    let at_name = result_real func.ret func.ret_noundef func.ret_range s.result s.name s.is_result (one_real kinds.Word (codes "define") given s.result s.is_define real) in
    let name = name_real kinds.Global func.name s.name s.parenthesis tt s.is_name at_name in
    let bound : 0 + length s.params < 2 ^ 64 = omega (arith, few, one_takes given s.result s.is_define.0 s.is_define.1, result_takes func.ret func.ret_noundef func.ret_range s.result s.name s.is_result, one_takes s.name s.parenthesis s.is_name.0 s.is_name.1, one_takes s.parenthesis s.params s.opens.0 s.opens.1) in
    let params = params_named 0 func.params s.params s.rest bound s.are_params (mark_real 40 s.parenthesis s.params s.opens name.1) in
    let at_brace : AreReal s.brace = behind_real s.between s.brace (subst AreReal s.is_between params.1) in
    let unwritten = decimal_name (count_unnamed 0 func.params) (omega (arith, params.2)) in
    let blocks = body_named (decimal (count_unnamed 0 func.params)) func.blocks s.body unwritten s.is_body (mark_real 123 s.brace s.body s.opens_body at_brace) in
    let before : AreNamed (ret_pieces func) =
    (tt, (tt, named_both (flag func.ret_noundef (codes "noundef")) (range_pieces (ret_piece func.ret) (ret_width func.ret) func.ret_range ++ ret_piece func.ret ∷ []) (flag_named func.ret_noundef (codes "noundef")) (named_both (range_pieces (ret_piece func.ret) (ret_width func.ret) func.ret_range) (ret_piece func.ret ∷ []) (range_named (ret_width func.ret) func.ret_range (ret_piece func.ret) (ret_named func.ret)) (ret_named func.ret, tt)))) in
    let signature : AreNamed (signature_pieces func) = (tt, (name.0, (tt, named_both (separated param_pieces func.params) (Mark 41 ∷ Blank ∷ Mark 123 ∷ LineEnd ∷ []) params.0 (tt, (tt, (tt, (tt, tt))))))) in
    named_both (header_pieces func) (flat_map block_pieces func.blocks) (named_both (ret_pieces func) (signature_pieces func) before signature) blocks
