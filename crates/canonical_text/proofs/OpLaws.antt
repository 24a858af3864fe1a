-- Operations: what is shown spells them where something does.
use Rattle.std.proofs.Common.{◌≡◌, ◌≤◌, ℕ, Bool, true, false, eqb, List, [], ◌∷◌, ◌++◌, refl, ap, cond, sym, subst, inl, inr, true≢false}
use Rattle.std.specs.Prelude.{codes}
use Rattle.ll_token.specs.declared.token.TokenKind.TheVariants as kinds
use Rattle.ll_tree.specs.declared.block.Operand.{Operand}
use Rattle.ll_tree.specs.declared.op.Op.{Op}
use Rattle.ll_tree.specs.declared.op.Op.TheVariants as op
use Rattle.ll_tree.specs.declared.op.Flags.{Flags}
use Rattle.ll_tree.specs.declared.op.BinKind.{BinKind}
use Rattle.ll_tree.specs.declared.op.BinKind.TheVariants as bin
use Rattle.ll_tree.specs.declared.op.CastKind.{CastKind}
use Rattle.ll_tree.specs.declared.op.Pred.{Pred}
use Rattle.ll_tree.specs.Words as words
use Rattle.ll_tree.specs.Words.{is_called, type_word}
use Rattle.ll_tree.specs.Pieces.{Piece, Word, Bits, Global, Intrinsic, Mark, Blank}
use Rattle.ll_tree.specs.Text.{operand_piece, pair, flag_pieces, bin_pieces, truth, abs_pieces, assume_pieces, op_pieces}
use Rattle.ll_grammar.specs.Tokens.{Tok, debug_at}
use Rattle.ll_grammar.specs.Words.{takes, cast_takes, compare_takes}
use Rattle.ll_grammar.specs.Spells.{IsWord, IsNameOf, IsLiteral, IsTyped, IsSecond, IsNoGroup, ClosesCall, BeginsCall, SpellsBin, SpellsOp, word_of}
use Rattle.canonical_text.specs.Shown.{Shows, ShowAll}
use Rattle.canonical_text.proofs.ShownLaws.{spaced, blank, last}
use Rattle.canonical_text.proofs.OperandLaws.{operand_again, type_again, typed_again}
use Rattle.canonical_text.proofs.FlagLaws.{flags_again}

-- ---- words

pub same_word : (kind : BinKind) → is_called kind ≡ false → (words.is_called kind ≡ false) × (words.bin_word kind ≡ word_of kind)
same_word kind plain = (plain, sym (ap (λ (called : Bool). cond called (codes "llvm." ++ (words.bin_word kind ++ codes ".")) (words.bin_word kind)) plain))

-- the name of a called function, before its type
pub called_word : (kind : BinKind) → is_called kind ≡ true → (words.is_called kind ≡ true) × ((t : List ℕ) → codes "llvm." ++ (words.bin_word kind ++ (codes "." ++ t)) ≡ word_of kind ++ t)
called_word bin.Smin called = (refl, λ t. refl)
called_word bin.Smax called = (refl, λ t. refl)
called_word bin.Umin called = (refl, λ t. refl)
called_word bin.Umax called = (refl, λ t. refl)
called_word kind plain = absurd (true≢false (sym plain))

-- ---- parts

second_again : (w : ℕ) (x : Operand) (pieces : List Piece) (us vs ts rest : List Tok) → w ≤ 32 → IsSecond w x us vs → ShowAll (Mark 44 ∷ Blank ∷ operand_piece w x ∷ pieces) ts rest → (a : List Tok) × IsSecond w x ts a × ShowAll pieces a rest
second_again w x pieces us vs ts rest few (m, comma, given) s =
    let (a, is, more) = spaced (Mark 44) (operand_piece w x ∷ pieces) ts rest s in
    (more.0, (a, is, operand_again w x m vs a more.0 few given more.1), more.2)

-- two operands of a type
pair_again : (w : ℕ) (left right : Operand) (us vs xs ts rest : List Tok) → IsTyped w left us vs → IsSecond w right vs xs → ShowAll (pair w left right) ts rest → (a : List Tok) × IsTyped w left ts a × IsSecond w right a rest
pair_again w left right us vs xs ts rest l r s =
    let (a, first, more) = typed_again w left (Mark 44 ∷ Blank ∷ operand_piece w right ∷ []) us vs ts rest l s in
    let (b, second, e) = second_again w right [] vs xs a rest l.1.2 r more in
    (a, first, subst (λ (t : List Tok). IsSecond w right a t) e second)

-- a call ends where no attributes follow
closes_again : (ts rest : List Tok) → IsNoGroup rest → Shows (Mark 41) ts rest → ClosesCall ts rest
closes_again ts rest none is = (rest, is, inr (refl, none))

begins_call_again : (word name : List ℕ) (w : ℕ) (x : Operand) (pieces : List Piece) (us vs ts rest : List Tok) → codes "llvm." ++ (word ++ (codes "." ++ type_word w)) ≡ name ++ type_word w → BeginsCall name w x us vs
    → ShowAll (Word (codes "call") ∷ Blank ∷ Bits w ∷ Blank ∷ Intrinsic word w ∷ Mark 40 ∷ Bits w ∷ Blank ∷ operand_piece w x ∷ Mark 44 ∷ Blank ∷ pieces) ts rest
    → (a : List Tok) × BeginsCall name w x ts a × ShowAll pieces a rest
begins_call_again word name w x pieces us vs ts rest same (k, l, m, n, o, call, type, global, opens, given, comma) s =
    let (a, is_call, s) = spaced (Word (codes "call")) (Bits w ∷ Blank ∷ Intrinsic word w ∷ Mark 40 ∷ Bits w ∷ Blank ∷ operand_piece w x ∷ Mark 44 ∷ Blank ∷ pieces) ts rest s in
    let (b, is_type, s) = spaced (Bits w) (Intrinsic word w ∷ Mark 40 ∷ Bits w ∷ Blank ∷ operand_piece w x ∷ Mark 44 ∷ Blank ∷ pieces) a rest s in
    let (c, is_name, s) = s in
    let (d, is_open, s) = s in
    let (e, first, s) = typed_again w x (Mark 44 ∷ Blank ∷ pieces) n o d rest given s in
    let (f, is_comma, s) = spaced (Mark 44) pieces e rest s in
    (f, (a, b, c, d, e, inl is_call.0, type_again w k l a b type is_type, subst (λ (n : List ℕ). IsNameOf kinds.Global n b c) same is_name, is_open, first, is_comma), s)

-- ---- operations

bin_again : (called : Bool) (kind : BinKind) (f : Flags) (w : ℕ) (left right : Operand) (us vs ts rest : List Tok) → is_called kind ≡ called → IsNoGroup rest → SpellsBin called kind f w left right us vs → ShowAll (bin_pieces (words.is_called kind) kind f w left right) ts rest
    → SpellsBin called kind f w left right ts rest
bin_again false kind f w left right us vs ts rest plain none (k, l, m, word, flags, first, second) s =
    let (same, word_is) = same_word kind plain in
    let s : ShowAll (bin_pieces false kind f w left right) ts rest = subst (λ (c : Bool). ShowAll (bin_pieces c kind f w left right) ts rest) same s in
    let (a, is, s) = spaced (Word (words.bin_word kind)) (flag_pieces f ++ pair w left right) ts rest s in
    let (b, are, s) = flags_again (takes kind) f (pair w left right) k l a rest flags s in
    let (c, l_is, r_is) = pair_again w left right l m vs b rest first second s in
    (a, b, c, subst (λ (x : List ℕ). IsWord x ts a) word_is is.0, are, l_is, r_is)
bin_again true kind f w left right us vs ts rest called none (no_flags, k, l, begins, second, closes) s =
    let (same, name_is) = called_word kind called in
    let s : ShowAll (bin_pieces true kind f w left right) ts rest = subst (λ (c : Bool). ShowAll (bin_pieces c kind f w left right) ts rest) same s in
    let (a, begun, s) = begins_call_again (words.bin_word kind) (word_of kind) w left (Bits w ∷ Blank ∷ operand_piece w right ∷ Mark 41 ∷ []) us k ts rest (name_is (type_word w)) begins s in
    let (b, is, s) = typed_again w right (Mark 41 ∷ []) k l a rest second s in
    (no_flags, a, b, begun, is, closes_again b rest none (last (Mark 41) b rest s))

-- the word that says whether an abs is strict
truth_again : (strict : Bool) (ts rest : List Tok) → Shows (truth strict) ts rest → (n : ℕ) × (strict ≡ eqb n 1) × IsLiteral 1 n ts rest
truth_again true ts rest ((t, e, k, is), calm) = (1, refl, (t, e, inr (k, (refl, inl (refl, is)))))
truth_again false ts rest ((t, e, k, is), calm) = (0, refl, (t, e, inr (k, (refl, inr (refl, is)))))

abs_again : (w : ℕ) (x : Operand) (strict : Bool) (us vs ts rest : List Tok) → IsNoGroup rest → SpellsOp (op.Abs w x strict) us vs → ShowAll (abs_pieces w x strict) ts rest → SpellsOp (op.Abs w x strict) ts rest
abs_again w x strict us vs ts rest none (n, strict_is, k, l, m, begins, type, lit, closes) s =
    let (a, begun, s) = begins_call_again (codes "abs") (codes "llvm.abs.") w x (Bits 1 ∷ Blank ∷ truth strict ∷ Mark 41 ∷ []) us k ts rest refl begins s in
    let (b, is_type, s) = spaced (Bits 1) (truth strict ∷ Mark 41 ∷ []) a rest s in
    let (c, is_truth, s) = s in
    let (number, same, is_literal) = truth_again strict b c is_truth in
    (number, same, a, b, c, begun, type_again 1 k l a b type is_type, is_literal, closes_again c rest none (last (Mark 41) c rest s))

assume_again : (cond : Operand) (us vs ts rest : List Tok) → IsNoGroup rest → SpellsOp (op.Assume cond) us vs → ShowAll (assume_pieces cond) ts rest → SpellsOp (op.Assume cond) ts rest
assume_again cond us vs ts rest none (k, l, m, n, o, call, void, global, opens, given, closes) s =
    let (a, is_call, s) = spaced (Word (codes "call")) (Word (codes "void") ∷ Blank ∷ Global (codes "llvm.assume") ∷ Mark 40 ∷ Bits 1 ∷ Blank ∷ operand_piece 1 cond ∷ Mark 41 ∷ []) ts rest s in
    let (b, is_void, s) = spaced (Word (codes "void")) (Global (codes "llvm.assume") ∷ Mark 40 ∷ Bits 1 ∷ Blank ∷ operand_piece 1 cond ∷ Mark 41 ∷ []) a rest s in
    let (c, is_name, s) = s in
    let (d, is_open, s) = s in
    let (e, is, s) = typed_again 1 cond (Mark 41 ∷ []) n o d rest given s in
    (a, b, c, d, e, inl is_call.0, is_void.0, is_name, is_open, is, closes_again e rest none (last (Mark 41) e rest s))

compare_again : (p : Pred) (f : Flags) (w : ℕ) (left right : Operand) (us vs ts rest : List Tok) → SpellsOp (op.Cmp p f w left right) us vs
    → ShowAll (Word (codes "icmp") ∷ Blank ∷ (flag_pieces f ++ Word (words.pred_word p) ∷ Blank ∷ pair w left right)) ts rest → SpellsOp (op.Cmp p f w left right) ts rest
compare_again p f w left right us vs ts rest (k, l, m, n, icmp, flags, word, first, second) s =
    let (a, is, s) = spaced (Word (codes "icmp")) (flag_pieces f ++ Word (words.pred_word p) ∷ Blank ∷ pair w left right) ts rest s in
    let (b, are, s) = flags_again compare_takes f (Word (words.pred_word p) ∷ Blank ∷ pair w left right) k l a rest flags s in
    let (c, is_pred, s) = spaced (Word (words.pred_word p)) (pair w left right) b rest s in
    let (d, l_is, r_is) = pair_again w left right m n vs c rest first second s in
    (a, b, c, d, is.0, are, is_pred.0, l_is, r_is)

cast_again : (kind : CastKind) (f : Flags) (from : ℕ) (arg : Operand) (to : ℕ) (us vs ts rest : List Tok) → SpellsOp (op.Cast kind f from arg to) us vs
    → ShowAll (Word (words.cast_word kind) ∷ Blank ∷ (flag_pieces f ++ Bits from ∷ Blank ∷ operand_piece from arg ∷ Blank ∷ Word (codes "to") ∷ Blank ∷ Bits to ∷ [])) ts rest → SpellsOp (op.Cast kind f from arg to) ts rest
cast_again kind f from arg to us vs ts rest (k, l, m, n, word, flags, given, is_to, type) s =
    let (a, is, s) = spaced (Word (words.cast_word kind)) (flag_pieces f ++ Bits from ∷ Blank ∷ operand_piece from arg ∷ Blank ∷ Word (codes "to") ∷ Blank ∷ Bits to ∷ []) ts rest s in
    let (b, are, s) = flags_again (cast_takes kind) f (Bits from ∷ Blank ∷ operand_piece from arg ∷ Blank ∷ Word (codes "to") ∷ Blank ∷ Bits to ∷ []) k l a rest flags s in
    let (c, arg_is, s) = typed_again from arg (Blank ∷ Word (codes "to") ∷ Blank ∷ Bits to ∷ []) l m b rest given s in
    let (d, to_is, s) = spaced (Word (codes "to")) (Bits to ∷ []) c rest (blank (Word (codes "to") ∷ Blank ∷ Bits to ∷ []) c rest s) in
    (a, b, c, d, is.0, are, arg_is, to_is.0, type_again to n vs d rest type (last (Bits to) d rest s))

select_again : (w : ℕ) (cond left right : Operand) (us vs ts rest : List Tok) → SpellsOp (op.Select w cond left right) us vs
    → ShowAll (Word (codes "select") ∷ Blank ∷ Bits 1 ∷ Blank ∷ operand_piece 1 cond ∷ Mark 44 ∷ Blank ∷ Bits w ∷ Blank ∷ operand_piece w left ∷ Mark 44 ∷ Blank ∷ Bits w ∷ Blank ∷ operand_piece w right ∷ []) ts rest
    → SpellsOp (op.Select w cond left right) ts rest
select_again w cond left right us vs ts rest (k, l, m, n, o, word, given, comma, first, other, second) s =
    let third : List Piece = Bits w ∷ Blank ∷ operand_piece w right ∷ [] in
    let middle : List Piece = Bits w ∷ Blank ∷ operand_piece w left ∷ Mark 44 ∷ Blank ∷ third in
    let (a, is, s) = spaced (Word (codes "select")) (Bits 1 ∷ Blank ∷ operand_piece 1 cond ∷ Mark 44 ∷ Blank ∷ middle) ts rest s in
    let (b, cond_is, s) = typed_again 1 cond (Mark 44 ∷ Blank ∷ middle) k l a rest given s in
    let (c, comma_is, s) = spaced (Mark 44) middle b rest s in
    let (d, left_is, s) = typed_again w left (Mark 44 ∷ Blank ∷ third) m n c rest first s in
    let (e, other_is, s) = spaced (Mark 44) third d rest s in
    let (f, right_is, s) = typed_again w right [] o vs e rest second s in
    (a, b, c, d, e, is.0, cond_is, comma_is, left_is, other_is, subst (λ (l : List Tok). IsTyped w right e l) {x = f} s right_is)

pub op_again : (o : Op) (us vs ts rest : List Tok) → IsNoGroup rest → SpellsOp o us vs → ShowAll (op_pieces o) ts rest → SpellsOp o ts rest
unfolding op_pieces
op_again (op.Bin kind f w left right) us vs ts rest none given s = bin_again (is_called kind) kind f w left right us vs ts rest refl none given s
op_again (op.Cmp p f w left right) us vs ts rest none given s = compare_again p f w left right us vs ts rest given s
op_again (op.Cast kind f from arg to) us vs ts rest none given s = cast_again kind f from arg to us vs ts rest given s
op_again (op.Select w cond left right) us vs ts rest none given s = select_again w cond left right us vs ts rest given s
op_again (op.Abs w arg strict) us vs ts rest none given s = abs_again w arg strict us vs ts rest none given s
op_again (op.Assume cond) us vs ts rest none given s = assume_again cond us vs ts rest none given s

-- an assume begins with a word
pub assume_calm : (cond : Operand) (ts rest : List Tok) → ShowAll (op_pieces (op.Assume cond)) ts rest → debug_at ts ≡ false
unfolding op_pieces
assume_calm cond ts rest (a, is, s) = is.1
