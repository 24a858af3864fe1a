-- What spells flags and an operation is read as them.
use Rattle.std.proofs.Common.{◌≡◌, ◌≤◌, ℕ, zero, suc, Bool, true, false, cond, not, ◌&&◌, eqb, List, [], ◌∷◌, ◌++◌, length, drop, Option, Some, None, refl, sym, ap, ◌∙◌, subst, inl, inr, true≢false, arith, append_assoc, append-nil, eq-eqb}
use Rattle.std.specs.Prelude.{codes, IsTrue, if◌then◌else◌}
use Rattle.std.specs.List.{list_all}
use Rattle.std.specs.Option.{option_map_or}
use Rattle.std.specs.Str.{bytes_eq}
use Rattle.std.specs.Fmt.{decimal}
use Rattle.ll_token.specs.declared.token.TokenKind.TheVariants as kinds
use Rattle.ll_tree.specs.declared.block.Operand.{Operand}
use Rattle.ll_tree.specs.declared.op.Op.{Op}
use Rattle.ll_tree.specs.declared.op.Op.TheVariants as op
use Rattle.ll_tree.specs.declared.op.Flags.{Flags}
use Rattle.ll_tree.specs.declared.op.BinKind.{BinKind}
use Rattle.ll_tree.specs.declared.op.BinKind.TheVariants as bin
use Rattle.ll_tree.specs.declared.op.CastKind.{CastKind}
use Rattle.ll_tree.specs.declared.op.CastKind.TheVariants as cast
use Rattle.ll_tree.specs.declared.op.Pred.{Pred}
use Rattle.ll_tree.specs.declared.op.Pred.TheVariants as pred
use Rattle.ll_grammar.specs.declared.opcodes.Callee.{Callee}
use Rattle.ll_grammar.specs.declared.opcodes.Callee.TheVariants as callee
use Rattle.ll_grammar.specs.declared.stop.Place.TheVariants as place
use Rattle.ll_grammar.specs.Tokens.{Tok, is_kind, has_prefix, word_at, kind_at, name_at, group_at}
use Rattle.ll_grammar.specs.Words.{binary_of, cast_of, pred_of, callee_of, behind, takes, cast_takes, compare_takes, no_flags, add_flag}
use Rattle.ll_grammar.specs.Reading.{Done, keyword}
use Rattle.ll_grammar.specs.Forms.{flags, flags_within, binary, compare, conversion, select, is_call_word, call_words, callee_at, called, last_argument, close_call, value_call, assume_at, assume_callee, void, assume, operation}
use Rattle.ll_tree.specs.Words.{is_called, cast_word, pred_word}
use Rattle.ll_grammar.specs.Spells.{IsWord, IsMark, IsNameOf, IsType, IsLiteral, IsTyped, IsSecond, AreWords, AreOnce, has, flags_of, flag_words, AreFlags, IsCall, ClosesCall, BeginsCall, SpellsBin, SpellsOp, word_of}
use Rattle.ll_grammar.proofs.TokenLaws.{both_true, same_kind, bytes_same, width_of_reads}
use Rattle.ll_grammar.proofs.FlagLaws.{tests, adds, once_new}
use Rattle.ll_grammar.proofs.OpLaws.{IsValued, name_of, IsCallee}
use Rattle.ll_grammar.proofs.LeavesLaws.{words_leave}
use Rattle.ll_grammar.proofs.TokenReadLaws.{then_reads, if_reads, else_reads, take_if_reads, take_some_reads, behind_first, at_word, at_name, kind_there, type_word, mark_reads, keyword_reads, width_reads, one_width_reads, literal_reads}
use Rattle.ll_grammar.proofs.FormReadLaws.{typed_reads, of_width_reads, second_reads}

pub some_reads : {A B : Type 0} {x : A} {y : B} (f : A → B) (o : Option A) (r : B) → o ≡ Some x → f x ≡ y → option_map_or f o r ≡ y
some_reads f o r is e = ap (λ o. option_map_or f o r) is ∙ e

pub none_reads : {A B : Type 0} {y : B} (f : A → B) (o : Option A) (r : B) → o ≡ None → r ≡ y → option_map_or f o r ≡ y
none_reads f o r is e = ap (λ o. option_map_or f o r) is ∙ e

-- ---- flags

flags_end : (most : ℕ) (allowed : Flags) (before : List (List ℕ)) (ts rest : List Tok) → ts ≡ rest → flag_words allowed (word_at rest) ≡ false
    → flags_within most allowed (flags_of before) ts ≡ Done (flags_of (before ++ [])) rest
unfolding flags_within
flags_end zero allowed before ts rest here none = ap (λ (l : List Tok). Done (flags_of before) l) here ∙ ap (λ (ws : List (List ℕ)). Done (flags_of ws) rest) (sym (append-nil before))
flags_end (suc most) allowed before ts rest here none =
    let no_more : add_flag allowed (flags_of before) (word_at rest) ≡ None =
    adds allowed before (word_at rest) ∙ ap (λ b. cond (b && not (has (word_at rest) before)) (Some (flags_of (before ++ word_at rest ∷ []))) None) none in
    none_reads _ (add_flag allowed (flags_of before) (word_at ts)) _ (ap (λ l. add_flag allowed (flags_of before) (word_at l)) here ∙ no_more)
    (ap (λ (l : List Tok). Done (flags_of before) l) here ∙ ap (λ (ws : List (List ℕ)). Done (flags_of ws) rest) (sym (append-nil before)))

pub flags_within_reads : (words : List (List ℕ)) (most : ℕ) (allowed : Flags) (before : List (List ℕ)) (ts rest : List Tok) → length words ≤ most
    → AreWords words ts rest → IsTrue (list_all (flag_words allowed) words) → AreOnce (before ++ words) → flag_words allowed (word_at rest) ≡ false
    → flags_within most allowed (flags_of before) ts ≡ Done (flags_of (before ++ words)) rest
unfolding flags_within
flags_within_reads [] most allowed before ts rest few here all once none = flags_end most allowed before ts rest here none
flags_within_reads (word ∷ words) zero allowed before ts rest few (a, is, more) all once none = absurd (omega arith)
flags_within_reads (word ∷ words) (suc most) allowed before ts rest few (a, is, more) all once none =
    let p = both_true _ _ all in
    let added : add_flag allowed (flags_of before) word ≡ Some (flags_of (before ++ word ∷ [])) =
    adds allowed before word
    ∙ ap (λ b. cond (b && not (has word before)) (Some (flags_of (before ++ word ∷ []))) None) p.0
    ∙ ap (λ b. cond (not b) (Some (flags_of (before ++ word ∷ []))) None) (once_new before word words once) in
    some_reads _ (add_flag allowed (flags_of before) (word_at ts)) _ (ap (add_flag allowed (flags_of before)) (at_word ts a word is) ∙ added)
    (ap (λ l. flags_within most allowed (flags_of (before ++ word ∷ [])) l) (behind_first ts a is.0 is.1)
    ∙ flags_within_reads words most allowed (before ++ word ∷ []) a rest (omega (arith, few)) more p.1 (subst AreOnce (sym (append_assoc before (word ∷ []) words)) once) none
    ∙ ap (λ (ws : List (List ℕ)). Done (flags_of ws) rest) (append_assoc before (word ∷ []) words))

pub flags_reads : (allowed f : Flags) (ts rest : List Tok) → AreFlags allowed f ts rest → flag_words allowed (word_at rest) ≡ false → flags allowed ts ≡ Done f rest
unfolding flags
flags_reads allowed f ts rest (words, are, all, once, is) none =
    flags_within_reads words (length ts) allowed [] ts rest (omega (arith, (words_leave words ts rest are).takes)) are all once none ∙ ap (λ (f : Flags). Done f rest) (sym is)

type_no_flag : (allowed : Flags) (w : ℕ) (ts rest : List Tok) → IsType w ts rest → flag_words allowed (word_at ts) ≡ false
type_no_flag allowed w ts rest t = let none : flag_words allowed (codes "i" ++ decimal w) ≡ false = simp tests in ap (flag_words allowed) (type_word ts rest w t) ∙ none

pred_no_flag : (allowed : Flags) (p : Pred) → flag_words allowed (pred_word p) ≡ false
pred_no_flag allowed pred.Eq = simp tests
pred_no_flag allowed pred.Ne = simp tests
pred_no_flag allowed pred.Ugt = simp tests
pred_no_flag allowed pred.Uge = simp tests
pred_no_flag allowed pred.Ult = simp tests
pred_no_flag allowed pred.Ule = simp tests
pred_no_flag allowed pred.Sgt = simp tests
pred_no_flag allowed pred.Sge = simp tests
pred_no_flag allowed pred.Slt = simp tests
pred_no_flag allowed pred.Sle = simp tests

-- ---- operations with a word of their own

pub binary_of_reads : (kind : BinKind) → is_called kind ≡ false → binary_of (word_of kind) ≡ Some kind
unfolding binary_of
binary_of_reads bin.Add plain = refl
binary_of_reads bin.Sub plain = refl
binary_of_reads bin.Mul plain = refl
binary_of_reads bin.Shl plain = refl
binary_of_reads bin.Lshr plain = refl
binary_of_reads bin.Ashr plain = refl
binary_of_reads bin.And plain = refl
binary_of_reads bin.Or plain = refl
binary_of_reads bin.Xor plain = refl
binary_of_reads bin.Udiv plain = refl
binary_of_reads bin.Sdiv plain = refl
binary_of_reads bin.Urem plain = refl
binary_of_reads bin.Srem plain = refl
binary_of_reads kind called = absurd (true≢false called)

pub cast_of_reads : (kind : CastKind) → (binary_of (cast_word kind) ≡ None) × (cast_of (cast_word kind) ≡ Some kind)
unfolding binary_of cast_of
cast_of_reads cast.Zext = (refl, refl)
cast_of_reads cast.Sext = (refl, refl)
cast_of_reads cast.Trunc = (refl, refl)

pub pred_of_reads : (p : Pred) → pred_of (pred_word p) ≡ Some p
unfolding pred_of
pred_of_reads pred.Eq = refl
pred_of_reads pred.Ne = refl
pred_of_reads pred.Ugt = refl
pred_of_reads pred.Uge = refl
pred_of_reads pred.Ult = refl
pred_of_reads pred.Ule = refl
pred_of_reads pred.Sgt = refl
pred_of_reads pred.Sge = refl
pred_of_reads pred.Slt = refl
pred_of_reads pred.Sle = refl

pub binary_reads : (kind : BinKind) (f : Flags) (w : ℕ) (left right : Operand) (ts a b rest : List Tok) → AreFlags (takes kind) f ts a → IsTyped w left a b → IsSecond w right b rest
    → binary kind ts ≡ Done (op.Bin kind f w left right) rest
unfolding binary
binary_reads kind f w left right ts a b rest fs l r =
    then_reads _ _ (flags_reads (takes kind) f ts a fs (type_no_flag (takes kind) w a l.0 l.1)) (then_reads _ _ (typed_reads w left a b l) (then_reads _ _ (second_reads w right b rest r) refl))

pub compare_reads : (p : Pred) (f : Flags) (w : ℕ) (left right : Operand) (ts a b c rest : List Tok) → AreFlags compare_takes f ts a → IsWord (pred_word p) a b → IsTyped w left b c → IsSecond w right c rest
    → compare ts ≡ Done (op.Cmp p f w left right) rest
unfolding compare
compare_reads p f w left right ts a b c rest fs is l r =
    then_reads _ _ (flags_reads compare_takes f ts a fs (ap (flag_words compare_takes) (at_word a b _ is) ∙ pred_no_flag compare_takes p))
    (then_reads _ _ (take_some_reads (pred_of (word_at a)) place.Keyword a b is.1 (ap pred_of (at_word a b _ is) ∙ pred_of_reads p))
    (then_reads _ _ (typed_reads w left b c l) (then_reads _ _ (second_reads w right c rest r) refl)))

pub conversion_reads : (kind : CastKind) (f : Flags) (from to : ℕ) (arg : Operand) (ts a b c rest : List Tok) → AreFlags (cast_takes kind) f ts a → IsTyped from arg a b → IsWord (codes "to") b c → IsType to c rest
    → conversion kind ts ≡ Done (op.Cast kind f from arg to) rest
unfolding conversion
conversion_reads kind f from to arg ts a b c rest fs t is w =
    then_reads _ _ (flags_reads (cast_takes kind) f ts a fs (type_no_flag (cast_takes kind) from a t.0 t.1))
    (then_reads _ _ (typed_reads from arg a b t) (then_reads _ _ (keyword_reads b c _ is) (then_reads _ _ (width_reads c rest to w) refl)))

pub select_reads : (w : ℕ) (x left right : Operand) (ts a b c d rest : List Tok) → IsTyped 1 x ts a → IsMark 44 a b → IsTyped w left b c → IsMark 44 c d → IsTyped w right d rest
    → select ts ≡ Done (op.Select w x left right) rest
unfolding select
select_reads w x left right ts a b c d rest t comma l again r =
    then_reads _ _ (of_width_reads 1 x ts a t) (then_reads _ _ (mark_reads a b 44 comma) (then_reads _ _ (typed_reads w left b c l)
    (then_reads _ _ (mark_reads c d 44 again) (then_reads _ _ (of_width_reads w right d rest r) refl))))

-- ---- calls

-- a word of a call is none of the other words
pub record IsCallWord (word : List ℕ) : Type 0 where
  pub calls : is_call_word word ≡ true
  pub no_binary : binary_of word ≡ None
  pub no_cast : cast_of word ≡ None
  pub no_compare : bytes_eq word (codes "icmp") ≡ false
  pub no_select : bytes_eq word (codes "select") ≡ false
  pub no_phi : bytes_eq word (codes "phi") ≡ false

is_call : IsCallWord (codes "call")
unfolding is_call_word binary_of cast_of
is_call = record { calls = refl; no_binary = refl; no_cast = refl; no_compare = refl; no_select = refl; no_phi = refl }

is_tail : IsCallWord (codes "tail")
unfolding is_call_word binary_of cast_of
is_tail = record { calls = refl; no_binary = refl; no_cast = refl; no_compare = refl; no_select = refl; no_phi = refl }

is_notail : IsCallWord (codes "notail")
unfolding is_call_word binary_of cast_of
is_notail = record { calls = refl; no_binary = refl; no_cast = refl; no_compare = refl; no_select = refl; no_phi = refl }

pub call_word : (ts rest : List Tok) → IsCall ts rest → IsCallWord (word_at ts)
call_word ts rest (inl is) = subst IsCallWord (sym (at_word ts rest _ is)) is_call
call_word ts rest (inr (a, inl is, more)) = subst IsCallWord (sym (at_word ts a _ is)) is_tail
call_word ts rest (inr (a, inr is, more)) = subst IsCallWord (sym (at_word ts a _ is)) is_notail

pub call_is_word : (ts rest : List Tok) → IsCall ts rest → (t : Tok) × (a : List Tok) × (ts ≡ t ∷ a) × (t.kind ≡ kinds.Word)
call_is_word ts rest (inl is) = (is.0, rest, is.1, is.2)
call_is_word ts rest (inr (a, inl is, more)) = (is.0, a, is.1, is.2)
call_is_word ts rest (inr (a, inr is, more)) = (is.0, a, is.1, is.2)

pub call_words_reads : (ts rest : List Tok) → IsCall ts rest → call_words ts ≡ Done (tt {0}) rest
unfolding call_words
call_words_reads ts rest (inl is) = ap (λ b. keyword (codes "call") (if b then ts else drop 1 ts)) (bytes_same _ _ (at_word ts rest _ is)) ∙ keyword_reads ts rest _ is
call_words_reads ts rest (inr (a, inl is, more)) =
    ap (λ w. keyword (codes "call") (if bytes_eq w (codes "call") then ts else drop 1 ts)) (at_word ts a _ is) ∙ ap (keyword (codes "call")) (behind_first ts a is.0 is.1) ∙ keyword_reads a rest _ more
call_words_reads ts rest (inr (a, inr is, more)) =
    ap (λ w. keyword (codes "call") (if bytes_eq w (codes "call") then ts else drop 1 ts)) (at_word ts a _ is) ∙ ap (keyword (codes "call")) (behind_first ts a is.0 is.1) ∙ keyword_reads a rest _ more

pub callee_of_reads : (w : ℕ) (f : Callee) → 1 ≤ w → w ≤ 32 → IsCallee f → callee_of w (name_of f ++ (codes "i" ++ decimal w)) ≡ Some f
unfolding callee_of behind
callee_of_reads w (callee.Bin bin.Smin) some few valid = rw (width_of_reads w some few, eq-eqb w w refl) refl
callee_of_reads w (callee.Bin bin.Smax) some few valid = rw (width_of_reads w some few, eq-eqb w w refl) refl
callee_of_reads w (callee.Bin bin.Umin) some few valid = rw (width_of_reads w some few, eq-eqb w w refl) refl
callee_of_reads w (callee.Bin bin.Umax) some few valid = rw (width_of_reads w some few, eq-eqb w w refl) refl
callee_of_reads w callee.Abs some few valid = rw (width_of_reads w some few, eq-eqb w w refl) refl
callee_of_reads w (callee.Bin kind) some few valid = absurd (true≢false (sym valid))

pub called_reads : (w : ℕ) (f : Callee) (ts rest : List Tok) → 1 ≤ w → w ≤ 32 → IsCallee f → IsNameOf kinds.Global (name_of f ++ (codes "i" ++ decimal w)) ts rest → called w ts ≡ Done f rest
unfolding called callee_at
called_reads w f ts rest some few valid is =
    take_some_reads _ _ ts rest is.1 (if_reads (kind_at kinds.Global ts) _ _ (kind_there ts rest kinds.Global _ is) (ap (callee_of w) (at_name ts rest kinds.Global _ is) ∙ callee_of_reads w f some few valid))

pub close_call_reads : (ts rest : List Tok) → ClosesCall ts rest → close_call ts ≡ Done (tt {0}) rest
unfolding close_call group_at
close_call_reads ts rest (a, closes, inl (t, e, (k, plain))) = then_reads _ _ (mark_reads ts a 41 closes) (rw e (rw (k, plain) refl))
close_call_reads ts [] (a, closes, inr (e, none)) = then_reads _ _ (mark_reads ts a 41 closes) (rw e refl)
close_call_reads ts (t ∷ rest) (a, closes, inr (e, none)) = then_reads _ _ (mark_reads ts a 41 closes) (rw e (go (is_kind t.kind kinds.Hash) (has_prefix (codes "#dbg_") t.text) refl refl))
  where
    go : (hash debug : Bool) → is_kind t.kind kinds.Hash ≡ hash → has_prefix (codes "#dbg_") t.text ≡ debug
        → Done (tt {0}) (if (is_kind t.kind kinds.Hash && not (has_prefix (codes "#dbg_") t.text)) then rest else t ∷ rest) ≡ Done (tt {0}) (t ∷ rest)
    go true false is plain = absurd (none (same_kind _ _ is, plain))
    go true true is debug = rw (is, debug) refl
    go false debug other d = rw other refl

pub value_call_reads : (f : Callee) (w : ℕ) (first : Operand) (computed : Op) (ts a b rest : List Tok) → IsCallee f → BeginsCall (name_of f) w first ts a → last_argument f w first a ≡ Done computed b → ClosesCall b rest
    → value_call ts ≡ Done computed rest
unfolding value_call
value_call_reads f w first computed ts a b rest valid (c, d, e, g, h, call, t, named, opens, x, comma) last closes =
    then_reads _ _ (call_words_reads ts c call) (then_reads _ _ (width_reads c d w t) (then_reads _ _ (called_reads w f d e t.1 t.2 valid named) (then_reads _ _ (mark_reads e g 40 opens)
    (then_reads _ _ (of_width_reads w first g h x) (then_reads _ _ (mark_reads h a 44 comma) (then_reads _ _ last (then_reads _ _ (close_call_reads b rest closes) refl)))))))

pub last_of_two_reads : (kind : BinKind) (w : ℕ) (left right : Operand) (ts rest : List Tok) → IsTyped w right ts rest → last_argument (callee.Bin kind) w left ts ≡ Done (op.Bin kind no_flags w left right) rest
unfolding last_argument
last_of_two_reads kind w left right ts rest t = then_reads _ _ (of_width_reads w right ts rest t) refl

pub last_of_abs_reads : (w n : ℕ) (arg : Operand) (ts a rest : List Tok) → IsType 1 ts a → IsLiteral 1 n a rest → last_argument callee.Abs w arg ts ≡ Done (op.Abs w arg (eqb n 1)) rest
unfolding last_argument
last_of_abs_reads w n arg ts a rest t l = then_reads _ _ (one_width_reads ts a 1 t) (then_reads _ _ (literal_reads a rest 1 n l) refl)

pub assume_reads : (x : Operand) (ts rest : List Tok) → SpellsOp (op.Assume x) ts rest → assume ts ≡ Done (op.Assume x) rest
unfolding assume void assume_callee assume_at
assume_reads x ts rest (a, b, c, d, e, call, no_type, named, opens, typed, closes) =
    then_reads _ _ (call_words_reads ts a call) (then_reads _ _ (take_if_reads _ _ _ a b no_type.1 (bytes_same _ _ (at_word a b _ no_type)))
    (then_reads _ _ (take_if_reads _ _ _ b c named.1 (ap (λ k. k && bytes_eq (name_at b) (codes "llvm.assume")) (kind_there b c kinds.Global _ named) ∙ bytes_same _ _ (at_name b c kinds.Global _ named)))
    (then_reads _ _ (mark_reads c d 40 opens) (then_reads _ _ (of_width_reads 1 x d e typed) (then_reads _ _ (close_call_reads e rest closes) refl)))))

-- ---- what stands behind `%r =`

called_one : (kind : BinKind) → is_called kind ≡ true → IsCallee (callee.Bin kind)
called_one kind is = is

compared : (word : List ℕ) → word ≡ codes "icmp" → (binary_of word ≡ None) × (cast_of word ≡ None)
unfolding binary_of cast_of
compared word is = (ap binary_of is, ap cast_of is)

selected : (word : List ℕ) → word ≡ codes "select" → (binary_of word ≡ None) × (cast_of word ≡ None)
unfolding binary_of cast_of
selected word is = (ap binary_of is, ap cast_of is)

pub call_reads : (ts a rest : List Tok) (computed : Op) → IsCall ts a → value_call ts ≡ Done computed rest → operation ts ≡ Done computed rest
unfolding operation
call_reads ts a rest computed call e =
    let w = call_word ts a call in
    none_reads _ (binary_of (word_at ts)) _ w.no_binary (none_reads _ (cast_of (word_at ts)) _ w.no_cast
    (else_reads (bytes_eq (word_at ts) (codes "icmp")) _ _ w.no_compare (else_reads (bytes_eq (word_at ts) (codes "select")) _ _ w.no_select
    (if_reads (is_call_word (word_at ts)) _ _ w.calls e))))

pub bin_op_reads : (called : Bool) (kind : BinKind) (f : Flags) (w : ℕ) (left right : Operand) (ts rest : List Tok) → is_called kind ≡ called → SpellsBin called kind f w left right ts rest
    → operation ts ≡ Done (op.Bin kind f w left right) rest
unfolding operation
bin_op_reads false kind f w left right ts rest plain (a, b, c, word, fs, l, r) =
    some_reads _ (binary_of (word_at ts)) _ (ap binary_of (at_word ts a _ word) ∙ binary_of_reads kind plain)
    (ap (binary kind) (behind_first ts a word.0 word.1) ∙ binary_reads kind f w left right a b c rest fs l r)
bin_op_reads true kind f w left right ts rest is_called_ (none, a, b, begins, r, closes) =
    call_reads ts begins.0 rest _ begins.5 (value_call_reads (callee.Bin kind) w left _ ts a b rest is_called_ begins (last_of_two_reads kind w left right a b r) closes)
    ∙ ap (λ (f : Flags). Done (op.Bin kind f w left right) rest) (sym none)

pub operation_reads : (computed : Op) (ts rest : List Tok) → IsValued computed → SpellsOp computed ts rest → operation ts ≡ Done computed rest
unfolding operation
operation_reads (op.Bin kind f w left right) ts rest valued is = bin_op_reads (is_called kind) kind f w left right ts rest refl is
operation_reads (op.Cmp p f w left right) ts rest valued (a, b, c, d, word, fs, is, l, r) =
    let other = compared _ (at_word ts a _ word) in
    none_reads _ (binary_of (word_at ts)) _ other.0 (none_reads _ (cast_of (word_at ts)) _ other.1
    (if_reads (bytes_eq (word_at ts) (codes "icmp")) _ _ (bytes_same _ _ (at_word ts a _ word))
    (ap compare (behind_first ts a word.0 word.1) ∙ compare_reads p f w left right a b c d rest fs is l r)))
operation_reads (op.Cast kind f from arg to) ts rest valued (a, b, c, d, word, fs, t, is, w) =
    let other = cast_of_reads kind in
    none_reads _ (binary_of (word_at ts)) _ (ap binary_of (at_word ts a _ word) ∙ other.0) (some_reads _ (cast_of (word_at ts)) _ (ap cast_of (at_word ts a _ word) ∙ other.1)
    (ap (conversion kind) (behind_first ts a word.0 word.1) ∙ conversion_reads kind f from to arg a b c d rest fs t is w))
operation_reads (op.Select w x left right) ts rest valued (a, b, c, d, e, word, t, comma, l, again, r) =
    let other = selected _ (at_word ts a _ word) in
    none_reads _ (binary_of (word_at ts)) _ other.0 (none_reads _ (cast_of (word_at ts)) _ other.1
    (else_reads (bytes_eq (word_at ts) (codes "icmp")) _ _ (ap (λ (x : List ℕ). bytes_eq x (codes "icmp")) (at_word ts a _ word))
    (if_reads (bytes_eq (word_at ts) (codes "select")) _ _ (bytes_same _ _ (at_word ts a _ word))
    (ap select (behind_first ts a word.0 word.1) ∙ select_reads w x left right a b c d e rest t comma l again r))))
operation_reads (op.Abs w arg strict) ts rest valued (n, is, a, b, c, begins, t, l, closes) =
    call_reads ts begins.0 rest _ begins.5 (value_call_reads callee.Abs w arg _ ts a c rest tt begins (last_of_abs_reads w n arg a b c t l) closes)
    ∙ ap (λ (strict : Bool). Done (op.Abs w arg strict) rest) (sym is)
operation_reads (op.Assume x) ts rest valued is = absurd valued

-- an operation begins with a word, which isn't that of a phi
no_phi_word : (kind : BinKind) → is_called kind ≡ false → bytes_eq (word_of kind) (codes "phi") ≡ false
no_phi_word bin.Add plain = refl
no_phi_word bin.Sub plain = refl
no_phi_word bin.Mul plain = refl
no_phi_word bin.Shl plain = refl
no_phi_word bin.Lshr plain = refl
no_phi_word bin.Ashr plain = refl
no_phi_word bin.And plain = refl
no_phi_word bin.Or plain = refl
no_phi_word bin.Xor plain = refl
no_phi_word bin.Udiv plain = refl
no_phi_word bin.Sdiv plain = refl
no_phi_word bin.Urem plain = refl
no_phi_word bin.Srem plain = refl
no_phi_word kind called = absurd (true≢false called)

pub operation_word : (computed : Op) (ts rest : List Tok) → IsValued computed → SpellsOp computed ts rest → bytes_eq (word_at ts) (codes "phi") ≡ false
operation_word (op.Bin kind f w left right) ts rest valued is = go (is_called kind) refl is
  where
    go : (called : Bool) → is_called kind ≡ called → SpellsBin called kind f w left right ts rest → bytes_eq (word_at ts) (codes "phi") ≡ false
    go false plain (a, b, c, word, fs, l, r) = ap (λ (x : List ℕ). bytes_eq x (codes "phi")) (at_word ts a _ word) ∙ no_phi_word kind plain
    go true called (none, a, b, begins, r, closes) = (call_word ts begins.0 begins.5).no_phi
operation_word (op.Cmp p f w left right) ts rest valued is = ap (λ (x : List ℕ). bytes_eq x (codes "phi")) (at_word ts is.0 _ is.4)
operation_word (op.Cast kind f from arg to) ts rest valued is = ap (λ (x : List ℕ). bytes_eq x (codes "phi")) (at_word ts is.0 _ is.4) ∙ go kind
  where
    go : (kind : CastKind) → bytes_eq (cast_word kind) (codes "phi") ≡ false
    go cast.Zext = refl
    go cast.Sext = refl
    go cast.Trunc = refl
operation_word (op.Select w x left right) ts rest valued is = ap (λ (x : List ℕ). bytes_eq x (codes "phi")) (at_word ts is.0 _ is.5)
operation_word (op.Abs w arg strict) ts rest valued (n, is, a, b, c, begins, t, l, closes) = (call_word ts begins.0 begins.5).no_phi
operation_word (op.Assume x) ts rest valued is = absurd valued
