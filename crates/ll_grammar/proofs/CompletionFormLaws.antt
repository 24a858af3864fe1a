-- Tokens that begin the form of an instruction can be completed to it.
use Rattle.std.proofs.Common.{◌≡◌, ◌≤◌, ℕ, zero, suc, List, [], ◌∷◌, ◌++◌, length, drop, Some, None, refl, ap, ◌∙◌, arith, eq-eqb, lt-ltb, pow_pos, cond}
use Rattle.std.specs.Prelude.{codes, ◌^◌}
use Rattle.std.specs.Option.{option_map_or}
use Rattle.std.specs.Str.{bytes_eq}
use Rattle.std.specs.Fmt.{decimal}
use Rattle.ll_token.specs.declared.token.TokenKind.{TokenKind}
use Rattle.ll_token.specs.declared.token.TokenKind.TheVariants as kinds
use Rattle.ll_tree.specs.declared.block.Operand.{Operand}
use Rattle.ll_tree.specs.declared.block.Operand.TheVariants as value
use Rattle.ll_tree.specs.declared.op.Flags.{Flags}
use Rattle.ll_tree.specs.declared.op.BinKind.{BinKind}
use Rattle.ll_tree.specs.declared.op.CastKind.{CastKind}
use Rattle.ll_tree.specs.declared.op.Op.TheVariants as op
use Rattle.ll_tree.specs.declared.op.Pred.TheVariants as pred
use Rattle.ll_grammar.specs.declared.stop.Place.{Place}
use Rattle.ll_grammar.specs.declared.stop.Place.TheVariants as place
use Rattle.ll_grammar.specs.Tokens.{Tok, word_at, mark_at, kind_at, name_at}
use Rattle.ll_grammar.specs.Words.{width_of, digits_width, has_width, literal_of, number_of, value_below, pred_of, takes, cast_takes, compare_takes, no_flags, add_flag}
use Rattle.ll_grammar.specs.Reading.{Read, Done, ◌>>=◌, take_some, mark, keyword, name, metadatum, width, one_width, literal_at, literal}
use Rattle.ll_grammar.specs.Forms.{operand, typed, of_width, second, target, next_target, flags_within, flags, binary, compare, conversion, select}
use Rattle.ll_grammar.proofs.DoneLaws.{OnDone, weaken}
use Rattle.ll_grammar.proofs.TokenLaws.{bytes_same, kind_same, width_of_is, width_of_reads}
use Rattle.ll_grammar.proofs.FormLaws.{width_sound, typed_sound}
use Rattle.ll_grammar.proofs.FormReadLaws.{operand_reads}
use Rattle.ll_grammar.proofs.EarlyLaws.{early_take_some, settles_from}
use Rattle.ll_grammar.proofs.EarlyFormLaws.{looks_mark, looks_kind, looks_name, looks_literal, looks_of_word, looks_nothing, early_mark, early_keyword, early_width, early_one_width, early_literal, early_operand, early_typed, early_of_width, early_second, early_flags, flags_settle, some_same}
use Rattle.ll_grammar.proofs.CompletionLaws.{always_done, token, Any, FirstIs, Always, Starts, Completes, Comp, comp_weak, forget, seq, seq_any, comp_done, comp_take_if, comp_take_some, comp_of, completes_if, completes_some, completes_done, completes_taken, completes_same, completes_zero, completes_behind_less}

abbrev pub word : ℕ → List ℕ → Tok
word n text = token n kinds.Word text

abbrev pub sign : ℕ → ℕ → Tok
sign n byte = token n kinds.Mark (byte ∷ [])

-- ---- single tokens

pub comp_mark : {C : List Tok → Type 0} (n byte : ℕ) → Comp n (mark byte) Always C (FirstIs (sign n byte))
unfolding mark mark_at
comp_mark n byte = comp_take_if (mark_at byte) (λ _. tt {0}) place.Other (looks_mark byte) (looks_nothing (tt {0})) (λ t. tt) (sign n byte) (λ k. bytes_same (byte ∷ []) (byte ∷ []) refl)

pub comp_keyword : {C : List Tok → Type 0} (n : ℕ) (text : List ℕ) → Comp n (keyword text) Always C (FirstIs (word n text))
unfolding keyword word_at
comp_keyword n text = comp_take_if (λ ts. bytes_eq (word_at ts) text) (λ _. tt {0}) place.Other (looks_of_word (λ w. bytes_eq w text)) (looks_nothing (tt {0})) (λ t. tt) (word n text) (λ k. bytes_same text text refl)

pub comp_name : {C : List Tok → Type 0} (n : ℕ) (kind : TokenKind) (at : Place) (text : List ℕ) → Comp n (name kind at) Always C (FirstIs (token n kind text))
unfolding name kind_at
comp_name n kind at text = comp_take_if (kind_at kind) name_at at (looks_kind kind) looks_name (λ t. tt) (token n kind text) (λ k. kind_same kind)

pub comp_metadatum : {C : List Tok → Type 0} (n : ℕ) → Comp n metadatum Always C (FirstIs (token n kinds.Meta (codes "!")))
unfolding metadatum kind_at
comp_metadatum n = comp_take_if (kind_at kinds.Meta) (λ _. tt {0}) place.Other (looks_kind kinds.Meta) (looks_nothing (tt {0})) (λ t. tt) (token n kinds.Meta (codes "!")) (λ k. refl)

abbrev pub IsW : ℕ → Type 0
IsW w = (1 ≤ w) × (w ≤ 32)

pub comp_width : {C : List Tok → Type 0} (n : ℕ) → Comp n width IsW C (FirstIs (word n (codes "i1")))
unfolding width width_of digits_width word_at
comp_width n = comp_take_some (λ ts. width_of (word_at ts)) place.Type (looks_of_word width_of) (λ t x e. let p = width_of_is (word_at (t ∷ [])) x e in (p.1, p.2)) (word n (codes "i1")) 1 (λ k. refl)

pub comp_one_width : {C : List Tok → Type 0} (n w : ℕ) → IsW w → Comp n (one_width w) Always C (FirstIs (word n (codes "i" ++ decimal w)))
unfolding one_width word_at
comp_one_width n w p = comp_take_if (λ ts. has_width w (word_at ts)) (λ _. tt {0}) place.Type (looks_of_word (has_width w)) (looks_nothing (tt {0})) (λ t. tt) (word n (codes "i" ++ decimal w)) (λ k. rw (width_of_reads w p.0 p.1, eq-eqb w w refl) refl)

pub comp_literal : {C : List Tok → Type 0} (n w : ℕ) → Comp n (literal w) Always C (FirstIs (token n kinds.Number (codes "0")))
unfolding literal literal_at literal_of number_of value_below
comp_literal n w = comp_take_some (literal_at w) place.Literal (looks_literal w) (λ t x e. tt) (token n kinds.Number (codes "0")) 0 (λ k. ap (λ b. cond b (Some 0) None) (lt-ltb 0 (2 ^ w) (pow_pos w)))

-- ---- operands and targets

pub comp_operand : {C : List Tok → Type 0} (n w : ℕ) → Comp n (operand w) Always C (FirstIs (word n (codes "poison")))
unfolding operand
comp_operand n w = comp_of
    (λ m. completes_if (kind_at kinds.Local) (λ ts. Done (value.Name (name_at ts)) (drop 1 ts)) _ (looks_kind kinds.Local) (completes_taken (λ ts. value.Name (name_at ts)) (λ t a c. ap (λ (n : List ℕ). value.Name n) (looks_name t a c)) (λ t. tt))
    (completes_if (λ ts. bytes_eq (word_at ts) (codes "poison")) (λ ts. Done value.Poison (drop 1 ts)) _ (looks_of_word (λ w. bytes_eq w (codes "poison"))) (completes_taken (λ _. value.Poison) (looks_nothing value.Poison) (λ t. tt))
    ((seq_any (literal w) (λ n ts. Done (value.Const n) ts) (early_literal w) (comp_literal n w) (λ n. comp_done (value.Const n) tt)).completes m)))
    (word n (codes "poison")) value.Poison tt (λ k c. operand_reads w value.Poison (word n (codes "poison") ∷ k) k (word n (codes "poison"), refl, refl, refl)) (λ k. (k, refl))

abbrev pub IsWOf : ℕ × Operand → Type 0
IsWOf x = IsW x.0

pub width_fits : (ts : List Tok) → OnDone (width ts) (λ w _. IsW w)
width_fits ts = weaken (width_sound ts) (λ w a t. (t.1, t.2))

pub typed_fits : (ts : List Tok) → OnDone (typed ts) (λ x _. IsWOf x)
typed_fits ts = weaken (typed_sound ts) (λ x a t. (t.1.1, t.1.2))

pub comp_typed : {C : List Tok → Type 0} (n : ℕ) → Comp n typed IsWOf C (FirstIs (word n (codes "i1")))
unfolding typed
comp_typed n = seq width _ width_fits early_width (comp_width {C = Any} n) (λ w p. comp_weak (seq_any (operand w) (λ x ts. Done (w, x) ts) (early_operand w) (comp_operand n w) (λ x. comp_done (w, x) p)) (λ k _. tt))

pub comp_of_width : {C : List Tok → Type 0} (n w : ℕ) → IsW w → Comp n (of_width w) Always C (FirstIs (word n (codes "i" ++ decimal w)))
unfolding of_width
comp_of_width n w p = seq_any (one_width w) (λ _. operand w) (early_one_width w) (comp_one_width n w p) (λ _. comp_operand n w)

pub comp_second : {C : List Tok → Type 0} (n w : ℕ) → Comp n (second w) Always C (FirstIs (sign n 44))
unfolding second
comp_second n w = seq_any (mark 44) (λ _. operand w) (early_mark 44) (comp_mark n 44) (λ _. comp_operand n w)

pub comp_target : {C : List Tok → Type 0} (n : ℕ) → Comp n target Always C (FirstIs (word n (codes "label")))
unfolding target
comp_target n = seq_any (keyword (codes "label")) (λ _. name kinds.Local place.Other) (early_keyword (codes "label")) (comp_keyword n (codes "label")) (λ _. comp_name n kinds.Local place.Other (codes "%a"))

pub comp_next_target : {C : List Tok → Type 0} (n : ℕ) → Comp n next_target Always C (FirstIs (sign n 44))
unfolding next_target
comp_next_target n = seq_any (mark 44) (λ _. target) (early_mark 44) (comp_mark n 44) (λ _. comp_target n)

-- ---- flags

-- what comes next is no flag
abbrev pub NoFlag : Flags → List Tok → Type 0
NoFlag allowed k = (so_far : Flags) → add_flag allowed so_far (word_at k) ≡ None

more_flags : Flags → Flags → List Tok → Read Flags
more_flags allowed so_far ts = flags_within (length ts) allowed so_far ts

flags_unfold : (allowed so_far : Flags) (ts : List Tok) → more_flags allowed so_far ts ≡ option_map_or (λ more. more_flags allowed more (drop 1 ts)) (add_flag allowed so_far (word_at ts)) (Done so_far ts)
unfolding more_flags flags_within
flags_unfold allowed so_far ts =
    flags_settle allowed (length ts) so_far ts (omega arith)
    ∙ some_same _ _ (add_flag allowed so_far (word_at ts)) (Done so_far ts) (λ more. settles_from (λ n. flags_within n allowed more) (λ n ts fits. flags_settle allowed n more ts fits) (length ts) (drop 1 ts) (fewer ts))
  where
    fewer : (ts : List Tok) → length (drop 1 ts) ≤ length ts
    fewer [] = omega arith
    fewer (t ∷ ts) = omega arith

flags_start : (allowed so_far : Flags) → Starts (more_flags allowed so_far) Always (NoFlag allowed) (NoFlag allowed)
flags_start allowed so_far = record { more = []; value = so_far; fits = tt; reads = λ k none. flags_unfold allowed so_far k ∙ ap (λ o. option_map_or (λ more. more_flags allowed more (drop 1 k)) o (Done so_far k)) (none so_far); begins = λ k none. none }

flags_complete : (n : ℕ) (allowed : Flags) (m : ℕ) (so_far : Flags) → Completes n m (more_flags allowed so_far) Always (NoFlag allowed)
flags_complete n allowed zero so_far = completes_zero
flags_complete n allowed (suc m) so_far = completes_same _ (λ ts. option_map_or (λ more. more_flags allowed more (drop 1 ts)) (add_flag allowed so_far (word_at ts)) (Done so_far ts)) (flags_unfold allowed so_far)
    (completes_some (λ ts. add_flag allowed so_far (word_at ts)) (λ more ts. more_flags allowed more (drop 1 ts)) (λ ts. Done so_far ts) (looks_of_word (add_flag allowed so_far))
    (λ more. completes_behind_less (more_flags allowed more) (flags_complete n allowed m more) (flags_start allowed more)) (completes_done so_far))

comp_flags : (n : ℕ) (allowed : Flags) → Comp n (flags allowed) Always (NoFlag allowed) (NoFlag allowed)
unfolding flags more_flags
comp_flags n allowed = record { completes = λ m. flags_complete n allowed m no_flags; starts = flags_start allowed no_flags }

-- ---- operations

-- a word that begins a list
first_word : (n : ℕ) (text : List ℕ) (k : List Tok) → FirstIs (word n text) k → word_at k ≡ text
unfolding word_at
first_word n text k (a, e) = ap word_at e

type_ends_flags : (n : ℕ) (allowed : Flags) (k : List Tok) → FirstIs (word n (codes "i1")) k → NoFlag allowed k
unfolding add_flag
type_ends_flags n allowed k first so_far = ap (add_flag allowed so_far) (first_word n (codes "i1") k first)

pred_ends_flags : (n : ℕ) (allowed : Flags) (k : List Tok) → FirstIs (word n (codes "eq")) k → NoFlag allowed k
unfolding add_flag
pred_ends_flags n allowed k first so_far = ap (add_flag allowed so_far) (first_word n (codes "eq") k first)

pub comp_binary : {C : List Tok → Type 0} (n : ℕ) (kind : BinKind) → Comp n (binary kind) Always C (NoFlag (takes kind))
unfolding binary
comp_binary n kind = seq (flags (takes kind)) _ (λ ts. always_done (flags (takes kind) ts)) (early_flags (takes kind)) (comp_flags n (takes kind)) (λ f _. comp_weak
    (seq_any typed (λ left ts. second left.0 ts >>= λ right ts. Done (op.Bin kind f left.0 left.1 right) ts) early_typed (forget (comp_typed n)) (λ left. seq_any (second left.0) (λ right ts. Done (op.Bin kind f left.0 left.1 right) ts) (early_second left.0) (comp_second n left.0) (λ right. comp_done (op.Bin kind f left.0 left.1 right) tt)))
    (type_ends_flags n (takes kind)))

pub comp_compare : {C : List Tok → Type 0} (n : ℕ) → Comp n compare Always C (NoFlag compare_takes)
unfolding compare pred_of word_at
comp_compare n = seq (flags compare_takes) _ (λ ts. always_done (flags compare_takes ts)) (early_flags compare_takes) (comp_flags n compare_takes) (λ f _. comp_weak
    (seq_any (λ ts. take_some (pred_of (word_at ts)) place.Keyword ts) (λ p ts. typed ts >>= λ left ts. second left.0 ts >>= λ right ts. Done (op.Cmp p f left.0 left.1 right) ts) (early_take_some (λ ts. pred_of (word_at ts)) place.Keyword (looks_of_word pred_of))
    (comp_take_some (λ ts. pred_of (word_at ts)) place.Keyword (looks_of_word pred_of) (λ t x e. tt) (word n (codes "eq")) pred.Eq (λ k. refl))
    (λ p. seq_any typed (λ left ts. second left.0 ts >>= λ right ts. Done (op.Cmp p f left.0 left.1 right) ts) early_typed (forget (comp_typed n)) (λ left. seq_any (second left.0) (λ right ts. Done (op.Cmp p f left.0 left.1 right) ts) (early_second left.0) (comp_second n left.0) (λ right. comp_done (op.Cmp p f left.0 left.1 right) tt))))
    (pred_ends_flags n compare_takes))

pub comp_conversion : {C : List Tok → Type 0} (n : ℕ) (kind : CastKind) → Comp n (conversion kind) Always C (NoFlag (cast_takes kind))
unfolding conversion
comp_conversion n kind = seq (flags (cast_takes kind)) _ (λ ts. always_done (flags (cast_takes kind) ts)) (early_flags (cast_takes kind)) (comp_flags n (cast_takes kind)) (λ f _. comp_weak
    (seq_any typed (λ arg ts. keyword (codes "to") ts >>= λ _ ts. width ts >>= λ to ts. Done (op.Cast kind f arg.0 arg.1 to) ts) early_typed (forget (comp_typed n))
    (λ arg. seq_any (keyword (codes "to")) (λ _ ts. width ts >>= λ to ts. Done (op.Cast kind f arg.0 arg.1 to) ts) (early_keyword (codes "to")) (comp_keyword n (codes "to"))
    (λ _. seq_any width (λ to ts. Done (op.Cast kind f arg.0 arg.1 to) ts) early_width (forget (comp_width n)) (λ to. comp_done (op.Cast kind f arg.0 arg.1 to) tt))))
    (type_ends_flags n (cast_takes kind)))

pub bit_width : IsW 1
bit_width = (omega arith, omega arith)

pub comp_select : {C : List Tok → Type 0} (n : ℕ) → Comp n select Always C (FirstIs (word n (codes "i" ++ decimal 1)))
unfolding select
comp_select n =
    seq_any (of_width 1) (λ x ts. mark 44 ts >>= λ _ ts. typed ts >>= λ left ts. mark 44 ts >>= λ _ ts. of_width left.0 ts >>= λ right ts. Done (op.Select left.0 x left.1 right) ts) (early_of_width 1) (comp_of_width n 1 bit_width) (λ x.
    seq_any (mark 44) (λ _ ts. typed ts >>= λ left ts. mark 44 ts >>= λ _ ts. of_width left.0 ts >>= λ right ts. Done (op.Select left.0 x left.1 right) ts) (early_mark 44) (comp_mark n 44) (λ _.
    seq typed (λ left ts. mark 44 ts >>= λ _ ts. of_width left.0 ts >>= λ right ts. Done (op.Select left.0 x left.1 right) ts) typed_fits early_typed (comp_typed {C = Any} n) (λ left p. comp_weak (
    seq_any (mark 44) (λ _ ts. of_width left.0 ts >>= λ right ts. Done (op.Select left.0 x left.1 right) ts) (early_mark 44) (comp_mark n 44) (λ _.
    seq_any (of_width left.0) (λ right ts. Done (op.Select left.0 x left.1 right) ts) (early_of_width left.0) (comp_of_width n left.0 p) (λ right. comp_done (op.Select left.0 x left.1 right) tt))) (λ k _. tt))))
