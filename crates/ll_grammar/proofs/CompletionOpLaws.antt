-- Tokens that begin an operation, a phi or a terminator can be completed to it.
use Rattle.std.proofs.Common.{◌≡◌, ℕ, zero, suc, Bool, true, false, List, [], ◌∷◌, ◌++◌, length, drop, Some, refl, ap, ◌∙◌, inl, arith, true≢false}
use Rattle.std.specs.Prelude.{codes, ◌==◌, if◌then◌else◌}
use Rattle.std.specs.Str.{bytes_eq}
use Rattle.std.specs.Fmt.{decimal}
use Rattle.ll_token.specs.declared.token.TokenKind.TheVariants as kinds
use Rattle.ll_tree.specs.declared.block.Operand.{Operand}
use Rattle.ll_tree.specs.declared.block.Case.{Case}
use Rattle.ll_tree.specs.declared.block.PhiEntry.{PhiEntry}
use Rattle.ll_tree.specs.declared.block.End.TheVariants as end
use Rattle.ll_tree.specs.declared.op.CastKind.TheVariants as cast
use Rattle.ll_tree.specs.declared.op.Op.TheVariants as op
use Rattle.ll_grammar.specs.declared.opcodes.Callee.{Callee}
use Rattle.ll_grammar.specs.declared.opcodes.Callee.TheVariants as callee
use Rattle.ll_grammar.specs.declared.stop.Place.TheVariants as place
use Rattle.ll_grammar.specs.Tokens.{Tok, word_at, mark_at, kind_at, name_at, group_at, held_name, written}
use Rattle.ll_grammar.specs.Words.{binary_of, cast_of, no_flags}
use Rattle.ll_grammar.specs.Reading.{Read, Done, ◌>>=◌, stopped, mark, keyword, name, metadatum, width, one_width, literal}
use Rattle.ll_grammar.specs.Forms.{operand, typed, of_width, next_target, target, binary, compare, conversion, select, is_call_word, call_words, callee_at, called, last_argument, close_call, value_call, assume_at, assume_callee, void, assume, operation, entry, behind_comma, another, entries, phi, return_value, branch, case, cases, switch, terminator}
use Rattle.ll_grammar.proofs.DoneLaws.{weaken}
use Rattle.ll_grammar.proofs.FormLaws.{case_sound}
use Rattle.ll_grammar.proofs.StatementLaws.{entry_sound, another_sound}
use Rattle.ll_grammar.proofs.LeavesLaws.{case_leaves, entry_leaves}
use Rattle.ll_grammar.proofs.FormReadLaws.{goto_reads, terminator_reads}
use Rattle.ll_grammar.proofs.OpReadLaws.{call_words_reads, callee_of_reads}
use Rattle.ll_grammar.proofs.EarlyLaws.{early_within, settles_from, push_if}
use Rattle.ll_grammar.proofs.EarlyFormLaws.{looks_mark, looks_group, looks_callee, looks_assume, looks_of_word, looks_nothing, early_mark, early_keyword, early_name, early_metadatum, early_width, early_one_width, early_literal, early_operand, early_typed, early_of_width, early_target, early_next_target, early_call_words, early_called, early_last_argument, early_close_call, early_void, early_assume_callee, early_entry, early_another, early_entries, early_case, early_cases, entries_settle, cases_settle, then_same, if_same, follows_take}
use Rattle.ll_grammar.proofs.CompletionLaws.{always_done, token, Any, FirstIs, Always, Starts, Completes, Comp, comp_weak, forget, seq, seq_any, comp_done, comp_take_if, comp_take_some, comp_of, completes_if, completes_some, completes_stopped, completes_done, completes_taken, completes_same, completes_zero, completes_behind, completes_both, starts_done, starts_then, starts_same, starts_weak, starts_lift}
use Rattle.ll_grammar.proofs.CompletionFormLaws.{word, sign, IsW, comp_mark, comp_keyword, comp_name, comp_metadatum, comp_width, comp_one_width, comp_literal, comp_operand, comp_typed, comp_of_width, comp_target, comp_next_target, comp_binary, comp_compare, comp_conversion, comp_select, bit_width, width_fits}

-- ---- calls

comp_call_words : {C : List Tok → Type 0} (n : ℕ) → Comp n call_words Always C (FirstIs (word n (codes "call")))
unfolding call_words
comp_call_words n = comp_of
    (λ m. completes_same _ (λ ts. if bytes_eq (word_at ts) (codes "call") then keyword (codes "call") ts else keyword (codes "call") (drop 1 ts)) (λ ts. push_if (keyword (codes "call")) (bytes_eq (word_at ts) (codes "call")) ts (drop 1 ts))
    (completes_if (λ ts. bytes_eq (word_at ts) (codes "call")) (keyword (codes "call")) (λ ts. keyword (codes "call") (drop 1 ts)) (looks_of_word (λ w. bytes_eq w (codes "call"))) ((comp_keyword n (codes "call")).completes m)
    (completes_behind (keyword (codes "call")) ((comp_keyword n (codes "call")).completes m) (comp_keyword n (codes "call")).starts)))
    (word n (codes "call")) (tt {0}) tt (λ k c. call_words_reads (word n (codes "call") ∷ k) k (inl (word n (codes "call"), refl, refl, refl))) (λ k. (k, refl))

abs_name : ℕ → List ℕ
abs_name w = codes "@llvm.abs." ++ (codes "i" ++ decimal w)

abs_found : (n w : ℕ) → IsW w → (k : List Tok) → callee_at w (token n kinds.Global (abs_name w) ∷ k) ≡ Some callee.Abs
unfolding callee_at kind_at name_at held_name written abs_name
abs_found n w p k = callee_of_reads w callee.Abs p.0 p.1 tt

comp_called : {C : List Tok → Type 0} (n w : ℕ) → IsW w → Comp n (called w) Always C (FirstIs (token n kinds.Global (abs_name w)))
unfolding called
comp_called n w p = comp_take_some (callee_at w) place.Callee (looks_callee w) (λ t x e. tt) (token n kinds.Global (abs_name w)) callee.Abs (abs_found n w p)

comp_last_argument : {C : List Tok → Type 0} (n w : ℕ) (f : Callee) (x : Operand) → IsW w → Comp n (last_argument f w x) Always C Any
unfolding last_argument
comp_last_argument n w (callee.Bin kind) x p = comp_weak (seq_any (of_width w) (λ right ts. Done (op.Bin kind no_flags w x right) ts) (early_of_width w) (comp_of_width n w p) (λ right. comp_done (op.Bin kind no_flags w x right) tt)) (λ k _. tt)
comp_last_argument n w callee.Abs x p = comp_weak (seq_any (one_width 1) (λ _ ts. literal 1 ts >>= λ b ts. Done (op.Abs w x (b == 1)) ts) (early_one_width 1) (comp_one_width n 1 bit_width)
    (λ _. seq_any (literal 1) (λ b ts. Done (op.Abs w x (b == 1)) ts) (early_literal 1) (comp_literal n 1) (λ b. comp_done (op.Abs w x (b == 1)) tt))) (λ k _. tt)

abbrev pub NoGroup : List Tok → Type 0
NoGroup k = group_at k ≡ false

comp_group : (n : ℕ) → Comp n (λ ts. Done (tt {0}) (if group_at ts then drop 1 ts else ts)) Always NoGroup NoGroup
comp_group n = record {
  completes = λ m. completes_same _ (λ ts. if group_at ts then Done (tt {0}) (drop 1 ts) else Done (tt {0}) ts) (λ ts. push_if (λ (l : List Tok). Done (tt {0}) l) (group_at ts) (drop 1 ts) ts)
      (completes_if group_at (λ ts. Done (tt {0}) (drop 1 ts)) (λ ts. Done (tt {0}) ts) looks_group (completes_taken (λ _. tt {0}) (looks_nothing (tt {0})) (λ t. tt)) (completes_done (tt {0})));
  starts = record { more = []; value = tt {0}; fits = tt; reads = λ k none. ap (λ b. Done (tt {0}) (if b then drop 1 k else k)) none; begins = λ k none. none };
}

comp_close_call : (n : ℕ) → Comp n close_call Always NoGroup (FirstIs (sign n 41))
unfolding close_call
comp_close_call n = seq_any (mark 41) (λ _ ts. Done (tt {0}) (if group_at ts then drop 1 ts else ts)) (early_mark 41) (comp_mark n 41) (λ _. comp_group n)

comp_value_call : (n : ℕ) → Comp n value_call Always NoGroup (FirstIs (word n (codes "call")))
unfolding value_call
comp_value_call n =
    seq_any call_words _ early_call_words (comp_call_words n) (λ _. seq width _ width_fits early_width (comp_width {C = Any} n) (λ w p. comp_weak (seq_any (called w) _ (early_called w) (comp_called n w p) (λ f.
    seq_any (mark 40) _ (early_mark 40) (comp_mark n 40) (λ _. seq_any (of_width w) _ (early_of_width w) (comp_of_width n w p) (λ first. seq_any (mark 44) _ (early_mark 44) (comp_mark n 44) (λ _.
    seq_any (last_argument f w first) _ (early_last_argument f w first) (comp_last_argument n w f first p) (λ computed. seq close_call (λ _ ts. Done computed ts) (λ ts. always_done (close_call ts)) early_close_call (comp_close_call n) (λ _ _. comp_done computed tt)))))))
    (λ k _. tt)))

comp_void : {C : List Tok → Type 0} (n : ℕ) → Comp n void Always C (FirstIs (word n (codes "void")))
unfolding void word_at
comp_void n = comp_take_if (λ ts. bytes_eq (word_at ts) (codes "void")) (λ _. tt {0}) place.Type (looks_of_word (λ w. bytes_eq w (codes "void"))) (looks_nothing (tt {0})) (λ t. tt) (word n (codes "void")) (λ k. refl)

comp_assume_callee : {C : List Tok → Type 0} (n : ℕ) → Comp n assume_callee Always C (FirstIs (token n kinds.Global (codes "@llvm.assume")))
unfolding assume_callee assume_at kind_at name_at held_name written
comp_assume_callee n = comp_take_if assume_at (λ _. tt {0}) place.Callee looks_assume (looks_nothing (tt {0})) (λ t. tt) (token n kinds.Global (codes "@llvm.assume")) (λ k. refl)

pub comp_assume : (n : ℕ) → Comp n assume Always NoGroup (FirstIs (word n (codes "call")))
unfolding assume
comp_assume n =
    seq_any call_words _ early_call_words (comp_call_words n) (λ _. seq_any void _ early_void (comp_void n) (λ _. seq_any assume_callee _ early_assume_callee (comp_assume_callee n) (λ _. seq_any (mark 40) _ (early_mark 40) (comp_mark n 40) (λ _.
    seq_any (of_width 1) _ (early_of_width 1) (comp_of_width n 1 bit_width) (λ x. seq close_call (λ _ ts. Done (op.Assume x) ts) (λ ts. always_done (close_call ts)) early_close_call (comp_close_call n) (λ _ _. comp_done (op.Assume x) tt))))))

sext_first : (n : ℕ) (l : List Tok) → operation (word n (codes "sext") ∷ l) ≡ conversion cast.Sext l
unfolding operation binary_of cast_of word_at
sext_first n l = refl

pub comp_operation : (n : ℕ) → Comp n operation Always NoGroup (FirstIs (word n (codes "sext")))
unfolding operation
comp_operation n = record {
  completes = λ m.
      completes_some (λ ts. binary_of (word_at ts)) (λ kind ts. binary kind (drop 1 ts)) _ (looks_of_word binary_of) (λ kind. completes_behind (binary kind) ((comp_binary n kind).completes m) (comp_binary n kind).starts)
      (completes_some (λ ts. cast_of (word_at ts)) (λ kind ts. conversion kind (drop 1 ts)) _ (looks_of_word cast_of) (λ kind. completes_behind (conversion kind) ((comp_conversion n kind).completes m) (comp_conversion n kind).starts)
      (completes_if (λ ts. bytes_eq (word_at ts) (codes "icmp")) (λ ts. compare (drop 1 ts)) _ (looks_of_word (λ w. bytes_eq w (codes "icmp"))) (completes_behind compare ((comp_compare n).completes m) (comp_compare n).starts)
      (completes_if (λ ts. bytes_eq (word_at ts) (codes "select")) (λ ts. select (drop 1 ts)) _ (looks_of_word (λ w. bytes_eq w (codes "select"))) (completes_behind select ((comp_select n).completes m) (comp_select n).starts)
      (completes_if (λ ts. is_call_word (word_at ts)) value_call (λ ts. stopped place.Form ts) (looks_of_word is_call_word) ((comp_value_call n).completes m) (completes_stopped place.Form)))));
  starts = starts_lift (word n (codes "sext")) operation (conversion cast.Sext) (sext_first n) (comp_conversion n cast.Sext).starts;
}

-- ---- phis

abbrev pub NoComma : List Tok → Type 0
NoComma k = mark_at 44 k ≡ false

comp_entry : {C : List Tok → Type 0} (n w : ℕ) → Comp n (entry w) Always C (FirstIs (sign n 91))
unfolding entry
comp_entry n w = seq_any (mark 91) _ (early_mark 91) (comp_mark n 91) (λ _. seq_any (operand w) _ (early_operand w) (comp_operand n w) (λ x. seq_any (mark 44) _ (early_mark 44) (comp_mark n 44) (λ _.
    seq_any (name kinds.Local place.Other) _ (early_name kinds.Local place.Other) (comp_name n kinds.Local place.Other (codes "%a")) (λ from. seq_any (mark 93) (λ _ ts. Done (record { value = x; from = from }) ts) (early_mark 93) (comp_mark n 93) (λ _. comp_done (record { value = x; from = from }) tt)))))

abbrev IsFalse : Bool → Type 0
IsFalse b = b ≡ false

datum : ℕ → Tok
datum n = token n kinds.Meta (codes "!")

behind_comma_starts : {C : List Tok → Type 0} (n : ℕ) → Starts behind_comma IsFalse C Any
unfolding behind_comma metadatum mark_at kind_at datum
behind_comma_starts n = record { more = datum n ∷ datum n ∷ []; value = false; fits = refl; reads = λ k c. refl; begins = λ k c. tt }

behind_comma_complete : {C : List Tok → Type 0} (n m : ℕ) → Completes n m behind_comma IsFalse C
unfolding behind_comma
behind_comma_complete n m = completes_if (mark_at 91) (λ ts. Done true ts) _ (looks_mark 91) (completes_done true)
    ((seq_any metadatum (λ _ ts. metadatum ts >>= λ _ ts. Done false ts) early_metadatum (comp_metadatum n) (λ _. seq_any metadatum (λ _ ts. Done false ts) early_metadatum (comp_metadatum n) (λ _. comp_done false refl))).completes m)

another_complete : (n m : ℕ) → Completes n m another IsFalse NoComma
unfolding another
another_complete n m = completes_if (mark_at 44) (λ ts. behind_comma (drop 1 ts)) (λ ts. Done false ts) (looks_mark 44) (completes_behind behind_comma (behind_comma_complete n m) (behind_comma_starts n)) (completes_done false)

another_starts : Starts another IsFalse NoComma NoComma
unfolding another
another_starts = record { more = []; value = false; fits = refl; reads = λ k none. ap (λ b. if b then behind_comma (drop 1 k) else Done false k) none; begins = λ k none. none }

more_entries : ℕ → List PhiEntry → List Tok → Read (List PhiEntry)
more_entries w es ts = entries w (length ts) es ts

-- behind an entry
after_entry : ℕ → List PhiEntry → PhiEntry → List Tok → Read (List PhiEntry)
after_entry w es e ts = another ts >>= λ follows ts. if follows then more_entries w (es ++ e ∷ []) ts else Done (es ++ e ∷ []) ts

entries_unfold : (w : ℕ) (es : List PhiEntry) (ts : List Tok) → more_entries w es ts ≡ (entry w ts >>= λ e ts. after_entry w es e ts)
unfolding more_entries after_entry entries
entries_unfold w es ts = entries_settle w (length ts) es ts (omega arith) ∙ then_same (entry w ts) _ _ (weaken (entry_sound w ts) (λ e a is. then_same (another a) _ _ (weaken (another_sound a) (λ follows b next.
    if_same follows _ _ _ _ (λ _. settles_from (λ n. entries w n (es ++ e ∷ [])) (λ n ts fits. entries_settle w n (es ++ e ∷ []) ts fits) (length ts) b (omega (arith, (entry_leaves w e ts a is).takes, follows_take follows a b next))) (λ _. refl)))))

after_entry_starts : (w : ℕ) (es : List PhiEntry) (e : PhiEntry) → Starts (after_entry w es e) Always NoComma NoComma
unfolding after_entry
after_entry_starts w es e = starts_then another (λ follows ts. if follows then more_entries w (es ++ e ∷ []) ts else Done (es ++ e ∷ []) ts) another_starts go
  where
    go : (follows : Bool) → follows ≡ false → Starts (λ ts. if follows then more_entries w (es ++ e ∷ []) ts else Done (es ++ e ∷ []) ts) Always NoComma NoComma
    go true is = absurd (true≢false is)
    go false is = starts_done (es ++ e ∷ []) tt

entries_start : (n w : ℕ) (es : List PhiEntry) → Starts (more_entries w es) Always NoComma (FirstIs (sign n 91))
entries_start n w es = starts_same (more_entries w es) (λ ts. entry w ts >>= λ e ts. after_entry w es e ts) (entries_unfold w es) (starts_then (entry w) (λ e ts. after_entry w es e ts) (comp_entry {C = Any} n w).starts (λ e _. starts_weak (after_entry_starts w es e) (λ k _. tt)))

entries_complete : (n w m : ℕ) (es : List PhiEntry) → Completes n m (more_entries w es) Always NoComma
unfolding after_entry
entries_complete n w zero es = completes_zero
entries_complete n w (suc m) es = completes_same (more_entries w es) (λ ts. entry w ts >>= λ e ts. after_entry w es e ts) (entries_unfold w es)
    (completes_both (entry w) (λ e ts. after_entry w es e ts) Always Always Any NoComma n (suc m) m Always (λ ts. weaken (entry_sound w ts) (λ e a is. (tt, λ few. omega (arith, few, (entry_leaves w e ts a is).takes)))) (early_entry w) ((comp_entry n w).completes (suc m))
    (λ e _. completes_both another (λ follows ts. if follows then more_entries w (es ++ e ∷ []) ts else Done (es ++ e ∷ []) ts) IsFalse Always NoComma NoComma n m m Always
    (λ ts. weaken (another_sound ts) (λ follows a next. (tt, λ few. omega (arith, few, follows_take follows ts a next)))) early_another (another_complete n m) (λ follows _. go e follows (entries_complete n w m (es ++ e ∷ []))) (λ follows is. stops e follows is))
    (λ e _. starts_weak (after_entry_starts w es e) (λ k _. tt)))
  where
    go : (e : PhiEntry) (follows : Bool) → Completes n m (more_entries w (es ++ e ∷ [])) Always NoComma → Completes n m (λ ts. if follows then more_entries w (es ++ e ∷ []) ts else Done (es ++ e ∷ []) ts) Always NoComma
    go e true ih = ih
    go e false ih = completes_done (es ++ e ∷ [])

    stops : (e : PhiEntry) (follows : Bool) → follows ≡ false → Starts (λ ts. if follows then more_entries w (es ++ e ∷ []) ts else Done (es ++ e ∷ []) ts) Always NoComma NoComma
    stops e true is = absurd (true≢false is)
    stops e false is = starts_done (es ++ e ∷ []) tt

comp_entries : (n w : ℕ) → Comp n (λ ts. entries w (length ts) [] ts) Always NoComma (FirstIs (sign n 91))
unfolding more_entries
comp_entries n w = record { completes = λ m. entries_complete n w m []; starts = entries_start n w [] }

pub comp_phi : (n : ℕ) (r : List ℕ) → Comp n (phi r) Always NoComma (FirstIs (word n (codes "i1")))
unfolding phi
comp_phi n r = seq_any width _ early_width (forget (comp_width n)) (λ w. seq (λ ts. entries w (length ts) [] ts) (λ es ts. Done (record { name = r; width = w; entries = es }) ts) (λ ts. always_done (entries w (length ts) [] ts))
    (early_within (λ n. entries w n []) (settles_from _ (λ n ts fits. entries_settle w n [] ts fits)) (λ n. early_entries w n [])) (comp_entries n w) (λ es _. comp_done (record { name = r; width = w; entries = es }) tt))

-- ---- terminators

comp_return_value : {C : List Tok → Type 0} (n : ℕ) → Comp n return_value Always C (FirstIs (word n (codes "void")))
unfolding return_value word_at
comp_return_value n = comp_of
    (λ m. completes_if (λ ts. bytes_eq (word_at ts) (codes "void")) (λ ts. Done end.RetVoid (drop 1 ts)) _ (looks_of_word (λ w. bytes_eq w (codes "void"))) (completes_taken (λ _. end.RetVoid) (looks_nothing end.RetVoid) (λ t. tt))
    ((seq_any typed (λ x ts. Done (end.Ret x.0 x.1) ts) early_typed (forget (comp_typed n)) (λ x. comp_done (end.Ret x.0 x.1) tt)).completes m))
    (word n (codes "void")) end.RetVoid tt (λ k c. refl) (λ k. (k, refl))

comp_branch : {C : List Tok → Type 0} (n : ℕ) → Comp n branch Always C Any
unfolding branch
comp_branch n = record {
  completes = λ m. completes_if (λ ts. bytes_eq (word_at ts) (codes "label")) (λ ts. target ts >>= λ to ts. Done (end.Br to) ts) _ (looks_of_word (λ w. bytes_eq w (codes "label")))
      ((seq_any target (λ to ts. Done (end.Br to) ts) early_target (comp_target n) (λ to. comp_done (end.Br to) tt)).completes m)
      ((seq_any (keyword (codes "i1")) (λ _ ts. operand 1 ts >>= λ x ts. next_target ts >>= λ left ts. next_target ts >>= λ right ts. Done (end.CondBr x left right) ts) (early_keyword (codes "i1")) (comp_keyword n (codes "i1")) (λ _. seq_any (operand 1) _ (early_operand 1) (comp_operand n 1) (λ x.
      seq_any next_target _ early_next_target (comp_next_target n) (λ left. seq_any next_target (λ right ts. Done (end.CondBr x left right) ts) early_next_target (comp_next_target n) (λ right. comp_done (end.CondBr x left right) tt))))).completes m);
  starts = record {
    more = word n (codes "label") ∷ token n kinds.Local (codes "%a") ∷ [];
    value = end.Br (held_name kinds.Local (codes "%a"));
    fits = tt;
    reads = λ k c. goto_reads (held_name kinds.Local (codes "%a")) (word n (codes "label") ∷ token n kinds.Local (codes "%a") ∷ k) k
        (token n kinds.Local (codes "%a") ∷ k, (word n (codes "label"), refl, refl, refl), (token n kinds.Local (codes "%a"), refl, refl, refl));
    begins = λ k c. tt;
  };
}

comp_case : {C : List Tok → Type 0} (n : ℕ) → Comp n case Always C (FirstIs (word n (codes "i1")))
unfolding case
comp_case n = seq_any width _ early_width (forget (comp_width n)) (λ w. seq_any (literal w) _ (early_literal w) (comp_literal n w) (λ l. seq_any next_target (λ to ts. Done (record { width = w; value = l; to = to }) ts) early_next_target (comp_next_target n) (λ to. comp_done (record { width = w; value = l; to = to }) tt)))

more_cases : List Case → List Tok → Read (List Case)
more_cases cs ts = cases (length ts) cs ts

cases_unfold : (cs : List Case) (ts : List Tok) → more_cases cs ts ≡ (if mark_at 93 ts then Done cs (drop 1 ts) else (case ts >>= λ c ts. more_cases (cs ++ c ∷ []) ts))
unfolding more_cases cases
cases_unfold cs ts = cases_settle (length ts) cs ts (omega arith) ∙ if_same (mark_at 93 ts) _ _ _ _ (λ _. refl) (λ _. then_same (case ts) _ _ (weaken (case_sound ts) (λ c a is.
    settles_from (λ n. cases n (cs ++ c ∷ [])) (λ n ts fits. cases_settle n (cs ++ c ∷ []) ts fits) (length ts) a (omega (arith, (case_leaves c ts a is).takes)))))

cases_start : {C : List Tok → Type 0} (n : ℕ) (cs : List Case) → Starts (more_cases cs) Always C (FirstIs (sign n 93))
unfolding mark_at
cases_start n cs = record { more = sign n 93 ∷ []; value = cs; fits = tt; reads = λ k c. cases_unfold cs (sign n 93 ∷ k); begins = λ k c. (k, refl) }

cases_complete : {C : List Tok → Type 0} (n m : ℕ) (cs : List Case) → Completes n m (more_cases cs) Always C
cases_complete n zero cs = completes_zero
cases_complete {C} n (suc m) cs = completes_same (more_cases cs) (λ ts. if mark_at 93 ts then Done cs (drop 1 ts) else (case ts >>= λ c ts. more_cases (cs ++ c ∷ []) ts)) (cases_unfold cs)
    (completes_if (mark_at 93) (λ ts. Done cs (drop 1 ts)) (λ ts. case ts >>= λ c ts. more_cases (cs ++ c ∷ []) ts) (looks_mark 93) (completes_taken (λ _. cs) (looks_nothing cs) (λ t. tt))
    (completes_both case (λ c ts. more_cases (cs ++ c ∷ []) ts) Always Always Any C n (suc m) m Always (λ ts. weaken (case_sound ts) (λ c a is. (tt, λ few. omega (arith, few, (case_leaves c ts a is).takes)))) early_case ((comp_case n).completes (suc m))
    (λ c _. cases_complete n m (cs ++ c ∷ [])) (λ c _. starts_weak (cases_start n (cs ++ c ∷ [])) (λ k _. tt))))

comp_cases : {C : List Tok → Type 0} (n : ℕ) → Comp n (λ ts. cases (length ts) [] ts) Always C (FirstIs (sign n 93))
unfolding more_cases
comp_cases n = record { completes = λ m. cases_complete n m []; starts = cases_start n [] }

comp_switch : {C : List Tok → Type 0} (n : ℕ) → Comp n switch Always C (FirstIs (word n (codes "i1")))
unfolding switch
comp_switch n = seq_any typed _ early_typed (forget (comp_typed n)) (λ x. seq_any next_target _ early_next_target (comp_next_target n) (λ default. seq_any (mark 91) _ (early_mark 91) (comp_mark n 91) (λ _.
    seq_any (λ ts. cases (length ts) [] ts) (λ cs ts. Done (end.Switch x.0 x.1 default cs) ts) (early_within (λ n. cases n []) (settles_from _ (λ n ts fits. cases_settle n [] ts fits)) (λ n. early_cases n [])) (comp_cases n) (λ cs. comp_done (end.Switch x.0 x.1 default cs) tt))))

pub comp_terminator : {C : List Tok → Type 0} (n : ℕ) → Comp n terminator Always C (FirstIs (word n (codes "unreachable")))
unfolding terminator
comp_terminator n = comp_of (λ m.
    completes_if (λ ts. bytes_eq (word_at ts) (codes "ret")) (λ ts. return_value (drop 1 ts)) _ (looks_of_word (λ w. bytes_eq w (codes "ret"))) (completes_behind return_value ((comp_return_value n).completes m) (comp_return_value n).starts)
    (completes_if (λ ts. bytes_eq (word_at ts) (codes "br")) (λ ts. branch (drop 1 ts)) _ (looks_of_word (λ w. bytes_eq w (codes "br"))) (completes_behind branch ((comp_branch n).completes m) (comp_branch n).starts)
    (completes_if (λ ts. bytes_eq (word_at ts) (codes "switch")) (λ ts. switch (drop 1 ts)) _ (looks_of_word (λ w. bytes_eq w (codes "switch"))) (completes_behind switch ((comp_switch n).completes m) (comp_switch n).starts)
    (completes_if (λ ts. bytes_eq (word_at ts) (codes "unreachable")) (λ ts. Done end.Unreachable (drop 1 ts)) (λ ts. stopped place.Keyword ts) (looks_of_word (λ w. bytes_eq w (codes "unreachable"))) (completes_taken (λ _. end.Unreachable) (looks_nothing end.Unreachable) (λ t. tt)) (completes_stopped place.Keyword)))))
    (word n (codes "unreachable")) end.Unreachable tt (λ k c. terminator_reads end.Unreachable (word n (codes "unreachable") ∷ k) k (word n (codes "unreachable"), refl, refl, refl)) (λ k. (k, refl))
