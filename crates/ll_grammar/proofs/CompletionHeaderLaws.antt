-- Tokens that begin a header, and a function, can be completed to it.
use Rattle.std.proofs.Common.{◌≡◌, ◌^◌, ◌<◌, ◌≤◌, ℕ, zero, suc, Bool, true, false, ◌||◌, List, [], ◌∷◌, ◌++◌, length, drop, Some, None, refl, ap, ◌∙◌, arith, true≢false, lt-ltb, pow_pos, pow-suc, ne_eqb}
use Rattle.std.specs.Prelude.{codes, if◌then◌else◌}
use Rattle.std.specs.Str.{bytes_eq}
use Rattle.std.specs.Fmt.{decimal}
use Rattle.op_table.specs.Words as tables
use Rattle.ll_token.specs.declared.token.TokenKind.TheVariants as kinds
use Rattle.ll_tree.specs.declared.func.Func.{Func}
use Rattle.ll_tree.specs.declared.func.Param.{Param}
use Rattle.ll_tree.specs.declared.func.Ret.TheVariants as ret
use Rattle.ll_grammar.specs.declared.header.ParamType.{ParamType}
use Rattle.ll_grammar.specs.declared.header.ResultType.{ResultType}
use Rattle.ll_grammar.specs.declared.stop.Place.{Place}
use Rattle.ll_grammar.specs.declared.stop.Place.TheVariants as place
use Rattle.ll_grammar.specs.Tokens.{Tok, word_at, mark_at, kind_at, name_at}
use Rattle.ll_grammar.specs.Words.{has_width, literal_of, number_of, value_below}
use Rattle.ll_grammar.specs.Reading.{Read, Done, ◌>>=◌, stopped, take_if, take_some, mark, name, keyword, width, one_width, literal_at, literal}
use Rattle.ll_grammar.specs.Header.{is_among, words_within, words, other_literal, bounds, range_at, ret_type, ranged_result, result_type, param_range, param_type, param_of, closing, param, count_unnamed, params_within, params, to_body_within, to_body, function}
use Rattle.ll_grammar.specs.Blocks.{blocks}
use Rattle.ll_grammar.proofs.DoneLaws.{OnDone, weaken}
use Rattle.ll_grammar.proofs.HeaderLaws.{param_sound}
use Rattle.ll_grammar.proofs.LeavesLaws.{param_leaves}
use Rattle.ll_grammar.proofs.TokenReadLaws.{has_width_reads}
use Rattle.ll_grammar.proofs.HeaderReadLaws.{type_not_among, no_header_type}
use Rattle.ll_grammar.proofs.EarlyLaws.{IsEarly, early_take_some, early_taken, settles_from}
use Rattle.ll_grammar.proofs.EarlyFormLaws.{looks_mark, looks_kind, looks_name, looks_of_word, looks_nothing, early_mark, early_keyword, early_name, early_width, early_one_width, early_literal, then_same, if_same}
use Rattle.ll_grammar.proofs.EarlyHeaderLaws.{words_settle, early_words, looks_other, early_bounds, early_ret_type, early_result_type, early_param_type, early_closing, early_param, params_settle, early_params, to_body_settle, early_to_body}
use Rattle.ll_grammar.proofs.EarlyBlockLaws.{early_blocks}
use Rattle.ll_grammar.proofs.CompletionLaws.{and_done, shrinks, always_done, token, Any, FirstIs, Always, Starts, Completes, Comp, comp_weak, forget, seq, seq_any, comp_done, comp_take_if, comp_take_some, comp_of, completes_if, completes_stopped, completes_done, completes_taken, completes_same, completes_zero, completes_behind, completes_behind_less, completes_both, completes_take_if, starts_done, starts_then, starts_same, starts_weak, starts_else}
use Rattle.ll_grammar.proofs.CompletionFormLaws.{word, sign, IsW, width_fits, comp_mark, comp_keyword, comp_name, comp_width, comp_one_width, comp_literal}
use Rattle.ll_grammar.proofs.CompletionBlockLaws.{Nothing, comp_blocks}

-- ---- words of a table

abbrev NotAmong : List (List ℕ) → List Tok → Type 0
NotAmong those k = is_among those (word_at k) ≡ false

more_words : List (List ℕ) → Bool → List Tok → Read Bool
more_words those noundef ts = words_within (length ts) those noundef ts

words_unfold : (those : List (List ℕ)) → is_among those [] ≡ false → (noundef : Bool) (ts : List Tok)
    → more_words those noundef ts ≡ (if is_among those (word_at ts) then more_words those (noundef || bytes_eq (word_at ts) (codes "noundef")) (drop 1 ts) else Done noundef ts)
unfolding more_words words_within
words_unfold those none noundef ts = words_settle those none (length ts) noundef ts (omega arith) ∙ if_same (is_among those (word_at ts)) _ _ _ _
    (λ _. settles_from (λ n. words_within n those (noundef || bytes_eq (word_at ts) (codes "noundef"))) (λ n ts2 fits. words_settle those none n (noundef || bytes_eq (word_at ts) (codes "noundef")) ts2 fits) (length ts) (drop 1 ts) (fewer ts)) (λ _. refl)
  where
    fewer : (ts : List Tok) → length (drop 1 ts) ≤ length ts
    fewer [] = omega arith
    fewer (t ∷ ts) = omega arith

words_start : (those : List (List ℕ)) → is_among those [] ≡ false → (noundef : Bool) → Starts (more_words those noundef) Always (NotAmong those) (NotAmong those)
words_start those none noundef = record {
  more = [];
  value = noundef;
  fits = tt;
  reads = λ k out. words_unfold those none noundef k ∙ ap (λ b. if b then more_words those (noundef || bytes_eq (word_at k) (codes "noundef")) (drop 1 k) else Done noundef k) out;
  begins = λ k out. out;
}

words_complete : (n m : ℕ) (those : List (List ℕ)) → is_among those [] ≡ false → (noundef : Bool) → Completes n m (more_words those noundef) Always (NotAmong those)
words_complete n zero those none noundef = completes_zero
words_complete n (suc m) those none noundef = completes_same (more_words those noundef) (λ ts. if is_among those (word_at ts) then more_words those (noundef || bytes_eq (word_at ts) (codes "noundef")) (drop 1 ts) else Done noundef ts) (words_unfold those none noundef)
    (completes_if (λ ts. is_among those (word_at ts)) (λ ts. more_words those (noundef || bytes_eq (word_at ts) (codes "noundef")) (drop 1 ts)) (λ ts. Done noundef ts) (looks_of_word (is_among those))
    (completes_both (λ ts. Done (noundef || bytes_eq (word_at ts) (codes "noundef")) (drop 1 ts)) (more_words those) Always Always Any (NotAmong those) n (suc m) m Always (λ ts. fewer ts)
    (early_taken (λ ts. noundef || bytes_eq (word_at ts) (codes "noundef")) (looks_of_word (λ w. noundef || bytes_eq w (codes "noundef")))) (completes_taken (λ ts. noundef || bytes_eq (word_at ts) (codes "noundef")) (looks_of_word (λ w. noundef || bytes_eq w (codes "noundef"))) (λ t. tt))
    (λ found _. words_complete n m those none found) (λ found _. starts_weak (words_start those none found) (λ k _. tt)))
    (completes_done noundef))
  where
    fewer : (ts : List Tok) → OnDone (Done (noundef || bytes_eq (word_at ts) (codes "noundef")) (drop 1 ts)) (λ x a. Always x × (length ts ≤ suc m → length a ≤ m))
    fewer [] = record { holds = (tt, λ few. omega arith) }
    fewer (t ∷ ts) = record { holds = (tt, λ few. omega (arith, few)) }

comp_words : (n : ℕ) (those : List (List ℕ)) (noundef : Bool) → is_among those [] ≡ false → Comp n (words those noundef) Always (NotAmong those) (NotAmong those)
unfolding words more_words
comp_words n those noundef none = record { completes = λ m. words_complete n m those none noundef; starts = words_start those none noundef }

-- ---- ranges

one_fits : (w : ℕ) → 1 ≤ w → 1 < 2 ^ w
one_fits zero some = absurd (omega arith)
one_fits (suc w) some = omega (arith, pow-suc 2 w, pow_pos w)

comp_other : {C : List Tok → Type 0} (n w lo : ℕ) → IsW w → Comp n (λ ts. take_some (other_literal w lo ts) place.Literal ts) Always C Any
unfolding other_literal literal_at literal_of number_of value_below
comp_other n w zero p = comp_weak (comp_take_some (other_literal w zero) place.Literal (looks_other w zero) (λ t x e. tt) (token n kinds.Number (codes "1")) 1
    (λ k. rw (lt-ltb 1 (2 ^ w) (one_fits w p.0)) refl)) (λ k _. tt)
comp_other n w (suc lo) p = comp_weak (comp_take_some (other_literal w (suc lo)) place.Literal (looks_other w (suc lo)) (λ t x e. tt) (token n kinds.Number (codes "0")) 0
    (λ k. rw (lt-ltb 0 (2 ^ w) (pow_pos w), ne_eqb 0 (suc lo) (λ e. omega (arith, e))) refl)) (λ k _. tt)

comp_bounds : {C : List Tok → Type 0} (n w : ℕ) → IsW w → Comp n (bounds w) Always C (FirstIs (token n kinds.Number (codes "0")))
unfolding bounds
comp_bounds n w p = seq_any (literal w) _ (early_literal w) (comp_literal n w) (λ lo. seq_any (mark 44) _ (early_mark 44) (comp_mark n 44) (λ _. seq_any (λ ts. take_some (other_literal w lo ts) place.Literal ts) (λ hi ts. mark 41 ts >>= λ _ ts. Done (record { lo = lo; hi = hi }) ts) (early_take_some (other_literal w lo) place.Literal (looks_other w lo)) (comp_other n w lo p)
    (λ hi. seq_any (mark 41) (λ _ ts. Done (record { lo = lo; hi = hi }) ts) (early_mark 41) (comp_mark n 41) (λ _. comp_done (record { lo = lo; hi = hi }) tt))))

-- ---- what stands before the name

comp_ret_type : {C : List Tok → Type 0} (n : ℕ) → Comp n ret_type Always C (FirstIs (word n (codes "void")))
unfolding ret_type word_at
comp_ret_type n = comp_of (λ m. completes_if (λ ts. bytes_eq (word_at ts) (codes "void")) (λ ts. Done ret.Void (drop 1 ts)) _ (looks_of_word (λ w. bytes_eq w (codes "void"))) (completes_taken (λ _. ret.Void) (looks_nothing ret.Void) (λ t. tt))
    ((seq_any width (λ w ts. Done (ret.Int w) ts) early_width (forget (comp_width n)) (λ w. comp_done (ret.Int w) tt)).completes m)) (word n (codes "void")) ret.Void tt (λ k c. refl) (λ k. (k, refl))

type_ends_words : (n w : ℕ) (k : List Tok) → IsW w → FirstIs (word n (codes "i" ++ decimal w)) k → NotAmong tables.header k
type_ends_words n w k p (a, e) = type_not_among tables.header w k a ((word n (codes "i" ++ decimal w), e, refl, refl), p.0, p.1) no_header_type

comp_ranged_result : {C : List Tok → Type 0} (n : ℕ) (noundef : Bool) → Comp n (ranged_result noundef) Always C (FirstIs (sign n 40))
unfolding ranged_result
comp_ranged_result n noundef = seq_any (mark 40) _ (early_mark 40) (comp_mark n 40) (λ _. seq width _ width_fits early_width (comp_width {C = Any} n) (λ w p. comp_weak (seq_any (bounds w) _ (early_bounds w) (comp_bounds n w p) (λ r.
    seq (words tables.header noundef) _ (λ ts. always_done (words tables.header noundef ts)) (early_words tables.header noundef refl) (comp_words n tables.header noundef refl) (λ found _. comp_weak
    (comp_take_if (λ ts. has_width w (word_at ts)) (λ _. record { ret = ret.Int w; noundef = found; range = Some r }) place.RangedResult (looks_of_word (has_width w)) (looks_nothing (record { ret = ret.Int w; noundef = found; range = Some r })) (λ t. tt) (word n (codes "i" ++ decimal w))
    (λ k. has_width_reads (word n (codes "i" ++ decimal w) ∷ k) k w ((word n (codes "i" ++ decimal w), refl, refl, refl), p.0, p.1)))
    (λ k first. type_ends_words n w k p first)))) (λ k _. tt)))

void_ends_words : (n : ℕ) (k : List Tok) → FirstIs (word n (codes "void")) k → NotAmong tables.header k
unfolding word_at
void_ends_words n k (a, e) = ap (λ l. is_among tables.header (word_at l)) e

void_no_range : (n : ℕ) (k : List Tok) → FirstIs (word n (codes "void")) k → range_at k ≡ false
unfolding word_at
void_no_range n k (a, e) = ap (λ l. range_at l) e

comp_result_type : {C : List Tok → Type 0} (n : ℕ) → Comp n result_type Always C Any
unfolding result_type
comp_result_type {C} n = comp_weak (seq (words tables.header false) (λ noundef ts. if range_at ts then ranged_result noundef (drop 1 ts) else (ret_type ts >>= λ t ts. Done (record { ret = t; noundef = noundef; range = None }) ts)) (λ ts. always_done (words tables.header false ts)) (early_words tables.header false refl) (comp_words n tables.header false refl)
    (λ noundef _. comp_weak (choice noundef) (void_ends_words n))) (λ k _. tt)
  where
    plain : (noundef : Bool) → Comp {A = ResultType} n (λ ts. ret_type ts >>= λ t ts. Done (record { ret = t; noundef = noundef; range = None }) ts) Always C (FirstIs (word n (codes "void")))
    plain noundef = seq_any ret_type (λ t ts. Done (record { ret = t; noundef = noundef; range = None }) ts) early_ret_type (comp_ret_type n) (λ t. comp_done (record { ret = t; noundef = noundef; range = None }) tt)

    choice : (noundef : Bool) → Comp {A = ResultType} n (λ ts. if range_at ts then ranged_result noundef (drop 1 ts) else (ret_type ts >>= λ t ts. Done (record { ret = t; noundef = noundef; range = None }) ts)) Always C (FirstIs (word n (codes "void")))
    choice noundef = record {
      completes = λ m. completes_if (λ ts. range_at ts) (λ ts. ranged_result noundef (drop 1 ts)) (λ ts. ret_type ts >>= λ t ts. Done (record { ret = t; noundef = noundef; range = None }) ts) (looks_of_word (λ w. bytes_eq w (codes "range")))
          (completes_behind (ranged_result noundef) ((comp_ranged_result n noundef).completes m) (comp_ranged_result {C = C} n noundef).starts) ((plain noundef).completes m);
      starts = starts_else (λ ts. range_at ts) (λ ts. ranged_result noundef (drop 1 ts)) (λ ts. ret_type ts >>= λ t ts. Done (record { ret = t; noundef = noundef; range = None }) ts) (plain noundef).starts (void_no_range n);
    }

-- ---- parameters

abbrev NoWord : List Tok → Type 0
NoWord k = word_at k ≡ []

no_word_among : (k : List Tok) → NoWord k → NotAmong tables.attribute k
no_word_among k none = ap (is_among tables.attribute) none

comp_param_range : (n w : ℕ) (noundef : Bool) → IsW w → Comp n (param_range w noundef) Always NoWord NoWord
unfolding param_range
comp_param_range n w noundef p = record {
  completes = λ m. completes_if (λ ts. range_at ts) (λ ts. mark 40 (drop 1 ts) >>= λ _ ts. one_width w ts >>= λ _ ts. bounds w ts >>= λ r ts. words tables.attribute noundef ts >>= λ found ts. Done (record { width = w; noundef = found; range = Some r }) ts)
      (λ ts. Done (record { width = w; noundef = noundef; range = None }) ts) (looks_of_word (λ w. bytes_eq w (codes "range"))) (completes_behind (λ ts. mark 40 ts >>= λ _ ts. one_width w ts >>= λ _ ts. bounds w ts >>= λ r ts. words tables.attribute noundef ts >>= λ found ts. Done (record { width = w; noundef = found; range = Some r }) ts) (ranged.completes m) ranged.starts)
      (completes_done (record { width = w; noundef = noundef; range = None }));
  starts = record {
    more = [];
    value = record { width = w; noundef = noundef; range = None };
    fits = tt;
    reads = λ k none. ap (λ (x : List ℕ). if bytes_eq x (codes "range") then (mark 40 (drop 1 k) >>= λ _ ts. one_width w ts >>= λ _ ts. bounds w ts >>= λ r ts. words tables.attribute noundef ts >>= λ found ts. Done (record { width = w; noundef = found; range = Some r }) ts) else Done (record { width = w; noundef = noundef; range = None }) k) none;
    begins = λ k none. none;
  };
}
  where
    ranged : Comp {A = ParamType} n (λ ts. mark 40 ts >>= λ _ ts. one_width w ts >>= λ _ ts. bounds w ts >>= λ r ts. words tables.attribute noundef ts >>= λ found ts. Done (record { width = w; noundef = found; range = Some r }) ts) Always NoWord (FirstIs (sign n 40))
    ranged = seq_any (mark 40) (λ _ ts. one_width w ts >>= λ _ ts. bounds w ts >>= λ r ts. words tables.attribute noundef ts >>= λ found ts. Done (record { width = w; noundef = found; range = Some r }) ts) (early_mark 40) (comp_mark n 40) (λ _.
        seq_any (one_width w) (λ _ ts. bounds w ts >>= λ r ts. words tables.attribute noundef ts >>= λ found ts. Done (record { width = w; noundef = found; range = Some r }) ts) (early_one_width w) (comp_one_width n w p) (λ _.
        seq_any (bounds w) (λ r ts. words tables.attribute noundef ts >>= λ found ts. Done (record { width = w; noundef = found; range = Some r }) ts) (early_bounds w) (comp_bounds n w p) (λ r.
        seq (words tables.attribute noundef) (λ found ts. Done (record { width = w; noundef = found; range = Some r }) ts) (λ ts. always_done (words tables.attribute noundef ts)) (early_words tables.attribute noundef refl) (comp_words n tables.attribute noundef refl)
        (λ found _. comp_weak (comp_done {C = NoWord} (record { width = w; noundef = found; range = Some r }) tt) no_word_among))))

comp_param_type : (n : ℕ) → Comp n param_type Always NoWord (FirstIs (word n (codes "i1")))
unfolding param_type
comp_param_type n = seq width (λ w ts. words tables.attribute false ts >>= λ noundef ts. param_range w noundef ts) width_fits early_width (comp_width {C = Any} n) (λ w p. comp_weak
    (seq (words tables.attribute false) (λ noundef ts. param_range w noundef ts) (λ ts. always_done (words tables.attribute false ts)) (early_words tables.attribute false refl) (comp_words n tables.attribute false refl) (λ noundef _. comp_weak (comp_param_range n w noundef p) no_word_among)) (λ k _. tt))

abbrev IsFalse : Bool → Type 0
IsFalse b = b ≡ false

loose : {A : Type 0} {X : List Tok → Read A} {P : A → Type 0} {C S : List Tok → Type 0} → Starts X P C S → Starts X Always C S
loose s = record { more = s.more; value = s.value; fits = tt; reads = s.reads; begins = s.begins }

bound : {A : Type 0} (X : List Tok → Read A) → IsEarly X → (ts : List Tok) (m : ℕ) → OnDone (X ts) (λ x a. Always x × (length ts ≤ m → length a ≤ m))
bound X early ts m = and_done (X ts) (always_done (X ts)) (shrinks X ts m (X ts) (early.early ts))

comp_closing : {C : List Tok → Type 0} (n : ℕ) (at : Place) → ((m : ℕ) → Completes n m (closing at) Always C) × Starts (closing at) IsFalse C (FirstIs (sign n 41))
unfolding closing mark_at
comp_closing n at = (
  λ m. completes_if (mark_at 44) (λ ts. Done true (drop 1 ts)) (λ ts. take_if (mark_at 41 ts) false at ts) (looks_mark 44) (completes_taken (λ _. true) (looks_nothing true) (λ t. tt)) (completes_take_if (mark_at 41) (λ _. false) at (looks_mark 41) (looks_nothing false) (λ t. tt)),
  record { more = sign n 41 ∷ []; value = false; fits = refl; reads = λ k c. refl; begins = λ k c. (k, refl) },
)

-- the last parameter
abbrev IsLast : Param × Bool → Type 0
IsLast p = p.1 ≡ false

-- what stands behind the type of a parameter
behind_type : ℕ → ParamType → List Tok → Read (Param × Bool)
behind_type unnamed typed ts = if kind_at kinds.Local ts then (closing place.Other (drop 1 ts) >>= λ more rest. Done (param_of (name_at ts) typed, more) rest) else (closing place.Keyword ts >>= λ more rest. Done (param_of (decimal unnamed) typed, more) rest)

closed : {C : List Tok → Type 0} (n m : ℕ) (at : Place) (x : Param) → Completes {A = Param × Bool} n m (λ ts. closing at ts >>= λ more rest. Done (x, more) rest) Always C
closed {C} n m at x = completes_both (closing at) (λ more rest. Done (x, more) rest) Always Always Any C n m m Always (λ ts. bound (closing at) (early_closing at) ts m) (early_closing at) ((comp_closing n at).0 m) (λ more _. completes_done (x, more)) (λ more _. starts_weak (starts_done {C = C} (x, more) tt) (λ k _. tt))

closed_starts : {C : List Tok → Type 0} (n : ℕ) (at : Place) (x : Param) → Starts {A = Param × Bool} (λ ts. closing at ts >>= λ more rest. Done (x, more) rest) IsLast C (FirstIs (sign n 41))
closed_starts {C} n at x = starts_then (closing at) (λ more rest. Done (x, more) rest) (comp_closing {C = Any} n at).1 (λ more last. starts_weak (starts_done {C = C} (x, more) last) (λ k _. tt))

sign_no_local : (n byte : ℕ) (k : List Tok) → FirstIs (sign n byte) k → kind_at kinds.Local k ≡ false
unfolding kind_at
sign_no_local n byte k (a, e) = ap (kind_at kinds.Local) e

sign_no_word : (n byte : ℕ) (k : List Tok) → FirstIs (sign n byte) k → NoWord k
unfolding word_at
sign_no_word n byte k (a, e) = ap word_at e

behind_type_complete : {C : List Tok → Type 0} (n m unnamed : ℕ) (typed : ParamType) → Completes n m (behind_type unnamed typed) Always C
unfolding behind_type
behind_type_complete {C} n m unnamed typed = completes_if (kind_at kinds.Local) (λ ts. closing place.Other (drop 1 ts) >>= λ more rest. Done (param_of (name_at ts) typed, more) rest) (λ ts. closing place.Keyword ts >>= λ more rest. Done (param_of (decimal unnamed) typed, more) rest) (looks_kind kinds.Local)
    (completes_both (λ ts. Done (name_at ts) (drop 1 ts)) (λ name_ ts. closing place.Other ts >>= λ more rest. Done (param_of name_ typed, more) rest) Always Always Any C n m m Always (λ ts. bound (λ ts. Done (name_at ts) (drop 1 ts)) (early_taken name_at looks_name) ts m) (early_taken name_at looks_name) (completes_taken name_at looks_name (λ t. tt))
    (λ name_ _. closed n m place.Other (param_of name_ typed)) (λ name_ _. starts_weak (loose (closed_starts n place.Other (param_of name_ typed))) (λ k _. tt)))
    (closed n m place.Keyword (param_of (decimal unnamed) typed))

behind_type_starts : {C : List Tok → Type 0} (n unnamed : ℕ) (typed : ParamType) → Starts (behind_type unnamed typed) IsLast C NoWord
unfolding behind_type
behind_type_starts n unnamed typed = starts_weak (starts_else (kind_at kinds.Local) (λ ts. closing place.Other (drop 1 ts) >>= λ more rest. Done (param_of (name_at ts) typed, more) rest) (λ ts. closing place.Keyword ts >>= λ more rest. Done (param_of (decimal unnamed) typed, more) rest)
    (closed_starts n place.Keyword (param_of (decimal unnamed) typed)) (sign_no_local n 41)) (sign_no_word n 41)

param_starts : {C : List Tok → Type 0} (n unnamed : ℕ) → Starts (param unnamed) IsLast C (FirstIs (word n (codes "i1")))
unfolding param behind_type
param_starts n unnamed = starts_then param_type (behind_type unnamed) (comp_param_type n).starts (λ typed _. behind_type_starts n unnamed typed)

param_complete : {C : List Tok → Type 0} (n m unnamed : ℕ) → Completes n m (param unnamed) Always C
unfolding param behind_type
param_complete {C} n m unnamed = completes_both param_type (behind_type unnamed) Always Always NoWord C n m m Always (λ ts. bound param_type early_param_type ts m) early_param_type ((comp_param_type n).completes m)
    (λ typed _. behind_type_complete n m unnamed typed) (λ typed _. loose (behind_type_starts n unnamed typed))

more_params : List Param → ℕ → List Tok → Read (List Param × ℕ)
more_params ps unnamed ts = params_within (length ts) ps unnamed ts

after_param : List Param → ℕ → Param × Bool → List Tok → Read (List Param × ℕ)
after_param ps unnamed p ts = if p.1 then more_params (ps ++ p.0 ∷ []) (count_unnamed unnamed p.0.name) ts else Done (ps ++ p.0 ∷ [], count_unnamed unnamed p.0.name) ts

params_unfold : (ps : List Param) (unnamed : ℕ) (ts : List Tok) → more_params ps unnamed ts ≡ (param unnamed ts >>= after_param ps unnamed)
unfolding more_params after_param params_within
params_unfold ps unnamed ts = params_settle (length ts) ps unnamed ts (omega arith) ∙ then_same (param unnamed ts) _ _ (weaken (param_sound unnamed ts) (λ p a is. if_same p.1 _ _ _ _
    (λ _. settles_from (λ n. params_within n (ps ++ p.0 ∷ []) (count_unnamed unnamed p.0.name)) (λ n ts fits. params_settle n (ps ++ p.0 ∷ []) (count_unnamed unnamed p.0.name) ts fits) (length ts) a (omega (arith, (param_leaves unnamed p.0 ts is.0 is.1).takes, ap length is.2.1))) (λ _. refl)))

last_starts : {C : List Tok → Type 0} (ps : List Param) (unnamed : ℕ) (p : Param) (more : Bool) → more ≡ false → Starts (after_param ps unnamed (p, more)) Always C Any
unfolding after_param
last_starts ps unnamed p true last = absurd (true≢false last)
last_starts {C} ps unnamed p false last = starts_weak (starts_done {C = C} (ps ++ p ∷ [], count_unnamed unnamed p.name) tt) (λ k _. tt)

params_start : {C : List Tok → Type 0} (n : ℕ) (ps : List Param) (unnamed : ℕ) → Starts (more_params ps unnamed) Always C (FirstIs (word n (codes "i1")))
params_start n ps unnamed = starts_same (more_params ps unnamed) (λ ts. param unnamed ts >>= after_param ps unnamed) (params_unfold ps unnamed) (starts_then (param unnamed) (after_param ps unnamed) (param_starts {C = Any} n unnamed) (λ p last. last_starts ps unnamed p.0 p.1 last))

after_starts : {C : List Tok → Type 0} (n : ℕ) (ps : List Param) (unnamed : ℕ) (p : Param) (more : Bool) → Starts (after_param ps unnamed (p, more)) Always C Any
unfolding after_param
after_starts n ps unnamed p true = starts_weak (params_start n (ps ++ p ∷ []) (count_unnamed unnamed p.name)) (λ k _. tt)
after_starts {C} n ps unnamed p false = starts_weak (starts_done {C = C} (ps ++ p ∷ [], count_unnamed unnamed p.name) tt) (λ k _. tt)

params_complete : {C : List Tok → Type 0} (n m : ℕ) (ps : List Param) (unnamed : ℕ) → Completes n m (more_params ps unnamed) Always C
unfolding after_param
params_complete n zero ps unnamed = completes_zero
params_complete {C} n (suc m) ps unnamed = completes_same (more_params ps unnamed) (λ ts. param unnamed ts >>= after_param ps unnamed) (params_unfold ps unnamed)
    (completes_both (param unnamed) (after_param ps unnamed) Always Always Any C n (suc m) m Always
    (λ ts. weaken (param_sound unnamed ts) (λ p a is. (tt, λ few. omega (arith, few, (param_leaves unnamed p.0 ts is.0 is.1).takes, ap length is.2.1)))) (early_param unnamed) (param_complete n (suc m) unnamed)
    (λ p _. go p.0 p.1 (params_complete n m (ps ++ p.0 ∷ []) (count_unnamed unnamed p.0.name))) (λ p _. after_starts n ps unnamed p.0 p.1))
  where
    go : (p : Param) (more : Bool) → Completes n m (more_params (ps ++ p ∷ []) (count_unnamed unnamed p.name)) Always C → Completes n m (after_param ps unnamed (p, more)) Always C
    go p true ih = ih
    go p false ih = completes_done (ps ++ p ∷ [], count_unnamed unnamed p.name)

comp_params : {C : List Tok → Type 0} (n : ℕ) → Comp n params Always C (FirstIs (sign n 41))
unfolding params more_params mark_at
comp_params n = comp_of (λ m. completes_if (mark_at 41) (λ ts. Done ([], 0) (drop 1 ts)) (λ ts. params_within (length ts) [] 0 ts) (looks_mark 41) (completes_taken (λ _. ([], 0)) (looks_nothing ([], 0)) (λ t. tt)) (params_complete n m [] 0))
    (sign n 41) ([], 0) tt (λ k c. refl) (λ k. (k, refl))

-- ---- the whole function

to_body_unfold : (ts : List Tok) → to_body ts ≡ (if mark_at 123 ts then Done (tt {0}) (drop 1 ts) else (if mark_at 125 ts then stopped place.Other ts else to_body (drop 1 ts)))
unfolding to_body to_body_within
to_body_unfold ts = to_body_settle (length ts) ts (omega arith) ∙ if_same (mark_at 123 ts) _ _ _ _ (λ _. refl) (λ _. if_same (mark_at 125 ts) _ _ _ _ (λ _. refl) (λ _. settles_from to_body_within to_body_settle (length ts) (drop 1 ts) (fewer ts)))
  where
    fewer : (ts : List Tok) → length (drop 1 ts) ≤ length ts
    fewer [] = omega arith
    fewer (t ∷ ts) = omega arith

to_body_start : {C : List Tok → Type 0} (n : ℕ) → Starts to_body Always C (FirstIs (sign n 123))
unfolding mark_at
to_body_start n = record { more = sign n 123 ∷ []; value = tt {0}; fits = tt; reads = λ k c. to_body_unfold (sign n 123 ∷ k); begins = λ k c. (k, refl) }

to_body_complete : {C : List Tok → Type 0} (n m : ℕ) → Completes n m to_body Always C
to_body_complete n zero = completes_zero
to_body_complete n (suc m) = completes_same to_body (λ ts. if mark_at 123 ts then Done (tt {0}) (drop 1 ts) else (if mark_at 125 ts then stopped place.Other ts else to_body (drop 1 ts))) to_body_unfold
    (completes_if (mark_at 123) (λ ts. Done (tt {0}) (drop 1 ts)) (λ ts. if mark_at 125 ts then stopped place.Other ts else to_body (drop 1 ts)) (looks_mark 123) (completes_taken (λ _. tt {0}) (looks_nothing (tt {0})) (λ t. tt))
    (completes_if (mark_at 125) (λ ts. stopped place.Other ts) (λ ts. to_body (drop 1 ts)) (looks_mark 125) (completes_stopped place.Other) (completes_behind_less to_body (to_body_complete n m) (to_body_start n))))

comp_to_body : {C : List Tok → Type 0} (n : ℕ) → Comp n to_body Always C (FirstIs (sign n 123))
comp_to_body n = record { completes = to_body_complete n; starts = to_body_start n }

pub comp_function : (n : ℕ) → Comp {A = Func} n function Always Nothing (FirstIs (word n (codes "define")))
unfolding function
comp_function n = seq_any (keyword (codes "define")) _ (early_keyword (codes "define")) (comp_keyword n (codes "define")) (λ _. seq_any result_type _ early_result_type (comp_result_type n) (λ r. seq_any (name kinds.Global place.Other) _ (early_name kinds.Global place.Other) (comp_name n kinds.Global place.Other (codes "@a")) (λ f.
    seq_any (mark 40) _ (early_mark 40) (comp_mark n 40) (λ _. seq_any params _ early_params (comp_params n) (λ ps. seq_any to_body _ early_to_body (comp_to_body n) (λ _.
    seq (blocks (decimal ps.1)) (λ bs ts. Done (record { name = f; ret = r.ret; ret_noundef = r.noundef; ret_range = r.range; params = ps.0; blocks = bs }) ts) (λ ts. always_done (blocks (decimal ps.1) ts)) (early_blocks (decimal ps.1)) (comp_blocks n (decimal ps.1))
    (λ bs _. comp_done (record { name = f; ret = r.ret; ret_noundef = r.noundef; ret_range = r.range; params = ps.0; blocks = bs }) tt)))))))
