-- A header, and a whole function, look at no token behind the first one that they leave.
use Rattle.std.proofs.Common.{◌≡◌, ◌≤◌, ℕ, zero, suc, Bool, true, false, ◌||◌, List, [], ◌∷◌, ◌++◌, length, drop, Some, None, refl, sym, ap, arith}
use Rattle.std.specs.Prelude.{codes, if◌then◌else◌}
use Rattle.std.specs.Str.{bytes_eq}
use Rattle.std.specs.Fmt.{decimal}
use Rattle.op_table.specs.Words as tables
use Rattle.ll_token.specs.declared.token.TokenKind.TheVariants as kinds
use Rattle.ll_tree.specs.declared.func.Param.{Param}
use Rattle.ll_tree.specs.declared.func.Ret.TheVariants as ret
use Rattle.ll_grammar.specs.declared.stop.Place.{Place}
use Rattle.ll_grammar.specs.declared.stop.Place.TheVariants as place
use Rattle.ll_grammar.specs.Tokens.{Tok, word_at, mark_at, kind_at, name_at}
use Rattle.ll_grammar.specs.Words.{width_of, has_width}
use Rattle.ll_grammar.specs.Reading.{Done, RanOut, ◌>>=◌, stopped, mark, width, literal_at}
use Rattle.ll_grammar.specs.Header.{is_among, words_within, words, other_literal, bounds, range_at, ret_type, ranged_result, result_type, param_range, param_type, param_of, closing, param, count_unnamed, params_within, params, to_body_within, to_body, function}
use Rattle.ll_grammar.proofs.DoneLaws.{weaken}
use Rattle.ll_grammar.proofs.HeaderLaws.{param_sound}
use Rattle.ll_grammar.proofs.LeavesLaws.{param_leaves}
use Rattle.ll_grammar.proofs.EarlyLaws.{IsEarly, Looks, early_done, early_ran_out, early_taken, early_stopped, early_then, early_if, early_take_if, early_take_some, early_behind, early_within, settles_from}
use Rattle.ll_grammar.proofs.EarlyFormLaws.{looks_mark, looks_kind, looks_name, looks_of_word, looks_nothing, early_mark, early_keyword, early_name, early_width, early_one_width, early_literal, then_same, if_same, behind_fits}
use Rattle.ll_grammar.proofs.EarlyBlockLaws.{early_blocks}

-- ---- words of a table

pub words_settle : (those : List (List ℕ)) → is_among those [] ≡ false → (n : ℕ) (noundef : Bool) (ts : List Tok) → length ts ≤ n → words_within n those noundef ts ≡ words_within (suc n) those noundef ts
unfolding words_within word_at
words_settle those none zero noundef [] fits = sym (ap (λ b. if b then Done (noundef || bytes_eq [] (codes "noundef")) [] else Done noundef []) none)
words_settle those none zero noundef (t ∷ ts) fits = absurd (omega arith)
words_settle those none (suc n) noundef ts fits = if_same (is_among those (word_at ts)) _ _ _ _ (λ _. words_settle those none n (noundef || bytes_eq (word_at ts) (codes "noundef")) (drop 1 ts) (behind_fits n ts fits)) (λ _. refl)

pub early_words_within : (those : List (List ℕ)) (n : ℕ) (noundef : Bool) → IsEarly (words_within n those noundef)
unfolding words_within
early_words_within those zero noundef = early_done noundef
early_words_within those (suc n) noundef =
    early_if (λ ts. is_among those (word_at ts)) (λ ts. words_within n those (noundef || bytes_eq (word_at ts) (codes "noundef")) (drop 1 ts)) (λ ts. Done noundef ts) (looks_of_word (is_among those))
    (early_then (λ ts. Done (noundef || bytes_eq (word_at ts) (codes "noundef")) (drop 1 ts)) (words_within n those) (early_taken (λ ts. noundef || bytes_eq (word_at ts) (codes "noundef")) (looks_of_word (λ w. noundef || bytes_eq w (codes "noundef")))) (early_words_within those n))
    (early_done noundef)

pub early_words : (those : List (List ℕ)) (noundef : Bool) → is_among those [] ≡ false → IsEarly (words those noundef)
unfolding words
early_words those noundef none = early_within (λ n. words_within n those noundef) (settles_from _ (λ n ts fits. words_settle those none n noundef ts fits)) (λ n. early_words_within those n noundef)

-- ---- ranges

pub looks_other : (w lo : ℕ) → Looks (other_literal w lo)
unfolding other_literal literal_at
looks_other w lo t a c = refl

pub early_bounds : (w : ℕ) → IsEarly (bounds w)
unfolding bounds
early_bounds w = early_then _ _ (early_literal w) (λ lo. early_then _ _ (early_mark 44) (λ _. early_then _ _ (early_take_some (other_literal w lo) place.Literal (looks_other w lo)) (λ hi. early_then _ _ (early_mark 41) (λ _. early_done (record { lo = lo; hi = hi })))))

-- ---- what stands before the name

pub early_ret_type : IsEarly ret_type
unfolding ret_type
early_ret_type = early_if (λ ts. bytes_eq (word_at ts) (codes "void")) (λ ts. Done ret.Void (drop 1 ts)) _ (looks_of_word (λ w. bytes_eq w (codes "void"))) (early_taken (λ _. ret.Void) (looks_nothing ret.Void)) (early_then _ _ early_width (λ w. early_done (ret.Int w)))

pub early_ranged_result : (noundef : Bool) → IsEarly (ranged_result noundef)
unfolding ranged_result
early_ranged_result noundef = early_then _ _ (early_mark 40) (λ _. early_then _ _ early_width (λ w. early_then _ _ (early_bounds w) (λ r. early_then _ _ (early_words tables.header noundef refl) (λ found.
    early_take_if (λ ts. has_width w (word_at ts)) (λ _. record { ret = ret.Int w; noundef = found; range = Some r }) place.RangedResult (looks_of_word (has_width w)) (looks_nothing _)))))

pub early_result_type : IsEarly result_type
unfolding result_type
early_result_type = early_then _ _ (early_words tables.header false refl) (λ noundef. early_if (λ ts. range_at ts) (λ ts. ranged_result noundef (drop 1 ts)) (λ ts. ret_type ts >>= λ t ts. Done (record { ret = t; noundef = noundef; range = None }) ts) (looks_of_word (λ w. bytes_eq w (codes "range")))
    (early_behind (ranged_result noundef) (early_ranged_result noundef)) (early_then _ _ early_ret_type (λ t. early_done (record { ret = t; noundef = noundef; range = None }))))

-- ---- parameters

pub early_param_range : (w : ℕ) (noundef : Bool) → IsEarly (param_range w noundef)
unfolding param_range
early_param_range w noundef = early_if (λ ts. range_at ts) _ (λ ts. Done (record { width = w; noundef = noundef; range = None }) ts) (looks_of_word (λ w. bytes_eq w (codes "range")))
    (early_then (λ ts. mark 40 (drop 1 ts)) _ (early_behind (mark 40) (early_mark 40)) (λ _. early_then _ _ (early_one_width w) (λ _. early_then _ _ (early_bounds w) (λ r. early_then _ _ (early_words tables.attribute noundef refl) (λ found. early_done (record { width = w; noundef = found; range = Some r }))))))
    (early_done (record { width = w; noundef = noundef; range = None }))

pub early_param_type : IsEarly param_type
unfolding param_type
early_param_type = early_then _ _ early_width (λ w. early_then _ (λ noundef. param_range w noundef) (early_words tables.attribute false refl) (λ noundef. early_param_range w noundef))

pub early_closing : (at : Place) → IsEarly (closing at)
unfolding closing
early_closing at = early_if (mark_at 44) (λ ts. Done true (drop 1 ts)) _ (looks_mark 44) (early_taken (λ _. true) (looks_nothing true)) (early_take_if (mark_at 41) (λ _. false) at (looks_mark 41) (looks_nothing false))

pub early_param : (unnamed : ℕ) → IsEarly (param unnamed)
unfolding param
early_param unnamed = early_then _ _ early_param_type (λ typed.
    early_if (kind_at kinds.Local) (λ ts. closing place.Other (drop 1 ts) >>= λ more rest. Done (param_of (name_at ts) typed, more) rest) (λ ts. closing place.Keyword ts >>= λ more rest. Done (param_of (decimal unnamed) typed, more) rest) (looks_kind kinds.Local)
    (early_then (λ ts. Done (name_at ts) (drop 1 ts)) (λ n ts. closing place.Other ts >>= λ more rest. Done (param_of n typed, more) rest) (early_taken name_at looks_name)
    (λ n. early_then (closing place.Other) (λ more rest. Done (param_of n typed, more) rest) (early_closing place.Other) (λ more. early_done (param_of n typed, more))))
    (early_then (closing place.Keyword) (λ more rest. Done (param_of (decimal unnamed) typed, more) rest) (early_closing place.Keyword) (λ more. early_done (param_of (decimal unnamed) typed, more))))

nothing_typed : (unnamed : ℕ) → param unnamed [] ≡ RanOut
unfolding param param_type width width_of word_at
nothing_typed unnamed = refl

pub params_settle : (n : ℕ) (so_far : List Param) (unnamed : ℕ) (ts : List Tok) → length ts ≤ n → params_within n so_far unnamed ts ≡ params_within (suc n) so_far unnamed ts
unfolding params_within
params_settle zero so_far unnamed [] fits = sym (ap (λ r. r >>= λ p ts. if p.1 then params_within zero (so_far ++ p.0 ∷ []) (count_unnamed unnamed p.0.name) ts else Done (so_far ++ p.0 ∷ [], count_unnamed unnamed p.0.name) ts) (nothing_typed unnamed))
params_settle zero so_far unnamed (t ∷ ts) fits = absurd (omega arith)
params_settle (suc n) so_far unnamed ts fits = then_same (param unnamed ts) _ _ (weaken (param_sound unnamed ts) (λ p a is.
    if_same p.1 _ _ _ _ (λ _. params_settle n (so_far ++ p.0 ∷ []) (count_unnamed unnamed p.0.name) a (omega (arith, fits, (param_leaves unnamed p.0 ts is.0 is.1).takes, ap length is.2.1))) (λ _. refl)))

pub early_params_within : (n : ℕ) (so_far : List Param) (unnamed : ℕ) → IsEarly (params_within n so_far unnamed)
unfolding params_within
early_params_within zero so_far unnamed = early_ran_out
early_params_within (suc n) so_far unnamed = early_then (param unnamed) (λ p ts. if p.1 then params_within n (so_far ++ p.0 ∷ []) (count_unnamed unnamed p.0.name) ts else Done (so_far ++ p.0 ∷ [], count_unnamed unnamed p.0.name) ts) (early_param unnamed)
    (λ p. go p.0 p.1 (early_params_within n (so_far ++ p.0 ∷ []) (count_unnamed unnamed p.0.name)))
  where
    go : (p : Param) (more : Bool) → IsEarly (params_within n (so_far ++ p ∷ []) (count_unnamed unnamed p.name))
        → IsEarly (λ ts. if more then params_within n (so_far ++ p ∷ []) (count_unnamed unnamed p.name) ts else Done (so_far ++ p ∷ [], count_unnamed unnamed p.name) ts)
    go p true ih = ih
    go p false ih = early_done (so_far ++ p ∷ [], count_unnamed unnamed p.name)

pub early_params : IsEarly params
unfolding params
early_params = early_if (mark_at 41) (λ ts. Done ([], 0) (drop 1 ts)) (λ ts. params_within (length ts) [] 0 ts) (looks_mark 41) (early_taken (λ _. ([], 0)) (looks_nothing ([], 0)))
    (early_within (λ n. params_within n [] 0) (settles_from _ (λ n ts fits. params_settle n [] 0 ts fits)) (λ n. early_params_within n [] 0))

-- ---- the whole function

pub to_body_settle : (n : ℕ) (ts : List Tok) → length ts ≤ n → to_body_within n ts ≡ to_body_within (suc n) ts
unfolding to_body_within mark_at
to_body_settle zero [] fits = refl
to_body_settle zero (t ∷ ts) fits = absurd (omega arith)
to_body_settle (suc n) ts fits = if_same (mark_at 123 ts) _ _ _ _ (λ _. refl) (λ _. if_same (mark_at 125 ts) _ _ _ _ (λ _. refl) (λ _. to_body_settle n (drop 1 ts) (behind_fits n ts fits)))

pub early_to_body_within : (n : ℕ) → IsEarly (to_body_within n)
unfolding to_body_within
early_to_body_within zero = early_ran_out
early_to_body_within (suc n) = early_if (mark_at 123) (λ ts. Done (tt {0}) (drop 1 ts)) _ (looks_mark 123) (early_taken (λ _. tt {0}) (looks_nothing (tt {0})))
    (early_if (mark_at 125) (λ ts. stopped place.Other ts) (λ ts. to_body_within n (drop 1 ts)) (looks_mark 125) (early_stopped place.Other) (early_behind (to_body_within n) (early_to_body_within n)))

pub early_to_body : IsEarly to_body
unfolding to_body
early_to_body = early_within to_body_within (settles_from _ to_body_settle) early_to_body_within

pub early_function : IsEarly function
unfolding function
early_function = early_then _ _ (early_keyword (codes "define")) (λ _. early_then _ _ early_result_type (λ r. early_then _ _ (early_name kinds.Global place.Other) (λ f. early_then _ _ (early_mark 40) (λ _.
    early_then _ _ early_params (λ ps. early_then _ _ early_to_body (λ _. early_then _ _ (early_blocks (decimal ps.1)) (λ bs. early_done (record { name = f; ret = r.ret; ret_noundef = r.noundef; ret_range = r.range; params = ps.0; blocks = bs }))))))))
