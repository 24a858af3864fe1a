-- What is read of a header, and of a whole function, is what spells it.
use Rattle.std.proofs.Common.{◌≡◌, ◌⊎◌, ℕ, zero, suc, Bool, true, false, cond, ◌&&◌, ◌||◌, eqb, List, [], ◌∷◌, ◌++◌, length, drop, Option, Some, None, refl, sym, ap, ◌∙◌, subst, inl, inr, true≢false, arith, append_assoc}
use Rattle.std.specs.Prelude.{codes, if◌then◌else◌, All}
use Rattle.std.specs.List.{list_all}
use Rattle.std.specs.Option.{option_map_or}
use Rattle.std.specs.Str.{bytes_eq}
use Rattle.std.specs.Fmt.{decimal}
use Rattle.std.proofs.lemmas.Bool.{eqb-false}
use Rattle.std.proofs.lemmas.List.Elements.{All-cons}
use Rattle.op_table.specs.Words as tables
use Rattle.ll_token.specs.declared.token.TokenKind.TheVariants as kinds
use Rattle.ll_tree.specs.declared.func.Param.{Param}
use Rattle.ll_tree.specs.declared.func.Range.{Range}
use Rattle.ll_grammar.specs.declared.header.ParamType.{ParamType}
use Rattle.ll_grammar.specs.declared.stop.Place.{Place}
use Rattle.ll_grammar.specs.declared.stop.Place.TheVariants as place
use Rattle.ll_grammar.specs.Tokens.{Tok, is_kind, is_empty, word_at, mark_at, kind_at}
use Rattle.ll_grammar.specs.Reading.{Done, take_some, literal_at}
use Rattle.ll_grammar.specs.Header.{is_among, words_within, words, other_literal, bounds, range_at, ret_type, ranged_result, result_type, param_range, param_type, closing, param, params_within, params, to_body_within, to_body, function}
use Rattle.ll_grammar.specs.Spells as spells
use Rattle.ll_grammar.specs.Spells.{IsWord, IsMark, IsNameOf, IsType, IsLiteral, AreWords, has, AreAttributes, SpellsRange, SpellsAttributes, SpellsResult, SpellsParam, SpellParams, unnamed_with, IsNoBrace, SpellsFunction}
use Rattle.ll_grammar.proofs.DoneLaws.{OnDone, on_done, on_ran_out, on_then, on_if, on_stopped, on_take_if, on_take_some, weaken}
use Rattle.ll_grammar.proofs.TokenLaws.{same_bytes, bytes_same, word_is, mark_is, kind_is, type_is, some_is, none_is}
use Rattle.ll_grammar.proofs.FormLaws.{mark_sound, keyword_sound, name_sound, width_sound, one_width_sound, literal_sound, literal_at_is, has_width_is}
use Rattle.ll_grammar.proofs.FlagLaws.{or_false, or_assoc, bytes_apart}
use Rattle.ll_grammar.proofs.BlockLaws.{blocks_sound}

-- ---- words of a table

-- words of a table that come next, and whether `noundef` is among them, or was before
abbrev AreFrom : List (List ℕ) → Bool → (ts : List Tok) → Bool → List Tok → Type 0
AreFrom those noundef ts found rest = (words : List (List ℕ)) × AreAttributes those words ts rest × (found ≡ (noundef || has (codes "noundef") words))

list_all_cons : {A : Type 0} (test : A → Bool) (x : A) (xs : List A) → test x ≡ true → list_all test xs ≡ true → list_all test (x ∷ xs) ≡ true
list_all_cons test x xs here more = ap (λ (b : Bool). b && list_all test xs) here ∙ more

-- `is_among` and `has` ask for one word in the two orders
pub among_has : (word : List ℕ) (those : List (List ℕ)) → is_among those word ≡ has word those
among_has word [] = refl
among_has word (x ∷ those) = go (bytes_eq word x) (bytes_eq x word) refl refl (among_has word those)
  where
    go : (a b : Bool) → bytes_eq word x ≡ a → bytes_eq x word ≡ b → is_among those word ≡ has word those → (a || is_among those word) ≡ (b || has word those)
    go true true here there e = refl
    go false false here there e = e
    go true false here there e = absurd (true≢false (sym here ∙ bytes_apart x word there))
    go false true here there e = absurd (true≢false (sym there ∙ bytes_apart word x here))

some_word : (those : List (List ℕ)) (word : List ℕ) → is_among those [] ≡ false → is_among those word ≡ true → is_empty word ≡ false
some_word those [] none is = absurd (true≢false (sym is ∙ none))
some_word those (b ∷ bs) none is = refl

words_within_sound : (most : ℕ) (those : List (List ℕ)) (noundef : Bool) (ts : List Tok) → is_among those [] ≡ false → OnDone (words_within most those noundef ts) (AreFrom those noundef ts)
unfolding words_within
words_within_sound zero those noundef ts none = on_done ([], (refl, refl), sym (or_false noundef))
words_within_sound (suc most) those noundef ts none = on_if (is_among those (word_at ts)) _ _
    (λ is. weaken (words_within_sound most those (noundef || bytes_eq (word_at ts) (codes "noundef")) (drop 1 ts) none) (λ found rest w. (
      word_at ts ∷ w.0,
      ((drop 1 ts, word_is _ ts (some_word those _ none is) refl, w.1.0), list_all_cons (λ word. has word those) (word_at ts) w.0 (sym (among_has (word_at ts) those) ∙ is) w.1.1),
      w.2 ∙ sym (or_assoc noundef _ _),
    )))
    (λ _. on_done ([], (refl, refl), sym (or_false noundef)))

pub words_sound : (those : List (List ℕ)) (noundef : Bool) (ts : List Tok) → is_among those [] ≡ false → OnDone (words those noundef ts) (AreFrom those noundef ts)
unfolding words
words_sound those noundef ts none = words_within_sound (length ts) those noundef ts none

pub has_append : (x : List ℕ) (xs ys : List (List ℕ)) → has x (xs ++ ys) ≡ (has x xs || has x ys)
has_append x [] ys = refl
has_append x (w ∷ xs) ys = ap (λ (b : Bool). bytes_eq w x || b) (has_append x xs ys) ∙ or_assoc (bytes_eq w x) (has x xs) (has x ys)

-- ---- ranges

other_literal_is : (w lo hi : ℕ) (ts : List Tok) → other_literal w lo ts ≡ Some hi → IsLiteral w hi ts (drop 1 ts) × (lo ≡ hi → ⊥)
unfolding other_literal
other_literal_is w lo hi ts e = go (literal_at w ts) refl e
  where
    apart : (m : ℕ) (b : Bool) → eqb m lo ≡ b → literal_at w ts ≡ Some m → cond b None (Some m) ≡ Some hi → IsLiteral w hi ts (drop 1 ts) × (lo ≡ hi → ⊥)
    apart m true same is e = none_is e
    apart m false other is e =
        let same : m ≡ hi = some_is _ _ e in
        (literal_at_is w hi ts (is ∙ ap (λ (n : ℕ). Some n) same), λ bad. eqb-false m lo other (same ∙ sym bad))

    go : (o : Option ℕ) → literal_at w ts ≡ o → option_map_or (λ m. if eqb m lo then None else Some m) o None ≡ Some hi → IsLiteral w hi ts (drop 1 ts) × (lo ≡ hi → ⊥)
    go (Some m) is e = apart m (eqb m lo) refl is e
    go None is e = none_is e

abbrev AreBounds : ℕ → (ts : List Tok) → Range → List Tok → Type 0
AreBounds w ts r rest = (r.lo ≡ r.hi → ⊥) × (a b c : List Tok) × IsLiteral w r.lo ts a × IsMark 44 a b × IsLiteral w r.hi b c × IsMark 41 c rest

other_literal_sound : (w lo : ℕ) (ts : List Tok) → OnDone (take_some (other_literal w lo ts) place.Literal ts) (λ hi rest. IsLiteral w hi ts rest × (lo ≡ hi → ⊥))
other_literal_sound w lo ts = on_take_some _ _ ts (λ hi is. other_literal_is w lo hi ts is)

bounds_sound : (w : ℕ) (ts : List Tok) → OnDone (bounds w ts) (AreBounds w ts)
unfolding bounds
bounds_sound w ts =
    on_then _ _ (literal_sound w ts) (λ lo a l. on_then _ _ (mark_sound 44 a) (λ _ b comma.
    on_then _ _ (other_literal_sound w lo b) (λ hi c h.
    on_then _ _ (mark_sound 41 c) (λ _ rest closes. on_done (h.1, a, b, c, l, comma, h.0, closes)))))

-- ---- what stands before the name

ret_type_sound : (ts : List Tok) → OnDone (ret_type ts) (λ r rest. (noundef : Bool) (start : List Tok) → SpellsAttributes tables.header 1 noundef None start ts → SpellsResult r noundef None start rest)
unfolding ret_type
ret_type_sound ts = on_if (bytes_eq (word_at ts) (codes "void")) _ _
    (λ is. on_done (λ noundef start front. (ts, refl, front, word_is _ ts refl (same_bytes _ _ is))))
    (λ _. on_then _ _ (width_sound ts) (λ w a t. on_done (λ noundef start front. (ts, front, t))))

ranged_result_sound : (noundef : Bool) (start a ts : List Tok) → AreFrom tables.header false start noundef a → IsWord (codes "range") a ts
    → OnDone (ranged_result noundef ts) (λ r rest. SpellsResult r.ret r.noundef r.range start rest)
unfolding ranged_result
ranged_result_sound noundef start a ts front word =
    on_then _ _ (mark_sound 40 ts) (λ _ b opens. on_then _ _ (width_sound b) (λ w c t. on_then _ _ (bounds_sound w c) (λ r d bs.
    on_then _ _ (words_sound tables.header noundef d refl) (λ found e more.
    on_take_if _ _ _ e (λ is. (
      e,
      (
        front.0,
        more.0,
        a,
        d,
        front.1,
        (bs.0, ts, b, c, bs.1, bs.2, bs.3, word, opens, t, bs.4, bs.5, bs.6, bs.7),
        more.1,
        more.2 ∙ ap (λ (b : Bool). b || has (codes "noundef") more.0) front.2 ∙ sym (has_append (codes "noundef") front.0 more.0),
      ),
      type_is w e (has_width_is w _ is),
    ))))))

result_type_sound : (ts : List Tok) → OnDone (result_type ts) (λ r rest. SpellsResult r.ret r.noundef r.range ts rest)
unfolding result_type
result_type_sound ts = on_then _ _ (words_sound tables.header false ts refl) (λ noundef a front. on_if (range_at a) _ _
    (λ is. ranged_result_sound noundef ts a (drop 1 a) front (word_is _ a refl (same_bytes _ _ is)))
    (λ _. on_then _ _ (ret_type_sound a) (λ r rest is. on_done (is noundef ts (front.0, front.1, front.2)))))

-- ---- parameters

param_range_sound : (w : ℕ) (noundef : Bool) (start ts : List Tok) → AreFrom tables.attribute false start noundef ts
    → OnDone (param_range w noundef ts) (λ t rest. (t.width ≡ w) × SpellsAttributes tables.attribute w t.noundef t.range start rest)
unfolding param_range
param_range_sound w noundef start ts front = on_if (range_at ts) _ _
    (λ is. on_then _ _ (mark_sound 40 (drop 1 ts)) (λ _ b opens. on_then _ _ (one_width_sound w b) (λ _ c t. on_then _ _ (bounds_sound w c) (λ r d bs.
    on_then _ _ (words_sound tables.attribute noundef d refl) (λ found e more.
    on_done (
      refl,
      (
        front.0,
        more.0,
        ts,
        d,
        front.1,
        (bs.0, drop 1 ts, b, c, bs.1, bs.2, bs.3, word_is _ ts refl (same_bytes _ _ is), opens, t, bs.4, bs.5, bs.6, bs.7),
        more.1,
        more.2 ∙ ap (λ (b : Bool). b || has (codes "noundef") more.0) front.2 ∙ sym (has_append (codes "noundef") front.0 more.0),
      ),
    ))))))
    (λ _. on_done (refl, (front.0, front.1, front.2)))

abbrev IsParamType : (ts : List Tok) → ParamType → List Tok → Type 0
IsParamType ts t rest = (a : List Tok) × IsType t.width ts a × SpellsAttributes tables.attribute t.width t.noundef t.range a rest

param_type_sound : (ts : List Tok) → OnDone (param_type ts) (IsParamType ts)
unfolding param_type
param_type_sound ts = on_then _ _ (width_sound ts) (λ w a t. on_then _ _ (words_sound tables.attribute false a refl) (λ noundef b front.
    weaken (param_range_sound w noundef a b front) (λ made rest is.
    (a, subst (λ w. IsType w ts a) (sym is.0) t, subst (λ w. SpellsAttributes tables.attribute w made.noundef made.range a rest) (sym is.0) is.1))))

-- `,` where another parameter follows, else `)`
abbrev pub closing_mark : Bool → ℕ
closing_mark more = if more then 44 else 41

closing_sound : (at : Place) (ts : List Tok) → OnDone (closing at ts) (λ more rest. IsMark (closing_mark more) ts rest)
unfolding closing
closing_sound at ts = on_if (mark_at 44 ts) _ _ (λ is. on_done (mark_is 44 ts is)) (λ _. on_take_if _ _ _ ts (λ is. mark_is 41 ts is))

pub param_sound : (unnamed : ℕ) (ts : List Tok) → OnDone (param unnamed ts) (λ p rest. (b : List Tok) × SpellsParam unnamed p.0 ts b × IsMark (closing_mark p.1) b rest)
unfolding param
param_sound unnamed ts = on_then _ _ (param_type_sound ts) (λ typed a t. on_if (kind_at kinds.Local a) _ _
    (λ is. on_then _ _ (closing_sound place.Other (drop 1 a)) (λ more rest closes.
    on_done (drop 1 a, (typed.noundef, t.0, a, t.1, t.2, refl, inl (kind_is kinds.Local a is)), closes)))
    (λ _. on_then _ _ (closing_sound place.Keyword a) (λ more rest closes.
    on_done (a, (typed.noundef, t.0, a, t.1, t.2, refl, inr (refl, refl)), closes))))

-- these parameters and others, and how many of all are unnamed
abbrev AreParams : List Param → ℕ → (ts : List Tok) → List Param × ℕ → List Tok → Type 0
AreParams so_far unnamed ts ps rest = (more : List Param) × (ps.0 ≡ so_far ++ more) × SpellParams unnamed more ts rest × (ps.1 ≡ spells.count_unnamed unnamed more)

params_within_sound : (most : ℕ) (so_far : List Param) (unnamed : ℕ) (ts : List Tok) → OnDone (params_within most so_far unnamed ts)
    (λ ps rest. (first : Param) × (more : List Param) × (ps.0 ≡ so_far ++ first ∷ more) × SpellParams unnamed (first ∷ more) ts rest × (ps.1 ≡ spells.count_unnamed unnamed (first ∷ more)))
unfolding params_within
params_within_sound zero so_far unnamed ts = on_ran_out
params_within_sound (suc most) so_far unnamed ts = on_then _ _ (param_sound unnamed ts) (λ p a is. go p.1 p.0 a is.0 is.1 is.2 (params_within_sound most (so_far ++ p.0 ∷ []) (unnamed_with unnamed p.0) a))
  where
    go : (more : Bool) (p : Param) (a b : List Tok) → SpellsParam unnamed p ts b → IsMark (closing_mark more) b a
        → OnDone (params_within most (so_far ++ p ∷ []) (unnamed_with unnamed p) a)
        (λ ps rest. (first : Param) × (more : List Param) × (ps.0 ≡ (so_far ++ p ∷ []) ++ first ∷ more) × SpellParams (unnamed_with unnamed p) (first ∷ more) a rest × (ps.1 ≡ spells.count_unnamed (unnamed_with unnamed p) (first ∷ more)))
        → OnDone (if more then params_within most (so_far ++ p ∷ []) (unnamed_with unnamed p) a else Done (so_far ++ p ∷ [], unnamed_with unnamed p) a)
        (λ ps rest. (first : Param) × (more : List Param) × (ps.0 ≡ so_far ++ first ∷ more) × SpellParams unnamed (first ∷ more) ts rest × (ps.1 ≡ spells.count_unnamed unnamed (first ∷ more)))
    go true p a b is comma ih = weaken ih (λ ps rest w. (p, w.0 ∷ w.1, w.2 ∙ append_assoc so_far (p ∷ []) (w.0 ∷ w.1), (b, a, is, comma, w.3), w.4))
    go false p a b is closes ih = on_done (p, [], refl, (b, is, closes), refl)

params_sound : (ts : List Tok) → OnDone (params ts) (λ ps rest. SpellParams 0 ps.0 ts rest × (ps.1 ≡ spells.count_unnamed 0 ps.0))
unfolding params
params_sound ts = on_if (mark_at 41 ts) _ _
    (λ is. on_done (mark_is 41 ts is, refl))
    (λ _. weaken (params_within_sound (length ts) [] 0 ts) (λ ps rest w.
    (subst (λ all. SpellParams 0 all ts rest) (sym w.2) w.3, w.4 ∙ ap (λ all. spells.count_unnamed 0 all) (sym w.2))))

-- ---- the whole function

abbrev IsBetween : (ts rest : List Tok) → Type 0
IsBetween ts rest = (between brace : List Tok) × (ts ≡ between ++ brace) × All IsNoBrace between × IsMark 123 brace rest

no_mark : (byte : ℕ) (t : Tok) (ts : List Tok) → mark_at byte (t ∷ ts) ≡ false → t.kind ≡ kinds.Mark → t.text ≡ byte ∷ [] → ⊥
unfolding mark_at
no_mark byte t ts other k is =
    true≢false (sym (ap (λ b. b && bytes_eq t.text (byte ∷ [])) (ap (λ k. is_kind k kinds.Mark) k) ∙ bytes_same t.text (byte ∷ []) is) ∙ other)

to_body_within_sound : (most : ℕ) (ts : List Tok) → OnDone (to_body_within most ts) (λ _ rest. IsBetween ts rest)
unfolding to_body_within
to_body_within_sound zero ts = on_ran_out
to_body_within_sound (suc most) ts = on_if (mark_at 123 ts) _ _
    (λ is. on_done ([], ts, refl, (λ k d within. absurd (omega arith)), mark_is 123 ts is))
    (λ no_open. on_if (mark_at 125 ts) _ _ (λ _. on_stopped _ ts) (λ no_close. go ts no_open no_close (to_body_within_sound most (drop 1 ts))))
  where
    go : (ts : List Tok) → mark_at 123 ts ≡ false → mark_at 125 ts ≡ false → OnDone (to_body_within most (drop 1 ts)) (λ _ rest. IsBetween (drop 1 ts) rest) → OnDone (to_body_within most (drop 1 ts)) (λ _ rest. IsBetween ts rest)
    go [] no_open no_close ih = weaken ih (λ _ rest w. w)
    go (t ∷ ts) no_open no_close ih = weaken ih (λ _ rest w.
        (t ∷ w.0, w.1, ap (λ (xs : List Tok). t ∷ xs) w.2, All-cons IsNoBrace t w.0 (λ k text. brace k text) w.3, w.4))
      where
        brace : t.kind ≡ kinds.Mark → (t.text ≡ 123 ∷ []) ⊎ (t.text ≡ 125 ∷ []) → ⊥
        brace k (inl is) = no_mark 123 t ts no_open k is
        brace k (inr is) = no_mark 125 t ts no_close k is

to_body_sound : (ts : List Tok) → OnDone (to_body ts) (λ _ rest. IsBetween ts rest)
unfolding to_body
to_body_sound ts = to_body_within_sound (length ts) ts

pub function_sound : (ts : List Tok) → OnDone (function ts) (λ f rest. SpellsFunction f ts × (rest ≡ []))
unfolding function
function_sound ts =
    on_then _ _ (keyword_sound (codes "define") ts refl) (λ _ result define. on_then _ _ (result_type_sound result) (λ r name_ is_result.
    on_then _ _ (name_sound kinds.Global place.Other name_) (λ f parenthesis is_name. on_then _ _ (mark_sound 40 parenthesis) (λ _ params_ opens.
    on_then _ _ (params_sound params_) (λ ps rest are. on_then _ _ (to_body_sound rest) (λ _ body between.
    on_then _ _ (blocks_sound (decimal ps.1) body) (λ bs end is. on_done (
      record {
        result = result;
        name = name_;
        parenthesis = parenthesis;
        params = params_;
        between = between.0;
        brace = between.1;
        body = body;
        rest = rest;
        is_define = define;
        is_result = is_result;
        is_name = is_name;
        opens = opens;
        are_params = are.0;
        is_between = between.2;
        no_brace = between.3;
        opens_body = between.4;
        is_body = subst (λ (l : List Tok). spells.SpellBody (decimal (spells.count_unnamed 0 ps.0)) bs body l) is.1 (subst (λ (n : ℕ). spells.SpellBody (decimal n) bs body end) are.1 is.0);
      },
      is.1,
    ))))))))
