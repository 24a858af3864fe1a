-- What spells a header, and a whole function, is read as it.
use Rattle.std.proofs.Common.{◌≡◌, ◌≤◌, ℕ, zero, suc, Bool, true, false, ◌&&◌, ◌||◌, eqb, List, [], ◌∷◌, ◌++◌, length, drop, Option, Some, None, refl, sym, ap, ◌∙◌, subst, inl, inr, true≢false, arith, append_assoc, ne_eqb}
use Rattle.std.specs.Prelude.{codes, if◌then◌else◌, All}
use Rattle.std.specs.List.{list_all}
use Rattle.std.specs.Option.{option_map_or}
use Rattle.std.specs.Str.{bytes_eq}
use Rattle.std.specs.Fmt.{decimal}
use Rattle.std.proofs.lemmas.List.Elements.{All-head, All-tail}
use Rattle.op_table.specs.Words as tables
use Rattle.ll_token.specs.declared.token.TokenKind.TheVariants as kinds
use Rattle.ll_tree.specs.declared.func.Func.{Func}
use Rattle.ll_tree.specs.declared.func.Param.{Param}
use Rattle.ll_tree.specs.declared.func.Range.{Range}
use Rattle.ll_tree.specs.declared.func.Ret.{Ret}
use Rattle.ll_tree.specs.declared.func.Ret.TheVariants as ret
use Rattle.ll_grammar.specs.declared.stop.Place.{Place}
use Rattle.ll_grammar.specs.declared.stop.Place.TheVariants as place
use Rattle.ll_grammar.specs.Tokens.{Tok, is_kind, word_at, mark_at, kind_at}
use Rattle.ll_grammar.specs.Words.{width_of, digits_width}
use Rattle.ll_grammar.specs.Reading.{Done, mark}
use Rattle.ll_grammar.specs.Header.{is_among, words_within, words, other_literal, bounds, range_at, ret_type, ranged_result, result_type, param_range, param_type, param_of, closing, param, params_within, params, to_body_within, to_body, function}
use Rattle.ll_grammar.specs.Spells as spells
use Rattle.ll_grammar.specs.Spells.{IsWord, IsMark, IsNameOf, IsType, IsLiteral, AreWords, has, AreAttributes, SpellsRange, SpellsAttributes, SpellsResult, SpellsParam, SpellParams, unnamed_with, IsNoBrace, SpellsFunction}
use Rattle.ll_grammar.proofs.TokenLaws.{both_true, same_bytes, bytes_same, same_kind, none_is}
use Rattle.ll_grammar.proofs.FlagLaws.{or_false, or_assoc}
use Rattle.ll_grammar.proofs.HeaderLaws.{among_has, has_append, closing_mark}
use Rattle.ll_grammar.proofs.LeavesLaws.{words_leave, param_leaves}
use Rattle.ll_grammar.proofs.TokenReadLaws.{then_reads, if_reads, else_reads, take_if_reads, take_some_reads, behind_first, at_token, at_word, at_kind, at_mark, at_name, mark_there, kind_there, other_mark, type_apart, mark_reads, keyword_reads, name_reads, width_reads, has_width_reads, one_width_reads, literal_at_reads, literal_reads}
use Rattle.ll_grammar.proofs.BlockReadLaws.{blocks_reads}

-- ---- words of a table

pub words_within_reads : (ws : List (List ℕ)) (most : ℕ) (those : List (List ℕ)) (noundef : Bool) (ts rest : List Tok) → length ws ≤ most → AreAttributes those ws ts rest → is_among those (word_at rest) ≡ false
    → words_within most those noundef ts ≡ Done (noundef || has (codes "noundef") ws) rest
unfolding words_within
words_within_reads [] zero those noundef ts rest few (here, all) none = ap (λ (l : List Tok). Done noundef l) here ∙ ap (λ (b : Bool). Done b rest) (sym (or_false noundef))
words_within_reads [] (suc most) those noundef ts rest few (here, all) none =
    else_reads (is_among those (word_at ts)) _ _ (ap (λ l. is_among those (word_at l)) here ∙ none) (ap (λ (l : List Tok). Done noundef l) here ∙ ap (λ (b : Bool). Done b rest) (sym (or_false noundef)))
words_within_reads (w ∷ ws) zero those noundef ts rest few are none = absurd (omega arith)
words_within_reads (w ∷ ws) (suc most) those noundef ts rest few ((a, is, more), all) none =
    let p = both_true _ _ all in
    let at = at_word ts a w is in
    if_reads (is_among those (word_at ts)) _ _ (ap (is_among those) at ∙ among_has w those ∙ p.0)
    (ap (λ x. words_within most those (noundef || bytes_eq x (codes "noundef")) (drop 1 ts)) at ∙ ap (words_within most those (noundef || bytes_eq w (codes "noundef"))) (behind_first ts a is.0 is.1)
    ∙ words_within_reads ws most those (noundef || bytes_eq w (codes "noundef")) a rest (omega (arith, few)) (more, p.1) none
    ∙ ap (λ (b : Bool). Done b rest) (sym (or_assoc noundef (bytes_eq w (codes "noundef")) (has (codes "noundef") ws))))

pub words_reads : (ws those : List (List ℕ)) (noundef : Bool) (ts rest : List Tok) → AreAttributes those ws ts rest → is_among those (word_at rest) ≡ false → words those noundef ts ≡ Done (noundef || has (codes "noundef") ws) rest
unfolding words
words_reads ws those noundef ts rest are none = words_within_reads ws (length ts) those noundef ts rest (omega (arith, (words_leave ws ts rest are.0).takes)) are none

pub no_width : List ℕ → Bool
no_width word = option_map_or (λ w. false) (width_of word) true

no_width_is : (word : List ℕ) → no_width word ≡ true → width_of word ≡ None
unfolding no_width
no_width_is word = go (width_of word)
  where
    go : (o : Option ℕ) → option_map_or (λ w. false) o true ≡ true → o ≡ None
    go (Some w) e = absurd (true≢false (sym e))
    go None e = refl

-- a type is no word of a table without types
pub type_not_among : (those : List (List ℕ)) (w : ℕ) (ts rest : List Tok) → IsType w ts rest → list_all no_width those ≡ true → is_among those (word_at ts) ≡ false
type_not_among [] w ts rest t none = refl
type_not_among (x ∷ those) w ts rest t none =
    let p = both_true _ _ none in
    ap (λ (b : Bool). b || is_among those (word_at ts)) (type_apart ts rest w x t (no_width_is x p.0)) ∙ type_not_among those w ts rest t p.1

pub no_header_type : list_all no_width tables.header ≡ true
unfolding no_width width_of digits_width
no_header_type = refl

-- ---- ranges

pub other_literal_reads : (w lo hi : ℕ) (ts rest : List Tok) → (lo ≡ hi → ⊥) → IsLiteral w hi ts rest → other_literal w lo ts ≡ Some hi
unfolding other_literal
other_literal_reads w lo hi ts rest apart l =
    ap (λ o. option_map_or (λ m. if eqb m lo then None else Some m) o None) (literal_at_reads ts rest w hi l) ∙ ap (λ b. if b then None else Some hi) (ne_eqb hi lo (λ e. apart (sym e)))

pub bounds_reads : (w : ℕ) (r : Range) (ts a b c rest : List Tok) → (r.lo ≡ r.hi → ⊥) → IsLiteral w r.lo ts a → IsMark 44 a b → IsLiteral w r.hi b c → IsMark 41 c rest → bounds w ts ≡ Done r rest
unfolding bounds
bounds_reads w r ts a b c rest apart lo comma hi closes =
    then_reads _ _ (literal_reads ts a w r.lo lo) (then_reads _ _ (mark_reads a b 44 comma)
    (then_reads _ _ (take_some_reads (other_literal w r.lo b) place.Literal b c hi.1 (other_literal_reads w r.lo r.hi b c apart hi)) (then_reads _ _ (mark_reads c rest 41 closes) refl)))

-- ---- what stands before the name

pub ranged_result_reads : (w : ℕ) (noundef : Bool) (r : Range) (behind : List (List ℕ)) (ts a b c d e g rest : List Tok) → (r.lo ≡ r.hi → ⊥) → IsMark 40 ts a → IsType w a b → IsLiteral w r.lo b c → IsMark 44 c d
    → IsLiteral w r.hi d e → IsMark 41 e g → (h : List Tok) → AreAttributes tables.header behind g h → IsType w h rest
    → ranged_result noundef ts ≡ Done (record { ret = ret.Int w; noundef = noundef || has (codes "noundef") behind; range = Some r }) rest
unfolding ranged_result
ranged_result_reads w noundef r behind ts a b c d e g rest apart opens t lo comma hi closes h more type =
    then_reads _ _ (mark_reads ts a 40 opens) (then_reads _ _ (width_reads a b w t) (then_reads _ _ (bounds_reads w r b c d e g apart lo comma hi closes)
    (then_reads _ _ (words_reads behind tables.header noundef g h more (type_not_among tables.header w h rest type no_header_type))
    (take_if_reads _ _ _ h rest type.0.1 (has_width_reads h rest w type)))))

pub void_reads : (ts rest : List Tok) → IsWord (codes "void") ts rest → ret_type ts ≡ Done ret.Void rest
unfolding ret_type
void_reads ts rest is = if_reads (bytes_eq (word_at ts) (codes "void")) _ _ (bytes_same _ _ (at_word ts rest _ is)) (ap (λ (l : List Tok). Done ret.Void l) (behind_first ts rest is.0 is.1))

pub int_reads : (w : ℕ) (ts rest : List Tok) → IsType w ts rest → ret_type ts ≡ Done (ret.Int w) rest
unfolding ret_type width_of
int_reads w ts rest t = else_reads (bytes_eq (word_at ts) (codes "void")) _ _ (type_apart ts rest w (codes "void") t refl) (then_reads _ _ (width_reads ts rest w t) refl)

pub plain_result_reads : (r : Ret) (ws : List (List ℕ)) (ts a rest : List Tok) → AreAttributes tables.header ws ts a → is_among tables.header (word_at a) ≡ false → range_at a ≡ false → ret_type a ≡ Done r rest
    → result_type ts ≡ Done (record { ret = r; noundef = has (codes "noundef") ws; range = None }) rest
unfolding result_type
plain_result_reads r ws ts a rest are none no_range e =
    then_reads _ _ (words_reads ws tables.header false ts a are none) (else_reads (range_at a) _ _ no_range (then_reads _ _ e refl))

pub type_no_range : (w : ℕ) (ts rest : List Tok) → IsType w ts rest → range_at ts ≡ false
unfolding width_of
type_no_range w ts rest t = type_apart ts rest w (codes "range") t refl

pub result_type_reads : (r : Ret) (noundef : Bool) (range : Option Range) (ts rest : List Tok) → SpellsResult r noundef range ts rest → result_type ts ≡ Done (record { ret = r; noundef = noundef; range = range }) rest
unfolding result_type
result_type_reads ret.Void noundef (Some r) ts rest (a, none, attributes, is) = none_is (sym none)
result_type_reads ret.Void noundef None ts rest (a, none, (ws, are, found), is) =
    plain_result_reads ret.Void ws ts a rest are (ap (is_among tables.header) (at_word a rest _ is)) (ap (λ (x : List ℕ). bytes_eq x (codes "range")) (at_word a rest _ is)) (void_reads a rest is)
    ∙ ap (λ (b : Bool). Done (record { ret = ret.Void; noundef = b; range = None }) rest) (sym found)
result_type_reads (ret.Int w) noundef None ts rest (a, (ws, are, found), t) =
    plain_result_reads (ret.Int w) ws ts a rest are (type_not_among tables.header w a rest t no_header_type) (type_no_range w a rest t) (int_reads w a rest t)
    ∙ ap (λ (b : Bool). Done (record { ret = ret.Int w; noundef = b; range = None }) rest) (sym found)
result_type_reads (ret.Int w) noundef (Some r) ts rest (a, (before, behind, b, c, are, (apart, d, e, f, g, h, i, word, opens, t, lo, comma, hi, closes), more, found), type) =
    let at = at_word b d _ word in
    then_reads _ _ (words_reads before tables.header false ts b are (ap (is_among tables.header) at))
    (if_reads (range_at b) _ _ (bytes_same _ _ at)
    (ap (ranged_result (has (codes "noundef") before)) (behind_first b d word.0 word.1)
    ∙ ranged_result_reads w (has (codes "noundef") before) r behind d e f g h i c rest apart opens t lo comma hi closes a more type
    ∙ ap (λ (b : Bool). Done (record { ret = ret.Int w; noundef = b; range = Some r }) rest) (sym (found ∙ has_append (codes "noundef") before behind))))

-- ---- parameters

-- what may follow a parameter's attributes is no word
pub param_type_reads : (w : ℕ) (noundef : Bool) (range : Option Range) (ts a rest : List Tok) → IsType w ts a → SpellsAttributes tables.attribute w noundef range a rest → word_at rest ≡ []
    → param_type ts ≡ Done (record { width = w; noundef = noundef; range = range }) rest
unfolding param_type param_range
param_type_reads w noundef None ts a rest t (ws, are, found) none =
    then_reads _ _ (width_reads ts a w t) (then_reads _ _ (words_reads ws tables.attribute false a rest are (ap (is_among tables.attribute) none))
    (else_reads (range_at rest) _ _ (ap (λ (x : List ℕ). bytes_eq x (codes "range")) none)
    (ap (λ (b : Bool). Done (record { width = w; noundef = b; range = None }) rest) (sym found))))
param_type_reads w noundef (Some r) ts a rest t (before, behind, b, c, are, (apart, d, e, f, g, h, i, word, opens, t2, lo, comma, hi, closes), more, found) none =
    let at = at_word b d _ word in
    then_reads _ _ (width_reads ts a w t) (then_reads _ _ (words_reads before tables.attribute false a b are (ap (is_among tables.attribute) at))
    (if_reads (range_at b) _ _ (bytes_same _ _ at)
    (then_reads _ _ (ap (mark 40) (behind_first b d word.0 word.1) ∙ mark_reads d e 40 opens) (then_reads _ _ (one_width_reads e f w t2) (then_reads _ _ (bounds_reads w r f g h i c apart lo comma hi closes)
    (then_reads _ _ (words_reads behind tables.attribute (has (codes "noundef") before) c rest more (ap (is_among tables.attribute) none))
    (ap (λ (b : Bool). Done (record { width = w; noundef = b; range = Some r }) rest) (sym (found ∙ has_append (codes "noundef") before behind)))))))))

pub closing_reads : (more : Bool) (at : Place) (ts rest : List Tok) → IsMark (closing_mark more) ts rest → closing at ts ≡ Done more rest
unfolding closing
closing_reads true at ts rest is = if_reads (mark_at 44 ts) _ _ (mark_there ts rest 44 is) (ap (λ (l : List Tok). Done true l) (behind_first ts rest is.0 is.1))
closing_reads false at ts rest is = else_reads (mark_at 44 ts) _ _ (other_mark ts rest 41 44 refl is) (take_if_reads _ _ _ ts rest is.1 (mark_there ts rest 41 is))

pub param_reads : (unnamed : ℕ) (p : Param) (more : Bool) (ts a rest : List Tok) → SpellsParam unnamed p ts a → IsMark (closing_mark more) a rest → param unnamed ts ≡ Done (p, more) rest
unfolding param
param_reads unnamed p more ts a rest (noundef, b, c, t, attributes, strict, inl named) closes =
    then_reads _ _ (param_type_reads p.width noundef p.range ts b c t attributes (at_token c a named.0 named.1 kinds.Local named.2))
    (if_reads (kind_at kinds.Local c) _ _ (kind_there c a kinds.Local p.name named)
    (then_reads _ _ (ap (closing place.Other) (behind_first c a named.0 named.1) ∙ closing_reads more place.Other a rest closes)
    (ap (λ (n : List ℕ). Done (param_of n (record { width = p.width; noundef = noundef; range = p.range }), more) rest) (at_name c a kinds.Local p.name named)
    ∙ ap (λ (b : Bool). Done (record { name = p.name; width = p.width; range = p.range; strict = b }, more) rest) (sym strict))))
param_reads unnamed p more ts a rest (noundef, b, c, t, attributes, strict, inr (here, unwritten)) closes =
    let closes_c : IsMark (closing_mark more) c rest = subst (λ l. IsMark (closing_mark more) l rest) (sym here) closes in
    then_reads _ _ (param_type_reads p.width noundef p.range ts b c t attributes (at_token c rest closes_c.0 closes_c.1 kinds.Mark closes_c.2))
    (else_reads (kind_at kinds.Local c) _ _ (at_kind c rest closes_c.0 closes_c.1 kinds.Mark closes_c.2 kinds.Local)
    (then_reads _ _ (closing_reads more place.Keyword c rest closes_c)
    (ap (λ (n : List ℕ). Done (param_of n (record { width = p.width; noundef = noundef; range = p.range }), more) rest) (sym unwritten)
    ∙ ap (λ (b : Bool). Done (record { name = p.name; width = p.width; range = p.range; strict = b }, more) rest) (sym strict))))

pub params_within_reads : (p : Param) (more : List Param) (most : ℕ) (so_far : List Param) (unnamed : ℕ) (ts rest : List Tok) → length ts ≤ most → SpellParams unnamed (p ∷ more) ts rest
    → params_within most so_far unnamed ts ≡ Done (so_far ++ p ∷ more, spells.count_unnamed unnamed (p ∷ more)) rest
unfolding params_within
params_within_reads p [] zero so_far unnamed ts rest few (a, is, closes) = absurd (omega (arith, few, (param_leaves unnamed p ts a is).takes))
params_within_reads p (next ∷ more) zero so_far unnamed ts rest few (a, b, is, comma, are) = absurd (omega (arith, few, (param_leaves unnamed p ts a is).takes))
params_within_reads p [] (suc most) so_far unnamed ts rest few (a, is, closes) = then_reads _ _ (param_reads unnamed p false ts a rest is closes) refl
params_within_reads p (next ∷ more) (suc most) so_far unnamed ts rest few (a, b, is, comma, are) =
    then_reads _ _ (param_reads unnamed p true ts a b is comma)
    (params_within_reads next more most (so_far ++ p ∷ []) (unnamed_with unnamed p) b rest (omega (arith, few, (param_leaves unnamed p ts a is).takes, ap length comma.1)) are
    ∙ ap (λ (ps : List Param). Done (ps, spells.count_unnamed (unnamed_with unnamed p) (next ∷ more)) rest) (append_assoc so_far (p ∷ []) (next ∷ more)))

type_no_mark : (w : ℕ) (ts rest : List Tok) → IsType w ts rest → mark_at 41 ts ≡ false
type_no_mark w ts rest t = at_mark ts rest t.0.0 t.0.1 kinds.Word t.0.2 41

pub params_reads : (ps : List Param) (ts rest : List Tok) → SpellParams 0 ps ts rest → params ts ≡ Done (ps, spells.count_unnamed 0 ps) rest
unfolding params
params_reads [] ts rest closes = if_reads (mark_at 41 ts) _ _ (mark_there ts rest 41 closes) (ap (λ (l : List Tok). Done ([], 0) l) (behind_first ts rest closes.0 closes.1))
params_reads (p ∷ more) ts rest are = else_reads (mark_at 41 ts) _ _ (starts more are) (params_within_reads p more (length ts) [] 0 ts rest (omega arith) are)
  where
    starts : (more : List Param) → SpellParams 0 (p ∷ more) ts rest → mark_at 41 ts ≡ false
    starts [] (a, is, closes) = type_no_mark p.width ts is.1 is.3
    starts (next ∷ more) (a, b, is, comma, are) = type_no_mark p.width ts is.1 is.3

-- ---- the whole function

pub no_brace_reads : (byte : ℕ) (t : Tok) (ts : List Tok) → (t.kind ≡ kinds.Mark → t.text ≡ byte ∷ [] → ⊥) → mark_at byte (t ∷ ts) ≡ false
unfolding mark_at
no_brace_reads byte t ts none = go (is_kind t.kind kinds.Mark && bytes_eq t.text (byte ∷ [])) refl
  where
    go : (b : Bool) → (is_kind t.kind kinds.Mark && bytes_eq t.text (byte ∷ [])) ≡ b → (is_kind t.kind kinds.Mark && bytes_eq t.text (byte ∷ [])) ≡ false
    go false e = e
    go true e = let p = both_true _ _ e in absurd (none (same_kind _ _ p.0) (same_bytes _ _ p.1))

pub to_body_within_reads : (between : List Tok) (most : ℕ) (brace body : List Tok) → length (between ++ brace) ≤ most → All IsNoBrace between → IsMark 123 brace body → to_body_within most (between ++ brace) ≡ Done (tt {0}) body
unfolding to_body_within
to_body_within_reads [] zero brace body few all opens = absurd (omega (arith, few, ap length opens.1))
to_body_within_reads [] (suc most) brace body few all opens = if_reads (mark_at 123 brace) _ _ (mark_there brace body 123 opens) (ap (λ (l : List Tok). Done (tt {0}) l) (behind_first brace body opens.0 opens.1))
to_body_within_reads (t ∷ between) zero brace body few all opens = absurd (omega arith)
to_body_within_reads (t ∷ between) (suc most) brace body few all opens =
    let none = All-head IsNoBrace t between all in
    else_reads (mark_at 123 (t ∷ (between ++ brace))) _ _ (no_brace_reads 123 t (between ++ brace) (λ k is. none k (inl is)))
    (else_reads (mark_at 125 (t ∷ (between ++ brace))) _ _ (no_brace_reads 125 t (between ++ brace) (λ k is. none k (inr is)))
    (to_body_within_reads between most brace body (omega (arith, few)) (All-tail IsNoBrace t between all) opens))

pub to_body_reads : (between ts brace body : List Tok) → ts ≡ between ++ brace → All IsNoBrace between → IsMark 123 brace body → to_body ts ≡ Done (tt {0}) body
unfolding to_body
to_body_reads between ts brace body is all opens = ap (λ l. to_body_within (length l) l) is ∙ to_body_within_reads between (length (between ++ brace)) brace body (omega arith) all opens

pub function_reads : (f : Func) (ts : List Tok) → SpellsFunction f ts → function ts ≡ Done f []
unfolding function
function_reads f ts s =
    then_reads _ _ (keyword_reads ts s.result _ s.is_define) (then_reads _ _ (result_type_reads f.ret f.ret_noundef f.ret_range s.result s.name s.is_result)
    (then_reads _ _ (name_reads s.name s.parenthesis kinds.Global place.Other f.name s.is_name) (then_reads _ _ (mark_reads s.parenthesis s.params 40 s.opens)
    (then_reads _ _ (params_reads f.params s.params s.rest s.are_params) (then_reads _ _ (to_body_reads s.between s.rest s.brace s.body s.is_between s.no_brace s.opens_body)
    (then_reads _ _ (blocks_reads (decimal (spells.count_unnamed 0 f.params)) f.blocks s.body s.is_body) refl))))))
