-- What is read of operands, targets and terminators is what spells them.
use Rattle.std.proofs.Common.{◌≡◌, ℕ, zero, suc, true, false, List, [], ◌∷◌, ◌++◌, length, drop, Option, Some, None, refl, sym, ap, ◌∙◌, subst, eqb, eqb-true, true≢false, arith, append_assoc, append-nil}
use Rattle.std.specs.Prelude.{codes}
use Rattle.ll_token.specs.declared.token.TokenKind.{TokenKind}
use Rattle.ll_token.specs.declared.token.TokenKind.TheVariants as kinds
use Rattle.ll_tree.specs.declared.block.Case.{Case}
use Rattle.ll_grammar.specs.declared.stop.Place.{Place}
use Rattle.ll_grammar.specs.Tokens.{Tok, is_empty, word_at, mark_at}
use Rattle.ll_grammar.specs.Words.{has_width, width_of}
use Rattle.std.specs.Option.{option_map_or}
use Rattle.std.proofs.lemmas.Fmt.{decimal_digit}
use Rattle.ll_grammar.specs.declared.stop.Place.TheVariants as place
use Rattle.std.specs.Str.{bytes_eq}
use Rattle.ll_grammar.specs.Reading.{mark, keyword, name, width, one_width, literal, literal_at}
use Rattle.ll_grammar.specs.Forms.{operand, typed, of_width, second, target, next_target, return_value, branch, case, cases, switch, terminator}
use Rattle.ll_grammar.specs.Spells.{IsWord, IsMark, IsNameOf, IsType, IsLiteral, IsOperand, IsTyped, IsSecond, IsTarget, IsNextTarget, SpellsCase, SpellCases, SpellsEnd}
use Rattle.ll_grammar.proofs.DoneLaws.{OnDone, on_done, on_ran_out, on_then, on_if, on_stopped, on_take_if, on_take_some, weaken}
use Rattle.ll_grammar.proofs.TokenLaws.{same_bytes, word_is, mark_is, kind_is, type_is, literal_of_is, none_is}

-- ---- single tokens

pub mark_sound : (byte : ℕ) (ts : List Tok) → OnDone (mark byte ts) (λ _ rest. IsMark byte ts rest)
unfolding mark
mark_sound byte ts = on_take_if _ _ _ ts (mark_is byte ts)

pub keyword_sound : (word : List ℕ) (ts : List Tok) → is_empty word ≡ false → OnDone (keyword word ts) (λ _ rest. IsWord word ts rest)
unfolding keyword
keyword_sound word ts some = on_take_if _ _ _ ts (λ is. word_is word ts some (same_bytes _ _ is))

pub name_sound : (kind : TokenKind) (at : Place) (ts : List Tok) → OnDone (name kind at ts) (λ n rest. IsNameOf kind n ts rest)
unfolding name
name_sound kind at ts = on_take_if _ _ _ ts (kind_is kind ts)

pub width_sound : (ts : List Tok) → OnDone (width ts) (λ w rest. IsType w ts rest)
unfolding width
width_sound ts = on_take_some _ _ ts (λ w is. type_is w ts is)

pub literal_at_is : (w n : ℕ) (ts : List Tok) → literal_at w ts ≡ Some n → IsLiteral w n ts (drop 1 ts)
unfolding literal_at
literal_at_is w n [] e = none_is e
literal_at_is w n (t ∷ ts) e = (t, refl, literal_of_is w n t.kind t.text e)

pub literal_sound : (w : ℕ) (ts : List Tok) → OnDone (literal w ts) (λ n rest. IsLiteral w n ts rest)
unfolding literal
literal_sound w ts = on_take_some _ _ ts (λ n is. literal_at_is w n ts is)

-- ---- operands and targets

pub operand_sound : (w : ℕ) (ts : List Tok) → OnDone (operand w ts) (λ x rest. IsOperand w x ts rest)
unfolding operand
operand_sound w ts = on_if _ _ _
    (λ is. on_done (kind_is kinds.Local ts is))
    (λ _. on_if (bytes_eq (word_at ts) (codes "poison")) _ _
    (λ is. on_done (word_is _ ts refl (same_bytes _ _ is)))
    (λ _. on_then _ _ (literal_sound w ts) (λ n rest is. on_done is)))

pub typed_sound : (ts : List Tok) → OnDone (typed ts) (λ x rest. IsTyped x.0 x.1 ts rest)
unfolding typed
typed_sound ts = on_then _ _ (width_sound ts) (λ w a t. on_then _ _ (operand_sound w a) (λ x b o. on_done (a, t, o)))

pub has_width_is : (w : ℕ) (word : List ℕ) → has_width w word ≡ true → width_of word ≡ Some w
has_width_is w word = go (width_of word)
  where
    go : (o : Option ℕ) → option_map_or (λ v. eqb v w) o false ≡ true → o ≡ Some w
    go (Some v) e = ap (λ (n : ℕ). Some n) (eqb-true v w e)
    go None e = absurd (true≢false (sym e))

pub one_width_sound : (w : ℕ) (ts : List Tok) → OnDone (one_width w ts) (λ _ rest. IsType w ts rest)
unfolding one_width
one_width_sound w ts = on_take_if _ _ _ ts (λ is. type_is w ts (has_width_is w _ is))

pub of_width_sound : (w : ℕ) (ts : List Tok) → OnDone (of_width w ts) (λ x rest. IsTyped w x ts rest)
unfolding of_width
of_width_sound w ts = on_then _ _ (one_width_sound w ts) (λ _ a t. weaken (operand_sound w a) (λ x b o. (a, t, o)))

pub second_sound : (w : ℕ) (ts : List Tok) → OnDone (second w ts) (λ x rest. IsSecond w x ts rest)
unfolding second
second_sound w ts = on_then _ _ (mark_sound 44 ts) (λ _ a comma. weaken (operand_sound w a) (λ x b o. (a, comma, o)))

pub target_sound : (ts : List Tok) → OnDone (target ts) (λ to rest. IsTarget to ts rest)
unfolding target
target_sound ts = on_then _ _ (keyword_sound (codes "label") ts refl) (λ _ a label. weaken (name_sound kinds.Local place.Other a) (λ to b is. (a, label, is)))

pub next_target_sound : (ts : List Tok) → OnDone (next_target ts) (λ to rest. IsNextTarget to ts rest)
unfolding next_target
next_target_sound ts = on_then _ _ (mark_sound 44 ts) (λ _ a comma. weaken (target_sound a) (λ to b is. (a, comma, is)))

-- ---- terminators

return_value_sound : (start ts : List Tok) → IsWord (codes "ret") start ts → OnDone (return_value ts) (λ e rest. SpellsEnd e start rest)
unfolding return_value
return_value_sound start ts ret = on_if (bytes_eq (word_at ts) (codes "void")) _ _
    (λ is. on_done (ts, ret, word_is _ ts refl (same_bytes _ _ is)))
    (λ _. on_then _ _ (typed_sound ts) (λ x a t. on_done (ts, ret, t)))

bit_type : (ts rest : List Tok) → IsWord (codes "i1") ts rest → IsType 1 ts rest
bit_type ts rest (t, e, k, is) = ((t, e, k, is ∙ ap (λ (xs : List ℕ). 105 ∷ xs) (sym (decimal_digit 1 (omega arith)))), omega arith, omega arith)

branch_sound : (start ts : List Tok) → IsWord (codes "br") start ts → OnDone (branch ts) (λ e rest. SpellsEnd e start rest)
unfolding branch
branch_sound start ts br = on_if (bytes_eq (word_at ts) (codes "label")) _ _
    (λ _. on_then _ _ (target_sound ts) (λ to a is. on_done (ts, br, is)))
    (λ _. on_then _ _ (keyword_sound (codes "i1") ts refl) (λ _ a bit. on_then _ _ (operand_sound 1 a) (λ cond b o.
    on_then _ _ (next_target_sound b) (λ left c l. on_then _ _ (next_target_sound c) (λ right d r.
    on_done (ts, b, c, br, (a, bit_type ts a bit, o), l, r))))))

pub case_sound : (ts : List Tok) → OnDone (case ts) (λ c rest. SpellsCase c ts rest)
unfolding case
case_sound ts = on_then _ _ (width_sound ts) (λ w a t. on_then _ _ (literal_sound w a) (λ n b l. on_then _ _ (next_target_sound b) (λ to c is. on_done (a, b, t, l, is))))

-- these cases and others, and the bracket
abbrev AreCases : List Case → (ts : List Tok) → List Case → List Tok → Type 0
AreCases so_far ts all rest = (more : List Case) × (b : List Tok) × (all ≡ so_far ++ more) × SpellCases more ts b × IsMark 93 b rest

cases_sound : (most : ℕ) (so_far : List Case) (ts : List Tok) → OnDone (cases most so_far ts) (AreCases so_far ts)
unfolding cases
cases_sound zero so_far ts = on_ran_out
cases_sound (suc most) so_far ts = on_if (mark_at 93 ts) _ _
    (λ is. on_done ([], ts, sym (append-nil so_far), refl, mark_is 93 ts is))
    (λ _. on_then _ _ (case_sound ts) (λ c a is. weaken (cases_sound most (so_far ++ c ∷ []) a) (λ all rest w.
    (c ∷ w.0, w.1, w.2 ∙ append_assoc so_far (c ∷ []) w.0, (a, is, w.3), w.4))))

switch_sound : (start ts : List Tok) → IsWord (codes "switch") start ts → OnDone (switch ts) (λ e rest. SpellsEnd e start rest)
unfolding switch
switch_sound start ts word = on_then _ _ (typed_sound ts) (λ x a t. on_then _ _ (next_target_sound a) (λ default b d. on_then _ _ (mark_sound 91 b) (λ _ c opens.
    on_then _ _ (cases_sound (length c) [] c) (λ all rest w.
    on_done (ts, a, b, c, w.1, word, t, d, opens, subst (λ cs. SpellCases cs c w.1) (sym w.2) w.3, w.4)))))

pub terminator_sound : (ts : List Tok) → OnDone (terminator ts) (λ e rest. SpellsEnd e ts rest)
unfolding terminator
terminator_sound ts = on_if _ _ _
    (λ is. return_value_sound ts (drop 1 ts) (word_is _ ts refl (same_bytes _ _ is)))
    (λ _. on_if (bytes_eq (word_at ts) (codes "br")) _ _ (λ is. branch_sound ts (drop 1 ts) (word_is _ ts refl (same_bytes _ _ is)))
    (λ _. on_if (bytes_eq (word_at ts) (codes "switch")) _ _ (λ is. switch_sound ts (drop 1 ts) (word_is _ ts refl (same_bytes _ _ is)))
    (λ _. on_if (bytes_eq (word_at ts) (codes "unreachable")) _ _ (λ is. on_done (word_is _ ts refl (same_bytes _ _ is)))
    (λ _. on_stopped _ ts))))
