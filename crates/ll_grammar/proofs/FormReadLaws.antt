-- What spells operands, targets and terminators is read as them.
use Rattle.std.proofs.Common.{◌≡◌, ◌⊎◌, ◌≤◌, ℕ, zero, suc, false, List, [], ◌∷◌, ◌++◌, length, drop, refl, sym, ap, ◌∙◌, inl, inr, arith, append_assoc, append-nil}
use Rattle.std.specs.Prelude.{codes}
use Rattle.std.specs.Str.{bytes_eq}
use Rattle.std.proofs.lemmas.Fmt.{decimal_digit}
use Rattle.ll_token.specs.declared.token.TokenKind.TheVariants as kinds
use Rattle.ll_tree.specs.declared.block.Operand.{Operand}
use Rattle.ll_tree.specs.declared.block.Operand.TheVariants as value
use Rattle.ll_tree.specs.declared.block.Case.{Case}
use Rattle.ll_tree.specs.declared.block.End.{End}
use Rattle.ll_tree.specs.declared.block.End.TheVariants as end
use Rattle.ll_grammar.specs.declared.stop.Place.TheVariants as place
use Rattle.ll_grammar.specs.Tokens.{Tok, word_at, mark_at, kind_at, name_at}
use Rattle.ll_grammar.specs.Words.{width_of}
use Rattle.ll_grammar.specs.Reading.{Done}
use Rattle.ll_grammar.specs.Forms.{operand, typed, of_width, second, target, next_target, return_value, branch, case, cases, switch, terminator}
use Rattle.ll_grammar.specs.Spells.{IsWord, IsMark, IsType, IsLiteral, IsOperand, IsTyped, IsSecond, IsTarget, IsNextTarget, SpellsCase, SpellCases, SpellsEnd}
use Rattle.ll_grammar.proofs.TokenLaws.{bytes_same}
use Rattle.ll_grammar.proofs.TokenReadLaws.{then_reads, if_reads, else_reads, behind_first, at_token, at_word, at_kind, at_mark, at_name, mark_there, kind_there, type_apart, mark_reads, keyword_reads, name_reads, width_reads, one_width_reads, literal_reads}
use Rattle.ll_grammar.proofs.LeavesLaws.{case_leaves}

-- a literal is neither a local name nor `poison`
literal_apart : (ts rest : List Tok) (w n : ℕ) → IsLiteral w n ts rest → (kind_at kinds.Local ts ≡ false) × (bytes_eq (word_at ts) (codes "poison") ≡ false)
literal_apart ts rest w n (t, e, inl (k, writes)) = (at_kind ts rest t e kinds.Number k kinds.Local, ap (λ (x : List ℕ). bytes_eq x (codes "poison")) (at_token ts rest t e kinds.Number k))
literal_apart ts rest w n (t, e, inr (k, writes)) = (at_kind ts rest t e kinds.Word k kinds.Local, ap (λ (x : List ℕ). bytes_eq x (codes "poison")) (at_token ts rest t e kinds.Word k) ∙ go writes.1)
  where
    go : ((n ≡ 1) × (t.text ≡ codes "true")) ⊎ ((n ≡ 0) × (t.text ≡ codes "false")) → bytes_eq t.text (codes "poison") ≡ false
    go (inl is) = ap (λ (x : List ℕ). bytes_eq x (codes "poison")) is.1
    go (inr is) = ap (λ (x : List ℕ). bytes_eq x (codes "poison")) is.1

pub operand_reads : (w : ℕ) (x : Operand) (ts rest : List Tok) → IsOperand w x ts rest → operand w ts ≡ Done x rest
unfolding operand
operand_reads w (value.Name name) ts rest is =
    if_reads (kind_at kinds.Local ts) _ _ (kind_there ts rest kinds.Local name is)
    (ap (λ (l : List Tok). Done (value.Name (name_at ts)) l) (behind_first ts rest is.0 is.1) ∙ ap (λ (n : List ℕ). Done (value.Name n) rest) (at_name ts rest kinds.Local name is))
operand_reads w (value.Const n) ts rest is =
    let apart = literal_apart ts rest w n is in
    else_reads (kind_at kinds.Local ts) _ _ apart.0 (else_reads (bytes_eq (word_at ts) (codes "poison")) _ _ apart.1 (then_reads _ _ (literal_reads ts rest w n is) refl))
operand_reads w value.Poison ts rest is =
    else_reads (kind_at kinds.Local ts) _ _ (at_kind ts rest is.0 is.1 kinds.Word is.2 kinds.Local)
    (if_reads (bytes_eq (word_at ts) (codes "poison")) _ _ (bytes_same _ _ (at_word ts rest _ is)) (ap (λ (l : List Tok). Done value.Poison l) (behind_first ts rest is.0 is.1)))

pub typed_reads : (w : ℕ) (x : Operand) (ts rest : List Tok) → IsTyped w x ts rest → typed ts ≡ Done (w, x) rest
unfolding typed
typed_reads w x ts rest (a, t, o) = then_reads _ _ (width_reads ts a w t) (then_reads _ _ (operand_reads w x a rest o) refl)

pub of_width_reads : (w : ℕ) (x : Operand) (ts rest : List Tok) → IsTyped w x ts rest → of_width w ts ≡ Done x rest
unfolding of_width
of_width_reads w x ts rest (a, t, o) = then_reads _ _ (one_width_reads ts a w t) (operand_reads w x a rest o)

pub second_reads : (w : ℕ) (x : Operand) (ts rest : List Tok) → IsSecond w x ts rest → second w ts ≡ Done x rest
unfolding second
second_reads w x ts rest (a, comma, o) = then_reads _ _ (mark_reads ts a 44 comma) (operand_reads w x a rest o)

pub target_reads : (to : List ℕ) (ts rest : List Tok) → IsTarget to ts rest → target ts ≡ Done to rest
unfolding target
target_reads to ts rest (a, label, is) = then_reads _ _ (keyword_reads ts a _ label) (name_reads a rest kinds.Local place.Other to is)

pub next_target_reads : (to : List ℕ) (ts rest : List Tok) → IsNextTarget to ts rest → next_target ts ≡ Done to rest
unfolding next_target
next_target_reads to ts rest (a, comma, is) = then_reads _ _ (mark_reads ts a 44 comma) (target_reads to a rest is)

-- ---- terminators

bit_word : (ts rest : List Tok) → IsType 1 ts rest → IsWord (codes "i1") ts rest
bit_word ts rest ((t, e, k, is), some, few) = (t, e, k, is ∙ ap (λ (xs : List ℕ). 105 ∷ xs) (decimal_digit 1 (omega arith)))

pub case_reads : (c : Case) (ts rest : List Tok) → SpellsCase c ts rest → case ts ≡ Done c rest
unfolding case
case_reads c ts rest (a, b, t, n, to) = then_reads _ _ (width_reads ts a c.width t) (then_reads _ _ (literal_reads a b c.width c.value n) (then_reads _ _ (next_target_reads c.to b rest to) refl))

pub cases_reads : (cs : List Case) (most : ℕ) (so_far : List Case) (ts b rest : List Tok) → length ts ≤ most → SpellCases cs ts b → IsMark 93 b rest → cases most so_far ts ≡ Done (so_far ++ cs) rest
unfolding cases
cases_reads [] zero so_far ts b rest few here closes = absurd (omega (arith, few, ap length here, ap length closes.1))
cases_reads [] (suc most) so_far ts b rest few here closes =
    if_reads (mark_at 93 ts) _ _ (ap (mark_at 93) here ∙ mark_there b rest 93 closes)
    (ap (λ (l : List Tok). Done so_far l) (ap (λ (l : List Tok). drop 1 l) here ∙ behind_first b rest closes.0 closes.1) ∙ ap (λ (cs : List Case). Done cs rest) (sym (append-nil so_far)))
cases_reads (c ∷ cs) zero so_far ts b rest few (a, is, more) closes = absurd (omega (arith, few, (case_leaves c ts a is).takes))
cases_reads (c ∷ cs) (suc most) so_far ts b rest few (a, is, more) closes =
    else_reads (mark_at 93 ts) _ _ (at_mark ts _ is.2.0.0 is.2.0.1 kinds.Word is.2.0.2 93)
    (then_reads _ _ (case_reads c ts a is) (cases_reads cs most (so_far ++ c ∷ []) a b rest (omega (arith, few, (case_leaves c ts a is).takes)) more closes ∙ ap (λ (cs : List Case). Done cs rest) (append_assoc so_far (c ∷ []) cs)))

-- what stands behind the word of a terminator
abbrev pub word_of_end : End → List ℕ
word_of_end end.RetVoid = codes "ret"
word_of_end (end.Ret w x) = codes "ret"
word_of_end end.Unreachable = codes "unreachable"
word_of_end (end.Br to) = codes "br"
word_of_end (end.CondBr cond_ left right) = codes "br"
word_of_end (end.Switch w x default cs) = codes "switch"

-- the first token of a terminator is its word
pub end_word : (e : End) (ts rest : List Tok) → SpellsEnd e ts rest → (a : List Tok) × IsWord (word_of_end e) ts a
end_word end.RetVoid ts rest is = (is.0, is.1)
end_word (end.Ret w x) ts rest is = (is.0, is.1)
end_word end.Unreachable ts rest is = (rest, is)
end_word (end.Br to) ts rest is = (is.0, is.1)
end_word (end.CondBr cond_ left right) ts rest is = (is.0, is.3)
end_word (end.Switch w x default cs) ts rest is = (is.0, is.5)

pub return_void_reads : (ts rest : List Tok) → IsWord (codes "void") ts rest → return_value ts ≡ Done end.RetVoid rest
unfolding return_value
return_void_reads ts rest is = if_reads (bytes_eq (word_at ts) (codes "void")) _ _ (bytes_same _ _ (at_word ts rest _ is)) (ap (λ (l : List Tok). Done end.RetVoid l) (behind_first ts rest is.0 is.1))

pub return_reads : (w : ℕ) (x : Operand) (ts rest : List Tok) → IsTyped w x ts rest → return_value ts ≡ Done (end.Ret w x) rest
unfolding return_value width_of
return_reads w x ts rest t = else_reads (bytes_eq (word_at ts) (codes "void")) _ _ (type_apart ts t.0 w (codes "void") t.1 refl) (then_reads _ _ (typed_reads w x ts rest t) refl)

pub goto_reads : (to : List ℕ) (ts rest : List Tok) → IsTarget to ts rest → branch ts ≡ Done (end.Br to) rest
unfolding branch
goto_reads to ts rest is = if_reads (bytes_eq (word_at ts) (codes "label")) _ _ (bytes_same _ _ (at_word ts is.0 _ is.1)) (then_reads _ _ (target_reads to ts rest is) refl)

pub branch_reads : (x : Operand) (left right : List ℕ) (ts a b rest : List Tok) → IsTyped 1 x ts a → IsNextTarget left a b → IsNextTarget right b rest → branch ts ≡ Done (end.CondBr x left right) rest
unfolding branch width_of
branch_reads x left right ts a b rest (c, t, o) l r =
    else_reads (bytes_eq (word_at ts) (codes "label")) _ _ (type_apart ts c 1 (codes "label") t refl)
    (then_reads _ _ (keyword_reads ts c _ (bit_word ts c t)) (then_reads _ _ (operand_reads 1 x c a o) (then_reads _ _ (next_target_reads left a b l) (then_reads _ _ (next_target_reads right b rest r) refl))))

pub switch_reads : (w : ℕ) (x : Operand) (default : List ℕ) (cs : List Case) (ts a b c d rest : List Tok) → IsTyped w x ts a → IsNextTarget default a b → IsMark 91 b c → SpellCases cs c d → IsMark 93 d rest
    → switch ts ≡ Done (end.Switch w x default cs) rest
unfolding switch
switch_reads w x default cs ts a b c d rest t to opens are closes =
    then_reads _ _ (typed_reads w x ts a t) (then_reads _ _ (next_target_reads default a b to) (then_reads _ _ (mark_reads b c 91 opens)
    (then_reads _ _ (cases_reads cs (length c) [] c d rest (omega arith) are closes) refl)))

-- the reading of what stands behind the word
pub terminator_reads : (e : End) (ts rest : List Tok) → SpellsEnd e ts rest → terminator ts ≡ Done e rest
unfolding terminator
terminator_reads end.RetVoid ts rest (a, word, is) = rw (at_word ts a _ word) (ap return_value (behind_first ts a word.0 word.1) ∙ return_void_reads a rest is)
terminator_reads (end.Ret w x) ts rest (a, word, is) = rw (at_word ts a _ word) (ap return_value (behind_first ts a word.0 word.1) ∙ return_reads w x a rest is)
terminator_reads end.Unreachable ts rest word = rw (at_word ts rest _ word) (ap (λ (l : List Tok). Done end.Unreachable l) (behind_first ts rest word.0 word.1))
terminator_reads (end.Br to) ts rest (a, word, is) = rw (at_word ts a _ word) (ap branch (behind_first ts a word.0 word.1) ∙ goto_reads to a rest is)
terminator_reads (end.CondBr x left right) ts rest (a, b, c, word, t, l, r) = rw (at_word ts a _ word) (ap branch (behind_first ts a word.0 word.1) ∙ branch_reads x left right a b c rest t l r)
terminator_reads (end.Switch w x default cs) ts rest (a, b, c, d, e, word, t, to, opens, are, closes) =
    rw (at_word ts a _ word) (ap switch (behind_first ts a word.0 word.1) ∙ switch_reads w x default cs a b c d e rest t to opens are closes)
