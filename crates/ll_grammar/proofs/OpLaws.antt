-- What is read of an operation is what spells it.
use Rattle.std.proofs.Common.{◌≡◌, ◌⊎◌, ℕ, Bool, true, false, cond, not, ◌&&◌, ◌||◌, List, [], ◌∷◌, ◌++◌, length, take, drop, Option, Some, None, IfSome, refl, sym, ap, ◌∙◌, subst, inl, inr, true≢false, take-append-drop}
use Rattle.std.specs.Prelude.{codes, if◌then◌else◌}
use Rattle.std.specs.Str.{bytes_eq}
use Rattle.std.specs.Fmt.{decimal}
use Rattle.ll_token.specs.declared.token.TokenKind.TheVariants as kinds
use Rattle.ll_tree.specs.declared.block.Operand.{Operand}
use Rattle.ll_tree.specs.declared.op.Op.{Op}
use Rattle.ll_tree.specs.declared.op.Op.TheVariants as op
use Rattle.ll_tree.specs.declared.op.BinKind.{BinKind}
use Rattle.ll_tree.specs.declared.op.BinKind.TheVariants as bin
use Rattle.ll_tree.specs.declared.op.CastKind.{CastKind}
use Rattle.ll_tree.specs.declared.op.CastKind.TheVariants as cast
use Rattle.ll_tree.specs.declared.op.Pred.{Pred}
use Rattle.ll_tree.specs.declared.op.Pred.TheVariants as pred
use Rattle.ll_grammar.specs.declared.stop.Place.TheVariants as place
use Rattle.ll_grammar.specs.declared.opcodes.Callee.{Callee}
use Rattle.ll_grammar.specs.declared.opcodes.Callee.TheVariants as callee
use Rattle.ll_grammar.specs.Tokens.{Tok, is_empty, is_kind, has_prefix, word_at, kind_at, name_at, group_at}
use Rattle.ll_grammar.specs.Words.{binary_of, cast_of, pred_of, callee_of, behind, has_width, typed_callee, takes, cast_takes, compare_takes, no_flags}
use Rattle.ll_grammar.specs.Reading.{take_some, keyword}
use Rattle.ll_grammar.specs.Forms.{binary, compare, conversion, select, is_call_word, call_words, callee_at, called, last_argument, close_call, value_call, assume_at, assume_callee, void, assume, operation}
use Rattle.ll_tree.specs.Words.{is_called, cast_word, pred_word}
use Rattle.ll_grammar.specs.Spells.{IsWord, IsNameOf, IsCall, IsGroup, IsNoGroup, ClosesCall, BeginsCall, SpellsBin, SpellsOp, word_of}
use Rattle.ll_grammar.proofs.DoneLaws.{OnDone, on_done, on_then, on_if, on_some, on_stopped, on_take_if, on_take_some, weaken}
use Rattle.ll_grammar.proofs.TokenLaws.{same_bytes, same_kind, kind_same, both_true, word_is, kind_is, width_of_is, none_is}
use Rattle.ll_grammar.proofs.FormLaws.{mark_sound, keyword_sound, width_sound, one_width_sound, literal_sound, typed_sound, of_width_sound, second_sound, has_width_is}
use Rattle.ll_grammar.proofs.FlagLaws.{flags_sound}

-- ---- words

pub if_some_at : {A : Type 0} (P : A → Type 0) (o : Option A) (x : A) → IfSome o P → o ≡ Some x → P x
if_some_at P o x here e = subst (λ o. IfSome o P) e here

-- a word of a table, or what the rest of the table gives
chain : {A : Type 0} (P : A → Type 0) (b : Bool) (x : A) (o : Option A) → (b ≡ true → P x) → IfSome o P → IfSome (if b then Some x else o) P
chain P true x o here other = here refl
chain P false x o here other = other

abbrev IsWordOf : List ℕ → BinKind → Type 0
IsWordOf word kind = (word ≡ word_of kind) × (is_called kind ≡ false)

binary_of_is : (word : List ℕ) → IfSome (binary_of word) (IsWordOf word)
unfolding binary_of
binary_of_is word =
    let P = IsWordOf word in
    chain P _ bin.Add _ (λ is. (same_bytes _ _ is, refl)) (
    chain P _ bin.Sub _ (λ is. (same_bytes _ _ is, refl)) (
    chain P _ bin.Mul _ (λ is. (same_bytes _ _ is, refl)) (
    chain P _ bin.Shl _ (λ is. (same_bytes _ _ is, refl)) (
    chain P _ bin.Lshr _ (λ is. (same_bytes _ _ is, refl)) (
    chain P _ bin.Ashr _ (λ is. (same_bytes _ _ is, refl)) (
    chain P _ bin.And _ (λ is. (same_bytes _ _ is, refl)) (
    chain P _ bin.Or _ (λ is. (same_bytes _ _ is, refl)) (
    chain P _ bin.Xor _ (λ is. (same_bytes _ _ is, refl)) (
    chain P _ bin.Udiv _ (λ is. (same_bytes _ _ is, refl)) (
    chain P _ bin.Sdiv _ (λ is. (same_bytes _ _ is, refl)) (
    chain P _ bin.Urem _ (λ is. (same_bytes _ _ is, refl)) (
    chain P _ bin.Srem _ (λ is. (same_bytes _ _ is, refl)) tt))))))))))))

cast_of_is : (word : List ℕ) → IfSome (cast_of word) (λ kind. word ≡ cast_word kind)
unfolding cast_of
cast_of_is word =
    let P = λ (kind : CastKind). word ≡ cast_word kind in
    chain P _ cast.Zext _ (λ is. same_bytes _ _ is) (
    chain P _ cast.Sext _ (λ is. same_bytes _ _ is) (
    chain P _ cast.Trunc _ (λ is. same_bytes _ _ is) tt))

pred_of_is : (word : List ℕ) → IfSome (pred_of word) (λ p. word ≡ pred_word p)
unfolding pred_of
pred_of_is word =
    let P = λ (p : Pred). word ≡ pred_word p in
    chain P _ pred.Eq _ (λ is. same_bytes _ _ is) (
    chain P _ pred.Ne _ (λ is. same_bytes _ _ is) (
    chain P _ pred.Ugt _ (λ is. same_bytes _ _ is) (
    chain P _ pred.Uge _ (λ is. same_bytes _ _ is) (
    chain P _ pred.Ult _ (λ is. same_bytes _ _ is) (
    chain P _ pred.Ule _ (λ is. same_bytes _ _ is) (
    chain P _ pred.Sgt _ (λ is. same_bytes _ _ is) (
    chain P _ pred.Sge _ (λ is. same_bytes _ _ is) (
    chain P _ pred.Slt _ (λ is. same_bytes _ _ is) (
    chain P _ pred.Sle _ (λ is. same_bytes _ _ is) tt)))))))))

-- ---- operations with a word of their own

-- an operation with a result
abbrev pub IsValued : Op → Type 0
IsValued (op.Assume cond) = ⊥
IsValued computed = Unit {0}

abbrev SpellsValued : Op → (ts rest : List Tok) → Type 0
SpellsValued computed ts rest = IsValued computed × SpellsOp computed ts rest

binary_sound : (kind : BinKind) (start ts : List Tok) → IsWord (word_of kind) start ts → is_called kind ≡ false → OnDone (binary kind ts) (λ o rest. SpellsValued o start rest)
unfolding binary
binary_sound kind start ts word plain =
    on_then _ _ (flags_sound (takes kind) ts) (λ f a fs. on_then _ _ (typed_sound a) (λ left b l. on_then _ _ (second_sound left.0 b) (λ right c r.
    on_done (tt, subst (λ called. SpellsBin called kind f left.0 left.1 right start c) (sym plain) (ts, a, b, word, fs, l, r)))))

pred_sound : (ts : List Tok) → OnDone (take_some (pred_of (word_at ts)) place.Keyword ts) (λ p rest. IsWord (pred_word p) ts rest)
pred_sound ts = on_take_some _ _ ts (λ p is. word_is (pred_word p) ts (some p) (if_some_at _ _ p (pred_of_is (word_at ts)) is))
  where
    some : (p : Pred) → is_empty (pred_word p) ≡ false
    some pred.Eq = refl
    some pred.Ne = refl
    some pred.Ugt = refl
    some pred.Uge = refl
    some pred.Ult = refl
    some pred.Ule = refl
    some pred.Sgt = refl
    some pred.Sge = refl
    some pred.Slt = refl
    some pred.Sle = refl

compare_sound : (start ts : List Tok) → IsWord (codes "icmp") start ts → OnDone (compare ts) (λ o rest. SpellsValued o start rest)
unfolding compare
compare_sound start ts word =
    on_then _ _ (flags_sound compare_takes ts) (λ f a fs. on_then _ _ (pred_sound a) (λ p b is. on_then _ _ (typed_sound b) (λ left c l. on_then _ _ (second_sound left.0 c) (λ right d r.
    on_done (tt, (ts, a, b, c, word, fs, is, l, r))))))

conversion_sound : (kind : CastKind) (start ts : List Tok) → IsWord (cast_word kind) start ts → OnDone (conversion kind ts) (λ o rest. SpellsValued o start rest)
unfolding conversion
conversion_sound kind start ts word =
    on_then _ _ (flags_sound (cast_takes kind) ts) (λ f a fs. on_then _ _ (typed_sound a) (λ arg b t. on_then _ _ (keyword_sound (codes "to") b refl) (λ _ c is.
    on_then _ _ (width_sound c) (λ to d w. on_done (tt, (ts, a, b, c, word, fs, t, is, w))))))

select_sound : (start ts : List Tok) → IsWord (codes "select") start ts → OnDone (select ts) (λ o rest. SpellsValued o start rest)
unfolding select
select_sound start ts word =
    on_then _ _ (of_width_sound 1 ts) (λ cond a c. on_then _ _ (mark_sound 44 a) (λ _ b comma. on_then _ _ (typed_sound b) (λ left d l.
    on_then _ _ (mark_sound 44 d) (λ _ e again. on_then _ _ (of_width_sound left.0 e) (λ right f r.
    on_done (tt, (ts, a, b, d, e, word, c, comma, l, again, r)))))))

-- ---- calls

call_words_sound : (ts : List Tok) → is_call_word (word_at ts) ≡ true → OnDone (call_words ts) (λ _ rest. IsCall ts rest)
unfolding call_words is_call_word
call_words_sound ts is = go (bytes_eq (word_at ts) (codes "call")) (bytes_eq (word_at ts) (codes "tail")) refl refl is
  where
    go : (call tail : Bool) → bytes_eq (word_at ts) (codes "call") ≡ call → bytes_eq (word_at ts) (codes "tail") ≡ tail → (call || (tail || bytes_eq (word_at ts) (codes "notail"))) ≡ true
        → OnDone (keyword (codes "call") (if call then ts else drop 1 ts)) (λ _ rest. IsCall ts rest)
    go true tail is_call is_tail is = weaken (keyword_sound (codes "call") ts refl) (λ _ rest w. inl w)
    go false true is_call is_tail is = weaken (keyword_sound (codes "call") (drop 1 ts) refl) (λ _ rest w. inr (drop 1 ts, inl (word_is _ ts refl (same_bytes _ _ is_tail)), w))
    go false false is_call is_tail is = weaken (keyword_sound (codes "call") (drop 1 ts) refl) (λ _ rest w. inr (drop 1 ts, inr (word_is _ ts refl (same_bytes _ _ is)), w))

-- the name of a function, up to the type at its end
abbrev pub name_of : Callee → List ℕ
name_of (callee.Bin kind) = word_of kind
name_of callee.Abs = codes "llvm.abs."

abbrev pub IsCallee : Callee → Type 0
IsCallee (callee.Bin kind) = is_called kind ≡ true
IsCallee callee.Abs = Unit {0}

abbrev IsNamed : ℕ → List ℕ → Callee → Type 0
IsNamed w name f = IsCallee f × (name ≡ name_of f ++ (codes "i" ++ decimal w))

typed_callee_is : (w : ℕ) (name : List ℕ) (f : Callee) (other : Option Callee) → IsCallee f → IfSome other (IsNamed w name) → IfSome (typed_callee w f (behind (name_of f) name) other) (IsNamed w name)
unfolding behind
typed_callee_is w name f other valid more = go (bytes_eq (take (length (name_of f)) name) (name_of f)) refl
  where
    text : List ℕ
    text = drop (length (name_of f)) name

    typed : take (length (name_of f)) name ≡ name_of f → (b : Bool) → has_width w text ≡ b → IfSome (cond b (Some f) None) (IsNamed w name)
    typed front true is = (valid, sym (take-append-drop (length (name_of f)) name) ∙ ap (λ (xs : List ℕ). xs ++ text) front ∙ ap (λ (xs : List ℕ). name_of f ++ xs) (width_of_is text w (has_width_is w text is)).0)
    typed front false is = tt

    go : (b : Bool) → bytes_eq (take (length (name_of f)) name) (name_of f) ≡ b → IfSome (typed_callee w f (cond b (Some text) None) other) (IsNamed w name)
    go true is = typed (same_bytes _ _ is) (has_width w text) refl
    go false is = more

callee_of_is : (w : ℕ) (name : List ℕ) → IfSome (callee_of w name) (IsNamed w name)
unfolding callee_of
callee_of_is w name =
    typed_callee_is w name (callee.Bin bin.Smin) _ refl (
    typed_callee_is w name (callee.Bin bin.Smax) _ refl (
    typed_callee_is w name (callee.Bin bin.Umin) _ refl (
    typed_callee_is w name (callee.Bin bin.Umax) _ refl (
    typed_callee_is w name callee.Abs None tt tt))))

abbrev IsCalled : ℕ → Callee → (ts rest : List Tok) → Type 0
IsCalled w f ts rest = IsCallee f × IsNameOf kinds.Global (name_of f ++ (codes "i" ++ decimal w)) ts rest

called_sound : (w : ℕ) (ts : List Tok) → OnDone (called w ts) (λ f rest. IsCalled w f ts rest)
unfolding called callee_at
called_sound w ts = on_take_some _ _ ts (λ f is. go f (kind_at kinds.Global ts) refl is)
  where
    go : (f : Callee) (b : Bool) → kind_at kinds.Global ts ≡ b → cond b (callee_of w (name_at ts)) None ≡ Some f → IsCalled w f ts (drop 1 ts)
    go f true global e =
        let p = if_some_at _ _ f (callee_of_is w (name_at ts)) e in
        let k = kind_is kinds.Global ts global in
        (p.0, (k.0, k.1, k.2, k.3 ∙ p.1))
    go f false other e = none_is e

-- the attributes of a call, where they come next
abbrev Grouped : Bool → Tok → List Tok → Type 0
Grouped b t ts = ((u : Tok) × (t ∷ ts ≡ u ∷ (if b then ts else t ∷ ts)) × IsGroup u) ⊎ ((t ∷ ts ≡ (if b then ts else t ∷ ts)) × IsNoGroup (if b then ts else t ∷ ts))

close_call_sound : (ts : List Tok) → OnDone (close_call ts) (λ _ rest. ClosesCall ts rest)
unfolding close_call group_at
close_call_sound ts = on_then _ _ (mark_sound 41 ts) (λ _ a closes. on_done (a, closes, group a))
  where
    group : (a : List Tok) → ((t : Tok) × (a ≡ t ∷ (if group_at a then drop 1 a else a)) × IsGroup t) ⊎ ((a ≡ (if group_at a then drop 1 a else a)) × IsNoGroup (if group_at a then drop 1 a else a))
    group [] = inr (refl, tt)
    group (t ∷ ts) = go (is_kind t.kind kinds.Hash) (has_prefix (codes "#dbg_") t.text) refl refl
      where
        go : (hash debug : Bool) → is_kind t.kind kinds.Hash ≡ hash → has_prefix (codes "#dbg_") t.text ≡ debug → Grouped (hash && not debug) t ts
        go true false is plain = inl (t, refl, (same_kind _ _ is, plain))
        go true true is debug = inr (refl, λ g. true≢false (sym debug ∙ g.1))
        go false debug other is = inr (refl, λ g. true≢false (sym (kind_same kinds.Hash) ∙ ap (λ k. is_kind k kinds.Hash) (sym g.0) ∙ other))

-- the rest of a call whose front is there spells what it computes
abbrev EndsCall : Callee → ℕ → Operand → List Tok → Op → List Tok → Type 0
EndsCall f w first ts computed rest =
    IsValued computed × ((start end : List Tok) → IsCallee f → BeginsCall (name_of f) w first start ts → ClosesCall rest end → SpellsOp computed start end)

last_argument_sound : (f : Callee) (w : ℕ) (first : Operand) (ts : List Tok) → OnDone (last_argument f w first ts) (EndsCall f w first ts)
unfolding last_argument
last_argument_sound (callee.Bin kind) w first ts = on_then _ _ (of_width_sound w ts) (λ right a r. on_done (
  tt,
  λ start end valid begins closes.
      subst (λ called. SpellsBin called kind no_flags w first right start end) (sym valid) (refl, ts, a, begins, r, closes),
))
last_argument_sound callee.Abs w first ts = on_then _ _ (one_width_sound 1 ts) (λ _ a t. on_then _ _ (literal_sound 1 a) (λ n b l. on_done (
  tt,
  λ start end valid begins closes.
      (n, refl, ts, a, b, begins, t, l, closes),
)))

value_call_sound : (ts : List Tok) → is_call_word (word_at ts) ≡ true → OnDone (value_call ts) (λ o rest. SpellsValued o ts rest)
unfolding value_call
value_call_sound ts is =
    on_then _ _ (call_words_sound ts is) (λ _ a call. on_then _ _ (width_sound a) (λ w b t. on_then _ _ (called_sound w b) (λ f c named.
    on_then _ _ (mark_sound 40 c) (λ _ d opens. on_then _ _ (of_width_sound w d) (λ first e arg. on_then _ _ (mark_sound 44 e) (λ _ g comma.
    on_then _ _ (last_argument_sound f w first g) (λ computed h ends. on_then _ _ (close_call_sound h) (λ _ rest closes.
    on_done (ends.0, ends.1 ts rest named.0 (a, b, c, d, e, call, t, named.1, opens, arg, comma) closes)))))))))

void_sound : (ts : List Tok) → OnDone (void ts) (λ _ rest. IsWord (codes "void") ts rest)
unfolding void
void_sound ts = on_take_if _ _ _ ts (λ is. word_is _ ts refl (same_bytes _ _ is))

assume_callee_sound : (ts : List Tok) → OnDone (assume_callee ts) (λ _ rest. IsNameOf kinds.Global (codes "llvm.assume") ts rest)
unfolding assume_callee assume_at
assume_callee_sound ts = on_take_if _ _ _ ts (λ is. let p = both_true _ _ is in let k = kind_is kinds.Global ts p.0 in (k.0, k.1, k.2, k.3 ∙ same_bytes _ _ p.1))

-- what `llvm.assume` takes
abbrev pub SpellsAssume : Op → (ts rest : List Tok) → Type 0
SpellsAssume computed ts rest = (cond_ : Operand) × (computed ≡ op.Assume cond_) × SpellsOp (op.Assume cond_) ts rest

pub assume_sound : (ts : List Tok) → is_call_word (word_at ts) ≡ true → OnDone (assume ts) (λ o rest. SpellsAssume o ts rest)
unfolding assume
assume_sound ts is =
    on_then _ _ (call_words_sound ts is) (λ _ a call. on_then _ _ (void_sound a) (λ _ b no_type. on_then _ _ (assume_callee_sound b) (λ _ c named.
    on_then _ _ (mark_sound 40 c) (λ _ d opens. on_then _ _ (of_width_sound 1 d) (λ arg e typed. on_then _ _ (close_call_sound e) (λ _ rest closes.
    on_done (arg, refl, (a, b, c, d, e, call, no_type, named, opens, typed, closes))))))))

-- what stands behind `%r =`
pub operation_sound : (ts : List Tok) → OnDone (operation ts) (λ o rest. SpellsValued o ts rest)
unfolding operation
operation_sound ts =
    on_some (binary_of (word_at ts)) _ _
    (λ kind is. let p = if_some_at _ _ kind (binary_of_is (word_at ts)) is in binary_sound kind ts (drop 1 ts) (word_is _ ts (binary_some kind p.1) p.0) p.1)
    (on_some (cast_of (word_at ts)) _ _
    (λ kind is. conversion_sound kind ts (drop 1 ts) (word_is _ ts (cast_some kind) (if_some_at _ _ kind (cast_of_is (word_at ts)) is)))
    (on_if (bytes_eq (word_at ts) (codes "icmp")) _ _ (λ is. compare_sound ts (drop 1 ts) (word_is _ ts refl (same_bytes _ _ is)))
    (λ _. on_if (bytes_eq (word_at ts) (codes "select")) _ _ (λ is. select_sound ts (drop 1 ts) (word_is _ ts refl (same_bytes _ _ is)))
    (λ _. on_if (is_call_word (word_at ts)) _ _ (λ is. value_call_sound ts is)
    (λ _. on_stopped _ ts)))))
  where
    binary_some : (kind : BinKind) → is_called kind ≡ false → is_empty (word_of kind) ≡ false
    binary_some bin.Add plain = refl
    binary_some bin.Sub plain = refl
    binary_some bin.Mul plain = refl
    binary_some bin.Shl plain = refl
    binary_some bin.Lshr plain = refl
    binary_some bin.Ashr plain = refl
    binary_some bin.And plain = refl
    binary_some bin.Or plain = refl
    binary_some bin.Xor plain = refl
    binary_some bin.Udiv plain = refl
    binary_some bin.Sdiv plain = refl
    binary_some bin.Urem plain = refl
    binary_some bin.Srem plain = refl
    binary_some bin.Smin plain = refl
    binary_some bin.Smax plain = refl
    binary_some bin.Umin plain = refl
    binary_some bin.Umax plain = refl

    cast_some : (kind : CastKind) → is_empty (cast_word kind) ≡ false
    cast_some cast.Zext = refl
    cast_some cast.Sext = refl
    cast_some cast.Trunc = refl
