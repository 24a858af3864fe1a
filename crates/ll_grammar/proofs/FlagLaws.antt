-- The flags that are read are words that stand there, each one that is allowed and none twice.
use Rattle.std.proofs.Common.{◌≡◌, ℕ, zero, suc, Bool, true, false, cond, not, ◌&&◌, ◌||◌, List, [], ◌∷◌, ◌++◌, length, drop, Some, None, refl, sym, ap, ◌∙◌, subst, true≢false, append_assoc, append-nil}
use Rattle.std.specs.Prelude.{codes, IsTrue}
use Rattle.std.specs.List.{list_all}
use Rattle.std.specs.Str.{bytes_eq}
use Rattle.ll_tree.specs.declared.op.Flags.{Flags}
use Rattle.ll_grammar.specs.Tokens.{Tok, is_empty, word_at}
use Rattle.ll_grammar.specs.Words.{add_flag}
use Rattle.ll_grammar.specs.Forms.{flags, flags_within}
use Rattle.ll_grammar.specs.Spells.{AreWords, has, AreOnce, flags_of, flag_words, AreFlags}
use Rattle.ll_grammar.proofs.DoneLaws.{OnDone, on_done, on_some, weaken}
use Rattle.ll_grammar.proofs.TokenLaws.{same_bytes, bytes_same, both_true, word_is, some_if, some_is}

pub or_false : (b : Bool) → (b || false) ≡ b
or_false true = refl
or_false false = refl

pub or_true : (b : Bool) → (b || true) ≡ true
or_true true = refl
or_true false = refl

pub and_true : (b : Bool) → (b && true) ≡ b
and_true true = refl
and_true false = refl

pub and_false : (b : Bool) → (b && false) ≡ false
and_false true = refl
and_false false = refl

pub or_assoc : (a b c : Bool) → (a || (b || c)) ≡ ((a || b) || c)
or_assoc true b c = refl
or_assoc false b c = refl

pub neither : (a b : Bool) → (a || b) ≡ false → (a ≡ false) × (b ≡ false)
neither true b e = absurd (true≢false e)
neither false b e = (refl, e)

pub not_true_is : (b : Bool) → not b ≡ true → b ≡ false
not_true_is true e = absurd (true≢false (sym e))
not_true_is false e = refl

pub bytes_apart : (xs ys : List ℕ) → bytes_eq xs ys ≡ false → bytes_eq ys xs ≡ false
bytes_apart xs ys other = go (bytes_eq ys xs) refl
  where
    go : (b : Bool) → bytes_eq ys xs ≡ b → bytes_eq ys xs ≡ false
    go false e = e
    go true e = absurd (true≢false (sym (bytes_same xs ys (sym (same_bytes ys xs e))) ∙ other))

-- ---- words in a row

pub has_snoc : (x : List ℕ) (before : List (List ℕ)) (w : List ℕ) → has x (before ++ w ∷ []) ≡ (has x before || bytes_eq w x)
has_snoc x [] w = or_false (bytes_eq w x)
has_snoc x (b ∷ bs) w = ap (λ (h : Bool). bytes_eq b x || h) (has_snoc x bs w) ∙ or_assoc (bytes_eq b x) (has x bs) (bytes_eq w x)

once_snoc : (before : List (List ℕ)) (w : List ℕ) → AreOnce before → has w before ≡ false → AreOnce (before ++ w ∷ [])
once_snoc [] w once new = (refl, tt)
once_snoc (b ∷ bs) w once new =
    let p = neither (bytes_eq b w) (has w bs) new in
    (has_snoc b bs w ∙ ap (λ (h : Bool). h || bytes_eq w b) once.0 ∙ bytes_apart b w p.0, once_snoc bs w once.1 p.1)

pub once_new : (before : List (List ℕ)) (w : List ℕ) (behind : List (List ℕ)) → AreOnce (before ++ w ∷ behind) → has w before ≡ false
once_new [] w behind once = refl
once_new (b ∷ bs) w behind once =
    ap (λ (h : Bool). h || has w bs) (bytes_apart w b (apart bs once.0)) ∙ once_new bs w behind once.1
  where
    apart : (bs : List (List ℕ)) → has b (bs ++ w ∷ behind) ≡ false → bytes_eq w b ≡ false
    apart [] e = (neither _ _ e).0
    apart (c ∷ cs) e = apart cs (neither _ _ e).1

-- ---- one flag more

pub ruleset tests = (or_false, or_true, and_true, and_false, has_snoc)

-- the flags with those of a word, where it is one that is allowed and isn't there
abbrev pub Adds : Flags → List (List ℕ) → List ℕ → Type 0
Adds allowed before word = add_flag allowed (flags_of before) word ≡ cond (flag_words allowed word && not (has word before)) (Some (flags_of (before ++ word ∷ []))) None

adds_nuw : (allowed : Flags) (before : List (List ℕ)) → Adds allowed before (codes "nuw")
unfolding add_flag
adds_nuw allowed before = simp tests

adds_nsw : (allowed : Flags) (before : List (List ℕ)) → Adds allowed before (codes "nsw")
unfolding add_flag
adds_nsw allowed before = simp tests

adds_exact : (allowed : Flags) (before : List (List ℕ)) → Adds allowed before (codes "exact")
unfolding add_flag
adds_exact allowed before = simp tests

adds_nneg : (allowed : Flags) (before : List (List ℕ)) → Adds allowed before (codes "nneg")
unfolding add_flag
adds_nneg allowed before = simp tests

adds_samesign : (allowed : Flags) (before : List (List ℕ)) → Adds allowed before (codes "samesign")
unfolding add_flag
adds_samesign allowed before = simp tests

adds_disjoint : (allowed : Flags) (before : List (List ℕ)) → Adds allowed before (codes "disjoint")
unfolding add_flag
adds_disjoint allowed before = simp tests

adds_none : (allowed : Flags) (before : List (List ℕ)) (word : List ℕ) → bytes_eq word (codes "nuw") ≡ false → bytes_eq word (codes "nsw") ≡ false → bytes_eq word (codes "exact") ≡ false
    → bytes_eq word (codes "nneg") ≡ false → bytes_eq word (codes "samesign") ≡ false → bytes_eq word (codes "disjoint") ≡ false → Adds allowed before word
unfolding add_flag
adds_none allowed before word a b c d e f = rw (a, b, c, d, e, f) (simp tests)

by_word : (P : List ℕ → Type 0) (word literal : List ℕ) → P literal → (bytes_eq word literal ≡ false → P word) → P word
by_word P word literal here other = go (bytes_eq word literal) refl
  where
    go : (b : Bool) → bytes_eq word literal ≡ b → P word
    go true e = subst P (sym (same_bytes word literal e)) here
    go false e = other e

pub adds : (allowed : Flags) (before : List (List ℕ)) (word : List ℕ) → Adds allowed before word
adds allowed before word =
    by_word (Adds allowed before) word (codes "nuw") (adds_nuw allowed before) (λ a.
    by_word (Adds allowed before) word (codes "nsw") (adds_nsw allowed before) (λ b.
    by_word (Adds allowed before) word (codes "exact") (adds_exact allowed before) (λ c.
    by_word (Adds allowed before) word (codes "nneg") (adds_nneg allowed before) (λ d.
    by_word (Adds allowed before) word (codes "samesign") (adds_samesign allowed before) (λ e.
    by_word (Adds allowed before) word (codes "disjoint") (adds_disjoint allowed before) (λ f.
    adds_none allowed before word a b c d e f))))))

flag_is_some : (allowed : Flags) (word : List ℕ) → flag_words allowed word ≡ true → is_empty word ≡ false
flag_is_some allowed [] is = let none : flag_words allowed [] ≡ false = simp tests in absurd (true≢false (sym is ∙ none))
flag_is_some allowed (b ∷ bs) is = refl

-- ---- flags in a row

-- words behind these, and the flags of all
abbrev FlagsFrom : Flags → List (List ℕ) → List Tok → Flags → List Tok → Type 0
FlagsFrom allowed before ts f rest =
    (words : List (List ℕ)) × AreWords words ts rest × IsTrue (list_all (flag_words allowed) words) × AreOnce (before ++ words) × (f ≡ flags_of (before ++ words))

flags_end : (allowed : Flags) (before : List (List ℕ)) (ts : List Tok) → AreOnce before → FlagsFrom allowed before ts (flags_of before) ts
flags_end allowed before ts once = ([], refl, refl, subst AreOnce (sym (append-nil before)) once, ap flags_of (sym (append-nil before)))

flags_within_sound : (most : ℕ) (allowed : Flags) (before : List (List ℕ)) (ts : List Tok) → AreOnce before → OnDone (flags_within most allowed (flags_of before) ts) (FlagsFrom allowed before ts)
unfolding flags_within
flags_within_sound zero allowed before ts once = on_done (flags_end allowed before ts once)
flags_within_sound (suc most) allowed before ts once =
    on_some (add_flag allowed (flags_of before) (word_at ts)) _ _
    (λ more is.
    let p = some_if _ _ more (sym (adds allowed before (word_at ts)) ∙ is) in
    let q = both_true _ _ p.0 in
    let new = not_true_is _ q.1 in
    let more_is : flags_of (before ++ word_at ts ∷ []) ≡ more = some_is _ _ p.1 in
    subst (λ f. OnDone (flags_within most allowed f (drop 1 ts)) (FlagsFrom allowed before ts)) more_is
    (weaken (flags_within_sound most allowed (before ++ word_at ts ∷ []) (drop 1 ts) (once_snoc before (word_at ts) once new)) (λ f rest w. (
      word_at ts ∷ w.0,
      (drop 1 ts, word_is _ ts (flag_is_some allowed _ q.0) refl, w.1),
      ap (λ (b : Bool). b && list_all (flag_words allowed) w.0) q.0 ∙ w.2,
      subst AreOnce (append_assoc before (word_at ts ∷ []) w.0) w.3,
      w.4 ∙ ap flags_of (append_assoc before (word_at ts ∷ []) w.0),
    ))))
    (on_done (flags_end allowed before ts once))

pub flags_sound : (allowed : Flags) (ts : List Tok) → OnDone (flags allowed ts) (λ f rest. AreFlags allowed f ts rest)
unfolding flags
flags_sound allowed ts = flags_within_sound (length ts) allowed [] ts tt
