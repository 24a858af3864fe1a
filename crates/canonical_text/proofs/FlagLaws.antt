-- Flags: the words that are shown are those of the flags, each once.
use Rattle.std.proofs.Common.{◌≡◌, ℕ, Bool, true, false, ◌&&◌, ◌||◌, List, [], ◌∷◌, ◌++◌, refl, sym, ap, ◌∙◌, subst, true≢false}
use Rattle.std.specs.Prelude.{codes, IsTrue}
use Rattle.std.specs.List.{list_all}
use Rattle.std.specs.Str.{bytes_eq}
use Rattle.ll_tree.specs.declared.op.Flags.{Flags}
use Rattle.ll_tree.specs.Pieces.{Piece, Word}
use Rattle.ll_tree.specs.Text.{flag, flag_pieces}
use Rattle.ll_grammar.specs.Tokens.{Tok}
use Rattle.ll_grammar.specs.Spells.{AreWords, has, AreOnce, flags_of, flag_words, AreFlags}
use Rattle.ll_grammar.proofs.TokenLaws.{same_bytes, both_true}
use Rattle.ll_grammar.proofs.FlagLaws.{or_false, or_true, and_true, and_false, or_assoc}
use Rattle.canonical_text.specs.Shown.{ShowAll}
use Rattle.canonical_text.proofs.ShownLaws.{split, spaced}

-- a word, where it is wanted, before others
abbrev pub with_word : Bool → List ℕ → List (List ℕ) → List (List ℕ)
with_word false word words = words
with_word true word words = word ∷ words

pub has-with_word : (x : List ℕ) (b : Bool) (word : List ℕ) (words : List (List ℕ)) → has x (with_word b word words) ≡ (b && bytes_eq word x || has x words)
has-with_word x false word words = refl
has-with_word x true word words = refl

once_with : (b : Bool) (word : List ℕ) (words : List (List ℕ)) → has word words ≡ false → AreOnce words → AreOnce (with_word b word words)
once_with false word words new once = once
once_with true word words new once = (new, once)

absent_with : (x : List ℕ) (b : Bool) (word : List ℕ) (words : List (List ℕ)) → bytes_eq word x ≡ false → has x words ≡ false → has x (with_word b word words) ≡ false
absent_with x false word words other none = none
absent_with x true word words other none = ap (λ h. h || has x words) other ∙ none

all_with : (test : List ℕ → Bool) (b : Bool) (word : List ℕ) (words : List (List ℕ)) → (b ≡ true → test word ≡ true) → list_all test words ≡ true → list_all test (with_word b word words) ≡ true
all_with test false word words passes all = all
all_with test true word words passes all = ap (λ h. h && list_all test words) (passes refl) ∙ all

-- a word that is there passes a test that all pass
passes_there : (test : List ℕ → Bool) (x : List ℕ) (words : List (List ℕ)) → list_all test words ≡ true → has x words ≡ true → test x ≡ true
passes_there test x [] all there = absurd (true≢false (sym there))
passes_there test x (w ∷ words) all there =
    let p = both_true (test w) (list_all test words) all in
    go (bytes_eq w x) refl p.0 (passes_there test x words p.1) there
  where
    go : (b : Bool) → bytes_eq w x ≡ b → test w ≡ true → (has x words ≡ true → test x ≡ true) → (b || has x words) ≡ true → test x ≡ true
    go true e passes later h = ap test (sym (same_bytes w x e)) ∙ passes
    go false e passes later h = later h

-- the words of flags in the order in which they are written
abbrev pub words_of : Flags → List (List ℕ)
words_of f =
    with_word f.nuw (codes "nuw") (with_word f.nsw (codes "nsw") (with_word f.exact (codes "exact")
    (with_word f.nneg (codes "nneg") (with_word f.samesign (codes "samesign") (with_word f.disjoint (codes "disjoint") [])))))

pub ruleset flags_there = (has-with_word, or_false, or_true, and_true, and_false)

words_are : (f : Flags) → f ≡ flags_of (words_of f)
words_are f = simp flags_there

words_once : (f : Flags) → AreOnce (words_of f)
words_once f =
    once_with f.nuw _ _ (absent_with _ f.nsw _ _ refl (absent_with _ f.exact _ _ refl (absent_with _ f.nneg _ _ refl (absent_with _ f.samesign _ _ refl (absent_with _ f.disjoint _ _ refl refl)))))
    (once_with f.nsw _ _ (absent_with _ f.exact _ _ refl (absent_with _ f.nneg _ _ refl (absent_with _ f.samesign _ _ refl (absent_with _ f.disjoint _ _ refl refl))))
    (once_with f.exact _ _ (absent_with _ f.nneg _ _ refl (absent_with _ f.samesign _ _ refl (absent_with _ f.disjoint _ _ refl refl)))
    (once_with f.nneg _ _ (absent_with _ f.samesign _ _ refl (absent_with _ f.disjoint _ _ refl refl))
    (once_with f.samesign _ _ (absent_with _ f.disjoint _ _ refl refl)
    (once_with f.disjoint _ _ refl tt)))))

words_allowed : (allowed : Flags) (words : List (List ℕ)) → list_all (flag_words allowed) words ≡ true → list_all (flag_words allowed) (words_of (flags_of words)) ≡ true
words_allowed allowed words all =
    let test = flag_words allowed in
    all_with test _ _ _ (passes_there test _ words all) (all_with test _ _ _ (passes_there test _ words all) (all_with test _ _ _ (passes_there test _ words all)
    (all_with test _ _ _ (passes_there test _ words all) (all_with test _ _ _ (passes_there test _ words all) (all_with test _ _ _ (passes_there test _ words all) refl)))))

-- ---- what is shown

pub flag_shown : (b : Bool) (word : List ℕ) (words : List (List ℕ)) (ts a rest : List Tok) → ShowAll (flag b word) ts a → AreWords words a rest → AreWords (with_word b word words) ts rest
flag_shown false word words ts a rest e more = subst (λ (l : List Tok). AreWords words l rest) (sym e) more
flag_shown true word words ts a rest s more =
    let (c, is, e) = spaced (Word word) [] ts a s in
    (c, is.0, subst (λ (l : List Tok). AreWords words l rest) (sym e) more)

-- a flag before others
pub flag_and : (b : Bool) (word : List ℕ) (words : List (List ℕ)) (pieces : List Piece) (ts rest : List Tok) → ((us : List Tok) → ShowAll pieces us rest → AreWords words us rest) → ShowAll (flag b word ++ pieces) ts rest → AreWords (with_word b word words) ts rest
flag_and b word words pieces ts rest later s =
    let (a, is, more) = split (flag b word) pieces ts rest s in
    flag_shown b word words ts a rest is (later a more)

flags_shown : (f : Flags) (ts rest : List Tok) → ShowAll (flag_pieces f) ts rest → AreWords (words_of f) ts rest
unfolding flag_pieces
flags_shown f ts rest s =
    flag_and f.nuw _ _ _ ts rest (λ us. flag_and f.nsw _ _ _ us rest (λ us. flag_and f.exact _ _ _ us rest (λ us. flag_and f.nneg _ _ _ us rest (λ us. flag_and f.samesign _ _ _ us rest
    (λ us h. flag_shown f.disjoint (codes "disjoint") [] us rest rest h refl))))) s

pub flags_again : (allowed f : Flags) (pieces : List Piece) (us vs ts rest : List Tok) → AreFlags allowed f us vs → ShowAll (flag_pieces f ++ pieces) ts rest → (a : List Tok) × AreFlags allowed f ts a × ShowAll pieces a rest
flags_again allowed f pieces us vs ts rest (words, are, all, once, is) s =
    let (a, shown, more) = split (flag_pieces f) pieces ts rest s in
    (a, (words_of f, flags_shown f ts a shown, subst (λ (g : Flags). IsTrue (list_all (flag_words allowed) (words_of g))) (sym is) (words_allowed allowed words all), words_once f, words_are f), more)
