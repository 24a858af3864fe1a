-- What is read one after the other is what is read of the whole.
use Rattle.std.proofs.Common.{◌≡◌, ℕ, List, [], ◌∷◌, ◌++◌, Bool, true, false, Option, Some, None, refl, sym, ◌∙◌, ap, append_assoc, arith}
use Rattle.std.specs.Prelude.{cond}
use Rattle.std.proofs.lemmas.List.{append-nil}
use Rattle.mix_system.specs.declared.literal.Lit.{Lit}
use Rattle.proof_text.specs.declared.reading.Reading.{Reading}
use Rattle.proof_text.specs.declared.reading.Reading.TheVariants.{Malformed, Unfit, Fits}
use Rattle.proof_text.specs.declared.line.Multiple.{Multiple}
use Rattle.proof_text.specs.Reading.{both, mapped, in_front, single, joined, gathered}
use Rattle.proof_text.specs.Words.{words_after}
use Rattle.proof_text.specs.Literal.{literal_of}
use Rattle.proof_text.specs.Line.{natural_32, multiple_of, literals_of, hints_of, multiples_of, is_colon, lemma_of}

pub gathered_push : {A : Type 0} (fits : Bool) (items pushed : List A) (x : A) → pushed ≡ items ++ x ∷ [] → gathered fits pushed ≡ joined (gathered fits items) (single (Fits x))
gathered_push true items pushed x is = ap Fits is
gathered_push false items pushed x is = refl

pub gathered_unfit : {A : Type 0} (fits : Bool) (items : List A) → gathered false items ≡ joined (gathered fits items) (single Unfit)
gathered_unfit true items = refl
gathered_unfit false items = refl

-- an item that was put behind the others, and one that stands before further items
joined_single : {A : Type 0} (a : Reading (List A)) (x : Reading A) (r : Reading (List A)) → joined (joined a (single x)) r ≡ joined a (in_front x r)
joined_single Malformed x r = refl
joined_single Unfit Malformed Malformed = refl
joined_single Unfit Malformed Unfit = refl
joined_single Unfit Malformed (Fits ys) = refl
joined_single Unfit Unfit Malformed = refl
joined_single Unfit Unfit Unfit = refl
joined_single Unfit Unfit (Fits ys) = refl
joined_single Unfit (Fits x) Malformed = refl
joined_single Unfit (Fits x) Unfit = refl
joined_single Unfit (Fits x) (Fits ys) = refl
joined_single (Fits xs) Malformed r = refl
joined_single (Fits xs) Unfit Malformed = refl
joined_single (Fits xs) Unfit Unfit = refl
joined_single (Fits xs) Unfit (Fits ys) = refl
joined_single (Fits xs) (Fits x) Malformed = refl
joined_single (Fits xs) (Fits x) Unfit = refl
joined_single {A} (Fits xs) (Fits x) (Fits ys) = ap {A = List A} Fits (append_assoc xs (x ∷ []) ys)

joined_malformed : {A : Type 0} (a : Reading (List A)) (x : Reading A) (r : Reading (List A)) → x ≡ Malformed → joined a (in_front x r) ≡ Malformed
joined_malformed Malformed x r is = refl
joined_malformed Unfit x r is = rw is refl
joined_malformed (Fits xs) x r is = rw is refl

joined_end : {A : Type 0} (a : Reading (List A)) → joined a (Fits []) ≡ a
joined_end Malformed = refl
joined_end Unfit = refl
joined_end (Fits xs) = ap Fits (append-nil xs)

joined_start : {A : Type 0} (r : Reading (List A)) → joined (Fits []) r ≡ r
joined_start Malformed = refl
joined_start Unfit = refl
joined_start (Fits xs) = refl

-- a list of words by a reading of one word
module _ {A : Type 0} (item : List ℕ → Reading A) (all : List (List ℕ) → Reading (List A)) (none : all [] ≡ Fits []) (more : (w : List ℕ) (ws : List (List ℕ)) → all (w ∷ ws) ≡ in_front (item w) (all ws)) where
  items_start : (rest : List ℕ) (a : Reading (List A)) → a ≡ Fits [] → joined a (all (words_after rest)) ≡ all (words_after rest)
  items_start rest a is = rw is (joined_start (all (words_after rest)))

  items_step : (whole a b : Reading (List A)) (left next word : List ℕ) → words_after left ≡ word ∷ words_after next → joined a (all (words_after left)) ≡ whole → b ≡ joined a (single (item word)) → joined b (all (words_after next)) ≡ whole
  items_step whole a b left next word is inv put =
      ap (λ r. joined r (all (words_after next))) put ∙ joined_single a (item word) (all (words_after next)) ∙ ap (joined a) (sym (more word (words_after next))) ∙ ap (λ ws. joined a (all ws)) (sym is) ∙ inv

  items_malformed : (whole a : Reading (List A)) (left next word : List ℕ) → words_after left ≡ word ∷ words_after next → joined a (all (words_after left)) ≡ whole → item word ≡ Malformed → Malformed ≡ whole
  items_malformed whole a left next word is inv bad =
      sym (joined_malformed a (item word) (all (words_after next)) bad) ∙ ap (joined a) (sym (more word (words_after next))) ∙ ap (λ ws. joined a (all ws)) (sym is) ∙ inv

  items_end : (whole a : Reading (List A)) (left : List ℕ) → words_after left ≡ [] → joined a (all (words_after left)) ≡ whole → a ≡ whole
  items_end whole a left is inv = sym (joined_end a) ∙ ap (joined a) (sym none) ∙ ap (λ ws. joined a (all ws)) (sym is) ∙ inv

pub literals_start : (rest : List ℕ) (a : Reading (List Lit)) → a ≡ Fits [] → joined a (literals_of (words_after rest)) ≡ literals_of (words_after rest)
literals_start = items_start literal_of literals_of refl (λ _ _. refl)

pub literals_step : (whole a b : Reading (List Lit)) (left next word : List ℕ) → words_after left ≡ word ∷ words_after next → joined a (literals_of (words_after left)) ≡ whole → b ≡ joined a (single (literal_of word)) → joined b (literals_of (words_after next)) ≡ whole
literals_step = items_step literal_of literals_of refl (λ _ _. refl)

pub literals_malformed : (whole a : Reading (List Lit)) (left next word : List ℕ) → words_after left ≡ word ∷ words_after next → joined a (literals_of (words_after left)) ≡ whole → literal_of word ≡ Malformed → Malformed ≡ whole
literals_malformed = items_malformed literal_of literals_of refl (λ _ _. refl)

pub literals_end : (whole a : Reading (List Lit)) (left : List ℕ) → words_after left ≡ [] → joined a (literals_of (words_after left)) ≡ whole → a ≡ whole
literals_end = items_end literal_of literals_of refl (λ _ _. refl)

pub hints_start : (rest : List ℕ) (a : Reading (List ℕ)) → a ≡ Fits [] → joined a (hints_of (words_after rest)) ≡ hints_of (words_after rest)
hints_start = items_start natural_32 hints_of refl (λ _ _. refl)

pub hints_step : (whole a b : Reading (List ℕ)) (left next word : List ℕ) → words_after left ≡ word ∷ words_after next → joined a (hints_of (words_after left)) ≡ whole → b ≡ joined a (single (natural_32 word)) → joined b (hints_of (words_after next)) ≡ whole
hints_step = items_step natural_32 hints_of refl (λ _ _. refl)

pub hints_malformed : (whole a : Reading (List ℕ)) (left next word : List ℕ) → words_after left ≡ word ∷ words_after next → joined a (hints_of (words_after left)) ≡ whole → natural_32 word ≡ Malformed → Malformed ≡ whole
hints_malformed = items_malformed natural_32 hints_of refl (λ _ _. refl)

pub hints_end : (whole a : Reading (List ℕ)) (left : List ℕ) → words_after left ≡ [] → joined a (hints_of (words_after left)) ≡ whole → a ≡ whole
hints_end = items_end natural_32 hints_of refl (λ _ _. refl)

-- two words for each item
pub multiples_start : (rest : List ℕ) (a : Reading (List Multiple)) → a ≡ Fits [] → joined a (multiples_of (words_after rest)) ≡ multiples_of (words_after rest)
multiples_start rest a is = rw is (joined_start (multiples_of (words_after rest)))

two_words_left : (left behind next by lit : List ℕ) → words_after left ≡ by ∷ words_after behind → words_after behind ≡ lit ∷ words_after next → words_after left ≡ by ∷ lit ∷ words_after next
two_words_left left behind next by lit first second = first ∙ ap (λ (ws : List (List ℕ)). by ∷ ws) second

pub multiples_step : (whole a b : Reading (List Multiple)) (left behind next by lit : List ℕ) → words_after left ≡ by ∷ words_after behind → words_after behind ≡ lit ∷ words_after next → joined a (multiples_of (words_after left)) ≡ whole → b ≡ joined a (single (multiple_of by lit)) → joined b (multiples_of (words_after next)) ≡ whole
multiples_step whole a b left behind next by lit first second inv put =
    ap (λ r. joined r (multiples_of (words_after next))) put ∙ joined_single a (multiple_of by lit) (multiples_of (words_after next))
    ∙ ap (λ ws. joined a (multiples_of ws)) (sym (two_words_left left behind next by lit first second)) ∙ inv

pub multiples_malformed : (whole a : Reading (List Multiple)) (left behind next by lit : List ℕ) → words_after left ≡ by ∷ words_after behind → words_after behind ≡ lit ∷ words_after next → joined a (multiples_of (words_after left)) ≡ whole → multiple_of by lit ≡ Malformed → Malformed ≡ whole
multiples_malformed whole a left behind next by lit first second inv bad =
    sym (joined_malformed a (multiple_of by lit) (multiples_of (words_after next)) bad)
    ∙ ap (λ ws. joined a (multiples_of ws)) (sym (two_words_left left behind next by lit first second)) ∙ inv

joined_with_malformed : {A : Type 0} (a : Reading (List A)) → joined a Malformed ≡ Malformed
joined_with_malformed Malformed = refl
joined_with_malformed Unfit = refl
joined_with_malformed (Fits xs) = refl

pub multiples_odd : (whole a : Reading (List Multiple)) (left behind by : List ℕ) → words_after left ≡ by ∷ words_after behind → words_after behind ≡ [] → joined a (multiples_of (words_after left)) ≡ whole → Malformed ≡ whole
multiples_odd whole a left behind by first second inv =
    sym (joined_with_malformed a) ∙ ap (λ ws. joined a (multiples_of ws)) (sym (first ∙ ap (λ (ws : List (List ℕ)). by ∷ ws) second)) ∙ inv

pub multiples_end : (whole a : Reading (List Multiple)) (left : List ℕ) → words_after left ≡ [] → joined a (multiples_of (words_after left)) ≡ whole → a ≡ whole
multiples_end whole a left is inv = sym (joined_end a) ∙ ap (λ ws. joined a (multiples_of ws)) (sym is) ∙ inv

-- literals so far, before those up to the colon
abbrev pub before_lemma : Reading (List Lit) → Reading (List Lit × List ℕ) → Reading (List Lit × List ℕ)
before_lemma a r = mapped (λ p. (p.0 ++ p.1.0, p.1.1)) (both a r)

abbrev lemma_front : Reading Lit → Reading (List Lit × List ℕ) → Reading (List Lit × List ℕ)
lemma_front x r = mapped (λ p. (p.0 ∷ p.1.0, p.1.1)) (both x r)

before_single : (a : Reading (List Lit)) (x : Reading Lit) (r : Reading (List Lit × List ℕ)) → before_lemma (joined a (single x)) r ≡ before_lemma a (lemma_front x r)
before_single Malformed x r = refl
before_single Unfit Malformed Malformed = refl
before_single Unfit Malformed Unfit = refl
before_single Unfit Malformed (Fits y) = refl
before_single Unfit Unfit Malformed = refl
before_single Unfit Unfit Unfit = refl
before_single Unfit Unfit (Fits y) = refl
before_single Unfit (Fits x) Malformed = refl
before_single Unfit (Fits x) Unfit = refl
before_single Unfit (Fits x) (Fits y) = refl
before_single (Fits xs) Malformed r = refl
before_single (Fits xs) Unfit Malformed = refl
before_single (Fits xs) Unfit Unfit = refl
before_single (Fits xs) Unfit (Fits y) = refl
before_single (Fits xs) (Fits x) Malformed = refl
before_single (Fits xs) (Fits x) Unfit = refl
before_single (Fits xs) (Fits x) (Fits y) = ap (λ (front : List Lit). Fits (front, y.1)) (append_assoc xs (x ∷ []) y.0)

before_malformed : (a : Reading (List Lit)) (x : Reading Lit) (r : Reading (List Lit × List ℕ)) → x ≡ Malformed → before_lemma a (lemma_front x r) ≡ Malformed
before_malformed Malformed x r is = refl
before_malformed Unfit x r is = rw is refl
before_malformed (Fits xs) x r is = rw is refl

before_nothing : (a : Reading (List Lit)) → before_lemma a Malformed ≡ Malformed
before_nothing Malformed = refl
before_nothing Unfit = refl
before_nothing (Fits xs) = refl

before_hints : (a : Reading (List Lit)) (h : Reading (List ℕ)) → before_lemma a (mapped (λ hints. ([], hints)) h) ≡ both a h
before_hints Malformed h = refl
before_hints Unfit Malformed = refl
before_hints Unfit Unfit = refl
before_hints Unfit (Fits hints) = refl
before_hints (Fits xs) Malformed = refl
before_hints (Fits xs) Unfit = refl
before_hints (Fits xs) (Fits hints) = ap (λ (front : List Lit). Fits (front, hints)) (append-nil xs)

before_start : (r : Reading (List Lit × List ℕ)) → before_lemma (Fits []) r ≡ r
before_start Malformed = refl
before_start Unfit = refl
before_start (Fits y) = refl

pub lemma_start : (rest : List ℕ) (a : Reading (List Lit)) → a ≡ Fits [] → before_lemma a (lemma_of (words_after rest)) ≡ lemma_of (words_after rest)
lemma_start rest a is = rw is (before_start (lemma_of (words_after rest)))

lemma_of_literal : (word : List ℕ) (words : List (List ℕ)) → is_colon word ≡ false → lemma_of (word ∷ words) ≡ lemma_front (literal_of word) (lemma_of words)
lemma_of_literal word words other = rw other refl

lemma_of_colon : (word : List ℕ) (words : List (List ℕ)) → is_colon word ≡ true → lemma_of (word ∷ words) ≡ mapped (λ hints. ([], hints)) (hints_of words)
lemma_of_colon word words colon = rw colon refl

pub lemma_step : (whole : Reading (List Lit × List ℕ)) (a b : Reading (List Lit)) (left next word : List ℕ) → words_after left ≡ word ∷ words_after next → is_colon word ≡ false → before_lemma a (lemma_of (words_after left)) ≡ whole → b ≡ joined a (single (literal_of word)) → before_lemma b (lemma_of (words_after next)) ≡ whole
lemma_step whole a b left next word is other inv put =
    ap (λ r. before_lemma r (lemma_of (words_after next))) put ∙ before_single a (literal_of word) (lemma_of (words_after next))
    ∙ ap (before_lemma a) (sym (lemma_of_literal word (words_after next) other)) ∙ ap (λ ws. before_lemma a (lemma_of ws)) (sym is) ∙ inv

pub lemma_malformed : (whole : Reading (List Lit × List ℕ)) (a : Reading (List Lit)) (left next word : List ℕ) → words_after left ≡ word ∷ words_after next → is_colon word ≡ false → before_lemma a (lemma_of (words_after left)) ≡ whole → literal_of word ≡ Malformed → Malformed ≡ whole
lemma_malformed whole a left next word is other inv bad =
    sym (before_malformed a (literal_of word) (lemma_of (words_after next)) bad)
    ∙ ap (before_lemma a) (sym (lemma_of_literal word (words_after next) other)) ∙ ap (λ ws. before_lemma a (lemma_of ws)) (sym is) ∙ inv

pub lemma_colon : (whole : Reading (List Lit × List ℕ)) (a : Reading (List Lit)) (h : Reading (List ℕ)) (left next word : List ℕ) → words_after left ≡ word ∷ words_after next → is_colon word ≡ true → before_lemma a (lemma_of (words_after left)) ≡ whole → h ≡ hints_of (words_after next) → both a h ≡ whole
lemma_colon whole a h left next word is colon inv hints =
    ap (both a) hints ∙ sym (before_hints a (hints_of (words_after next)))
    ∙ ap (before_lemma a) (sym (lemma_of_colon word (words_after next) colon)) ∙ ap (λ ws. before_lemma a (lemma_of ws)) (sym is) ∙ inv

pub lemma_end : (whole : Reading (List Lit × List ℕ)) (a : Reading (List Lit)) (left : List ℕ) → words_after left ≡ [] → before_lemma a (lemma_of (words_after left)) ≡ whole → Malformed ≡ whole
lemma_end whole a left is inv = sym (before_nothing a) ∙ ap (λ ws. before_lemma a (lemma_of ws)) (sym is) ∙ inv
