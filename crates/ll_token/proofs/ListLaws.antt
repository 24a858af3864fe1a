-- Bytes that pass a test, from the front on.
use Rattle.std.proofs.Common.{◌≡◌, ℕ, suc, ◌+◌, ◌<◌, Bool, true, false, not, cond, eqb, List, [], ◌∷◌, ◌++◌, length, take, drop, refl, sym, subst, ◌∙◌, arith}
use Rattle.std.specs.List.{list_all, prefix_len}
use Rattle.std.proofs.lemmas.Bool.{and_parts, and_from, false≢true, ne_eqb, not-true, cond_both}
use Rattle.ll_token.specs.Bytes.{begins, line_ends}
use Rattle.std.proofs.lemmas.List.Sums.{sum_by-cons, sum_by-append}

-- a byte that passes a test is none that fails it
pub apart : (test : ℕ → Bool) (b c : ℕ) → test b ≡ true → test c ≡ false → eqb b c ≡ false
apart test b c passes fails = ne_eqb b c (λ same. false≢true (sym fails ∙ subst (λ (x : ℕ). test x ≡ true) same passes))

-- the bytes that pass from the front on
pub prefix_passes : (test : ℕ → Bool) (bytes : List ℕ) → list_all test (take (prefix_len test bytes) bytes) ≡ true
prefix_passes test [] = refl
prefix_passes test (b ∷ bytes) =
    cond_both (test b) (1 + prefix_len test bytes) 0 (λ (n : ℕ). list_all test (take n (b ∷ bytes)) ≡ true)
    (λ passes. let one : 1 + prefix_len test bytes ≡ suc (prefix_len test bytes) = omega arith in rw (one, passes) (prefix_passes test bytes))
    (λ _. refl)

pub prefix_ends : (test : ℕ → Bool) (bytes : List ℕ) → begins test (drop (prefix_len test bytes) bytes) ≡ false
prefix_ends test [] = refl
prefix_ends test (b ∷ bytes) =
    cond_both (test b) (1 + prefix_len test bytes) 0 (λ (n : ℕ). begins test (drop n (b ∷ bytes)) ≡ false)
    (λ _. let one : 1 + prefix_len test bytes ≡ suc (prefix_len test bytes) = omega arith in rw one (prefix_ends test bytes))
    (λ fails. fails)

pub prefix_is : (test : ℕ → Bool) (front rest : List ℕ) → list_all test front ≡ true → begins test rest ≡ false → prefix_len test (front ++ rest) ≡ length front
prefix_is test [] [] all ends = refl
prefix_is test [] (b ∷ rest) all ends = rw ends refl
prefix_is test (b ∷ front) rest all ends =
    let parts = and_parts (test b) (list_all test front) all in
    let more : prefix_len test (front ++ rest) ≡ length front = prefix_is test front rest parts.1 ends in
    rw (parts.0, more) (omega arith)

-- what passes one test passes another that asks no more
pub all_weaker : (p q : ℕ → Bool) (bytes : List ℕ) → ((b : ℕ) → p b ≡ true → q b ≡ true) → list_all p bytes ≡ true → list_all q bytes ≡ true
all_weaker p q [] weaker all = refl
all_weaker p q (b ∷ bytes) weaker all =
    let parts = and_parts (p b) (list_all p bytes) all in
    and_from (q b) (list_all q bytes) (weaker b parts.0) (all_weaker p q bytes weaker parts.1)

-- bytes of which none is LF end no line
pub no_line_ends : (bytes : List ℕ) → list_all (λ b. not (eqb b 10)) bytes ≡ true → line_ends bytes ≡ 0
no_line_ends [] all = refl
no_line_ends (b ∷ bytes) all =
    let parts = and_parts (not (eqb b 10)) (list_all (λ c. not (eqb c 10)) bytes) all in
    let other : eqb b 10 ≡ false = not-true (eqb b 10) parts.0 in
    let later : line_ends bytes ≡ 0 = no_line_ends bytes parts.1 in
    sum_by-cons (λ c. cond (eqb c 10) 1 0) b bytes ∙ rw other (omega (arith, later))

pub line_ends-append : (front rest : List ℕ) → line_ends (front ++ rest) ≡ line_ends front + line_ends rest
line_ends-append front rest = sum_by-append (λ c. cond (eqb c 10) 1 0) front rest

-- a first byte, if bytes of which each passes stand in front
pub front_byte : (test probe : ℕ → Bool) (front rest : List ℕ) → 0 < length front → list_all test front ≡ true → ((b : ℕ) → test b ≡ true → probe b ≡ false) → begins probe (front ++ rest) ≡ false
front_byte test probe [] rest some all differ = absurd (omega arith)
front_byte test probe (b ∷ front) rest some all differ = differ b (and_parts (test b) (list_all test front) all).0
