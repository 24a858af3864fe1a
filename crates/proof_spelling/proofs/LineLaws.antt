-- The first line of some bytes.
use Rattle.std.proofs.Common.{◌≡◌, ◌<◌, ◌-◌, ℕ, suc, List, [], ◌∷◌, ◌++◌, length, take, drop, refl, sym, ◌∙◌, ap, inl, inr, arith, false}
use Rattle.std.proofs.lemmas.List.{take-append-drop, take_all, append-nil, length-drop}
use Rattle.std.specs.Prelude.{◌==◌}
use Rattle.std.specs.List.{onto_first}
use Rattle.std.proofs.lemmas.Bool.{cases_eq}
use Rattle.std.proofs.lemmas.Bool.Decides.{nat_tests}
use Rattle.proof_spelling.specs.Spells.{lines, line_len, lines_after}

pub lines_first : (bytes : List ℕ) → lines bytes ≡ take (line_len bytes) bytes ∷ lines_after (drop (line_len bytes) bytes)
lines_first [] = refl
lines_first (byte ∷ bytes) = elim (cases_eq byte 10) [
  | inl feed ↦ let none : line_len (byte ∷ bytes) ≡ 0 = grind (arith, nat_tests) in rw (none, feed) refl
  | inr other ↦
      let more : line_len (byte ∷ bytes) ≡ suc (line_len bytes) = grind (arith, nat_tests) in
      let test : (byte == 10) ≡ false = grind (arith, nat_tests) in
      rw (more, test) (ap (onto_first byte) (lines_first bytes))
]

-- no line feed is left behind the first line
pub one_line : (bytes behind : List ℕ) (n : ℕ) → n ≡ line_len bytes → behind ≡ drop n bytes → length behind ≡ 0 → lines bytes ≡ bytes ∷ []
one_line bytes behind n len is empty =
    let none : drop n bytes ≡ [] = sym is ∙ no_items behind empty in
    let rest : drop (line_len bytes) bytes ≡ [] = ap (λ k. drop k bytes) (sym len) ∙ none in
    let whole : take (line_len bytes) bytes ≡ bytes =
    sym (append-nil _) ∙ ap (λ (xs : List ℕ). take (line_len bytes) bytes ++ xs) (sym rest) ∙ take-append-drop (line_len bytes) bytes in
    lines_first bytes ∙ ap (λ (xs : List ℕ). take (line_len bytes) bytes ∷ lines_after xs) rest ∙ ap (λ (xs : List ℕ). xs ∷ []) whole
  where
    no_items : (xs : List ℕ) → length xs ≡ 0 → xs ≡ []
    no_items [] e = refl
    no_items (x ∷ xs) e = absurd (omega (arith, e))

-- what stands behind the line feed with which some bytes begin
behind_feed : (behind : List ℕ) → 0 < length behind → take (length behind - 1) (drop 1 behind) ≡ drop 1 behind
behind_feed behind some = take_all (length behind - 1) (drop 1 behind) (omega (arith, length-drop 1 behind))

after_feed : (behind : List ℕ) → 0 < length behind → lines_after behind ≡ lines (drop 1 behind)
after_feed [] some = absurd (omega (arith, some))
after_feed (byte ∷ bytes) some = refl

pub next_lines : (bytes line behind : List ℕ) (n : ℕ) → n ≡ line_len bytes → line ≡ take n bytes → behind ≡ drop n bytes → 0 < length behind
    → (lines bytes ≡ line ∷ lines (take (length behind - 1) (drop 1 behind))) × (length (take (length behind - 1) (drop 1 behind)) < length bytes)
next_lines bytes line behind n len front back some =
    let first : lines bytes ≡ take n bytes ∷ lines_after (drop n bytes) = lines_first bytes ∙ ap (λ k. take k bytes ∷ lines_after (drop k bytes)) (sym len) in
    let parts : lines bytes ≡ line ∷ lines_after behind = first ∙ ap (λ (xs : List ℕ). xs ∷ lines_after (drop n bytes)) (sym front) ∙ ap (λ (xs : List ℕ). line ∷ lines_after xs) (sym back) in
    let rest = behind_feed behind some in
    let left : length behind ≡ length bytes - n = ap (λ (xs : List ℕ). length xs) back ∙ length-drop n bytes in
    let size : length (take (length behind - 1) (drop 1 behind)) ≡ length behind - 1 = ap (λ (xs : List ℕ). length xs) rest ∙ length-drop 1 behind in
    (parts ∙ ap (λ (ls : List (List ℕ)). line ∷ ls) (after_feed behind some) ∙ ap (λ (xs : List ℕ). line ∷ lines xs) (sym rest), omega (arith, some, left, size))
