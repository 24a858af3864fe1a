-- The first word of some bytes.
use Rattle.std.proofs.Common.{◌≡◌, ℕ, suc, List, [], ◌∷◌, take, drop, refl, ap, inl, inr, arith, false}
use Rattle.std.specs.Prelude.{◌==◌}
use Rattle.std.specs.List.{onto_first}
use Rattle.std.proofs.lemmas.Bool.{cases_eq}
use Rattle.std.proofs.lemmas.Bool.Decides.{nat_tests}
use Rattle.proof_text.specs.Words.{words, words_after, word_len}

pub words_first : (bytes : List ℕ) → words bytes ≡ take (word_len bytes) bytes ∷ words_after (drop (word_len bytes) bytes)
words_first [] = refl
words_first (byte ∷ bytes) = elim (cases_eq byte 32) [
  | inl space ↦ let none : word_len (byte ∷ bytes) ≡ 0 = grind (arith, nat_tests) in rw (none, space) refl
  | inr other ↦
      let more : word_len (byte ∷ bytes) ≡ suc (word_len bytes) = grind (arith, nat_tests) in
      let test : (byte == 32) ≡ false = grind (arith, nat_tests) in
      rw (more, test) (ap (onto_first byte) (words_first bytes))
]
