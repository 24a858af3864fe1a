-- A name as it is written is a token's name.
use Rattle.std.proofs.Common.{◌≡◌, ◌<◌, ◌≤◌, ◌+◌, ◌*◌, ◌/◌, ◌%◌, ℕ, zero, suc, Bool, true, false, cond, not, ◌&&◌, eqb, ltb, leb, List, [], ◌∷◌, ◌++◌, length, refl, sym, ap, ◌∙◌, subst, inl, inr, arith}
use Rattle.std.specs.List.{list_all, flat_map}
use Rattle.std.specs.Char.{digit_value}
use Rattle.std.proofs.lemmas.Bool.{ltb-true, leb-true, eqb-false, ne_eqb, and_from}
use Rattle.std.proofs.lemmas.List.Folds.{list_all-append}
use Rattle.ll_token.specs.Bytes.{is_run_byte, is_inner, begins}
use Rattle.ll_token.specs.Names.{IsPiece, StandsFor, IsRun, Writes}
use Rattle.ll_tree.specs.Naming.{hex_digit, is_plain, escaped, is_run, name_text}
use Rattle.ll_grammar.proofs.TokenLaws.{both_true}
use Rattle.ll_grammar.proofs.FlagLaws.{not_true_is}
use Rattle.canonical_text.specs.Named.{AreBytes}

abbrev IsHex : ℕ → Type 0
IsHex d = (digit_value (hex_digit d) ≡ d) × (is_inner (hex_digit d) ≡ true)

hex_is : (d : ℕ) → d < 16 → IsHex d
hex_is zero few = (refl, refl)
hex_is (suc zero) few = (refl, refl)
hex_is (suc (suc zero)) few = (refl, refl)
hex_is (suc (suc (suc zero))) few = (refl, refl)
hex_is (suc (suc (suc (suc zero)))) few = (refl, refl)
hex_is (suc (suc (suc (suc (suc zero))))) few = (refl, refl)
hex_is (suc (suc (suc (suc (suc (suc zero)))))) few = (refl, refl)
hex_is (suc (suc (suc (suc (suc (suc (suc zero))))))) few = (refl, refl)
hex_is (suc (suc (suc (suc (suc (suc (suc (suc zero)))))))) few = (refl, refl)
hex_is (suc (suc (suc (suc (suc (suc (suc (suc (suc zero))))))))) few = (refl, refl)
hex_is (suc (suc (suc (suc (suc (suc (suc (suc (suc (suc zero)))))))))) few = (refl, refl)
hex_is (suc (suc (suc (suc (suc (suc (suc (suc (suc (suc (suc zero))))))))))) few = (refl, refl)
hex_is (suc (suc (suc (suc (suc (suc (suc (suc (suc (suc (suc (suc zero)))))))))))) few = (refl, refl)
hex_is (suc (suc (suc (suc (suc (suc (suc (suc (suc (suc (suc (suc (suc zero))))))))))))) few = (refl, refl)
hex_is (suc (suc (suc (suc (suc (suc (suc (suc (suc (suc (suc (suc (suc (suc zero)))))))))))))) few = (refl, refl)
hex_is (suc (suc (suc (suc (suc (suc (suc (suc (suc (suc (suc (suc (suc (suc (suc zero))))))))))))))) few = (refl, refl)
hex_is (suc (suc (suc (suc (suc (suc (suc (suc (suc (suc (suc (suc (suc (suc (suc (suc d)))))))))))))))) few = absurd (omega (arith, few))

-- a byte between quotes
escaped_is : (byte : ℕ) → byte < 256 → IsPiece (escaped byte) byte × (list_all is_inner (escaped byte) ≡ true)
unfolding escaped
escaped_is byte few = go (is_plain byte) refl
  where
    go : (b : Bool) → is_plain byte ≡ b → IsPiece (cond b (byte ∷ []) (92 ∷ hex_digit (byte / 16) ∷ hex_digit (byte % 16) ∷ [])) byte × (list_all is_inner (cond b (byte ∷ []) (92 ∷ hex_digit (byte / 16) ∷ hex_digit (byte % 16) ∷ [])) ≡ true)
    go true e =
        let p = both_true (leb 32 byte && leb byte 126) (not (eqb byte 34) && not (eqb byte 92)) e in
        let range = both_true (leb 32 byte) (leb byte 126) p.0 in
        let marks = both_true (not (eqb byte 34)) (not (eqb byte 92)) p.1 in
        let no_quote : eqb byte 34 ≡ false = not_true_is (eqb byte 34) marks.0 in
        let printable : 32 ≤ byte = leb-true 32 byte range.0 in
        let no_line_end : eqb byte 10 ≡ false = ne_eqb byte 10 (λ same. omega (arith, same, printable)) in
        (inl (refl, eqb-false byte 92 (not_true_is (eqb byte 92) marks.1)), rw (no_quote, no_line_end) refl)
    go false e =
        let high = hex_is (byte / 16) (omega (arith, few)) in
        let low = hex_is (byte % 16) (omega arith) in (
          inr (inr (
            hex_digit (byte / 16),
            hex_digit (byte % 16),
            refl,
            subst (λ (n : ℕ). n < 16) (sym high.0) (omega (arith, few)),
            subst (λ (n : ℕ). n < 16) (sym low.0) (omega arith),
            sym (ap (λ (n : ℕ). 16 * n + digit_value (hex_digit (byte % 16))) high.0 ∙ ap (λ (n : ℕ). 16 * (byte / 16) + n) low.0 ∙ omega arith),
          )),
          rw (high.1, low.1) refl,
        )

all_escaped : (name : List ℕ) → AreBytes name → StandsFor (flat_map escaped name) name [] × (list_all is_inner (flat_map escaped name) ≡ true)
all_escaped [] bytes = (refl, refl)
all_escaped (byte ∷ name) bytes =
    let first = escaped_is byte bytes.0 in
    let others = all_escaped name bytes.1 in
    ((escaped byte, flat_map escaped name, refl, first.0, others.0), list_all-append is_inner (escaped byte) (flat_map escaped name) ∙ and_from _ _ first.1 others.1)

-- a run that no run byte follows
pub run_is : (run after : List ℕ) → is_run run ≡ true → begins is_run_byte after ≡ false → IsRun run after
run_is run after is ends =
    let p = both_true (ltb 0 (length run)) (list_all is_run_byte run) is in
    record { some = ltb-true 0 (length run) p.0; each = p.1; longest = ends }

pub name_writes : (name after : List ℕ) → AreBytes name → begins is_run_byte after ≡ false → Writes (name_text name) after name
unfolding name_text
name_writes name after bytes ends = go (is_run name) refl
  where
    go : (b : Bool) → is_run name ≡ b → Writes (cond b name (34 ∷ (flat_map escaped name ++ 34 ∷ []))) after name
    go true e = inl (run_is name after e ends, refl)
    go false e = let p = all_escaped name bytes in inr (record { inner = flat_map escaped name; quotes = refl; in_line = p.1; escapes = p.0 })
