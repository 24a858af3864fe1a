-- Operands, types and targets: what is shown spells them where something does.
use Rattle.std.proofs.Common.{◌≡◌, ◌≢◌, ◌<◌, ◌≤◌, ◌^◌, ℕ, Bool, true, false, eqb, List, [], ◌∷◌, refl, sym, subst, inl, inr, arith, true≢false}
use Rattle.std.specs.Prelude.{codes, if◌then◌else◌}
use Rattle.std.specs.List.{list_all}
use Rattle.std.specs.Char.{is_ascii_digit}
use Rattle.std.specs.Fmt.{decimal}
use Rattle.std.proofs.lemmas.Bool.{eqb-true, eqb-false}
use Rattle.std.proofs.lemmas.Nat.{pow_pos}
use Rattle.std.proofs.Math.Nat.{mod-lt}
use Rattle.std.proofs.Math.Pow.{pow_mono}
use Rattle.ll_token.specs.declared.token.TokenKind.TheVariants as kinds
use Rattle.ll_tree.specs.declared.block.Operand.{Operand}
use Rattle.ll_tree.specs.declared.block.Operand.TheVariants as value
use Rattle.ll_tree.specs.Pieces.{Piece, Word, Bits, Number, Local, Mark, Blank}
use Rattle.ll_tree.specs.Text.{literal, operand_piece}
use Rattle.ll_grammar.specs.Tokens.{Tok}
use Rattle.ll_grammar.specs.Spells.{Is, IsType, IsLiteral, IsOperand, IsTyped, IsTarget, IsNextTarget, WritesNumber, WritesBit}
use Rattle.canonical_text.specs.Shown.{Shows, ShowAll}
use Rattle.canonical_text.proofs.DecimalLaws.{IsWritten, decimal_writes}
use Rattle.canonical_text.proofs.ShownLaws.{spaced}

-- ---- literals

pub within_64 : (w n : ℕ) → w ≤ 32 → n < 2 ^ w → n < 2 ^ 64
within_64 w n few fits = let most : 2 ^ w ≤ 2 ^ 32 = pow_mono few in omega (arith, most, fits)

number_fits : (w n : ℕ) (text : List ℕ) → WritesNumber w n text → n < 2 ^ w
number_fits w n [] writes = absurd writes
number_fits w n (byte ∷ digits) (inl (plain, is, fits)) = fits
number_fits w n (byte ∷ digits) (inr (minus, few, is)) = subst (λ (m : ℕ). m < 2 ^ w) (sym is) (mod-lt _ (pow_pos w))

bit_fits : (w n : ℕ) (text : List ℕ) → WritesBit w n text → n < 2 ^ w
bit_fits w n text (one, inl p) = subst (λ (v : ℕ). n < 2 ^ v) (sym one) (omega (arith, p.0))
bit_fits w n text (one, inr p) = subst (λ (v : ℕ). n < 2 ^ v) (sym one) (omega (arith, p.0))

pub literal_fits : (w n : ℕ) (ts rest : List Tok) → IsLiteral w n ts rest → n < 2 ^ w
literal_fits w n ts rest (t, e, inl p) = number_fits w n t.text p.1
literal_fits w n ts rest (t, e, inr p) = bit_fits w n t.text p.1

-- 45 is no digit
no_minus : (byte : ℕ) (digits : List ℕ) → list_all is_ascii_digit (byte ∷ digits) ≡ true → byte ≡ 45 → ⊥
no_minus byte digits all minus = let wrong : list_all is_ascii_digit (45 ∷ digits) ≡ true = subst (λ (b : ℕ). list_all is_ascii_digit (b ∷ digits) ≡ true) minus all in absurd (true≢false (sym wrong))

digits_write : (w n : ℕ) (digits : List ℕ) → IsWritten n digits → n < 2 ^ w → WritesNumber w n digits
digits_write w n [] written fits = absurd (omega (arith, written.some))
digits_write w n (byte ∷ digits) written fits = inl (no_minus byte digits written.all, sym written.value, fits)

number_again : (w n : ℕ) (ts rest : List Tok) → w ≤ 32 → n < 2 ^ w → Is kinds.Number (decimal n) ts rest → IsLiteral w n ts rest
number_again w n ts rest few fits (t, e, k, is) =
    (t, e, inl (k, subst (WritesNumber w n) (sym is) (digits_write w n (decimal n) (decimal_writes n (within_64 w n few fits)) fits)))

bit_again : (w n : ℕ) (ts rest : List Tok) → w ≡ 1 → n < 2 ^ w → (b : Bool) → eqb n 0 ≡ b → Shows (if b then Word (codes "false") else Word (codes "true")) ts rest → IsLiteral w n ts rest
bit_again w n ts rest one fits true none ((t, e, k, is), calm) = (t, e, inr (k, (one, inr (eqb-true n 0 none, is))))
bit_again w n ts rest one fits false none ((t, e, k, is), calm) =
    let two : n < 2 ^ 1 = subst (λ (v : ℕ). n < 2 ^ v) one fits in
    let some : n ≢ 0 = eqb-false n 0 none in
    (t, e, inr (k, (one, inl (omega (arith, two, some), is))))

literal_by : (w n : ℕ) (ts rest : List Tok) → w ≤ 32 → n < 2 ^ w → (b : Bool) → eqb w 1 ≡ b → Shows (if b then (if eqb n 0 then Word (codes "false") else Word (codes "true")) else Number n) ts rest → IsLiteral w n ts rest
literal_by w n ts rest few fits true one s = bit_again w n ts rest (eqb-true w 1 one) fits (eqb n 0) refl s
literal_by w n ts rest few fits false other s = number_again w n ts rest few fits s

pub literal_again : (w n : ℕ) (us vs ts rest : List Tok) → w ≤ 32 → IsLiteral w n us vs → Shows (literal w n) ts rest → IsLiteral w n ts rest
literal_again w n us vs ts rest few given s = literal_by w n ts rest few (literal_fits w n us vs given) (eqb w 1) refl s

-- ---- operands

pub operand_again : (w : ℕ) (x : Operand) (us vs ts rest : List Tok) → w ≤ 32 → IsOperand w x us vs → Shows (operand_piece w x) ts rest → IsOperand w x ts rest
operand_again w (value.Name name) us vs ts rest few given s = s
operand_again w (value.Const n) us vs ts rest few given s = literal_again w n us vs ts rest few given s
operand_again w value.Poison us vs ts rest few given s = s.0

pub type_again : (w : ℕ) (us vs ts rest : List Tok) → IsType w us vs → Shows (Bits w) ts rest → IsType w ts rest
type_again w us vs ts rest (given, some, few) s = (s, some, few)

-- a type and an operand before other pieces
pub typed_again : (w : ℕ) (x : Operand) (pieces : List Piece) (us vs ts rest : List Tok) → IsTyped w x us vs → ShowAll (Bits w ∷ Blank ∷ operand_piece w x ∷ pieces) ts rest → (a : List Tok) × IsTyped w x ts a × ShowAll pieces a rest
typed_again w x pieces us vs ts rest (m, type, given) s =
    let (a, is, more) = spaced (Bits w) (operand_piece w x ∷ pieces) ts rest s in
    (more.0, (a, type_again w us m ts a type is, operand_again w x m vs a more.0 type.2 given more.1), more.2)

-- ---- targets

pub target_again : (to : List ℕ) (pieces : List Piece) (ts rest : List Tok) → ShowAll (Word (codes "label") ∷ Blank ∷ Local to ∷ pieces) ts rest → (a : List Tok) × IsTarget to ts a × ShowAll pieces a rest
target_again to pieces ts rest s =
    let (a, is, more) = spaced (Word (codes "label")) (Local to ∷ pieces) ts rest s in
    (more.0, (a, is.0, more.1), more.2)

pub next_target_again : (to : List ℕ) (pieces : List Piece) (ts rest : List Tok) → ShowAll (Mark 44 ∷ Blank ∷ Word (codes "label") ∷ Blank ∷ Local to ∷ pieces) ts rest → (a : List Tok) × IsNextTarget to ts a × ShowAll pieces a rest
next_target_again to pieces ts rest s =
    let (a, is, more) = spaced (Mark 44) (Word (codes "label") ∷ Blank ∷ Local to ∷ pieces) ts rest s in
    let (b, to_it, behind) = target_again to pieces a rest more in
    (b, (a, is, to_it), behind)
