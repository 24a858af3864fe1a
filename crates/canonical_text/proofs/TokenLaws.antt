-- Each piece before those that may follow it is one token.
use Rattle.std.proofs.Common.{◌≡◌, ◌<◌, ◌≤◌, ◌^◌, ℕ, suc, Bool, true, false, not, ◌&&◌, ◌||◌, eqb, List, [], ◌∷◌, ◌++◌, length, refl, sym, ap, ◌∙◌, inl, arith, true≢false}
use Rattle.std.specs.Prelude.{codes}
use Rattle.std.specs.List.{list_all}
use Rattle.std.specs.Char.{is_ascii_digit}
use Rattle.std.specs.Fmt.{decimal}
use Rattle.std.proofs.lemmas.Bool.{and_from, lt-ltb, ne_eqb}
use Rattle.std.proofs.lemmas.List.Folds.{list_all-append}
use Rattle.ll_token.specs.declared.token.TokenKind.{TokenKind}
use Rattle.ll_token.specs.declared.token.TokenKind.TheVariants as kinds
use Rattle.ll_token.specs.Bytes.{is_run_byte, is_mark, begins, is_number, are_digits}
use Rattle.ll_token.specs.Lexemes.{HoldsName, IsPlainRun, IsToken}
use Rattle.ll_token.proofs.ListLaws.{all_weaker}
use Rattle.ll_tree.specs.Naming.{is_run, name_text}
use Rattle.ll_tree.specs.Words.{type_word}
use Rattle.ll_tree.specs.Pieces.{Piece, Word, Bits, Number, Local, Global, Label, Intrinsic, Mark, Blank, LineEnd, written}
use Rattle.ll_grammar.proofs.TokenLaws.{both_true}
use Rattle.ll_grammar.proofs.FlagLaws.{not_true_is}
use Rattle.canonical_text.specs.Named.{IsName}
use Rattle.canonical_text.proofs.DecimalLaws.{decimal_writes}
use Rattle.canonical_text.proofs.NameLaws.{run_is, name_writes}

-- ---- what may stand in a text

-- a piece that is a token by itself, where no more of a run follows
abbrev pub IsLexed : Piece → Type 0
IsLexed (Word word) = (is_run word ≡ true) × (is_number word ≡ false)
IsLexed (Bits width) = width ≤ 32
IsLexed (Number number) = number < 2 ^ 64
IsLexed (Local name) = Unit {0}
IsLexed (Global name) = Unit {0}
IsLexed (Label name) = Unit {0}
IsLexed (Intrinsic word width) = (list_all is_run_byte word ≡ true) × (width ≤ 32)
IsLexed (Mark byte) = is_mark byte ≡ true
IsLexed Blank = Unit {0}
IsLexed LineEnd = Unit {0}

-- pieces that neither a run nor a label goes on with
abbrev pub starts_apart : List Piece → Bool
starts_apart [] = true
starts_apart (Blank ∷ pieces) = true
starts_apart (LineEnd ∷ pieces) = true
starts_apart (Mark byte ∷ pieces) = not (is_run_byte byte) && not (eqb byte 58)
starts_apart (piece ∷ pieces) = false

abbrev pub stands_alone : Piece → Bool
stands_alone Blank = true
stands_alone LineEnd = true
stands_alone (Mark byte) = true
stands_alone (Label name) = true
stands_alone piece = false

abbrev pub are_apart : Piece → List Piece → Bool
are_apart piece pieces = starts_apart pieces || stands_alone piece

abbrev pub EndsRun : List ℕ → Type 0
EndsRun after = (begins is_run_byte after ≡ false) × (begins (λ b. eqb b 58) after ≡ false)

ends_run : (pieces : List Piece) → starts_apart pieces ≡ true → EndsRun (written pieces)
ends_run [] apart = (refl, refl)
ends_run (Blank ∷ pieces) apart = (refl, refl)
ends_run (LineEnd ∷ pieces) apart = (refl, refl)
ends_run (Mark byte ∷ pieces) apart = let p = both_true _ _ apart in (not_true_is _ p.0, not_true_is _ p.1)
ends_run (Word w ∷ pieces) apart = absurd (true≢false (sym apart))
ends_run (Bits w ∷ pieces) apart = absurd (true≢false (sym apart))
ends_run (Number n ∷ pieces) apart = absurd (true≢false (sym apart))
ends_run (Local n ∷ pieces) apart = absurd (true≢false (sym apart))
ends_run (Global n ∷ pieces) apart = absurd (true≢false (sym apart))
ends_run (Label n ∷ pieces) apart = absurd (true≢false (sym apart))
ends_run (Intrinsic word w ∷ pieces) apart = absurd (true≢false (sym apart))

or_false_is : (b : Bool) → (b || false) ≡ true → b ≡ true
or_false_is true e = refl
or_false_is false e = e

-- ---- bytes of pieces

digit_run : (b : ℕ) → is_ascii_digit b ≡ true → is_run_byte b ≡ true
digit_run b is = rw is refl

pub decimal_run : (n : ℕ) → n < 2 ^ 64 → list_all is_run_byte (decimal n) ≡ true
decimal_run n fits = all_weaker is_ascii_digit is_run_byte (decimal n) digit_run (decimal_writes n fits).all

few_bits : (w : ℕ) → w ≤ 32 → w < 2 ^ 64
few_bits w few = omega (arith, few)

pub type_run : (w : ℕ) → w ≤ 32 → list_all is_run_byte (type_word w) ≡ true
type_run w few = decimal_run w (few_bits w few)

not_none : (xs : List ℕ) → eqb (suc (length xs)) 0 ≡ false
not_none xs = ne_eqb (suc (length xs)) 0 (λ e. omega (arith, e))

type_no_number : (w : ℕ) → is_number (type_word w) ≡ false
type_no_number w = ap (λ b. not b && false || false) (not_none (decimal w))

digits_number : (digits : List ℕ) → 0 < length digits → list_all is_ascii_digit digits ≡ true → is_number digits ≡ true
digits_number [] some all = absurd (omega (arith, some))
digits_number (byte ∷ digits) some all =
    ap (λ b. not b && list_all is_ascii_digit (byte ∷ digits) || (eqb byte 45 && are_digits digits)) (not_none digits) ∙ ap (λ b. b || (eqb byte 45 && are_digits digits)) all

written_run : (digits : List ℕ) → 0 < length digits → list_all is_run_byte digits ≡ true → is_run digits ≡ true
written_run digits some all = and_from _ _ (lt-ltb 0 (length digits) some) all

-- ---- tokens

-- the kind of a piece's token
abbrev pub kind_of : Piece → TokenKind
kind_of (Word word) = kinds.Word
kind_of (Bits width) = kinds.Word
kind_of (Number number) = kinds.Number
kind_of (Local name) = kinds.Local
kind_of (Global name) = kinds.Global
kind_of (Label name) = kinds.Label
kind_of (Intrinsic word width) = kinds.Global
kind_of (Mark byte) = kinds.Mark
kind_of Blank = kinds.Mark
kind_of LineEnd = kinds.Mark

plain_run : (text after : List ℕ) → is_run text ≡ true → EndsRun after → IsPlainRun text after
plain_run text after is ends = (run_is text after is ends.0, ends.1)

pub word_token : (word after : List ℕ) → IsLexed (Word word) → EndsRun after → IsToken kinds.Word word after
word_token word after is ends = (plain_run word after is.0 ends, is.1)

pub bits_token : (w : ℕ) (after : List ℕ) → w ≤ 32 → EndsRun after → IsToken kinds.Word (type_word w) after
bits_token w after few ends = (plain_run (type_word w) after (written_run (type_word w) (omega arith) (type_run w few)) ends, type_no_number w)

pub number_token : (n : ℕ) (after : List ℕ) → n < 2 ^ 64 → EndsRun after → IsToken kinds.Number (decimal n) after
number_token n after fits ends =
    let w = decimal_writes n fits in
    (plain_run (decimal n) after (written_run (decimal n) w.some (decimal_run n fits)) ends, digits_number (decimal n) w.some w.all)

pub local_holds : (name after : List ℕ) → IsName name → EndsRun after → HoldsName kinds.Local (37 ∷ name_text name) after name
local_holds name after is ends = (name_text name, refl, name_writes name after is.1 ends.0, is.0)

pub global_holds : (name after : List ℕ) → IsName name → EndsRun after → HoldsName kinds.Global (64 ∷ name_text name) after name
global_holds name after is ends = (name_text name, refl, name_writes name after is.1 ends.0, is.0)

pub label_holds : (name after : List ℕ) → IsName name → HoldsName kinds.Label (name_text name ++ 58 ∷ []) after name
label_holds name after is = (name_text name, refl, name_writes name (58 ∷ after) is.1 refl, is.0)

-- the name of a called function
abbrev pub called_name : List ℕ → ℕ → List ℕ
called_name word w = codes "llvm." ++ (word ++ (codes "." ++ type_word w))

pub called_run : (word : List ℕ) (w : ℕ) → IsLexed (Intrinsic word w) → list_all is_run_byte (called_name word w) ≡ true
called_run word w is = list_all-append is_run_byte word (codes "." ++ type_word w) ∙ and_from _ _ is.0 (type_run w is.1)

pub intrinsic_holds : (word : List ℕ) (w : ℕ) (after : List ℕ) → IsLexed (Intrinsic word w) → EndsRun after → HoldsName kinds.Global (64 ∷ called_name word w) after (called_name word w)
intrinsic_holds word w after is ends =
    (called_name word w, refl, inl (run_is (called_name word w) after (written_run (called_name word w) (omega arith) (called_run word w is)) ends.0, refl), omega arith)

-- ---- pieces in a row

-- `next` follows a piece that is apart from it
pub ends_piece : (piece : Piece) (pieces : List Piece) → stands_alone piece ≡ false → are_apart piece pieces ≡ true → EndsRun (written pieces)
ends_piece piece pieces joins apart = ends_run pieces (or_false_is (starts_apart pieces) (ap (λ b. starts_apart pieces || b) (sym joins) ∙ apart))
