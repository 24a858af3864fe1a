-- Which fault a token is, by what could have stood at its place.
use Rattle.std.specs.Prelude.{ℕ, Bool, true, false, ◌&&◌, ◌||◌, ◌==◌, List, [], ◌∷◌, codes, if◌then◌else◌}
use Rattle.std.specs.Option.{option_map_or}
use Rattle.std.specs.Str.{bytes_eq}
use Rattle.ll_token.specs.Bytes.{are_digits}
use Rattle.ll_token.specs.declared.token.TokenKind.{TokenKind}
use Rattle.ll_token.specs.declared.token.TokenKind.TheVariants as kinds
use Rattle.ll_grammar.specs.Words.{width_of}
use Rattle.ll_grammar.specs.declared.stop.Refusal.{Refusal}
use Rattle.ll_grammar.specs.declared.stop.Refusal.TheVariants as refusal
use Rattle.ll_grammar.specs.declared.stop.Place.{Place}
use Rattle.ll_grammar.specs.declared.stop.Place.TheVariants as place

-- `i` and digits, one at least
abbrev pub is_int_type : List ℕ → Bool
is_int_type [] = false
is_int_type (byte ∷ digits) = byte == 105 && are_digits digits

abbrev pub is_width : List ℕ → Bool
is_width text = option_map_or (λ w. true) (width_of text) false

-- at a type: a width that can't be, another word, or no word; a type that may not stand here is unexpected
unfoldable pub at_type : List ℕ → Refusal
at_type text = if is_width text then refusal.Unexpected else (if is_int_type text then refusal.BadWidth else refusal.NotInProfile)

unfoldable pub at_result : List ℕ → Refusal
at_result text = if bytes_eq text (codes "void") then refusal.Unexpected else at_type text

-- the words of terminators and `phi`, which may stand elsewhere
unfoldable pub starts_other : List ℕ → Bool
starts_other text =
    bytes_eq text (codes "ret") || (bytes_eq text (codes "unreachable") || (bytes_eq text (codes "br") || (bytes_eq text (codes "switch") || bytes_eq text (codes "phi"))))

unfoldable pub at_form : List ℕ → Refusal
at_form text = if starts_other text then refusal.Unexpected else refusal.NotInProfile

-- `poison` may stand elsewhere
unfoldable pub at_literal : List ℕ → Refusal
at_literal text =
    if bytes_eq text (codes "true") || bytes_eq text (codes "false") then refusal.BadLiteral
    else (if bytes_eq text (codes "poison") then refusal.Unexpected
    else refusal.NotInProfile)

-- the fault of a word
abbrev pub word_refused : Place → List ℕ → Refusal
word_refused place.Type text = at_type text
word_refused place.RangedResult text = at_result text
word_refused place.Keyword text = refusal.NotInProfile
word_refused place.Form text = at_form text
word_refused place.Literal text = at_literal text
word_refused place.Callee text = refusal.Unexpected
word_refused place.BehindEnd text = refusal.NoLabel
word_refused place.Other text = refusal.Unexpected

-- the fault of any other token
abbrev pub other_refused : Place → TokenKind → Refusal
other_refused place.Literal kinds.Number = refusal.BadLiteral
other_refused place.Callee kinds.Global = refusal.NotInProfile
other_refused place.BehindEnd kind = refusal.NoLabel
other_refused place kind = refusal.Unexpected

unfoldable pub refused : Place → TokenKind → List ℕ → Refusal
refused place kinds.Word text = word_refused place text
refused place kind text = other_refused place kind
