-- The bytes of LLVM text, by the part that they play in it.
use Rattle.std.specs.Prelude.{ℕ, Bool, false, not, ◌||◌, ◌&&◌, ◌==◌, List, [], ◌∷◌, codes, count_by, length}
use Rattle.std.specs.List.{list_any, list_all}
use Rattle.std.specs.Char.{is_ascii_digit, is_ascii_alphanumeric}

-- space, tab, CR and LF
abbrev pub is_space : ℕ → Bool
is_space byte = byte == 32 || byte == 9 || byte == 13 || byte == 10

-- white space, or the `;` of a comment
abbrev pub begins_gap : ℕ → Bool
begins_gap byte = is_space byte || byte == 59

-- `-`, `$`, `.`, `_`, letters and digits
abbrev pub is_run_byte : ℕ → Bool
is_run_byte byte = is_ascii_alphanumeric byte || byte == 45 || byte == 36 || byte == 46 || byte == 95

-- the bytes that are a token by themselves
abbrev pub marks : List ℕ
marks = codes "(){}[],=*<>:|"

abbrev pub is_mark : ℕ → Bool
is_mark byte = list_any (λ mark. mark == byte) marks

-- `%` and `@`
abbrev pub is_sigil : ℕ → Bool
is_sigil byte = byte == 37 || byte == 64

-- what may stand between the quotes of a string: neither `"` nor LF
abbrev pub is_inner : ℕ → Bool
is_inner byte = not (byte == 34 || byte == 10)

-- a byte that neither begins a token nor stands between tokens; 34 is `"`, 33 `!`, 35 `#`
abbrev pub is_other : ℕ → Bool
is_other byte = not (begins_gap byte || is_run_byte byte || is_mark byte || is_sigil byte || byte == 34 || byte == 33 || byte == 35)

-- whether there is a first byte that passes the test
abbrev pub begins : (ℕ → Bool) → List ℕ → Bool
begins test [] = false
begins test (byte ∷ rest) = test byte

-- an optional `-` and digits, one at least
abbrev pub are_digits : List ℕ → Bool
are_digits bytes = not (length bytes == 0) && list_all is_ascii_digit bytes

abbrev pub is_number : List ℕ → Bool
is_number [] = false
is_number (byte ∷ rest) = are_digits (byte ∷ rest) || (byte == 45 && are_digits rest)

-- how many lines end in these bytes
abbrev pub line_ends : List ℕ → ℕ
line_ends bytes = count_by (λ byte. byte == 10) bytes
