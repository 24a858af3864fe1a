-- Reading from left to right, as the code does. What is read so is tied to the relations by laws about lists.
use Rattle.std.specs.Prelude.{ℕ, zero, suc, ◌+◌, ◌-◌, ◌*◌, Bool, true, false, ◌&&◌, ◌==◌, nat_lt, if◌then◌else◌, List, [], ◌∷◌, length, take, drop, Option, Some, None, Result, Ok, Err}
use Rattle.std.specs.Option.{option_map}
use Rattle.std.specs.List.{prefix_len}
use Rattle.std.specs.Char.{digit_value}
use Rattle.ll_token.specs.declared.token.TokenKind.{TokenKind}
use Rattle.ll_token.specs.declared.token.TokenKind.TheVariants as kinds
use Rattle.ll_token.specs.declared.token.FaultKind.TheVariants as faults
use Rattle.ll_token.specs.declared.lexeme.Lexeme.{Lexeme}
use Rattle.ll_token.specs.declared.lexeme.Flaw.{Flaw}
use Rattle.ll_token.specs.Bytes.{is_space, is_run_byte, is_mark, is_inner, begins, is_number}

-- ---- between quotes

-- the byte that two hexadecimal digits stand for
abbrev pub escaped : ℕ → ℕ → Option ℕ
escaped high low = if nat_lt (digit_value high) 16 && nat_lt (digit_value low) 16 then Some (16 * digit_value high + digit_value low) else None

-- what is written behind a backslash
abbrev pub escape_at : List ℕ → Option (ℕ × List ℕ)
escape_at [] = None
escape_at (next ∷ []) = if next == 92 then Some (92, []) else None
escape_at (next ∷ low ∷ rest) = if next == 92 then Some (92, low ∷ rest) else option_map (λ byte. (byte, rest)) (escaped next low)

-- the byte that is written at the front, and what is behind it
abbrev pub piece_at : List ℕ → Option (ℕ × List ℕ)
piece_at [] = None
piece_at (byte ∷ rest) = if byte == 92 then escape_at rest else Some (byte, rest)

-- the place of the first backslash that begins no escape, over this many pieces at most
abbrev pub bad_behind : (List ℕ → Option ℕ) → ℕ → Option (ℕ × List ℕ) → Option ℕ
bad_behind bad_in len None = Some 0
bad_behind bad_in len (Some piece) = option_map (λ place. (len - length piece.1) + place) (bad_in piece.1)

unfoldable pub bad_within : ℕ → List ℕ → Option ℕ
bad_within zero bytes = None
bad_within (suc pieces) [] = None
bad_within (suc pieces) (byte ∷ rest) = bad_behind (bad_within pieces) (length (byte ∷ rest)) (piece_at (byte ∷ rest))

unfoldable pub bad_at : List ℕ → Option ℕ
bad_at bytes = bad_within (length bytes) bytes

-- ---- tokens

infixl 10 ◌>>=◌
abbrev pub ◌>>=◌ : {A B : Type 0} → Result A Flaw → (A → Result B Flaw) → Result B Flaw
(Ok x) >>= f = f x
(Err e) >>= f = Err e

abbrev pub lexeme : TokenKind → ℕ → Result Lexeme Flaw
lexeme kind len = Ok (record { kind = kind; len = len })

abbrev pub bad_byte : Result Lexeme Flaw
bad_byte = Err (record { kind = faults.BadByte; offset = 0 })

abbrev pub escapes_checked : ℕ → Option ℕ → ℕ → Result ℕ Flaw
escapes_checked lead None len = Ok len
escapes_checked lead (Some place) len = Err (record { kind = faults.BadEscape; offset = lead + place })

-- how long the inside of a string is, whose bytes from the inside on are these
unfoldable pub inside_at : ℕ → List ℕ → Result ℕ Flaw
inside_at lead bytes =
    let len = prefix_len is_inner bytes in
    if begins (λ byte. byte == 34) (drop len bytes) then escapes_checked lead (bad_at (take len bytes)) len else Err (record { kind = faults.OpenString; offset = 0 })

-- a run behind a `%`, `@` or `#`
unfoldable pub bare_name : TokenKind → List ℕ → Result Lexeme Flaw
bare_name kind bytes = if prefix_len is_run_byte bytes == 0 then bad_byte else lexeme kind (prefix_len is_run_byte bytes + 1)

-- a string behind a `%` or `@`, from its inside on
unfoldable pub quoted_name : TokenKind → List ℕ → Result Lexeme Flaw
quoted_name kind bytes = inside_at 2 bytes >>= λ len. if len == 0 then bad_byte else lexeme kind (len + 3)

-- behind a `%` or `@`
unfoldable pub name_at : TokenKind → List ℕ → Result Lexeme Flaw
name_at kind bytes = if begins (λ byte. byte == 34) bytes then quoted_name kind (drop 1 bytes) else bare_name kind bytes

-- behind a `"`
unfoldable pub string_at : List ℕ → Result Lexeme Flaw
string_at bytes =
    inside_at 1 bytes >>= λ len.
    if begins (λ byte. byte == 58) (drop (len + 1) bytes) then (if len == 0 then bad_byte else lexeme kinds.Label (len + 3)) else lexeme kinds.String (len + 2)

-- from the first byte of a run on
unfoldable pub run_at : List ℕ → Result Lexeme Flaw
run_at bytes =
    let len = prefix_len is_run_byte bytes in
    if begins (λ byte. byte == 58) (drop len bytes) then lexeme kinds.Label (len + 1) else (if is_number (take len bytes) then lexeme kinds.Number len else lexeme kinds.Word len)

unfoldable pub lexeme_at : List ℕ → Result Lexeme Flaw
lexeme_at [] = bad_byte
lexeme_at (byte ∷ rest) =
    if byte == 37 then name_at kinds.Local rest
    else (if byte == 64 then name_at kinds.Global rest
    else (if byte == 34 then string_at rest
    else (if byte == 33 then lexeme kinds.Meta (prefix_len is_run_byte rest + 1)
    else (if byte == 35 then bare_name kinds.Hash rest
    else (if is_run_byte byte then run_at (byte ∷ rest)
    else (if is_mark byte then lexeme kinds.Mark 1
    else bad_byte))))))

-- ---- names of tokens

-- a token's bytes without its `%`, `@` or `:`
abbrev pub body_of : TokenKind → List ℕ → List ℕ
body_of kinds.Local text = drop 1 text
body_of kinds.Global text = drop 1 text
body_of kinds.Label text = take (length text - 1) text
body_of kinds.Number text = text
body_of kinds.Word text = text
body_of kinds.String text = text
body_of kinds.Meta text = text
body_of kinds.Hash text = text
body_of kinds.Mark text = text

-- ---- between tokens

-- how many bytes white space and comments have at the front; inside a comment, or not
unfoldable pub gap_len : Bool → List ℕ → ℕ
gap_len inside [] = 0
gap_len inside (byte ∷ rest) =
    if byte == 10 then suc (gap_len false rest)
    else (if inside then suc (gap_len true rest)
    else (if byte == 59 then suc (gap_len true rest)
    else (if is_space byte then suc (gap_len false rest)
    else 0)))
