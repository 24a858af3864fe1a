-- How a name is written behind `%` or `@` or before a `:` (LLVM Language Reference, "Identifiers").
use Rattle.std.specs.Prelude.{ℕ, ◌+◌, ◌-◌, ◌/◌, ◌%◌, List, [], ◌∷◌, ◌++◌, length, Bool, not, ◌&&◌, nat_le, nat_lt, ◌==◌, if◌then◌else◌}
use Rattle.std.specs.List.{flat_map, list_all}
use Rattle.ll_token.specs.Bytes.{is_run_byte}

-- a hexadecimal digit, in upper case
abbrev pub hex_digit : ℕ → ℕ
hex_digit n = if nat_lt n 10 then 48 + n else 65 + (n - 10)

-- a printable byte that is neither `"` nor `\`
abbrev pub is_plain : ℕ → Bool
is_plain byte = (nat_le 32 byte && nat_le byte 126) && (not (byte == 34) && not (byte == 92))

-- a byte between quotes: itself where it is plain, and else `\` and two digits
unfoldable pub escaped : ℕ → List ℕ
escaped byte = if is_plain byte then byte ∷ [] else 92 ∷ hex_digit (byte / 16) ∷ hex_digit (byte % 16) ∷ []

-- one or more bytes of a run
abbrev pub is_run : List ℕ → Bool
is_run name = nat_lt 0 (length name) && list_all is_run_byte name

-- a name: as it is where it is a run, and else between quotes
unfoldable pub name_text : List ℕ → List ℕ
name_text name = if is_run name then name else 34 ∷ (flat_map escaped name ++ 34 ∷ [])
