-- Digits of a number.
use Rattle.std.specs.Prelude.{ℕ, ◌==◌, ◌&&◌, List, [], ◌∷◌, Bool, false, not, nat_le, if◌then◌else◌, length}
use Rattle.std.specs.List.{list_all}

abbrev pub is_digit : ℕ → Bool
is_digit byte = nat_le 48 byte && nat_le byte 57

abbrev pub are_digits : List ℕ → Bool
are_digits bytes = list_all is_digit bytes

abbrev pub begins_with_zero : List ℕ → Bool
begins_with_zero [] = false
begins_with_zero (byte ∷ bytes) = byte == 48

-- digits, one at least, without a leading zero
unfoldable pub is_numeral : List ℕ → Bool
is_numeral bytes = are_digits bytes && (if begins_with_zero bytes then length bytes == 1 else not (length bytes == 0))
