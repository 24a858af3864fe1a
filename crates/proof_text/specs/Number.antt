-- Numbers of a line, in their ranges or not.
use Rattle.std.specs.Prelude.{ℕ, ◌==◌, ◌+◌, ◌^◌, ℤ, pos, neg_ℤ, List, [], ◌∷◌, nat_lt, Option, Some, None, if◌then◌else◌}
use Rattle.std.specs.Option.{option_map_or}
use Rattle.std.specs.Str.Parse.{digits_value}
use Rattle.proof_text.specs.declared.reading.Reading.{Reading}
use Rattle.proof_text.specs.declared.reading.Reading.TheVariants.{Malformed, Unfit, Fits}
use Rattle.proof_text.specs.Digits.{is_numeral, is_positive}
use Rattle.proof_text.specs.Reading.{mapped}

-- `0`, or digits without a leading zero, of a value below the limit
unfoldable pub unsigned : ℕ → List ℕ → Reading ℕ
unsigned limit digits =
    if is_numeral digits then (if nat_lt (digits_value 10 digits) limit then Fits (digits_value 10 digits) else Unfit) else Malformed

-- what follows a minus sign
abbrev pub without_minus : List ℕ → Option (List ℕ)
without_minus [] = None
without_minus (byte ∷ bytes) = if byte == 45 then Some bytes else None

-- the same with a sign where one may stand: a number below 0 is out of range
abbrev pub natural : ℕ → List ℕ → Reading ℕ
natural limit word = option_map_or (λ digits. if is_positive digits then Unfit else Malformed) (without_minus word) (unsigned limit word)

-- a number below 0 of 128 bits, by the digits behind its sign
abbrev pub negative : List ℕ → Reading ℤ
negative digits = if is_positive digits then mapped (λ size. neg_ℤ (pos size)) (unsigned (2 ^ 127 + 1) digits) else Malformed

-- a number of 128 bits
abbrev pub number : List ℕ → Reading ℤ
number word = option_map_or negative (without_minus word) (mapped pos (unsigned (2 ^ 127) word))
