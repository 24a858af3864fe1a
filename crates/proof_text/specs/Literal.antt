-- Terms and literals of a line.
use Rattle.std.specs.Prelude.{ℕ, ◌==◌, ◌&&◌, ◌^◌, ℤ, List, [], ◌∷◌, take, drop, Bool, not, Option, Some, None, if◌then◌else◌}
use Rattle.std.specs.List.{prefix_len}
use Rattle.mix_system.specs.declared.literal.Term.{Term}
use Rattle.mix_system.specs.declared.literal.Term.TheVariants.{Var, Row}
use Rattle.mix_system.specs.declared.literal.Side.{Side}
use Rattle.mix_system.specs.declared.literal.Side.TheVariants.{Le, Ge}
use Rattle.mix_system.specs.declared.literal.Lit.{Lit}
use Rattle.proof_text.specs.declared.reading.Reading.{Reading}
use Rattle.proof_text.specs.declared.reading.Reading.TheVariants.{Malformed, Unfit, Fits}
use Rattle.proof_text.specs.Number.{unsigned, number}
use Rattle.proof_text.specs.Reading.{both, mapped}

-- the number of a variable or a row has 32 bits
abbrev pub index_of : List ℕ → Reading ℕ
index_of digits = unsigned (2 ^ 32) digits

-- `v` and digits
abbrev pub var_of : List ℕ → Reading ℕ
var_of [] = Malformed
var_of (byte ∷ bytes) = if byte == 118 then index_of bytes else Malformed

-- `v` or `r` and digits
abbrev pub term_of : List ℕ → Reading Term
term_of [] = Malformed
term_of (byte ∷ bytes) = if byte == 114 then mapped Row (index_of bytes) else mapped Var (var_of (byte ∷ bytes))

-- neither `<` nor `>`
abbrev pub is_term_byte : ℕ → Bool
is_term_byte byte = not (byte == 60) && not (byte == 62)

-- `<=` or `>=`, and what follows it
abbrev pub side_of : List ℕ → Option (Side × List ℕ)
side_of [] = None
side_of (byte ∷ []) = None
side_of (byte ∷ next ∷ bytes) =
    if next == 61 then (if byte == 60 then Some (Le, bytes) else (if byte == 62 then Some (Ge, bytes) else None)) else None

abbrev pub bounded : Reading Term → Option (Side × List ℕ) → Reading Lit
bounded term None = Malformed
bounded term (Some side) = mapped (λ p. record { term = p.0; side = side.0; bound = p.1 }) (both term (number side.1))

-- a term, `<=` or `>=`, and a number
unfoldable pub literal_of : List ℕ → Reading Lit
literal_of word = bounded (term_of (take (prefix_len is_term_byte word) word)) (side_of (drop (prefix_len is_term_byte word) word))
