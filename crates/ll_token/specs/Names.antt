-- GivesName, bare and quoted (LLVM Language Reference, "Identifiers").
use Rattle.std.specs.Prelude.{◌≡◌, ◌≢◌, ◌⊎◌, ℕ, ◌+◌, ◌*◌, ◌<◌, IsTrue, false, List, [], ◌∷◌, ◌++◌, length}
use Rattle.std.specs.List.{list_all}
use Rattle.std.specs.Char.{digit_value}
use Rattle.ll_token.specs.Bytes.{is_run_byte, is_inner, begins}

-- How a byte is written between quotes: as itself, but for a backslash (92), which is written twice; or as a
-- backslash and two hexadecimal digits.
abbrev pub IsPiece : List ℕ → ℕ → Type 0
IsPiece piece byte =
    ((piece ≡ byte ∷ []) × (byte ≢ 92))
    ⊎ (((piece ≡ 92 ∷ 92 ∷ []) × (byte ≡ 92))
    ⊎ ((high low : ℕ) × (piece ≡ 92 ∷ high ∷ low ∷ []) × (digit_value high < 16) × (digit_value low < 16) × (byte ≡ 16 * digit_value high + digit_value low)))

-- The bytes between quotes stand for the name, up to the rest.
abbrev pub StandsFor : (inner name rest : List ℕ) → Type 0
StandsFor inner [] rest = inner ≡ rest
StandsFor inner (byte ∷ name) rest = (piece after : List ℕ) × (inner ≡ piece ++ after) × IsPiece piece byte × StandsFor after name rest

-- The first backslash that begins no escape stands at this place.
pub record IsBadEscape (inner : List ℕ) (place : ℕ) : Type 0 where
  pub name : List ℕ
  pub rest : List ℕ
  pub before : StandsFor inner name rest
  pub here : place + length rest ≡ length inner
  pub more : 0 < length rest
  pub no_piece : (piece after : List ℕ) (byte : ℕ) → rest ≡ piece ++ after → IsPiece piece byte → ⊥

-- The longest sequence of run bytes before `after`, one byte at least.
pub record IsRun (text after : List ℕ) : Type 0 where
  pub some : 0 < length text
  pub each : IsTrue (list_all is_run_byte text)
  pub longest : begins is_run_byte after ≡ false

-- A string, whole within its line, and the name that it stands for.
pub record IsQuoted (text name : List ℕ) : Type 0 where
  pub inner : List ℕ
  pub quotes : text ≡ 34 ∷ (inner ++ 34 ∷ [])
  pub in_line : IsTrue (list_all is_inner inner)
  pub escapes : StandsFor inner name []

-- A name is written as a run or as a string: `%12` and `%"12"` are one name.
abbrev pub Writes : (text after name : List ℕ) → Type 0
Writes text after name = (IsRun text after × (name ≡ text)) ⊎ IsQuoted text name
