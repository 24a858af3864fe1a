-- The lines of a file, and where each of them begins.
use Rattle.std.specs.Prelude.{◌≡◌, ℕ, zero, suc, ◌+◌, ◌≤◌, Bool, not, ◌||◌, ◌==◌, List, [], ◌∷◌, length, take, drop, get_or, codes, if◌then◌else◌}
use Rattle.std.specs.List.{prefix_len}
use Rattle.std.specs.Str.{bytes_eq}
use Rattle.ll_token.specs.Bytes.{begins}
use Rattle.ll_reader.specs.declared.lines.LineKind.{LineKind}
use Rattle.ll_reader.specs.declared.lines.LineKind.TheVariants as kinds
use Rattle.ll_reader.specs.declared.lines.Passed.{Passed}

-- these lines with a byte in front of the first
abbrev pub onto_first : ℕ → List (List ℕ) → List (List ℕ)
onto_first byte [] = (byte ∷ []) ∷ []
onto_first byte (line ∷ others) = (byte ∷ line) ∷ others

-- The lines of a text, each with the LF (10) that ends it; the last may have none.
unfoldable pub lines : List ℕ → List (List ℕ)
lines [] = []
lines (byte ∷ rest) = if byte == 10 then (10 ∷ []) ∷ lines rest else onto_first byte (lines rest)

-- line n, counted from 0
abbrev pub nth_line : List (List ℕ) → ℕ → List ℕ
nth_line ls n = get_or ls n []

-- where line n begins
unfoldable pub line_start : List (List ℕ) → ℕ → ℕ
line_start ls zero = 0
line_start [] (suc n) = 0
line_start (line ∷ others) (suc n) = length line + line_start others n

-- what these bytes begin with
unfoldable pub has_prefix : List ℕ → List ℕ → Bool
has_prefix prefix bytes = bytes_eq (take (length prefix) bytes) prefix

-- A define line begins with `define` and a space or tab.
unfoldable pub is_define : List ℕ → Bool
is_define line = has_prefix (codes "define ") line || has_prefix (codes "define\t") line

-- A line that begins with `}` (125) closes a function.
unfoldable pub is_closing : List ℕ → Bool
is_closing line = begins (λ byte. byte == 125) line

-- ---- what the private functions give

abbrev pub is_of : LineKind → List ℕ → Bool
is_of kinds.Define line = is_define line
is_of kinds.Closing line = is_closing line

-- how many bytes the first line has
unfoldable pub first_len : List ℕ → ℕ
first_len [] = 0
first_len (byte ∷ rest) = if byte == 10 then 1 else suc (first_len rest)

abbrev pub first_line : List ℕ → List ℕ
first_line bytes = take (first_len bytes) bytes

-- Line n of a text begins at this place.
pub record IsAt (text : List ℕ) (n at : ℕ) : Type 0 where
  pub place_is : at ≡ line_start (lines text) n
  pub behind : lines (drop at text) ≡ drop n (lines text)
  pub within : at ≤ length text
  pub few : n ≤ at

-- how many lines stand before the first of a kind
unfoldable pub count_before : LineKind → List (List ℕ) → ℕ
count_before kind ls = prefix_len (λ line. not (is_of kind line)) ls

-- These are the lines before the first of a kind.
pub record StandBefore (kind : LineKind) (bytes : List ℕ) (passed : Passed) : Type 0 where
  pub count : passed.lines ≡ count_before kind (lines bytes)
  pub ends : IsAt bytes passed.lines passed.len
