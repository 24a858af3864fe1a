-- The name of a define line.
use Rattle.std.specs.Prelude.{◌≡◌, ℕ, zero, suc, ◌+◌, ◌<◌, Bool, true, false, not, ◌&&◌, ◌==◌, List, [], ◌∷◌, ◌++◌, length, take, drop, get_or, count_by, min, Option, Some, None, if◌then◌else◌}
use Rattle.std.specs.List.{prefix_len}
use Rattle.ll_token.specs.declared.token.TokenKind.TheVariants.{Global}
use Rattle.ll_token.specs.Bytes.{is_run_byte, is_inner}
use Rattle.ll_token.specs.Lexemes.{HoldsName}

abbrev pub is_even : ℕ → Bool
is_even zero = true
is_even (suc n) = not (is_even n)

-- A quote (34) opens a string, and the next one closes it. So no string is open behind an even count of them.
unfoldable pub is_outside : List ℕ → Bool
is_outside before = is_even (count_by (λ byte. byte == 34) before)

-- whether a `@` (64) stands at this place of a line, outside of a string
unfoldable pub is_sigil_at : List ℕ → ℕ → Bool
is_sigil_at line at = get_or line at 0 == 64 && is_outside (take at line)

-- The first `@` outside of a string stands at this place, or there is none.
abbrev pub IsFirstSigil : List ℕ → Option ℕ → Type 0
IsFirstSigil line (Some at) = (at < length line) × (is_sigil_at line at ≡ true) × ((other : ℕ) → other < at → is_sigil_at line other ≡ false)
IsFirstSigil line None = (other : ℕ) → other < length line → is_sigil_at line other ≡ false

-- The line has this name: the global name at its first `@` outside of a string.
pub record IsNamed (line name : List ℕ) : Type 0 where
  pub at : ℕ
  pub text : List ℕ
  pub after : List ℕ
  pub first : IsFirstSigil line (Some at)
  pub parts : drop at line ≡ text ++ after
  pub holds : HoldsName Global text after name

-- ---- what the private functions give

-- Behind a `@`, these bytes begin with the rest of a global name that is this one.
abbrev pub StandsBehind : (bytes name : List ℕ) → Type 0
StandsBehind bytes name = (text after : List ℕ) × (64 ∷ bytes ≡ text ++ after) × HoldsName Global text after name

-- how many bytes a run or a string at the front has
unfoldable pub name_len : List ℕ → ℕ
name_len [] = 0
name_len (byte ∷ rest) = if byte == 34 then min (prefix_len is_inner rest + 2) (suc (length rest)) else prefix_len is_run_byte (byte ∷ rest)
