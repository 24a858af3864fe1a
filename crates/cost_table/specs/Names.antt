-- Where a local name at the front of a line ends.
use Rattle.std.specs.Prelude.{ℕ, ◌+◌, ◌==◌, ◌&&◌, List, [], ◌∷◌, Bool, false, not, drop, if◌then◌else◌}
use Rattle.std.specs.List.{prefix_len}

-- 37 is `%`, 34 is `"`
abbrev pub begins_quoted : List ℕ → Bool
begins_quoted [] = false
begins_quoted (first ∷ []) = false
begins_quoted (first ∷ second ∷ rest) = first == 37 && second == 34

abbrev pub no_space : ℕ → Bool
no_space byte = not (byte == 32)

abbrev pub no_quote : ℕ → Bool
no_quote byte = not (byte == 34)

abbrev pub name_len : List ℕ → ℕ
name_len line = if begins_quoted line then prefix_len no_quote (drop 2 line) + 3 else prefix_len no_space line
