-- What a line of a table says.
use Rattle.std.specs.Prelude.{◌≡◌, ◌==◌, ◌^◌, ◌<◌, ℕ, Bool, true, IsTrue, List, [], ◌∷◌, ◌++◌}
use Rattle.std.specs.Fmt.{decimal}
use Rattle.ll_token.specs.Scan.{IsLocalName}
use Rattle.cost_table.specs.declared.line.Said.{Said}
use Rattle.cost_table.specs.declared.line.Said.TheVariants as words

-- an empty line, or a comment: it begins with `;` (59)
abbrev pub is_idle : List ℕ → Bool
is_idle [] = true
is_idle (byte ∷ bytes) = byte == 59

-- A local name, one space (32), and a decimal from 0 to 4294967295 without leading zeros.
pub record IsNamedCost (text name : List ℕ) (cost : ℕ) : Type 0 where
  pub written : List ℕ
  pub form : text ≡ written ++ 32 ∷ decimal cost
  pub named : IsLocalName written name
  pub small : cost < 2 ^ 32

-- A local name, one space, and the same.
pub record IsEdgeLine (line from to : List ℕ) (cost : ℕ) : Type 0 where
  pub written : List ℕ
  pub rest : List ℕ
  pub form : line ≡ written ++ 32 ∷ rest
  pub named : IsLocalName written from
  pub to_and_cost : IsNamedCost rest to cost

abbrev pub Says : List ℕ → Said → Type 0
Says line words.Nothing = IsTrue (is_idle line)
Says line (words.Block label cost) = IsNamedCost line label cost
Says line (words.Edge from to cost) = IsEdgeLine line from to cost

-- it says this and nothing else
abbrev pub SaysAlone : List ℕ → Said → Type 0
SaysAlone line said = Says line said × ((other : Said) → Says line other → other ≡ said)

abbrev pub HasNoForm : List ℕ → Type 0
HasNoForm line = (said : Said) → ¬ Says line said

-- what is said is of an edge
abbrev pub IsEdge : List ℕ → Said → Type 0
IsEdge line words.Nothing = ⊥
IsEdge line (words.Block label cost) = ⊥
IsEdge line (words.Edge from to cost) = IsEdgeLine line from to cost
