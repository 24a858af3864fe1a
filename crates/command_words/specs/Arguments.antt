-- Words as arguments of a function.
use Rattle.std.specs.Prelude.{◌≡◌, ◌⊎◌, ◌<◌, ◌^◌, ℕ, List, [], length, map, get_or}
use Rattle.std.specs.Fmt.{decimal}
use Rattle.wx_base.specs.declared.lists.Arg.{Arg}
use Rattle.ll_tree.specs.declared.func.Param.{Param}

abbrev pub widths_of : List Param → List ℕ
widths_of params = map (λ param. param.width) params

-- a number of so many bits, in decimal without leading zeros
abbrev pub IsNumber : ℕ → List ℕ → Type 0
IsNumber width word = (value : ℕ) × (value < 2 ^ width) × (word ≡ decimal value)

-- the parameter at a place takes the word
abbrev pub IsTaken : List ℕ → ℕ → List ℕ → Type 0
IsTaken widths place word = (place < length widths) × IsNumber (get_or widths place 0) word

-- each word is the argument for the parameter at its place, and each parameter has one
pub record AreArguments (widths : List ℕ) (words : List (List ℕ)) (args : List Arg) : Type 0 where
  pub fits : map (λ arg. arg.width) args ≡ widths
  pub says : map (λ arg. decimal arg.value) args ≡ words

-- The first place at which a parameter has no word, or a word isn't taken by a parameter.
pub record IsFirstBad (widths : List ℕ) (words : List (List ℕ)) (place : ℕ) : Type 0 where
  pub bad : ((place < length words) × (IsTaken widths place (get_or words place []) → ⊥)) ⊎ ((place ≡ length words) × (place < length widths))
  pub earlier : (other : ℕ) → other < place → (other < length words) × IsTaken widths other (get_or words other [])

-- ---- what a private function gives

pub record IsTakenAs (widths : List ℕ) (place : ℕ) (word : List ℕ) (arg : Arg) : Type 0 where
  pub there : place < length widths
  pub width : arg.width ≡ get_or widths place 0
  pub value : word ≡ decimal arg.value
