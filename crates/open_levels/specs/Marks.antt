-- What a stored stack of levels means, and what it keeps.
use Rattle.std.specs.Prelude.{◌≡◌, ℕ, ◌<◌, ◌≤◌, List, [], ◌∷◌, length, take, drop, All}
use Rattle.proof_term.specs.Levels.{Finished}
use Rattle.open_levels.specs.Stack.{OpenLevel, Stack}
use Rattle.open_levels.specs.declared.stack.LevelMark.{LevelMark}
use Rattle.open_levels.specs.declared.stack.LevelStack.TheInside.{Inside}

-- a level whose steps are the last of these
abbrev pub level_at : List Finished → LevelMark → OpenLevel
level_at steps mark = record { goal = mark.goal; mark = mark.mark; ended = drop mark.from steps }

-- levels, the innermost first, each with the steps behind those of the levels around it
abbrev pub levels_at : List Finished → List LevelMark → List OpenLevel
levels_at steps [] = []
levels_at steps (mark ∷ marks) = level_at steps mark ∷ levels_at (take mark.from steps) marks

abbrev pub stack : Inside → Stack
stack it = record { next = it.next; last = level_at it.steps it.last; enclosing = levels_at (take it.last.from it.steps) it.around.items }

-- each level begins where those around it end, and the outermost with the first step
abbrev pub AreNested : ℕ → List LevelMark → Type 0
AreNested count [] = count ≡ 0
AreNested count (mark ∷ marks) = (mark.from ≤ count) × AreNested mark.from marks

pub record IsStack (it : Inside) : Type 0 where
  pub nested : AreNested (length it.steps) (it.last ∷ it.around.items)
  pub below : All (λ step. step.number < it.next) it.steps
