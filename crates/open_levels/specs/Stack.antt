-- The open levels that are kept, each with its own steps, as the definitions of a proof have them.
use Rattle.std.specs.Prelude.{ℕ, ◌+◌, List, [], ◌∷◌, ◌++◌, map, reverse, Bool}
use Rattle.mix_system.specs.declared.literal.Lit.{Lit}
use Rattle.proof_term.specs.declared.proof.Goal.{Goal}
use Rattle.proof_term.specs.Levels.{Finished, Level, Levels}

-- an open level: its goal, where the bounds of the level around it ended as it was opened, and the steps that ended on it, the oldest first
pub record OpenLevel : Type 0 where
  pub goal : Goal
  pub mark : ℕ
  pub ended : List Finished

-- the number of the next step, the last level, and those around it, the innermost first
pub record Stack : Type 0 where
  pub next : ℕ
  pub last : OpenLevel
  pub enclosing : List OpenLevel

abbrev pub level_of : OpenLevel → Level
level_of level = record { goal = level.goal; finished = reverse level.ended }

abbrev pub levels_of : OpenLevel → List OpenLevel → Levels
levels_of last enclosing = record { last = level_of last; enclosing = map level_of enclosing }

-- a step with that clause has ended on the last level
abbrev pub ended_on : Stack → List Lit → Bool → Stack
ended_on stack clause is_cut = record stack {
  next = stack.next + 1;
  last = record stack.last { ended = stack.last.ended ++ record { number = stack.next; clause = clause; is_cut = is_cut } ∷ [] };
}
