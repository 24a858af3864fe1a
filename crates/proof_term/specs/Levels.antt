-- The open levels of a proof, the clauses that are available on the last of them, and its box.
use Rattle.std.specs.Prelude.{ℕ, ◌+◌, ℤ, pos, ◌+ℤ◌, List, [], ◌∷◌, ◌++◌, length, slice_get, nat_lt, ◌==◌, Bool, true, false, Option, Some, None, map, if◌then◌else◌}
use Rattle.std.specs.List.{filter, flat_map}
use Rattle.mix_system.specs.declared.literal.Term.{Term}
use Rattle.mix_system.specs.declared.literal.Side.TheVariants.{Le, Ge}
use Rattle.mix_system.specs.declared.literal.Lit.{Lit}
use Rattle.mix_system.specs.System.{System}
use Rattle.mix_system.specs.Bounds.{range_bounds, unit_bounds}
use Rattle.proof_term.specs.declared.proof.Goal.{Goal}
use Rattle.proof_term.specs.declared.proof.Goal.TheVariants.{Nothing, AtMost, Below}

-- a step that has ended: the number and the clause that it got, and whether it is a cut
pub record Finished : Type 0 where
  pub number : ℕ
  pub clause : List Lit
  pub is_cut : Bool

-- an open level: its goal, and the steps that ended on it, the newest first
pub record Level : Type 0 where
  pub goal : Goal
  pub finished : List Finished

-- the open levels: the last one, and those that enclose it, the innermost first
pub record Levels : Type 0 where
  pub last : Level
  pub enclosing : List Level

abbrev pub cuts_of : Level → List Finished
cuts_of level = filter (λ f. f.is_cut) level.finished

-- the ended steps that the last level may use: its own, and the cuts of the enclosing levels
abbrev pub available : Levels → List Finished
available levels = levels.last.finished ++ flat_map cuts_of levels.enclosing

-- the clause of that number among ended steps
abbrev pub clause_of : ℕ → List Finished → Option (List Lit)
clause_of number [] = None
clause_of number (f ∷ fs) = if f.number == number then Some f.clause else clause_of number fs

-- the available clause of that number: one of the system, which has the first numbers, or that of an ended step
abbrev pub known : System → Levels → ℕ → Option (List Lit)
known system levels number = if nat_lt number (length system.clauses) then slice_get system.clauses number else clause_of number (available levels)

-- the bound that says that the goal is not met
abbrev pub goal_bounds : Term → Goal → List Lit
goal_bounds cost Nothing = []
goal_bounds cost (AtMost most) = record { term = cost; side = Ge; bound = pos most +ℤ pos 1 } ∷ []
goal_bounds cost (Below term bound) = record { term = term; side = Ge; bound = bound +ℤ pos 1 } ∷ []

-- the clause of a cut with that goal
abbrev pub cut_clause : Goal → List Lit
cut_clause Nothing = []
cut_clause (AtMost most) = []
cut_clause (Below term bound) = record { term = term; side = Le; bound = bound } ∷ []

-- the ranges of the variables, the goal's bound, and each available clause with one literal
abbrev pub box_of : System → Term → Levels → List Lit
box_of system cost levels =
    range_bounds system.ranges ++ goal_bounds cost levels.last.goal ++ unit_bounds (system.clauses ++ map (λ f. f.clause) (available levels))
