-- The levels that are kept, as the definitions of a proof have them.
use Rattle.std.specs.Prelude.{◌≡◌, ℕ, pos, ◌+ℤ◌, List, [], ◌∷◌, ◌++◌, length, map, All, FitsSigned}
use Rattle.std.specs.List.{flat_map}
use Rattle.std.specs.Int.{w128}
use Rattle.mix_system.specs.declared.literal.Term.{Term}
use Rattle.mix_system.specs.declared.literal.Lit.{Lit}
use Rattle.mix_system.specs.System.{System, Exists}
use Rattle.mix_system.specs.Bounds.{range_bounds, unit_bounds}
use Rattle.proof_term.specs.declared.proof.Goal.{Goal}
use Rattle.proof_term.specs.declared.proof.Goal.TheVariants.{Nothing, AtMost, Below}
use Rattle.proof_term.specs.Levels.{cuts_of, box_of}
use Rattle.proof_term.specs.Steps.{NamesTerm}
use Rattle.proof_term.specs.Valid.{Stage}
use Rattle.box_check.specs.declared.bounds.Bounds.{Bounds}
use Rattle.box_check.specs.Bounds.{Stands, StandsEverywhere, Extends, opened}
use Rattle.open_levels.specs.declared.levels.OpenLevels.{OpenLevels}
use Rattle.open_levels.specs.Stack.{OpenLevel, level_of, levels_of}
use Rattle.open_levels.specs.Adds.{AreFor}

abbrev pub stage_of : OpenLevels → Stage
stage_of levels = record { next = levels.stack.next; levels = levels_of levels.stack.last levels.stack.enclosing }

-- the bound that says that a goal isn't met names a term of the system and has 128 bits
abbrev pub GoalFits : System → Goal → Type 0
GoalFits system Nothing = Unit {0}
GoalFits system (AtMost most) = Unit {0}
GoalFits system (Below term bound) = Exists (length system.ranges) (length system.rows) term × FitsSigned w128 (bound +ℤ pos 1)

-- a kept level: the system has all its terms
pub record IsLevel (system : System) (level : OpenLevel) : Type 0 where
  pub named : All (λ step. All (NamesTerm system) step.clause) level.ended
  pub goal : GoalFits system level.goal

-- what is in force on all levels that may still open: the ranges, and the single literals of the system's clauses and of the cuts that ended
abbrev pub shared_box : System → List OpenLevel → List Lit
shared_box system levels =
    range_bounds system.ranges ++ unit_bounds (system.clauses ++ map (λ f. f.clause) (flat_map cuts_of (map level_of levels)))

-- the bounds of the last of some levels
pub record HasBox (system : System) (cost : Term) (last : OpenLevel) (enclosing : List OpenLevel) (bounds : Bounds) : Type 0 where
  pub sound : AreFor system bounds
  pub stands : Stands bounds (box_of system cost (levels_of last enclosing))
  pub everywhere : StandsEverywhere bounds (shared_box system (last ∷ enclosing))

-- the bounds have come from those at the mark, where a level was opened within
pub record IsOpenedAt (mark : ℕ) (before now : Bounds) : Type 0 where
  pub mark_is : mark ≡ length before.changes.items
  pub extends : Extends (opened before) now

-- taking the bounds back to the mark gives those of the innermost of these levels, and so on outwards
abbrev pub AreAround : System → Term → ℕ → List OpenLevel → Bounds → Type 0
AreAround system cost mark [] now = Unit {0}
AreAround system cost mark (outer ∷ enclosing) now =
    (before : Bounds) × IsOpenedAt mark before now × HasBox system cost outer enclosing before × AreAround system cost outer.mark enclosing before

-- all levels are kept, the bounds stand for the box of the last, and can be taken back to those of each around it
pub record AreLevels (system : System) (cost : Term) (levels : OpenLevels) : Type 0 where
  pub last : IsLevel system levels.stack.last
  pub enclosing : All (IsLevel system) levels.stack.enclosing
  pub box : HasBox system cost levels.stack.last levels.stack.enclosing levels.bounds
  pub around : AreAround system cost levels.stack.last.mark levels.stack.enclosing levels.bounds
