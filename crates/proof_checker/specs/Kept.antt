-- What is kept of the lines that were read, as the place to which they came.
use Rattle.std.specs.Prelude.{◌≡◌, ◌≤ℤ◌, pos, List, length, All}
use Rattle.mix_system.specs.declared.literal.Lit.{Lit}
use Rattle.mix_system.specs.System.{Exists, IsWellFormed}
use Rattle.proof_term.specs.Steps.{NamesTerm}
use Rattle.proof_text.specs.declared.line.Line.{Line}
use Rattle.proof_text.specs.declared.line.Line.TheVariants as line
use Rattle.proof_text.specs.declared.line.LineRead.TheVariants.{Fits}
use Rattle.box_check.specs.declared.bounds.Bounds.{Bounds}
use Rattle.box_check.specs.Bounds.{Extends}
use Rattle.open_levels.specs.Kept.{stage_of, AreLevels}
use Rattle.tree_check.specs.Boxes.{Stand}
use Rattle.proof_checker.specs.declared.base.Base.{Base}
use Rattle.proof_checker.specs.declared.kept.Kept.{Kept}
use Rattle.proof_checker.specs.declared.kept.Kept.TheVariants as kept
use Rattle.proof_checker.specs.declared.kept.Theory.{Theory}
use Rattle.proof_checker.specs.declared.kept.Found.{Found}
use Rattle.proof_checker.specs.declared.kept.Found.TheVariants as found
use Rattle.proof_checker.specs.Place.{Place, AtHeader, AtShape, AtGoal, AtStep, InTree, AtEnd}
use Rattle.proof_checker.specs.Outcome.{Outcome, Next, Fails, ReadGives}

-- the system has the cost
pub record IsBase (base : Base) : Type 0 where
  pub formed : IsWellFormed base.system.now
  pub exists : Exists (length base.system.now.ranges) (length base.system.now.rows) base.cost

-- a theory in whose tree these boxes are left: its level's bounds were in force before, and are at its mark
pub record IsTheory (base : Base) (theory : Theory) (boxes : List (List Lit)) : Type 0 where
  pub before : Bounds
  pub mark : theory.mark ≡ length before.changes.items
  pub levels : AreLevels base.system.now base.cost (record theory.levels { bounds = before })
  pub named : All (NamesTerm base.system.now) theory.clause
  pub stand : Stand before theory.levels.bounds theory.boxes boxes

-- a theory in whose tree no box is left
pub record IsRefuted (base : Base) (theory : Theory) : Type 0 where
  pub before : Bounds
  pub mark : theory.mark ≡ length before.changes.items
  pub levels : AreLevels base.system.now base.cost (record theory.levels { bounds = before })
  pub named : All (NamesTerm base.system.now) theory.clause
  pub extends : Extends before theory.levels.bounds

-- what is kept is that of a place
abbrev pub IsKept : Base → Kept → Place → Type 0
IsKept base kept.Header place = place ≡ AtHeader
IsKept base kept.Shape place = place ≡ AtShape
IsKept base kept.Goal place = place ≡ AtGoal
IsKept base (kept.Step levels) place = (place ≡ AtStep (stage_of levels)) × AreLevels base.system.now base.cost levels
IsKept base (kept.Tree theory) place =
    (boxes : List (List Lit)) × (place ≡ InTree (stage_of theory.levels) theory.clause boxes) × IsTheory base theory boxes
IsKept base (kept.End goal) place = place ≡ AtEnd goal

-- what a line came to is what it gives
abbrev pub Comes : Base → (Outcome → Type 0) → Found → Type 0
Comes base Gives (found.At k) = (to : Place) × IsKept base k to × Gives (Next to)
Comes base Gives (found.Failed why) = Gives (Fails why)

-- what a line gives that is read so
abbrev pub LineOf : Base → Place → Line → Outcome → Type 0
LineOf base place l outcome = ReadGives base.system.now base.cost place (Fits l) outcome

-- a leaf takes each of its literals once at least
abbrev pub TakesOnce : Line → Type 0
TakesOnce (line.Leaf multiples) = All (λ part. pos 1 ≤ℤ part.by) multiples
TakesOnce _ = Unit {0}
