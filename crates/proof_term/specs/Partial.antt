-- When a proof that isn't finished is valid so far.
use Rattle.std.specs.Prelude.{◌≡◌, ◌↔◌, ◌⊎◌, ℕ, suc, zero, ℤ, ◌<◌, List, [], ◌∷◌, ◌++◌, length, map, reverse, slice_get, Some, false, All, Any, AllPairs, Contains}
use Rattle.std.specs.List.{flat_map}
use Rattle.mix_system.specs.declared.literal.Term.{Term}
use Rattle.mix_system.specs.declared.literal.Lit.{Lit}
use Rattle.mix_system.specs.declared.row.Part.{Part}
use Rattle.mix_system.specs.Lit.{negation}
use Rattle.mix_system.specs.System.{System}
use Rattle.mix_system.specs.Bounds.{IsIn, IsFalseIn}
use Rattle.mix_system.specs.Follows.{Known}
use Rattle.mix_system.specs.FarkasSum.{FarkasRefutes}
use Rattle.proof_term.specs.declared.find.Find.{Find}
use Rattle.proof_term.specs.declared.open_tree.OpenNode.{OpenNode}
use Rattle.proof_term.specs.declared.open_tree.OpenNode.TheVariants.{Pending, Leaf, Split}
use Rattle.proof_term.specs.declared.partial.PartLevel.{PartLevel}
use Rattle.proof_term.specs.declared.partial.Partial.{Partial}
use Rattle.proof_term.specs.declared.proof.Goal.{Goal}
use Rattle.proof_term.specs.declared.proof.Goal.TheVariants.{Nothing, AtMost, Below}
use Rattle.proof_term.specs.declared.step.Step.{Step}
use Rattle.proof_term.specs.declared.step.Step.TheVariants.{Lemma, Theory, Enter, Leave}
use Rattle.proof_term.specs.Levels.{Finished, Levels, cuts_of, available, box_of}
use Rattle.proof_term.specs.Refutes.{low_half, high_half}
use Rattle.proof_term.specs.Steps.{Passes}
use Rattle.proof_term.specs.Valid.{Stage, at_start, after, has_ended, MayStand, IsOutermost}

-- The clauses that a step may name by numbers of its level: the system's, the cuts that ended before on the levels around, the outermost level's first, and the level's own steps.
abbrev pub local_clauses : System → Levels → List (List Lit)
local_clauses system levels = system.clauses ++ map (λ f. f.clause) (reverse (available levels))

abbrev pub locally : System → Levels → Known
locally system levels number = slice_get (local_clauses system levels) number

-- what has ended on a level: the clauses of its lemmas and of its theories, and the terms of its cuts
pub record Worked : Type 0 where
  pub lemmas : List (List Lit)
  pub theories : List (List Lit)
  pub cut_terms : List Term

abbrev pub nothing_worked : Worked
nothing_worked = record { lemmas = []; theories = []; cut_terms = [] }

-- how far the steps were read, and what has ended on the last level and on those around it
pub record Run : Type 0 where
  pub at : Stage
  pub last : Worked
  pub around : List Worked

abbrev pub run_start : System → Goal → Run
run_start system goal = record { at = at_start system goal; last = nothing_worked; around = [] }

-- what has ended on the level around the last one, which is closed
abbrev pub outer_worked : Worked → List Worked → Worked
outer_worked last [] = last
outer_worked last (outer ∷ around) = outer

abbrev pub outer_around : List Worked → List Worked
outer_around [] = []
outer_around (outer ∷ around) = around

-- after one more step; the term of a cut counts from its Enter on
abbrev pub run_after : Run → Step → Run
run_after run (Lemma clause hints) = record { at = after run.at (Lemma clause hints); last = record run.last { lemmas = clause ∷ run.last.lemmas }; around = run.around }
run_after run (Theory clause tree) = record { at = after run.at (Theory clause tree); last = record run.last { theories = clause ∷ run.last.theories }; around = run.around }
run_after run (Enter term bound) =
    record { at = after run.at (Enter term bound); last = nothing_worked; around = (record run.last { cut_terms = term ∷ run.last.cut_terms }) ∷ run.around }
run_after run Leave = record { at = after run.at Leave; last = outer_worked run.last run.around; around = outer_around run.around }

abbrev pub run_to : Run → List Step → Run
run_to run [] = run
run_to run (step ∷ steps) = run_to (run_after run step) steps

-- all literals of the one clause stand in the other
abbrev pub HoldsAll : List Lit → List Lit → Type 0
HoldsAll clause part = All (λ lit. Contains clause lit) part

abbrev pub IsSameSet : List Lit → List Lit → Type 0
IsSameSet clause other = HoldsAll clause other × HoldsAll other clause

-- so many items of a list, or more, are such
abbrev pub HasMany : {X : Type 0} → (X → Type 0) → ℕ → List X → Type 0
HasMany P zero xs = Unit {0}
HasMany P (suc count) [] = ⊥
HasMany P (suc count) (x ∷ xs) = (P x × HasMany P count xs) ⊎ HasMany P (suc count) xs

-- no term has a lower bound above its upper bound
abbrev pub IsConsistent : List Lit → Type 0
IsConsistent box = All (λ lit. ¬ IsFalseIn box lit) box

-- a lemma holds no clause of the system, no cut that may be named, and no lemma before it on its level
abbrev pub IsNewLemma : System → Run → List Lit → Type 0
IsNewLemma system run clause =
    All (λ old. ¬ HoldsAll clause old) (system.clauses ++ map (λ f. f.clause) (cuts_of run.at.levels.last ++ flat_map cuts_of run.at.levels.enclosing) ++ run.last.lemmas)

-- few theories before it on its level have the same literals, and the negations of them don't contradict the box
pub record IsFewTheory (system : System) (cost : Term) (finds : ℕ) (run : Run) (clause : List Lit) : Type 0 where
  pub few : ¬ HasMany (IsSameSet clause) (suc finds) run.last.theories
  pub consistent : IsConsistent (map negation clause ++ box_of system cost run.at.levels)

-- what a step asks beside its own kind's condition
abbrev pub IsWanted : System → Term → List Term → ℕ → Run → Step → Type 0
IsWanted system cost portions finds run (Lemma clause hints) = IsNewLemma system run clause
IsWanted system cost portions finds run (Theory clause tree) = IsFewTheory system cost finds run clause
IsWanted system cost portions finds run (Enter term bound) = Contains portions term × (¬ Contains run.last.cut_terms term)
IsWanted system cost portions finds run Leave = Unit {0}

-- a step passes on its level after those before it, by the numbers of its level
pub record StandsLocally (system : System) (cost : Term) (portions : List Term) (finds : ℕ) (run : Run) (step : Step) : Type 0 where
  pub place : MayStand run.at step
  pub passes : Passes system (box_of system cost run.at.levels) (locally system run.at.levels) step
  pub wanted : IsWanted system cost portions finds run step

-- a step closes no level but those within the level around which so many stand
abbrev pub IsInside : ℕ → Stage → Step → Type 0
IsInside base at Leave = base < length at.levels.enclosing
IsInside base at _ = Unit {0}

-- each of a level's steps stands after those before it
abbrev pub AllStand : System → Term → List Term → ℕ → ℕ → Run → List Step → Type 0
AllStand system cost portions finds base run [] = Unit {0}
AllStand system cost portions finds base run (step ∷ steps) =
    StandsLocally system cost portions finds run step × IsInside base run.at step × AllStand system cost portions finds base (run_after run step) steps

-- the steps of a level around which so many stand: all levels within it were closed, and it hasn't ended
pub record IsPart (system : System) (cost : Term) (portions : List Term) (finds base : ℕ) (run : Run) (steps : List Step) : Type 0 where
  pub stand : AllStand system cost portions finds base run steps
  pub closed : length (run_to run steps).at.levels.enclosing ≡ base
  pub goes_on : has_ended (run_to run steps).at ≡ false

-- the literal is one of a leaf's that isn't in the leaf's box, in a list of nodes that stands for a list of boxes
abbrev pub IsOutside : List OpenNode → List (List Lit) → Lit → Type 0
IsOutside [] boxes lit = ⊥
IsOutside (node ∷ nodes) [] lit = ⊥
IsOutside (Pending ∷ nodes) (box ∷ boxes) lit = IsOutside nodes boxes lit
IsOutside (Leaf farkas ∷ nodes) (box ∷ boxes) lit = (Any (λ part. part.lit ≡ lit) farkas.parts × (¬ IsIn box lit)) ⊎ IsOutside nodes boxes lit
IsOutside (Split var at ∷ nodes) (box ∷ boxes) lit = IsOutside nodes ((low_half var at ∷ box) ∷ (high_half var at ∷ box) ∷ boxes) lit

-- the leaves refute their boxes with the assumed literals; a pending node stands for its box and asks nothing
abbrev pub RefutesSome : List (List Part) → List Lit → List OpenNode → List (List Lit) → Type 0
RefutesSome rows assumed [] [] = Unit {0}
RefutesSome rows assumed [] (box ∷ boxes) = ⊥
RefutesSome rows assumed (node ∷ nodes) [] = ⊥
RefutesSome rows assumed (Pending ∷ nodes) (box ∷ boxes) = RefutesSome rows assumed nodes boxes
RefutesSome rows assumed (Leaf farkas ∷ nodes) (box ∷ boxes) = FarkasRefutes rows (assumed ++ box) farkas.parts × RefutesSome rows assumed nodes boxes
RefutesSome rows assumed (Split var at ∷ nodes) (box ∷ boxes) = RefutesSome rows assumed nodes ((low_half var at ∷ box) ∷ (high_half var at ∷ box) ∷ boxes)

-- the literal or its negation stands in a clause of the system
abbrev pub IsOfSystem : System → Lit → Type 0
IsOfSystem system lit = Any (λ clause. Contains clause lit ⊎ Any (λ other. lit ≡ negation other) clause) system.clauses

-- a tree in work on a box, with the literals of its leaves that are in none of their boxes
pub record IsInWork (system : System) (box : List Lit) (nodes : List OpenNode) : Type 0 where
  pub assumed : List Lit
  pub outside : (lit : Lit) → Contains assumed lit ↔ IsOutside nodes (box ∷ []) lit
  pub known : All (IsOfSystem system) assumed
  pub consistent : IsConsistent (assumed ++ box)
  pub refutes : RefutesSome system.rows assumed nodes (box ∷ [])

-- A tree that isn't begun asks for nothing, whatever its box; else the tree is in work on it.
abbrev pub PendingStands : System → List Lit → List OpenNode → Type 0
PendingStands system box nodes = (nodes ≡ Pending ∷ []) ⊎ IsInWork system box nodes

-- the steps of a level, the levels after it, each the inner level of a cut that isn't finished on the level before, and the tree in work on the last
abbrev pub LevelsStand : System → Term → List Term → ℕ → ℕ → Run → List Step → List PartLevel → List OpenNode → Type 0
LevelsStand system cost portions finds base run steps [] pending =
    IsPart system cost portions finds base run steps × PendingStands system (box_of system cost (run_to run steps).at.levels) pending
LevelsStand system cost portions finds base run steps (level ∷ levels) pending =
    IsPart system cost portions finds base run steps
    × (term : Term) × (bound : ℤ) × (level.goal ≡ Below term bound) × StandsLocally system cost portions finds (run_to run steps) (Enter term bound)
    × LevelsStand system cost portions finds (suc base) (run_after (run_to run steps) (Enter term bound)) level.steps levels pending

-- all levels, of which there is one at least
abbrev pub PartsStand : System → Term → List Term → ℕ → List PartLevel → List OpenNode → Type 0
PartsStand system cost portions finds [] pending = ⊥
PartsStand system cost portions finds (first ∷ levels) pending =
    IsOutermost first.goal × LevelsStand system cost portions finds 0 (run_start system first.goal) first.steps levels pending

-- a value is greater than those of the earlier finds of the same portion
abbrev pub AreRising : List Find → Type 0
AreRising finds = AllPairs (λ find later. find.portion ≡ later.portion → find.value < later.value) finds

-- a find is of a portion that there is, or of the whole
abbrev pub IsFindOf : ℕ → Find → Type 0
IsFindOf portions find = (place : ℕ) → find.portion ≡ Some place → place < portions

-- A proof that isn't finished is valid so far, over a system with that cost and the terms of its portions, beside the finds.
pub record PartialValid (system : System) (cost : Term) (portions : List Term) (partial : Partial) (finds : List Find) : Type 0 where
  pub levels : PartsStand system cost portions (length finds) partial.levels partial.pending.nodes
  pub rising : AreRising finds
  pub finds_of : All (IsFindOf (length portions)) finds
