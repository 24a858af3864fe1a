-- One level of a proof, as its own steps see it: the clauses that they may name, by local numbers, and the bounds that hold on it.
use Rattle.std.specs.Prelude.{ℕ, ℤ, List, [], ◌∷◌, ◌++◌, map, Option, slice_get}
use Rattle.std.specs.Option.{option_to_list}
use Rattle.mix_system.specs.declared.literal.Lit.{Lit}
use Rattle.mix_system.specs.System.{System}
use Rattle.mix_system.specs.Bounds.{AreTrueAt, range_bounds, unit_bounds}
use Rattle.mix_system.specs.Fits.{Fits}
use Rattle.mix_system.specs.Follows.{Known}
use Rattle.proof_term.specs.declared.step.Step.{Step}
use Rattle.proof_term.specs.declared.step.Step.TheVariants.{Lemma, Theory, Enter, Leave}

-- the system, the cuts that were finished before on the levels around, the outermost first, and the literal that says that the goal isn't met
pub record Level : Type 0 where
  pub system : System
  pub cuts : List Lit
  pub goal : Option Lit

-- the clause that a lemma or a theory shows
abbrev pub clause_of : Step → List Lit
clause_of (Lemma clause hints) = clause
clause_of (Theory clause tree) = clause
clause_of (Enter term bound) = []
clause_of Leave = []

-- the clause of a cut has no literal but its own
abbrev pub cut_clauses : List Lit → List (List Lit)
cut_clauses cuts = map (λ cut. cut ∷ []) cuts

-- what a step behind others may name, in the order of local numbers: the system's clauses, the cuts, the steps
abbrev pub available : Level → List Step → List (List Lit)
available level steps = level.system.clauses ++ cut_clauses level.cuts ++ map clause_of steps

abbrev pub known : Level → List Step → Known
known level steps number = slice_get (available level steps) number

-- the ranges, the goal's literal, and each available clause with one literal
abbrev pub box_of : Level → List Step → List Lit
box_of level steps = range_bounds level.system.ranges ++ option_to_list level.goal ++ unit_bounds (available level steps)

-- the point fits the system, the goal's literal is true, and so is each cut
pub record Meets (level : Level) (point : List ℤ) : Type 0 where
  pub fits : Fits level.system point
  pub goal : AreTrueAt level.system.rows point (option_to_list level.goal)
  pub cuts : AreTrueAt level.system.rows point level.cuts
