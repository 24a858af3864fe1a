-- Steps whose literals are those of the system's clauses.
use Rattle.std.specs.Prelude.{◌≡◌, ◌⊎◌, List, length, All, Any}
use Rattle.mix_system.specs.declared.literal.Term.{Term}
use Rattle.mix_system.specs.declared.literal.Term.TheVariants.{Var, Row}
use Rattle.mix_system.specs.declared.literal.Lit.{Lit}
use Rattle.mix_system.specs.Lit.{atom}
use Rattle.mix_system.specs.System.{System, IsClause}
use Rattle.proof_term.specs.declared.step.Step.{Step}
use Rattle.proof_term.specs.declared.step.Step.TheVariants.{Lemma, Theory, Enter, Leave}
use Rattle.level_steps.specs.Level.{clause_of}

-- the atom of the literal is that of a literal of some of the system's clauses
abbrev pub IsNamed : System → Lit → Type 0
IsNamed system lit = Any (Any (λ other. atom other ≡ atom lit)) system.clauses

abbrev pub IsOnVariable : Term → Type 0
IsOnVariable (Var var) = Unit {0}
IsOnVariable (Row row) = ⊥

-- what a step's clause may have for a literal: a theory's may be on a variable besides
abbrev pub MayHave : System → Step → Lit → Type 0
MayHave system (Lemma clause hints) lit = IsNamed system lit
MayHave system (Theory clause tree) lit = IsNamed system lit ⊎ IsOnVariable lit.term
MayHave system (Enter term bound) lit = ⊥
MayHave system Leave lit = ⊥

-- the clause of a plain step is one that a system may have, with such literals
pub record IsPlain (system : System) (step : Step) : Type 0 where
  pub clause : IsClause (length system.ranges) (length system.rows) (clause_of step)
  pub lits : All (MayHave system step) (clause_of step)
