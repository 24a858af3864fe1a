-- What refuted boxes and valid proofs say of the points of a system.
use Rattle.std.specs.Prelude.{ℤ, pos, ◌≤ℤ◌, List, Contains}
use Rattle.mix_system.specs.declared.literal.Term.{Term}
use Rattle.mix_system.specs.declared.literal.Lit.{Lit}
use Rattle.mix_system.specs.declared.row.Part.{Part}
use Rattle.mix_system.specs.System.{System}
use Rattle.mix_system.specs.Fits.{Fits, term_value}
use Rattle.mix_system.specs.Bounds.{AreTrueAt}
use Rattle.proof_term.specs.declared.proof.Goal.{Goal}
use Rattle.proof_term.specs.declared.proof.Goal.TheVariants.{Nothing, AtMost, Below}
use Rattle.proof_term.specs.declared.proof.Proof.{Proof}
use Rattle.proof_term.specs.declared.step.Step.TheVariants.{Enter}
use Rattle.proof_term.specs.declared.tree.Tree.{Tree}
use Rattle.proof_term.specs.Refutes.{Refutes}
use Rattle.proof_term.specs.Valid.{Valid}

-- a point meets a goal; none meets Nothing
abbrev pub Meets : List (List Part) → Term → List ℤ → Goal → Type 0
Meets rows cost point Nothing = ⊥
Meets rows cost point (AtMost most) = term_value rows point cost ≤ℤ pos most
Meets rows cost point (Below term bound) = term_value rows point term ≤ℤ bound

-- no whole point lies in a refuted box
abbrev pub RefutedBoxesAreEmpty : Type 0
RefutedBoxesAreEmpty = (rows : List (List Part)) (tree : Tree) (box : List Lit) (point : List ℤ) →
    Refutes rows tree box → AreTrueAt rows point box → ⊥

-- every point that fits meets the goal of a valid proof; so a valid proof with the goal Nothing leaves no point
abbrev pub ValidProofsBound : Type 0
ValidProofsBound = (system : System) (cost : Term) (proof : Proof) (point : List ℤ) →
    Valid system cost proof → Fits system point → Meets system.rows cost point proof.goal

-- at every point that fits each cut's term is at most its bound, whatever the goals around it
abbrev pub CutsAreBounds : Type 0
CutsAreBounds = (system : System) (cost : Term) (proof : Proof) (point : List ℤ) (term : Term) (bound : ℤ) →
    Valid system cost proof → Fits system point → Contains proof.steps (Enter term bound) → term_value system.rows point term ≤ℤ bound
