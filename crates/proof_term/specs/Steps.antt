-- What a step of a proof asks of the box and of the clauses that it may name.
use Rattle.std.specs.Prelude.{ℕ, ℤ, pos, List, [], ◌∷◌, ◌++◌, All, FitsSigned, Option, map, length, ◌<◌}
use Rattle.std.specs.List.{flat_map}
use Rattle.std.specs.Int.{w128}
use Rattle.wx_num.specs.Excess.{exact}
use Rattle.wx_num.specs.declared.excess.NumOp.TheVariants.{Plus, Minus}
use Rattle.wx_num.specs.declared.excess.Excess.{Excess}
use Rattle.mix_system.specs.declared.literal.Side.{Side}
use Rattle.mix_system.specs.declared.literal.Side.TheVariants.{Le, Ge}
use Rattle.mix_system.specs.declared.literal.Lit.{Lit}
use Rattle.mix_system.specs.declared.row.Part.{Part}
use Rattle.mix_system.specs.Lit.{negation}
use Rattle.mix_system.specs.System.{System, Exists}
use Rattle.mix_system.specs.FarkasSum.{leaf_steps}
use Rattle.mix_system.specs.Follows.{Follows}
use Rattle.proof_term.specs.Refutes.{Refutes}
use Rattle.proof_term.specs.declared.tree.Node.{Node}
use Rattle.proof_term.specs.declared.tree.Node.TheVariants.{Leaf, Split}
use Rattle.proof_term.specs.declared.step.Step.{Step}
use Rattle.proof_term.specs.declared.step.Step.TheVariants.{Lemma, Theory, Enter, Leave}

-- the sum or the difference that gives the bound of a literal's negation
abbrev pub op_of_negation : Side → ℤ → Excess
op_of_negation Le bound = record { op = Plus; x = bound; y = pos 1 }
op_of_negation Ge bound = record { op = Minus; x = bound; y = pos 1 }

abbrev pub negation_step : Lit → Excess
negation_step lit = op_of_negation lit.side lit.bound

-- the numbers that a node forms, in order
abbrev pub node_steps : List (List Part) → Node → List Excess
node_steps rows (Leaf farkas) = leaf_steps rows farkas.parts
node_steps rows (Split var at) = record { op = Plus; x = at; y = pos 1 } ∷ []

-- the numbers that a step forms, in order
abbrev pub step_numbers : List (List Part) → Step → List Excess
step_numbers rows (Lemma clause hints) = map negation_step clause
step_numbers rows (Theory clause tree) = map negation_step clause ++ flat_map (node_steps rows) tree.nodes
step_numbers rows (Enter term bound) = record { op = Plus; x = bound; y = pos 1 } ∷ []
step_numbers rows Leave = []

-- a number that is formed stays in i128
abbrev pub StaysWithin : Excess → Type 0
StaysWithin step = FitsSigned w128 (exact step.op step.x step.y)

-- the terms of a literal, a node, a step are the system's
abbrev pub NamesTerm : System → Lit → Type 0
NamesTerm system lit = Exists (length system.ranges) (length system.rows) lit.term

abbrev pub NodeNames : System → Node → Type 0
NodeNames system (Leaf farkas) = All (λ part. NamesTerm system part.lit) farkas.parts
NodeNames system (Split var at) = var < length system.ranges

abbrev pub StepNames : System → Step → Type 0
StepNames system (Lemma clause hints) = All (NamesTerm system) clause
StepNames system (Theory clause tree) = All (NamesTerm system) clause × All (NodeNames system) tree.nodes
StepNames system (Enter term bound) = Exists (length system.ranges) (length system.rows) term
StepNames system Leave = Unit {0}

-- a clause that a step shows in this box from these clauses, by their numbers
abbrev pub Shows : List (List Part) → List Lit → (ℕ → Option (List Lit)) → Step → Type 0
Shows rows box known (Lemma clause hints) = Follows clause hints box known
Shows rows box known (Theory clause tree) = Refutes rows tree (map negation clause ++ box)
Shows rows box known (Enter term bound) = Unit {0}
Shows rows box known Leave = Unit {0}

-- A step passes in a box over known clauses, whatever their numbers are counted from.
pub record Passes (system : System) (box : List Lit) (known : ℕ → Option (List Lit)) (step : Step) : Type 0 where
  pub names : StepNames system step
  pub numbers : All StaysWithin (step_numbers system.rows step)
  pub shows : Shows system.rows box known step
