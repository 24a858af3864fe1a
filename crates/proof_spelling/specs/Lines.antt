-- The lines of a proof.
use Rattle.std.specs.Prelude.{ℕ, List, [], ◌∷◌, ◌++◌, map, Option, Some, None}
use Rattle.std.specs.List.{flat_map}
use Rattle.mix_system.specs.declared.farkas.FarkasPart.{FarkasPart}
use Rattle.proof_term.specs.declared.proof.Goal.{Goal}
use Rattle.proof_term.specs.declared.proof.Goal.TheVariants.{Nothing, AtMost, Below}
use Rattle.proof_term.specs.declared.proof.Shape.{Shape}
use Rattle.proof_term.specs.declared.proof.Proof.{Proof}
use Rattle.proof_term.specs.declared.step.Step.{Step}
use Rattle.proof_term.specs.declared.step.Step.TheVariants.{Lemma, Theory, Enter, Leave}
use Rattle.proof_term.specs.declared.tree.Node.{Node}
use Rattle.proof_term.specs.declared.tree.Node.TheVariants.{Leaf, Split}
use Rattle.proof_text.specs.declared.line.Multiple.{Multiple}
use Rattle.proof_text.specs.declared.line.Version.TheVariants as version
use Rattle.proof_text.specs.declared.line.Line.{Line}
use Rattle.proof_text.specs.declared.line.Line.TheVariants as line

abbrev pub multiple_of : FarkasPart → Multiple
multiple_of part = record { by = part.by; lit = part.lit }

abbrev pub node_line : Node → Line
node_line (Leaf farkas) = line.Leaf (map multiple_of farkas.parts)
node_line (Split var at) = line.Split var at

-- the line of a step, and those of a theory's tree
abbrev pub step_lines : Step → List Line
step_lines (Lemma clause hints) = line.Lemma clause hints ∷ []
step_lines (Theory clause tree) = line.Theory clause ∷ map node_line tree.nodes
step_lines (Enter term bound) = line.Cut term bound ∷ []
step_lines Leave = line.End ∷ []

-- the lines of some steps, and the end of the first level
abbrev pub steps_lines : List Step → List Line
steps_lines steps = flat_map step_lines steps ++ line.End ∷ []

-- the first lines, by the version of the text
abbrev pub first_lines : Option Shape → List Line
first_lines None = line.Header version.One ∷ []
first_lines (Some shape) = line.Header version.Two ∷ line.Shape shape.vars shape.clauses ∷ []

-- the number on the line of a goal; no text has the goal of a cut's level
abbrev pub goal_number : Goal → Option ℕ
goal_number Nothing = None
goal_number (AtMost most) = Some most
goal_number (Below term bound) = None

abbrev pub proof_lines : Proof → List Line
proof_lines proof = first_lines proof.shape ++ line.Goal (goal_number proof.goal) ∷ steps_lines proof.steps
