-- How far the text of a proof was read.
use Rattle.std.specs.Prelude.{ℕ, List, [], ◌∷◌, Bool, true, false, not}
use Rattle.mix_system.specs.declared.literal.Lit.{Lit}
use Rattle.proof_term.specs.declared.proof.Goal.{Goal}
use Rattle.proof_term.specs.Levels.{Level}
use Rattle.proof_term.specs.Valid.{Stage, has_ended, closed, after_clause}
use Rattle.proof_text.specs.declared.line.Kind.{Kind}
use Rattle.proof_text.specs.declared.line.Kind.TheVariants as kind
use Rattle.proof_text.specs.declared.line.Line.{Line}
use Rattle.proof_text.specs.declared.line.Line.TheVariants as line

-- what the next line may be
pub data Place : Type 0 where
  AtHeader : Place
  AtShape : Place
  AtGoal : Place
  -- a step, or the end of a level
  AtStep : Stage → Place
  -- a node of the tree of a theory with that clause: the boxes that are left, that of the next node first
  InTree : Stage → List Lit → List (List Lit) → Place
  -- nothing: a proof with that goal has ended
  AtEnd : Goal → Place

-- after the last of these levels was closed
abbrev pub closed_place : ℕ → Level → List Level → Place
closed_place next last [] = AtEnd last.goal
closed_place next last (outer ∷ enclosing) = AtStep (closed next last (outer ∷ enclosing))

-- after a leaf, where these boxes are left
abbrev pub after_leaf : Stage → List Lit → List (List Lit) → Place
after_leaf at clause [] = AtStep (after_clause at clause)
after_leaf at clause (box ∷ boxes) = InTree at clause (box ∷ boxes)

-- No step stands behind the empty clause of its level but the level's end.
abbrev pub is_step_kind : Bool → Kind → Bool
is_step_kind ended kind.Lemma = not ended
is_step_kind ended kind.Theory = not ended
is_step_kind ended kind.Cut = not ended
is_step_kind ended kind.End = true
is_step_kind ended kind.Header = false
is_step_kind ended kind.Shape = false
is_step_kind ended kind.Goal = false
is_step_kind ended kind.Split = false
is_step_kind ended kind.Leaf = false

abbrev pub is_header_kind : Kind → Bool
is_header_kind kind.Header = true
is_header_kind _ = false

abbrev pub is_shape_kind : Kind → Bool
is_shape_kind kind.Shape = true
is_shape_kind _ = false

abbrev pub is_goal_kind : Kind → Bool
is_goal_kind kind.Goal = true
is_goal_kind _ = false

abbrev pub is_node_kind : Kind → Bool
is_node_kind kind.Split = true
is_node_kind kind.Leaf = true
is_node_kind _ = false

-- a line of that kind may stand there
abbrev pub may_stand : Place → Kind → Bool
may_stand AtHeader k = is_header_kind k
may_stand AtShape k = is_shape_kind k
may_stand AtGoal k = is_goal_kind k
may_stand (AtStep at) k = is_step_kind (has_ended at) k
may_stand (InTree at clause boxes) k = is_node_kind k
may_stand (AtEnd goal) k = false

abbrev pub kind_of : Line → Kind
kind_of (line.Header version) = kind.Header
kind_of (line.Shape vars clauses) = kind.Shape
kind_of (line.Goal most) = kind.Goal
kind_of (line.Lemma clause hints) = kind.Lemma
kind_of (line.Theory clause) = kind.Theory
kind_of (line.Split var at) = kind.Split
kind_of (line.Leaf parts) = kind.Leaf
kind_of (line.Cut term bound) = kind.Cut
kind_of line.End = kind.End
