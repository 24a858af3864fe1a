-- How far the text of a proof was read, and what the next line comes to.
use Rattle.std.specs.Prelude.{◌≡◌, ◌≢◌, ◌⊎◌, Result, Ok, Err, ℕ, ◌+◌, ◌-◌, ◌==◌, List, [], ◌∷◌, ◌++◌, map, Bool, true, false, Option, Some, None, if◌then◌else◌}
use Rattle.std.specs.List.{flat_map}
use Rattle.proof_term.specs.declared.proof.Goal.{Goal}
use Rattle.proof_term.specs.declared.proof.Goal.TheVariants.{Nothing, AtMost}
use Rattle.proof_term.specs.declared.proof.Proof.{Proof}
use Rattle.proof_term.specs.Valid.{is_empty}
use Rattle.proof_term.specs.declared.step.Step.TheVariants.{Theory}
use Rattle.proof_spelling.specs.declared.parsing.TextFault.{TextFault}
use Rattle.proof_text.specs.declared.line.Version.TheVariants as version
use Rattle.proof_text.specs.declared.line.Line.{Line}
use Rattle.proof_text.specs.declared.line.Line.TheVariants as line
use Rattle.proof_text.specs.declared.line.LineRead.{LineRead}
use Rattle.proof_text.specs.declared.line.LineRead.TheVariants as give
use Rattle.proof_spelling.specs.declared.draft.Draft.{Draft}
use Rattle.proof_spelling.specs.declared.draft.Draft.TheVariants as draft
use Rattle.proof_spelling.specs.declared.draft.Opened.{Opened}
use Rattle.proof_spelling.specs.declared.draft.Growing.{Growing}
use Rattle.proof_spelling.specs.Lines.{node_line, step_lines, first_lines}

-- what the next line may be
pub data Spot : Type 0 where
  AtHeader : Spot
  AtShape : Spot
  AtGoal : Spot
  -- a step: whether the last level has ended with the empty clause, and how many levels are open around it
  AtStep : Bool → ℕ → Spot
  -- a node of a tree: whether its theory's clause is empty, how many levels are open around, and how many boxes are left but for that of the node
  AtNode : Bool → ℕ → ℕ → Spot
  AtEnd : Spot

-- behind a leaf, where so many other boxes are left
abbrev pub after_leaf : Bool → ℕ → ℕ → Spot
after_leaf empty around others = if others == 0 then AtStep empty around else AtNode empty around (others - 1)

-- behind the end of a level with so many around it
abbrev pub after_end : ℕ → Spot
after_end around = if around == 0 then AtEnd else AtStep false (around - 1)

abbrev pub after_step : ℕ → Line → Option Spot
after_step around (line.Lemma clause hints) = Some (AtStep (is_empty clause) around)
after_step around (line.Theory clause) = Some (AtNode (is_empty clause) around 0)
after_step around (line.Cut term bound) = Some (AtStep false (around + 1))
after_step around _ = None

abbrev pub after_empty : ℕ → Line → Option Spot
after_empty around line.End = Some (after_end around)
after_empty around _ = None

abbrev pub after_node : Bool → ℕ → ℕ → Line → Option Spot
after_node empty around others (line.Leaf parts) = Some (after_leaf empty around others)
after_node empty around others (line.Split var at) = Some (AtNode empty around (others + 1))
after_node empty around others _ = None

abbrev pub after_header : Line → Option Spot
after_header (line.Header version.One) = Some AtGoal
after_header (line.Header version.Two) = Some AtShape
after_header _ = None

abbrev pub after_shape : Line → Option Spot
after_shape (line.Shape vars clauses) = Some AtGoal
after_shape _ = None

abbrev pub after_goal : Line → Option Spot
after_goal (line.Goal most) = Some (AtStep false 0)
after_goal _ = None

-- the spot behind a line, where one of its kind may stand
abbrev pub after : Spot → Line → Option Spot
after AtHeader l = after_header l
after AtShape l = after_shape l
after AtGoal l = after_goal l
after (AtStep true around) l = after_empty around l
after (AtStep false around) l = after_step around l
after (AtNode empty around others) l = after_node empty around others l
after AtEnd l = None

-- the spot of what is kept
abbrev pub spot_of : Draft → Spot
spot_of draft.Header = AtHeader
spot_of draft.Shape = AtShape
spot_of (draft.Goal shape) = AtGoal
spot_of (draft.Step opened) = AtStep opened.ended opened.around
spot_of (draft.Node opened growing) = AtNode (is_empty growing.clause) opened.around growing.others
spot_of (draft.End opened) = AtEnd

-- the lines of what is kept
abbrev pub opened_lines : Opened → List Line
opened_lines opened = first_lines opened.shape ++ line.Goal opened.most ∷ flat_map step_lines opened.steps

abbrev pub growing_lines : Growing → List Line
growing_lines growing = line.Theory growing.clause ∷ map node_line growing.nodes

abbrev pub draft_lines : Draft → List Line
draft_lines draft.Header = []
draft_lines draft.Shape = line.Header version.Two ∷ []
draft_lines (draft.Goal shape) = first_lines shape
draft_lines (draft.Step opened) = opened_lines opened
draft_lines (draft.Node opened growing) = opened_lines opened ++ growing_lines growing
draft_lines (draft.End opened) = opened_lines opened ++ line.End ∷ []

-- what is kept behind one line more, or that none of its kind may stand there
abbrev pub Comes : Draft → Line → Option Draft → Type 0
Comes before l None = after (spot_of before) l ≡ None
Comes before l (Some next) = (after (spot_of before) l ≡ Some (spot_of next)) × (draft_lines next ≡ draft_lines before ++ l ∷ [])

-- the same by what its bytes give
abbrev pub ReadComes : Draft → LineRead → Option Draft → Type 0
ReadComes before give.Malformed next = next ≡ None
ReadComes before (give.Unfit k) next = next ≡ None
ReadComes before (give.Fits l) next = Comes before l next

abbrev pub goal_of : Option ℕ → Goal
goal_of None = Nothing
goal_of (Some most) = AtMost most

abbrev pub proof_of : Opened → Proof
proof_of opened = record { goal = goal_of opened.most; shape = opened.shape; steps = opened.steps }

-- behind a theory whose tree is whole
abbrev pub theory_ended : Opened → Growing → Opened
theory_ended opened growing = record opened { steps = opened.steps ++ Theory growing.clause (record { nodes = growing.nodes }) ∷ []; ended = is_empty growing.clause }

-- what a text comes to that ends there, where these bytes stand behind its last line feed
abbrev pub IsEnded : Draft → ℕ → List ℕ → Result Proof TextFault → Type 0
IsEnded kept number rest (Ok proof) = (rest ≡ []) × ((opened : Opened) × (kept ≡ draft.End opened) × (proof ≡ proof_of opened))
IsEnded kept number rest (Err fault) = (fault.line ≡ number) × ((rest ≢ []) ⊎ ((opened : Opened) → kept ≢ draft.End opened))
