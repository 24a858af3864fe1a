-- What a line gives at a place: the place of the next line, or the first of its reasons to fail.
use Rattle.std.specs.Prelude.{◌≡◌, ◌⊎◌, ℕ, ◌<◌, ℤ, pos, List, [], ◌∷◌, ◌++◌, length, map, All, true, Option, Some, None, if◌then◌else◌}
use Rattle.wx_num.specs.declared.excess.NumOp.TheVariants.{Plus}
use Rattle.wx_num.specs.declared.excess.Excess.{Excess}
use Rattle.mix_system.specs.declared.literal.Term.{Term}
use Rattle.mix_system.specs.declared.literal.Lit.{Lit}
use Rattle.mix_system.specs.declared.farkas.FarkasPart.{FarkasPart}
use Rattle.mix_system.specs.Lit.{negation}
use Rattle.mix_system.specs.System.{System, Exists}
use Rattle.mix_system.specs.Bounds.{IsIn}
use Rattle.mix_system.specs.FarkasSum.{leaf_steps}
use Rattle.mix_system.specs.Follows.{Follows}
use Rattle.proof_term.specs.declared.proof.Goal.{Goal}
use Rattle.proof_term.specs.declared.proof.Goal.TheVariants.{Nothing, AtMost}
use Rattle.proof_term.specs.declared.step.TheConstants.{MOST_NESTED}
use Rattle.proof_term.specs.Levels.{known, box_of}
use Rattle.proof_term.specs.Refutes.{low_half, high_half}
use Rattle.proof_term.specs.Steps.{negation_step, StaysWithin, NamesTerm}
use Rattle.proof_term.specs.Valid.{Stage, at_start, has_ended, after_clause, after_enter}
use Rattle.proof_text.specs.declared.line.Multiple.{Multiple}
use Rattle.proof_text.specs.declared.line.Version.TheVariants as version
use Rattle.proof_text.specs.declared.line.Line.{Line}
use Rattle.proof_text.specs.declared.line.Line.TheVariants as line
use Rattle.proof_text.specs.declared.line.LineRead.{LineRead}
use Rattle.proof_text.specs.declared.line.LineRead.TheVariants as give
use Rattle.proof_text.specs.Line.{read}
use Rattle.leaf_check.specs.Steps.{IsFirstExcess}
use Rattle.leaf_check.specs.Combined.{Vanishes, IsContradictory}
use Rattle.proof_checker.specs.declared.verdict.Reason.{Reason}
use Rattle.proof_checker.specs.declared.verdict.Reason.TheVariants as reason
use Rattle.proof_checker.specs.Place.{Place, AtHeader, AtShape, AtGoal, AtStep, InTree, AtEnd, closed_place, after_leaf, may_stand, kind_of}

pub data Outcome : Type 0 where
  Next : Place → Outcome
  Fails : Reason → Outcome

-- the line passes, and this is the place of the next one
abbrev pub GoesTo : Place → Outcome → Type 0
GoesTo place outcome = outcome ≡ Next place

-- the line fails for the reason where the fact doesn't hold, and else is asked the rest
abbrev pub Asks : Type 0 → Reason → (Outcome → Type 0) → Outcome → Type 0
Asks Fact why Rest outcome = ((Fact → ⊥) × (outcome ≡ Fails why)) ⊎ (Fact × Rest outcome)

-- the line fails at the first of some steps that would overflow, and else is asked the rest
abbrev pub AsksSteps : List Excess → (Outcome → Type 0) → Outcome → Type 0
AsksSteps steps Rest outcome =
    ((excess : Excess) × IsFirstExcess steps excess × (outcome ≡ Fails (reason.TooLarge excess))) ⊎ (All StaysWithin steps × Rest outcome)

-- the numbers are the system's counts of variables and clauses
abbrev pub IsShapeOf : System → ℕ → ℕ → Type 0
IsShapeOf system vars clauses = (vars ≡ length system.ranges) × (clauses ≡ length system.clauses)

-- the system has the terms, and each hint is below the number of the next step
abbrev pub LemmaNames : System → Stage → List Lit → List ℕ → Type 0
LemmaNames system at clause hints = All (NamesTerm system) clause × All (λ hint. hint < at.next) hints

-- the goal that a line gives
abbrev pub goal_of : Option ℕ → Goal
goal_of None = Nothing
goal_of (Some most) = AtMost most

-- the parts are those that a line has
abbrev pub multiple_of : FarkasPart → Multiple
multiple_of part = record { by = part.by; lit = part.lit }

abbrev pub AreParts : List FarkasPart → List Multiple → Type 0
AreParts parts multiples = map multiple_of parts ≡ multiples

abbrev pub LemmaGives : System → Term → Stage → List Lit → List ℕ → Outcome → Type 0
LemmaGives system cost at clause hints outcome =
    Asks (LemmaNames system at clause hints) reason.OutOfRange (
    AsksSteps (map negation_step clause) (
    Asks (Follows clause hints (box_of system cost at.levels) (known system at.levels)) reason.Hints (
    GoesTo (AtStep (after_clause at clause))))) outcome

abbrev pub TheoryGives : System → Term → Stage → List Lit → Outcome → Type 0
TheoryGives system cost at clause outcome =
    Asks (All (NamesTerm system) clause) reason.OutOfRange (
    AsksSteps (map negation_step clause) (
    GoesTo (InTree at clause ((map negation clause ++ box_of system cost at.levels) ∷ [])))) outcome

abbrev pub CutGives : System → Stage → Term → ℤ → Outcome → Type 0
CutGives system at term bound outcome =
    Asks (Exists (length system.ranges) (length system.rows) term) reason.OutOfRange (
    Asks (length at.levels.enclosing < MOST_NESTED) reason.TooDeep (
    AsksSteps (record { op = Plus; x = bound; y = pos 1 } ∷ []) (
    GoesTo (AtStep (after_enter at term bound))))) outcome

abbrev pub EndGives : Stage → Outcome → Type 0
EndGives at outcome =
    Asks (has_ended at ≡ true) reason.Unfinished (GoesTo (closed_place at.next at.levels.last at.levels.enclosing)) outcome

abbrev pub SplitGives : System → Stage → List Lit → (box : List Lit) (boxes : List (List Lit)) → ℕ → ℤ → Outcome → Type 0
SplitGives system at clause box boxes var middle outcome =
    Asks (var < length system.ranges) reason.OutOfRange (
    AsksSteps (record { op = Plus; x = middle; y = pos 1 } ∷ []) (
    GoesTo (InTree at clause ((low_half var middle ∷ box) ∷ (high_half var middle ∷ box) ∷ boxes)))) outcome

abbrev pub PartsGive : System → Stage → List Lit → (box : List Lit) (boxes : List (List Lit)) → List FarkasPart → Outcome → Type 0
PartsGive system at clause box boxes parts outcome =
    Asks (All (λ part. NamesTerm system part.lit) parts) reason.OutOfRange (
    Asks (All (λ part. IsIn box part.lit) parts) reason.NotInBox (
    AsksSteps (leaf_steps system.rows parts) (
    Asks (Vanishes system.rows parts) reason.NotZero (
    Asks (IsContradictory parts) reason.NotContradictory (
    GoesTo (after_leaf at clause boxes)))))) outcome

abbrev pub LeafGives : System → Stage → List Lit → (box : List Lit) (boxes : List (List Lit)) → List Multiple → Outcome → Type 0
LeafGives system at clause box boxes multiples outcome =
    (parts : List FarkasPart) × AreParts parts multiples × PartsGive system at clause box boxes parts outcome

-- What a line gives at a step, and at a node of a tree, where one of its kind may stand.
abbrev pub StepGives : System → Term → Stage → Line → Outcome → Type 0
StepGives system cost at (line.Lemma clause hints) outcome = LemmaGives system cost at clause hints outcome
StepGives system cost at (line.Theory clause) outcome = TheoryGives system cost at clause outcome
StepGives system cost at (line.Cut term bound) outcome = CutGives system at term bound outcome
StepGives system cost at line.End outcome = EndGives at outcome
StepGives system cost at _ outcome = ⊥

abbrev pub NodeGives : System → Stage → List Lit → List (List Lit) → Line → Outcome → Type 0
NodeGives system at clause (box ∷ boxes) (line.Split var middle) outcome = SplitGives system at clause box boxes var middle outcome
NodeGives system at clause (box ∷ boxes) (line.Leaf multiples) outcome = LeafGives system at clause box boxes multiples outcome
NodeGives system at clause _ _ outcome = ⊥

abbrev pub HeaderGives : Line → Outcome → Type 0
HeaderGives (line.Header version.One) outcome = GoesTo AtGoal outcome
HeaderGives (line.Header version.Two) outcome = GoesTo AtShape outcome
HeaderGives _ outcome = ⊥

abbrev pub ShapeGives : System → Line → Outcome → Type 0
ShapeGives system (line.Shape vars clauses) outcome =
    Asks (IsShapeOf system vars clauses) (reason.OtherSystem (length system.ranges) (length system.clauses)) (GoesTo AtGoal) outcome
ShapeGives system _ outcome = ⊥

abbrev pub GoalGives : System → Line → Outcome → Type 0
GoalGives system (line.Goal most) outcome = GoesTo (AtStep (at_start system (goal_of most))) outcome
GoalGives system _ outcome = ⊥

-- what a line gives where one of its kind may stand
abbrev pub LineGives : System → Term → Place → Line → Outcome → Type 0
LineGives system cost AtHeader l outcome = HeaderGives l outcome
LineGives system cost AtShape l outcome = ShapeGives system l outcome
LineGives system cost AtGoal l outcome = GoalGives system l outcome
LineGives system cost (AtStep at) l outcome = StepGives system cost at l outcome
LineGives system cost (InTree at clause boxes) l outcome = NodeGives system at clause boxes l outcome
LineGives system cost (AtEnd goal) l outcome = ⊥

-- what a line of a proof's text gives: first its form and its place are looked at, then its numbers, then what it says
abbrev pub ReadGives : System → Term → Place → LineRead → Outcome → Type 0
ReadGives system cost place give.Malformed outcome = outcome ≡ Fails reason.BadText
ReadGives system cost place (give.Unfit k) outcome = outcome ≡ Fails (if may_stand place k then reason.OutOfRange else reason.BadText)
ReadGives system cost place (give.Fits l) outcome = Asks (may_stand place (kind_of l) ≡ true) reason.BadText (LineGives system cost place l) outcome

-- what the bytes of a line give at a place
abbrev pub Gives : System → Term → Place → List ℕ → Outcome → Type 0
Gives system cost place bytes outcome = ReadGives system cost place (read bytes) outcome
