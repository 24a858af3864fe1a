-- The numbers of a line are those of its types.
use Rattle.std.specs.Prelude.{ℕ, ◌<◌, ◌^◌, pos, ◌≤ℤ◌, All, FitsSigned, length, Option, Some, None}
use Rattle.std.specs.Int.{w128}
use Rattle.mix_system.specs.declared.literal.Term.{Term}
use Rattle.mix_system.specs.declared.literal.Term.TheVariants.{Var, Row}
use Rattle.mix_system.specs.declared.literal.Lit.{Lit}
use Rattle.proof_text.specs.declared.line.Multiple.{Multiple}
use Rattle.proof_text.specs.declared.line.Line.{Line}
use Rattle.proof_text.specs.declared.line.Line.TheVariants as line

abbrev pub TermFits : Term → Type 0
TermFits (Var number) = number < 2 ^ 32
TermFits (Row number) = number < 2 ^ 32

pub record LitFits (lit : Lit) : Type 0 where
  pub term : TermFits lit.term
  pub bound : FitsSigned w128 lit.bound

pub record MultipleFits (part : Multiple) : Type 0 where
  pub least : pos 1 ≤ℤ part.by
  pub by : FitsSigned w128 part.by
  pub lit : LitFits part.lit

abbrev pub GoalFits : Option ℕ → Type 0
GoalFits None = Unit {0}
GoalFits (Some most) = most < 2 ^ 64

abbrev pub LineFits : Line → Type 0
LineFits (line.Header version) = Unit {0}
LineFits (line.Shape vars clauses) = (vars < 2 ^ 32) × (clauses < 2 ^ 32)
LineFits (line.Goal most) = GoalFits most
LineFits (line.Lemma clause hints) = All LitFits clause × All (λ hint. hint < 2 ^ 32) hints
LineFits (line.Theory clause) = All LitFits clause
LineFits (line.Split var at) = (var < 2 ^ 32) × FitsSigned w128 at
LineFits (line.Leaf parts) = All MultipleFits parts
LineFits (line.Cut term bound) = TermFits term × FitsSigned w128 bound
LineFits line.End = Unit {0}

-- a leaf has a part
abbrev pub LineIsFull : Line → Type 0
LineIsFull (line.Leaf parts) = 0 < length parts
LineIsFull _ = Unit {0}

-- a leaf takes each of its literals once at least
abbrev pub TakesOnce : Line → Type 0
TakesOnce (line.Leaf parts) = All (λ part. pos 1 ≤ℤ part.by) parts
TakesOnce _ = Unit {0}
