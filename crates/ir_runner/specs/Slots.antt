-- What the steps of a block do to the slots.
use Rattle.std.specs.Prelude.{◌≡◌, ◌≢◌, ℕ, ◌<◌, List, [], ◌∷◌, length, slice_index_or, slice_set, Option, Some, None, Bool, true, if◌then◌else◌}
use Rattle.ll_links.specs.declared.link.Source.{Source}
use Rattle.ll_links.specs.declared.link.Source.TheVariants as source
use Rattle.ir_meaning.specs.declared.value.Val.{Val}
use Rattle.ir_meaning.specs.declared.value.Val.TheVariants.{Poison, Num}
use Rattle.ir_meaning.specs.Whole.{IsWidth}
use Rattle.ir_meaning.specs.Value.{FitsWidth, on_number, select_of}
use Rattle.ir_meaning.specs.Rows.{bin_of, cast_of, abs_of, divides}
use Rattle.ir_meaning.specs.Compare.{cmp_of}
use Rattle.ir_runs.specs.Walk.{is_one}
use Rattle.ir_runner.specs.declared.code.PhiMove.{PhiMove}
use Rattle.ir_runner.specs.declared.code.Pair.{Pair}
use Rattle.ir_runner.specs.declared.code.Step.{Step}
use Rattle.ir_runner.specs.declared.code.Step.TheVariants.{Give, Assume}
use Rattle.ir_runner.specs.declared.code.StepOp.{StepOp}
use Rattle.ir_runner.specs.declared.code.StepOp.TheVariants.{Bin, Cmp, Cast, Select, Abs}

-- the value of an operand
abbrev pub slot_value : List Val → Source → Val
slot_value slots (source.Value id) = slice_index_or slots id.0 Poison
slot_value slots (source.Const n) = Num n
slot_value slots source.Poison = Poison

-- the slot is there
abbrev pub IsThere : List Val → Source → Type 0
IsThere slots (source.Value id) = id.0 < length slots
IsThere slots (source.Const n) = Unit {0}
IsThere slots source.Poison = Unit {0}

-- it has a value of so many bits
pub record IsFit (slots : List Val) (width : ℕ) (from : Source) : Type 0 where
  pub there : IsThere slots from
  pub fits : FitsWidth width (slot_value slots from)

pub record AreFit (slots : List Val) (pair : Pair) : Type 0 where
  pub width : IsWidth pair.width
  pub left : IsFit slots pair.width pair.left
  pub right : IsFit slots pair.width pair.right

-- what an operation computes
abbrev pub op_result : List Val → StepOp → Val
op_result slots (Bin kind pair) = bin_of kind pair.flags pair.width (slot_value slots pair.left) (slot_value slots pair.right)
op_result slots (Cmp pred pair) = cmp_of pred pair.flags pair.width (slot_value slots pair.left) (slot_value slots pair.right)
op_result slots (Cast kind flags from arg to) = cast_of kind flags from to (slot_value slots arg)
op_result slots (Select cond first second) = select_of (slot_value slots cond) (slot_value slots first) (slot_value slots second)
op_result slots (Abs width arg strict) = on_number (abs_of strict width) (slot_value slots arg)

-- its operands are there and have its width, and a divisor isn't 0
abbrev pub CanCompute : List Val → StepOp → Type 0
CanCompute slots (Bin kind pair) = AreFit slots pair × (divides kind ≡ true → slot_value slots pair.right ≢ Num 0)
CanCompute slots (Cmp pred pair) = AreFit slots pair
CanCompute slots (Cast kind flags from arg to) = IsWidth from × IsWidth to × IsFit slots from arg
CanCompute slots (Select cond first second) = IsFit slots 1 cond × IsThere slots first × IsThere slots second
CanCompute slots (Abs width arg strict) = IsWidth width × IsFit slots width arg

-- the condition of an assume is 1
abbrev pub holds : List Val → Source → Bool
holds slots cond = is_one (Some (slot_value slots cond))

-- the slots after steps in order, none where an assume doesn't hold
unfoldable pub slots_after : List Step → List Val → Option (List Val)
slots_after [] slots = Some slots
slots_after (Give op to ∷ steps) slots = slots_after steps (slice_set slots to (op_result slots op))
slots_after (Assume cond ∷ steps) slots = if holds slots cond then slots_after steps slots else None

-- each step up to the first assume that doesn't hold finds its operands and its slot
unfoldable pub CanRun : List Step → List Val → Type 0
CanRun [] slots = Unit {0}
CanRun (Give op to ∷ steps) slots = (to < length slots) × CanCompute slots op × CanRun steps (slice_set slots to (op_result slots op))
CanRun (Assume cond ∷ steps) slots = IsThere slots cond × (holds slots cond ≡ true → CanRun steps slots)

-- the slots after the phis of an edge
unfoldable pub moved : List PhiMove → List Val → List Val
moved [] slots = slots
moved (move ∷ moves) slots = moved moves (slice_set slots move.to (slot_value slots move.source))

unfoldable pub CanMove : List PhiMove → List Val → Type 0
CanMove [] slots = Unit {0}
CanMove (move ∷ moves) slots = (move.to < length slots) × IsThere slots move.source × CanMove moves (slice_set slots move.to (slot_value slots move.source))
