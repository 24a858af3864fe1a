-- Where a block over numbers leads.
use Rattle.std.specs.Prelude.{◌≡◌, ℕ, ◌+◌, ◌%◌, ◌^◌, ◌<◌, ◌==◌, Bool, List, length, map, slice_index_or, slice_set, Some, Contains, if◌then◌else◌}
use Rattle.std.specs.Option.{unwrap_or}
use Rattle.std.specs.Map.{lookup}
use Rattle.ir_meaning.specs.declared.value.Val.{Val}
use Rattle.ir_meaning.specs.declared.value.Val.TheVariants.{Num}
use Rattle.ir_runs.specs.Walk.{Returns}
use Rattle.ir_runs.specs.declared.ret_val.RetVal.{RetVal}
use Rattle.ir_runner.specs.declared.code.Exit.{Exit}
use Rattle.ir_runner.specs.declared.code.Jump.{Jump}
use Rattle.ir_runner.specs.Slots.{slots_after, CanRun, moved, CanMove}
use Rattle.ir_runner.specs.Leads.{Jumps, Stops, exit_leads, CanExit}
use Rattle.number_runner.specs.declared.code.Fork.{Fork}
use Rattle.number_runner.specs.declared.code.NumberCase.{NumberCase}
use Rattle.number_runner.specs.declared.code.NumberExit.{NumberExit}
use Rattle.number_runner.specs.declared.code.NumberJump.{NumberJump}
use Rattle.number_runner.specs.declared.leave.Way.{Way}
use Rattle.number_runner.specs.declared.leave.Way.TheVariants as way
use Rattle.number_runner.specs.Stands.{jump_of, tail_of, IsExit}
use Rattle.number_runner.specs.Costs.{jumps_of}

-- the value that a fork compares, raised
abbrev pub raised_at : Fork → List ℕ → ℕ
raised_at fork numbers = (slice_index_or numbers fork.left 0 + fork.bias) % 2 ^ fork.mask.width

-- the edge of the first case with the number, else the default
abbrev pub case_jump : ℕ → NumberJump → List NumberCase → NumberJump
case_jump n default cases = unwrap_or (lookup (λ value. value == n) (map (λ case. (case.value, case.jump)) cases)) default

-- what the end stands for finds its operands
pub record CanLeave (slots : List Val) (exit : NumberExit) : Type 0 where
  pub code : Exit
  pub is : IsExit code exit
  pub tail : CanRun (tail_of exit) slots
  pub ends : (after : List Val) → slots_after (tail_of exit) slots ≡ Some after → CanExit after code
  pub moves : (after : List Val) (jump : Jump) → slots_after (tail_of exit) slots ≡ Some after → exit_leads after code ≡ Jumps jump → CanMove jump.moves after

-- ---- an edge, and a fork

-- where it goes along an edge, the phis have their values
abbrev pub GoesAlong : List Val → NumberJump → List ℕ → Way → Type 0
GoesAlong slots jump after (way.To to edge block) = (map Num after ≡ moved jump.moves slots) × (to ≡ jump.to) × (edge ≡ jump.edge) × (block ≡ jump.block)
GoesAlong slots jump after way.Returns = ⊥
GoesAlong slots jump after way.Left = Unit {0}

abbrev pub chosen : Fork → Bool → NumberJump
chosen fork holds = if holds then fork.on_one else fork.on_zero

-- the slots with the value of the comparison
abbrev pub told : Fork → Bool → List Val → List Val
told fork holds slots = slice_set slots fork.to (Num (if holds then 1 else 0))

pub record CanTake (slots : List Val) (fork : Fork) (holds : Bool) : Type 0 where
  pub there : fork.to < length slots
  pub moves : CanMove (chosen fork holds).moves (told fork holds slots)

abbrev pub IsTaken : List ℕ → Fork → Bool → List ℕ → Way → Type 0
IsTaken before fork holds after way = GoesAlong (told fork holds (map Num before)) (chosen fork holds) after way

-- ---- an end

-- to a block: what the end stands for leads there
pub record GoesOn (before : List ℕ) (exit : NumberExit) (after : List ℕ) (is : Way) : Type 0 where
  pub slots : List Val
  pub ran : slots_after (tail_of exit) (map Num before) ≡ Some slots
  pub jump : NumberJump
  pub leads : (code : Exit) → IsExit code exit → exit_leads slots code ≡ Jumps (jump_of jump)
  pub among : Contains (jumps_of exit) jump
  pub along : GoesAlong slots jump after is

pub record Ends (before : List ℕ) (exit : NumberExit) : Type 0 where
  pub slots : List Val
  pub ran : slots_after (tail_of exit) (map Num before) ≡ Some slots
  pub ends : (code : Exit) → IsExit code exit → (result : RetVal) × (exit_leads slots code ≡ Stops (Returns result))

abbrev pub IsWay : List ℕ → NumberExit → List ℕ → Way → Type 0
IsWay before exit after (way.To to edge block) = GoesOn before exit after (way.To to edge block)
IsWay before exit after way.Returns = Ends before exit
IsWay before exit after way.Left = Unit {0}
