-- Where the terminator of a block leads.
use Rattle.std.specs.Prelude.{◌≡◌, ℕ, ◌==◌, Bool, List, map, if◌then◌else◌}
use Rattle.std.specs.Option.{unwrap_or}
use Rattle.std.specs.Map.{lookup}
use Rattle.ir_meaning.specs.declared.value.Val.{Val}
use Rattle.ir_meaning.specs.declared.value.Val.TheVariants.{Poison, Num}
use Rattle.ir_meaning.specs.Value.{on_number}
use Rattle.ir_runs.specs.Values.{ranged}
use Rattle.ir_runs.specs.Walk as walk
use Rattle.ir_runs.specs.Walk.{give}
use Rattle.ir_runs.specs.declared.ret_val.RetVal.TheVariants as ret
use Rattle.ir_runs.specs.declared.undefined.UndefinedCause.TheVariants as cause
use Rattle.ir_runner.specs.declared.block.Next.{Next}
use Rattle.ir_runner.specs.declared.block.Next.TheVariants as next
use Rattle.ir_runner.specs.declared.code.CaseCode.{CaseCode}
use Rattle.ir_runner.specs.declared.code.Jump.{Jump}
use Rattle.ir_runner.specs.declared.code.Exit.{Exit}
use Rattle.ir_runner.specs.declared.code.Exit.TheVariants as exit
use Rattle.ir_runner.specs.Slots.{slot_value, IsThere}

-- along an edge, or to an end
pub data Leads : Type 0 where
  Jumps : Jump → Leads
  Stops : walk.Step → Leads

-- a branch goes along its first edge on 1, along its second on 0, and on poison nowhere
abbrev pub branch_leads : Jump → Jump → Val → Leads
branch_leads on_one on_zero Poison = Stops (walk.Fails cause.PoisonBranch)
branch_leads on_one on_zero (Num n) = Jumps (if n == 1 then on_one else on_zero)

-- the edge of the first case with the number, else the default
abbrev pub case_jump : ℕ → Jump → List CaseCode → Jump
case_jump n default cases = unwrap_or (lookup (λ value. value == n) (map (λ case. (case.value, case.jump)) cases)) default

abbrev pub switch_leads : Jump → List CaseCode → Val → Leads
switch_leads default cases Poison = Stops (walk.Fails cause.PoisonSwitch)
switch_leads default cases (Num n) = Jumps (case_jump n default cases)

abbrev pub give_leads : Bool → ℕ → Val → Leads
give_leads noundef width val = Stops (give noundef width val)

abbrev pub exit_leads : List Val → Exit → Leads
exit_leads slots exit.RetVoid = Stops (walk.Returns ret.Void)
exit_leads slots (exit.Ret width noundef range value) = give_leads noundef width (on_number (ranged range) (slot_value slots value))
exit_leads slots (exit.Br jump) = Jumps jump
exit_leads slots (exit.CondBr cond on_one on_zero) = branch_leads on_one on_zero (slot_value slots cond)
exit_leads slots (exit.Switch value default cases) = switch_leads default cases (slot_value slots value)
exit_leads slots exit.Unreachable = Stops (walk.Fails cause.Unreachable)

-- its operand is there
abbrev pub CanExit : List Val → Exit → Type 0
CanExit slots exit.RetVoid = Unit {0}
CanExit slots (exit.Ret width noundef range value) = IsThere slots value
CanExit slots (exit.Br jump) = Unit {0}
CanExit slots (exit.CondBr cond on_one on_zero) = IsThere slots cond
CanExit slots (exit.Switch value default cases) = IsThere slots value
CanExit slots exit.Unreachable = Unit {0}

-- the answer says that
abbrev pub IsLed : Leads → Next → Type 0
IsLed leads (next.To jump) = leads ≡ Jumps jump.now
IsLed leads (next.Returns result) = leads ≡ Stops (walk.Returns result)
IsLed leads (next.Fails why) = leads ≡ Stops (walk.Fails why)
