use Rattle.std.proofs.Common.{◌≡◌, ◌++◌, map, drop}
use Rattle.ll_flow.specs.Paths.{label_of}
use Rattle.ir_runner.specs.Code.{case_code}
use Rattle.ir_runner.proofs.lower.cases_of.Given as goal

abbrev pub invariant-loop-item : goal.invariant-loop-item
invariant-loop-item l =
    l.list ++ map (case_code l.sound.func (label_of l.sound.func l.from.0)) (drop l.item l.cases) ≡ map (case_code l.sound.func (label_of l.sound.func l.from.0)) l.cases
