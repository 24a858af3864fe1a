use Rattle.std.proofs.Common.{◌≡◌, drop}
use Rattle.number_runner.specs.Ways.{case_jump}
use Rattle.number_runner.proofs.leave.case_jump.Given as goal

abbrev pub invariant-loop-case : goal.invariant-loop-case
invariant-loop-case l = case_jump l.number l.default (drop l.case-index l.cases) ≡ case_jump l.number l.default l.cases
