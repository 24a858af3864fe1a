use Rattle.std.proofs.Common.{◌≡◌, drop}
use Rattle.ir_runner.specs.Leads.{case_jump}
use Rattle.ir_runner.proofs.block.case_jump.Given as goal

abbrev pub invariant-loop-case : goal.invariant-loop-case
invariant-loop-case l = case_jump l.number l.default (drop l.case-index l.cases) ≡ case_jump l.number l.default l.cases
