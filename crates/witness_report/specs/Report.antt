-- What `wcet` prints for an answer.
use Rattle.std.specs.Prelude.{ℕ, List, [], ◌∷◌, ◌++◌, codes, Option, Some, None}
use Rattle.std.specs.List.{flat_map}
use Rattle.std.specs.Fmt.{decimal}
use Rattle.ir_runs.specs.declared.ret_val.RetVal.{RetVal}
use Rattle.witness_report.specs.Parts.{line, spaced, spaced_arg, spaced_name, spaced_value}
use Rattle.witness_report.specs.Refusals.{read_text, verify_text, cost_text}
use Rattle.witness_report.specs.declared.answer.How.{How}
use Rattle.witness_report.specs.declared.answer.How.TheVariants as how
use Rattle.witness_report.specs.declared.answer.Which.{Which}
use Rattle.witness_report.specs.declared.answer.Which.TheVariants as which
use Rattle.ir_runs.specs.declared.undefined.UndefinedCause.{UndefinedCause}
use Rattle.ir_runs.specs.declared.undefined.UndefinedCause.TheVariants.{PoisonBranch, PoisonSwitch, PoisonReturn, Unreachable, PoisonArgument, FalseAssume}
use Rattle.witness_report.specs.declared.answer.Witness.{Witness}
use Rattle.witness_report.specs.declared.answer.PortionBound.{PortionBound}
use Rattle.witness_report.specs.declared.answer.Answer.{Answer}
use Rattle.witness_report.specs.declared.answer.Answer.TheVariants as answer

abbrev pub how_word : How → List ℕ
how_word how.Trial = codes "trial"
how_word how.Brute = codes "brute"

abbrev pub which_word : Which → List ℕ
which_word which.File = codes "file"
which_word which.Costs = codes "costs"
which_word which.Proof = codes "proof"

abbrev pub cause_word : UndefinedCause → List ℕ
cause_word PoisonBranch = codes "poison-branch"
cause_word PoisonSwitch = codes "poison-switch"
cause_word PoisonReturn = codes "poison-return"
cause_word Unreachable = codes "unreachable"
cause_word PoisonArgument = codes "poison-argument"
cause_word FalseAssume = codes "false-assume"

-- the path and the result of a run
unfoldable pub run_text : List (List ℕ) → RetVal → List ℕ
run_text path result = line (codes "path" ++ flat_map spaced_name path) ++ line (codes "result" ++ spaced_value result)

-- where a portion ends: at a block, or at the end of the function
abbrev pub end_text : Option (List ℕ) → List ℕ
end_text None = codes " -"
end_text (Some name) = spaced_name name

unfoldable pub portion_text : PortionBound → List ℕ
portion_text portion = line (codes "portion" ++ (spaced_name portion.from ++ (end_text portion.to ++ spaced (decimal portion.bound))))

unfoldable pub exact_text : Witness → How → List PortionBound → List ℕ
exact_text witness by portions =
    line (codes "exact " ++ decimal witness.cost)
    ++ (line (codes "args" ++ flat_map spaced_arg witness.args)
    ++ (run_text witness.path witness.result
    ++ (line (codes "method " ++ how_word by)
    ++ flat_map portion_text portions)))

unfoldable pub ran_text : Witness → List ℕ
ran_text witness = line (codes "ran " ++ decimal witness.cost) ++ run_text witness.path witness.result

unfoldable pub none_text : How → List ℕ
none_text by = line (codes "none") ++ line (codes "method " ++ how_word by)

unfoldable pub usage_text : List ℕ
usage_text =
    line (codes "usage: wcet analyse FUNCTION FILE COSTS")
    ++ (line (codes "usage: wcet run FUNCTION FILE COSTS ARG..")
    ++ line (codes "usage: wcet brute FUNCTION FILE COSTS"))

-- what is printed
abbrev pub answer_text : Answer → List ℕ
answer_text (answer.Exact witness by portions) = exact_text witness by portions
answer_text (answer.NoRun by) = none_text by
answer_text (answer.Ran witness) = ran_text witness
answer_text (answer.Undefined block cause) = line (codes "undefined" ++ (spaced_name block ++ spaced (cause_word cause)))
answer_text answer.Usage = usage_text
answer_text (answer.FetchFault of) = line (codes "fault read " ++ which_word of)
answer_text (answer.TooLong of) = line (codes "refused too-long " ++ which_word of)
answer_text (answer.Read fault) = read_text fault
answer_text (answer.Verify fault) = verify_text fault
answer_text (answer.Cost fault) = cost_text fault
answer_text (answer.TooWide bits) = line (codes "refused too-wide " ++ decimal bits)
answer_text (answer.BadArgs place) = line (codes "refused bad-args " ++ decimal place)
answer_text answer.NoMemory = []
