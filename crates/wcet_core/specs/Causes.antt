-- What in the words and in the files' contents each answer is given for.
use Rattle.std.specs.Prelude.{◌≡◌, ◌≢◌, ℕ, ◌<◌, ◌≤◌, List, []}
use Rattle.wx_base.specs.declared.lists.Arg.{Arg}
use Rattle.wx_base.specs.Files.{Contents, AreLonger}
use Rattle.ll_tree.specs.declared.func.Func.{Func}
use Rattle.ll_reader.specs.FileSpells.{FileStops}
use Rattle.ll_verifier.specs.Rules.{Breaks}
use Rattle.ll_verifier.specs.Sound.{bits_of}
use Rattle.cost_table.specs.Table.{CostLists}
use Rattle.cost_table.specs.declared.costs.CostFault.{CostFault}
use Rattle.cost_table.specs.declared.costs.CostFault.TheVariants as faults
use Rattle.sound_costs.specs.Costs.{IsCauseOf}
use Rattle.ir_runs.specs.Costs.{LabelCosts, Empty}
use Rattle.ir_runs.specs.Run.{Stuck}
use Rattle.ir_runs.specs.Walk.{widths_of}
use Rattle.command_words.specs.Words.{JobWords, Asks}
use Rattle.command_words.specs.Arguments.{AreArguments, IsFirstBad}
use Rattle.command_words.specs.declared.job.Command.{Command}
use Rattle.command_words.specs.declared.job.Command.TheVariants.{Analyse, Run, Brute}
use Rattle.witness_report.specs.declared.answer.Answer.{Answer}
use Rattle.witness_report.specs.declared.answer.Answer.TheVariants as answers
use Rattle.witness_report.specs.declared.answer.How.{How}
use Rattle.witness_report.specs.declared.answer.How.TheVariants as how
use Rattle.witness_report.specs.declared.answer.Which.TheVariants as which
use Rattle.wcet_core.specs.Accepted.{StandsUnder, IsSpelled, IsAccepted, IsCosted, costs_of}
use Rattle.wcet_core.specs.Worst.{IsRun, IsWorst, numbers_of}
use Rattle.wcet_core.specs.declared.limits.TheConstants.{FILE_LIMIT, COSTS_LIMIT, TRIAL_BITS, BRUTE_BITS}

-- why the text is no table of costs of the function
abbrev pub IsFault : List ℕ → Func → CostFault → Type 0
IsFault text func fault = (fault ≢ faults.NoMemory) × IsCauseOf text func fault

-- all arguments of so many bits are tried, and so it is told
abbrev pub IsTried : Command → ℕ → How → Type 0
IsTried Analyse bits how.Trial = bits ≤ TRIAL_BITS
IsTried Analyse bits how.Brute = ⊥
IsTried Run bits by = ⊥
IsTried Brute bits how.Trial = ⊥
IsTried Brute bits how.Brute = bits ≤ BRUTE_BITS

-- they are too many to be tried
abbrev pub AreTooMany : Command → ℕ → Type 0
AreTooMany Analyse bits = TRIAL_BITS < bits
AreTooMany Run bits = ⊥
AreTooMany Brute bits = BRUTE_BITS < bits

-- what is answered of a job's function with these costs
abbrev pub IsAnswer : JobWords → Func → LabelCosts → Answer → Type 0
IsAnswer job func costs (answers.Exact witness by portions) = IsTried job.command (bits_of func) by × IsWorst func costs witness × (portions ≡ [])
IsAnswer job func costs (answers.NoRun by) = IsTried job.command (bits_of func) by × Empty func
IsAnswer job func costs (answers.Ran witness) = (job.command ≡ Run) × AreArguments (widths_of func) job.arguments witness.args × IsRun func costs witness
IsAnswer job func costs (answers.Undefined block cause) = (job.command ≡ Run) × ((args : List Arg) × AreArguments (widths_of func) job.arguments args × Stuck func (numbers_of args) block cause)
IsAnswer job func costs (answers.TooWide bits) = (bits ≡ bits_of func) × AreTooMany job.command bits
IsAnswer job func costs (answers.BadArgs place) = (job.command ≡ Run) × IsFirstBad (widths_of func) job.arguments place
IsAnswer job func costs _ = ⊥

-- the words ask for a job whose function has these costs, and this is answered of it
abbrev pub OfFunction : List (List ℕ) → Contents → Answer → Type 0
OfFunction words contents answer =
    (job : JobWords) × (func : Func) × (costs : CostLists) × IsCosted words contents job func costs × IsAnswer job func (costs_of func costs) answer

-- Why this is answered. A fault of the outside and want of memory have no cause in what words and files hold.
abbrev pub Cause : List (List ℕ) → Contents → Answer → Type 0
Cause words contents answers.Usage = (job : JobWords) → ¬ Asks words job
Cause words contents (answers.TooLong which.File) = (job : JobWords) × Asks words job × AreLonger contents job.file FILE_LIMIT
Cause words contents (answers.TooLong which.Costs) = (job : JobWords) × (func : Func) × IsAccepted words contents job func × AreLonger contents job.costs COSTS_LIMIT
Cause words contents (answers.TooLong which.Proof) = ⊥
Cause words contents (answers.Read fault) = (job : JobWords) × (text : List ℕ) × Asks words job × StandsUnder contents job.file FILE_LIMIT text × FileStops text job.function fault
Cause words contents (answers.Verify fault) = (job : JobWords) × (func : Func) × IsSpelled words contents job func × Breaks func fault
Cause words contents (answers.Cost fault) = (job : JobWords) × (func : Func) × (text : List ℕ) × IsAccepted words contents job func × StandsUnder contents job.costs COSTS_LIMIT text × IsFault text func fault
Cause words contents (answers.FetchFault of) = ⊥
Cause words contents answers.NoMemory = ⊥
Cause words contents (answers.Exact witness by portions) = OfFunction words contents (answers.Exact witness by portions)
Cause words contents (answers.NoRun by) = OfFunction words contents (answers.NoRun by)
Cause words contents (answers.Ran witness) = OfFunction words contents (answers.Ran witness)
Cause words contents (answers.Undefined block cause) = OfFunction words contents (answers.Undefined block cause)
Cause words contents (answers.TooWide bits) = OfFunction words contents (answers.TooWide bits)
Cause words contents (answers.BadArgs place) = OfFunction words contents (answers.BadArgs place)
