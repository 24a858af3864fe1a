-- What the steps of a command answer.
use Rattle.std.specs.Prelude.{◌≡◌, ℕ, ◌<◌, ◌≤◌, List, []}
use Rattle.wx_base.specs.declared.files.FetchError.{FetchError}
use Rattle.wx_base.specs.declared.files.FetchError.TheVariants as fetch
use Rattle.wx_base.specs.declared.lists.Arg.{Arg}
use Rattle.ll_tree.specs.declared.func.Func.{Func}
use Rattle.ll_reader.specs.FileSpells.{FileSpells, FileStops}
use Rattle.ll_verifier.specs.Rules.{Breaks}
use Rattle.ll_verifier.specs.Sound.{bits_of}
use Rattle.ll_verifier.specs.declared.fault.VerifyFault.{VerifyFault}
use Rattle.ll_verifier.specs.declared.fault.VerifyFault.TheVariants as faults
use Rattle.ir_runs.specs.Costs.{LabelCosts, Empty}
use Rattle.ir_runs.specs.Run.{Stuck}
use Rattle.ir_runs.specs.Walk.{widths_of}
use Rattle.command_words.specs.Arguments.{AreArguments, IsFirstBad}
use Rattle.witness_report.specs.declared.answer.Answer.{Answer}
use Rattle.witness_report.specs.declared.answer.Answer.TheVariants as answers
use Rattle.witness_report.specs.declared.answer.How.{How}
use Rattle.witness_report.specs.declared.answer.Which.{Which}
use Rattle.wcet_core.specs.Causes.{IsFault}
use Rattle.wcet_core.specs.Worst.{IsRun, IsWorst, numbers_of}
use Rattle.wcet_core.specs.declared.ended.Ended.{Ended}
use Rattle.wcet_core.specs.declared.ended.Ended.TheVariants as ended

-- what is answered where a file could not be had
abbrev pub unfetched : FetchError → Which → Answer
unfetched fetch.Failed of = answers.FetchFault of
unfetched fetch.TooLong of = answers.TooLong of
unfetched fetch.NoMemory of = answers.NoMemory

abbrev pub rejection : VerifyFault → Answer
rejection faults.NoMemory = answers.NoMemory
rejection broken = answers.Verify broken

-- why a text gives no function that keeps all rules
abbrev pub RefusesText : List ℕ → List ℕ → Answer → Type 0
RefusesText text name (answers.Read fault) = FileStops text name fault
RefusesText text name (answers.Verify fault) = (func : Func) × FileSpells text name func × Breaks func fault
RefusesText text name answers.NoMemory = Unit {0}
RefusesText text name _ = ⊥

-- why a text is no table of costs
abbrev pub RefusesTable : List ℕ → Func → Answer → Type 0
RefusesTable text func (answers.Cost fault) = IsFault text func fault
RefusesTable text func answers.NoMemory = Unit {0}
RefusesTable text func _ = ⊥

-- how a run on arguments ended
abbrev pub EndsSo : Func → LabelCosts → List Arg → Ended → Type 0
EndsSo func costs args (ended.Ran witness) = (witness.args ≡ args) × IsRun func costs witness
EndsSo func costs args (ended.Stuck block cause) = Stuck func (numbers_of args) block cause

-- what is answered of one run on the arguments that words give
abbrev pub SaysOfRun : Func → LabelCosts → List (List ℕ) → Answer → Type 0
SaysOfRun func costs words (answers.BadArgs place) = IsFirstBad (widths_of func) words place
SaysOfRun func costs words (answers.Ran witness) = AreArguments (widths_of func) words witness.args × IsRun func costs witness
SaysOfRun func costs words (answers.Undefined block cause) = (args : List Arg) × AreArguments (widths_of func) words args × Stuck func (numbers_of args) block cause
SaysOfRun func costs words _ = ⊥

-- what is answered of a trial of all arguments, if they have so many bits at most
abbrev pub SaysOfTrial : Func → LabelCosts → ℕ → How → Answer → Type 0
SaysOfTrial func costs most by (answers.TooWide bits) = (bits ≡ bits_of func) × (most < bits)
SaysOfTrial func costs most by (answers.NoRun how) = (how ≡ by) × (bits_of func ≤ most) × Empty func
SaysOfTrial func costs most by (answers.Exact witness how portions) = (how ≡ by) × (bits_of func ≤ most) × IsWorst func costs witness × (portions ≡ [])
SaysOfTrial func costs most by _ = ⊥
