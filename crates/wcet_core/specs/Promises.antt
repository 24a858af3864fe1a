-- What a call promises: of the words, and of files and sink before and after it.
use Rattle.std.specs.Prelude.{◌≡◌, ◌⊎◌, ℕ, ◌≤◌, List, take, length, Option, Some}
use Rattle.wx_base.specs.Faults.{Rose}
use Rattle.wx_base.specs.Files.{FilesView, IsTooLong, with_end}
use Rattle.wx_base.specs.Sink.{SinkView, written_with}
use Rattle.ll_tree.specs.declared.func.Func.{Func}
use Rattle.ll_verifier.specs.Answer.{pinned}
use Rattle.cost_table.specs.Table.{CostLists}
use Rattle.command_words.specs.Words.{JobWords, Asks}
use Rattle.witness_report.specs.declared.answer.Answer.{Answer}
use Rattle.witness_report.specs.declared.answer.Answer.TheVariants as answers
use Rattle.witness_report.specs.declared.answer.Which.TheVariants as which
use Rattle.witness_report.specs.declared.outcome.Written.{Written}
use Rattle.witness_report.specs.declared.outcome.Written.TheVariants as written
use Rattle.wcet_core.specs.Accepted.{IsAccepted, IsCosted, costs_of}
use Rattle.wcet_core.specs.Causes.{Cause, IsAnswer}
use Rattle.wcet_core.specs.declared.limits.TheConstants.{FILE_LIMIT, COSTS_LIMIT}

-- ---- two moments of the files

-- nothing was stored, and neither count fell
pub record Keeps (old new : FilesView) : Type 0 where
  pub contents : new.contents ≡ old.contents
  pub stored : new.stored ≡ old.stored
  pub faults : old.faults ≤ new.faults
  pub taken : old.taken ≤ new.taken

-- no name was asked for
abbrev pub AsksNothing : FilesView → FilesView → Type 0
AsksNothing old new = new.asked ≡ old.asked

-- this name was asked for, and no other
abbrev pub AsksNext : List ℕ → FilesView → FilesView → Type 0
AsksNext name old new = new.asked ≡ with_end old.asked name

-- the job's file was asked for, and then its table
abbrev pub AsksBoth : JobWords → FilesView → FilesView → Type 0
AsksBoth job old new = new.asked ≡ with_end (with_end old.asked job.file) job.costs

abbrev pub AsksFile : List (List ℕ) → FilesView → FilesView → Type 0
AsksFile words old new = (job : JobWords) × Asks words job × AsksNext job.file old new

abbrev pub AsksAll : List (List ℕ) → FilesView → FilesView → Type 0
AsksAll words old new = (job : JobWords) × Asks words job × AsksBoth job old new

-- the moment after the job's file was taken
pub record IsAfterFile (job : JobWords) (old middle : FilesView) : Type 0 where
  pub keeps : Keeps old middle
  pub asked : AsksNext job.file old middle

-- the table is longer than its limit, from the moment on after the file was taken
pub record IsLongTable (job : JobWords) (old new : FilesView) : Type 0 where
  pub middle : FilesView
  pub after_file : IsAfterFile job old middle
  pub too_long : IsTooLong middle new job.costs COSTS_LIMIT

-- ---- answers

-- What an answer says of the words, of what the files told, and of what was asked of them.
abbrev pub Says : List (List ℕ) → FilesView → FilesView → Answer → Type 0
Says words old new answers.Usage = Cause words old.contents answers.Usage × AsksNothing old new
Says words old new (answers.FetchFault which.File) = Rose old.faults new.faults × AsksFile words old new
Says words old new (answers.FetchFault which.Costs) = Rose old.faults new.faults × ((job : JobWords) × (func : Func) × IsAccepted words old.contents job func × AsksBoth job old new)
Says words old new (answers.FetchFault which.Proof) = ⊥
Says words old new (answers.TooLong which.File) = (job : JobWords) × Asks words job × IsTooLong old new job.file FILE_LIMIT × AsksNext job.file old new
Says words old new (answers.TooLong which.Costs) = (job : JobWords) × (func : Func) × IsAccepted words old.contents job func × IsLongTable job old new × AsksBoth job old new
Says words old new (answers.TooLong which.Proof) = ⊥
Says words old new (answers.Read fault) = Cause words old.contents (answers.Read fault) × AsksFile words old new
Says words old new (answers.Verify fault) = Cause words old.contents (answers.Verify fault) × AsksFile words old new
Says words old new answers.NoMemory = AsksNothing old new ⊎ (AsksFile words old new ⊎ AsksAll words old new)
Says words old new answer = Cause words old.contents answer × AsksAll words old new

-- ---- told contents decide the answer

-- an answer without what is free in it: the cycle and the path of a function that is refused
abbrev pub pinned_answer : Answer → Answer
pinned_answer (answers.Verify fault) = answers.Verify (pinned fault)
pinned_answer answer = answer

-- this is answered, unless memory is wanting
abbrev pub Either : Type 0 → Answer → Type 0
Either P answer = P ⊎ (answer ≡ answers.NoMemory)

-- Where the files tell their contents and didn't fail, what they hold decides the answer: it is the one that has a
-- cause, and one of its function where they give a function and its costs.
pub record IsDecided (words : List (List ℕ)) (old : FilesView) (answer : Answer) : Type 0 where
  pub same : (other : Answer) → Cause words old.contents other → Either (pinned_answer answer ≡ pinned_answer other) answer
  pub ends : (job : JobWords) (func : Func) (costs : CostLists) → IsCosted words old.contents job func costs → Either (IsAnswer job func (costs_of func costs) answer) answer

abbrev pub Decides : List (List ℕ) → FilesView → FilesView → Answer → Type 0
Decides words old new answer = (contents : List ℕ → Option (List ℕ)) → old.contents ≡ Some contents → ¬ Rose old.faults new.faults → IsDecided words old answer

-- ---- the sink

-- Where the sink failed, a front of the text was written; where memory was wanting, nothing.
abbrev pub WritesText : SinkView → SinkView → List ℕ → Written → Type 0
WritesText old new text written.Full = new.written ≡ written_with old.written text
WritesText old new text written.Failed = (n : ℕ) × (n ≤ length text) × (new.written ≡ written_with old.written (take n text))
WritesText old new text written.NoMemory = new.written ≡ old.written
