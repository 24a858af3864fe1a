-- The status that `wcet` ends with.
use Rattle.std.specs.Prelude.{ℕ}
use Rattle.witness_report.specs.declared.answer.Answer.{Answer}
use Rattle.witness_report.specs.declared.answer.Answer.TheVariants as answer
use Rattle.witness_report.specs.declared.outcome.Outcome.{Outcome}
use Rattle.witness_report.specs.declared.outcome.Written.{Written}
use Rattle.witness_report.specs.declared.outcome.Written.TheVariants as written

abbrev pub answer_status : Answer → ℕ
answer_status (answer.Exact witness how portions) = 0
answer_status (answer.NoRun how) = 0
answer_status (answer.Ran witness) = 0
answer_status (answer.Undefined block cause) = 0
answer_status answer.Usage = 2
answer_status (answer.FetchFault of) = 5
answer_status (answer.TooLong of) = 1
answer_status (answer.Read fault) = 1
answer_status (answer.Verify fault) = 1
answer_status (answer.Cost fault) = 1
answer_status (answer.TooWide bits) = 1
answer_status (answer.BadArgs place) = 1
answer_status answer.NoMemory = 6

-- the status of a text that was written this far
abbrev pub written_status : Written → ℕ → ℕ
written_status written.Full status = status
written_status written.Failed status = 5
written_status written.NoMemory status = 6

abbrev pub status_of : Outcome → ℕ
status_of outcome = written_status outcome.written (answer_status outcome.answer)
