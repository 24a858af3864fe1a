-- What the steps of a command answer is what the command says.
use Rattle.std.proofs.Common.{◌≡◌, ◌≤◌, ℕ, List, Option, Result, Ok, Err, refl, sym, ◌∙◌, ap, subst, inl, inr, arith}
use Rattle.std.specs.Prelude.{IsErrOf}
use Rattle.wx_base.specs.Faults.{Rose}
use Rattle.wx_base.specs.Files.{FilesView, IsTooLong, LeavesFetch, with_end}
use Rattle.wx_base.specs.declared.files.FetchError.{FetchError}
use Rattle.wx_base.specs.declared.files.FetchError.TheVariants as fetch
use Rattle.ll_tree.specs.declared.func.Func.{Func}
use Rattle.cost_table.specs.Table.{CostLists}
use Rattle.command_words.specs.Words.{JobWords, Asks}
use Rattle.witness_report.specs.declared.answer.Answer.{Answer}
use Rattle.witness_report.specs.declared.answer.Answer.TheVariants as answers
use Rattle.witness_report.specs.declared.answer.Which.TheVariants as which
use Rattle.wcet_core.specs.Accepted.{StandsUnder, IsAccepted, IsCosted, costs_of}
use Rattle.wcet_core.specs.Causes.{IsAnswer, OfFunction}
use Rattle.wcet_core.specs.Promises.{Keeps, AsksNext, AsksBoth, IsAfterFile, Says, Either}
use Rattle.wcet_core.specs.Steps.{unfetched, RefusesText, RefusesTable}
use Rattle.wcet_core.specs.declared.limits.TheConstants.{FILE_LIMIT, COSTS_LIMIT}

-- ---- moments

pub keeps_after : {T : Type 0} (old new : FilesView) (name : List ℕ) (result : Result T FetchError) → LeavesFetch old new name result → old.faults ≤ new.faults → old.taken ≤ new.taken → Keeps old new
keeps_after old new name result leaves faults taken = record {
  contents = ap (λ (v : FilesView). v.contents) leaves;
  stored = ap (λ (v : FilesView). v.stored) leaves;
  faults = faults;
  taken = taken;
}

pub keeps_nothing : (old : FilesView) → Keeps old old
keeps_nothing old = record { contents = refl; stored = refl; faults = omega arith; taken = omega arith }

pub keeps_both : (old middle new : FilesView) → Keeps old middle → Keeps middle new → Keeps old new
keeps_both old middle new first second = record {
  contents = second.contents ∙ first.contents;
  stored = second.stored ∙ first.stored;
  faults = omega (arith, first.faults, second.faults);
  taken = omega (arith, first.taken, second.taken);
}

rose_later : (before middle after : ℕ) → before ≤ middle → Rose middle after → Rose before after
rose_later before middle after later rose = omega (arith, later, rose)

failed : {T : Type 0} (result : Result T FetchError) → result ≡ Err fetch.Failed → IsErrOf result fetch.Failed
failed result is = subst (λ (r : Result _ FetchError). IsErrOf r fetch.Failed) (sym is) refl

-- the names that were asked for after an error
abbrev asked_with : FetchError → Option (List (List ℕ)) → List ℕ → Option (List (List ℕ))
asked_with fetch.Failed asked name = with_end asked name
asked_with fetch.TooLong asked name = with_end asked name
asked_with fetch.NoMemory asked name = asked

asked_of : {T : Type 0} (error : FetchError) (result : Result T FetchError) (old new : FilesView) (name : List ℕ) → result ≡ Err error → LeavesFetch old new name result → new.asked ≡ asked_with error old.asked name
asked_of fetch.Failed result old new name is leaves = ap (λ (v : FilesView). v.asked) (subst (LeavesFetch old new name) is leaves)
asked_of fetch.TooLong result old new name is leaves = ap (λ (v : FilesView). v.asked) (subst (LeavesFetch old new name) is leaves)
asked_of fetch.NoMemory result old new name is leaves = ap (λ (v : FilesView). v.asked) (subst (LeavesFetch old new name) is leaves)

pub asked_after : {T : Type 0} (result : Result T FetchError) (bytes : T) (old new : FilesView) (name : List ℕ) → result ≡ Ok bytes → LeavesFetch old new name result → AsksNext name old new
asked_after result bytes old new name is leaves = ap (λ (v : FilesView). v.asked) (subst (LeavesFetch old new name) is leaves)

-- ---- the job's file

module _ (words : List (List ℕ)) (job : JobWords) (asks : Asks words job) (old new : FilesView) where
  pub unfetched_file : {T : Type 0} (error : FetchError) (result : Result T FetchError) → result ≡ Err error → LeavesFetch old new job.file result
      → (result ≡ Err fetch.TooLong → IsTooLong old new job.file FILE_LIMIT) → (IsErrOf result fetch.Failed → Rose old.faults new.faults)
      → Says words old new (unfetched error which.File)
  unfetched_file fetch.Failed result is leaves longer rose = (rose (failed result is), (job, asks, asked_of (fetch.Failed) result old new job.file is leaves))
  unfetched_file fetch.TooLong result is leaves longer rose = (job, asks, longer is, asked_of (fetch.TooLong) result old new job.file is leaves)
  unfetched_file fetch.NoMemory result is leaves longer rose = inl (asked_of (fetch.NoMemory) result old new job.file is leaves)

  module _ (text : List ℕ) (stands : StandsUnder old.contents job.file FILE_LIMIT text) (asked : AsksNext job.file old new) where
    pub refused_text : (answer : Answer) → RefusesText text job.function answer → Says words old new answer
    refused_text (answers.Read fault) stops = ((job, text, asks, stands, stops), (job, asks, asked))
    refused_text (answers.Verify fault) (func, spells, breaks) = ((job, func, record { asks = asks; text = text; stands = stands; spells = spells }, breaks), (job, asks, asked))
    refused_text answers.NoMemory is = inr (inl (job, asks, asked))
    refused_text answers.Usage is = absurd is
    refused_text (answers.FetchFault of) is = absurd is
    refused_text (answers.TooLong of) is = absurd is
    refused_text (answers.Cost fault) is = absurd is
    refused_text (answers.Exact witness by portions) is = absurd is
    refused_text (answers.NoRun by) is = absurd is
    refused_text (answers.Ran witness) is = absurd is
    refused_text (answers.Undefined block cause) is = absurd is
    refused_text (answers.TooWide bits) is = absurd is
    refused_text (answers.BadArgs place) is = absurd is

-- ---- the job's table

module _ (words : List (List ℕ)) (job : JobWords) (old middle new : FilesView) (after : IsAfterFile job old middle) (func : Func) (is : IsAccepted words old.contents job func) where
  both : AsksNext job.costs middle new → AsksBoth job old new
  both asked = asked ∙ ap (λ (names : Option (List (List ℕ))). with_end names job.costs) after.asked

  pub unfetched_costs : {T : Type 0} (error : FetchError) (result : Result T FetchError) → result ≡ Err error → LeavesFetch middle new job.costs result
      → (result ≡ Err fetch.TooLong → IsTooLong middle new job.costs COSTS_LIMIT) → (IsErrOf result fetch.Failed → Rose middle.faults new.faults)
      → Says words old new (unfetched error which.Costs)
  unfetched_costs fetch.Failed result is_err leaves longer rose =
      (rose_later old.faults middle.faults new.faults after.keeps.faults (rose (failed result is_err)), (job, func, is, both (asked_of (fetch.Failed) result middle new job.costs is_err leaves)))
  unfetched_costs fetch.TooLong result is_err leaves longer rose =
      (job, func, is, record { middle = middle; after_file = after; too_long = longer is_err }, both (asked_of (fetch.TooLong) result middle new job.costs is_err leaves))
  unfetched_costs fetch.NoMemory result is_err leaves longer rose =
      inr (inl (job, is.spelled.asks, asked_of (fetch.NoMemory) result middle new job.costs is_err leaves ∙ after.asked))

  module _ (asked : AsksNext job.costs middle new) (text : List ℕ) (stands : StandsUnder old.contents job.costs COSTS_LIMIT text) where
    pub refused_table : (answer : Answer) → RefusesTable text func answer → Says words old new answer
    refused_table (answers.Cost fault) wrong = ((job, func, text, is, stands, wrong), (job, is.spelled.asks, both asked))
    refused_table answers.NoMemory none = inr (inr (job, is.spelled.asks, both asked))
    refused_table (answers.Read fault) none = absurd none
    refused_table (answers.Verify fault) none = absurd none
    refused_table answers.Usage none = absurd none
    refused_table (answers.FetchFault of) none = absurd none
    refused_table (answers.TooLong of) none = absurd none
    refused_table (answers.Exact witness by portions) none = absurd none
    refused_table (answers.NoRun by) none = absurd none
    refused_table (answers.Ran witness) none = absurd none
    refused_table (answers.Undefined block cause) none = absurd none
    refused_table (answers.TooWide bits) none = absurd none
    refused_table (answers.BadArgs place) none = absurd none

  module _ (asked : AsksNext job.costs middle new) (costs : CostLists) (costed : IsCosted words old.contents job func costs) where
    of_function : (answer : Answer) → IsAnswer job func (costs_of func costs) answer → OfFunction words old.contents answer
    of_function answer is = (job, func, costs, costed, is)

    answered : (answer : Answer) → IsAnswer job func (costs_of func costs) answer → Says words old new answer
    answered (answers.Exact witness by portions) so = (of_function (answers.Exact witness by portions) so, (job, is.spelled.asks, both asked))
    answered (answers.NoRun by) so = (of_function (answers.NoRun by) so, (job, is.spelled.asks, both asked))
    answered (answers.Ran witness) so = (of_function (answers.Ran witness) so, (job, is.spelled.asks, both asked))
    answered (answers.Undefined block cause) so = (of_function (answers.Undefined block cause) so, (job, is.spelled.asks, both asked))
    answered (answers.TooWide bits) so = (of_function (answers.TooWide bits) so, (job, is.spelled.asks, both asked))
    answered (answers.BadArgs place) so = (of_function (answers.BadArgs place) so, (job, is.spelled.asks, both asked))
    answered answers.Usage so = absurd so
    answered (answers.FetchFault of) so = absurd so
    answered (answers.TooLong of) so = absurd so
    answered (answers.Read fault) so = absurd so
    answered (answers.Verify fault) so = absurd so
    answered (answers.Cost fault) so = absurd so
    answered answers.NoMemory so = absurd so

    pub said_work : (answer : Answer) → Either (IsAnswer job func (costs_of func costs) answer) answer → Says words old new answer
    said_work answer (inl so) = answered answer so
    said_work answer (inr none) = subst (Says words old new) (sym none) (inr (inr (job, is.spelled.asks, both asked)))
