-- What a trial and a run answer is what a job asks for.
use Rattle.std.proofs.Common.{◌≡◌, ◌<◌, ◌≤◌, ℕ, sym, subst}
use Rattle.ll_tree.specs.declared.func.Func.{Func}
use Rattle.ll_verifier.specs.Sound.{bits_of}
use Rattle.ir_runs.specs.Costs.{LabelCosts}
use Rattle.command_words.specs.Words.{JobWords}
use Rattle.command_words.specs.declared.job.Command.{Command}
use Rattle.command_words.specs.declared.job.Command.TheVariants.{Analyse, Run, Brute}
use Rattle.witness_report.specs.declared.answer.Answer.{Answer}
use Rattle.witness_report.specs.declared.answer.Answer.TheVariants as answers
use Rattle.witness_report.specs.declared.answer.How.{How}
use Rattle.witness_report.specs.declared.answer.How.TheVariants as how
use Rattle.wcet_core.specs.Causes.{IsTried, AreTooMany, IsAnswer}
use Rattle.wcet_core.specs.Steps.{SaysOfRun, SaysOfTrial}
use Rattle.wcet_core.specs.declared.limits.TheConstants.{TRIAL_BITS, BRUTE_BITS}

module _ (job : JobWords) (func : Func) (costs : LabelCosts) where
  of_trial : (most : ℕ) (by : How) → ((bits : ℕ) → bits ≤ most → IsTried job.command bits by) → ((bits : ℕ) → most < bits → AreTooMany job.command bits)
      → (answer : Answer) → SaysOfTrial func costs most by answer → IsAnswer job func costs answer
  of_trial most by tried many (answers.TooWide bits) (is, more) = (is, many bits more)
  of_trial most by tried many (answers.NoRun way) (is, few, empty) = (subst (IsTried job.command (bits_of func)) (sym is) (tried (bits_of func) few), empty)
  of_trial most by tried many (answers.Exact witness way portions) (is, few, worst, none) = (subst (IsTried job.command (bits_of func)) (sym is) (tried (bits_of func) few), worst, none)
  of_trial most by tried many (answers.Ran witness) is = absurd is
  of_trial most by tried many (answers.Undefined block cause) is = absurd is
  of_trial most by tried many (answers.BadArgs place) is = absurd is
  of_trial most by tried many answers.Usage is = absurd is
  of_trial most by tried many (answers.FetchFault of) is = absurd is
  of_trial most by tried many (answers.TooLong of) is = absurd is
  of_trial most by tried many (answers.Read fault) is = absurd is
  of_trial most by tried many (answers.Verify fault) is = absurd is
  of_trial most by tried many (answers.Cost fault) is = absurd is
  of_trial most by tried many answers.NoMemory is = absurd is

  pub analysed : job.command ≡ Analyse → (answer : Answer) → SaysOfTrial func costs TRIAL_BITS how.Trial answer → IsAnswer job func costs answer
  analysed is = of_trial TRIAL_BITS how.Trial
      (λ bits few. subst (λ (c : Command). IsTried c bits how.Trial) (sym is) few)
      (λ bits more. subst (λ (c : Command). AreTooMany c bits) (sym is) more)

  pub brute_forced : job.command ≡ Brute → (answer : Answer) → SaysOfTrial func costs BRUTE_BITS how.Brute answer → IsAnswer job func costs answer
  brute_forced is = of_trial BRUTE_BITS how.Brute
      (λ bits few. subst (λ (c : Command). IsTried c bits how.Brute) (sym is) few)
      (λ bits more. subst (λ (c : Command). AreTooMany c bits) (sym is) more)

  pub ran : job.command ≡ Run → (answer : Answer) → SaysOfRun func costs job.arguments answer → IsAnswer job func costs answer
  ran is (answers.BadArgs place) first = (is, first)
  ran is (answers.Ran witness) (are, run) = (is, are, run)
  ran is (answers.Undefined block cause) (args, are, stuck) = (is, (args, are, stuck))
  ran is (answers.Exact witness way portions) so = absurd so
  ran is (answers.NoRun way) so = absurd so
  ran is (answers.TooWide bits) so = absurd so
  ran is answers.Usage so = absurd so
  ran is (answers.FetchFault of) so = absurd so
  ran is (answers.TooLong of) so = absurd so
  ran is (answers.Read fault) so = absurd so
  ran is (answers.Verify fault) so = absurd so
  ran is (answers.Cost fault) so = absurd so
  ran is answers.NoMemory so = absurd so
