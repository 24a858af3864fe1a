-- A function with its costs has one answer to a job.
use Rattle.std.proofs.Common.{◌≡◌, ◌⊎◌, ℕ, List, [], Some, refl, sym, ◌∙◌, ap, subst, inl, inr, arith}
use Rattle.wx_base.specs.Args.{AreArguments as AreNumbers}
use Rattle.wx_base.specs.declared.lists.Arg.{Arg}
use Rattle.ll_tree.specs.declared.func.Func.{Func}
use Rattle.ll_reader.specs.FileSpells.{FileSpells, FileStops}
use Rattle.ll_reader.specs.declared.fault.ReadFault.{ReadFault}
use Rattle.ll_verifier.specs.Answer.{pinned}
use Rattle.ll_verifier.specs.Rules.{Rules, Breaks}
use Rattle.ll_verifier.specs.Sound.{bits_of}
use Rattle.ll_verifier.specs.declared.fault.VerifyFault.{VerifyFault}
use Rattle.cost_table.specs.Table.{CostLists}
use Rattle.cost_table.specs.declared.costs.CostFault.{CostFault}
use Rattle.sound_costs.specs.Costs.{IsTableOf}
use Rattle.ir_runs.specs.Costs.{LabelCosts}
use Rattle.ir_runs.specs.Run.{Stuck, EndsOnce}
use Rattle.ir_runs.specs.Walk.{widths_of}
use Rattle.ir_runs.specs.declared.undefined.UndefinedCause.{UndefinedCause}
use Rattle.command_words.specs.Words.{JobWords}
use Rattle.command_words.specs.Arguments.{AreArguments, IsFirstBad}
use Rattle.command_words.specs.declared.job.Command.{Command}
use Rattle.command_words.specs.declared.job.Command.TheVariants.{Analyse, Run, Brute}
use Rattle.witness_report.specs.declared.answer.Answer.{Answer}
use Rattle.witness_report.specs.declared.answer.Answer.TheVariants as answers
use Rattle.witness_report.specs.declared.answer.How.{How}
use Rattle.witness_report.specs.declared.answer.How.TheVariants as how
use Rattle.witness_report.specs.declared.answer.PortionBound.{PortionBound}
use Rattle.witness_report.specs.declared.answer.Witness.{Witness}
use Rattle.wcet_core.specs.Causes.{IsFault, IsTried, AreTooMany, IsAnswer}
use Rattle.wcet_core.specs.Worst.{IsRun, numbers_of}
use Rattle.wcet_core.proofs.JobLaws.{AreNarrow, one_arguments, not_bad, one_place}
use Rattle.wcet_core.proofs.RunLaws.{one_end, not_both, same_run, one_worst, not_empty}

-- What the crates below say of one answer each.
pub record Laws : Type 0 where
  pub one_func : (text name : List ℕ) (one other : Func) → FileSpells text name one → FileSpells text name other → one ≡ other
  pub one_stop : (text name : List ℕ) (one other : ReadFault) → FileStops text name one → FileStops text name other → one ≡ other
  pub no_stop : (text name : List ℕ) (func : Func) (fault : ReadFault) → FileSpells text name func → FileStops text name fault → ⊥
  pub one_break : (func : Func) (one other : VerifyFault) → Breaks func one → Breaks func other → pinned one ≡ pinned other
  pub no_break : (func : Func) (fault : VerifyFault) → Breaks func fault → ¬ Rules func
  pub one_table : (text : List ℕ) (func : Func) (one other : CostLists) → Rules func → IsTableOf text func one → IsTableOf text func other → one ≡ other
  pub one_fault : (text : List ℕ) (func : Func) (one other : CostFault) → Rules func → IsFault text func one → IsFault text func other → one ≡ other
  pub no_fault : (text : List ℕ) (func : Func) (costs : CostLists) (fault : CostFault) → Rules func → IsTableOf text func costs → IsFault text func fault → ⊥
  pub ends : (func : Func) (args : List ℕ) → Rules func → AreNumbers (widths_of func) args → EndsOnce func args
  pub narrow : (func : Func) → Rules func → AreNarrow (widths_of func)

same_some : {A : Type 0} (x y : A) → Some x ≡ Some y → x ≡ y
same_some x y e = cc

-- ---- answers of a function with its costs

abbrev IsTrial : JobWords → Func → LabelCosts → Answer → Type 0
IsTrial job func costs answer =
    ((bits : ℕ) × (answer ≡ answers.TooWide bits) × (bits ≡ bits_of func) × AreTooMany job.command bits)
    ⊎ (((by : How) × (answer ≡ answers.NoRun by) × IsAnswer job func costs (answers.NoRun by))
    ⊎ ((witness : Witness) × (by : How) × (answer ≡ answers.Exact witness by []) × IsAnswer job func costs (answers.Exact witness by [])))

abbrev IsOfRun : JobWords → Func → LabelCosts → Answer → Type 0
IsOfRun job func costs answer =
    ((place : ℕ) × (answer ≡ answers.BadArgs place) × IsFirstBad (widths_of func) job.arguments place)
    ⊎ (((witness : Witness) × (answer ≡ answers.Ran witness) × IsAnswer job func costs (answers.Ran witness))
    ⊎ ((block : List ℕ) × (cause : UndefinedCause) × (answer ≡ answers.Undefined block cause) × IsAnswer job func costs (answers.Undefined block cause)))

kinds : (job : JobWords) (func : Func) (costs : LabelCosts) (answer : Answer) → IsAnswer job func costs answer → IsTrial job func costs answer ⊎ ((job.command ≡ Run) × IsOfRun job func costs answer)
kinds job func costs (answers.Exact witness by portions) (tried, worst, none) = inl (inr (inr (witness, by, ap (λ (ps : List PortionBound). answers.Exact witness by ps) none, (tried, worst, refl))))
kinds job func costs (answers.NoRun by) is = inl (inr (inl (by, refl, is)))
kinds job func costs (answers.Ran witness) is = inr (is.0, inr (inl (witness, refl, is)))
kinds job func costs (answers.Undefined block cause) is = inr (is.0, inr (inr (block, cause, refl, is)))
kinds job func costs (answers.TooWide bits) is = inl (inl (bits, refl, is.0, is.1))
kinds job func costs (answers.BadArgs place) is = inr (is.0, inl (place, refl, is.1))
kinds job func costs answers.Usage is = absurd is
kinds job func costs (answers.FetchFault of) is = absurd is
kinds job func costs (answers.TooLong of) is = absurd is
kinds job func costs (answers.Read fault) is = absurd is
kinds job func costs (answers.Verify fault) is = absurd is
kinds job func costs (answers.Cost fault) is = absurd is
kinds job func costs answers.NoMemory is = absurd is

one_how : (command : Command) (bits : ℕ) (one other : How) → IsTried command bits one → IsTried command bits other → one ≡ other
one_how Analyse bits how.Trial how.Trial is also = refl
one_how Analyse bits how.Trial how.Brute is also = absurd also
one_how Analyse bits how.Brute other is also = absurd is
one_how Run bits one other is also = absurd is
one_how Brute bits how.Trial other is also = absurd is
one_how Brute bits how.Brute how.Trial is also = absurd also
one_how Brute bits how.Brute how.Brute is also = refl

not_tried : (command : Command) (bits : ℕ) (by : How) → IsTried command bits by → AreTooMany command bits → ⊥
not_tried Analyse bits how.Trial is many = omega (arith, is, many)
not_tried Analyse bits how.Brute is many = is
not_tried Run bits by is many = is
not_tried Brute bits how.Trial is many = is
not_tried Brute bits how.Brute is many = omega (arith, is, many)

tried_no_run : (command : Command) (bits : ℕ) (by : How) → IsTried command bits by → command ≡ Run → ⊥
tried_no_run command bits by is run = subst (λ (c : Command). IsTried c bits by) run is

many_no_run : (command : Command) (bits : ℕ) → AreTooMany command bits → command ≡ Run → ⊥
many_no_run command bits is run = subst (λ (c : Command). AreTooMany c bits) run is

module _ (laws : Laws) (job : JobWords) (func : Func) (rules : Rules func) (costs : LabelCosts) where
  abbrev ends_here : (args : List ℕ) → AreNumbers (widths_of func) args → EndsOnce func args
  ends_here args are = laws.ends func args rules are

  trial_no_run : (answer : Answer) → IsTrial job func costs answer → job.command ≡ Run → ⊥
  trial_no_run answer (inl (bits, is, all, many)) run = many_no_run job.command bits many run
  trial_no_run answer (inr (inl (by, is, (tried, none)))) run = tried_no_run job.command (bits_of func) by tried run
  trial_no_run answer (inr (inr (witness, by, is, (tried, worst, none)))) run = tried_no_run job.command (bits_of func) by tried run

  wide_and_tried : (bits : ℕ) (by : How) → bits ≡ bits_of func → AreTooMany job.command bits → IsTried job.command (bits_of func) by → ⊥
  wide_and_tried bits by is many tried = not_tried job.command (bits_of func) by tried (subst (AreTooMany job.command) is many)

  one_trial : (one other : Answer) → IsTrial job func costs one → IsTrial job func costs other → one ≡ other
  one_trial one other (inl (bits, is, all, many)) (inl (more, also, every, _)) = is ∙ ap answers.TooWide (all ∙ sym every) ∙ sym also
  one_trial one other (inl (bits, is, all, many)) (inr (inl (by, also, (tried, none)))) = absurd (wide_and_tried bits by all many tried)
  one_trial one other (inl (bits, is, all, many)) (inr (inr (witness, by, also, (tried, worst, none)))) = absurd (wide_and_tried bits by all many tried)
  one_trial one other (inr (inl (by, is, (tried, none)))) (inl (bits, also, all, many)) = absurd (wide_and_tried bits by all many tried)
  one_trial one other (inr (inl (by, is, (tried, none)))) (inr (inl (way, also, (again, _)))) = is ∙ ap answers.NoRun (one_how job.command (bits_of func) by way tried again) ∙ sym also
  one_trial one other (inr (inl (by, is, (tried, none)))) (inr (inr (witness, way, also, (again, worst, _)))) = absurd (not_empty func ends_here costs witness worst.run none)
  one_trial one other (inr (inr (witness, by, is, (tried, worst, none)))) (inl (bits, also, all, many)) = absurd (wide_and_tried bits by all many tried)
  one_trial one other (inr (inr (witness, by, is, (tried, worst, _)))) (inr (inl (way, also, (again, none)))) = absurd (not_empty func ends_here costs witness worst.run none)
  one_trial one other (inr (inr (witness, by, is, (tried, worst, _)))) (inr (inr (most, way, also, (again, too, _)))) =
      let same = one_worst func ends_here costs witness most worst too in
      let hows = one_how job.command (bits_of func) by way tried again in
      is ∙ (λ i. answers.Exact (same i) (hows i) []) ∙ sym also

  same_arguments : (args others : List Arg) → AreArguments (widths_of func) job.arguments args → AreArguments (widths_of func) job.arguments others → args ≡ others
  same_arguments args others are also = one_arguments (widths_of func) job.arguments args others (laws.narrow func rules) are also

  one_of_run : (one other : Answer) → IsOfRun job func costs one → IsOfRun job func costs other → one ≡ other
  one_of_run one other (inl (place, is, first)) (inl (at, also, bad)) = is ∙ ap answers.BadArgs (one_place (widths_of func) job.arguments place at first bad) ∙ sym also
  one_of_run one other (inl (place, is, first)) (inr (inl (witness, also, (run, are, ran)))) = absurd (not_bad (widths_of func) job.arguments witness.args place are first)
  one_of_run one other (inl (place, is, first)) (inr (inr (block, cause, also, (run, (args, are, stuck))))) = absurd (not_bad (widths_of func) job.arguments args place are first)
  one_of_run one other (inr (inl (witness, is, (run, are, ran)))) (inl (place, also, first)) = absurd (not_bad (widths_of func) job.arguments witness.args place are first)
  one_of_run one other (inr (inl (witness, is, (run, are, ran)))) (inr (inl (second, also, (_, too, goes)))) =
      is ∙ ap answers.Ran (same_run func ends_here costs witness second ran goes (same_arguments witness.args second.args are too)) ∙ sym also
  one_of_run one other (inr (inl (witness, is, (run, are, ran)))) (inr (inr (block, cause, also, (_, (args, too, stuck))))) =
      absurd (ran_and_stuck witness args block cause are too ran stuck)
    where
      ran_and_stuck : (witness : Witness) (args : List Arg) (block : List ℕ) (cause : UndefinedCause) → AreArguments (widths_of func) job.arguments witness.args → AreArguments (widths_of func) job.arguments args → IsRun func costs witness → Stuck func (numbers_of args) block cause → ⊥
      ran_and_stuck witness args block cause are too ran stuck =
          not_both func ends_here (numbers_of witness.args) witness.path ran.vals witness.result block cause ran.run
          (subst (λ (xs : List Arg). Stuck func (numbers_of xs) block cause) (sym (same_arguments witness.args args are too)) stuck)
  one_of_run one other (inr (inr (block, cause, is, (run, (args, are, stuck))))) (inl (place, also, first)) = absurd (not_bad (widths_of func) job.arguments args place are first)
  one_of_run one other (inr (inr (block, cause, is, (run, (args, are, stuck))))) (inr (inl (witness, also, (_, too, ran)))) =
      absurd (not_both func ends_here (numbers_of witness.args) witness.path ran.vals witness.result block cause ran.run
      (subst (λ (xs : List Arg). Stuck func (numbers_of xs) block cause) (same_arguments args witness.args are too) stuck))
  one_of_run one other (inr (inr (block, cause, is, (run, (args, are, stuck))))) (inr (inr (place, why, also, (_, (others, too, ends))))) =
      let (blocks, causes) = one_end func ends_here (numbers_of others) block place cause why (subst (λ (xs : List Arg). Stuck func (numbers_of xs) block cause) (same_arguments args others are too) stuck) ends in
      is ∙ (λ i. answers.Undefined (blocks i) (causes i)) ∙ sym also

  pub one_answer : (one other : Answer) → IsAnswer job func costs one → IsAnswer job func costs other → one ≡ other
  one_answer one other is also =
      by_kinds (kinds job func costs one is) (kinds job func costs other also)
    where
      by_kinds : IsTrial job func costs one ⊎ ((job.command ≡ Run) × IsOfRun job func costs one) → IsTrial job func costs other ⊎ ((job.command ≡ Run) × IsOfRun job func costs other) → one ≡ other
      by_kinds (inl trial) (inl tried) = one_trial one other trial tried
      by_kinds (inl trial) (inr (run, ran)) = absurd (trial_no_run one trial run)
      by_kinds (inr (run, ran)) (inl tried) = absurd (trial_no_run other tried run)
      by_kinds (inr (run, ran)) (inr (_, goes)) = one_of_run one other ran goes
