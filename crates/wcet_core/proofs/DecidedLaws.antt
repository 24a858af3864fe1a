-- Told contents decide the answer: at most one has a cause, and it is the one that is given.
use Rattle.std.proofs.Common.{◌≡◌, ◌⊎◌, ⊎_elim, ◌<◌, ◌≤◌, ℕ, zero, suc, List, [], ◌∷◌, length, get_or, Option, Some, refl, sym, ◌∙◌, ap, subst, inl, inr, arith}
use Rattle.std.specs.Prelude.{IsSomeAnd}
use Rattle.std.proofs.lemmas.Bool.{cases_lt, cases_order}
use Rattle.wx_base.specs.Faults.{Rose}
use Rattle.wx_base.specs.Files.{Contents, FilesView, AreLonger}
use Rattle.ll_tree.specs.declared.func.Func.{Func}
use Rattle.ll_reader.specs.FileSpells.{FileSpells, FileStops}
use Rattle.ll_reader.specs.declared.fault.ReadFault.{ReadFault}
use Rattle.ll_verifier.specs.Answer.{pinned}
use Rattle.ll_verifier.specs.Rules.{Breaks}
use Rattle.ll_verifier.specs.declared.fault.VerifyFault.{VerifyFault}
use Rattle.cost_table.specs.Table.{CostLists}
use Rattle.cost_table.specs.declared.costs.CostFault.{CostFault}
use Rattle.sound_costs.specs.Costs.{IsTableOf}
use Rattle.command_words.specs.Words.{JobWords, Asks}
use Rattle.witness_report.specs.declared.answer.Answer.{Answer}
use Rattle.witness_report.specs.declared.answer.Answer.TheVariants as answers
use Rattle.witness_report.specs.declared.answer.Which.TheVariants as which
use Rattle.wcet_core.specs.Accepted.{StandsUnder, IsSpelled, IsAccepted, IsCosted, costs_of}
use Rattle.wcet_core.specs.Causes.{IsFault, IsAnswer, OfFunction, Cause}
use Rattle.wcet_core.specs.Promises.{Says, pinned_answer, Decides}
use Rattle.wcet_core.specs.declared.limits.TheConstants.{FILE_LIMIT, COSTS_LIMIT}
use Rattle.wcet_core.proofs.JobLaws.{one_job}
use Rattle.wcet_core.proofs.FunctionLaws.{Laws, one_answer}

same_some : {A : Type 0} (x y : A) → Some x ≡ Some y → x ≡ y
same_some x y e = cc

-- how many of the steps of a command were taken before the answer: job, file, function, rules, table, costs
abbrev rank : Answer → ℕ
rank answers.Usage = 0
rank (answers.TooLong which.File) = 1
rank (answers.Read fault) = 2
rank (answers.Verify fault) = 3
rank (answers.TooLong which.Costs) = 4
rank (answers.Cost fault) = 5
rank (answers.TooLong which.Proof) = 6
rank (answers.Exact witness by portions) = 6
rank (answers.NoRun by) = 6
rank (answers.Ran witness) = 6
rank (answers.Undefined block cause) = 6
rank (answers.TooWide bits) = 6
rank (answers.BadArgs place) = 6
rank (answers.FetchFault of) = 6
rank answers.NoMemory = 6

module _ (laws : Laws) (words : List (List ℕ)) (told : List ℕ → Option (List ℕ)) where
  abbrev here : Contents
  here = Some told

  -- ---- what the steps give

  one_text : (name : List ℕ) (limit : ℕ) (text other : List ℕ) → StandsUnder here name limit text → StandsUnder here name limit other → text ≡ other
  one_text name limit text other is also = same_some text other (sym is.told ∙ also.told)

  not_longer : (name : List ℕ) (limit : ℕ) (text : List ℕ) → StandsUnder here name limit text → AreLonger here name limit → ⊥
  not_longer name limit text stands longer =
      let more : limit < length text = subst (λ o. IsSomeAnd o (λ all. limit < length all)) stands.told longer in
      omega (arith, more, stands.within)

  abbrev HasText : JobWords → List ℕ → Type 0
  HasText job text = Asks words job × StandsUnder here job.file FILE_LIMIT text

  abbrev HasTable : JobWords → Func → List ℕ → Type 0
  HasTable job func text = IsAccepted words here job func × StandsUnder here job.costs COSTS_LIMIT text

  same_text : (job other : JobWords) (text bytes : List ℕ) → HasText job text → HasText other bytes → (job ≡ other) × (text ≡ bytes)
  same_text job other text bytes (asks, stands) (also, there) =
      let same = one_job words job other asks also in
      (same, one_text job.file FILE_LIMIT text bytes stands (subst (λ (j : JobWords). StandsUnder here j.file FILE_LIMIT bytes) (sym same) there))

  same_func : (job other : JobWords) (func second : Func) → IsSpelled words here job func → IsSpelled words here other second → (job ≡ other) × (func ≡ second)
  same_func job other func second is also =
      let (same, texts) = same_text job other is.text also.text (is.asks, is.stands) (also.asks, also.stands) in (
        same,
        laws.one_func is.text job.function func second is.spells
            (subst (λ (j : JobWords). FileSpells is.text j.function second) (sym same) (subst (λ (text : List ℕ). FileSpells text other.function second) (sym texts) also.spells)),
      )

  same_table : (job other : JobWords) (func second : Func) (text bytes : List ℕ) → HasTable job func text → HasTable other second bytes → (job ≡ other) × (func ≡ second) × (text ≡ bytes)
  same_table job other func second text bytes (is, stands) (also, there) =
      let (same, funcs) = same_func job other func second is.spelled also.spelled in
      (same, funcs, one_text job.costs COSTS_LIMIT text bytes stands (subst (λ (j : JobWords). StandsUnder here j.costs COSTS_LIMIT bytes) (sym same) there))

  same_costs : (job other : JobWords) (func second : Func) (costs others : CostLists) → IsCosted words here job func costs → IsCosted words here other second others → (job ≡ other) × (func ≡ second) × (costs ≡ others)
  same_costs job other func second costs others is also =
      let (same, funcs, texts) = same_table job other func second is.text also.text (is.accepted, is.stands) (also.accepted, also.stands) in (
        same,
        funcs,
        laws.one_table is.text func costs others is.accepted.rules is.table
            (subst (λ (f : Func). IsTableOf is.text f others) (sym funcs) (subst (λ (text : List ℕ). IsTableOf text second others) (sym texts) also.table)),
      )

  -- ---- the steps

  -- so many steps are taken
  abbrev Before : ℕ → Type 0
  Before zero = Unit {0}
  Before (suc zero) = (job : JobWords) × Asks words job
  Before (suc (suc zero)) = (job : JobWords) × (text : List ℕ) × HasText job text
  Before (suc (suc (suc zero))) = (job : JobWords) × (func : Func) × IsSpelled words here job func
  Before (suc (suc (suc (suc zero)))) = (job : JobWords) × (func : Func) × IsAccepted words here job func
  Before (suc (suc (suc (suc (suc zero))))) = (job : JobWords) × (func : Func) × (text : List ℕ) × HasTable job func text
  Before (suc (suc (suc (suc (suc (suc n)))))) = (job : JobWords) × (func : Func) × (costs : CostLists) × IsCosted words here job func costs

  one_less : (n : ℕ) → Before (suc n) → Before n
  one_less zero taken = tt
  one_less (suc zero) (job, text, (asks, stands)) = (job, asks)
  one_less (suc (suc zero)) (job, func, is) = (job, is.text, (is.asks, is.stands))
  one_less (suc (suc (suc zero))) (job, func, is) = (job, func, is.spelled)
  one_less (suc (suc (suc (suc zero)))) (job, func, text, (is, stands)) = (job, func, is)
  one_less (suc (suc (suc (suc (suc zero))))) (job, func, costs, is) = (job, func, is.text, (is.accepted, is.stands))
  one_less (suc (suc (suc (suc (suc (suc n)))))) taken = taken

  down : (n m : ℕ) → n ≤ m → Before m → Before n
  down n zero le taken = subst Before (none le) taken
    where
      none : n ≤ 0 → 0 ≡ n
      none le = omega (arith, le)
  down n (suc m) le taken =
      ⊎_elim
      (λ less. down n m (within less) (one_less m taken))
      (λ more. subst Before (all more) taken)
      (cases_lt n (suc m))
    where
      within : n < suc m → n ≤ m
      within less = omega (arith, less)

      all : suc m ≤ n → suc m ≡ n
      all more = omega (arith, more, le)

  of_function : (answer : Answer) → OfFunction words here answer → Before 6
  of_function answer (job, func, costs, is, _) = (job, func, costs, is)

  taken : (answer : Answer) → Cause words here answer → Before (rank answer)
  taken answers.Usage cause = tt
  taken (answers.TooLong which.File) (job, asks, longer) = (job, asks)
  taken (answers.TooLong which.Costs) (job, func, is, longer) = (job, func, is)
  taken (answers.TooLong which.Proof) cause = absurd cause
  taken (answers.Read fault) (job, text, asks, stands, stops) = (job, text, (asks, stands))
  taken (answers.Verify fault) (job, func, is, breaks) = (job, func, is)
  taken (answers.Cost fault) (job, func, text, is, stands, wrong) = (job, func, text, (is, stands))
  taken (answers.FetchFault of) cause = absurd cause
  taken answers.NoMemory cause = absurd cause
  taken (answers.Exact witness by portions) cause = of_function (answers.Exact witness by portions) cause
  taken (answers.NoRun by) cause = of_function (answers.NoRun by) cause
  taken (answers.Ran witness) cause = of_function (answers.Ran witness) cause
  taken (answers.Undefined block why) cause = of_function (answers.Undefined block why) cause
  taken (answers.TooWide bits) cause = of_function (answers.TooWide bits) cause
  taken (answers.BadArgs place) cause = of_function (answers.BadArgs place) cause

  -- an answer for which the next step isn't taken, or one of a function with its costs
  abbrev Stops : Answer → Type 0
  Stops answer = (rank answer < 6) × (Before (suc (rank answer)) → ⊥)

  stops_read : (fault : ReadFault) → Cause words here (answers.Read fault) → Before 3 → ⊥
  stops_read fault (job, text, asks, stands, stops) (other, func, is) =
      let (same, texts) = same_text job other text is.text (asks, stands) (is.asks, is.stands) in
      laws.no_stop text job.function func fault
      (subst (λ (j : JobWords). FileSpells text j.function func) (sym same) (subst (λ (bytes : List ℕ). FileSpells bytes other.function func) (sym texts) is.spells)) stops

  stops_verify : (fault : VerifyFault) → Cause words here (answers.Verify fault) → Before 4 → ⊥
  stops_verify fault (job, func, is, breaks) (other, second, also) =
      let (same, funcs) = same_func job other func second is also.spelled in
      laws.no_break second fault (subst (λ (f : Func). Breaks f fault) funcs breaks) also.rules

  stops_cost : (fault : CostFault) → Cause words here (answers.Cost fault) → Before 6 → ⊥
  stops_cost fault (job, func, text, is, stands, wrong) (other, second, costs, also) =
      let (same, funcs, texts) = same_table job other func second text also.text (is, stands) (also.accepted, also.stands) in
      laws.no_fault also.text second costs fault also.accepted.rules also.table
      (subst (λ (f : Func). IsFault also.text f fault) funcs (subst (λ (bytes : List ℕ). IsFault bytes func fault) texts wrong))

  ends : (answer : Answer) → Cause words here answer → Stops answer ⊎ OfFunction words here answer
  ends answers.Usage cause = inl (omega arith, λ (job, asks). cause job asks)
  ends (answers.TooLong which.File) (job, asks, longer) = inl (
    omega arith,
    λ (other, text, (also, stands)).
        not_longer job.file FILE_LIMIT text (subst (λ (j : JobWords). StandsUnder here j.file FILE_LIMIT text) (one_job words other job also asks) stands) longer,
  )
  ends (answers.TooLong which.Costs) (job, func, is, longer) = inl (
    omega arith,
    λ (other, second, text, (also, stands)).
        not_longer job.costs COSTS_LIMIT text (subst (λ (j : JobWords). StandsUnder here j.costs COSTS_LIMIT text) (one_job words other job also.spelled.asks is.spelled.asks) stands) longer,
  )
  ends (answers.TooLong which.Proof) cause = absurd cause
  ends (answers.Read fault) cause = inl (omega arith, stops_read fault cause)
  ends (answers.Verify fault) cause = inl (omega arith, stops_verify fault cause)
  ends (answers.Cost fault) cause = inl (omega arith, stops_cost fault cause)
  ends (answers.FetchFault of) cause = absurd cause
  ends answers.NoMemory cause = absurd cause
  ends (answers.Exact witness by portions) cause = inr cause
  ends (answers.NoRun by) cause = inr cause
  ends (answers.Ran witness) cause = inr cause
  ends (answers.Undefined block why) cause = inr cause
  ends (answers.TooWide bits) cause = inr cause
  ends (answers.BadArgs place) cause = inr cause

  -- ---- a function with its costs

  moved : (job other : JobWords) (func second : Func) (costs others : CostLists) (answer : Answer) → job ≡ other → func ≡ second → costs ≡ others → IsAnswer job func (costs_of func costs) answer → IsAnswer other second (costs_of second others) answer
  moved job other func second costs others answer jobs funcs all is =
      subst (λ (k : CostLists). IsAnswer other second (costs_of second k) answer) all
      (subst (λ (f : Func). IsAnswer other f (costs_of f costs) answer) funcs
      (subst (λ (j : JobWords). IsAnswer j func (costs_of func costs) answer) jobs is))

  of_costed : (job : JobWords) (func : Func) (costs : CostLists) (answer : Answer) → IsCosted words here job func costs → OfFunction words here answer → IsAnswer job func (costs_of func costs) answer
  of_costed job func costs answer costed (other, second, others, also, is) =
      let (jobs, funcs, all) = same_costs other job second func others costs also costed in
      moved other job second func others costs answer jobs funcs all is

  pub function_answer : (job : JobWords) (func : Func) (costs : CostLists) (answer : Answer) → IsCosted words here job func costs → Cause words here answer → IsAnswer job func (costs_of func costs) answer
  function_answer job func costs answer costed cause =
      ⊎_elim
      (λ (less, stops). absurd (stops (down (suc (rank answer)) 6 (omega (arith, less)) (job, func, costs, costed))))
      (λ of. of_costed job func costs answer costed of)
      (ends answer cause)

  -- ---- one answer

  not_before : (one other : Answer) → Stops one → Cause words here other → rank one < rank other → ⊥
  not_before one other (low, stops) cause less = stops (down (suc (rank one)) (rank other) (omega (arith, less)) (taken other cause))

  of_function_not_before : (one other : Answer) → OfFunction words here one → Stops other → ⊥
  of_function_not_before one other of (low, stops) = stops (down (suc (rank other)) 6 (omega (arith, low)) (of_function one of))

  same_rank : (one other : Answer) → Stops one → Stops other → Cause words here one → Cause words here other → rank other ≡ rank one
  same_rank one other stops also cause too =
      ⊎_elim
      (λ same. sym same)
      (λ apart. ⊎_elim
      (λ less. absurd (not_before one other stops too less))
      (λ more. absurd (not_before other one also cause more))
      apart)
      (cases_order (rank one) (rank other))

  -- the refusal that so many steps lead to
  abbrev IsAt : ℕ → Answer → Type 0
  IsAt n it = get_or
      ((it ≡ answers.Usage)
      ∷ (it ≡ answers.TooLong which.File)
      ∷ ((fault : ReadFault) × (it ≡ answers.Read fault))
      ∷ ((fault : VerifyFault) × (it ≡ answers.Verify fault))
      ∷ (it ≡ answers.TooLong which.Costs)
      ∷ ((fault : CostFault) × (it ≡ answers.Cost fault))
      ∷ []) n (Unit {0})

  is_at : (it : Answer) → IsAt (rank it) it
  is_at answers.Usage = refl
  is_at (answers.TooLong which.File) = refl
  is_at (answers.TooLong which.Costs) = refl
  is_at (answers.TooLong which.Proof) = tt
  is_at (answers.Read fault) = (fault, refl)
  is_at (answers.Verify fault) = (fault, refl)
  is_at (answers.Cost fault) = (fault, refl)
  is_at (answers.FetchFault of) = tt
  is_at answers.NoMemory = tt
  is_at (answers.Exact witness by portions) = tt
  is_at (answers.NoRun by) = tt
  is_at (answers.Ran witness) = tt
  is_at (answers.Undefined block why) = tt
  is_at (answers.TooWide bits) = tt
  is_at (answers.BadArgs place) = tt

  one_read : (fault other : ReadFault) → Cause words here (answers.Read fault) → Cause words here (answers.Read other) → fault ≡ other
  one_read fault other (job, text, asks, stands, stops) (second, bytes, also, there, stop) =
      let (same, texts) = same_text job second text bytes (asks, stands) (also, there) in
      laws.one_stop text job.function fault other stops
      (subst (λ (j : JobWords). FileStops text j.function other) (sym same) (subst (λ (b : List ℕ). FileStops b second.function other) (sym texts) stop))

  one_verify : (fault other : VerifyFault) → Cause words here (answers.Verify fault) → Cause words here (answers.Verify other) → pinned fault ≡ pinned other
  one_verify fault other (job, func, is, breaks) (another, second, also, too) =
      let (same, funcs) = same_func job another func second is also in
      laws.one_break func fault other breaks (subst (λ (f : Func). Breaks f other) (sym funcs) too)

  one_cost : (fault other : CostFault) → Cause words here (answers.Cost fault) → Cause words here (answers.Cost other) → fault ≡ other
  one_cost fault other (job, func, text, is, stands, wrong) (another, second, bytes, also, there, too) =
      let (same, funcs, texts) = same_table job another func second text bytes (is, stands) (also, there) in
      laws.one_fault text func fault other is.rules wrong
      (subst (λ (f : Func). IsFault text f other) (sym funcs) (subst (λ (b : List ℕ). IsFault b second other) (sym texts) too))

  abbrev Same : Answer → Answer → Type 0
  Same one other = pinned_answer one ≡ pinned_answer other

  same_refusal : (one other : Answer) → rank one < 6 → IsAt (rank one) other → Cause words here one → Cause words here other → Same one other
  same_refusal answers.Usage other low is cause too = ap pinned_answer (sym is)
  same_refusal (answers.TooLong which.File) other low is cause too = ap pinned_answer (sym is)
  same_refusal (answers.TooLong which.Costs) other low is cause too = ap pinned_answer (sym is)
  same_refusal (answers.Read fault) other low (also, is) cause too =
      ap answers.Read (one_read fault also cause (subst (Cause words here) is too)) ∙ ap pinned_answer (sym is)
  same_refusal (answers.Verify fault) other low (also, is) cause too =
      ap answers.Verify (one_verify fault also cause (subst (Cause words here) is too)) ∙ ap pinned_answer (sym is)
  same_refusal (answers.Cost fault) other low (also, is) cause too =
      ap answers.Cost (one_cost fault also cause (subst (Cause words here) is too)) ∙ ap pinned_answer (sym is)
  same_refusal (answers.TooLong which.Proof) other low is cause too = absurd cause
  same_refusal (answers.FetchFault of) other low is cause too = absurd cause
  same_refusal answers.NoMemory other low is cause too = absurd cause
  same_refusal (answers.Exact witness by portions) other low is cause too = absurd (omega (arith, low))
  same_refusal (answers.NoRun by) other low is cause too = absurd (omega (arith, low))
  same_refusal (answers.Ran witness) other low is cause too = absurd (omega (arith, low))
  same_refusal (answers.Undefined block why) other low is cause too = absurd (omega (arith, low))
  same_refusal (answers.TooWide bits) other low is cause too = absurd (omega (arith, low))
  same_refusal (answers.BadArgs place) other low is cause too = absurd (omega (arith, low))

  same_function : (one other : Answer) → OfFunction words here one → OfFunction words here other → one ≡ other
  same_function one other (job, func, costs, costed, is) of =
      one_answer laws job func costed.accepted.rules (costs_of func costs) one other is (of_costed job func costs other costed of)

  pub one_cause : (one other : Answer) → Cause words here one → Cause words here other → Same one other
  one_cause one other cause too = by_ends (ends one cause) (ends other too)
    where
      by_ends : Stops one ⊎ OfFunction words here one → Stops other ⊎ OfFunction words here other → Same one other
      by_ends (inl stops) (inl also) = same_refusal one other stops.0 (subst (λ (n : ℕ). IsAt n other) (same_rank one other stops also cause too) (is_at other)) cause too
      by_ends (inl stops) (inr of) = absurd (of_function_not_before other one of stops)
      by_ends (inr of) (inl stops) = absurd (of_function_not_before one other of stops)
      by_ends (inr of) (inr also) = ap pinned_answer (same_function one other of also)

-- ---- what an answer says

module _ (words : List (List ℕ)) (told : List ℕ → Option (List ℕ)) (old new : FilesView) (tells : old.contents ≡ Some told) (calm : ¬ Rose old.faults new.faults) where
  -- the cause of what was said
  cause_of : (answer : Answer) → Says words old new answer → Cause words old.contents answer ⊎ (answer ≡ answers.NoMemory)
  cause_of answers.Usage says = inl says.0
  cause_of (answers.FetchFault which.File) says = absurd (calm says.0)
  cause_of (answers.FetchFault which.Costs) says = absurd (calm says.0)
  cause_of (answers.FetchFault which.Proof) says = absurd says
  cause_of (answers.TooLong which.File) (job, asks, long, asked) = inl (job, asks, long.longer)
  cause_of (answers.TooLong which.Costs) (job, func, is, table, asked) =
      inl (job, func, is, subst (λ (c : Contents). AreLonger c job.costs COSTS_LIMIT) table.after_file.keeps.contents table.too_long.longer)
  cause_of (answers.TooLong which.Proof) says = absurd says
  cause_of (answers.Read fault) says = inl says.0
  cause_of (answers.Verify fault) says = inl says.0
  cause_of (answers.Cost fault) says = inl says.0
  cause_of answers.NoMemory says = inr refl
  cause_of (answers.Exact witness by portions) says = inl says.0
  cause_of (answers.NoRun by) says = inl says.0
  cause_of (answers.Ran witness) says = inl says.0
  cause_of (answers.Undefined block why) says = inl says.0
  cause_of (answers.TooWide bits) says = inl says.0
  cause_of (answers.BadArgs place) says = inl says.0

pub said_decided : Laws → (words : List (List ℕ)) (old new : FilesView) (answer : Answer) → Says words old new answer → Decides words old new answer
said_decided laws words old new answer says told tells calm = record {
  same = λ other cause. ⊎_elim
      (λ mine. inl (one_cause laws words told answer other (subst (λ (c : Contents). Cause words c answer) tells mine) (subst (λ (c : Contents). Cause words c other) tells cause)))
      (λ none. inr none)
      (cause_of words told old new tells calm answer says);
  ends = λ job func costs costed. ⊎_elim
      (λ mine. inl (function_answer laws words told job func costs answer (subst (λ (c : Contents). IsCosted words c job func costs) tells costed) (subst (λ (c : Contents). Cause words c answer) tells mine)))
      (λ none. inr none)
      (cause_of words told old new tells calm answer says);
}
