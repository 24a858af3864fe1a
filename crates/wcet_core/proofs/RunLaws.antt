-- Arguments have one run or one place at which they are stuck, and a function one worst case.
use Rattle.std.proofs.Common.{◌≡◌, ◌⊎◌, ◌≤◌, ℕ, List, [], ◌∷◌, refl, sym, ◌∙◌, ap, subst, inl, inr, arith}
use Rattle.std.proofs.lemmas.Bool.{cases_order}
use Rattle.wx_base.specs.Args.{AreArguments, ComesBefore}
use Rattle.wx_base.specs.declared.lists.Arg.{Arg}
use Rattle.ll_tree.specs.declared.func.Func.{Func}
use Rattle.ir_runs.specs.Costs.{LabelCosts, Reached, Empty, path_cost}
use Rattle.ir_runs.specs.Run.{Run, Stuck, EndsOnce}
use Rattle.ir_runs.specs.Values.{Vals}
use Rattle.ir_runs.specs.Walk.{widths_of}
use Rattle.ir_runs.specs.declared.ret_val.RetVal.{RetVal}
use Rattle.ir_runs.specs.declared.undefined.UndefinedCause.{UndefinedCause}
use Rattle.witness_report.specs.declared.answer.Witness.{Witness}
use Rattle.wcet_core.specs.Worst.{IsRun, IsWorst, numbers_of}
use Rattle.wcet_core.proofs.JobLaws.{same_args}

-- lists of arguments stand in one order
in_order : (widths one other : List ℕ) → AreArguments widths one → AreArguments widths other → (one ≡ other) ⊎ (ComesBefore one other ⊎ ComesBefore other one)
in_order [] [] [] are also = inl refl
in_order [] [] (y ∷ other) are also = absurd also
in_order [] (x ∷ one) other are also = absurd are
in_order (width ∷ widths) [] other are also = absurd are
in_order (width ∷ widths) (x ∷ one) [] are also = absurd also
in_order (width ∷ widths) (x ∷ one) (y ∷ other) are also =
    elim (cases_order x y) [
      | inl same ↦ elim (in_order widths one other are.1 also.1) [
        | inl rest ↦ inl (λ i. same i ∷ rest i)
        | inr (inl before) ↦ inr (inl (inr (same, before)))
        | inr (inr behind) ↦ inr (inr (inr (sym same, behind)))
      ]
      | inr (inl less) ↦ inr (inl (inl less))
      | inr (inr more) ↦ inr (inr (inl more))
    ]

module _ (func : Func) (ends : (args : List ℕ) → AreArguments (widths_of func) args → EndsOnce func args) where
  pub one_run : (args : List ℕ) (path others : List (List ℕ)) (vals values : Vals) (result given : RetVal) → Run func args path vals result → Run func args others values given → (path ≡ others) × (result ≡ given)
  one_run args path others vals values result given run also =
      elim (ends args run.walk.arguments) [
        | inl once ↦
            let (here, mine, gives) = once.only path vals result run in
            let (there, yours, returns) = once.only others values given also in
            (here ∙ sym there, gives ∙ sym returns)
        | inr stuck ↦ absurd (stuck.never path vals result run)
      ]

  pub one_end : (args : List ℕ) (block other : List ℕ) (cause why : UndefinedCause) → Stuck func args block cause → Stuck func args other why → (block ≡ other) × (cause ≡ why)
  one_end args block other cause why stuck also =
      elim (ends args stuck.walk.arguments) [
        | inl once ↦ absurd (once.never block cause stuck)
        | inr at ↦
            let (here, is) = at.only block cause stuck in
            let (there, does) = at.only other why also in
            (here ∙ sym there, is ∙ sym does)
      ]

  pub not_both : (args : List ℕ) (path : List (List ℕ)) (vals : Vals) (result : RetVal) (block : List ℕ) (cause : UndefinedCause) → Run func args path vals result → Stuck func args block cause → ⊥
  not_both args path vals result block cause run stuck =
      elim (ends args run.walk.arguments) [ inl once ↦ once.never block cause stuck | inr at ↦ at.never path vals result run ]

  module _ (costs : LabelCosts) where
    pub same_run : (one other : Witness) → IsRun func costs one → IsRun func costs other → one.args ≡ other.args → one ≡ other
    same_run one other is also args =
        let moved = subst (λ (xs : List Arg). Run func (numbers_of xs) one.path is.vals one.result) args is.run in
        let (path, result) = one_run (numbers_of other.args) one.path other.path is.vals also.vals one.result other.result moved also.run in
        let cost = sym is.cost ∙ ap (path_cost costs) path ∙ also.cost in
        λ i. record { args = args i; path = path i; result = result i; cost = cost i }

    pub reached : (witness : Witness) → IsRun func costs witness → Reached func costs witness.cost (numbers_of witness.args)
    reached witness is = record { path = witness.path; vals = is.vals; result = witness.result; run = is.run; cost = is.cost }

    no_more : (one other : Witness) → IsWorst func costs one → IsWorst func costs other → one.cost ≤ other.cost
    no_more one other worst also =
        subst (λ (n : ℕ). n ≤ other.cost) worst.run.cost (also.at_most (numbers_of one.args) one.path worst.run.vals one.result worst.run.run)

    not_before : (one other : Witness) → IsWorst func costs one → IsWorst func costs other → one.cost ≡ other.cost → ComesBefore (numbers_of one.args) (numbers_of other.args) → ⊥
    not_before one other worst also cost before =
        also.first (numbers_of one.args) (subst (λ (n : ℕ). Reached func costs n (numbers_of one.args)) cost (reached one worst.run)) before

    pub one_worst : (one other : Witness) → IsWorst func costs one → IsWorst func costs other → one ≡ other
    one_worst one other worst also =
        let cost : one.cost ≡ other.cost = omega (arith, no_more one other worst also, no_more other one also worst) in
        let numbers : numbers_of one.args ≡ numbers_of other.args = elim (in_order (widths_of func) (numbers_of one.args) (numbers_of other.args) worst.run.run.walk.arguments also.run.run.walk.arguments) [
          | inl same ↦ same
          | inr (inl before) ↦ absurd (not_before one other worst also cost before)
          | inr (inr behind) ↦ absurd (not_before other one also worst (sym cost) behind)
        ] in
        same_run one other worst.run also.run (same_args one.args other.args (worst.run.widths ∙ sym also.run.widths) numbers)

    -- a function with a worst case has a run
    pub not_empty : (witness : Witness) → IsRun func costs witness → Empty func → ⊥
    not_empty witness is empty = empty (numbers_of witness.args) witness.path is.vals witness.result is.run
