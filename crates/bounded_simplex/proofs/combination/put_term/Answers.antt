use Rattle.std.proofs.Common.{◌≡◌, ℕ, [], ◌+ℤ◌, ◌*ℤ◌, FitsSigned, All, sym, ap, subst, ◌∙◌, rules}
use Rattle.std.specs.Prelude.{OnOk, IfErr}
use Rattle.std.specs.Int.{w128}
use Rattle.std.proofs.lemmas.Int.{to_z-of_z}
use Rattle.std.proofs.lemmas.Option.{get_or_from_slice_get}
use Rattle.wx_num.specs.declared.excess.Excess.{Excess}
use Rattle.mix_system.specs.System.{System}
use Rattle.mix_system.specs.Row.{number_at}
use Rattle.mix_system.specs.Sum.{int_sum_by}
use Rattle.mix_system.specs.FarkasSum.{by_side, coeff_on, term_steps, parts_of}
use Rattle.bounded_simplex.specs.Combination.{Fits, IsAmong}
use Rattle.bounded_simplex.proofs.CombinationLaws.{among_two}
use Rattle.bounded_simplex.proofs.RatioLaws.{err_weaker}
use Rattle.bounded_simplex.proofs.combination.put_term.Goals as goal

pub returns-in-Var-clause-step : goal.returns-in-Var-clause-step
returns-in-Var-clause-step c =
    let by_fits : FitsSigned w128 c.args.part.by = search rules in
    let step = simp to_z-of_z at c.put_product.ensures.step in
    rw c.in-Var.is (err_weaker c.put_product.result (λ (e : Excess) h. among_two _ _ [] e h) step)

pub returns-in-Row-clause-summed : goal.returns-in-Row-clause-summed
returns-in-Row-clause-summed c =
    let part = c.args.part in
    let by_fits : FitsSigned w128 part.by = search rules in
    let row = get_or_from_slice_get c.system.result.now.rows c.in-Row.row c.row.result.now [] c.row.ensures.parts in
    let parts = ap (λ (s : System). parts_of s.rows part.lit.term) (sym c.system.ensures) ∙ ap (parts_of c.system.result.now.rows) c.in-Row.is ∙ row in
    let summed = simp to_z-of_z at c.put_products.ensures.summed in
    subst (λ ps. OnOk c.put_products.result ((var : ℕ) → number_at c.put_products.new.sums.items var ≡ number_at c.args.sums.now.items var +ℤ by_side part.lit.side (part.by *ℤ int_sum_by (coeff_on var) ps))) (sym parts) summed

pub returns-in-Row-clause-fit : goal.returns-in-Row-clause-fit
returns-in-Row-clause-fit c =
    let part = c.args.part in
    let by_fits : FitsSigned w128 part.by = search rules in
    let row = get_or_from_slice_get c.system.result.now.rows c.in-Row.row c.row.result.now [] c.row.ensures.parts in
    let parts = ap (λ (s : System). parts_of s.rows part.lit.term) (sym c.system.ensures) ∙ ap (parts_of c.system.result.now.rows) c.in-Row.is ∙ row in
    let fit = simp to_z-of_z at c.put_products.ensures.fit in
    subst (λ ps. OnOk c.put_products.result (All Fits (term_steps part.lit.side part.by (number_at c.args.sums.now.items) ps))) (sym parts) fit

pub returns-in-Row-clause-step : goal.returns-in-Row-clause-step
returns-in-Row-clause-step c =
    let part = c.args.part in
    let by_fits : FitsSigned w128 part.by = search rules in
    let row = get_or_from_slice_get c.system.result.now.rows c.in-Row.row c.row.result.now [] c.row.ensures.parts in
    let parts = ap (λ (s : System). parts_of s.rows part.lit.term) (sym c.system.ensures) ∙ ap (parts_of c.system.result.now.rows) c.in-Row.is ∙ row in
    let step = simp to_z-of_z at c.put_products.ensures.step in
    subst (λ ps. IfErr c.put_products.result (IsAmong (term_steps part.lit.side part.by (number_at c.args.sums.now.items) ps))) (sym parts) step
