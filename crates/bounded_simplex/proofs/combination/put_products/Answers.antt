use Rattle.std.proofs.Common.{◌≡◌, ◌⊎◌, ℕ, ◌+◌, [], ◌∷◌, get_or, take, pos, ◌+ℤ◌, ◌*ℤ◌, FitsSigned, All, sym, ap, subst, ◌∙◌, rules}
use Rattle.std.specs.Int.{w128}
use Rattle.std.proofs.lemmas.Int.{to_z-of_z}
use Rattle.std.proofs.lemmas.List.{take_all}
use Rattle.std.proofs.lemmas.List.Elements.{All-append}
use Rattle.wx_num.specs.declared.excess.NumOp.TheVariants.{Times}
use Rattle.mix_system.specs.declared.row.Part.{Part}
use Rattle.mix_system.specs.Row.{number_at}
use Rattle.mix_system.specs.Sum.{int_sum_by}
use Rattle.mix_system.specs.FarkasSum.{by_side, coeff_on, sum_op, term_steps}
use Rattle.bounded_simplex.specs.Combination.{Fits, IsAmong}
use Rattle.bounded_simplex.proofs.CombinationLaws.{among_two, among_later, among_front, fit_two, term_more, summed_more}
use Rattle.bounded_simplex.proofs.combination.put_products.Goals as goal

blank : Part
blank = record { coeff = pos 0; var = 0 }

pub returns-in-Err-clause-step : goal.returns-in-Err-clause-step
unfolding blank
returns-in-Err-clause-step c =
    let parts = c.args.parts.now in
    let i = c.loop-part.part-index in
    let part = get_or parts i blank in
    let old = c.args.sums.now.items in
    let now = c.loop-part.sums.items in
    let by = c.args.by in
    let by_fits : FitsSigned w128 by = search rules in
    let step : (c.in-Err.excess ≡ record { op = Times; x = by; y = part.coeff }) ⊎ (c.in-Err.excess ≡ record { op = sum_op c.args.side; x = number_at now part.var; y = by *ℤ part.coeff }) = simp to_z-of_z at c.in-Err.ensures.step in
    let here = among_two (record { op = Times; x = by; y = part.coeff }) (record { op = sum_op c.args.side; x = number_at now part.var; y = by *ℤ part.coeff }) [] c.in-Err.excess step in
    let before = simp to_z-of_z at c.loop-part.invariant.summed in
    let more = term_more c.args.side by old now parts i blank c.loop-part-test.true before in
    among_front c.args.side by (number_at old) parts (i + 1) c.in-Err.excess
    (subst (λ zs. IsAmong zs c.in-Err.excess) (sym more) (among_later (term_steps c.args.side by (number_at old) (take i parts)) _ c.in-Err.excess here))

pub loop-part-preserved : goal.loop-part-preserved
unfolding blank
loop-part-preserved c =
    let parts = c.args.parts.now in
    let i = c.loop-part.part-index in
    let part = get_or parts i blank in
    let old = c.args.sums.now.items in
    let now = c.loop-part.sums.items in
    let new = c.put_product.new.sums.items in
    let by = c.args.by in
    let by_fits : FitsSigned w128 by = search rules in
    let summed : (var : ℕ) → number_at new var ≡ number_at now var +ℤ by_side c.args.side (by *ℤ coeff_on var part) = simp to_z-of_z at c.in-Ok.ensures.summed in
    let fit = simp to_z-of_z at c.in-Ok.ensures.fit in
    let fit_before = simp to_z-of_z at c.loop-part.invariant.fit in
    let before = simp to_z-of_z at c.loop-part.invariant.summed in
    let more = term_more c.args.side by old now parts i blank c.loop-part-test.true before in
    simp to_z-of_z (record {
      count = c.put_product.ensures.count ∙ c.loop-part.invariant.count;
      summed = summed_more c.args.side by old now new parts i blank c.loop-part-test.true before summed;
      fit = subst (All Fits) (sym more) (All-append Fits (term_steps c.args.side by (number_at old) (take i parts)) (term_steps c.args.side by (number_at now) (part ∷ [])) fit_before (fit_two _ _ fit.0 fit.1));
    })

pub returns-clause-summed : goal.returns-clause-summed
returns-clause-summed c =
    let parts = c.args.parts.now in
    let whole : take c.loop-part.part-index parts ≡ parts = take_all c.loop-part.part-index parts c.loop-part-test.false in
    let by_fits : FitsSigned w128 c.args.by = search rules in
    let before = simp to_z-of_z at c.loop-part.invariant.summed in
    λ var. before var ∙ ap (λ ps. number_at c.args.sums.now.items var +ℤ by_side c.args.side (c.args.by *ℤ int_sum_by (coeff_on var) ps)) whole

pub returns-clause-fit : goal.returns-clause-fit
returns-clause-fit c =
    let parts = c.args.parts.now in
    let whole : take c.loop-part.part-index parts ≡ parts = take_all c.loop-part.part-index parts c.loop-part-test.false in
    let by_fits : FitsSigned w128 c.args.by = search rules in
    let fit_before = simp to_z-of_z at c.loop-part.invariant.fit in
    subst (λ ps. All Fits (term_steps c.args.side c.args.by (number_at c.args.sums.now.items) ps)) whole fit_before
