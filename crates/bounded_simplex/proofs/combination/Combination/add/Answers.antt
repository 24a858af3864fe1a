use Rattle.std.proofs.Common.{◌≡◌, ℕ, ◌+ℤ◌, FitsSigned, All, rules}
use Rattle.std.specs.Int.{w128}
use Rattle.std.proofs.lemmas.Int.{to_z-of_z}
use Rattle.mix_system.specs.Row.{number_at}
use Rattle.mix_system.specs.FarkasSum.{weight, parts_of, term_steps}
use Rattle.bounded_simplex.specs.Combination.{Fits}
use Rattle.bounded_simplex.proofs.CombinationLaws.{worked_more, among_term, among_bound}
use Rattle.bounded_simplex.proofs.combination.Combination.add.Goals as goal

pub returns-in-Err-clause-step : goal.returns-in-Err-clause-step
returns-in-Err-clause-step c =
    let s = c.args.self.now in
    among_term c.args.bounds.now.system.rows s.parts c.args.part s.sums.items s.constant c.in-Err.excess c.requires.worked c.in-Err.ensures.step

pub returns-in-Err-put_bound-clause-step : goal.returns-in-Err-put_bound-clause-step
returns-in-Err-put_bound-clause-step c =
    let s = c.args.self.now in
    let constant_fits : FitsSigned w128 s.constant = search rules in
    let step = simp to_z-of_z at c.in-Err-put_bound.ensures.step in
    among_bound c.args.bounds.now.system.rows s.parts c.args.part s.sums.items s.constant c.in-Err-put_bound.excess c.requires.worked step

pub returns-clause-worked : goal.returns-clause-worked
returns-clause-worked c =
    let s = c.args.self.now in
    let constant_fits : FitsSigned w128 s.constant = search rules in
    let rows = c.args.bounds.now.system.rows in
    let summed : (var : ℕ) → number_at c.put_term.new.sums.items var ≡ number_at s.sums.items var +ℤ weight rows var c.args.part = search rules in
    let fit_term : All Fits (term_steps c.args.part.lit.side c.args.part.by (number_at s.sums.items) (parts_of rows c.args.part.lit.term)) = search rules in
    let fit = simp to_z-of_z at c.in-Ok-put_bound.ensures.fit in
    let value = simp to_z-of_z at c.in-Ok-put_bound.ensures.value in
    let sum_fits : FitsSigned w128 c.in-Ok-put_bound.constant = search rules in
    simp to_z-of_z (worked_more rows s.parts c.push.new.self c.args.part s.sums.items c.put_term.new.sums.items s.constant c.in-Ok-put_bound.constant c.requires.worked c.in_ok-push.ensures.ok summed value fit_term fit.0 fit.1)
