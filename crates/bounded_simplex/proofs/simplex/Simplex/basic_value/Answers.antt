use Rattle.std.proofs.Common.{◌≡◌, length, pos, ◌*ℤ◌, FitsSigned, sym, ap, subst, ◌∙◌, inl, rules, arith}
use Rattle.std.specs.Int.{w128}
use Rattle.std.proofs.lemmas.Int.{to_z-of_z}
use Rattle.tableau_rows.specs.declared.equation.Equation.{Equation}
use Rattle.tableau_rows.specs.Substitution.{taken}
use Rattle.wx_num.specs.Excess.{Overflows}
use Rattle.bounded_simplex.specs.Event.{IsFormedAt}
use Rattle.bounded_simplex.specs.declared.excess.Place.TheVariants.{Value}
use Rattle.bounded_simplex.specs.Point.{numerator_of}
use Rattle.bounded_simplex.specs.Refutation.{columns_of}
use Rattle.bounded_simplex.proofs.PivotLaws.{read_at}
use Rattle.bounded_simplex.proofs.PointLaws.{value_of}
use Rattle.bounded_simplex.proofs.RatioLaws.{ratio_value}
use Rattle.bounded_simplex.proofs.WithinLaws.{entries_within, basic_within}
use Rattle.bounded_simplex.proofs.simplex.Simplex.basic_value.Goals as goal

pub term_at-basic-requires : goal.term_at-basic-requires
term_at-basic-requires c =
    let s = c.args.self.now in
    let row = c.index-equation.result.now in
    basic_within row (columns_of s.bounds.system) (λ column beyond. subst (λ (x : Equation). taken x column ≡ pos 0) (sym c.index-equation.ensures) (s.tableau_of.known c.args.at row column c.requires beyond))

pub numerator-requires : goal.numerator-requires
numerator-requires c =
    let s = c.args.self.now in
    let row = c.index-equation.result.now in
    let within = entries_within row (columns_of s.bounds.system) (λ column beyond. subst (λ (x : Equation). taken x column ≡ pos 0) (sym c.index-equation.ensures) (s.tableau_of.known c.args.at row column c.requires beyond)) in
    λ k d inside. omega (arith, within k d inside, c.deref.ensures.len, s.one_each, ap length c.deref.ensures.value)

pub returns-in-Ok-clause-value : goal.returns-in-Ok-clause-value
returns-in-Ok-clause-value c = λ d denominator number kept.
    let s = c.args.self.now in
    let row = c.index-equation.result.now in
    let values = s.values.items in
    let n_fits : FitsSigned w128 c.in-Ok.numerator = search rules in
    let d_fits : FitsSigned w128 row.denominator = search rules in
    let ratio = simp to_z-of_z at c.reduced.ensures in
    let n_now : c.in-Ok.numerator ≡ numerator_of c.deref.result.now row = c.in-Ok.ensures.value in
    let n = rw c.deref.ensures.value at n_now in
    let value = value_of s.bounds.system s.tableau.rows.items values denominator number s.tableau_of kept c.args.at row c.requires c.index-equation.ensures in
    subst (λ (x : Equation). c.reduced.result.num *ℤ denominator ≡ number x.basic *ℤ c.reduced.result.den) (read_at s.tableau.rows.items c.args.at row d c.requires c.index-equation.ensures)
    (ratio_value c.reduced.result.num c.reduced.result.den c.in-Ok.numerator row.denominator (number row.basic) denominator row.sound.positive ratio (value ∙ ap (λ z. denominator *ℤ z) (sym n)))

pub returns-in-Err-clause-fault : goal.returns-in-Err-clause-fault
returns-in-Err-clause-fault c =
    let s = c.args.self.now in
    let row = c.index-equation.result.now in
    let step = rw c.deref.ensures.value at c.in-Err.ensures.step in
    let over : Overflows c.in-Err.excess = search rules in
    record {
      formed = inl (record {
        at = c.args.at;
        within = c.requires;
        formed = λ d. subst (λ (x : Equation). IsFormedAt s.bounds s.values.items x (Value c.term_at-basic.result) c.in-Err.excess)
            (read_at s.tableau.rows.items c.args.at row d c.requires c.index-equation.ensures) (c.term_at-basic.ensures.term, step);
      });
      overflows = over;
    }
