use Rattle.std.proofs.Common.{◌≡◌, ◌<◌, length, pos, ◌*ℤ◌, FitsSigned, sym, ap, subst, ◌∙◌, rules, arith}
use Rattle.std.specs.Int.{w128}
use Rattle.std.proofs.lemmas.Int.{ints, to_z-of_z}
use Rattle.mix_system.specs.Row.{number_at}
use Rattle.bounded_simplex.specs.Point.{IsOutside}
use Rattle.bounded_simplex.specs.declared.ratio.Ratio.{Ratio}
use Rattle.bounded_simplex.proofs.ListingLaws.{outside_from}
use Rattle.bounded_simplex.proofs.RatioLaws.{ratio_value, read_number, ok_weaker, with_row}
use Rattle.bounded_simplex.proofs.simplex.Simplex.column_value.Goals as goal

pub returns-in-None-clause-value : goal.returns-in-None-clause-value
returns-in-None-clause-value c = λ denominator number kept.
    let s = c.args.self.now in
    let column = c.args.column in
    let values = s.values.items in
    let number_now = c.index-in-None.result.now in
    let within : column < length values = omega (arith, c.requires.within, s.one_each) in
    let inside : column < length s.listing.places.items = omega (arith, c.requires.within, s.places c.requires.point) in
    let placed = s.placed c.requires.point column c.index.result.now inside in
    let outside : IsOutside s.tableau.rows.items column = outside_from s.tableau.rows.items column (placed.0 (sym c.index.ensures ∙ c.in-None.is)) in
    let fits : FitsSigned w128 number_now = search rules in
    let ratio = simp to_z-of_z at c.reduced.ensures in
    let value : number_now ≡ number_at values column = read_number values column number_now within c.index-in-None.ensures in
    let rest = kept.rest column outside in
    ratio_value c.reduced.result.num c.reduced.result.den number_now (pos 1) (number column) denominator (omega (arith, ints)) ratio (omega (arith, ints, rest, ap (λ z. denominator *ℤ z) value))

pub returns-in-Some-clause-value : goal.returns-in-Some-clause-value
returns-in-Some-clause-value c =
    let s = c.args.self.now in
    let column = c.args.column in
    let inside : column < length s.listing.places.items = omega (arith, c.requires.within, s.places c.requires.point) in
    let placed = s.placed c.requires.point column c.index.result.now inside in
    let here = placed.1 c.in-Some.at (sym c.index.ensures ∙ c.in-Some.is) in
    ok_weaker c.basic_value.result
    (λ (ratio : Ratio) h denominator number kept. with_row s.tableau.rows.items c.in-Some.at here.0
    (λ d. subst (λ n. ratio.num *ℤ denominator ≡ number n *ℤ ratio.den) (here.1 d) (h d denominator number kept)))
    c.basic_value.ensures.value
