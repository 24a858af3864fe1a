use Rattle.std.proofs.Common.{◌^◌, ◌<◌, sym, ap₂, ◌∙◌, subst, arith}
use Rattle.std.specs.Prelude.{unsigned_abs, int_div}
use Rattle.std.proofs.lemmas.Int.{ints}
use Rattle.mix_system.specs.Row.{number_at}
use Rattle.wrap_rows.proofs.WrapLaws.{number_of}
use Rattle.div_rows.specs.SignedDivision.{IsSigned}
use Rattle.div_rows.proofs.SignedLaws.{size_within, quotient_in}
use Rattle.div_rows.proofs.PassedLaws.{can_divide, quotient_passed}
use Rattle.div_rows.proofs.signed_division.SignedDivision.quotient.Goals as goal

pub nonzero_div-result : goal.nonzero_div-result
nonzero_div-result c =
    let d = c.divided.ensures in
    let e = c.reading.ensures in
    can_divide c.divided.result c.reading.result (size_within (2 ^ 31) c.divided.result (d.least, d.greatest)) (size_within (2 ^ 31) c.reading.result (e.least, e.greatest)) e.some

pub returns-clause-signed : goal.returns-clause-signed
returns-clause-signed c =
    let d = c.divided.ensures in
    let e = c.reading.ensures in
    let division = c.args.self.now in
    let a = number_at c.args.point.now division.a.number in
    let is_a = c.requires.operands.a.number in
    let small : unsigned_abs a < 2 ^ division.width = omega (arith, ints, is_a.1, number_of a is_a.0) in
    let is = quotient_passed c.divided.result c.reading.result (size_within (2 ^ 31) c.divided.result (d.least, d.greatest)) (size_within (2 ^ 31) c.reading.result (e.least, e.greatest)) ∙ ap₂ int_div d.value e.value in
    subst (IsSigned division.width) (sym is) (quotient_in division.width (unsigned_abs a) division.divisor c.requires.at.width small c.requires.at.some c.requires.at.divisor)
