use Rattle.std.proofs.Common.{◌^◌, sym, ap₂, ◌∙◌, subst}
use Rattle.std.specs.Prelude.{unsigned_abs, int_rem}
use Rattle.mix_system.specs.Row.{number_at}
use Rattle.div_rows.specs.SignedDivision.{IsSigned}
use Rattle.div_rows.proofs.SignedLaws.{size_within, remainder_is, remainder_in}
use Rattle.div_rows.proofs.PassedLaws.{can_divide, remainder_passed}
use Rattle.div_rows.proofs.signed_division.SignedDivision.remainder.Goals as goal

pub nonzero_rem-result : goal.nonzero_rem-result
nonzero_rem-result c =
    let d = c.divided.ensures in
    let e = c.reading.ensures in
    can_divide c.divided.result c.reading.result (size_within (2 ^ 31) c.divided.result (d.least, d.greatest)) (size_within (2 ^ 31) c.reading.result (e.least, e.greatest)) e.some

pub returns-clause-value : goal.returns-clause-value
returns-clause-value c =
    let d = c.divided.ensures in
    let e = c.reading.ensures in
    let division = c.args.self.now in
    let n = unsigned_abs (number_at c.args.point.now division.a.number) in
    remainder_passed c.divided.result c.reading.result (size_within (2 ^ 31) c.divided.result (d.least, d.greatest)) (size_within (2 ^ 31) c.reading.result (e.least, e.greatest))
    ∙ ap₂ int_rem d.value e.value
    ∙ sym (remainder_is division.width n division.divisor)

pub returns-clause-signed : goal.returns-clause-signed
returns-clause-signed c =
    let d = c.divided.ensures in
    let e = c.reading.ensures in
    let division = c.args.self.now in
    let n = unsigned_abs (number_at c.args.point.now division.a.number) in
    let is = remainder_passed c.divided.result c.reading.result (size_within (2 ^ 31) c.divided.result (d.least, d.greatest)) (size_within (2 ^ 31) c.reading.result (e.least, e.greatest))
    ∙ ap₂ int_rem d.value e.value
    ∙ sym (remainder_is division.width n division.divisor) in
    subst (IsSigned division.width) (sym is) (remainder_in division.width n division.divisor c.requires.at.width c.requires.at.some c.requires.at.divisor)
