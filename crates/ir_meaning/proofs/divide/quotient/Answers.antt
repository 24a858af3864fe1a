use Rattle.std.proofs.Common.{refl, ◌^◌}
use Rattle.std.specs.Prelude.{int_div}
use Rattle.ir_meaning.proofs.DivideLaws.{quotient_bound}
use Rattle.ir_meaning.proofs.WrapLaws.{fits_small, passed-op}
use Rattle.ir_meaning.proofs.divide.quotient.Goals as goal

pub returns : goal.returns
returns c =
    let x = c.signed.ensures in
    let y = c.signed-2.ensures in
    let small = quotient_bound c.signed.result c.signed-2.result (2 ^ 31) x.size in
    let fits = fits_small (int_div c.signed.result c.signed-2.result) small in
    record {
      value = passed-op int_div _ _ _ _ x.size y.size fits x.value y.value;
      size = rw (passed-op int_div _ _ _ _ x.size y.size fits refl refl) small;
    }
