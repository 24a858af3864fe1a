use Rattle.std.proofs.Common.{refl, sym, ◌∙◌, ◌^◌}
use Rattle.std.specs.Prelude.{int_rem}
use Rattle.ir_meaning.specs.Whole.{signed}
use Rattle.ir_meaning.proofs.DivideLaws.{rest_bound, rest-is}
use Rattle.ir_meaning.proofs.WrapLaws.{fits_small, passed-op}
use Rattle.ir_meaning.proofs.divide.remainder.Goals as goal

pub returns : goal.returns
returns c =
    let x = c.signed.ensures in
    let y = c.signed-2.ensures in
    let small = rest_bound c.signed.result c.signed-2.result (2 ^ 31) x.size in
    let fits = fits_small (int_rem c.signed.result c.signed-2.result) small in
    record {
      value = passed-op int_rem _ _ _ _ x.size y.size fits x.value y.value ∙ sym (rest-is (signed c.args.width c.args.a) (signed c.args.width c.args.c));
      size = rw (passed-op int_rem _ _ _ _ x.size y.size fits refl refl) small;
    }
