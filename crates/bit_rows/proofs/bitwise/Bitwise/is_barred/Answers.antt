use Rattle.std.proofs.Common.{◌≡◌, true, not, ◌&&◌, min, sym, ap, ◌∙◌}
use Rattle.std.specs.Prelude.{◌==◌}
use Rattle.ir_meaning.specs.Whole.{by_bits}
use Rattle.ir_meaning.proofs.BitLaws.{and-by_bits}
use Rattle.bit_rows.specs.Bitwise.{is_disjoint}
use Rattle.bit_rows.proofs.bitwise.Bitwise.is_barred.Goals as goal

pub returns-then-is_disjoint : goal.returns-then-is_disjoint
returns-then-is_disjoint c =
    let bitwise = c.args.self.now in
    let set : true ≡ is_disjoint bitwise.kind bitwise.flags = sym c.if-is_disjoint.true ∙ c.is_disjoint.ensures in
    ap (λ both. not (both == 0)) (and-by_bits bitwise.width c.args.a c.args.b c.requires.a c.requires.b)
    ∙ ap (λ flag. flag && not (by_bits bitwise.width min c.args.a c.args.b == 0)) set
