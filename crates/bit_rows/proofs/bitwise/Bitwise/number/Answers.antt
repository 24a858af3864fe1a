use Rattle.std.proofs.Common.{sym, ap, ◌∙◌}
use Rattle.ir_meaning.proofs.BitLaws.{and-by_bits, or-by_bits, xor-by_bits}
use Rattle.bit_rows.specs.Bitwise.{result_of}
use Rattle.bit_rows.proofs.bitwise.Bitwise.number.Goals as goal

pub returns-in-And : goal.returns-in-And
returns-in-And c =
    let width = c.args.self.now.width in
    and-by_bits width c.args.a c.args.b c.requires.a c.requires.b ∙ ap (λ kind. result_of kind width c.args.a c.args.b) (sym c.in-And.is)

pub returns-in-Or : goal.returns-in-Or
returns-in-Or c =
    let width = c.args.self.now.width in
    or-by_bits width c.args.a c.args.b c.requires.a c.requires.b ∙ ap (λ kind. result_of kind width c.args.a c.args.b) (sym c.in-Or.is)

pub returns-in-Xor : goal.returns-in-Xor
returns-in-Xor c =
    let width = c.args.self.now.width in
    xor-by_bits width c.args.a c.args.b c.requires.a c.requires.b ∙ ap (λ kind. result_of kind width c.args.a c.args.b) (sym c.in-Xor.is)
