use Rattle.std.proofs.Common.{get_or, pos, refl}
use Rattle.mix_system.specs.declared.literal.Term.TheVariants.{Var}
use Rattle.mix_system.specs.declared.literal.Side.TheVariants.{Le}
use Rattle.mix_system.specs.declared.literal.Lit.{Lit}
use Rattle.proof_spelling.specs.Text.{spaced_literal}
use Rattle.proof_spelling.specs.Ranges.{LitFits}
use Rattle.proof_spelling.proofs.PrintLaws.{items_more}
use Rattle.proof_spelling.proofs.writing.push_literals.Goals as goal

pub loop-lit-preserved : goal.loop-lit-preserved
loop-lit-preserved c =
    let lits = c.args.lits.now in
    let i = c.loop-lit.lit-index in
    let none : Lit = record { term = Var 0; side = Le; bound = pos 0 } in
    items_more spaced_literal LitFits lits i none (get_or lits i none) c.args.text.now.items c.loop-lit.text.items c.push_literal.new.text.items c.loop-lit-test.true refl c.loop-lit.invariant
    c.in_ok-push_literal.ensures.text c.in_ok-push_literal.ensures.fits
