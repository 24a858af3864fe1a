use Rattle.std.proofs.Common.{◌<◌, ◌^◌, ℕ, get_or, refl}
use Rattle.proof_spelling.specs.Text.{spaced_number}
use Rattle.proof_spelling.proofs.PrintLaws.{items_more}
use Rattle.proof_spelling.proofs.writing.push_numbers.Goals as goal

pub loop-number-preserved : goal.loop-number-preserved
loop-number-preserved c =
    let numbers = c.args.numbers.now in
    let i = c.loop-number.number-index in
    items_more spaced_number (λ (number : ℕ). number < 2 ^ 32) numbers i 0 (get_or numbers i 0) c.args.text.now.items c.loop-number.text.items c.push_number.new.text.items c.loop-number-test.true refl
    c.loop-number.invariant c.in_ok-push_number.ensures.text c.in_ok-push_number.ensures.fits
