use Rattle.std.proofs.Common.{◌≡◌, pos, to_z, of_z, rules, ◌∙◌}
use Rattle.std.specs.Prelude.{int_lt}
use Rattle.std.specs.Int.{w128}
use Rattle.std.proofs.lemmas.Int.{to_z-of_z}
use Rattle.mix_system.specs.Row.{number_at}
use Rattle.ir_meaning.specs.Whole.{modulo}
use Rattle.wrap_rows.specs.Blocks.{sign_of}
use Rattle.wrap_rows.specs.Piece.{mark_of}
use Rattle.div_rows.specs.SignedDivision.{quotient_of, remainder_of, result_of, is_poison}
use Rattle.div_rows.proofs.SignedDivisionLaws.{puts_six}
use Rattle.div_rows.proofs.signed_division.SignedDivision.put.Goals as goal

pub returns : goal.returns
returns c =
    let division = c.args.self.now in
    let point = c.args.point.now in
    let x : to_z w128 (of_z w128 c.lifted.result) ≡ pos (modulo division.width (result_of division point)) = search (rules, to_z-of_z) in
    let m : to_z w128 (of_z w128 c.mark_of-mark.result) ≡ mark_of (is_poison division point) = search (rules, to_z-of_z) in
    let s : to_z w128 (of_z w128 c.sign_of-sign.result) ≡ sign_of division.width (number_at point division.a.number) = search (rules, to_z-of_z) in
    let q : to_z w128 (of_z w128 c.quotient-quotient.result) ≡ quotient_of division point = search (rules, to_z-of_z) in
    let r : to_z w128 (of_z w128 c.remainder-remainder.result) ≡ remainder_of division point = search (rules, to_z-of_z) in
    let t : to_z w128 (of_z w128 c.mark_of.result) ≡ mark_of (int_lt (result_of division point) (pos 0)) = search (rules, to_z-of_z) in
    c.put_four.ensures ∙ puts_six c.args.first point _ _ _ _ _ _ _ _ _ _ _ _ x m s q r t
