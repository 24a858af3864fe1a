use Rattle.std.proofs.Common.{◌≡◌, ◌∷◌, to_z, of_z, rules, ap, ap₂, ◌∙◌}
use Rattle.std.specs.Int.{w128}
use Rattle.std.proofs.lemmas.Int.{to_z-of_z}
use Rattle.wrap_rows.specs.Blocks.{sign_of}
use Rattle.wrap_rows.specs.Piece.{put_from, mark_of}
use Rattle.wrap_rows.specs.Sum.{reduced, carry, exact, is_poison, signs}
use Rattle.mix_system.specs.Row.{number_at}
use Rattle.wrap_rows.proofs.SumPieceLaws.{puts_all, puts_three}
use Rattle.wrap_rows.proofs.sum.Sum.put.Goals as goal

pub returns-then-self : goal.returns-then-self
returns-then-self c =
    let sum = c.args.self.now in
    let point = c.args.point.now in
    let x : to_z w128 (of_z w128 c.number-number.result) ≡ reduced sum.width (exact sum point) = search (rules, to_z-of_z) in
    let m : to_z w128 (of_z w128 c.mark_of-mark.result) ≡ mark_of (is_poison sum point) = search (rules, to_z-of_z) in
    let q : to_z w128 (of_z w128 c.carry-carry.result) ≡ carry sum.width (exact sum point) = search (rules, to_z-of_z) in
    let s : to_z w128 (of_z w128 c.sign_of-sign.result) ≡ sign_of sum.width (number_at point sum.a.number) = search (rules, to_z-of_z) in
    let t : to_z w128 (of_z w128 c.sign_of-other_sign.result) ≡ sign_of sum.width (number_at point sum.b.number) = search (rules, to_z-of_z) in
    puts_all sum.flags.nsw sum c.args.first point _ _ _ _ _ c.if-self.true s t
    ∙ ap₂ (λ u v. put_from c.args.first (u ∷ v ∷ to_z w128 (of_z w128 c.carry-carry.result) ∷ signs sum.flags.nsw sum point) point) x m
    ∙ ap (λ u. put_from c.args.first (reduced sum.width (exact sum point) ∷ mark_of (is_poison sum point) ∷ u ∷ signs sum.flags.nsw sum point) point) q

pub returns-else-self : goal.returns-else-self
returns-else-self c =
    let sum = c.args.self.now in
    let point = c.args.point.now in
    let x : to_z w128 (of_z w128 c.number-number.result) ≡ reduced sum.width (exact sum point) = search (rules, to_z-of_z) in
    let m : to_z w128 (of_z w128 c.mark_of-mark.result) ≡ mark_of (is_poison sum point) = search (rules, to_z-of_z) in
    let q : to_z w128 (of_z w128 c.carry-carry.result) ≡ carry sum.width (exact sum point) = search (rules, to_z-of_z) in
    puts_three sum.flags.nsw sum c.args.first point _ _ _ c.if-self.false
    ∙ ap₂ (λ u v. put_from c.args.first (u ∷ v ∷ to_z w128 (of_z w128 c.carry-carry.result) ∷ signs sum.flags.nsw sum point) point) x m
    ∙ ap (λ u. put_from c.args.first (reduced sum.width (exact sum point) ∷ mark_of (is_poison sum point) ∷ u ∷ signs sum.flags.nsw sum point) point) q
