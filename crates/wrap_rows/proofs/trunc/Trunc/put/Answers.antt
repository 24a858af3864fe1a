use Rattle.std.proofs.Common.{◌≡◌, ◌∷◌, ◌||◌, to_z, of_z, rules, ap₂, ◌∙◌}
use Rattle.std.specs.Int.{w128}
use Rattle.std.proofs.lemmas.Int.{to_z-of_z}
use Rattle.mix_system.specs.Row.{number_at}
use Rattle.wrap_rows.specs.Blocks.{sign_of}
use Rattle.wrap_rows.specs.Vars.{is_marked}
use Rattle.wrap_rows.specs.Piece.{put_from, mark_of}
use Rattle.wrap_rows.specs.Trunc.{number, carry, barred, helper_numbers}
use Rattle.wrap_rows.proofs.TruncLaws.{puts_signed, puts_plain}
use Rattle.wrap_rows.proofs.trunc.Trunc.put.Goals as goal

pub returns-then-self : goal.returns-then-self
returns-then-self c =
    let trunc = c.args.self.now in
    let point = c.args.point.now in
    let x : to_z w128 (of_z w128 c.number-number.result) ≡ number trunc point = search (rules, to_z-of_z) in
    let m : to_z w128 (of_z w128 c.mark_of-mark.result) ≡ mark_of (is_marked trunc.a point || barred trunc point) = search (rules, to_z-of_z) in
    let q : to_z w128 (of_z w128 c.carry-carry.result) ≡ carry trunc point = search (rules, to_z-of_z) in
    let s : to_z w128 (of_z w128 c.sign_of-sign.result) ≡ sign_of trunc.from (number_at point trunc.a.number) = search (rules, to_z-of_z) in
    puts_signed trunc.flags.nsw trunc c.args.first point _ _ _ _ c.if-self.true s q
    ∙ ap₂ (λ u v. put_from c.args.first (u ∷ v ∷ helper_numbers trunc.flags.nsw trunc point) point) x m

pub returns-else-self : goal.returns-else-self
returns-else-self c =
    let trunc = c.args.self.now in
    let point = c.args.point.now in
    let x : to_z w128 (of_z w128 c.number-number.result) ≡ number trunc point = search (rules, to_z-of_z) in
    let m : to_z w128 (of_z w128 c.mark_of-mark.result) ≡ mark_of (is_marked trunc.a point || barred trunc point) = search (rules, to_z-of_z) in
    let q : to_z w128 (of_z w128 c.carry-carry.result) ≡ carry trunc point = search (rules, to_z-of_z) in
    puts_plain trunc.flags.nsw trunc c.args.first point _ _ _ c.if-self.false q
    ∙ ap₂ (λ u v. put_from c.args.first (u ∷ v ∷ helper_numbers trunc.flags.nsw trunc point) point) x m
