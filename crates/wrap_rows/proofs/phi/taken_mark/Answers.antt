use Rattle.std.proofs.Common.{◌≡◌, ◌∙◌, sym, true, get_or, rules, to_z, of_z}
use Rattle.std.specs.Int.{w128}
use Rattle.std.proofs.lemmas.Int.{to_z-of_z}
use Rattle.mix_system.specs.Row.{number_at}
use Rattle.wrap_rows.specs.declared.phi.Incoming.{Incoming}
use Rattle.wrap_rows.specs.Phi.{is_taken}
use Rattle.wrap_rows.proofs.PhiLaws.{mark_here}
use Rattle.wrap_rows.proofs.phi.taken_mark.Goals as goal

pub returns-then-point-one-eq1 : goal.returns-then-point-one-eq1
returns-then-point-one-eq1 c =
    let point = c.args.point.now in
    let none : Incoming = record { edge = 0; value = record { number = 0; mark = 0 } } in
    let one = get_or c.args.incoming.now c.loop-one.one-index none in
    let taken : is_taken point one ≡ true = search rules in
    let same : to_z w128 (of_z w128 (number_at point one.value.mark)) ≡ number_at point one.value.mark = search (rules, to_z-of_z) in
    same ∙ sym (mark_here point c.args.incoming.now c.loop-one.one-index none c.loop-one-test.true taken) ∙ c.loop-one.invariant
