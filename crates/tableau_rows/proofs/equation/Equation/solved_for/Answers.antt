use Rattle.std.proofs.Common.{◌≡◌, ◌≢◌, pos, neg_ℤ, map, true, false, FitsSigned, sym, ap, ◌∙◌, rules, arith}
use Rattle.std.specs.Int.{w128}
use Rattle.std.proofs.lemmas.Int.{ints, to_z-of_z}
use Rattle.tableau_rows.specs.Turning.{turned_entry}
use Rattle.tableau_rows.proofs.TurnLaws.{turned_solved, turned_multiple}
use Rattle.tableau_rows.proofs.equation.Equation.solved_for.Goals as goal

pub invariant_of-result : goal.invariant_of-result
invariant_of-result c =
    let e = c.args.self.now in
    let fits : FitsSigned w128 c.coefficient-coeff.result = search rules in
    let made : c.in-Ok.entries.items ≡ map (turned_entry true) c.deref.result.now = search rules in
    let is = rw c.deref.ensures.value at made in
    record {
      sound = turned_solved true e.entries.items _ c.args.column _ is e.sound.sparse e.sound.reduced (omega (arith, ints)) (ap neg_ℤ (sym c.coefficient-coeff.ensures) ∙ omega (arith, ints));
    }

pub returns-in-Ok-clause-multiple : goal.returns-in-Ok-clause-multiple
returns-in-Ok-clause-multiple c =
    let e = c.args.self.now in
    let made : c.in-Ok.entries.items ≡ map (turned_entry true) c.deref.result.now = search rules in
    let is = rw c.deref.ensures.value at made in
    turned_multiple true e _ is

pub invariant_of-result-in-Ok-2 : goal.invariant_of-result-in-Ok-2
invariant_of-result-in-Ok-2 c =
    let e = c.args.self.now in
    let fits : FitsSigned w128 c.coefficient-coeff.result = search rules in
    let denominator_fits : FitsSigned w128 c.in-Ok-sub.denominator = search rules in
    let made : c.in-Ok-2.entries.items ≡ map (turned_entry false) c.deref-2.result.now = search rules in
    let is = rw c.deref-2.ensures.value at made in
    let value = simp to_z-of_z at c.in-Ok-sub.ensures.value in
    let nonzero : c.coefficient-coeff.result ≢ pos 0 = (λ zero. c.requires (sym c.coefficient-coeff.ensures ∙ zero)) in
    record {
      sound = turned_solved false e.entries.items _ c.args.column _ is e.sound.sparse e.sound.reduced (omega (arith, ints, value, nonzero)) (sym c.coefficient-coeff.ensures ∙ omega (arith, ints, value));
    }

pub returns-in-Ok-2-clause-multiple : goal.returns-in-Ok-2-clause-multiple
returns-in-Ok-2-clause-multiple c =
    let e = c.args.self.now in
    let made : c.in-Ok-2.entries.items ≡ map (turned_entry false) c.deref-2.result.now = search rules in
    let is = rw c.deref-2.ensures.value at made in
    turned_multiple false e _ is
