use Rattle.std.proofs.Common.{take, get_or, sym, subst, All, arith}
use Rattle.std.proofs.lemmas.List.{take_all, take_more}
use Rattle.std.proofs.lemmas.List.Elements.{All-push}
use Rattle.mix_system.specs.declared.literal.Lit.{Lit}
use Rattle.mix_system.specs.Bounds.{IsFalseIn}
use Rattle.bound_trail.specs.Trail.{box}
use Rattle.trail_bounds.proofs.BoundsLaws.{blank}
use Rattle.mixed_solver.proofs.mixed.Mixed.first_open.Goals as goal

pub loop-lit-preserved : goal.loop-lit-preserved
loop-lit-preserved c =
    let lits = c.args.clause.now in
    let i = c.loop-lit.lit-index in
    let P : Lit → Type 0 = IsFalseIn (box c.args.self.now.level.search.trail) in
    subst (All P) (sym (take_more lits i blank c.loop-lit-test.true)) (All-push P (take i lits) (get_or lits i blank) c.loop-lit.invariant (c.is_false.ensures.0 c.if-not-is_false.false))

pub returns : goal.returns
returns c =
    let lits = c.args.clause.now in
    subst (All (IsFalseIn (box c.args.self.now.level.search.trail))) (take_all c.loop-lit.lit-index lits (omega (arith, c.loop-lit-test.false))) c.loop-lit.invariant
