use Rattle.std.proofs.Common.{◌∙◌, [], take, get_or, sym, subst, List, All, arith}
use Rattle.std.specs.Prelude.{Contains}
use Rattle.std.proofs.lemmas.Bool.{false≢true}
use Rattle.std.proofs.lemmas.List.{take_all, take_more}
use Rattle.std.proofs.lemmas.List.Elements.{All-push}
use Rattle.std.proofs.lemmas.Option.{get_or_from_slice_get}
use Rattle.mix_system.specs.declared.literal.Lit.{Lit}
use Rattle.bound_trail.specs.Trail.{box}
use Rattle.clause_search.specs.Settled.{HasTrue}
use Rattle.mixed_solver.proofs.ChoiceLaws.{may_decide, not_all_false}
use Rattle.mixed_solver.proofs.mixed.Mixed.choice.Goals as goal

pub loop-at-preserved-then-has_true : goal.loop-at-preserved-then-has_true
loop-at-preserved-then-has_true c =
    let clauses = c.args.self.now.level.system.now.clauses in
    let at = c.loop-at.at in
    let P : List Lit → Type 0 = HasTrue (box c.args.self.now.level.search.trail) in
    let same = get_or_from_slice_get clauses at c.clause-clause.result.now [] c.clause-clause.ensures.lits in
    subst (All P) (sym (take_more clauses at [] (omega (arith, c.loop-at-test.true, c.clauses-at-end.ensures.count))))
    (All-push P (take at clauses) (get_or clauses at []) c.loop-at.invariant (subst P (sym same) (c.has_true.ensures.0 c.if-has_true.true)))

pub returns-in-Some : goal.returns-in-Some
returns-in-Some c =
    let it = c.args.self.now in
    let clauses = it.level.system.now.clauses in
    let clause = c.clause-clause.result.now in
    let same = get_or_from_slice_get clauses c.loop-at.at clause clause c.clause-clause.ensures.lits in
    let among : Contains clauses clause = (c.loop-at.at, omega (arith, c.loop-at-test.true, c.clauses-at-end.ensures.count), same) in
    may_decide it c.requires.mixed c.requires.quiet clause among c.clause-clause.ensures.well_formed (λ has. absurd (false≢true (sym c.if-has_true.false ∙ c.has_true.ensures.1 has))) c.in-Some.lit c.in-Some.ensures.0 c.in-Some.ensures.1
    c.in_ok-towards_value.field-0 c.in_ok-towards_value.ensures

pub loop-at-preserved : goal.loop-at-preserved
loop-at-preserved c =
    let it = c.args.self.now in
    let clauses = it.level.system.now.clauses in
    let clause = c.clause-clause.result.now in
    let same = get_or_from_slice_get clauses c.loop-at.at clause clause c.clause-clause.ensures.lits in
    let among : Contains clauses clause = (c.loop-at.at, omega (arith, c.loop-at-test.true, c.clauses-at-end.ensures.count), same) in
    absurd (not_all_false it c.requires.mixed c.requires.quiet clause among (λ has. absurd (false≢true (sym c.if-has_true.false ∙ c.has_true.ensures.1 has))) c.in_default.ensures)

pub returns : goal.returns
returns c =
    let clauses = c.args.self.now.level.system.now.clauses in
    subst (All (HasTrue (box c.args.self.now.level.search.trail))) (take_all c.loop-at.at clauses (omega (arith, c.loop-at-test.false, c.clauses-at-end.ensures.count))) c.loop-at.invariant
