use Rattle.std.proofs.Common.{◌+◌, [], ◌∷◌, List, drop, map, sym, ◌∙◌, ap, subst, All, arith}
use Rattle.std.proofs.lemmas.List.{take_all, drop_all}
use Rattle.std.proofs.lemmas.List.Elements.{All-nil}
use Rattle.mix_system.specs.declared.literal.Lit.{Lit}
use Rattle.mix_system.specs.Lit.{negation}
use Rattle.proof_term.specs.Steps.{StaysWithin, negation_step}
use Rattle.box_check.specs.Bounds.{Stands}
use Rattle.open_levels.proofs.AddsLaws.{Stands-same, adding_start, adding_next, adding_end}
use Rattle.open_levels.proofs.ShownLaws.{left_negation, stays_more, first_negation}
use Rattle.open_levels.proofs.lemma.assume.Goals as goal

pub loop-lit-init : goal.loop-lit-init
loop-lit-init c = record { adding = adding_start Stands Stands-same (map negation c.args.clause.now) c.args.bounds.now; steps = All-nil StaysWithin; over = c.requires.over }

pub returns-in-Err-clause-steps : goal.returns-in-Err-clause-steps
returns-in-Err-clause-steps c =
    first_negation c.args.clause.now c.loop-lit.lit-index _ c.loop-lit-test.true c.in-Err.excess c.loop-lit.invariant.steps c.in-Err.ensures.excess c.in-Err.ensures.overflows

pub loop-lit-preserved : goal.loop-lit-preserved
loop-lit-preserved c =
    let clause = c.args.clause.now in
    let i = c.loop-lit.lit-index in
    let rest = map negation (drop (i + 1) clause) in
    let left = left_negation clause i _ c.loop-lit-test.true ∙ ap (λ (lit : Lit). lit ∷ rest) (sym c.in-Ok.ensures.value) in
    record {
      adding = adding_next Stands Stands-same (map negation clause) (map negation (drop i clause)) (c.in-Ok.opposite ∷ []) rest c.args.bounds.now c.loop-lit.bounds c.put_one.new.bounds left
          c.loop-lit.invariant.adding c.in_ok-put_one-in-Ok.ensures.adds;
      steps = stays_more clause i _ c.loop-lit-test.true c.loop-lit.invariant.steps c.in-Ok.ensures.stays;
      over = c.in_ok-put_one-in-Ok.ensures.over;
    }

pub returns-clause-adds : goal.returns-clause-adds
returns-clause-adds c =
    let clause = c.args.clause.now in
    let i = c.loop-lit.lit-index in
    adding_end Stands Stands-same (map negation clause) (map negation (drop i clause)) c.args.bounds.now c.loop-lit.bounds (ap (λ (lits : List Lit). map negation lits) (drop_all i clause (omega arith))) c.loop-lit.invariant.adding

pub returns-clause-steps : goal.returns-clause-steps
returns-clause-steps c =
    let clause = c.args.clause.now in
    let i = c.loop-lit.lit-index in
    subst (λ (lits : List Lit). All StaysWithin (map negation_step lits)) (take_all i clause (omega arith)) c.loop-lit.invariant.steps
