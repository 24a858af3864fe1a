use Rattle.std.proofs.Common.{◌++◌, map, All}
use Rattle.mix_system.specs.Lit.{negation}
use Rattle.proof_term.specs.Levels.{known}
use Rattle.proof_term.specs.Steps.{StaysWithin, negation_step}
use Rattle.box_check.proofs.BoundsLaws.{Extends_more}
use Rattle.open_levels.specs.Adds.{Adds}
use Rattle.open_levels.specs.Stack.{levels_of}
use Rattle.open_levels.proofs.ShownLaws.{known_named, named_slots, shown_is, keeps_same, at_none}
use Rattle.open_levels.proofs.lemma.follow_hints.Goals as goal

pub propagates-requires : goal.propagates-requires
propagates-requires c =
    let available = c.args.available.now in
    record {
      slots = λ number clause is.
          named_slots available.system.now c.assume.new.bounds clause c.in_ok-excess.ensures.over
          (known_named available.system.now available.stack.now.last available.stack.now.enclosing c.requires.formed c.requires.last c.requires.enclosing number clause is);
    }

pub returns-clause-exact : goal.returns-clause-exact
returns-clause-exact c = λ box stands.
    let available = c.args.available.now in
    let adds : Adds (map negation c.args.clause.now) c.args.bounds.now c.assume.new.bounds = at_none _ c.in_ok-excess.field-0 c.in_default.not-Some c.in_ok-excess.ensures.adds in
    let steps : All StaysWithin (map negation_step c.args.clause.now) = at_none _ c.in_ok-excess.field-0 c.in_default.not-Some c.in_ok-excess.ensures.steps in
    let exact = c.in_ok-follows.ensures.exact (map negation c.args.clause.now ++ box) (adds.stands box stands) in
    rw c.shown_by.ensures
    (shown_is c.args.clause.now c.args.hints.now box (known available.system.now (levels_of available.stack.now.last available.stack.now.enclosing)) c.in_ok-follows.follows steps exact)

pub returns-clause-keeps : goal.returns-clause-keeps
returns-clause-keeps c =
    let adds : Adds (map negation c.args.clause.now) c.args.bounds.now c.assume.new.bounds = at_none _ c.in_ok-excess.field-0 c.in_default.not-Some c.in_ok-excess.ensures.adds in
    let extends = Extends_more c.args.bounds.now c.assume.new.bounds c.propagates.new.bounds adds.extends c.in_ok-follows.ensures.extends in
    rw c.shown_by.ensures (keeps_same c.in_ok-follows.follows c.args.bounds.now c.back_to.new.self (c.back_to.ensures c.args.bounds.now extends c.mark-mark.ensures))
