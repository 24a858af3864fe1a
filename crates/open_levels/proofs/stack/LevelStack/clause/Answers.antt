use Rattle.std.proofs.Common.{◌≡◌, ◌≤◌, ◌<◌, false, true, get_or, Some, sym, ◌∙◌, ap, arith}
use Rattle.proof_term.specs.Levels.{clause_of}
use Rattle.open_levels.specs.Flat.{blank}
use Rattle.open_levels.proofs.ShownLaws.{at_none}
use Rattle.open_levels.proofs.StackLaws.{available_is, none_named, own_named, cut_named, other_named}
use Rattle.open_levels.proofs.stack.LevelStack.clause.Goals as goal

pub returns-in_default : goal.returns-in_default
returns-in_default c =
    let it = c.self.inside in
    let all = at_none _ c.place.result c.in_default.not-Some c.place.ensures.found in
    rw (← c.self.view_is) (ap (clause_of c.args.number) (available_is it.steps it.last it.around.items c.self.invariant.nested) ∙ none_named it.steps it.last.from c.args.number all)

pub returns-then-at-self : goal.returns-then-at-self
returns-then-at-self c =
    let it = c.self.inside in
    let behind : it.last.from ≤ c.in-Some.at = omega (arith, c.if-at-self.true) in
    rw (← c.self.view_is) (ap (clause_of c.args.number) (available_is it.steps it.last it.around.items c.self.invariant.nested)
    ∙ own_named it.steps it.last.from c.args.number c.in-Some.ensures.rising c.in-Some.at c.in-Some.ensures.found c.self.invariant.nested.0 behind ∙ ap Some (sym c.clause.ensures))

pub returns-then-not-is_cut : goal.returns-then-not-is_cut
returns-then-not-is_cut c =
    let it = c.self.inside in
    let before : c.in-Some.at < it.last.from = omega (arith, c.if-at-self.false) in
    let other : (get_or it.steps c.in-Some.at blank).is_cut ≡ false = sym c.is_cut.ensures ∙ c.if-not-is_cut.true in
    rw (← c.self.view_is) (ap (clause_of c.args.number) (available_is it.steps it.last it.around.items c.self.invariant.nested)
    ∙ other_named it.steps it.last.from c.args.number c.in-Some.ensures.rising c.in-Some.at c.in-Some.ensures.found c.self.invariant.nested.0 before other)

pub returns : goal.returns
returns c =
    let it = c.self.inside in
    let before : c.in-Some.at < it.last.from = omega (arith, c.if-at-self.false) in
    let cut : (get_or it.steps c.in-Some.at blank).is_cut ≡ true = sym c.is_cut.ensures ∙ c.if-not-is_cut.false in
    rw (← c.self.view_is) (ap (clause_of c.args.number) (available_is it.steps it.last it.around.items c.self.invariant.nested)
    ∙ cut_named it.steps it.last.from c.args.number c.in-Some.ensures.rising c.in-Some.at c.in-Some.ensures.found c.self.invariant.nested.0 before cut ∙ ap Some (sym c.clause-2.ensures))
