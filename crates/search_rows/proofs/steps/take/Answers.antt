use Rattle.std.proofs.Common.{◌≡◌, [], ◌∷◌, ◌++◌, refl, subst}
use Rattle.search_rows.proofs.RunLaws.{known_taken}
use Rattle.search_rows.proofs.steps.take.Goals as goal

pub returns : goal.returns
returns c =
    let back = c.back_to.new.self in
    let added = subst (λ lits. c.add_clause.new.self ≡ record back { store = back.store ++ lits ∷ [] }) c.items.ensures c.in_ok-number.ensures.ok in
    known_taken c.args.run.now _ back c.args.lits.now c.args.level c.levels-levels.ensures.trail c.requires.known c.requires.learnt.asserting c.back_to.ensures.store c.back_to.ensures.trail added refl refl refl
