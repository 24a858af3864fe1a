use Rattle.mixed_solver.proofs.FreshLaws.{refuted_goes}
use Rattle.std.proofs.Common.{sym, subst}
use Rattle.level_search.specs.declared.level.LevelSearch.{LevelSearch}
use Rattle.mixed_solver.specs.declared.solving.Turn.{Turn}
use Rattle.mixed_solver.specs.Mixed.{GoesOn}
use Rattle.mixed_solver.specs.Turns.{Comes, turned}
use Rattle.mixed_solver.proofs.MixedLaws.{refuted_stays, still_bounds}
use Rattle.mixed_solver.proofs.TurnLaws.{refuted_comes}
use Rattle.mixed_solver.proofs.RefutedLaws.{tree_refutes_trail, tree_names, tree_numbers, tree_exact}
use Rattle.mixed_solver.proofs.mixed.Mixed.refuted.Goals as goal

pub refuted-requires-clause-refutes : goal.refuted-requires-clause-refutes
refuted-requires-clause-refutes c = tree_refutes_trail c.args.self.now c.requires.mixed c.requires.put c.args.tree c.requires.tree

pub refuted-requires-clause-names : goal.refuted-requires-clause-names
refuted-requires-clause-names c = tree_names c.args.self.now c.requires.mixed c.requires.put c.args.tree c.requires.tree

pub refuted-requires-clause-numbers : goal.refuted-requires-clause-numbers
refuted-requires-clause-numbers c = tree_numbers c.args.self.now c.requires.mixed c.requires.put c.args.tree c.requires.tree

pub refuted-requires-clause-exact : goal.refuted-requires-clause-exact
refuted-requires-clause-exact c = tree_exact c.args.self.now c.requires.mixed c.requires.put c.args.tree c.requires.tree

pub give_back-requires-clause-bounds : goal.give_back-requires-clause-bounds
give_back-requires-clause-bounds c =
    let it = c.args.self.now in
    let new = c.refuted.new.level in
    still_bounds it c.requires.mixed new (refuted_stays it new c.in_ok-learning.learning c.requires.mixed c.trail-trail.ensures.trail c.in_ok-learning.ensures)

pub give_back-requires-clause-ground : goal.give_back-requires-clause-ground
give_back-requires-clause-ground c =
    (refuted_stays c.args.self.now c.refuted.new.level c.in_ok-learning.learning c.requires.mixed c.trail-trail.ensures.trail c.in_ok-learning.ensures).ground

pub returns-clause-goes_on : goal.returns-clause-goes_on
returns-clause-goes_on c =
    let it = c.args.self.now in
    subst (GoesOn it.level) (sym c.give_back.ensures.level)
    (refuted_goes it c.requires.mixed c.trail-trail.ensures.trail c.refuted.new.level c.in_ok-learning.learning c.requires.quiet c.in_ok-learning.ensures)

pub returns-clause-comes : goal.returns-clause-comes
returns-clause-comes c =
    let it = c.args.self.now in
    let new = c.refuted.new.level in
    let given = c.give_back.new.self in
    let learning = c.in_ok-learning.learning in
    let stays = refuted_stays it new learning c.requires.mixed c.trail-trail.ensures.trail c.in_ok-learning.ensures in
    let comes = refuted_comes it new given.bounds learning c.requires.mixed stays c.in_ok-learning.ensures c.give_back.ensures.bounds c.give_back.ensures.ground in
    subst (λ (t : Turn). Comes t given) (sym c.turned.ensures)
    (subst (λ (l : LevelSearch). Comes (turned learning) (record { level = l; bounds = given.bounds })) (sym c.give_back.ensures.level) comes)
