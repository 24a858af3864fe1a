use Rattle.std.proofs.Common.{◌≡◌, ℕ, [], ◌∷◌, ◌++◌, length, Some, refl, sym, ap, ◌∙◌, subst, inl, inr}
use Rattle.std.specs.Prelude.{slice_get}
use Rattle.bound_trail.specs.Trail.{box}
use Rattle.clause_search.specs.Search.{present_level}
use Rattle.clause_search.specs.Settled.{IsSettled}
use Rattle.clause_search.specs.Watched.{AreListed, Stands, AreWatched}
use Rattle.clause_search.proofs.WatchLaws.{watched_adds, watched_next}
use Rattle.clause_search.proofs.VisitLaws.{some_same}
use Rattle.clause_search.proofs.watches.Watches.watch.Goals as goal

pub returns-in_err-list_pair-clause-right : goal.returns-in_err-list_pair-clause-right
returns-in_err-list_pair-clause-right c =
    let it = c.args.self.now in
    watched_adds c.args.known.now it.lists c.list_pair.new.lists it.pairs.items it.head it.base c.in_err-list_pair.ensures.adds c.requires.right

pub returns-in_err-push-clause-right : goal.returns-in_err-push-clause-right
returns-in_err-push-clause-right c =
    let it = c.args.self.now in
    let same : c.push.new.self.items ≡ it.pairs.items = c.in_err-push.ensures.items in
    subst (λ xs. AreWatched c.args.known.now c.list_pair.new.lists xs it.head it.base) (sym same)
    (watched_adds c.args.known.now it.lists c.list_pair.new.lists it.pairs.items it.head it.base c.in_ok-list_pair.ensures.adds c.requires.right)

pub returns-then-not-were_left-clause-right : goal.returns-then-not-were_left-clause-right
returns-then-not-were_left-clause-right c =
    let state = c.args.known.now in
    let it = c.args.self.now in
    let pair = c.latest_two-pair.result in
    let clause = c.clause-clause.result.now in
    let pairs = it.pairs.items in
    let lists = c.list_pair.new.lists in
    let next = c.requires.next in
    let among : slice_get state.store (length pairs) ≡ Some clause = subst (λ (n : ℕ). slice_get state.store n ≡ Some clause) next c.clause-clause.ensures.lits in
    let here = c.requires.settled in
    let settled : IsSettled (box state.trail) clause = subst (IsSettled (box state.trail)) (some_same here.clause clause (sym here.among ∙ c.clause-clause.ensures.lits)) here.settled in
    let listed : AreListed (length state.trail.ranges) lists (length pairs) clause pair = subst (λ (n : ℕ). AreListed (length state.trail.ranges) lists n clause pair) next c.in_ok-list_pair.ensures.listed in
    let stands : Stands (box state.trail) (box state.trail) clause pair = c.latest_two-pair.ensures.stands settled in
    let pushed : c.push.new.self.items ≡ pairs ++ pair ∷ [] = c.in_ok-push.ensures.items in
    let right = watched_adds state it.lists lists pairs it.head it.base c.in_ok-list_pair.ensures.adds c.requires.right in
    let base : length c.levels.result.now ≡ present_level state = ap length c.levels.ensures.levels in
    subst (λ xs. AreWatched state lists xs it.head (length c.levels.result.now)) (sym pushed)
    (watched_next state lists pairs it.head it.base (length c.levels.result.now) clause pair among listed stands (inr base) right)

pub returns-else-not-were_left-clause-right : goal.returns-else-not-were_left-clause-right
returns-else-not-were_left-clause-right c =
    let state = c.args.known.now in
    let it = c.args.self.now in
    let pair = c.latest_two-pair.result in
    let clause = c.clause-clause.result.now in
    let pairs = it.pairs.items in
    let lists = c.list_pair.new.lists in
    let next = c.requires.next in
    let among : slice_get state.store (length pairs) ≡ Some clause = subst (λ (n : ℕ). slice_get state.store n ≡ Some clause) next c.clause-clause.ensures.lits in
    let here = c.requires.settled in
    let settled : IsSettled (box state.trail) clause = subst (IsSettled (box state.trail)) (some_same here.clause clause (sym here.among ∙ c.clause-clause.ensures.lits)) here.settled in
    let listed : AreListed (length state.trail.ranges) lists (length pairs) clause pair = subst (λ (n : ℕ). AreListed (length state.trail.ranges) lists n clause pair) next c.in_ok-list_pair.ensures.listed in
    let stands : Stands (box state.trail) (box state.trail) clause pair = c.latest_two-pair.ensures.stands settled in
    let pushed : c.push.new.self.items ≡ pairs ++ pair ∷ [] = c.in_ok-push.ensures.items in
    let right = watched_adds state it.lists lists pairs it.head it.base c.in_ok-list_pair.ensures.adds c.requires.right in
    subst (λ xs. AreWatched state lists xs it.head it.base) (sym pushed)
    (watched_next state lists pairs it.head it.base it.base clause pair among listed stands (inl (λ level below. c.were_left.ensures c.if-not-were_left.false level below, refl)) right)
