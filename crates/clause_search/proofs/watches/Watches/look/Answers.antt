use Rattle.std.proofs.Common.{◌≡◌, ◌+◌, ◌<◌, length, refl, sym, ap, ◌∙◌, subst, rules, arith}
use Rattle.std.proofs.lemmas.Option.{slice_get_within}
use Rattle.std.proofs.lemmas.List.{length-set}
use Rattle.bound_trail.specs.Edges.{place_of, blank_lit}
use Rattle.bound_trail.specs.Trail.{Trail, box}
use Rattle.clause_search.specs.Settled.{IsLeftAt}
use Rattle.clause_search.specs.Passed.{IsSettledAt, Settles}
use Rattle.clause_search.specs.Watched.{list_at, lit_of}
use Rattle.clause_search.specs.Visited.{AreFalseBut, IsPartner, IsDone}
use Rattle.clause_search.specs.declared.watch_lists.Watcher.{Watcher}
use Rattle.clause_search.proofs.PropagationLaws.{propagated_none}
use Rattle.clause_search.proofs.WatchLaws.{watched_propagated}
use Rattle.clause_search.proofs.VisitLaws.{IsKnown, IsFree, are_done_next, are_done_propagated, partner_known, partner_number, true_at, done_true, hold_at, settled_done, moved_right, moved_visits, free_done}
use Rattle.clause_search.proofs.watches.Watches.look.Goals as goal

pub offset_bounds-clause-other : goal.offset_bounds-clause-other
offset_bounds-clause-other c =
    let state = c.args.known.now in
    let it = c.args.self.now in
    let lost = c.get-watcher.result in
    let lists = it.lists in
    let list = c.args.list in
    let at = c.args.at in
    let key = c.args.key.now in
    let clause = c.clause-clause.result.now in
    let among = c.clause-clause.ensures.lits in
    let partner : IsPartner it.pairs.items lost c.args.other = subst (λ (x : Watcher). IsPartner it.pairs.items x c.args.other) (sym c.get-watcher.ensures) (c.requires.partner lost) in
    let known : IsKnown state lists it.pairs.items it.head it.base lost.number lost.at c.args.other clause = partner_known state lists it.pairs.items it.head it.base lost c.args.other clause c.requires.right partner among in
    let within = known.within in
    let below : c.args.other < length clause = within in
    search rules

pub bounds-clause-other : goal.bounds-clause-other
bounds-clause-other c =
    let state = c.args.known.now in
    let it = c.args.self.now in
    let lost = c.get-watcher.result in
    let lists = it.lists in
    let list = c.args.list in
    let at = c.args.at in
    let key = c.args.key.now in
    let clause = c.clause-clause.result.now in
    let among = c.clause-clause.ensures.lits in
    let partner : IsPartner it.pairs.items lost c.args.other = subst (λ (x : Watcher). IsPartner it.pairs.items x c.args.other) (sym c.get-watcher.ensures) (c.requires.partner lost) in
    let known : IsKnown state lists it.pairs.items it.head it.base lost.number lost.at c.args.other clause = partner_known state lists it.pairs.items it.head it.base lost c.args.other clause c.requires.right partner among in
    let within = known.within in
    within

pub is_true-requires : goal.is_true-requires
is_true-requires c =
    let state = c.args.known.now in
    let it = c.args.self.now in
    let lost = c.get-watcher.result in
    let lists = it.lists in
    let list = c.args.list in
    let at = c.args.at in
    let key = c.args.key.now in
    let clause = c.clause-clause.result.now in
    let among = c.clause-clause.ensures.lits in
    let partner : IsPartner it.pairs.items lost c.args.other = subst (λ (x : Watcher). IsPartner it.pairs.items x c.args.other) (sym c.get-watcher.ensures) (c.requires.partner lost) in
    let known : IsKnown state lists it.pairs.items it.head it.base lost.number lost.at c.args.other clause = partner_known state lists it.pairs.items it.head it.base lost c.args.other clause c.requires.right partner among in
    let within = known.within in
    c.clause-clause.ensures.clause.known c.args.other blank_lit within

pub returns-then-is_true-clause-goes : goal.returns-then-is_true-clause-goes
returns-then-is_true-clause-goes c = record {
  propagated = propagated_none c.args.known.now c.args.tally.now;
  right = c.requires.right;
  same_head = refl;
  same_count = refl;
}

pub returns-then-is_true-clause-visits : goal.returns-then-is_true-clause-visits
returns-then-is_true-clause-visits c =
    let state = c.args.known.now in
    let it = c.args.self.now in
    let lost = c.get-watcher.result in
    let lists = it.lists in
    let list = c.args.list in
    let at = c.args.at in
    let key = c.args.key.now in
    let clause = c.clause-clause.result.now in
    let among = c.clause-clause.ensures.lits in
    let partner : IsPartner it.pairs.items lost c.args.other = subst (λ (x : Watcher). IsPartner it.pairs.items x c.args.other) (sym c.get-watcher.ensures) (c.requires.partner lost) in
    let known : IsKnown state lists it.pairs.items it.head it.base lost.number lost.at c.args.other clause = partner_known state lists it.pairs.items it.head it.base lost c.args.other clause c.requires.right partner among in
    let within = known.within in
    let done = done_true state (it.head + 1) key lost clause among (true_at (box state.trail) clause c.args.other blank_lit within (c.is_true.ensures.0 c.if-is_true.true)) in (
      refl,
      are_done_next state (it.head + 1) key (list_at lists list) at c.requires.visiting.done
          (hold_at (IsDone state (it.head + 1) key) (list_at lists list) at lost c.requires.within c.get-watcher.ensures done),
    )

pub settle-requires : goal.settle-requires
settle-requires c =
    let state = c.args.known.now in
    let it = c.args.self.now in
    let lost = c.get-watcher.result in
    let lists = it.lists in
    let list = c.args.list in
    let at = c.args.at in
    let key = c.args.key.now in
    let clause = c.clause-clause.result.now in
    let among = c.clause-clause.ensures.lits in
    let partner : IsPartner it.pairs.items lost c.args.other = subst (λ (x : Watcher). IsPartner it.pairs.items x c.args.other) (sym c.get-watcher.ensures) (c.requires.partner lost) in
    partner_number state lists it.pairs.items it.head it.base lost c.args.other c.requires.right partner

pub returns-in_default-2-clause-right : goal.returns-in_default-2-clause-right
returns-in_default-2-clause-right c =
    let state = c.args.known.now in
    let it = c.args.self.now in
    let lost = c.get-watcher.result in
    let lists = it.lists in
    let list = c.args.list in
    let at = c.args.at in
    let key = c.args.key.now in
    let new = c.settle.new.self in
    let p = c.in_ok-spread.ensures.propagated in
    watched_propagated state new c.args.tally.now c.settle.new.tally lists it.pairs.items it.head it.base c.clause-clause.ensures.trail p c.requires.right

pub returns-in_default-2-clause-goes : goal.returns-in_default-2-clause-goes
returns-in_default-2-clause-goes c =
    let state = c.args.known.now in
    let it = c.args.self.now in
    let lost = c.get-watcher.result in
    let lists = it.lists in
    let list = c.args.list in
    let at = c.args.at in
    let key = c.args.key.now in
    let new = c.settle.new.self in
    let p = c.in_ok-spread.ensures.propagated in
    record {
      propagated = p;
      right = watched_propagated state new c.args.tally.now c.settle.new.tally lists it.pairs.items it.head it.base c.clause-clause.ensures.trail p c.requires.right;
      same_head = refl;
      same_count = refl;
    }

pub returns-in_default-2-clause-visits : goal.returns-in_default-2-clause-visits
returns-in_default-2-clause-visits c =
    let state = c.args.known.now in
    let it = c.args.self.now in
    let lost = c.get-watcher.result in
    let lists = it.lists in
    let list = c.args.list in
    let at = c.args.at in
    let key = c.args.key.now in
    let clause = c.clause-clause.result.now in
    let among = c.clause-clause.ensures.lits in
    let partner : IsPartner it.pairs.items lost c.args.other = subst (λ (x : Watcher). IsPartner it.pairs.items x c.args.other) (sym c.get-watcher.ensures) (c.requires.partner lost) in
    let new = c.settle.new.self in
    let p = c.in_ok-spread.ensures.propagated in
    let settled : IsSettledAt new lost.number = subst (λ stop. Settles stop lost.number new c.settle.new.tally) c.in_default-2.is c.in_ok-spread.ensures.settles in
    let all : AreFalseBut (box state.trail) clause c.args.other (length clause) = subst (λ (t : Trail). AreFalseBut (box t) clause c.args.other (length clause)) c.bounds.ensures.trail c.in_default.ensures in
    let done = settled_done state new c.args.tally.now c.settle.new.tally (it.head + 1) key lost clause c.args.other p among all settled in
    let before = are_done_propagated state new c.args.tally.now c.settle.new.tally (it.head + 1) key (list_at lists list) at (omega (arith, c.requires.visiting.behind)) p c.requires.visiting.done in (
      refl,
      are_done_next new (it.head + 1) key (list_at lists list) at before
          (hold_at (IsDone new (it.head + 1) key) (list_at lists list) at lost c.requires.within c.get-watcher.ensures done),
    )

pub returns-in_default-clause-right : goal.returns-in_default-clause-right
returns-in_default-clause-right c =
    let state = c.args.known.now in
    let it = c.args.self.now in
    let lost = c.get-watcher.result in
    let lists = it.lists in
    let list = c.args.list in
    let at = c.args.at in
    let key = c.args.key.now in
    let new = c.settle.new.self in
    let p = c.in_ok-spread.ensures.propagated in
    watched_propagated state new c.args.tally.now c.settle.new.tally lists it.pairs.items it.head it.base c.clause-clause.ensures.trail p c.requires.right

pub returns-in_default-clause-goes : goal.returns-in_default-clause-goes
returns-in_default-clause-goes c =
    let state = c.args.known.now in
    let it = c.args.self.now in
    let lost = c.get-watcher.result in
    let lists = it.lists in
    let list = c.args.list in
    let at = c.args.at in
    let key = c.args.key.now in
    let new = c.settle.new.self in
    let p = c.in_ok-spread.ensures.propagated in
    record {
      propagated = p;
      right = watched_propagated state new c.args.tally.now c.settle.new.tally lists it.pairs.items it.head it.base c.clause-clause.ensures.trail p c.requires.right;
      same_head = refl;
      same_count = refl;
    }

pub move_to-requires-clause-number : goal.move_to-requires-clause-number
move_to-requires-clause-number c =
    let state = c.args.known.now in
    let it = c.args.self.now in
    let lost = c.get-watcher.result in
    let lists = it.lists in
    let list = c.args.list in
    let at = c.args.at in
    let key = c.args.key.now in
    let clause = c.clause-clause.result.now in
    let among = c.clause-clause.ensures.lits in
    let partner : IsPartner it.pairs.items lost c.args.other = subst (λ (x : Watcher). IsPartner it.pairs.items x c.args.other) (sym c.get-watcher.ensures) (c.requires.partner lost) in
    let below = slice_get_within it.pairs.items lost.number partner.pair partner.paired in
    let number = ap (λ (x : Watcher). x.number) c.of-moved.ensures in
    omega arith

pub returns-clause-right : goal.returns-clause-right
returns-clause-right c =
    let state = c.args.known.now in
    let it = c.args.self.now in
    let lost = c.get-watcher.result in
    let lists = it.lists in
    let list = c.args.list in
    let at = c.args.at in
    let key = c.args.key.now in
    let clause = c.clause-clause.result.now in
    let among = c.clause-clause.ensures.lits in
    let partner : IsPartner it.pairs.items lost c.args.other = subst (λ (x : Watcher). IsPartner it.pairs.items x c.args.other) (sym c.get-watcher.ensures) (c.requires.partner lost) in
    let free = c.in-Some.free in
    let is_free : IsFree state clause c.args.other free = record {
      apart = c.in-Some.ensures.0;
      left = subst (λ (t : Trail). IsLeftAt (box t) clause free) c.bounds.ensures.trail c.in-Some.ensures.1;
    } in
    let target : c.place-target.result ≡ place_of (length state.trail.ranges) (lit_of clause free).term (lit_of clause free).side = subst (λ (t : Trail). c.place-target.result ≡ place_of (length t.ranges) (lit_of clause free).term (lit_of clause free).side) c.bounds-2.ensures.trail c.place-target.ensures.place in
    let moves = c.in_ok-visit.ensures.moves in
    let right = moved_right state it c.move_to.new.self c.in_ok-visit.visit list at c.place-target.result lost c.of-moved.result c.args.other free clause c.requires.right c.requires.within c.get-watcher.ensures partner among is_free c.of-moved.ensures target moves c.in_ok-visit.ensures.pairs c.in_ok-visit.ensures.head c.in_ok-visit.ensures.base in
    right

pub returns-clause-goes : goal.returns-clause-goes
returns-clause-goes c =
    let state = c.args.known.now in
    let it = c.args.self.now in
    let lost = c.get-watcher.result in
    let lists = it.lists in
    let list = c.args.list in
    let at = c.args.at in
    let key = c.args.key.now in
    let clause = c.clause-clause.result.now in
    let among = c.clause-clause.ensures.lits in
    let partner : IsPartner it.pairs.items lost c.args.other = subst (λ (x : Watcher). IsPartner it.pairs.items x c.args.other) (sym c.get-watcher.ensures) (c.requires.partner lost) in
    let free = c.in-Some.free in
    let is_free : IsFree state clause c.args.other free = record {
      apart = c.in-Some.ensures.0;
      left = subst (λ (t : Trail). IsLeftAt (box t) clause free) c.bounds.ensures.trail c.in-Some.ensures.1;
    } in
    let target : c.place-target.result ≡ place_of (length state.trail.ranges) (lit_of clause free).term (lit_of clause free).side = subst (λ (t : Trail). c.place-target.result ≡ place_of (length t.ranges) (lit_of clause free).term (lit_of clause free).side) c.bounds-2.ensures.trail c.place-target.ensures.place in
    let moves = c.in_ok-visit.ensures.moves in
    let right = moved_right state it c.move_to.new.self c.in_ok-visit.visit list at c.place-target.result lost c.of-moved.result c.args.other free clause c.requires.right c.requires.within c.get-watcher.ensures partner among is_free c.of-moved.ensures target moves c.in_ok-visit.ensures.pairs c.in_ok-visit.ensures.head c.in_ok-visit.ensures.base in
    record {
      propagated = propagated_none state c.args.tally.now;
      right = right;
      same_head = c.in_ok-visit.ensures.head;
      same_count = ap length c.in_ok-visit.ensures.pairs ∙ length-set it.pairs.items c.of-moved.result.number (record { first = c.args.other; second = c.of-moved.result.at });
    }

pub returns-clause-visits : goal.returns-clause-visits
returns-clause-visits c =
    let state = c.args.known.now in
    let it = c.args.self.now in
    let lost = c.get-watcher.result in
    let lists = it.lists in
    let list = c.args.list in
    let at = c.args.at in
    let key = c.args.key.now in
    let clause = c.clause-clause.result.now in
    let among = c.clause-clause.ensures.lits in
    let partner : IsPartner it.pairs.items lost c.args.other = subst (λ (x : Watcher). IsPartner it.pairs.items x c.args.other) (sym c.get-watcher.ensures) (c.requires.partner lost) in
    let free = c.in-Some.free in
    let is_free : IsFree state clause c.args.other free = record {
      apart = c.in-Some.ensures.0;
      left = subst (λ (t : Trail). IsLeftAt (box t) clause free) c.bounds.ensures.trail c.in-Some.ensures.1;
    } in
    let target : c.place-target.result ≡ place_of (length state.trail.ranges) (lit_of clause free).term (lit_of clause free).side = subst (λ (t : Trail). c.place-target.result ≡ place_of (length t.ranges) (lit_of clause free).term (lit_of clause free).side) c.bounds-2.ensures.trail c.place-target.ensures.place in
    let moves = c.in_ok-visit.ensures.moves in
    let right = moved_right state it c.move_to.new.self c.in_ok-visit.visit list at c.place-target.result lost c.of-moved.result c.args.other free clause c.requires.right c.requires.within c.get-watcher.ensures partner among is_free c.of-moved.ensures target moves c.in_ok-visit.ensures.pairs c.in_ok-visit.ensures.head c.in_ok-visit.ensures.base in
    let visiting = c.requires.visiting in
    moved_visits c.in_ok-visit.visit state it c.move_to.new.self list at c.place-target.result key c.of-moved.result c.args.tally.now moves c.in_ok-visit.ensures.head visiting.done
    (free_done state (it.head + 1) key list c.place-target.result lost.number free clause c.of-moved.result c.clause-clause.ensures.clause visiting.term visiting.list_is target c.of-moved.ensures is_free.left)
