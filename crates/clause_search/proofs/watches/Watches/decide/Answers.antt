use Rattle.std.proofs.Common.{◌∙◌, ap, refl, sym, subst, inl, inr, arith, ◌≡◌, ◌+◌, length}
use Rattle.clause_search.specs.Search.{Search, present_level}
use Rattle.clause_search.specs.Decided.{OpensLevel, Decides}
use Rattle.clause_search.specs.Watched.{AreWatched}
use Rattle.std.proofs.lemmas.List.{length_push}
use Rattle.clause_search.proofs.WatchLaws.{watched_decided}
use Rattle.clause_search.proofs.watches.Watches.decide.Goals as goal

pub returns-then-self-end-clause-right : goal.returns-then-self-end-clause-right
returns-then-self-end-clause-right c =
    let old = c.args.known.now in
    let new = c.decide.new.self in
    let it = c.args.self.now in
    let lit = c.args.lit.now in
    let opens : OpensLevel lit old new c.args.tally.now c.decide.new.tally = subst (λ b. Decides b lit old new c.args.tally.now c.decide.new.tally) c.if-not-decided.false c.in_ok-decided.ensures.decides in
    let levels : length c.levels.result.now ≡ present_level old + 1 = ap length c.levels.ensures.levels ∙ ap (λ (s : Search). length s.trail.levels) opens.level ∙ length_push old.trail.levels (length old.trail.lits) in
    subst (λ s. AreWatched s it.lists it.pairs.items it.head (length c.levels.result.now)) (sym opens.level)
    (watched_decided old lit it.lists it.pairs.items it.head it.base (length c.levels.result.now) c.trail-end.ensures.trail (inr levels) c.requires.right)

pub returns-else-self-end-clause-right : goal.returns-else-self-end-clause-right
returns-else-self-end-clause-right c =
    let old = c.args.known.now in
    let new = c.decide.new.self in
    let it = c.args.self.now in
    let lit = c.args.lit.now in
    let opens : OpensLevel lit old new c.args.tally.now c.decide.new.tally = subst (λ b. Decides b lit old new c.args.tally.now c.decide.new.tally) c.if-not-decided.false c.in_ok-decided.ensures.decides in
    let end : it.head ≡ length old.trail.lits = omega (arith, c.requires.right.head_within, ap length c.trail-end.ensures.lits, c.if-self-end.false) in
    subst (λ s. AreWatched s it.lists it.pairs.items it.head it.base) (sym opens.level)
    (watched_decided old lit it.lists it.pairs.items it.head it.base it.base c.trail-end.ensures.trail (inl (end, refl)) c.requires.right)
