use Rattle.std.proofs.Common.{◌∙◌, ap, List, arith, ◌≡◌, length, ℕ, List}
use Rattle.bound_trail.specs.Trail.{Trail, level_end, IsTrail}
use Rattle.mix_system.specs.declared.literal.Lit.{Lit}
use Rattle.std.proofs.lemmas.List.{length-take-le}
use Rattle.clause_search.proofs.ReasonLaws.{level_end_within}
use Rattle.clause_search.proofs.QuietLaws.{cut_to}
use Rattle.clause_search.proofs.WatchLaws.{watched_back}
use Rattle.clause_search.proofs.watches.Watches.back_to.Goals as goal

-- where the trail ends now
end_is : (old : Trail) (level : ℕ) (new : Trail) (lits : List Lit) → IsTrail old → lits ≡ new.lits → new ≡ cut_to old level → length lits ≡ level_end old level
end_is old level new lits ok e cut =
    ap length e ∙ ap (λ (t : Trail). length t.lits) cut ∙ length-take-le (level_end old level) old.lits (level_end_within old level ok)

pub returns-then-end-self-clause-right : goal.returns-then-end-self-clause-right
returns-then-end-self-clause-right c =
    let old = c.args.known.now in
    let it = c.args.self.now in
    let back = c.back_to.ensures in
    let end = end_is old.trail c.args.level c.back_to.new.self.trail c.trail-end.result.now back.sound c.trail-end.ensures.lits back.trail in
    watched_back old c.back_to.new.self c.args.level it.lists it.pairs.items it.head (length c.trail-end.result.now) it.base back.sound c.requires.level c.if-level-self.false (omega (arith, c.if-end-self.true)) (omega (arith, end)) back.store back.trail c.requires.right

pub returns-else-end-self-clause-right : goal.returns-else-end-self-clause-right
returns-else-end-self-clause-right c =
    let old = c.args.known.now in
    let it = c.args.self.now in
    let back = c.back_to.ensures in
    let end = end_is old.trail c.args.level c.back_to.new.self.trail c.trail-end.result.now back.sound c.trail-end.ensures.lits back.trail in
    watched_back old c.back_to.new.self c.args.level it.lists it.pairs.items it.head it.head it.base back.sound c.requires.level c.if-level-self.false (omega arith) (omega (arith, end, c.if-end-self.false)) back.store back.trail c.requires.right
