use Rattle.std.proofs.Common.{◌≡◌, [], ◌∷◌, ◌++◌, ◌+◌, ℕ, List, drop, get_or, refl, sym, subst}
use Rattle.std.proofs.lemmas.Bool.{false≢true}
use Rattle.mix_system.specs.declared.literal.Lit.{Lit}
use Rattle.box_check.specs.Bounds.{HasSlot}
use Rattle.box_check.proofs.HintsLaws.{Reaches, Reaches_start, Reaches_next, fails_unknown, fails_open, last_none, last_left, open_one_is, HasSlot-later, hint_at, hint_last, some_hint}
use Rattle.box_check.proofs.hints.propagates.Goals as goal

pub loop-hint-init : goal.loop-hint-init
loop-hint-init g c = Reaches_start (g.C.Clauses.known c.args.clauses.now) c.args.bounds.now c.args.hints.now _ (sym c.in-Some.ensures.cases.0)

pub returns-in_default-clause-clause-exact : goal.returns-in_default-clause-clause-exact
returns-in_default-clause-clause-exact g c =
    let known = g.C.Clauses.known c.args.clauses.now in
    let i = c.loop-hint.hint-index in
    let before = c.in-Some.before.now in
    let here = rw (hint_at before i c.in-Some.last.now c.loop-hint-test.true) at c.loop-hint.invariant in
    λ box stands. (
      λ e. absurd (false≢true e),
      λ p. absurd (fails_unknown known c.args.bounds.now c.loop-hint.bounds c.args.hints.now (get_or before i 0) (drop (i + 1) before ++ c.in-Some.last.now ∷ []) here c.in_default-clause.ensures box stands p),
    )

pub returns-in_default-left_of : goal.returns-in_default-left_of
returns-in_default-left_of g c =
    let known = g.C.Clauses.known c.args.clauses.now in
    let i = c.loop-hint.hint-index in
    let before = c.in-Some.before.now in
    let clause = c.in-Some-clause.clause.now in
    let here = rw (hint_at before i c.in-Some.last.now c.loop-hint-test.true) at c.loop-hint.invariant in
    let slots = c.requires.slots (get_or before i 0) clause c.in-Some-clause.ensures in
    record {
      exact = λ box stands. (
        λ e. absurd (false≢true e),
        λ p. absurd (fails_open known c.args.bounds.now c.loop-hint.bounds c.args.hints.now (get_or before i 0) (drop (i + 1) before ++ c.in-Some.last.now ∷ []) here
            clause c.left_of.result (some_hint (drop (i + 1) before) c.in-Some.last.now) c.in-Some-clause.ensures slots c.left_of.ensures c.in_default-left_of.not-One box stands p),
      );
      extends = c.loop-hint.invariant.extends;
    }

pub put-requires : goal.put-requires
put-requires g c =
    let slots = c.requires.slots (get_or c.in-Some.before.now c.loop-hint.hint-index 0) c.in-Some-clause.clause.now c.in-Some-clause.ensures in
    HasSlot-later c.args.bounds.now c.loop-hint.bounds c.loop-hint.invariant.extends c.in-One.lit.term
    (open_one_is (λ l. HasSlot c.args.bounds.now l.term) c.loop-hint.bounds c.in-Some-clause.clause.now c.in-One.lit c.in-One.ensures slots)

pub loop-hint-preserved : goal.loop-hint-preserved
loop-hint-preserved g c =
    let known = g.C.Clauses.known c.args.clauses.now in
    let i = c.loop-hint.hint-index in
    let before = c.in-Some.before.now in
    let clause = c.in-Some-clause.clause.now in
    let here = rw (hint_at before i c.in-Some.last.now c.loop-hint-test.true) at c.loop-hint.invariant in
    let slots = c.requires.slots (get_or before i 0) clause c.in-Some-clause.ensures in
    Reaches_next known c.args.bounds.now c.loop-hint.bounds c.args.hints.now (get_or before i 0) (drop (i + 1) before ++ c.in-Some.last.now ∷ []) here
    c.put.new.self clause c.in-One.lit (some_hint (drop (i + 1) before) c.in-Some.last.now) c.in-Some-clause.ensures slots c.in-One.ensures c.in_ok-put.ensures.both c.in_ok-put.ensures.extends

pub returns-in-Nothing-clause-exact : goal.returns-in-Nothing-clause-exact
returns-in-Nothing-clause-exact g c =
    let known = g.C.Clauses.known c.args.clauses.now in
    let clause = c.in-Some-clause-2.clause.now in
    let here = rw (hint_last c.in-Some.before.now c.loop-hint.hint-index c.in-Some.last.now c.loop-hint-test.false) at c.loop-hint.invariant in
    let slots = c.requires.slots c.in-Some.last.now clause c.in-Some-clause-2.ensures in
    λ box stands. (
      λ _. last_none known c.args.bounds.now c.loop-hint.bounds c.args.hints.now c.in-Some.last.now here clause c.in-Some-clause-2.ensures slots c.in-Nothing.ensures box stands,
      λ _. refl,
    )

pub returns-in_default-matches : goal.returns-in_default-matches
returns-in_default-matches g c =
    let known = g.C.Clauses.known c.args.clauses.now in
    let clause = c.in-Some-clause-2.clause.now in
    let here = rw (hint_last c.in-Some.before.now c.loop-hint.hint-index c.in-Some.last.now c.loop-hint-test.false) at c.loop-hint.invariant in
    let slots = c.requires.slots c.in-Some.last.now clause c.in-Some-clause-2.ensures in
    record {
      exact = λ box stands. (
        λ e. absurd (false≢true e),
        λ p. absurd (last_left known c.args.bounds.now c.loop-hint.bounds c.args.hints.now c.in-Some.last.now here clause c.in-Some-clause-2.ensures slots c.left_of-2.result c.left_of-2.ensures c.in_default-matches.not-Nothing box stands p),
      );
      extends = c.loop-hint.invariant.extends;
    }
