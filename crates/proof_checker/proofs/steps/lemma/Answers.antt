use Rattle.std.proofs.Common.{◌<◌, List, ℕ, refl, inl, inr, sym, ◌∙◌, ap, subst, All}
use Rattle.std.proofs.lemmas.Bool.{false≢true}
use Rattle.mix_system.specs.declared.literal.Lit.{Lit}
use Rattle.proof_term.specs.Steps.{NamesTerm}
use Rattle.proof_term.specs.Valid.{Stage}
use Rattle.proof_term.specs.Levels.{box_of}
use Rattle.open_levels.specs.Stack.{levels_of}
use Rattle.open_levels.specs.Kept.{stage_of}
use Rattle.open_levels.specs.declared.lemma.Shown.TheVariants as shown
use Rattle.proof_checker.specs.Place.{AtStep}
use Rattle.proof_checker.specs.Outcome.{Next}
use Rattle.proof_checker.proofs.KeptLaws.{levels_same, shown_at, keeps_at}
use Rattle.proof_checker.proofs.steps.lemma.Goals as goal

pub returns-then-not-names_terms : goal.returns-then-not-names_terms
returns-then-not-names_terms c =
    let names : All (NamesTerm c.args.base.now.system.now) c.args.clause → _ = λ named.
    c.names_terms.ensures.1 (subst (λ (lits : List Lit). All (NamesTerm c.args.base.now.system.now) lits) (sym c.items-lits.ensures) named) in
    inl (λ both. false≢true (sym c.if-not-names_terms.true ∙ names both.0), refl)

pub returns-then-not-are_below : goal.returns-then-not-are_below
returns-then-not-are_below c =
    let below : All (λ hint. hint < c.args.levels.stack.next) c.args.hints → _ = λ all. c.are_below.ensures.1 (rw (c.items-numbers.ensures, c.next.ensures) all) in
    inl (λ both. false≢true (sym c.if-not-are_below.true ∙ below both.1), refl)

pub follow_hints-requires : goal.follow_hints-requires
follow_hints-requires c = record {
  formed = c.requires.sound.formed;
  over = c.requires.kept.box.sound.over;
  last = c.requires.kept.last;
  enclosing = c.requires.kept.enclosing;
  named = c.names_terms.ensures.0 c.if-not-names_terms.false;
}

pub with_clause-requires : goal.with_clause-requires
with_clause-requires c =
    record {
      kept = levels_same c.args.base.now.system.now c.args.base.now.cost c.args.levels c.follow_hints.new.bounds c.requires.kept
          (keeps_at c.args.levels.bounds c.follow_hints.new.bounds c.in_ok-shown.shown c.in-Follows.is c.in_ok-shown.ensures.keeps);
      named = c.names_terms.ensures.0 c.if-not-names_terms.false;
    }

pub returns-in-Follows : goal.returns-in-Follows
returns-in-Follows c =
    let base = c.args.base.now in
    let levels = c.args.levels in
    let named = rw c.items-lits.ensures at (c.names_terms.ensures.0 c.if-not-names_terms.false) in
    let below = rw (c.items-numbers.ensures, c.next.ensures) at (c.are_below.ensures.0 c.if-not-are_below.false) in
    let stage = rw c.items-lits.ensures at c.in_ok-later-in-Follows.ensures.stage in
    let box = box_of base.system.now base.cost (levels_of levels.stack.last levels.stack.enclosing) in
    let shows = shown_at base.system.now levels.stack.last box c.args.clause _ c.args.hints _ levels.stack.enclosing c.in_ok-shown.shown shown.Follows c.items-lits.ensures c.items-numbers.ensures
    c.in-Follows.is (c.in_ok-shown.ensures.exact box c.requires.kept.box.stands) in (
      AtStep (stage_of c.in_ok-later-in-Follows.later),
      (refl, c.in_ok-later-in-Follows.ensures.kept),
      inr ((named, below), inr (shows.0, inr (shows.1, ap (λ (s : Stage). Next (AtStep s)) stage))),
    )

pub returns-in-Open : goal.returns-in-Open
returns-in-Open c =
    let base = c.args.base.now in
    let levels = c.args.levels in
    let named = rw c.items-lits.ensures at (c.names_terms.ensures.0 c.if-not-names_terms.false) in
    let below = rw (c.items-numbers.ensures, c.next.ensures) at (c.are_below.ensures.0 c.if-not-are_below.false) in
    let box = box_of base.system.now base.cost (levels_of levels.stack.last levels.stack.enclosing) in
    let shows = shown_at base.system.now levels.stack.last box c.args.clause _ c.args.hints _ levels.stack.enclosing c.in_ok-shown.shown shown.Open c.items-lits.ensures c.items-numbers.ensures
    c.in-Open.is (c.in_ok-shown.ensures.exact box c.requires.kept.box.stands) in
    inr ((named, below), inr (shows.0, inl (shows.1, refl)))

pub returns-in-TooLarge : goal.returns-in-TooLarge
returns-in-TooLarge c =
    let base = c.args.base.now in
    let levels = c.args.levels in
    let named = rw c.items-lits.ensures at (c.names_terms.ensures.0 c.if-not-names_terms.false) in
    let below = rw (c.items-numbers.ensures, c.next.ensures) at (c.are_below.ensures.0 c.if-not-are_below.false) in
    let box = box_of base.system.now base.cost (levels_of levels.stack.last levels.stack.enclosing) in
    let shows = shown_at base.system.now levels.stack.last box c.args.clause _ c.args.hints _ levels.stack.enclosing c.in_ok-shown.shown (shown.TooLarge c.in-TooLarge.excess) c.items-lits.ensures
    c.items-numbers.ensures c.in-TooLarge.is (c.in_ok-shown.ensures.exact box c.requires.kept.box.stands) in
    inr ((named, below), inl (c.in-TooLarge.excess, shows, refl))
