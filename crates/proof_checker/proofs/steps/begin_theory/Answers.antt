use Rattle.std.proofs.Common.{◌∷◌, [], ◌++◌, List, map, refl, inl, inr, sym, ◌∙◌, subst, All}
use Rattle.std.proofs.lemmas.Bool.{false≢true}
use Rattle.mix_system.specs.declared.literal.Lit.{Lit}
use Rattle.mix_system.specs.Lit.{negation}
use Rattle.proof_term.specs.Levels.{box_of}
use Rattle.proof_term.specs.Steps.{NamesTerm}
use Rattle.open_levels.specs.Stack.{levels_of}
use Rattle.open_levels.specs.Kept.{stage_of}
use Rattle.proof_checker.specs.Place.{InTree}
use Rattle.proof_checker.proofs.KeptLaws.{theory_starts}
use Rattle.proof_checker.proofs.steps.begin_theory.Goals as goal

pub returns-then-not-names_terms : goal.returns-then-not-names_terms
returns-then-not-names_terms c =
    let names : All (NamesTerm c.args.base.now.system.now) c.args.clause → _ = λ named.
    c.names_terms.ensures.1 (subst (λ (lits : List Lit). All (NamesTerm c.args.base.now.system.now) lits) (sym c.items-lits.ensures) named) in
    inl (λ named. false≢true (sym c.if-not-names_terms.true ∙ names named), refl)

pub assume-requires : goal.assume-requires
assume-requires c = record { over = c.requires.box.sound.over; named = c.names_terms.ensures.0 c.if-not-names_terms.false }

pub returns-in-Some : goal.returns-in-Some
returns-in-Some c =
    let named = rw c.items-lits.ensures at (c.names_terms.ensures.0 c.if-not-names_terms.false) in
    let first = rw (c.in-Some.is, c.items-lits.ensures) at c.in_ok-excess.ensures.steps in
    inr (named, inl (c.in-Some.excess, first, refl))

pub returns-in-None : goal.returns-in-None
returns-in-None c =
    let base = c.args.base.now in
    let box = box_of base.system.now base.cost (levels_of c.args.levels.stack.last c.args.levels.stack.enclosing) in
    let named = rw c.items-lits.ensures at (c.names_terms.ensures.0 c.if-not-names_terms.false) in
    let adds = rw (c.in-None.is, c.items-lits.ensures) at c.in_ok-excess.ensures.adds in
    let steps = rw (c.in-None.is, c.items-lits.ensures) at c.in_ok-excess.ensures.steps in
    let boxes = (map negation c.args.clause ++ box) ∷ [] in (
      InTree (stage_of c.args.levels) c.args.clause boxes,
      (boxes, refl, theory_starts base c.args.levels c.assume.new.bounds c.args.clause c.mark-mark.result c.new.result c.requires c.mark-mark.ensures named adds c.new.ensures),
      inr (named, inr (steps, refl)),
    )
