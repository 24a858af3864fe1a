use Rattle.std.proofs.Common.{◌∷◌, List, ap, sym, ◌∙◌}
use Rattle.mix_system.specs.declared.literal.Lit.{Lit}
use Rattle.open_levels.specs.Kept.{stage_of}
use Rattle.proof_term.specs.Valid.{after_clause}
use Rattle.proof_checker.specs.Outcome.{Outcome, Next, GoesTo}
use Rattle.proof_checker.specs.Place.{Place, AtStep, after_leaf}
use Rattle.proof_checker.specs.Kept.{IsTheory, Comes}
use Rattle.proof_checker.proofs.ComesLaws.{if_ok_as, comes_as}
use Rattle.proof_checker.proofs.KeptLaws.{next_box, no_box}
use Rattle.proof_checker.proofs.nodes.refuted.Goals as goal

pub next-requires : goal.next-requires
next-requires c = (c.requires.1.before, c.requires.0, c.requires.1.stand)

pub returns-in-Next : goal.returns-in-Next
returns-in-Next c = λ box boxes t.
    next_box c.args.base.now c.args.theory c.next.new.bounds c.next.new.self (λ from b bs stand. rw c.in-Next.is at (c.in_ok-left.ensures from b bs stand)) box boxes t

pub ended-requires : goal.ended-requires
ended-requires c =
    no_box c.args.base.now c.args.theory c.next.new.bounds c.next.new.self c.requires.0 (λ from b bs stand. rw c.in-All.is at (c.in_ok-left.ensures from b bs stand)) c.requires.1

pub returns-in-All : goal.returns-in-All
returns-in-All c =
    let base = c.args.base.now in
    let theory = c.args.theory in
    let at = stage_of theory.levels in
    let Ends : Outcome → Type 0 = GoesTo (AtStep (after_clause at theory.clause)) in
    let Goes : List (List Lit) → Outcome → Type 0 = λ boxes. GoesTo (after_leaf at theory.clause boxes) in
    if_ok_as (Comes base Ends) (λ f. (box : List Lit) (boxes : List (List Lit)) → IsTheory base theory (box ∷ boxes) → Comes base (Goes boxes) f)
    (λ f comes box boxes t.
    let none = rw c.in-All.is at (c.in_ok-left.ensures t.before box boxes t.stand) in
    let place = ap (λ (bs : List (List Lit)). after_leaf at theory.clause bs) none.0 in
    comes_as base Ends (Goes boxes) (λ o goes. goes ∙ ap (λ (p : Place). Next p) (sym place)) f comes) c.ended.result c.ended.ensures
