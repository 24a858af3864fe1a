use Rattle.std.proofs.Common.{◌<◌, List, length, refl, inr, sym, ◌∙◌, ap, map}
use Rattle.std.proofs.lemmas.List.{length-map}
use Rattle.proof_term.specs.Valid.{Stage}
use Rattle.open_levels.specs.Stack.{OpenLevel, level_of}
use Rattle.open_levels.specs.Kept.{stage_of}
use Rattle.proof_checker.specs.Place.{AtStep, AtEnd, Place, closed_place}
use Rattle.proof_checker.specs.Outcome.{Next}
use Rattle.proof_checker.proofs.SpelledLaws.{closes_to}
use Rattle.proof_checker.proofs.steps.end.Goals as goal

pub returns-in-Some : goal.returns-in-Some
returns-in-Some c =
    let levels = c.args.levels in
    let stage = rw c.in-Some.is at c.in_ok-outer.ensures.stage in
    let kept = rw c.in-Some.is at c.in_ok-outer.ensures.kept in
    let some = rw c.in-Some.is at c.in_ok-outer.ensures.first in
    let others : 0 < length (map level_of levels.stack.enclosing) = rw length-map some in
    let place = closes_to levels.stack.next (level_of levels.stack.last) (map level_of levels.stack.enclosing) others in
    (AtStep (stage_of c.in-Some.outer), (refl, kept), inr (c.requires.ended, ap (λ (s : Stage). Next (AtStep s)) stage ∙ ap (λ (p : Place). Next p) (sym place)))

pub returns-in-None : goal.returns-in-None
returns-in-None c =
    let levels = c.args.levels in
    let none = rw c.in-None.is at c.in_ok-outer.ensures.first in
    let place = ap (λ (outer : List OpenLevel). closed_place levels.stack.next (level_of levels.stack.last) (map level_of outer)) none in
    (AtEnd levels.stack.last.goal, ap AtEnd (sym c.goal-goal.ensures), inr (c.requires.ended, ap (λ (p : Place). Next p) (sym place)))
