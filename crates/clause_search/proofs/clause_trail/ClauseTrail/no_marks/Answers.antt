use Rattle.std.proofs.Common.{◌≡◌, ◌∙◌, length, replicate, ap}
use Rattle.std.proofs.lemmas.List.{length-replicate}
use Rattle.clause_search.specs.declared.marks.Mark.TheVariants.{Clear}
use Rattle.clause_search.proofs.MarkLaws.{marks_none, all_clear}
use Rattle.clause_search.proofs.clause_trail.ClauseTrail.no_marks.Goals as goal

pub returns-clause-marks : goal.returns-clause-marks
returns-clause-marks c =
    let state = c.args.self.now in
    let count = length c.trail-count.result.now in
    let marks = c.in_ok-marks.marks.items in
    let made : marks ≡ replicate count Clear = c.in_ok-marks.ensures.items_if_clones_equal (λ y is. is) in
    let same : length marks ≡ length state.trail.lits = ap length made ∙ length-replicate count Clear ∙ ap length c.trail-count.ensures.lits in
    marks_none state marks same (λ at. rw made (all_clear count at))

pub returns-clause-clear : goal.returns-clause-clear
returns-clause-clear c = λ at.
    let made = c.in_ok-marks.ensures.items_if_clones_equal (λ y is. is) in
    rw made (all_clear (length c.trail-count.result.now) at)
