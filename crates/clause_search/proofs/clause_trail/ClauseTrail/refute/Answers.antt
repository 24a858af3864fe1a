use Rattle.std.proofs.Common.{◌≡◌, length, ◌∙◌, sym, ap, subst, arith}
use Rattle.std.proofs.lemmas.Option.{slice_get_within}
use Rattle.clause_search.specs.Marks.{IsLowest}
use Rattle.clause_search.proofs.MarkLaws.{lowest_at_end}
use Rattle.clause_search.proofs.AnalysisLaws.{caused_marks, no_levels, refutes}
use Rattle.clause_search.proofs.clause_trail.ClauseTrail.refute.Goals as goal

pub clause-requires : goal.clause-requires
clause-requires c =
    let aim = c.aim-end.ensures in
    slice_get_within c.args.self.now.store c.aim-end.result.1 aim.clause aim.among

pub mark_causes-requires-clause-one_each : goal.mark_causes-requires-clause-one_each
mark_causes-requires-clause-one_each c = c.in_ok-marks.ensures.marks.one_each

pub mark_causes-requires-clause-lowest : goal.mark_causes-requires-clause-lowest
mark_causes-requires-clause-lowest c =
    let marks = c.in_ok-marks.marks.items in
    let count : length marks ≡ length c.trail.result.now = c.in_ok-marks.ensures.marks.one_each ∙ sym (ap length c.trail.ensures.lits) in
    subst (λ n. IsLowest n n marks) count (lowest_at_end marks)

pub resolve_below-requires-clause-marks : goal.resolve_below-requires-clause-marks
resolve_below-requires-clause-marks c =
    let clause = c.clause.result.now in
    let top = length c.trail.result.now in
    caused_marks c.args.self.now clause (length clause) top c.mark_causes.result c.in_ok-marks.marks.items c.mark_causes.new.marks.items
    c.clause.ensures.trail c.clause.ensures.clause.inner c.in_ok-marks.ensures.marks c.mark_causes.ensures.marks

pub resolve_below-requires-clause-within : goal.resolve_below-requires-clause-within
resolve_below-requires-clause-within c =
    omega (arith, c.aim-end.ensures.within, c.mark_causes.ensures.marks.grows.same_length, c.in_ok-marks.ensures.marks.one_each)

pub resolve_below-requires-clause-levels : goal.resolve_below-requires-clause-levels
resolve_below-requires-clause-levels c = no_levels c.args.self.now.trail.levels c.aim-end.result.0 c.requires.level

pub hints-requires-clause-marks : goal.hints-requires-clause-marks
hints-requires-clause-marks c = c.resolve_below.ensures.marks

pub returns : goal.returns
returns c =
    let state = c.args.self.now in
    let top = length c.trail.result.now in
    refutes state c.aim-end.result.0 c.aim-end.result.1 top c.mark_causes.result c.clause.result.now c.in_ok-marks.marks.items c.mark_causes.new.marks.items c.resolve_below.new.marks.items c.in_ok-hints.hints
    c.clause.ensures.lits c.mark_causes.ensures.marks c.resolve_below.ensures c.in_ok-hints.ensures
