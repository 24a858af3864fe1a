use Rattle.std.proofs.Common.{◌≡◌, ◌∙◌, length, get_or, sym, ap, subst, arith}
use Rattle.std.proofs.lemmas.Option.{slice_get_within}
use Rattle.bound_trail.specs.Trail.{level_end}
use Rattle.clause_search.specs.Marks.{IsLowest}
use Rattle.clause_search.specs.Runs.{IsAim, IsReady}
use Rattle.clause_search.proofs.ReasonLaws.{level_end_within}
use Rattle.clause_search.proofs.MarkLaws.{lowest_none}
use Rattle.clause_search.proofs.AimLaws.{aim_above}
use Rattle.clause_search.proofs.AnalysisLaws.{caused_marks, conflict_found, levels_to_last, levels_from_first, start_within, first_level, learns}
use Rattle.clause_search.proofs.clause_trail.ClauseTrail.learn.Goals as goal

pub clause-requires : goal.clause-requires
clause-requires c =
    let is = c.requires.conflict in
    slice_get_within c.args.self.now.store c.args.conflict is.clause is.among

pub mark_causes-lowest-requires-clause-one_each : goal.mark_causes-lowest-requires-clause-one_each
mark_causes-lowest-requires-clause-one_each c = c.in_ok-marks.ensures.marks.one_each

pub mark_causes-lowest-requires-clause-lowest : goal.mark_causes-lowest-requires-clause-lowest
mark_causes-lowest-requires-clause-lowest c =
    let state = c.args.self.now in
    let marks = c.in_ok-marks.marks.items in
    let count : length marks ≡ length c.trail.result.now = c.in_ok-marks.ensures.marks.one_each ∙ sym (ap length c.trail.ensures.lits) in
    let within = start_within state.trail c.args.start c.trail.ensures.trail c.requires.start in
    subst (λ n. IsLowest c.args.start n marks) count (lowest_none c.args.start marks (omega (arith, within, c.in_ok-marks.ensures.marks.one_each)) c.in_ok-marks.ensures.clear)

pub find_point-requires-clause-marks : goal.find_point-requires-clause-marks
find_point-requires-clause-marks c =
    let clause = c.clause.result.now in
    caused_marks c.args.self.now clause (length clause) c.args.start c.mark_causes-lowest.result c.in_ok-marks.marks.items c.mark_causes-lowest.new.marks.items
    c.clause.ensures.trail c.clause.ensures.clause.inner c.in_ok-marks.ensures.marks c.mark_causes-lowest.ensures.marks

pub find_point-requires-clause-levels : goal.find_point-requires-clause-levels
find_point-requires-clause-levels c = levels_to_last c.args.self.now.trail c.args.start c.clause.ensures.trail c.requires.above c.requires.start

pub find_point-requires-clause-lowest : goal.find_point-requires-clause-lowest
find_point-requires-clause-lowest c = c.mark_causes-lowest.ensures.marks.is_lowest

pub find_point-requires-clause-found : goal.find_point-requires-clause-found
find_point-requires-clause-found c =
    conflict_found c.args.self.now c.args.conflict c.args.start c.mark_causes-lowest.result c.clause.result.now c.in_ok-marks.marks.items c.mark_causes-lowest.new.marks.items
    c.clause.ensures.trail c.requires.conflict c.requires.was_quiet c.requires.above c.requires.start c.clause.ensures.lits c.in_ok-marks.ensures.marks c.in_ok-marks.ensures.clear c.mark_causes-lowest.ensures.marks

pub resolve_below-requires-clause-marks : goal.resolve_below-requires-clause-marks
resolve_below-requires-clause-marks c = c.find_point.ensures.marks

pub resolve_below-requires-clause-within : goal.resolve_below-requires-clause-within
resolve_below-requires-clause-within c =
    let trail = c.args.self.now.trail in
    let levels = c.levels.result.now in
    let base : level_end trail 0 ≡ get_or levels 0 0 = first_level trail levels c.levels.ensures.levels c.requires.above in
    omega (arith, base, level_end_within trail 0 c.clause.ensures.trail, c.find_point.ensures.marks.one_each)

pub resolve_below-requires-clause-levels : goal.resolve_below-requires-clause-levels
resolve_below-requires-clause-levels c =
    let trail = c.args.self.now.trail in
    let levels = c.levels.result.now in
    levels_from_first trail (get_or levels 0 0) c.clause.ensures.trail (first_level trail levels c.levels.ensures.levels c.requires.above)

pub kept-requires : goal.kept-requires
kept-requires c = record { marks = c.resolve_below.ensures.marks }

pub back_level-level-requires-clause-marks : goal.back_level-level-requires-clause-marks
back_level-level-requires-clause-marks c = c.resolve_below.ensures.marks

pub back_level-level-requires-clause-within : goal.back_level-level-requires-clause-within
back_level-level-requires-clause-within c =
    let within = start_within c.args.self.now.trail c.args.start c.clause.ensures.trail c.requires.start in
    omega (arith, within, c.resolve_below.ensures.marks.one_each)

pub hints-requires-clause-marks : goal.hints-requires-clause-marks
hints-requires-clause-marks c = c.resolve_below.ensures.marks

pub hints-requires-clause-aim : goal.hints-requires-clause-aim
hints-requires-clause-aim c =
    let state = c.args.self.now in
    subst (λ n. IsAim state n c.args.conflict) (sym (ap length c.trail.ensures.lits)) (aim_above state c.args.conflict c.clause.ensures.trail c.requires.was_quiet c.requires.above c.requires.conflict)

pub returns : goal.returns
returns c =
    let state = c.args.self.now in
    let trail = state.trail in
    let levels = c.levels.result.now in
    let last = c.resolve_below.new.marks.items in
    let same : length c.trail.result.now ≡ length trail.lits = ap length c.trail.ensures.lits in
    learns state c.args.conflict c.args.start c.mark_causes-lowest.result c.find_point.result (get_or levels 0 0) c.back_level-level.result c.clause.result.now
    c.in_ok-marks.marks.items c.mark_causes-lowest.new.marks.items c.find_point.new.marks.items last c.in_ok-lits.lits c.in_ok-hints.hints
    c.clause.ensures.trail c.clause.ensures.clauses c.requires.was_quiet c.requires.above c.requires.start
    (first_level trail levels c.levels.ensures.levels c.requires.above) c.clause.ensures.lits c.mark_causes-lowest.ensures.marks c.find_point.ensures c.resolve_below.ensures
    c.in_ok-lits.ensures c.back_level-level.ensures
    (λ kept ready. c.in_ok-hints.ensures kept (subst (λ n. IsReady state last kept n c.args.conflict) (sym same) ready))
