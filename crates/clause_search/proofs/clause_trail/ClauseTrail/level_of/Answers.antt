use Rattle.std.proofs.Common.{◌≡◌, ◌∙◌, length, get_or, sym, ap, arith}
use Rattle.std.proofs.lemmas.List.{get_or_default}
use Rattle.clause_search.proofs.KeptLaws.{level_found, level_more, level_last}
use Rattle.clause_search.proofs.clause_trail.ClauseTrail.level_of.Goals as goal

pub returns : goal.returns
returns c =
    let levels = c.levels-levels.result.now in
    level_last c.args.self.now.trail c.args.at (length levels) c.requires.within (ap length c.levels-levels.ensures.levels)
    (λ earlier below. c.loop-level.invariant earlier (omega arith))

pub returns-then-levels-level : goal.returns-then-levels-level
returns-then-levels-level c =
    let trail = c.args.self.now.trail in
    let levels = c.levels-levels.result.now in
    let level = c.loop-level.level in
    let place = get_or levels level 0 in
    let same = c.levels-levels.ensures.levels in
    let is : get_or trail.levels level place ≡ place = ap (λ xs. get_or xs level place) (sym same) ∙ get_or_default levels level place 0 c.loop-level-test.true in
    level_found trail c.args.at level place (omega (arith, ap length same)) is c.if-levels-level.true c.loop-level.invariant

pub loop-level-preserved : goal.loop-level-preserved
loop-level-preserved c =
    let trail = c.args.self.now.trail in
    let levels = c.levels-levels.result.now in
    let level = c.loop-level.level in
    let place = get_or levels level 0 in
    let same = c.levels-levels.ensures.levels in
    let is : get_or trail.levels level place ≡ place = ap (λ xs. get_or xs level place) (sym same) ∙ get_or_default levels level place 0 c.loop-level-test.true in
    level_more trail c.args.at level place (omega (arith, ap length same)) is c.if-levels-level.false c.loop-level.invariant
