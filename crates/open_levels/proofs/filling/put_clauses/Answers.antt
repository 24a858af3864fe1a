use Rattle.box_check.specs.Bounds.{StandsEverywhere}
use Rattle.std.proofs.Common.{◌+◌, [], ◌∷◌, drop, ap, arith}
use Rattle.std.proofs.lemmas.List.{drop_all}
use Rattle.mix_system.specs.Bounds.{unit_bounds}
use Rattle.open_levels.proofs.AddsLaws.{StandsEverywhere-same, adding_start, adding_next, adding_end}
use Rattle.open_levels.proofs.LevelLaws.{left_clause}
use Rattle.open_levels.proofs.filling.put_clauses.Goals as goal

pub loop-at-init : goal.loop-at-init
loop-at-init c = record { adding = adding_start StandsEverywhere StandsEverywhere-same (unit_bounds c.args.system.now.clauses) c.args.bounds.now; over = c.requires }

pub loop-at-preserved : goal.loop-at-preserved
loop-at-preserved c =
    let clauses = c.args.system.now.clauses in
    let at = c.loop-at.at in
    let clause = c.clause.result.now in
    record {
      adding = adding_next StandsEverywhere StandsEverywhere-same (unit_bounds clauses) (unit_bounds (drop at clauses)) (unit_bounds (clause ∷ [])) (unit_bounds (drop (at + 1) clauses)) c.args.bounds.now c.loop-at.bounds c.put_unit_everywhere.new.bounds
          (left_clause clauses at clause c.clause.ensures.lits) c.loop-at.invariant.adding c.in_ok-put_unit_everywhere.ensures.adds;
      over = c.in_ok-put_unit_everywhere.ensures.over;
    }

pub returns-clause-adds : goal.returns-clause-adds
returns-clause-adds c =
    let clauses = c.args.system.now.clauses in
    let at = c.loop-at.at in
    adding_end StandsEverywhere StandsEverywhere-same (unit_bounds clauses) (unit_bounds (drop at clauses)) c.args.bounds.now c.loop-at.bounds
    (ap unit_bounds (drop_all at clauses (omega (arith, c.loop-at-test.false, c.clauses-at-end.ensures.count)))) c.loop-at.invariant.adding
