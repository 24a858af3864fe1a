use Rattle.system_runs.proofs.RunLaws.{ready, one_each}
use Rattle.system_runs.proofs.laws.runs_are_points.Goals as goal

pub returns : goal.returns
returns c it spots placed from to sound parts point holds said args path vals result run is given =
    let is_ready = ready it sound spots placed from to parts point holds path is in
    let known = c.filled_points_are_known.ensures.known it spots point sound parts.vars path is_ready placed from to parts.stand parts.pieces holds.ranges holds.hold in
    let agrees = c.filled_points_are_known.ensures.given it spots point sound parts.vars path is_ready placed from to parts.stand parts.pieces holds.ranges holds.hold args (one_each it.func args run.walk.arguments) given in
    let tells = c.pieces_tell_the_values_along_a_path.ensures it spots point sound parts.vars holds.marks known placed from to parts.stand parts.pieces holds.ranges holds.hold path args is agrees in
    c.a_run_is_a_point.ensures it spots point sound parts.vars holds.marks said path is args vals result run agrees tells
