use Rattle.system_runs.proofs.RunLaws.{ready, arguments_fit}
use Rattle.system_runs.proofs.laws.points_are_runs.Goals as goal

pub returns : goal.returns
returns c it spots placed from to sound parts point holds paths args same given =
    let (path, is, only) = c.a_point_has_one_path.ensures it spots point sound parts.vars holds.marks paths in
    let is_ready = ready it sound spots placed from to parts point holds path is in
    let known = c.filled_points_are_known.ensures.known it spots point sound parts.vars path is_ready placed from to parts.stand parts.pieces holds.ranges holds.hold in
    let agrees = c.filled_points_are_known.ensures.given it spots point sound parts.vars path is_ready placed from to parts.stand parts.pieces holds.ranges holds.hold args same given in
    let tells = c.pieces_tell_the_values_along_a_path.ensures it spots point sound parts.vars holds.marks known placed from to parts.stand parts.pieces holds.ranges holds.hold path args is agrees in
    let fits = arguments_fit it sound spots placed from to parts point holds known path is args same given in
    (path, is, c.a_point_is_a_run.ensures it spots point sound parts.vars holds.marks paths path is args fits agrees tells)
