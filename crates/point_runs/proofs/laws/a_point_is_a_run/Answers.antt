use Rattle.point_runs.proofs.RunLaws.{runs_along}
use Rattle.point_runs.proofs.laws.a_point_is_a_run.Goals as goal

pub returns : goal.returns
returns c it spots point sound are marks holds path is args fits given tells =
    runs_along it sound spots point path is args tells (λ vals agree. c.the_path_returns.ensures it spots point sound are marks holds path is args vals given agree) fits
