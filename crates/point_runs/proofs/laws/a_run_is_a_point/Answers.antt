use Rattle.point_runs.proofs.RunLaws.{run_agrees, run_returns}
use Rattle.point_runs.proofs.laws.a_run_is_a_point.Goals as goal

pub returns : goal.returns
returns c it spots point sound are marks said path is args vals result run given tells =
    c.a_path_that_returns_makes_it_hold.ensures it spots point sound are marks said path is args vals given
    (run_agrees it sound spots point path is args tells vals result run) (run_returns it sound spots point path is args tells vals result run)
