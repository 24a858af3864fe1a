use Rattle.std.proofs.Common.{◌≡◌, ◌∙◌, ℕ, Bool, List, length, map, take, ap, true, arith}
use Rattle.std.specs.Prelude.{pos, unsigned_abs}
use Rattle.std.specs.List.{range_with_len}
use Rattle.std.proofs.lemmas.List.{length-map, length-take}
use Rattle.mix_system.specs.Row.{number_at, row_value}
use Rattle.wrap_rows.specs.Normal.{row_of}
use Rattle.cost_rows.specs.Rows.{MarksPath}
use Rattle.portion_cuts.specs.Paths.{costs_at, spends_in}
use Rattle.wrap_rows.specs.declared.vars.ValueVars.{ValueVars}
use Rattle.path_encoding.specs.Spots.{block_at}
use Rattle.path_encoding.specs.Paths.{IsTaken}
use Rattle.system_points.specs.Encodes.{spent_in, all_pieces, args_at}
use Rattle.system_points.proofs.PartLaws.{parts, spots_are, some_argument}
use Rattle.system_points.proofs.FitLaws.{LaidLaw, PiecesLaw, paths_hold, all_hold, pieces_hold}
use Rattle.system_points.proofs.RunLaws.{all_given, all_spent}
use Rattle.system_points.proofs.laws.points_of_a_system_are_runs.Goals as goal

pub returns : goal.returns
returns c it costs regions system spots own sound priced encodes own_rows point fits =
    let laid : LaidLaw point = λ layout first rows. c.what_is_laid_says_what_the_layout_says.ensures layout point first rows in
    let pieces : PiecesLaw point = λ placed first rows. c.what_pieces_say.ensures.laid placed first rows point in
    let hold = all_hold it sound costs regions system spots own encodes own_rows point laid pieces fits in
    let holds = pieces_hold it sound costs regions system spots own encodes own_rows point laid pieces fits.in_ranges hold (λ n there. c.counted_constants_have_their_variables.ensures (map (block_at it) (range_with_len 0 (length it.flow.order))) n there) in
    let are = spots_are it sound costs regions system spots own encodes in
    let size : length (args_at it spots point) ≡ length it.func.params = omega (arith, are.params, length-map (take (length it.func.params) spots.values.items) (λ (vars : ValueVars). unsigned_abs (number_at point vars.number)), length-take (length it.func.params) spots.values.items) in
    let given = all_given point it.func.params spots.values.items are.params (some_argument it sound costs regions system spots own encodes point holds.arguments) in
    let run = c.points_are_runs.ensures it spots (all_pieces it own) 0 (length system.ranges) sound (parts it sound costs regions system spots own encodes) point holds
    (paths_hold it sound costs regions system spots own encodes own_rows point laid pieces fits) (args_at it spots point) size given in
    let path : List ℕ = run.0 in
    let taken : IsTaken it spots point path = run.1 in
    let marks : MarksPath path it.flow.edges spots.blocks.items spots.edges.items point = record {
      blocks = c.a_path_marks_its_blocks_and_edges.ensures.blocks it spots point are holds.marks path taken;
      edges = c.a_path_marks_its_blocks_and_edges.ensures.edges it spots point are holds.marks path taken;
    } in
    let spent : (inside : ℕ → Bool) → row_value (row_of (spent_in it costs spots inside)) point ≡ pos (spends_in (costs_at it costs) inside path) = λ inside. c.rows_sum_up_what_is_spent.ensures it (costs_at it costs) inside path spots.blocks.items spots.edges.items point sound are.blocks are.edges taken.is_path marks in
    record {
      path = path;
      taken = taken;
      runs = run.2;
      spent = spent;
      cost = spent (λ at. true) ∙ ap pos (all_spent it sound (costs_at it costs) path taken.is_path ∙ c.spending_adds_up.ensures.all it costs path sound priced taken.is_path);
    }
