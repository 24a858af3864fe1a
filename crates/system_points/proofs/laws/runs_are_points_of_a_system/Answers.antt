use Rattle.std.proofs.Common.{length, map}
use Rattle.std.specs.List.{range_with_len}
use Rattle.path_encoding.specs.Spots.{block_at}
use Rattle.system_points.specs.Encodes.{all_pieces}
use Rattle.system_points.proofs.PartLaws.{parts}
use Rattle.system_points.proofs.FitLaws.{LaidLaw, PiecesLaw, pieces_hold, fits_of}
use Rattle.system_points.proofs.laws.runs_are_points_of_a_system.Goals as goal

pub returns : goal.returns
returns c it costs regions system spots own sound encodes own_rows point one_each within hold said args path vals result run taken given =
    let laid : LaidLaw point = λ layout first rows. c.what_is_laid_says_what_the_layout_says.ensures layout point first rows in
    let pieces : PiecesLaw point = λ placed first rows. c.what_pieces_say.ensures.laid placed first rows point in
    let holds = pieces_hold it sound costs regions system spots own encodes own_rows point laid pieces within hold (λ n there. c.counted_constants_have_their_variables.ensures (map (block_at it) (range_with_len 0 (length it.flow.order))) n there) in
    fits_of it sound costs regions system spots own encodes own_rows point laid pieces one_each within hold
    (c.runs_are_points.ensures it spots (all_pieces it own) 0 (length system.ranges) sound (parts it sound costs regions system spots own encodes) point holds said args path vals result run taken given)
