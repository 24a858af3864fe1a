-- Operands by what they stand for, as the code makes them.
use Rattle.std.specs.Prelude.{◌≡◌, ℕ, ◌+◌, ◌<◌, ◌^◌, Bool, Option, Some, None, List, map, length}
use Rattle.std.specs.Option.{unwrap_or}
use Rattle.ll_links.specs.declared.link.Source.{Source}
use Rattle.ll_links.specs.declared.link.Source.TheVariants as source
use Rattle.ll_verifier.specs.declared.order.PositionEdge.{PositionEdge}
use Rattle.bit_rows.specs.declared.bitwise.BitOperand.{BitOperand}
use Rattle.path_encoding.specs.declared.spots.PathSpots.{PathSpots}
use Rattle.path_encoding.specs.Spots.{source_vars}
use Rattle.ir_constants.specs.Constants.{vars_from}

-- the number of what is written, 0 for poison
abbrev pub source_literal : Source → Option ℕ
source_literal (source.Value id) = None
source_literal (source.Const n) = Some n
source_literal source.Poison = Some 0

abbrev pub operand_from : PathSpots → Source → BitOperand
operand_from spots what = record { vars = source_vars spots what; literal = source_literal what }

-- the constants' spots are their variables, from variable 2 on
pub record AreConstants (constants : List ℕ) (spots : PathSpots) : Type 0 where
  pub few : length constants < 2 ^ 31
  pub spots_are : map (λ spot. (spot.value, spot.var)) spots.constants.items ≡ vars_from 2 constants
