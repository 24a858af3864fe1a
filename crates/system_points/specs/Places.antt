-- Where the variables of a function lie in its system, in order: the numbers 0 and 1, constants, blocks, edges, cases, parameters, and the pieces of phis and instructions.
use Rattle.std.specs.Prelude.{◌≡◌, ℕ, ◌+◌, ℤ, pos, List, ◌∷◌, ◌++◌, length, map, take, flat_map}
use Rattle.std.specs.List.{range_with_len}
use Rattle.ll_rules.specs.Items.{values_of}
use Rattle.ll_verifier.specs.Sound.{SoundFunc}
use Rattle.ir_constants.specs.Constants.{constants_of, vars_from}
use Rattle.ir_pieces.specs.declared.list.Placed.{Placed}
use Rattle.path_encoding.specs.declared.spots.PathSpots.{PathSpots}
use Rattle.path_encoding.specs.Spots.{block_at, cases_before}
use Rattle.piece_list.specs.Params.{param_ranges, params_vars}
use Rattle.piece_list.specs.Pieces.{own_ranges}

-- the constants that have a variable of their own, in the order of their first use
abbrev pub constants_in : SoundFunc → List ℕ
constants_in it = constants_of (map (block_at it) (range_with_len 0 (length it.flow.order)))

-- ---- the first variable of each kind

abbrev pub first_block : SoundFunc → ℕ
first_block it = 2 + length (constants_in it)

abbrev pub first_edge : SoundFunc → ℕ
first_edge it = first_block it + length it.flow.order

abbrev pub first_case : SoundFunc → ℕ
first_case it = first_edge it + length it.flow.edges

abbrev pub case_count : SoundFunc → ℕ
case_count it = cases_before it (length it.flow.order)

abbrev pub first_value : SoundFunc → ℕ
first_value it = first_case it + case_count it

abbrev pub first_piece : SoundFunc → ℕ
first_piece it = first_value it + length (flat_map param_ranges it.func.params)

-- Spots of blocks, edges, cases and constants lie in this order. Of values those of the parameters do; phis' and instructions' are said by their pieces.
pub record AreInOrder (it : SoundFunc) (spots : PathSpots) : Type 0 where
  pub constants : map (λ spot. (spot.value, spot.var)) spots.constants.items ≡ vars_from 2 (constants_in it)
  pub blocks : spots.blocks.items ≡ range_with_len (first_block it) (length it.flow.order)
  pub edges : spots.edges.items ≡ range_with_len (first_edge it) (length it.flow.edges)
  pub cases : spots.cases.items ≡ range_with_len (first_case it) (case_count it)
  pub count : length spots.values.items ≡ length (values_of it.func)
  pub params : take (length it.func.params) spots.values.items ≡ params_vars (first_value it) it.func.params

-- ---- ranges

-- a range of one number for each of some
abbrev pub fixed_ranges : List ℕ → List (ℤ × ℤ)
fixed_ranges numbers = map (λ n. (pos n, pos n)) numbers

-- 0 to 1, so many times
abbrev pub bit_ranges : ℕ → List (ℤ × ℤ)
bit_ranges count = map (λ k. (pos 0, pos 1)) (range_with_len 0 count)

-- of all variables, where these are the pieces of phis and instructions
abbrev pub ranges_of : SoundFunc → List Placed → List (ℤ × ℤ)
ranges_of it own =
    fixed_ranges (0 ∷ 1 ∷ constants_in it)
    ++ (bit_ranges (length it.flow.order + length it.flow.edges + case_count it) ++ (flat_map param_ranges it.func.params ++ own_ranges own))
