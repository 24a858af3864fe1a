-- What was declared so far.
use Rattle.std.specs.Prelude.{◌≡◌, ℕ, ◌+◌, ◌*◌, ◌^◌, ◌<◌, ◌≤◌, List, [], ◌∷◌, ◌++◌, length, take, drop, flat_map, slice_index_or, Option}
use Rattle.std.specs.List.{AllZip, range_with_len}
use Rattle.ll_tree.specs.declared.block.End.TheVariants as end
use Rattle.ll_rules.specs.Items.{Item, OfEnd, items_of, values_of}
use Rattle.ll_links.specs.declared.link.ValueId.{ValueId}
use Rattle.ll_verifier.specs.Sound.{SoundFunc}
use Rattle.wrap_rows.specs.Small.{IsCompact}
use Rattle.ir_pieces.specs.declared.piece.IrPiece.{IrPiece}
use Rattle.ir_pieces.specs.declared.list.Placed.{Placed}
use Rattle.ir_pieces.specs.Pieces.{ranges, vars}
use Rattle.ir_pieces.specs.Lists.{ArePlaced}
use Rattle.path_encoding.specs.declared.spots.PathSpots.{PathSpots}
use Rattle.path_encoding.specs.Spots.{block_at, Exist}
use Rattle.piece_values.specs.Owners.{Owner, range_owner, item_owner, block_owners, IsPieceOf}
use Rattle.piece_reads.specs.Given.{given_before, AgreeOn}
use Rattle.piece_list.specs.declared.draft.Declared.{Declared}
use Rattle.piece_list.specs.Params.{param_ranges, params_vars, params_pieces}
use Rattle.piece_list.specs.Pieces.{FollowOn, own_ranges, put_vars}

-- spots of the same blocks, edges, cases and constants, and of as many values
pub record SameButValues (spots other : PathSpots) : Type 0 where
  pub blocks : other.blocks.items ≡ spots.blocks.items
  pub edges : other.edges.items ≡ spots.edges.items
  pub cases : other.cases.items ≡ spots.cases.items
  pub constants : other.constants.items ≡ spots.constants.items
  pub count : length other.values.items ≡ length spots.values.items

-- ---- one piece more

-- The piece's variables are behind all others, the piece behind all others, and its value's variables at the value's number.
pub record IsKept (base next : Declared) (id : Option ValueId) (piece : IrPiece) : Type 0 where
  pub placed : next.placed.items ≡ base.placed.items ++ record { first = length base.system.ranges; piece = piece } ∷ []
  pub system : next.system ≡ record base.system { ranges = base.system.ranges ++ ranges piece }
  pub values : next.spots.values.items ≡ put_vars base.spots.values.items id (vars piece (length base.system.ranges))
  pub same : SameButValues base.spots next.spots
  pub stand : ArePlaced 0 (length base.system.ranges) base.placed.items → ArePlaced 0 (length next.system.ranges) next.placed.items
  pub compact : IsCompact base.system → IsCompact next.system

-- ---- parameters

-- The parameters before a place were declared: what those from there on will add makes the whole.
pub record AreLeft (it : SoundFunc) (at : ℕ) (base draft : Declared) : Type 0 where
  pub values : take at draft.spots.values.items ++ params_vars (length draft.system.ranges) (drop at it.func.params) ≡ params_vars (length base.system.ranges) it.func.params
  pub placed : draft.placed.items ++ params_pieces (length draft.system.ranges) (drop at it.func.params) ≡ params_pieces (length base.system.ranges) it.func.params
  pub ranges : draft.system.ranges ++ flat_map param_ranges (drop at it.func.params) ≡ base.system.ranges ++ flat_map param_ranges it.func.params
  pub system : draft.system ≡ record base.system { ranges = draft.system.ranges }
  pub same : SameButValues base.spots draft.spots
  pub exist : Exist (length draft.system.ranges) draft.spots
  pub stand : ArePlaced 0 (length draft.system.ranges) draft.placed.items
  pub room : length draft.system.ranges ≤ 2 ^ 30 + 2 * at
  pub few : length draft.placed.items ≤ at
  pub compact : IsCompact base.system → IsCompact draft.system

-- ---- phis and instructions

-- so many items of the block at a position
abbrev pub front_of : SoundFunc → ℕ → ℕ → List Item
front_of it at item = take item (items_of (block_at it at))

-- the item that stands behind so many others
pub record IsItem (it : SoundFunc) (at item : ℕ) (what : Item) : Type 0 where
  pub within : at < length it.flow.order
  pub low : item < length (items_of (block_at it at))
  pub is : slice_index_or (items_of (block_at it at)) item (OfEnd end.Unreachable) ≡ what

-- what has a piece, up to some items of the block at a position
abbrev pub owners_before : SoundFunc → ℕ → List Item → List Owner
owners_before it at front =
    (flat_map (λ param. range_owner param param.range) it.func.params ++ flat_map (block_owners it) (range_with_len 0 at))
    ++ flat_map (item_owner at) front

-- The pieces are those of all that has one up to these items, over all spots that agree on what is given behind them.
pub record IsDrafted (it : SoundFunc) (at : ℕ) (front : List Item) (draft : Declared) : Type 0 where
  pub pieces : (final : PathSpots) → AgreeOn it (given_before it at front) draft.spots final → AllZip (IsPieceOf it final) (owners_before it at front) draft.placed.items
  pub stand : ArePlaced 0 (length draft.system.ranges) draft.placed.items
  pub exist : Exist (length draft.system.ranges) draft.spots
  pub edges : length draft.spots.edges.items ≡ length it.flow.edges
  pub values : length draft.spots.values.items ≡ length (values_of it.func)
  pub few : length draft.placed.items ≤ 64 + 2048 * at + length front
  pub room : length draft.system.ranges ≤ 2 ^ 30 + 128 + 98 * length draft.placed.items

-- Pieces came one behind the other, and parameters stand where they stood.
pub record GoesOn (it : SoundFunc) (base next : Declared) : Type 0 where
  pub own : List Placed
  pub placed : next.placed.items ≡ base.placed.items ++ own
  pub follow : FollowOn (length base.system.ranges) own
  pub system : next.system ≡ record base.system { ranges = base.system.ranges ++ own_ranges own }
  pub same : SameButValues base.spots next.spots
  pub params : AgreeOn it (given_before it 0 []) base.spots next.spots
  pub compact : IsCompact base.system → IsCompact next.system

-- so many items of the block at a position were declared
pub record IsOver (it : SoundFunc) (at item : ℕ) (base next : Declared) : Type 0 where
  pub drafted : IsDrafted it at (front_of it at item) next
  pub on : GoesOn it base next
