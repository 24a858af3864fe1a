-- Pieces one behind the other, and where their values are kept.
use Rattle.std.specs.Prelude.{◌≡◌, ℕ, ℤ, List, [], ◌∷◌, flat_map, set, Option, Some, None}
use Rattle.ll_links.specs.declared.link.ValueId.{ValueId}
use Rattle.wrap_rows.specs.declared.vars.ValueVars.{ValueVars}
use Rattle.ir_pieces.specs.declared.list.Placed.{Placed}
use Rattle.ir_pieces.specs.Pieces.{ranges}
use Rattle.ir_pieces.specs.Lists.{end_of}

-- the first begins at a variable, each other at the end of the one before
abbrev pub FollowOn : ℕ → List Placed → Type 0
FollowOn from [] = Unit {0}
FollowOn from (it ∷ others) = (it.first ≡ from) × FollowOn (end_of it) others

-- the ranges of their own variables
abbrev pub own_ranges : List Placed → List (ℤ × ℤ)
own_ranges placed = flat_map (λ it. ranges it.piece) placed

-- values with one at its number, if it has one
abbrev pub put_vars : List ValueVars → Option ValueId → ValueVars → List ValueVars
put_vars values None vars = values
put_vars values (Some id) vars = set values id.0 vars
