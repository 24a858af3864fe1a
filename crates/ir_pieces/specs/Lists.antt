-- Pieces that stand in a system one behind the other.
use Rattle.std.specs.Prelude.{◌≡◌, ◌⊎◌, ℕ, ◌+◌, ◌<◌, ◌≤◌, ℤ, List, [], ◌∷◌, ◌++◌, length, map}
use Rattle.std.specs.List.{AllByRecursion}
use Rattle.mix_system.specs.Row.{number_at}
use Rattle.wrap_rows.specs.Layout.{Layout, Holds, raised}
use Rattle.wrap_rows.specs.Piece.{AreIn}
use Rattle.wrap_rows.specs.Vars.{value_at}
use Rattle.ir_pieces.specs.declared.list.Placed.{Placed}
use Rattle.ir_pieces.specs.Bounded.{edges_of}
use Rattle.ir_pieces.specs.Pieces.{IsAt, ranges, layout, vars, CanFill, CanSay, meaning}

-- ---- where they stand

-- the variable behind a piece's own
abbrev pub end_of : Placed → ℕ
end_of it = it.first + length (ranges it.piece)

-- each stands behind the variables of its operands and behind the pieces before it, between these variables
abbrev pub ArePlaced : (from to : ℕ) → List Placed → Type 0
ArePlaced from to [] = from ≤ to
ArePlaced from to (it ∷ others) = (from ≤ it.first) × IsAt it.piece it.first × ArePlaced (end_of it) to others

-- the variable is no piece's own
abbrev pub IsFree : ℕ → List Placed → Type 0
IsFree var placed = AllByRecursion (λ it. (var < it.first) ⊎ (end_of it ≤ var)) placed

-- ---- what they lay

-- two layouts, one behind the other: the second counts its rows behind those of the first
abbrev pub behind : Layout → Layout → Layout
behind one two = record {
  rows = one.rows ++ two.rows;
  clauses = one.clauses ++ map (map (raised (length one.rows))) two.clauses;
}

-- the layouts of all
abbrev pub joined : List Placed → Layout
joined [] = record { rows = []; clauses = [] }
joined (it ∷ others) = behind (layout it.piece it.first) (joined others)

-- how many edges they go over
abbrev pub edges_in : List Placed → ℕ
edges_in [] = 0
edges_in (it ∷ others) = edges_of it.piece + edges_in others

-- ---- what holds of all at a point

-- each piece's own variables lie in their ranges
abbrev pub AreInRanges : List Placed → List ℤ → Type 0
AreInRanges placed point = AllByRecursion (λ it. AreIn it.first (ranges it.piece) point) placed

-- each piece's layout holds
abbrev pub AllHold : List Placed → List ℤ → Type 0
AllHold placed point = AllByRecursion (λ it. Holds (layout it.piece it.first) point) placed

-- each piece finds its operands as they are asked for where values are read
abbrev pub AllSay : List Placed → List ℤ → Type 0
AllSay placed point = AllByRecursion (λ it. CanSay it.piece point) placed

-- number and mark of each are its operation's value
abbrev pub AreSound : List Placed → List ℤ → Type 0
AreSound placed point = AllByRecursion (λ it. value_at (vars it.piece it.first) point ≡ meaning it.piece point) placed

-- ---- filling them in

-- two points that differ in the pieces' own variables alone
pub record AgreeOutside (placed : List Placed) (point other : List ℤ) : Type 0 where
  pub same_length : length other ≡ length point
  pub kept : (var : ℕ) → IsFree var placed → number_at other var ≡ number_at point var

-- Each piece can be filled in at every point of which `Known` is true and at which the variables of the pieces before it lie in their ranges.
abbrev pub AreReady : (List ℤ → Type 0) → List Placed → Type 0
AreReady Known [] = Unit {0}
AreReady Known (it ∷ others) =
    ((point : List ℤ) → Known point → CanFill it.piece point)
    × AreReady (λ point. Known point × AreIn it.first (ranges it.piece) point) others
