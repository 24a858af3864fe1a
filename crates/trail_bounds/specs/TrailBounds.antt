-- Which literals of a trail are among the bounds of a simplex.
use Rattle.std.specs.Prelude.{◌≡◌, ◌+◌, ◌≤◌, List, ◌++◌, length, take, drop, All, Contains}
use Rattle.mix_system.specs.declared.literal.Lit.{Lit}
use Rattle.mix_system.specs.Bounds.{IsIn, range_bounds}
use Rattle.mix_system.specs.System.{System}
use Rattle.mix_system.specs.Tally.{halving_depth}
use Rattle.trail_bounds.specs.declared.bounds.TrailBounds.{TrailBounds}

-- how many changes there are
abbrev pub IsCounted : TrailBounds → Type 0
IsCounted it = length it.simplex.bounds.changes ≡ it.base + it.put

-- The first changes are literals of level 0, which say all that those say; behind them stand the others in order, as far as they were put.
pub record AreBoundsOf (system : System) (lits : List Lit) (it : TrailBounds) : Type 0 where
  pub over : it.simplex.bounds.system ≡ system
  pub same : it.system.now ≡ system
  pub depth : halving_depth system ≤ it.depth
  pub within : it.ground + it.put ≤ length lits
  pub front : List Lit
  pub base : it.base ≡ length front
  pub few : length front ≤ it.ground
  pub changes : it.simplex.bounds.changes ≡ front ++ take it.put (drop it.ground lits)
  pub among : All (Contains (take it.ground lits)) front
  pub says : (lit : Lit) → IsIn (range_bounds system.ranges ++ take it.ground lits) lit → IsIn (range_bounds system.ranges ++ front) lit

-- there is room for as many changes as the ranges can be halved
abbrev pub HasRoom : TrailBounds → Type 0
HasRoom it = length it.simplex.bounds.changes + halving_depth it.system.now ≤ it.simplex.bounds.room
