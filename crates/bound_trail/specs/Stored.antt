-- What a stored trail means, and what it keeps.
use Rattle.std.specs.Prelude.{◌≡◌, ℕ, ◌+◌, ◌*◌, ◌<◌, ℤ, List, length, slice_index_or}
use Rattle.mix_system.specs.declared.literal.Lit.{Lit}
use Rattle.bound_trail.specs.Trail.{Trail, IsTrail}
use Rattle.bound_trail.specs.Edges.{place_of, blank_lit, no_edge, edge_after}
use Rattle.bound_trail.specs.declared.edge.Edge.{Edge}
use Rattle.bound_trail.specs.declared.trail.BoundTrail.TheInside.{Inside}

abbrev pub lists : Inside → Trail
lists it = record { ranges = it.ranges.items; rows = it.rows; lits = it.lits.items; levels = it.levels.items }

-- each place has the bound in force there
pub record AreEdges (ranges : List (ℤ × ℤ)) (rows : ℕ) (lits : List Lit) (edges : List Edge) : Type 0 where
  pub one_each : length edges ≡ 2 * (length ranges + rows)
  pub each : (place : ℕ) → place < 2 * (length ranges + rows) → slice_index_or edges place no_edge ≡ edge_after ranges rows lits (length lits) place

-- beside each literal stands the bound that it replaced
pub record AreLinks (ranges : List (ℤ × ℤ)) (rows : ℕ) (lits : List Lit) (links : List Edge) : Type 0 where
  pub one_each : length links ≡ length lits
  pub each : (at : ℕ) → at < length lits → slice_index_or links at no_edge ≡ edge_after ranges rows lits at (place_of (length ranges) (slice_index_or lits at blank_lit).term (slice_index_or lits at blank_lit).side)

pub record IsSound (it : Inside) : Type 0 where
  pub trail : IsTrail (lists it)
  pub edges : AreEdges it.ranges.items it.rows it.lits.items it.edges.items
  pub links : AreLinks it.ranges.items it.rows it.lits.items it.links.items
