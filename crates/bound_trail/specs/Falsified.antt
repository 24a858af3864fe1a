-- The walk from the last bound on a literal's other side to the first one that makes the literal false.
use Rattle.std.specs.Prelude.{◌≡◌, ℕ, ◌<◌, ◌≤◌, length}
use Rattle.std.specs.List.{HoldsAt}
use Rattle.mix_system.specs.declared.literal.Lit.{Lit}
use Rattle.mix_system.specs.Lit.{negation, other_side}
use Rattle.mix_system.specs.Bounds.{Entails}
use Rattle.bound_trail.specs.declared.edge.Edge.{Edge}
use Rattle.bound_trail.specs.Edges.{place_of, edge_after}
use Rattle.bound_trail.specs.Trail.{Trail, IsTrail}

-- the edge is that of the literals before a place, and the literal at the place, if there is one, makes the literal false
pub record IsDownTo (trail : Trail) (lit : Lit) (at : ℕ) (edge : Edge) : Type 0 where
  pub ok : IsTrail trail
  pub within : at ≤ length trail.lits
  pub edge_is : edge ≡ edge_after trail.ranges trail.rows trail.lits at (place_of (length trail.ranges) lit.term (other_side lit.side))
  pub falsifies : at < length trail.lits → HoldsAt (λ put. Entails put (negation lit)) trail.lits at
