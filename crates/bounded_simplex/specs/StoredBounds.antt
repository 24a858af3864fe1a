-- How the bounds in force are stored.
use Rattle.std.specs.Prelude.{◌≡◌, ℕ, ◌+◌, ◌*◌, ◌<◌, ◌≤◌, ◌^◌, List, ℤ, length, map, take, Option, None, All, slice_index_or, vec_capacity}
use Rattle.mix_system.specs.declared.literal.Term.{Term}
use Rattle.mix_system.specs.declared.literal.Side.{Side}
use Rattle.mix_system.specs.declared.literal.Lit.{Lit}
use Rattle.mix_system.specs.System.{System, Exists}
use Rattle.bounded_simplex.specs.BoundPlaces.{place_of}
use Rattle.bounded_simplex.specs.InForce.{BoundChanges, in_force}
use Rattle.bounded_simplex.specs.declared.bounds.Change.{Change}
use Rattle.bounded_simplex.specs.declared.bounds.Bounds.TheInside.{Inside}

abbrev pub lits_of : List Change → List Lit
lits_of changes = map (λ change. change.lit) changes

abbrev pub changes_of : Inside → BoundChanges
changes_of bounds = record { system = bounds.system.now; changes = lits_of bounds.changes.items; room = bounds.room }

-- the bound that each change replaced is the one that was in force before it
abbrev pub AreReplaced : System → ℕ → List Change → Type 0
AreReplaced system room changes =
    (k : ℕ) (d : Change) → k < length changes
    → (slice_index_or changes k d).before
    ≡ in_force (record { system = system; changes = lits_of (take k changes); room = room }) (slice_index_or changes k d).lit.term (slice_index_or changes k d).lit.side

-- the bound in force on each side of each term stands in its place
abbrev pub AreEnds : BoundChanges → List (Option ℤ) → Type 0
AreEnds bounds ends =
    (term : Term) (side : Side) → Exists (length bounds.system.ranges) (length bounds.system.rows) term
    → slice_index_or ends (place_of (length bounds.system.ranges) term side) None ≡ in_force bounds term side

pub record IsSound (bounds : Inside) : Type 0 where
  pub places : length bounds.ends.items ≡ 2 * (length bounds.system.now.ranges + length bounds.system.now.rows)
  pub ends : AreEnds (changes_of bounds) bounds.ends.items
  pub known : All (λ change. Exists (length bounds.system.now.ranges) (length bounds.system.now.rows) change.lit.term) bounds.changes.items
  pub replaced : AreReplaced bounds.system.now bounds.room bounds.changes.items
  pub within_room : length bounds.changes.items ≤ bounds.room
  pub reserved : bounds.room ≤ vec_capacity bounds.changes
  pub room_fits : bounds.room < 2 ^ 32
