use Rattle.std.proofs.Common.{◌≡◌, ℕ, ◌<◌, ◌⊎◌, length, get_or}
use Rattle.bounded_simplex.specs.Reach.{AreReaches, IsFree, HasRoom}
use Rattle.bounded_simplex.specs.declared.reach.Reach.{Reach}
use Rattle.bounded_simplex.proofs.reach.look_at_rows.Given as goal

abbrev pub invariant-loop-row : goal.invariant-loop-row
invariant-loop-row l =
    record {
      reached : AreReaches l.bounds.system l.reaches.items;
      room : (row : ℕ) (d : Reach) → row < l.row → IsFree l.bounds row ⊎ HasRoom l.bounds row (get_or l.reaches.items row d);
    }
