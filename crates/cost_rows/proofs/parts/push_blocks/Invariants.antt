use Rattle.std.proofs.Common.{◌≡◌, ◌<◌, ◌≤◌, ◌+◌, ◌*◌, ◌^◌, ◌++◌, ℕ, Bool, drop}
use Rattle.std.specs.List.{All}
use Rattle.wrap_rows.specs.Normal.{sizes}
use Rattle.portion_cuts.specs.Paths.{costs_at}
use Rattle.cost_rows.specs.Rows.{block_row, AreFlags}
use Rattle.cost_rows.proofs.PartLaws.{AreKnown}
use Rattle.cost_rows.proofs.parts.push_blocks.Given as goal

-- what was put and what is left are the whole
abbrev pub invariant-loop-at : goal.invariant-loop-at
invariant-loop-at l = record {
  whole : (inside : ℕ → Bool) → AreFlags inside l.flags
      → l.parts.items ++ block_row (costs_at l.sound l.costs) inside l.at (drop l.at l.vars) ≡ l.initial.parts.items ++ block_row (costs_at l.sound l.costs) inside 0 l.vars;
  known : (count : ℕ) → All (λ var. var < count) l.vars → AreKnown count l.initial.parts.items → AreKnown count l.parts.items;
  small : sizes l.parts.items ≤ sizes l.initial.parts.items + l.at * 2 ^ 32;
}
