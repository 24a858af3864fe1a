use Rattle.std.proofs.Common.{◌≡◌, ◌<◌, ◌≤◌, ◌+◌, ◌*◌, ◌^◌, ◌++◌, ℕ, Bool, drop}
use Rattle.std.specs.List.{All}
use Rattle.wrap_rows.specs.Normal.{sizes}
use Rattle.portion_cuts.specs.Paths.{costs_at}
use Rattle.cost_rows.specs.Rows.{edge_row, AreFlags}
use Rattle.cost_rows.proofs.PartLaws.{AreKnown}
use Rattle.cost_rows.proofs.parts.push_edges.Given as goal

-- what was put and what is left are the whole
abbrev pub invariant-loop-k : goal.invariant-loop-k
invariant-loop-k l = record {
  whole : (inside : ℕ → Bool) → AreFlags inside l.flags
      → l.parts.items ++ edge_row (costs_at l.sound l.costs) inside (drop l.k l.sound.flow.edges) (drop l.k l.vars) ≡ l.initial.parts.items ++ edge_row (costs_at l.sound l.costs) inside l.sound.flow.edges l.vars;
  known : (count : ℕ) → All (λ var. var < count) l.vars → AreKnown count l.initial.parts.items → AreKnown count l.parts.items;
  small : sizes l.parts.items ≤ sizes l.initial.parts.items + l.k * 2 ^ 32;
}
