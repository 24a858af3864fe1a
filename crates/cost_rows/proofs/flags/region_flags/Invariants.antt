use Rattle.std.proofs.Common.{◌≡◌, ◌<◌, ℕ, false, eqb, length, get_or, take}
use Rattle.std.specs.List.{list_any}
use Rattle.ll_links.specs.declared.link.Position.{Position}
use Rattle.cost_rows.proofs.flags.region_flags.Given as goal

abbrev pub invariant-loop-block : goal.invariant-loop-block
invariant-loop-block l = record {
  size : length l.flags.items ≡ l.count;
  flags : (at : ℕ) → at < l.count → get_or l.flags.items at false ≡ list_any (λ (block : Position). eqb block.0 at) (take l.block-index l.blocks);
}
