use Rattle.std.proofs.Common.{◌≡◌, drop}
use Rattle.ll_links.specs.Links as spec
use Rattle.ll_links.proofs.link.source_beside.Given as goal

abbrev pub invariant-loop-at : goal.invariant-loop-at
invariant-loop-at l = spec.source_beside l.from.0 (drop l.at l.blocks) (drop l.at l.sources) ≡ spec.source_beside l.from.0 l.blocks l.sources
