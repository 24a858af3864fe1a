use Rattle.std.proofs.Common.{sym, subst, All}
use Rattle.mix_system.specs.declared.farkas.FarkasPart.{FarkasPart}
use Rattle.level_theories.specs.Theory.{IsExact, IsCovered, NodeIsExact, NodeIsCovered}
use Rattle.level_theories.proofs.excluded.exclude_node.Goals as goal

pub exclude_parts-requires-clause-exact : goal.exclude_parts-requires-clause-exact
exclude_parts-requires-clause-exact c =
    let it = c.args.level.now in
    subst (All (λ (part : FarkasPart). IsExact it.search part.lit)) (sym c.items.ensures) (subst (NodeIsExact it.search) c.in-Leaf.is c.requires.exact)

pub returns-clause-covered : goal.returns-clause-covered
returns-clause-covered c =
    let it = c.args.level.now in
    let new = c.exclude_parts.new.lits in
    subst (NodeIsCovered it new) (sym c.in-Leaf.is) (subst (All (λ (part : FarkasPart). IsCovered it new part.lit)) c.items.ensures c.in_ok-exclude_parts.ensures.covered)
