use Rattle.std.proofs.Common.{subst}
use Rattle.level_theories.specs.Theory.{NodeIsCovered}
use Rattle.level_theories.proofs.ExcludedLaws.{node_more, hold_more}
use Rattle.level_theories.proofs.excluded.excluded.Goals as goal

pub loop-at-preserved : goal.loop-at-preserved
loop-at-preserved c =
    let it = c.args.level.now in
    let old = c.loop-at.lits in
    let new = c.exclude_node.new.lits in
    let made = c.in_ok-exclude_node.ensures in
    record {
      lits = made.lits;
      covered = hold_more (NodeIsCovered it old) (NodeIsCovered it new) c.args.nodes.now c.loop-at.at c.index-nodes-at.result c.loop-at-test.true
          (λ node is. node_more it old new node made.more is) c.loop-at.invariant.covered (subst (NodeIsCovered it new) c.index-nodes-at.is made.covered);
    }
