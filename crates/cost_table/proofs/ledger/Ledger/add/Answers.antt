use Rattle.cost_table.proofs.KeptLaws.{added_nothing, added_block, added_edge}
use Rattle.cost_table.proofs.ledger.Ledger.add.Goals as goal

pub returns-in-Nothing-clause-added : goal.returns-in-Nothing-clause-added
returns-in-Nothing-clause-added c entries keeps =
    rw c.in-Nothing.is (added_nothing entries c.args.self.now.blocks.items c.args.self.now.edges.items keeps)

pub returns-in-Block-clause-added : goal.returns-in-Block-clause-added
returns-in-Block-clause-added c entries keeps =
    rw c.in-Block.is (added_block entries c.args.self.now.blocks.items c.args.self.now.edges.items c.put.new.costs.items c.in-Block.block c.in-Block.cost c.put.result (rw c.in-Block.is at c.requires) c.put.ensures keeps)

pub returns-in-Edge-clause-added : goal.returns-in-Edge-clause-added
returns-in-Edge-clause-added c entries keeps =
    rw c.in-Edge.is (added_edge entries c.args.self.now.blocks.items c.args.self.now.edges.items c.put-in-Edge.new.costs.items c.in-Edge.edge c.in-Edge.cost c.put-in-Edge.result (rw c.in-Edge.is at c.requires) c.put-in-Edge.ensures keeps)
