use Rattle.cost_table.proofs.ledger.Ledger.take_line.Goals as goal

pub returns-then-add-clause-added : goal.returns-then-add-clause-added
returns-then-add-clause-added c entries keeps =
    let alone = rw c.in-Some.is at c.in_ok-said.ensures in
    (c.in-Ok.entry, (c.in-Some.said, alone.0, c.in-Ok.ensures), c.if-add.ensures.added entries keeps)
