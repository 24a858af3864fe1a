use Rattle.ll_items.specs.Sites.{site_of}
use Rattle.ll_flow.specs.Uses.{entry_uses}
use Rattle.ll_flow.proofs.FindLaws.{all_keep, one_more, found_here}
use Rattle.ll_flow.proofs.NamedLaws.{entry_named}
use Rattle.ll_flow.proofs.uses.first_in_phi.Goals as goal

pub in_entry-requires-clause-value : goal.in_entry-requires-clause-value
in_entry-requires-clause-value c =
    (entry_named c.args.uses.now.values.now c.args.uses.now.labels.now c.args.phi.now.width c.items-entries.result.now c.loop-entry.entry-index c.entry-item.result (rw c.items-entries.ensures c.requires.named) c.loop-entry-test.true c.entry-item.is).0

pub in_entry-requires-clause-from : goal.in_entry-requires-clause-from
in_entry-requires-clause-from c =
    (entry_named c.args.uses.now.values.now c.args.uses.now.labels.now c.args.phi.now.width c.items-entries.result.now c.loop-entry.entry-index c.entry-item.result (rw c.items-entries.ensures c.requires.named) c.loop-entry-test.true c.entry-item.is).1

pub returns-in-Some : goal.returns-in-Some
returns-in-Some c =
    rw (← c.items-entries.ensures) (found_here c.args.uses.now (entry_uses (site_of c.args.site)) c.items-entries.result.now c.loop-entry.entry-index c.entry-item.result c.loop-entry-test.true c.entry-item.is c.in-Some.found c.loop-entry.invariant (rw c.in-Some.is at c.in_entry.ensures))

pub loop-entry-preserved : goal.loop-entry-preserved
loop-entry-preserved c =
    one_more c.args.uses.now (entry_uses (site_of c.args.site)) c.items-entries.result.now c.loop-entry.entry-index c.entry-item.result c.loop-entry-test.true c.entry-item.is c.loop-entry.invariant (rw c.in-None.is at c.in_entry.ensures)

pub returns : goal.returns
returns c =
    rw (← c.items-entries.ensures) (all_keep c.args.uses.now (entry_uses (site_of c.args.site)) c.items-entries.result.now c.loop-entry.entry-index c.loop-entry-test.false c.loop-entry.invariant)
