use Rattle.std.proofs.Common.{◌≡◌, ℕ, List, ◌∷◌, subst}
use Rattle.cost_table.proofs.TableLaws.{Taken, taken_more, line_fault}
use Rattle.cost_table.proofs.costs.take_lines.Goals as goal

pub returns-in-Some-2-clause-fault : goal.returns-in-Some-2-clause-fault
returns-in-Some-2-clause-fault c =
    let steps : c.loop-line.lines ≡ c.in-Some.line.now ∷ c.next.new.self = c.in-Some.ensures.steps in
    let taken = subst (λ (left : List (List ℕ)). Taken c.args.version c.args.labels.now c.args.edges.now c.args.lines left c.loop-line.number c.loop-line.ledger.blocks.items c.loop-line.ledger.edges.items) steps c.loop-line.invariant.taken in
    let flaw = rw c.in-Some-2.is at (c.in_ok-flaw.ensures.added taken.entries taken.keeps) in
    rw c.fault_at.ensures (line_fault c.args.version c.args.labels.now c.args.edges.now c.args.lines c.in-Some.line.now c.next.new.self c.loop-line.number c.loop-line.ledger.blocks.items c.loop-line.ledger.edges.items taken c.in-Some-2.flaw flaw)

pub loop-line-preserved : goal.loop-line-preserved
loop-line-preserved c =
    let steps : c.loop-line.lines ≡ c.in-Some.line.now ∷ c.next.new.self = c.in-Some.ensures.steps in
    let taken = subst (λ (left : List (List ℕ)). Taken c.args.version c.args.labels.now c.args.edges.now c.args.lines left c.loop-line.number c.loop-line.ledger.blocks.items c.loop-line.ledger.edges.items) steps c.loop-line.invariant.taken in
    let added = rw c.in_default-2.is at (c.in_ok-flaw.ensures.added taken.entries taken.keeps) in
    record {
      taken = taken_more c.args.version c.args.labels.now c.args.edges.now c.args.lines c.in-Some.line.now c.next.new.self c.loop-line.number c.loop-line.ledger.blocks.items c.loop-line.ledger.edges.items taken c.take_line.new.self.blocks.items c.take_line.new.self.edges.items added;
      blocks = c.in_ok-flaw.ensures.blocks;
      edges = c.in_ok-flaw.ensures.edges;
    }
