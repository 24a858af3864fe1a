use Rattle.flow_rules.proofs.RowLaws.{FirstRows}
use Rattle.flow_rules.proofs.rows.rows_of.Given as goal

abbrev pub invariant-loop-without : goal.invariant-loop-without
invariant-loop-without l = FirstRows l.edges l.entry l.blocks l.without l.rows
