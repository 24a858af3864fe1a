use Rattle.std.proofs.Common.{ℕ, refl, arith}
use Rattle.wrap_rows.specs.declared.select.Select.{Select}
use Rattle.wrap_rows.specs.Small.{IsNarrow, IsSmall}
use Rattle.wrap_rows.specs.Select.{ranges, layout}
use Rattle.wrap_rows.proofs.CaseLaws.{All-from_Each}
use Rattle.wrap_rows.proofs.SmallLaws.{number_narrow, mark_narrow, short_by_test, small-from}
use Rattle.wrap_rows.proofs.select.SelectPiece.stays_calm.Goals as goal

small : (select : Select) (first : ℕ) → IsSmall (layout select first)
small select first = small-from (layout select first) (omega arith, (omega arith, tt)) (short_by_test (layout select first).clauses refl)

pub returns-clause-narrow : goal.returns-clause-narrow
returns-clause-narrow c =
    All-from_Each IsNarrow (ranges c.args.self.now) (number_narrow c.args.self.now.width c.requires.at.width, (mark_narrow, tt))

pub returns-clause-small : goal.returns-clause-small
returns-clause-small c = small c.args.self.now _
