use Rattle.std.proofs.Common.{ℕ, refl}
use Rattle.wrap_rows.specs.declared.shift_out.ShiftOut.{ShiftOut}
use Rattle.wrap_rows.specs.Small.{IsNarrow, IsSmall}
use Rattle.wrap_rows.specs.ShiftOut.{ranges, layout}
use Rattle.wrap_rows.proofs.CaseLaws.{All-from_Each}
use Rattle.wrap_rows.proofs.SmallLaws.{number_narrow, mark_narrow, short_by_test, small-from}
use Rattle.wrap_rows.proofs.shift_out.ShiftOutPiece.stays_calm.Goals as goal

small : (shift : ShiftOut) (first : ℕ) → IsSmall (layout shift first)
small shift first = small-from (layout shift first) tt (short_by_test (layout shift first).clauses refl)

pub returns-clause-narrow : goal.returns-clause-narrow
returns-clause-narrow c =
    All-from_Each IsNarrow (ranges c.args.self.now) (number_narrow c.args.self.now.width c.requires.at.width, (mark_narrow, tt))

pub returns-clause-small : goal.returns-clause-small
returns-clause-small c = small c.args.self.now _
