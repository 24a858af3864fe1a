use Rattle.std.proofs.Common.{ℕ, ◌+◌, List, [], ◌∷◌, map, refl, arith}
use Rattle.wrap_rows.specs.declared.phi.Incoming.{Incoming}
use Rattle.wrap_rows.specs.declared.phi.Phi.{Phi}
use Rattle.wrap_rows.specs.Small.{IsNarrow, IsShort, IsSmall}
use Rattle.wrap_rows.specs.Phi.{ranges, row_for, clauses_for, clauses_from, layout}
use Rattle.wrap_rows.proofs.CaseLaws.{Each, All-from_Each}
use Rattle.wrap_rows.proofs.BlockLaws.{Each-append}
use Rattle.wrap_rows.proofs.SmallLaws.{IsLight, number_narrow, mark_narrow, short_by_test, small-from}
use Rattle.wrap_rows.proofs.phi.PhiPiece.stays_calm.Goals as goal

rows_light : (first : ℕ) (incoming : List Incoming) → Each IsLight (map (row_for first) incoming)
rows_light first [] = tt
rows_light first (one ∷ others) = (omega arith, rows_light first others)

clauses_short : (row mark : ℕ) (incoming : List Incoming) → Each (Each IsShort) (clauses_from row mark incoming)
clauses_short row mark [] = tt
clauses_short row mark (one ∷ others) =
    Each-append (Each IsShort) (clauses_for row mark one) (clauses_from (row + 1) mark others) (short_by_test (clauses_for row mark one) refl) (clauses_short (row + 1) mark others)

small : (phi : Phi) (first : ℕ) → IsSmall (layout phi first)
small phi first = small-from (layout phi first) (rows_light first phi.incoming.items) (clauses_short 0 (first + 1) phi.incoming.items)

pub returns-clause-narrow : goal.returns-clause-narrow
returns-clause-narrow c =
    All-from_Each IsNarrow (ranges c.args.self.now) (number_narrow c.args.self.now.width c.requires.at.width, (mark_narrow, tt))

pub returns-clause-small : goal.returns-clause-small
returns-clause-small c = small c.args.self.now _
