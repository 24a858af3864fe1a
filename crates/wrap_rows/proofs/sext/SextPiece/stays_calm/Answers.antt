use Rattle.std.proofs.Common.{ℕ, ◌+◌, ◌∷◌, [], ◌++◌, pos, arith}
use Rattle.wrap_rows.specs.declared.sext.Sext.{Sext}
use Rattle.wrap_rows.specs.Blocks.{equals, marks, sign_clauses}
use Rattle.wrap_rows.specs.Small.{IsNarrow, IsShort, IsSmall}
use Rattle.wrap_rows.specs.Sext.{IsAt, ranges, layout}
use Rattle.wrap_rows.proofs.CaseLaws.{Each, All-from_Each}
use Rattle.wrap_rows.proofs.BlockLaws.{Each-append}
use Rattle.wrap_rows.proofs.SmallLaws.{power_small, number_narrow, mark_narrow, equation-short, marks-short, sign_row-light, sign_clauses-short, small-from}
use Rattle.wrap_rows.proofs.sext.SextPiece.stays_calm.Goals as goal

small : (sext : Sext) (first : ℕ) → IsAt sext first → IsSmall (layout sext first)
small sext first is_at =
    small-from (layout sext first)
    (sign_row-light sext.from sext.a.number (first + 1 + 1) is_at.from, (omega (arith, power_small sext.to is_at.to.greatest), tt))
    (Each-append (Each IsShort) (sign_clauses sext.from 0) (equals 1 (pos 0) ++ marks (first + 1) (sext.a.mark ∷ []) []) (sign_clauses-short sext.from 0 is_at.from)
    (Each-append (Each IsShort) (equals 1 (pos 0)) (marks (first + 1) (sext.a.mark ∷ []) []) (equation-short 1) (marks-short (first + 1) (sext.a.mark ∷ []) [] tt)))

pub returns-clause-narrow : goal.returns-clause-narrow
returns-clause-narrow c =
    All-from_Each IsNarrow (ranges c.args.self.now) (number_narrow c.args.self.now.to c.requires.at.to, (mark_narrow, (mark_narrow, tt)))

pub returns-clause-small : goal.returns-clause-small
returns-clause-small c = small c.args.self.now _ c.requires.at
