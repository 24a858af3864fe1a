use Rattle.std.proofs.Common.{ℕ, ◌+◌, Bool, true, false, [], ◌∷◌, ◌++◌, arith}
use Rattle.wrap_rows.specs.Blocks.{marks, sign_clauses}
use Rattle.wrap_rows.specs.Small.{IsNarrow, IsShort, IsSmall}
use Rattle.wrap_rows.proofs.CaseLaws.{Each, All-from_Each}
use Rattle.wrap_rows.proofs.BlockLaws.{Each-append}
use Rattle.wrap_rows.proofs.SmallLaws.{IsLight, IsListed, power_small, half_small, number_narrow, mark_narrow, marks-short, sign_row-light, sign_clauses-short, small-from}
use Rattle.div_rows.specs.declared.abs.Abs.{Abs}
use Rattle.div_rows.specs.Abs.{IsAt, ranges, rows_of, size_clauses, listed, value_clauses, layout}
use Rattle.div_rows.proofs.abs.AbsPiece.stays_calm.Goals as goal

module _ (abs : Abs) (first : ℕ) (is_at : IsAt abs first) where
  rows_light : Each IsLight (rows_of abs first)
  rows_light = (sign_row-light abs.width abs.a.number (first + 1 + 1) is_at.width, (omega arith, (omega arith, tt)))

  size_short : (sign : ℕ) → Each (Each IsShort) (size_clauses abs sign)
  size_short sign =
      let whole = power_small abs.width is_at.width.greatest in (
        (omega arith, (omega arith, tt)),
        ((omega arith, (omega arith, tt)), ((omega arith, (omega (arith, whole), tt)), ((omega arith, (omega (arith, whole), tt)), tt))),
      )

  listed_each : (strict : Bool) → Each IsListed (listed strict abs first)
  listed_each true = (omega (arith, half_small abs.width is_at.width), tt)
  listed_each false = tt

  clauses_short : Each (Each IsShort) (sign_clauses abs.width 0 ++ value_clauses abs.strict abs first)
  clauses_short =
      Each-append (Each IsShort) (sign_clauses abs.width 0) (value_clauses abs.strict abs first) (sign_clauses-short abs.width 0 is_at.width)
      (Each-append (Each IsShort) (size_clauses abs (first + 1 + 1)) (marks (first + 1) (abs.a.mark ∷ []) (listed abs.strict abs first)) (size_short (first + 1 + 1))
      (marks-short (first + 1) (abs.a.mark ∷ []) (listed abs.strict abs first) (listed_each abs.strict)))

  small : IsSmall (layout abs first)
  small = small-from (layout abs first) rows_light clauses_short

pub returns-clause-narrow : goal.returns-clause-narrow
returns-clause-narrow c =
    let abs = c.args.self.now in
    All-from_Each IsNarrow (ranges abs) (number_narrow abs.width c.requires.at.width, (mark_narrow, (mark_narrow, tt)))

pub returns-clause-small : goal.returns-clause-small
returns-clause-small c = small c.args.self.now _ c.requires.at
