use Rattle.std.proofs.Common.{ℕ, ◌+◌, ◌-◌, ◌^◌, ◌∷◌, [], pos, arith}
use Rattle.mix_system.specs.declared.literal.Term.TheVariants.{Var}
use Rattle.wrap_rows.specs.declared.zext.Zext.{Zext}
use Rattle.wrap_rows.specs.Blocks.{equals, marks}
use Rattle.wrap_rows.specs.Layout.{at_least}
use Rattle.wrap_rows.specs.Small.{IsNarrow, IsShort, IsSmall}
use Rattle.wrap_rows.specs.Zext.{IsAt, ranges, layout, listed}
use Rattle.wrap_rows.proofs.CaseLaws.{Each, All-from_Each}
use Rattle.wrap_rows.proofs.BlockLaws.{Each-append}
use Rattle.wrap_rows.proofs.SmallLaws.{IsListed, half_small, number_narrow, mark_narrow, Each-if, equation-short, marks-short, small-from}
use Rattle.wrap_rows.proofs.zext.ZextPiece.stays_calm.Goals as goal

small : (zext : Zext) (first : ℕ) → IsAt zext first → IsSmall (layout zext first)
small zext first is_at =
    small-from (layout zext first) (omega arith, tt)
    (Each-append (Each IsShort) (equals 0 (pos 0)) (marks (first + 1) (zext.a.mark ∷ []) (listed zext)) (equation-short 0)
    (marks-short (first + 1) (zext.a.mark ∷ []) (listed zext)
    (Each-if IsListed zext.flags.nneg (at_least (Var zext.a.number) (pos (2 ^ (zext.from - 1))) ∷ []) [] (omega (arith, half_small zext.from is_at.from), tt) tt)))

pub returns-clause-narrow : goal.returns-clause-narrow
returns-clause-narrow c =
    All-from_Each IsNarrow (ranges c.args.self.now) (number_narrow c.args.self.now.to c.requires.at.to, (mark_narrow, tt))

pub returns-clause-small : goal.returns-clause-small
returns-clause-small c = small c.args.self.now _ c.requires.at
