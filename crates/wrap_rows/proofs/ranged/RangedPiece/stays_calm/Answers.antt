use Rattle.std.proofs.Common.{ℕ, ◌^◌, ◌<◌, pos, ◌-ℤ◌, nat_lt, arith}
use Rattle.std.specs.Prelude.{unsigned_abs}
use Rattle.mix_system.specs.declared.literal.Side.TheVariants.{Ge}
use Rattle.wrap_rows.specs.declared.ranged.Ranged.{Ranged}
use Rattle.wrap_rows.specs.Small.{IsNarrow, IsShort, IsSmall}
use Rattle.wrap_rows.specs.Ranged.{IsAt, ranges, between_clauses, around_clauses, layout}
use Rattle.wrap_rows.proofs.CaseLaws.{Each, All-from_Each}
use Rattle.wrap_rows.proofs.SmallLaws.{negated_size, power_small, mark_narrow, Each-if, small-from}
use Rattle.wrap_rows.proofs.ranged.RangedPiece.stays_calm.Goals as goal

-- a bound of the range, and the number below it
bound_short : (bound : ℕ) → bound < 2 ^ 32 → unsigned_abs (pos bound) < 2 ^ 66
bound_short bound below = omega (arith, below)

less_short : (bound : ℕ) → bound < 2 ^ 32 → unsigned_abs (pos bound -ℤ pos 1) < 2 ^ 66
less_short bound below = omega (arith, below, negated_size Ge (pos bound))

small : (ranged : Ranged) (first : ℕ) → IsAt ranged first → IsSmall (layout ranged first)
small ranged first is_at =
    let power = power_small ranged.width is_at.width.greatest in
    let low = bound_short ranged.low (omega (arith, power, is_at.low)) in
    let high = bound_short ranged.high (omega (arith, power, is_at.high)) in
    let less_low = less_short ranged.low (omega (arith, power, is_at.low)) in
    let less_high = less_short ranged.high (omega (arith, power, is_at.high)) in
    small-from (layout ranged first) tt
    (Each-if (Each IsShort) (nat_lt ranged.low ranged.high) (between_clauses ranged.number ranged.low ranged.high first) (around_clauses ranged.number ranged.low ranged.high first)
    ((omega arith, (less_low, (high, tt))), ((omega arith, (low, tt)), ((omega arith, (less_high, tt)), tt)))
    ((omega arith, (low, (less_high, tt))), ((omega arith, (less_low, tt)), ((omega arith, (high, tt)), tt))))

pub returns-clause-narrow : goal.returns-clause-narrow
returns-clause-narrow c = All-from_Each IsNarrow (ranges c.args.self.now) (mark_narrow, tt)

pub returns-clause-small : goal.returns-clause-small
returns-clause-small c = small c.args.self.now _ c.requires.at
