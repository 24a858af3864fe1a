use Rattle.std.proofs.Common.{◌≡◌, ◌+◌, ◌-◌, ◌/◌, ◌<◌, get_or, pos, FitsSigned, sym, rules, arith}
use Rattle.std.specs.Int.{w128}
use Rattle.std.proofs.lemmas.Int.{to_z-of_z}
use Rattle.std.proofs.lemmas.Bool.Decides.{nat_tests}
use Rattle.tableau_rows.specs.declared.entry.Entry.{Entry}
use Rattle.tableau_rows.proofs.TotalLaws.{coefficient_at}
use Rattle.tableau_rows.proofs.SearchLaws.{below_middle, above_middle, none_left}
use Rattle.tableau_rows.proofs.solved.coefficient_of.Goals as goal

blank : Entry
blank = record { column = 0; coeff = pos 0 }

pub returns-then-entry-column : goal.returns-then-entry-column
unfolding blank
returns-then-entry-column c =
    let entries = c.args.entries.now in
    let middle = c.loop-low.low + (c.loop-low.high - c.loop-low.low) / 2 in
    let fits : FitsSigned w128 (get_or entries middle blank).coeff = search rules in
    let same : (get_or entries middle blank).column ≡ c.args.column = grind (arith, nat_tests) in
    simp to_z-of_z (rw (← same) (sym (coefficient_at entries c.requires.rising middle blank (omega (arith, c.loop-low.invariant.within)))))

pub loop-low-preserved-then-entry-column-2 : goal.loop-low-preserved-then-entry-column-2
unfolding blank
loop-low-preserved-then-entry-column-2 c =
    let entries = c.args.entries.now in
    let middle = c.loop-low.low + (c.loop-low.high - c.loop-low.low) / 2 in
    let less : (get_or entries middle blank).column < c.args.column = grind (arith, nat_tests) in
    record {
      within = c.loop-low.invariant.within;
      below = below_middle entries c.requires middle blank c.args.column (omega (arith, c.loop-low.invariant.within)) less;
      above = c.loop-low.invariant.above;
    }

pub loop-low-preserved : goal.loop-low-preserved
unfolding blank
loop-low-preserved c =
    let entries = c.args.entries.now in
    let middle = c.loop-low.low + (c.loop-low.high - c.loop-low.low) / 2 in
    let more : c.args.column < (get_or entries middle blank).column = grind (arith, nat_tests) in
    record {
      within = omega (arith, c.loop-low.invariant.within);
      below = c.loop-low.invariant.below;
      above = above_middle entries c.requires middle blank c.args.column more;
    }

pub returns : goal.returns
returns c =
    sym (none_left c.args.entries.now c.loop-low.low c.loop-low.high c.args.column (omega arith) c.loop-low.invariant.below c.loop-low.invariant.above)
