use Rattle.std.proofs.Common.{◌≡◌, ◌-◌, ◌+◌, ◌<◌, length, get_or, refl, arith, rules}
use Rattle.std.proofs.lemmas.Bool.Decides.{nat_tests}
use Rattle.open_levels.proofs.EndedLaws.{blank_mark, greater_behind, greater_end}
use Rattle.open_levels.proofs.ended.highest.Goals as goal

pub returns-clause-greater : goal.returns-clause-greater
returns-clause-greater c =
    let marks = c.args.marks.now in
    let some : 0 < length marks = grind (arith, nat_tests) in
    let first = (get_or marks 0 blank_mark).number in
    let ahead_is : c.saturating_sub-ahead.result ≡ c.args.number - first = first_of (search rules, omega (arith, c.saturating_sub-ahead.ensures)) in
    greater_behind marks c.requires first c.args.number (c.saturating_sub-ahead.result + 1) some refl (omega (arith, ahead_is))

pub returns-then-ahead-count-clause-greater : goal.returns-then-ahead-count-clause-greater
returns-then-ahead-count-clause-greater c = greater_end c.args.marks.now c.args.number
