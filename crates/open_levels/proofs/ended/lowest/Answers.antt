use Rattle.std.proofs.Common.{◌≡◌, ◌-◌, ◌<◌, length, get_or, refl, arith, rules}
use Rattle.std.proofs.lemmas.Bool.Decides.{nat_tests}
use Rattle.open_levels.proofs.EndedLaws.{blank_mark, smaller_before}
use Rattle.open_levels.proofs.ended.lowest.Goals as goal

pub returns : goal.returns
returns c =
    let marks = c.args.marks.now in
    let some : 0 < length marks = grind (arith, nat_tests) in
    let last = (get_or marks (length marks - 1) blank_mark).number in
    let behind_is : c.saturating_sub-behind.result ≡ last - c.args.number = first_of (search rules, omega (arith, c.saturating_sub-behind.ensures)) in
    let low_is : c.saturating_sub.result ≡ length marks - 1 - c.saturating_sub-behind.result = first_of (search rules, omega (arith, c.saturating_sub.ensures)) in
    smaller_before marks c.requires last c.args.number c.saturating_sub-behind.result c.saturating_sub.result some refl (omega (arith, behind_is)) low_is
