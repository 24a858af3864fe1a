use Rattle.std.proofs.Common.{◌<◌, ◌-◌, ◌≡◌, ⊎_elim, ℕ, pos, length, get_or, ltb, true, subst, arith}
use Rattle.std.proofs.lemmas.Bool.{cases_lt}
use Rattle.std.proofs.lemmas.Bool.Decides.{nat_tests}
use Rattle.std.proofs.lemmas.List.{get_or_default}
use Rattle.wrap_rows.specs.Layout.{times}
use Rattle.wrap_rows.proofs.normal.is_behind.Goals as goal

less_of : (a b : ℕ) → ltb a b ≡ true → a < b
less_of a b is_less = grind (arith, nat_tests)

pub returns-else-count-eq0 : goal.returns-else-count-eq0
returns-else-count-eq0 c = λ is_less k d low.
    let parts = c.args.parts.now in
    let last = length parts - 1 in
    let there : last < length parts = omega (arith, low) in
    let same = get_or_default parts last (times (pos 0) 0) d there in
    let less : (get_or parts last d).var < c.args.var = rw same at (less_of (get_or parts last (times (pos 0) 0)).var c.args.var is_less) in
    ⊎_elim (λ before. omega (arith, c.requires.rising k last d before there, less))
    (λ not. let at : last ≡ k = omega (arith, low, not) in subst (λ (n : ℕ). (get_or parts n d).var < c.args.var) at less)
    (cases_lt k last)
