use Rattle.std.proofs.Common.{◌≤◌, ℕ, List, length, ap, refl, arith}
use Rattle.search_rows.proofs.RunLaws.{on_ok, known_back}
use Rattle.search_rows.proofs.steps.back_to.Goals as goal

pub returns : goal.returns
returns c =
    let same = ap (λ (xs : List ℕ). length xs) c.levels.ensures.levels in
    let within : c.in-Ok.level ≤ length c.args.run.now.search.trail.levels = omega (arith, same, c.if-level-levels.false) in
    on_ok c.said.result (known_back c.args.run.now _ c.in-Ok.level c.levels.ensures.trail c.requires within c.back_to.ensures.store c.back_to.ensures.trail refl refl refl)
