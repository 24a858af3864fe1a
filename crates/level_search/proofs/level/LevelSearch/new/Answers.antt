use Rattle.std.proofs.Common.{refl, ◌∙◌, arith}
use Rattle.level_search.proofs.KeptLaws.{kept_first}
use Rattle.level_search.proofs.level.LevelSearch.new.Goals as goal

pub returns-clause-kept : goal.returns-clause-kept
returns-clause-kept c =
    let count = c.clauses.ensures.count in
    kept_first _ c.clauses.ensures.well_formed refl c.new-2.ensures.items c.new-3.ensures.items c.in_ok-search.ensures.store c.in_ok-search.ensures.trail
    (c.in_ok-numbers.ensures.count ∙ count) (λ at within. c.in_ok-numbers.ensures.each at (omega (arith, within, count))) c.in_ok-singles.ensures
