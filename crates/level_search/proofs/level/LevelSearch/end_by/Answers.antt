use Rattle.std.proofs.Common.{ℕ, ◌<◌, [], length, sym, ◌∙◌, ap, subst, All}
use Rattle.clause_search.specs.Search.{single_bounds}
use Rattle.level_search.specs.Local.{local_hints}
use Rattle.level_search.proofs.TurnLaws.{hint_places, top_on, empty_lemma_plain, same_step, same_plain}
use Rattle.level_search.proofs.level.LevelSearch.end_by.Goals as goal

pub local_hints-requires : goal.local_hints-requires
local_hints-requires c =
    let it = c.args.self.now in
    subst (All (λ (h : ℕ). h < length it.numbers.items)) (sym c.items.ensures) (hint_places it c.requires.working.kept (single_bounds it.search) c.args.hints.now c.requires.top)

pub end-requires-clause-on : goal.end-requires-clause-on
end-requires-clause-on c =
    let it = c.args.self.now in
    same_step it c.new-clause.result [] c.in_ok-hints.hints (local_hints it.numbers.items c.args.hints.now) c.new-clause.ensures
    (c.in_ok-hints.ensures ∙ ap (local_hints it.numbers.items) c.items.ensures) (top_on it c.args.hints.now c.requires.working c.requires.goal c.requires.top)

pub end-requires-clause-plain : goal.end-requires-clause-plain
end-requires-clause-plain c =
    let it = c.args.self.now in
    same_plain it.system.now c.new-clause.result [] c.in_ok-hints.hints c.new-clause.ensures (empty_lemma_plain it c.in_ok-hints.hints)
