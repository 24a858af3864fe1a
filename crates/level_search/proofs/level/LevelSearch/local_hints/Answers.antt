use Rattle.std.proofs.Common.{ℕ, List, [], ◌∷◌, ◌++◌, take, Option, sym, ap, ◌∙◌}
use Rattle.std.specs.List.{cons_option}
use Rattle.std.proofs.lemmas.List.{append-nil}
use Rattle.level_search.specs.Local.{local_hints}
use Rattle.level_search.proofs.LocalLaws.{hint_at, none_from}
use Rattle.level_search.proofs.level.LevelSearch.local_hints.Goals as goal

pub loop-hint-preserved : goal.loop-hint-preserved
loop-hint-preserved c =
    let numbers = c.args.self.now.numbers.items in
    let hints = c.args.hints.now in
    let i = c.loop-hint.hint-index in
    c.in_ok-push.ensures.ok ∙ ap (λ (xs : List ℕ). xs ++ c.in-Some.number ∷ []) c.loop-hint.invariant
    ∙ ap (λ (o : Option ℕ). local_hints numbers (take i hints) ++ cons_option o []) (sym c.in-Some.is)
    ∙ sym (hint_at numbers hints i 0 c.index.result.now c.loop-hint-test.true c.requires c.index.ensures)

pub loop-hint-preserved-in_default : goal.loop-hint-preserved-in_default
loop-hint-preserved-in_default c =
    let numbers = c.args.self.now.numbers.items in
    let hints = c.args.hints.now in
    let i = c.loop-hint.hint-index in
    c.loop-hint.invariant ∙ sym (append-nil (local_hints numbers (take i hints)))
    ∙ ap (λ (o : Option ℕ). local_hints numbers (take i hints) ++ cons_option o []) (sym (none_from c.index.result.now c.in_default.not-Some))
    ∙ sym (hint_at numbers hints i 0 c.index.result.now c.loop-hint-test.true c.requires c.index.ensures)
