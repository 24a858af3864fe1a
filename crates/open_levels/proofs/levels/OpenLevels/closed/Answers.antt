use Rattle.std.proofs.Common.{◌≡◌, ◌+◌, ◌<◌, ◌∷◌, [], List, length, map, true, sym, ◌∙◌, ap, arith}
use Rattle.std.proofs.lemmas.List.{reverse-append}
use Rattle.proof_term.specs.declared.proof.Goal.{Goal}
use Rattle.proof_term.specs.Levels.{Finished, cut_clause}
use Rattle.proof_term.specs.Valid.{closed}
use Rattle.open_levels.specs.Stack.{OpenLevel, Stack, level_of, levels_of, ended_on}
use Rattle.open_levels.proofs.KeptLaws.{first_around, sound_back, levels_closed}
use Rattle.open_levels.proofs.levels.OpenLevels.closed.Goals as goal

pub end_cut-requires-clause-over : goal.end_cut-requires-clause-over
end_cut-requires-clause-over c =
    let some : 0 < length c.args.self.stack.enclosing = omega (arith, c.if-around-eq0.false, c.around.ensures) in
    let found = first_around c.args.self.stack.enclosing some in
    sound_back c.args.system.now c.args.cost c.args.self found.0 found.1 c.requires.kept found.2 c.close.new.self (λ start extends is. c.close.ensures start extends (c.mark.ensures ∙ is))

pub returns-clause-stage : goal.returns-clause-stage
returns-clause-stage c =
    let old = c.args.self.stack in
    let some : 0 < length old.enclosing = omega (arith, c.if-around-eq0.false, c.around.ensures) in
    let found = first_around old.enclosing some in
    let outer = found.0 in
    let step : Finished = record { number = old.next; clause = cut_clause old.last.goal; is_cut = true } in
    let stack_is =
    c.in_ok-end_cut.ensures.ends ∙ ap (λ (s : Stack). ended_on s (cut_clause c.goal-goal.result) true) (c.close-2.ensures outer found.1 found.2)
    ∙ ap (λ (g : Goal). ended_on (record old { last = outer; enclosing = found.1 }) (cut_clause g) true) c.goal-goal.ensures in
    ap (λ (s : Stack). record { next = s.next; levels = levels_of s.last s.enclosing }) stack_is
    ∙ ap (λ (fs : List Finished). record { next = old.next + 1; levels = record { last = record { goal = outer.goal; finished = fs }; enclosing = map level_of found.1 } }) (reverse-append outer.ended (step ∷ []))
    ∙ ap (λ (levels : List OpenLevel). closed old.next (level_of old.last) (map level_of levels)) (sym found.2)

pub returns-clause-kept : goal.returns-clause-kept
returns-clause-kept c =
    let old = c.args.self.stack in
    let some : 0 < length old.enclosing = omega (arith, c.if-around-eq0.false, c.around.ensures) in
    let found = first_around old.enclosing some in
    let outer = found.0 in
    let stack_is =
    c.in_ok-end_cut.ensures.ends ∙ ap (λ (s : Stack). ended_on s (cut_clause c.goal-goal.result) true) (c.close-2.ensures outer found.1 found.2)
    ∙ ap (λ (g : Goal). ended_on (record old { last = outer; enclosing = found.1 }) (cut_clause g) true) c.goal-goal.ensures in
    let adds = rw c.goal-goal.ensures at c.in_ok-end_cut.ensures.adds in
    let here = rw c.goal-goal.ensures at c.in_ok-end_cut.ensures.here in
    levels_closed c.args.system.now c.args.cost c.args.self outer found.1 c.requires.kept found.2 c.close.new.self (λ start extends is. c.close.ensures start extends (c.mark.ensures ∙ is))
    c.end_cut.new.stack c.end_cut.new.bounds stack_is adds here c.in_ok-end_cut.ensures.over
