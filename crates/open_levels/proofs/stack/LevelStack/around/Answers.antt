use Rattle.std.proofs.Common.{◌≡◌, length, take, sym, ◌∙◌, rules}
use Rattle.open_levels.proofs.StackLaws.{length_levels}
use Rattle.open_levels.proofs.stack.LevelStack.around.Goals as goal

pub returns : goal.returns
returns c =
    let it = c.self.inside in
    let count : c.len.result ≡ length it.around.items = search rules in
    rw (← c.self.view_is) (count ∙ sym (length_levels (take it.last.from it.steps) it.around.items))
