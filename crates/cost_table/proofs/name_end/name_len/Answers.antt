use Rattle.std.proofs.Common.{◌≡◌, true, false, refl, sym, ◌∙◌}
use Rattle.cost_table.specs.Names.{begins_quoted}
use Rattle.cost_table.proofs.name_end.name_len.Goals as goal

pub returns-then-begins_quoted : goal.returns-then-begins_quoted
returns-then-begins_quoted c =
    let quoted : begins_quoted c.args.line.now ≡ true = sym c.begins_quoted.ensures ∙ c.if-begins_quoted.true in
    rw (quoted, c.inner_len.ensures.count) refl

pub returns : goal.returns
returns c =
    let bare : begins_quoted c.args.line.now ≡ false = sym c.begins_quoted.ensures ∙ c.if-begins_quoted.false in
    rw (bare, c.run_len.ensures) refl
