use Rattle.std.proofs.Common.{◌≡◌, rules, ◌∙◌}
use Rattle.wrap_rows.specs.Vars.{value_at}
use Rattle.div_rows.specs.Extreme.{vars}
use Rattle.div_rows.proofs.ExtremeLaws.{sound}
use Rattle.div_rows.proofs.extreme.ExtremePiece.sound.Goals as goal

pub returns-clause-sound : goal.returns-clause-sound
returns-clause-sound c =
    let read : c.value_at.result ≡ value_at (vars c.args.self.now c.args.first) c.args.point.now = search rules in
    read ∙ sound c.args.self.now c.args.first c.args.point.now c.requires.at c.requires.operands c.requires.in_ranges c.requires.holds
