use Rattle.std.proofs.Common.{◌≡◌, rules, ◌∙◌}
use Rattle.wrap_rows.specs.Vars.{value_at}
use Rattle.div_rows.specs.SignedDivision.{vars}
use Rattle.div_rows.proofs.SignedDivisionLaws.{sound, value_fits}
use Rattle.div_rows.proofs.signed_division.SignedDivisionPiece.sound.Goals as goal

pub value_at-requires-clause-value : goal.value_at-requires-clause-value
value_at-requires-clause-value c = rw c.vars.ensures (value_fits c.args.self.now c.args.first c.args.point.now c.requires.at c.requires.in_ranges)

pub returns-clause-sound : goal.returns-clause-sound
returns-clause-sound c =
    let read : c.value_at.result ≡ value_at (vars c.args.self.now c.args.first) c.args.point.now = search rules in
    read ∙ sound c.args.self.now c.args.first c.args.point.now c.requires.at c.requires.operands c.requires.in_ranges c.requires.holds
