use Rattle.std.proofs.Common.{◌≡◌, ◌^◌, ◌≤◌, rules, ◌∙◌, arith}
use Rattle.std.proofs.Math.Nat.{pow-le-pow_right}
use Rattle.std.proofs.lemmas.Int.{ints}
use Rattle.std.proofs.lemmas.Nat.{pow_pos}
use Rattle.wrap_rows.specs.Vars.{value_at}
use Rattle.bit_rows.specs.Bitwise.{vars}
use Rattle.bit_rows.proofs.BitwiseLaws.{sound}
use Rattle.bit_rows.proofs.bitwise.BitwisePiece.sound.Goals as goal

pub value_at-requires-clause-value : goal.value_at-requires-clause-value
value_at-requires-clause-value c =
    let width = c.args.self.now.width in
    let room : 2 ^ width ≤ 2 ^ 32 = pow-le-pow_right {n = 2} (omega arith) {i = width} {j = 32} (omega (arith, c.requires.at.width.greatest)) in
    let mine = c.requires.in_ranges in
    rw c.vars.ensures (record { number = (mine.0.0, omega (arith, ints, mine.0.1, room, pow_pos width)); mark = mine.1.0 })

pub returns-clause-sound : goal.returns-clause-sound
returns-clause-sound c =
    let read : c.value_at.result ≡ value_at (vars c.args.self.now c.args.first) c.args.point.now = search rules in
    read ∙ sound c.args.self.now c.args.first c.args.point.now c.requires.at c.requires.operands c.requires.in_ranges c.requires.holds
