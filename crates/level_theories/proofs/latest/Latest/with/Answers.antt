use Rattle.std.proofs.Common.{arith}
use Rattle.level_theories.proofs.LatestLaws.{with_first, with_second, with_neither}
use Rattle.level_theories.proofs.latest.Latest.with.Goals as goal

pub returns-then-level-self : goal.returns-then-level-self
returns-then-level-self c = λ trail lits at ok are inside became.
    with_first trail lits ok at c.args.level inside became c.args.self are (omega (arith, c.if-level-self.true))

pub returns-then-level-self-2 : goal.returns-then-level-self-2
returns-then-level-self-2 c = λ trail lits at ok are inside became.
    with_second trail lits ok at c.args.level inside became c.args.self are (omega (arith, c.if-level-self-2.true)) (omega (arith, c.if-level-self.false))

pub returns : goal.returns
returns c = λ trail lits at ok are inside became.
    with_neither trail lits ok at c.args.level inside became c.args.self are (omega (arith, c.if-level-self-2.false))
