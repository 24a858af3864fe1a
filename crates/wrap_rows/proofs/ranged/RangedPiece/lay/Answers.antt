use Rattle.std.proofs.Common.{◌≡◌, true, false, nat_lt, arith}
use Rattle.std.proofs.lemmas.Bool.Decides.{nat_tests}
use Rattle.wrap_rows.proofs.RangedLaws.{lays_between, lays_around, on_ok}
use Rattle.wrap_rows.proofs.ranged.RangedPiece.lay.Goals as goal

pub returns-then-self-clause-ok : goal.returns-then-self-clause-ok
returns-then-self-clause-ok c =
    let test : nat_lt c.args.self.now.low c.args.self.now.high ≡ true = grind (arith, nat_tests) in
    on_ok c.add_between.result (lays_between c.args.self.now c.args.first c.args.into.now c.add_between.new.into test) c.add_between.ensures

pub returns-else-self-clause-ok : goal.returns-else-self-clause-ok
returns-else-self-clause-ok c =
    let test : nat_lt c.args.self.now.low c.args.self.now.high ≡ false = grind (arith, nat_tests) in
    on_ok c.add_around.result (lays_around c.args.self.now c.args.first c.args.into.now c.add_around.new.into test) c.add_around.ensures
