use Rattle.clause_search.proofs.LatestLaws.{latest_high, latest_low, latest_same}
use Rattle.clause_search.proofs.pairs.Latest.with.Goals as goal

-- src/pairs.rt:58:13
pub returns-then-falls-self : goal.returns-then-falls-self
returns-then-falls-self c bounds clause is never =
    latest_high bounds clause c.args.at c.args.falls c.args.self is c.requires never c.if-falls-self.true

-- src/pairs.rt:66:13
pub returns-then-falls-self-2 : goal.returns-then-falls-self-2
returns-then-falls-self-2 c bounds clause is never =
    latest_low bounds clause c.args.at c.args.falls c.args.self is c.requires never c.if-falls-self.false c.if-falls-self-2.true

-- src/pairs.rt:51:5
pub returns : goal.returns
returns c bounds clause is never =
    latest_same bounds clause c.args.at c.args.falls c.args.self is c.requires never c.if-falls-self-2.false
