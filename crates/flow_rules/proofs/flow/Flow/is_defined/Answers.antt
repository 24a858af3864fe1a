use Rattle.std.proofs.Common.{refl, sym, ◌∙◌}
use Rattle.std.proofs.lemmas.Bool.{true≢false}
use Rattle.flow_rules.proofs.PathLaws.{own_is_defined}
use Rattle.flow_rules.proofs.StoredLaws.{defined_mark}
use Rattle.flow_rules.proofs.flow.Flow.is_defined.Goals as goal

pub returns-then-is_own : goal.returns-then-is_own
returns-then-is_own c =
    ((λ _. own_is_defined c.args.self.now.graph c.args.it.now (c.is_own.ensures.0 c.if-is_own.true)), λ _. refl)

pub returns : goal.returns
returns c =
    let it = c.self.inside in
    rw (← c.self.view_is) (defined_mark it c.self.invariant c.args.it.now c.position-around.result c.position-position.result c.row.result.now (rw (← c.self.view_is) at c.requires) (rw (← c.self.view_is) at c.position-around.ensures.within) (rw (← c.self.view_is) at c.position-around.ensures.there) (rw (← c.self.view_is) at c.position-position.ensures.within) (rw (← c.self.view_is) at c.position-position.ensures.there) c.row.ensures (λ own. true≢false (sym (c.is_own.ensures.1 own) ∙ c.if-is_own.false)))
