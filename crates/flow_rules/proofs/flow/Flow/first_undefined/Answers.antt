use Rattle.std.proofs.Common.{sym, ◌∙◌, subst}
use Rattle.std.proofs.lemmas.Bool.{true≢false}
use Rattle.std.proofs.lemmas.List.{get_or_default}
use Rattle.flow_rules.specs.declared.usage.Use.{Use}
use Rattle.flow_rules.specs.Paths.{IsDefined}
use Rattle.flow_rules.proofs.flow.Flow.first_undefined.Goals as goal

pub returns-then-not-is_defined : goal.returns-then-not-is_defined
returns-then-not-is_defined c = record {
  within = c.loop-at-test.true;
  undefined = λ d defined.
      let here = subst (λ (it : Use). IsDefined c.args.self.now.graph it) (get_or_default c.args.uses.now c.loop-at.at d _ c.loop-at-test.true) defined in
      true≢false (sym (c.is_defined.ensures.1 here) ∙ c.if-not-is_defined.true);
  first = c.loop-at.invariant;
}
