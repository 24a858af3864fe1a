use Rattle.std.proofs.Common.{refl}
use Rattle.level_theories.proofs.GoalLaws.{both_made}
use Rattle.level_theories.proofs.goal.both.Goals as goal

pub returns : goal.returns
returns c =
    both_made c.args.lit _ _ _ c.new-parts.result c.push.new.self c.push-2.new.self c.new-nodes.result c.push-3.new.self c.new-parts.ensures c.in_ok-push.ensures.ok c.in_ok-push-2.ensures.ok
    refl c.new-nodes.ensures c.in_ok-push-3.ensures.ok refl refl c.negation.ensures refl
