use Rattle.mix_system.proofs.FollowLaws.{Follows-true}
use Rattle.mix_system.proofs.laws.what_follows_is_true.Goals as goal

pub returns : goal.returns
returns c = Follows-true
