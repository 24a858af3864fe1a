use Rattle.std.proofs.Common.{◌≡◌, ◌<◌, arith, length, subst}
use Rattle.std.specs.Prelude.{IfSome}
use Rattle.wx_base.proofs.ReadingLaws.{all_left}
use Rattle.wx_base.proofs.host_files.read_within.Goals as goal

pub returns-in-Ok-clause-all : goal.returns-in-Ok-clause-all
returns-in-Ok-clause-all g c =
    let bytes = c.read_to_end-read.new.buf in
    let few : length bytes.items < c.take.result.limit = omega (arith, bytes.ok.0, bytes.ok.1, bytes.small, c.len-count.ensures, c.if-count-limit.true, c.saturating_add.ensures, c.take.ensures.limit) in
    let all = all_left _ c.take.result.limit _ _ c.new-bytes.ensures.items c.in-Ok.ensures.bytes few in
    subst (λ r. IfSome (g.S.Read.remaining r) (λ left. bytes.items ≡ left)) c.take.ensures.inner all
