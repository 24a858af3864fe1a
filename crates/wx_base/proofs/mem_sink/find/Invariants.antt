use Rattle.std.proofs.Common.{◌≡◌, drop}
use Rattle.wx_base.specs.MemSink.{taken_by}
use Rattle.wx_base.proofs.mem_sink.find.Given as goal

-- what is left has the pair
abbrev pub invariant-loop-pair : goal.invariant-loop-pair
invariant-loop-pair l = taken_by (drop l.pair-index l.failing) l.put ≡ taken_by l.failing l.put
