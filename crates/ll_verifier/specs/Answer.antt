-- What of a fault is pinned.
use Rattle.std.specs.Prelude.{[]}
use Rattle.ll_verifier.specs.declared.fault.VerifyFault.{VerifyFault}
use Rattle.ll_verifier.specs.declared.fault.VerifyFault.TheVariants as fault

-- a fault without what is free in it: the cycle and the path
abbrev pub pinned : VerifyFault → VerifyFault
pinned (fault.TooMany excess) = fault.TooMany excess
pinned (fault.NameTwice name) = fault.NameTwice name
pinned (fault.NoSuchName name at) = fault.NoSuchName name at
pinned (fault.TypeDiffers at) = fault.TypeDiffers at
pinned (fault.DuplicateCase at value) = fault.DuplicateCase at value
pinned (fault.NotLinear at) = fault.NotLinear at
pinned (fault.BadDivisor at) = fault.BadDivisor at
pinned (fault.PhiEntries at) = fault.PhiEntries at
pinned (fault.Loop cycle) = fault.Loop []
pinned (fault.Unreached block) = fault.Unreached block
pinned (fault.NotDefined at name path) = fault.NotDefined at name []
pinned fault.NoMemory = fault.NoMemory
