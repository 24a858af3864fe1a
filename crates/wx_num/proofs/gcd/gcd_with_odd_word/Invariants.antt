use Rattle.std.proofs.Common.{◌≡◌, ◌%◌, ◌+◌, ℕ}
use Rattle.std.specs.Int.{IsGcd}
use Rattle.wx_num.proofs.gcd.gcd_with_odd_word.Given as goal

abbrev pub invariant-loop-rest : goal.invariant-loop-rest
invariant-loop-rest l = record { is_odd : l.odd % 2 ≡ 1; same : (g : ℕ) → IsGcd l.odd l.rest g → IsGcd l.fn.x l.fn.y g }

abbrev pub decreases-loop-rest : goal.decreases-loop-rest
decreases-loop-rest l = l.odd + l.rest
