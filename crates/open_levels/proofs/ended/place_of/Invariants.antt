use Rattle.std.proofs.Common.{ℕ, ◌<◌, ◌≤◌, ◌-◌, length, get_or}
use Rattle.open_levels.specs.declared.ended.StepMark.{StepMark}
use Rattle.open_levels.proofs.ended.place_of.Given as goal

-- the mark with the number, if there is one, stands between the two ends
abbrev pub invariant-loop-low : goal.invariant-loop-low
invariant-loop-low l = record {
  within : l.high ≤ length l.marks;
  below : (k : ℕ) (d : StepMark) → k < l.low → (get_or l.marks k d).number < l.number;
  above : (k : ℕ) (d : StepMark) → l.high ≤ k → k < length l.marks → l.number < (get_or l.marks k d).number;
}

abbrev pub decreases-loop-low : goal.decreases-loop-low
decreases-loop-low l = l.high - l.low
