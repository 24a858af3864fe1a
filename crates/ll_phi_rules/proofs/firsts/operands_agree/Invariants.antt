use Rattle.std.proofs.Common.{◌≡◌, ◌≤◌, length, take}
use Rattle.std.specs.Prelude.{All}
use Rattle.ll_phi_rules.proofs.AgreeLaws.{Stands, kept, no_entry}
use Rattle.ll_phi_rules.proofs.firsts.operands_agree.Given as goal

abbrev pub invariant-loop-at : goal.invariant-loop-at
invariant-loop-at l = record {
  size : length l.firsts.items ≡ length l.labels;
  before : All (λ first. first ≤ l.at) l.firsts.items;
  like : All (Stands l.labels (kept l.labels l.entries no_entry l.firsts.items)) (take l.at l.entries);
}
