use Rattle.std.proofs.Common.{◌≡◌, ◌+◌, ◌≤◌, false, take, drop}
use Rattle.ll_token.specs.Bytes.{line_ends}
use Rattle.ll_token.specs.Reading.{gap_len}
use Rattle.ll_token.proofs.blanks.blanks_at.Given as goal

abbrev pub invariant-loop-len : goal.invariant-loop-len
invariant-loop-len l = record {
  lines : l.lines ≡ line_ends (take l.len l.bytes);
  few : l.lines ≤ l.len;
  goes_on : l.len + gap_len l.in_comment (drop l.len l.bytes) ≡ gap_len false l.bytes;
}
