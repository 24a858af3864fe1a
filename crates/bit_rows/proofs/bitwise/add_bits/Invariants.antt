use Rattle.std.proofs.Common.{◌≡◌, ◌++◌, ◌+◌, ◌-◌, map, length}
use Rattle.wrap_rows.specs.Normal.{clause_of}
use Rattle.bit_rows.specs.Bits.{StandBefore}
use Rattle.bit_rows.specs.Bitwise.{bits_clauses}
use Rattle.bit_rows.proofs.bitwise.add_bits.Given as goal

-- what was laid and what is left are the whole
abbrev pub invariant-loop-place : goal.invariant-loop-place
invariant-loop-place l = record {
  laid : record l.into { clauses = l.into.clauses ++ map clause_of (bits_clauses l.kind (l.width - l.place) (l.x + l.place) l.left l.right) }
      ≡ record l.initial.into { clauses = l.initial.into.clauses ++ map clause_of (bits_clauses l.kind l.width l.x l.fn.a l.fn.b) };
  left : StandBefore (l.width - l.place) (length l.initial.into.ranges) l.left;
  right : StandBefore (l.width - l.place) (length l.initial.into.ranges) l.right;
}
