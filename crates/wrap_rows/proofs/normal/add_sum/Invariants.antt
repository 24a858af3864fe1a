use Rattle.std.proofs.Common.{◌≡◌, ◌≤◌, take}
use Rattle.wrap_rows.specs.Normal.{sizes, row_of}
use Rattle.wrap_rows.proofs.normal.add_sum.Given as goal

abbrev pub invariant-loop-part : goal.invariant-loop-part
invariant-loop-part l = record {
  is : l.row.items ≡ row_of (take l.part-index l.parts);
  small : sizes l.row.items ≤ sizes (take l.part-index l.parts);
}
