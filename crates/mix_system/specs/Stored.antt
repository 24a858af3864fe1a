-- The lists that a stored system means.
use Rattle.std.specs.Prelude.{map}
use Rattle.mix_system.specs.System.{System, IsWellFormed}
use Rattle.mix_system.specs.declared.system.System.TheInside.{Inside}

abbrev pub lists : Inside → System
lists system = record {
  ranges = system.ranges.items;
  rows = map (λ row. row.items) system.rows.items;
  clauses = map (λ clause. clause.items) system.clauses.items;
}

abbrev pub IsSound : Inside → Type 0
IsSound system = IsWellFormed (lists system)
