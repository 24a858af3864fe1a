-- Numbers so small that a system of many pieces is calm.
use Rattle.std.specs.Prelude.{◌^◌, ◌<◌, ◌≤◌, ℤ, unsigned_abs, All}
use Rattle.mix_system.specs.declared.literal.Lit.{Lit}
use Rattle.mix_system.specs.Calm.{range_size}
use Rattle.mix_system.specs.System.{System}
use Rattle.wrap_rows.specs.Normal.{sizes}
use Rattle.wrap_rows.specs.Layout.{Layout}

-- both ends are at most 2^32 in size
abbrev pub IsNarrow : ℤ × ℤ → Type 0
IsNarrow range = range_size range ≤ 2 ^ 32

-- the bound is below 2^66 in size
abbrev pub IsShort : Lit → Type 0
IsShort lit = unsigned_abs lit.bound < 2 ^ 66

-- the sizes of each row's coefficients add up to less than 2^66, and each bound is below that in size
pub record IsSmall (layout : Layout) : Type 0 where
  pub rows : All (λ parts. sizes parts < 2 ^ 66) layout.rows
  pub bounds : All (All IsShort) layout.clauses

-- a system of narrow ranges, and of rows and clauses whose numbers are as small
pub record IsCompact (system : System) : Type 0 where
  pub ranges : All IsNarrow system.ranges
  pub rows : All (λ parts. sizes parts < 2 ^ 66) system.rows
  pub bounds : All (All IsShort) system.clauses
