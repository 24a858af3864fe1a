-- Systems whose numbers are so small that no row's sum over the ranges leaves i128.
use Rattle.std.specs.Prelude.{ℕ, ◌*◌, ◌^◌, ◌<◌, max, ℤ, pos, unsigned_abs, List, slice_index_or, sum_by, All}
use Rattle.mix_system.specs.declared.row.Part.{Part}
use Rattle.mix_system.specs.Lit.{negation}
use Rattle.mix_system.specs.System.{System}

-- below 2^100 in size
abbrev pub IsSmall : ℤ → Type 0
IsSmall number = unsigned_abs number < 2 ^ 100

-- the greatest size of a number in a range: that of one of its ends
abbrev pub range_size : ℤ × ℤ → ℕ
range_size range = max (unsigned_abs range.0) (unsigned_abs range.1)

-- a coefficient's size times the size of its variable's range
abbrev pub part_size : List (ℤ × ℤ) → Part → ℕ
part_size ranges part = unsigned_abs part.coeff * range_size (slice_index_or ranges part.var (pos 0, pos 0))

-- the sum of the sizes of a row's parts
abbrev pub row_size : List (ℤ × ℤ) → List Part → ℕ
row_size ranges parts = sum_by (part_size ranges) parts

-- the ends of all ranges, all coefficients, all bounds of literals and of their negations, and the sizes of all rows are below 2^100
pub record IsCalm (system : System) : Type 0 where
  pub ends : All (λ range. IsSmall range.0 × IsSmall range.1) system.ranges
  pub coefficients : All (All (λ part. IsSmall part.coeff)) system.rows
  pub bounds : All (All (λ lit. IsSmall lit.bound × IsSmall (negation lit).bound)) system.clauses
  pub sums : All (λ parts. row_size system.ranges parts < 2 ^ 100) system.rows
