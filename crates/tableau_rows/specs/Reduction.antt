-- Entries whose coefficients were divided by a number.
use Rattle.std.specs.Prelude.{◌≡◌, ℕ, ◌<◌, pos, ◌*ℤ◌, List, length, slice_index_or}
use Rattle.tableau_rows.specs.declared.entry.Entry.{Entry}

-- the second has the same column, and the first's coefficient is the divisor times its own
pub record IsDivided (divisor : ℕ) (entry divided : Entry) : Type 0 where
  pub column : divided.column ≡ entry.column
  pub coeff : entry.coeff ≡ divided.coeff *ℤ pos divisor

-- so it is at each place
pub record AreDivided (divisor : ℕ) (entries divided : List Entry) : Type 0 where
  pub as_many : length divided ≡ length entries
  pub each : (k : ℕ) (d : Entry) → k < length entries → IsDivided divisor (slice_index_or entries k d) (slice_index_or divided k d)
