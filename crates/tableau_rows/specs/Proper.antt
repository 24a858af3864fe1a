-- What holds of a substitution that is under way.
use Rattle.std.specs.Prelude.{◌≡◌, ◌≢◌, ℤ, pos, negsuc, neg_ℤ}
use Rattle.tableau_rows.specs.Substitution.{taken, AreInLowestTerms}
use Rattle.tableau_rows.specs.declared.substitution.Substitution.{Substitution}

-- the sign is turned where the factor of the row is below 0
abbrev pub turned : ℤ → ℤ → ℤ
turned (pos p) z = z
turned (negsuc p) z = neg_ℤ z

-- both equations take the column that enters, neither takes the other's basic column, and the factors are those of the column that enters
pub record IsProper (s : Substitution) : Type 0 where
  pub pivot_takes : taken s.pivot.now s.entering ≢ pos 0
  pub row_takes : taken s.row.now s.entering ≢ pos 0
  pub apart : s.row.now.basic ≢ s.pivot.now.basic
  pub pivot_without : taken s.pivot.now s.row.now.basic ≡ pos 0
  pub row_without : taken s.row.now s.pivot.now.basic ≡ pos 0
  pub factors : AreInLowestTerms (taken s.pivot.now s.entering) (taken s.row.now s.entering) s.of_row s.of_pivot
