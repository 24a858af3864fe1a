-- What a piece adds to a system, and where its own variables stand.
use Rattle.std.specs.Prelude.{◌≡◌, ℕ, ◌+◌, Bool, true, nat_lt, if◌then◌else◌, ℤ, pos, List, [], ◌∷◌, ◌++◌, length, map, slice_set}
use Rattle.std.specs.List.{list_all}
use Rattle.mix_system.specs.declared.literal.Term.{Term}
use Rattle.mix_system.specs.declared.literal.Term.TheVariants.{Var, Row}
use Rattle.mix_system.specs.Row.{number_at}
use Rattle.mix_system.specs.System.{System}
use Rattle.mix_system.specs.Fits.{IsInRange}
use Rattle.wrap_rows.specs.Normal.{row_of}
use Rattle.wrap_rows.specs.Layout.{Layout, clause_from}

-- the layout's rows and clauses stand behind those that were there
abbrev pub Lays : Layout → System → System → Type 0
Lays layout old new =
    new ≡ record old {
      rows = old.rows ++ map row_of layout.rows;
      clauses = old.clauses ++ map (clause_from (length old.rows)) layout.clauses;
    }

-- a point with these numbers in the place of its own, from this variable on
abbrev pub put_from : ℕ → List ℤ → List ℤ → List ℤ
put_from first [] point = point
put_from first (number ∷ numbers) point = put_from (first + 1) numbers (slice_set point first number)

-- the numbers of the variables from this one on lie in these ranges
abbrev pub AreIn : ℕ → List (ℤ × ℤ) → List ℤ → Type 0
AreIn first [] point = Unit {0}
AreIn first (range ∷ ranges) point = IsInRange range (number_at point first) × AreIn (first + 1) ranges point

-- 1 where the test holds, else 0
abbrev pub mark_of : Bool → ℤ
mark_of test = if test then pos 1 else (pos 0)

-- whether each clause names only so many rows
abbrev pub is_of_rows : ℕ → Term → Bool
is_of_rows rows (Var var) = true
is_of_rows rows (Row row) = nat_lt row rows

abbrev pub names_own_rows : Layout → Bool
names_own_rows layout = list_all (list_all (λ lit. is_of_rows (length layout.rows) lit.term)) layout.clauses
