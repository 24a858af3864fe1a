-- The entries beside the basic column, and entries whose signs are turned.
use Rattle.std.specs.Prelude.{◌≡◌, ◌⊎◌, ℕ, ◌==◌, Bool, true, false, not, ℤ, ◌*ℤ◌, neg_ℤ, List, ◌∷◌, ◌++◌, filter}
use Rattle.wx_num.specs.declared.excess.NumOp.TheVariants.{Plus, Times}
use Rattle.wx_num.specs.declared.excess.Excess.{Excess}
use Rattle.mix_system.specs.declared.row.Part.{Part}
use Rattle.tableau_rows.specs.declared.entry.Entry.{Entry}
use Rattle.tableau_rows.specs.Equation.{total}

-- the entries of all other columns, in their order
abbrev pub others : ℕ → List Entry → List Entry
others basic entries = filter (λ entry. not (entry.column == basic)) entries

-- the step is a product of the sum, or adds a product to the sum of those before it
pub record IsSumStep (number : ℕ → ℤ) (entries : List Entry) (step : Excess) : Type 0 where
  pub before : List Entry
  pub entry : Entry
  pub after : List Entry
  pub split : entries ≡ before ++ entry ∷ after
  pub formed : (step ≡ record { op = Times; x = entry.coeff; y = number entry.column })
      ⊎ (step ≡ record { op = Plus; x = total number before; y = entry.coeff *ℤ number entry.column })

-- the sign of a number is turned, or not
abbrev pub turned_number : Bool → ℤ → ℤ
turned_number true number = neg_ℤ number
turned_number false number = number

abbrev pub turned_entry : Bool → Entry → Entry
turned_entry turn entry = record { column = entry.column; coeff = turned_number turn entry.coeff }

-- the entry of a part of a row
abbrev pub entry_of : Part → Entry
entry_of part = record { column = part.var; coeff = part.coeff }
