-- The forms in which rows and clauses stand in a system: a row's variables rise and no part is zero; no literal stands twice in a clause.
use Rattle.std.specs.Prelude.{ℕ, ◌+◌, unsigned_abs, Bool, true, false, ◌&&◌, ◌==◌, nat_lt, if◌then◌else◌, pos, ◌+ℤ◌, List, [], ◌∷◌, ◌++◌, fold}
use Rattle.std.specs.List.{list_any, prefix_len}
use Rattle.std.specs.Ordering.{int_eq}
use Rattle.mix_system.specs.declared.literal.Term.{Term}
use Rattle.mix_system.specs.declared.literal.Term.TheVariants.{Var, Row}
use Rattle.mix_system.specs.declared.literal.Side.{Side}
use Rattle.mix_system.specs.declared.literal.Side.TheVariants.{Le, Ge}
use Rattle.mix_system.specs.declared.literal.Lit.{Lit}
use Rattle.mix_system.specs.declared.row.Part.{Part}

-- a part before others, unless it is zero
abbrev pub unless_zero : Part → List Part → List Part
unless_zero part parts = if int_eq part.coeff (pos 0) then parts else (part ∷ parts)

-- a part put before parts of no lesser variable: added to the first where that is of the same variable
abbrev pub merged : Part → List Part → List Part
merged part [] = unless_zero part []
merged part (next ∷ parts) =
    if part.var == next.var then unless_zero (record { coeff = part.coeff +ℤ next.coeff; var = part.var }) parts
    else (unless_zero part (next ∷ parts))

-- parts whose variables rise, with one more
abbrev pub with_part : List Part → Part → List Part
with_part [] part = unless_zero part []
with_part (next ∷ parts) part = if nat_lt next.var part.var then (next ∷ with_part parts part) else (merged part (next ∷ parts))

-- how many parts from the front on are of a lesser variable
abbrev pub lesser_count : ℕ → List Part → ℕ
lesser_count var parts = prefix_len (λ part. nat_lt part.var var) parts

-- the sizes of the coefficients, added up
abbrev pub sizes : List Part → ℕ
sizes [] = 0
sizes (part ∷ parts) = unsigned_abs part.coeff + sizes parts

-- a sum in normal form: equal variables are added up, and zero parts dropped
unfoldable pub row_of : List Part → List Part
row_of parts = fold with_part [] parts

abbrev pub is_same_term : Term → Term → Bool
is_same_term (Var a) (Var b) = a == b
is_same_term (Row a) (Row b) = a == b
is_same_term _ _ = false

abbrev pub is_same_side : Side → Side → Bool
is_same_side Le Le = true
is_same_side Ge Ge = true
is_same_side _ _ = false

abbrev pub is_same_lit : Lit → Lit → Bool
is_same_lit a b = is_same_term a.term b.term && (is_same_side a.side b.side && int_eq a.bound b.bound)

-- literals with one more, unless it is there already
abbrev pub with_lit : List Lit → Lit → List Lit
with_lit lits lit = if list_any (is_same_lit lit) lits then lits else (lits ++ lit ∷ [])

-- a clause in normal form: a literal that comes again is left out
unfoldable pub clause_of : List Lit → List Lit
clause_of lits = fold with_lit [] lits
