-- The bound in force on each side of each term, by a place in one list.
use Rattle.std.specs.Prelude.{ℕ, ◌+◌, ◌*◌, ◌==◌, zero, suc, ℤ, pos, List, [], ◌∷◌, ◌++◌, length, replicate, slice_index_or, Some, None, cond}
use Rattle.mix_system.specs.declared.literal.Term.{Term}
use Rattle.mix_system.specs.declared.literal.Term.TheVariants.{Var, Row}
use Rattle.mix_system.specs.declared.literal.Side.{Side}
use Rattle.mix_system.specs.declared.literal.Side.TheVariants.{Le, Ge}
use Rattle.mix_system.specs.declared.literal.Lit.{Lit}
use Rattle.bound_trail.specs.declared.edge.Edge.{Edge}

abbrev pub term_number : ℕ → Term → ℕ
term_number vars (Var var) = var
term_number vars (Row row) = vars + row

abbrev pub side_number : Side → ℕ
side_number Le = 0
side_number Ge = 1

-- the place of a side of a term: variables first, then rows, the upper side before the lower
abbrev pub place_of : ℕ → Term → Side → ℕ
place_of vars term side = 2 * term_number vars term + side_number side

abbrev pub blank_lit : Lit
blank_lit = record { term = Var 0; side = Le; bound = pos 0 }

abbrev pub no_edge : Edge
no_edge = record { bound = None; entry = None }

-- the ends of the ranges, the upper one first
abbrev pub range_edges : List (ℤ × ℤ) → List Edge
range_edges [] = []
range_edges (range ∷ ranges) =
    record { bound = Some range.1; entry = None } ∷ (record { bound = Some range.0; entry = None } ∷ range_edges ranges)

-- the bounds that the ranges give
abbrev pub first_edges : List (ℤ × ℤ) → ℕ → List Edge
first_edges ranges rows = range_edges ranges ++ replicate (2 * rows) no_edge

-- the bound in force at a place after so many literals: that of the last literal there, or of the range
abbrev pub edge_after : List (ℤ × ℤ) → ℕ → List Lit → ℕ → ℕ → Edge
edge_after ranges rows lits zero place = slice_index_or (first_edges ranges rows) place no_edge
edge_after ranges rows lits (suc count) place =
    let lit = slice_index_or lits count blank_lit in
    cond (place_of (length ranges) lit.term lit.side == place) (record { bound = Some lit.bound; entry = Some count }) (edge_after ranges rows lits count place)
