-- What pieces share whose number is an exact result modulo 2^width:
-- the literals that `nuw` and `nsw` list, and what they bar.
use Rattle.std.specs.Prelude.{ℕ, ◌-◌, ◌^◌, Bool, not, if◌then◌else◌, ℤ, pos, negsuc, neg_ℤ, ◌-ℤ◌, List, [], ◌∷◌, ◌++◌}
use Rattle.mix_system.specs.declared.literal.Term.TheVariants.{Var, Row}
use Rattle.mix_system.specs.declared.literal.Lit.{Lit}
use Rattle.ll_tree.specs.declared.op.Flags.{Flags}
use Rattle.ir_meaning.specs.Whole.{is_unsigned}
use Rattle.ir_meaning.specs.Rows.{is_barred}
use Rattle.wrap_rows.specs.declared.wrapping.Wrapped.{Wrapped}
use Rattle.wrap_rows.specs.Layout.{at_most, at_least}

-- The exact result leaves the numbers of the width: its carry isn't 0.
-- The carry is how many times 2^width is taken from it.
abbrev pub leaving : ℕ → List Lit
leaving carry = at_least (Var carry) (pos 1) ∷ at_most (Var carry) (negsuc 0) ∷ []

-- the exact signed result, a row's sum, leaves the signed numbers of the width
abbrev pub exceeding : ℕ → ℕ → List Lit
exceeding width row =
    at_least (Row row) (pos (2 ^ (width - 1)))
    ∷ at_most (Row row) (neg_ℤ (pos (2 ^ (width - 1))) -ℤ pos 1)
    ∷ []

-- the literals of `nuw`, then those of `nsw`
abbrev pub listed : (nuw nsw : Bool) → List Lit → List Lit → List Lit
listed nuw nsw leaves exceeds = (if nuw then leaves else []) ++ (if nsw then exceeds else [])

-- the literals of a result that is exact but for its carry
abbrev pub literals : Wrapped → List Lit
literals wrapped =
    listed wrapped.flags.nuw wrapped.flags.nsw (leaving wrapped.carry) (exceeding wrapped.width wrapped.row)

-- whether a flag bars an exact result, given the exact result of the signed readings
abbrev pub bars : Flags → ℕ → ℤ → ℤ → Bool
bars flags width exact exact_signed =
    is_barred flags width (not (is_unsigned width exact)) exact_signed
