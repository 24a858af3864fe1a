-- What the pieces of divisions share.
use Rattle.std.specs.Prelude.{ℕ, Bool, false, ℤ, pos, List}
use Rattle.std.specs.Ordering.{int_eq}
use Rattle.mix_system.specs.Row.{number_at}
use Rattle.ll_tree.specs.declared.op.Flags.{Flags}
use Rattle.ir_meaning.specs.declared.value.Val.{Val}
use Rattle.ir_meaning.specs.Value.{poison_if}
use Rattle.div_rows.specs.declared.division.DivisionKind.{DivisionKind}
use Rattle.div_rows.specs.declared.division.DivisionKind.TheVariants.{Quotient, Remainder}

-- whether a remainder is barred: `exact` has no meaning where the remainder is the value
abbrev pub is_exact : DivisionKind → Flags → Bool
is_exact Quotient flags = flags.exact
is_exact Remainder flags = false

-- what is the value, and what isn't
abbrev pub chosen : {X : Type 0} → DivisionKind → (quotient remainder : X) → X
chosen Quotient q r = q
chosen Remainder q r = r

abbrev pub other : {X : Type 0} → DivisionKind → (quotient remainder : X) → X
other Quotient q r = r
other Remainder q r = q

-- the divisor is the constant, or poison where the number of its mark is 1
abbrev pub divisor_value : (divisor mark : ℕ) → List ℤ → Val
divisor_value divisor mark point = poison_if (int_eq (number_at point mark) (pos 1)) divisor
