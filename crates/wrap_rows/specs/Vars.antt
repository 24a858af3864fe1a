-- Where the variables of a value lie.
use Rattle.std.specs.Prelude.{ℕ, ◌^◌, Bool, ℤ, pos, ◌≤ℤ◌, ◌<ℤ◌, unsigned_abs, List}
use Rattle.std.specs.Ordering.{int_eq}
use Rattle.mix_system.specs.Row.{number_at}
use Rattle.ir_meaning.specs.declared.value.Val.{Val}
use Rattle.ir_meaning.specs.Value.{poison_if}
use Rattle.wrap_rows.specs.declared.vars.ValueVars.{ValueVars}

-- the number is one of the width
abbrev pub IsNumber : ℕ → ℤ → Type 0
IsNumber width number = (pos 0 ≤ℤ number) × (number <ℤ pos (2 ^ width))

-- the mark is 0 or 1
abbrev pub IsMark : ℤ → Type 0
IsMark mark = (pos 0 ≤ℤ mark) × (mark ≤ℤ pos 1)

-- number and mark of a value of the width
pub record IsValue (width : ℕ) (vars : ValueVars) (point : List ℤ) : Type 0 where
  pub number : IsNumber width (number_at point vars.number)
  pub mark : IsMark (number_at point vars.mark)

-- whether the value is poison
abbrev pub is_marked : ValueVars → List ℤ → Bool
is_marked vars point = int_eq (number_at point vars.mark) (pos 1)

-- the value that number and mark stand for
abbrev pub value_at : ValueVars → List ℤ → Val
value_at vars point = poison_if (is_marked vars point) (unsigned_abs (number_at point vars.number))
