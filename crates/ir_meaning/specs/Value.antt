-- Values: poison, or a number of a width.
use Rattle.std.specs.Prelude.{ℕ, ◌^◌, ◌<◌, Bool, ◌==◌, if◌then◌else◌}
use Rattle.ir_meaning.specs.declared.value.Val.{Val}
use Rattle.ir_meaning.specs.declared.value.Val.TheVariants.{Poison, Num}

-- poison, or a number of the width
abbrev pub FitsWidth : ℕ → Val → Type 0
FitsWidth width Poison = Unit {0}
FitsWidth width (Num n) = n < 2 ^ width

-- poison where the test holds, else the number
abbrev pub poison_if : Bool → ℕ → Val
poison_if test n = if test then Poison else (Num n)

-- an operation of one number, or of two: poison where an operand is
abbrev pub on_number : (ℕ → Val) → Val → Val
on_number f Poison = Poison
on_number f (Num a) = f a

abbrev pub on_numbers : (ℕ → ℕ → Val) → Val → Val → Val
on_numbers f Poison b = Poison
on_numbers f (Num a) Poison = Poison
on_numbers f (Num a) (Num b) = f a b

-- the arm that the condition names, the first where it is 1, poison or not
abbrev pub select_of : Val → Val → Val → Val
select_of Poison first second = Poison
select_of (Num c) first second = if c == 1 then first else second
