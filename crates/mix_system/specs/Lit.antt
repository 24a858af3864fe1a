-- What a literal says of its term's value, and the literal that says the opposite.
use Rattle.std.specs.Prelude.{ℤ, pos, ◌+ℤ◌, ◌-ℤ◌, ◌≤ℤ◌}
use Rattle.mix_system.specs.declared.literal.Term.{Term}
use Rattle.mix_system.specs.declared.literal.Side.{Side}
use Rattle.mix_system.specs.declared.literal.Side.TheVariants.{Le, Ge}
use Rattle.mix_system.specs.declared.literal.Lit.{Lit}

-- the value stands on that side of the bound
abbrev pub IsWithin : Side → ℤ → ℤ → Type 0
IsWithin Le bound value = value ≤ℤ bound
IsWithin Ge bound value = bound ≤ℤ value

-- `t <= c` and `t >= c + 1` are each other's negations
abbrev pub other_side : Side → Side
other_side Le = Ge
other_side Ge = Le

abbrev pub negated_bound : Side → ℤ → ℤ
negated_bound Le bound = bound +ℤ pos 1
negated_bound Ge bound = bound -ℤ pos 1

abbrev pub negation : Lit → Lit
negation lit = record { term = lit.term; side = other_side lit.side; bound = negated_bound lit.side lit.bound }

-- an atom: the term, and the c of the one literal `t <= c` or `t >= c + 1` that is asked
abbrev pub Atom : Type 0
Atom = Term × ℤ

abbrev pub highest_below : Side → ℤ → ℤ
highest_below Le bound = bound
highest_below Ge bound = bound -ℤ pos 1

-- a literal and its negation have one atom
abbrev pub atom : Lit → Atom
atom lit = (lit.term, highest_below lit.side lit.bound)
