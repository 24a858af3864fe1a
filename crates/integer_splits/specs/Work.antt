-- What is found of the box in work.
use Rattle.std.specs.Prelude.{◌≡◌, ℕ, ◌<◌, ◌≤ℤ◌, ℤ, length, Some}
use Rattle.mix_system.specs.declared.literal.Side.TheVariants.{Le, Ge}
use Rattle.mix_system.specs.declared.literal.Term.TheVariants.{Var}
use Rattle.bounded_simplex.specs.InForce.{BoundChanges, in_force}
use Rattle.bounded_simplex.specs.Combination.{IsRefutation}
use Rattle.integer_splits.specs.Halving.{IsHalving}
use Rattle.integer_splits.specs.WholePoint.{IsWholePoint}
use Rattle.integer_splits.specs.declared.work.Worked.{Worked}
use Rattle.integer_splits.specs.declared.work.Worked.TheVariants.{Point, Leaf, Halve, Spent}

-- a whole point inside all bounds, bounds that refute the box, or a range to be halved
abbrev pub Finds : BoundChanges → Worked → Type 0
Finds bounds (Point point) = IsWholePoint bounds point
Finds bounds (Leaf farkas) = IsRefutation bounds farkas.parts
Finds bounds (Halve halving) = IsHalving bounds halving.var halving.at
Finds bounds Spent = Unit {0}

abbrev pub IsNothing : Worked → Type 0
IsNothing Spent = Unit {0}
IsNothing _ = ⊥

-- the variable's range in force has no two numbers
abbrev pub IsNarrow : BoundChanges → ℕ → Type 0
IsNarrow bounds var = (low high : ℤ) → in_force bounds (Var var) Ge ≡ Some low → in_force bounds (Var var) Le ≡ Some high → high ≤ℤ low

abbrev pub AreNarrow : BoundChanges → Type 0
AreNarrow bounds = (var : ℕ) → var < length bounds.system.ranges → IsNarrow bounds var
