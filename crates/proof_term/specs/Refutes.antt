-- When the nodes of a tree refute a box of bounds. Values are whole numbers without a bound.
use Rattle.std.specs.Prelude.{ℕ, ℤ, pos, ◌+ℤ◌, List, [], ◌∷◌}
use Rattle.mix_system.specs.declared.literal.Term.TheVariants.{Var}
use Rattle.mix_system.specs.declared.literal.Side.TheVariants.{Le, Ge}
use Rattle.mix_system.specs.declared.literal.Lit.{Lit}
use Rattle.mix_system.specs.declared.row.Part.{Part}
use Rattle.mix_system.specs.FarkasSum.{FarkasRefutes}
use Rattle.proof_term.specs.declared.tree.Node.{Node}
use Rattle.proof_term.specs.declared.tree.Node.TheVariants.{Leaf, Split}
use Rattle.proof_term.specs.declared.tree.Tree.{Tree}

-- the bounds that a split adds in its halves
abbrev pub low_half : ℕ → ℤ → Lit
low_half var at = record { term = Var var; side = Le; bound = at }

abbrev pub high_half : ℕ → ℤ → Lit
high_half var at = record { term = Var var; side = Ge; bound = at +ℤ pos 1 }

-- A list of nodes in pre-order refutes a list of boxes: a leaf refutes the first box, and a split puts its two halves in place of the first box.
abbrev pub RefutesAll : List (List Part) → List Node → List (List Lit) → Type 0
RefutesAll rows [] [] = Unit {0}
RefutesAll rows [] (box ∷ boxes) = ⊥
RefutesAll rows (node ∷ nodes) [] = ⊥
RefutesAll rows (Leaf farkas ∷ nodes) (box ∷ boxes) = FarkasRefutes rows box farkas.parts × RefutesAll rows nodes boxes
RefutesAll rows (Split var at ∷ nodes) (box ∷ boxes) = RefutesAll rows nodes ((low_half var at ∷ box) ∷ (high_half var at ∷ box) ∷ boxes)

-- a tree refutes a box where its nodes refute that box alone
abbrev pub Refutes : List (List Part) → Tree → List Lit → Type 0
Refutes rows tree box = RefutesAll rows tree.nodes (box ∷ [])
