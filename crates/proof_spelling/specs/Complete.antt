-- Which proofs have a text.
use Rattle.std.specs.Prelude.{◌≡◌, ℕ, ◌+◌, ◌-◌, ◌<◌, List, [], ◌∷◌, length, Bool, true, false}
use Rattle.proof_term.specs.Valid.{is_empty, IsOutermost}
use Rattle.proof_term.specs.declared.proof.Proof.{Proof}
use Rattle.proof_term.specs.declared.step.Step.{Step}
use Rattle.proof_term.specs.declared.step.Step.TheVariants.{Lemma, Theory, Enter, Leave}
use Rattle.proof_term.specs.declared.tree.Node.{Node}
use Rattle.proof_term.specs.declared.tree.Node.TheVariants.{Leaf, Split}
use Rattle.proof_term.specs.declared.tree.Tree.{Tree}

-- the nodes of so many trees, one after the other, each of whose leaves has a part
abbrev pub AreTrees : ℕ → List Node → Type 0
AreTrees count [] = count ≡ 0
AreTrees count (Leaf farkas ∷ nodes) = (0 < count) × (0 < length farkas.parts) × AreTrees (count - 1) nodes
AreTrees count (Split var at ∷ nodes) = (0 < count) × AreTrees (count + 1) nodes

abbrev pub IsTree : Tree → Type 0
IsTree tree = AreTrees 1 tree.nodes

-- Steps in order, where the last level has ended with the empty clause or not, and so many levels are open around it:
-- each level ends with its first empty clause, each level of a cut is closed, and nothing else is.
abbrev pub AreInOrder : Bool → ℕ → List Step → Type 0
AreInOrder ended around [] = (ended ≡ true) × (around ≡ 0)
AreInOrder ended around (Lemma clause hints ∷ steps) = (ended ≡ false) × AreInOrder (is_empty clause) around steps
AreInOrder ended around (Theory clause tree ∷ steps) = (ended ≡ false) × IsTree tree × AreInOrder (is_empty clause) around steps
AreInOrder ended around (Enter term bound ∷ steps) = (ended ≡ false) × AreInOrder false (around + 1) steps
AreInOrder ended around (Leave ∷ steps) = (ended ≡ true) × (0 < around) × AreInOrder false (around - 1) steps

-- the form of a proof that a text can have
pub record IsComplete (proof : Proof) : Type 0 where
  pub goal : IsOutermost proof.goal
  pub steps : AreInOrder false 0 proof.steps
