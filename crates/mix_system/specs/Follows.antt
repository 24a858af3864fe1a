-- When a clause follows by unit propagation along its hints (E. Goldberg and Y. Novikov, Verification of proofs of unsatisfiability for CNF formulas, 2003).
use Rattle.std.specs.Prelude.{◌≡◌, ℕ, List, [], ◌∷◌, ◌++◌, map, Option, Some, All}
use Rattle.mix_system.specs.declared.literal.Lit.{Lit}
use Rattle.mix_system.specs.Lit.{negation}
use Rattle.mix_system.specs.Bounds.{IsFalseIn}

-- the clauses that a hint may name, by their numbers
abbrev pub Known : Type 0
Known = ℕ → Option (List Lit)

-- all literals of the clause are false
abbrev pub LeavesNone : List Lit → List Lit → Type 0
LeavesNone box clause = All (IsFalseIn box) clause

-- exactly one literal of the clause, counted as written, isn't false
pub record LeavesOne (box clause : List Lit) (lit : Lit) : Type 0 where
  pub before : List Lit
  pub after : List Lit
  pub split : clause ≡ before ++ lit ∷ after
  pub before_false : All (IsFalseIn box) before
  pub after_false : All (IsFalseIn box) after
  pub left : ¬ IsFalseIn box lit

-- each hint but the last names a known clause that leaves one literal, which is put to the box; the last names one that leaves none
abbrev pub Propagates : Known → List Lit → List ℕ → Type 0
Propagates known box [] = ⊥
Propagates known box (hint ∷ []) = (clause : List Lit) × (known hint ≡ Some clause) × LeavesNone box clause
Propagates known box (hint ∷ next ∷ hints) =
    (clause : List Lit) × (lit : Lit) × (known hint ≡ Some clause) × LeavesOne box clause lit × Propagates known (lit ∷ box) (next ∷ hints)

-- the clause follows from the box and the known clauses along its hints: with all its literals taken as false they propagate to a clause with none left
abbrev pub Follows : List Lit → List ℕ → List Lit → Known → Type 0
Follows clause hints box known = Propagates known (map negation clause ++ box) hints
