-- What is laid in stages: an equation over a row, signs, marks.
use Rattle.std.proofs.Common.{◌≡◌, ℕ, ◌+◌, pos, List, [], ◌∷◌, ◌++◌, length, map, append_assoc, length-append, refl, ap, ap₂, ◌∙◌}
use Rattle.mix_system.specs.declared.literal.Lit.{Lit}
use Rattle.mix_system.specs.declared.row.Part.{Part}
use Rattle.mix_system.specs.System.{System}
use Rattle.wrap_rows.specs.Normal.{row_of, clause_of}
use Rattle.wrap_rows.specs.Blocks.{equals}

pub three_more : {A : Type 0} (xs : List A) (a b c : A) → ((xs ++ a ∷ []) ++ b ∷ []) ++ c ∷ [] ≡ xs ++ a ∷ b ∷ c ∷ []
three_more xs a b c = simp append_assoc refl

pub two_and_two_more : {A : Type 0} (xs : List A) (a b c d : A) → (xs ++ a ∷ b ∷ []) ++ c ∷ d ∷ [] ≡ xs ++ a ∷ b ∷ c ∷ d ∷ []
two_and_two_more xs a b c d = simp append_assoc refl

-- the clauses behind an equation name rows by a number: that of the signs' first row, or of the equation's
pub lays_staged : (row : List Part) (more : List (List Part)) (signs : ℕ → List (List Lit)) (marked : List (List Lit)) (old one two new : System)
    → one ≡ record old { rows = old.rows ++ row_of row ∷ []; clauses = old.clauses ++ map clause_of (equals (length old.rows) (pos 0)) }
    → two ≡ record one { rows = one.rows ++ map row_of more; clauses = one.clauses ++ map clause_of (signs (length one.rows)) }
    → new ≡ record two { clauses = two.clauses ++ map clause_of marked }
    → new ≡ record old {
      rows = old.rows ++ map row_of (row ∷ more);
      clauses = old.clauses ++ (map clause_of (equals (length old.rows) (pos 0)) ++ (map clause_of (signs (length old.rows + 1)) ++ map clause_of marked));
    }
lays_staged row more signs marked old one two new first second third =
    let r = length old.rows in
    let equation = map clause_of (equals r (pos 0)) in
    let last = map clause_of marked in
    let next : length (old.rows ++ row_of row ∷ []) ≡ r + 1 = length-append old.rows (row_of row ∷ []) in
    third
    ∙ ap {A = System} (λ s. record s { clauses = s.clauses ++ last }) (second ∙ ap {A = System} (λ s. record s { rows = s.rows ++ map row_of more; clauses = s.clauses ++ map clause_of (signs (length s.rows)) }) first)
    ∙ ap₂ (λ rows clauses. let s : System = record { ranges = old.ranges; rows = rows; clauses = clauses } in s)
    (append_assoc old.rows (row_of row ∷ []) (map row_of more))
    (ap (λ k. ((old.clauses ++ equation) ++ map clause_of (signs k)) ++ last) next
    ∙ append_assoc (old.clauses ++ equation) (map clause_of (signs (r + 1))) last
    ∙ append_assoc old.clauses equation (map clause_of (signs (r + 1)) ++ last))
