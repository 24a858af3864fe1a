-- What the building blocks say at a point.
use Rattle.std.proofs.Common.{◌≡◌, ℕ, ℤ, pos, negsuc, ◌<ℤ◌, ◌≤ℤ◌, ◌⊎◌, List, [], ◌∷◌, ◌++◌, map, inl, inr, arith}
use Rattle.std.specs.Prelude.{◌↔◌, slice_index_or, All, Any}
use Rattle.std.proofs.lemmas.Int.{ints, by_lt_z}
use Rattle.std.proofs.lemmas.List.Elements.{All-cons}
use Rattle.mix_system.specs.declared.literal.Term.TheVariants.{Var, Row}
use Rattle.mix_system.specs.declared.literal.Lit.{Lit}
use Rattle.mix_system.specs.declared.row.Part.{Part}
use Rattle.mix_system.specs.Fits.{IsTrueAt, term_value}
use Rattle.mix_system.specs.Row.{number_at, row_value}
use Rattle.mix_system.proofs.BoundLaws.{true_or_negation, not_both_true}
use Rattle.ll_tree.specs.declared.op.Pred.{Pred}
use Rattle.ll_tree.specs.declared.op.Pred.TheVariants.{Eq, Ne, Ugt, Uge, Ult, Ule, Sgt, Sge, Slt, Sle}
use Rattle.wrap_rows.specs.Layout.{at_least}
use Rattle.wrap_rows.specs.Vars.{IsMark}
use Rattle.wrap_rows.specs.Blocks.{equals, from_operand, from_listed, closing, marks, less, less_or_equal, greater, greater_or_equal, compared, StandsSo}
use Rattle.wrap_rows.proofs.CaseLaws.{Each, Some_of, Each-from_All, All-from_Each, Some_of-from_Any, Any-from_Some_of}

-- a mark is 0 or 1
pub mark_cases : (m : ℤ) → IsMark m → (m ≡ pos 0) ⊎ (m ≡ pos 1)
mark_cases m is = by_lt_z m (pos 1) (λ below. inl (omega (arith, ints, is.0))) (λ above. inr (omega (arith, ints, is.1)))

-- clauses as choices
pub each-said : (P : Lit → Type 0) (clauses : List (List Lit)) → All (Any P) clauses → Each (Some_of P) clauses
each-said P [] all = tt
each-said P (lits ∷ clauses) all =
    let each = Each-from_All (Any P) (lits ∷ clauses) all in
    (Some_of-from_Any P lits each.0, each-said P clauses (All-from_Each (Any P) clauses each.1))

pub all-true : (P : Lit → Type 0) (clauses : List (List Lit)) → Each (Some_of P) clauses → All (Any P) clauses
all-true P [] each = λ k d within. absurd (omega arith)
all-true P (lits ∷ clauses) each = All-cons (Any P) lits clauses (Any-from_Some_of P lits each.0) (all-true P clauses each.1)

pub Each-append : {X : Type 0} (P : X → Type 0) (xs ys : List X) → Each P xs → Each P ys → Each P (xs ++ ys)
Each-append P [] ys left right = right
Each-append P (x ∷ xs) ys left right = (left.0, Each-append P xs ys left.1 right)

pub Each-left : {X : Type 0} (P : X → Type 0) (xs ys : List X) → Each P (xs ++ ys) → Each P xs
Each-left P [] ys each = tt
Each-left P (x ∷ xs) ys each = (each.0, Each-left P xs ys each.1)

pub Each-right : {X : Type 0} (P : X → Type 0) (xs ys : List X) → Each P (xs ++ ys) → Each P ys
Each-right P [] ys each = each
Each-right P (x ∷ xs) ys each = Each-right P xs ys each.1

module _ (rows : List (List Part)) (point : List ℤ) where
  abbrev pub IsTrue_here : Lit → Type 0
  IsTrue_here = IsTrueAt rows point

  abbrev pub Clause_here : List Lit → Type 0
  Clause_here = Some_of (IsTrueAt rows point)

  -- ---- a row's sum is a number

  pub equals-said : (row : ℕ) (number : ℤ) → Each Clause_here (equals row number) → term_value rows point (Row row) ≡ number
  equals-said row number each =
      let sum = row_value (slice_index_or rows row []) point in
      let above : sum ≤ℤ number = elim each.0 [ inl here ↦ here | inr none ↦ elim none [ ] ] in
      let below : number ≤ℤ sum = elim each.1.0 [ inl here ↦ here | inr none ↦ elim none [ ] ] in
      omega (arith, ints, above, below)

  pub equals-true : (row : ℕ) (number : ℤ) → term_value rows point (Row row) ≡ number → Each Clause_here (equals row number)
  equals-true row number is = (inl (omega (arith, ints, is)), (inl (omega (arith, ints, is)), tt))

  -- ---- marks

  abbrev pub IsMarked : ℕ → Type 0
  IsMarked operand = number_at point operand ≡ pos 1

  -- an operand is poison, or a listed literal is true
  abbrev pub IsBarred : List ℕ → List Lit → Type 0
  IsBarred operands listed = Some_of IsMarked operands ⊎ Some_of IsTrue_here listed

  raised_by : (mark : ℕ) → IsMark (number_at point mark) → pos 1 ≤ℤ number_at point mark → number_at point mark ≡ pos 1
  raised_by mark is above = omega (arith, ints, is.1, above)

  operand_raises : (mark : ℕ) (operands : List ℕ) → IsMark (number_at point mark) → Each Clause_here (map (from_operand mark) operands) → Some_of IsMarked operands → number_at point mark ≡ pos 1
  operand_raises mark [] is each some = elim some [ ]
  operand_raises mark (operand ∷ operands) is each some =
      elim some [
        | inl here ↦ elim each.0 [
          | inl above ↦ raised_by mark is above
          | inr rest ↦ elim rest [ inl below ↦ absurd (omega (arith, ints, here, below)) | inr none ↦ elim none [ ] ]
        ]
        | inr later ↦ operand_raises mark operands is each.1 later
      ]

  listed_raises : (mark : ℕ) (listed : List Lit) → IsMark (number_at point mark) → Each Clause_here (map (from_listed mark) listed) → Some_of IsTrue_here listed → number_at point mark ≡ pos 1
  listed_raises mark [] is each some = elim some [ ]
  listed_raises mark (lit ∷ listed) is each some =
      elim some [
        | inl here ↦ elim each.0 [
          | inl above ↦ raised_by mark is above
          | inr rest ↦ elim rest [ inl other ↦ absurd (not_both_true rows point lit here other) | inr none ↦ elim none [ ] ]
        ]
        | inr later ↦ listed_raises mark listed is each.1 later
      ]

  closed_by : (operands : List ℕ) (listed : List Lit) → Each (λ operand. IsMark (number_at point operand)) operands → Clause_here (map (λ operand. at_least (Var operand) (pos 1)) operands ++ listed) → IsBarred operands listed
  closed_by [] listed are some = inr some
  closed_by (operand ∷ operands) listed are some =
      elim some [
        | inl above ↦ inl (inl (raised_by operand are.0 above))
        | inr later ↦ elim (closed_by operands listed are.1 later) [ inl there ↦ inl (inr there) | inr true_one ↦ inr true_one ]
      ]

  pub marks-said : (mark : ℕ) (operands : List ℕ) (listed : List Lit) → IsMark (number_at point mark) → Each (λ operand. IsMark (number_at point operand)) operands → Each Clause_here (marks mark operands listed) → number_at point mark ≡ pos 1 ↔ IsBarred operands listed
  marks-said mark operands listed is are each =
      let operand_clauses = map (from_operand mark) operands in
      let listed_clauses = map (from_listed mark) listed in
      let rest = Each-right Clause_here operand_clauses (listed_clauses ++ closing mark operands listed ∷ []) each in
      let last = Each-right Clause_here listed_clauses (closing mark operands listed ∷ []) rest in (
        λ one. elim last.0 [ inl below ↦ absurd (omega (arith, ints, one, below)) | inr others ↦ closed_by operands listed are others ],
        λ barred. elim barred [
          | inl some ↦ operand_raises mark operands is (Each-left Clause_here operand_clauses (listed_clauses ++ closing mark operands listed ∷ []) each) some
          | inr some ↦ listed_raises mark listed is (Each-left Clause_here listed_clauses (closing mark operands listed ∷ []) rest) some
        ],
      )

  operands_true : (mark : ℕ) (operands : List ℕ) → IsMark (number_at point mark) → Each (λ operand. IsMark (number_at point operand)) operands → (Some_of IsMarked operands → number_at point mark ≡ pos 1) → Each Clause_here (map (from_operand mark) operands)
  operands_true mark [] is are raises = tt
  operands_true mark (operand ∷ operands) is are raises = (
    elim (mark_cases (number_at point operand) are.0) [
      | inl zero_here ↦ inr (inl (omega (arith, ints, zero_here)))
      | inr one_here ↦ inl (omega (arith, ints, raises (inl one_here)))
    ],
    operands_true mark operands is are.1 (λ later. raises (inr later)),
  )

  listed_true : (mark : ℕ) (listed : List Lit) → (Some_of IsTrue_here listed → number_at point mark ≡ pos 1) → Each Clause_here (map (from_listed mark) listed)
  listed_true mark [] raises = tt
  listed_true mark (lit ∷ listed) raises = (
    elim (true_or_negation rows point lit) [
      | inl here ↦ inl (omega (arith, ints, raises (inl here)))
      | inr other ↦ inr (inl other)
    ],
    listed_true mark listed (λ later. raises (inr later)),
  )

  closing_true : (operands : List ℕ) (listed : List Lit) → IsBarred operands listed → Clause_here (map (λ operand. at_least (Var operand) (pos 1)) operands ++ listed)
  closing_true [] listed barred = elim barred [ inl none ↦ elim none [ ] | inr some ↦ some ]
  closing_true (operand ∷ operands) listed barred =
      elim barred [
        | inl some ↦ elim some [ inl here ↦ inl (omega (arith, ints, here)) | inr later ↦ inr (closing_true operands listed (inl later)) ]
        | inr some ↦ inr (closing_true operands listed (inr some))
      ]

  pub marks-true : (mark : ℕ) (operands : List ℕ) (listed : List Lit) → IsMark (number_at point mark) → Each (λ operand. IsMark (number_at point operand)) operands → number_at point mark ≡ pos 1 ↔ IsBarred operands listed → Each Clause_here (marks mark operands listed)
  marks-true mark operands listed is are says =
      Each-append Clause_here (map (from_operand mark) operands) (map (from_listed mark) listed ++ closing mark operands listed ∷ [])
      (operands_true mark operands is are (λ some. says.1 (inl some)))
      (Each-append Clause_here (map (from_listed mark) listed) (closing mark operands listed ∷ [])
      (listed_true mark listed (λ some. says.1 (inr some))) (
        elim (mark_cases (number_at point mark) is) as (λ _. Clause_here (closing mark operands listed)) [
          | inl zero_here ↦ inl (omega (arith, ints, zero_here))
          | inr one_here ↦ inr (closing_true operands listed (says.0 one_here))
        ],
        tt,
      ))

  -- ---- the laws, over std's words

  pub equals-law : (row : ℕ) (number : ℤ) → All (Any (IsTrueAt rows point)) (equals row number) ↔ (term_value rows point (Row row) ≡ number)
  equals-law row number = (
    λ all. equals-said row number (each-said (IsTrueAt rows point) (equals row number) all),
    λ is. all-true (IsTrueAt rows point) (equals row number) (equals-true row number is),
  )

  barred-any : (operands : List ℕ) (listed : List Lit) → IsBarred operands listed → Any IsMarked operands ⊎ Any (IsTrueAt rows point) listed
  barred-any operands listed barred =
      elim barred [ inl some ↦ inl (Any-from_Some_of IsMarked operands some) | inr some ↦ inr (Any-from_Some_of (IsTrueAt rows point) listed some) ]

  any-barred : (operands : List ℕ) (listed : List Lit) → Any IsMarked operands ⊎ Any (IsTrueAt rows point) listed → IsBarred operands listed
  any-barred operands listed barred =
      elim barred [ inl some ↦ inl (Some_of-from_Any IsMarked operands some) | inr some ↦ inr (Some_of-from_Any (IsTrueAt rows point) listed some) ]

  pub marks-law : (mark : ℕ) (operands : List ℕ) (listed : List Lit) → IsMark (number_at point mark) → All (λ operand. IsMark (number_at point operand)) operands
      → All (Any (IsTrueAt rows point)) (marks mark operands listed) ↔ ((number_at point mark ≡ pos 1) ↔ (Any IsMarked operands ⊎ Any (IsTrueAt rows point) listed))
  marks-law mark operands listed is all =
      let are = Each-from_All (λ operand. IsMark (number_at point operand)) operands all in (
        λ clauses.
            let says = marks-said mark operands listed is are (each-said (IsTrueAt rows point) (marks mark operands listed) clauses) in
            (λ one. barred-any operands listed (says.0 one), λ barred. says.1 (any-barred operands listed barred)),
        λ says.
            all-true (IsTrueAt rows point) (marks mark operands listed)
            (marks-true mark operands listed is are (λ one. any-barred operands listed (says.0 one), λ barred. says.1 (barred-any operands listed barred))),
      )

  -- ---- comparisons

  two : {A B : Type 0} → A ⊎ (B ⊎ ⊥) → A ⊎ B
  two either = elim either [ inl a ↦ inl a | inr rest ↦ elim rest [ inl b ↦ inr b | inr none ↦ elim none [ ] ] ]

  of_two : {A B : Type 0} → A ⊎ B → A ⊎ (B ⊎ ⊥)
  of_two either = elim either [ inl a ↦ inl a | inr b ↦ inr (inl b) ]

  decided : (x : ℤ) (P Q : Type 0) → IsMark x → (x ≤ℤ pos 0) ⊎ P → (pos 1 ≤ℤ x) ⊎ Q → (P → Q → ⊥) → (x ≡ pos 1) ↔ P
  decided x P Q is first second apart = (
    λ one. elim first [ inl below ↦ absurd (omega (arith, ints, one, below)) | inr p ↦ p ],
    λ p. elim second [ inl above ↦ omega (arith, ints, is.1, above) | inr q ↦ absurd (apart p q) ],
  )

  decides_first : (x : ℤ) (P : Type 0) → IsMark x → (x ≡ pos 1) ↔ P → (x ≤ℤ pos 0) ⊎ P
  decides_first x P is says = elim (mark_cases x is) [ inl zero_here ↦ inl (omega (arith, ints, zero_here)) | inr one ↦ inr (says.0 one) ]

  decides_second : (x : ℤ) (P Q : Type 0) → IsMark x → P ⊎ Q → (x ≡ pos 1) ↔ P → (pos 1 ≤ℤ x) ⊎ Q
  decides_second x P Q is either says = elim either [ inl p ↦ inl (omega (arith, ints, says.1 p)) | inr q ↦ inr q ]

  -- a pair of clauses that decides x by a claim on the difference or its opposite
  pair-law : (x : ℤ) (P Q R : Type 0) → IsMark x → P ⊎ Q → (P → Q → ⊥) → (P ↔ R) → (((x ≤ℤ pos 0) ⊎ (P ⊎ ⊥)) × (((pos 1 ≤ℤ x) ⊎ (Q ⊎ ⊥)) × Unit {0})) ↔ ((x ≡ pos 1) ↔ R)
  pair-law x P Q R is either apart same = (
    λ clauses.
        let says = decided x P Q is (two clauses.0) (two clauses.1.0) apart in
        (λ one. same.0 (says.0 one), λ r. says.1 (same.1 r)),
    λ says.
        let about : (x ≡ pos 1) ↔ P = (λ one. same.1 (says.0 one), λ p. says.1 (same.0 p)) in
        (of_two (decides_first x P is about), (of_two (decides_second x P Q is either about), tt)),
  )

  three : {A B C : Type 0} → A ⊎ (B ⊎ (C ⊎ ⊥)) → A ⊎ (B ⊎ C)
  three either = elim either [ inl a ↦ inl a | inr rest ↦ elim (two rest) [ inl b ↦ inr (inl b) | inr c ↦ inr (inr c) ] ]

  of_three : {A B C : Type 0} → A ⊎ (B ⊎ C) → A ⊎ (B ⊎ (C ⊎ ⊥))
  of_three either = elim either [ inl a ↦ inl a | inr rest ↦ inr (of_two rest) ]

  joint : {A B C : Type 0} → A ⊎ B → A ⊎ C → A ⊎ (B × C)
  joint first second = elim first [ inl a ↦ inl a | inr b ↦ elim second [ inl a ↦ inl a | inr c ↦ inr (b, c) ] ]

  eq-law : (x d : ℤ) → IsMark x → (((x ≤ℤ pos 0) ⊎ ((d ≤ℤ pos 0) ⊎ ⊥)) × (((x ≤ℤ pos 0) ⊎ ((pos 0 ≤ℤ d) ⊎ ⊥)) × (((pos 1 ≤ℤ x) ⊎ ((d ≤ℤ negsuc 0) ⊎ ((pos 1 ≤ℤ d) ⊎ ⊥))) × Unit {0}))) ↔ ((x ≡ pos 1) ↔ (d ≡ pos 0))
  eq-law x d is = (
    λ clauses.
        let first : (x ≤ℤ pos 0) ⊎ ((d ≤ℤ pos 0) × (pos 0 ≤ℤ d)) = joint (two clauses.0) (two clauses.1.0) in
        let says = decided x ((d ≤ℤ pos 0) × (pos 0 ≤ℤ d)) ((d ≤ℤ negsuc 0) ⊎ (pos 1 ≤ℤ d)) is first (three clauses.1.1.0) (λ p q. elim q [ inl below ↦ omega (arith, ints, p.1, below) | inr above ↦ omega (arith, ints, p.0, above) ]) in
        (λ one. omega (arith, ints, (says.0 one).0, (says.0 one).1), λ zero_here. says.1 (omega (arith, ints, zero_here), omega (arith, ints, zero_here))),
    λ says.
        elim (mark_cases x is) [
          | inl low ↦ (inl (omega (arith, ints, low)), (inl (omega (arith, ints, low)), (inr (by_lt_z d (pos 0) (λ below. inl (omega (arith, ints, below))) (λ above. inr (inl (positive x d low says above)))), tt)))
          | inr one ↦ (inr (inl (omega (arith, ints, says.0 one))), (inr (inl (omega (arith, ints, says.0 one))), (inl (omega (arith, ints, one)), tt)))
        ],
  )
    where
      positive : (x d : ℤ) → x ≡ pos 0 → (x ≡ pos 1) ↔ (d ≡ pos 0) → pos 0 ≤ℤ d → pos 1 ≤ℤ d
      positive x d low says above =
          by_lt_z (pos 0) d (λ more. omega (arith, ints, more))
          (λ less_or_none.
          let none : d ≡ pos 0 = omega (arith, ints, above, less_or_none) in
          absurd (omega (arith, ints, low, says.1 none)))

  ne-law : (x d : ℤ) → IsMark x → (((pos 1 ≤ℤ x) ⊎ ((d ≤ℤ pos 0) ⊎ ⊥)) × (((pos 1 ≤ℤ x) ⊎ ((pos 0 ≤ℤ d) ⊎ ⊥)) × (((x ≤ℤ pos 0) ⊎ ((d ≤ℤ negsuc 0) ⊎ ((pos 1 ≤ℤ d) ⊎ ⊥))) × Unit {0}))) ↔ ((x ≡ pos 1) ↔ ¬ (d ≡ pos 0))
  ne-law x d is = (
    λ clauses.
        let second : (pos 1 ≤ℤ x) ⊎ ((d ≤ℤ pos 0) × (pos 0 ≤ℤ d)) = joint (two clauses.0) (two clauses.1.0) in
        let says = decided x ((d ≤ℤ negsuc 0) ⊎ (pos 1 ≤ℤ d)) ((d ≤ℤ pos 0) × (pos 0 ≤ℤ d)) is (three clauses.1.1.0) second (λ q p. elim q [ inl below ↦ omega (arith, ints, p.1, below) | inr above ↦ omega (arith, ints, p.0, above) ]) in (
          λ one zero_here. elim (says.0 one) [ inl below ↦ omega (arith, ints, zero_here, below) | inr above ↦ omega (arith, ints, zero_here, above) ],
          λ other. says.1 (apart_from_zero d other),
        ),
    λ says.
        elim (mark_cases x is) [
          | inl low ↦
              let none : d ≡ pos 0 = by_lt_z d (pos 0) (λ below. absurd (omega (arith, ints, low, says.1 (λ zero_here. omega (arith, ints, below, zero_here))))) (λ above. by_lt_z (pos 0) d (λ more. absurd (omega (arith, ints, low, says.1 (λ zero_here. omega (arith, ints, more, zero_here))))) (λ rest. omega (arith, ints, above, rest))) in
              (inr (inl (omega (arith, ints, none))), (inr (inl (omega (arith, ints, none))), (inl (omega (arith, ints, low)), tt)))
          | inr one ↦ (inl (omega (arith, ints, one)), (inl (omega (arith, ints, one)), (inr (of_two (apart_from_zero d (says.0 one))), tt)))
        ],
  )
    where
      apart_from_zero : (d : ℤ) → ¬ (d ≡ pos 0) → (d ≤ℤ negsuc 0) ⊎ (pos 1 ≤ℤ d)
      apart_from_zero d other =
          by_lt_z d (pos 0) (λ below. inl (omega (arith, ints, below)))
          (λ above. by_lt_z (pos 0) d (λ more. inr (omega (arith, ints, more))) (λ rest. absurd (other (omega (arith, ints, above, rest)))))

  as_choices : (clauses : List (List Lit)) (R : Type 0) → Each Clause_here clauses ↔ R → All (Any (IsTrueAt rows point)) clauses ↔ R
  as_choices clauses R law = (
    λ all. law.0 (each-said (IsTrueAt rows point) clauses all),
    λ r. all-true (IsTrueAt rows point) clauses (law.1 r),
  )

  less-law : (x row : ℕ) → IsMark (number_at point x) → All (Any (IsTrueAt rows point)) (less x row) ↔ ((number_at point x ≡ pos 1) ↔ (term_value rows point (Row row) <ℤ pos 0))
  less-law x row is =
      let d = term_value rows point (Row row) in
      as_choices (less x row) _ (pair-law (number_at point x) (d ≤ℤ negsuc 0) (pos 0 ≤ℤ d) (d <ℤ pos 0) is
      (by_lt_z d (pos 0) (λ below. inl (omega (arith, ints, below))) (λ above. inr above))
      (λ below above. omega (arith, ints, below, above))
      (λ below. omega (arith, ints, below), λ below. omega (arith, ints, below)))

  less_or_equal-law : (x row : ℕ) → IsMark (number_at point x) → All (Any (IsTrueAt rows point)) (less_or_equal x row) ↔ ((number_at point x ≡ pos 1) ↔ (term_value rows point (Row row) ≤ℤ pos 0))
  less_or_equal-law x row is =
      let d = term_value rows point (Row row) in
      as_choices (less_or_equal x row) _ (pair-law (number_at point x) (d ≤ℤ pos 0) (pos 1 ≤ℤ d) (d ≤ℤ pos 0) is
      (by_lt_z (pos 0) d (λ above. inr (omega (arith, ints, above))) (λ below. inl below))
      (λ below above. omega (arith, ints, below, above))
      (λ below. below, λ below. below))

  greater-law : (x row : ℕ) → IsMark (number_at point x) → All (Any (IsTrueAt rows point)) (greater x row) ↔ ((number_at point x ≡ pos 1) ↔ (pos 0 <ℤ term_value rows point (Row row)))
  greater-law x row is =
      let d = term_value rows point (Row row) in
      as_choices (greater x row) _ (pair-law (number_at point x) (pos 1 ≤ℤ d) (d ≤ℤ pos 0) (pos 0 <ℤ d) is
      (by_lt_z (pos 0) d (λ above. inl (omega (arith, ints, above))) (λ below. inr below))
      (λ above below. omega (arith, ints, below, above))
      (λ above. omega (arith, ints, above), λ above. omega (arith, ints, above)))

  greater_or_equal-law : (x row : ℕ) → IsMark (number_at point x) → All (Any (IsTrueAt rows point)) (greater_or_equal x row) ↔ ((number_at point x ≡ pos 1) ↔ (pos 0 ≤ℤ term_value rows point (Row row)))
  greater_or_equal-law x row is =
      let d = term_value rows point (Row row) in
      as_choices (greater_or_equal x row) _ (pair-law (number_at point x) (pos 0 ≤ℤ d) (d ≤ℤ negsuc 0) (pos 0 ≤ℤ d) is
      (by_lt_z d (pos 0) (λ below. inr (omega (arith, ints, below))) (λ above. inl above))
      (λ above below. omega (arith, ints, below, above))
      (λ above. above, λ above. above))

  pub compared-law : (pred : Pred) (x row : ℕ) → IsMark (number_at point x) → All (Any (IsTrueAt rows point)) (compared pred x row) ↔ ((number_at point x ≡ pos 1) ↔ StandsSo pred (term_value rows point (Row row)))
  compared-law Eq x row is = as_choices (compared Eq x row) _ (eq-law (number_at point x) (term_value rows point (Row row)) is)
  compared-law Ne x row is = as_choices (compared Ne x row) _ (ne-law (number_at point x) (term_value rows point (Row row)) is)
  compared-law Ugt x row is = greater-law x row is
  compared-law Uge x row is = greater_or_equal-law x row is
  compared-law Ult x row is = less-law x row is
  compared-law Ule x row is = less_or_equal-law x row is
  compared-law Sgt x row is = greater-law x row is
  compared-law Sge x row is = greater_or_equal-law x row is
  compared-law Slt x row is = less-law x row is
  compared-law Sle x row is = less_or_equal-law x row is
