-- Two equations that are put together column by column.
use Rattle.std.proofs.Common.{◌≡◌, ◌≢◌, ℕ, ◌+◌, ◌<◌, ◌≤◌, ◌⊎◌, List, [], ◌∷◌, length, ℤ, pos, negsuc, neg_ℤ, ◌+ℤ◌, ◌-ℤ◌, ◌*ℤ◌, FitsSigned, All, refl, sym, ap, ◌∙◌, subst, ⊎_elim, arith}
use Rattle.std.specs.Int.{w128}
use Rattle.std.proofs.lemmas.Int.{ints}
use Rattle.std.proofs.lemmas.Bool.{cases_eq}
use Rattle.std.proofs.lemmas.List.Elements.{All-head, All-nil, All-weaker}
use Rattle.tableau_rows.specs.declared.entry.Entry.{Entry}
use Rattle.tableau_rows.specs.declared.equation.Equation.{Equation}
use Rattle.tableau_rows.specs.Equation.{total, unit, coefficient, IsSparse}
use Rattle.tableau_rows.specs.Merge.{BeginsAt, IsSplitOff}
use Rattle.tableau_rows.specs.Substitution.{taken, sum_at, AreInLowestTerms}
use Rattle.tableau_rows.specs.Proper.{turned}
use Rattle.tableau_rows.proofs.RingLaws.{mul_assoc, mul-add, sub-mul, neg-mul, mul_comm}
use Rattle.tableau_rows.proofs.TotalLaws.{unit_same, unit_other, coefficient_none}

pub turned-add : (p a b : ℤ) → turned p (a +ℤ b) ≡ turned p a +ℤ turned p b
turned-add (pos p) a b = refl
turned-add (negsuc p) a b = omega (arith, ints)

pub turned-mul : (p a n : ℤ) → turned p (a *ℤ n) ≡ turned p a *ℤ n
turned-mul (pos p) a n = refl
turned-mul (negsuc p) a n = sym (neg-mul a n)

pub turned-zero : (p : ℤ) → turned p (pos 0) ≡ pos 0
turned-zero (pos p) = refl
turned-zero (negsuc p) = refl

split_sums : (p q a b n l r : ℤ) → p *ℤ (a *ℤ n +ℤ l) -ℤ q *ℤ (b *ℤ n +ℤ r) ≡ (p *ℤ a -ℤ q *ℤ b) *ℤ n +ℤ (p *ℤ l -ℤ q *ℤ r)
split_sums p q a b n l r =
    omega (arith, ints, mul-add p (a *ℤ n) l, mul-add q (b *ℤ n) r, sub-mul (p *ℤ a) (q *ℤ b) n, mul_assoc p a n, mul_assoc q b n)

-- the part of one column, split off
pub combined_split : (p q a b n l r x y : ℤ) → x ≡ a *ℤ n +ℤ l → y ≡ b *ℤ n +ℤ r → turned p (p *ℤ x -ℤ q *ℤ y) ≡ turned p (p *ℤ a -ℤ q *ℤ b) *ℤ n +ℤ turned p (p *ℤ l -ℤ q *ℤ r)
combined_split p q a b n l r x y is_x is_y =
    (λ i. turned p (p *ℤ is_x i -ℤ q *ℤ is_y i)) ∙ ap (turned p) (split_sums p q a b n l r)
    ∙ turned-add p ((p *ℤ a -ℤ q *ℤ b) *ℤ n) (p *ℤ l -ℤ q *ℤ r) ∙ ap (λ z. z +ℤ turned p (p *ℤ l -ℤ q *ℤ r)) (turned-mul p (p *ℤ a -ℤ q *ℤ b) n)

-- the columns below `floor` are done: their sums stand in the entries
pub record Merging (row pivot : Equation) (p q : ℤ) (entering : ℕ) (left right entries : List Entry) : Type 0 where
  pub floor : ℕ
  pub sparse : IsSparse entries
  pub below : All (λ entry. entry.column < floor) entries
  pub left_sparse : IsSparse left
  pub right_sparse : IsSparse right
  pub left_above : All (λ entry. floor ≤ entry.column) left
  pub right_above : All (λ entry. floor ≤ entry.column) right
  pub left_same : (n : ℕ) → floor ≤ n → coefficient left n ≡ taken row n
  pub right_same : (n : ℕ) → floor ≤ n → coefficient right n ≡ taken pivot n
  pub balanced : p *ℤ coefficient left entering ≡ q *ℤ coefficient right entering
  pub own_fits : FitsSigned w128 (neg_ℤ (coefficient entries row.basic))
  pub sums : (number : ℕ → ℤ) → total number entries +ℤ turned p (p *ℤ total number left -ℤ q *ℤ total number right) ≡ turned p (p *ℤ sum_at number row -ℤ q *ℤ sum_at number pivot)

pub Merging-begin : (row pivot : Equation) (p q : ℤ) (entering : ℕ) → IsSparse row.entries.items → IsSparse pivot.entries.items
    → AreInLowestTerms (taken pivot entering) (taken row entering) p q → Merging row pivot p q entering row.entries.items pivot.entries.items []
Merging-begin row pivot p q entering row_sparse pivot_sparse factors = record {
  floor = 0;
  sparse = record { rising = λ i j d before within. absurd (omega arith); nonzero = All-nil (λ (entry : Entry). entry.coeff ≢ pos 0) };
  below = All-nil (λ (entry : Entry). entry.column < 0);
  left_sparse = row_sparse;
  right_sparse = pivot_sparse;
  left_above = λ k d within. omega arith;
  right_above = λ k d within. omega arith;
  left_same = λ n above. refl;
  right_same = λ n above. refl;
  balanced = rw (factors.first, factors.second) (sym (mul_assoc p q (pos factors.divisor)) ∙ ap (λ z. z *ℤ pos factors.divisor) (mul_comm p q) ∙ mul_assoc q p (pos factors.divisor));
  own_fits = omega (arith, ints);
  sums = λ number. omega (arith, ints);
}

pub BeginsAt_above : (floor column : ℕ) (entries : List Entry) → BeginsAt column entries → All (λ entry. floor ≤ entry.column) entries → floor ≤ column
BeginsAt_above floor column [] begins above = absurd begins
BeginsAt_above floor column (e ∷ entries) begins above = omega (arith, begins, All-head (λ entry. floor ≤ entry.column) e entries above)

by_eq : {P : Type 0} (a b : ℕ) → (a ≡ b → P) → (a ≢ b → P) → P
by_eq a b same other = ⊎_elim same other (cases_eq a b)

-- how often the column of a split is taken, and another one
pub split_taken : (entries rest : List Entry) (column : ℕ) (coeff : ℤ) → IsSplitOff entries column coeff rest → coefficient entries column ≡ coeff
split_taken entries rest column coeff split =
    let none = coefficient_none rest column (All-weaker (λ entry. column < entry.column) (λ entry. entry.column ≢ column) (λ entry h same. absurd (omega arith)) rest split.above) in
    omega (arith, ints, split.sums (unit column), none, ap (λ u. coeff *ℤ u) (unit_same column))

pub split_other : (entries rest : List Entry) (column : ℕ) (coeff : ℤ) → IsSplitOff entries column coeff rest → (n : ℕ) → n ≢ column → coefficient rest n ≡ coefficient entries n
split_other entries rest column coeff split n other =
    omega (arith, ints, split.sums (unit n), ap (λ u. coeff *ℤ u) (unit_other n column other))

pub split_gone : (entries rest : List Entry) (column : ℕ) (coeff : ℤ) → IsSplitOff entries column coeff rest → coefficient rest column ≡ pos 0
split_gone entries rest column coeff split =
    coefficient_none rest column (All-weaker (λ entry. column < entry.column) (λ entry. entry.column ≢ column) (λ entry h same. absurd (omega arith)) rest split.above)

module _ (row pivot : Equation) (p q : ℤ) (entering : ℕ) (left right entries : List Entry) (m : Merging row pivot p q entering left right entries)
    (column : ℕ) (begins : BeginsAt column left ⊎ BeginsAt column right)
    (a b : ℤ) (left' right' : List Entry) (of_left : IsSplitOff left column a left') (of_right : IsSplitOff right column b right') where
  pub floor_below : m.floor ≤ column
  floor_below = ⊎_elim (λ at. BeginsAt_above m.floor column left at m.left_above) (λ at. BeginsAt_above m.floor column right at m.right_above) begins

  pub in_row : a ≡ taken row column
  in_row = sym (split_taken left left' column a of_left) ∙ m.left_same column floor_below

  pub in_pivot : b ≡ taken pivot column
  in_pivot = sym (split_taken right right' column b of_right) ∙ m.right_same column floor_below

  pub entries_below : All (λ entry. entry.column < column) entries
  entries_below = All-weaker (λ entry. entry.column < m.floor) (λ entry. entry.column < column) (λ entry h. omega (arith, floor_below)) entries m.below

  above' : (rest : List Entry) → All (λ entry. column < entry.column) rest → All (λ entry. column + 1 ≤ entry.column) rest
  above' rest h = All-weaker (λ entry. column < entry.column) (λ entry. column + 1 ≤ entry.column) (λ entry h. omega arith) rest h

  -- what the new entry does to the coefficients
  own_put : (entries' : List Entry) (z : ℤ) → ((number : ℕ → ℤ) → total number entries' ≡ total number entries +ℤ z *ℤ number column) → column ≡ row.basic → coefficient entries' row.basic ≡ z
  own_put entries' z sums same =
      let none = coefficient_none entries column (All-weaker (λ entry. entry.column < column) (λ entry. entry.column ≢ column) (λ entry h same. absurd (omega arith)) entries entries_below) in
      let here : coefficient entries' column ≡ z = omega (arith, ints, sums (unit column), none, ap (λ u. z *ℤ u) (unit_same column)) in
      rw (← same) here

  other_put : (entries' : List Entry) (z : ℤ) → ((number : ℕ → ℤ) → total number entries' ≡ total number entries +ℤ z *ℤ number column) → (n : ℕ) → n ≢ column → coefficient entries' n ≡ coefficient entries n
  other_put entries' z sums n other = omega (arith, ints, sums (unit n), ap (λ u. z *ℤ u) (unit_other n column other))

  -- the column's new entry was put to the others
  pub Merging-put : (entries' : List Entry) (z : ℤ) → column ≢ entering → (column ≡ row.basic → FitsSigned w128 (neg_ℤ z)) → z ≡ turned p (p *ℤ a -ℤ q *ℤ b)
      → IsSparse entries' → All (λ entry. entry.column < column + 1) entries'
      → ((number : ℕ → ℤ) → total number entries' ≡ total number entries +ℤ z *ℤ number column)
      → Merging row pivot p q entering left' right' entries'
  Merging-put entries' z stays own is_z sparse below sums = record {
    floor = column + 1;
    sparse = sparse;
    below = below;
    left_sparse = of_left.sparse;
    right_sparse = of_right.sparse;
    left_above = above' left' of_left.above;
    right_above = above' right' of_right.above;
    left_same = λ n above. split_other left left' column a of_left n (λ same. absurd (omega arith)) ∙ m.left_same n (omega (arith, floor_below));
    right_same = λ n above. split_other right right' column b of_right n (λ same. absurd (omega arith)) ∙ m.right_same n (omega (arith, floor_below));
    own_fits = by_eq column row.basic (λ same. subst (λ w. FitsSigned w128 (neg_ℤ w)) (sym (own_put entries' z sums same)) (own same))
        (λ other. subst (λ w. FitsSigned w128 (neg_ℤ w)) (sym (other_put entries' z sums row.basic (λ same. other (sym same)))) m.own_fits);
    balanced = rw (split_other left left' column a of_left entering (λ same. stays (sym same)), split_other right right' column b of_right entering (λ same. stays (sym same))) (m.balanced);
    sums = λ number.
        let split = combined_split p q a b (number column) (total number left') (total number right') _ _ (of_left.sums number) (of_right.sums number) in
        let here = ap (λ w. w *ℤ number column) is_z in
        omega (arith, ints, m.sums number, split, here, sums number);
  }

  -- the column that enters cancels out
  pub Merging-skip : column ≡ entering → Merging row pivot p q entering left' right' entries
  Merging-skip same =
      let taken_left : coefficient left entering ≡ a = rw (← same) (split_taken left left' column a of_left) in
      let taken_right : coefficient right entering ≡ b = rw (← same) (split_taken right right' column b of_right) in
      let gone_left : coefficient left' entering ≡ pos 0 = rw (← same) (split_gone left left' column a of_left) in
      let gone_right : coefficient right' entering ≡ pos 0 = rw (← same) (split_gone right right' column b of_right) in
      let cancel : p *ℤ a ≡ q *ℤ b = rw (taken_left, taken_right) at m.balanced in
      let none : turned p (p *ℤ a -ℤ q *ℤ b) ≡ pos 0 = ap (turned p) (omega (arith, ints)) ∙ turned-zero p in
      record {
        floor = column + 1;
        sparse = m.sparse;
        below = All-weaker (λ entry. entry.column < column) (λ entry. entry.column < column + 1) (λ entry h. omega arith) entries entries_below;
        left_sparse = of_left.sparse;
        right_sparse = of_right.sparse;
        left_above = above' left' of_left.above;
        right_above = above' right' of_right.above;
        left_same = λ n above. split_other left left' column a of_left n (λ same. absurd (omega arith)) ∙ m.left_same n (omega (arith, floor_below));
        right_same = λ n above. split_other right right' column b of_right n (λ same. absurd (omega arith)) ∙ m.right_same n (omega (arith, floor_below));
        own_fits = m.own_fits;
        balanced = rw (gone_left, gone_right) (omega (arith, ints));
        sums = λ number.
            let split = combined_split p q a b (number column) (total number left') (total number right') _ _ (of_left.sums number) (of_right.sums number) in
            let here = ap (λ w. w *ℤ number column) none in
            omega (arith, ints, m.sums number, split, here);
      }

pub Merging-end : (row pivot : Equation) (p q : ℤ) (entering : ℕ) (left right entries : List Entry) → Merging row pivot p q entering left right entries → length left ≡ 0 → length right ≡ 0
    → (number : ℕ → ℤ) → total number entries ≡ turned p (p *ℤ sum_at number row -ℤ q *ℤ sum_at number pivot)
Merging-end row pivot p q entering [] [] entries m none_left none_right number =
    let zero : turned p (p *ℤ pos 0 -ℤ q *ℤ pos 0) ≡ pos 0 = ap (turned p) (omega (arith, ints)) ∙ turned-zero p in
    omega (arith, ints, m.sums number, zero)
Merging-end row pivot p q entering (x ∷ left) right entries m none_left none_right number = absurd (omega arith)
Merging-end row pivot p q entering [] (x ∷ right) entries m none_left none_right number = absurd (omega arith)
