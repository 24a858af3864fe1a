-- What is known of rows' sums, one row after the other.
use Rattle.std.proofs.Common.{◌≡◌, ◌≢◌, ℕ, ◌+◌, ◌<◌, ◌≤◌, true, false, List, [], ◌∷◌, ◌++◌, length, get_or, Option, None, Some, ℤ, pos, ◌≤ℤ◌, ◌<ℤ◌, refl, sym, ap, ◌∙◌, subst, ◌⊎◌, inl, inr, ⊎_elim, arith}
use Rattle.std.specs.Prelude.{set, IfSome, IfNone, IsSome}
use Rattle.std.proofs.lemmas.Int.{ints}
use Rattle.std.proofs.lemmas.Bool.{cases_eq, cases_lt}
use Rattle.std.proofs.lemmas.List.{get_or-set_same, get_or-set_other, length-set, get_or_append_left, get_or_at, get_or_default}
use Rattle.mix_system.specs.declared.literal.Side.{Side}
use Rattle.mix_system.specs.declared.literal.Side.TheVariants.{Le, Ge}
use Rattle.mix_system.specs.declared.literal.Term.TheVariants.{Row}
use Rattle.mix_system.specs.System.{System}
use Rattle.bounded_simplex.specs.InForce.{BoundChanges, in_force}
use Rattle.bounded_simplex.specs.Lax.{extreme_at, IsLaxAt}
use Rattle.bounded_simplex.specs.Reach.{IsReachOf, AreReaches, IsFree, HasRoom, HaveRoom, AllKeep, IsAtMost, IsAtLeast}
use Rattle.bounded_simplex.specs.declared.reach.Reach.{Reach}

pub nothing_known : (system : System) (row : ℕ) → IsReachOf system row (record { least = None; greatest = None })
nothing_known system row = record {
  least = λ sum is. absurd (cc);
  greatest = λ sum is. absurd (cc);
}

-- both sums
pub both_known : (system : System) (row : ℕ) (least greatest : ℤ) → least ≡ extreme_at system row false → greatest ≡ extreme_at system row true → IsReachOf system row (record { least = Some least; greatest = Some greatest })
both_known system row least greatest low high = record {
  least = λ sum is. let e : least ≡ sum = cc in sym e ∙ low;
  greatest = λ sum is. let e : greatest ≡ sum = cc in sym e ∙ high;
}

pub has_room : (bounds : BoundChanges) (row : ℕ) (least greatest : ℤ) → least ≡ extreme_at bounds.system row false → greatest ≡ extreme_at bounds.system row true
    → ((b : ℤ) → in_force bounds (Row row) Ge ≡ Some b → b ≤ℤ greatest) → ((b : ℤ) → in_force bounds (Row row) Le ≡ Some b → least ≤ℤ b) → HasRoom bounds row (record { least = Some least; greatest = Some greatest })
has_room bounds row least greatest is_least is_greatest low high = record {
  least = ap Some is_least;
  greatest = ap Some is_greatest;
  low = λ b is. subst (λ z. b ≤ℤ z) is_greatest (low b is);
  high = λ b is. subst (λ z. z ≤ℤ b) is_least (high b is);
}

pub reach_more : (system : System) (reaches more : List Reach) (row : ℕ) (reach : Reach) → length reaches ≡ row → more ≡ reaches ++ reach ∷ [] → IsReachOf system row reach
    → ((k : ℕ) (d : Reach) → k < row → IsReachOf system k (get_or reaches k d)) → (k : ℕ) (d : Reach) → k < row + 1 → IsReachOf system k (get_or more k d)
reach_more system reaches more row reach count is here before k d within =
    ⊎_elim (λ (lt : k < row). subst (IsReachOf system k) (sym (ap (λ l. get_or l k d) is ∙ get_or_append_left reaches (reach ∷ []) d k (omega (arith, lt, count)))) (before k d lt))
    (λ (le : row ≤ k).
    let same : k ≡ row = omega (arith, le, within) in
    subst (IsReachOf system k) (sym (ap (λ l. get_or l k d) is ∙ get_or_at reaches reach [] d k (count ∙ sym same))) (subst (λ n. IsReachOf system n reach) (sym same) here)) (cases_lt k row)

-- another reach at a row
pub reaches_set : (system : System) (reaches : List Reach) (row : ℕ) (reach : Reach) → row < length reaches → IsReachOf system row reach → AreReaches system reaches → AreReaches system (set reaches row reach)
reaches_set system reaches row reach within here before = record {
  one_each = length-set reaches row reach ∙ before.one_each;
  each = λ k d inside.
      ⊎_elim (λ (same : k ≡ row).
      rw same (subst (IsReachOf system row) (sym (get_or-set_same reaches row reach d within)) here))
      (λ (other : k ≢ row).
      subst (IsReachOf system k) (sym (get_or-set_other reaches row k reach d other)) (before.each k d (omega (arith, inside, length-set reaches row reach)))) (cases_eq k row);
}

pub room_more : (bounds : BoundChanges) (reaches : List Reach) (row : ℕ) (reach : Reach) → row < length reaches → IsFree bounds row ⊎ HasRoom bounds row reach
    → ((k : ℕ) (d : Reach) → k < row → IsFree bounds k ⊎ HasRoom bounds k (get_or reaches k d)) → (k : ℕ) (d : Reach) → k < row + 1 → IsFree bounds k ⊎ HasRoom bounds k (get_or (set reaches row reach) k d)
room_more bounds reaches row reach within here before k d inside =
    ⊎_elim (λ (same : k ≡ row).
    rw same (subst (λ (x : Reach). IsFree bounds row ⊎ HasRoom bounds row x) (sym (get_or-set_same reaches row reach d within)) here))
    (λ (other : k ≢ row).
    subst (λ (x : Reach). IsFree bounds k ⊎ HasRoom bounds k x) (sym (get_or-set_other reaches row k reach d other)) (before k d (omega (arith, inside, other)))) (cases_eq k row)

-- a bound with room is lax exactly where the sum that is known says so
module _ (bounds : BoundChanges) (row : ℕ) (reach : Reach) (side : Side) (bound : ℤ) (is : in_force bounds (Row row) side ≡ Some bound) (room : IsFree bounds row ⊎ HasRoom bounds row reach) where
  has : HasRoom bounds row reach
  has = ⊎_elim (λ (free : IsFree bounds row). absurd (none side free is)) (λ (h : HasRoom bounds row reach). h) room
    where
      none : (side : Side) → IsFree bounds row → in_force bounds (Row row) side ≡ Some bound → ⊥
      none Ge free is = let e : None ≡ Some bound = sym free.0 ∙ is in cc
      none Le free is = let e : None ≡ Some bound = sym free.1 ∙ is in cc

  of_side : (side : Side) → HasRoom bounds row reach → AllKeep reach side bound ≡ IsLaxAt bounds.system (Row row) side bound
  of_side Ge h = ap (IsAtMost bound) h.least
  of_side Le h = ap (IsAtLeast bound) h.greatest

  pub lax_where_kept : AllKeep reach side bound → IsLaxAt bounds.system (Row row) side bound
  lax_where_kept kept = subst (λ (T : Type 0). T) (of_side side has) kept

  pub kept_where_lax : IsLaxAt bounds.system (Row row) side bound → AllKeep reach side bound
  kept_where_lax lax = subst (λ (T : Type 0). T) (sym (of_side side has)) lax
