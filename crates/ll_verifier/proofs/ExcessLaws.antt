-- The first limit that is exceeded is one.
use Rattle.std.proofs.Common.{◌≡◌, ◌<◌, ◌≤◌, ⊎_elim, ℕ, zero, suc, [], ◌∷◌, get_or, refl, sym, ◌∙◌, ap, subst, arith}
use Rattle.std.proofs.lemmas.Bool.{cases_lt, cases_order}
use Rattle.ll_tree.specs.declared.func.Func.{Func}
use Rattle.ll_rules.specs.declared.limits.Limit.{Limit}
use Rattle.ll_rules.specs.declared.limits.Limit.TheVariants as limit
use Rattle.ll_rules.specs.declared.limits.TooMany.{TooMany}
use Rattle.ll_rules.specs.Limits.{KeepsLimits, KeepsBefore, Keeps, IsFirstExcess, count_of, most_of, held}

-- the limits in the order in which they are asked
abbrev limit_at : ℕ → Limit
limit_at n = get_or (limit.Blocks ∷ limit.Params ∷ limit.Values ∷ limit.Entries ∷ limit.Cases ∷ limit.Edges ∷ []) n limit.Bits

abbrev rank : Limit → ℕ
rank limit.Blocks = 0
rank limit.Params = 1
rank limit.Values = 2
rank limit.Entries = 3
rank limit.Cases = 4
rank limit.Edges = 5
rank limit.Bits = 6

at_rank : (what : Limit) → limit_at (rank what) ≡ what
at_rank limit.Blocks = refl
at_rank limit.Params = refl
at_rank limit.Values = refl
at_rank limit.Entries = refl
at_rank limit.Cases = refl
at_rank limit.Edges = refl
at_rank limit.Bits = refl

module _ (func : Func) where
  -- so many limits are kept
  abbrev Kept : ℕ → Type 0
  Kept zero = Unit {0}
  Kept (suc n) = Kept n × Keeps (limit_at n) func

  kept_before : (what : Limit) → KeepsBefore what func → Kept (rank what)
  kept_before limit.Blocks h = tt
  kept_before limit.Params h = (tt, h)
  kept_before limit.Values (a, b) = ((tt, a), b)
  kept_before limit.Entries (a, b, c) = (((tt, a), b), c)
  kept_before limit.Cases (a, b, c, d) = ((((tt, a), b), c), d)
  kept_before limit.Edges (a, b, c, d, e) = (((((tt, a), b), c), d), e)
  kept_before limit.Bits (a, b, c, d, e, f) = ((((((tt, a), b), c), d), e), f)

  kept_at : (n m : ℕ) → n < m → Kept m → Keeps (limit_at n) func
  kept_at n zero less kept = absurd (omega (arith, less))
  kept_at n (suc m) less kept =
      ⊎_elim
      (λ before. kept_at n m before kept.0)
      (λ here. subst (λ (k : ℕ). Keeps (limit_at k) func) (same here) kept.1)
      (cases_lt n m)
    where
      same : m ≤ n → m ≡ n
      same here = omega (arith, here, less)

  keeps_each : KeepsLimits func → (what : Limit) → Keeps what func
  keeps_each keeps limit.Blocks = keeps.blocks
  keeps_each keeps limit.Params = keeps.params
  keeps_each keeps limit.Values = keeps.values
  keeps_each keeps limit.Entries = keeps.entries
  keeps_each keeps limit.Cases = keeps.cases
  keeps_each keeps limit.Edges = keeps.edges
  keeps_each keeps limit.Bits = keeps.bits

  pub excess_fails : (excess : TooMany) → IsFirstExcess func excess → KeepsLimits func → ⊥
  excess_fails excess first keeps = apart (most_of excess.what) (count_of excess.what func) first.over (keeps_each keeps excess.what)
    where
      apart : (most count : ℕ) → most < count → count ≤ most → ⊥
      apart most count over within = omega (arith, over, within)

  not_before : (one other : TooMany) → IsFirstExcess func one → IsFirstExcess func other → rank one.what < rank other.what → ⊥
  not_before one other first also less =
      apart (most_of one.what) (count_of one.what func) first.over
      (subst (λ (what : Limit). Keeps what func) (at_rank one.what) (kept_at (rank one.what) (rank other.what) less (kept_before other.what also.before)))
    where
      apart : (most count : ℕ) → most < count → count ≤ most → ⊥
      apart most count over within = omega (arith, over, within)

  one_limit : (one other : TooMany) → IsFirstExcess func one → IsFirstExcess func other → one.what ≡ other.what
  one_limit one other first also =
      ⊎_elim
      (λ same. sym (at_rank one.what) ∙ ap limit_at same ∙ at_rank other.what)
      (λ apart. ⊎_elim
      (λ less. absurd (not_before one other first also less))
      (λ more. absurd (not_before other one also first more))
      apart)
      (cases_order (rank one.what) (rank other.what))

  pub one_excess : (one other : TooMany) → IsFirstExcess func one → IsFirstExcess func other → one ≡ other
  one_excess one other first also =
      let what : one.what ≡ other.what = one_limit one other first also in
      let count : one.count ≡ other.count = first.count ∙ ap (λ (w : Limit). held (count_of w func)) what ∙ sym also.count in
      λ i. record { what = what i; count = count i }
