-- Which two literals of a clause became false last.
use Rattle.std.proofs.Common.{◌≡◌, ◌≢◌, ◌↔◌, ℕ, ◌+◌, ◌^◌, ◌<◌, ◌≤◌, List, length, get_or, sym, subst, inl, inr, ⊎_elim, arith}
use Rattle.std.specs.List.{HoldsAt}
use Rattle.std.proofs.lemmas.Bool.{cases_lt}
use Rattle.std.proofs.lemmas.List.{get_or_default}
use Rattle.bound_trail.specs.Edges.{blank_lit}
use Rattle.mix_system.specs.declared.literal.Lit.{Lit}
use Rattle.mix_system.specs.Bounds.{IsFalseIn}
use Rattle.clause_search.specs.Settled.{IsSettled}
use Rattle.clause_search.specs.Watched.{AreLeft, Stands}
use Rattle.clause_search.specs.Visited.{AreFalseBut, IsLatest}
use Rattle.clause_search.specs.declared.pairs.Latest.{Latest}

-- the literal at a place isn't false
abbrev pub IsLeft : List Lit → List Lit → ℕ → Type 0
IsLeft bounds clause at = HoldsAt (λ lit. ¬ IsFalseIn bounds lit) clause at

pub latest_none : (bounds clause : List Lit) → IsLatest bounds clause 0 (record { first = 0; high = 0; second = 0; low = 0 })
latest_none bounds clause = record {
  first_within = omega arith;
  second_within = omega arith;
  ordered = omega arith;
  bounded = omega arith;
  one = λ e. absurd (omega arith);
  other = λ e. absurd (omega arith);
  rest = λ k below left. absurd (omega arith);
}

pub latest_high : (bounds clause : List Lit) (at falls : ℕ) (latest : Latest) → IsLatest bounds clause at latest → falls ≤ 2 ^ 32 → ((falls ≡ 2 ^ 32) ↔ IsLeft bounds clause at) → latest.high < falls → IsLatest bounds clause (at + 1) (record { first = at; high = falls; second = latest.first; low = latest.high })
latest_high bounds clause at falls latest is most never higher =
    let first = is.first_within in
    let ordered = is.ordered in
    record {
      first_within = omega arith;
      second_within = omega arith;
      ordered = omega arith;
      bounded = most;
      one = λ e. (omega arith, never.0 e);
      other = λ e. absurd (omega arith);
      rest = λ k below left. ⊎_elim
          (λ (before : k < at). ⊎_elim (λ e. absurd (omega arith)) (λ e. absurd (omega (arith, e.0))) (is.rest k before left))
          (λ past. let e : at ≡ k = omega arith in inr (never.1 (subst (λ n. IsLeft bounds clause n) (sym e) left), sym e))
          (cases_lt k at);
    }

pub latest_low : (bounds clause : List Lit) (at falls : ℕ) (latest : Latest) → IsLatest bounds clause at latest → falls ≤ 2 ^ 32 → ((falls ≡ 2 ^ 32) ↔ IsLeft bounds clause at) → falls ≤ latest.high → latest.low < falls → IsLatest bounds clause (at + 1) (record { first = latest.first; high = latest.high; second = at; low = falls })
latest_low bounds clause at falls latest is most never lower higher =
    let first = is.first_within in
    let bounded = is.bounded in
    record {
      first_within = omega arith;
      second_within = omega arith;
      ordered = lower;
      bounded = bounded;
      one = λ e. let was = is.one e in (omega (arith, was.0), was.1);
      other = λ e. let full : latest.high ≡ 2 ^ 32 = omega arith in
          let was = is.one full in
          let below : latest.first < at = was.0 in (
            omega arith,
            λ same. omega arith,
            never.0 e,
          );
      rest = λ k below left. ⊎_elim
          (λ (before : k < at). ⊎_elim (λ e. absurd (omega arith)) (λ e. inr e) (is.rest k before left))
          (λ past. let e : at ≡ k = omega arith in inl (never.1 (subst (λ n. IsLeft bounds clause n) (sym e) left)))
          (cases_lt k at);
    }

pub latest_same : (bounds clause : List Lit) (at falls : ℕ) (latest : Latest) → IsLatest bounds clause at latest → falls ≤ 2 ^ 32 → ((falls ≡ 2 ^ 32) ↔ IsLeft bounds clause at) → falls ≤ latest.low → IsLatest bounds clause (at + 1) latest
latest_same bounds clause at falls latest is most never lower =
    let first = is.first_within in
    let second = is.second_within in
    let ordered = is.ordered in
    let bounded = is.bounded in
    record {
      first_within = omega arith;
      second_within = omega arith;
      ordered = ordered;
      bounded = bounded;
      one = λ e. let was = is.one e in (omega (arith, was.0), was.1);
      other = λ e. let was = is.other e in (omega (arith, was.0), was.1, was.2);
      rest = λ k below left. ⊎_elim
          (λ (before : k < at). is.rest k before left)
          (λ past. let e : at ≡ k = omega arith in
          let full : falls ≡ 2 ^ 32 = never.1 (subst (λ n. IsLeft bounds clause n) (sym e) left) in
          inl (omega arith))
          (cases_lt k at);
    }

pub latest_within : (bounds clause : List Lit) (at : ℕ) (latest : Latest) → length clause ≤ at → at ≤ length clause → IsLatest bounds clause at latest → latest.first ≢ latest.second → (latest.first < length clause) × (latest.second < length clause)
latest_within bounds clause at latest all within is apart =
    let first = is.first_within in
    let second = is.second_within in
    ⊎_elim
    (λ (some : 0 < length clause). (omega arith, omega arith))
    (λ none. absurd (apart (omega arith)))
    (cases_lt 0 (length clause))

both_left : (bounds clause : List Lit) (at : ℕ) (latest : Latest) → length clause ≤ at → at ≤ length clause → IsLatest bounds clause at latest → latest.low ≡ 2 ^ 32 → AreLeft bounds clause (record { first = latest.first; second = latest.second })
both_left bounds clause at latest all within is full =
    let ordered = is.ordered in
    let bounded = is.bounded in
    let high : latest.high ≡ 2 ^ 32 = omega arith in
    let one = is.one high in
    let other = is.other full in
    record {
      apart = other.1;
      one = record { within = omega (arith, one.0); left = one.1 };
      other = record { within = omega (arith, other.0); left = other.2 };
    }

pub latest_stands : (bounds clause : List Lit) (at : ℕ) (latest : Latest) → length clause ≤ at → at ≤ length clause → IsLatest bounds clause at latest → IsSettled bounds clause → Stands bounds bounds clause (record { first = latest.first; second = latest.second })
latest_stands bounds clause at latest all within is settled =
    let left = both_left bounds clause at latest all within is in
    ⊎_elim
    (λ t. inl t)
    (λ two. ⊎_elim
    (λ full. inr (left full))
    (λ one. ⊎_elim
    (λ full. inr (left full))
    (λ other. absurd (omega (arith, two.apart, one.1, other.1)))
    (is.rest two.second (omega (arith, two.other.within)) two.other.left))
    (is.rest two.first (omega (arith, two.one.within)) two.one.left))
    settled

pub never_at : (bounds clause : List Lit) (at falls : ℕ) → at < length clause → ((falls ≡ 2 ^ 32) ↔ (¬ IsFalseIn bounds (get_or clause at blank_lit))) → (falls ≡ 2 ^ 32) ↔ IsLeft bounds clause at
never_at bounds clause at falls h never =
    (λ e d. subst (λ lit. ¬ IsFalseIn bounds lit) (get_or_default clause at blank_lit d h) (never.0 e), λ left. never.1 (left blank_lit))

pub are_false_next : (bounds clause : List Lit) (other at : ℕ) → at < length clause → AreFalseBut bounds clause other at → IsFalseIn bounds (get_or clause at blank_lit) → AreFalseBut bounds clause other (at + 1)
are_false_next bounds clause other at h before here k below apart =
    ⊎_elim
    (λ first. before k first apart)
    (λ past. let e : at ≡ k = omega arith in subst (λ n. HoldsAt (IsFalseIn bounds) clause n) e (λ d. subst (IsFalseIn bounds) (get_or_default clause at blank_lit d h) here))
    (cases_lt k at)
