-- The steps of a look at a clause, literal by literal.
use Rattle.std.proofs.Common.{◌≡◌, ◌≢◌, ℕ, ◌+◌, ◌<◌, ◌≤◌, List, ◌++◌, length, get_or, take, drop, Option, Some, None, sym, ap, ◌∙◌, subst, ⊎_elim, arith}
use Rattle.std.specs.List.{HoldsAt}
use Rattle.std.proofs.lemmas.Bool.{cases_lt}
use Rattle.std.proofs.lemmas.List.{get_or_default, take-append-drop, drop_more, get_or-take, get_or-drop, length-take-le, length-drop}
use Rattle.mix_system.specs.declared.literal.Lit.{Lit}
use Rattle.mix_system.specs.Bounds.{IsIn, IsFalseIn}
use Rattle.mix_system.specs.Follows.{LeavesNone, LeavesOne}
use Rattle.clause_search.specs.Settled.{LeavesTwo, HasTrue}
use Rattle.clause_search.specs.Looks.{IsImplied, LeftIs, IsSeen}

-- what holds at one default holds at each
at_any : (P : Lit → Type 0) (clause : List Lit) (at : ℕ) (lit : Lit) → at < length clause → lit ≡ get_or clause at lit → P lit → HoldsAt P clause at
at_any P clause at lit h is p d = subst P (is ∙ get_or_default clause at lit d h) p

pub seen_none : (bounds clause : List Lit) → IsSeen bounds clause 0 None
seen_none bounds clause = record {
  none_true = λ k h. absurd (omega arith);
  left_is = λ k h. absurd (omega arith);
}

pub seen_two : (bounds clause : List Lit) (at : ℕ) (left : Option ℕ) (place : ℕ) (lit : Lit) → left ≡ Some place → IsSeen bounds clause at left → at < length clause → lit ≡ get_or clause at lit → (¬ IsFalseIn bounds lit) → LeavesTwo bounds clause
seen_two bounds clause at left place lit e seen h is open_ =
    let first : LeftIs bounds clause at (Some place) = subst (λ l. LeftIs bounds clause at l) e seen.left_is in
    record {
      first = place;
      second = at;
      apart = first.0;
      one = record { within = omega (arith, first.0); left = first.1 };
      other = record { within = h; left = at_any (λ l. ¬ IsFalseIn bounds l) clause at lit h is open_ };
    }

more_true : (bounds clause : List Lit) (at : ℕ) (left : Option ℕ) (lit : Lit) → IsSeen bounds clause at left → at < length clause → lit ≡ get_or clause at lit → (¬ IsIn bounds lit) → (k : ℕ) → k < at + 1 → HoldsAt (λ l. ¬ IsIn bounds l) clause k
more_true bounds clause at left lit seen h is not_true k below =
    ⊎_elim (λ before. seen.none_true k before) (λ past. let e : at ≡ k = omega arith in subst (λ n. HoldsAt (λ l. ¬ IsIn bounds l) clause n) e (at_any (λ l. ¬ IsIn bounds l) clause at lit h is not_true)) (cases_lt k at)

left_false : (bounds clause : List Lit) (at : ℕ) (left : Option ℕ) → LeftIs bounds clause at left → HoldsAt (IsFalseIn bounds) clause at → LeftIs bounds clause (at + 1) left
left_false bounds clause at None before here = λ k below.
    ⊎_elim (λ h. before k h) (λ past. let e : at ≡ k = omega arith in subst (λ n. HoldsAt (IsFalseIn bounds) clause n) e here) (cases_lt k at)
left_false bounds clause at (Some place) before here = (
  omega (arith, before.0),
  before.1,
  λ k below apart. ⊎_elim (λ h. before.2 k h apart) (λ past. let e : at ≡ k = omega arith in subst (λ n. HoldsAt (IsFalseIn bounds) clause n) e here) (cases_lt k at),
)

pub seen_false : (bounds clause : List Lit) (at : ℕ) (left : Option ℕ) (lit same : Lit) → IsSeen bounds clause at left → at < length clause → lit ≡ get_or clause at lit → same ≡ get_or clause at same → (¬ IsIn bounds lit) → IsFalseIn bounds same → IsSeen bounds clause (at + 1) left
seen_false bounds clause at left lit same seen h is is_same not_true is_false = record {
  none_true = more_true bounds clause at left lit seen h is not_true;
  left_is = left_false bounds clause at left seen.left_is (at_any (IsFalseIn bounds) clause at same h is_same is_false);
}

pub seen_left : (bounds clause : List Lit) (at : ℕ) (left : Option ℕ) (lit same : Lit) → left ≡ None → IsSeen bounds clause at left → at < length clause → lit ≡ get_or clause at lit → same ≡ get_or clause at same → (¬ IsIn bounds lit) → (¬ IsFalseIn bounds same) → IsSeen bounds clause (at + 1) (Some at)
seen_left bounds clause at left lit same none seen h is is_same not_true open_ =
    let before : LeftIs bounds clause at None = subst (λ l. LeftIs bounds clause at l) none seen.left_is in
    record {
      none_true = more_true bounds clause at left lit seen h is not_true;
      left_is = (
        omega arith,
        at_any (λ l. ¬ IsFalseIn bounds l) clause at same h is_same open_,
        λ k below apart. before k (omega arith),
      );
    }

pub seen_broken : (bounds clause : List Lit) (at : ℕ) (left : Option ℕ) → left ≡ None → length clause ≤ at → IsSeen bounds clause at left → LeavesNone bounds clause
seen_broken bounds clause at left none all seen k d h =
    let before : LeftIs bounds clause at None = subst (λ l. LeftIs bounds clause at l) none seen.left_is in before k (omega arith) d

none_true_of : (bounds clause : List Lit) (at : ℕ) (left : Option ℕ) → length clause ≤ at → IsSeen bounds clause at left → ¬ HasTrue bounds clause
none_true_of bounds clause at left all seen some =
    seen.none_true some.0 (omega (arith, some.2)) some.1 (subst (IsIn bounds) (sym some.3) some.4)

pub leaves_one_at : (bounds clause : List Lit) (place : ℕ) (d : Lit) → place < length clause → (¬ IsFalseIn bounds (get_or clause place d)) → ((k : ℕ) → k < length clause → k ≢ place → HoldsAt (IsFalseIn bounds) clause k) → LeavesOne bounds clause (get_or clause place d)
leaves_one_at bounds clause place d h open_ others =
    let short = length-take-le place clause (omega arith) in
    record {
      before = take place clause;
      after = drop (place + 1) clause;
      split = sym (take-append-drop place clause) ∙ ap (λ rest. take place clause ++ rest) (drop_more clause place d h);
      before_false = λ k e within. let below : k < place = omega arith in rw (get_or-take place clause k e below) (others k (omega arith) (omega arith) e);
      after_false = λ k e within. rw (get_or-drop (place + 1) clause k e) (others (place + 1 + k) (omega (arith, length-drop (place + 1) clause)) (omega arith) e);
      left = open_;
    }

pub seen_implied : (bounds clause : List Lit) (at : ℕ) (left : Option ℕ) (place : ℕ) (lit : Lit) → left ≡ Some place → at ≡ length clause → IsSeen bounds clause at left → lit ≡ get_or clause place lit → IsImplied bounds clause lit
seen_implied bounds clause at left place lit e all seen is =
    let first : LeftIs bounds clause at (Some place) = subst (λ l. LeftIs bounds clause at l) e seen.left_is in
    let within : place < length clause = omega (arith, first.0) in
    record {
      one = subst (LeavesOne bounds clause) (sym is) (leaves_one_at bounds clause place lit within (first.1 lit) (λ k h apart. first.2 k (omega arith) apart));
      none_true = none_true_of bounds clause at left (omega arith) seen;
    }

pub seen_within : (bounds clause : List Lit) (at : ℕ) (left : Option ℕ) (place : ℕ) → left ≡ Some place → IsSeen bounds clause at left → place < at
seen_within bounds clause at left place e seen =
    let first : LeftIs bounds clause at (Some place) = subst (λ l. LeftIs bounds clause at l) e seen.left_is in first.0
