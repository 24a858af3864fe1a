-- The two greatest of the levels at which literals became false, literal by literal.
use Rattle.std.proofs.Common.{◌≡◌, ℕ, ◌+◌, ◌<◌, ◌≤◌, List, length, get_or, subst, ⊎_elim, arith}
use Rattle.std.specs.List.{HoldsAt}
use Rattle.std.proofs.lemmas.Bool.{cases_lt}
use Rattle.mix_system.specs.declared.literal.Lit.{Lit}
use Rattle.mix_system.specs.Lit.{negation}
use Rattle.mix_system.specs.Bounds.{IsFalseIn}
use Rattle.bound_trail.specs.Edges.{blank_lit}
use Rattle.bound_trail.specs.Trail.{Trail, box_at, level_end, BecameFalse, IsTrail}
use Rattle.bound_trail.proofs.BoxLaws.{in_more}
use Rattle.clause_search.specs.Search.{Search}
use Rattle.clause_search.specs.Settled.{IsLeftAt}
use Rattle.clause_search.proofs.LearntLaws.{ends_rise}
use Rattle.level_theories.specs.declared.latest.Latest.{Latest}
use Rattle.level_theories.specs.Latest.{LeavesOneOf, LeavesTwoOf, AreLatest}
use Rattle.level_theories.specs.Theory.{IsBackLevel}

module _ (trail : Trail) (lits : List Lit) (ok : IsTrail trail) (at level : ℕ) (inside : at < length lits) (became : HoldsAt (λ lit. BecameFalse trail lit level) lits at) where
  -- the literal at the place isn't false below the level, and is from it on
  left_below : (lower : ℕ) → lower < level → IsLeftAt (box_at trail lower) lits at
  left_below lower below = record { within = inside; left = λ d. (became d).before lower below }

  false_from : (later : ℕ) → level ≤ later → HoldsAt (IsFalseIn (box_at trail later)) lits at
  false_from later h d = in_more trail (level_end trail level) (level_end trail later) (negation (get_or lits at d)) (ends_rise trail level later ok h) (became d).there

  false_up_to : (later k : ℕ) → level ≤ later → k < at + 1 → ((k < at) → HoldsAt (IsFalseIn (box_at trail later)) lits k) → HoldsAt (IsFalseIn (box_at trail later)) lits k
  false_up_to later k h below earlier =
      ⊎_elim (λ before. earlier before)
      (λ past. let last : at ≡ k = omega arith in subst (HoldsAt (IsFalseIn (box_at trail later)) lits) last (false_from later h))
      (cases_lt k at)

  -- two that are left stand before the place, where the literal there is false
  two_before : (later : ℕ) → level ≤ later → LeavesTwoOf (box_at trail later) lits (at + 1) → LeavesTwoOf (box_at trail later) lits at
  two_before later h two = record {
    two = two.two;
    below = ⊎_elim (λ before. before)
        (λ past. let last : at ≡ two.two.second = omega (arith, two.below) in
        absurd (two.two.other.left blank_lit (subst (λ k. HoldsAt (IsFalseIn (box_at trail later)) lits k) last (false_from later h) blank_lit)))
        (cases_lt two.two.second at);
  }

  module _ (latest : Latest) (are : AreLatest trail lits at latest) where
    one_more : (lower : ℕ) → lower < latest.first → LeavesOneOf (box_at trail lower) lits (at + 1)
    one_more lower below = let one = are.one lower below in record { at = one.at; below = omega (arith, one.below); left = one.left }

    both : (lower : ℕ) → lower < latest.first → lower < level → LeavesTwoOf (box_at trail lower) lits (at + 1)
    both lower first own =
        let one = are.one lower first in
        record {
          two = record { first = one.at; second = at; apart = one.below; one = one.left; other = left_below lower own };
          below = omega arith;
        }

    pub with_first : latest.first < level → AreLatest trail lits (at + 1) (record { first = level; second = latest.first })
    with_first greater = record {
      ordered = omega (arith, greater);
      present = (became blank_lit).present;
      one = λ lower below. record { at = at; below = omega arith; left = left_below lower below };
      two = λ lower below. both lower below (omega (arith, greater));
      none_left = λ later k from below. false_up_to later k from below (λ before. are.none_left later k (omega (arith, greater)) before);
      most = λ later from two. let first_below : two.two.first < at = omega (arith, two.two.apart, two.below) in
          two.two.one.left blank_lit (are.none_left later two.two.first from first_below blank_lit);
    }

    pub with_second : latest.second < level → level ≤ latest.first → AreLatest trail lits (at + 1) (record { first = latest.first; second = level })
    with_second greater within = record {
      ordered = within;
      present = are.present;
      one = one_more;
      two = λ lower below. both lower (omega (arith, within)) below;
      none_left = λ later k from below. false_up_to later k (omega (arith, within)) below (λ before. are.none_left later k from before);
      most = λ later from two. are.most later (omega (arith, greater)) (two_before later from two);
    }

    pub with_neither : level ≤ latest.second → AreLatest trail lits (at + 1) latest
    with_neither within = record {
      ordered = are.ordered;
      present = are.present;
      one = one_more;
      two = λ lower below. let old = are.two lower below in record { two = old.two; below = omega (arith, old.below) };
      none_left = λ later k from below. false_up_to later k (omega (arith, within, are.ordered)) below (λ before. are.none_left later k from before);
      most = λ later from two. are.most later from (two_before later (omega (arith, within)) two);
    }

pub latest_none : (trail : Trail) (lits : List Lit) → AreLatest trail lits 0 (record { first = 0; second = 0 })
latest_none trail lits = record {
  ordered = omega arith;
  present = omega arith;
  one = λ lower below. absurd (omega arith);
  two = λ lower below. absurd (omega arith);
  none_left = λ later k from below. absurd (omega arith);
  most = λ later from two. absurd (omega (arith, two.below));
}

pub latest_is_back : (state : Search) (lits : List Lit) (latest : Latest) → AreLatest state.trail lits (length lits) latest → IsBackLevel state lits latest.second
latest_is_back state lits latest are = record {
  present = omega (arith, are.ordered, are.present);
  below = λ lower h. (are.two lower h).two;
  there = λ two. are.most latest.second (omega arith) (record { two = two; below = two.other.within });
}
