-- Marks that grow, and what they cover.
use Rattle.std.proofs.Common.{◌≡◌, ◌⊎◌, ℕ, suc, ◌+◌, ◌-◌, ◌<◌, ◌≤◌, List, ◌∷◌, length, get_or, set, replicate, Some, All, Any, refl, sym, ◌∙◌, subst, inl, inr, ⊎_elim, arith}
use Rattle.std.specs.Prelude.{ℤ, slice_get, Contains}
use Rattle.std.specs.List.{HoldsAt}
use Rattle.std.proofs.lemmas.Bool.{cases_lt, cases_eq}
use Rattle.std.proofs.lemmas.List.{get_or-set_same, get_or-set_other, get_or_past, get_or-replicate, length-set, length-replicate, get_or_default}
use Rattle.std.proofs.lemmas.List.Elements.{All-contains}
use Rattle.mix_system.specs.declared.literal.Lit.{Lit}
use Rattle.std.proofs.lemmas.Int.{ints}
use Rattle.mix_system.specs.declared.literal.Side.{Side}
use Rattle.mix_system.specs.declared.literal.Side.TheVariants.{Le, Ge}
use Rattle.mix_system.specs.Lit.{IsWithin, other_side, negated_bound, negation}
use Rattle.mix_system.specs.System.{IsInner}
use Rattle.mix_system.specs.Bounds.{Entails, IsIn, IsFalseIn, range_bounds}
use Rattle.mix_system.specs.Follows.{LeavesOne}
use Rattle.mix_system.proofs.AnyLaws.{Any-append_cases, Any-cons_cases, Any-from_contained, Any-with_all}
use Rattle.bound_trail.specs.Edges.{blank_lit}
use Rattle.bound_trail.specs.Trail.{Trail, box, box_with, IsCause, IsTrail}
use Rattle.bound_trail.proofs.EntailmentLaws.{entails_itself}
use Rattle.bound_trail.proofs.BoxLaws.{in_more, in_box, in_put, consistent_box}
use Rattle.clause_search.specs.Search.{Search}
use Rattle.clause_search.specs.Marks.{lit_at, mark_at, IsSeen, IsMarked, IsCovered, AreCovered, IsUsed, AreMarks, Keeps, IsNewlySeen, Grows, IsLowest, IsResolved, IsPoint, MarksCause, MarksCauses, Resolves, IsSearching, FindsPoint, ResolvesFrom}
use Rattle.clause_search.specs.declared.marks.Mark.{Mark}
use Rattle.clause_search.specs.declared.marks.Mark.TheVariants.{Clear, Seen, Used}

seen≢clear : Seen ≡ Clear → ⊥
seen≢clear e = cc

used≢clear : (number : ℕ) → Used number ≡ Clear → ⊥
used≢clear number e = cc

used≢seen : (number : ℕ) → Used number ≡ Seen → ⊥
used≢seen number e = cc

used_number : (m n : ℕ) → Used m ≡ Used n → m ≡ n
used_number m n e = cc

pub seen_is_marked : (marks : List Mark) (at : ℕ) → IsSeen marks at → IsMarked marks at
seen_is_marked marks at seen clear = seen≢clear (sym seen ∙ clear)

-- no mark stands past the end
pub marked_within : (marks : List Mark) (at : ℕ) → IsMarked marks at → at < length marks
marked_within marks at marked =
    ⊎_elim (λ h. h) (λ past. absurd (marked (get_or_past marks at Clear past))) (cases_lt at (length marks))

-- a number names one clause

pub some_same : {X : Type 0} (x y : X) → Some x ≡ Some y → x ≡ y
some_same x y e = cc

pub same_clause : (store : List (List Lit)) (at : ℕ) (one other : List Lit) → slice_get store at ≡ Some one → slice_get store at ≡ Some other → one ≡ other
same_clause store at one other e f = some_same one other (sym e ∙ f)

-- growing

pub grows_none : (Cause : ℕ → Type 0) (marks : List Mark) → Grows Cause marks marks
grows_none Cause marks = record { same_length = refl; each = λ at. inl refl }

pub grows_keeps : (Cause : ℕ → Type 0) (old new : List Mark) → Grows Cause old new → Keeps old new
grows_keeps Cause old new grows at marked clear =
    ⊎_elim (λ same. marked (sym same ∙ clear)) (λ newly. marked newly.was) (grows.each at)

pub grows_weaker : (Cause More : ℕ → Type 0) (old new : List Mark) → ((at : ℕ) → Cause at → More at) → Grows Cause old new → Grows More old new
grows_weaker Cause More old new weaker grows = record {
  same_length = grows.same_length;
  each = λ at. ⊎_elim (λ same. inl same) (λ newly. inr (record { was = newly.was; is = newly.is; cause = weaker at newly.cause })) (grows.each at);
}

pub grows_trans : (Cause : ℕ → Type 0) (old mid new : List Mark) → Grows Cause old mid → Grows Cause mid new → Grows Cause old new
grows_trans Cause old mid new one two = record {
  same_length = two.same_length ∙ one.same_length;
  each = λ at. ⊎_elim
      (λ same. ⊎_elim
      (λ before. inl (same ∙ before))
      (λ newly. inr (record { was = newly.was; is = same ∙ newly.is; cause = newly.cause }))
      (one.each at))
      (λ newly. ⊎_elim
      (λ before. inr (record { was = sym before ∙ newly.was; is = newly.is; cause = newly.cause }))
      (λ first. absurd (seen≢clear (sym first.is ∙ newly.was)))
      (one.each at))
      (two.each at);
}

-- a place that is marked as seen
pub grows_set : (Cause : ℕ → Type 0) (marks : List Mark) (place : ℕ) → place < length marks → mark_at marks place ≡ Clear → Cause place → Grows Cause marks (set marks place Seen)
grows_set Cause marks place h clear cause = record {
  same_length = length-set marks place Seen;
  each = λ at. ⊎_elim
      (λ e. inr (subst (IsNewlySeen Cause marks (set marks place Seen)) e (record { was = clear; is = get_or-set_same marks place Seen Clear h; cause = cause })))
      (λ apart. inl (get_or-set_other marks place at Seen Clear (λ e. apart (sym e))))
      (cases_eq place at);
}

-- what is covered stays so

pub covered_keeps : (trail : Trail) (old new : List Mark) (lit : Lit) → Keeps old new → IsCovered trail old lit → IsCovered trail new lit
covered_keeps trail old new lit keeps covered =
    ⊎_elim (λ range. inl range) (λ p. inr (p.0, keeps p.0 p.1, p.2)) covered

pub all_covered_keeps : (trail : Trail) (old new : List Mark) (clause : List Lit) → Keeps old new → AreCovered trail old clause → AreCovered trail new clause
all_covered_keeps trail old new clause keeps covered k d h is_false =
    covered_keeps trail old new (get_or clause k d) keeps (covered k d h is_false)

used_keeps : (state : Search) (old new : List Mark) (number at : ℕ) → Keeps old new → IsUsed state old number at → IsUsed state new number at
used_keeps state old new number at keeps used = record {
  clause = used.clause;
  among = used.among;
  implied = used.implied;
  covered = all_covered_keeps state.trail old new used.clause keeps used.covered;
}

-- bounds that are inner keep their negations inner where they make an inner literal false
inner_negated : (side : Side) (bound put : ℤ) → IsInner bound → IsInner put → IsWithin (other_side side) (negated_bound side bound) put → IsInner (negated_bound (other_side side) put)
inner_negated Le bound put inner own strong = record { above_least = omega (arith, ints, inner.above_least); below_greatest = omega (arith, ints, own.below_greatest) }
inner_negated Ge bound put inner own strong = record { above_least = omega (arith, ints, own.above_least); below_greatest = omega (arith, ints, inner.below_greatest) }

pub cause_inner : (trail : Trail) (lit : Lit) (at : ℕ) → IsTrail trail → IsInner lit.bound → IsCause trail lit at → IsInner (negation (lit_at trail at)).bound
cause_inner trail lit at ok inner is =
    let put = lit_at trail at in
    let e : Entails put (negation lit) = is.falsifies blank_lit in
    subst (λ side. IsInner (negated_bound side put.bound)) (sym e.same_side) (inner_negated lit.side lit.bound put.bound inner (ok.inner at blank_lit is.within) e.as_strong)

-- marks that grow stay marks
pub marks_grow : (state : Search) (Cause : ℕ → Type 0) (old new : List Mark) → IsTrail state.trail → ((at : ℕ) → Cause at → IsInner (negation (lit_at state.trail at)).bound) → Grows Cause old new → AreMarks state old → AreMarks state new
marks_grow state Cause old new ok inner grows are =
    let keeps = grows_keeps Cause old new grows in
    record {
      one_each = grows.same_length ∙ are.one_each;
      used = λ at number is. ⊎_elim
          (λ same. used_keeps state old new number at keeps (are.used at number (sym same ∙ is)))
          (λ newly. absurd (used≢seen number (sym is ∙ newly.is)))
          (grows.each at);
      inner = λ at marked. ⊎_elim
          (λ same. are.inner at (λ clear. marked (same ∙ clear)))
          (λ newly. inner at newly.cause)
          (grows.each at);
    }

-- the lowest place that is seen

pub lowest_same : (start lowest place : ℕ) (marks : List Mark) → place < length marks → place < start ⊎ lowest < place → IsLowest start lowest marks → IsLowest start lowest (set marks place Seen)
lowest_same start lowest place marks h beside low =
    let count = length-set marks place Seen in
    let other : (at : ℕ) → (place ≡ at → ⊥) → mark_at (set marks place Seen) at ≡ mark_at marks at =
    λ at apart. get_or-set_other marks place at Seen Clear (λ e. apart (sym e)) in
    record {
      above = low.above;
      within = omega (arith, low.within);
      none_below = λ at from below seen. low.none_below at from below
          (sym (other at (λ e. ⊎_elim (λ p. omega arith) (λ p. omega arith) beside)) ∙ seen);
      there = λ inside. other lowest (λ e. ⊎_elim (λ p. omega (arith, low.above)) (λ p. omega arith) beside) ∙ low.there (omega arith);
    }

pub lowest_set : (start lowest place : ℕ) (marks : List Mark) → place < length marks → start ≤ place → place ≤ lowest → IsLowest start lowest marks → IsLowest start place (set marks place Seen)
lowest_set start lowest place marks h from below low =
    let count = length-set marks place Seen in
    record {
      above = from;
      within = omega arith;
      none_below = λ at begin before seen. low.none_below at begin (omega arith)
          (sym (get_or-set_other marks place at Seen Clear (λ e. omega arith)) ∙ seen);
      there = λ inside. get_or-set_same marks place Seen Clear h;
    }

pub lowest_used : (start lowest place number : ℕ) (marks : List Mark) → place < length marks → (lowest ≡ place → ⊥) → IsLowest start lowest marks → IsLowest start lowest (set marks place (Used number))
lowest_used start lowest place number marks h apart low =
    let count = length-set marks place (Used number) in
    record {
      above = low.above;
      within = omega (arith, low.within);
      none_below = λ at from below seen. ⊎_elim
          (λ e. used≢seen number (sym (get_or-set_same marks place (Used number) Clear h) ∙ subst (λ n. IsSeen (set marks place (Used number)) n) (sym e) seen))
          (λ other. low.none_below at from below (sym (get_or-set_other marks place at (Used number) Clear (λ e. other (sym e))) ∙ seen))
          (cases_eq place at);
      there = λ inside. get_or-set_other marks place lowest (Used number) Clear apart ∙ low.there (omega arith);
    }

-- the last of all that are seen is the lowest of them
pub lowest_is_point : (start lowest : ℕ) (marks : List Mark) → lowest < length marks → IsLowest start lowest marks → ((at : ℕ) → lowest < at → ¬ IsSeen marks at) → IsPoint start lowest marks
lowest_is_point start lowest marks h low none = record {
  above = low.above;
  within = h;
  seen = low.there h;
  alone = λ at from seen. ⊎_elim
      (λ below. absurd (low.none_below at from below seen))
      (λ past. ⊎_elim (λ behind. absurd (none at behind seen)) (λ last. omega arith) (cases_lt lowest at))
      (cases_lt at lowest);
}

-- causes

-- what makes a literal false that was false before a place stands before the place
pub cause_before : (trail : Trail) (lit : Lit) (cause at : ℕ) → IsCause trail lit cause → IsFalseIn (box_with trail at) lit → cause < at
cause_before trail lit cause at is before =
    ⊎_elim (λ h. h) (λ past. absurd (is.first (in_more trail at cause (negation lit) past before))) (cases_lt cause at)

pub cause_is_false : (trail : Trail) (lit : Lit) (cause : ℕ) → IsCause trail lit cause → IsFalseIn (box trail) lit
cause_is_false trail lit cause is =
    in_box trail (suc cause) (negation lit) (in_put trail cause (negation lit) is.within is.falsifies)

-- a literal of the trail is true
pub trail_true : (trail : Trail) (at : ℕ) → at < length trail.lits → IsIn (box trail) (get_or trail.lits at blank_lit)
trail_true trail at h =
    let lit = get_or trail.lits at blank_lit in
    in_box trail (suc at) lit (in_put trail at lit h (λ d. subst (λ put. Entails put lit) (get_or_default trail.lits at blank_lit d h) (entails_itself lit)))

-- a false literal of a reason was false before what it implied
pub false_before : (trail : Trail) (clause : List Lit) (at : ℕ) → IsTrail trail → at < length trail.lits → HoldsAt (LeavesOne (box_with trail at) clause) trail.lits at → (lit : Lit) → Contains clause lit → IsFalseIn (box trail) lit → IsFalseIn (box_with trail at) lit
false_before trail clause at ok h implied lit within is_false =
    let one = implied blank_lit in
    let put = get_or trail.lits at blank_lit in
    let same : Any (λ other. other ≡ lit) clause = Any-from_contained (λ other. other ≡ lit) clause lit within refl in
    let from_all : (xs : List Lit) → All (IsFalseIn (box_with trail at)) xs → Any (λ other. other ≡ lit) xs → IsFalseIn (box_with trail at) lit =
    λ xs all any. let found = Any-with_all (IsFalseIn (box_with trail at)) (λ other. other ≡ lit) xs all any in
    subst (IsFalseIn (box_with trail at)) found.2 found.1 in
    ⊎_elim
    (λ before. from_all one.before one.before_false before)
    (λ rest. ⊎_elim
    (λ here. absurd (consistent_box trail ok put (trail_true trail at h) (subst (IsFalseIn (box trail)) (sym here) is_false)))
    (λ after. from_all one.after one.after_false after)
    (Any-cons_cases (λ other. other ≡ lit) put one.after rest))
    (Any-append_cases (λ other. other ≡ lit) one.before (put ∷ one.after) (subst (Any (λ other. other ≡ lit)) one.split same))

-- a place is given up

pub resolves : (state : Search) (number at : ℕ) (clause : List Lit) (old new : List Mark) → IsTrail state.trail → All (λ lit. IsInner lit.bound) clause → IsMarked old at → at < length old → slice_get state.store number ≡ Some clause → HoldsAt (LeavesOne (box_with state.trail at) clause) state.trail.lits at → AreMarks state old → Grows (λ k. Any (λ lit. IsCause state.trail lit k) clause) (set old at (Used number)) new → AreCovered state.trail new clause → AreMarks state new × IsResolved at old new
resolves state number at clause old new ok inner marked_here h among implied are grows covered =
    let trail = state.trail in
    let Cause : ℕ → Type 0 = λ k. Any (λ lit. IsCause trail lit k) clause in
    let mid = set old at (Used number) in
    let inside : at < length trail.lits = omega (arith, are.one_each) in
    let here : mark_at mid at ≡ Used number = get_or-set_same old at (Used number) Clear h in
    let other : (k : ℕ) → (at ≡ k → ⊥) → mark_at mid k ≡ mark_at old k = λ k apart. get_or-set_other old at k (Used number) Clear (λ e. apart (sym e)) in
    let first : Keeps old mid = λ k marked. ⊎_elim
    (λ e clear. used≢clear number (sym here ∙ subst (λ n. mark_at mid n ≡ Clear) (sym e) clear))
    (λ apart clear. marked (sym (other k apart) ∙ clear))
    (cases_eq at k) in
    let keeps : Keeps old new = λ k marked. grows_keeps Cause mid new grows k (first k marked) in
    let caused : (k : ℕ) → Cause k → k < at = λ k any.
    let lit = any.1 in
    let is : IsCause trail lit k = any.4 in
    cause_before trail lit k at is (false_before trail clause at ok inside implied lit (any.0, any.2, any.3) (cause_is_false trail lit k is)) in
    let new_here : mark_at new at ≡ Used number = ⊎_elim (λ same. same ∙ here) (λ newly. absurd (used≢clear number (sym here ∙ newly.was))) (grows.each at) in
    let used : (k n : ℕ) → mark_at new k ≡ Used n → IsUsed state new n k = λ k n is. ⊎_elim
    (λ e. let same : n ≡ number = used_number n number (sym is ∙ subst (λ m. mark_at new m ≡ Used number) e new_here) in
    subst (λ m. IsUsed state new m k) (sym same) (subst (λ m. IsUsed state new number m) e (record { clause = clause; among = among; implied = implied; covered = covered })))
    (λ apart. ⊎_elim
    (λ same. used_keeps state old new n k keeps (are.used k n (sym (other k apart) ∙ sym same ∙ is)))
    (λ newly. absurd (used≢seen n (sym is ∙ newly.is)))
    (grows.each k))
    (cases_eq at k) in
    let inner_each : (k : ℕ) → IsMarked new k → IsInner (negation (lit_at trail k)).bound = λ k marked. ⊎_elim
    (λ e. are.inner k (subst (IsMarked old) e marked_here))
    (λ apart. ⊎_elim
    (λ same. are.inner k (λ clear. marked (same ∙ other k apart ∙ clear)))
    (λ newly. let any = newly.cause in cause_inner trail any.1 k ok (All-contains (λ lit. IsInner lit.bound) clause any.1 inner (any.0, any.2, any.3)) any.4)
    (grows.each k))
    (cases_eq at k) in (
      record { one_each = grows.same_length ∙ length-set old at (Used number) ∙ are.one_each; used = used; inner = inner_each },
      record {
        same_length = grows.same_length ∙ length-set old at (Used number);
        keeps = keeps;
        given_up = λ seen. used≢seen number (sym new_here ∙ seen);
        behind = λ k behind. ⊎_elim
            (λ same. same ∙ other k (λ e. omega arith))
            (λ newly. let below = caused k newly.cause in absurd (omega arith))
            (grows.each k);
      },
    )

-- the cause of one literal

pub cause_none : (trail : Trail) (lit : Lit) (start lowest : ℕ) (marks : List Mark) → IsFalseIn (range_bounds trail.ranges) lit → IsLowest start lowest marks → MarksCause trail lit start lowest marks marks
cause_none trail lit start lowest marks range low = record {
  grows = grows_none (IsCause trail lit) marks;
  covered = inl range;
  is_lowest = low;
}

pub cause_again : (trail : Trail) (lit : Lit) (start lowest place : ℕ) (marks : List Mark) → IsCause trail lit place → IsMarked marks place → IsLowest start lowest marks → MarksCause trail lit start lowest marks marks
cause_again trail lit start lowest place marks cause marked low = record {
  grows = grows_none (IsCause trail lit) marks;
  covered = inr (place, marked, cause);
  is_lowest = low;
}

now_marked : (marks : List Mark) (place : ℕ) → place < length marks → IsMarked (set marks place Seen) place
now_marked marks place h clear = seen≢clear (sym (get_or-set_same marks place Seen Clear h) ∙ clear)

pub cause_beside : (trail : Trail) (lit : Lit) (start lowest place : ℕ) (marks : List Mark) → IsCause trail lit place → place < length marks → mark_at marks place ≡ Clear → place < start ⊎ lowest < place → IsLowest start lowest marks → MarksCause trail lit start lowest marks (set marks place Seen)
cause_beside trail lit start lowest place marks cause h clear beside low = record {
  grows = grows_set (IsCause trail lit) marks place h clear cause;
  covered = inr (place, now_marked marks place h, cause);
  is_lowest = lowest_same start lowest place marks h beside low;
}

pub cause_lowest : (trail : Trail) (lit : Lit) (start lowest place : ℕ) (marks : List Mark) → IsCause trail lit place → place < length marks → mark_at marks place ≡ Clear → start ≤ place → place ≤ lowest → IsLowest start lowest marks → MarksCause trail lit start place marks (set marks place Seen)
cause_lowest trail lit start lowest place marks cause h clear from below low = record {
  grows = grows_set (IsCause trail lit) marks place h clear cause;
  covered = inr (place, now_marked marks place h, cause);
  is_lowest = lowest_set start lowest place marks h from below low;
}

-- the causes of a clause

abbrev CauseOf : Trail → List Lit → ℕ → Type 0
CauseOf trail clause at = Any (λ lit. IsCause trail lit at) clause

pub causes_none : (trail : Trail) (clause : List Lit) (start lowest : ℕ) (marks : List Mark) → IsLowest start lowest marks → MarksCauses trail clause 0 start lowest marks marks
causes_none trail clause start lowest marks low = record {
  grows = grows_none (CauseOf trail clause) marks;
  covered = λ k h. absurd (omega arith);
  is_lowest = low;
}

covered_more : (trail : Trail) (clause : List Lit) (count : ℕ) (mid new : List Mark) → Keeps mid new → ((k : ℕ) → k < count → HoldsAt (λ lit. IsFalseIn (box trail) lit → IsCovered trail mid lit) clause k) → HoldsAt (λ lit. IsFalseIn (box trail) lit → IsCovered trail new lit) clause count → (k : ℕ) → k < count + 1 → HoldsAt (λ lit. IsFalseIn (box trail) lit → IsCovered trail new lit) clause k
covered_more trail clause count mid new keeps before here k h =
    ⊎_elim
    (λ below d is_false. covered_keeps trail mid new (get_or clause k d) keeps (before k below d is_false))
    (λ past. let e : count ≡ k = omega arith in subst (λ n. HoldsAt (λ lit. IsFalseIn (box trail) lit → IsCovered trail new lit) clause n) e here)
    (cases_lt k count)

-- a literal that isn't false
pub causes_skip : (trail : Trail) (clause : List Lit) (count start lowest : ℕ) (old new : List Mark) (lit : Lit) → count < length clause → lit ≡ get_or clause count lit → (¬ IsFalseIn (box trail) lit) → MarksCauses trail clause count start lowest old new → MarksCauses trail clause (count + 1) start lowest old new
causes_skip trail clause count start lowest old new lit h is left so = record {
  grows = so.grows;
  covered = covered_more trail clause count new new (λ at marked. marked) so.covered
      (λ d is_false. absurd (left (subst (IsFalseIn (box trail)) (sym (is ∙ get_or_default clause count lit d h)) is_false)));
  is_lowest = so.is_lowest;
}

-- one that is
pub causes_more : (trail : Trail) (clause : List Lit) (count start lowest lower : ℕ) (old mid new : List Mark) (lit : Lit) → count < length clause → lit ≡ get_or clause count lit → MarksCause trail lit start lower mid new → MarksCauses trail clause count start lowest old mid → MarksCauses trail clause (count + 1) start lower old new
causes_more trail clause count start lowest lower old mid new lit h is one so =
    let among : (at : ℕ) → IsCause trail lit at → CauseOf trail clause at = λ at cause. (count, lit, h, sym is, cause) in
    let grows = grows_weaker (IsCause trail lit) (CauseOf trail clause) mid new among one.grows in
    record {
      grows = grows_trans (CauseOf trail clause) old mid new so.grows grows;
      covered = covered_more trail clause count mid new (grows_keeps (CauseOf trail clause) mid new grows) so.covered
          (λ d is_false. subst (IsCovered trail new) (is ∙ get_or_default clause count lit d h) one.covered);
      is_lowest = one.is_lowest;
    }

pub causes_end : (trail : Trail) (clause : List Lit) (count start lowest : ℕ) (old new : List Mark) → length clause ≤ count → MarksCauses trail clause count start lowest old new → MarksCauses trail clause (length clause) start lowest old new
causes_end trail clause count start lowest old new all so = record {
  grows = so.grows;
  covered = λ k h. so.covered k (omega arith);
  is_lowest = so.is_lowest;
}

-- giving up

pub resolve_one : (state : Search) (at number start lowest lower : ℕ) (clause : List Lit) (old new : List Mark) → IsTrail state.trail → All (λ lit. IsInner lit.bound) clause → IsSeen old at → at < length old → slice_get state.store number ≡ Some clause → HoldsAt (LeavesOne (box_with state.trail at) clause) state.trail.lits at → AreMarks state old → MarksCauses state.trail clause (length clause) start lower (set old at (Used number)) new → Resolves state at start lower old new
resolve_one state at number start lowest lower clause old new ok inner seen h among implied are causes =
    let done = resolves state number at clause old new ok inner (seen_is_marked old at seen) h among implied are causes.grows (λ k d g is_false. causes.covered k g d is_false) in
    record { marks = done.0; resolved = done.1; is_lowest = causes.is_lowest }

-- to the point

cases_from : (at k : ℕ) → (at ≤ k) ⊎ (k < at)
cases_from at k = ⊎_elim (λ below. inr below) (λ past. inl past) (cases_lt k at)

pub searching_first : (state : Search) (start lowest : ℕ) (marks : List Mark) → AreMarks state marks → IsLowest start lowest marks → lowest < length marks → IsSearching state start lowest (length marks) marks marks
searching_first state start lowest marks are low h = record {
  marks = are;
  same_length = refl;
  keeps = λ at marked. marked;
  is_lowest = low;
  below = h;
  within = omega arith;
  none_from = λ k past seen. seen_is_marked marks k seen (get_or_past marks k Clear past);
}

pub searching_skip : (state : Search) (start lowest at : ℕ) (old new : List Mark) → lowest + 1 < at → (¬ IsSeen new (at - 1)) → IsSearching state start lowest at old new → IsSearching state start lowest (at - 1) old new
searching_skip state start lowest at old new h not_seen so = record {
  marks = so.marks;
  same_length = so.same_length;
  keeps = so.keeps;
  is_lowest = so.is_lowest;
  below = omega arith;
  within = omega (arith, so.within);
  none_from = λ k from seen. ⊎_elim
      (λ past. so.none_from k past seen)
      (λ below. let e : k ≡ at - 1 = omega arith in not_seen (subst (IsSeen new) e seen))
      (cases_from at k);
}

pub searching_resolved : (state : Search) (start lowest lower at : ℕ) (old mid new : List Mark) → lowest + 1 < at → lower ≤ lowest → Resolves state (at - 1) start lower mid new → IsSearching state start lowest at old mid → IsSearching state start lower (at - 1) old new
searching_resolved state start lowest lower at old mid new h falls done so = record {
  marks = done.marks;
  same_length = done.resolved.same_length ∙ so.same_length;
  keeps = λ k marked. done.resolved.keeps k (so.keeps k marked);
  is_lowest = done.is_lowest;
  below = omega arith;
  within = omega (arith, so.within, done.resolved.same_length);
  none_from = λ k from seen. ⊎_elim
      (λ past. so.none_from k past (sym (done.resolved.behind k (omega arith)) ∙ seen))
      (λ below. let e : k ≡ at - 1 = omega arith in done.resolved.given_up (subst (IsSeen new) e seen))
      (cases_from at k);
}

pub searching_ends : (state : Search) (start lowest at : ℕ) (old new : List Mark) → at ≤ lowest + 1 → IsSearching state start lowest at old new → FindsPoint state start lowest old new
searching_ends state start lowest at old new h so = record {
  marks = so.marks;
  keeps = so.keeps;
  is_point = lowest_is_point start lowest new (omega (arith, so.below, so.within)) so.is_lowest (λ k behind seen. so.none_from k (omega arith) seen);
}

-- the places below a base

pub below_first : (state : Search) (base : ℕ) (marks : List Mark) → AreMarks state marks → ResolvesFrom state base base marks marks
below_first state base marks are = record {
  marks = are;
  same_length = refl;
  keeps = λ at marked. marked;
  none = λ at from under. absurd (omega arith);
  above = λ at from. refl;
}

pub below_skip : (state : Search) (from base : ℕ) (old new : List Mark) → 0 < from → (¬ IsSeen new (from - 1)) → ResolvesFrom state from base old new → ResolvesFrom state (from - 1) base old new
below_skip state from base old new some not_seen so = record {
  marks = so.marks;
  same_length = so.same_length;
  keeps = so.keeps;
  none = λ at under h seen. ⊎_elim
      (λ past. so.none at past h seen)
      (λ below. let e : at ≡ from - 1 = omega arith in not_seen (subst (IsSeen new) e seen))
      (cases_from from at);
  above = so.above;
}

pub below_resolved : (state : Search) (from base start lowest : ℕ) (old mid new : List Mark) → 0 < from → from ≤ base → Resolves state (from - 1) start lowest mid new → ResolvesFrom state from base old mid → ResolvesFrom state (from - 1) base old new
below_resolved state from base start lowest old mid new some within done so = record {
  marks = done.marks;
  same_length = done.resolved.same_length ∙ so.same_length;
  keeps = λ k marked. done.resolved.keeps k (so.keeps k marked);
  none = λ at under h seen. ⊎_elim
      (λ past. so.none at past h (sym (done.resolved.behind at (omega arith)) ∙ seen))
      (λ below. let e : at ≡ from - 1 = omega arith in done.resolved.given_up (subst (IsSeen new) e seen))
      (cases_from from at);
  above = λ at h. done.resolved.behind at (omega arith) ∙ so.above at h;
}

-- none is the lowest where no place is seen
pub lowest_none : (start : ℕ) (marks : List Mark) → start ≤ length marks → ((at : ℕ) → mark_at marks at ≡ Clear) → IsLowest start (length marks) marks
lowest_none start marks h clear = record {
  above = h;
  within = omega arith;
  none_below = λ at from below seen. seen_is_marked marks at seen (clear at);
  there = λ inside. absurd (omega arith);
}

-- the lowest from the trail's end on
pub lowest_at_end : (marks : List Mark) → IsLowest (length marks) (length marks) marks
lowest_at_end marks = record {
  above = omega arith;
  within = omega arith;
  none_below = λ at from below seen. omega arith;
  there = λ inside. absurd (omega arith);
}

-- nothing is marked
pub marks_none : (state : Search) (marks : List Mark) → length marks ≡ length state.trail.lits → ((at : ℕ) → mark_at marks at ≡ Clear) → AreMarks state marks
marks_none state marks count clear = record {
  one_each = count;
  used = λ at number is. absurd (used≢clear number (sym is ∙ clear at));
  inner = λ at marked. absurd (marked (clear at));
}

pub all_clear : (count at : ℕ) → mark_at (replicate count Clear) at ≡ Clear
all_clear count at =
    ⊎_elim
    (λ h. get_or-replicate count at Clear Clear h)
    (λ past. get_or_past (replicate count Clear) at Clear (omega (arith, length-replicate count Clear)))
    (cases_lt at count)

-- a mark that was read at some default
pub mark_read : (marks : List Mark) (at : ℕ) (mark d : Mark) → at < length marks → get_or marks at d ≡ mark → mark_at marks at ≡ mark
mark_read marks at mark d h e = get_or_default marks at Clear d h ∙ e

-- no level begins behind the last one, or before the first
pub not_level_behind : (levels : List ℕ) (start at : ℕ) → All (λ place. place ≤ start) levels → start < at → ¬ Contains levels at
not_level_behind levels start at all h among =
    let r = All-contains (λ place. place ≤ start) levels at all among in omega (arith, r)

pub not_level_before : (levels : List ℕ) (base at : ℕ) → All (λ place. base ≤ place) levels → at < base → ¬ Contains levels at
not_level_before levels base at all h among =
    let r = All-contains (λ place. base ≤ place) levels at all among in omega (arith, r)

-- what is marked is seen or used
pub seen_or_used : (mark : Mark) → ¬ (mark ≡ Clear) → ((number : ℕ) → mark ≡ Used number → ⊥) → mark ≡ Seen
seen_or_used Clear marked used = absurd (marked refl)
seen_or_used Seen marked used = refl
seen_or_used (Used number) marked used = absurd (used number refl)
