-- What bounds leave of a clause, and how hints propagate over them.
use Rattle.std.proofs.Common.{◌≡◌, ◌≢◌, ◌⊎◌, ◌↔◌, ◌+◌, ◌<◌, ◌≤◌, ℕ, true, List, [], ◌∷◌, ◌++◌, length, take, drop, get_or, Option, Some, None, refl, sym, ◌∙◌, ap, subst, inl, inr, ⊎_elim, append_assoc, arith, All}
use Rattle.std.specs.Option.{is_some}
use Rattle.std.proofs.lemmas.Bool.{true≢false}
use Rattle.std.proofs.lemmas.List.{take_more, drop_more, take-append-drop, take_all, drop_all}
use Rattle.std.proofs.lemmas.List.Elements.{All-nil, All-cons, All-head, All-tail, All-more, All-push, All-weaker, All-same}
use Rattle.mix_system.specs.declared.literal.Term.{Term}
use Rattle.mix_system.specs.declared.literal.Term.TheVariants.{Var, Row}
use Rattle.mix_system.specs.declared.literal.Lit.{Lit}
use Rattle.mix_system.specs.Lit.{negation}
use Rattle.mix_system.specs.Bounds.{Entails, IsIn, IsFalseIn}
use Rattle.mix_system.specs.Follows.{Known, LeavesNone, LeavesOne, Propagates}
use Rattle.mix_system.proofs.BoundLaws.{IsIn-cons_cases, IsIn-first, IsIn-there}
use Rattle.box_check.specs.declared.bounds.Bounds.{Bounds}
use Rattle.box_check.specs.declared.hints.Open.{Open}
use Rattle.box_check.specs.declared.hints.Open.TheVariants.{Nothing, One, More}
use Rattle.box_check.specs.Bounds.{SaysEverywhere, SaysHere, Says, HasSlot, Stands, StandsEverywhere, Extends, IsSame, Tightens, TightensEverywhere, StaysHere}
use Rattle.box_check.proofs.BoundsLaws.{Extends-length, Extends_refl, Extends_more, same_extends}
use Rattle.box_check.specs.Hints.{IsFalse, HasOneOpen, HasTwoOpen, IsFound, IsLeft}

All_left : {X : Type 0} (P : X → Type 0) (xs ys : List X) → All P (xs ++ ys) → All P xs
All_left P [] ys all = All-nil P
All_left P (x ∷ xs) ys all = All-cons P x xs (All-head P x (xs ++ ys) all) (All_left P xs ys (All-tail P x (xs ++ ys) all))

All_right : {X : Type 0} (P : X → Type 0) (xs ys : List X) → All P (xs ++ ys) → All P ys
All_right P [] ys all = all
All_right P (x ∷ xs) ys all = All_right P xs ys (All-tail P x (xs ++ ys) all)

-- the literals so far

module _ (bounds : Bounds) (clause : List Lit) (i : ℕ) (d : Lit) (within : i < length clause) where
  pub found_false : (found : Option Lit) → IsFound bounds (take i clause) found → IsFalse bounds (get_or clause i d) → IsFound bounds (take (i + 1) clause) found
  found_false None h here = All-more (IsFalse bounds) clause i d within h here
  found_false (Some lit) h here = record {
    before = h.before;
    after = h.after ++ get_or clause i d ∷ [];
    split = take_more clause i d within ∙ ap (λ (front : List Lit). front ++ get_or clause i d ∷ []) h.split ∙ append_assoc h.before (lit ∷ h.after) (get_or clause i d ∷ []);
    before_false = h.before_false;
    after_false = All-push (IsFalse bounds) h.after (get_or clause i d) h.after_false here;
    left = h.left;
  }

  pub found_open : IsFound bounds (take i clause) None → (IsFalse bounds (get_or clause i d) → ⊥) → IsFound bounds (take (i + 1) clause) (Some (get_or clause i d))
  found_open h open' = record {
    before = take i clause;
    after = [];
    split = take_more clause i d within;
    before_false = h;
    after_false = All-nil (IsFalse bounds);
    left = open';
  }

  pub found_two : (lit : Lit) → IsFound bounds (take i clause) (Some lit) → (IsFalse bounds (get_or clause i d) → ⊥) → HasTwoOpen bounds clause
  found_two lit h open' = record {
    first = lit;
    second = get_or clause i d;
    before = h.before;
    middle = h.after;
    after = drop (i + 1) clause;
    split = sym (take-append-drop i clause) ∙ ap (λ (rest : List Lit). take i clause ++ rest) (drop_more clause i d within) ∙ ap (λ (front : List Lit). front ++ get_or clause i d ∷ drop (i + 1) clause) h.split;
    first_left = h.left;
    second_left = open';
  }

module _ (bounds : Bounds) (clause : List Lit) (i : ℕ) where
  pub found_two_some : (d : Lit) → i < length clause → (found : Option Lit) → true ≡ is_some found → IsFound bounds (take i clause) found → (IsFalse bounds (get_or clause i d) → ⊥) → HasTwoOpen bounds clause
  found_two_some d within None some h open' = absurd (true≢false some)
  found_two_some d within (Some lit) some h open' = found_two bounds clause i d within lit h open'

  pub found_none : (found : Option Lit) → found ≡ None → length clause ≤ i → IsFound bounds (take i clause) found → All (IsFalse bounds) clause
  found_none None e past h = All-same (IsFalse bounds) clause (take i clause) (sym (take_all i clause past)) h
  found_none (Some lit) e past h = absurd (cc e)

-- what holds of each literal of a clause holds of the one that is left
pub open_one_is : (P : Lit → Type 0) (bounds : Bounds) (clause : List Lit) (lit : Lit) → IsLeft bounds clause (One lit) → All P clause → P lit
open_one_is P bounds clause lit h all =
    let parts : All P (h.before ++ lit ∷ h.after) = rw (← h.split) all in
    All-head P lit h.after (All_right P h.before (lit ∷ h.after) parts)

-- only one literal can be left

module _ (F : Lit → Type 0) where
  one_left : (before later after rest : List Lit) (lit other : Lit) → before ++ lit ∷ after ≡ later ++ other ∷ rest → All F before → All F later → ¬ F lit → ¬ F other → lit ≡ other
  one_left [] [] after rest lit other e f g lit_left other_left = cc e
  one_left [] (x ∷ later) after rest lit other e f g lit_left other_left = let same : lit ≡ x = cc e in absurd (lit_left (rw same (All-head F x later g)))
  one_left (x ∷ before) [] after rest lit other e f g lit_left other_left = let same : other ≡ x = cc e in absurd (other_left (rw same (All-head F x before f)))
  one_left (x ∷ before) (y ∷ later) after rest lit other e f g lit_left other_left =
      let tails : before ++ lit ∷ after ≡ later ++ other ∷ rest = cc e in
      one_left before later after rest lit other tails (All-tail F x before f) (All-tail F y later g) lit_left other_left

  not_two : (front later after rest : List Lit) (first second other : Lit) (middle : List Lit) → front ++ first ∷ (middle ++ second ∷ after) ≡ later ++ other ∷ rest → ¬ F first → ¬ F second → All F later → All F rest → ⊥
  not_two [] [] after rest first second other middle e first_left second_left f g =
      let tails : middle ++ second ∷ after ≡ rest = cc e in
      second_left (All-head F second after (All_right F middle (second ∷ after) (rw tails g)))
  not_two [] (x ∷ later) after rest first second other middle e first_left second_left f g =
      let same : first ≡ x = cc e in first_left (rw same (All-head F x later f))
  not_two (x ∷ front) [] after rest first second other middle e first_left second_left f g =
      let tails : front ++ first ∷ (middle ++ second ∷ after) ≡ rest = cc e in
      first_left (All-head F first (middle ++ second ∷ after) (All_right F front (first ∷ (middle ++ second ∷ after)) (rw tails g)))
  not_two (x ∷ front) (y ∷ later) after rest first second other middle e first_left second_left f g =
      let tails : front ++ first ∷ (middle ++ second ∷ after) ≡ later ++ other ∷ rest = cc e in
      not_two front later after rest first second other middle tails first_left second_left (All-tail F y later f) g

-- what bounds say of a clause is what a box says of it for which they stand

module _ (bounds : Bounds) (box clause : List Lit) (stands : Stands bounds box) (slots : All (λ lit. HasSlot bounds lit.term) clause) where
  pub LeavesNone-from : All (IsFalse bounds) clause → LeavesNone box clause
  LeavesNone-from all k d within = (stands (negation (get_or clause k d)) (slots k d within)).0 (all k d within)

  false_parts : LeavesNone box clause → All (IsFalse bounds) clause
  false_parts all k d within = (stands (negation (get_or clause k d)) (slots k d within)).1 (all k d within)

  LeavesOne-from : (lit : Lit) → HasOneOpen bounds clause lit → LeavesOne box clause lit
  LeavesOne-from lit h =
      let P : Lit → Type 0 = λ l. HasSlot bounds l.term in
      let parts : All P (h.before ++ lit ∷ h.after) = rw (← h.split) slots in
      let behind = All_right P h.before (lit ∷ h.after) parts in record {
        before = h.before;
        after = h.after;
        split = h.split;
        before_false = λ k d within. (stands (negation (get_or h.before k d)) (All_left P h.before (lit ∷ h.after) parts k d within)).0 (h.before_false k d within);
        after_false = λ k d within. (stands (negation (get_or h.after k d)) (All-tail P lit h.after behind k d within)).0 (h.after_false k d within);
        left = λ f. h.left ((stands (negation lit) (All-head P lit h.after behind)).1 f);
      }

  two_split : (h : HasTwoOpen bounds clause) → clause ≡ h.before ++ h.first ∷ (h.middle ++ h.second ∷ h.after)
  two_split h = h.split ∙ append_assoc h.before (h.first ∷ h.middle) (h.second ∷ h.after)

  two_left : (h : HasTwoOpen bounds clause) → (¬ IsFalseIn box h.first) × (¬ IsFalseIn box h.second)
  two_left h =
      let P : Lit → Type 0 = λ l. HasSlot bounds l.term in
      let parts : All P (h.before ++ h.first ∷ (h.middle ++ h.second ∷ h.after)) = rw (← two_split h) slots in
      let behind = All_right P h.before (h.first ∷ (h.middle ++ h.second ∷ h.after)) parts in
      let last = All_right P h.middle (h.second ∷ h.after) (All-tail P h.first (h.middle ++ h.second ∷ h.after) behind) in (
        λ f. h.first_left ((stands (negation h.first) (All-head P h.first (h.middle ++ h.second ∷ h.after) behind)).1 f),
        λ f. h.second_left ((stands (negation h.second) (All-head P h.second h.after last)).1 f),
      )

  two_not_one : HasTwoOpen bounds clause → (lit : Lit) → LeavesOne box clause lit → ⊥
  two_not_one h lit one =
      let left = two_left h in
      not_two (IsFalseIn box) h.before one.before h.after one.after h.first h.second lit h.middle (sym (two_split h) ∙ one.split) left.0 left.1 one.before_false one.after_false

  two_not_none : HasTwoOpen bounds clause → LeavesNone box clause → ⊥
  two_not_none h none =
      let parts : All (IsFalseIn box) (h.before ++ h.first ∷ (h.middle ++ h.second ∷ h.after)) = rw (← two_split h) none in
      (two_left h).0 (All-head (IsFalseIn box) h.first (h.middle ++ h.second ∷ h.after) (All_right (IsFalseIn box) h.before (h.first ∷ (h.middle ++ h.second ∷ h.after)) parts))

one_not_none : (box clause : List Lit) (lit : Lit) → LeavesOne box clause lit → LeavesNone box clause → ⊥
one_not_none box clause lit one none =
    let parts : All (IsFalseIn box) (one.before ++ lit ∷ one.after) = rw (← one.split) none in
    one.left (All-head (IsFalseIn box) lit one.after (All_right (IsFalseIn box) one.before (lit ∷ one.after) parts))

same_left : (box clause : List Lit) (lit other : Lit) → LeavesOne box clause lit → LeavesOne box clause other → lit ≡ other
same_left box clause lit other a b =
    one_left (IsFalseIn box) a.before b.before a.after b.after lit other (sym a.split ∙ b.split) a.before_false b.before_false a.left b.left

-- one hint

module _ (known : Known) (box : List Lit) (hint : ℕ) where
  pub unknown_hint : (rest : List ℕ) → known hint ≡ None → Propagates known box (hint ∷ rest) → ⊥
  unknown_hint [] none p = absurd (cc (none, p.1))
  unknown_hint (next ∷ rest) none p = absurd (cc (none, p.2))

  pub stuck_hint : (rest : List ℕ) (clause : List Lit) → rest ≢ [] → known hint ≡ Some clause → ((lit : Lit) → LeavesOne box clause lit → ⊥) → Propagates known box (hint ∷ rest) → ⊥
  stuck_hint [] clause some is stuck p = absurd (some refl)
  stuck_hint (next ∷ rest) clause some is stuck p =
      let same : p.0 ≡ clause = cc (p.2, is) in stuck p.1 (subst (λ (c : List Lit). LeavesOne box c p.1) same p.3)

  pub next_hint : (rest : List ℕ) (clause : List Lit) (lit : Lit) → rest ≢ [] → known hint ≡ Some clause → LeavesOne box clause lit → Propagates known (lit ∷ box) rest ↔ Propagates known box (hint ∷ rest)
  next_hint [] clause lit some is one = absurd (some refl)
  next_hint (next ∷ rest) clause lit some is one = (
    λ p. (clause, lit, is, one, p),
    λ p.
        let same : p.0 ≡ clause = cc (p.2, is) in
        let same_lit : p.1 ≡ lit = same_left box clause p.1 lit (subst (λ (c : List Lit). LeavesOne box c p.1) same p.3) one in
        subst (λ (l : Lit). Propagates known (l ∷ box) (next ∷ rest)) same_lit p.4,
  )

  pub last_hint : (clause : List Lit) → known hint ≡ Some clause → LeavesNone box clause ↔ Propagates known box (hint ∷ [])
  last_hint clause is = (
    λ none. (clause, is, none),
    λ p. let same : p.0 ≡ clause = cc (p.1, is) in subst (λ (c : List Lit). LeavesNone box c) same p.2,
  )

-- the place of a term's bounds stays, and the bounds stand for a box with the literal that was put in force

HasSlot-same : (old new : Bounds) → new.vars ≡ old.vars → length new.ends.items ≡ length old.ends.items → (term : Term) → HasSlot old term → HasSlot new term
HasSlot-same old new vars len (Var var) has = (omega (arith, has.0, vars), omega (arith, has.1, len))
HasSlot-same old new vars len (Row row) has = omega (arith, has, vars, len)

pub HasSlot-later : (old new : Bounds) → Extends old new → (term : Term) → HasSlot old term → HasSlot new term
HasSlot-later old new extends term has = HasSlot-same old new extends.vars (Extends-length old new extends) term has

pub HasSlot-before : (old new : Bounds) → Extends old new → (term : Term) → HasSlot new term → HasSlot old term
HasSlot-before old new extends term has = HasSlot-same new old (sym extends.vars) (sym (Extends-length old new extends)) term has

pub Stands-put : (old new : Bounds) (lit : Lit) (box : List Lit) → Stands old box → Tightens lit old new → Extends old new → Stands new (lit ∷ box)
Stands-put old new lit box stands tightens extends other has =
    let before = HasSlot-before old new extends other.term has in (
      λ says. ⊎_elim (λ entails. IsIn-first lit box other entails) (λ said. IsIn-there lit box other ((stands other before).0 said)) ((tightens other before).0 says),
      λ within. (tightens other before).1 (⊎_elim (λ entails. inl entails) (λ there. inr ((stands other before).1 there)) (IsIn-cons_cases lit box other within)),
    )

pub StandsEverywhere-put : (old new : Bounds) (lit : Lit) (box : List Lit) → StandsEverywhere old box → TightensEverywhere lit old new → Extends old new
    → StandsEverywhere new (lit ∷ box)
StandsEverywhere-put old new lit box stands tightens extends other has =
    let before = HasSlot-before old new extends other.term has in (
      λ says. ⊎_elim (λ entails. IsIn-first lit box other entails) (λ said. IsIn-there lit box other ((stands other before).0 said)) ((tightens other before).0 says),
      λ within. (tightens other before).1 (⊎_elim (λ entails. inl entails) (λ there. inr ((stands other before).1 there)) (IsIn-cons_cases lit box other within)),
    )

-- bounds that are the same stand for the same boxes

everywhere_later : (old now : Bounds) (lit : Lit) → IsSame old now → SaysEverywhere old lit ↔ SaysEverywhere now lit
everywhere_later old now lit same = (λ says. rw (same.ends, same.vars) says, λ says. rw (same.ends, same.vars) at says)

here_later : (old now : Bounds) (lit : Lit) → IsSame old now → SaysHere old lit ↔ SaysHere now lit
here_later old now lit same = (λ says. rw (same.ends, same.vars, same.level) says, λ says. rw (same.ends, same.vars, same.level) at says)

pub StandsEverywhere-later : (old now : Bounds) (box : List Lit) → IsSame old now → StandsEverywhere old box → StandsEverywhere now box
StandsEverywhere-later old now box same stands lit has =
    let says = everywhere_later old now lit same in
    let both = stands lit (HasSlot-before old now (same_extends old now same) lit.term has) in
    (λ s. both.0 (says.1 s), λ within. says.0 (both.1 within))

pub Stands-later : (old now : Bounds) (box : List Lit) → IsSame old now → Stands old box → Stands now box
Stands-later old now box same stands lit has =
    let everywhere = everywhere_later old now lit same in
    let here = here_later old now lit same in
    let both = stands lit (HasSlot-before old now (same_extends old now same) lit.term has) in (
      λ says. both.0 (⊎_elim (λ h. inl (everywhere.1 h)) (λ h. inr (here.1 h)) says),
      λ within. ⊎_elim (λ h. inl (everywhere.0 h)) (λ h. inr (here.0 h)) (both.1 within),
    )

-- the bounds of all levels stand for the same boxes where a literal was put on the level in work
pub StandsEverywhere-stays : (old new : Bounds) (box : List Lit) → StaysHere old new → Extends old new → StandsEverywhere old box → StandsEverywhere new box
StandsEverywhere-stays old new box stays extends stands lit has =
    let before = HasSlot-before old new extends lit.term has in
    let same = stays.everywhere lit before in
    let both = stands lit before in
    (λ says. both.0 (same.0 says), λ within. same.1 (both.1 within))

-- what is left of a clause, whatever the box is for which the bounds stand

module _ (bounds : Bounds) (box clause : List Lit) (stands : Stands bounds box) (slots : All (λ lit. HasSlot bounds lit.term) clause) where
  pub never_one : (open' : Open) → IsLeft bounds clause open' → ((lit : Lit) → open' ≡ One lit → ⊥) → (lit : Lit) → LeavesOne box clause lit → ⊥
  never_one Nothing is not_one lit one = one_not_none box clause lit one (LeavesNone-from bounds box clause stands slots is)
  never_one (One other) is not_one lit one = not_one other refl
  never_one More is not_one lit one = two_not_one bounds box clause stands slots is lit one

  pub one_from : (lit : Lit) → IsLeft bounds clause (One lit) → LeavesOne box clause lit
  one_from lit is = LeavesOne-from bounds box clause stands slots lit is

  pub none_from : IsLeft bounds clause Nothing → LeavesNone box clause
  none_from is = LeavesNone-from bounds box clause stands slots is

  pub never_none : (open' : Open) → IsLeft bounds clause open' → (open' ≡ Nothing → ⊥) → LeavesNone box clause → ⊥
  never_none Nothing is not_none none = not_none refl
  never_none (One lit) is not_none none = one_not_none box clause lit (LeavesOne-from bounds box clause stands slots lit is) none
  never_none More is not_none none = two_not_none bounds box clause stands slots is none

-- The bounds have come from some others, and the hints that are left propagate over them exactly where all hints do over the others.
pub record Reaches (known : Known) (start now : Bounds) (all left : List ℕ) : Type 0 where
  pub extends : Extends start now
  pub exact : (box : List Lit) → Stands start box → (later : List Lit) × Stands now later × (Propagates known later left ↔ Propagates known box all)

pub Reaches_start : (known : Known) (start : Bounds) (all left : List ℕ) → left ≡ all → Reaches known start start all left
Reaches_start known start all left same = record {
  extends = Extends_refl start;
  exact = λ box stands. (box, stands, (λ p. subst (λ (hs : List ℕ). Propagates known box hs) same p, λ p. subst (λ (hs : List ℕ). Propagates known box hs) (sym same) p));
}

module _ (known : Known) (start now : Bounds) (all : List ℕ) (hint : ℕ) (rest : List ℕ) (r : Reaches known start now all (hint ∷ rest)) where
  slots_now : (clause : List Lit) → All (λ lit. HasSlot start lit.term) clause → All (λ lit. HasSlot now lit.term) clause
  slots_now clause slots = All-weaker (λ lit. HasSlot start lit.term) (λ lit. HasSlot now lit.term) (λ lit. HasSlot-later start now r.extends lit.term) clause slots

  pub Reaches_next : (new : Bounds) (clause : List Lit) (lit : Lit) → rest ≢ [] → known hint ≡ Some clause → All (λ l. HasSlot start l.term) clause
      → IsLeft now clause (One lit) → Tightens lit now new → Extends now new → Reaches known start new all rest
  Reaches_next new clause lit some is slots open' tightens extends = record {
    extends = Extends_more start now new r.extends extends;
    exact = λ box stands.
        let found = r.exact box stands in
        let one = one_from now found.0 clause found.1 (slots_now clause slots) lit open' in
        let step = next_hint known found.0 hint rest clause lit some is one in
        (lit ∷ found.0, Stands-put now new lit found.0 found.1 tightens extends, (λ p. found.2.0 (step.0 p), λ p. step.1 (found.2.1 p)));
  }

  -- all hints don't propagate where the next one doesn't
  pub fails_unknown : known hint ≡ None → (box : List Lit) → Stands start box → Propagates known box all → ⊥
  fails_unknown none box stands p = let found = r.exact box stands in unknown_hint known found.0 hint rest none (found.2.1 p)

  pub fails_open : (clause : List Lit) (open' : Open) → rest ≢ [] → known hint ≡ Some clause → All (λ l. HasSlot start l.term) clause → IsLeft now clause open' → ((lit : Lit) → open' ≡ One lit → ⊥)
      → (box : List Lit) → Stands start box → Propagates known box all → ⊥
  fails_open clause open' some is slots is_open not_one box stands p =
      let found = r.exact box stands in
      stuck_hint known found.0 hint rest clause some is (never_one now found.0 clause found.1 (slots_now clause slots) open' is_open not_one) (found.2.1 p)

module _ (known : Known) (start now : Bounds) (all : List ℕ) (hint : ℕ) (r : Reaches known start now all (hint ∷ [])) (clause : List Lit) (is : known hint ≡ Some clause) (slots : All (λ l. HasSlot start l.term) clause) where
  pub last_none : IsLeft now clause Nothing → (box : List Lit) → Stands start box → Propagates known box all
  last_none open' box stands =
      let found = r.exact box stands in
      found.2.0 ((last_hint known found.0 hint clause is).0 (none_from now found.0 clause found.1 (slots_now known start now all hint [] r clause slots) open'))

  pub last_left : (open' : Open) → IsLeft now clause open' → (open' ≡ Nothing → ⊥) → (box : List Lit) → Stands start box → Propagates known box all → ⊥
  last_left open' is_open not_none box stands p =
      let found = r.exact box stands in
      never_none now found.0 clause found.1 (slots_now known start now all hint [] r clause slots) open' is_open not_none ((last_hint known found.0 hint clause is).1 (found.2.1 p))

-- the hint at an index, and those behind it
pub hint_at : (before : List ℕ) (i last : ℕ) → i < length before → drop i before ++ last ∷ [] ≡ get_or before i 0 ∷ (drop (i + 1) before ++ last ∷ [])
hint_at before i last within = ap (λ (hs : List ℕ). hs ++ last ∷ []) (drop_more before i 0 within)

pub hint_last : (before : List ℕ) (i last : ℕ) → length before ≤ i → drop i before ++ last ∷ [] ≡ last ∷ []
hint_last before i last past = ap (λ (hs : List ℕ). hs ++ last ∷ []) (drop_all i before past)

pub some_hint : (front : List ℕ) (last : ℕ) → front ++ last ∷ [] ≢ []
some_hint [] last e = cc e
some_hint (hint ∷ front) last e = cc e
