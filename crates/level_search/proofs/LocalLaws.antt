-- What local numbers keep of the box and of hints.
use Rattle.std.proofs.Common.{◌≡◌, ◌⊎◌, ℕ, zero, suc, ◌+◌, ◌<◌, List, [], ◌∷◌, ◌++◌, length, get_or, take, Option, Some, None, refl, sym, ◌∙◌, ap, subst, inl, inr, ⊎_elim, arith, All, length-append}
use Rattle.std.specs.Prelude.{slice_get}
use Rattle.std.specs.Option.{option_to_list}
use Rattle.std.specs.List.{cons_option}
use Rattle.std.proofs.lemmas.Bool.{cases_lt}
use Rattle.std.proofs.lemmas.Option.{slice_get_within, get_or_from_slice_get, slice_get-get_or}
use Rattle.std.proofs.lemmas.List.{get_or_append_left, get_or_push, get_or_default, length_push, take_more}
use Rattle.std.proofs.lemmas.List.Elements.{All-nil, All-cons, All-head, filter_map-append}
use Rattle.mix_system.specs.declared.literal.Lit.{Lit}
use Rattle.mix_system.specs.Lit.{negation}
use Rattle.mix_system.specs.Bounds.{Entails, IsIn, IsFalseIn, only_literal, unit_bounds}
use Rattle.mix_system.specs.Follows.{LeavesNone, LeavesOne, Propagates}
use Rattle.mix_system.proofs.BoundLaws.{IsIn-none, IsIn-there, IsIn-here, IsIn-cons_cases, IsIn-append_left, IsIn-append_right, IsIn-append_cases, IsIn-entailed}
use Rattle.mix_system.proofs.FollowLaws.{SayTheSame, Propagates-same}
use Rattle.bound_trail.proofs.EntailmentLaws.{falsifies_each_other}
use Rattle.level_search.specs.Local.{IsNumber, AreNumbered, local_hints}

-- Single literals

pub unit_cases : (clauses more : List (List Lit)) (lit : Lit) → IsIn (unit_bounds (clauses ++ more)) lit → IsIn (unit_bounds clauses) lit ⊎ IsIn (unit_bounds more) lit
unit_cases clauses more lit within =
    IsIn-append_cases (unit_bounds clauses) (unit_bounds more) lit (subst (λ (b : List Lit). IsIn b lit) (filter_map-append only_literal clauses more) within)

pub unit_left : (clauses more : List (List Lit)) (lit : Lit) → IsIn (unit_bounds clauses) lit → IsIn (unit_bounds (clauses ++ more)) lit
unit_left clauses more lit within =
    subst (λ (b : List Lit). IsIn b lit) (sym (filter_map-append only_literal clauses more)) (IsIn-append_left (unit_bounds clauses) (unit_bounds more) lit within)

pub unit_right : (clauses more : List (List Lit)) (lit : Lit) → IsIn (unit_bounds more) lit → IsIn (unit_bounds (clauses ++ more)) lit
unit_right clauses more lit within =
    subst (λ (b : List Lit). IsIn b lit) (sym (filter_map-append only_literal clauses more)) (IsIn-append_right (unit_bounds clauses) (unit_bounds more) lit within)

-- the clause of one literal that says a single literal
pub record IsFromSingle (clauses : List (List Lit)) (lit : Lit) : Type 0 where
  pub at : ℕ
  pub only : Lit
  pub among : slice_get clauses at ≡ Some (only ∷ [])
  pub entails : Entails only lit

later_single : (clause : List Lit) (clauses : List (List Lit)) (lit : Lit) → IsFromSingle clauses lit → IsFromSingle (clause ∷ clauses) lit
later_single clause clauses lit from =
    let within = slice_get_within clauses from.at (from.only ∷ []) from.among in
    record {
      at = from.at + 1;
      only = from.only;
      among = slice_get-get_or (clause ∷ clauses) (from.at + 1) (from.only ∷ []) (omega arith)
          ∙ ap (λ (c : List Lit). Some c) (ap (λ n. get_or (clause ∷ clauses) n (from.only ∷ [])) (next from.at) ∙ get_or_from_slice_get clauses from.at (from.only ∷ []) (from.only ∷ []) from.among);
      entails = from.entails;
    }
  where
    next : (n : ℕ) → n + 1 ≡ suc n
    next n = omega arith

first_single : (only : Lit) (clauses : List (List Lit)) (lit : Lit) → Entails only lit → IsFromSingle ((only ∷ []) ∷ clauses) lit
first_single only clauses lit entails = record { at = 0; only = only; among = refl; entails = entails }

pub from_single : (clauses : List (List Lit)) (lit : Lit) → IsIn (unit_bounds clauses) lit → IsFromSingle clauses lit
from_single [] lit within = absurd (IsIn-none lit within)
from_single ([] ∷ clauses) lit within = later_single [] clauses lit (from_single clauses lit within)
from_single ((only ∷ []) ∷ clauses) lit within =
    ⊎_elim (λ entails. first_single only clauses lit entails)
    (λ there. later_single (only ∷ []) clauses lit (from_single clauses lit there)) (IsIn-cons_cases only (unit_bounds clauses) lit within)
from_single ((first ∷ other ∷ lits) ∷ clauses) lit within = later_single (first ∷ other ∷ lits) clauses lit (from_single clauses lit within)

pub single_at : (clauses : List (List Lit)) (at : ℕ) (only : Lit) → slice_get clauses at ≡ Some (only ∷ []) → IsIn (unit_bounds clauses) only
single_at [] at only is = absurd (cc is)
single_at (clause ∷ clauses) zero only is =
    let same : clause ≡ only ∷ [] = cc is in
    subst (λ (c : List Lit). IsIn (unit_bounds (c ∷ clauses)) only) (sym same) (IsIn-here only (unit_bounds clauses))
single_at (clause ∷ clauses) (suc at) only is = unit_right (clause ∷ []) clauses only (single_at clauses at only is)

-- One more clause

pub get_cases : (clauses : List (List Lit)) (clause given : List Lit) (number : ℕ) → slice_get (clauses ++ clause ∷ []) number ≡ Some given
    → (slice_get clauses number ≡ Some given) ⊎ ((number ≡ length clauses) × (clause ≡ given))
get_cases clauses clause given number is =
    let within = slice_get_within (clauses ++ clause ∷ []) number given is in
    let item = get_or_from_slice_get (clauses ++ clause ∷ []) number given given is in
    ⊎_elim
    (λ below. inl (slice_get-get_or clauses number given below ∙ ap (λ (c : List Lit). Some c) (sym (get_or_append_left clauses (clause ∷ []) given number below) ∙ item)))
    (λ past. let last : length clauses ≡ number = omega (arith, length_push clauses clause) in
    inr (sym last, sym (get_or_push clauses clause given number last) ∙ item))
    (cases_lt number (length clauses))

pub get_more : (clauses more : List (List Lit)) (clause : List Lit) (number : ℕ) → slice_get clauses number ≡ Some clause → slice_get (clauses ++ more) number ≡ Some clause
get_more clauses more clause number is =
    let within = slice_get_within clauses number clause is in
    let few : number < length (clauses ++ more) = omega (arith, within, length-append clauses more) in
    slice_get-get_or (clauses ++ more) number clause few
    ∙ ap (λ (c : List Lit). Some c) (get_or_append_left clauses more clause number within ∙ get_or_from_slice_get clauses number clause clause is)

pub get_last : (clauses : List (List Lit)) (clause : List Lit) → slice_get (clauses ++ clause ∷ []) (length clauses) ≡ Some clause
get_last clauses clause =
    slice_get-get_or (clauses ++ clause ∷ []) (length clauses) clause (omega (arith, length_push clauses clause))
    ∙ ap (λ (c : List Lit). Some c) (get_or_push clauses clause clause (length clauses) refl)

pub is_number_more : (available more : List (List Lit)) (goal other : Option Lit) (clause : List Lit) (number : Option ℕ)
    → ((lit : Lit) → IsIn (option_to_list goal) lit → IsIn (option_to_list other) lit) → IsNumber available goal clause number → IsNumber (available ++ more) other clause number
is_number_more available more goal other clause None stronger is = (is.0, is.1, stronger is.0 is.2)
is_number_more available more goal other clause (Some number) stronger is = get_more available more clause number is

-- a clause more in the store, with a number or a goal's, and as many available ones more
pub numbered_more : (store available more : List (List Lit)) (goal other : Option Lit) (numbers : List (Option ℕ)) (clause : List Lit) (number : Option ℕ)
    → ((lit : Lit) → IsIn (option_to_list goal) lit → IsIn (option_to_list other) lit)
    → IsNumber (available ++ more) other clause number
    → ((lit : Lit) → IsIn (unit_bounds more) lit → IsIn (unit_bounds (clause ∷ [])) lit)
    → ((lit : Lit) → IsIn (option_to_list other) lit → IsIn (option_to_list goal) lit ⊎ IsIn (unit_bounds (clause ∷ [])) lit)
    → AreNumbered store available goal numbers → AreNumbered (store ++ clause ∷ []) (available ++ more) other (numbers ++ number ∷ [])
numbered_more store available more goal other numbers clause number stronger is units goals numbered = record {
  one_each = omega (arith, numbered.one_each, length_push store clause, length_push numbers number);
  each = λ at given found. ⊎_elim
      (λ earlier. let within = slice_get_within store at given earlier in
      let few : at < length numbers = omega (arith, within, numbered.one_each) in
      subst (λ (n : Option ℕ). IsNumber (available ++ more) other given n) (sym (get_or_append_left numbers (number ∷ []) None at few))
      (is_number_more available more goal other given (get_or numbers at None) stronger (numbered.each at given earlier)))
      (λ last. let place : length numbers ≡ at = omega (arith, last.0, numbered.one_each) in
      subst (λ (n : Option ℕ). IsNumber (available ++ more) other given n) (sym (get_or_push numbers number None at place))
      (subst (λ (c : List Lit). IsNumber (available ++ more) other c number) last.1 is))
      (get_cases store clause given at found);
  units = λ lit within. ⊎_elim (λ here. unit_left store (clause ∷ []) lit (numbered.units lit here)) (λ there. unit_right store (clause ∷ []) lit (units lit there)) (unit_cases available more lit within);
  goal_too = λ lit within. ⊎_elim (λ here. unit_left store (clause ∷ []) lit (numbered.goal_too lit here)) (λ there. unit_right store (clause ∷ []) lit there) (goals lit within);
}

-- The box

module _ (store available : List (List Lit)) (goal : Option Lit) (numbers : List (Option ℕ)) (numbered : AreNumbered store available goal numbers) where
  from_number : (clause : List Lit) (only lit : Lit) (number : Option ℕ) → clause ≡ only ∷ [] → Entails only lit → IsNumber available goal clause number
      → IsIn (option_to_list goal) lit ⊎ IsIn (unit_bounds available) lit
  from_number clause only lit None same entails is =
      let here : is.0 ≡ only = cc (is.1, same) in
      inl (IsIn-entailed (option_to_list goal) only lit (subst (λ (l : Lit). IsIn (option_to_list goal) l) here is.2) entails)
  from_number clause only lit (Some number) same entails is =
      inr (IsIn-entailed (unit_bounds available) only lit (single_at available number only (is ∙ ap (λ (c : List Lit). Some c) same)) entails)

  store_says : (lit : Lit) → IsIn (unit_bounds store) lit → IsIn (option_to_list goal) lit ⊎ IsIn (unit_bounds available) lit
  store_says lit within =
      let from = from_single store lit within in
      from_number (from.only ∷ []) from.only lit (get_or numbers from.at None) refl from.entails (numbered.each from.at (from.only ∷ []) from.among)

  -- the ranges with the store's single literals say what the level's box says
  pub same_box : (ranges : List Lit) → SayTheSame (ranges ++ unit_bounds store) (ranges ++ option_to_list goal ++ unit_bounds available)
  same_box ranges lit = (
    λ within. ⊎_elim
        (λ here. IsIn-append_left (ranges ++ option_to_list goal) (unit_bounds available) lit (IsIn-append_left ranges (option_to_list goal) lit here))
        (λ there. ⊎_elim
        (λ by_goal. IsIn-append_left (ranges ++ option_to_list goal) (unit_bounds available) lit (IsIn-append_right ranges (option_to_list goal) lit by_goal))
        (λ by_unit. IsIn-append_right (ranges ++ option_to_list goal) (unit_bounds available) lit by_unit)
        (store_says lit there))
        (IsIn-append_cases ranges (unit_bounds store) lit within),
    λ within. ⊎_elim
        (λ front. ⊎_elim
        (λ here. IsIn-append_left ranges (unit_bounds store) lit here)
        (λ by_goal. IsIn-append_right ranges (unit_bounds store) lit (numbered.goal_too lit by_goal))
        (IsIn-append_cases ranges (option_to_list goal) lit front))
        (λ by_unit. IsIn-append_right ranges (unit_bounds store) lit (numbered.units lit by_unit))
        (IsIn-append_cases (ranges ++ option_to_list goal) (unit_bounds available) lit within),
  )

  -- Hints

  -- the goal's literal is in the box, and isn't false there
  pub record GoalHolds (box : List Lit) : Type 0 where
    pub within : (lit : Lit) → IsIn (option_to_list goal) lit → IsIn box lit
    pub stands : (lit : Lit) → IsIn (option_to_list goal) lit → ¬ IsFalseIn box lit

  goal_holds_more : (box : List Lit) (lit : Lit) → ¬ IsFalseIn box lit → GoalHolds box → GoalHolds (lit ∷ box)
  goal_holds_more box lit left holds = record {
    within = λ g by_goal. IsIn-there lit box g (holds.within g by_goal);
    stands = λ g by_goal false. ⊎_elim
        (λ entails. left (IsIn-entailed box g (negation lit) (holds.within g by_goal) (falsifies_each_other lit g entails)))
        (λ there. holds.stands g by_goal there)
        (IsIn-cons_cases lit box (negation g) false);
  }

  only_left : (box : List Lit) (only lit : Lit) → LeavesOne box (only ∷ []) lit → only ≡ lit
  only_left box only lit one = front one.before one.split
    where
      front : (before : List Lit) → only ∷ [] ≡ before ++ lit ∷ one.after → only ≡ lit
      front [] is = cc is
      front (first ∷ []) is = absurd (cc is)
      front (first ∷ second ∷ before) is = absurd (cc is)

  said_again : (box : List Lit) (lit : Lit) → IsIn box lit → SayTheSame (lit ∷ box) box
  said_again box lit within other = (
    λ is. ⊎_elim (λ entails. IsIn-entailed box lit other within entails) (λ there. there) (IsIn-cons_cases lit box other is),
    λ is. IsIn-there lit box other is,
  )

  last_local : (box clause : List Lit) (number : Option ℕ) → GoalHolds box → IsNumber available goal clause number → LeavesNone box clause
      → Propagates (slice_get available) box (cons_option number [])
  last_local box clause None holds is none =
      let here : All (IsFalseIn box) (is.0 ∷ []) = subst (All (IsFalseIn box)) is.1 none in
      absurd (holds.stands is.0 is.2 (All-head (IsFalseIn box) is.0 [] here))
  last_local box clause (Some number) holds is none = (clause, is, none)

  next_local : (box clause : List Lit) (lit : Lit) (number : ℕ) (hints : List ℕ) → slice_get available number ≡ Some clause → LeavesOne box clause lit
      → Propagates (slice_get available) (lit ∷ box) hints → Propagates (slice_get available) box (number ∷ hints)
  next_local box clause lit number [] is one p = absurd p
  next_local box clause lit number (hint ∷ hints) is one p = (clause, lit, is, one, p)

  step_local : (box clause : List Lit) (lit : Lit) (number : Option ℕ) (hints : List ℕ) → GoalHolds box → IsNumber available goal clause number → LeavesOne box clause lit
      → Propagates (slice_get available) (lit ∷ box) hints → Propagates (slice_get available) box (cons_option number hints)
  step_local box clause lit None hints holds is one p =
      let left : LeavesOne box (is.0 ∷ []) lit = subst (λ (c : List Lit). LeavesOne box c lit) is.1 one in
      let same : is.0 ≡ lit = only_left box is.0 lit left in
      let within : IsIn box lit = subst (IsIn box) same (holds.within is.0 is.2) in
      Propagates-same (slice_get available) (lit ∷ box) box hints (said_again box lit within) p
  step_local box clause lit (Some number) hints holds is one p = next_local box clause lit number hints is one p

  -- hints by local numbers lead to a contradiction too
  pub propagates_local : (box : List Lit) (hints : List ℕ) → GoalHolds box → Propagates (slice_get store) box hints → Propagates (slice_get available) box (local_hints numbers hints)
  propagates_local box [] holds p = absurd p
  propagates_local box (hint ∷ []) holds p = last_local box p.0 (get_or numbers hint None) holds (numbered.each hint p.0 p.1) p.2
  propagates_local box (hint ∷ next ∷ hints) holds p =
      step_local box p.0 p.1 (get_or numbers hint None) (local_hints numbers (next ∷ hints)) holds (numbered.each hint p.0 p.2) p.3
      (propagates_local (p.1 ∷ box) (next ∷ hints) (goal_holds_more box p.1 p.3.left holds) p.4)

-- hints name clauses of the store
pub hints_within : (store : List (List Lit)) (box : List Lit) (hints : List ℕ) → Propagates (slice_get store) box hints → All (λ hint. hint < length store) hints
hints_within store box [] p = absurd p
hints_within store box (hint ∷ []) p = All-cons (λ (h : ℕ). h < length store) hint [] (slice_get_within store hint p.0 p.1) (All-nil (λ (h : ℕ). h < length store))
hints_within store box (hint ∷ next ∷ hints) p =
    All-cons (λ (h : ℕ). h < length store) hint (next ∷ hints) (slice_get_within store hint p.0 p.2) (hints_within store (p.1 ∷ box) (next ∷ hints) p.4)

pub same_behind : (front box other : List Lit) → SayTheSame box other → SayTheSame (front ++ box) (front ++ other)
same_behind front box other same lit = (
  λ is. ⊎_elim (λ here. IsIn-append_left front other lit here) (λ there. IsIn-append_right front other lit ((same lit).0 there)) (IsIn-append_cases front box lit is),
  λ is. ⊎_elim (λ here. IsIn-append_left front box lit here) (λ there. IsIn-append_right front box lit ((same lit).1 there)) (IsIn-append_cases front other lit is),
)

-- the hints so far, and one more
pub local_more : (numbers : List (Option ℕ)) (hints : List ℕ) (i d : ℕ) → i < length hints
    → local_hints numbers (take (i + 1) hints) ≡ local_hints numbers (take i hints) ++ cons_option (get_or numbers (get_or hints i d) None) []
local_more numbers hints i d within =
    ap (local_hints numbers) (take_more hints i d within) ∙ filter_map-append (λ hint. get_or numbers hint None) (take i hints) (get_or hints i d ∷ [])

pub unit_more : (clauses : List (List Lit)) (at : ℕ) (clause : List Lit) → slice_get clauses at ≡ Some clause
    → unit_bounds (take (at + 1) clauses) ≡ unit_bounds (take at clauses) ++ unit_bounds (clause ∷ [])
unit_more clauses at clause is =
    let within = slice_get_within clauses at clause is in
    let item = get_or_from_slice_get clauses at clause clause is in
    ap unit_bounds (take_more clauses at clause within)
    ∙ filter_map-append only_literal (take at clauses) (get_or clauses at clause ∷ [])
    ∙ ap (λ (c : List Lit). unit_bounds (take at clauses) ++ unit_bounds (c ∷ [])) item

-- the same of a place that holds a number, or none
pub hint_at : (numbers : List (Option ℕ)) (hints : List ℕ) (i d : ℕ) (number : Option ℕ) → i < length hints → All (λ hint. hint < length numbers) hints
    → number ≡ get_or numbers (get_or hints i d) number → local_hints numbers (take (i + 1) hints) ≡ local_hints numbers (take i hints) ++ cons_option number []
hint_at numbers hints i d number within places is =
    let same : get_or numbers (get_or hints i d) None ≡ number = get_or_default numbers (get_or hints i d) None number (places i d within) ∙ sym is in
    local_more numbers hints i d within ∙ ap (λ (o : Option ℕ). local_hints numbers (take i hints) ++ cons_option o []) same

pub none_from : (number : Option ℕ) → ((n : ℕ) → number ≡ Some n → ⊥) → number ≡ None
none_from None apart = refl
none_from (Some n) apart = absurd (apart n refl)
