-- The negations of a clause, the terms of the clauses that may be named, and what hints show.
use Rattle.std.proofs.Common.{◌≡◌, ◌↔◌, ◌+◌, ◌<◌, ℕ, List, [], ◌∷◌, ◌++◌, length, map, take, drop, get_or, Bool, true, false, IsTrue, Option, Some, None, refl, sym, ◌∙◌, ap, subst, inl, inr, All}
use Rattle.std.specs.Prelude.{◌==◌, nat_lt, slice_get, reverse, MatchOption}
use Rattle.std.specs.List.{flat_map}
use Rattle.std.proofs.lemmas.Bool.{cases_Bool, cond-true, cond-false, false≢true}
use Rattle.std.proofs.lemmas.List.{take_more, drop_more, take-append-drop, map-append, reverse-append}
use Rattle.std.proofs.lemmas.List.Elements.{All-head, All-tail, All-push, All-append, All-map, All-weaker, All-filter}
use Rattle.wx_num.specs.declared.excess.Excess.{Excess}
use Rattle.wx_num.specs.Excess.{Overflows}
use Rattle.mix_system.specs.declared.literal.Lit.{Lit}
use Rattle.mix_system.specs.Lit.{negation}
use Rattle.mix_system.specs.System.{System, IsClause, IsWellFormed}
use Rattle.mix_system.specs.Follows.{Known, Follows}
use Rattle.mix_system.proofs.WellFormedLaws.{All-slice_get}
use Rattle.proof_term.specs.Levels.{Finished, cuts_of, available, clause_of, known}
use Rattle.proof_term.specs.Steps.{NamesTerm, StaysWithin, negation_step}
use Rattle.proof_term.proofs.ListLaws.{All-flat_map}
use Rattle.box_check.specs.declared.bounds.Bounds.{Bounds}
use Rattle.box_check.specs.Bounds.{IsOver, HasSlot, IsSame}
use Rattle.leaf_check.specs.Steps.{IsFirstExcess}
use Rattle.open_levels.specs.Stack.{OpenLevel, level_of, levels_of}
use Rattle.open_levels.specs.Kept.{IsLevel}
use Rattle.open_levels.specs.Shown.{shown_by, IsShown, Keeps}
use Rattle.open_levels.proofs.AddsLaws.{has_slot}

module _ (clause : List Lit) (i : ℕ) (d : Lit) (within : i < length clause) where
  pub left_negation : map negation (drop i clause) ≡ (negation (get_or clause i d) ∷ []) ++ map negation (drop (i + 1) clause)
  left_negation = ap (map negation) (drop_more clause i d within)

  pub stays_more : All StaysWithin (map negation_step (take i clause)) → StaysWithin (negation_step (get_or clause i d)) → All StaysWithin (map negation_step (take (i + 1) clause))
  stays_more stay here =
      subst (λ (steps : List Excess). All StaysWithin steps) (sym (ap (map negation_step) (take_more clause i d within) ∙ map-append negation_step (take i clause) (get_or clause i d ∷ [])))
      (All-push StaysWithin (map negation_step (take i clause)) (negation_step (get_or clause i d)) stay here)

  pub first_negation : (excess : Excess) → All StaysWithin (map negation_step (take i clause)) → excess ≡ negation_step (get_or clause i d) → Overflows excess
      → IsFirstExcess (map negation_step clause) excess
  first_negation excess stay is overflows = record {
    before = map negation_step (take i clause);
    after = map negation_step (drop (i + 1) clause);
    split =
        ap (map negation_step) (sym (take-append-drop i clause) ∙ ap (λ (rest : List Lit). take i clause ++ rest) (drop_more clause i d within))
        ∙ map-append negation_step (take i clause) (get_or clause i d ∷ drop (i + 1) clause)
        ∙ ap (λ (e : Excess). map negation_step (take i clause) ++ e ∷ map negation_step (drop (i + 1) clause)) (sym is);
    stay = stay;
    overflows = overflows;
  }

All_reverse : {X : Type 0} (P : X → Type 0) (xs : List X) → All P xs → All P (reverse xs)
All_reverse P [] all = all
All_reverse {X} P (x ∷ xs) all =
    subst (λ (ys : List X). All P ys) (sym (reverse-append (x ∷ []) xs)) (All-push P (reverse xs) x (All_reverse P xs (All-tail P x xs all)) (All-head P x xs all))

-- the system has the terms of a step's clause
abbrev IsNamed : System → Finished → Type 0
IsNamed system f = All (NamesTerm system) f.clause

level_named : (system : System) (level : OpenLevel) → IsLevel system level → All (IsNamed system) (level_of level).finished
level_named system level kept =
    All_reverse (IsNamed system) level.ended kept.named

cuts_named : (system : System) (level : OpenLevel) → IsLevel system level → All (IsNamed system) (cuts_of (level_of level))
cuts_named system level kept = All-filter (λ f. f.is_cut) (IsNamed system) (level_of level).finished (level_named system level kept)

available_named : (system : System) (last : OpenLevel) (enclosing : List OpenLevel) → IsLevel system last → All (IsLevel system) enclosing → All (IsNamed system) (available (levels_of last enclosing))
available_named system last enclosing kept outer =
    All-append (IsNamed system) (level_of last).finished (flat_map cuts_of (map level_of enclosing)) (level_named system last kept)
    (All-flat_map (IsNamed system) cuts_of (map level_of enclosing)
    (All-map (λ level. All (IsNamed system) (cuts_of level)) level_of enclosing
    (All-weaker (IsLevel system) (λ level. All (IsNamed system) (cuts_of (level_of level))) (cuts_named system) enclosing outer)))

clause_of_named : (system : System) (fs : List Finished) (number : ℕ) (clause : List Lit) → All (IsNamed system) fs → clause_of number fs ≡ Some clause → All (NamesTerm system) clause
clause_of_named system [] number clause all is = absurd (cc is)
clause_of_named system (f ∷ fs) number clause all is = elim (cases_Bool (f.number == number)) [
  | inl same ↦ let here : f.clause ≡ clause = cc (is, cond-true {A = Option (List Lit)} (f.number == number) (Some f.clause) (clause_of number fs) same) in
      subst (λ (c : List Lit). All (NamesTerm system) c) here (All-head (IsNamed system) f fs all)
  | inr other ↦ clause_of_named system fs number clause (All-tail (IsNamed system) f fs all) (sym (cond-false {A = Option (List Lit)} (f.number == number) (Some f.clause) (clause_of number fs) other) ∙ is)
]

pub known_named : (system : System) (last : OpenLevel) (enclosing : List OpenLevel) → IsWellFormed system → IsLevel system last → All (IsLevel system) enclosing
    → (number : ℕ) (clause : List Lit) → known system (levels_of last enclosing) number ≡ Some clause → All (NamesTerm system) clause
known_named system last enclosing formed kept outer number clause is =
    let theirs = clause_of number (available (levels_of last enclosing)) in
    elim (cases_Bool (nat_lt number (length system.clauses))) [
      | inl few ↦ (All-slice_get (IsClause (length system.ranges) (length system.rows)) system.clauses number clause
          (sym (cond-true {A = Option (List Lit)} (nat_lt number (length system.clauses)) (slice_get system.clauses number) theirs few) ∙ is) formed.clauses).known
      | inr many ↦ clause_of_named system (available (levels_of last enclosing)) number clause (available_named system last enclosing kept outer)
          (sym (cond-false {A = Option (List Lit)} (nat_lt number (length system.clauses)) (slice_get system.clauses number) theirs many) ∙ is)
    ]

pub named_slots : (system : System) (bounds : Bounds) (clause : List Lit) → IsOver (length system.ranges) (length system.rows) bounds → All (NamesTerm system) clause → All (λ lit. HasSlot bounds lit.term) clause
named_slots system bounds clause over named =
    All-weaker (NamesTerm system) (λ lit. HasSlot bounds lit.term) (λ lit exists. has_slot (length system.ranges) (length system.rows) bounds lit.term over exists) clause named

pub shown_is : (clause : List Lit) (hints : List ℕ) (box : List Lit) (knows : Known) (b : Bool) → All StaysWithin (map negation_step clause) → (IsTrue b ↔ Follows clause hints box knows)
    → IsShown clause hints box knows (shown_by b)
shown_is clause hints box knows true stay exact = (stay, exact.0 refl)
shown_is clause hints box knows false stay exact = (stay, λ follows. false≢true (exact.1 follows))

pub keeps_same : (b : Bool) (old new : Bounds) → IsSame old new → Keeps (shown_by b) old new
keeps_same true old new same = same
keeps_same false old new same = same

pub at_none : {A P : Type 0} (Q : A → Type 0) (o : Option A) → ((a : A) → o ≡ Some a → ⊥) → MatchOption o P Q → P
at_none Q None not_some is = is
at_none Q (Some a) not_some is = absurd (not_some a refl)
