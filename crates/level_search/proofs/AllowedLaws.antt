-- The literals of the store and the trail are those of the system's clauses, or were set.
use Rattle.std.proofs.Common.{◌≡◌, ℕ, List, [], ◌∷◌, ◌++◌, length, get_or, take, sym, ◌∙◌, ap, subst, inl, inr, ⊎_elim, All}
use Rattle.std.proofs.lemmas.Bool.{cases_lt}
use Rattle.std.proofs.lemmas.List.{get_or_append_left}
use Rattle.std.proofs.lemmas.List.Elements.{All-nil, All-cons, All-head, All-tail, All-push, All-take, All-weaker, Contains-append_left, Contains-push}
use Rattle.mix_system.specs.declared.literal.Lit.{Lit}
use Rattle.mix_system.specs.declared.tally.Tally.{Tally}
use Rattle.mix_system.specs.Calm.{IsSmall}
use Rattle.mix_system.specs.Follows.{LeavesOne}
use Rattle.mix_system.specs.System.{System}
use Rattle.bound_trail.specs.Trail.{Trail, box_with, level_end}
use Rattle.clause_search.specs.Search.{Search, HasGrown}
use Rattle.clause_search.specs.Decided.{OpensLevel}
use Rattle.level_steps.specs.Plain.{IsNamed}
use Rattle.level_search.specs.Kept.{IsAllowed, IsOverLevel}

pub all_back : {X : Type 0} (P : X → Type 0) (xs ys : List X) → All P (xs ++ ys) → All P ys
all_back P [] ys all = all
all_back P (x ∷ xs) ys all = all_back P xs ys (All-tail P x (xs ++ ys) all)

-- the literal that a clause leaves is one of its own
pub left_is_such : (P : Lit → Type 0) (box clause : List Lit) (lit : Lit) → LeavesOne box clause lit → All P clause → P lit
left_is_such P box clause lit one all = All-head P lit one.after (all_back P one.before (lit ∷ one.after) (subst (All P) one.split all))

pub allowed_more : (system : System) (store more : List (List Lit)) (lit : Lit) → IsAllowed system store lit → IsAllowed system (store ++ more) lit
allowed_more system store more lit allowed =
    ⊎_elim (λ named. inl named) (λ set. inr (set.0, Contains-append_left store more (lit ∷ []) set.1)) allowed

pub over_added : (system : System) (old new : Search) (clause : List Lit) → new ≡ record old { store = old.store ++ clause ∷ [] }
    → All (IsAllowed system (old.store ++ clause ∷ [])) clause → IsOverLevel system old → IsOverLevel system new
over_added system old new clause is allowed over =
    let store = old.store ++ clause ∷ [] in
    let grown : (lit : Lit) → IsAllowed system old.store lit → IsAllowed system store lit = allowed_more system old.store (clause ∷ []) in
    subst (IsOverLevel system) (sym is) (record {
      ranges = over.ranges;
      rows = over.rows;
      stored = All-push (All (IsAllowed system store)) old.store clause
          (All-weaker (All (IsAllowed system old.store)) (All (IsAllowed system store)) (λ c all. All-weaker (IsAllowed system old.store) (IsAllowed system store) grown c all) old.store over.stored) allowed;
      put = All-weaker (IsAllowed system old.store) (IsAllowed system store) grown old.trail.lits over.put;
    })

pub named_are_allowed : (system : System) (store : List (List Lit)) (clause : List Lit) → All (IsNamed system) clause → All (IsAllowed system store) clause
named_are_allowed system store clause named = All-weaker (IsNamed system) (IsAllowed system store) (λ lit is. inl is) clause named

pub set_is_allowed : (system : System) (store : List (List Lit)) (lit : Lit) → IsSmall lit.bound → All (IsAllowed system (store ++ (lit ∷ []) ∷ [])) (lit ∷ [])
set_is_allowed system store lit small =
    All-cons (IsAllowed system (store ++ (lit ∷ []) ∷ [])) lit [] (inr (small, Contains-push store (lit ∷ []))) (All-nil (IsAllowed system (store ++ (lit ∷ []) ∷ [])))

pub over_grown : (system : System) (old new : Search) → HasGrown old new → IsOverLevel system old → IsOverLevel system new
over_grown system old new p over =
    let same_store : new.store ≡ old.store = ap (λ (s : Search). s.store) p.lits in
    let same_trail : new.trail ≡ record old.trail { lits = old.trail.lits ++ p.added } = ap (λ (s : Search). s.trail) p.lits in
    let lits_are : new.trail.lits ≡ old.trail.lits ++ p.added = ap (λ (t : Trail). t.lits) same_trail in
    let stored : All (All (IsAllowed system new.store)) new.store = subst (λ (store : List (List Lit)). All (All (IsAllowed system store)) store) (sym same_store) over.stored in
    record {
      ranges = ap (λ (t : Trail). t.ranges) same_trail ∙ over.ranges;
      rows = ap (λ (t : Trail). t.rows) same_trail ∙ over.rows;
      stored = stored;
      put = λ k d within. ⊎_elim
          (λ below. let same : get_or new.trail.lits k d ≡ get_or old.trail.lits k d = ap (λ (xs : List Lit). get_or xs k d) lits_are ∙ get_or_append_left old.trail.lits p.added d k below in
          subst (IsAllowed system new.store) (sym same) (subst (λ (store : List (List Lit)). IsAllowed system store (get_or old.trail.lits k d)) (sym same_store) (over.put k d below)))
          (λ past. let implied = p.implied k past within d in
          let clause = implied.1 in
          let all : All (IsAllowed system new.store) clause = subst (All (IsAllowed system new.store)) implied.3 (stored implied.0 clause implied.2) in
          left_is_such (IsAllowed system new.store) (box_with new.trail k) clause (get_or new.trail.lits k d) implied.4 all)
          (cases_lt k (length old.trail.lits));
    }

pub over_decided : (system : System) (old new : Search) (lit : Lit) (before after : Tally) → OpensLevel lit old new before after → IsNamed system lit → IsOverLevel system old → IsOverLevel system new
over_decided system old new lit before after opens named over = subst (IsOverLevel system) (sym opens.level) (record {
  ranges = over.ranges;
  rows = over.rows;
  stored = over.stored;
  put = All-push (IsAllowed system old.store) old.trail.lits lit over.put (inl named);
})

pub over_back : (system : System) (old new : Search) (to : ℕ) → new.store ≡ old.store
    → new.trail ≡ record old.trail { lits = take (level_end old.trail to) old.trail.lits; levels = take to old.trail.levels }
    → IsOverLevel system old → IsOverLevel system new
over_back system old new to same_store same_trail over = record {
  ranges = ap (λ (t : Trail). t.ranges) same_trail ∙ over.ranges;
  rows = ap (λ (t : Trail). t.rows) same_trail ∙ over.rows;
  stored = subst (λ (store : List (List Lit)). All (All (IsAllowed system store)) store) (sym same_store) over.stored;
  put = subst (λ (store : List (List Lit)). All (IsAllowed system store) new.trail.lits) (sym same_store)
      (subst (All (IsAllowed system old.store)) (sym (ap (λ (t : Trail). t.lits) same_trail)) (All-take (IsAllowed system old.store) (level_end old.trail to) old.trail.lits over.put));
}
