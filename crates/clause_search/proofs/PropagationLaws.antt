-- Literals that clauses imply, put one after another, and what looks at clauses come to.
use Rattle.std.proofs.Common.{inl, ◌≡◌, ℕ, ◌<◌, ◌≤◌, List, [], ◌∷◌, ◌++◌, length, length-append, Some, Result, Ok, Err, OnErr, All, refl, sym, ap, ◌∙◌, subst, ⊎_elim, arith}
use Rattle.std.specs.Prelude.{slice_get, Any}
use Rattle.std.proofs.lemmas.Bool.{cases_lt}
use Rattle.std.proofs.lemmas.List.{append-nil, append_assoc, get_or_append_left, get_or_push, get_or_at, take-append-le, take_at, length_push}
use Rattle.std.proofs.lemmas.Option.{slice_get_within, get_or_from_slice_get}
use Rattle.mix_system.specs.declared.literal.Lit.{Lit}
use Rattle.mix_system.specs.declared.tally.Tally.{Tally}
use Rattle.mix_system.specs.declared.tally.Work.TheVariants.{Propagation}
use Rattle.mix_system.specs.Tally.{units, CountsOne}
use Rattle.mix_system.specs.Bounds.{Entails, IsIn, range_bounds}
use Rattle.mix_system.specs.Follows.{LeavesOne}
use Rattle.bound_trail.specs.Trail.{box, IsOpen}
use Rattle.clause_search.specs.Looks.{IsImplied}
use Rattle.clause_search.specs.Search.{Search, IsImpliedAt, HasGrown, Propagated}
use Rattle.clause_search.specs.Passed.{IsSettledAt}
use Rattle.bound_trail.proofs.AnywhereLaws.{any_here, any_right}
use Rattle.bound_trail.proofs.EntailmentLaws.{entails_itself}
use Rattle.clause_search.proofs.ReasonLaws.{with_lit}

-- what holds anyway holds after want of memory
pub on_err : {T E : Type 0} (r : Result T E) (P : Type 0) → P → OnErr r P
on_err (Ok x) P p = tt
on_err (Err e) P p = p

-- what holds of each literal of a clause holds of the one that is left
pub all_left : (P : Lit → Type 0) (bounds clause : List Lit) (lit : Lit) → LeavesOne bounds clause lit → All P clause → P lit
all_left P bounds clause lit one all =
    let at = length one.before in
    let within : at < length (one.before ++ lit ∷ one.after) = omega (arith, length-append one.before (lit ∷ one.after)) in
    let each = subst (All P) one.split all in
    subst P (get_or_at one.before lit one.after lit at refl) (each at lit within)

any_left_one : (P : Lit → Type 0) (bounds clause : List Lit) (lit : Lit) → LeavesOne bounds clause lit → P lit → Any P clause
any_left_one P bounds clause lit one p =
    let at = length one.before in
    let within : at < length (one.before ++ lit ∷ one.after) = omega (arith, length-append one.before (lit ∷ one.after)) in
    subst (Any P) (sym one.split) (at, lit, within, get_or_at one.before lit one.after lit at refl, p)

-- the literal that a clause implies is neither true nor false
pub implied_open : (bounds clause : List Lit) (lit : Lit) → IsImplied bounds clause lit → IsOpen bounds lit
implied_open bounds clause lit implied = record {
  not_true = λ a. implied.none_true (any_left_one (IsIn bounds) bounds clause lit implied.one a);
  not_false = implied.one.left;
}

pub any_at_number : (P : List Lit → Type 0) (store : List (List Lit)) (number : ℕ) (clause : List Lit) → slice_get store number ≡ Some clause → P clause → Any P store
any_at_number P store number clause among p =
    (number, clause, slice_get_within store number clause among, get_or_from_slice_get store number clause clause among, p)

-- a literal that was implied where it was put stays so when more are put behind it
implied_more : (state : Search) (added : List Lit) (at : ℕ) → at < length state.trail.lits → IsImpliedAt state at → IsImpliedAt (record state { trail = record state.trail { lits = state.trail.lits ++ added } }) at
implied_more state added at below h d =
    rw (get_or_append_left state.trail.lits added d at below, take-append-le at state.trail.lits added (omega arith)) (h d)

pub implied_along : (mid new : Search) (added : List Lit) (at : ℕ) → new ≡ record mid { trail = record mid.trail { lits = mid.trail.lits ++ added } } → at < length mid.trail.lits → IsImpliedAt mid at → IsImpliedAt new at
implied_along mid new added at e below h =
    subst (λ s. IsImpliedAt s at) (sym e) (implied_more mid added at below h)

pub joined : (old mid new : Search) (one two : List Lit) → mid ≡ record old { trail = record old.trail { lits = old.trail.lits ++ one } } → new ≡ record mid { trail = record mid.trail { lits = mid.trail.lits ++ two } } → new ≡ record old { trail = record old.trail { lits = old.trail.lits ++ (one ++ two) } }
joined old mid new one two e f =
    f ∙ ap (λ (s : Search). record s { trail = record s.trail { lits = s.trail.lits ++ two } }) e
    ∙ ap (λ (xs : List Lit). record old { trail = record old.trail { lits = xs } }) (append_assoc old.trail.lits one two)

abbrev pub grown_trans : (old mid new : Search) → HasGrown old mid → HasGrown mid new → HasGrown old new
grown_trans old mid new p q = record {
  added = p.added ++ q.added;
  lits = joined old mid new p.added q.added p.lits q.lits;
  implied = λ at from to. ⊎_elim
      (λ below. implied_along mid new q.added at q.lits below (p.implied at from below))
      (λ past. q.implied at past to)
      (cases_lt at (length mid.trail.lits));
}

pub propagated_trans : (old mid new : Search) (before between after : Tally) → Propagated old mid before between → Propagated mid new between after → Propagated old new before after
propagated_trans old mid new before between after p q =
    let one = p.counted in
    let two = q.counted in
    record {
      grown = grown_trans old mid new p.grown q.grown;
      counted = record {
        decisions = two.decisions ∙ one.decisions;
        propagations = omega (arith, length-append p.grown.added q.grown.added, one.propagations, two.propagations);
        conflicts = two.conflicts ∙ one.conflicts;
        splits = two.splits ∙ one.splits;
        checks = two.checks ∙ one.checks;
        budget = two.budget ∙ one.budget;
      };
    }

pub propagated_one : (state : Search) (lit : Lit) (number : ℕ) (clause : List Lit) (before after : Tally) → slice_get state.store number ≡ Some clause → LeavesOne (box state.trail) clause lit → CountsOne Propagation before after → Propagated state (with_lit state lit) before after
propagated_one state lit number clause before after among one counted =
    let lits = state.trail.lits in
    let count = length_push lits lit in
    record {
      grown = record {
        added = lit ∷ [];
        lits = refl;
        implied = λ at from to d. let e : length lits ≡ at = omega arith in
            rw (get_or_push lits lit d at e, take_at lits (lit ∷ []) at e) (any_at_number (λ c. LeavesOne (box state.trail) c lit) state.store number clause among one);
      };
      counted = record {
        decisions = omega (arith, counted.decisions);
        propagations = omega (arith, counted.propagations);
        conflicts = omega (arith, counted.conflicts);
        splits = omega (arith, counted.splits);
        checks = omega (arith, counted.checks);
        budget = counted.budget;
      };
    }

pub units_grow : (old new : Search) (before after : Tally) → Propagated old new before after → units before ≤ units after
units_grow old new before after p =
    let c = p.counted in
    omega (arith, c.decisions, c.propagations, c.conflicts, c.splits, c.checks)

-- nothing was put
abbrev pub grown_none : (state : Search) → HasGrown state state
grown_none state = record {
  added = [];
  lits = ap (λ (xs : List Lit). record state { trail = record state.trail { lits = xs } }) (sym (append-nil state.trail.lits));
  implied = λ at from to. absurd (omega arith);
}

pub propagated_none : (state : Search) (tally : Tally) → Propagated state state tally tally
propagated_none state tally = record {
  grown = grown_none state;
  counted = record {
    decisions = refl;
    propagations = omega arith;
    conflicts = refl;
    splits = refl;
    checks = refl;
    budget = refl;
  };
}

-- a clause whose implied literal was put has a true literal
pub settled_implied : (state : Search) (lit : Lit) (number : ℕ) (clause : List Lit) → slice_get state.store number ≡ Some clause → LeavesOne (box state.trail) clause lit → IsSettledAt (with_lit state lit) number
settled_implied state lit number clause among one =
    let lits = state.trail.lits in
    let P : Lit → Type 0 = λ bound. Entails bound lit in
    let is_true : IsIn (box (with_lit state lit).trail) lit = any_right P (range_bounds state.trail.ranges) (lits ++ lit ∷ []) (any_right P lits (lit ∷ []) (any_here P lit [] (entails_itself lit))) in
    record {
      clause = clause;
      among = among;
      settled = inl (any_left_one (IsIn (box (with_lit state lit).trail)) (box state.trail) clause lit one is_true);
    }
