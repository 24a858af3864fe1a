-- What visits of watchers come to.
use Rattle.std.proofs.Common.{◌≡◌, ◌≢◌, ◌⊎◌, ℕ, suc, ◌+◌, ◌<◌, ◌≤◌, List, ◌++◌, length, length-append, get_or, set, Some, refl, sym, ap, ◌∙◌, subst, inl, inr, ⊎_elim, arith}
use Rattle.std.specs.Prelude.{slice_get, Contains}
use Rattle.std.specs.List.{HoldsAt}
use Rattle.std.proofs.lemmas.Bool.{cases_lt, cases_eq}
use Rattle.std.proofs.lemmas.List.{get_or_default, get_or-set_same, get_or-set_other, get_or_append_left, length-set, take-append-le}
use Rattle.std.proofs.lemmas.Option.{slice_get_within, slice_get-get_or, get_or_from_slice_get}
use Rattle.mix_system.specs.declared.literal.Side.{Side}
use Rattle.mix_system.specs.declared.literal.Side.TheVariants.{Le, Ge}
use Rattle.mix_system.specs.declared.literal.Lit.{Lit}
use Rattle.mix_system.specs.declared.tally.Tally.{Tally}
use Rattle.mix_system.specs.System.{IsClause, Exists}
use Rattle.mix_system.specs.Lit.{other_side, negation}
use Rattle.mix_system.specs.Bounds.{Entails, IsIn, IsFalseIn, range_bounds}
use Rattle.mix_system.proofs.WellFormedLaws.{All-slice_get}
use Rattle.bound_trail.specs.Edges.{place_of, blank_lit}
use Rattle.bound_trail.specs.Trail.{box, box_with, box_at}
use Rattle.bound_trail.proofs.AnywhereLaws.{any_at}
use Rattle.bound_trail.proofs.EdgeLaws.{same_place}
use Rattle.bound_trail.proofs.TrailEdgeLaws.{more_cases}
use Rattle.bound_trail.proofs.BoxLaws.{in_box}
use Rattle.clause_search.specs.Search.{Search, Propagated}
use Rattle.clause_search.specs.Settled.{IsLeftAt, HasTrue, IsSettled}
use Rattle.clause_search.specs.Stored.{AreClauses}
use Rattle.clause_search.specs.Passed.{IsSettledAt}
use Rattle.clause_search.specs.Watched.{list_at, lit_of, watcher_of, IsListed, AreLeft, IsWatched, AreWatched, IsRight}
use Rattle.clause_search.specs.Visited.{AreFalseBut, KeepsBut, Moves, IsOther, IsPartner, IsDone, AreDone, IsVisiting, Goes, Visits, watched_lit}
use Rattle.clause_search.specs.declared.pairs.Pair.{Pair}
use Rattle.clause_search.specs.declared.watch_lists.Watcher.{Watcher}
use Rattle.clause_search.specs.declared.watches.Watches.{Watches}
use Rattle.clause_search.specs.declared.watches.Visit.{Visit}
use Rattle.clause_search.specs.declared.watches.Visit.TheVariants.{Kept, Gone, Stopped}
use Rattle.clause_search.proofs.PropagationLaws.{propagated_trans}
use Rattle.clause_search.proofs.WatchLaws.{with_more, in_grown, listed_but, true_weaker}

pub some_same : {X : Type 0} (x y : X) → Some x ≡ Some y → x ≡ y
some_same x y e = cc

-- a watcher that is done stays so
pub done_more : (state : Search) (added : List Lit) (count : ℕ) (key : Lit) (watcher : Watcher) → count ≤ length state.trail.lits → IsDone state count key watcher → IsDone (with_more state added) count key watcher
done_more state added count key watcher h done =
    ⊎_elim
    (λ f. inl (λ clause among. true_weaker (box state.trail) (box (with_more state added).trail) clause (in_grown state added) (f clause among)))
    (λ left. inr (subst (λ bounds. ¬ IsFalseIn bounds (watched_lit key watcher.bound)) (sym (ap (λ xs. range_bounds state.trail.ranges ++ xs) (take-append-le count state.trail.lits added h))) left))
    done

pub are_done_propagated : (old new : Search) (before after : Tally) (count : ℕ) (key : Lit) (watchers : List Watcher) (at : ℕ) → count ≤ length old.trail.lits → Propagated old new before after → AreDone old count key watchers at → AreDone new count key watchers at
are_done_propagated old new before after count key watchers at h p done =
    subst (λ s. AreDone s count key watchers at) (sym p.grown.lits) (λ k below d. done_more old p.grown.added count key (get_or watchers k d) h (done k below d))

pub are_done_next : (state : Search) (count : ℕ) (key : Lit) (watchers : List Watcher) (at : ℕ) → AreDone state count key watchers at → HoldsAt (IsDone state count key) watchers at → AreDone state count key watchers (at + 1)
are_done_next state count key watchers at done here k below =
    ⊎_elim (λ before. done k before) (λ past. let e : at ≡ k = omega arith in subst (λ n. HoldsAt (IsDone state count key) watchers n) e here) (cases_lt k at)

pub are_done_same : (state : Search) (count : ℕ) (key : Lit) (old new : List Watcher) (at : ℕ) → ((k : ℕ) (d : Watcher) → k < at → get_or new k d ≡ get_or old k d) → AreDone state count key old at → AreDone state count key new at
are_done_same state count key old new at same done k below d =
    subst (IsDone state count key) (sym (same k d below)) (done k below d)

-- of a watcher and its partner
pub record IsKnown (state : Search) (lists : List (List Watcher)) (pairs : List Pair) (head base number at other : ℕ) (clause : List Lit) : Type 0 where
  pub one : IsWatched state lists pairs head base number
  pub clause_is : one.clause ≡ clause
  pub is_other : IsOther one.pair at other
  pub within : other < length clause

other_within : (vars : ℕ) (lists : List (List Watcher)) (number : ℕ) (clause : List Lit) (pair : Pair) (at other : ℕ) → IsOther pair at other → (pair.first ≢ pair.second → IsListed vars lists number clause pair.first × IsListed vars lists number clause pair.second) → other < length clause
other_within vars lists number clause pair at other is listed =
    let both = listed is.apart in
    ⊎_elim (λ e. omega (arith, e.1, both.1.within)) (λ e. omega (arith, e.1, both.0.within)) is.sides

pub partner_known : (state : Search) (lists : List (List Watcher)) (pairs : List Pair) (head base : ℕ) (watcher : Watcher) (other : ℕ) (clause : List Lit) → AreWatched state lists pairs head base → IsPartner pairs watcher other → slice_get state.store watcher.number ≡ Some clause → IsKnown state lists pairs head base watcher.number watcher.at other clause
partner_known state lists pairs head base watcher other clause w partner among =
    let number = watcher.number in
    let one = w.each number (slice_get_within pairs number partner.pair partner.paired) in
    let same : partner.pair ≡ one.pair = some_same partner.pair one.pair (sym partner.paired ∙ one.paired) in
    let clause_is : one.clause ≡ clause = some_same one.clause clause (sym one.among ∙ among) in
    let is_other : IsOther one.pair watcher.at other = subst (λ p. IsOther p watcher.at other) same partner.is_other in
    record {
      one = one;
      clause_is = clause_is;
      is_other = is_other;
      within = subst (λ xs. other < length xs) clause_is (other_within _ lists number one.clause one.pair watcher.at other is_other one.listed);
    }

pub partner_number : (state : Search) (lists : List (List Watcher)) (pairs : List Pair) (head base : ℕ) (watcher : Watcher) (other : ℕ) → AreWatched state lists pairs head base → IsPartner pairs watcher other → watcher.number < length state.store
partner_number state lists pairs head base watcher other w partner =
    let below = slice_get_within pairs watcher.number partner.pair partner.paired in
    omega (arith, w.few)

-- a true literal
pub true_at : (bounds clause : List Lit) (at : ℕ) (d : Lit) → at < length clause → IsIn bounds (get_or clause at d) → HasTrue bounds clause
true_at bounds clause at d h a = any_at (IsIn bounds) clause at d h a

pub done_true : (state : Search) (count : ℕ) (key : Lit) (watcher : Watcher) (clause : List Lit) → slice_get state.store watcher.number ≡ Some clause → HasTrue (box state.trail) clause → IsDone state count key watcher
done_true state count key watcher clause among t =
    inl (λ other here. subst (HasTrue (box state.trail)) (some_same clause other (sym among ∙ here)) t)

pub done_left : (state : Search) (count : ℕ) (key : Lit) (watcher : Watcher) → (¬ IsFalseIn (box state.trail) (watched_lit key watcher.bound)) → IsDone state count key watcher
done_left state count key watcher left =
    inr (λ is_false. left (in_box state.trail count (negation (watched_lit key watcher.bound)) is_false))

-- a clause of which all literals but one were false, and that asks for nothing then, has a true literal
pub settled_true : (state : Search) (added : List Lit) (clause : List Lit) (other : ℕ) → AreFalseBut (box state.trail) clause other (length clause) → IsSettled (box (with_more state added).trail) clause → HasTrue (box (with_more state added).trail) clause
settled_true state added clause other all settled =
    let false_now : (k : ℕ) → IsLeftAt (box (with_more state added).trail) clause k → k ≢ other → ⊥ =
    λ k left apart. left.left blank_lit (in_grown state added (negation (get_or clause k blank_lit)) (all k left.within apart blank_lit)) in
    ⊎_elim
    (λ t. t)
    (λ two. ⊎_elim
    (λ (e : two.first ≡ other). absurd (false_now two.second two.other (λ f. omega (arith, two.apart))))
    (λ (e : two.first ≡ other → ⊥). absurd (false_now two.first two.one e))
    (cases_eq two.first other))
    settled

-- a watcher moved to a literal that isn't false
left_pair : (bounds clause : List Lit) (pair : Pair) (at other free : ℕ) → IsOther pair at other → free ≢ other → IsLeftAt bounds clause free → AreLeft bounds clause pair → AreLeft bounds clause (record { first = other; second = free })
left_pair bounds clause pair at other free is apart left l = record {
  apart = λ e. apart (sym e);
  one = ⊎_elim (λ e. subst (IsLeftAt bounds clause) e.1 l.other) (λ e. subst (IsLeftAt bounds clause) e.1 l.one) is.sides;
  other = left;
}

other_listed : (vars : ℕ) (old new : List (List Watcher)) (lost : Watcher) (number : ℕ) (clause : List Lit) (pair : Pair) (at other : ℕ) → KeepsBut lost old new → lost.at ≡ at → IsOther pair at other → (pair.first ≢ pair.second → IsListed vars old number clause pair.first × IsListed vars old number clause pair.second) → IsListed vars new number clause other
other_listed vars old new lost number clause pair at other keeps same is listed =
    let both = listed is.apart in
    ⊎_elim
    (λ e. subst (IsListed vars new number clause) e.1 (listed_but vars old new lost number clause pair.second keeps (λ n f. is.apart (e.0 ∙ sym same ∙ sym f)) both.1))
    (λ e. subst (IsListed vars new number clause) e.1 (listed_but vars old new lost number clause pair.first keeps (λ n f. is.apart (f ∙ same ∙ sym e.0)) both.0))
    is.sides

pub record IsFree (state : Search) (clause : List Lit) (other free : ℕ) : Type 0 where
  pub apart : free ≢ other
  pub left : IsLeftAt (box state.trail) clause free

moved_one : (state : Search) (old new : List (List Watcher)) (pairs : List Pair) (head base : ℕ) (lost : Watcher) (other free : ℕ) (clause : List Lit) → IsKnown state old pairs head base lost.number lost.at other clause → KeepsBut lost old new → IsFree state clause other free
    → IsListed (length state.trail.ranges) new lost.number clause free → lost.number < length pairs
    → IsWatched state new (set pairs lost.number (record { first = other; second = free })) head base lost.number
moved_one state old new pairs head base lost other free clause known keeps is_free listed below =
    let one = known.one in
    let pair : Pair = record { first = other; second = free } in
    let is_free_there : IsFree state one.clause other free = subst (λ xs. IsFree state xs other free) (sym known.clause_is) is_free in
    let here : slice_get (set pairs lost.number pair) lost.number ≡ Some pair =
    slice_get-get_or (set pairs lost.number pair) lost.number pair (omega (arith, length-set pairs lost.number pair)) ∙ ap Some (get_or-set_same pairs lost.number pair pair below) in
    let left_at : (bounds : List Lit) → ((lit : Lit) → IsIn bounds lit → IsIn (box state.trail) lit) → IsLeftAt bounds one.clause free =
    λ bounds up. record { within = is_free_there.left.within; left = λ d a. is_free_there.left.left d (up (negation (get_or one.clause free d)) a) } in
    record {
      clause = one.clause;
      pair = pair;
      among = one.among;
      paired = here;
      listed = λ apart. (
        other_listed _ old new lost lost.number one.clause one.pair lost.at other keeps refl known.is_other one.listed,
        subst (λ xs. IsListed (length state.trail.ranges) new lost.number xs free) (sym known.clause_is) listed,
      );
      stands = ⊎_elim (λ t. inl t)
          (λ l. inr (left_pair (box_with state.trail head) one.clause one.pair lost.at other free known.is_other is_free.apart (left_at (box_with state.trail head) (λ lit a. in_box state.trail head lit a)) l)) one.stands;
      stood = λ level from under. ⊎_elim (λ t. inl t)
          (λ l. inr (left_pair (box_at state.trail level) one.clause one.pair lost.at other free known.is_other is_free.apart (left_at (box_at state.trail level) (λ lit a. in_box state.trail _ lit a)) l)) (one.stood level from under);
    }

pub watched_moved : (state : Search) (old new : List (List Watcher)) (pairs : List Pair) (head base : ℕ) (lost : Watcher) (other free : ℕ) (clause : List Lit) → AreWatched state old pairs head base → IsKnown state old pairs head base lost.number lost.at other clause → KeepsBut lost old new → IsFree state clause other free
    → IsListed (length state.trail.ranges) new lost.number clause free → lost.number < length pairs
    → AreWatched state new (set pairs lost.number (record { first = other; second = free })) head base
watched_moved state old new pairs head base lost other free clause w known keeps is_free listed below =
    let pair : Pair = record { first = other; second = free } in
    let count = length-set pairs lost.number pair in
    record {
      few = omega (arith, w.few);
      places = keeps.same_length ∙ w.places;
      head_within = w.head_within;
      base_within = w.base_within;
      each = λ number h. ⊎_elim
          (λ (e : number ≡ lost.number). subst (λ n. IsWatched state new (set pairs lost.number pair) head base n) (sym e) (moved_one state old new pairs head base lost other free clause known keeps is_free listed below))
          (λ (e : number ≡ lost.number → ⊥). let one = w.each number (omega arith) in record {
            clause = one.clause;
            pair = one.pair;
            among = one.among;
            paired = same_pair pairs lost.number number pair one.pair e one.paired;
            listed = λ apart. let both = one.listed apart in (
              listed_but _ old new lost number one.clause one.pair.first keeps (λ n f. e n) both.0,
              listed_but _ old new lost number one.clause one.pair.second keeps (λ n f. e n) both.1,
            );
            stands = one.stands;
            stood = one.stood;
          })
          (cases_eq number lost.number);
    }
  where
    same_pair : (xs : List Pair) (at k : ℕ) (new x : Pair) → k ≢ at → slice_get xs k ≡ Some x → slice_get (set xs at new) k ≡ Some x
    same_pair xs at k new x apart e =
        let h = slice_get_within xs k x e in
        slice_get-get_or (set xs at new) k x (omega (arith, length-set xs at new)) ∙ ap Some (get_or-set_other xs at k new x apart ∙ get_or_from_slice_get xs k x x e)

-- the literal at the head was worked: a watched literal that it made false was found in the list
same_lit : (key lit : Lit) → lit.term ≡ key.term → lit.side ≡ key.side → watched_lit key lit.bound ≡ lit
same_lit key lit e f = λ i. record { term = sym e i; side = sym f i; bound = lit.bound }

falls_in_list : (vars : ℕ) (put lit : Lit) → Entails put (negation lit) → place_of vars lit.term lit.side ≡ place_of vars (negation put).term (negation put).side
falls_in_list vars put lit e =
    let side : lit.side ≡ other_side put.side = other_back lit.side ∙ ap other_side (sym e.same_side) in
    let term : lit.term ≡ put.term = sym e.same_term in
    ap (λ t. place_of vars t lit.side) term ∙ ap (λ s. place_of vars put.term s) side
  where
    other_back : (side : Side) → side ≡ other_side (other_side side)
    other_back Le = refl
    other_back Ge = refl

still_left : (state : Search) (lists : List (List Watcher)) (head list at number i : ℕ) (clause : List Lit) → AreClauses state → head < length state.trail.lits → list ≡ place_of (length state.trail.ranges) (negation (get_or state.trail.lits head blank_lit)).term (negation (get_or state.trail.lits head blank_lit)).side
    → Exists (length state.trail.ranges) state.trail.rows (get_or state.trail.lits head blank_lit).term
    → AreDone state (head + 1) (negation (get_or state.trail.lits head blank_lit)) (list_at lists list) at → length (list_at lists list) ≤ at
    → slice_get state.store number ≡ Some clause → IsListed (length state.trail.ranges) lists number clause i → IsLeftAt (box_with state.trail head) clause i
    → HasTrue (box state.trail) clause ⊎ IsLeftAt (box_with state.trail (head + 1)) clause i
still_left state lists head list at number i clause clauses behind list_is term done all among listed left =
    let trail = state.trail in
    let vars = length trail.ranges in
    let put = get_or trail.lits head blank_lit in
    let key = negation put in
    let lit = lit_of clause i in
    let place = place_of vars lit.term lit.side in
    let next : suc head ≡ head + 1 = omega arith in
    ⊎_elim
    (λ (e : place ≡ list). let known = All-slice_get (IsClause vars trail.rows) state.store number clause among clauses.each in
    let exists : Exists vars trail.rows lit.term = known.known i blank_lit listed.within in
    let same = same_place vars trail.rows lit.term key.term lit.side key.side exists term (e ∙ list_is) in
    let has : Contains (list_at lists list) (watcher_of number clause i) = subst (λ n. Contains (list_at lists n) (watcher_of number clause i)) e listed.among in
    let it = watcher_of number clause i in
    let here : IsDone state (head + 1) key it = subst (IsDone state (head + 1) key) has.2 (done has.0 (omega (arith, has.1)) it) in
    ⊎_elim
    (λ f. inl (f clause among))
    (λ open_. inr (record { within = listed.within; left = λ d is_false. open_ (subst (IsFalseIn (box_with trail (head + 1))) (get_or_default clause i d blank_lit listed.within ∙ sym (same_lit key lit same.0 same.1)) is_false) }))
    here)
    (λ (e : place ≡ list → ⊥). inr (record {
      within = listed.within;
      left = λ d is_false. ⊎_elim
          (λ before. left.left d before)
          (λ falls. e (subst (λ (l : Lit). place_of vars l.term l.side ≡ place_of vars key.term key.side) (get_or_default clause i d blank_lit listed.within) (falls_in_list vars put (get_or clause i d) falls) ∙ sym list_is))
          (more_cases (range_bounds trail.ranges) trail.lits head blank_lit (negation (get_or clause i d)) behind (subst (λ n. IsIn (box_with trail n) (negation (get_or clause i d))) (sym next) is_false));
    }))
    (cases_eq place list)

pub watched_worked : (state : Search) (lists : List (List Watcher)) (pairs : List Pair) (head base list at : ℕ) → AreClauses state → head < length state.trail.lits → list ≡ place_of (length state.trail.ranges) (negation (get_or state.trail.lits head blank_lit)).term (negation (get_or state.trail.lits head blank_lit)).side
    → Exists (length state.trail.ranges) state.trail.rows (get_or state.trail.lits head blank_lit).term
    → AreDone state (head + 1) (negation (get_or state.trail.lits head blank_lit)) (list_at lists list) at → length (list_at lists list) ≤ at
    → AreWatched state lists pairs head base → AreWatched state lists pairs (head + 1) base
watched_worked state lists pairs head base list at clauses behind list_is term done all w = record {
  few = w.few;
  places = w.places;
  head_within = omega arith;
  base_within = w.base_within;
  each = λ number below. let one = w.each number below in
      let still = λ (i : ℕ). still_left state lists head list at number i one.clause clauses behind list_is term done all one.among in
      record {
        clause = one.clause;
        pair = one.pair;
        among = one.among;
        paired = one.paired;
        listed = one.listed;
        stands = ⊎_elim
            (λ t. inl t)
            (λ l. let both = one.listed l.apart in ⊎_elim
            (λ t. inl t)
            (λ first. ⊎_elim
            (λ t. inl t)
            (λ second. inr (record { apart = l.apart; one = first; other = second }))
            (still one.pair.second both.1 l.other))
            (still one.pair.first both.0 l.one))
            one.stands;
        stood = one.stood;
      };
}

-- a watcher of a list
pub hold_at : (P : Watcher → Type 0) (xs : List Watcher) (at : ℕ) (it : Watcher) → at < length xs → it ≡ get_or xs at it → P it → HoldsAt P xs at
hold_at P xs at it h is p d = subst P (is ∙ get_or_default xs at it d h) p

-- a clause that was settled while all its literals but one were false
pub settled_done : (old new : Search) (before after : Tally) (count : ℕ) (key : Lit) (watcher : Watcher) (clause : List Lit) (other : ℕ) → Propagated old new before after → slice_get old.store watcher.number ≡ Some clause → AreFalseBut (box old.trail) clause other (length clause) → IsSettledAt new watcher.number → IsDone new count key watcher
settled_done old new before after count key watcher clause other p among all settled =
    subst (λ s. IsSettledAt s watcher.number → IsDone s count key watcher) (sym p.grown.lits) (λ here.
    let state = with_more old p.grown.added in
    let same : here.clause ≡ clause = some_same here.clause clause (sym here.among ∙ among) in
    done_true state count key watcher clause among (settled_true old p.grown.added clause other all (subst (IsSettled (box state.trail)) same here.settled))) settled

-- a move
moves_keep : (visit : Visit) (list at target : ℕ) (lost moved : Watcher) (old new : List (List Watcher)) → at < length (list_at old list) → lost ≡ get_or (list_at old list) at lost → Moves visit list at target moved old new → KeepsBut lost old new × Contains (list_at new target) moved
moves_keep Kept list at target lost moved old new h is moves =
    let there : Contains (list_at new list) moved = (at, omega (arith, moves.1.as_many), moves.1.there moved) in
    (moves.1.keeps lost is, subst (λ n. Contains (list_at new n) moved) (sym moves.0) there)
moves_keep Gone list at target lost moved old new h is moves = (moves.0.keeps lost is, moves.1)
moves_keep (Stopped spread) list at target lost moved old new h is moves = absurd moves

pub moved_right : (state : Search) (was now : Watches) (visit : Visit) (list at target : ℕ) (lost moved : Watcher) (other free : ℕ) (clause : List Lit) → IsRight state was → at < length (list_at was.lists list) → lost ≡ get_or (list_at was.lists list) at lost → IsPartner was.pairs.items lost other → slice_get state.store lost.number ≡ Some clause → IsFree state clause other free
    → moved ≡ watcher_of lost.number clause free → target ≡ place_of (length state.trail.ranges) (lit_of clause free).term (lit_of clause free).side → Moves visit list at target moved was.lists now.lists
    → now.pairs.items ≡ set was.pairs.items moved.number (record { first = other; second = moved.at }) → now.head ≡ was.head → now.base ≡ was.base → IsRight state now
moved_right state was now visit list at target lost moved other free clause right h is partner among is_free moved_is target_is moves paired head base =
    let keeps = moves_keep visit list at target lost moved was.lists now.lists h is moves in
    let it = watcher_of lost.number clause free in
    let there : Contains (list_at now.lists target) it = subst (λ (x : Watcher). Contains (list_at now.lists target) x) moved_is keeps.1 in
    let listed : IsListed (length state.trail.ranges) now.lists lost.number clause free = record {
      within = is_free.left.within;
      among = subst (λ (n : ℕ). Contains (list_at now.lists n) it) target_is there;
    } in
    let below = slice_get_within was.pairs.items lost.number partner.pair partner.paired in
    let known = partner_known state was.lists was.pairs.items was.head was.base lost other clause right partner among in
    let pairs : now.pairs.items ≡ set was.pairs.items lost.number (record { first = other; second = free }) = paired ∙ ap (λ (x : Watcher). set was.pairs.items x.number (record { first = other; second = x.at })) moved_is in
    let result = watched_moved state was.lists now.lists was.pairs.items was.head was.base lost other free clause right known keeps.0 is_free listed below in
    subst (λ xs. AreWatched state now.lists xs now.head now.base) (sym pairs)
    (subst (λ n. AreWatched state now.lists (set was.pairs.items lost.number (record { first = other; second = free })) n now.base) (sym head)
    (subst (λ n. AreWatched state now.lists (set was.pairs.items lost.number (record { first = other; second = free })) was.head n) (sym base) result))

pub moved_visits : (visit : Visit) (state : Search) (was now : Watches) (list at target : ℕ) (key : Lit) (moved : Watcher) (tally : Tally) → Moves visit list at target moved was.lists now.lists → now.head ≡ was.head → AreDone state (was.head + 1) key (list_at was.lists list) at → (target ≡ list → IsDone state (was.head + 1) key moved) → Visits visit list at key state was now tally
moved_visits Kept state was now list at target key moved tally moves head done here =
    let new = list_at now.lists list in
    let before = are_done_same state (was.head + 1) key (list_at was.lists list) new at moves.1.before done in
    let all = are_done_next state (was.head + 1) key new at before (λ d. subst (IsDone state (was.head + 1) key) (sym (moves.1.there d)) (here moves.0)) in
    (moves.1.as_many, subst (λ n. AreDone state (n + 1) key new (at + 1)) (sym head) all)
moved_visits Gone state was now list at target key moved tally moves head done here =
    let new = list_at now.lists list in
    let before = are_done_same state (was.head + 1) key (list_at was.lists list) new at moves.0.before done in
    (moves.0.fewer, subst (λ n. AreDone state (n + 1) key new at) (sym head) before)
moved_visits (Stopped spread) state was now list at target key moved tally moves head done here = absurd moves

pub free_done : (state : Search) (count : ℕ) (key : Lit) (list target number free : ℕ) (clause : List Lit) (moved : Watcher) → IsClause (length state.trail.ranges) state.trail.rows clause → Exists (length state.trail.ranges) state.trail.rows key.term → list ≡ place_of (length state.trail.ranges) key.term key.side → target ≡ place_of (length state.trail.ranges) (lit_of clause free).term (lit_of clause free).side → moved ≡ watcher_of number clause free → IsLeftAt (box state.trail) clause free → target ≡ list → IsDone state count key moved
free_done state count key list target number free clause moved known term list_is target_is moved_is left e =
    let lit = lit_of clause free in
    let exists : Exists (length state.trail.ranges) state.trail.rows lit.term = known.known free blank_lit left.within in
    let same = same_place (length state.trail.ranges) state.trail.rows lit.term key.term lit.side key.side exists term (sym target_is ∙ e ∙ list_is) in
    let lit_is : watched_lit key moved.bound ≡ lit = ap (λ (x : Watcher). watched_lit key x.bound) moved_is ∙ same_lit key lit same.0 same.1 in
    done_left state count key moved (λ is_false. left.left blank_lit (subst (IsFalseIn (box state.trail)) lit_is is_false))

-- visits one after another
pub goes_both : (a b c : Search) (x y z : Watches) (s t u : Tally) → Goes a b x y s t → Goes b c y z t u → Goes a c x z s u
goes_both a b c x y z s t u one two = record {
  propagated = propagated_trans a b c s t u one.propagated two.propagated;
  right = two.right;
  same_head = two.same_head ∙ one.same_head;
  same_count = two.same_count ∙ one.same_count;
}

pub visiting_more : (old new : Search) (was now : Watches) (before after : Tally) (key : Lit) (list at next : ℕ) → Goes old new was now before after → IsVisiting old was key list at → AreDone new (now.head + 1) key (list_at now.lists list) next → IsVisiting new now key list next
visiting_more old new was now before after key list at next goes v done =
    let p = goes.propagated in
    let count : length new.trail.lits ≡ length old.trail.lits + length p.grown.added = ap (λ (s : Search). length s.trail.lits) p.grown.lits ∙ length-append old.trail.lits p.grown.added in
    record {
      term = subst (λ (s : Search). Exists (length s.trail.ranges) s.trail.rows key.term) (sym p.grown.lits) v.term;
      list_is = subst (λ (s : Search). list ≡ place_of (length s.trail.ranges) key.term key.side) (sym p.grown.lits) v.list_is;
      behind = omega (arith, goes.same_head, v.behind);
      done = done;
    }

pub worked_right : (old state : Search) (was it : Watches) (before after : Tally) (key : Lit) (list at : ℕ) → Goes old state was it before after → AreClauses old → was.head < length old.trail.lits → key ≡ negation (get_or old.trail.lits was.head blank_lit) → IsVisiting state it key list at → length (list_at it.lists list) ≤ at → AreWatched state it.lists it.pairs.items (it.head + 1) it.base
worked_right old state was it before after key list at goes clauses behind key_is v all =
    let p = goes.propagated in
    let clauses_now : AreClauses state = subst AreClauses (sym p.grown.lits) (record { each = clauses.each; few = clauses.few }) in
    let put : get_or state.trail.lits it.head blank_lit ≡ get_or old.trail.lits was.head blank_lit =
    ap (λ (s : Search). get_or s.trail.lits it.head blank_lit) p.grown.lits ∙ ap (λ n. get_or (old.trail.lits ++ p.grown.added) n blank_lit) goes.same_head ∙ get_or_append_left old.trail.lits p.grown.added blank_lit was.head behind in
    let same : key ≡ negation (get_or state.trail.lits it.head blank_lit) = key_is ∙ ap negation (sym put) in
    watched_worked state it.lists it.pairs.items it.head it.base list at clauses_now v.behind
    (subst (λ (k : Lit). list ≡ place_of (length state.trail.ranges) k.term k.side) same v.list_is)
    (subst (λ (k : Lit). Exists (length state.trail.ranges) state.trail.rows k.term) same v.term)
    (subst (λ (k : Lit). AreDone state (it.head + 1) k (list_at it.lists list) at) same v.done)
    all goes.right
