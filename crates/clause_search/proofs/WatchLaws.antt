-- What is known of watched clauses stays so while the search goes on.
use Rattle.std.proofs.Common.{◌≡◌, ◌≢◌, ◌⊎◌, ℕ, ◌+◌, ◌-◌, ◌*◌, ◌<◌, ◌≤◌, List, [], ◌∷◌, ◌++◌, length, length-append, get_or, set, take, Some, Result, Ok, Err, OnOk, OnErr, All, refl, sym, ap, ◌∙◌, subst, inl, inr, ⊎_elim, arith}
use Rattle.std.specs.Prelude.{slice_get, Contains}
use Rattle.std.proofs.lemmas.Bool.{cases_lt}
use Rattle.bound_trail.specs.Edges.{place_of, blank_lit}
use Rattle.std.proofs.lemmas.List.{get_or_append_left, get_or_push, get_or_default, length_push, length-take-le, take-append-le, take-take, take_at, get_or_past}
use Rattle.std.proofs.lemmas.Option.{slice_get_within, slice_get-get_or, get_or_from_slice_get}
use Rattle.mix_system.specs.declared.literal.Lit.{Lit}
use Rattle.mix_system.specs.declared.tally.Tally.{Tally}
use Rattle.mix_system.specs.Bounds.{Entails, IsIn, IsFalseIn, range_bounds}
use Rattle.mix_system.specs.Lit.{negation}
use Rattle.bound_trail.specs.Trail.{Trail, box, box_with, box_at, level_end, IsCause, IsTrail}
use Rattle.bound_trail.proofs.AnywhereLaws.{any_left, any_right, any_append_cases, any_weaker}
use Rattle.bound_trail.proofs.TrailLaws.{box_is}
use Rattle.bound_trail.proofs.BoxLaws.{in_more, in_box}
use Rattle.clause_search.specs.Search.{Search, present_level, Propagated}
use Rattle.clause_search.specs.Settled.{IsLeftAt, LeavesTwo, HasTrue, IsSettled}
use Rattle.clause_search.specs.Watched.{list_at, lit_of, watcher_of, IsListed, AreListed, AreLeft, Stands, IsWatched, AreWatched}
use Rattle.clause_search.specs.Visited.{Adds, KeepsBut, IsNeither}
use Rattle.clause_search.specs.declared.pairs.Pair.{Pair}
use Rattle.clause_search.specs.declared.watch_lists.Watcher.{Watcher}
use Rattle.clause_search.proofs.LearntLaws.{ends_rise}
use Rattle.clause_search.proofs.ReasonLaws.{slice_get_more, level_end_within}
use Rattle.clause_search.proofs.ListedLaws.{put_there}
use Rattle.clause_search.proofs.QuietLaws.{cut_to, same_end, same_end_only, same_cut}

-- what isn't false by more bounds isn't false by fewer
pub left_weaker : (more fewer clause : List Lit) (at : ℕ) → ((lit : Lit) → IsIn fewer lit → IsIn more lit) → IsLeftAt more clause at → IsLeftAt fewer clause at
left_weaker more fewer clause at up l = record { within = l.within; left = λ d is_false. l.left d (up (negation (get_or clause at d)) is_false) }

pub are_left_weaker : (more fewer clause : List Lit) (pair : Pair) → ((lit : Lit) → IsIn fewer lit → IsIn more lit) → AreLeft more clause pair → AreLeft fewer clause pair
are_left_weaker more fewer clause pair up l = record {
  apart = l.apart;
  one = left_weaker more fewer clause pair.first up l.one;
  other = left_weaker more fewer clause pair.second up l.other;
}

pub true_weaker : (fewer more clause : List Lit) → ((lit : Lit) → IsIn fewer lit → IsIn more lit) → HasTrue fewer clause → HasTrue more clause
true_weaker fewer more clause up t = any_weaker (IsIn fewer) (IsIn more) up clause t

-- nothing is watched
pub none_watched : (state : Search) (lists : List (List Watcher)) (pairs : List Pair) (head base : ℕ) → length pairs ≡ 0 → length lists ≡ 2 * (length state.trail.ranges + state.trail.rows) → head ≡ 0 → base ≤ present_level state → AreWatched state lists pairs head base
none_watched state lists pairs head base none places at_first h = record {
  few = omega arith;
  places = places;
  head_within = omega arith;
  base_within = h;
  each = λ number below. absurd (omega arith);
}

-- one more clause, which isn't watched
pub watched_add : (state : Search) (clause : List Lit) (lists : List (List Watcher)) (pairs : List Pair) (head base : ℕ) → AreWatched state lists pairs head base → AreWatched (record state { store = state.store ++ clause ∷ [] }) lists pairs head base
watched_add state clause lists pairs head base w =
    let count = length_push state.store clause in
    record {
      few = omega (arith, w.few);
      places = w.places;
      head_within = w.head_within;
      base_within = w.base_within;
      each = λ number below. let one = w.each number below in record {
        clause = one.clause;
        pair = one.pair;
        among = slice_get_more state.store (clause ∷ []) number one.clause one.among;
        paired = one.paired;
        listed = one.listed;
        stands = one.stands;
        stood = one.stood;
      };
    }

pub watched_added : {T E : Type 0} (r : Result T E) (old new : Search) (clause : List Lit) (lists : List (List Watcher)) (pairs : List Pair) (head base : ℕ) → OnOk r (new ≡ record old { store = old.store ++ clause ∷ [] }) → OnErr r (new ≡ old) → AreWatched old lists pairs head base → AreWatched new lists pairs head base
watched_added (Ok x) old new clause lists pairs head base e same w =
    subst (λ s. AreWatched s lists pairs head base) (sym e) (watched_add old clause lists pairs head base w)
watched_added (Err x) old new clause lists pairs head base e same w =
    subst (λ s. AreWatched s lists pairs head base) (sym same) w

-- more literals on the trail
abbrev pub with_more : Search → List Lit → Search
with_more state added = record state { trail = record state.trail { lits = state.trail.lits ++ added } }

pub in_grown : (state : Search) (added : List Lit) (lit : Lit) → IsIn (box state.trail) lit → IsIn (box (with_more state added).trail) lit
in_grown state added lit a =
    let P : Lit → Type 0 = λ bound. Entails bound lit in
    let front = range_bounds state.trail.ranges in
    let lits = state.trail.lits in
    ⊎_elim
    (λ b. any_left P front (lits ++ added) b)
    (λ b. any_right P front (lits ++ added) (any_left P lits added b))
    (any_append_cases P front lits a)

same_before : (state : Search) (added : List Lit) (count : ℕ) → count ≤ length state.trail.lits → box_with (with_more state added).trail count ≡ box_with state.trail count
same_before state added count h =
    ap (λ xs. range_bounds state.trail.ranges ++ xs) (take-append-le count state.trail.lits added h)

pub watched_more : (state : Search) (added : List Lit) (lists : List (List Watcher)) (pairs : List Pair) (head base : ℕ) → IsTrail state.trail → AreWatched state lists pairs head base → AreWatched (with_more state added) lists pairs head base
watched_more state added lists pairs head base ok w = record {
  few = w.few;
  places = w.places;
  head_within = omega (arith, w.head_within, length-append state.trail.lits added);
  base_within = w.base_within;
  each = λ number below. let one = w.each number below in record {
    clause = one.clause;
    pair = one.pair;
    among = one.among;
    paired = one.paired;
    listed = one.listed;
    stands = ⊎_elim
        (λ t. inl (true_weaker (box state.trail) (box (with_more state added).trail) one.clause (in_grown state added) t))
        (λ l. inr (subst (λ bounds. AreLeft bounds one.clause one.pair) (sym (same_before state added head w.head_within)) l))
        one.stands;
    stood = λ level from under. subst (λ bounds. Stands bounds bounds one.clause one.pair) (sym (same_end_only state.trail added level ok under)) (one.stood level from under);
  };
}

pub watched_propagated : (old new : Search) (before after : Tally) (lists : List (List Watcher)) (pairs : List Pair) (head base : ℕ) → IsTrail old.trail → Propagated old new before after → AreWatched old lists pairs head base → AreWatched new lists pairs head base
watched_propagated old new before after lists pairs head base ok p w =
    subst (λ s. AreWatched s lists pairs head base) (sym p.grown.lits) (watched_more old p.grown.added lists pairs head base ok w)

-- the end of a decision's level before
end_before : (trail : Trail) (lit : Lit) (level : ℕ) → length trail.levels ≡ level → box_at (record trail { lits = trail.lits ++ lit ∷ []; levels = trail.levels ++ length trail.lits ∷ [] }) level ≡ box trail
end_before trail lit level e =
    let count = length trail.lits in
    let lits = trail.lits ++ lit ∷ [] in
    let here : get_or (trail.levels ++ count ∷ []) level (length lits) ≡ count = get_or_push trail.levels count (length lits) level e in
    ap (λ n. range_bounds trail.ranges ++ take n lits) here ∙ ap (λ xs. range_bounds trail.ranges ++ xs) (take_at trail.lits (lit ∷ []) count refl)

abbrev pub with_level : Search → Lit → Search
with_level state lit = record state { trail = record state.trail { lits = state.trail.lits ++ lit ∷ []; levels = state.trail.levels ++ length state.trail.lits ∷ [] } }

-- nothing was missed at the end of the level before, or the new level is the base
abbrev pub IsBaseFor : Search → (head base new : ℕ) → Type 0
IsBaseFor state head base new =
    ((head ≡ length state.trail.lits) × (new ≡ base)) ⊎ (new ≡ present_level state + 1)

base_rises : (state : Search) (head base new : ℕ) → base ≤ present_level state → IsBaseFor state head base new → (base ≤ new) × (new ≤ present_level state + 1)
base_rises state head base new h is =
    ⊎_elim (λ e. (omega (arith, e.1), omega (arith, e.1))) (λ e. (omega arith, omega arith)) is

stood_decided : (state : Search) (lit : Lit) (head base new : ℕ) (clause : List Lit) (pair : Pair) → IsTrail state.trail → IsBaseFor state head base new → Stands (box state.trail) (box_with state.trail head) clause pair
    → ((level : ℕ) → base ≤ level → level < present_level state → Stands (box_at state.trail level) (box_at state.trail level) clause pair)
    → base ≤ new → (level : ℕ) → new ≤ level → level < present_level state + 1 → Stands (box_at (with_level state lit).trail level) (box_at (with_level state lit).trail level) clause pair
stood_decided state lit head base new clause pair ok is stands stood rises level from under =
    let trail = state.trail in
    ⊎_elim
    (λ (below : level < length trail.levels). subst (λ bounds. Stands bounds bounds clause pair) (sym (same_end trail (lit ∷ []) (length trail.lits ∷ []) level ok below)) (stood level (omega arith) below))
    (λ past. ⊎_elim
    (λ same. let e : length trail.levels ≡ level = omega arith in
    let whole : box_with trail head ≡ box trail = ap (box_with trail) same.0 ∙ box_is trail in
    subst (λ bounds. Stands bounds bounds clause pair) (sym (end_before trail lit level e)) (subst (λ bounds. Stands (box trail) bounds clause pair) whole stands))
    (λ raised. absurd (omega arith))
    is)
    (cases_lt level (length trail.levels))

pub watched_decided : (state : Search) (lit : Lit) (lists : List (List Watcher)) (pairs : List Pair) (head base new : ℕ) → IsTrail state.trail → IsBaseFor state head base new → AreWatched state lists pairs head base → AreWatched (with_level state lit) lists pairs head new
watched_decided state lit lists pairs head base new ok is w =
    let trail = state.trail in
    let levels = length_push trail.levels (length trail.lits) in
    let rises = base_rises state head base new w.base_within is in
    record {
      few = w.few;
      places = w.places;
      head_within = omega (arith, w.head_within, length_push trail.lits lit);
      base_within = omega (arith, rises.1);
      each = λ number below. let one = w.each number below in record {
        clause = one.clause;
        pair = one.pair;
        among = one.among;
        paired = one.paired;
        listed = one.listed;
        stands = ⊎_elim
            (λ t. inl (true_weaker (box trail) (box (with_level state lit).trail) one.clause (in_grown state (lit ∷ [])) t))
            (λ l. inr (subst (λ bounds. AreLeft bounds one.clause one.pair) (sym (same_before state (lit ∷ []) head w.head_within)) l))
            one.stands;
        stood = λ level from under. stood_decided state lit head base new one.clause one.pair ok is one.stands one.stood rises.0 level from (omega arith);
      };
    }

-- going back to a level from the base on
in_cut : (trail : Trail) (level head : ℕ) (lit : Lit) → head ≤ level_end trail level → IsIn (box_with (cut_to trail level) head) lit → IsIn (box_at trail level) lit
in_cut trail level head lit h a =
    in_more trail head (level_end trail level) lit h (subst (λ xs. IsIn (range_bounds trail.ranges ++ xs) lit) (take-take head (level_end trail level) trail.lits h) a)

stands_back : (trail : Trail) (level head new : ℕ) (clause : List Lit) (pair : Pair) → IsTrail trail → level ≤ length trail.levels → new ≤ head → new ≤ level_end trail level
    → Stands (box trail) (box_with trail head) clause pair
    → (level < length trail.levels → Stands (box_at trail level) (box_at trail level) clause pair)
    → Stands (box (cut_to trail level)) (box_with (cut_to trail level) new) clause pair
stands_back trail level head new clause pair ok h lower within stands stood =
    ⊎_elim
    (λ (below : level < length trail.levels). ⊎_elim
    (λ t. inl t)
    (λ l. inr (are_left_weaker (box_at trail level) (box_with (cut_to trail level) new) clause pair (λ lit a. in_cut trail level new lit within a) l))
    (stood below))
    (λ past. let e : level_end trail level ≡ length trail.lits = get_or_past trail.levels level (length trail.lits) past in
    let whole : box_at trail level ≡ box trail = ap (box_with trail) e ∙ box_is trail in
    ⊎_elim
    (λ t. inl (subst (λ bounds. HasTrue bounds clause) (sym whole) t))
    (λ l. inr (are_left_weaker (box_with trail head) (box_with (cut_to trail level) new) clause pair
    (λ lit a. in_more trail new head lit lower (subst (λ xs. IsIn (range_bounds trail.ranges ++ xs) lit) (take-take new (level_end trail level) trail.lits within) a)) l))
    stands)
    (cases_lt level (length trail.levels))

pub watched_back : (old new : Search) (level : ℕ) (lists : List (List Watcher)) (pairs : List Pair) (head less base : ℕ) → IsTrail old.trail → level ≤ present_level old → base ≤ level → less ≤ head → less ≤ level_end old.trail level → new.store ≡ old.store → new.trail ≡ cut_to old.trail level → AreWatched old lists pairs head base → AreWatched new lists pairs less base
watched_back old new level lists pairs head less base ok h from lower within store trail w =
    let cut : Search = record { store = old.store; trail = cut_to old.trail level } in
    let same : new ≡ cut = λ i. record { store = store i; trail = trail i } in
    let short = length-take-le level old.trail.levels h in
    let count = length-take-le (level_end old.trail level) old.trail.lits (level_end_within old.trail level ok) in
    let watched : AreWatched cut lists pairs less base = record {
      few = w.few;
      places = w.places;
      head_within = omega arith;
      base_within = omega arith;
      each = λ number below. let one = w.each number below in record {
        clause = one.clause;
        pair = one.pair;
        among = one.among;
        paired = one.paired;
        listed = one.listed;
        stands = stands_back old.trail level head less one.clause one.pair ok h lower within one.stands (λ under. one.stood level from under);
        stood = λ earlier at_least under. let below_level : earlier < level = omega arith in
            subst (λ bounds. Stands bounds bounds one.clause one.pair) (sym (same_cut old.trail level earlier ok h below_level)) (one.stood earlier at_least (omega arith));
      };
    } in
    subst (λ s. AreWatched s lists pairs less base) (sym same) watched

-- more watchers
pub listed_more : (vars : ℕ) (old new : List (List Watcher)) (number : ℕ) (clause : List Lit) (at : ℕ) → Adds old new → IsListed vars old number clause at → IsListed vars new number clause at
listed_more vars old new number clause at adds l = record {
  within = l.within;
  among = adds.kept _ _ l.among;
}

pub watched_adds : (state : Search) (old new : List (List Watcher)) (pairs : List Pair) (head base : ℕ) → Adds old new → AreWatched state old pairs head base → AreWatched state new pairs head base
watched_adds state old new pairs head base adds w = record {
  few = w.few;
  places = adds.same_length ∙ w.places;
  head_within = w.head_within;
  base_within = w.base_within;
  each = λ number below. let one = w.each number below in record {
    clause = one.clause;
    pair = one.pair;
    among = one.among;
    paired = one.paired;
    listed = λ apart. let both = one.listed apart in (listed_more _ old new number one.clause one.pair.first adds both.0, listed_more _ old new number one.clause one.pair.second adds both.1);
    stands = one.stands;
    stood = one.stood;
  };
}

-- one watcher fewer, which no pair asks for
pub listed_but : (vars : ℕ) (old new : List (List Watcher)) (lost : Watcher) (number : ℕ) (clause : List Lit) (at : ℕ) → KeepsBut lost old new → ((number ≡ lost.number) → (at ≡ lost.at) → ⊥) → IsListed vars old number clause at → IsListed vars new number clause at
listed_but vars old new lost number clause at keeps apart l = record {
  within = l.within;
  among = keeps.kept _ (watcher_of number clause at) (λ (e : watcher_of number clause at ≡ lost). apart (ap (λ (it : Watcher). it.number) e) (ap (λ (it : Watcher). it.at) e)) l.among;
}

pub watched_but : (state : Search) (old new : List (List Watcher)) (pairs : List Pair) (head base : ℕ) (lost : Watcher) → KeepsBut lost old new → ((pair : Pair) → slice_get pairs lost.number ≡ Some pair → IsNeither pair lost.at) → AreWatched state old pairs head base → AreWatched state new pairs head base
watched_but state old new pairs head base lost keeps stale w = record {
  few = w.few;
  places = keeps.same_length ∙ w.places;
  head_within = w.head_within;
  base_within = w.base_within;
  each = λ number below. let one = w.each number below in record {
    clause = one.clause;
    pair = one.pair;
    among = one.among;
    paired = one.paired;
    listed = λ apart. let both = one.listed apart in
        let neither = λ (e : number ≡ lost.number). stale one.pair (subst (λ n. slice_get pairs n ≡ Some one.pair) e one.paired) apart in (
          listed_but _ old new lost number one.clause one.pair.first keeps (λ e f. (neither e).0 (sym f)) both.0,
          listed_but _ old new lost number one.clause one.pair.second keeps (λ e f. (neither e).1 (sym f)) both.1,
        );
    stands = one.stands;
    stood = one.stood;
  };
}

-- a settled clause is watched from now on
pub watched_next : (state : Search) (lists : List (List Watcher)) (pairs : List Pair) (head base new : ℕ) (clause : List Lit) (pair : Pair) → slice_get state.store (length pairs) ≡ Some clause
    → (pair.first ≢ pair.second → IsListed (length state.trail.ranges) lists (length pairs) clause pair.first × IsListed (length state.trail.ranges) lists (length pairs) clause pair.second)
    → Stands (box state.trail) (box state.trail) clause pair
    → (((level : ℕ) → level < present_level state → AreLeft (box_at state.trail level) clause pair) × (new ≡ base)) ⊎ (new ≡ present_level state)
    → AreWatched state lists pairs head base → AreWatched state lists (pairs ++ pair ∷ []) head new
watched_next state lists pairs head base new clause pair among listed stands levels w =
    let count = length_push pairs pair in
    let store_within = slice_get_within state.store (length pairs) clause among in
    let rises : (base ≤ new) × (new ≤ present_level state) = ⊎_elim (λ e. (omega (arith, e.1), omega (arith, e.1, w.base_within))) (λ e. (omega (arith, w.base_within), omega arith)) levels in
    record {
      few = omega arith;
      places = w.places;
      head_within = w.head_within;
      base_within = rises.1;
      each = λ number below. ⊎_elim
          (λ (before : number < length pairs). let one = w.each number before in record {
            clause = one.clause;
            pair = one.pair;
            among = one.among;
            paired = slice_get_pair pairs pair number one.pair one.paired;
            listed = one.listed;
            stands = one.stands;
            stood = λ level from under. one.stood level (omega (arith, rises.0)) under;
          })
          (λ past. let e : length pairs ≡ number = omega arith in subst (λ n. IsWatched state lists (pairs ++ pair ∷ []) head new n) e (record {
            clause = clause;
            pair = pair;
            among = among;
            paired = slice_get-get_or (pairs ++ pair ∷ []) (length pairs) pair (omega arith) ∙ ap Some (get_or_push pairs pair pair (length pairs) refl);
            listed = listed;
            stands = ⊎_elim (λ t. inl t) (λ l. inr (are_left_weaker (box state.trail) (box_with state.trail head) clause pair (λ lit a. in_box state.trail head lit a) l)) stands;
            stood = λ level from under. ⊎_elim (λ l. inr (l.0 level under)) (λ (raised : new ≡ present_level state). absurd (omega arith)) levels;
          }))
          (cases_lt number (length pairs));
    }
  where
    slice_get_pair : (xs : List Pair) (x : Pair) (at : ℕ) (y : Pair) → slice_get xs at ≡ Some y → slice_get (xs ++ x ∷ []) at ≡ Some y
    slice_get_pair xs x at y e =
        let h = slice_get_within xs at y e in
        slice_get-get_or (xs ++ x ∷ []) at y (omega (arith, length_push xs x)) ∙ ap Some (get_or_append_left xs (x ∷ []) y at h ∙ get_or_from_slice_get xs at y y e)

-- every clause asks for nothing where all are watched and the trail was worked to its end
leaves_two : (bounds clause : List Lit) (pair : Pair) → AreLeft bounds clause pair → LeavesTwo bounds clause
leaves_two bounds clause pair l =
    ⊎_elim
    (λ (h : pair.first < pair.second). record { first = pair.first; second = pair.second; apart = h; one = l.one; other = l.other })
    (λ past. ⊎_elim
    (λ (h : pair.second < pair.first). record { first = pair.second; second = pair.first; apart = h; one = l.other; other = l.one })
    (λ also. absurd (l.apart (omega arith)))
    (cases_lt pair.second pair.first))
    (cases_lt pair.first pair.second)

pub watched_quiet : (state : Search) (lists : List (List Watcher)) (pairs : List Pair) (head base : ℕ) → length pairs ≡ length state.store → length state.trail.lits ≤ head → AreWatched state lists pairs head base → All (IsSettled (box state.trail)) state.store
watched_quiet state lists pairs head base all at_end w k d h =
    let one = w.each k (omega arith) in
    let e : head ≡ length state.trail.lits = omega (arith, w.head_within) in
    let whole : box_with state.trail head ≡ box state.trail = ap (box_with state.trail) e ∙ box_is state.trail in
    let settled : IsSettled (box state.trail) one.clause = ⊎_elim (λ t. inl t) (λ l. inr (leaves_two (box state.trail) one.clause one.pair (subst (λ bounds. AreLeft bounds one.clause one.pair) whole l))) one.stands in
    subst (IsSettled (box state.trail)) (sym (get_or_from_slice_get state.store k one.clause d one.among)) settled

-- a literal that became false on the present level wasn't false at the end of a lower one
pub was_left_below : (trail : Trail) (lit : Lit) (place level : ℕ) → IsTrail trail → IsCause trail lit place → get_or trail.levels (length trail.levels - 1) 0 ≤ place → level < length trail.levels → IsFalseIn (box_at trail level) lit → ⊥
was_left_below trail lit place level ok cause from below is_false =
    let last = length trail.levels - 1 in
    let end : level_end trail last ≡ get_or trail.levels last 0 = get_or_default trail.levels last (length trail.lits) 0 (omega arith) in
    let rises = ends_rise trail level last ok (omega arith) in
    cause.first (in_more trail (level_end trail level) place (negation lit) (omega arith) is_false)

pub left_at : (bounds clause : List Lit) (at : ℕ) → at < length clause → (IsFalseIn bounds (get_or clause at blank_lit) → ⊥) → IsLeftAt bounds clause at
left_at bounds clause at h left = record { within = h; left = λ d. subst (λ lit. ¬ IsFalseIn bounds lit) (get_or_default clause at blank_lit d h) left }

-- the literal's list has its watcher
pub listed_put : {T E : Type 0} (r : Result T E) (vars : ℕ) (old new : List (List Watcher)) (number : ℕ) (clause : List Lit) (at list : ℕ) → at < length clause → list ≡ place_of vars (lit_of clause at).term (lit_of clause at).side → list < length old → OnOk r (new ≡ set old list (list_at old list ++ watcher_of number clause at ∷ [])) → OnOk r (IsListed vars new number clause at)
listed_put (Ok x) vars old new number clause at list h is within e = record {
  within = h;
  among = subst (λ (n : ℕ). Contains (list_at new n) (watcher_of number clause at)) is (subst (λ lists. Contains (list_at lists list) (watcher_of number clause at)) (sym e) (put_there old list (watcher_of number clause at) within));
}
listed_put (Err x) vars old new number clause at list h is within e = tt

-- both literals of a pair
pub pair_listed : {T E : Type 0} (r : Result T E) (vars : ℕ) (mid new : List (List Watcher)) (number : ℕ) (clause : List Lit) (pair : Pair) → Adds mid new → IsListed vars mid number clause pair.first → OnOk r (IsListed vars new number clause pair.second) → OnOk r (AreListed vars new number clause pair)
pair_listed (Ok x) vars mid new number clause pair adds first second = λ apart. (listed_more vars mid new number clause pair.first adds first, second)
pair_listed (Err x) vars mid new number clause pair adds first second = tt
