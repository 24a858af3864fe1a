-- Running hints from the marks beside a trail.
use Rattle.std.proofs.Common.{◌≡◌, ℕ, ◌+◌, ◌<◌, ◌≤◌, List, [], ◌∷◌, ◌++◌, length, get_or, map, Some, All, refl, sym, ap, subst, inl, inr, ⊎_elim, arith}
use Rattle.std.specs.Prelude.{Contains}
use Rattle.std.proofs.lemmas.Bool.{cases_lt}
use Rattle.std.proofs.lemmas.List.Elements.{All-contains, All-contains_itself, Contains-append_left, Contains-append_right}
use Rattle.mix_system.specs.declared.literal.Lit.{Lit}
use Rattle.mix_system.specs.Lit.{negation}
use Rattle.mix_system.specs.Bounds.{IsIn, IsFalseIn, range_bounds, unit_bounds}
use Rattle.mix_system.specs.Follows.{Known, LeavesNone, LeavesOne, Propagates, Follows}
use Rattle.mix_system.proofs.BoundLaws.{IsIn-here, IsIn-there, IsIn-cons_cases, IsIn-append_left, IsIn-append_right, IsIn-append_cases, IsIn-entailed}
use Rattle.bound_trail.specs.Edges.{blank_lit}
use Rattle.bound_trail.specs.Trail.{box, box_with, IsTrail}
use Rattle.bound_trail.proofs.BoxLaws.{in_box, consistent_box, in_ranges}
use Rattle.clause_search.specs.Search.{Search, known, single_bounds}
use Rattle.clause_search.specs.declared.marks.Mark.{Mark}
use Rattle.clause_search.specs.Marks.{lit_at, IsSeen, IsMarked, IsCovered, IsUsed}
use Rattle.clause_search.specs.Runs.{Runs, IsAim, IsReady, HasRun}
use Rattle.clause_search.proofs.MarkLaws.{cause_before, trail_true}

-- one more hint
pub runs_push : (known : Known) (first mid : List Lit) (hints : List ℕ) (hint : ℕ) (clause : List Lit) (lit : Lit) → known hint ≡ Some clause → LeavesOne mid clause lit → Runs known first hints mid → Runs known first (hints ++ hint ∷ []) (lit ∷ mid)
runs_push known first mid [] hint clause lit among one runs =
    (clause, lit, among, subst (λ xs. LeavesOne xs clause lit) (sym runs) one, ap (λ xs. lit ∷ xs) runs)
runs_push known first mid (next ∷ hints) hint clause lit among one runs =
    (runs.0, runs.1, runs.2, runs.3, runs_push known (runs.1 ∷ first) mid hints hint clause lit among one runs.4)

-- the last hint names a clause with no literal left
pub runs_end : (known : Known) (first last : List Lit) (hints : List ℕ) (hint : ℕ) (clause : List Lit) → known hint ≡ Some clause → LeavesNone last clause → Runs known first hints last → Propagates known first (hints ++ hint ∷ [])
runs_end known first last [] hint clause among none runs =
    (clause, among, subst (λ xs. LeavesNone xs clause) (sym runs) none)
runs_end known first last (next ∷ []) hint clause among none runs =
    (runs.0, runs.1, runs.2, runs.3, runs_end known (runs.1 ∷ first) last [] hint clause among none runs.4)
runs_end known first last (next ∷ other ∷ hints) hint clause among none runs =
    (runs.0, runs.1, runs.2, runs.3, runs_end known (runs.1 ∷ first) last (other ∷ hints) hint clause among none runs.4)

-- no hint was run
pub has_run_none : (state : Search) (marks : List Mark) (lits : List Lit) (end last : ℕ) → IsReady state marks lits end last → HasRun state marks lits end 0 []
has_run_none state marks lits end last ready =
    let front = map negation lits in
    let range_list = range_bounds state.trail.ranges in
    let single_list = unit_bounds state.store in
    record {
      bounds = front ++ single_bounds state;
      runs = refl;
      ranges = λ lit a. IsIn-append_right front (range_list ++ single_list) lit (IsIn-append_left range_list single_list lit a);
      singles = λ lit a. IsIn-append_right front (range_list ++ single_list) lit (IsIn-append_right range_list single_list lit a);
      seen = λ k h is. IsIn-append_left front (range_list ++ single_list) (lit_at state.trail k) (ready.seen k h is);
      marked = λ k h g is. absurd (omega arith);
      only = λ lit a. ⊎_elim
          (λ b. inl (ready.only lit b))
          (λ b. ⊎_elim (λ c. inl (in_box state.trail 0 lit (in_ranges state.trail 0 lit c))) (λ c. inr c) (IsIn-append_cases range_list single_list lit b))
          (IsIn-append_cases front (range_list ++ single_list) lit a);
    }

-- a place that is clear or seen adds no hint
pub has_run_skip : (state : Search) (marks : List Mark) (lits : List Lit) (end at : ℕ) (hints : List ℕ) → (IsMarked marks at → IsSeen marks at) → HasRun state marks lits end at hints → HasRun state marks lits end (at + 1) hints
has_run_skip state marks lits end at hints or_seen run = record {
  bounds = run.bounds;
  runs = run.runs;
  ranges = run.ranges;
  singles = run.singles;
  seen = run.seen;
  marked = λ k h g is. ⊎_elim
      (λ before. run.marked k before g is)
      (λ past. let e : at ≡ k = omega arith in
      run.seen k g (subst (λ n. IsMarked marks n → IsSeen marks n) e or_seen is))
      (cases_lt k at);
  only = run.only;
}

module _ (state : Search) (marks : List Mark) (lits : List Lit) (end at : ℕ) (hints : List ℕ) (ok : IsTrail state.trail) (run : HasRun state marks lits end at hints) where
  -- a covered literal that was false before the place is false by now
  false_by_now : (lit : Lit) → at ≤ end → IsFalseIn (box_with state.trail at) lit → IsCovered state.trail marks lit → IsFalseIn run.bounds lit
  false_by_now lit within before covered =
      ⊎_elim
      (λ range. run.ranges (negation lit) range)
      (λ p. let below = cause_before state.trail lit p.0 at p.2 before in
      IsIn-entailed run.bounds (lit_at state.trail p.0) (negation lit) (run.marked p.0 below (omega arith) p.1) (p.2.falsifies blank_lit))
      covered

  -- so a reason leaves the literal that it implied
  leaves_by_now : (number : ℕ) → (at_end : at < end) → end ≤ length state.trail.lits → (¬ IsFalseIn (unit_bounds state.store) (lit_at state.trail at)) → (used : IsUsed state marks number at) → LeavesOne run.bounds used.clause (lit_at state.trail at)
  leaves_by_now number at_end within calm used =
      let trail = state.trail in
      let one = used.implied blank_lit in
      let put = lit_at trail at in
      let covered : (lit : Lit) → Contains used.clause lit → IsFalseIn (box trail) lit → IsCovered trail marks lit =
      λ lit among is_false. All-contains (λ x. IsFalseIn (box trail) x → IsCovered trail marks x) used.clause lit used.covered among is_false in
      let each : (xs : List Lit) → ((lit : Lit) → Contains xs lit → Contains used.clause lit) → All (IsFalseIn (box_with trail at)) xs → All (IsFalseIn run.bounds) xs =
      λ xs among all k d h. let lit = get_or xs k d in
      let is_false = all k d h in
      let is_among : Contains xs lit = All-contains_itself xs k d h in
      false_by_now lit (omega arith) is_false (covered lit (among lit is_among) (in_box trail at (negation lit) is_false)) in
      record {
        before = one.before;
        after = one.after;
        split = one.split;
        before_false = each one.before (λ lit h. subst (λ xs. Contains xs lit) (sym one.split) (Contains-append_left one.before (put ∷ one.after) lit h)) one.before_false;
        after_false = each one.after (λ lit h. subst (λ xs. Contains xs lit) (sym one.split) (Contains-append_right one.before (put ∷ one.after) lit (Contains-append_right (put ∷ []) one.after lit h))) one.after_false;
        left = λ is_false. ⊎_elim
            (λ a. consistent_box trail ok put (trail_true trail at (omega arith)) a)
            (λ a. calm a)
            (run.only (negation put) is_false);
      }

  -- a place whose reason is used adds it
  pub has_run_used : (number : ℕ) → at < end → end ≤ length state.trail.lits → (¬ IsFalseIn (unit_bounds state.store) (lit_at state.trail at)) → IsUsed state marks number at → HasRun state marks lits end (at + 1) (hints ++ number ∷ [])
  has_run_used number at_end within calm used =
      let put = lit_at state.trail at in
      record {
        bounds = put ∷ run.bounds;
        runs = runs_push (known state) (map negation lits ++ single_bounds state) run.bounds hints number used.clause put used.among (leaves_by_now number at_end within calm used) run.runs;
        ranges = λ lit a. IsIn-there put run.bounds lit (run.ranges lit a);
        singles = λ lit a. IsIn-there put run.bounds lit (run.singles lit a);
        seen = λ k h is. IsIn-there put run.bounds (lit_at state.trail k) (run.seen k h is);
        marked = λ k h g is. ⊎_elim
            (λ before. IsIn-there put run.bounds (lit_at state.trail k) (run.marked k before g is))
            (λ past. let e : at ≡ k = omega arith in subst (λ n. IsIn (put ∷ run.bounds) (lit_at state.trail n)) e (IsIn-here put run.bounds))
            (cases_lt k at);
        only = λ lit a. ⊎_elim
            (λ e. inl (IsIn-entailed (box state.trail) put lit (trail_true state.trail at (omega arith)) e))
            (λ b. run.only lit b)
            (IsIn-cons_cases put run.bounds lit a);
      }

-- the clause aimed at has no literal left
pub has_run_end : (state : Search) (marks : List Mark) (lits : List Lit) (end last : ℕ) (hints : List ℕ) → IsAim state end last → IsReady state marks lits end last → IsTrail state.trail → HasRun state marks lits end end hints → Follows lits (hints ++ last ∷ []) (single_bounds state) (known state)
has_run_end state marks lits end last hints aim ready ok run =
    let trail = state.trail in
    let covered = ready.covered aim.clause aim.among in
    let none : LeavesNone run.bounds aim.clause = λ k d h.
    let lit = get_or aim.clause k d in
    ⊎_elim
    (λ before. false_by_now state marks lits end end hints ok run lit (omega arith) before (covered k d h (in_box trail end (negation lit) before)))
    (λ single. run.singles (negation lit) single)
    (aim.broken k d h) in
    runs_end (known state) (map negation lits ++ single_bounds state) run.bounds hints last aim.clause aim.among none run.runs
