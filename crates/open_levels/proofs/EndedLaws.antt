-- Steps in flat memory: their clauses stay as they are when literals are put behind or given back.
use Rattle.std.proofs.Common.{◌≡◌, ◌≢◌, ◌+◌, ◌-◌, ◌<◌, ◌≤◌, ℕ, zero, suc, List, [], ◌∷◌, ◌++◌, length, length-append, map, take, drop, get_or, Bool, false, Option, Some, None, refl, sym, ◌∙◌, ap, subst, ⊎_elim, All, arith}
use Rattle.std.specs.Prelude.{MatchOption}
use Rattle.std.specs.List.{AllPairs}
use Rattle.std.proofs.lemmas.Bool.{cases_lt}
use Rattle.std.proofs.lemmas.List.{map-append, take-append-le, take-take, take_all, drop_at, get_or-map, get_or-take, get_or_default, length-map, take-map, length-take-le}
use Rattle.std.proofs.lemmas.List.Elements.{All-weaker, All-push, All-map, All-head, All-tail}
use Rattle.std.proofs.lemmas.List.Quantifiers.{all_pairs_push}
use Rattle.std.proofs.lemmas.Slice.{between_is}
use Rattle.mix_system.specs.declared.literal.Lit.{Lit}
use Rattle.proof_term.specs.Levels.{Finished}
use Rattle.open_levels.specs.declared.ended.StepMark.{StepMark}
use Rattle.open_levels.specs.Flat.{step_at, steps, Rises, Precedes, AreOrdered, AreMarks, AreSmaller, AreGreater, IsAt, IsMarkAt}

abbrev EndsBy : ℕ → StepMark → Type 0
EndsBy k mark = mark.to ≤ k

-- the steps of the same literals up to a place
step_same : (a b : List Lit) (k : ℕ) (mark : StepMark) → take k a ≡ take k b → mark.to ≤ k → step_at a mark ≡ step_at b mark
step_same a b k mark same ends =
    let part : take mark.to a ≡ take mark.to b = sym (take-take mark.to k a ends) ∙ ap (take mark.to) same ∙ take-take mark.to k b ends in
    ap (λ (c : List Lit). record { number = mark.number; clause = c; is_cut = mark.is_cut })
    (between_is a mark.from mark.to ∙ ap (drop mark.from) part ∙ sym (between_is b mark.from mark.to))

steps_same : (a b : List Lit) (k : ℕ) (marks : List StepMark) → take k a ≡ take k b → All (EndsBy k) marks → steps a marks ≡ steps b marks
steps_same a b k [] same ends = refl
steps_same a b k (mark ∷ marks) same ends =
    let one = step_same a b k mark same (All-head (EndsBy k) mark marks ends) in
    let rest = steps_same a b k marks same (All-tail (EndsBy k) mark marks ends) in
    rw (one, rest) refl

-- literals put behind

module _ (lits more : List Lit) (marks : List StepMark) (kept : AreMarks (length lits) marks) where
  ends_within : All (EndsBy (length lits)) marks
  ends_within = All-weaker (λ mark. (mark.from ≤ mark.to) × (mark.to ≤ length lits)) (EndsBy (length lits)) (λ mark both. both.1) marks kept.within

  pub steps_more : steps (lits ++ more) marks ≡ steps lits marks
  steps_more = steps_same (lits ++ more) lits (length lits) marks (take-append-le (length lits) lits more (omega arith)) ends_within

  pub marks_more : AreMarks (length (lits ++ more)) marks
  marks_more = record {
    within = All-weaker (λ mark. (mark.from ≤ mark.to) × (mark.to ≤ length lits)) (λ mark. (mark.from ≤ mark.to) × (mark.to ≤ length (lits ++ more)))
        (λ mark both. (both.0, within mark both.1)) marks kept.within;
    ordered = kept.ordered;
  }
    where
      within : (mark : StepMark) → mark.to ≤ length lits → mark.to ≤ length (lits ++ more)
      within mark le = rw length-append (omega (arith, le))

  -- a step whose literals were put behind
  module _ (number from to : ℕ) (is_cut : Bool) (from_is : from ≡ length lits) (to_is : to ≡ length (lits ++ more)) where
    abbrev new_mark : StepMark
    new_mark = record { number = number; from = from; to = to; is_cut = is_cut }

    last_step : step_at (lits ++ more) new_mark ≡ record { number = number; clause = more; is_cut = is_cut }
    last_step =
        ap (λ (c : List Lit). record { number = number; clause = c; is_cut = is_cut })
        (between_is (lits ++ more) from to ∙ ap (drop from) (take_all to (lits ++ more) (omega (arith, to_is))) ∙ drop_at lits more from (sym from_is))

    pub steps_pushed : steps (lits ++ more) (marks ++ new_mark ∷ []) ≡ steps lits marks ++ record { number = number; clause = more; is_cut = is_cut } ∷ []
    steps_pushed =
        map-append (step_at (lits ++ more)) marks (new_mark ∷ [])
        ∙ ap (λ (xs : List Finished). xs ++ step_at (lits ++ more) new_mark ∷ []) steps_more
        ∙ ap (λ (f : Finished). steps lits marks ++ f ∷ []) last_step

    pub marks_pushed : All (λ step. step.number < number) (steps lits marks) → AreMarks (length (lits ++ more)) (marks ++ new_mark ∷ [])
    marks_pushed below = record {
      within = All-push (λ mark. (mark.from ≤ mark.to) × (mark.to ≤ length (lits ++ more))) marks new_mark marks_more.within (order, omega (arith, to_is));
      ordered = all_pairs_push Precedes marks new_mark kept.ordered (λ k d within. (smaller k d within, rw from_is (kept.within k d within).1));
    }
      where
        order : from ≤ to
        order = let whole : length lits ≤ length (lits ++ more) = rw length-append (omega arith) in omega (arith, from_is, to_is, whole)

        smaller : (k : ℕ) (d : StepMark) → k < length marks → (get_or marks k d).number < number
        smaller k d within =
            let here = below k (step_at lits d) (rw length-map within) in
            subst (λ (f : Finished). f.number < number) (get_or-map (step_at lits) marks k d (step_at lits d) within) here

-- the steps before a place

module _ (lits : List Lit) (marks : List StepMark) (count : ℕ) (d : StepMark) (kept : AreMarks (length lits) marks) (within : count < length marks) where
  abbrev from : ℕ
  from = (get_or marks count d).from

  from_within : from ≤ length lits
  from_within = let both = kept.within count d within in omega (arith, both.0, both.1)

  ends_before : All (EndsBy from) (take count marks)
  ends_before k e less =
      let before : k < count = omega (arith, less, length-take-le count marks (omega (arith, within))) in
      let order = kept.ordered k count e before within in
      let same : (get_or marks count e).from ≡ from = ap (λ (m : StepMark). m.from) (get_or_default marks count e d within) in
      rw get_or-take (omega (arith, order.1, same))

  pub steps_kept : steps (take from lits) (take count marks) ≡ take count (steps lits marks)
  steps_kept =
      steps_same (take from lits) lits from (take count marks) (take-take from from lits (omega arith)) ends_before
      ∙ sym (take-map (step_at lits) count marks)

  pub marks_kept : AreMarks (length (take from lits)) (take count marks)
  marks_kept = record { within = all; ordered = pairs }
    where
      few : length (take count marks) ≡ count
      few = length-take-le count marks (omega (arith, within))

      all : All (λ mark. (mark.from ≤ mark.to) × (mark.to ≤ length (take from lits))) (take count marks)
      all k e less =
          let before : k < count = omega (arith, less, few) in
          let both = kept.within k e (omega (arith, before, within)) in
          let ends = ends_before k e less in
          let size : length (take from lits) ≡ from = length-take-le from lits from_within in
          let same : get_or (take count marks) k e ≡ get_or marks k e = get_or-take count marks k e before in
          (subst (λ (m : StepMark). m.from ≤ m.to) (sym same) both.0, omega (arith, ends, size))

      pairs : AreOrdered (take count marks)
      pairs i j e less has =
          let before : j < count = omega (arith, has, few) in
          let was = kept.ordered i j e less (omega (arith, before, within)) in
          rw (get_or-take count marks i e (omega (arith, less, before)), get_or-take count marks j e before) was

-- look-ups

pub steps_rise : (lits : List Lit) (marks : List StepMark) → AreOrdered marks → AllPairs Rises (steps lits marks)
steps_rise lits marks ordered = λ i j d less has.
    let within : j < length marks = rw length-map at has in
    let blank_mark : StepMark = record { number = 0; from = 0; to = 0; is_cut = false } in
    let was = ordered i j blank_mark less within in
    rw (get_or-map (step_at lits) marks i blank_mark d (omega (arith, less, within)), get_or-map (step_at lits) marks j blank_mark d within) was.0

pub steps_found : (lits : List Lit) (marks : List StepMark) (number : ℕ) (found : Option ℕ) → MatchOption found (All (λ mark. mark.number ≢ number) marks) (IsMarkAt marks number)
    → MatchOption found (All (λ step. step.number ≢ number) (steps lits marks)) (IsAt (steps lits marks) number)
steps_found lits marks number None all = All-map (λ (step : Finished). step.number ≢ number) (step_at lits) marks all
steps_found lits marks number (Some at) is = (
  rw length-map is.0,
  λ d. let blank_mark : StepMark = record { number = 0; from = 0; to = 0; is_cut = false } in
      rw (get_or-map (step_at lits) marks at blank_mark d is.0) (is.1 blank_mark),
)

-- halving

module _ (marks : List StepMark) (rising : AreOrdered marks) (middle : ℕ) (e : StepMark) (number : ℕ) where
  pub below_middle : middle < length marks → (get_or marks middle e).number < number → (k : ℕ) (d : StepMark) → k < middle + 1 → (get_or marks k d).number < number
  below_middle within less k d before =
      let here : (get_or marks middle d).number < number = subst (λ (x : StepMark). x.number < number) (get_or_default marks middle e d within) less in
      ⊎_elim (λ (lt : k < middle). let was : (get_or marks k d).number < (get_or marks middle d).number = (rising k middle d lt within).0 in omega arith)
      (λ (le : middle ≤ k). let same : k ≡ middle = omega arith in rw same here) (cases_lt k middle)

  pub above_middle : number < (get_or marks middle e).number → (k : ℕ) (d : StepMark) → middle ≤ k → k < length marks → number < (get_or marks k d).number
  above_middle more k d from within =
      let here : number < (get_or marks middle d).number = subst (λ (x : StepMark). number < x.number) (get_or_default marks middle e d (omega arith)) more in
      ⊎_elim (λ (lt : middle < k). let was : (get_or marks middle d).number < (get_or marks k d).number = (rising middle k d lt within).0 in omega arith)
      (λ (le : k ≤ middle). let same : k ≡ middle = omega arith in rw same here) (cases_lt middle k)

pub none_left : (marks : List StepMark) (low high number : ℕ) → high ≤ low → ((k : ℕ) (d : StepMark) → k < low → (get_or marks k d).number < number)
    → ((k : ℕ) (d : StepMark) → high ≤ k → k < length marks → number < (get_or marks k d).number) → All (λ mark. mark.number ≢ number) marks
none_left marks low high number met below above = λ k d within same.
    ⊎_elim (λ (lt : k < low). let was = below k d lt in absurd (omega (arith, was, same))) (λ (le : low ≤ k). let was = above k d (omega arith) within in absurd (omega (arith, was, same))) (cases_lt k low)

-- places by how much numbers rise

abbrev pub blank_mark : StepMark
blank_mark = record { number = 0; from = 0; to = 0; is_cut = false }

gap_to : (marks : List StepMark) → AreOrdered marks → (k n : ℕ) (d : StepMark) → k + n < length marks → (get_or marks k d).number + n ≤ (get_or marks (k + n) d).number
gap_to marks ordered k zero d within =
    let same : k + 0 ≡ k = omega arith in
    let here : (get_or marks k d).number + 0 ≤ (get_or marks k d).number = omega arith in
    rw same here
gap_to marks ordered k (suc n) d within =
    let before = gap_to marks ordered k n d (omega (arith, within)) in
    let less = (ordered (k + n) (k + suc n) d (omega arith) within).0 in
    omega (arith, before, less)

pub smaller_before : (marks : List StepMark) → AreOrdered marks → (last number behind low : ℕ) → 0 < length marks → last ≡ (get_or marks (length marks - 1) blank_mark).number
    → last ≤ number + behind → low ≡ length marks - 1 - behind → AreSmaller marks number low
smaller_before marks ordered last number behind low some is near low_is = λ k d less.
    let n = length marks - 1 - k in
    let end : k + n ≡ length marks - 1 = omega (arith, less, low_is) in
    let within : k + n < length marks = omega (arith, end, some) in
    let gap = gap_to marks ordered k n d within in
    let there : (get_or marks (k + n) d).number ≡ last =
    ap (λ (m : StepMark). m.number) (get_or_default marks (k + n) d blank_mark within) ∙ ap (λ i. (get_or marks i blank_mark).number) end ∙ sym is in
    omega (arith, gap, there, near, less, low_is, end)

pub greater_behind : (marks : List StepMark) → AreOrdered marks → (first number high : ℕ) → 0 < length marks → first ≡ (get_or marks 0 blank_mark).number
    → number < first + high → AreGreater marks number high
greater_behind marks ordered first number high some is far = λ k d from within.
    let same : 0 + k ≡ k = omega arith in
    let gap = gap_to marks ordered 0 k d (omega (arith, within)) in
    let there : (get_or marks (0 + k) d).number ≡ (get_or marks k d).number = ap (λ i. (get_or marks i d).number) same in
    let first_is : (get_or marks 0 d).number ≡ first = ap (λ (m : StepMark). m.number) (get_or_default marks 0 d blank_mark some) ∙ sym is in
    omega (arith, gap, there, first_is, far, from)

pub greater_end : (marks : List StepMark) (number : ℕ) → AreGreater marks number (length marks)
greater_end marks number = λ k d from within. absurd (omega (arith, from, within))
