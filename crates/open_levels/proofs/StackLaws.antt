-- The steps of open levels in one list: what is cut off by a level's end, and which of them a step may name.
use Rattle.std.proofs.Common.{◌≡◌, ◌≢◌, ◌+◌, ◌-◌, ◌<◌, ◌≤◌, ℕ, suc, List, [], ◌∷◌, ◌++◌, length, length-append, map, take, drop, get_or, Bool, true, false, Option, Some, None, refl, sym, ◌∙◌, ap, subst, All, arith}
use Rattle.std.specs.Prelude.{reverse}
use Rattle.std.specs.List.{AllPairs, flat_map}
use Rattle.std.proofs.lemmas.List.{reverse-append, take-append-drop, take-append-le, drop-append-le, take_all, get_or-take, get_or-drop, length-drop, length-take-le, get_or_default}
use Rattle.std.proofs.lemmas.List.Elements.{All-take, All-drop, All-push, All-weaker, filter-append}
use Rattle.mix_system.specs.declared.literal.Lit.{Lit}
use Rattle.proof_term.specs.Levels.{Finished, cuts_of, available, clause_of}
use Rattle.open_levels.specs.declared.stack.LevelMark.{LevelMark}
use Rattle.open_levels.specs.Flat.{blank, Rises, IsAt}
use Rattle.open_levels.specs.Stack.{OpenLevel, Stack, level_of, levels_of, ended_on}
use Rattle.open_levels.specs.Marks.{level_at, levels_at, AreNested}
use Rattle.open_levels.proofs.LevelLaws.{newest_of, cuts_in, found_first, none_first}
use Rattle.open_levels.proofs.NumberLaws.{none_has, clause_found, cut_found, no_cut_found}

newest-append : (steps more : List Finished) → newest_of (steps ++ more) ≡ newest_of more ++ newest_of steps
newest-append steps more = reverse-append steps more

cuts-append : (fs gs : List Finished) → cuts_in (fs ++ gs) ≡ cuts_in fs ++ cuts_in gs
cuts-append fs gs = filter-append (λ f. f.is_cut) fs gs

-- the cuts of nested levels are those of all their steps
pub cuts_around : (steps : List Finished) (marks : List LevelMark) → AreNested (length steps) marks → flat_map cuts_of (map level_of (levels_at steps marks)) ≡ cuts_in (newest_of steps)
cuts_around [] [] nested = refl
cuts_around (step ∷ steps) [] nested = absurd (omega (arith, nested))
cuts_around steps (mark ∷ marks) nested =
    let inner = drop mark.from steps in
    let outer = take mark.from steps in
    let few : length outer ≡ mark.from = length-take-le mark.from steps nested.0 in
    let rest = cuts_around outer marks (subst (λ n. AreNested n marks) (sym few) nested.1) in
    ap (λ (fs : List Finished). cuts_in (newest_of inner) ++ fs) rest
    ∙ sym (cuts-append (newest_of inner) (newest_of outer))
    ∙ ap cuts_in (sym (newest-append outer inner))
    ∙ ap (λ (fs : List Finished). cuts_in (newest_of fs)) (take-append-drop mark.from steps)

-- the steps that may be named
pub available_is : (steps : List Finished) (last : LevelMark) (marks : List LevelMark) → AreNested (length steps) (last ∷ marks)
    → available (levels_of (level_at steps last) (levels_at (take last.from steps) marks)) ≡ newest_of (drop last.from steps) ++ cuts_in (newest_of (take last.from steps))
available_is steps last marks nested =
    let few : length (take last.from steps) ≡ last.from = length-take-le last.from steps nested.0 in
    ap (λ (fs : List Finished). newest_of (drop last.from steps) ++ fs) (cuts_around (take last.from steps) marks (subst (λ n. AreNested n marks) (sym few) nested.1))

module _ (steps : List Finished) (from number : ℕ) where
  -- what is found among them
  abbrev pub named_clause : Option (List Lit)
  named_clause = clause_of number (newest_of (drop from steps) ++ cuts_in (newest_of (take from steps)))

  pub none_named : All (λ step. step.number ≢ number) steps → named_clause ≡ None
  none_named all =
      none_first number (newest_of (drop from steps)) (cuts_in (newest_of (take from steps))) (none_has (drop from steps) number blank (All-drop (λ step. step.number ≢ number) from steps all)).0
      ∙ (none_has (take from steps) number blank (All-take (λ step. step.number ≢ number) from steps all)).1

  module _ (rising : AllPairs Rises steps) (at : ℕ) (is : IsAt steps number at) (few : from ≤ length steps) where
    -- the step stands on the last level
    own_rising : AllPairs Rises (drop from steps)
    own_rising i j d less has =
        let within : from + j < length steps = omega (arith, has, length-drop from steps) in
        rw (get_or-drop from steps i d, get_or-drop from steps j d) (rising (from + i) (from + j) d (omega (arith, less)) within)

    pub own_named : from ≤ at → named_clause ≡ Some (get_or steps at blank).clause
    own_named behind =
        let place = at - from in
        let back : from + place ≡ at = omega (arith, behind) in
        let same : (d : Finished) → get_or (drop from steps) place d ≡ get_or steps at d = λ d. get_or-drop from steps place d ∙ ap (λ n. get_or steps n d) back in
        let here : IsAt (drop from steps) number place = (omega (arith, is.0, length-drop from steps, behind), λ d. rw (same d) (is.1 d)) in
        found_first number (newest_of (drop from steps)) (cuts_in (newest_of (take from steps))) (get_or steps at blank).clause
        (clause_found (drop from steps) number own_rising place blank here ∙ ap (λ (f : Finished). Some f.clause) (same blank))

    -- the step stands on a level around it
    outer_rising : AllPairs Rises (take from steps)
    outer_rising i j d less has =
        let size : length (take from steps) ≡ from = length-take-le from steps few in
        rw (get_or-take from steps i d (omega (arith, less, has, size)), get_or-take from steps j d (omega (arith, has, size)))
        (rising i j d less (omega (arith, has, size, few)))

    outer_at : at < from → IsAt (take from steps) number at
    outer_at before = (omega (arith, before, length-take-le from steps few), λ d. rw (get_or-take from steps at d before) (is.1 d))

    none_own : at < from → clause_of number (newest_of (drop from steps)) ≡ None
    none_own before = (none_has (drop from steps) number blank others).0
      where
        others : All (λ step. step.number ≢ number) (drop from steps)
        others k d has same =
            let within : from + k < length steps = omega (arith, has, length-drop from steps) in
            let less = rising at (from + k) d (omega (arith, before)) within in
            let there : (get_or steps (from + k) d).number ≡ number = subst (λ (f : Finished). f.number ≡ number) (get_or-drop from steps k d) same in
            absurd (omega (arith, less, is.1 d, there))

    pub cut_named : at < from → (get_or steps at blank).is_cut ≡ true → named_clause ≡ Some (get_or steps at blank).clause
    cut_named before cut =
        let same : get_or (take from steps) at blank ≡ get_or steps at blank = get_or-take from steps at blank before in
        none_first number (newest_of (drop from steps)) (cuts_in (newest_of (take from steps))) (none_own before)
        ∙ cut_found (take from steps) number outer_rising at blank (outer_at before) (ap (λ (f : Finished). f.is_cut) same ∙ cut)
        ∙ ap (λ (f : Finished). Some f.clause) same

    pub other_named : at < from → (get_or steps at blank).is_cut ≡ false → named_clause ≡ None
    other_named before other =
        let same : get_or (take from steps) at blank ≡ get_or steps at blank = get_or-take from steps at blank before in
        none_first number (newest_of (drop from steps)) (cuts_in (newest_of (take from steps))) (none_own before)
        ∙ no_cut_found (take from steps) number outer_rising at blank (outer_at before) (ap (λ (f : Finished). f.is_cut) same ∙ other)

-- how many levels are stored

pub length_levels : (steps : List Finished) (marks : List LevelMark) → length (levels_at steps marks) ≡ length marks
length_levels steps [] = refl
length_levels steps (mark ∷ marks) = ap suc (length_levels (take mark.from steps) marks)
