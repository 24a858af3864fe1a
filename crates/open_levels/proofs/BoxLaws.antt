-- The box of a level that opens or on which a step ends, and what is in force on all levels.
use Rattle.std.proofs.Common.{◌≡◌, ℕ, List, [], ◌∷◌, ◌++◌, length, map, true, false, sym, ◌∙◌, ap, subst, ⊎_elim, append_assoc}
use Rattle.std.specs.List.{flat_map}
use Rattle.mix_system.specs.declared.literal.Term.{Term}
use Rattle.mix_system.specs.declared.literal.Lit.{Lit}
use Rattle.mix_system.specs.System.{System}
use Rattle.mix_system.specs.Bounds.{IsIn, range_bounds, unit_bounds}
use Rattle.mix_system.proofs.BoundLaws.{IsIn-none, IsIn-append_left, IsIn-append_right, IsIn-append_cases}
use Rattle.proof_term.specs.declared.proof.Goal.{Goal}
use Rattle.proof_term.specs.Levels.{Finished, cuts_of, goal_bounds, box_of}
use Rattle.box_check.specs.declared.bounds.Bounds.{Bounds}
use Rattle.box_check.specs.Bounds.{IsOver, SaysEverywhere, AreUpTo, Stands, StandsEverywhere, StaysHere, Extends, IsSame, opened}
use Rattle.box_check.proofs.BoundsLaws.{Extends_more, same_extends, AreUpTo-later, AreUpTo-opened, Stands-opened}
use Rattle.box_check.proofs.HintsLaws.{Stands-later, StandsEverywhere-later, StandsEverywhere-stays}
use Rattle.open_levels.specs.Adds.{AreFor, Adds, AddsEverywhere, Begins}
use Rattle.open_levels.specs.Stack.{OpenLevel, level_of, levels_of}
use Rattle.open_levels.specs.Kept.{shared_box, HasBox, AreAround}
use Rattle.open_levels.proofs.AddsLaws.{SaySame, Stands-same, StandsEverywhere-same, over_later}
use Rattle.open_levels.proofs.LevelLaws.{newest_of, cuts_in, cut_here, cut_later, units_of, units-append, units_of-append, newest_push, box_split, box_with_step}

-- lists of literals that say the same

same_as : (a b : List Lit) → a ≡ b → SaySame a b
same_as a b is lit = (λ within. subst (λ (lits : List Lit). IsIn lits lit) is within, λ within. subst (λ (lits : List Lit). IsIn lits lit) (sym is) within)

same_on : (a b c : List Lit) → SaySame a b → SaySame b c → SaySame a c
same_on a b c first second lit = (λ within. (second lit).0 ((first lit).0 within), λ within. (first lit).1 ((second lit).1 within))

swap_in : (a b c : List Lit) (lit : Lit) → IsIn (a ++ (b ++ c)) lit → IsIn (b ++ (a ++ c)) lit
swap_in a b c lit within =
    ⊎_elim (λ h. IsIn-append_right b (a ++ c) lit (IsIn-append_left a c lit h))
    (λ rest. ⊎_elim (λ h. IsIn-append_left b (a ++ c) lit h) (λ h. IsIn-append_right b (a ++ c) lit (IsIn-append_right a c lit h)) (IsIn-append_cases b c lit rest))
    (IsIn-append_cases a (b ++ c) lit within)

swapped : (a b c : List Lit) → SaySame (a ++ (b ++ c)) (b ++ (a ++ c))
swapped a b c lit = (swap_in a b c lit, swap_in b a c lit)

behind_in : (front a b : List Lit) (lit : Lit) → (IsIn a lit → IsIn b lit) → IsIn (front ++ a) lit → IsIn (front ++ b) lit
behind_in front a b lit gives within =
    ⊎_elim (λ h. IsIn-append_left front b lit h) (λ h. IsIn-append_right front b lit (gives h)) (IsIn-append_cases front a lit within)

behind : (front a b : List Lit) → SaySame a b → SaySame (front ++ a) (front ++ b)
behind front a b same lit = (behind_in front a b lit (same lit).0, behind_in front b a lit (same lit).1)

-- what is in force on all levels

shared_split : (system : System) (levels : List OpenLevel)
    → shared_box system levels ≡ range_bounds system.ranges ++ (unit_bounds system.clauses ++ units_of (flat_map cuts_of (map level_of levels)))
shared_split system levels =
    ap (λ (lits : List Lit). range_bounds system.ranges ++ lits) (units-append system.clauses (map (λ f. f.clause) (flat_map cuts_of (map level_of levels))))

pub base_stands : (system : System) (empty with_ranges all : Bounds) → ((lit : Lit) → SaysEverywhere empty lit → ⊥)
    → AddsEverywhere (range_bounds system.ranges) empty with_ranges → AddsEverywhere (unit_bounds system.clauses) with_ranges all → StandsEverywhere all (shared_box system [])
base_stands system empty with_ranges all none ranges clauses =
    let nothing : StandsEverywhere empty [] = λ lit has. (λ says. absurd (none lit says), λ within. absurd (IsIn-none lit within)) in
    let theirs = range_bounds system.ranges in
    let units = unit_bounds system.clauses in
    StandsEverywhere-same all (units ++ (theirs ++ [])) (shared_box system [])
    (same_on (units ++ (theirs ++ [])) (theirs ++ (units ++ [])) (shared_box system []) (swapped units theirs [])
    (same_as (theirs ++ (units ++ [])) (shared_box system []) (sym (shared_split system []))))
    (clauses.stands (theirs ++ []) (ranges.stands [] nothing))

-- a level that opens

pub over_opened : (system : System) (old mid : Bounds) → mid ≡ opened old → AreFor system old → IsOver (length system.ranges) (length system.rows) mid
over_opened system old mid is sound =
    subst (λ (bounds : Bounds). IsOver (length system.ranges) (length system.rows) bounds) (sym is) (record { vars_are = sound.over.vars_are; slots = sound.over.slots })

pub begins : (cost : Term) (goal : Goal) (old mid new : Bounds) → mid ≡ opened old → AreUpTo old → Adds (goal_bounds cost goal) mid new → StaysHere mid new → Begins cost goal old new
begins cost goal old mid new is up_to adds stays =
    let put : Adds (goal_bounds cost goal) (opened old) new = subst (λ (bounds : Bounds). Adds (goal_bounds cost goal) bounds new) is adds in
    let stay : StaysHere (opened old) new = subst (λ (bounds : Bounds). StaysHere bounds new) is stays in record {
      extends = put.extends;
      up_to = stay.up_to (AreUpTo-opened old up_to);
      stands = λ box stands. put.stands box (Stands-opened old box up_to stands);
      everywhere = λ box stands. StandsEverywhere-stays (opened old) new box stay put.extends stands;
    }

module _ (system : System) (last : OpenLevel) (enclosing : List OpenLevel) (none : last.ended ≡ []) where
  begun_is : (cost : Term) → box_of system cost (levels_of last enclosing)
      ≡ range_bounds system.ranges ++ (goal_bounds cost last.goal ++ (unit_bounds system.clauses ++ units_of (flat_map cuts_of (map level_of enclosing))))
  begun_is cost =
      let outer = units_of (flat_map cuts_of (map level_of enclosing)) in
      box_split system cost last enclosing
      ∙ ap (λ (steps : List Finished). (range_bounds system.ranges ++ goal_bounds cost last.goal) ++ (unit_bounds system.clauses ++ (units_of (newest_of steps) ++ outer))) none
      ∙ append_assoc (range_bounds system.ranges) (goal_bounds cost last.goal) (unit_bounds system.clauses ++ outer)

  begun_box : (cost : Term) → SaySame (goal_bounds cost last.goal ++ shared_box system enclosing) (box_of system cost (levels_of last enclosing))
  begun_box cost =
      let goal = goal_bounds cost last.goal in
      let ranges = range_bounds system.ranges in
      let rest = unit_bounds system.clauses ++ units_of (flat_map cuts_of (map level_of enclosing)) in
      let box = box_of system cost (levels_of last enclosing) in
      same_on (goal ++ shared_box system enclosing) (goal ++ (ranges ++ rest)) box
      (same_as (goal ++ shared_box system enclosing) (goal ++ (ranges ++ rest)) (ap (λ (lits : List Lit). goal ++ lits) (shared_split system enclosing)))
      (same_on (goal ++ (ranges ++ rest)) (ranges ++ (goal ++ rest)) box (swapped goal ranges rest) (same_as (ranges ++ (goal ++ rest)) box (sym (begun_is cost))))

  shared_begun : shared_box system (last ∷ enclosing) ≡ shared_box system enclosing
  shared_begun =
      ap (λ (steps : List Finished). range_bounds system.ranges
      ++ unit_bounds (system.clauses ++ map (λ f. f.clause) (cuts_in (newest_of steps) ++ flat_map cuts_of (map level_of enclosing)))) none

  pub has_box_begun : (cost : Term) (goal : Goal) (old new : Bounds) → AreFor system old → StandsEverywhere old (shared_box system enclosing) → Begins cost goal old new
      → last.goal ≡ goal → HasBox system cost last enclosing new
  has_box_begun cost goal old new sound everywhere begun goal_is = record {
    sound = record {
      over = over_later (length system.ranges) (length system.rows) (opened old) new (record { vars_are = sound.over.vars_are; slots = sound.over.slots }) begun.extends;
      up_to = begun.up_to;
    };
    stands = Stands-same new (goal_bounds cost last.goal ++ shared_box system enclosing) (box_of system cost (levels_of last enclosing)) (begun_box cost)
        (subst (λ (g : Goal). Stands new (goal_bounds cost g ++ shared_box system enclosing)) (sym goal_is) (begun.stands (shared_box system enclosing) everywhere));
    everywhere = subst (λ (box : List Lit). StandsEverywhere new box) (sym shared_begun) (begun.everywhere (shared_box system enclosing) everywhere);
  }

-- a step that ends on the last level
module _ (system : System) (last after : OpenLevel) (enclosing : List OpenLevel) (step : Finished) (ended_is : after.ended ≡ last.ended ++ step ∷ []) where
  cuts_after : cuts_of (level_of after) ≡ cuts_in (step ∷ (level_of last).finished)
  cuts_after = ap (λ (steps : List Finished). cuts_in (newest_of steps)) ended_is ∙ ap cuts_in (newest_push last.ended step)

  shared_with_other : step.is_cut ≡ false → shared_box system (after ∷ enclosing) ≡ shared_box system (last ∷ enclosing)
  shared_with_other other =
      ap (λ (fs : List Finished). range_bounds system.ranges ++ unit_bounds (system.clauses ++ map (λ f. f.clause) (fs ++ flat_map cuts_of (map level_of enclosing))))
      (cuts_after ∙ cut_later step (level_of last).finished other)

  shared_after : step.is_cut ≡ true → shared_box system (after ∷ enclosing)
      ≡ range_bounds system.ranges ++ (unit_bounds system.clauses
      ++ (unit_bounds (step.clause ∷ []) ++ units_of (cuts_of (level_of last) ++ flat_map cuts_of (map level_of enclosing))))
  shared_after cut =
      let outer = flat_map cuts_of (map level_of enclosing) in
      shared_split system (after ∷ enclosing)
      ∙ ap (λ (fs : List Finished). range_bounds system.ranges ++ (unit_bounds system.clauses ++ units_of (fs ++ outer)))
      (cuts_after ∙ cut_here step (level_of last).finished cut)
      ∙ ap (λ (lits : List Lit). range_bounds system.ranges ++ (unit_bounds system.clauses ++ lits))
      (units_of-append (step ∷ []) (cuts_of (level_of last) ++ outer))

  shared_with_cut : step.is_cut ≡ true → SaySame (unit_bounds (step.clause ∷ []) ++ shared_box system (last ∷ enclosing)) (shared_box system (after ∷ enclosing))
  shared_with_cut cut =
      let unit = unit_bounds (step.clause ∷ []) in
      let ranges = range_bounds system.ranges in
      let units = unit_bounds system.clauses in
      let cuts = units_of (cuts_of (level_of last) ++ flat_map cuts_of (map level_of enclosing)) in
      let whole = shared_box system (after ∷ enclosing) in
      same_on (unit ++ shared_box system (last ∷ enclosing)) (unit ++ (ranges ++ (units ++ cuts))) whole
      (same_as (unit ++ shared_box system (last ∷ enclosing)) (unit ++ (ranges ++ (units ++ cuts))) (ap (λ (lits : List Lit). unit ++ lits) (shared_split system (last ∷ enclosing))))
      (same_on (unit ++ (ranges ++ (units ++ cuts))) (ranges ++ (unit ++ (units ++ cuts))) whole (swapped unit ranges (units ++ cuts))
      (same_on (ranges ++ (unit ++ (units ++ cuts))) (ranges ++ (units ++ (unit ++ cuts))) whole
      (behind ranges (unit ++ (units ++ cuts)) (units ++ (unit ++ cuts)) (swapped unit units cuts))
      (same_as (ranges ++ (units ++ (unit ++ cuts))) whole (sym (shared_after cut)))))

  box_stands : (cost : Term) (old new : Bounds) → after.goal ≡ last.goal → HasBox system cost last enclosing old → Adds (unit_bounds (step.clause ∷ [])) old new
      → Stands new (box_of system cost (levels_of after enclosing))
  box_stands cost old new goal_is kept adds =
      Stands-same new (unit_bounds (step.clause ∷ []) ++ box_of system cost (levels_of last enclosing)) (box_of system cost (levels_of after enclosing))
      (box_with_step system cost last after enclosing step goal_is ended_is) (adds.stands (box_of system cost (levels_of last enclosing)) kept.stands)

  pub has_box_other : (cost : Term) (old new : Bounds) → after.goal ≡ last.goal → HasBox system cost last enclosing old → step.is_cut ≡ false
      → Adds (unit_bounds (step.clause ∷ [])) old new → StaysHere old new → HasBox system cost after enclosing new
  has_box_other cost old new goal_is kept other adds stays = record {
    sound = record {
      over = over_later (length system.ranges) (length system.rows) old new kept.sound.over adds.extends;
      up_to = stays.up_to kept.sound.up_to;
    };
    stands = box_stands cost old new goal_is kept adds;
    everywhere = subst (λ (box : List Lit). StandsEverywhere new box) (sym (shared_with_other other))
        (StandsEverywhere-stays old new (shared_box system (last ∷ enclosing)) stays adds.extends kept.everywhere);
  }

  pub has_box_cut : (cost : Term) (old new : Bounds) → after.goal ≡ last.goal → HasBox system cost last enclosing old → step.is_cut ≡ true
      → Adds (unit_bounds (step.clause ∷ [])) old new → AddsEverywhere (unit_bounds (step.clause ∷ [])) old new → AreFor system new → HasBox system cost after enclosing new
  has_box_cut cost old new goal_is kept cut adds adds_everywhere sound = record {
    sound = sound;
    stands = box_stands cost old new goal_is kept adds;
    everywhere =
        StandsEverywhere-same new (unit_bounds (step.clause ∷ []) ++ shared_box system (last ∷ enclosing)) (shared_box system (after ∷ enclosing)) (shared_with_cut cut)
        (adds_everywhere.stands (shared_box system (last ∷ enclosing)) kept.everywhere);
  }

-- bounds that are the same, and later ones

pub has_box_same : (system : System) (cost : Term) (last : OpenLevel) (enclosing : List OpenLevel) (old new : Bounds) → HasBox system cost last enclosing old → IsSame old new
    → HasBox system cost last enclosing new
has_box_same system cost last enclosing old new kept same = record {
  sound = record {
    over = over_later (length system.ranges) (length system.rows) old new kept.sound.over (same_extends old new same);
    up_to = AreUpTo-later old new same kept.sound.up_to;
  };
  stands = Stands-later old new (box_of system cost (levels_of last enclosing)) same kept.stands;
  everywhere = StandsEverywhere-later old new (shared_box system (last ∷ enclosing)) same kept.everywhere;
}

pub around_later : (system : System) (cost : Term) (mark : ℕ) (enclosing : List OpenLevel) (old new : Bounds) → Extends old new → AreAround system cost mark enclosing old
    → AreAround system cost mark enclosing new
around_later system cost mark [] old new extends around = tt
around_later system cost mark (outer ∷ enclosing) old new extends around = (
  around.0,
  record { mark_is = around.1.mark_is; extends = Extends_more (opened around.0) old new around.1.extends extends },
  around.2,
  around.3,
)
