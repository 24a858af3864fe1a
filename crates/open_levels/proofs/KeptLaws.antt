-- Levels stay kept where a step ends on the last one, and where one opens.
use Rattle.std.proofs.Common.{◌≡◌, ◌<◌, ℕ, ℤ, pos, ◌+ℤ◌, List, [], ◌∷◌, ◌++◌, length, FitsSigned, true, false, refl, sym, subst, All, arith}
use Rattle.std.specs.Int.{w128}
use Rattle.std.proofs.lemmas.List.Elements.{All-nil, All-cons, All-head, All-tail, All-push}
use Rattle.mix_system.specs.declared.literal.Term.{Term}
use Rattle.mix_system.specs.System.{System, Exists}
use Rattle.mix_system.specs.Bounds.{unit_bounds}
use Rattle.proof_term.specs.declared.proof.Goal.{Goal}
use Rattle.proof_term.specs.declared.proof.Goal.TheVariants.{Nothing, AtMost, Below}
use Rattle.mix_system.specs.declared.literal.Side.TheVariants.{Le}
use Rattle.mix_system.specs.declared.literal.Lit.{Lit}
use Rattle.proof_term.specs.Levels.{Finished, cut_clause}
use Rattle.proof_term.specs.Steps.{NamesTerm}
use Rattle.box_check.specs.declared.bounds.Bounds.{Bounds}
use Rattle.box_check.specs.Bounds.{StandsEverywhere, StaysHere, Extends, IsSame, opened}
use Rattle.box_check.proofs.BoundsLaws.{Extends_more, same_extends}
use Rattle.open_levels.specs.declared.levels.OpenLevels.{OpenLevels}
use Rattle.open_levels.specs.Adds.{AreFor, Adds, AddsEverywhere, Begins}
use Rattle.open_levels.specs.Stack.{OpenLevel, Stack, ended_on}
use Rattle.open_levels.specs.Kept.{GoalFits, IsLevel, shared_box, HasBox, AreAround, AreLevels}
use Rattle.open_levels.proofs.BoxLaws.{has_box_begun, has_box_other, has_box_cut, has_box_same, around_later}

abbrev HasTerms : System → Finished → Type 0
HasTerms system step = All (NamesTerm system) step.clause

-- a level on which one more step has ended
abbrev with_step : OpenLevel → Finished → OpenLevel
with_step level step = record level { ended = level.ended ++ step ∷ [] }

pub level_with_step : (system : System) (level : OpenLevel) (step : Finished) → IsLevel system level → All (NamesTerm system) step.clause → IsLevel system (with_step level step)
level_with_step system level step kept named = record { named = All-push (HasTerms system) level.ended step kept.named named; goal = kept.goal }

-- a level on which no step has ended
fresh : (system : System) (goal : Goal) (mark : ℕ) → GoalFits system goal → IsLevel system (record { goal = goal; mark = mark; ended = [] })
fresh system goal mark fits = record { named = All-nil (HasTerms system); goal = fits }

pub levels_started : (system : System) (cost : Term) (new : OpenLevels) (base : Bounds) (goal : Goal) → GoalFits system goal → AreFor system base → StandsEverywhere base (shared_box system [])
    → Begins cost goal base new.bounds → new.stack.last ≡ record { goal = goal; mark = 0; ended = [] } → new.stack.enclosing ≡ [] → AreLevels system cost new
levels_started system cost new base goal fits sound everywhere begun last_is none =
    let last : OpenLevel = record { goal = goal; mark = 0; ended = [] } in
    let box = has_box_begun system last [] refl cost goal base new.bounds sound everywhere begun refl in record {
      last = subst (λ (level : OpenLevel). IsLevel system level) (sym last_is) (fresh system goal 0 fits);
      enclosing = subst (λ (levels : List OpenLevel). All (IsLevel system) levels) (sym none) (All-nil (IsLevel system));
      box = subst (λ (level : OpenLevel). HasBox system cost level new.stack.enclosing new.bounds) (sym last_is)
          (subst (λ (levels : List OpenLevel). HasBox system cost last levels new.bounds) (sym none) box);
      around = subst (λ (levels : List OpenLevel). AreAround system cost new.stack.last.mark levels new.bounds) (sym none) tt;
    }

-- levels by what they are made of
abbrev AreKept : System → Term → Stack → Bounds → Type 0
AreKept system cost stack bounds = AreLevels system cost (record { stack = stack; bounds = bounds })

pub levels_with_step : (system : System) (cost : Term) (old : OpenLevels) (stack : Stack) (bounds : Bounds) (clause : List Lit) → AreLevels system cost old → All (NamesTerm system) clause
    → stack ≡ ended_on old.stack clause false → Adds (unit_bounds (clause ∷ [])) old.bounds bounds → StaysHere old.bounds bounds → AreKept system cost stack bounds
levels_with_step system cost old stack bounds clause kept named stack_is adds stays =
    let step : Finished = record { number = old.stack.next; clause = clause; is_cut = false } in
    let last = with_step old.stack.last step in
    subst (λ (s : Stack). AreKept system cost s bounds) (sym stack_is) (record {
      last = level_with_step system old.stack.last step kept.last named;
      enclosing = kept.enclosing;
      box = has_box_other system old.stack.last last old.stack.enclosing step refl cost old.bounds bounds refl kept.box refl adds stays;
      around = around_later system cost old.stack.last.mark old.stack.enclosing old.bounds bounds adds.extends kept.around;
    })

pub levels_entered : (system : System) (cost : Term) (old : OpenLevels) (stack : Stack) (bounds : Bounds) (term : Term) (bound : ℤ) (mark : ℕ) → AreLevels system cost old
    → Exists (length system.ranges) (length system.rows) term → FitsSigned w128 (bound +ℤ pos 1) → mark ≡ length old.bounds.changes.items
    → stack ≡ record old.stack { last = record { goal = Below term bound; mark = mark; ended = [] }; enclosing = old.stack.last ∷ old.stack.enclosing }
    → Begins cost (Below term bound) old.bounds bounds → AreKept system cost stack bounds
levels_entered system cost old stack bounds term bound mark kept exists fits mark_is stack_is begun =
    let outer = old.stack.last ∷ old.stack.enclosing in
    let last : OpenLevel = record { goal = Below term bound; mark = mark; ended = [] } in
    let around : AreAround system cost mark outer bounds = (old.bounds, record { mark_is = mark_is; extends = begun.extends }, kept.box, kept.around) in
    subst (λ (s : Stack). AreKept system cost s bounds) (sym stack_is) (record {
      last = fresh system (Below term bound) mark (exists, fits);
      enclosing = All-cons (IsLevel system) old.stack.last old.stack.enclosing kept.last kept.enclosing;
      box = has_box_begun system last outer refl cost (Below term bound) old.bounds bounds kept.box.sound kept.box.everywhere begun refl;
      around = around;
    })

-- the system has the term of a cut
pub cut_named : (system : System) (goal : Goal) → GoalFits system goal → All (NamesTerm system) (cut_clause goal)
cut_named system Nothing fits = All-nil (NamesTerm system)
cut_named system (AtMost most) fits = All-nil (NamesTerm system)
cut_named system (Below term bound) fits = All-cons (NamesTerm system) (record { term = term; side = Le; bound = bound }) [] fits.0 (All-nil (NamesTerm system))

-- some levels around the last, of which one is the innermost
pub first_around : (levels : List OpenLevel) → 0 < length levels → (outer : OpenLevel) × (others : List OpenLevel) × (levels ≡ outer ∷ others)
first_around [] some = absurd (omega (arith, some))
first_around (outer ∷ others) some = (outer, others, refl)

-- the last level was closed, and its cut ended on the one around it
module _ (system : System) (cost : Term) (old : OpenLevels) (outer : OpenLevel) (others : List OpenLevel) (kept : AreLevels system cost old) (parts : old.stack.enclosing ≡ outer ∷ others) where
  around : AreAround system cost old.stack.last.mark (outer ∷ others) old.bounds
  around = subst (λ (ls : List OpenLevel). AreAround system cost old.stack.last.mark ls old.bounds) parts kept.around

  both_kept : All (IsLevel system) (outer ∷ others)
  both_kept = subst (λ (ls : List OpenLevel). All (IsLevel system) ls) parts kept.enclosing

  module _ (back : Bounds) (closes : (start : Bounds) → Extends (opened start) old.bounds → old.stack.last.mark ≡ length start.changes.items → IsSame start back) where
    same : IsSame around.0 back
    same = closes around.0 around.1.extends around.1.mark_is

    outer_box : HasBox system cost outer others back
    outer_box = has_box_same system cost outer others around.0 back around.2 same

    pub sound_back : AreFor system back
    sound_back = outer_box.sound

    pub levels_closed : (stack : Stack) (new : Bounds) → stack ≡ ended_on (record old.stack { last = outer; enclosing = others }) (cut_clause old.stack.last.goal) true
        → AddsEverywhere (unit_bounds (cut_clause old.stack.last.goal ∷ [])) back new → Adds (unit_bounds (cut_clause old.stack.last.goal ∷ [])) back new → AreFor system new
        → AreKept system cost stack new
    levels_closed stack new stack_is everywhere adds over =
        let clause = cut_clause old.stack.last.goal in
        let step : Finished = record { number = old.stack.next; clause = clause; is_cut = true } in
        let last = with_step outer step in
        subst (λ (s : Stack). AreKept system cost s new) (sym stack_is) (record {
          last = level_with_step system outer step (All-head (IsLevel system) outer others both_kept) (cut_named system old.stack.last.goal kept.last.goal);
          enclosing = All-tail (IsLevel system) outer others both_kept;
          box = has_box_cut system outer last others step refl cost back new refl outer_box refl adds everywhere over;
          around = around_later system cost outer.mark others around.0 new (Extends_more around.0 back new (same_extends around.0 back same) adds.extends) around.3;
        })
