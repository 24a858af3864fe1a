-- What is kept after a line: levels with bounds that were taken back, and theories.
use Rattle.std.proofs.Common.{◌≡◌, ◌<◌, ℕ, List, [], ◌∷◌, ◌++◌, length, map, Some, None, Result, Ok, Err, IfOk, refl, sym, subst, All}
use Rattle.std.proofs.lemmas.List.Elements.{All-weaker}
use Rattle.mix_system.specs.declared.literal.Term.{Term}
use Rattle.mix_system.specs.declared.literal.Term.TheVariants.{Var}
use Rattle.mix_system.specs.declared.literal.Lit.{Lit}
use Rattle.mix_system.specs.declared.farkas.FarkasPart.{FarkasPart}
use Rattle.mix_system.specs.Lit.{negation}
use Rattle.mix_system.specs.System.{System}
use Rattle.proof_term.specs.Levels.{known, box_of}
use Rattle.proof_term.specs.Steps.{NamesTerm}
use Rattle.proof_text.specs.declared.line.Line.{Line}
use Rattle.box_check.specs.declared.bounds.Bounds.{Bounds}
use Rattle.box_check.specs.Bounds.{IsOver, HasSlot, Stands, Extends, IsSame}
use Rattle.open_levels.specs.declared.levels.OpenLevels.{OpenLevels}
use Rattle.open_levels.specs.Adds.{Adds}
use Rattle.open_levels.specs.declared.lemma.Shown.{Shown}
use Rattle.open_levels.specs.declared.lemma.Shown.TheVariants as shown
use Rattle.open_levels.specs.Shown.{IsShown, Keeps}
use Rattle.open_levels.specs.Stack.{OpenLevel, levels_of}
use Rattle.open_levels.specs.Kept.{stage_of, AreLevels, GoalFits}
use Rattle.open_levels.proofs.AddsLaws.{has_slot, over_later}
use Rattle.tree_check.specs.declared.boxes.OpenBoxes.{OpenBoxes}
use Rattle.tree_check.specs.Boxes.{Stand, IsNext}
use Rattle.tree_check.specs.declared.boxes.Refuted.{Refuted}
use Rattle.tree_check.specs.declared.boxes.Refuted.TheVariants as refuted
use Rattle.box_check.proofs.BoundsLaws.{same_extends}
use Rattle.open_levels.proofs.BoxLaws.{has_box_same, around_later}
use Rattle.tree_check.proofs.BoxesLaws.{stand_extends}
use Rattle.proof_checker.specs.declared.base.Base.{Base}
use Rattle.proof_checker.specs.declared.kept.Theory.{Theory}
use Rattle.proof_checker.specs.declared.kept.Found.{Found}
use Rattle.proof_checker.specs.declared.kept.Found.TheVariants as found
use Rattle.proof_checker.specs.declared.kept.Kept.{Kept}
use Rattle.proof_checker.specs.declared.kept.Kept.TheVariants as kept
use Rattle.proof_checker.specs.Place.{Place, AtStep, InTree, after_leaf}
use Rattle.proof_checker.specs.Outcome.{Outcome, GoesTo, goal_of}
use Rattle.proof_checker.specs.Kept.{IsTheory, IsRefuted, IsKept, Comes, LineOf}
use Rattle.proof_checker.proofs.ComesLaws.{of_kind}

-- the goal of a proof fits any system
pub outer_fits : (system : System) (most : _) → GoalFits system (goal_of most)
outer_fits system most = elim most as (λ m. GoalFits system (goal_of m)) [ None ↦ tt | Some n ↦ tt ]

pub levels_same : (system : System) (cost : Term) (levels : OpenLevels) (bounds : Bounds) → AreLevels system cost levels → IsSame levels.bounds bounds
    → AreLevels system cost (record levels { bounds = bounds })
levels_same system cost levels bounds kept same = record {
  last = kept.last;
  enclosing = kept.enclosing;
  box = has_box_same system cost levels.stack.last levels.stack.enclosing levels.bounds bounds kept.box same;
  around = around_later system cost levels.stack.last.mark levels.stack.enclosing levels.bounds bounds (same_extends levels.bounds bounds same) kept.around;
}

-- what hints show, of slices that are a clause and hints
pub shown_at : (system : System) (last : OpenLevel) (box : List Lit) (clause lits : List Lit) (hints numbers : List ℕ) (enclosing : List OpenLevel) (answer shown : Shown)
    → lits ≡ clause → numbers ≡ hints → answer ≡ shown → IsShown lits numbers box (known system (levels_of last enclosing)) answer
    → IsShown clause hints box (known system (levels_of last enclosing)) shown
shown_at system last box clause lits hints numbers enclosing answer shown lits_are numbers_are is shows =
    subst (λ (a : Shown). IsShown clause hints box (known system (levels_of last enclosing)) a) is
    (subst (λ (ns : List ℕ). IsShown clause ns box (known system (levels_of last enclosing)) answer) numbers_are
    (subst (λ (c : List Lit). IsShown c numbers box (known system (levels_of last enclosing)) answer) lits_are shows))

pub keeps_at : (old new : Bounds) (answer : Shown) → answer ≡ shown.Follows → Keeps answer old new → IsSame old new
keeps_at old new answer is keeps = subst (λ (a : Shown). Keeps a old new) is keeps

module _ (base : Base) where
  pub theory_starts : (levels : OpenLevels) (bounds : Bounds) (clause : List Lit) (mark : ℕ) (boxes : OpenBoxes) → AreLevels base.system.now base.cost levels
      → mark ≡ length levels.bounds.changes.items → All (NamesTerm base.system.now) clause → Adds (map negation clause) levels.bounds bounds
      → ((from now : Bounds) (box : List Lit) → Extends from now → Stands now box → Stand from now boxes (box ∷ []))
      → IsTheory base (record { levels = record levels { bounds = bounds }; clause = clause; mark = mark; boxes = boxes })
      ((map negation clause ++ box_of base.system.now base.cost (levels_of levels.stack.last levels.stack.enclosing)) ∷ [])
  theory_starts levels bounds clause mark boxes kept mark_is named adds starts =
      let box = box_of base.system.now base.cost (levels_of levels.stack.last levels.stack.enclosing) in record {
        before = levels.bounds;
        mark = mark_is;
        levels = record { last = kept.last; enclosing = kept.enclosing; box = kept.box; around = kept.around };
        named = named;
        stand = starts levels.bounds bounds (map negation clause ++ box) adds.extends (adds.stands box kept.box.stands);
      }

  -- a theory with other boxes
  abbrev moved : Theory → Bounds → OpenBoxes → Theory
  moved theory bounds left = record { levels = record theory.levels { bounds = bounds }; clause = theory.clause; mark = theory.mark; boxes = left }

  pub theory_moves : (theory : Theory) (bounds : Bounds) (left : OpenBoxes) (boxes more : List (List Lit)) (t : IsTheory base theory boxes) → Stand t.before bounds left more
      → IsTheory base (moved theory bounds left) more
  theory_moves theory bounds left boxes more t stand = record {
    before = t.before;
    mark = t.mark;
    levels = record {
      last = t.levels.last;
      enclosing = t.levels.enclosing;
      box = t.levels.box;
      around = t.levels.around;
    };
    named = t.named;
    stand = stand;
  }

  pub theory_over : (theory : Theory) (boxes : List (List Lit)) → IsTheory base theory boxes → IsOver (length base.system.now.ranges) (length base.system.now.rows) theory.levels.bounds
  theory_over theory boxes t =
      over_later (length base.system.now.ranges) (length base.system.now.rows) t.before theory.levels.bounds t.levels.box.sound.over (stand_extends t.before theory.levels.bounds theory.boxes boxes t.stand)

  pub var_slot : (theory : Theory) (boxes : List (List Lit)) (var : ℕ) → IsTheory base theory boxes → var < length base.system.now.ranges → HasSlot theory.levels.bounds (Var var)
  var_slot theory boxes var t exists = has_slot (length base.system.now.ranges) (length base.system.now.rows) theory.levels.bounds (Var var) (theory_over theory boxes t) exists

  pub part_slots : (theory : Theory) (boxes : List (List Lit)) (parts : List FarkasPart) → IsTheory base theory boxes → All (λ part. NamesTerm base.system.now part.lit) parts
      → All (λ part. HasSlot theory.levels.bounds part.lit.term) parts
  part_slots theory boxes parts t named =
      All-weaker (λ part. NamesTerm base.system.now part.lit) (λ part. HasSlot theory.levels.bounds part.lit.term)
      (λ part exists. has_slot (length base.system.now.ranges) (length base.system.now.rows) theory.levels.bounds part.lit.term (theory_over theory boxes t) exists) parts named

  pub some_box : (theory : Theory) (boxes : List (List Lit)) → IsTheory base theory boxes → (box : List Lit) × (rest : List (List Lit)) × (boxes ≡ box ∷ rest)
  some_box theory [] t = absurd t.stand
  some_box theory (box ∷ rest) t = (box, rest, refl)

  -- what `next` says of the boxes
  abbrev NextIs : Theory → Bounds → OpenBoxes → Refuted → Type 0
  NextIs theory bounds left answer = (from : Bounds) (box : List Lit) (boxes : List (List Lit)) → Stand from theory.levels.bounds theory.boxes (box ∷ boxes) → IsNext answer from bounds left boxes

  pub next_box : (theory : Theory) (bounds : Bounds) (left : OpenBoxes) → NextIs theory bounds left refuted.Next → (box : List Lit) (boxes : List (List Lit)) → IsTheory base theory (box ∷ boxes)
      → Comes base (GoesTo (after_leaf (stage_of theory.levels) theory.clause boxes)) (found.At (kept.Tree (moved theory bounds left)))
  next_box theory bounds left next box [] t = absurd (next t.before box [] t.stand)
  next_box theory bounds left next box (other ∷ boxes) t = (
    InTree (stage_of theory.levels) theory.clause (other ∷ boxes),
    (other ∷ boxes, refl, theory_moves theory bounds left (box ∷ other ∷ boxes) (other ∷ boxes) t (next t.before box (other ∷ boxes) t.stand)),
    refl,
  )

  pub no_box : (theory : Theory) (bounds : Bounds) (left : OpenBoxes) (boxes : List (List Lit)) → NextIs theory bounds left refuted.All → IsTheory base theory boxes
      → IsRefuted base (moved theory bounds left)
  no_box theory bounds left [] next t = absurd t.stand
  no_box theory bounds left (box ∷ boxes) next t = record {
    before = t.before;
    mark = t.mark;
    levels = record {
      last = t.levels.last;
      enclosing = t.levels.enclosing;
      box = t.levels.box;
      around = t.levels.around;
    };
    named = t.named;
    extends = (next t.before box boxes t.stand).1;
  }

  pub levels_back : (theory : Theory) (bounds : Bounds) (t : IsRefuted base theory) → IsSame t.before bounds → AreLevels base.system.now base.cost (record theory.levels { bounds = bounds })
  levels_back theory bounds t same =
      let back = levels_same base.system.now base.cost (record theory.levels { bounds = t.before }) bounds t.levels same in
      record { last = back.last; enclosing = back.enclosing; box = back.box; around = back.around }

  -- a split or a leaf stands for what it gives where some box is left
  pub node_line : (theory : Theory) (l m : Line) (Gives : List Lit → List (List Lit) → Outcome → Type 0) → l ≡ m
      → ((box : List Lit) (boxes : List (List Lit)) (o : Outcome) → Gives box boxes o → LineOf base (InTree (stage_of theory.levels) theory.clause (box ∷ boxes)) m o)
      → {E : Type 0} (r : Result Found E)
      → IfOk r (λ f. (box : List Lit) (boxes : List (List Lit)) → IsTheory base theory (box ∷ boxes) → Comes base (Gives box boxes) f)
      → IfOk r (λ f. (boxes : List (List Lit)) → IsTheory base theory boxes → Comes base (LineOf base (InTree (stage_of theory.levels) theory.clause boxes) l) f)
  node_line theory l m Gives is gives (Err e) comes = tt
  node_line theory l m Gives is gives (Ok f) comes = λ boxes t. each boxes t
    where
      each : (boxes : List (List Lit)) → IsTheory base theory boxes → Comes base (LineOf base (InTree (stage_of theory.levels) theory.clause boxes) l) f
      each [] t = absurd t.stand
      each (box ∷ boxes) t =
          of_kind base (InTree (stage_of theory.levels) theory.clause (box ∷ boxes)) l m (Gives box boxes) is (gives box boxes) f (comes box boxes t)

-- a line at a theory that is kept
pub tree_line : {E : Type 0} (base : Base) (k : Kept) (theory : Theory) (l : Line) → k ≡ kept.Tree theory → (r : Result Found E)
    → IfOk r (λ f. (boxes : List (List Lit)) → IsTheory base theory boxes → Comes base (LineOf base (InTree (stage_of theory.levels) theory.clause boxes) l) f)
    → IfOk r (λ f. (at : Place) → IsKept base k at → Comes base (LineOf base at l) f)
tree_line base k theory l is (Err e) comes = tt
tree_line base k theory l is (Ok f) comes = λ at keeps.
    let here : IsKept base (kept.Tree theory) at = subst (λ (n : Kept). IsKept base n at) is keeps in
    subst (λ (p : Place). Comes base (LineOf base p l) f) (sym here.1) (comes here.0 here.2)
