-- A point inside all bounds meets the level where each clause has a true literal on the trail.
use Rattle.std.proofs.Common.{◌≡◌, List, [], ◌∷◌, ◌++◌, length, map, ℤ, pos, ◌*ℤ◌, All, refl, sym, ◌∙◌, ap, subst, ⊎_elim, arith}
use Rattle.std.specs.Prelude.{Any, Contains}
use Rattle.std.specs.Option.{option_to_list}
use Rattle.std.proofs.lemmas.Int.{ints}
use Rattle.std.proofs.lemmas.List.Elements.{All-contains, All-weaker}
use Rattle.mix_system.specs.declared.literal.Lit.{Lit}
use Rattle.mix_system.specs.declared.literal.Side.{Side}
use Rattle.mix_system.specs.declared.literal.Side.TheVariants.{Le, Ge}
use Rattle.mix_system.specs.declared.literal.Term.TheVariants.{Var}
use Rattle.mix_system.specs.Lit.{IsWithin}
use Rattle.mix_system.specs.Fits.{IsTrueAt, term_value}
use Rattle.mix_system.specs.System.{System, Exists}
use Rattle.mix_system.specs.Bounds.{Entails, IsIn, range_bounds, unit_bounds}
use Rattle.mix_system.proofs.AnyLaws.{Any-weaker, Any-with_all, Any-one_holds}
use Rattle.mix_system.proofs.BoundLaws.{IsIn-append_left, IsIn-append_cases, IsIn-contained, IsIn-entailed, range_bounds_say, range_bounds-true}
use Rattle.bound_trail.specs.Trail.{box, IsTrail}
use Rattle.clause_search.specs.Settled.{HasTrue, IsSettled, LeavesTwo}
use Rattle.clause_search.proofs.LearntLaws.{single_of}
use Rattle.bounded_simplex.specs.Point.{Admits}
use Rattle.integer_splits.specs.WholePoint.{IsWholePoint}
use Rattle.level_steps.specs.Level.{Meets, clause_of, cut_clauses}
use Rattle.level_search.specs.Kept.{level_of}
use Rattle.level_search.proofs.LocalLaws.{unit_left, unit_right}
use Rattle.mixed_solver.specs.declared.mixed.Mixed.{Mixed}
use Rattle.mixed_solver.specs.Mixed.{IsMixed}
use Rattle.mixed_solver.specs.Turns.{IsQuiet, AreAllPut}
use Rattle.mixed_solver.proofs.ForceLaws.{in_force_says}
use Rattle.mixed_solver.proofs.MixedLaws.{trail_known}
use Rattle.mixed_solver.proofs.TrailLaws.{each_among, trail_in_bounds}

admitted : (side : Side) (bound end value : ℤ) → IsWithin side bound end → IsWithin side (pos 1 *ℤ end) value → IsWithin side bound value
admitted Le bound end value tight keeps = omega (arith, ints, tight, keeps)
admitted Ge bound end value tight keeps = omega (arith, ints, tight, keeps)

-- a clause of one literal leaves no two
no_two : (bounds : List Lit) (only : Lit) → LeavesTwo bounds (only ∷ []) → ⊥
no_two bounds only two = omega (arith, two.apart, two.other.within)

-- what the single literals of settled clauses say is true
pub single_said : (bounds : List Lit) (store : List (List Lit)) (lit : Lit) → All (IsSettled bounds) store → IsIn (unit_bounds store) lit → IsIn bounds lit
single_said bounds store lit settled within =
    let (only, among, entails) = single_of store lit within in
    ⊎_elim
    (λ has. IsIn-entailed bounds only lit (Any-one_holds (IsIn bounds) only has) entails)
    (λ two. absurd (no_two bounds only two))
    (All-contains (IsSettled bounds) store (only ∷ []) settled among)

units_of_cuts : (cuts : List Lit) → unit_bounds (cut_clauses cuts) ≡ cuts
units_of_cuts [] = refl
units_of_cuts (cut ∷ cuts) = ap (λ (xs : List Lit). cut ∷ xs) (units_of_cuts cuts)

each_said : (lits : List Lit) → All (IsIn lits) lits
each_said lits = All-weaker (Contains lits) (IsIn lits) (IsIn-contained lits) lits (each_among lits)

module _ (it : Mixed) (mixed : IsMixed it) (ok : IsTrail it.level.search.trail) (quiet : IsQuiet it) (all : AreAllPut it) (point : List ℤ)
    (whole : IsWholePoint it.bounds.simplex.bounds point) where
  abbrev system : System
  system = it.level.system.now

  abbrev lits : List Lit
  lits = it.level.search.trail.lits

  -- the terms of what the trail says are the system's
  said_known : (lit : Lit) → IsIn (range_bounds system.ranges ++ lits) lit → Exists (length system.ranges) (length system.rows) lit.term
  said_known lit within =
      ⊎_elim
      (λ here. let from = range_bounds_say system.ranges lit here in subst (Exists (length system.ranges) (length system.rows)) (sym (from.term ∙ ap Var (omega arith))) from.within)
      (λ there. let found = Any-with_all (λ (l : Lit). Exists (length system.ranges) (length system.rows) l.term) (λ bound. Entails bound lit) lits (trail_known it mixed ok) there in
      subst (Exists (length system.ranges) (length system.rows)) found.2.same_term found.1)
      (IsIn-append_cases (range_bounds system.ranges) lits lit within)

  true_at : (lit : Lit) → IsIn (range_bounds system.ranges ++ lits) lit → IsTrueAt system.rows point lit
  true_at lit within =
      let bounds = it.bounds.simplex.bounds in
      let left = in_force_says bounds lit (trail_in_bounds system lits it.bounds mixed.bounds all lit within) in
      let exists : Exists (length bounds.system.ranges) (length bounds.system.rows) lit.term =
      subst (λ (s : System). Exists (length s.ranges) (length s.rows) lit.term) (sym mixed.bounds.over) (said_known lit within) in
      let keeps = subst (λ end. Admits lit.side end (pos 1) (term_value bounds.system.rows point lit.term)) left.is (whole.inside lit.term lit.side exists) in
      subst (λ (s : System). IsTrueAt s.rows point lit) mixed.bounds.over
      (admitted lit.side lit.bound left.bound (term_value bounds.system.rows point lit.term) left.as_tight keeps)

  on_trail : (lit : Lit) → IsIn (box it.level.search.trail) lit → IsTrueAt system.rows point lit
  on_trail lit within = true_at lit (subst (λ (ranges : List (ℤ × ℤ)). IsIn (range_bounds ranges ++ lits) lit) mixed.working.kept.over.ranges within)

  by_single : (lit : Lit) → IsIn (unit_bounds it.level.search.store) lit → IsTrueAt system.rows point lit
  by_single lit within = on_trail lit (single_said (box it.level.search.trail) it.level.search.store lit quiet within)

  by_cut : (lit : Lit) → IsIn it.level.cuts.items lit → IsTrueAt system.rows point lit
  by_cut lit within =
      let cuts = cut_clauses it.level.cuts.items in
      let steps = map clause_of it.level.steps.items in
      let said : IsIn (unit_bounds cuts) lit = subst (λ (xs : List Lit). IsIn xs lit) (sym (units_of_cuts it.level.cuts.items)) within in
      by_single lit (mixed.working.kept.numbered.units lit (unit_left (system.clauses ++ cuts) steps lit (unit_right system.clauses cuts lit said)))

  pub point_meets : All (HasTrue (box it.level.search.trail)) system.clauses → Meets (level_of it.level) point
  point_meets hold = record {
    fits = record {
      one_each = whole.one_each ∙ ap (λ (s : System). length s.ranges) mixed.bounds.over;
      in_ranges = (range_bounds-true system.rows point system.ranges).0
          (All-weaker (IsIn (range_bounds system.ranges)) (IsTrueAt system.rows point) (λ lit within. true_at lit (IsIn-append_left (range_bounds system.ranges) lits lit within))
          (range_bounds system.ranges) (each_said (range_bounds system.ranges)));
      clauses_hold = All-weaker (HasTrue (box it.level.search.trail)) (Any (IsTrueAt system.rows point))
          (λ clause has. Any-weaker (IsIn (box it.level.search.trail)) (IsTrueAt system.rows point) on_trail clause has) system.clauses hold;
    };
    goal = All-weaker (IsIn (option_to_list it.level.goal)) (IsTrueAt system.rows point) (λ lit within. by_single lit (mixed.working.kept.numbered.goal_too lit within))
        (option_to_list it.level.goal) (each_said (option_to_list it.level.goal));
    cuts = All-weaker (IsIn it.level.cuts.items) (IsTrueAt system.rows point) by_cut it.level.cuts.items (each_said it.level.cuts.items);
  }
