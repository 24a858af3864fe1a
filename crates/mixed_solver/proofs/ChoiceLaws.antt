-- Which literal may be decided.
use Rattle.level_steps.specs.Level.{clause_of, cut_clauses, available}
use Rattle.level_search.specs.Kept.{level_of}
use Rattle.std.proofs.Common.{map, ◌++◌, ◌≡◌, ◌⊎◌, List, length, refl, sym, subst, ⊎_elim, All}
use Rattle.std.specs.Prelude.{Any, Contains}
use Rattle.std.proofs.lemmas.List.Elements.{All-contains, Contains-append_left}
use Rattle.mix_system.specs.declared.literal.Lit.{Lit}
use Rattle.mix_system.specs.Lit.{negation, Atom, atom}
use Rattle.mix_system.specs.System.{Exists, IsClause}
use Rattle.mix_system.specs.Bounds.{IsIn, IsFalseIn}
use Rattle.mix_system.proofs.BoundLaws.{negation-twice, atom-negation}
use Rattle.bound_trail.specs.Trail.{box}
use Rattle.clause_search.specs.Settled.{HasTrue, IsSettled}
use Rattle.level_steps.specs.Plain.{IsNamed}
use Rattle.level_search.proofs.KeptLaws.{small_is_inner}
use Rattle.trail_bounds.proofs.BoundsLaws.{blank}
use Rattle.mixed_solver.specs.declared.mixed.Mixed.{Mixed}
use Rattle.mixed_solver.specs.Mixed.{IsMixed}
use Rattle.mixed_solver.specs.Turns.{IsQuiet, MayDecide}
use Rattle.mixed_solver.proofs.MixedLaws.{named_small}

module _ (it : Mixed) (mixed : IsMixed it) (quiet : IsQuiet it) (clause : List Lit) (among : Contains it.level.system.now.clauses clause) where
  abbrev bounds : List Lit
  bounds = box it.level.search.trail

  settled : IsSettled bounds clause
  settled =
      let clauses = it.level.system.now.clauses in
      let cuts = cut_clauses it.level.cuts.items in
      let steps = map clause_of it.level.steps.items in
      All-contains (IsSettled bounds) it.level.search.store clause quiet
      (All-contains (Contains it.level.search.store) (available (level_of it.level) it.level.steps.items) clause mixed.stored
      (Contains-append_left (clauses ++ cuts) steps clause (Contains-append_left clauses cuts clause among)))

  -- a clause without a true literal has one that isn't false
  pub not_all_false : ¬ HasTrue bounds clause → All (IsFalseIn bounds) clause → ⊥
  not_all_false none all =
      ⊎_elim none (λ two. two.one.left blank (all two.first blank two.one.within)) settled

  -- such a literal, and its negation, may be decided
  module _ (formed : IsClause (length it.level.system.now.ranges) (length it.level.system.now.rows) clause) (none : ¬ HasTrue bounds clause)
      (lit : Lit) (has : Contains clause lit) (left : ¬ IsFalseIn bounds lit) where
    not_true : ¬ IsIn bounds lit
    not_true is = none (has.0, lit, has.1, has.2, is)

    named : IsNamed it.level.system.now lit
    named = (among.0, clause, among.1, among.2, (has.0, lit, has.1, has.2, refl))

    itself : MayDecide it lit
    itself = record {
      known = All-contains (λ (l : Lit). Exists (length it.level.system.now.ranges) (length it.level.system.now.rows) l.term) clause lit formed.known has;
      named = named;
      inner = small_is_inner lit.bound (named_small it.level.system.now lit mixed.calm named);
      open_ = record { not_true = not_true; not_false = left };
    }

    opposite : MayDecide it (negation lit)
    opposite =
        let own : IsNamed it.level.system.now (negation lit) = subst (λ (a : Atom). Any (Any (λ other. atom other ≡ a)) it.level.system.now.clauses) (sym (atom-negation lit)) named in
        record {
          known = itself.known;
          named = own;
          inner = small_is_inner (negation lit).bound (named_small it.level.system.now (negation lit) mixed.calm own);
          open_ = record { not_true = left; not_false = λ is. not_true (subst (IsIn bounds) (negation-twice lit) is) };
        }

    pub may_decide : (towards : Lit) → (towards ≡ lit) ⊎ (towards ≡ negation lit) → MayDecide it towards
    may_decide towards is = ⊎_elim (λ same. subst (MayDecide it) (sym same) itself) (λ other. subst (MayDecide it) (sym other) opposite) is
