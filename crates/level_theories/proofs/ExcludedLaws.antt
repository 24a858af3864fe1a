-- Which literals of a tree's leaves a theory's clause excludes, and that a system may have this clause.
use Rattle.std.proofs.Common.{◌≡◌, ℕ, ◌+◌, ◌<◌, List, [], ◌∷◌, ◌++◌, length, get_or, ℤ, sym, ◌∙◌, ap, subst, inl, inr, ⊎_elim, arith, All}
use Rattle.std.specs.Prelude.{Any, Contains}
use Rattle.std.specs.List.{HoldsAt}
use Rattle.std.proofs.lemmas.Bool.{cases_lt}
use Rattle.std.proofs.lemmas.List.{get_or_append_left, get_or_push, get_or_default, length_push}
use Rattle.std.proofs.lemmas.List.Elements.{All-nil, All-push, All-contains, All-weaker}
use Rattle.mix_system.specs.declared.literal.Term.{Term}
use Rattle.mix_system.specs.declared.literal.Lit.{Lit}
use Rattle.mix_system.specs.declared.farkas.FarkasPart.{FarkasPart}
use Rattle.mix_system.specs.Lit.{negation, Atom, atom}
use Rattle.mix_system.specs.Calm.{IsSmall, IsCalm}
use Rattle.mix_system.specs.System.{System, IsInner, IsClause, IsWellFormed, Exists}
use Rattle.mix_system.specs.Bounds.{IsIn, range_bounds, unit_bounds}
use Rattle.mix_system.proofs.BoundLaws.{negation-twice, atom-negation, IsIn-append_left, IsIn-append_right}
use Rattle.bound_trail.specs.Trail.{box}
use Rattle.level_steps.specs.Level.{clause_of, box_of}
use Rattle.level_steps.specs.Plain.{IsNamed, IsPlain, MayHave}
use Rattle.proof_term.specs.declared.step.Step.{Step}
use Rattle.proof_term.specs.declared.tree.Node.{Node}
use Rattle.proof_term.specs.declared.tree.Node.TheVariants.{Leaf, Split}
use Rattle.proof_term.specs.declared.tree.Tree.{Tree}
use Rattle.proof_term.specs.declared.step.Step.TheVariants.{Theory}
use Rattle.level_search.specs.declared.level.LevelSearch.{LevelSearch}
use Rattle.level_search.specs.Kept.{level_of, IsAllowed, IsKept}
use Rattle.level_search.proofs.KeptLaws.{small_is_inner, empty_is_clause}
use Rattle.level_search.proofs.LogLaws.{contained_unit, same_single_box, same_atom}
use Rattle.level_theories.specs.Theory.{IsExact, IsCovered, NodeIsCovered, IsExcluded, AreExcluded, HasMore}

-- the literals of the system's clauses, and their negations

named_clause : (system : System) (lit : Lit) (P : Lit → Type 0) (Q : Type 0) → All (All P) system.clauses → ((other : Lit) → atom other ≡ atom lit → P other → Q) → IsNamed system lit → Q
named_clause system lit P Q all found named =
    let inside = named.4 in
    found inside.1 inside.4 (All-contains P named.1 inside.1 (All-contains (All P) system.clauses named.1 all (named.0, named.2, named.3)) (inside.0, inside.2, inside.3))

named_known : (system : System) (lit : Lit) → IsWellFormed system → IsNamed system lit → Exists (length system.ranges) (length system.rows) lit.term
named_known system lit formed named =
    let P : Lit → Type 0 = λ other. Exists (length system.ranges) (length system.rows) other.term in
    named_clause system lit P (P lit) (All-weaker (IsClause (length system.ranges) (length system.rows)) (All P) (λ clause is. is.known) system.clauses formed.clauses)
    (λ other same known. subst (Exists (length system.ranges) (length system.rows)) (ap (λ (a : Atom). a.0) same) known) named

named_inner : (system : System) (lit : Lit) → IsCalm system → IsNamed system lit → IsInner lit.bound
named_inner system lit calm named =
    let P : Lit → Type 0 = λ other. IsSmall other.bound × IsSmall (negation other).bound in
    named_clause system lit P (IsInner lit.bound) calm.bounds
    (λ other same small. ⊎_elim
    (λ equal. small_is_inner lit.bound (subst (λ (l : Lit). IsSmall l.bound) (sym equal) small.0))
    (λ opposite. small_is_inner lit.bound (subst (λ (l : Lit). IsSmall l.bound) (sym opposite) small.1))
    (same_atom lit other (sym same))) named

named_negation : (system : System) (lit : Lit) → IsNamed system lit → IsNamed system (negation lit)
named_negation system lit named = subst (λ (a : Atom). Any (Any (λ other. atom other ≡ a)) system.clauses) (sym (atom-negation lit)) named

module _ (it : LevelSearch) (kept : IsKept it) where
  abbrev own : List Lit
  own = box_of (level_of it) it.steps.items

  pub term_on_trail : (term : Term) → Exists (length it.system.now.ranges) (length it.system.now.rows) term → Exists (length it.search.trail.ranges) it.search.trail.rows term
  term_on_trail term known =
      subst (λ rows. Exists (length it.search.trail.ranges) rows term) (sym kept.over.rows)
      (subst (λ (ranges : List (ℤ × ℤ)). Exists (length ranges) (length it.system.now.rows) term) (sym kept.over.ranges) known)

  -- a literal of the trail that the level's bounds don't say has an atom of the system's clauses
  taken_is_named : (lit : Lit) → IsExact it.search lit → IsIn (box it.search.trail) lit → ¬ IsIn own lit → IsNamed it.system.now lit
  taken_is_named lit exact is_true unsaid =
      let said_where : IsIn (range_bounds it.search.trail.ranges ++ unit_bounds it.search.store) lit → IsIn own lit = (same_single_box it kept lit).0 in
      ⊎_elim
      (λ put. ⊎_elim (λ named. named)
      (λ set. absurd (unsaid (said_where (IsIn-append_right (range_bounds it.search.trail.ranges) (unit_bounds it.search.store) lit (contained_unit it.search.store lit set.1)))))
      (All-contains (IsAllowed it.system.now it.search.store) it.search.trail.lits lit kept.over.put put))
      (λ said. absurd (unsaid (said_where (IsIn-append_left (range_bounds it.search.trail.ranges) (unit_bounds it.search.store) lit said))))
      (exact is_true)

  pub taken : (lit : Lit) → IsExact it.search lit → IsIn (box it.search.trail) lit → ¬ IsIn own lit → IsExcluded it (negation lit)
  taken lit exact is_true unsaid = record {
    is_false = subst (IsIn (box it.search.trail)) (sym (negation-twice lit)) is_true;
    named = named_negation it.system.now lit (taken_is_named lit exact is_true unsaid);
    unsaid = λ said. unsaid (subst (IsIn own) (negation-twice lit) said);
  }

  pub taken_inner : (lit : Lit) → IsCalm it.system.now → IsExact it.search lit → IsIn (box it.search.trail) lit → ¬ IsIn own lit → IsInner lit.bound
  taken_inner lit calm exact is_true unsaid = named_inner it.system.now lit calm (taken_is_named lit exact is_true unsaid)

  pub excluded_known : (lit : Lit) → IsExcluded it lit → Exists (length it.system.now.ranges) (length it.system.now.rows) lit.term
  excluded_known lit is = named_known it.system.now lit kept.formed is.named

  pub excluded_clause : (lits : List Lit) → IsCalm it.system.now → AreExcluded it lits → IsClause (length it.system.now.ranges) (length it.system.now.rows) lits
  excluded_clause lits calm are = record {
    known = All-weaker (IsExcluded it) (λ lit. Exists (length it.system.now.ranges) (length it.system.now.rows) lit.term) excluded_known lits are.each;
    distinct = are.distinct;
    inner = All-weaker (IsExcluded it) (λ lit. IsInner lit.bound) (λ lit is. named_inner it.system.now lit calm is.named) lits are.each;
  }

  pub excluded_plain : (lits : List Lit) (tree : Tree) → IsCalm it.system.now → AreExcluded it lits → IsPlain it.system.now (Theory lits tree)
  excluded_plain lits tree calm are = record {
    clause = excluded_clause lits calm are;
    lits = All-weaker (IsExcluded it) (MayHave it.system.now (Theory lits tree)) (λ lit is. inl is.named) lits are.each;
  }

pub excluded_none : (it : LevelSearch) → AreExcluded it []
excluded_none it = record { each = All-nil (IsExcluded it); distinct = λ i j d before within. absurd (omega arith) }

pub excluded_more : (it : LevelSearch) (lits : List Lit) (lit : Lit) → AreExcluded it lits → IsExcluded it lit → ¬ Contains lits lit → AreExcluded it (lits ++ lit ∷ [])
excluded_more it lits lit are is apart = record {
  each = All-push (IsExcluded it) lits lit are.each is;
  distinct = λ i j d before within. ⊎_elim
      (λ inside. λ same. are.distinct i j d before inside (sym (get_or_append_left lits (lit ∷ []) d i (omega arith)) ∙ same ∙ get_or_append_left lits (lit ∷ []) d j inside))
      (λ past. let last : length lits ≡ j = omega (arith, length_push lits lit) in
      λ same. let here : get_or lits i d ≡ lit = sym (get_or_append_left lits (lit ∷ []) d i (omega arith)) ∙ same ∙ get_or_push lits lit d j last in
      apart (i, omega arith, get_or_default lits i lit d (omega arith) ∙ here))
      (cases_lt j (length lits));
}

pub covered_more : (it : LevelSearch) (old new : List Lit) (lit : Lit) → HasMore old new → IsCovered it old lit → IsCovered it new lit
covered_more it old new lit more covered =
    ⊎_elim (λ apart. inl apart) (λ said. inr (⊎_elim (λ by_level. inl by_level) (λ among. inr (more (negation lit) among)) said)) covered

pub node_more : (it : LevelSearch) (old new : List Lit) (node : Node) → HasMore old new → NodeIsCovered it old node → NodeIsCovered it new node
node_more it old new (Leaf farkas) more covered =
    All-weaker (λ (part : FarkasPart). IsCovered it old part.lit) (λ part. IsCovered it new part.lit) (λ part is. covered_more it old new part.lit more is) farkas.parts covered
node_more it old new (Split var at) more covered = tt

-- what holds of the first items in a weaker form, and of the next one
pub hold_more : {X : Type 0} (P Q : X → Type 0) (xs : List X) (at : ℕ) (x : X) → at < length xs → ((y : X) → P y → Q y) → ((k : ℕ) → k < at → HoldsAt P xs k) → Q (get_or xs at x)
    → (k : ℕ) → k < at + 1 → HoldsAt Q xs k
hold_more P Q xs at x within weaker before here k below d =
    ⊎_elim (λ earlier. weaker (get_or xs k d) (before k earlier d))
    (λ past. let last : at ≡ k = omega arith in subst (λ n. Q (get_or xs n d)) last (subst Q (get_or_default xs at x d within) here))
    (cases_lt k at)

-- a step whose clause is empty
pub empty_plain : (system : System) (step : Step) → clause_of step ≡ [] → IsPlain system step
empty_plain system step is = record {
  clause = subst (IsClause (length system.ranges) (length system.rows)) (sym is) (empty_is_clause (length system.ranges) (length system.rows));
  lits = subst (All (MayHave system step)) (sym is) (All-nil (MayHave system step));
}
