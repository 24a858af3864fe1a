-- One more change of the bounds, and one fewer.
use Rattle.std.proofs.Common.{◌≡◌, ◌≢◌, ℕ, ◌+◌, ◌*◌, ◌<◌, ◌≤◌, Bool, true, false, cond, eqb, List, [], ◌∷◌, ◌++◌, length, get_or, set, Option, None, ℤ, All, refl, sym, ap, ◌∙◌, subst, ⊎_elim, arith}
use Rattle.std.specs.Prelude.{◌&&◌}
use Rattle.std.proofs.lemmas.Bool.{cases_lt, cases_Bool, false≢true}
use Rattle.std.proofs.lemmas.Bool.Decides.{nat_tests}
use Rattle.std.proofs.lemmas.List.{get_or_default, get_or_append_left, get_or_at, get_or-set_same, get_or-set_other, take-append-le, take_at, map-append, length-append}
use Rattle.std.proofs.lemmas.List.Sums.{fold-append}
use Rattle.mix_system.specs.declared.literal.Term.{Term}
use Rattle.mix_system.specs.declared.literal.Term.TheVariants.{Var, Row}
use Rattle.mix_system.specs.declared.literal.Side.{Side}
use Rattle.mix_system.specs.declared.literal.Side.TheVariants.{Le, Ge}
use Rattle.mix_system.specs.declared.literal.Lit.{Lit}
use Rattle.mix_system.specs.System.{System, Exists}
use Rattle.mix_system.specs.Tally.{is_same_term}
use Rattle.bounded_simplex.specs.TableauOf.{column_of}
use Rattle.bounded_simplex.specs.BoundPlaces.{place_of}
use Rattle.bounded_simplex.specs.InForce.{BoundChanges, is_same_side, bounds_on, tightened, after_change, from_ranges, in_force}
use Rattle.bounded_simplex.specs.StoredBounds.{lits_of, AreReplaced, AreEnds}
use Rattle.bounded_simplex.specs.declared.bounds.Change.{Change}

same_term_refl : (term : Term) → is_same_term term term ≡ true
same_term_refl (Var a) = grind (arith, nat_tests)
same_term_refl (Row a) = grind (arith, nat_tests)

same_side_refl : (side : Side) → is_same_side side side ≡ true
same_side_refl Le = refl
same_side_refl Ge = refl

pub bounds_on_itself : (lit : Lit) → bounds_on lit.term lit.side lit ≡ true
bounds_on_itself lit = ap (λ b. b && is_same_side lit.side lit.side) (same_term_refl lit.term) ∙ same_side_refl lit.side

from_same_term : (a b : Term) → is_same_term a b ≡ true → a ≡ b
from_same_term (Var a) (Var b) e = ap Var (same a b e)
  where
    same : (a b : ℕ) → eqb a b ≡ true → a ≡ b
    same a b e = grind (arith, nat_tests)
from_same_term (Row a) (Row b) e = ap Row (same a b e)
  where
    same : (a b : ℕ) → eqb a b ≡ true → a ≡ b
    same a b e = grind (arith, nat_tests)
from_same_term (Var a) (Row b) e = cc
from_same_term (Row a) (Var b) e = cc

from_same_side : (a b : Side) → is_same_side a b ≡ true → a ≡ b
from_same_side Le Le e = refl
from_same_side Ge Ge e = refl
from_same_side Le Ge e = cc
from_same_side Ge Le e = cc

both : (a b : Bool) → (a && b) ≡ true → (a ≡ true) × (b ≡ true)
both true b e = (refl, e)
both false b e = cc

pub from_bounds_on : (term : Term) (side : Side) (lit : Lit) → bounds_on term side lit ≡ true → (lit.term ≡ term) × (lit.side ≡ side)
from_bounds_on term side lit e =
    let (of_term, of_side) = both (is_same_term lit.term term) (is_same_side lit.side side) e in
    (from_same_term lit.term term of_term, from_same_side lit.side side of_side)

same_column : (vars rows : ℕ) (t u : Term) → Exists vars rows t → Exists vars rows u → column_of vars t ≡ column_of vars u → t ≡ u
same_column vars rows (Var a) (Var b) in_t in_u e = ap Var e
same_column vars rows (Var a) (Row b) in_t in_u e = absurd (omega arith)
same_column vars rows (Row a) (Var b) in_t in_u e = absurd (omega arith)
same_column vars rows (Row a) (Row b) in_t in_u e = ap Row (omega arith)

same_place : (vars rows : ℕ) (t u : Term) (s r : Side) → Exists vars rows t → Exists vars rows u → place_of vars t s ≡ place_of vars u r → (t ≡ u) × (s ≡ r)
same_place vars rows t u Le Le in_t in_u e = (same_column vars rows t u in_t in_u (omega arith), refl)
same_place vars rows t u Ge Ge in_t in_u e = (same_column vars rows t u in_t in_u (omega arith), refl)
same_place vars rows t u Le Ge in_t in_u e = absurd (omega arith)
same_place vars rows t u Ge Le in_t in_u e = absurd (omega arith)

other_place : (vars rows : ℕ) (term : Term) (side : Side) (lit : Lit) → Exists vars rows term → Exists vars rows lit.term → bounds_on term side lit ≡ false → place_of vars term side ≢ place_of vars lit.term lit.side
other_place vars rows term side lit in_term in_lit apart e =
    let (of_term, of_side) = same_place vars rows term lit.term side lit.side in_term in_lit e in
    let on : bounds_on term side lit ≡ true = (λ i. bounds_on (of_term i) (of_side i) lit) ∙ bounds_on_itself lit in
    absurd (false≢true (sym apart ∙ on))

pub place_within : (vars rows : ℕ) (term : Term) (side : Side) → Exists vars rows term → place_of vars term side < 2 * (vars + rows)
place_within vars rows (Var a) Le h = omega arith
place_within vars rows (Var a) Ge h = omega arith
place_within vars rows (Row a) Le h = omega arith
place_within vars rows (Row a) Ge h = omega arith

module _ (system : System) (room : ℕ) where
  abbrev with_changes : List Lit → BoundChanges
  with_changes changes = record { system = system; changes = changes; room = room }

  in_force_push : (changes : List Lit) (lit : Lit) (term : Term) (side : Side) → in_force (with_changes (changes ++ lit ∷ [])) term side ≡ after_change term side (in_force (with_changes changes) term side) lit
  in_force_push changes lit term side = fold-append (after_change term side) (from_ranges system.ranges term side) changes (lit ∷ [])

  -- what a change leaves of a term's bound on a side: itself, or the bound as it was
  changed_here : (changes : List Lit) (lit : Lit) (term : Term) (side : Side) → bounds_on term side lit ≡ true → tightened side (in_force (with_changes changes) term side) lit.bound ≡ in_force (with_changes (changes ++ lit ∷ [])) term side
  changed_here changes lit term side on =
      sym (ap (λ b. cond b (tightened side (in_force (with_changes changes) term side) lit.bound) (in_force (with_changes changes) term side)) on) ∙ sym (in_force_push changes lit term side)

  changed_elsewhere : (changes : List Lit) (lit : Lit) (term : Term) (side : Side) → bounds_on term side lit ≡ false → in_force (with_changes changes) term side ≡ in_force (with_changes (changes ++ lit ∷ [])) term side
  changed_elsewhere changes lit term side apart =
      sym (ap (λ b. cond b (tightened side (in_force (with_changes changes) term side) lit.bound) (in_force (with_changes changes) term side)) apart) ∙ sym (in_force_push changes lit term side)

  -- a write in the place of a literal's term and side
  written_here : (lit : Lit) (ends : List (Option ℤ)) (end : Option ℤ) (term : Term) (side : Side) → Exists (length system.ranges) (length system.rows) lit.term
      → length ends ≡ 2 * (length system.ranges + length system.rows) → bounds_on term side lit ≡ true
      → get_or (set ends (place_of (length system.ranges) lit.term lit.side) end) (place_of (length system.ranges) term side) None ≡ end
  written_here lit ends end term side known count on =
      let at = place_of (length system.ranges) lit.term lit.side in
      let (of_term, of_side) = from_bounds_on term side lit on in
      let here : place_of (length system.ranges) term side ≡ at = (λ i. place_of (length system.ranges) (sym of_term i) (sym of_side i)) in
      ap (λ n. get_or (set ends at end) n None) here ∙ get_or-set_same ends at end None (omega (arith, count, place_within (length system.ranges) (length system.rows) lit.term lit.side known))

  written_elsewhere : (lit : Lit) (ends : List (Option ℤ)) (end : Option ℤ) (term : Term) (side : Side) → Exists (length system.ranges) (length system.rows) term → Exists (length system.ranges) (length system.rows) lit.term
      → bounds_on term side lit ≡ false → get_or (set ends (place_of (length system.ranges) lit.term lit.side) end) (place_of (length system.ranges) term side) None ≡ get_or ends (place_of (length system.ranges) term side) None
  written_elsewhere lit ends end term side exists known apart =
      get_or-set_other ends _ _ end None (other_place (length system.ranges) (length system.rows) term side lit exists known apart)

  pub ends_put : (changes : List Lit) (lit : Lit) (ends : List (Option ℤ)) (before : Option ℤ) → AreEnds (with_changes changes) ends → Exists (length system.ranges) (length system.rows) lit.term
      → length ends ≡ 2 * (length system.ranges + length system.rows) → before ≡ in_force (with_changes changes) lit.term lit.side
      → AreEnds (with_changes (changes ++ lit ∷ [])) (set ends (place_of (length system.ranges) lit.term lit.side) (tightened lit.side before lit.bound))
  ends_put changes lit ends before are known count was term side exists =
      ⊎_elim (λ on.
      let (of_term, of_side) = from_bounds_on term side lit on in
      let value : tightened lit.side before lit.bound ≡ tightened side (in_force (with_changes changes) term side) lit.bound =
      ap (λ e. tightened lit.side e lit.bound) was ∙ (λ i. tightened (of_side i) (in_force (with_changes changes) (of_term i) (of_side i)) lit.bound) in
      written_here lit ends (tightened lit.side before lit.bound) term side known count on ∙ value ∙ changed_here changes lit term side on)
      (λ apart. written_elsewhere lit ends (tightened lit.side before lit.bound) term side exists known apart ∙ are term side exists ∙ changed_elsewhere changes lit term side apart)
      (cases_Bool (bounds_on term side lit))

  pub ends_undo : (changes : List Lit) (lit : Lit) (ends : List (Option ℤ)) (before : Option ℤ) → AreEnds (with_changes (changes ++ lit ∷ [])) ends → Exists (length system.ranges) (length system.rows) lit.term
      → length ends ≡ 2 * (length system.ranges + length system.rows) → before ≡ in_force (with_changes changes) lit.term lit.side
      → AreEnds (with_changes changes) (set ends (place_of (length system.ranges) lit.term lit.side) before)
  ends_undo changes lit ends before are known count was term side exists =
      ⊎_elim (λ on.
      let (of_term, of_side) = from_bounds_on term side lit on in
      written_here lit ends before term side known count on ∙ was ∙ (λ i. in_force (with_changes changes) (of_term i) (of_side i)))
      (λ apart. written_elsewhere lit ends before term side exists known apart ∙ are term side exists ∙ sym (changed_elsewhere changes lit term side apart))
      (cases_Bool (bounds_on term side lit))

  pub replaced_push : (changes : List Change) (change : Change) → AreReplaced system room changes → change.before ≡ in_force (with_changes (lits_of changes)) change.lit.term change.lit.side
      → AreReplaced system room (changes ++ change ∷ [])
  replaced_push changes change are was k d within =
      ⊎_elim (λ (lt : k < length changes). rw (get_or_append_left changes (change ∷ []) d k lt, take-append-le k changes (change ∷ []) (omega arith)) (are k d lt))
      (λ (le : length changes ≤ k).
      let same : length changes ≡ k = omega (arith, length-append changes (change ∷ [])) in
      rw (get_or_at changes change [] d k same, take_at changes (change ∷ []) k same) was) (cases_lt k (length changes))

  pub replaced_front : (changes : List Change) (change : Change) → AreReplaced system room (changes ++ change ∷ []) → AreReplaced system room changes
  replaced_front changes change are k d within =
      let was = are k d (omega (arith, length-append changes (change ∷ []))) in
      rw (get_or_append_left changes (change ∷ []) d k within, take-append-le k changes (change ∷ []) (omega arith)) at was

  pub replaced_last : (changes : List Change) (change : Change) → AreReplaced system room (changes ++ change ∷ []) → change.before ≡ in_force (with_changes (lits_of changes)) change.lit.term change.lit.side
  replaced_last changes change are =
      let was = are (length changes) change (omega (arith, length-append changes (change ∷ []))) in
      rw (get_or_at changes change [] change (length changes) refl, take_at changes (change ∷ []) (length changes) refl) at was

  pub lits_push : (changes : List Change) (change : Change) → lits_of (changes ++ change ∷ []) ≡ lits_of changes ++ change.lit ∷ []
  lits_push changes change = map-append (λ c. c.lit) changes (change ∷ [])

  -- the last change is given back
  pub stored_undo : (old new : List Change) (change : Change) (ends : List (Option ℤ)) (place : ℕ) → old ≡ new ++ change ∷ [] → AreEnds (with_changes (lits_of old)) ends
      → All (λ c. Exists (length system.ranges) (length system.rows) c.lit.term) old → AreReplaced system room old → length ends ≡ 2 * (length system.ranges + length system.rows)
      → place ≡ place_of (length system.ranges) change.lit.term change.lit.side → AreEnds (with_changes (lits_of new)) (set ends place change.before)
  stored_undo old new change ends place is are known replaced count at =
      let are_now = subst (λ lits. AreEnds (with_changes lits) ends) (ap lits_of is ∙ lits_push new change) are in
      let replaced_now = subst (AreReplaced system room) is replaced in
      let known_now = subst (λ cs. All (λ c. Exists (length system.ranges) (length system.rows) c.lit.term) cs) is known in
      let last = subst (λ (c : Change). Exists (length system.ranges) (length system.rows) c.lit.term) (get_or_at new change [] change (length new) refl) (known_now (length new) change (omega (arith, length-append new (change ∷ [])))) in
      rw at (ends_undo (lits_of new) change.lit ends change.before are_now last count (replaced_last new change replaced_now))

  pub known_front : (old new : List Change) (change : Change) → old ≡ new ++ change ∷ [] → All (λ c. Exists (length system.ranges) (length system.rows) c.lit.term) old → All (λ c. Exists (length system.ranges) (length system.rows) c.lit.term) new
  known_front old new change is known k d within =
      let known_now = subst (λ cs. All (λ c. Exists (length system.ranges) (length system.rows) c.lit.term) cs) is known in
      subst (λ (c : Change). Exists (length system.ranges) (length system.rows) c.lit.term) (get_or_append_left new (change ∷ []) d k within) (known_now k d (omega (arith, length-append new (change ∷ []))))

  -- a change is made
  pub stored_put : (old new : List Change) (change : Change) (ends : List (Option ℤ)) (place : ℕ) (end : Option ℤ) → new ≡ old ++ change ∷ [] → AreEnds (with_changes (lits_of old)) ends
      → Exists (length system.ranges) (length system.rows) change.lit.term → length ends ≡ 2 * (length system.ranges + length system.rows)
      → place ≡ place_of (length system.ranges) change.lit.term change.lit.side → change.before ≡ get_or ends place change.before → end ≡ tightened change.lit.side change.before change.lit.bound
      → AreEnds (with_changes (lits_of new)) (set ends place end) × (change.before ≡ in_force (with_changes (lits_of old)) change.lit.term change.lit.side)
  stored_put old new change ends place end is are known count at read made =
      let inside = place_within (length system.ranges) (length system.rows) change.lit.term change.lit.side known in
      let was : change.before ≡ in_force (with_changes (lits_of old)) change.lit.term change.lit.side =
      read ∙ get_or_default ends place change.before None (omega (arith, at, count, inside)) ∙ ap (λ n. get_or ends n None) at ∙ are change.lit.term change.lit.side known in
      (rw (is, lits_push old change, at, made) (ends_put (lits_of old) change.lit ends change.before are known count was), was)
