-- Bounds in force at several places of a trail.
use Rattle.std.proofs.Common.{◌≡◌, ℕ, zero, suc, ◌+◌, ◌<◌, ◌≤◌, List, [], ◌∷◌, length, get_or, take, ℤ, All, Any, sym, ◌∙◌, subst, ⊎_elim, ◌≤ℤ◌, arith}
use Rattle.std.specs.List.{HoldsAt}
use Rattle.std.proofs.lemmas.Int.{ints}
use Rattle.std.proofs.lemmas.List.{append-nil, take-append-drop, take-take}
use Rattle.std.proofs.lemmas.List.Elements.{All-head, All-tail}
use Rattle.mix_system.specs.declared.literal.Term.{Term}
use Rattle.mix_system.specs.declared.literal.Term.TheVariants.{Var}
use Rattle.mix_system.specs.declared.literal.Side.{Side}
use Rattle.mix_system.specs.declared.literal.Side.TheVariants.{Le, Ge}
use Rattle.mix_system.specs.declared.literal.Lit.{Lit}
use Rattle.mix_system.specs.Lit.{IsWithin, other_side, negated_bound, negation}
use Rattle.mix_system.specs.System.{IsRange}
use Rattle.mix_system.specs.Bounds.{Entails, IsIn, IsFalseIn, range_bounds, range_bounds_from}
use Rattle.bound_trail.specs.Edges.{blank_lit}
use Rattle.bound_trail.specs.Trail.{Trail, box, box_with, IsTrail}
use Rattle.bound_trail.proofs.AnywhereLaws.{any_none, any_left, any_right, any_append_cases}
use Rattle.bound_trail.proofs.EntailmentLaws.{negation_entails, sides_differ, falsifies_each_other, in_weaker}
use Rattle.bound_trail.proofs.EdgeLaws.{in_range_cases}
use Rattle.bound_trail.proofs.TrailEdgeLaws.{more_cases, more_last}
use Rattle.bound_trail.proofs.TrailLaws.{box_is}

-- what is in force after some literals stays so after more
pub in_more : (trail : Trail) (m n : ℕ) (lit : Lit) → m ≤ n → IsIn (box_with trail m) lit → IsIn (box_with trail n) lit
in_more trail m n lit h a =
    let P : Lit → Type 0 = λ bound. Entails bound lit in
    let front = range_bounds trail.ranges in
    ⊎_elim
    (λ b. any_left P front (take n trail.lits) b)
    (λ b. any_right P front (take n trail.lits) (subst (λ xs. Any P xs) (take-append-drop m (take n trail.lits)) (any_left P (take m (take n trail.lits)) _ (subst (λ xs. Any P xs) (sym (take-take m n trail.lits h)) b))))
    (any_append_cases P front (take m trail.lits) a)

pub in_box : (trail : Trail) (n : ℕ) (lit : Lit) → IsIn (box_with trail n) lit → IsIn (box trail) lit
in_box trail n lit a =
    let P : Lit → Type 0 = λ bound. Entails bound lit in
    let front = range_bounds trail.ranges in
    ⊎_elim
    (λ b. any_left P front trail.lits b)
    (λ b. any_right P front trail.lits (subst (λ xs. Any P xs) (take-append-drop n trail.lits) (any_left P (take n trail.lits) _ b)))
    (any_append_cases P front (take n trail.lits) a)

pub in_ranges : (trail : Trail) (n : ℕ) (lit : Lit) → IsIn (range_bounds trail.ranges) lit → IsIn (box_with trail n) lit
in_ranges trail n lit a =
    any_left (λ bound. Entails bound lit) (range_bounds trail.ranges) (take n trail.lits) a

-- what is in force in the whole is in force at the trail's length
pub box_whole : (trail : Trail) (lit : Lit) → IsIn (box trail) lit → IsIn (box_with trail (length trail.lits)) lit
box_whole trail lit a = subst (λ xs. IsIn xs lit) (sym (box_is trail)) a

-- a literal of the trail is in force behind it
pub in_put : (trail : Trail) (at : ℕ) (lit : Lit) → at < length trail.lits → HoldsAt (λ put. Entails put lit) trail.lits at → IsIn (box_with trail (suc at)) lit
in_put trail at lit h e = more_last (range_bounds trail.ranges) trail.lits at blank_lit lit h (e blank_lit)

-- the ranges don't contradict themselves
same_var : (a b : ℕ) → Var a ≡ Var b → a ≡ b
same_var a b e = cc

later_var : (from : ℕ) (ranges : List (ℤ × ℤ)) (lit : Lit) → IsIn (range_bounds_from from ranges) lit → (var : ℕ) × (lit.term ≡ Var var) × (from ≤ var)
later_var from [] lit a = absurd (any_none (λ bound. Entails bound lit) a)
later_var from (range ∷ ranges) lit a =
    ⊎_elim (λ e. (from, sym e.same_term, omega arith)) (λ b. ⊎_elim (λ e. (from, sym e.same_term, omega arith)) (λ rest. let r = later_var (from + 1) ranges lit rest in (r.0, r.1, omega (arith, r.2))) b) (in_range_cases from range ranges lit a)

ends_apart : (range : ℤ × ℤ) (side : Side) (bound : ℤ) → range.0 ≤ℤ range.1 → Ge ≡ side → IsWithin side bound range.0 → Le ≡ other_side side → IsWithin (other_side side) (negated_bound side bound) range.1 → ⊥
ends_apart range Le bound ordered e w f v = cc
ends_apart range Ge bound ordered e w f v = omega (arith, ints)

ends_apart_down : (range : ℤ × ℤ) (side : Side) (bound : ℤ) → range.0 ≤ℤ range.1 → Le ≡ side → IsWithin side bound range.1 → Ge ≡ other_side side → IsWithin (other_side side) (negated_bound side bound) range.0 → ⊥
ends_apart_down range Le bound ordered e w f v = omega (arith, ints)
ends_apart_down range Ge bound ordered e w f v = cc

not_later : (from var : ℕ) (term : Term) → Var from ≡ term → term ≡ Var var → from + 1 ≤ var → ⊥
not_later from var term e f h =
    let same = same_var from var (e ∙ f) in omega arith

range_consistent : (from : ℕ) (ranges : List (ℤ × ℤ)) (lit : Lit) → All IsRange ranges → IsIn (range_bounds_from from ranges) lit → IsFalseIn (range_bounds_from from ranges) lit → ⊥
range_consistent from [] lit ok a b = any_none (λ bound. Entails bound lit) a
range_consistent from (range ∷ ranges) lit ok a b =
    let here = All-head IsRange range ranges ok in
    let neg = negation lit in
    ⊎_elim
    (λ e. ⊎_elim
    (λ f. sides_differ lit.side (sym e.same_side ∙ f.same_side))
    (λ c. ⊎_elim
    (λ f. ends_apart range lit.side lit.bound here.ordered e.same_side e.as_strong f.same_side f.as_strong)
    (λ rest. let v = later_var (from + 1) ranges neg rest in not_later from v.0 lit.term e.same_term v.1 v.2)
    c)
    (in_range_cases from range ranges neg b))
    (λ c. ⊎_elim
    (λ e. ⊎_elim
    (λ f. ends_apart_down range lit.side lit.bound here.ordered e.same_side e.as_strong f.same_side f.as_strong)
    (λ d. ⊎_elim
    (λ f. sides_differ lit.side (sym e.same_side ∙ f.same_side))
    (λ rest. let v = later_var (from + 1) ranges neg rest in not_later from v.0 lit.term e.same_term v.1 v.2)
    d)
    (in_range_cases from range ranges neg b))
    (λ rest. let v = later_var (from + 1) ranges lit rest in ⊎_elim
    (λ f. not_later from v.0 lit.term f.same_term v.1 v.2)
    (λ d. ⊎_elim
    (λ f. not_later from v.0 lit.term f.same_term v.1 v.2)
    (λ more. range_consistent (from + 1) ranges lit (All-tail IsRange range ranges ok) rest more)
    d)
    (in_range_cases from range ranges neg b))
    c)
    (in_range_cases from range ranges lit a)

-- a trail doesn't contradict itself or the ranges
pub consistent : (trail : Trail) → IsTrail trail → (n : ℕ) → n ≤ length trail.lits → (lit : Lit) → IsIn (box_with trail n) lit → IsFalseIn (box_with trail n) lit → ⊥
consistent trail ok zero h lit a b =
    let none = append-nil (range_bounds trail.ranges) in
    range_consistent 0 trail.ranges lit ok.ranges (subst (λ xs. IsIn xs lit) none a) (subst (λ xs. IsFalseIn xs lit) none b)
consistent trail ok (suc n) h lit a b =
    let put = get_or trail.lits n blank_lit in
    let open_ = ok.opened n (omega arith) blank_lit in
    let front = range_bounds trail.ranges in
    ⊎_elim
    (λ old. ⊎_elim
    (λ other. consistent trail ok n (omega arith) lit old other)
    (λ e. open_.not_false (in_weaker (box_with trail n) lit (negation put) (falsifies_each_other put lit e) old))
    (more_cases front trail.lits n blank_lit (negation lit) (omega arith) b))
    (λ e. ⊎_elim
    (λ other. open_.not_false (in_weaker (box_with trail n) (negation lit) (negation put) (negation_entails put lit e) other))
    (λ f. sides_differ lit.side (sym e.same_side ∙ f.same_side))
    (more_cases front trail.lits n blank_lit (negation lit) (omega arith) b))
    (more_cases front trail.lits n blank_lit lit (omega arith) a)

pub consistent_box : (trail : Trail) → IsTrail trail → (lit : Lit) → IsIn (box trail) lit → IsFalseIn (box trail) lit → ⊥
consistent_box trail ok lit a b =
    consistent trail ok (length trail.lits) (omega arith) lit (box_whole trail lit a) (box_whole trail (negation lit) b)
