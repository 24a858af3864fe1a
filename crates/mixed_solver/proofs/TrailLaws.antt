-- The bounds of a simplex that has a trail's literals say what the trail says.
use Rattle.std.proofs.Common.{◌≡◌, ℕ, zero, suc, ◌+◌, ◌≤◌, List, [], ◌∷◌, ◌++◌, length, get_or, take, drop, All, sym, ◌∙◌, ap, subst, ⊎_elim, arith}
use Rattle.std.specs.Prelude.{Contains}
use Rattle.std.proofs.lemmas.List.{take_all, get_or_default, take-append-drop}
use Rattle.std.proofs.lemmas.List.Elements.{All-append, All-contains, All-drop, All-take, All-weaker}
use Rattle.mix_system.specs.declared.literal.Lit.{Lit}
use Rattle.mix_system.specs.System.{System}
use Rattle.mix_system.specs.Bounds.{IsIn, range_bounds}
use Rattle.mix_system.proofs.BoundLaws.{IsIn-append_left, IsIn-append_right, IsIn-append_cases, IsIn-contained, IsIn-said}
use Rattle.bounded_simplex.specs.Refutation.{box_of}
use Rattle.bound_trail.specs.Trail.{Trail, level_end}
use Rattle.level_search.specs.Learning.{trail_at}
use Rattle.trail_bounds.specs.declared.bounds.TrailBounds.{TrailBounds}
use Rattle.trail_bounds.specs.TrailBounds.{AreBoundsOf}
use Rattle.trail_bounds.proofs.BoundsLaws.{length_dropped, length_taken}

pub each_among : {X : Type 0} (xs : List X) → All (Contains xs) xs
each_among xs k d within = (k, within, get_or_default xs k (get_or xs k d) d within)

module _ (system : System) (lits : List Lit) (it : TrailBounds) (are : AreBoundsOf system lits it) where
  -- each change is a literal of the trail
  pub changes_on_trail : All (Contains lits) it.simplex.bounds.changes
  changes_on_trail =
      let ground = take it.ground lits in
      let behind = drop it.ground lits in
      let front_among : All (Contains lits) are.front =
      All-weaker (Contains ground) (Contains lits) (λ x among. All-contains (Contains lits) ground x (All-take (Contains lits) it.ground lits (each_among lits)) among) are.front are.among in
      subst (All (Contains lits)) (sym are.changes)
      (All-append (Contains lits) are.front (take it.put behind) front_among (All-take (Contains lits) it.put behind (All-drop (Contains lits) it.ground lits (each_among lits))))

  -- so the bounds say no more than the trail
  pub bounds_on_trail : (lit : Lit) → IsIn (box_of it.simplex.bounds) lit → IsIn (range_bounds system.ranges ++ lits) lit
  bounds_on_trail lit within =
      let ranges = range_bounds system.ranges in
      let changes = it.simplex.bounds.changes in
      let own : IsIn (ranges ++ changes) lit = subst (λ (s : System). IsIn (range_bounds s.ranges ++ changes) lit) are.over within in
      ⊎_elim (λ here. IsIn-append_left ranges lits lit here)
      (λ there. IsIn-append_right ranges lits lit (IsIn-said changes lits lit (All-weaker (Contains lits) (IsIn lits) (IsIn-contained lits) changes changes_on_trail) there))
      (IsIn-append_cases ranges changes lit own)

  -- and no less, where all of it is put
  pub trail_in_bounds : it.ground + it.put ≡ length lits → (lit : Lit) → IsIn (range_bounds system.ranges ++ lits) lit → IsIn (box_of it.simplex.bounds) lit
  trail_in_bounds all lit within =
      let ranges = range_bounds system.ranges in
      let behind = drop it.ground lits in
      let count = length_dropped it.ground lits (omega (arith, are.within)) in
      let whole : take it.put behind ≡ behind = take_all it.put behind (omega (arith, count, all)) in
      let changes : it.simplex.bounds.changes ≡ are.front ++ behind = are.changes ∙ ap (λ (xs : List Lit). are.front ++ xs) whole in
      let in_front : IsIn (ranges ++ are.front) lit → IsIn (ranges ++ (are.front ++ behind)) lit = λ here.
      ⊎_elim (λ first. IsIn-append_left ranges (are.front ++ behind) lit first)
      (λ later. IsIn-append_right ranges (are.front ++ behind) lit (IsIn-append_left are.front behind lit later))
      (IsIn-append_cases ranges are.front lit here) in
      let said : IsIn (ranges ++ (are.front ++ behind)) lit =
      ⊎_elim
      (λ here. IsIn-append_left ranges (are.front ++ behind) lit here)
      (λ there. ⊎_elim
      (λ ground. in_front (are.says lit (IsIn-append_right ranges (take it.ground lits) lit ground)))
      (λ later. IsIn-append_right ranges (are.front ++ behind) lit (IsIn-append_right are.front behind lit later))
      (IsIn-append_cases (take it.ground lits) behind lit (subst (λ (xs : List Lit). IsIn xs lit) (sym (take-append-drop it.ground lits)) there)))
      (IsIn-append_cases ranges lits lit within) in
      subst (λ (s : System). IsIn (range_bounds s.ranges ++ it.simplex.bounds.changes) lit) (sym are.over)
      (subst (λ (xs : List Lit). IsIn (ranges ++ xs) lit) (sym changes) said)

-- level 0 of a trail of these parts
abbrev first_end : List Lit → List ℕ → ℕ
first_end lits levels = get_or levels 0 (length lits)

-- level 0 keeps its end while literals come
pub end_more : (lits more : List Lit) (levels : List ℕ) → first_end lits levels ≤ first_end (lits ++ more) levels
end_more lits more [] = grind (arith, length_more lits more)
  where
    length_more : (xs ys : List Lit) → length xs ≤ length (xs ++ ys)
    length_more [] ys = omega arith
    length_more (x ∷ xs) ys = let rest = length_more xs ys in omega (arith, rest)
end_more lits more (first ∷ levels) = omega arith

-- and while a level is opened
pub end_opened : (lits more : List Lit) (levels : List ℕ) → first_end lits levels ≤ first_end (lits ++ more) (levels ++ length lits ∷ [])
end_opened lits more [] = omega arith
end_opened lits more (first ∷ levels) = omega arith

-- and while levels are given up
pub end_back : (trail : Trail) (back : ℕ) → All (λ place. place ≤ length trail.lits) trail.levels → level_end trail 0 ≤ level_end (trail_at trail back) 0
end_back trail back places = of trail.lits trail.levels back places
  where
    of : (lits : List Lit) (levels : List ℕ) (back : ℕ) → All (λ place. place ≤ length lits) levels
        → first_end lits levels ≤ first_end (take (get_or levels back (length lits)) lits) (take back levels)
    of lits [] zero places = omega (arith, length_taken (length lits) lits (omega arith))
    of lits [] (suc back) places = omega (arith, length_taken (length lits) lits (omega arith))
    of lits (first ∷ levels) zero places = omega (arith, length_taken first lits (places 0 0 (omega arith)))
    of lits (first ∷ levels) (suc back) places = omega arith

-- what is left of the literals has at least those of level 0
pub ground_left : (trail : Trail) (back : ℕ) → All (λ place. place ≤ length trail.lits) trail.levels → level_end trail 0 ≤ level_end trail back → level_end trail back ≤ length trail.lits
    → level_end trail 0 ≤ length (trail_at trail back).lits
ground_left trail back places rises within = omega (arith, rises, length_taken (level_end trail back) trail.lits within)
