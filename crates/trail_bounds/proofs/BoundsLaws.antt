-- What the bounds of a trail say, as literals are put and given back.
use Rattle.std.proofs.Common.{◌≡◌, ℕ, zero, suc, ◌+◌, ◌<◌, ◌≤◌, List, [], ◌∷◌, ◌++◌, append_assoc, length, length-append, get_or, take, drop, Option, Some, None, IsSomeAnd, ℤ, pos, refl, sym, ◌∙◌, ap, subst, ⊎_elim, arith, All}
use Rattle.std.specs.Prelude.{Contains}
use Rattle.std.proofs.lemmas.List.{take_more, drop-take, take-take, append-nil, at_drop_more, drop_all}
use Rattle.mix_system.specs.declared.literal.Lit.{Lit}
use Rattle.mix_system.specs.Bounds.{Entails, IsIn, range_bounds}
use Rattle.mix_system.specs.declared.literal.Term.TheVariants.{Var}
use Rattle.mix_system.specs.declared.literal.Side.TheVariants.{Le}
use Rattle.mix_system.specs.Lit.{IsWithin}
use Rattle.mix_system.specs.System.{System, Exists}
use Rattle.mix_system.specs.Tally.{halving_depth}
use Rattle.mix_system.proofs.BoundLaws.{IsIn-none, IsIn-here, IsIn-append_left, IsIn-append_right, IsIn-append_cases, IsIn-cons_cases, IsIn-entailed}
use Rattle.bounded_simplex.specs.InForce.{BoundChanges, in_force}
use Rattle.bounded_simplex.specs.Refutation.{box_of}
use Rattle.bounded_simplex.proofs.InBoxLaws.{in_box as in_force_in_box}
use Rattle.trail_bounds.specs.declared.bounds.TrailBounds.{TrailBounds}
use Rattle.trail_bounds.specs.TrailBounds.{IsCounted, AreBoundsOf}

-- a front part of a list that is split
pub take_past : {X : Type 0} (xs ys : List X) (n : ℕ) → take (length xs + n) (xs ++ ys) ≡ xs ++ take n ys
take_past [] ys n = let e : 0 + n ≡ n = omega arith in ap (λ k. take k ys) e
take_past (x ∷ xs) ys n =
    let e : suc (length xs) + n ≡ suc (length xs + n) = omega arith in
    ap (λ k. take k (x ∷ (xs ++ ys))) e ∙ ap (λ zs. x ∷ zs) (take_past xs ys n)

pub take_append : {X : Type 0} (n : ℕ) (xs ys : List X) → n ≤ length xs → take n (xs ++ ys) ≡ take n xs
take_append zero xs ys h = refl
take_append (suc n) [] ys h = absurd (omega arith)
take_append (suc n) (x ∷ xs) ys h = ap (λ zs. x ∷ zs) (take_append n xs ys (omega arith))

pub drop_append : {X : Type 0} (n : ℕ) (xs ys : List X) → n ≤ length xs → drop n (xs ++ ys) ≡ drop n xs ++ ys
drop_append zero xs ys h = refl
drop_append (suc n) [] ys h = absurd (omega arith)
drop_append (suc n) (x ∷ xs) ys h = drop_append n xs ys (omega arith)

pub length_dropped : {X : Type 0} (n : ℕ) (xs : List X) → n ≤ length xs → length (drop n xs) + n ≡ length xs
length_dropped zero xs h = omega arith
length_dropped (suc n) [] h = absurd (omega arith)
length_dropped (suc n) (x ∷ xs) h = let rest = length_dropped n xs (omega arith) in omega (arith, rest)

pub length_taken : {X : Type 0} (n : ℕ) (xs : List X) → n ≤ length xs → length (take n xs) ≡ n
length_taken zero xs h = refl
length_taken (suc n) [] h = absurd (omega arith)
length_taken (suc n) (x ∷ xs) h = ap suc (length_taken n xs (omega arith))

pub dropped_at : {X : Type 0} (n k : ℕ) (xs : List X) (d : X) → get_or (drop n xs) k d ≡ get_or xs (n + k) d
dropped_at zero k xs d = let e : k ≡ 0 + k = omega arith in ap (λ j. get_or xs j d) e
dropped_at (suc n) k [] d = refl
dropped_at (suc n) k (x ∷ xs) d = let e : suc (n + k) ≡ suc n + k = omega arith in dropped_at n k xs d ∙ ap (λ j. get_or (x ∷ xs) j d) e

module _ (system : System) (lits : List Lit) (it : TrailBounds) (are : AreBoundsOf system lits it) where
  pub changes_count : IsCounted it
  changes_count =
      let rest = length_dropped it.ground lits (omega (arith, are.within)) in
      let put = length_taken it.put (drop it.ground lits) (omega (arith, rest, are.within)) in
      omega (arith, ap length are.changes, length-append are.front (take it.put (drop it.ground lits)), put, are.base)

  -- more literals on the trail that aren't put yet
  pub bounds_more : (more : List Lit) → AreBoundsOf system (lits ++ more) it
  bounds_more more =
      let rest = length_dropped it.ground lits (omega (arith, are.within)) in
      let ground : take it.ground (lits ++ more) ≡ take it.ground lits = take_append it.ground lits more (omega (arith, are.within)) in
      let behind : take it.put (drop it.ground (lits ++ more)) ≡ take it.put (drop it.ground lits) =
      ap (take it.put) (drop_append it.ground lits more (omega (arith, are.within))) ∙ take_append it.put (drop it.ground lits) more (omega (arith, rest, are.within)) in
      record {
        over = are.over;
        same = are.same;
        depth = are.depth;
        within = omega (arith, are.within, length-append lits more);
        front = are.front;
        base = are.base;
        few = are.few;
        changes = are.changes ∙ ap (λ (xs : List Lit). are.front ++ xs) (sym behind);
        among = subst (λ (xs : List Lit). All (Contains xs) are.front) (sym ground) are.among;
        says = subst (λ (xs : List Lit). (lit : Lit) → IsIn (range_bounds system.ranges ++ xs) lit → IsIn (range_bounds system.ranges ++ are.front) lit) (sym ground) are.says;
      }

  -- the literals behind so many were given back
  pub bounds_back : (new : TrailBounds) (count kept : ℕ) → count ≤ length lits → it.ground + kept ≡ count → kept ≤ it.put
      → new.simplex.bounds.system ≡ it.simplex.bounds.system → new.system.now ≡ it.system.now → new.depth ≡ it.depth → new.ground ≡ it.ground → new.base ≡ it.base → new.put ≡ kept
      → new.simplex.bounds.changes ≡ take (it.base + kept) it.simplex.bounds.changes → AreBoundsOf system (take count lits) new
  bounds_back new count kept short count_is few over same depth ground base put changes =
      let rest = drop it.ground lits in
      let ground_same : take it.ground (take count lits) ≡ take it.ground lits = take-take it.ground count lits (omega (arith, count_is)) in
      let behind : drop it.ground (take count lits) ≡ take kept rest = ap (λ n. drop it.ground (take n lits)) (sym count_is) ∙ drop-take it.ground kept lits in
      let kept_is : take new.put (drop new.ground (take count lits)) ≡ take kept rest =
      (λ i. take (put i) (drop (ground i) (take count lits))) ∙ ap (take kept) behind ∙ take-take kept kept rest (omega arith) in
      let cut : take (it.base + kept) it.simplex.bounds.changes ≡ are.front ++ take kept rest =
      (λ i. take (are.base i + kept) (are.changes i)) ∙ take_past are.front (take it.put rest) kept ∙ ap (λ (xs : List Lit). are.front ++ xs) (take-take kept it.put rest few) in
      record {
        over = over ∙ are.over;
        same = same ∙ are.same;
        depth = omega (arith, are.depth, depth);
        within = omega (arith, ground, put, count_is, length_taken count lits short);
        front = are.front;
        base = base ∙ are.base;
        few = omega (arith, ground, are.few);
        changes = changes ∙ cut ∙ ap (λ (xs : List Lit). are.front ++ xs) (sym kept_is);
        among = subst (λ (xs : List Lit). All (Contains xs) are.front) (sym (ap (λ n. take n (take count lits)) ground ∙ ground_same)) are.among;
        says = subst (λ (xs : List Lit). (lit : Lit) → IsIn (range_bounds system.ranges ++ xs) lit → IsIn (range_bounds system.ranges ++ are.front) lit)
            (sym (ap (λ n. take n (take count lits)) ground ∙ ground_same)) are.says;
      }

  -- there were none behind so many
  pub bounds_kept : (count kept : ℕ) → count ≤ length lits → it.ground + kept ≡ count → it.put ≤ kept → AreBoundsOf system (take count lits) it
  bounds_kept count kept short count_is few =
      let rest = drop it.ground lits in
      let ground_same : take it.ground (take count lits) ≡ take it.ground lits = take-take it.ground count lits (omega (arith, count_is)) in
      let behind : take it.put (drop it.ground (take count lits)) ≡ take it.put rest =
      ap (λ n. take it.put (drop it.ground (take n lits))) (sym count_is) ∙ ap (take it.put) (drop-take it.ground kept lits) ∙ take-take it.put kept rest few in
      record {
        over = are.over;
        same = are.same;
        depth = are.depth;
        within = omega (arith, count_is, few, length_taken count lits short);
        front = are.front;
        base = are.base;
        few = are.few;
        changes = are.changes ∙ ap (λ (xs : List Lit). are.front ++ xs) (sym behind);
        among = subst (λ (xs : List Lit). All (Contains xs) are.front) (sym ground_same) are.among;
        says = subst (λ (xs : List Lit). (lit : Lit) → IsIn (range_bounds system.ranges ++ xs) lit → IsIn (range_bounds system.ranges ++ are.front) lit) (sym ground_same) are.says;
      }

  -- one more literal was put
  pub bounds_put : (new : TrailBounds) (lit : Lit) → it.ground + it.put < length lits → get_or lits (it.ground + it.put) lit ≡ lit
      → new.simplex.bounds.system ≡ it.simplex.bounds.system → new.system.now ≡ it.system.now → new.depth ≡ it.depth → new.ground ≡ it.ground → new.base ≡ it.base → new.put ≡ it.put + 1
      → new.simplex.bounds.changes ≡ it.simplex.bounds.changes ++ lit ∷ [] → AreBoundsOf system lits new
  bounds_put new lit inside is over same depth ground base put changes =
      let rest = drop it.ground lits in
      let count = length_dropped it.ground lits (omega (arith, inside)) in
      let next : take (it.put + 1) rest ≡ take it.put rest ++ lit ∷ [] =
      take_more rest it.put lit (omega (arith, count, inside)) ∙ ap (λ (l : Lit). take it.put rest ++ l ∷ []) (dropped_at it.ground it.put lits lit ∙ is) in
      let last : take new.put (drop new.ground lits) ≡ take it.put rest ++ lit ∷ [] = (λ i. take (put i) (drop (ground i) lits)) ∙ next in
      record {
        over = over ∙ are.over;
        same = same ∙ are.same;
        depth = omega (arith, are.depth, depth);
        within = omega (arith, ground, put, inside);
        front = are.front;
        base = base ∙ are.base;
        few = omega (arith, ground, are.few);
        changes = changes ∙ ap (λ (xs : List Lit). xs ++ lit ∷ []) are.changes ∙ append_assoc are.front (take it.put rest) (lit ∷ []) ∙ ap (λ (xs : List Lit). are.front ++ xs) (sym last);
        among = subst (λ n. All (Contains (take n lits)) are.front) (sym ground) are.among;
        says = subst (λ n. (l : Lit) → IsIn (range_bounds system.ranges ++ take n lits) l → IsIn (range_bounds system.ranges ++ are.front) l) (sym ground) are.says;
      }

-- the literals of level 0 were put anew
pub bounds_settled : (system : System) (lits : List Lit) (new : TrailBounds) (ground : ℕ) → new.simplex.bounds.system ≡ system → new.system.now ≡ system → halving_depth system ≤ new.depth
    → new.ground ≡ ground → new.base ≡ length new.simplex.bounds.changes → new.put ≡ 0 → ground ≤ length lits → length new.simplex.bounds.changes ≤ ground
    → All (Contains (take ground lits)) new.simplex.bounds.changes
    → ((lit : Lit) → IsIn (range_bounds system.ranges ++ take ground lits) lit → IsIn (range_bounds system.ranges ++ new.simplex.bounds.changes) lit) → AreBoundsOf system lits new
bounds_settled system lits new ground over same depth ground_is base put within few among says = record {
  over = over;
  same = same;
  depth = depth;
  within = omega (arith, ground_is, put, within);
  front = new.simplex.bounds.changes;
  base = base;
  few = omega (arith, ground_is, few);
  changes = sym (ap (λ n. new.simplex.bounds.changes ++ take n (drop new.ground lits)) put ∙ append-nil new.simplex.bounds.changes);
  among = subst (λ n. All (Contains (take n lits)) new.simplex.bounds.changes) (sym ground_is) among;
  says = subst (λ n. (l : Lit) → IsIn (range_bounds system.ranges ++ take n lits) l → IsIn (range_bounds system.ranges ++ new.simplex.bounds.changes) l) (sym ground_is) says;
}

-- a box says the ranges and the items behind a place
abbrev pub SaysFrom : List Lit → List Lit → ℕ → List Lit → Type 0
SaysFrom ranges xs at box = (lit : Lit) → IsIn (ranges ++ drop at xs) lit → IsIn box lit

-- and the item at the place too
pub says_one_more : (ranges xs box more : List Lit) (at : ℕ) (x : Lit) → at < length xs → get_or xs at x ≡ x → ((lit : Lit) → IsIn box lit → IsIn more lit) → IsIn more x
    → SaysFrom ranges xs (at + 1) box → SaysFrom ranges xs at more
says_one_more ranges xs box more at x inside is grows said says lit within =
    ⊎_elim
    (λ here. grows lit (says lit (IsIn-append_left ranges (drop (at + 1) xs) lit here)))
    (λ there. ⊎_elim
    (λ first. IsIn-entailed more x lit said (subst (λ (l : Lit). Entails l lit) is first))
    (λ later. grows lit (says lit (IsIn-append_right ranges (drop (at + 1) xs) lit later)))
    (IsIn-cons_cases (get_or xs at x) (drop (at + 1) xs) lit (subst (λ (ys : List Lit). IsIn ys lit) (at_drop_more (λ (ys : List Lit). ys) xs at x inside) there)))
    (IsIn-append_cases ranges (drop at xs) lit within)

-- a bound in force says each weaker literal
pub said_in_force : (bounds : BoundChanges) (lit : Lit) (end : Option ℤ) → Exists (length bounds.system.ranges) (length bounds.system.rows) lit.term
    → end ≡ in_force bounds lit.term lit.side → IsSomeAnd end (λ e. IsWithin lit.side lit.bound e) → IsIn (box_of bounds) lit
said_in_force bounds lit None exists is within = absurd within
said_in_force bounds lit (Some e) exists is within =
    let bound : Lit = record { term = lit.term; side = lit.side; bound = e } in
    IsIn-entailed (box_of bounds) bound lit (in_force_in_box bounds bound exists (sym is)) (record { same_term = refl; same_side = refl; as_strong = within })

-- no literal is behind the last place
pub says_start : (ranges xs : List Lit) (at : ℕ) (bounds : BoundChanges) → length xs ≤ at → range_bounds bounds.system.ranges ≡ ranges → SaysFrom ranges xs at (box_of bounds)
says_start ranges xs at bounds past same lit within =
    ⊎_elim
    (λ here. IsIn-append_left (range_bounds bounds.system.ranges) bounds.changes lit (subst (λ (rs : List Lit). IsIn rs lit) (sym same) here))
    (λ there. absurd (IsIn-none lit (subst (λ (ys : List Lit). IsIn ys lit) (drop_all at xs past) there)))
    (IsIn-append_cases ranges (drop at xs) lit within)

-- one change more says what the others say, and its literal
pub box_grows : (old new : BoundChanges) (put : Lit) → new ≡ record old { changes = old.changes ++ put ∷ [] } → (lit : Lit) → IsIn (box_of old) lit → IsIn (box_of new) lit
box_grows old new put is lit within =
    let ranges = range_bounds old.system.ranges in
    subst (λ (b : BoundChanges). IsIn (box_of b) lit) (sym is)
    (⊎_elim (λ here. IsIn-append_left ranges (old.changes ++ put ∷ []) lit here) (λ there. IsIn-append_right ranges (old.changes ++ put ∷ []) lit (IsIn-append_left old.changes (put ∷ []) lit there))
    (IsIn-append_cases ranges old.changes lit within))

pub box_has : (old new : BoundChanges) (put : Lit) → new ≡ record old { changes = old.changes ++ put ∷ [] } → IsIn (box_of new) put
box_has old new put is =
    let ranges = range_bounds old.system.ranges in
    subst (λ (b : BoundChanges). IsIn (box_of b) put) (sym is) (IsIn-append_right ranges (old.changes ++ put ∷ []) put (IsIn-append_right old.changes (put ∷ []) put (IsIn-here put [])))

abbrev pub blank : Lit
blank = record { term = Var 0; side = Le; bound = pos 0 }
