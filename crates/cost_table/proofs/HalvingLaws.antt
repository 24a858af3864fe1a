-- An edge found among sorted ones by halving.
use Rattle.std.proofs.Common.{◌≡◌, ◌<◌, ◌≤◌, ◌+◌, ◌⊎◌, inl, inr, ⊎_elim, ℕ, Bool, true, false, List, length, get_or, ◌||◌, ◌&&◌, eqb, nat_lt, refl, subst, arith}
use Rattle.std.proofs.lemmas.Bool.Decides.{Decides-eqb, nat_tests}
use Rattle.std.proofs.lemmas.Bool.{cases_lt}
use Rattle.flow_graph.specs.declared.edge.Edge.{Edge}
use Rattle.flow_graph.specs.Sorted.{ComesBefore, AreSorted}

abbrev pub wanted : ℕ → ℕ → Edge
wanted from to = record { from = from; to = to }

follows : (first second third : Edge) → ComesBefore first second → ComesBefore second third → ComesBefore first third
follows first second third (inl a) (inl b) = inl (omega (arith, a, b))
follows first second third (inl a) (inr b) = inl (omega (arith, a, b.0))
follows first second third (inr a) (inl b) = inl (omega (arith, a.0, b))
follows first second third (inr a) (inr b) = inr (omega (arith, a.0, b.0), omega (arith, a.1, b.1))

other_ends : (edge : Edge) (from to : ℕ) → ComesBefore edge (wanted from to) ⊎ ComesBefore (wanted from to) edge → (edge.from ≡ from) × (edge.to ≡ to) → ⊥
other_ends edge from to (inl (inl a)) same = omega (arith, a, same.0)
other_ends edge from to (inl (inr a)) same = omega (arith, a.1, same.1)
other_ends edge from to (inr (inl a)) same = omega (arith, a, same.0)
other_ends edge from to (inr (inr a)) same = omega (arith, a.1, same.1)

-- which side of the wanted edge one stands, by tests
pub is_before : (edge : Edge) (from to : ℕ) → (nat_lt edge.from from || (eqb edge.from from && nat_lt edge.to to)) ≡ true → ComesBefore edge (wanted from to)
is_before edge from to e = by_from (nat_lt edge.from from) refl e
  where
    level : (b : Bool) → eqb edge.from from ≡ b → (b && nat_lt edge.to to) ≡ true → ComesBefore edge (wanted from to)
    level true s f = inr (grind (arith, nat_tests), grind (arith, nat_tests))
    level false s f = absurd cc

    by_from : (b : Bool) → nat_lt edge.from from ≡ b → (b || (eqb edge.from from && nat_lt edge.to to)) ≡ true → ComesBefore edge (wanted from to)
    by_from true s f = inl (grind (arith, nat_tests))
    by_from false s f = level (eqb edge.from from) refl f

pub is_behind : (edge : Edge) (from to : ℕ) → (nat_lt edge.from from || (eqb edge.from from && nat_lt edge.to to)) ≡ false → (eqb edge.from from && eqb edge.to to) ≡ false → ComesBefore (wanted from to) edge
is_behind edge from to e f = by_from (nat_lt edge.from from) refl (eqb edge.from from) refl e f
  where
    by_from : (b : Bool) → nat_lt edge.from from ≡ b → (s : Bool) → eqb edge.from from ≡ s → (b || (s && nat_lt edge.to to)) ≡ false → (s && eqb edge.to to) ≡ false → ComesBefore (wanted from to) edge
    by_from true b s t g h = absurd cc
    by_from false b true t g h = inr (grind (arith, nat_tests), grind (arith, nat_tests))
    by_from false b false t g h = inl (grind (arith, nat_tests))

pub is_found : (edge : Edge) (from to : ℕ) → (eqb edge.from from && eqb edge.to to) ≡ true → (edge.from ≡ from) × (edge.to ≡ to)
is_found edge from to e = by_from (eqb edge.from from) refl e
  where
    by_from : (b : Bool) → eqb edge.from from ≡ b → (b && eqb edge.to to) ≡ true → (edge.from ≡ from) × (edge.to ≡ to)
    by_from true s f = ((Decides-eqb edge.from from).0 s, (Decides-eqb edge.to to).0 f)
    by_from false s f = absurd cc

module _ (edges : List Edge) (from to : ℕ) where
  abbrev pub AreBefore : ℕ → Type 0
  AreBefore low = (k : ℕ) (d : Edge) → k < low → ComesBefore (get_or edges k d) (wanted from to)

  abbrev pub AreBehind : ℕ → Type 0
  AreBehind high = (k : ℕ) (d : Edge) → high ≤ k → k < length edges → ComesBefore (wanted from to) (get_or edges k d)

  module _ (sorted : AreSorted edges) (middle : ℕ) (within : middle < length edges) where
    pub before_middle : ((d : Edge) → ComesBefore (get_or edges middle d) (wanted from to)) → AreBefore (middle + 1)
    before_middle here k d low = ⊎_elim
        (λ below. follows (get_or edges k d) (get_or edges middle d) (wanted from to) (sorted k middle d below within) (here d))
        (λ above. subst (λ (n : ℕ). ComesBefore (get_or edges n d) (wanted from to)) (omega (arith, low, above)) (here d))
        (cases_lt k middle)

    pub behind_middle : ((d : Edge) → ComesBefore (wanted from to) (get_or edges middle d)) → AreBehind middle
    behind_middle here k d high there = ⊎_elim
        (λ below. follows (wanted from to) (get_or edges middle d) (get_or edges k d) (here d) (sorted middle k d below there))
        (λ above. subst (λ (n : ℕ). ComesBefore (wanted from to) (get_or edges n d)) (omega (arith, high, above)) (here d))
        (cases_lt middle k)

  -- none is left to be the edge
  pub none_between : (low high : ℕ) → high ≤ low → AreBefore low → AreBehind high → (k : ℕ) (d : Edge) → k < length edges → ((get_or edges k d).from ≡ from) × ((get_or edges k d).to ≡ to) → ⊥
  none_between low high met before behind k d within = other_ends (get_or edges k d) from to (⊎_elim
      (λ below. inl (before k d below))
      (λ above. inr (behind k d (omega (arith, met, above)) within))
      (cases_lt k low))
