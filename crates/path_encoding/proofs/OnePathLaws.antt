-- Where as many edges are taken into each block and out of it as it is visited, one path is taken.
use Rattle.std.proofs.Common.{◌≡◌, ◌<◌, ◌≤◌, ◌+◌, ⊎_elim, inl, inr, ℕ, zero, suc, ℤ, pos, ◌≤ℤ◌, eqb, Bool, true, false, List, [], ◌∷◌, refl, sym, ◌∙◌, ap, subst, arith}
use Rattle.std.specs.List.{Contains, filter}
use Rattle.std.proofs.lemmas.Bool.{true≢false}
use Rattle.std.proofs.lemmas.Bool.Decides.{Decides-eqb}
use Rattle.std.proofs.lemmas.Int.{ints}
use Rattle.mix_system.specs.Sum.{int_sum_by}
use Rattle.ll_flow.proofs.PlaceLaws.{no_item, cons_cases}
use Rattle.ll_verifier.specs.declared.order.PositionEdge.{PositionEdge}
use Rattle.ir_runs.proofs.MemberLaws.{in_here, in_there}
use Rattle.wrap_rows.specs.Vars.{IsMark}
use Rattle.path_encoding.specs.FlowRows.{enters, leaves}
use Rattle.path_encoding.specs.Paths.{Steps}
use Rattle.path_encoding.proofs.MarkSums.{AreMarked, one_most, only_of}
use Rattle.path_encoding.proofs.MemberLaws.{kept, passes_of, member_of}

-- Edges with numbers and blocks with numbers, all 0 or 1, of which the entry is 1. Edges lead forward from blocks that are left by one.
pub record Flows (edges : List (PositionEdge × ℕ)) (blocks : ℕ) (visits : ℕ → ℤ) (takes : PositionEdge × ℕ → ℤ) (goes : ℕ → Bool) : Type 0 where
  pub some : 0 < blocks
  pub entry : visits 0 ≡ pos 1
  pub visit_marks : (at : ℕ) → at < blocks → IsMark (visits at)
  pub take_marks : AreMarked takes edges
  pub forward : (edge : PositionEdge × ℕ) → Contains edges edge → (edge.0.from.0 < edge.0.to.0) × (edge.0.to.0 < blocks) × (goes edge.0.from.0 ≡ true)
  pub single : (edge other : PositionEdge × ℕ) → Contains edges edge → Contains edges other → edge.0 ≡ other.0 → edge ≡ other
  pub into : (at : ℕ) → 0 < at → at < blocks → int_sum_by takes (filter (enters at) edges) ≡ visits at
  pub out : (at : ℕ) → at < blocks → goes at ≡ true → int_sum_by takes (filter (leaves at) edges) ≡ visits at

module _ (edges : List (PositionEdge × ℕ)) (blocks : ℕ) (visits : ℕ → ℤ) (takes : PositionEdge × ℕ → ℤ) (goes : ℕ → Bool) (flows : Flows edges blocks visits takes goes) where
  -- an edge that is taken
  abbrev pub Takes : PositionEdge × ℕ → Type 0
  Takes edge = Contains edges edge × (takes edge ≡ pos 1)

  same_number : (a b : ℕ) → eqb a b ≡ true → a ≡ b
  same_number a b = (Decides-eqb a b).0

  marked_part : (p : PositionEdge × ℕ → Bool) → AreMarked takes (filter p edges)
  marked_part p edge there = flows.take_marks edge (member_of p edges edge there)

  from_low : (edge : PositionEdge × ℕ) → Contains edges edge → edge.0.from.0 < blocks
  from_low edge there = let ends = flows.forward edge there in omega (arith, ends.0, ends.1)

  raised : (at : ℕ) → at < blocks → pos 1 ≤ℤ visits at → visits at ≡ pos 1
  raised at low high = omega (arith, ints, (flows.visit_marks at low).1, high)

  -- both ends of an edge that is taken are visited
  pub visits_to : (edge : PositionEdge × ℕ) → Takes edge → visits edge.0.to.0 ≡ pos 1
  visits_to edge (there, one) =
      let ends = flows.forward edge there in
      let at = edge.0.to.0 in
      let most = one_most takes (filter (enters at) edges) edge (marked_part (enters at)) (kept (enters at) edges edge there ((Decides-eqb at at).1 refl)) in
      raised at ends.1 (omega (arith, ints, most, one, flows.into at (omega (arith, ends.0)) ends.1))

  pub visits_from : (edge : PositionEdge × ℕ) → Takes edge → visits edge.0.from.0 ≡ pos 1
  visits_from edge (there, one) =
      let ends = flows.forward edge there in
      let at = edge.0.from.0 in
      let most = one_most takes (filter (leaves at) edges) edge (marked_part (leaves at)) (kept (leaves at) edges edge there ((Decides-eqb at at).1 refl)) in
      raised at (from_low edge there) (omega (arith, ints, most, one, flows.out at (from_low edge there) ends.2))

  -- the one edge by which a block is left
  pub record IsWay (at : ℕ) (edge : PositionEdge × ℕ) : Type 0 where
    pub takes_it : Takes edge
    pub from : edge.0.from.0 ≡ at
    pub only : (other : PositionEdge × ℕ) → Takes other → other.0.from.0 ≡ at → other ≡ edge

  pub way : (at : ℕ) → at < blocks → goes at ≡ true → visits at ≡ pos 1 → (edge : PositionEdge × ℕ) × IsWay at edge
  way at low on one =
      let found = only_of takes (filter (leaves at) edges) (marked_part (leaves at)) (flows.out at low on ∙ one) in (
        found.0,
        record {
          takes_it = (member_of (leaves at) edges found.0 found.1.there, found.1.one);
          from = same_number found.0.0.from.0 at (passes_of (leaves at) edges found.0 found.1.there);
          only = λ other (there, other_one) from. found.1.only other (kept (leaves at) edges other there ((Decides-eqb other.0.from.0 at).1 from)) other_one;
        },
      )

  -- an edge by which a block is entered
  pub came : (at : ℕ) → 0 < at → at < blocks → visits at ≡ pos 1 → (edge : PositionEdge × ℕ) × Takes edge × (edge.0.to.0 ≡ at)
  came at high low one =
      let found = only_of takes (filter (enters at) edges) (marked_part (enters at)) (flows.into at high low ∙ one) in
      (found.0, (member_of (enters at) edges found.0 found.1.there, found.1.one), same_number found.0.0.to.0 at (passes_of (enters at) edges found.0 found.1.there))

  -- ---- the path from a block on

  abbrev pub Follows : ℕ → List ℕ → Type 0
  Follows at [] = goes at ≡ false
  Follows at (next ∷ rest) = ((edge : PositionEdge × ℕ) × Takes edge × (edge.0.from.0 ≡ at) × (edge.0.to.0 ≡ next)) × Follows next rest

  pub follow : (fuel at : ℕ) → at < blocks → blocks ≤ at + fuel → visits at ≡ pos 1 → (rest : List ℕ) × Follows at rest
  follow zero at low few one = absurd (omega (arith, low, few))
  follow (suc fuel) at low few one = by_test (follow fuel) (goes at) refl
    where
      by_test : ((next : ℕ) → next < blocks → blocks ≤ next + fuel → visits next ≡ pos 1 → (rest : List ℕ) × Follows next rest) → (on : Bool) → goes at ≡ on → (rest : List ℕ) × Follows at rest
      by_test later false off = ([], off)
      by_test later true on =
          let next = way at low on one in
          let edge = next.0 in
          let ends = flows.forward edge next.1.takes_it.0 in
          let rest = later edge.0.to.0 ends.1 (omega (arith, few, ends.0, next.1.from)) (visits_to edge next.1.takes_it) in
          (edge.0.to.0 ∷ rest.0, ((edge, next.1.takes_it, next.1.from, refl), rest.1))

  -- ---- it is the only one

  left : (at : ℕ) (edge : PositionEdge × ℕ) → Takes edge → edge.0.from.0 ≡ at → goes at ≡ true
  left at edge taken from = subst (λ (n : ℕ). goes n ≡ true) from (flows.forward edge taken.0).2

  pub same_way : (at : ℕ) (edge other : PositionEdge × ℕ) → Takes edge → edge.0.from.0 ≡ at → Takes other → other.0.from.0 ≡ at → edge ≡ other
  same_way at edge other taken from other_taken other_from =
      let low : at < blocks = omega (arith, from, from_low edge taken.0) in
      let one : visits at ≡ pos 1 = subst (λ (n : ℕ). visits n ≡ pos 1) from (visits_from edge taken) in
      let found = way at low (left at edge taken from) one in
      found.1.only edge taken from ∙ sym (found.1.only other other_taken other_from)

  pub one_follows : (at : ℕ) (rest others : List ℕ) → Follows at rest → Follows at others → rest ≡ others
  one_follows at [] [] mine theirs = refl
  one_follows at [] (other ∷ others) mine ((edge, taken, from, to), later) = absurd (true≢false (sym (left at edge taken from) ∙ mine))
  one_follows at (next ∷ rest) [] ((edge, taken, from, to), later) theirs = absurd (true≢false (sym (left at edge taken from) ∙ theirs))
  one_follows at (next ∷ rest) (other ∷ others) ((edge, taken, from, to), later) ((edge_too, taken_too, from_too, to_too), later_too) =
      let same = same_way at edge edge_too taken from taken_too from_too in
      let goal : next ≡ other = sym to ∙ ap (λ (e : PositionEdge × ℕ). e.0.to.0) same ∙ to_too in
      let rest_too : Follows next others = subst (λ (n : ℕ). Follows n others) (sym goal) later_too in
      λ i. goal i ∷ one_follows next rest others later rest_too i

  -- ---- it goes over all that is visited and taken

  -- a block on the path that is left by an edge is left by one that is taken, and then the path goes there
  pub record LeavesBy (path : List ℕ) (at : ℕ) : Type 0 where
    pub edge : PositionEdge × ℕ
    pub takes_it : Takes edge
    pub from : edge.0.from.0 ≡ at
    pub to : Contains path edge.0.to.0
    pub steps : Steps path at edge.0.to.0

  leaves_by : (first : ℕ) (rest : List ℕ) → Follows first rest → (at : ℕ) → Contains (first ∷ rest) at → goes at ≡ true → LeavesBy (first ∷ rest) at
  leaves_by first [] off at there on =
      ⊎_elim (λ same. absurd (true≢false (sym on ∙ ap goes (sym same) ∙ off))) (λ later. absurd (no_item at later)) (cons_cases first [] at there)
  leaves_by first (next ∷ rest) ((edge, taken, from, to), later) at there on =
      ⊎_elim
      (λ same.
      record {
        edge = edge;
        takes_it = taken;
        from = from ∙ same;
        to = in_there first edge.0.to.0 (next ∷ rest) (subst (λ (n : ℕ). Contains (next ∷ rest) n) (sym to) (in_here next rest));
        steps = inl (same, sym to);
      })
      (λ behind.
      let found = leaves_by next rest later at behind on in
      record {
        edge = found.edge;
        takes_it = found.takes_it;
        from = found.from;
        to = in_there first found.edge.0.to.0 (next ∷ rest) found.to;
        steps = inr found.steps;
      })
      (cons_cases first (next ∷ rest) at there)

  module _ (rest : List ℕ) (follows : Follows 0 rest) where
    -- a step of the path is the edge that is taken there
    leads : (edge : PositionEdge × ℕ) → Takes edge → Contains (0 ∷ rest) edge.0.from.0 → Contains (0 ∷ rest) edge.0.to.0 × Steps (0 ∷ rest) edge.0.from.0 edge.0.to.0
    leads edge taken there =
        let by = leaves_by 0 rest follows edge.0.from.0 there (flows.forward edge taken.0).2 in
        let same : by.edge.0.to.0 ≡ edge.0.to.0 = ap (λ (e : PositionEdge × ℕ). e.0.to.0) (same_way edge.0.from.0 by.edge edge by.takes_it by.from taken refl) in
        (subst (λ (n : ℕ). Contains (0 ∷ rest) n) same by.to, subst (λ (n : ℕ). Steps (0 ∷ rest) edge.0.from.0 n) same by.steps)

    reaches : (fuel at : ℕ) → at < fuel → at < blocks → visits at ≡ pos 1 → Contains (0 ∷ rest) at
    reaches zero at few low one = absurd (omega (arith, few))
    reaches (suc fuel) zero few low one = in_here 0 rest
    reaches (suc fuel) (suc at) few low one =
        let back = came (suc at) (omega arith) low one in
        let edge = back.0 in
        let ends = flows.forward edge back.1.0 in
        let before = reaches fuel edge.0.from.0 (omega (arith, few, ends.0, back.2)) (from_low edge back.1.0) (visits_from edge back.1) in
        subst (λ (n : ℕ). Contains (0 ∷ rest) n) back.2 (leads edge back.1 before).0

    pub visited_there : (at : ℕ) → at < blocks → visits at ≡ pos 1 → Contains (0 ∷ rest) at
    visited_there at low one = reaches (suc at) at (omega arith) low one

    pub taken_there : (edge : PositionEdge × ℕ) → Takes edge → Steps (0 ∷ rest) edge.0.from.0 edge.0.to.0
    taken_there edge taken = (leads edge taken (visited_there edge.0.from.0 (from_low edge taken.0) (visits_from edge taken))).1

  -- the blocks of a path are visited, and its steps taken
  visited_on : (first : ℕ) (rest : List ℕ) → visits first ≡ pos 1 → Follows first rest → (at : ℕ) → Contains (first ∷ rest) at → visits at ≡ pos 1
  visited_on first [] one off at there = ⊎_elim (λ same. subst (λ (n : ℕ). visits n ≡ pos 1) same one) (λ later. absurd (no_item at later)) (cons_cases first [] at there)
  visited_on first (next ∷ rest) one ((edge, taken, from, to), later) at there =
      let next_one : visits next ≡ pos 1 = subst (λ (n : ℕ). visits n ≡ pos 1) to (visits_to edge taken) in
      ⊎_elim (λ same. subst (λ (n : ℕ). visits n ≡ pos 1) same one) (λ behind. visited_on next rest next_one later at behind) (cons_cases first (next ∷ rest) at there)

  pub visited : (rest : List ℕ) → Follows 0 rest → (at : ℕ) → Contains (0 ∷ rest) at → visits at ≡ pos 1
  visited rest follows = visited_on 0 rest flows.entry follows

  pub taken : (first : ℕ) (rest : List ℕ) → Follows first rest → (edge : PositionEdge × ℕ) → Contains edges edge → Steps (first ∷ rest) edge.0.from.0 edge.0.to.0 → takes edge ≡ pos 1
  taken first [] off edge there steps = absurd steps
  taken first (next ∷ rest) ((mine, taken_it, from, to), later) edge there steps =
      ⊎_elim
      (λ ends.
      let ends_are : mine.0 ≡ edge.0 = λ i. record { from = record { 0 = (from ∙ ends.0) i }; to = record { 0 = (to ∙ ends.1) i } } in
      subst (λ (e : PositionEdge × ℕ). takes e ≡ pos 1) (flows.single mine edge taken_it.0 there ends_are) taken_it.1)
      (λ behind. taken next rest later edge there behind) steps
