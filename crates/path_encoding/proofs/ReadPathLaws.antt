-- The path that is read block by block is the one that the point takes.
use Rattle.std.proofs.Common.{◌≡◌, ◌<◌, ◌≤◌, ◌+◌, ◌&&◌, ⊎_elim, inl, inr, ℕ, zero, suc, add-one, ℤ, pos, eqb, Bool, true, false, cond, List, [], ◌∷◌, ◌++◌, length, get_or, take, Some, None, refl, sym, ◌∙◌, ap, subst, arith}
use Rattle.std.specs.Prelude.{◌↔◌}
use Rattle.std.specs.List.{Contains}
use Rattle.std.specs.Ordering.{int_eq}
use Rattle.std.proofs.lemmas.Bool.{true≢false, cases_lt}
use Rattle.std.proofs.lemmas.Bool.Decides.{Decides-eqb, Decides-int_eq}
use Rattle.std.proofs.lemmas.List.{take_more, take_all, map-append, length_push}
use Rattle.std.proofs.lemmas.List.Elements.{All-contains}
use Rattle.mix_system.specs.Row.{number_at}
use Rattle.flow_graph.specs.declared.edge.Edge.{Edge}
use Rattle.flow_graph.specs.Paths.{HasEdge}
use Rattle.block_order.specs.Walk.{IsChain}
use Rattle.ll_flow.proofs.PlaceLaws.{no_item, cons_cases}
use Rattle.ll_links.specs.declared.link.Position.{Position}
use Rattle.ll_verifier.specs.declared.order.PositionEdge.{PositionEdge}
use Rattle.ll_verifier.specs.Sound.{SoundFunc, IsSound}
use Rattle.ir_runs.proofs.MemberLaws.{in_here, in_there}
use Rattle.path_encoding.specs.declared.spots.PathSpots.{PathSpots}
use Rattle.path_encoding.specs.Spots.{block_at, edge_vars, AreSpotsOf}
use Rattle.path_encoding.specs.FlowRows.{goes_on}
use Rattle.path_encoding.specs.Paths.{positions, Steps, EndsThere, IsTaken}
use Rattle.path_encoding.specs.Reading.{next_from}
use Rattle.path_encoding.proofs.GraphLaws.{edge_of, var_of, leads_on}
use Rattle.path_encoding.proofs.StepsLaws.{step_has, one_to}

both_parts : (a b : Bool) → (a && b) ≡ true → (a ≡ true) × (b ≡ true)
both_parts true b is = (refl, is)
both_parts false b is = absurd (true≢false (sym is))

-- the edge by which the reading goes on
pub record IsNextEdge (point : List ℤ) (edges : List (PositionEdge × ℕ)) (at : ℕ) (to : Position) : Type 0 where
  pub edge : PositionEdge × ℕ
  pub there : Contains edges edge
  pub from : edge.0.from.0 ≡ at
  pub one : number_at point edge.1 ≡ pos 1
  pub goal : edge.0.to ≡ to

pub next_some : (point : List ℤ) (edges : List (PositionEdge × ℕ)) (at : ℕ) (to : Position) → next_from point edges at ≡ Some to → IsNextEdge point edges at to
next_some point [] at to is = absurd (cc is)
next_some point (edge ∷ edges) at to is =
    (elim (eqb edge.0.from.0 at && int_eq (number_at point edge.1) (pos 1)) as (λ (b : Bool). (eqb edge.0.from.0 at && int_eq (number_at point edge.1) (pos 1)) ≡ b → cond b (Some edge.0.to) (next_from point edges at) ≡ Some to → IsNextEdge point (edge ∷ edges) at to) [
      | true ↦ λ test found.
          let parts = both_parts (eqb edge.0.from.0 at) (int_eq (number_at point edge.1) (pos 1)) test in
          record { edge = edge; there = in_here edge edges; from = (Decides-eqb edge.0.from.0 at).0 parts.0; one = (Decides-int_eq (number_at point edge.1) (pos 1)).0 parts.1; goal = cc found }
      | false ↦ λ test found.
          let later = next_some point edges at to found in
          record { edge = later.edge; there = in_there edge later.edge edges later.there; from = later.from; one = later.one; goal = later.goal }
    ]) refl is

pub next_none : (point : List ℤ) (edges : List (PositionEdge × ℕ)) (at : ℕ) → next_from point edges at ≡ None → (edge : PositionEdge × ℕ) → Contains edges edge → edge.0.from.0 ≡ at → number_at point edge.1 ≡ pos 1 → ⊥
next_none point [] at is edge there from one = no_item edge there
next_none point (first ∷ edges) at is edge there from one =
    (elim (eqb first.0.from.0 at && int_eq (number_at point first.1) (pos 1)) as (λ (b : Bool). (eqb first.0.from.0 at && int_eq (number_at point first.1) (pos 1)) ≡ b → cond b (Some first.0.to) (next_from point edges at) ≡ None → ⊥) [
      | true ↦ λ test found. cc found
      | false ↦ λ test found. ⊎_elim
          (λ same.
          let both : (eqb first.0.from.0 at && int_eq (number_at point first.1) (pos 1)) ≡ true = λ i. (Decides-eqb first.0.from.0 at).1 (ap (λ (e : PositionEdge × ℕ). e.0.from.0) same ∙ from) i && (Decides-int_eq (number_at point first.1) (pos 1)).1 (ap (λ (e : PositionEdge × ℕ). number_at point e.1) same ∙ one) i in
          true≢false (sym both ∙ test))
          (λ later. next_none point edges at found edge later from one) (cons_cases first edges edge there)
    ]) refl is

-- ---- paths by their indices

index_steps : (path : List ℕ) (i : ℕ) → suc i < length path → Steps path (get_or path i 0) (get_or path (suc i) 0)
index_steps [] i low = absurd (omega (arith, low))
index_steps (at ∷ []) i low = absurd (omega (arith, low))
index_steps (at ∷ next ∷ rest) zero low = inl (refl, refl)
index_steps (at ∷ next ∷ rest) (suc i) low = inr (index_steps (next ∷ rest) i (omega (arith, low)))

last_stays : (it : SoundFunc) (path : List ℕ) (i : ℕ) → EndsThere it path → i < length path → length path ≤ suc i → goes_on (block_at it (get_or path i 0)).end ≡ false
last_stays it [] i ends low past = absurd ends
last_stays it (at ∷ []) zero ends low past = ends
last_stays it (at ∷ []) (suc i) ends low past = absurd (omega (arith, low))
last_stays it (at ∷ next ∷ rest) zero ends low past = absurd (omega (arith, past))
last_stays it (at ∷ next ∷ rest) (suc i) ends low past = last_stays it (next ∷ rest) i ends (omega (arith, low)) (omega (arith, past))

rises : (edges : List Edge) → ((from to : ℕ) → HasEdge edges from to → from < to) → (at : ℕ) (rest : List ℕ) → IsChain edges at rest → (i : ℕ) → i < length (at ∷ rest) → at + i ≤ get_or (at ∷ rest) i 0
rises edges forward at rest chain zero low = omega arith
rises edges forward at [] chain (suc i) low = absurd (omega (arith, low))
rises edges forward at (next ∷ rest) chain (suc i) low = omega (arith, forward at next chain.0, rises edges forward next rest chain.1 i (omega (arith, low)))

module _ (it : SoundFunc) (sound : IsSound it) (spots : PathSpots) (are : AreSpotsOf it spots) (point : List ℤ) where
  forward : (from to : ℕ) → HasEdge it.flow.edges from to → from < to
  forward from to there = (leads_on it sound spots are from to there).0

  pub first_is : (full : List ℕ) → IsTaken it spots point full → (0 < length full) × (get_or full 0 0 ≡ 0)
  first_is [] is = absurd is.is_path
  first_is (first ∷ rest) is = (omega arith, is.is_path.0)

  -- the path goes on by the edge that is found
  pub goes_next : (full : List ℕ) → IsTaken it spots point full → (i : ℕ) → i < length full → (to : Position) → next_from point (edge_vars it spots) (get_or full i 0) ≡ Some to → (i + 1 < length full) × (get_or full (i + 1) 0 ≡ to.0)
  goes_next [] is i low to found = absurd is.is_path
  goes_next (first ∷ rest) is i low to found =
      let full = first ∷ rest in
      let by = next_some point (edge_vars it spots) (get_or full i 0) to found in
      let edge = by.edge in
      let steps : Steps full edge.0.from.0 edge.0.to.0 = (All-contains (λ (edge : PositionEdge × ℕ). (number_at point edge.1 ≡ pos 1) ↔ Steps full edge.0.from.0 edge.0.to.0) (edge_vars it spots) edge is.taken by.there).0 by.one in
      let here : Steps full (get_or full i 0) edge.0.to.0 = subst (λ (n : ℕ). Steps full n edge.0.to.0) by.from steps in
      let goes = (leads_on it sound spots are edge.0.from.0 edge.0.to.0 (edge_of it sound spots are edge by.there)).2 in
      let goes_here : goes_on (block_at it (get_or full i 0)).end ≡ true = subst (λ (n : ℕ). goes_on (block_at it n).end ≡ true) by.from goes in
      ⊎_elim
      (λ more.
      let next = index_steps full i more in
      let same = one_to it.flow.edges forward first rest is.is_path.1 (get_or full i 0) (get_or full (suc i) 0) edge.0.to.0 next here in
      rw add-one (more, same ∙ ap (λ (p : Position). p.0) by.goal))
      (λ past. absurd (true≢false (sym goes_here ∙ last_stays it full i is.ends low past)))
      (cases_lt (suc i) (length full))

  -- and ends where none is
  pub stops : (full : List ℕ) → IsTaken it spots point full → (i : ℕ) → i < length full → next_from point (edge_vars it spots) (get_or full i 0) ≡ None → length full ≤ i + 1
  stops [] is i low none = absurd is.is_path
  stops (first ∷ rest) is i low none =
      let full = first ∷ rest in
      ⊎_elim
      (λ more.
      let next = index_steps full i more in
      let has = step_has it.flow.edges forward first rest is.is_path.1 (get_or full i 0) (get_or full (suc i) 0) next in
      let (var, there) = var_of it sound spots are (get_or full i 0) (get_or full (suc i) 0) has in
      let edge : PositionEdge × ℕ = (record { from = record { 0 = get_or full i 0 }; to = record { 0 = get_or full (suc i) 0 } }, var) in
      let one = (All-contains (λ (edge : PositionEdge × ℕ). (number_at point edge.1 ≡ pos 1) ↔ Steps full edge.0.from.0 edge.0.to.0) (edge_vars it spots) edge is.taken there).1 next in
      absurd (next_none point (edge_vars it spots) (get_or full i 0) none edge there refl one))
      (λ past. omega (arith, past))
      (cases_lt (suc i) (length full))

  -- a path has at most as many blocks as the function
  pub few : (full : List ℕ) → IsTaken it spots point full → (i : ℕ) → i < length full → i < length it.flow.order
  few [] is i low = absurd is.is_path
  few (first ∷ rest) is i low =
      omega (arith, rises it.flow.edges forward first rest is.is_path.1 i low, within first rest is.is_path.1 (omega (arith, is.is_path.0, sound.flow.entry, sound.flow.flow.size)) i low)
    where
      within : (at : ℕ) (rest : List ℕ) → IsChain it.flow.edges at rest → at < length it.flow.order → (i : ℕ) → i < length (at ∷ rest) → get_or (at ∷ rest) i 0 < length it.flow.order
      within at rest chain at_low zero low = at_low
      within at [] chain at_low (suc i) low = absurd (omega (arith, low))
      within at (next ∷ rest) chain at_low (suc i) low = within next rest chain.1 (leads_on it sound spots are at next chain.0).1 i (omega (arith, low))

-- ---- what has been read so far

pub record HasRead (full : List ℕ) (path : List Position) (at : ℕ) : Type 0 where
  pub low : length path < length full
  pub so_far : positions path ≡ take (length path) full
  pub here : at ≡ get_or full (length path) 0

pub read_first : (full : List ℕ) → 0 < length full → get_or full 0 0 ≡ 0 → HasRead full [] 0
read_first full some first = record { low = some; so_far = none full; here = sym first }
  where
    none : (full : List ℕ) → [] ≡ take 0 full
    none [] = refl
    none (x ∷ xs) = refl

pushed : (full : List ℕ) (path : List Position) (at : ℕ) → HasRead full path at → positions (path ++ record { 0 = at } ∷ []) ≡ take (length path + 1) full
pushed full path at read =
    map-append (λ (p : Position). p.0) path (record { 0 = at } ∷ [])
    ∙ ap (λ (front : List ℕ). front ++ at ∷ []) read.so_far
    ∙ ap (λ (n : ℕ). take (length path) full ++ n ∷ []) read.here
    ∙ sym (take_more full (length path) 0 read.low)

pub read_more : (full : List ℕ) (path : List Position) (at to : ℕ) → HasRead full path at → length path + 1 < length full → get_or full (length path + 1) 0 ≡ to → HasRead full (path ++ record { 0 = at } ∷ []) to
read_more full path at to read low same =
    let size : length (path ++ record { 0 = at } ∷ []) ≡ length path + 1 = length_push path (record { 0 = at }) in
    record {
      low = omega (arith, size, low);
      so_far = pushed full path at read ∙ ap (λ (n : ℕ). take n full) (sym size);
      here = sym same ∙ ap (λ (n : ℕ). get_or full n 0) (sym size);
    }

pub read_all : (full : List ℕ) (path : List Position) (at : ℕ) → HasRead full path at → length full ≤ length path + 1 → positions (path ++ record { 0 = at } ∷ []) ≡ full
read_all full path at read past = pushed full path at read ∙ take_all (length path + 1) full past
