-- Of the edges into a block that a path steps to, that from the block before it is 1, and no other.
use Rattle.std.proofs.Common.{◌≡◌, ◌≢◌, ◌↔◌, ◌<◌, ◌≤◌, ◌==◌, ◌⊎◌, inl, inr, ℕ, ℤ, pos, Bool, true, false, List, [], ◌∷◌, map, refl, sym, ◌∙◌, ap, subst, arith}
use Rattle.std.specs.Prelude.{Contains}
use Rattle.std.specs.Ordering.{int_eq}
use Rattle.std.proofs.lemmas.Bool.{eqb-true}
use Rattle.std.proofs.lemmas.Bool.Decides.{Decides-eqb, Decides-int_eq}
use Rattle.std.proofs.lemmas.List.Elements.{All-contains}
use Rattle.flow_graph.specs.Paths.{HasEdge}
use Rattle.mix_system.specs.Row.{number_at}
use Rattle.ll_flow.proofs.PlaceLaws.{no_item, cons_cases}
use Rattle.ll_verifier.specs.declared.order.PositionEdge.{PositionEdge}
use Rattle.ll_verifier.specs.Order.{position_edge}
use Rattle.ll_verifier.specs.Sound.{SoundFunc, IsSound}
use Rattle.ir_runs.proofs.MemberLaws.{in_here, in_there}
use Rattle.wrap_rows.specs.declared.phi.Incoming.{Incoming}
use Rattle.wrap_rows.specs.Vars.{value_at}
use Rattle.wrap_rows.specs.Phi.{taken_count, taken_value}
use Rattle.path_encoding.specs.declared.spots.PathSpots.{PathSpots}
use Rattle.path_encoding.specs.Spots.{edge_vars, AreSpotsOf}
use Rattle.portion_cuts.specs.Paths.{IsPath}
use Rattle.path_encoding.specs.Paths.{Steps, IsTaken}
use Rattle.path_encoding.proofs.MarkSums.{AreApart}
use Rattle.path_encoding.proofs.MemberLaws.{kept, passes_of, member_of}
use Rattle.path_encoding.proofs.GraphLaws.{apart_pairs, apart_kept, edges_apart, var_of, single, leads_on}
use Rattle.path_encoding.proofs.StepsLaws.{step_has, one_from}
use Rattle.value_pieces.specs.Pieces.{edges_into}

abbrev VarEdge : Type 0
VarEdge = PositionEdge × ℕ

int_one : (z : ℤ) → z ≡ pos 1 → int_eq z (pos 1) ≡ true
int_one z is = (Decides-int_eq z (pos 1)).1 is

-- ---- of some edges one is 1

module _ (point : List ℤ) (into : VarEdge → Incoming) (same_edge : (edge : VarEdge) → (into edge).edge ≡ edge.1) where
  abbrev is_one : VarEdge → Bool
  is_one edge = int_eq (number_at point (into edge).edge) (pos 1)

  none_taken : (edges : List VarEdge) → ((edge : VarEdge) → Contains edges edge → is_one edge ≡ false) → taken_count point (map into edges) ≡ 0
  none_taken [] none = refl
  none_taken (edge ∷ edges) none =
      let rest = none_taken edges (λ other there. none other (in_there edge other edges there)) in
      rw (none edge (in_here edge edges)) (omega (arith, rest))

  pub record IsOne (edges : List VarEdge) (edge : VarEdge) : Type 0 where
    pub among : Contains edges edge
    pub one : is_one edge ≡ true
    pub others : (other : VarEdge) → Contains edges other → other ≢ edge → is_one other ≡ false

  pub one_taken : (edges : List VarEdge) (edge : VarEdge) → AreApart edges → IsOne edges edge → (taken_count point (map into edges) ≡ 1) × (taken_value point (map into edges) ≡ value_at (into edge).value point)
  one_taken [] edge apart is = absurd (no_item edge is.among)
  one_taken (first ∷ edges) edge apart is = by_cases (one_taken edges edge apart.1) (cons_cases first edges edge is.among)
    where
      by_cases : (IsOne edges edge → (taken_count point (map into edges) ≡ 1) × (taken_value point (map into edges) ≡ value_at (into edge).value point)) → (first ≡ edge) ⊎ Contains edges edge
          → (taken_count point (map into (first ∷ edges)) ≡ 1) × (taken_value point (map into (first ∷ edges)) ≡ value_at (into edge).value point)
      by_cases rest (inl same) =
          let here : is_one first ≡ true = subst (λ (e : VarEdge). is_one e ≡ true) (sym same) is.one in
          let none = none_taken edges (λ other there. is.others other (in_there first other edges there) (λ is_edge. apart.0 (subst (λ (e : VarEdge). Contains edges e) (is_edge ∙ sym same) there))) in
          (rw here (omega (arith, none)), rw here (ap (λ (e : VarEdge). value_at (into e).value point) same))
      by_cases rest (inr later) =
          let here : is_one first ≡ false = is.others first (in_here first edges) (λ same. apart.0 (subst (λ (e : VarEdge). Contains edges e) (sym same) later)) in
          let behind = rest (record { among = later; one = is.one; others = λ other there. is.others other (in_there first other edges there) }) in
          (rw here (omega (arith, behind.0)), rw here behind.1)

  -- where those that are 1 are one, at most one is
  pub most_one : (edges : List VarEdge) → AreApart edges → ((edge other : VarEdge) → Contains edges edge → Contains edges other → is_one edge ≡ true → is_one other ≡ true → edge ≡ other) → taken_count point (map into edges) ≤ 1
  most_one [] apart same = omega arith
  most_one (first ∷ edges) apart same = by_test (is_one first) refl (most_one edges apart.1 (λ edge other there other_there. same edge other (in_there first edge edges there) (in_there first other edges other_there)))
    where
      none : is_one first ≡ true → (edge : VarEdge) → Contains edges edge → is_one edge ≡ false
      none one edge there = by_own (is_one edge) refl
        where
          by_own : (b : Bool) → is_one edge ≡ b → is_one edge ≡ false
          by_own true own = absurd (apart.0 (subst (Contains edges) (sym (same first edge (in_here first edges) (in_there first edge edges there) one own)) there))
          by_own false own = own

      by_test : (b : Bool) → is_one first ≡ b → taken_count point (map into edges) ≤ 1 → taken_count point (map into (first ∷ edges)) ≤ 1
      by_test true is rest = rw is (omega (arith, none_taken edges (none is)))
      by_test false is rest = rw is (omega (arith, rest))

-- ---- edges into a block

module _ (it : SoundFunc) (sound : IsSound it) (spots : PathSpots) (are : AreSpotsOf it spots) (at : ℕ) where
  pub into_apart : AreApart (edges_into it spots at)
  into_apart = apart_kept (λ (edge : VarEdge). edge.0.to.0 == at) (edge_vars it spots) (apart_pairs (map position_edge it.flow.edges) spots.edges.items (edges_apart it sound spots are))

  pub into_here : (edge : VarEdge) → Contains (edges_into it spots at) edge → Contains (edge_vars it spots) edge × (edge.0.to.0 ≡ at)
  into_here edge there =
      let test = λ (edge : VarEdge). edge.0.to.0 == at in
      (member_of test (edge_vars it spots) edge there, eqb-true edge.0.to.0 at (passes_of test (edge_vars it spots) edge there))

  module _ (point : List ℤ) (path : List ℕ) (is : IsTaken it spots point path) where
    forward : (from to : ℕ) → HasEdge it.flow.edges from to → from < to
    forward from to there = (leads_on it sound spots are from to there).0

    chain_facts : (list : List ℕ) → path ≡ list → (first : ℕ) × (rest : List ℕ) × (path ≡ first ∷ rest)
    chain_facts [] same = absurd (subst (IsPath it.flow.edges) same is.is_path)
    chain_facts (first ∷ rest) same = (first, rest, same)

    one_source : (before other : ℕ) → Steps path before at → Steps path other at → before ≡ other
    one_source before other steps too =
        let (first, rest, same) = chain_facts path refl in
        one_from it.flow.edges forward first rest (subst (IsPath it.flow.edges) same is.is_path).1 before other at (subst (λ (l : List ℕ). Steps l before at) same steps) (subst (λ (l : List ℕ). Steps l other at) same too)

    takes : (edge : VarEdge) → Contains (edge_vars it spots) edge → (number_at point edge.1 ≡ pos 1) ↔ Steps path edge.0.from.0 edge.0.to.0
    takes edge there = All-contains (λ (e : VarEdge). (number_at point e.1 ≡ pos 1) ↔ Steps path e.0.from.0 e.0.to.0) (edge_vars it spots) edge is.taken there

    position_same : (a b : PositionEdge) → a.from.0 ≡ b.from.0 → a.to.0 ≡ b.to.0 → a ≡ b
    position_same a b from to = λ i. record { from = record { 0 = from i }; to = record { 0 = to i } }

    -- an edge into the block that is 1 is stepped over
    stepped : (edge : VarEdge) → Contains (edges_into it spots at) edge → number_at point edge.1 ≡ pos 1 → Steps path edge.0.from.0 at
    stepped edge there one = let here = into_here edge there in subst (Steps path edge.0.from.0) here.1 ((takes edge here.0).0 one)

    same_edge_of : (edge other : VarEdge) → Contains (edges_into it spots at) edge → Contains (edges_into it spots at) other → edge.0.from.0 ≡ other.0.from.0 → edge ≡ other
    same_edge_of edge other there other_there from =
        let here = into_here edge there in
        let also = into_here other other_there in
        single it sound spots are edge other here.0 also.0 (position_same edge.0 other.0 from (here.1 ∙ sym also.1))

    pub at_most_one : (into : VarEdge → Incoming) → ((edge : VarEdge) → (into edge).edge ≡ edge.1) → taken_count point (map into (edges_into it spots at)) ≤ 1
    at_most_one into same_var = most_one point into same_var (edges_into it spots at) into_apart same
      where
        is_1 : (edge : VarEdge) → int_eq (number_at point (into edge).edge) (pos 1) ≡ true → number_at point edge.1 ≡ pos 1
        is_1 edge one = ap (number_at point) (sym (same_var edge)) ∙ (Decides-int_eq (number_at point (into edge).edge) (pos 1)).0 one

        same : (edge other : VarEdge) → Contains (edges_into it spots at) edge → Contains (edges_into it spots at) other → int_eq (number_at point (into edge).edge) (pos 1) ≡ true → int_eq (number_at point (into other).edge) (pos 1) ≡ true → edge ≡ other
        same edge other there other_there one too =
            same_edge_of edge other there other_there (one_source edge.0.from.0 other.0.from.0 (stepped edge there (is_1 edge one)) (stepped other other_there (is_1 other too)))

  module _ (point : List ℤ) (path : List ℕ) (is : IsTaken it spots point path) (before : ℕ) (steps : Steps path before at) where
    has_step : HasEdge it.flow.edges before at
    has_step =
        let (first, rest, same) = chain_facts point path is path refl in
        step_has it.flow.edges (forward point path is) first rest (subst (IsPath it.flow.edges) same is.is_path).1 before at (subst (λ (l : List ℕ). Steps l before at) same steps)

    -- the edge that is taken
    pub taken_edge : (edge : VarEdge) × Contains (edges_into it spots at) edge × (edge.0.from.0 ≡ before)
    taken_edge =
        let found = var_of it sound spots are before at has_step in
        let edge : VarEdge = (position_edge (record { from = before; to = at }), found.0) in
        (edge, kept (λ (edge : VarEdge). edge.0.to.0 == at) (edge_vars it spots) edge found.1 ((Decides-eqb at at).1 refl), refl)

    pub one_edge : (into : VarEdge → Incoming) (same_var : (edge : VarEdge) → (into edge).edge ≡ edge.1) → IsOne point into same_var (edges_into it spots at) taken_edge.0
    one_edge into same_var =
        let (edge, among, from) = taken_edge in
        let here = into_here edge among in
        record {
          among = among;
          one = ap (λ (var : ℕ). int_eq (number_at point var) (pos 1)) (same_var edge) ∙ int_one (number_at point edge.1) ((takes point path is edge here.0).1 (subst (λ (n : ℕ). Steps path n edge.0.to.0) (sym from) (subst (Steps path before) (sym here.1) steps)));
          others = λ other there differs.
              not_one (number_at point (into other).edge) (λ one.
              let step = stepped point path is other there (ap (number_at point) (sym (same_var other)) ∙ one) in
              differs (same_edge_of point path is other edge there among (one_source point path is other.0.from.0 before step steps ∙ sym from)));
        }
      where
        not_one : (z : ℤ) → (z ≡ pos 1 → ⊥) → int_eq z (pos 1) ≡ false
        not_one z never = by_test (int_eq z (pos 1)) refl
          where
            by_test : (b : Bool) → int_eq z (pos 1) ≡ b → int_eq z (pos 1) ≡ false
            by_test true same = absurd (never ((Decides-int_eq z (pos 1)).0 same))
            by_test false differs = differs
