-- A closed sequence of blocks, turned so that its least place is the first.
use Rattle.std.proofs.Common.{◌≡◌, ◌≤◌, ◌+◌, ℕ, false, nat_lt, List, [], ◌∷◌, ◌++◌, length, get_or, take, drop, sym, ◌∙◌, ap, subst, drop-cons, add-one}
use Rattle.std.specs.List.{All, IsFirstBest}
use Rattle.std.proofs.lemmas.List.{append-nil, take-append-drop, get_or_default}
use Rattle.std.proofs.lemmas.List.Elements.{All-append, All-take, All-drop, All-tail}
use Rattle.std.proofs.lemmas.Bool.{ltb-false}
use Rattle.flow_graph.specs.declared.edge.Edge.{Edge}
use Rattle.block_order.specs.Order.{Runs, IsClosed, IsCycle}
use Rattle.block_order.specs.Walk.{IsChain, IsCut}

runs_to : (edges : List Edge) (from : ℕ) (before : List ℕ) (to : ℕ) (after : List ℕ) → IsChain edges from (before ++ to ∷ after) → Runs edges from before to
runs_to edges from [] to after chain = chain.0
runs_to edges from (next ∷ before) to after chain = (chain.0, runs_to edges next before to after chain.1)

-- steps that lead back to their begin are closed
pub closed_from_cut : (edges : List Edge) (at : ℕ) (steps cycle : List ℕ) → IsChain edges at steps → IsCut at steps cycle → IsClosed edges cycle
closed_from_cut edges at steps cycle chain cut =
    rw cut.cycle_is (runs_to edges at cut.before at cut.after (subst (λ (list : List ℕ). IsChain edges at list) cut.steps_are chain))

runs_apart : (edges : List Edge) (from : ℕ) (front : List ℕ) (mid : ℕ) (back : List ℕ) (to : ℕ) → Runs edges from (front ++ mid ∷ back) to → Runs edges from front mid × Runs edges mid back to
runs_apart edges from [] mid back to runs = runs
runs_apart edges from (next ∷ front) mid back to runs =
    let parts = runs_apart edges next front mid back to runs.1 in ((runs.0, parts.0), parts.1)

runs_joined : (edges : List Edge) (from : ℕ) (front : List ℕ) (mid : ℕ) (back : List ℕ) (to : ℕ) → Runs edges from front mid → Runs edges mid back to → Runs edges from (front ++ mid ∷ back) to
runs_joined edges from [] mid back to first second = (first, second)
runs_joined edges from (next ∷ front) mid back to first second = (first.0, runs_joined edges next front mid back to first.1 second)

-- a closed sequence may begin at each of its blocks
turned : (edges : List Edge) (front : List ℕ) (first : ℕ) (back : List ℕ) → IsClosed edges (front ++ first ∷ back) → Runs edges first (back ++ front) first
turned edges [] first back closed = rw (append-nil back) closed
turned edges (block ∷ front) first back closed =
    let parts = runs_apart edges block front first back block closed in
    runs_joined edges first back block front first parts.1 parts.0

pub turned_cycle : (edges : List Edge) (cycle result : List ℕ) (at : ℕ) → IsClosed edges cycle → IsFirstBest nat_lt cycle (length cycle) at → result ≡ drop at cycle ++ take at cycle → IsCycle edges result
turned_cycle edges cycle result at closed best is_result =
    let first = get_or cycle at 0 in
    let back = drop (at + 1) cycle in
    let opened : drop at cycle ≡ first ∷ back = rw (add-one) (drop-cons cycle at 0 best.0) in
    let whole : take at cycle ++ first ∷ back ≡ cycle = ap (λ (list : List ℕ). take at cycle ++ list) (sym opened) ∙ take-append-drop at cycle in
    let least : All (λ (other : ℕ). first ≤ other) cycle = λ k d within. ltb-false (get_or cycle k d) first (subst (λ (x : ℕ). nat_lt (get_or cycle k d) x ≡ false) (get_or_default cycle at d 0 best.0) (best.1 k d within)) in
    let turned_result : result ≡ first ∷ (back ++ take at cycle) = is_result ∙ ap (λ (list : List ℕ). list ++ take at cycle) opened in
    let all : All (λ (other : ℕ). first ≤ other) (drop at cycle ++ take at cycle) = All-append (λ (other : ℕ). first ≤ other) (drop at cycle) (take at cycle) (All-drop (λ (other : ℕ). first ≤ other) at cycle least) (All-take (λ (other : ℕ). first ≤ other) at cycle least) in
    rw turned_result (record {
      closed = turned edges (take at cycle) first back (subst (λ (list : List ℕ). IsClosed edges list) (sym whole) closed);
      least = All-tail (λ (other : ℕ). first ≤ other) first (back ++ take at cycle) (subst (λ (list : List ℕ). All (λ (other : ℕ). first ≤ other) list) (sym is_result ∙ turned_result) all);
    })
