-- The costs of a function's own blocks and edges.
use Rattle.std.proofs.Common.{◌≡◌, refl, ◌<◌, ◌≤◌, ◌*◌, ◌∙◌, ℕ, Bool, true, false, List, length, get_or, set, sym, subst, ap, arith, eqb}
use Rattle.std.specs.Prelude.{Contains}
use Rattle.std.proofs.lemmas.Bool.{true≢false}
use Rattle.std.proofs.lemmas.Bool.Decides.{Decides-eqb}
use Rattle.std.proofs.lemmas.List.{get_or_default, get_or-set_same, get_or-set_other}
use Rattle.flow_graph.specs.Paths.{HasEdge}
use Rattle.flow_graph.specs.declared.edge.Edge.{Edge}
use Rattle.ll_rules.specs.declared.limits.TheConstants.{MAX_BLOCKS}
use Rattle.ll_flow.specs.Paths.{label_of, GoesTo}
use Rattle.ll_flow.proofs.PlaceLaws.{led}
use Rattle.sound_costs.specs.Edges.{between, edges_of}
use Rattle.sound_costs.specs.Costs.{FuncCosts, edge_cost, costs_by_label}
use Rattle.sound_costs.proofs.EdgeLaws.{labels_differ, edge_there, edge_within}
use Rattle.sound_costs.proofs.CostLaws.{edge_by_label}
use Rattle.wcet_core.specs.FuncMachine.{CostedFunc, IsOwn}
use Rattle.wcet_core.specs.Priced.{cell, edge_at, HasCells, IsPut, IsPriced}

has_edge : (it : CostedFunc) → IsOwn it → (from to : ℕ) → from < length it.func.blocks → to < length it.func.blocks → GoesTo it.func (label_of it.func from) (label_of it.func to) → HasEdge it.costs.edges from to
has_edge it own from to from_low to_low goes =
    subst (λ (edges : List Edge). Contains edges (between from to)) (sym own.costs.edges)
    (edge_there it.func from to (led it.func (labels_differ it.func own.rules.names) from to from_low to_low goes))

-- ---- cells

pub has_cells : (it : CostedFunc) → IsOwn it → (cells : List ℕ) → MAX_BLOCKS * length it.func.blocks ≤ length cells → HasCells it.costs cells
has_cells it own cells rows at low =
    let edge = edge_at it.costs.edges at in
    let there : Contains it.costs.edges edge = (at, low, get_or_default it.costs.edges at edge (between 0 0) low) in
    let within = edge_within it.func edge (subst (λ (edges : List Edge). Contains edges edge) own.costs.edges there) in
    (omega (arith, within.1, own.rules.limits.blocks), omega (arith, within.0, within.1, own.rules.limits.blocks, rows))

-- a claim by whether two numbers are the same
by_same : (P : Type 0) (a b : ℕ) (test : Bool) → eqb a b ≡ test → (a ≡ b → P) → ((a ≡ b → ⊥) → P) → P
by_same P a b true is same apart = same ((Decides-eqb a b).0 is)
by_same P a b false is same apart = apart (λ one. true≢false (sym ((Decides-eqb a b).1 one) ∙ is))

-- what is put into one cell leaves the costs of the other edges
pub put_one : (it : FuncCosts) (cells : List ℕ) (edge other : Edge) (cost : ℕ) → edge.to < MAX_BLOCKS → other.to < MAX_BLOCKS → cell edge.from edge.to < length cells
    → cost ≡ edge_cost it edge.from edge.to → IsPut it cells other → IsPut it (set cells (cell edge.from edge.to) cost) other
put_one it cells edge other cost low other_low there is put =
    let key = cell edge.from edge.to in
    let at = cell other.from other.to in
    by_same (IsPut it (set cells key cost) other) key at (eqb key at) refl
    (λ same.
    let from : edge.from ≡ other.from = omega (arith, same, low, other_low) in
    let to : edge.to ≡ other.to = omega (arith, same, low, other_low) in
    ap (λ (n : ℕ). get_or (set cells key cost) n 0) (sym same)
    ∙ get_or-set_same cells key cost 0 there ∙ is
    ∙ ap (λ (n : ℕ). edge_cost it n edge.to) from ∙ ap (λ (n : ℕ). edge_cost it other.from n) to)
    (λ apart. get_or-set_other cells key at cost 0 (λ same. apart (sym same)) ∙ put)

pub put_same : (it : FuncCosts) (cells : List ℕ) (edge : Edge) (cost : ℕ) → cell edge.from edge.to < length cells → cost ≡ edge_cost it edge.from edge.to → IsPut it (set cells (cell edge.from edge.to) cost) edge
put_same it cells edge cost there is = get_or-set_same cells (cell edge.from edge.to) cost 0 there ∙ is

-- ---- the cost of an edge

pub cell_there : (it : CostedFunc) (cells : List ℕ) → IsPriced it cells → (from to : ℕ) → from < length it.func.blocks → to < length it.func.blocks → cell from to < length cells
cell_there it cells priced from to from_low to_low = omega (arith, from_low, to_low, priced.own.rules.limits.blocks, priced.rows)

pub cell_cost : (it : CostedFunc) (cells : List ℕ) → IsPriced it cells → (from to : ℕ) → from < length it.func.blocks → to < length it.func.blocks → GoesTo it.func (label_of it.func from) (label_of it.func to)
    → get_or cells (cell from to) 0 ≡ (costs_by_label it.func it.costs).edge (label_of it.func from) (label_of it.func to)
cell_cost it cells priced from to from_low to_low goes =
    let has = has_edge it priced.own from to from_low to_low goes in
    let (at, low, is) = has in
    let stands : edge_at it.costs.edges at ≡ between from to = get_or_default it.costs.edges at (between 0 0) (between from to) low ∙ is in
    subst (IsPut it.costs cells) stands (priced.put at low)
    ∙ edge_by_label it.func (labels_differ it.func priced.own.rules.names) it.costs priced.own.costs from to has
