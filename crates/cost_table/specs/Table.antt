-- Tables of costs, and why a text is none.
use Rattle.std.specs.Prelude.{◌≡◌, ◌⊎◌, ◌<◌, ℕ, List, [], ◌∷◌, length, map, codes, slice_index, Contains}
use Rattle.std.specs.Borrow.{Bor}
use Rattle.bstr.specs.Text.{lines_of, without_terminator}
use Rattle.flow_graph.specs.declared.edge.Edge.{Edge}
use Rattle.cost_table.specs.Entries.{label_at, Goes, FlawAt}
use Rattle.cost_table.specs.declared.costs.CostFault.{CostFault}
use Rattle.cost_table.specs.declared.costs.CostFault.TheVariants as fault
use Rattle.cost_table.specs.declared.entry.Entry.{Entry}
use Rattle.cost_table.specs.declared.entry.Entry.TheVariants as entry
use Rattle.cost_table.specs.declared.entry.Flaw.{Flaw}
use Rattle.cost_table.specs.declared.entry.Flaw.TheVariants as flaw

-- labels that are lent
abbrev pub spelled : List (Bor (List ℕ)) → List (List ℕ)
spelled labels = map (λ (label : Bor (List ℕ)). label.now) labels

-- The costs of blocks by their places, and of edges by their numbers.
pub record CostLists : Type 0 where
  pub blocks : List ℕ
  pub edges : List ℕ

-- The lines of a text without their LF or CR LF.
abbrev pub lines_in : List ℕ → List (List ℕ)
lines_in text = map without_terminator (lines_of text)

-- the first line of a table of a version
abbrev pub IsHeading : ℕ → List ℕ → Type 0
IsHeading version line = ((version ≡ 1) × (line ≡ codes "wcet costs 1")) ⊎ ((version ≡ 2) × (line ≡ codes "wcet costs 2"))

-- the cost that an entry gives an edge, or 0 where none does
abbrev pub IsEdgeCost : List Entry → ℕ → ℕ → Type 0
IsEdgeCost entries edge cost = Contains entries (entry.Edge edge cost) ⊎ ((cost ≡ 0) × ((other : ℕ) → ¬ Contains entries (entry.Edge edge other)))

-- The first line is a heading, and each further line gives an entry.
pub record AreEntries (text : List ℕ) (labels : List (List ℕ)) (edges : List Edge) (entries : List Entry) : Type 0 where
  pub version : ℕ
  pub first : List ℕ
  pub rest : List (List ℕ)
  pub lines : lines_in text ≡ first ∷ rest
  pub headed : IsHeading version first
  pub given : Goes version labels edges [] rest entries

-- The text is a table of a function with these labels and edges, and gives these costs.
pub record Table (text : List ℕ) (labels : List (List ℕ)) (edges : List Edge) (costs : CostLists) : Type 0 where
  pub entries : List Entry
  pub lines : AreEntries text labels edges entries
  pub one_each : (length costs.blocks ≡ length labels) × (length costs.edges ≡ length edges)
  pub of_blocks : (block : ℕ) → block < length labels → Contains entries (entry.Block block (slice_index costs.blocks block))
  pub of_edges : (edge : ℕ) → edge < length edges → IsEdgeCost entries edge (slice_index costs.edges edge)

-- the first line is no heading, or there is none
abbrev pub HasNoHeading : List ℕ → Type 0
HasNoHeading text = (version : ℕ) (first : List ℕ) (rest : List (List ℕ)) → lines_in text ≡ first ∷ rest → ¬ IsHeading version first

-- a further line is the first with a flaw
pub record StopsAt (text : List ℕ) (labels : List (List ℕ)) (edges : List Edge) (number : ℕ) (kind : Flaw) : Type 0 where
  pub version : ℕ
  pub first : List ℕ
  pub rest : List (List ℕ)
  pub lines : lines_in text ≡ first ∷ rest
  pub headed : IsHeading version first
  pub flawed : FlawAt version labels edges rest number kind

-- The first block without an entry, where all lines are right.
pub record Lacks (text : List ℕ) (labels : List (List ℕ)) (edges : List Edge) (label : List ℕ) : Type 0 where
  pub entries : List Entry
  pub lines : AreEntries text labels edges entries
  pub block : ℕ
  pub within : block < length labels
  pub named : label_at labels block ≡ label
  pub none : (cost : ℕ) → ¬ Contains entries (entry.Block block cost)
  pub earlier : (other : ℕ) → other < block → (cost : ℕ) × Contains entries (entry.Block other cost)

-- why a text is no table
abbrev pub IsCause : List ℕ → List (List ℕ) → List Edge → CostFault → Type 0
IsCause text labels edges (fault.BadLine line) = (HasNoHeading text × (line ≡ 1)) ⊎ StopsAt text labels edges line flaw.Form
IsCause text labels edges (fault.UnknownBlock line) = StopsAt text labels edges line flaw.Block
IsCause text labels edges (fault.UnknownEdge line) = StopsAt text labels edges line flaw.Edge
IsCause text labels edges (fault.CostTwice line) = StopsAt text labels edges line flaw.Twice
IsCause text labels edges (fault.Missing block) = Lacks text labels edges block
IsCause text labels edges fault.NoMemory = Unit {0}

-- the fault of a line
abbrev pub IsLineFault : ℕ → List (List ℕ) → List Edge → List (List ℕ) → CostFault → Type 0
IsLineFault version labels edges lines (fault.BadLine line) = FlawAt version labels edges lines line flaw.Form
IsLineFault version labels edges lines (fault.UnknownBlock line) = FlawAt version labels edges lines line flaw.Block
IsLineFault version labels edges lines (fault.UnknownEdge line) = FlawAt version labels edges lines line flaw.Edge
IsLineFault version labels edges lines (fault.CostTwice line) = FlawAt version labels edges lines line flaw.Twice
IsLineFault version labels edges lines (fault.Missing block) = ⊥
IsLineFault version labels edges lines fault.NoMemory = Unit {0}

-- what is said of a line with a flaw
abbrev pub fault_at : Flaw → ℕ → CostFault
fault_at flaw.Form line = fault.BadLine line
fault_at flaw.Block line = fault.UnknownBlock line
fault_at flaw.Edge line = fault.UnknownEdge line
fault_at flaw.Twice line = fault.CostTwice line
