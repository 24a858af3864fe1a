-- What the lines of a table give, with numbers in place of names.
use Rattle.std.specs.Prelude.{◌≡◌, ◌<◌, ◌+◌, ℕ, List, [], ◌∷◌, ◌++◌, length, slice_index_or, Contains, Option, Some, None}
use Rattle.flow_graph.specs.declared.edge.Edge.{Edge}
use Rattle.cost_table.specs.Lines.{Says}
use Rattle.cost_table.specs.declared.line.Said.{Said}
use Rattle.cost_table.specs.declared.line.Said.TheVariants as words
use Rattle.cost_table.specs.declared.entry.Entry.{Entry}
use Rattle.cost_table.specs.declared.entry.Entry.TheVariants as entry
use Rattle.cost_table.specs.declared.entry.Flaw.{Flaw}
use Rattle.cost_table.specs.declared.entry.Flaw.TheVariants as flaw

abbrev pub label_at : List (List ℕ) → ℕ → List ℕ
label_at labels block = slice_index_or labels block []

abbrev pub edge_at : List Edge → ℕ → Edge
edge_at edges edge = slice_index_or edges edge (record { from = 0; to = 0 })

-- a block or an edge has a cost already
abbrev pub Repeats : List Entry → Entry → Type 0
Repeats earlier entry.Nothing = ⊥
Repeats earlier (entry.Block block cost) = (other : ℕ) × Contains earlier (entry.Block block other)
Repeats earlier (entry.Edge edge cost) = (other : ℕ) × Contains earlier (entry.Edge edge other)

module _ (version : ℕ) (labels : List (List ℕ)) (edges : List Edge) where
  -- lines of edges stand in version 2 alone
  abbrev pub MayStand : Said → Type 0
  MayStand words.Nothing = Unit {0}
  MayStand (words.Block label cost) = Unit {0}
  MayStand (words.Edge from to cost) = version ≡ 2

  -- its names are labels
  abbrev pub HasLabels : Said → Type 0
  HasLabels words.Nothing = Unit {0}
  HasLabels (words.Block label cost) = Contains labels label
  HasLabels (words.Edge from to cost) = Contains labels from × Contains labels to

  -- the entry is what is said, with the numbers of the block or the edge
  abbrev pub Names : Said → Entry → Type 0
  Names words.Nothing entry.Nothing = Unit {0}
  Names words.Nothing (entry.Block block cost) = ⊥
  Names words.Nothing (entry.Edge edge cost) = ⊥
  Names (words.Block label cost) entry.Nothing = ⊥
  Names (words.Block label cost) (entry.Block block given) = (block < length labels) × (label_at labels block ≡ label) × (given ≡ cost)
  Names (words.Block label cost) (entry.Edge edge given) = ⊥
  Names (words.Edge from to cost) entry.Nothing = ⊥
  Names (words.Edge from to cost) (entry.Block block given) = ⊥
  Names (words.Edge from to cost) (entry.Edge edge given) =
      (version ≡ 2) × (edge < length edges) × (label_at labels (edge_at edges edge).from ≡ from) × (label_at labels (edge_at edges edge).to ≡ to) × (given ≡ cost)

  -- why what is said gives no entry
  abbrev pub Lacks : Said → Flaw → Type 0
  Lacks said flaw.Form = ¬ MayStand said
  Lacks said flaw.Block = MayStand said × ¬ HasLabels said
  Lacks said flaw.Edge = MayStand said × HasLabels said × ((given : Entry) → ¬ Names said given)
  Lacks said flaw.Twice = ⊥

  abbrev pub Gives : List ℕ → Entry → Type 0
  Gives line given = (said : Said) × Says line said × Names said given

  -- what is wrong with a line behind such entries, in the order of `Flaw`
  abbrev pub IsFlaw : List Entry → List ℕ → Flaw → Type 0
  IsFlaw earlier line flaw.Form = (said : Said) → Says line said → ¬ MayStand said
  IsFlaw earlier line flaw.Block = (said : Said) × Says line said × MayStand said × ¬ HasLabels said
  IsFlaw earlier line flaw.Edge = (said : Said) × Says line said × MayStand said × HasLabels said × ((given : Entry) → ¬ Names said given)
  IsFlaw earlier line flaw.Twice = (given : Entry) × Gives line given × Repeats earlier given

  -- behind such entries each line gives one, and none repeats one before it
  abbrev pub Goes : List Entry → List (List ℕ) → List Entry → Type 0
  Goes earlier [] [] = Unit {0}
  Goes earlier [] (given ∷ entries) = ⊥
  Goes earlier (line ∷ lines) [] = ⊥
  Goes earlier (line ∷ lines) (given ∷ entries) = Gives line given × ¬ Repeats earlier given × Goes (earlier ++ given ∷ []) lines entries

  -- the first of the lines with a flaw, by its number where the first has the number 2
  pub record FlawAt (lines : List (List ℕ)) (number : ℕ) (kind : Flaw) : Type 0 where
    pub before : List (List ℕ)
    pub line : List ℕ
    pub after : List (List ℕ)
    pub entries : List Entry
    pub lines_are : lines ≡ before ++ line ∷ after
    pub given : Goes [] before entries
    pub is_flaw : IsFlaw entries line kind
    pub number_is : number ≡ length before + 2

-- what is kept for a block or an edge: the cost that some entry gives it, or none
abbrev pub IsKept : (ℕ → Entry) → List Entry → Option ℕ → Type 0
IsKept made entries None = (cost : ℕ) → ¬ Contains entries (made cost)
IsKept made entries (Some cost) = Contains entries (made cost)

abbrev pub AreKept : (ℕ → ℕ → Entry) → List Entry → List (Option ℕ) → Type 0
AreKept made entries costs = (at : ℕ) → at < length costs → IsKept (made at) entries (slice_index_or costs at None)

-- the costs of blocks and of edges that some entries give
pub record Keeps (entries : List Entry) (blocks edges : List (Option ℕ)) : Type 0 where
  pub of_blocks : AreKept entry.Block entries blocks
  pub of_edges : AreKept entry.Edge entries edges

-- there is a place for the entry's cost
abbrev pub HasPlace : ℕ → ℕ → Entry → Type 0
HasPlace blocks edges entry.Nothing = Unit {0}
HasPlace blocks edges (entry.Block block cost) = block < blocks
HasPlace blocks edges (entry.Edge edge cost) = edge < edges

-- an entry is added to what is kept
abbrev pub Adds : List Entry → Entry → List (Option ℕ) → List (Option ℕ) → Type 0
Adds entries given blocks edges = ¬ Repeats entries given × Keeps (entries ++ given ∷ []) blocks edges

abbrev pub cost_or_zero : Option ℕ → ℕ
cost_or_zero None = 0
cost_or_zero (Some cost) = cost
