-- What the paths of a function lay into a system: points of it have one path.
use Rattle.std.specs.Prelude.{◌++◌, ℕ, pos, if◌then◌else◌, List, [], ◌∷◌, length, flat_map, zip}
use Rattle.std.specs.List.{range_with_len}
use Rattle.mix_system.specs.declared.literal.Lit.{Lit}
use Rattle.ll_tree.specs.declared.func.Param.{Param}
use Rattle.ll_verifier.specs.Sound.{SoundFunc}
use Rattle.wrap_rows.specs.declared.vars.ValueVars.{ValueVars}
use Rattle.wrap_rows.specs.Layout.{Layout}
use Rattle.wrap_rows.specs.Blocks.{equals}
use Rattle.path_encoding.specs.declared.spots.PathSpots.{PathSpots}
use Rattle.path_encoding.specs.Spots.{block_var}
use Rattle.path_encoding.specs.FlowRows.{flow_rows}
use Rattle.path_encoding.specs.Ends.{is_off, is_on, block_clauses}

-- the argument of a strict parameter isn't poison
abbrev pub strict_clauses : Param × ValueVars → List (List Lit)
strict_clauses given = if given.0.strict then ((is_off given.1.mark ∷ []) ∷ []) else []

-- the entry is visited, and no argument is poison that may not be
abbrev pub start_clauses : SoundFunc → PathSpots → List (List Lit)
start_clauses it spots = (is_on (block_var spots 0) ∷ []) ∷ flat_map strict_clauses (zip it.func.params spots.values.items)

-- each of so many rows is 0
abbrev pub flow_clauses : ℕ → List (List Lit)
flow_clauses rows = flat_map (λ row. equals row (pos 0)) (range_with_len 0 rows)

-- of the blocks in the kept order
abbrev pub visit_clauses : SoundFunc → PathSpots → List (List Lit)
visit_clauses it spots = flat_map (block_clauses it spots) (range_with_len 0 (length it.flow.order))

-- The flow rows, first those into blocks and then those out of them. The clauses of the start, of each flow row, and of each block.
abbrev pub path_layout : SoundFunc → PathSpots → Layout
path_layout it spots = record {
  rows = flow_rows it spots;
  clauses = start_clauses it spots ++ (flow_clauses (length (flow_rows it spots)) ++ visit_clauses it spots);
}
