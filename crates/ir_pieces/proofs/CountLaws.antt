-- What all pieces of a list lay is bounded.
use Rattle.std.proofs.Common.{ℕ, ◌+◌, ◌*◌, ◌≤◌, List, [], ◌∷◌, length, length-append, map, arith}
use Rattle.std.proofs.lemmas.List.{length-map}
use Rattle.wrap_rows.specs.Layout.{raised}
use Rattle.ir_pieces.specs.declared.list.Placed.{Placed}
use Rattle.ir_pieces.specs.Pieces.{layout}
use Rattle.ir_pieces.specs.Lists.{end_of, ArePlaced, edges_in, joined}
use Rattle.ir_pieces.proofs.PieceLaws.{bounded}

pub rows_few : (placed : List Placed) (from to : ℕ) → ArePlaced from to placed → length (joined placed).rows ≤ 5 * length placed + edges_in placed
rows_few [] from to are = omega arith
rows_few (it ∷ others) from to are =
    omega (
      arith,
      length-append (layout it.piece it.first).rows (joined others).rows,
      (bounded it.piece it.first are.1).rows,
      rows_few others (end_of it) to are.2,
    )

pub clauses_few : (placed : List Placed) (from to : ℕ) → ArePlaced from to placed → length (joined placed).clauses ≤ 138 * length placed + 4 * edges_in placed
clauses_few [] from to are = omega arith
clauses_few (it ∷ others) from to are =
    let one = layout it.piece it.first in
    let later = map (map (raised (length one.rows))) (joined others).clauses in
    omega (
      arith,
      length-append one.clauses later,
      length-map (joined others).clauses (map (raised (length one.rows))),
      (bounded it.piece it.first are.1).clauses,
      clauses_few others (end_of it) to are.2,
    )
