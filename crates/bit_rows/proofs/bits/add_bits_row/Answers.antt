use Rattle.std.proofs.Common.{◌++◌, ◌∷◌, [], pos, List, length, map, ap, sym, ◌∙◌}
use Rattle.mix_system.specs.declared.row.Part.{Part}
use Rattle.mix_system.specs.System.{System}
use Rattle.wrap_rows.specs.Normal.{clause_of}
use Rattle.wrap_rows.specs.Blocks.{equals}
use Rattle.wrap_rows.proofs.RangedLaws.{on_ok}
use Rattle.bit_rows.proofs.RowLaws.{row-IsRow, row-normal}
use Rattle.bit_rows.proofs.bits.add_bits_row.Goals as goal

pub add_row-requires-clause-row : goal.add_row-requires-clause-row
add_row-requires-clause-row c = rw (c.as_slice.ensures ∙ c.in_ok-parts.ensures) (row-IsRow _ c.args.width c.args.number c.args.first c.requires.before c.requires.known)

pub returns : goal.returns
returns c =
    let old = c.args.into.now in
    let next = c.add_row.new.self in
    let vars = length old.ranges in
    let parts = c.as_slice.ensures ∙ c.in_ok-parts.ensures ∙ sym (row-normal vars c.args.width c.args.number c.args.first c.requires.before c.requires.known) in
    on_ok c.add_equation.result
    (λ is.
    is
    ∙ ap (λ row. record next { clauses = next.clauses ++ map clause_of (equals row (pos 0)) }) c.in_ok-row.ensures.number
    ∙ ap {A = System} (λ s. record s { clauses = s.clauses ++ map clause_of (equals (length old.rows) (pos 0)) }) c.in_ok-row.ensures.ok
    ∙ ap (λ (row : List Part). record old { rows = old.rows ++ row ∷ []; clauses = old.clauses ++ map clause_of (equals (length old.rows) (pos 0)) }) parts)
    c.add_equation.ensures
