use Rattle.std.proofs.Common.{◌≡◌, ◌+◌, ◌-◌, ◌++◌, ◌∙◌, ℕ, pos, List, length, map, append_assoc, sym, ap, arith}
use Rattle.std.proofs.lemmas.List.{length-map, length-append}
use Rattle.mix_system.specs.declared.literal.Lit.{Lit}
use Rattle.mix_system.specs.System.{System}
use Rattle.wrap_rows.specs.Blocks.{equals}
use Rattle.wrap_rows.specs.Layout.{clause_from}
use Rattle.wrap_rows.specs.Normal.{clause_of}
use Rattle.path_encoding.specs.PathLayout.{flow_clauses}
use Rattle.path_encoding.proofs.FlowLaws.{flow_count, equations_more}
use Rattle.path_encoding.proofs.rows.add_flow_clauses.Goals as goal

pub add_equation-requires-clause-room : goal.add_equation-requires-clause-room
add_equation-requires-clause-room c =
    let old = c.args.into.now in
    let row = c.loop-row.row in
    let first = c.args.first in
    omega (arith, ap {A = System} (λ s. length s.clauses) c.loop-row.invariant, length-append old.clauses (map (clause_from first) (flow_clauses (row - first))), length-map (flow_clauses (row - first)) (clause_from first), flow_count (row - first), flow_count (length old.rows - first), c.requires.room, c.loop-row-test.true, c.rows-rows.ensures.count)

pub loop-row-preserved : goal.loop-row-preserved
loop-row-preserved c =
    let old = c.args.into.now in
    let row = c.loop-row.row in
    let first = c.args.first in
    let so_far = map (clause_from first) (flow_clauses (row - first)) in
    let here : first + (row - first) ≡ row = omega arith in
    let next : row - first + 1 ≡ row + 1 - first = omega arith in
    c.in_ok-add_equation.ensures
    ∙ ap {A = System} (λ s. record s { clauses = s.clauses ++ map clause_of (equals row (pos 0)) }) c.loop-row.invariant
    ∙ ap (λ (clauses : List (List Lit)). record old { clauses = clauses })
    (append_assoc old.clauses so_far (map clause_of (equals row (pos 0)))
    ∙ ap (λ (n : ℕ). old.clauses ++ (so_far ++ map clause_of (equals n (pos 0)))) (sym here)
    ∙ ap (λ (behind : List (List Lit)). old.clauses ++ behind) (sym (equations_more first (row - first)))
    ∙ ap (λ (n : ℕ). old.clauses ++ map (clause_from first) (flow_clauses n)) next)
