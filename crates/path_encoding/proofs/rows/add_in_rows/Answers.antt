use Rattle.std.proofs.Common.{◌≡◌, ◌+◌, ◌-◌, ◌++◌, ◌∷◌, [], ◌∙◌, ℕ, List, length, map, append_assoc, sym, ap, arith}
use Rattle.std.specs.List.{range_with_len}
use Rattle.std.proofs.lemmas.List.{length-map, length-append}
use Rattle.std.proofs.lemmas.List.FromFn.{length-range_with_len}
use Rattle.mix_system.specs.declared.row.Part.{Part}
use Rattle.mix_system.specs.System.{System}
use Rattle.wrap_rows.specs.Normal.{row_of}
use Rattle.path_encoding.specs.FlowRows.{in_row}
use Rattle.path_encoding.proofs.FlowLaws.{rows_more}
use Rattle.path_encoding.proofs.rows.add_in_rows.Goals as goal

pub add_in_row-requires-clause-room : goal.add_in_row-requires-clause-room
add_in_row-requires-clause-room c =
    let old = c.args.into.now in
    let f = in_row c.args.sound.now c.args.spots.now in
    let so_far = map f (range_with_len 1 (c.loop-at.at - 1)) in
    omega (arith, ap {A = System} (λ s. length s.rows) c.loop-at.invariant, length-append old.rows (map row_of so_far), length-map so_far row_of, length-map (range_with_len 1 (c.loop-at.at - 1)) f, length-range_with_len 1 (c.loop-at.at - 1), c.requires.room, c.requires.blocks, c.loop-at-test.true)

pub loop-at-preserved : goal.loop-at-preserved
loop-at-preserved c =
    let old = c.args.into.now in
    let at = c.loop-at.at in
    let f = in_row c.args.sound.now c.args.spots.now in
    let so_far = map row_of (map f (range_with_len 1 (at - 1))) in
    let here : 1 + (at - 1) ≡ at = omega arith in
    let next : at - 1 + 1 ≡ at + 1 - 1 = omega arith in
    c.in_ok-add_in_row.ensures
    ∙ ap {A = System} (λ s. record s { rows = s.rows ++ row_of (f at) ∷ [] }) c.loop-at.invariant
    ∙ ap (λ (rows : List (List Part)). record old { rows = rows })
    (append_assoc old.rows so_far (row_of (f at) ∷ [])
    ∙ ap (λ (n : ℕ). old.rows ++ (so_far ++ row_of (f n) ∷ [])) (sym here)
    ∙ ap (λ (behind : List (List Part)). old.rows ++ behind) (sym (rows_more f 1 (at - 1)))
    ∙ ap (λ (n : ℕ). old.rows ++ map row_of (map f (range_with_len 1 n))) next)

pub returns : goal.returns
returns c =
    let it = c.args.sound.now in
    let old = c.args.into.now in
    let f = in_row it c.args.spots.now in
    let same : c.loop-at.at - 1 ≡ length it.flow.order - 1 = omega (arith, c.requires.blocks, c.loop-at-test.false) in
    c.loop-at.invariant ∙ ap (λ (n : ℕ). record old { rows = old.rows ++ map row_of (map f (range_with_len 1 n)) }) same
