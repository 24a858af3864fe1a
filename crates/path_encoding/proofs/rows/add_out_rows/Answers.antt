use Rattle.std.proofs.Common.{◌≡◌, ◌<◌, ◌++◌, ◌∷◌, [], ◌∙◌, ℕ, true, false, List, length, map, append_assoc, sym, ap, arith, rules}
use Rattle.std.specs.List.{filter, range_with_len}
use Rattle.std.proofs.lemmas.List.{length-map, length-append}
use Rattle.mix_system.specs.declared.row.Part.{Part}
use Rattle.mix_system.specs.System.{System}
use Rattle.ll_tree.specs.declared.block.Block.{Block}
use Rattle.wrap_rows.specs.Normal.{row_of}
use Rattle.path_encoding.specs.Spots.{block_at}
use Rattle.path_encoding.specs.FlowRows.{goes_on, out_row}
use Rattle.path_encoding.proofs.FlowLaws.{kept_rows_more, kept_rows_same, kept_count}
use Rattle.path_encoding.proofs.ResolvedLaws.{block_seen}
use Rattle.path_encoding.proofs.rows.add_out_rows.Goals as goal

pub loop-at-preserved-then-not-goes_on : goal.loop-at-preserved-then-not-goes_on
loop-at-preserved-then-not-goes_on c =
    let it = c.args.sound.now in
    let old = c.args.into.now in
    let at = c.loop-at.at in
    let block = c.block_in-block.result.now in
    let f = out_row it c.args.spots.now in
    let low : at < length it.flow.order = omega (arith, c.loop-at-test.true, c.requires.blocks) in
    let seen = block_seen it c.place_at-place.ensures.sound at c.place_at-place.result.0 block low c.place_at-place.ensures.place c.place_at-place.ensures.within c.block_in-block.ensures in
    let here : goes_on block.end ≡ false = search rules in
    let fails : goes_on (block_at it at).end ≡ false = ap (λ (b : Block). goes_on b.end) seen ∙ here in
    c.loop-at.invariant ∙ ap (λ (behind : List (List Part)). record old { rows = old.rows ++ behind }) (sym (kept_rows_same (λ (at : ℕ). goes_on (block_at it at).end) f at fails))

pub add_out_row-requires-clause-room : goal.add_out_row-requires-clause-room
add_out_row-requires-clause-room c =
    let it = c.args.sound.now in
    let old = c.args.into.now in
    let f = out_row it c.args.spots.now in
    let so_far = map f (filter (λ (at : ℕ). goes_on (block_at it at).end) (range_with_len 0 c.loop-at.at)) in
    omega (arith, ap {A = System} (λ s. length s.rows) c.loop-at.invariant, length-append old.rows (map row_of so_far), length-map so_far row_of, kept_count (λ (at : ℕ). goes_on (block_at it at).end) f c.loop-at.at, c.requires.room, c.loop-at-test.true, c.requires.blocks)

pub loop-at-preserved : goal.loop-at-preserved
loop-at-preserved c =
    let it = c.args.sound.now in
    let old = c.args.into.now in
    let at = c.loop-at.at in
    let block = c.block_in-block.result.now in
    let f = out_row it c.args.spots.now in
    let so_far = map row_of (map f (filter (λ (at : ℕ). goes_on (block_at it at).end) (range_with_len 0 at))) in
    let low : at < length it.flow.order = omega (arith, c.loop-at-test.true, c.requires.blocks) in
    let seen = block_seen it c.place_at-place.ensures.sound at c.place_at-place.result.0 block low c.place_at-place.ensures.place c.place_at-place.ensures.within c.block_in-block.ensures in
    let here : goes_on block.end ≡ true = search rules in
    let passes : goes_on (block_at it at).end ≡ true = ap (λ (b : Block). goes_on b.end) seen ∙ here in
    c.in_ok-add_out_row.ensures
    ∙ ap {A = System} (λ s. record s { rows = s.rows ++ row_of (f at) ∷ [] }) c.loop-at.invariant
    ∙ ap (λ (rows : List (List Part)). record old { rows = rows })
    (append_assoc old.rows so_far (row_of (f at) ∷ []) ∙ ap (λ (behind : List (List Part)). old.rows ++ behind) (sym (kept_rows_more (λ (at : ℕ). goes_on (block_at it at).end) f at passes)))
