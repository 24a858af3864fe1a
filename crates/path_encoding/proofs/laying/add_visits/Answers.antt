use Rattle.std.proofs.Common.{◌≡◌, ◌<◌, ◌+◌, ◌++◌, ◌∙◌, ℕ, List, length, drop, map, append_assoc, sym, ap, arith}
use Rattle.std.specs.Prelude.{flat_map, zip}
use Rattle.std.specs.List.{range_with_len}
use Rattle.std.proofs.lemmas.List.{length-map, length-append}
use Rattle.mix_system.specs.declared.literal.Lit.{Lit}
use Rattle.mix_system.specs.System.{System}
use Rattle.ll_tree.specs.declared.block.Block.{Block}
use Rattle.wrap_rows.specs.Normal.{clause_of}
use Rattle.path_encoding.specs.Spots.{cases_before, cases_of}
use Rattle.path_encoding.specs.Ends.{assumes_at, end_clauses, block_clauses}
use Rattle.path_encoding.proofs.CountLaws.{before_more, before_within, cases_few}
use Rattle.path_encoding.proofs.LayingLaws.{range_flat_more, range_flat_room}
use Rattle.path_encoding.proofs.ResolvedLaws.{block_there, block_seen}
use Rattle.path_encoding.proofs.VisitLaws.{block_piece}
use Rattle.path_encoding.proofs.laying.add_visits.Goals as goal

pub split_at-requires : goal.split_at-requires
split_at-requires c =
    let it = c.args.sound.now in
    let at = c.loop-at.at in
    omega (arith, ap length c.as_slice-all.ensures.value, c.loop-at.invariant.before, before_within it c.args.spots.now c.requires.spots at (omega (arith, c.loop-at-test.true, c.requires.blocks)))

pub add_block-requires-clause-at : goal.add_block-requires-clause-at
add_block-requires-clause-at c =
    let it = c.args.sound.now in
    let low : c.loop-at.at < length it.flow.order = omega (arith, c.loop-at-test.true, c.requires.blocks) in
    block_there it c.place_at-place.ensures.sound c.loop-at.at c.place_at-place.result.0 c.block_in-block.result.now low c.place_at-place.ensures.place c.place_at-place.ensures.within c.block_in-block.ensures

pub add_block-requires-clause-each : goal.add_block-requires-clause-each
add_block-requires-clause-each c =
    let it = c.args.sound.now in
    let spots = c.args.spots.now in
    let at = c.loop-at.at in
    let block = c.block_in-block.result.now in
    let low : at < length it.flow.order = omega (arith, c.loop-at-test.true, c.requires.blocks) in
    let seen = block_seen it c.place_at-place.ensures.sound at c.place_at-place.result.0 block low c.place_at-place.ensures.place c.place_at-place.ensures.within c.block_in-block.ensures in
    let same : drop (cases_before it at) spots.cases.items ≡ c.split_at.result.1.now = ap (λ (n : ℕ). drop n spots.cases.items) (sym c.loop-at.invariant.before) ∙ ap (drop c.loop-at.before) (sym c.as_slice-all.ensures.value) ∙ sym c.split_at.ensures.back in
    omega (arith, cases_few it spots c.requires.spots at low, ap (λ (b : Block). length (cases_of b.end)) seen, ap length same)

pub add_block-requires-clause-room : goal.add_block-requires-clause-room
add_block-requires-clause-room c =
    let it = c.args.sound.now in
    let spots = c.args.spots.now in
    let old = c.args.into.now in
    let at = c.loop-at.at in
    let block = c.block_in-block.result.now in
    let cases = c.split_at.result.1.now in
    let low : at < length it.flow.order = omega (arith, c.loop-at-test.true, c.requires.blocks) in
    let seen = block_seen it c.place_at-place.ensures.sound at c.place_at-place.result.0 block low c.place_at-place.ensures.place c.place_at-place.ensures.within c.block_in-block.ensures in
    let same : drop (cases_before it at) spots.cases.items ≡ cases = ap (λ (n : ℕ). drop n spots.cases.items) (sym c.loop-at.invariant.before) ∙ ap (drop c.loop-at.before) (sym c.as_slice-all.ensures.value) ∙ sym c.split_at.ensures.back in
    let piece = block_piece it spots at block cases seen same in
    let so_far = flat_map (block_clauses it spots) (range_with_len 0 at) in
    omega (
      arith,
      ap {A = System} (λ s. length s.clauses) c.loop-at.invariant.laid,
      length-append old.clauses (map clause_of so_far),
      length-map so_far clause_of,
      ap length piece,
      length-append (assumes_at it spots at block.body) (end_clauses it spots at (zip (cases_of block.end) cases) block.end),
      range_flat_room clause_of (block_clauses it spots) at (length it.flow.order) low,
      c.requires.room,
    )

pub overflow_add-before : goal.overflow_add-before
overflow_add-before c =
    let it = c.args.sound.now in
    let spots = c.args.spots.now in
    let at = c.loop-at.at in
    let block = c.block_in-block.result.now in
    let low : at < length it.flow.order = omega (arith, c.loop-at-test.true, c.requires.blocks) in
    let seen = block_seen it c.place_at-place.ensures.sound at c.place_at-place.result.0 block low c.place_at-place.ensures.place c.place_at-place.ensures.within c.block_in-block.ensures in
    omega (arith, before_more it at, before_within it spots c.requires.spots (at + 1) (omega (arith, low)), ap (λ (b : Block). length (cases_of b.end)) seen, c.case_count-count.ensures, c.loop-at.invariant.before, spots.cases.ok.0)

pub loop-at-preserved : goal.loop-at-preserved
loop-at-preserved c =
    let it = c.args.sound.now in
    let spots = c.args.spots.now in
    let old = c.args.into.now in
    let now = c.loop-at.into in
    let at = c.loop-at.at in
    let block = c.block_in-block.result.now in
    let cases = c.split_at.result.1.now in
    let low : at < length it.flow.order = omega (arith, c.loop-at-test.true, c.requires.blocks) in
    let seen = block_seen it c.place_at-place.ensures.sound at c.place_at-place.result.0 block low c.place_at-place.ensures.place c.place_at-place.ensures.within c.block_in-block.ensures in
    let same : drop (cases_before it at) spots.cases.items ≡ cases = ap (λ (n : ℕ). drop n spots.cases.items) (sym c.loop-at.invariant.before) ∙ ap (drop c.loop-at.before) (sym c.as_slice-all.ensures.value) ∙ sym c.split_at.ensures.back in
    let piece = block_piece it spots at block cases seen same in
    let so_far = map clause_of (flat_map (block_clauses it spots) (range_with_len 0 at)) in
    record {
      before = omega (arith, before_more it at, ap (λ (b : Block). length (cases_of b.end)) seen, c.case_count-count.ensures, c.loop-at.invariant.before);
      laid =
          c.in_ok-add_block.ensures
          ∙ ap (λ (clauses : List (List Lit)). record now { clauses = now.clauses ++ map clause_of clauses }) (sym piece)
          ∙ ap {A = System} (λ s. record s { clauses = s.clauses ++ map clause_of (block_clauses it spots at) }) c.loop-at.invariant.laid
          ∙ ap (λ (clauses : List (List Lit)). record old { clauses = clauses })
          (append_assoc old.clauses so_far (map clause_of (block_clauses it spots at)) ∙ ap (λ (behind : List (List Lit)). old.clauses ++ behind) (sym (range_flat_more clause_of (block_clauses it spots) at)));
    }
