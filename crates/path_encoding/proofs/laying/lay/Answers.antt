use Rattle.std.proofs.Common.{◌≡◌, ◌-◌, ◌++◌, ℕ, length, map, ap, subst, arith, rules}
use Rattle.std.proofs.lemmas.List.{length-map, length-append}
use Rattle.mix_system.specs.System.{System}
use Rattle.wrap_rows.specs.Layout.{clause_from}
use Rattle.wrap_rows.specs.Normal.{row_of, clause_of}
use Rattle.wrap_rows.proofs.CompactLaws.{compact-laid}
use Rattle.path_encoding.specs.FlowRows.{in_rows, flow_rows}
use Rattle.path_encoding.specs.PathLayout.{start_clauses, flow_clauses, visit_clauses, path_layout}
use Rattle.path_encoding.proofs.FlowLaws.{in_count}
use Rattle.path_encoding.proofs.KnownLaws.{own_rows}
use Rattle.path_encoding.proofs.LittleLaws.{layout_small}
use Rattle.path_encoding.proofs.WholeLaws.{same_rows, layout_stages}
use Rattle.path_encoding.proofs.laying.lay.Goals as goal

pub returns-in_err-add_in_rows-clause-own_rows : goal.returns-in_err-add_in_rows-clause-own_rows
returns-in_err-add_in_rows-clause-own_rows c = own_rows c.args.sound.now c.args.spots.now

pub returns-in_err-add_out_rows-clause-own_rows : goal.returns-in_err-add_out_rows-clause-own_rows
returns-in_err-add_out_rows-clause-own_rows c = own_rows c.args.sound.now c.args.spots.now

pub returns-in_err-add_start-clause-own_rows : goal.returns-in_err-add_start-clause-own_rows
returns-in_err-add_start-clause-own_rows c = own_rows c.args.sound.now c.args.spots.now

pub returns-in_err-add_flow_clauses-clause-own_rows : goal.returns-in_err-add_flow_clauses-clause-own_rows
returns-in_err-add_flow_clauses-clause-own_rows c = own_rows c.args.sound.now c.args.spots.now

pub returns-in_err-add_visits-clause-own_rows : goal.returns-in_err-add_visits-clause-own_rows
returns-in_err-add_visits-clause-own_rows c = own_rows c.args.sound.now c.args.spots.now

pub returns-clause-own_rows : goal.returns-clause-own_rows
returns-clause-own_rows c = own_rows c.args.sound.now c.args.spots.now

pub add_out_rows-requires-clause-room : goal.add_out_rows-requires-clause-room
add_out_rows-requires-clause-room c =
    let it = c.args.sound.now in
    let spots = c.args.spots.now in
    let old = c.args.into.now in
    omega (arith, ap {A = System} (λ s. length s.rows) c.in_ok-add_in_rows.ensures, length-append old.rows (map row_of (in_rows it spots)), length-map (in_rows it spots) row_of, in_count it spots, c.requires.rows)

pub add_flow_clauses-requires-clause-room : goal.add_flow_clauses-requires-clause-room
add_flow_clauses-requires-clause-room c =
    let it = c.args.sound.now in
    let spots = c.args.spots.now in
    let old = c.args.into.now in
    let two = c.add_out_rows.new.into in
    let three = c.add_start.new.into in
    let start = start_clauses it spots in
    let flow = flow_clauses (length (flow_rows it spots)) in
    let visit = visit_clauses it spots in
    let count = same_rows it spots old c.add_in_rows.new.into two three c.rows-first.result c.in_ok-add_in_rows.ensures c.in_ok-add_out_rows.ensures c.in_ok-add_start.ensures c.rows-first.ensures.count in
    omega (
      arith,
      ap {A = System} (λ s. length s.clauses) c.in_ok-add_start.ensures,
      ap {A = System} (λ s. length s.clauses) c.in_ok-add_out_rows.ensures,
      ap {A = System} (λ s. length s.clauses) c.in_ok-add_in_rows.ensures,
      length-append two.clauses (map clause_of start),
      length-map start clause_of,
      ap (λ (n : ℕ). length (flow_clauses n)) count,
      length-append start (flow ++ visit),
      length-append flow visit,
      c.requires.clauses,
    )

pub add_visits-requires-clause-room : goal.add_visits-requires-clause-room
add_visits-requires-clause-room c =
    let it = c.args.sound.now in
    let spots = c.args.spots.now in
    let old = c.args.into.now in
    let two = c.add_out_rows.new.into in
    let three = c.add_start.new.into in
    let start = start_clauses it spots in
    let flow = flow_clauses (length (flow_rows it spots)) in
    let visit = visit_clauses it spots in
    let laid = flow_clauses (length three.rows - c.rows-first.result) in
    let count = same_rows it spots old c.add_in_rows.new.into two three c.rows-first.result c.in_ok-add_in_rows.ensures c.in_ok-add_out_rows.ensures c.in_ok-add_start.ensures c.rows-first.ensures.count in
    omega (
      arith,
      ap {A = System} (λ s. length s.clauses) c.in_ok-add_flow_clauses.ensures,
      ap {A = System} (λ s. length s.clauses) c.in_ok-add_start.ensures,
      ap {A = System} (λ s. length s.clauses) c.in_ok-add_out_rows.ensures,
      ap {A = System} (λ s. length s.clauses) c.in_ok-add_in_rows.ensures,
      length-append three.clauses (map (clause_from c.rows-first.result) laid),
      length-map laid (clause_from c.rows-first.result),
      length-append two.clauses (map clause_of start),
      length-map start clause_of,
      ap (λ (n : ℕ). length (flow_clauses n)) count,
      length-append start (flow ++ visit),
      length-append flow visit,
      c.requires.clauses,
    )

pub returns-clause-ok : goal.returns-clause-ok
returns-clause-ok c =
    let three = c.add_start.new.into in
    let fourth = subst (λ (n : ℕ). c.add_flow_clauses.new.into ≡ record three { clauses = three.clauses ++ map (clause_from n) (flow_clauses (length three.rows - n)) }) c.rows-first.ensures.count c.in_ok-add_flow_clauses.ensures in
    layout_stages c.args.sound.now c.args.spots.now c.args.into.now c.add_in_rows.new.into c.add_out_rows.new.into three c.add_flow_clauses.new.into c.add_visits.new.into c.in_ok-add_in_rows.ensures c.in_ok-add_out_rows.ensures c.in_ok-add_start.ensures fourth c.in_ok-add_visits.ensures

pub returns-clause-compact : goal.returns-clause-compact
returns-clause-compact c = λ compact.
    let it = c.args.sound.now in
    let spots = c.args.spots.now in
    let old = c.args.into.now in
    let three = c.add_start.new.into in
    let fourth = subst (λ (n : ℕ). c.add_flow_clauses.new.into ≡ record three { clauses = three.clauses ++ map (clause_from n) (flow_clauses (length three.rows - n)) }) c.rows-first.ensures.count c.in_ok-add_flow_clauses.ensures in
    let lays = layout_stages it spots old c.add_in_rows.new.into c.add_out_rows.new.into three c.add_flow_clauses.new.into c.add_visits.new.into c.in_ok-add_in_rows.ensures c.in_ok-add_out_rows.ensures c.in_ok-add_start.ensures fourth c.in_ok-add_visits.ensures in
    compact-laid (path_layout it spots) old c.add_visits.new.into compact (layout_small it (search rules) spots) lays
