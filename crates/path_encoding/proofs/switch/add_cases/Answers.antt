use Rattle.std.proofs.Common.{◌≡◌, ◌<◌, ◌++◌, ◌∙◌, List, length, get_or, map, sym, ap, arith}
use Rattle.std.specs.Prelude.{zip}
use Rattle.std.proofs.lemmas.List.{length-map, get_or_default}
use Rattle.mix_system.specs.declared.literal.Lit.{Lit}
use Rattle.ll_links.specs.declared.link.BlockId.{BlockId}
use Rattle.wrap_rows.specs.Normal.{clause_of}
use Rattle.path_encoding.specs.Resolved.{places, case_to}
use Rattle.path_encoding.proofs.LaidLaws.{laid_more, laid_room, laid_all}
use Rattle.path_encoding.proofs.ResolvedLaws.{case_read, cases_length, pairs_length}
use Rattle.path_encoding.proofs.switch.add_cases.Goals as goal

pub add_case_at-requires-clause-room : goal.add_case_at-requires-clause-room
add_case_at-requires-clause-room c =
    let f = case_to c.args.sound.now c.args.spots.now c.args.leaving.at c.args.leaving.value.number in
    let targets = places c.args.targets.now in
    let pairs = zip (zip c.args.cases.now targets) c.args.vars.now in
    let size = length-map c.args.targets.now (λ (block : BlockId). block.0) in
    let count = pairs_length c.args.cases.now targets c.args.vars.now (omega (arith, size, c.requires.targets)) c.requires.each in
    let low : c.loop-item.item < length pairs = omega (arith, count, c.loop-item-test.true) in
    let laid = laid_room clause_of f pairs c.args.into.now c.loop-item.into c.loop-item.item ((c.index-cases-item.result, 0), 0) c.loop-item.invariant low in
    omega (arith, laid, count, cases_length c.args.sound.now c.args.spots.now c.args.leaving.at c.args.leaving.value.number pairs, c.requires.room)

pub loop-item-preserved : goal.loop-item-preserved
loop-item-preserved c =
    let f = case_to c.args.sound.now c.args.spots.now c.args.leaving.at c.args.leaving.value.number in
    let targets = places c.args.targets.now in
    let pairs = zip (zip c.args.cases.now targets) c.args.vars.now in
    let size = length-map c.args.targets.now (λ (block : BlockId). block.0) in
    let count = pairs_length c.args.cases.now targets c.args.vars.now (omega (arith, size, c.requires.targets)) c.requires.each in
    let item = c.loop-item.item in
    let now = c.loop-item.into in
    let low : item < length pairs = omega (arith, count, c.loop-item-test.true) in
    let case = c.index-cases-item.result in
    let first : BlockId = record { 0 = 0 } in
    let target = get_or c.args.targets.now item first in
    let var = get_or c.args.vars.now item 0 in
    let target_is : target ≡ get_or c.args.targets.now item target = get_or_default c.args.targets.now item first target (omega (arith, c.requires.targets, c.loop-item-test.true)) in
    let var_is : var ≡ get_or c.args.vars.now item var = get_or_default c.args.vars.now item 0 var (omega (arith, c.requires.each, c.loop-item-test.true)) in
    let read = case_read c.args.cases.now c.args.targets.now c.args.vars.now item case target var c.loop-item-test.true (omega (arith, c.requires.targets, c.loop-item-test.true)) (omega (arith, c.requires.each, c.loop-item-test.true)) c.index-cases-item.is target_is var_is in
    laid_more clause_of f pairs c.args.into.now now c.add_case_at.new.into item ((case, target.0), var) c.loop-item.invariant low
    (c.in_ok-add_case_at.ensures ∙ ap (λ (clauses : List (List Lit)). record now { clauses = now.clauses ++ map clause_of clauses }) (ap f (sym read)))

pub returns : goal.returns
returns c =
    let f = case_to c.args.sound.now c.args.spots.now c.args.leaving.at c.args.leaving.value.number in
    let targets = places c.args.targets.now in
    let pairs = zip (zip c.args.cases.now targets) c.args.vars.now in
    let size = length-map c.args.targets.now (λ (block : BlockId). block.0) in
    let count = pairs_length c.args.cases.now targets c.args.vars.now (omega (arith, size, c.requires.targets)) c.requires.each in
    laid_all clause_of f pairs c.args.into.now c.loop-item.into c.loop-item.item c.loop-item.invariant (omega (arith, count, c.loop-item-test.false))
