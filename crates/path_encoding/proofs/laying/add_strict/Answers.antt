use Rattle.std.proofs.Common.{◌≡◌, ◌<◌, ◌++◌, ◌∷◌, [], ◌∙◌, ℕ, Bool, true, false, cond, List, length, get_or, map, sym, ap, arith, rules}
use Rattle.std.specs.Prelude.{zip}
use Rattle.std.proofs.lemmas.Slice.Zip.{get_or-zip}
use Rattle.mix_system.specs.declared.literal.Lit.{Lit}
use Rattle.ll_tree.specs.declared.func.Param.{Param}
use Rattle.wrap_rows.specs.declared.vars.ValueVars.{ValueVars}
use Rattle.wrap_rows.specs.Normal.{clause_of}
use Rattle.path_encoding.specs.Ends.{is_off}
use Rattle.path_encoding.specs.PathLayout.{strict_clauses}
use Rattle.path_encoding.proofs.LayingLaws.{zip_low, length_zip}
use Rattle.path_encoding.proofs.LaidLaws.{laid_none, laid_more, laid_skip, laid_room, laid_all}
use Rattle.path_encoding.proofs.laying.add_strict.Goals as goal

pair_at : (params : List Param) (values : List ValueVars) (i : ℕ) (param : Param) (value : ValueVars) → i < length params → i < length values → param ≡ get_or params i param → get_or (zip params values) i (param, value) ≡ (param, get_or values i value)
pair_at params values i param value low low_too is = get_or-zip params values i (param, value) low low_too ∙ (λ j. (sym is j, get_or values i value))

abbrev none : ValueVars
none = record { number = 0; mark = 0 }

pub loop-item-init : goal.loop-item-init
loop-item-init c = laid_none clause_of strict_clauses (zip c.args.params.now c.args.values.now) c.args.into.now

pub loop-item-preserved-then-not-param : goal.loop-item-preserved-then-not-param
loop-item-preserved-then-not-param c =
    let params = c.args.params.now in
    let values = c.args.values.now in
    let item = c.loop-item.item in
    let param = c.index-params-item.result in
    let low : item < length params = c.loop-item-test.true in
    let low_too : item < length values = omega (arith, low, c.requires.each) in
    let loose : param.strict ≡ false = search rules in
    let read = pair_at params values item param none low low_too c.index-params-item.is in
    laid_skip clause_of strict_clauses (zip params values) c.args.into.now c.loop-item.into item (param, none) c.loop-item.invariant (zip_low params values item low low_too)
    (ap strict_clauses read ∙ ap (λ (b : Bool). cond b ((is_off (get_or values item none).mark ∷ []) ∷ []) []) loose)

pub add_lits-requires-clause-room : goal.add_lits-requires-clause-room
add_lits-requires-clause-room c =
    let params = c.args.params.now in
    let values = c.args.values.now in
    let item = c.loop-item.item in
    let param = c.index-params-item.result in
    let low : item < length params = c.loop-item-test.true in
    let low_too : item < length values = omega (arith, low, c.requires.each) in
    let strict : param.strict ≡ true = search rules in
    let read = pair_at params values item param none low low_too c.index-params-item.is in
    let piece = ap strict_clauses read ∙ ap (λ (b : Bool). cond b ((is_off (get_or values item none).mark ∷ []) ∷ []) []) strict in
    omega (arith, laid_room clause_of strict_clauses (zip params values) c.args.into.now c.loop-item.into item (param, none) c.loop-item.invariant (zip_low params values item low low_too), ap length piece, c.requires.room)

pub loop-item-preserved : goal.loop-item-preserved
loop-item-preserved c =
    let params = c.args.params.now in
    let values = c.args.values.now in
    let item = c.loop-item.item in
    let now = c.loop-item.into in
    let param = c.index-params-item.result in
    let low : item < length params = c.loop-item-test.true in
    let low_too : item < length values = omega (arith, low, c.requires.each) in
    let strict : param.strict ≡ true = search rules in
    let read = pair_at params values item param none low low_too c.index-params-item.is in
    let piece = ap strict_clauses read ∙ ap (λ (b : Bool). cond b ((is_off (get_or values item none).mark ∷ []) ∷ []) []) strict in
    laid_more clause_of strict_clauses (zip params values) c.args.into.now now c.add_lits.new.into item (param, none) c.loop-item.invariant (zip_low params values item low low_too)
    (c.in_ok-add_lits.ensures.ok ∙ ap (λ (lit : Lit). record now { clauses = now.clauses ++ clause_of (lit ∷ []) ∷ [] }) c.is_off.ensures ∙ ap (λ (clauses : List (List Lit)). record now { clauses = now.clauses ++ map clause_of clauses }) (sym piece))

pub returns : goal.returns
returns c =
    let params = c.args.params.now in
    let values = c.args.values.now in
    laid_all clause_of strict_clauses (zip params values) c.args.into.now c.loop-item.into c.loop-item.item c.loop-item.invariant (omega (arith, length_zip params values c.requires.each, c.loop-item-test.false))
