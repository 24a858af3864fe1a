use Rattle.std.proofs.Common.{◌≡◌, ◌<◌, ◌++◌, ◌∙◌, List, length, map, sym, ap, subst, arith}
use Rattle.std.specs.Prelude.{zip}
use Rattle.std.proofs.lemmas.List.{length-map}
use Rattle.mix_system.specs.declared.literal.Lit.{Lit}
use Rattle.ll_links.specs.declared.link.BlockId.{BlockId}
use Rattle.ll_rules.specs.Items.{targets_of}
use Rattle.wrap_rows.specs.declared.vars.ValueVars.{ValueVars}
use Rattle.wrap_rows.specs.Normal.{clause_of}
use Rattle.path_encoding.specs.Spots.{place_with, source_vars, cases_of}
use Rattle.path_encoding.specs.Ends.{end_clauses}
use Rattle.path_encoding.specs.Resolved.{first_of, places, end_to}
use Rattle.path_encoding.proofs.KnownLaws.{source_known}
use Rattle.path_encoding.proofs.ResolvedLaws.{end_same}
use Rattle.path_encoding.proofs.exit.add_end.Goals.{After-source_vars-value}
use Rattle.path_encoding.proofs.exit.add_end.Goals as goal

value_is : (c : After-source_vars-value) → c.source_vars-value.result ≡ source_vars c.args.spots.now (first_of c.end_links-links.result.sources.now)
value_is c = c.source_vars-value.ensures ∙ ap (source_vars c.args.spots.now) c.first_of-first.ensures

same : (c : After-source_vars-value) → end_to c.args.sound.now c.args.spots.now c.args.at c.source_vars-value.result (places c.end_links-links.result.blocks.now) c.args.cases.now c.args.block.now.end ≡ end_clauses c.args.sound.now c.args.spots.now c.args.at (zip (cases_of c.args.block.now.end) c.args.cases.now) c.args.block.now.end
same c =
    let it = c.args.sound.now in
    let links = c.end_links-links.result in
    let block = c.args.block.now in
    ap (λ (value : ValueVars). end_to it c.args.spots.now c.args.at value (places links.blocks.now) c.args.cases.now block.end) (value_is c)
    ∙ end_same it c.args.spots.now c.args.at block.end links.sources.now (places links.blocks.now) c.args.cases.now c.end_links-links.ensures.sources c.end_links-links.ensures.targets

pub add_exit-requires-clause-number : goal.add_exit-requires-clause-number
add_exit-requires-clause-number c =
    let vars = length c.args.into.now.ranges in
    subst (λ (value : ValueVars). value.number < vars) (sym c.source_vars-value.ensures) (source_known vars c.args.spots.now c.first_of-first.result c.requires.known).0

pub add_exit-requires-clause-mark : goal.add_exit-requires-clause-mark
add_exit-requires-clause-mark c =
    let vars = length c.args.into.now.ranges in
    subst (λ (value : ValueVars). value.mark < vars) (sym c.source_vars-value.ensures) (source_known vars c.args.spots.now c.first_of-first.result c.requires.known).1

pub add_exit-requires-clause-targets : goal.add_exit-requires-clause-targets
add_exit-requires-clause-targets c =
    let links = c.end_links-links.result in
    omega (arith, ap length c.end_links-links.ensures.targets, length-map links.blocks.now (λ (block : BlockId). block.0), length-map (targets_of c.args.block.now.end) (place_with c.args.sound.now.func))

pub add_exit-requires-clause-room : goal.add_exit-requires-clause-room
add_exit-requires-clause-room c = omega (arith, ap length (same (goal.at.add_exit-requires-clause-room c).After-source_vars-value), c.requires.room)

pub returns : goal.returns
returns c = c.in_ok-add_exit.ensures ∙ ap (λ (clauses : List (List Lit)). record c.args.into.now { clauses = c.args.into.now.clauses ++ map clause_of clauses }) (same (goal.at.returns c).After-source_vars-value)
