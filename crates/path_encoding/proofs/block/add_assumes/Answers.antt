use Rattle.std.proofs.Common.{◌≡◌, ◌<◌, ◌+◌, ◌++◌, ◌∙◌, List, true, false, length, get_or, map, sym, ap, subst, arith, rules}
use Rattle.std.specs.Prelude.{flat_map}
use Rattle.std.proofs.lemmas.List.{get_or_default}
use Rattle.mix_system.specs.declared.literal.Lit.{Lit}
use Rattle.mix_system.specs.System.{System}
use Rattle.ll_tree.specs.declared.block.Instr.{Instr}
use Rattle.ll_rules.specs.Items.{OfInstr, labels_of, values_of}
use Rattle.ll_links.specs.Items.{item_at}
use Rattle.ll_links.specs.Links.{AreLinks}
use Rattle.wrap_rows.specs.declared.vars.ValueVars.{ValueVars}
use Rattle.wrap_rows.specs.Normal.{clause_of}
use Rattle.path_encoding.specs.Spots.{block_var, source_vars}
use Rattle.path_encoding.specs.Ends.{assumed, assume_clauses}
use Rattle.path_encoding.specs.Resolved.{is_assume, first_of}
use Rattle.path_encoding.proofs.KnownLaws.{source_known}
use Rattle.path_encoding.proofs.LaidLaws.{laid_more, laid_skip, laid_room}
use Rattle.path_encoding.proofs.ResolvedLaws.{no_assume, assume_there}
use Rattle.path_encoding.proofs.block.add_assumes.Goals as goal

pub add_assumed-requires-clause-number : goal.add_assumed-requires-clause-number
add_assumed-requires-clause-number c =
    let vars = length c.args.into.now.ranges in
    let low : c.source_vars-value.result.number < vars = subst (λ (value : ValueVars). value.number < vars) (sym c.source_vars-value.ensures) (source_known vars c.args.spots.now c.first_of-first.result c.requires.known).0 in
    omega (arith, low, ap {A = System} (λ s. length s.ranges) c.loop-item.invariant)

pub add_assumed-requires-clause-mark : goal.add_assumed-requires-clause-mark
add_assumed-requires-clause-mark c =
    let vars = length c.args.into.now.ranges in
    let low : c.source_vars-value.result.mark < vars = subst (λ (value : ValueVars). value.mark < vars) (sym c.source_vars-value.ensures) (source_known vars c.args.spots.now c.first_of-first.result c.requires.known).1 in
    omega (arith, low, ap {A = System} (λ s. length s.ranges) c.loop-item.invariant)

pub add_assumed-requires-clause-room : goal.add_assumed-requires-clause-room
add_assumed-requires-clause-room c =
    let it = c.args.sound.now in
    let spots = c.args.spots.now in
    let block = c.args.block.now in
    let instr = c.index-body-item.result in
    let item = c.loop-item.item in
    let f = λ (instr : Instr). assume_clauses it spots (block_var spots c.args.at) instr.op in
    let inside : item < length block.body = rw (← c.items-body.ensures) c.loop-item-test.true in
    let read = rw c.items-body.ensures at c.index-body-item.is in
    let what : item_at it.func.blocks c.args.place.0 (length block.phis + item) ≡ OfInstr instr = c.items_of_a_block.ensures.instr it.func.blocks c.args.place.0 item block instr c.requires.at.low c.requires.at.stands inside ∙ ap OfInstr (sym read) in
    let linked : AreLinks (values_of it.func) (labels_of it.func) (item_at it.func.blocks c.args.place.0 (length block.phis + item)) c.links-links.result = rw (← c.len-phis.ensures) c.links-links.ensures.links in
    let test : is_assume instr.op ≡ true = search rules in
    let piece = assume_there it spots (block_var spots c.args.at) _ instr c.links-links.result what linked test in
    let laid = laid_room clause_of f c.items-body.result.now c.args.into.now c.loop-item.into item instr c.loop-item.invariant c.loop-item-test.true in
    let whole = ap (λ (body : List Instr). length (flat_map f body)) c.items-body.ensures in
    omega (arith, laid, whole, ap length (ap f (sym c.index-body-item.is) ∙ piece), c.requires.room)

pub loop-item-preserved : goal.loop-item-preserved
loop-item-preserved c =
    let it = c.args.sound.now in
    let spots = c.args.spots.now in
    let block = c.args.block.now in
    let instr = c.index-body-item.result in
    let item = c.loop-item.item in
    let now = c.loop-item.into in
    let f = λ (instr : Instr). assume_clauses it spots (block_var spots c.args.at) instr.op in
    let inside : item < length block.body = rw (← c.items-body.ensures) c.loop-item-test.true in
    let read = rw c.items-body.ensures at c.index-body-item.is in
    let what : item_at it.func.blocks c.args.place.0 (length block.phis + item) ≡ OfInstr instr = c.items_of_a_block.ensures.instr it.func.blocks c.args.place.0 item block instr c.requires.at.low c.requires.at.stands inside ∙ ap OfInstr (sym read) in
    let linked : AreLinks (values_of it.func) (labels_of it.func) (item_at it.func.blocks c.args.place.0 (length block.phis + item)) c.links-links.result = rw (← c.len-phis.ensures) c.links-links.ensures.links in
    let test : is_assume instr.op ≡ true = search rules in
    let piece = assume_there it spots (block_var spots c.args.at) _ instr c.links-links.result what linked test in
    let value : c.source_vars-value.result ≡ source_vars spots (first_of c.links-links.result.sources.now) = c.source_vars-value.ensures ∙ ap (source_vars spots) c.first_of-first.ensures in
    let var : c.index-var.result.now ≡ block_var spots c.args.at = c.index-var.ensures ∙ get_or_default spots.blocks.items c.args.at c.index-var.result.now 0 (omega (arith, c.requires.at.within, c.requires.spots.blocks)) in
    let same : assumed c.index-var.result.now c.source_vars-value.result ≡ f (get_or c.items-body.result.now item instr) = (λ i. assumed (var i) (value i)) ∙ sym piece ∙ ap f c.index-body-item.is in
    laid_more clause_of f c.items-body.result.now c.args.into.now now c.add_assumed.new.into item instr c.loop-item.invariant c.loop-item-test.true
    (c.in_ok-add_assumed.ensures ∙ ap (λ (clauses : List (List Lit)). record now { clauses = now.clauses ++ map clause_of clauses }) same)

pub loop-item-preserved-then-not-is_assume : goal.loop-item-preserved-then-not-is_assume
loop-item-preserved-then-not-is_assume c =
    let it = c.args.sound.now in
    let spots = c.args.spots.now in
    let instr = c.index-body-item.result in
    let item = c.loop-item.item in
    let f = λ (instr : Instr). assume_clauses it spots (block_var spots c.args.at) instr.op in
    let other : is_assume instr.op ≡ false = search rules in
    laid_skip clause_of f c.items-body.result.now c.args.into.now c.loop-item.into item instr c.loop-item.invariant c.loop-item-test.true (ap f (sym c.index-body-item.is) ∙ no_assume it spots (block_var spots c.args.at) instr.op other)
