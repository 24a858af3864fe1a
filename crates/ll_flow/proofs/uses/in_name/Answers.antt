use Rattle.std.proofs.Common.{refl, sym, ◌∙◌, ap, arith}
use Rattle.std.proofs.lemmas.Bool.{true≢false}
use Rattle.ll_items.specs.Sites.{site_of}
use Rattle.ll_flow.specs.Paths.{label_of}
use Rattle.ll_flow.specs.Uses.{ValueUse}
use Rattle.ll_flow.proofs.UseLaws.{placed_use, use_within}
use Rattle.ll_flow.proofs.FindLaws.{defined_here, undefined_here}
use Rattle.ll_flow.proofs.uses.in_name.Goals as goal

pub is_defined-requires : goal.is_defined-requires
is_defined-requires c =
    let it : ValueUse = record { site = site_of c.args.site; name = c.args.name.now; block = label_of c.args.uses.now.func.now c.args.block; moment = c.args.moment } in
    let placed = placed_use c.args.uses.now.func.now it c.usage-it.result c.in-Some.home c.requires.tables.flow.entry (rw c.in-Some.is at c.home_of.ensures) c.usage-it.ensures.agrees (omega (arith, c.usage-it.ensures.block, c.requires.within)) (ap (label_of c.args.uses.now.func.now) c.usage-it.ensures.block) in
    use_within c.args.uses.now.func.now c.args.uses.now.flow.now it c.usage-it.result c.requires.tables.flow placed

pub returns-then-is_defined : goal.returns-then-is_defined
returns-then-is_defined c =
    let it : ValueUse = record { site = site_of c.args.site; name = c.args.name.now; block = label_of c.args.uses.now.func.now c.args.block; moment = c.args.moment } in
    let placed = placed_use c.args.uses.now.func.now it c.usage-it.result c.in-Some.home c.requires.tables.flow.entry (rw c.in-Some.is at c.home_of.ensures) c.usage-it.ensures.agrees (omega (arith, c.usage-it.ensures.block, c.requires.within)) (ap (label_of c.args.uses.now.func.now) c.usage-it.ensures.block) in
    defined_here c.args.uses.now c.requires.tables it c.usage-it.result placed (c.is_defined.ensures.0 c.if-is_defined.true)

pub returns : goal.returns
returns c =
    let it : ValueUse = record { site = site_of c.args.site; name = c.args.name.now; block = label_of c.args.uses.now.func.now c.args.block; moment = c.args.moment } in
    let placed = placed_use c.args.uses.now.func.now it c.usage-it.result c.in-Some.home c.requires.tables.flow.entry (rw c.in-Some.is at c.home_of.ensures) c.usage-it.ensures.agrees (omega (arith, c.usage-it.ensures.block, c.requires.within)) (ap (label_of c.args.uses.now.func.now) c.usage-it.ensures.block) in
    undefined_here c.args.uses.now c.requires.tables it (record { site = c.args.site; name = c.args.name; it = c.usage-it.result }) refl c.requires.here refl placed (λ defined. true≢false (sym (c.is_defined.ensures.1 defined) ∙ c.if-is_defined.false))
