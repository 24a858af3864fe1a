use Rattle.std.proofs.Common.{◌≡◌, ℕ, List, Some, sym, ◌∙◌, subst}
use Rattle.ll_items.specs.Sites.{site_of}
use Rattle.ll_rules.specs.Items.{labels_of}
use Rattle.name_table.specs.Names.{place_of}
use Rattle.ll_flow.specs.declared.uses.Moment.TheVariants.{Leaving}
use Rattle.ll_flow.specs.Paths.{label_of}
use Rattle.ll_flow.specs.Uses.{operand_uses}
use Rattle.ll_flow.specs.Found.{Finds}
use Rattle.ll_flow.proofs.PlaceLaws.{found_at}
use Rattle.ll_flow.proofs.uses.in_entry.Goals as goal

pub returns-in-Some : goal.returns-in-Some
returns-in-Some c =
    let place : place_of c.args.entry.now.from (labels_of c.args.uses.now.func.now) ≡ Some c.in-Some.block = rw (c.bytes.ensures, c.requires.tables.labels) at (sym c.find.ensures.place ∙ c.in-Some.is) in
    let same : label_of c.args.uses.now.func.now c.in-Some.block ≡ c.args.entry.now.from = (found_at c.args.entry.now.from (labels_of c.args.uses.now.func.now) c.in-Some.block place).1 in
    subst (λ (label : List ℕ). Finds c.args.uses.now (operand_uses (site_of c.args.site) label Leaving c.args.entry.now.value) c.in_operand.result) same c.in_operand.ensures
