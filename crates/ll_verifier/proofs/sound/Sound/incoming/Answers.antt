use Rattle.std.proofs.Common.{◌<◌, length, refl, ◌∙◌, arith}
use Rattle.ll_rules.specs.Items.{labels_of, values_of, names_of}
use Rattle.name_table.specs.Names.{AreDifferent}
use Rattle.ll_links.specs.Items.{item_at}
use Rattle.ll_flow.specs.Paths.{label_of}
use Rattle.ll_flow.proofs.PlaceLaws.{count, place_is}
use Rattle.ll_verifier.proofs.ComingLaws.{beside, comes}
use Rattle.ll_verifier.proofs.NameLaws.{labels_differ}
use Rattle.ll_verifier.proofs.sound.Sound.incoming.Goals as goal

pub source_from-requires : goal.source_from-requires
source_from-requires c =
    let func = c.args.self.now.func in
    beside (values_of func) (labels_of func) (item_at func.blocks c.args.block.0 c.args.phi) _ c.requires.phi c.links.ensures.links

pub returns : goal.returns
returns c =
    let func = c.args.self.now.func in
    let names : AreDifferent (names_of c.args.self.now.func) = c.links.ensures.sound.rules.names in
    let within : c.args.from.0 < length (labels_of c.args.self.now.func) = omega (arith, c.requires.from, count c.args.self.now.func) in
    c.source_from.ensures
    ∙ comes (values_of func) (labels_of func) (label_of func c.args.from.0) c.args.from.0 (place_is (labels_of func) (labels_differ func (labels_of func) refl names) c.args.from.0 within)
    (item_at func.blocks c.args.block.0 c.args.phi) _ c.requires.phi c.links.ensures.links
