use Rattle.std.proofs.Common.{◌≡◌, ◌<◌, List, length, get_or, ap, ◌∙◌, arith}
use Rattle.std.proofs.lemmas.List.{get_or-map}
use Rattle.ll_links.specs.declared.link.BlockId.{BlockId}
use Rattle.ll_links.specs.Links.{block_id}
use Rattle.portion_cuts.specs.Paths.{place_at}
use Rattle.path_encoding.proofs.TargetLaws.{place_low}
use Rattle.path_encoding.proofs.place.place_at.Goals as goal

pub returns-clause-within : goal.returns-clause-within
returns-clause-within c =
    let it = c.args.sound.now in
    let at = c.args.at in
    let low : at < length it.flow.order = c.requires in
    let is : (get_or c.order.result.now at (block_id 0)).0 ≡ place_at it at =
    ap (λ (list : List BlockId). (get_or list at (block_id 0)).0) c.order.ensures.order ∙ ap (λ (block : BlockId). block.0) (get_or-map block_id it.flow.order at 0 (block_id 0) low) in
    omega (arith, is, place_low it c.order.ensures.sound at low)
