use Rattle.std.proofs.Common.{◌∙◌, ℕ, get_or, ap}
use Rattle.std.proofs.lemmas.List.{get_or_default}
use Rattle.path_encoding.specs.Spots.{no_block}
use Rattle.piece_list.proofs.place.block_of.Goals as goal

pub returns-clause-block : goal.returns-clause-block
returns-clause-block c =
    let it = c.args.sound.now in
    let block = c.block_in.result.now in
    c.block_in.ensures ∙ get_or_default it.func.blocks c.block_at-place.result.0 block no_block c.block_at-place.ensures.within ∙ ap (λ (place : ℕ). get_or it.func.blocks place no_block) c.block_at-place.ensures.place
