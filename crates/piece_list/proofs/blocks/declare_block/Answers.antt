use Rattle.std.proofs.Common.{◌∙◌, ◌+◌, ℕ, List, length, ap, sym, subst}
use Rattle.ll_tree.specs.declared.block.Block.{Block}
use Rattle.ll_rules.specs.Items.{Item}
use Rattle.path_encoding.specs.Spots.{block_at}
use Rattle.piece_list.specs.Drafts.{front_of, IsDrafted}
use Rattle.piece_list.proofs.EndLaws.{phis_first, block_done}
use Rattle.piece_list.proofs.FollowLaws.{on_then, constants_kept}
use Rattle.piece_list.proofs.blocks.declare_block.Goals as goal

pub declare_phis-requires : goal.declare_phis-requires
declare_phis-requires c =
    record {
      sound = c.block_of-block.ensures.sound;
      within = c.requires.within;
      phis = sym (c.items-phis.ensures ∙ ap (λ (block : Block). block.phis) c.block_of-block.ensures.block);
      constants = c.requires.constants;
      drafted = c.requires.drafted;
    }

pub declare_body-requires : goal.declare_body-requires
declare_body-requires c =
    let it = c.args.sound.now in
    let at = c.args.at in
    let over = c.in_ok-declare_phis.ensures in
    let phis = c.items-phis.ensures ∙ ap (λ (block : Block). block.phis) c.block_of-block.ensures.block in
    let size = ap length phis in
    let drafted = subst (λ (n : ℕ). IsDrafted it at (front_of it at n) c.declare_phis.new.into) size over.drafted in
    record {
      sound = c.block_of-block.ensures.sound;
      within = c.requires.within;
      phis = sym size;
      body = sym (c.items-body.ensures ∙ ap (λ (block : Block). block.body) c.block_of-block.ensures.block);
      constants = constants_kept c.args.constants.now c.args.into.now.spots c.declare_phis.new.into.spots over.on.same c.requires.constants;
      drafted = subst (λ (front : List Item). IsDrafted it at front c.declare_phis.new.into) (phis_first it at) drafted;
    }

pub returns : goal.returns
returns c =
    let it = c.args.sound.now in
    let at = c.args.at in
    let phis = ap length (c.items-phis.ensures ∙ ap (λ (block : Block). block.phis) c.block_of-block.ensures.block) in
    let body = ap length (c.items-body.ensures ∙ ap (λ (block : Block). block.body) c.block_of-block.ensures.block) in
    let last = c.in_ok-declare_body.ensures in
    let drafted : IsDrafted it at (front_of it at (length (block_at it at).phis + length (block_at it at).body)) c.declare_body.new.into =
    subst (λ (n : ℕ). IsDrafted it at (front_of it at n) c.declare_body.new.into) (λ i. phis i + body i) last.drafted in
    record {
      drafted = block_done it at c.block_of-block.ensures.sound c.requires.within c.declare_body.new.into drafted;
      on = on_then it c.args.into.now c.declare_phis.new.into c.declare_body.new.into c.in_ok-declare_phis.ensures.on last.on;
    }
