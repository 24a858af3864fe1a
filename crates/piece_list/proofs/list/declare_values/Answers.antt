use Rattle.std.proofs.Common.{◌∙◌, length, ap, arith, rules}
use Rattle.std.proofs.lemmas.List.{length-map}
use Rattle.ll_links.specs.Links.{block_id}
use Rattle.piece_list.proofs.FollowLaws.{constants_kept}
use Rattle.piece_list.proofs.ParamLaws.{params_drafted}
use Rattle.piece_list.proofs.WholeLaws.{params_few, whole}
use Rattle.piece_list.proofs.list.declare_values.Goals as goal

pub declare_params-requires : goal.declare_params-requires
declare_params-requires c = record {
  none = search rules;
  values = omega (arith, params_few c.args.sound.now, c.requires.values);
  exist = c.requires.exist;
  room = c.requires.room;
}

pub declare_blocks-requires : goal.declare_blocks-requires
declare_blocks-requires c =
    let it = c.args.sound.now in
    let left = c.in_ok-declare_params.ensures in
    record {
      blocks = omega (arith, ap length c.order.ensures.order, length-map it.flow.order block_id);
      constants = constants_kept c.args.constants.now c.args.spots c.declare_params.new.into.spots left.same c.requires.constants;
      drafted = params_drafted it c.order.ensures.sound _ c.declare_params.new.into left (ap length left.same.edges ∙ c.requires.spots.edges) (left.same.count ∙ c.requires.values);
    }

pub returns : goal.returns
returns c = whole c.args.sound.now c.order.ensures.sound _ c.declare_params.new.into c.declare_blocks.new.into c.in_ok-declare_params.ensures c.in_ok-declare_blocks.ensures c.requires.values
