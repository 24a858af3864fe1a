use Rattle.std.proofs.Common.{◌∙◌, length, refl, ap}
use Rattle.piece_list.specs.Pieces.{put_vars}
use Rattle.piece_list.proofs.SpotLaws.{put_size}
use Rattle.piece_list.proofs.draft.Declared.keep.Goals as goal

pub returns : goal.returns
returns c =
    let values = c.args.self.now.spots.values.items in
    let put = c.put.ensures ∙ ap (put_vars values c.args.id) c.in_ok-vars.ensures.vars in
    record {
      placed = c.in_ok-vars.ensures.list;
      system = c.in_ok-vars.ensures.ok;
      values = put;
      same = record { blocks = refl; edges = refl; cases = refl; constants = refl; count = ap length put ∙ put_size values c.args.id _ };
      stand = c.in_ok-vars.ensures.placed;
      compact = c.in_ok-vars.ensures.compact;
    }
