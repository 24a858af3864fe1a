use Rattle.std.proofs.Common.{map, ◌∙◌}
use Rattle.ll_items.specs.Sites.{site_of}
use Rattle.ll_flow.proofs.HomeLaws.{homes_made}
use Rattle.ll_flow.proofs.homes.homes_of.Goals as goal

pub returns : goal.returns
returns c =
    homes_made c.args.func.now (map site_of c.items-2.result.now) c.items.result.now c.new-homes.result c.push_params.new.homes c.push_sites.new.homes c.new-homes.ensures c.items.ensures (c.items-2.ensures ∙ c.requires) c.in_ok-push_params.ensures c.in_ok-push_sites.ensures
