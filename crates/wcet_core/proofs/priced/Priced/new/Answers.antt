use Rattle.std.proofs.Common.{◌*◌, ◌≤◌, length, ap, arith}
use Rattle.ll_tree.specs.declared.func.Func.{Func}
use Rattle.ll_rules.specs.declared.limits.TheConstants.{MAX_BLOCKS}
use Rattle.wcet_core.proofs.PricedLaws.{has_cells}
use Rattle.wcet_core.proofs.priced.Priced.new.Goals as goal

pub put_edges-requires : goal.put_edges-requires
put_edges-requires c =
    let rows : MAX_BLOCKS * length c.args.sound.now.func.blocks ≤ length c.deref_mut.result.now =
    omega (arith, c.deref_mut.ensures.len, c.in_ok-cells.ensures.len, c.len-blocks.ensures, ap (λ (func : Func). length func.blocks) c.func.ensures.func) in
    has_cells (record { func = c.args.sound.now.func; costs = c.args.costs.now }) (record { rules = c.func.ensures.rules; costs = c.requires }) c.deref_mut.result.now rows
