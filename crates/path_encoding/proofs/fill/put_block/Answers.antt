use Rattle.std.proofs.Common.{◌<◌, length, sym, subst}
use Rattle.wrap_rows.specs.declared.vars.ValueVars.{ValueVars}
use Rattle.path_encoding.proofs.KnownLaws.{source_known}
use Rattle.path_encoding.proofs.fill.put_block.Goals as goal

pub slice_copy_out-number : goal.slice_copy_out-number
slice_copy_out-number c =
    let size = length c.args.point.now in
    subst (λ (value : ValueVars). value.number < size) (sym c.source_vars-value.ensures) (source_known size c.args.spots.now c.first_of-first.result c.requires.spots).0
