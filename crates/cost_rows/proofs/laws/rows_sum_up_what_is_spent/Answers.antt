use Rattle.cost_rows.proofs.SpendLaws.{row_spends}
use Rattle.cost_rows.proofs.laws.rows_sum_up_what_is_spent.Goals as goal

pub returns : goal.returns
returns c it costs inside path block_vars edge_vars point sound blocks_size edges_size is marks =
    row_spends it sound costs inside path block_vars edge_vars point is marks blocks_size edges_size
