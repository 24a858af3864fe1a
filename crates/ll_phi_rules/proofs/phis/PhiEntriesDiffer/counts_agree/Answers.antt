use Rattle.std.proofs.Common.{◌≡◌, ℕ, List, get_or, map, sym, ◌∙◌, ap}
use Rattle.ll_phi_rules.proofs.ColumnLaws.{same_size, all_have_edges}
use Rattle.ll_phi_rules.proofs.phis.PhiEntriesDiffer.counts_agree.Goals as goal

pub is_column-requires : goal.is_column-requires
is_column-requires c =
    rw (c.items.ensures, c.items-2.ensures)
    (same_size c.self.inside.targets c.self.inside.blocks.now c.self.inside.labels.now c.self.invariant c.args.entries.now c.in_ok-counts.counts c.in_ok-counts.ensures)

pub returns : goal.returns
returns c = λ is.
    let at : List ℕ → ℕ = λ row. get_or row c.args.block 0 in
    let same : c.in_ok-counts.counts ≡ map at c.self.inside.targets = sym c.items-2.ensures ∙ c.is_column.ensures is ∙ ap (map at) c.items.ensures in
    rw (← c.self.view_is)
    (all_have_edges c.self.inside.targets c.self.inside.blocks.now c.self.inside.labels.now c.self.invariant c.args.entries.now c.in_ok-counts.counts c.in_ok-counts.ensures c.args.block c.if-block-self.false same)
