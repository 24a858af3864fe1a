use Rattle.std.proofs.Common.{length, sym, ap, subst, arith}
use Rattle.std.proofs.lemmas.Result.{on_ok_weaker}
use Rattle.wrap_rows.specs.Normal.{sizes}
use Rattle.wrap_rows.proofs.SmallLaws.{IsLight}
use Rattle.cost_rows.proofs.FewLaws.{compact-row}
use Rattle.cost_rows.proofs.PartLaws.{AreKnown, none_known}
use Rattle.cost_rows.proofs.rows.add_row.Goals as goal

pub add_sum-requires-clause-known : goal.add_sum-requires-clause-known
add_sum-requires-clause-known c =
    let count = length c.args.into.now.ranges in
    let none : AreKnown count c.new-parts.result.items = subst (AreKnown count) (sym c.new-parts.ensures.items) (none_known count) in
    let blocks = c.in_ok-push_blocks.ensures.known count c.requires.vars.known_blocks none in
    rw c.as_slice.ensures.value (c.in_ok-push_edges.ensures.known count c.requires.vars.known_edges blocks)

pub returns-clause-compact : goal.returns-clause-compact
returns-clause-compact c = λ compact.
    let light : IsLight c.as_slice.result.now = omega (arith, ap sizes c.as_slice.ensures.value, c.in_ok-push_edges.ensures.small, c.in_ok-push_blocks.ensures.small, ap sizes c.new-parts.ensures.items) in
    on_ok_weaker c.add_sum.result (λ is. compact-row c.args.into.now c.add_sum.new.into c.as_slice.result.now light is compact) c.add_sum.ensures.ok
