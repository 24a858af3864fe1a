use Rattle.std.proofs.Common.{◌≡◌, ◌∙◌, length, refl, ap, arith}
use Rattle.bound_trail.specs.Edges.{first_edges}
use Rattle.bound_trail.proofs.TrailLaws.{IsTrail-new, AreEdges-new}
use Rattle.bound_trail.proofs.trail.BoundTrail.new.Goals as goal

pub invariant_of-result : goal.invariant_of-result
invariant_of-result c =
    let system = c.args.system.now in
    let ok = c.rows-rows.ensures.well_formed in
    let ranges = c.in_ok-ranges.ranges.items in
    let told : ranges ≡ system.ranges = c.in_ok-ranges.ensures.ranges in
    let edges : c.in_ok-edges.edges.items ≡ first_edges ranges c.rows-rows.result = c.in_ok-edges.ensures ∙ ap (λ xs. first_edges xs c.rows-rows.result) c.as_slice.ensures.value in
    record {
      trail = rw (c.new.ensures.items, c.new-3.ensures.items, told, c.rows-rows.ensures.count) (IsTrail-new system.ranges (length system.rows) ok.ranges ok.few_vars ok.few_rows);
      edges = rw (c.new.ensures.items, edges) (AreEdges-new ranges c.rows-rows.result);
      links = rw (c.new.ensures.items, c.new-2.ensures.items) (record { one_each = refl; each = λ at h. absurd (omega arith) });
    }
