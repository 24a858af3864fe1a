use Rattle.std.proofs.Common.{◌≡◌, ◌*◌, [], ◌∷◌, ◌++◌, length, pos, Some, None, All, FitsSigned, sym, ap, subst, ◌∙◌, rules, arith}
use Rattle.std.specs.Int.{w128}
use Rattle.std.proofs.lemmas.Int.{to_z-of_z}
use Rattle.std.proofs.lemmas.List.Elements.{All-nil}
use Rattle.std.proofs.lemmas.Option.{get_or_from_slice_get}
use Rattle.mix_system.specs.System.{Exists}
use Rattle.bounded_simplex.specs.StoredBounds.{AreEnds, AreReplaced, lits_of}
use Rattle.bounded_simplex.specs.declared.bounds.Change.{Change}
use Rattle.bounded_simplex.proofs.FirstBoundLaws.{pair_count, stand_more, stand_kept, none_kept, first_ends}
use Rattle.bounded_simplex.proofs.bounds.Bounds.new.Goals as goal

pub loop-var-preserved : goal.loop-var-preserved
loop-var-preserved c =
    let ranges = c.args.system.now.ranges in
    let range = c.range-low.result in
    let low_fits : FitsSigned w128 range.0 = search rules in
    let high_fits : FitsSigned w128 range.1 = search rules in
    let ends = c.loop-var.ends.items in
    let more = c.push_pair.new.ends.items in
    let is : more ≡ ends ++ Some range.0 ∷ Some range.1 ∷ [] = first_of (search rules, search (rules, to_z-of_z), grind (arith, to_z-of_z)) in
    let at = get_or_from_slice_get ranges c.loop-var.var range (pos 0, pos 0) c.range-low.ensures.range in
    record {
      count = pair_count ends more _ _ is ∙ omega (arith, c.loop-var.invariant.count);
      stand = stand_more ranges c.loop-var.var ends more range c.loop-var.invariant.count (sym at) is c.loop-var.invariant.stand;
    }

pub loop-row-preserved : goal.loop-row-preserved
loop-row-preserved c =
    let ranges = c.args.system.now.ranges in
    let ends = c.loop-row.ends.items in
    let more = c.push_pair-in-loop-row.new.ends.items in
    let is : more ≡ ends ++ None ∷ None ∷ [] = search rules in
    record {
      count = pair_count ends more None None is ∙ omega (arith, c.loop-row.invariant.count);
      stand = stand_kept ranges (length ranges) c.loop-row._row ends more c.loop-row.invariant.count is c.loop-row.invariant.stand;
      none = none_kept (2 * length ranges) ends more is c.loop-row.invariant.none;
    }

pub invariant_of-result : goal.invariant_of-result
invariant_of-result c =
    let s = c.args.system.now in
    let items = c.in_ok-changes.ensures.items in
    let ends = c.loop-row.ends.items in
    record {
      places = omega (arith, c.loop-row.invariant.count);
      ends = subst (λ cs. AreEnds (record { system = s; changes = lits_of cs; room = c.args.room }) ends) (sym items) (first_ends s c.args.room ends c.loop-row.invariant.stand c.loop-row.invariant.none);
      known = subst (λ cs. All (λ (change : Change). Exists (length s.ranges) (length s.rows) change.lit.term) cs) (sym items) (All-nil (λ (change : Change). Exists (length s.ranges) (length s.rows) change.lit.term));
      replaced = subst (AreReplaced s c.args.room) (sym items) (λ k d within. absurd (omega arith));
      within_room = omega (arith, ap length items);
      reserved = omega (arith, c.in_ok-changes.ensures.capacity);
      room_fits = omega arith;
    }
