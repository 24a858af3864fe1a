use Rattle.std.proofs.Common.{◌≡◌, ◌<◌, ◌+◌, ◌++◌, ◌∷◌, [], List, pos, length, get_or, drop, append_assoc, rules, ap, sym, subst, ◌∙◌, arith}
use Rattle.std.proofs.lemmas.List.{length-map}
use Rattle.ll_links.specs.Links.{block_id}
use Rattle.mix_system.specs.declared.row.Part.{Part}
use Rattle.wrap_rows.specs.Layout.{times}
use Rattle.wrap_rows.specs.Normal.{sizes}
use Rattle.portion_cuts.specs.Paths.{costs_at}
use Rattle.cost_rows.specs.Rows.{block_row}
use Rattle.cost_rows.proofs.PartLaws.{AreKnown, known_more, sizes_more, next_block}
use Rattle.cost_rows.proofs.parts.push_blocks.Goals as goal

pub loop-at-preserved : goal.loop-at-preserved
loop-at-preserved c =
    let costs = costs_at c.args.sound.now c.args.costs.now in
    let vars = c.args.vars.now in
    let at = c.loop-at.at in
    let items = c.loop-at.parts.items in
    let low : at < length vars = omega (arith, c.loop-at-test.true, c.requires.size, ap length c.order-at-end.ensures.order, length-map c.args.sound.now.flow.order block_id) in
    let pushed : c.push.new.self.items ≡ items ++ times (pos c.block_cost-cost.result) (get_or vars at 0) ∷ [] = search rules in
    record {
      whole = λ inside are.
          let rest = block_row costs inside (at + 1) (drop (at + 1) vars) in
          ap (λ (parts : List Part). parts ++ rest) pushed
          ∙ append_assoc items (times (pos c.block_cost-cost.result) (get_or vars at 0) ∷ []) rest
          ∙ ap (λ n. items ++ times (pos n) (get_or vars at 0) ∷ rest) (c.block_cost-cost.ensures inside are)
          ∙ sym (ap (λ (parts : List Part). items ++ parts) (next_block costs inside vars at low))
          ∙ c.loop-at.invariant.whole inside are;
      known = λ count within known. subst (AreKnown count) (sym pushed) (known_more count items (times (pos c.block_cost-cost.result) (get_or vars at 0)) (c.loop-at.invariant.known count within known) (within at 0 low));
      small = omega (arith, ap sizes pushed, sizes_more items (times (pos c.block_cost-cost.result) (get_or vars at 0)), c.loop-at.invariant.small);
    }
