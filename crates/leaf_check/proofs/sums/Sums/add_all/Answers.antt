use Rattle.std.proofs.Common.{◌≡◌, ◌+◌, drop, FitsSigned, rules, to_z, of_z}
use Rattle.std.specs.Int.{w128}
use Rattle.std.proofs.lemmas.Int.{to_z-of_z}
use Rattle.mix_system.specs.FarkasSum.{parts_of}
use Rattle.leaf_check.specs.Sums.{Names, NamesAny}
use Rattle.leaf_check.proofs.AddLaws.{Changes_more, literals_first_term, literals_first_bound, literals_next, front_is, NamesAny_item}
use Rattle.leaf_check.proofs.StepLaws.{stay_as}
use Rattle.leaf_check.proofs.sums.Sums.add_all.Goals as goal

pub returns-in-Err-clause-excess : goal.returns-in-Err-clause-excess
returns-in-Err-clause-excess c =
    let parts = c.args.parts.now in
    let i = c.loop-part.part-index in
    let part = c.part-item.result in
    let here = rw (front_is parts i part c.loop-part-test.true c.part-item.is) at c.loop-part.invariant in
    literals_first_term c.args.system.now.rows parts (drop (i + 1) parts) part c.args.self.now.numbers.items c.loop-part.self.numbers.items (to_z w128 c.loop-part.constant-bits) here c.in-Err.excess c.in-Err.ensures.excess

pub returns-in-Err-clause-changes : goal.returns-in-Err-clause-changes
returns-in-Err-clause-changes c =
    let rows = c.args.system.now.rows in
    let parts = c.args.parts.now in
    let i = c.loop-part.part-index in
    let part = c.part-item.result in
    Changes_more (NamesAny rows parts) (Names (parts_of rows part.lit.term)) c.args.self.now.numbers.items c.loop-part.self.numbers.items c.add_term.new.self.numbers.items
    c.loop-part.invariant.changes c.add_term.ensures.changes (NamesAny_item rows parts i part c.loop-part-test.true c.part-item.is)

pub returns-in-Err-put_product-clause-excess : goal.returns-in-Err-put_product-clause-excess
returns-in-Err-put_product-clause-excess c =
    let parts = c.args.parts.now in
    let i = c.loop-part.part-index in
    let part = c.part-item.result in
    let by_fits : FitsSigned w128 part.by = search rules in
    let bound_fits : FitsSigned w128 part.lit.bound = search rules in
    let here = rw (front_is parts i part c.loop-part-test.true c.part-item.is) at c.loop-part.invariant in
    let first = simp to_z-of_z at c.in-Err-put_product.ensures.excess in
    literals_first_bound c.args.system.now.rows parts (drop (i + 1) parts) part c.args.self.now.numbers.items c.loop-part.self.numbers.items (to_z w128 c.loop-part.constant-bits) here
    c.in_default.ensures.stays c.in-Err-put_product.excess first

pub returns-in-Err-put_product-clause-changes : goal.returns-in-Err-put_product-clause-changes
returns-in-Err-put_product-clause-changes c =
    let rows = c.args.system.now.rows in
    let parts = c.args.parts.now in
    let i = c.loop-part.part-index in
    let part = c.part-item.result in
    Changes_more (NamesAny rows parts) (Names (parts_of rows part.lit.term)) c.args.self.now.numbers.items c.loop-part.self.numbers.items c.add_term.new.self.numbers.items
    c.loop-part.invariant.changes c.add_term.ensures.changes (NamesAny_item rows parts i part c.loop-part-test.true c.part-item.is)

pub loop-part-preserved : goal.loop-part-preserved
loop-part-preserved c =
    let rows = c.args.system.now.rows in
    let parts = c.args.parts.now in
    let i = c.loop-part.part-index in
    let part = c.part-item.result in
    let by_fits : FitsSigned w128 part.by = search rules in
    let bound_fits : FitsSigned w128 part.lit.bound = search rules in
    let sum_fits : FitsSigned w128 c.in-Ok.sum = search rules in
    let here = rw (front_is parts i part c.loop-part-test.true c.part-item.is) at c.loop-part.invariant in
    let value = simp to_z-of_z at c.in-Ok.ensures.value in
    let by_same : to_z w128 (of_z w128 part.by) ≡ part.by = simp to_z-of_z in
    let bound_same : to_z w128 (of_z w128 part.lit.bound) ≡ part.lit.bound = simp to_z-of_z in
    let stays = stay_as part.lit.side (to_z w128 c.loop-part.constant-bits) (to_z w128 (of_z w128 part.by)) part.by (to_z w128 (of_z w128 part.lit.bound)) part.lit.bound
    by_same bound_same c.in-Ok.ensures.stays in
    simp to_z-of_z (literals_next rows parts (drop (i + 1) parts) part c.args.self.now.numbers.items c.loop-part.self.numbers.items (to_z w128 c.loop-part.constant-bits) here
    c.add_term.new.self.numbers.items c.in-Ok.sum c.in_default.ensures.stays c.in_default.ensures.sums c.add_term.ensures.changes stays value
    (NamesAny_item rows parts i part c.loop-part-test.true c.part-item.is))
