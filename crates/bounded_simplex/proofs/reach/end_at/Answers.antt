use Rattle.std.proofs.Common.{◌≡◌, ℤ, pos, get_or, FitsSigned, refl, sym, ap, ◌∙◌, rules}
use Rattle.std.specs.Int.{w128}
use Rattle.std.proofs.lemmas.Int.{to_z-of_z}
use Rattle.std.proofs.lemmas.Option.{get_or_from_slice_get}
use Rattle.mix_system.specs.Bounds.{range_end}
use Rattle.bounded_simplex.specs.Lax.{end_of}
use Rattle.bounded_simplex.specs.Refutation.{hindering}
use Rattle.bounded_simplex.proofs.reach.end_at.Goals as goal

pub returns-in-Le-clause-end : goal.returns-in-Le-clause-end
returns-in-Le-clause-end c =
    let range = get_or_from_slice_get c.args.system.now.ranges c.args.part.var c.range-low.result (pos 0, pos 0) c.range-low.ensures.range in
    let fits : FitsSigned w128 c.range-low.result.1 = search rules in
    let coeff_fits : FitsSigned w128 c.args.part.coeff = search rules in
    let side = sym (simp to_z-of_z at c.hindering_side.ensures) ∙ c.in-Le.is in
    let end : c.range-low.result.1 ≡ end_of c.args.system.now.ranges c.args.upwards c.args.part = sym (ap (range_end (hindering c.args.upwards c.args.part.coeff)) range ∙ ap (λ s. range_end s c.range-low.result) side) in
    simp to_z-of_z end

pub returns-in-Ge-clause-end : goal.returns-in-Ge-clause-end
returns-in-Ge-clause-end c =
    let range = get_or_from_slice_get c.args.system.now.ranges c.args.part.var c.range-low.result (pos 0, pos 0) c.range-low.ensures.range in
    let fits : FitsSigned w128 c.range-low.result.0 = search rules in
    let coeff_fits : FitsSigned w128 c.args.part.coeff = search rules in
    let side = sym (simp to_z-of_z at c.hindering_side.ensures) ∙ c.in-Ge.is in
    let end : c.range-low.result.0 ≡ end_of c.args.system.now.ranges c.args.upwards c.args.part = sym (ap (range_end (hindering c.args.upwards c.args.part.coeff)) range ∙ ap (λ s. range_end s c.range-low.result) side) in
    simp to_z-of_z end

pub returns-in-Le-clause-range : goal.returns-in-Le-clause-range
returns-in-Le-clause-range c =
    rw (get_or_from_slice_get c.args.system.now.ranges c.args.part.var c.range-low.result (pos 0, pos 0) c.range-low.ensures.range) c.range-low.ensures.well_formed

pub returns-in-Ge-clause-range : goal.returns-in-Ge-clause-range
returns-in-Ge-clause-range c =
    rw (get_or_from_slice_get c.args.system.now.ranges c.args.part.var c.range-low.result (pos 0, pos 0) c.range-low.ensures.range) c.range-low.ensures.well_formed
