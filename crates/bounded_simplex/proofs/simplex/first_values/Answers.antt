use Rattle.std.proofs.Common.{◌≡◌, ◌∷◌, [], ◌++◌, ℤ, pos, FitsSigned, sym, ap, rules}
use Rattle.std.specs.Int.{w128}
use Rattle.std.proofs.lemmas.Int.{to_z-of_z}
use Rattle.std.proofs.lemmas.Option.{get_or_from_slice_get}
use Rattle.mix_system.specs.System.{IsWellFormed}
use Rattle.bounded_simplex.proofs.EachLaws.{low_more}
use Rattle.bounded_simplex.proofs.MoveLaws.{low_in_range}
use Rattle.bounded_simplex.proofs.simplex.first_values.Goals as goal

pub loop-var-preserved : goal.loop-var-preserved
loop-var-preserved c =
    let values = c.loop-var.values.items in
    let low = c.range-low.result.0 in
    let fits : FitsSigned w128 low = search rules in
    let added : c.push.new.self.items ≡ values ++ low ∷ [] = first_of (search rules, search (rules, to_z-of_z)) in
    let here = ap (λ (r : ℤ × ℤ). r.0) (sym (get_or_from_slice_get c.args.system.now.ranges c.loop-var.var c.range-low.result (pos 0, pos 0) c.range-low.ensures.range)) in
    record {
      count = search rules;
      low = low_more c.args.system.now.ranges values c.push.new.self.items c.loop-var.var low c.loop-var.invariant.count added here c.loop-var.invariant.low;
    }

pub returns-clause-in_range : goal.returns-clause-in_range
returns-clause-in_range c =
    let formed : IsWellFormed c.args.system.now = search rules in
    low_in_range c.args.system.now c.loop-row.values.items formed c.loop-row.invariant.low
