use Rattle.std.proofs.Common.{◌≡◌, ◌∷◌, ℤ, to_z, of_z, refl, subst}
use Rattle.std.specs.Int.{w128}
use Rattle.std.proofs.lemmas.Int.{to_z-of_z}
use Rattle.proof_term.specs.Refutes.{low_half, high_half}
use Rattle.open_levels.specs.Kept.{stage_of}
use Rattle.tree_check.specs.Boxes.{Stand}
use Rattle.proof_checker.specs.Place.{InTree}
use Rattle.proof_checker.proofs.KeptLaws.{var_slot, theory_moves}
use Rattle.proof_checker.proofs.nodes.halve.Goals as goal

pub split-requires : goal.split-requires
split-requires c =
    let at_fits = c.ranges.at in
    record {
      fits = simp to_z-of_z c.requires.fits;
      slot = var_slot c.args.base.now c.args.theory c.requires.theory.0 c.args.var c.requires.theory.1 c.requires.exists;
    }

pub returns : goal.returns
returns c = λ box boxes t.
    let at_fits = c.ranges.at in
    let same : to_z w128 (of_z w128 c.args.at) ≡ c.args.at = simp to_z-of_z in
    let more = (low_half c.args.var c.args.at ∷ box) ∷ (high_half c.args.var c.args.at ∷ box) ∷ boxes in
    let stand = subst (λ (at : ℤ). Stand t.before c.split.new.bounds c.split.new.self ((low_half c.args.var at ∷ box) ∷ (high_half c.args.var at ∷ box) ∷ boxes)) same
    (c.in_ok-split.ensures t.before box boxes t.stand) in (
      InTree (stage_of c.args.theory.levels) c.args.theory.clause more,
      (more, refl, theory_moves c.args.base.now c.args.theory c.split.new.bounds c.split.new.self (box ∷ boxes) more t stand),
      refl,
    )
