use Rattle.std.proofs.Common.{◌<◌, length, ap, subst, sym, arith, ℕ}
use Rattle.mix_system.specs.System.{System}
use Rattle.path_encoding.proofs.KnownLaws.{edge_known}
use Rattle.path_encoding.proofs.exit.add_fork.Goals as goal

pub add_branch-requires-clause-when_set : goal.add_branch-requires-clause-when_set
add_branch-requires-clause-when_set c =
    let vars = length c.args.into.now.ranges in
    let low : c.edge_to-one.result < vars = subst (λ (n : ℕ). n < vars) (sym c.edge_to-one.ensures) (edge_known vars c.args.sound.now c.args.spots.now c.args.leaving.at _ c.requires.known) in
    omega (arith, low, ap {A = System} (λ s. length s.ranges) c.in_ok-add_not_poison.ensures)

pub add_branch-requires-clause-when_clear : goal.add_branch-requires-clause-when_clear
add_branch-requires-clause-when_clear c =
    let vars = length c.args.into.now.ranges in
    let low : c.edge_to-zero.result < vars = subst (λ (n : ℕ). n < vars) (sym c.edge_to-zero.ensures) (edge_known vars c.args.sound.now c.args.spots.now c.args.leaving.at _ c.requires.known) in
    omega (arith, low, ap {A = System} (λ s. length s.ranges) c.in_ok-add_not_poison.ensures)
