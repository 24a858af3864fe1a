use Rattle.std.proofs.Common.{◌<◌, ℕ, length, subst, sym}
use Rattle.path_encoding.proofs.KnownLaws.{edge_known}
use Rattle.path_encoding.proofs.switch.add_case_at.Goals as goal

pub add_case-requires-clause-edge : goal.add_case-requires-clause-edge
add_case-requires-clause-edge c =
    let vars = length c.args.into.now.ranges in
    subst (λ (n : ℕ). n < vars) (sym c.edge_to-edge.ensures) (edge_known vars c.args.sound.now c.args.spots.now c.args.leaving.at c.args.target.0 c.requires.known)
