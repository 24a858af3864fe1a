use Rattle.std.proofs.Common.{[], ◌∷◌}
use Rattle.proof_term.proofs.RefutesLaws.{no_point}
use Rattle.proof_term.proofs.laws.refuted_boxes_are_empty.Goals as goal

pub returns : goal.returns
returns c = λ rows tree box point refutes is_true. (no_point rows point tree.nodes (box ∷ []) refutes).0 is_true
