use Rattle.std.proofs.Common.{◌∷◌, [], refl, arith}
use Rattle.cost_table.proofs.DifferentLaws.{three_differ, apart_by_first}
use Rattle.cost_table.proofs.tests.labels.Goals as goal

pub returns : goal.returns
returns c =
    three_differ (97 ∷ []) (98 ∷ []) (99 ∷ 32 ∷ 100 ∷ [])
    (apart_by_first (97 ∷ []) (98 ∷ []) (97 ∷ []) (98 ∷ []) refl refl (λ same. omega (arith, same)))
    (apart_by_first (97 ∷ []) (99 ∷ 32 ∷ 100 ∷ []) (97 ∷ []) (99 ∷ 32 ∷ 100 ∷ []) refl refl (λ same. omega (arith, same)))
    (apart_by_first (98 ∷ []) (99 ∷ 32 ∷ 100 ∷ []) (98 ∷ []) (99 ∷ 32 ∷ 100 ∷ []) refl refl (λ same. omega (arith, same)))
