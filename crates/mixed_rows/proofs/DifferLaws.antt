-- Literals that differ.
use Rattle.std.proofs.Common.{◌≢◌, List, [], ◌∷◌, arith}
use Rattle.std.specs.List.{All, AllPairs}
use Rattle.std.proofs.lemmas.List.Kept.{AllPairs-cons}
use Rattle.mix_system.specs.declared.literal.Lit.{Lit}

pub differ_none : AllPairs (λ (lit : Lit) later. lit ≢ later) []
differ_none i j d below within = absurd (omega (arith, within))

pub differ_more : (lit : Lit) (lits : List Lit) → All (λ later. lit ≢ later) lits
    → AllPairs (λ one later. one ≢ later) lits
    → AllPairs (λ one later. one ≢ later) (lit ∷ lits)
differ_more lit lits first rest = AllPairs-cons (λ one later. one ≢ later) lit lits first rest
