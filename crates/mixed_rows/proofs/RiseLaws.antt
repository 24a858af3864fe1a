-- Parts of which each variable is below all later ones.
use Rattle.std.proofs.Common.{List, [], ◌∷◌, ◌<◌, arith}
use Rattle.std.specs.List.{All, AllPairs}
use Rattle.std.proofs.lemmas.List.Kept.{AllPairs-cons}
use Rattle.mix_system.specs.declared.row.Part.{Part}

pub rise_none : AllPairs (λ (part : Part) later. part.var < later.var) []
rise_none i j d below within = absurd (omega (arith, within))

pub rise_more : (part : Part) (parts : List Part) → All (λ later. part.var < later.var) parts
    → AllPairs (λ one later. one.var < later.var) parts
    → AllPairs (λ one later. one.var < later.var) (part ∷ parts)
rise_more part parts first rest = AllPairs-cons (λ one later. one.var < later.var) part parts first rest
