-- Three different labels, as the tests have them.
use Rattle.std.proofs.Common.{◌≡◌, ◌≢◌, ℕ, zero, suc, List, [], ◌∷◌, get_or, sym, ◌∙◌, ap, arith}
use Rattle.std.specs.List.{AllPairs}

pub three_differ : (first second third : List ℕ) → first ≢ second → first ≢ third → second ≢ third → AllPairs (λ label other. label ≢ other) (first ∷ second ∷ third ∷ [])
three_differ first second third a b c zero zero d below within = absurd (omega (arith, below))
three_differ first second third a b c zero (suc zero) d below within = a
three_differ first second third a b c zero (suc (suc zero)) d below within = b
three_differ first second third a b c zero (suc (suc (suc j))) d below within = absurd (omega (arith, within))
three_differ first second third a b c (suc zero) zero d below within = absurd (omega (arith, below))
three_differ first second third a b c (suc zero) (suc zero) d below within = absurd (omega (arith, below))
three_differ first second third a b c (suc zero) (suc (suc zero)) d below within = c
three_differ first second third a b c (suc zero) (suc (suc (suc j))) d below within = absurd (omega (arith, within))
three_differ first second third a b c (suc (suc i)) j d below within = absurd (omega (arith, below, within))

pub apart_by_first : (left right one two : List ℕ) → left ≡ one → right ≡ two → get_or one 0 0 ≢ get_or two 0 0 → left ≢ right
apart_by_first left right one two left_is right_is differ same = differ (ap (λ (xs : List ℕ). get_or xs 0 0) (sym left_is ∙ same ∙ right_is))
