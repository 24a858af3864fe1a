-- Arguments of the same widths have places of their own, in lexicographic order.
use Rattle.std.proofs.Common.{◌≡◌, ℕ, zero, suc, ◌+◌, ◌*◌, ◌^◌, ◌<◌, ◌≤◌, List, [], ◌∷◌, length, get_or, set, drop, sum, replicate, refl, sym, ◌∙◌, ap, subst, inl, inr, arith, lit<}
use Rattle.std.proofs.Math.Nat.{mul-le-mul_right}
use Rattle.std.proofs.lemmas.Nat.{pow-add, pow_pos, mul-add-lt, same_from_place}
use Rattle.std.proofs.lemmas.List.Sums.{sum_by-cons, sum_by-drop_more}
use Rattle.wx_base.specs.Args.{AreArguments, ComesBefore}
use Rattle.wcet_core.specs.Trial.{place}

-- two to the power of the bits is how many arguments there are
pow-sum-cons : (width : ℕ) (widths : List ℕ) → 2 ^ sum (width ∷ widths) ≡ 2 ^ width * 2 ^ sum widths
pow-sum-cons width widths = ap (λ n. 2 ^ n) (sum_by-cons (λ x. x) width widths) ∙ pow-add 2 width (sum widths)

pow-sum-drop : (widths : List ℕ) (i : ℕ) → i < length widths → 2 ^ sum (drop i widths) ≡ 2 ^ get_or widths i 0 * 2 ^ sum (drop (i + 1) widths)
pow-sum-drop widths i within = ap (λ n. 2 ^ n) (sum_by-drop_more (λ x. x) widths i 0 within) ∙ pow-add 2 (get_or widths i 0) (sum (drop (i + 1) widths))

pub place-below : (widths args : List ℕ) → AreArguments widths args → place widths args < 2 ^ sum widths
place-below [] [] are = lit< tt
place-below [] (arg ∷ args) are = absurd are
place-below (width ∷ widths) [] are = absurd are
place-below (width ∷ widths) (arg ∷ args) are =
    let bound : arg * 2 ^ sum widths + place widths args < 2 ^ sum widths * 2 ^ width = mul-add-lt arg (2 ^ sum widths) (place widths args) (2 ^ width) are.0 (place-below widths args are.1) in
    omega (arith, bound, pow-sum-cons width widths)

-- no two arguments have one place
pub place-injective : (widths args others : List ℕ) → AreArguments widths args → AreArguments widths others → place widths args ≡ place widths others → args ≡ others
place-injective [] [] [] are also same = refl
place-injective [] [] (other ∷ others) are also same = absurd also
place-injective [] (arg ∷ args) others are also same = absurd are
place-injective (width ∷ widths) [] others are also same = absurd are
place-injective (width ∷ widths) (arg ∷ args) [] are also same = absurd also
place-injective (width ∷ widths) (arg ∷ args) (other ∷ others) are also same =
    let parts = same_from_place arg (place widths args) other (place widths others) (2 ^ sum widths) (place-below widths args are.1) (place-below widths others also.1) same in
    let rest : args ≡ others = place-injective widths args others are.1 also.1 parts.1 in
    cc

-- a smaller digit weighs more than all that follow it
digit-lt : (arg other rest others scale : ℕ) → arg < other → rest < scale → arg * scale + rest < other * scale + others
digit-lt arg other rest others scale less below =
    let scaled : (arg + 1) * scale ≤ other * scale = mul-le-mul_right scale (omega arith) in
    omega (arith, scaled)

-- the places follow the order
pub place-ComesBefore : (widths others args : List ℕ) → AreArguments widths others → AreArguments widths args → ComesBefore others args → place widths others < place widths args
place-ComesBefore widths [] args are also before = absurd before
place-ComesBefore widths (other ∷ others) [] are also before = absurd before
place-ComesBefore [] (other ∷ others) (arg ∷ args) are also before = absurd are
place-ComesBefore (width ∷ widths) (other ∷ others) (arg ∷ args) are also before =
    elim before [
      | inl less ↦ digit-lt other arg (place widths others) (place widths args) (2 ^ sum widths) less (place-below widths others are.1)
      | inr later ↦
          let rest : place widths others < place widths args = place-ComesBefore widths others args are.1 also.1 later.1 in
          let scaled : other * 2 ^ sum widths ≡ arg * 2 ^ sum widths = ap (λ n. n * 2 ^ sum widths) later.0 in
          omega (arith, rest, scaled)
    ]

pub AreArguments-length : (widths args : List ℕ) → AreArguments widths args → length args ≡ length widths
AreArguments-length [] [] are = refl
AreArguments-length [] (arg ∷ args) are = absurd are
AreArguments-length (width ∷ widths) [] are = absurd are
AreArguments-length (width ∷ widths) (arg ∷ args) are = ap suc (AreArguments-length widths args are.1)

-- one argument written over by another
pub place-set : (widths args : List ℕ) (i arg : ℕ) → AreArguments widths args → i < length args
    → place widths (set args i arg) + get_or args i 0 * 2 ^ sum (drop (suc i) widths) ≡ place widths args + arg * 2 ^ sum (drop (suc i) widths)
place-set widths [] i arg are within = absurd (omega arith)
place-set [] (old ∷ args) i arg are within = absurd are
place-set (width ∷ widths) (old ∷ args) zero arg are within = omega arith
place-set (width ∷ widths) (old ∷ args) (suc i) arg are within =
    let rest = place-set widths args i arg are.1 (omega arith) in
    omega (arith, rest)

-- The arguments from the next place of the list on went back to the first, for one step of the one at `i`.
module _ (widths args : List ℕ) (i next number : ℕ) (are : AreArguments widths args) (after : next ≡ i + 1) (within : next ≤ length args)
    (carried : place widths args + 2 ^ sum (drop next widths) ≡ number) where
  -- that argument written over
  over : (arg : ℕ) → place widths (set args i arg) + get_or args i 0 * 2 ^ sum (drop next widths) ≡ place widths args + arg * 2 ^ sum (drop next widths)
  over arg =
      let is : suc i ≡ next = omega arith in
      subst (λ n. place widths (set args i arg) + get_or args i 0 * 2 ^ sum (drop n widths) ≡ place widths args + arg * 2 ^ sum (drop n widths)) is (place-set widths args i arg are (omega arith))

  -- raised by one, it makes the step
  pub place-raised : place widths (set args i (get_or args i 0 + 1)) ≡ number
  place-raised = omega (arith, over (get_or args i 0 + 1))

  -- at its last value it goes back to the first too, and the step is left to the one before it
  pub place-carried : get_or args i 0 + 1 ≡ 2 ^ get_or widths i 0 → place widths (set args i 0) + 2 ^ sum (drop i widths) ≡ number
  place-carried last =
      let inside : i < length widths = omega (arith, AreArguments-length widths args are) in
      let weight : 2 ^ sum (drop i widths) ≡ 2 ^ get_or widths i 0 * 2 ^ sum (drop next widths) = subst (λ n. 2 ^ sum (drop i widths) ≡ 2 ^ get_or widths i 0 * 2 ^ sum (drop n widths)) (sym after) (pow-sum-drop widths i inside) in
      let scaled : (get_or args i 0 + 1) * 2 ^ sum (drop next widths) ≡ 2 ^ get_or widths i 0 * 2 ^ sum (drop next widths) = ap (λ n. n * 2 ^ sum (drop next widths)) last in
      omega (arith, over 0, weight, scaled)

pub AreArguments-set : (widths args : List ℕ) (i arg : ℕ) → AreArguments widths args → arg < 2 ^ get_or widths i 0 → AreArguments widths (set args i arg)
AreArguments-set [] [] i arg are below = tt
AreArguments-set [] (old ∷ args) i arg are below = absurd are
AreArguments-set (width ∷ widths) [] i arg are below = absurd are
AreArguments-set (width ∷ widths) (old ∷ args) zero arg are below = (below, are.1)
AreArguments-set (width ∷ widths) (old ∷ args) (suc i) arg are below = (are.0, AreArguments-set widths args i arg are.1 below)

pub AreArguments-get_or : (widths args : List ℕ) (i : ℕ) → AreArguments widths args → get_or args i 0 < 2 ^ get_or widths i 0
AreArguments-get_or [] [] i are = lit< tt
AreArguments-get_or [] (arg ∷ args) i are = absurd are
AreArguments-get_or (width ∷ widths) [] i are = absurd are
AreArguments-get_or (width ∷ widths) (arg ∷ args) zero are = are.0
AreArguments-get_or (width ∷ widths) (arg ∷ args) (suc i) are = AreArguments-get_or widths args i are.1

-- the first arguments are zeros
pub AreArguments-zeros : (widths : List ℕ) → AreArguments widths (replicate (length widths) 0)
AreArguments-zeros [] = tt
AreArguments-zeros (width ∷ widths) = (pow_pos width, AreArguments-zeros widths)

pub place-zeros : (widths : List ℕ) → place widths (replicate (length widths) 0) ≡ 0
place-zeros [] = refl
place-zeros (width ∷ widths) = omega (arith, place-zeros widths)
