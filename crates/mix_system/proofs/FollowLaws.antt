-- What follows by unit propagation is true.
use Rattle.std.proofs.Common.{◌≡◌, ◌⊎◌, ◌↔◌, ℕ, List, [], ◌∷◌, ◌++◌, map, Some, ℤ, subst, inl, inr, ⊎_elim}
use Rattle.std.specs.Prelude.{Any}
use Rattle.std.proofs.lemmas.List.Elements.{All-nil, All-cons, All-append, All-weaker}
use Rattle.mix_system.specs.declared.literal.Lit.{Lit}
use Rattle.mix_system.specs.declared.row.Part.{Part}
use Rattle.mix_system.specs.Lit.{negation}
use Rattle.mix_system.specs.Fits.{IsTrueAt}
use Rattle.mix_system.specs.Bounds.{IsIn, IsFalseIn, AreTrueAt}
use Rattle.mix_system.specs.Follows.{Known, LeavesNone, LeavesOne, Propagates, Follows}
use Rattle.mix_system.proofs.AnyLaws.{Any-here, Any-there, Any-append_cases, Any-cons_cases, Any-with_all}
use Rattle.mix_system.proofs.BoundLaws.{true_or_negation, not_true_from_IsFalseIn, IsIn-cons_cases, IsIn-there, IsIn-first}

-- two boxes say the same
abbrev pub SayTheSame : List Lit → List Lit → Type 0
SayTheSame box other = (lit : Lit) → IsIn box lit ↔ IsIn other lit

pub SayTheSame-cons : (bound : Lit) (box other : List Lit) → SayTheSame box other → SayTheSame (bound ∷ box) (bound ∷ other)
SayTheSame-cons bound box other same lit = (
  λ within. ⊎_elim (λ here. IsIn-first bound other lit here) (λ there. IsIn-there bound other lit ((same lit).0 there)) (IsIn-cons_cases bound box lit within),
  λ within. ⊎_elim (λ here. IsIn-first bound box lit here) (λ there. IsIn-there bound box lit ((same lit).1 there)) (IsIn-cons_cases bound other lit within),
)

module _ (box other : List Lit) (same : SayTheSame box other) where
  pub LeavesNone-same : (clause : List Lit) → LeavesNone box clause → LeavesNone other clause
  LeavesNone-same clause none = All-weaker (IsFalseIn box) (IsFalseIn other) (λ lit. (same (negation lit)).0) clause none

  pub LeavesOne-same : (clause : List Lit) (lit : Lit) → LeavesOne box clause lit → LeavesOne other clause lit
  LeavesOne-same clause lit one = record {
    before = one.before;
    after = one.after;
    split = one.split;
    before_false = LeavesNone-same one.before one.before_false;
    after_false = LeavesNone-same one.after one.after_false;
    left = λ false. one.left ((same (negation lit)).1 false);
  }

-- the order of bounds in the box, and what stands twice there, are free
pub Propagates-same : (known : Known) (box other : List Lit) (hints : List ℕ) → SayTheSame box other → Propagates known box hints → Propagates known other hints
Propagates-same known box other [] same p = p
Propagates-same known box other (hint ∷ []) same p = (p.0, p.1, LeavesNone-same box other same p.0 p.2)
Propagates-same known box other (hint ∷ next ∷ hints) same p =
    (p.0, p.1, p.2, LeavesOne-same box other same p.0 p.1 p.3, Propagates-same known (p.1 ∷ box) (p.1 ∷ other) (next ∷ hints) (SayTheSame-cons p.1 box other same) p.4)

-- more clauses may be known
pub Propagates-more_known : (known more : Known) → ((at : ℕ) (clause : List Lit) → known at ≡ Some clause → more at ≡ Some clause) → (box : List Lit) (hints : List ℕ) → Propagates known box hints → Propagates more box hints
Propagates-more_known known more grows box [] p = p
Propagates-more_known known more grows box (hint ∷ []) p = (p.0, grows hint p.0 p.1, p.2)
Propagates-more_known known more grows box (hint ∷ next ∷ hints) p =
    (p.0, p.1, grows hint p.0 p.2, p.3, Propagates-more_known known more grows (p.1 ∷ box) (next ∷ hints) p.4)

module _ (rows : List (List Part)) (point : List ℤ) where
  abbrev IsTrue : Lit → Type 0
  IsTrue lit = IsTrueAt rows point lit

  -- a clause all of whose literals are false has no true literal
  pub LeavesNone-not_true : (box clause : List Lit) → AreTrueAt rows point box → LeavesNone box clause → Any IsTrue clause → ⊥
  LeavesNone-not_true box clause all none any =
      let found = Any-with_all (IsFalseIn box) IsTrue clause none any in
      not_true_from_IsFalseIn rows point box found.0 all found.1 found.2

  -- the one literal that is left is the true one
  pub LeavesOne-true : (box clause : List Lit) (lit : Lit) → AreTrueAt rows point box → LeavesOne box clause lit → Any IsTrue clause → IsTrue lit
  LeavesOne-true box clause lit all one any =
      let split = subst (Any IsTrue) one.split any in
      let rest : Any IsTrue (lit ∷ one.after) → IsTrue lit = λ there. ⊎_elim (λ here. here) (λ after. absurd (LeavesNone-not_true box one.after all one.after_false after)) (Any-cons_cases IsTrue lit one.after there) in
      ⊎_elim (λ before. absurd (LeavesNone-not_true box one.before all one.before_false before)) rest (Any-append_cases IsTrue one.before (lit ∷ one.after) split)

  -- so what propagates to a clause with none left has no point
  pub Propagates-no_point : (known : Known) (box : List Lit) (hints : List ℕ) → ((at : ℕ) (clause : List Lit) → known at ≡ Some clause → Any IsTrue clause) → AreTrueAt rows point box → Propagates known box hints → ⊥
  Propagates-no_point known box [] truess all p = p
  Propagates-no_point known box (hint ∷ []) trues all p = LeavesNone-not_true box p.0 all p.2 (trues hint p.0 p.1)
  Propagates-no_point known box (hint ∷ next ∷ hints) trues all p =
      let lit = LeavesOne-true box p.0 p.1 all p.3 (trues hint p.0 p.2) in
      Propagates-no_point known (p.1 ∷ box) (next ∷ hints) trues (All-cons IsTrue p.1 box lit all) p.4

  -- a clause has a true literal, or the negations of all its literals are true
  pub true_or_negations : (clause : List Lit) → Any IsTrue clause ⊎ AreTrueAt rows point (map negation clause)
  true_or_negations [] = inr (All-nil IsTrue)
  true_or_negations (lit ∷ clause) =
      ⊎_elim (λ here. inl (Any-here IsTrue lit clause here))
      (λ not_here. ⊎_elim (λ there. inl (Any-there IsTrue lit clause there)) (λ none. inr (All-cons IsTrue (negation lit) (map negation clause) not_here none)) (true_or_negations clause))
      (true_or_negation rows point lit)

pub Follows-true : (rows : List (List Part)) (point : List ℤ) (clause : List Lit) (hints : List ℕ) (box : List Lit) (known : Known) → Follows clause hints box known → AreTrueAt rows point box → ((at : ℕ) (given : List Lit) → known at ≡ Some given → Any (IsTrueAt rows point) given) → Any (IsTrueAt rows point) clause
Follows-true rows point clause hints box known follows all trues =
    let lits = IsTrueAt rows point in
    ⊎_elim (λ yes. yes)
    (λ negations. absurd (Propagates-no_point rows point known (map negation clause ++ box) hints trues (All-append lits (map negation clause) box negations all) follows))
    (true_or_negations rows point clause)
