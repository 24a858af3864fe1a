-- The steps of a substitution, as the code meets them.
use Rattle.std.proofs.Common.{◌≡◌, ℕ, ℤ, pos, ◌<ℤ◌, Result, sym, subst}
use Rattle.std.specs.Prelude.{IfErr}
use Rattle.std.proofs.lemmas.Result.{IfErr-weaker}
use Rattle.wx_num.specs.declared.excess.NumOp.TheVariants.{Minus}
use Rattle.wx_num.specs.declared.excess.Excess.{Excess}
use Rattle.tableau_rows.specs.declared.equation.Equation.{Equation}
use Rattle.tableau_rows.specs.Substitution.{IsFormed, turned, IsStep}

pub IsStep-same : (row pivot : Equation) (p q : ℤ) (entering : ℕ) (step named : Excess) → step ≡ named → IsStep row pivot p q entering named → IsStep row pivot p q entering step
IsStep-same row pivot p q entering step named e h = subst (IsStep row pivot p q entering) (sym e) h

pub IsStep-turned : {X : Type 0} (row pivot : Equation) (p q : ℤ) (entering : ℕ) (result : Result X Excess) (z number : ℤ) → number ≡ z → IsFormed row pivot p q entering z
    → IfErr result (λ excess. (p <ℤ pos 0) × (excess ≡ record { op = Minus; x = pos 0; y = number })) → IfErr result (IsStep row pivot p q entering)
IsStep-turned row pivot p q entering result z number e formed h =
    IfErr-weaker result (λ excess. (p <ℤ pos 0) × (excess ≡ record { op = Minus; x = pos 0; y = number })) (IsStep row pivot p q entering)
    (λ excess (below, is). IsStep-same row pivot p q entering excess _ is (turned number below (subst (IsFormed row pivot p q entering) (sym e) formed))) h

pub IsFormed-same : (row pivot : Equation) (p q : ℤ) (entering : ℕ) (number formed : ℤ) → number ≡ formed → IsFormed row pivot p q entering formed → IsFormed row pivot p q entering number
IsFormed-same row pivot p q entering number formed e h = subst (IsFormed row pivot p q entering) (sym e) h
