use Rattle.std.proofs.Common.{◌≡◌, ◌<◌, ◌≤◌, ◌-◌, ◌^◌, ℕ, eqb, leb, false, ◌∙◌, sym, ◌⊎◌, true, inl, inr, arith}
use Rattle.std.proofs.Math.Pow.{pow_mono}
use Rattle.std.proofs.lemmas.Bool.Decides.{eqb_tells, leb_tells}
use Rattle.ll_rules.proofs.arithmetic.is_minus_one.Goals as goal

-- no number of 32 bits is -1 in more bits
too_wide : (number width : ℕ) → number < 2 ^ 32 → 32 < width → leb width 32 ≡ eqb number (2 ^ width - 1)
too_wide number width small wide =
    let far : 2 ^ 33 ≤ 2 ^ width = pow_mono {i = 33} {j = width} (omega arith) in
    fails (leb_tells width 32) ∙ elim (eqb_tells number (2 ^ width - 1)) [
      | inl same ↦ absurd (omega (arith, far, same.1, small))
      | inr other ↦ sym other.0
    ]
  where
    fails : ((leb width 32 ≡ true) × (width ≤ 32)) ⊎ ((leb width 32 ≡ false) × (32 < width)) → leb width 32 ≡ false
    fails (inl within) = absurd (omega (arith, within.1, wide))
    fails (inr beyond) = beyond.0

pub returns-else-width-le32 : goal.returns-else-width-le32
returns-else-width-le32 c = too_wide c.args.number c.args.width (omega arith) (omega arith)
