-- Variables that are put to the ends of their ranges, one after the other.
use Rattle.std.proofs.Common.{◌≡◌, ◌≢◌, ℕ, ◌+◌, ◌<◌, ◌≤◌, Bool, List, length, get_or, ℤ, pos, ◌≤ℤ◌, All, sym, ap, ◌∙◌, subst, ◌⊎◌, ⊎_elim, arith}
use Rattle.std.specs.Prelude.{set, AllPairs}
use Rattle.std.proofs.lemmas.Int.{ints}
use Rattle.std.proofs.lemmas.Bool.{cases_eq, cases_lt}
use Rattle.std.proofs.lemmas.List.{get_or-set_same, get_or-set_other, get_or_default}
use Rattle.mix_system.specs.Bounds.{range_end}
use Rattle.mix_system.specs.Fits.{IsInRange}
use Rattle.mix_system.specs.Row.{number_at}
use Rattle.mix_system.specs.declared.literal.Side.{Side}
use Rattle.mix_system.specs.declared.literal.Side.TheVariants.{Le, Ge}
use Rattle.mix_system.specs.declared.row.Part.{Part}
use Rattle.bounded_simplex.specs.Lax.{end_of}
use Rattle.bounded_simplex.specs.Refutation.{hindering}

end_in : (side : Side) (range : ℤ × ℤ) → range.0 ≤ℤ range.1 → IsInRange range (range_end side range)
end_in Le range ordered = (ordered, omega (arith, ints))
end_in Ge range ordered = (omega (arith, ints), ordered)

module _ (ranges : List (ℤ × ℤ)) (upwards : Bool) (values : List ℤ) (v : ℤ) where
  pub range_put : (part : Part) → part.var < length values → (get_or ranges part.var (pos 0, pos 0)).0 ≤ℤ (get_or ranges part.var (pos 0, pos 0)).1 → v ≡ end_of ranges upwards part
      → ((var : ℕ) → var < length ranges → IsInRange (get_or ranges var (pos 0, pos 0)) (number_at values var)) → (var : ℕ) → var < length ranges → IsInRange (get_or ranges var (pos 0, pos 0)) (number_at (set values part.var v) var)
  range_put part within ordered is before var inside =
      ⊎_elim (λ (same : var ≡ part.var).
      let value : number_at (set values part.var v) var ≡ end_of ranges upwards part = ap (number_at (set values part.var v)) same ∙ get_or-set_same values part.var v (pos 0) within ∙ is in
      rw (value, same) (end_in (hindering upwards part.coeff) (get_or ranges part.var (pos 0, pos 0)) ordered))
      (λ (other : var ≢ part.var). rw (get_or-set_other values part.var var v (pos 0) other) (before var inside)) (cases_eq var part.var)

  pub ends_put : (parts : List Part) (i : ℕ) (d : Part) → i < length parts → AllPairs (λ part later. part.var < later.var) parts → (get_or parts i d).var < length values → v ≡ end_of ranges upwards (get_or parts i d)
      → ((k : ℕ) (e : Part) → k < i → number_at values (get_or parts k e).var ≡ end_of ranges upwards (get_or parts k e))
      → (k : ℕ) (e : Part) → k < i + 1 → number_at (set values (get_or parts i d).var v) (get_or parts k e).var ≡ end_of ranges upwards (get_or parts k e)
  ends_put parts i d inside rising within is before k e below =
      ⊎_elim (λ (lt : k < i).
      let at_k : get_or parts k e ≡ get_or parts k d = get_or_default parts k e d (omega (arith, lt, inside)) in
      let less : (get_or parts k d).var < (get_or parts i d).var = rising k i d lt inside in
      get_or-set_other values (get_or parts i d).var (get_or parts k e).var v (pos 0) (λ same. absurd (omega (arith, less, same, ap (λ (x : Part). x.var) at_k))) ∙ before k e lt)
      (λ (le : i ≤ k).
      let same : k ≡ i = omega (arith, le, below) in
      let at_i : get_or parts k e ≡ get_or parts i d = ap (λ n. get_or parts n e) same ∙ get_or_default parts i e d inside in
      ap (λ (x : Part). number_at (set values (get_or parts i d).var v) x.var) at_i ∙ get_or-set_same values (get_or parts i d).var v (pos 0) within ∙ is ∙ ap (end_of ranges upwards) (sym at_i)) (cases_lt k i)
