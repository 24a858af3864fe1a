-- What the sums say once all literals were added, and that they are 0 again.
use Rattle.std.proofs.Common.{◌≡◌, ℕ, ℤ, pos, List, true, false, Bool, sym, ◌∙◌, ap, ⊎_elim, arith}
use Rattle.std.proofs.lemmas.Int.{ints}
use Rattle.mix_system.specs.declared.row.Part.{Part}
use Rattle.mix_system.specs.declared.farkas.FarkasPart.{FarkasPart}
use Rattle.mix_system.specs.Row.{number_at}
use Rattle.leaf_check.specs.declared.sums.Sums.{Sums}
use Rattle.leaf_check.specs.Sums.{IsClear, NamesAny, Changes, AddsAll, Settles}
use Rattle.leaf_check.specs.Combined.{Vanishes, HasRest}

module _ (rows : List (List Part)) (parts : List FarkasPart) (vars : ℕ) (old mid new : Sums) (were_zero : Bool) (clear : IsClear vars old)
    (changes : Changes (NamesAny rows parts) old.numbers.items mid.numbers.items) (settles : Settles (NamesAny rows parts) (λ _. ⊥) mid.numbers.items new.numbers.items were_zero) where
  pub clear_again : IsClear vars new
  clear_again = record {
    one_each = settles.one_each ∙ changes.one_each ∙ clear.one_each;
    all_zero = λ v.
        ⊎_elim (λ stays. ⊎_elim (λ same. same ∙ stays ∙ clear.all_zero v) (λ zero_new. zero_new) (settles.kept v))
        (λ named. ⊎_elim (λ zero_new. zero_new) (λ none. absurd none) (settles.cleared v named))
        (changes.others_stay v);
  }

  pub sums_vanish : AddsAll rows parts old.numbers.items mid.numbers.items → were_zero ≡ true → Vanishes rows parts
  sums_vanish adds zero_before v =
      let is_zero : number_at mid.numbers.items v ≡ pos 0 =
      ⊎_elim (λ stays. stays ∙ clear.all_zero v)
      (λ named. ⊎_elim (λ zero_new. ap (λ (ns : List ℤ). number_at ns v) (sym (settles.same zero_before)) ∙ zero_new) (λ none. absurd none) (settles.cleared v named))
      (changes.others_stay v) in
      omega (arith, ints, is_zero, adds v, clear.all_zero v)

  pub sums_rest : AddsAll rows parts old.numbers.items mid.numbers.items → were_zero ≡ false → HasRest rows parts
  sums_rest adds not_before =
      let found = settles.other not_before in
      (found.0, λ vanishes. found.1 (omega (arith, ints, vanishes, adds found.0, clear.all_zero found.0)))
