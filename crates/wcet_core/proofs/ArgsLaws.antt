-- Arguments made of numbers and parameters.
use Rattle.std.proofs.Common.{◌≡◌, ◌<◌, ◌≤◌, ◌+◌, ◌^◌, ℕ, zero, suc, List, [], ◌∷◌, ◌++◌, length, take, map, get_or, refl, sym, ◌∙◌, ap, arith}
use Rattle.std.proofs.Math.Seq.{take-length}
use Rattle.std.proofs.lemmas.List.{map-append, take_more}
use Rattle.wx_base.specs.Args.{AreArguments}
use Rattle.wx_base.specs.declared.lists.Arg.{Arg}
use Rattle.ll_tree.specs.declared.func.Param.{Param}
use Rattle.wcet_core.specs.Worst.{numbers_of}

-- the number at a place fits the parameter there
pub fits_at : (params : List Param) (numbers : List ℕ) (at : ℕ) (param : Param) → AreArguments (map (λ param. param.width) params) numbers → at < length params
    → (at < length numbers) × (get_or numbers at 0 < 2 ^ (get_or params at param).width)
fits_at [] numbers at param are within = absurd (omega (arith, within))
fits_at (first ∷ params) [] at param are within = absurd are
fits_at (first ∷ params) (number ∷ numbers) zero param are within = (omega arith, are.0)
fits_at (first ∷ params) (number ∷ numbers) (suc at) param are within =
    let later = fits_at params numbers at param are.1 (omega (arith, within)) in
    (omega (arith, later.0), later.1)

same_count : (params : List Param) (numbers : List ℕ) → AreArguments (map (λ param. param.width) params) numbers → length numbers ≡ length params
same_count [] [] are = refl
same_count [] (number ∷ numbers) are = absurd are
same_count (param ∷ params) [] are = absurd are
same_count (param ∷ params) (number ∷ numbers) are = let later = same_count params numbers are.1 in omega (arith, later)

module _ (params : List Param) (numbers : List ℕ) (at : ℕ) (args : List Arg) where
  abbrev pub SoFar : ℕ → List Arg → Type 0
  SoFar at args = (numbers_of args ≡ take at numbers) × (map (λ arg. arg.width) args ≡ map (λ param. param.width) (take at params))

  pub one_more : (param : Param) (arg : Arg) (new : List Arg) → new ≡ args ++ arg ∷ [] → param ≡ get_or params at param → arg.width ≡ param.width → arg.value ≡ get_or numbers at 0
      → at < length params → at < length numbers → SoFar at args → SoFar (at + 1) new
  one_more param arg new is there wide value low within (are, widths) = rw is (
    map-append (λ (it : Arg). it.value) args (arg ∷ []) ∙ (λ i. are i ++ value i ∷ []) ∙ sym (take_more numbers at 0 within),
    map-append (λ (it : Arg). it.width) args (arg ∷ []) ∙ (λ i. widths i ++ wide i ∷ []) ∙ sym (map-append (λ (it : Param). it.width) (take at params) (param ∷ []))
        ∙ ap (map (λ (it : Param). it.width)) (ap (λ (it : Param). take at params ++ it ∷ []) there ∙ sym (take_more params at param low)),
  )

  pub all_numbers : AreArguments (map (λ param. param.width) params) numbers → length params ≤ at → at ≤ length params → numbers_of args ≡ take at numbers → numbers_of args ≡ numbers
  all_numbers are above below so =
      let count = same_count params numbers are in
      let end : at ≡ length numbers = omega (arith, above, below, count) in
      so ∙ ap (λ (n : ℕ). take n numbers) end ∙ take-length numbers
