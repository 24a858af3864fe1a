-- Arguments in the ranges of their parameters.
use Rattle.std.proofs.Common.{◌≡◌, ◌<◌, ◌+◌, ◌≤◌, ℕ, List, length, map, Bool, true, false, not, ◌&&◌, ◌||◌, drop, get_or, set, refl, sym, ◌∙◌, ap, arith, below_more}
use Rattle.std.specs.Prelude.{zip}
use Rattle.std.specs.List.{list_any}
use Rattle.std.proofs.lemmas.List.{get_or-set_same, get_or-set_other, length-map}
use Rattle.ll_tree.specs.declared.func.Param.{Param}
use Rattle.ir_meaning.specs.declared.value.Val.{Val}
use Rattle.ir_meaning.specs.declared.value.Val.TheVariants.{Num, Poison}
use Rattle.ir_meaning.specs.Value.{poison_if}
use Rattle.ir_runs.specs.Values.{is_in_range}
use Rattle.ir_runs.specs.Walk.{is_barred}
use Rattle.ir_runner.specs.Start.{taken}
use Rattle.ir_runner.proofs.StartLaws.{barred_more, taken_here}
use Rattle.number_runner.proofs.StepLaws.{as_numbers}

module _ (params : List Param) (args : List ℕ) (count : length params ≡ length args) (at : ℕ) (param : Param) (within : at < length params) (is : param ≡ get_or params at param) (in_range : is_in_range param.range (get_or args at 0) ≡ true) where
  free : (strict : Bool) → (strict && not (is_in_range param.range (get_or args at 0))) ≡ false
  free true = ap not in_range
  free false = refl

  pub barred_later : list_any is_barred (drop (at + 1) (zip params args)) ≡ list_any is_barred (drop at (zip params args))
  barred_later = sym (barred_more params args count at param within is ∙ ap (λ (b : Bool). b || list_any is_barred (drop (at + 1) (zip params args))) (free param.strict))

  taken_is : get_or (taken params args) at Poison ≡ Num (get_or args at 0)
  taken_is = taken_here params args count at param within is ∙ ap (λ (b : Bool). poison_if (not b) (get_or args at 0)) in_range

  pub placed_more : (numbers : List ℕ) → length params ≤ length numbers → ((k : ℕ) → k < at → get_or (map Num numbers) k Poison ≡ get_or (taken params args) k Poison)
      → (k : ℕ) → k < at + 1 → get_or (map Num (set numbers at (get_or args at 0))) k Poison ≡ get_or (taken params args) k Poison
  placed_more numbers room placed k low =
      ap (λ (slots : List Val). get_or slots k Poison) (sym (as_numbers numbers at (get_or args at 0) (Num (get_or args at 0)) refl)) ∙ all k low
    where
      slots : List Val
      slots = map Num numbers

      here : get_or (set slots at (Num (get_or args at 0))) at Poison ≡ get_or (taken params args) at Poison
      here = get_or-set_same slots at (Num (get_or args at 0)) Poison (omega (arith, within, room, length-map numbers Num)) ∙ sym taken_is

      all : (k : ℕ) → k < at + 1 → get_or (set slots at (Num (get_or args at 0))) k Poison ≡ get_or (taken params args) k Poison
      all = below_more _ _ (λ j under. get_or-set_other slots at j (Num (get_or args at 0)) Poison (λ same. absurd (omega (arith, same, under))) ∙ placed j under) here
