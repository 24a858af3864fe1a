-- Slots that all hold numbers.
use Rattle.std.proofs.Common.{◌≡◌, ◌<◌, ◌+◌, ◌%◌, ◌^◌, ℕ, List, length, map, get_or, sym, ap, subst, ◌∙◌}
use Rattle.std.proofs.lemmas.List.{get_or-map, length-map}
use Rattle.ll_tree.specs.declared.op.BinKind.TheVariants as kind
use Rattle.ll_links.specs.declared.link.Source.TheVariants as source
use Rattle.ir_meaning.specs.declared.value.Val.{Val}
use Rattle.ir_meaning.specs.declared.value.Val.TheVariants.{Num, Poison}
use Rattle.ir_meaning.specs.Rows.{bin_of}
use Rattle.ir_runner.specs.declared.code.StepOp.TheVariants.{Bin}
use Rattle.ir_runner.specs.Slots.{op_result}
use Rattle.number_runner.specs.Steps.{no_flags, value}

pub low_of : (numbers : List ℕ) (at : ℕ) → at < length (map Num numbers) → at < length numbers
low_of numbers at low = subst (λ (n : ℕ). at < n) (length-map numbers Num) low

pub number_at : (numbers : List ℕ) (at number : ℕ) → at < length numbers → number ≡ get_or numbers at 0 → get_or (map Num numbers) at Poison ≡ Num number
number_at numbers at number low is = get_or-map Num numbers at 0 Poison low ∙ ap Num (sym is)

pub sum_is : (slots : List Val) (width left right a b : ℕ) → get_or slots left Poison ≡ Num a → get_or slots right Poison ≡ Num b
    → op_result slots (Bin kind.Add (record { flags = no_flags; width = width; left = value left; right = value right })) ≡ Num ((a + b) % 2 ^ width)
sum_is slots width left right a b is_a is_b = λ i. bin_of kind.Add no_flags width (is_a i) (is_b i)

pub sum_const_is : (slots : List Val) (width left number a : ℕ) → get_or slots left Poison ≡ Num a
    → op_result slots (Bin kind.Add (record { flags = no_flags; width = width; left = value left; right = source.Const number })) ≡ Num ((a + number) % 2 ^ width)
sum_const_is slots width left number a is_a = ap (λ (v : Val). bin_of kind.Add no_flags width v (Num number)) is_a
