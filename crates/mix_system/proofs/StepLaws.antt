-- The two steps that a row's sum makes at each part, where the parts before it are added up.
use Rattle.std.proofs.Common.{◌≡◌, ℕ, ◌+◌, ◌<◌, List, ◌∷◌, ◌++◌, length, take, drop, get_or, ℤ, refl, sym, ap, ◌∙◌, inl, inr}
use Rattle.std.proofs.lemmas.List.{take-append-drop, drop_more}
use Rattle.wx_num.specs.declared.excess.NumOp.TheVariants.{Plus, Times}
use Rattle.mix_system.specs.declared.row.Part.{Part}
use Rattle.mix_system.specs.Row.{number_at, product_at, row_value, IsStepOf}

module _ (parts : List Part) (point : List ℤ) (i : ℕ) (d : Part) (within : i < length parts) where
  split_at_part : parts ≡ take i parts ++ get_or parts i d ∷ drop (i + 1) parts
  split_at_part = sym (take-append-drop i parts) ∙ ap (λ rest. take i parts ++ rest) (drop_more parts i d within)

  pub IsStepOf_product : IsStepOf parts point (record { op = Times; x = (get_or parts i d).coeff; y = number_at point (get_or parts i d).var })
  IsStepOf_product = record {
    before = take i parts;
    part = get_or parts i d;
    after = drop (i + 1) parts;
    split = split_at_part;
    numbers = inl refl;
  }

  pub IsStepOf_sum : IsStepOf parts point (record { op = Plus; x = row_value (take i parts) point; y = product_at point (get_or parts i d) })
  IsStepOf_sum = record {
    before = take i parts;
    part = get_or parts i d;
    after = drop (i + 1) parts;
    split = split_at_part;
    numbers = inr refl;
  }
