-- Numbers that a switch has twice.
use Rattle.std.specs.Prelude.{ℕ, List, [], ◌∷◌, ◌++◌, map, Option, Some, None, Bool, ◌==◌, if◌then◌else◌}
use Rattle.std.specs.List.{list_any}
use Rattle.ll_tree.specs.declared.block.End.{End}
use Rattle.ll_tree.specs.declared.block.End.TheVariants as end
use Rattle.ll_rules.specs.Items.{Item, OfPhi, OfInstr, OfEnd}

abbrev pub has_number : List ℕ → ℕ → Bool
has_number numbers number = list_any (λ other. other == number) numbers

-- the first number that stands among those seen or before it
abbrev pub repeated_after : List ℕ → List ℕ → Option ℕ
repeated_after seen [] = None
repeated_after seen (number ∷ numbers) = if has_number seen number then Some number else repeated_after (seen ++ number ∷ []) numbers

-- the number whose second place comes first
abbrev pub repeated : List ℕ → Option ℕ
repeated numbers = repeated_after [] numbers

abbrev pub end_repeated : End → Option ℕ
end_repeated end.RetVoid = None
end_repeated (end.Ret width value) = None
end_repeated (end.Br to) = None
end_repeated (end.CondBr cond on_one on_zero) = None
end_repeated (end.Switch width value default cases) = repeated (map (λ case. case.value) cases)
end_repeated end.Unreachable = None

-- the number that a switch has twice, of several that whose second place comes first
abbrev pub repeated_case : Item → Option ℕ
repeated_case (OfPhi phi) = None
repeated_case (OfInstr instr) = None
repeated_case (OfEnd end) = end_repeated end
