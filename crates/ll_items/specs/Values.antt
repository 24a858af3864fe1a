-- Values as a function lends them.
use Rattle.std.specs.Prelude.{ℕ, List}
use Rattle.ll_items.specs.declared.values.ValueRef.{ValueRef}

-- a name and its width
abbrev pub value_of : ValueRef → List ℕ × ℕ
value_of value = (value.name.now, value.width)
