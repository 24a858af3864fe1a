-- What the closing clause of marks names.
use Rattle.std.proofs.Common.{◌≡◌, ℕ, ◌<◌, pos, List, ◌++◌, map, arith}
use Rattle.std.specs.Prelude.{All}
use Rattle.std.proofs.lemmas.Int.{ints}
use Rattle.std.proofs.lemmas.List.Elements.{All-cons, All-append, All-map}
use Rattle.mix_system.specs.declared.literal.Term.TheVariants.{Var}
use Rattle.mix_system.specs.declared.literal.Lit.{Lit}
use Rattle.mix_system.specs.System.{IsInner, Exists}
use Rattle.wrap_rows.specs.Layout.{at_most, at_least}
use Rattle.wrap_rows.specs.Blocks.{closing}

zero_inner : IsInner (pos 0)
zero_inner = record { above_least = omega (arith, ints); below_greatest = omega (arith, ints) }

one_inner : IsInner (pos 1)
one_inner = record { above_least = omega (arith, ints); below_greatest = omega (arith, ints) }

pub closing-known : (vars rows now_vars now_rows mark : ℕ) (operands : List ℕ) (listed lits : List Lit) → now_vars ≡ vars → now_rows ≡ rows → lits ≡ closing mark operands listed
    → mark < vars → All (λ operand. operand < vars) operands → All (λ lit. Exists vars rows lit.term) listed → All (λ lit. Exists now_vars now_rows lit.term) lits
closing-known vars rows now_vars now_rows mark operands listed lits same_vars same_rows is before known_operands known_listed =
    rw (is, same_vars, same_rows)
    (All-cons (λ lit. Exists vars rows lit.term) (at_most (Var mark) (pos 0)) (map (λ operand. at_least (Var operand) (pos 1)) operands ++ listed) before
    (All-append (λ lit. Exists vars rows lit.term) (map (λ operand. at_least (Var operand) (pos 1)) operands) listed
    (All-map (λ lit. Exists vars rows lit.term) (λ operand. at_least (Var operand) (pos 1)) operands known_operands) known_listed))

pub closing-inner : (mark : ℕ) (operands : List ℕ) (listed lits : List Lit) → lits ≡ closing mark operands listed → All (λ lit. IsInner lit.bound) listed → All (λ lit. IsInner lit.bound) lits
closing-inner mark operands listed lits is inner =
    rw is
    (All-cons (λ lit. IsInner lit.bound) (at_most (Var mark) (pos 0)) (map (λ operand. at_least (Var operand) (pos 1)) operands ++ listed) zero_inner
    (All-append (λ lit. IsInner lit.bound) (map (λ operand. at_least (Var operand) (pos 1)) operands) listed
    (All-map (λ lit. IsInner lit.bound) (λ operand. at_least (Var operand) (pos 1)) operands (λ k d within. one_inner)) inner))
