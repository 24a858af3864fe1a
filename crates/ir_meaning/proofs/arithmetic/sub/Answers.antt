use Rattle.std.proofs.Common.{◌≡◌, ◌∙◌, sym, ap, ℕ, ◌+◌, ◌-◌, ◌^◌, ◌≤◌, Bool, true, false, nat_lt, ℤ, ◌-ℤ◌, arith}
use Rattle.std.specs.Prelude.{unsigned_abs}
use Rattle.ll_tree.specs.declared.op.Flags.{Flags}
use Rattle.ir_meaning.specs.declared.value.Val.TheVariants.{Num}
use Rattle.ir_meaning.specs.Whole.{signed}
use Rattle.ir_meaning.specs.Rows.{is_barred}
use Rattle.ir_meaning.proofs.WrapLaws.{passed, passed-op, fits_difference, sub-is}
use Rattle.ir_meaning.proofs.arithmetic.sub.Goals as goal

-- the test of the code, said of the signed readings
barred : (flags : Flags) (width a b : ℕ) (x y : ℤ) (test : Bool) → unsigned_abs x ≤ 2 ^ 31 → unsigned_abs y ≤ 2 ^ 31 → x ≡ signed width a → y ≡ signed width b → test ≡ is_barred flags width (nat_lt a b) (passed (passed x -ℤ passed y)) → test ≡ is_barred flags width (nat_lt a b) (signed width a -ℤ signed width b)
barred flags width a b x y test small_x small_y left right is =
    is ∙ ap (λ t. is_barred flags width (nat_lt a b) t) (passed-op ◌-ℤ◌ x _ y _ small_x small_y (fits_difference x y small_x small_y) left right)

pub returns-then-is_barred : goal.returns-then-is_barred
returns-then-is_barred c =
    let x = c.signed.ensures in
    let y = c.signed-2.ensures in
    let test = barred c.args.flags.now c.args.width c.args.a c.args.b _ _ c.is_barred.result x.size y.size x.value y.value c.is_barred.ensures in
    sub-is c.args.flags.now c.args.width c.args.a c.args.b (c.args.a + 2 ^ c.args.width - c.args.b) true c.requires.left c.requires.right (sym c.if-is_barred.true ∙ test) (omega arith)

pub returns-else-is_barred : goal.returns-else-is_barred
returns-else-is_barred c =
    let x = c.signed.ensures in
    let y = c.signed-2.ensures in
    let test = barred c.args.flags.now c.args.width c.args.a c.args.b _ _ c.is_barred.result x.size y.size x.value y.value c.is_barred.ensures in
    ap Num c.low_bits.ensures
    ∙ sub-is c.args.flags.now c.args.width c.args.a c.args.b (c.from.result + c.power.result - c.from-else-is_barred.result) false c.requires.left c.requires.right (sym c.if-is_barred.false ∙ test) (omega arith)
