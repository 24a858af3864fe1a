use Rattle.std.proofs.Common.{◌+◌, ◌%◌, ◌∙◌, min, max, ap, arith}
use Rattle.ir_meaning.specs.declared.value.Val.TheVariants.{Num}
use Rattle.ir_meaning.proofs.BitLaws.{and-by_bits, or-is, xor-by_bits, by_bits-below, FitsWidth-poison_if}
use Rattle.ir_meaning.proofs.operations.bin.Goals as goal

pub returns-in-And : goal.returns-in-And
returns-in-And c =
    let a = c.in-Num-Num.a in
    let b = c.in-Num-Num.b in
    let left = rw c.in-Num-Num.is-0 at c.requires.left in
    let right = rw c.in-Num-Num.is-1 at c.requires.right in
    let is = and-by_bits c.args.width a b left right in
    record {
      value = rw (c.in-And.is, c.in-Num-Num.is-0, c.in-Num-Num.is-1) (ap Num is);
      fits = rw is (by_bits-below min (λ x y small_x small_y. omega arith) c.args.width a b);
    }

pub returns-in-Or : goal.returns-in-Or
returns-in-Or c =
    let a = c.in-Num-Num.a in
    let b = c.in-Num-Num.b in
    let left = rw c.in-Num-Num.is-0 at c.requires.left in
    let right = rw c.in-Num-Num.is-1 at c.requires.right in
    let is = c.or.ensures ∙ or-is c.args.flags.now c.args.width a b left right in
    record {
      value = rw (c.in-Or.is, c.in-Num-Num.is-0, c.in-Num-Num.is-1) is;
      fits = rw is (FitsWidth-poison_if c.args.width _ _ (by_bits-below max (λ x y small_x small_y. omega arith) c.args.width a b));
    }

pub returns-in-Xor : goal.returns-in-Xor
returns-in-Xor c =
    let a = c.in-Num-Num.a in
    let b = c.in-Num-Num.b in
    let left = rw c.in-Num-Num.is-0 at c.requires.left in
    let right = rw c.in-Num-Num.is-1 at c.requires.right in
    let is = xor-by_bits c.args.width a b left right in
    record {
      value = rw (c.in-Xor.is, c.in-Num-Num.is-0, c.in-Num-Num.is-1) (ap Num is);
      fits = rw is (by_bits-below (λ x y. (x + y) % 2) (λ x y small_x small_y. omega arith) c.args.width a b);
    }
