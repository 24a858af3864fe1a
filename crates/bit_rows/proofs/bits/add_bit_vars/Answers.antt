use Rattle.std.proofs.Common.{◌≡◌, zero, suc, ◌+◌, ◌-◌, ◌++◌, ◌∷◌, [], ℤ, pos, List, length, length-append, append_assoc, ap, sym, ◌∙◌, arith}
use Rattle.std.proofs.lemmas.List.{append-nil}
use Rattle.mix_system.specs.System.{System}
use Rattle.bit_rows.specs.Bits.{bit_ranges}
use Rattle.bit_rows.proofs.BitsLaws.{ranges_length}
use Rattle.bit_rows.proofs.bits.add_bit_vars.Goals as goal

pub add_var-requires-clause-room : goal.add_var-requires-clause-room
add_var-requires-clause-room c =
    let left = c.args.count - c.loop.counter in
    omega (
      arith,
      c.requires,
      ap {A = System} (λ s. length s.ranges) c.loop.invariant,
      length-append c.loop.into.ranges (bit_ranges left),
      length-append c.args.into.now.ranges (bit_ranges c.args.count),
      ranges_length left,
      ranges_length c.args.count,
    )

pub loop-preserved : goal.loop-preserved
loop-preserved c =
    let now = c.loop.into in
    let k = c.args.count - (c.loop.counter + 1) in
    let left : suc k ≡ c.args.count - c.loop.counter = omega arith in
    ap {A = System} (λ s. record s { ranges = s.ranges ++ bit_ranges k }) c.in_ok-add_var.ensures.ok
    ∙ ap (λ (ranges : List (ℤ × ℤ)). record now { ranges = ranges }) (append_assoc now.ranges ((pos 0, pos 1) ∷ []) (bit_ranges k))
    ∙ ap (λ j. record now { ranges = now.ranges ++ bit_ranges j }) left
    ∙ c.loop.invariant

pub returns : goal.returns
returns c =
    let now = c.loop.into in
    let none : zero ≡ c.args.count - c.loop.counter = omega arith in
    ap (λ (ranges : List (ℤ × ℤ)). record now { ranges = ranges }) (sym (append-nil now.ranges))
    ∙ ap (λ j. record now { ranges = now.ranges ++ bit_ranges j }) none
    ∙ c.loop.invariant
