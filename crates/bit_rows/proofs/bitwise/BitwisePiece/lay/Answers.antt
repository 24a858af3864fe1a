use Rattle.std.proofs.Common.{◌≡◌, ◌+◌, length, ap, sym, subst, ◌∙◌, arith}
use Rattle.mix_system.specs.System.{System}
use Rattle.bit_rows.specs.Bitwise.{row_count, left_at}
use Rattle.bit_rows.specs.Bits.{StandBefore}
use Rattle.wrap_rows.proofs.RangedLaws.{on_ok}
use Rattle.bit_rows.proofs.LayingLaws.{lays, own_rows, ranges_count, stand_before}
use Rattle.bit_rows.proofs.bitwise.BitwisePiece.lay.Goals as goal

pub add_equation-requires-clause-known : goal.add_equation-requires-clause-known
add_equation-requires-clause-known c = omega (arith, c.requires.known, ranges_count c.args.self.now)

pub returns-in_err-add_equation-clause-own_rows : goal.returns-in_err-add_equation-clause-own_rows
returns-in_err-add_equation-clause-own_rows c = own_rows c.args.self.now c.args.first

pub add_equation-requires-2-clause-known : goal.add_equation-requires-2-clause-known
add_equation-requires-2-clause-known c =
    omega (arith, c.requires.known, ranges_count c.args.self.now, c.right_at-right.ensures, ap {A = System} (λ s. length s.ranges) c.in_ok-add_equation.ensures)

pub returns-in_err-add_equation-2-clause-own_rows : goal.returns-in_err-add_equation-2-clause-own_rows
returns-in_err-add_equation-2-clause-own_rows c = own_rows c.args.self.now c.args.first

pub add_bits_row-requires-clause-known : goal.add_bits_row-requires-clause-known
add_bits_row-requires-clause-known c =
    omega (
      arith,
      c.requires.known,
      ranges_count c.args.self.now,
      c.result_at-bits.ensures,
      ap {A = System} (λ s. length s.ranges) c.in_ok-add_equation.ensures,
      ap {A = System} (λ s. length s.ranges) c.in_ok-add_equation-2.ensures,
    )

pub returns-in_err-add_bits_row-clause-own_rows : goal.returns-in_err-add_bits_row-clause-own_rows
returns-in_err-add_bits_row-clause-own_rows c = own_rows c.args.self.now c.args.first

pub returns-in_err-add_excess-clause-own_rows : goal.returns-in_err-add_excess-clause-own_rows
returns-in_err-add_excess-clause-own_rows c = own_rows c.args.self.now c.args.first

pub add_bits-requires-clause-known : goal.add_bits-requires-clause-known
add_bits-requires-clause-known c =
    omega (
      arith,
      c.requires.known,
      ranges_count c.args.self.now,
      c.result_at-bits.ensures,
      ap {A = System} (λ s. length s.ranges) c.in_ok-add_equation.ensures,
      ap {A = System} (λ s. length s.ranges) c.in_ok-add_equation-2.ensures,
      ap {A = System} (λ s. length s.ranges) c.in_ok-add_bits_row.ensures,
      ap {A = System} (λ s. length s.ranges) c.in_ok-add_excess.ensures,
    )

pub add_bits-requires-clause-left : goal.add_bits-requires-clause-left
add_bits-requires-clause-left c =
    let bitwise = c.args.self.now in
    let same : length c.add_excess.new.into.ranges ≡ length c.args.into.now.ranges =
    ap {A = System} (λ s. length s.ranges) c.in_ok-add_excess.ensures
    ∙ ap {A = System} (λ s. length s.ranges) c.in_ok-add_bits_row.ensures
    ∙ ap {A = System} (λ s. length s.ranges) c.in_ok-add_equation-2.ensures
    ∙ ap {A = System} (λ s. length s.ranges) c.in_ok-add_equation.ensures in
    let vars = length c.add_excess.new.into.ranges in
    subst (StandBefore bitwise.width vars) (sym c.bits_at-a.ensures)
    (stand_before bitwise.a.literal bitwise.width (left_at c.args.first) vars (omega (arith, c.requires.known, ranges_count bitwise, same)) (omega (arith, c.requires.known, c.requires.at.constants, same)))

pub add_bits-requires-clause-right : goal.add_bits-requires-clause-right
add_bits-requires-clause-right c =
    let bitwise = c.args.self.now in
    let same : length c.add_excess.new.into.ranges ≡ length c.args.into.now.ranges =
    ap {A = System} (λ s. length s.ranges) c.in_ok-add_excess.ensures
    ∙ ap {A = System} (λ s. length s.ranges) c.in_ok-add_bits_row.ensures
    ∙ ap {A = System} (λ s. length s.ranges) c.in_ok-add_equation-2.ensures
    ∙ ap {A = System} (λ s. length s.ranges) c.in_ok-add_equation.ensures in
    let vars = length c.add_excess.new.into.ranges in
    subst (StandBefore bitwise.width vars) (sym c.bits_at-b.ensures)
    (stand_before bitwise.b.literal bitwise.width c.right_at-right.result vars (omega (arith, c.requires.known, ranges_count bitwise, c.right_at-right.ensures, same)) (omega (arith, c.requires.known, c.requires.at.constants, same)))

pub returns-in_err-add_bits-clause-own_rows : goal.returns-in_err-add_bits-clause-own_rows
returns-in_err-add_bits-clause-own_rows c = own_rows c.args.self.now c.args.first

pub returns-clause-ok : goal.returns-clause-ok
returns-clause-ok c =
    let bitwise = c.args.self.now in
    let row : c.rows-row.result + c.row_count.result + 1 ≡ length c.args.into.now.rows + (row_count bitwise.a.literal + row_count bitwise.b.literal + 1) =
    omega (arith, c.rows-row.ensures.count, c.row_count.ensures.value) in
    on_ok c.add_mark.result
    (lays bitwise c.args.first c.right_at-right.result c.result_at-bits.result (c.rows-row.result + c.row_count.result + 1) c.bits_at-a.result c.bits_at-b.result
    c.args.into.now c.add_equation.new.into c.add_equation-2.new.into c.add_bits_row.new.into c.add_excess.new.into c.add_bits.new.into c.add_mark.new.into
    c.right_at-right.ensures c.result_at-bits.ensures row c.bits_at-a.ensures c.bits_at-b.ensures
    c.in_ok-add_equation.ensures c.in_ok-add_equation-2.ensures c.in_ok-add_bits_row.ensures c.in_ok-add_excess.ensures c.in_ok-add_bits.ensures)
    c.add_mark.ensures

pub returns-clause-own_rows : goal.returns-clause-own_rows
returns-clause-own_rows c = own_rows c.args.self.now c.args.first
