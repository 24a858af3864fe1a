-- The laws of the piece of a shift by the width or more.
use Rattle.std.proofs.Common.{◌≡◌, ℕ, ◌+◌, ◌≤◌, Bool, true, false, nat_lt, ℤ, pos, List, [], ◌∷◌, length, refl, sym, ap, ◌∙◌, inl, arith}
use Rattle.std.specs.Prelude.{nat_le, unsigned_abs}
use Rattle.std.specs.Ordering.{int_eq}
use Rattle.std.proofs.lemmas.Bool.Decides.{nat_tests}
use Rattle.std.proofs.lemmas.Int.{ints}
use Rattle.mix_system.specs.Fits.{IsTrueAt}
use Rattle.mix_system.specs.Row.{number_at}
use Rattle.ll_tree.specs.declared.op.Flags.{Flags}
use Rattle.ir_meaning.specs.declared.value.Val.{Val}
use Rattle.ir_meaning.specs.declared.value.Val.TheVariants.{Poison, Num}
use Rattle.ir_meaning.specs.Value.{poison_if, on_numbers}
use Rattle.ir_meaning.specs.Rows.{bin_on}
use Rattle.wrap_rows.specs.declared.shift_out.ShiftKind.{ShiftKind}
use Rattle.wrap_rows.specs.declared.shift_out.ShiftKind.TheVariants.{Left, Right, SignedRight}
use Rattle.wrap_rows.specs.declared.shift_out.ShiftOut.{ShiftOut}
use Rattle.wrap_rows.specs.Layout.{Holds}
use Rattle.wrap_rows.specs.Vars.{value_at}
use Rattle.wrap_rows.specs.Piece.{put_from, AreIn}
use Rattle.wrap_rows.specs.ShiftOut.{kind_of, IsAt, vars, ranges, layout, numbers, meaning}
use Rattle.wrap_rows.proofs.CaseLaws.{only}
use Rattle.wrap_rows.proofs.BlockLaws.{each-said, all-true}
use Rattle.wrap_rows.proofs.PutLaws.{put-first, put-second}
use Rattle.wrap_rows.proofs.ReadLaws.{eq_yes}

far_fails : (k width : ℕ) → width ≤ k → nat_lt k width ≡ false
far_fails k width far = grind (arith, nat_tests)

far_passes : (k width : ℕ) → width ≤ k → nat_le width k ≡ true
far_passes k width far = grind (arith, nat_tests)

far_poison : (kind : ShiftKind) (flags : Flags) (width n k : ℕ) → width ≤ k → bin_on (kind_of kind) flags width n k ≡ Poison
far_poison Left flags width n k far = rw (far_fails k width far) refl
far_poison Right flags width n k far = rw (far_passes k width far) refl
far_poison SignedRight flags width n k far = rw (far_passes k width far) refl

always : (f : ℕ → ℕ → Val) (a : Val) (marked : Bool) (k : ℕ) → ((n : ℕ) → f n k ≡ Poison) → on_numbers f a (poison_if marked k) ≡ Poison
always f Poison marked k bad = refl
always f (Num n) true k bad = refl
always f (Num n) false k bad = bad n

pub sound : (shift : ShiftOut) (first : ℕ) (point : List ℤ) → IsAt shift first → AreIn first (ranges shift) point → Holds (layout shift first) point → value_at (vars shift first) point ≡ meaning shift point
sound shift first point is_at in_ranges holds =
    let each = each-said (IsTrueAt [] point) (layout shift first).clauses holds in
    let m = number_at point (first + 1) in
    let one : m ≡ pos 1 = omega (arith, ints, only each.1.0, in_ranges.1.0.1) in
    ap (λ test. poison_if test (unsigned_abs (number_at point first))) (eq_yes m (pos 1) one)
    ∙ sym (always (bin_on (kind_of shift.kind) shift.flags shift.width) (value_at shift.a point) (int_eq (number_at point shift.amount_mark) (pos 1)) shift.amount (λ n. far_poison shift.kind shift.flags shift.width n shift.amount is_at.far))

pub complete : (shift : ShiftOut) (first : ℕ) (point : List ℤ) → first + length (ranges shift) ≤ length point → AreIn first (ranges shift) (put_from first (numbers shift point) point) × Holds (layout shift first) (put_from first (numbers shift point) point)
complete shift first point within =
    let new = put_from first (numbers shift point) point in
    let x : number_at new first ≡ pos 0 = put-first first (pos 0) (pos 1 ∷ []) point (omega (arith, within)) in
    let m : number_at new (first + 1) ≡ pos 1 = put-second first (pos 0) (pos 1) [] point (omega (arith, within)) in (
      ((omega (arith, ints, x), omega (arith, ints, x)), ((omega (arith, ints, m), omega (arith, ints, m)), tt)),
      all-true (IsTrueAt [] new) (layout shift first).clauses (inl (omega (arith, ints, x)), (inl (omega (arith, ints, m)), tt)),
    )
