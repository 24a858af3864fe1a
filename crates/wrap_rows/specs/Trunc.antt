-- The piece of a truncation.
use Rattle.std.specs.Prelude.{ℕ, ◌+◌, ◌-◌, ◌/◌, ◌%◌, ◌^◌, ◌<◌, Bool, true, false, ◌||◌, if◌then◌else◌, ℤ, pos, neg_ℤ, unsigned_abs, List, [], ◌∷◌, ◌++◌}
use Rattle.mix_system.specs.declared.literal.Term.TheVariants.{Var}
use Rattle.mix_system.specs.declared.literal.Lit.{Lit}
use Rattle.mix_system.specs.declared.row.Part.{Part}
use Rattle.mix_system.specs.Row.{number_at}
use Rattle.ir_meaning.specs.declared.value.Val.{Val}
use Rattle.ir_meaning.specs.Whole.{IsWidth, signed}
use Rattle.ir_meaning.specs.Value.{on_number}
use Rattle.ir_meaning.specs.Rows.{trunc_of}
use Rattle.wrap_rows.specs.declared.vars.ValueVars.{ValueVars}
use Rattle.wrap_rows.specs.declared.trunc.Trunc.{Trunc}
use Rattle.wrap_rows.specs.Vars.{IsValue, is_marked, value_at}
use Rattle.wrap_rows.specs.Layout.{Layout, times, at_least}
use Rattle.wrap_rows.specs.Blocks.{equals, marks, sign_row, sign_clauses, sign_of}
use Rattle.wrap_rows.specs.Piece.{mark_of}
use Rattle.wrap_rows.specs.Wrapping.{exceeding, listed, bars}

-- the widths are right, and the operand's variables stand before
pub record IsAt (trunc : Trunc) (first : ℕ) : Type 0 where
  pub from : IsWidth trunc.from
  pub to : IsWidth trunc.to
  pub narrower : trunc.to < trunc.from
  pub number : trunc.a.number < first
  pub mark : trunc.a.mark < first

abbrev pub vars : Trunc → ℕ → ValueVars
vars trunc first = record { number = first; mark = first + 1 }

-- ---- what it lays

-- with `nsw` the sign of the operand stands before the carry
abbrev pub carry_var : (nsw : Bool) → ℕ → ℕ
carry_var nsw first = if nsw then (first + 1 + 1 + 1) else (first + 1 + 1)

abbrev pub helpers : (nsw : Bool) → Trunc → List (ℤ × ℤ)
helpers nsw trunc =
    if nsw then ((pos 0, pos 1) ∷ (pos 0, pos (2 ^ (trunc.from - trunc.to) - 1)) ∷ [])
    else ((pos 0, pos (2 ^ (trunc.from - trunc.to) - 1)) ∷ [])

-- number, mark, the sign with `nsw`, carry
abbrev pub ranges : Trunc → List (ℤ × ℤ)
ranges trunc = (pos 0, pos (2 ^ trunc.to - 1)) ∷ (pos 0, pos 1) ∷ helpers trunc.flags.nsw trunc

-- the operand less 2^to times the carry and the number
abbrev pub carry_row : Trunc → (first carry : ℕ) → List Part
carry_row trunc first carry =
    times (pos 1) trunc.a.number ∷ times (neg_ℤ (pos (2 ^ trunc.to))) carry ∷ times (neg_ℤ (pos 1)) first ∷ []

-- the operand's signed reading
abbrev pub signed_row : Trunc → ℕ → List Part
signed_row trunc sign = times (pos 1) trunc.a.number ∷ times (neg_ℤ (pos (2 ^ trunc.from))) sign ∷ []

abbrev pub literals : (nuw nsw : Bool) → Trunc → (carry row : ℕ) → List Lit
literals nuw nsw trunc carry row = listed nuw nsw (at_least (Var carry) (pos 1) ∷ []) (exceeding trunc.to row)

abbrev pub plain_layout : (nuw : Bool) → Trunc → ℕ → Layout
plain_layout nuw trunc first = record {
  rows = carry_row trunc first (first + 1 + 1) ∷ [];
  clauses =
      equals 0 (pos 0)
      ++ marks (first + 1) (trunc.a.mark ∷ []) (literals nuw false trunc (first + 1 + 1) 2);
}

-- with `nsw`
abbrev pub signed_layout : (nuw : Bool) → Trunc → ℕ → Layout
signed_layout nuw trunc first = record {
  rows =
      sign_row trunc.from trunc.a.number (first + 1 + 1)
      ∷ carry_row trunc first (first + 1 + 1 + 1)
      ∷ signed_row trunc (first + 1 + 1)
      ∷ [];
  clauses =
      sign_clauses trunc.from 0
      ++ (equals 1 (pos 0) ++ marks (first + 1) (trunc.a.mark ∷ []) (literals nuw true trunc (first + 1 + 1 + 1) 2));
}

abbrev pub layout_of : (nuw nsw : Bool) → Trunc → ℕ → Layout
layout_of nuw nsw trunc first = if nsw then signed_layout nuw trunc first else (plain_layout nuw trunc first)

abbrev pub layout : Trunc → ℕ → Layout
layout trunc first = layout_of trunc.flags.nuw trunc.flags.nsw trunc first

-- ---- what is filled in

abbrev pub number : Trunc → List ℤ → ℤ
number trunc point = pos (unsigned_abs (number_at point trunc.a.number) % 2 ^ trunc.to)

abbrev pub carry : Trunc → List ℤ → ℤ
carry trunc point = pos (unsigned_abs (number_at point trunc.a.number) / 2 ^ trunc.to)

abbrev pub barred : Trunc → List ℤ → Bool
barred trunc point =
    bars trunc.flags trunc.to (number_at point trunc.a.number)
    (signed trunc.from (unsigned_abs (number_at point trunc.a.number)))

abbrev pub helper_numbers : (nsw : Bool) → Trunc → List ℤ → List ℤ
helper_numbers nsw trunc point =
    if nsw then (sign_of trunc.from (number_at point trunc.a.number) ∷ carry trunc point ∷ [])
    else (carry trunc point ∷ [])

abbrev pub numbers : Trunc → List ℤ → List ℤ
numbers trunc point =
    number trunc point
    ∷ mark_of (is_marked trunc.a point || barred trunc point)
    ∷ helper_numbers trunc.flags.nsw trunc point

abbrev pub CanTake : Trunc → List ℤ → Type 0
CanTake trunc point = IsValue trunc.from trunc.a point

-- ---- what it means

abbrev pub meaning : Trunc → List ℤ → Val
meaning trunc point = on_number (trunc_of trunc.flags trunc.from trunc.to) (value_at trunc.a point)
