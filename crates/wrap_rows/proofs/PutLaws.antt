-- Points with some numbers put in.
use Rattle.std.proofs.Common.{◌≡◌, ◌≢◌, ℕ, ◌+◌, ◌<◌, ℤ, pos, List, [], ◌∷◌, length, slice_set, refl, ◌∙◌, arith}
use Rattle.std.proofs.lemmas.List.{get_or-set_same, get_or-set_other}
use Rattle.std.proofs.Math.ListN.{length-set}
use Rattle.mix_system.specs.Row.{number_at}
use Rattle.wrap_rows.specs.Piece.{put_from}

pub set_here : (point : List ℤ) (var : ℕ) (number : ℤ) → var < length point → number_at (slice_set point var number) var ≡ number
set_here point var number within = get_or-set_same point var number (pos 0) within

pub set_other : (point : List ℤ) (var other : ℕ) (number : ℤ) → other ≢ var → number_at (slice_set point var number) other ≡ number_at point other
set_other point var other number apart = get_or-set_other point var other number (pos 0) apart

-- what stands before is kept
pub put-before : (first : ℕ) (numbers point : List ℤ) (var : ℕ) → var < first → number_at (put_from first numbers point) var ≡ number_at point var
put-before first [] point var before = refl
put-before first (number ∷ numbers) point var before =
    put-before (first + 1) numbers (slice_set point first number) var (omega arith)
    ∙ set_other point first var number (omega arith)

-- the first number stands at its place
pub put-first : (first : ℕ) (number : ℤ) (numbers point : List ℤ) → first < length point → number_at (put_from first (number ∷ numbers) point) first ≡ number
put-first first number numbers point within =
    put-before (first + 1) numbers (slice_set point first number) first (omega arith) ∙ set_here point first number within

-- and the second
pub put-second : (first : ℕ) (one two : ℤ) (numbers point : List ℤ) → first + 1 < length point → number_at (put_from first (one ∷ two ∷ numbers) point) (first + 1) ≡ two
put-second first one two numbers point within =
    put-first (first + 1) two numbers (slice_set point first one) (rw length-set within)
