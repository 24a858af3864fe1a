-- The third, fourth and fifth of the numbers that are put into a point.
use Rattle.std.proofs.Common.{◌≡◌, ℕ, ◌+◌, ◌<◌, ℤ, List, ◌∷◌, length, slice_set}
use Rattle.std.proofs.Math.ListN.{length-set}
use Rattle.mix_system.specs.Row.{number_at}
use Rattle.wrap_rows.specs.Piece.{put_from}
use Rattle.wrap_rows.proofs.PutLaws.{put-second}

pub put-third : (first : ℕ) (one two three : ℤ) (numbers point : List ℤ) → first + 1 + 1 < length point
    → number_at (put_from first (one ∷ two ∷ three ∷ numbers) point) (first + 1 + 1) ≡ three
put-third first one two three numbers point within =
    put-second (first + 1) two three numbers (slice_set point first one) (rw length-set within)

pub put-fourth : (first : ℕ) (one two three four : ℤ) (numbers point : List ℤ) → first + 1 + 1 + 1 < length point
    → number_at (put_from first (one ∷ two ∷ three ∷ four ∷ numbers) point) (first + 1 + 1 + 1) ≡ four
put-fourth first one two three four numbers point within =
    put-third (first + 1) two three four numbers (slice_set point first one) (rw length-set within)

pub put-fifth : (first : ℕ) (one two three four five : ℤ) (numbers point : List ℤ) → first + 1 + 1 + 1 + 1 < length point
    → number_at (put_from first (one ∷ two ∷ three ∷ four ∷ five ∷ numbers) point) (first + 1 + 1 + 1 + 1) ≡ five
put-fifth first one two three four five numbers point within =
    put-fourth (first + 1) two three four five numbers (slice_set point first one) (rw length-set within)
