-- How many cases stand before those of a block.
use Rattle.std.proofs.Common.{◌≡◌, ◌<◌, ◌≤◌, ◌+◌, ℕ, [], ◌∷◌, ◌++◌, length, drop, ◌∙◌, ap, arith}
use Rattle.std.specs.Prelude.{sum_by}
use Rattle.std.specs.List.{range_with_len}
use Rattle.std.proofs.lemmas.List.{length-drop}
use Rattle.std.proofs.lemmas.List.Sums.{sum_by_push, sum_by-take-le}
use Rattle.ll_verifier.specs.Sound.{SoundFunc}
use Rattle.path_encoding.specs.declared.spots.PathSpots.{PathSpots}
use Rattle.path_encoding.specs.Spots.{block_at, cases_of, cases_before, AreSpotsOf}
use Rattle.path_encoding.proofs.LayingLaws.{range_more, take_range}

abbrev pub cases_in : SoundFunc → ℕ → ℕ
cases_in it at = length (cases_of (block_at it at).end)

pub before_more : (it : SoundFunc) (at : ℕ) → cases_before it (at + 1) ≡ cases_before it at + cases_in it at
before_more it at =
    let same : 0 + at ≡ at = omega arith in
    ap (sum_by (cases_in it)) (range_more 0 at ∙ ap (λ (n : ℕ). range_with_len 0 at ++ n ∷ []) same) ∙ sum_by_push (cases_in it) (range_with_len 0 at) at

pub before_le : (it : SoundFunc) (at blocks : ℕ) → at ≤ blocks → cases_before it at ≤ cases_before it blocks
before_le it at blocks low =
    let part = sum_by-take-le (cases_in it) (range_with_len 0 blocks) at in
    let same = ap (sum_by (cases_in it)) (take_range 0 blocks at low) in
    omega (arith, part, same)

-- those of a block have variables
pub cases_few : (it : SoundFunc) (spots : PathSpots) → AreSpotsOf it spots → (at : ℕ) → at < length it.flow.order → cases_in it at ≤ length (drop (cases_before it at) spots.cases.items)
cases_few it spots are at low =
    omega (arith, before_more it at, before_le it (at + 1) (length it.flow.order) (omega (arith, low)), are.cases, length-drop (cases_before it at) spots.cases.items)

pub before_within : (it : SoundFunc) (spots : PathSpots) → AreSpotsOf it spots → (at : ℕ) → at ≤ length it.flow.order → cases_before it at ≤ length spots.cases.items
before_within it spots are at low = omega (arith, before_le it at (length it.flow.order) low, are.cases)
