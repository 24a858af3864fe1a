-- Lists of pieces are filled in one behind the other.
use Rattle.std.proofs.Common.{◌≡◌, ℕ, ◌+◌, ◌<◌, ◌≤◌, ◌⊎◌, ℤ, List, [], ◌∷◌, length, refl, ◌∙◌, inl, inr, arith}
use Rattle.mix_system.specs.Row.{number_at}
use Rattle.wrap_rows.specs.Layout.{Holds}
use Rattle.wrap_rows.specs.Piece.{put_from, AreIn}
use Rattle.wrap_rows.proofs.PutLaws.{put-before}
use Rattle.ir_pieces.specs.declared.list.Placed.{Placed}
use Rattle.ir_pieces.specs.Pieces.{IsAt, ranges, layout, CanFill, numbers}
use Rattle.ir_pieces.specs.Lists.{end_of, ArePlaced, IsFree, AreInRanges, AllHold, AllSay, AreSound, AgreeOutside, AreReady}
use Rattle.ir_pieces.proofs.PieceLaws.{bounded, numbers_fit, sound, complete}
use Rattle.ir_pieces.proofs.SameLaws.{put-behind, put-length, in-same, holds-same}
use Rattle.ir_pieces.proofs.ListLaws.{placed_end, before_free}

-- what all pieces of a list come to where one point was filled in to another
pub record IsFilled (placed : List Placed) (old new : List ℤ) : Type 0 where
  pub outside : AgreeOutside placed old new
  pub in_ranges : AreInRanges placed new
  pub complete : AllHold placed new

pub filled-none : (point : List ℤ) → IsFilled [] point point
filled-none point = record { outside = record { same_length = refl; kept = λ var free. refl }; in_ranges = tt; complete = tt }

-- a point with a piece's numbers put in
abbrev pub after : Placed → List ℤ → List ℤ
after it point = put_from it.first (numbers it.piece point) point

-- what isn't a piece's own is kept
after-kept : (it : Placed) (point : List ℤ) (var : ℕ) → (var < it.first) ⊎ (end_of it ≤ var) → number_at (after it point) var ≡ number_at point var
after-kept it point var either =
    elim either [
      | inl before ↦ put-before it.first (numbers it.piece point) point var before
      | inr behind ↦ put-behind it.first (numbers it.piece point) point var (omega (arith, behind, numbers_fit it.piece point))
    ]

-- a piece, then the others
pub filled-one : (it : Placed) (others : List Placed) (to : ℕ) (old new : List ℤ) → IsAt it.piece it.first → ArePlaced (end_of it) to others
    → AreIn it.first (ranges it.piece) (after it old) → Holds (layout it.piece it.first) (after it old)
    → IsFilled others (after it old) new → IsFilled (it ∷ others) old new
filled-one it others to old new at are in_ranges holds filled =
    let apart : (var : ℕ) → var < end_of it → number_at new var ≡ number_at (after it old) var =
    λ var below. filled.outside.kept var (before_free (end_of it) to var others are below) in
    record {
      outside = record {
        same_length = filled.outside.same_length ∙ put-length it.first (numbers it.piece old) old;
        kept = λ var free. filled.outside.kept var free.1 ∙ after-kept it old var free.0;
      };
      in_ranges = (in-same it.first (ranges it.piece) (after it old) new (λ var from below. apart var below) in_ranges, filled.in_ranges);
      complete = (holds-same (end_of it) (after it old) new apart (layout it.piece it.first) (bounded it.piece it.first at).named holds, filled.complete);
    }

-- ---- each piece finds its operands when its turn comes

abbrev pub FindAll : List Placed → List ℤ → Type 0
FindAll [] point = Unit {0}
FindAll (it ∷ others) point = CanFill it.piece point × FindAll others (after it point)

-- what is known isn't changed by what these pieces fill in
abbrev Lasts : (List ℤ → Type 0) → List Placed → Type 0
Lasts Known [] = Unit {0}
Lasts Known (it ∷ others) = ((point : List ℤ) → Known point → Known (after it point)) × Lasts Known others

-- the variables of a piece aren't those of the pieces behind it
lasts-in : (Known : List ℤ → Type 0) (first : ℕ) (mine : List (ℤ × ℤ)) (from to : ℕ) (placed : List Placed) → first + length mine ≤ from → ArePlaced from to placed → Lasts Known placed → Lasts (λ point. Known point × AreIn first mine point) placed
lasts-in Known first mine from to [] below are lasts = tt
lasts-in Known first mine from to (it ∷ others) below are lasts = (
  λ point known. (
    lasts.0 point known.0,
    in-same first mine point (after it point) (λ var here within. after-kept it point var (inl (omega (arith, within, below, are.0)))) known.1,
  ),
  lasts-in Known first mine (end_of it) to others (omega (arith, below, are.0)) are.2 lasts.1,
)

finds : (Known : List ℤ → Type 0) (from to : ℕ) (placed : List Placed) (point : List ℤ) → ArePlaced from to placed → to ≤ length point → Lasts Known placed → AreReady Known placed → Known point → FindAll placed point
finds Known from to [] point are room lasts ready known = tt
finds Known from to (it ∷ others) point are room lasts ready known =
    let mine = ready.0 point known in
    let within : end_of it ≤ length point = omega (arith, placed_end (end_of it) to others are.2, room) in
    let in_ranges = (complete it.piece it.first point are.1 mine within).0 in (
      mine,
      finds (λ other. Known other × AreIn it.first (ranges it.piece) other) (end_of it) to others (after it point) are.2
          (omega (arith, room, put-length it.first (numbers it.piece point) point))
          (lasts-in Known it.first (ranges it.piece) (end_of it) to others (omega arith) are.2 lasts.1) ready.1 (lasts.0 point known, in_ranges),
    )

-- what lies outside the pieces of a list lasts over each of them
outside-lasts : (all : List Placed) (old : List ℤ) (placed : List Placed) → ((var : ℕ) → IsFree var all → IsFree var placed) → Lasts (λ point. AgreeOutside all old point) placed
outside-lasts all old [] free = tt
outside-lasts all old (it ∷ others) free = (
  λ point known. record {
    same_length = put-length it.first (numbers it.piece point) point ∙ known.same_length;
    kept = λ var is. after-kept it point var (free var is).0 ∙ known.kept var is;
  },
  outside-lasts all old others (λ var is. (free var is).1),
)

pub find_all : (placed : List Placed) (point : List ℤ) → ArePlaced 0 (length point) placed → AreReady (AgreeOutside placed point) placed → FindAll placed point
find_all placed point are ready =
    finds (λ other. AgreeOutside placed point other) 0 (length point) placed point are (omega arith) (outside-lasts placed point placed (λ var is. is)) ready
    (record { same_length = refl; kept = λ var free. refl })

-- ---- where all hold, all are sound

pub all-sound : (placed : List Placed) (from to : ℕ) (point : List ℤ) → ArePlaced from to placed → AllSay placed point → AreInRanges placed point → AllHold placed point → AreSound placed point
all-sound [] from to point are say within hold = tt
all-sound (it ∷ others) from to point are say within hold =
    (sound it.piece it.first point are.1 say.0 within.0 hold.0, all-sound others (end_of it) to point are.2 say.1 within.1 hold.1)
