-- What any piece names; all pieces at two points that have the same numbers there.
use Rattle.std.proofs.Common.{◌≡◌, ℕ, ◌<◌, ◌≤◌, ℤ, List, [], ◌∷◌, length, arith}
use Rattle.mix_system.specs.Row.{number_at}
use Rattle.ir_pieces.specs.declared.piece.IrPiece.{IrPiece}
use Rattle.ir_pieces.specs.declared.piece.IrPiece.TheVariants as kind
use Rattle.ir_pieces.specs.declared.list.Placed.{Placed}
use Rattle.ir_pieces.specs.Pieces.{ranges, layout}
use Rattle.ir_pieces.specs.Lists.{end_of, ArePlaced, AreInRanges, AllHold}
use Rattle.ir_pieces.proofs.ListLaws.{placed_end}
use Rattle.ir_pieces.proofs.SameLaws.{in-same}
use Rattle.piece_vars.specs.Named.{NamesOnly, Own}
use Rattle.piece_vars.specs.Reads.{Reads, AllRead}
use Rattle.piece_vars.proofs.HoldLaws.{holds-same}
use Rattle.piece_vars.proofs.NamedWraps as wraps
use Rattle.piece_vars.proofs.NamedOthers as others

module _ (Is : ℕ → Type 0) where
  pub named : (piece : IrPiece) (first : ℕ) → Own Is first (length (ranges piece)) → Reads Is piece → NamesOnly Is (layout piece first)
  named (kind.Zext piece) first own reads = wraps.zext-named Is piece first own reads
  named (kind.Sext piece) first own reads = wraps.sext-named Is piece first own reads
  named (kind.Trunc piece) first own reads = wraps.trunc-named Is piece first own reads
  named (kind.Select piece) first own reads = wraps.select-named Is piece first own reads
  named (kind.Ranged piece) first own reads = wraps.ranged-named Is piece first own reads
  named (kind.Sum piece) first own reads = wraps.sum-named Is piece first own reads
  named (kind.Scaled piece) first own reads = wraps.scaled-named Is piece first own reads
  named (kind.ShiftOut piece) first own reads = wraps.shift_out-named Is piece first own
  named (kind.ShiftRight piece) first own reads = wraps.shift_right-named Is piece first own reads
  named (kind.Compare piece) first own reads = wraps.compare-named Is piece first own reads
  named (kind.Phi piece) first own reads = wraps.phi-named Is piece first own reads
  named (kind.Bitwise piece) first own reads = others.bitwise-named Is piece first own reads
  named (kind.UnsignedDivision piece) first own reads = others.unsigned_division-named Is piece first own reads
  named (kind.SignedDivision piece) first own reads = others.signed_division-named Is piece first own reads
  named (kind.Abs piece) first own reads = others.abs-named Is piece first own reads
  named (kind.Extreme piece) first own reads = others.extreme-named Is piece first own reads

  module _ (point other : List ℤ) (same : (var : ℕ) → Is var → number_at other var ≡ number_at point var) where
    pub all_hold : (from to : ℕ) (placed : List Placed) → ArePlaced from to placed → ((var : ℕ) → from ≤ var → var < to → Is var) → AllRead Is placed → AllHold placed point → AllHold placed other
    all_hold from to [] are own reads hold = tt
    all_hold from to (it ∷ others) are own reads hold =
        let behind = placed_end (end_of it) to others are.2 in (
          holds-same Is point other same (layout it.piece it.first)
              (named it.piece it.first (λ var low high. own var (omega (arith, low, are.0)) (omega (arith, high, behind))) reads.0) hold.0,
          all_hold (end_of it) to others are.2 (λ var low high. own var (omega (arith, low, are.0)) high) reads.1 hold.1,
        )

    pub all_in : (from to : ℕ) (placed : List Placed) → ArePlaced from to placed → ((var : ℕ) → from ≤ var → var < to → Is var) → AreInRanges placed point → AreInRanges placed other
    all_in from to [] are own within = tt
    all_in from to (it ∷ others) are own within =
        let behind = placed_end (end_of it) to others are.2 in (
          in-same it.first (ranges it.piece) point other (λ var low high. same var (own var (omega (arith, low, are.0)) (omega (arith, high, behind)))) within.0,
          all_in (end_of it) to others are.2 (λ var low high. own var (omega (arith, low, are.0)) high) within.1,
        )
