-- Pieces read no variable of a case.
use Rattle.std.proofs.Common.{ℕ, ◌<◌, ◌≤◌, ℤ, List, arith}
use Rattle.std.specs.Prelude.{All}
use Rattle.std.proofs.lemmas.List.Elements.{All-contains}
use Rattle.ll_verifier.specs.Sound.{SoundFunc}
use Rattle.ir_pieces.specs.declared.list.Placed.{Placed}
use Rattle.ir_pieces.specs.Lists.{ArePlaced, AreInRanges, AllHold}
use Rattle.path_encoding.specs.declared.spots.PathSpots.{PathSpots}
use Rattle.path_encoding.specs.Filled.{ChangesOnly}
use Rattle.piece_values.specs.Owners.{owners_of, ArePiecesOf}
use Rattle.piece_vars.specs.Reads.{AllRead}
use Rattle.piece_vars.specs.Cases.{IsNoCase, AreCasesApart}
use Rattle.piece_vars.proofs.OperandLaws.{all_read}
use Rattle.piece_vars.proofs.NamedLaws.{all_hold, all_in}

module _ (it : SoundFunc) (spots : PathSpots) (apart : AreCasesApart spots) where
  abbrev cases : List ℕ
  cases = spots.cases.items

  small_other : (var : ℕ) → var < 2 → IsNoCase spots var
  small_other var few there = let least : 2 ≤ var = All-contains (λ v. 2 ≤ v) cases var apart.numbers there in omega (arith, few, least)

  reads_other : (placed : List Placed) → ArePiecesOf it spots placed → AllRead (IsNoCase spots) placed
  reads_other placed are =
      all_read (IsNoCase spots) (small_other 0 (omega arith)) (small_other 1 (omega arith)) it spots apart.edges apart.values apart.constants (owners_of it) placed are

  module _ (placed : List Placed) (from to : ℕ) (are : ArePlaced from to placed) (below : All (λ var. var < from) cases) (point other : List ℤ) (changes : ChangesOnly cases point other) where
    own_other : (var : ℕ) → from ≤ var → var < to → IsNoCase spots var
    own_other var least most there = let low : var < from = All-contains (λ v. v < from) cases var below there in omega (arith, least, low)

    pub hold_still : ArePiecesOf it spots placed → AllHold placed point → AllHold placed other
    hold_still pieces hold = all_hold (IsNoCase spots) point other changes.kept from to placed are own_other (reads_other placed pieces) hold

    pub in_still : AreInRanges placed point → AreInRanges placed other
    in_still within = all_in (IsNoCase spots) point other changes.kept from to placed are own_other within
