-- Which variables a piece and its operands have.
use Rattle.std.proofs.Common.{◌<◌, ◌≤◌, ◌+◌, ℕ, zero, suc, leb, eqb, Bool, List, [], ◌∷◌, length, get_or, map, Option, Some, arith}
use Rattle.std.specs.Prelude.{All}
use Rattle.std.specs.Option.{unwrap_or}
use Rattle.std.specs.Map.{lookup}
use Rattle.std.proofs.lemmas.Bool.{cond_both}
use Rattle.std.proofs.lemmas.Bool.Decides.{nat_tests}
use Rattle.std.proofs.lemmas.List.Elements.{All-head, All-tail}
use Rattle.ll_links.specs.declared.link.Source.{Source}
use Rattle.ll_links.specs.declared.link.Source.TheVariants as source
use Rattle.ir_pieces.specs.declared.piece.IrPiece.{IrPiece}
use Rattle.ir_pieces.specs.declared.piece.IrPiece.TheVariants as kind
use Rattle.ir_pieces.specs.Pieces.{IsAt, ranges, vars}
use Rattle.wrap_rows.specs.declared.vars.ValueVars.{ValueVars}
use Rattle.path_encoding.specs.declared.spots.ConstSpot.{ConstSpot}
use Rattle.path_encoding.specs.declared.spots.PathSpots.{PathSpots}
use Rattle.path_encoding.specs.Spots.{value_vars, constant_among, constant_var, source_vars}

abbrev pub Below : ℕ → ValueVars → Type 0
Below bound vars = (vars.number < bound) × (vars.mark < bound)

-- ---- operands

module _ (bound : ℕ) (some : 2 ≤ bound) where
  value_low : (values : List ValueVars) (at : ℕ) → All (Below bound) values → Below bound (get_or values at (value_vars 0 0))
  value_low [] at all = (omega (arith, some), omega (arith, some))
  value_low (vars ∷ values) zero all = All-head (Below bound) vars values all
  value_low (vars ∷ values) (suc at) all = value_low values at (All-tail (Below bound) vars values all)

  abbrev pair_of : ConstSpot → ℕ × ℕ
  pair_of spot = (spot.value, spot.var)

  found_low : (test : ℕ → Bool) (constants : List ConstSpot) → All (λ (spot : ConstSpot). spot.var < bound) constants → unwrap_or (lookup test (map pair_of constants)) 0 < bound
  found_low test [] all = omega (arith, some)
  found_low test (spot ∷ constants) all =
      cond_both (test spot.value) (Some spot.var) (lookup test (map pair_of constants)) (λ (found : Option ℕ). unwrap_or found 0 < bound)
      (λ _. All-head (λ (spot : ConstSpot). spot.var < bound) spot constants all)
      (λ _. found_low test constants (All-tail (λ (spot : ConstSpot). spot.var < bound) spot constants all))

  constant_low : (constants : List ConstSpot) (n : ℕ) → All (λ (spot : ConstSpot). spot.var < bound) constants → constant_var constants n < bound
  constant_low constants n all =
      cond_both (leb n 1) n (constant_among constants n) (λ (var : ℕ). var < bound)
      (λ few. (let low : n ≤ 1 = grind (arith, nat_tests) in omega (arith, some, low))) (λ _. found_low (λ value. eqb value n) constants all)

  pub source_low : (spots : PathSpots) (what : Source) → All (Below bound) spots.values.items → All (λ (spot : ConstSpot). spot.var < bound) spots.constants.items → Below bound (source_vars spots what)
  source_low spots (source.Value id) values constants = value_low spots.values.items id.0 values
  source_low spots (source.Const n) values constants = (constant_low spots.constants.items n constants, omega (arith, some))
  source_low spots source.Poison values constants = (omega (arith, some), omega (arith, some))

-- ---- the value of a piece

pub vars_low : (piece : IrPiece) (first : ℕ) → IsAt piece first → Below (first + length (ranges piece)) (vars piece first)
vars_low (kind.Zext piece) first at = (omega arith, omega arith)
vars_low (kind.Sext piece) first at = (omega arith, omega arith)
vars_low (kind.Trunc piece) first at = (omega arith, omega arith)
vars_low (kind.Select piece) first at = (omega arith, omega arith)
vars_low (kind.Ranged piece) first at = (omega (arith, at.number), omega arith)
vars_low (kind.Sum piece) first at = (omega arith, omega arith)
vars_low (kind.Scaled piece) first at = (omega arith, omega arith)
vars_low (kind.ShiftOut piece) first at = (omega arith, omega arith)
vars_low (kind.ShiftRight piece) first at = (omega arith, omega arith)
vars_low (kind.Compare piece) first at = (omega arith, omega arith)
vars_low (kind.Phi piece) first at = (omega arith, omega arith)
vars_low (kind.Bitwise piece) first at = (omega arith, omega arith)
vars_low (kind.UnsignedDivision piece) first at = (omega arith, omega arith)
vars_low (kind.SignedDivision piece) first at = (omega arith, omega arith)
vars_low (kind.Abs piece) first at = (omega arith, omega arith)
vars_low (kind.Extreme piece) first at = (omega arith, omega arith)
