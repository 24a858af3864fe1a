-- Numbers in their ranges, by parts of a list of ranges.
use Rattle.std.proofs.Common.{◌≡◌, ◌<◌, ◌+◌, ◌-◌, ◌^◌, ℕ, ℤ, pos, zero, suc, List, [], ◌∷◌, ◌++◌, length, get_or, map, Option, Some, None, sym, ◌∙◌, ap, subst, arith}
use Rattle.std.specs.Prelude.{flat_map}
use Rattle.std.specs.List.{range_with_len}
use Rattle.std.proofs.lemmas.Int.{ints}
use Rattle.std.proofs.lemmas.Nat.{pow_pos}
use Rattle.mix_system.specs.Row.{number_at}
use Rattle.mix_system.specs.Fits.{IsInRange}
use Rattle.ll_tree.specs.declared.func.Param.{Param}
use Rattle.ll_tree.specs.declared.func.Range.{Range}
use Rattle.wrap_rows.specs.Piece.{AreIn}
use Rattle.wrap_rows.specs.Vars.{IsNumber, IsMark}
use Rattle.ir_pieces.specs.declared.list.Placed.{Placed}
use Rattle.ir_pieces.specs.Pieces.{ranges}
use Rattle.ir_pieces.specs.Lists.{end_of, AreInRanges}
use Rattle.ir_pieces.specs.Choice.{range_piece}
use Rattle.path_encoding.specs.Spots.{value_vars}
use Rattle.piece_list.specs.Params.{mark_ranges, param_ranges, placed_at, param_piece, params_vars, params_pieces}
use Rattle.piece_list.specs.Pieces.{FollowOn, own_ranges}
use Rattle.system_points.specs.Places.{fixed_ranges}

abbrev pub Ranges : Type 0
Ranges = List (ℤ × ℤ)

abbrev pub none : ℤ × ℤ
none = (pos 0, pos 0)

module _ (point : List ℤ) where
  pub in_all : (first : ℕ) (list : Ranges) → ((k : ℕ) → k < length list → IsInRange (get_or list k none) (number_at point (first + k))) → AreIn first list point
  in_all first [] each = tt
  in_all first (range ∷ list) each =
      let start : first + 0 ≡ first = omega arith in (
        subst (λ (n : ℕ). IsInRange range (number_at point n)) start (each 0 (omega arith)),
        in_all (first + 1) list (λ k low. let next : first + suc k ≡ first + 1 + k = omega arith in subst (λ (n : ℕ). IsInRange (get_or list k none) (number_at point n)) next (each (suc k) (omega (arith, low)))),
      )

  -- ---- part by part

  pub in_parts : (first : ℕ) (xs ys : Ranges) → AreIn first (xs ++ ys) point → AreIn first xs point × AreIn (first + length xs) ys point
  in_parts first [] ys are = let start : first ≡ first + 0 = omega arith in (tt, subst (λ (n : ℕ). AreIn n ys point) start are)
  in_parts first (x ∷ xs) ys are =
      let next : first + 1 + length xs ≡ first + suc (length xs) = omega arith in
      let rest = in_parts (first + 1) xs ys are.1 in
      ((are.0, rest.0), subst (λ (n : ℕ). AreIn n ys point) next rest.1)

  -- ---- fixed numbers

  pub fixed_in : (first : ℕ) (numbers : List ℕ) → AreIn first (fixed_ranges numbers) point → (k : ℕ) → k < length numbers → number_at point (first + k) ≡ pos (get_or numbers k 0)
  fixed_in first [] are k low = absurd (omega (arith, low))
  fixed_in first (n ∷ numbers) are zero low = let start : first + 0 ≡ first = omega arith in ap (number_at point) start ∙ omega (arith, ints, are.0.0, are.0.1)
  fixed_in first (n ∷ numbers) are (suc k) low =
      let next : first + suc k ≡ first + 1 + k = omega arith in
      ap (number_at point) next ∙ fixed_in (first + 1) numbers are.1 k (omega (arith, low))

  -- ---- marks

  abbrev AreBits : (first from count : ℕ) → Type 0
  AreBits first from count = AreIn first (map (λ (k : ℕ). (pos 0, pos 1)) (range_with_len from count)) point

  pub bits_in : (first from count : ℕ) → AreBits first from count → (k : ℕ) → k < count → IsMark (number_at point (first + k))
  bits_in first from zero are k low = absurd (omega (arith, low))
  bits_in first from (suc count) are zero low = let start : first ≡ first + 0 = omega arith in subst (λ (n : ℕ). IsMark (number_at point n)) start are.0
  bits_in first from (suc count) are (suc k) low =
      let next : first + 1 + k ≡ first + suc k = omega arith in
      subst (λ (n : ℕ). IsMark (number_at point n)) next (bits_in (first + 1) (from + 1) count are.1 k (omega (arith, low)))

  -- ---- pieces one behind the other

  pub joined_in : (xs ys : List Placed) → AreInRanges xs point → AreInRanges ys point → AreInRanges (xs ++ ys) point
  joined_in [] ys one two = two
  joined_in (x ∷ xs) ys one two = (one.0, joined_in xs ys one.1 two)

  pub own_in : (from : ℕ) (own : List Placed) → FollowOn from own → AreIn from (own_ranges own) point → AreInRanges own point
  own_in from [] follow are = tt
  own_in from (one ∷ own) follow are =
      let parts = in_parts from (ranges one.piece) (own_ranges own) are in
      let next : from + length (ranges one.piece) ≡ end_of one = omega (arith, follow.0) in (
        subst (λ (n : ℕ). AreIn n (ranges one.piece) point) (sym follow.0) parts.0,
        own_in (end_of one) own follow.1 (subst (λ (n : ℕ). AreIn n (own_ranges own) point) next parts.1),
      )

  -- ---- parameters

  -- the number is one of the width, and the mark that of the piece
  abbrev pub AreParams : ℕ → List Param → Type 0
  AreParams first [] = Unit {0}
  AreParams first (param ∷ params) = IsNumber param.width (number_at point first) × AreParams (first + length (param_ranges param)) params

  is_number : (width first : ℕ) → IsInRange (pos 0, pos (2 ^ width - 1)) (number_at point first) → IsNumber width (number_at point first)
  is_number width first is = (is.0, omega (arith, ints, is.1, pow_pos width))

  mark_in : (width first : ℕ) (range : Option Range) → AreIn (first + 1) (mark_ranges range) point → AreInRanges (placed_at (first + 1) (range_piece range width first)) point
  mark_in width first None are = tt
  mark_in width first (Some range) are = (are, tt)

  pub params_in : (first : ℕ) (params : List Param) → AreIn first (flat_map param_ranges params) point → AreParams first params × AreInRanges (params_pieces first params) point
  params_in first [] are = (tt, tt)
  params_in first (param ∷ params) are =
      let parts = in_parts first (param_ranges param) (flat_map param_ranges params) are in
      let rest = params_in (first + length (param_ranges param)) params parts.1 in (
        (is_number param.width first parts.0.0, rest.0),
        joined_in (param_piece first param) (params_pieces (first + length (param_ranges param)) params) (mark_in param.width first param.range parts.0.1) rest.1,
      )

  -- by their places
  pub param_in : (first : ℕ) (params : List Param) → AreParams first params → (k : ℕ) (param : Param) → k < length params → IsNumber (get_or params k param).width (number_at point (get_or (params_vars first params) k (value_vars 0 0)).number)
  param_in first [] are k param low = absurd (omega (arith, low))
  param_in first (one ∷ params) are zero param low = are.0
  param_in first (one ∷ params) are (suc k) param low = param_in (first + length (param_ranges one)) params are.1 k param (omega (arith, low))
