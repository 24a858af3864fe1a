-- What a parameter adds, with a range and without one.
use Rattle.std.proofs.Common.{◌≡◌, ◌≤◌, ◌<◌, ◌+◌, ◌-◌, ◌^◌, ℕ, ℤ, pos, List, [], ◌∷◌, ◌++◌, length, Option, Some, None, append_assoc, append-nil, length-append, refl, sym, ◌∙◌, ap, subst, arith}
use Rattle.std.specs.Option.{IfSome}
use Rattle.std.proofs.lemmas.List.Elements.{All-nil, All-cons}
use Rattle.mix_system.specs.System.{System}
use Rattle.ll_tree.specs.Formed.{FitsRange, IsFormedParam}
use Rattle.ll_tree.specs.declared.func.Param.{Param}
use Rattle.ll_tree.specs.declared.func.Range.{Range}
use Rattle.ir_meaning.specs.Whole.{IsWidth as IsWide}
use Rattle.wrap_rows.specs.declared.vars.ValueVars.{ValueVars}
use Rattle.wrap_rows.specs.Small.{IsNarrow, IsCompact}
use Rattle.wrap_rows.proofs.CompactLaws.{compact-declared}
use Rattle.wrap_rows.proofs.SmallLaws.{number_narrow}
use Rattle.ir_pieces.specs.declared.piece.IrPiece.{IrPiece}
use Rattle.ir_pieces.specs.declared.list.Placed.{Placed}
use Rattle.ir_pieces.specs.Pieces.{IsAt, ranges, vars}
use Rattle.ir_pieces.specs.Choice.{range_piece}
use Rattle.ir_pieces.specs.Lists.{ArePlaced}
use Rattle.ir_pieces.proofs.RangeLaws.{range_stands}
use Rattle.path_encoding.specs.Spots.{value_vars}
use Rattle.piece_list.specs.Params.{mark_ranges, param_ranges, param_mark, param_vars, placed_at, param_piece}

-- more variables
placed_up : (from less more : ℕ) (placed : List Placed) → less ≤ more → ArePlaced from less placed → ArePlaced from more placed
placed_up from less more [] le are = omega (arith, are, le)
placed_up from less more (one ∷ placed) le are = (are.0, are.1, placed_up (one.first + length (ranges one.piece)) less more placed le are.2)

-- What a parameter adds to a system and a list of pieces.
pub record IsAdded (param : Param) (vars : ValueVars) (old new : System) (list longer : List Placed) : Type 0 where
  pub vars_are : vars ≡ param_vars (length old.ranges) param
  pub grown : new ≡ record old { ranges = old.ranges ++ param_ranges param }
  pub placed : longer ≡ list ++ param_piece (length old.ranges) param
  pub stand : ArePlaced 0 (length old.ranges) list → ArePlaced 0 (length new.ranges) longer
  pub compact : IsCompact old → IsCompact new

module _ (param : Param) (formed : IsFormedParam param) (old mid : System) (number : ℕ) (is : number ≡ length old.ranges) (begun : mid ≡ record old { ranges = old.ranges ++ (pos 0, pos (2 ^ param.width - 1)) ∷ [] }) where
  begun_size : length mid.ranges ≡ length old.ranges + 1
  begun_size = ap (λ (s : System). length s.ranges) begun ∙ length-append old.ranges ((pos 0, pos (2 ^ param.width - 1)) ∷ [])

  begun_compact : IsCompact old → IsCompact mid
  begun_compact compact =
      let wide : IsWide param.width = record { least = formed.0.0; greatest = formed.0.1 } in
      let narrow = All-cons IsNarrow (pos 0, pos (2 ^ param.width - 1)) [] (number_narrow param.width wide) (All-nil IsNarrow) in
      subst IsCompact (sym begun) (compact-declared old ((pos 0, pos (2 ^ param.width - 1)) ∷ []) compact narrow)

  -- ---- without a range

  no_range : (range : Option Range) → range_piece range param.width number ≡ None → range ≡ None
  no_range None none = refl
  no_range (Some range) none = absurd (cc)

  pub added_none : (list : List Placed) → range_piece param.range param.width number ≡ None → IsAdded param (value_vars number 0) old mid list list
  added_none list none =
      let range = no_range param.range none in
      record {
        vars_are = λ i. value_vars (is i) (param_mark (is i) (sym range i));
        grown = begun ∙ (λ i. record old { ranges = old.ranges ++ (pos 0, pos (2 ^ param.width - 1)) ∷ mark_ranges (sym range i) });
        placed = sym (append-nil list) ∙ ap (λ (o : Option Range). list ++ placed_at (length old.ranges + 1) (range_piece o param.width (length old.ranges))) (sym range);
        stand = λ are. placed_up 0 (length old.ranges) (length mid.ranges) list (omega (arith, begun_size)) are;
        compact = begun_compact;
      }

  -- ---- with one

  module _ (piece : IrPiece) (some : range_piece param.range param.width number ≡ Some piece) where
    same_piece : (a b : IrPiece) → Some a ≡ Some b → a ≡ b
    same_piece a b same = cc

    of_vars : (range : Option Range) → range_piece range param.width number ≡ Some piece → vars piece (number + 1) ≡ value_vars number (param_mark number range)
    of_vars None found = absurd (cc)
    of_vars (Some range) found = ap (λ (p : IrPiece). vars p (number + 1)) (sym (same_piece _ piece found))

    of_ranges : (range : Option Range) → range_piece range param.width number ≡ Some piece → ranges piece ≡ mark_ranges range
    of_ranges None found = absurd (cc)
    of_ranges (Some range) found = ap ranges (sym (same_piece _ piece found))

    of_at : (range : Option Range) → FitsRange param.width range → range_piece range param.width number ≡ Some piece → IsAt piece (number + 1)
    of_at None fits found = absurd (cc)
    of_at (Some range) fits found = subst (λ (o : Option IrPiece). IfSome o (λ p. IsAt p (number + 1))) found (range_stands range param.width number (number + 1) formed.0 fits (omega arith))

    behind : length mid.ranges ≡ number + 1
    behind = omega (arith, begun_size, is)

    pub piece_at : IsAt piece (length mid.ranges)
    piece_at = subst (IsAt piece) (sym behind) (of_at param.range formed.1 some)

    pub piece_room : length old.ranges + 2 < 2 ^ 31 → length mid.ranges + length (ranges piece) < 2 ^ 31
    piece_room room = omega (arith, room, begun_size, ap length (of_ranges param.range some), mark_size param.range)
      where
        mark_size : (range : Option Range) → length (mark_ranges range) ≤ 1
        mark_size None = omega arith
        mark_size (Some range) = omega arith

    pub added_some : (new : System) (list longer : List Placed) (found : ValueVars) → found ≡ vars piece (length mid.ranges) → new ≡ record mid { ranges = mid.ranges ++ ranges piece } → longer ≡ list ++ record { first = length mid.ranges; piece = piece } ∷ []
        → (ArePlaced 0 (length mid.ranges) list → ArePlaced 0 (length new.ranges) longer) → (IsCompact mid → IsCompact new) → IsAdded param found old new list longer
    added_some new list longer found vars_are grown placed stand compact =
        let joined : (old.ranges ++ (pos 0, pos (2 ^ param.width - 1)) ∷ []) ++ ranges piece ≡ old.ranges ++ param_ranges param =
        append_assoc old.ranges ((pos 0, pos (2 ^ param.width - 1)) ∷ []) (ranges piece) ∙ ap (λ (list : List (ℤ × ℤ)). old.ranges ++ (pos 0, pos (2 ^ param.width - 1)) ∷ list) (of_ranges param.range some) in
        let at : param_piece number param ≡ record { first = number + 1; piece = piece } ∷ [] = ap (placed_at (number + 1)) some in
        record {
          vars_are = vars_are ∙ ap (vars piece) behind ∙ of_vars param.range some ∙ ap (λ (n : ℕ). param_vars n param) is;
          grown = grown ∙ (λ i. record (begun i) { ranges = (begun i).ranges ++ ranges piece }) ∙ (λ i. record old { ranges = joined i });
          placed = placed ∙ ap (λ (n : ℕ). list ++ record { first = n; piece = piece } ∷ []) behind ∙ ap (λ (pieces : List Placed). list ++ pieces) (sym at) ∙ ap (λ (n : ℕ). list ++ param_piece n param) is;
          stand = λ are. stand (placed_up 0 (length old.ranges) (length mid.ranges) list (omega (arith, begun_size)) are);
          compact = λ begun_so. compact (begun_compact begun_so);
        }
