-- A turn of the loops over a list of pieces.
use Rattle.std.proofs.Common.{◌≡◌, ℕ, ◌+◌, ◌<◌, ◌≤◌, ◌^◌, ℤ, List, [], ◌∷◌, ◌++◌, length, length-append, map, drop, get_or, sym, ap, ◌∙◌, subst, arith}
use Rattle.std.proofs.lemmas.List.{length-map, drop_more}
use Rattle.mix_system.specs.System.{System}
use Rattle.wrap_rows.specs.Normal.{row_of}
use Rattle.wrap_rows.specs.Layout.{Holds, raised, clause_from}
use Rattle.wrap_rows.specs.Piece.{Lays, AreIn}
use Rattle.ir_pieces.specs.declared.list.Placed.{Placed}
use Rattle.ir_pieces.specs.Pieces.{IsAt, ranges, layout}
use Rattle.ir_pieces.specs.Lists.{end_of, ArePlaced, joined}
use Rattle.ir_pieces.proofs.ListLaws.{placed_from, placed_end, placed_more, lays-behind}
use Rattle.ir_pieces.proofs.FillLaws.{IsFilled, FindAll, after, filled-one}

-- the first of the pieces that are left
pub head : (placed : List Placed) (i : ℕ) (it : Placed) → i < length placed → it ≡ get_or placed i it → drop i placed ≡ it ∷ drop (i + 1) placed
head placed i it within is = drop_more placed i it within ∙ ap (λ (one : Placed). one ∷ drop (i + 1) placed) (sym is)

module _ (left rest : List Placed) (it : Placed) (is : left ≡ it ∷ rest) where
  -- ---- where it stands

  pub places_now : (to : ℕ) → ArePlaced 0 to left → ArePlaced 0 to (it ∷ rest)
  places_now to are = subst (ArePlaced 0 to) is are

  pub known_now : (to : ℕ) → ArePlaced 0 to left → end_of it ≤ to
  known_now to are = placed_end (end_of it) to rest (places_now to are).2

  pub places_next : (to next : ℕ) → to ≡ next → ArePlaced 0 to left → ArePlaced 0 next rest
  places_next to next same are = subst (λ n. ArePlaced 0 n rest) same (placed_from (end_of it) to rest (places_now to are).2)

  -- ---- filling it in

  pub able_next : (point next : List ℤ) → next ≡ after it point → FindAll left point → FindAll rest next
  able_next point next same able = subst (FindAll rest) (sym same) (subst (λ l. FindAll l point) is able).1

  pub filled_now : (to : ℕ) (point next new : List ℤ) → next ≡ after it point → ArePlaced 0 to left → AreIn it.first (ranges it.piece) next → Holds (layout it.piece it.first) next → IsFilled rest next new → IsFilled left point new
  filled_now to point next new same are within holds filled =
      subst (λ l. IsFilled l point new) (sym is)
      (filled-one it rest to point new (places_now to are).1 (places_now to are).2 (subst (AreIn it.first (ranges it.piece)) same within) (subst (Holds (layout it.piece it.first)) same holds) (subst (λ p. IsFilled rest p new) same filled))

  -- ---- laying it

  pub laid_now : (old next new : System) → Lays (layout it.piece it.first) old next → Lays (joined rest) next new → Lays (joined left) old new
  laid_now old next new lays later =
      subst (λ l. Lays (joined l) old new) (sym is) (lays-behind (layout it.piece it.first) (joined rest) old next new lays later)

  pub rows_next : (old next : System) → Lays (layout it.piece it.first) old next → length old.rows + length (joined left).rows < 2 ^ 31 → length next.rows + length (joined rest).rows < 2 ^ 31
  rows_next old next lays room =
      let one = layout it.piece it.first in
      omega (
        arith,
        subst (λ l. length old.rows + length (joined l).rows < 2 ^ 31) is room,
        length-append one.rows (joined rest).rows,
        ap {A = System} (λ s. length s.rows) lays,
        length-append old.rows (map row_of one.rows),
        length-map one.rows row_of,
      )

  pub clauses_next : (old next : System) → Lays (layout it.piece it.first) old next → length old.clauses + length (joined left).clauses < 2 ^ 31 → length next.clauses + length (joined rest).clauses < 2 ^ 31
  clauses_next old next lays room =
      let one = layout it.piece it.first in
      let later = map (map (raised (length one.rows))) (joined rest).clauses in
      omega (
        arith,
        subst (λ l. length old.clauses + length (joined l).clauses < 2 ^ 31) is room,
        length-append one.clauses later,
        length-map (joined rest).clauses (map (raised (length one.rows))),
        ap {A = System} (λ s. length s.clauses) lays,
        length-append old.clauses (map (clause_from (length old.rows)) one.clauses),
        length-map one.clauses (clause_from (length old.rows)),
      )

-- one more that is declared stands behind the others
pub placed_now : (list more : List Placed) (it : Placed) (old new : System) → ArePlaced 0 (length old.ranges) list → IsAt it.piece (length old.ranges) → it.first ≡ length old.ranges → more ≡ list ++ it ∷ []
    → new ≡ record old { ranges = old.ranges ++ ranges it.piece } → ArePlaced 0 (length new.ranges) more
placed_now list more it old new are at is items same =
    let end : end_of it ≡ length new.ranges = omega (arith, ap {A = System} (λ s. length s.ranges) same, length-append old.ranges (ranges it.piece), is) in
    subst (ArePlaced 0 (length new.ranges)) (sym items)
    (subst (λ n. ArePlaced 0 n (list ++ it ∷ [])) end (placed_more 0 (length old.ranges) list it are (subst (IsAt it.piece) (sym is) at) is))
