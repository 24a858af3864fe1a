-- Lists of pieces: where they stand and what they lay.
use Rattle.std.proofs.Common.{◌≡◌, ℕ, zero, suc, ◌+◌, ◌<◌, ◌≤◌, Bool, true, false, ◌&&◌, ℤ, List, [], ◌∷◌, ◌++◌, length, length-append, map, append_assoc, refl, sym, ap, ap₂, ◌∙◌, inl, subst, arith}
use Rattle.std.specs.Prelude.{slice_index_or, All, Any, ◌↔◌}
use Rattle.std.specs.List.{list_all}
use Rattle.std.proofs.lemmas.Bool.{false≢true}
use Rattle.std.proofs.lemmas.Bool.Decides.{nat_tests}
use Rattle.std.proofs.lemmas.List.{append-nil, length-map, map-append}
use Rattle.mix_system.specs.System.{System}
use Rattle.mix_system.specs.declared.literal.Lit.{Lit}
use Rattle.mix_system.specs.declared.literal.Term.{Term}
use Rattle.mix_system.specs.declared.literal.Term.TheVariants.{Var, Row}
use Rattle.mix_system.specs.declared.row.Part.{Part}
use Rattle.mix_system.specs.Fits.{IsTrueAt}
use Rattle.wrap_rows.specs.Normal.{row_of, clause_of}
use Rattle.wrap_rows.specs.Layout.{Layout, Holds, raised_term, raised, clause_from, IsOfRows, StandsAt}
use Rattle.wrap_rows.specs.Piece.{Lays, is_of_rows, names_own_rows}
use Rattle.wrap_rows.proofs.CaseLaws.{Each, Each-from_All, All-from_Each}
use Rattle.wrap_rows.proofs.BlockLaws.{Each-append, Each-left, Each-right}
use Rattle.wrap_rows.proofs.LayoutLaws.{laid-says}
use Rattle.ir_pieces.specs.declared.list.Placed.{Placed}
use Rattle.ir_pieces.specs.Pieces.{IsAt, layout}
use Rattle.ir_pieces.specs.Lists.{end_of, ArePlaced, IsFree, behind, joined, AllHold}
use Rattle.ir_pieces.proofs.PieceLaws.{own_rows}

-- ---- where they stand

pub placed_from : (from to : ℕ) (placed : List Placed) → ArePlaced from to placed → ArePlaced 0 to placed
placed_from from to [] are = omega arith
placed_from from to (it ∷ others) are = (omega arith, are.1, are.2)

pub placed_end : (from to : ℕ) (placed : List Placed) → ArePlaced from to placed → from ≤ to
placed_end from to [] are = are
placed_end from to (it ∷ others) are = omega (arith, are.0, placed_end (end_of it) to others are.2)

-- one more behind the others
pub placed_more : (from to : ℕ) (placed : List Placed) (it : Placed) → ArePlaced from to placed → IsAt it.piece it.first → it.first ≡ to → ArePlaced from (end_of it) (placed ++ it ∷ [])
placed_more from to [] it are at is = (omega (arith, are, is), at, omega arith)
placed_more from to (one ∷ others) it are at is = (are.0, are.1, placed_more (end_of one) to others it are.2 at is)

-- what stands before all of them is no piece's own
pub before_free : (from to var : ℕ) (placed : List Placed) → ArePlaced from to placed → var < from → IsFree var placed
before_free from to var [] are before = tt
before_free from to var (it ∷ others) are before =
    (inl (omega (arith, are.0, before)), before_free (end_of it) to var others are.2 (omega (arith, are.0, before)))

-- ---- what they lay: rows that are counted from further on

raises : (first row : ℕ) → raised_term first (Row row) ≡ Row (first + row)
raises first zero = let same : first ≡ first + zero = omega arith in ap (λ k. Row k) same
raises first (suc row) = refl

term-raised : (first more : ℕ) (term : Term) → raised_term first (raised_term more term) ≡ raised_term (first + more) term
term-raised first more (Var var) = refl
term-raised first more (Row row) =
    let same : first + (more + row) ≡ first + more + row = omega arith in
    ap (λ term. raised_term first term) (raises more row) ∙ raises first (more + row) ∙ ap (λ k. Row k) same ∙ sym (raises (first + more) row)

lits-raised : (first more : ℕ) (lits : List Lit) → map (raised first) (map (raised more) lits) ≡ map (raised (first + more)) lits
lits-raised first more [] = refl
lits-raised first more (lit ∷ lits) =
    ap₂ (λ (head : Lit) (tail : List Lit). head ∷ tail)
    (ap {B = Lit} (λ term. record { term = term; side = lit.side; bound = lit.bound }) (term-raised first more lit.term)) (lits-raised first more lits)

clauses-raised : (first more : ℕ) (clauses : List (List Lit)) → map (clause_from first) (map (map (raised more)) clauses) ≡ map (clause_from (first + more)) clauses
clauses-raised first more [] = refl
clauses-raised first more (lits ∷ clauses) =
    ap₂ (λ (head : List Lit) (tail : List (List Lit)). head ∷ tail) (ap clause_of (lits-raised first more lits)) (clauses-raised first more clauses)

-- the clauses of two layouts, one behind the other
behind-clauses : (first : ℕ) (one two : Layout) → map (clause_from first) (behind one two).clauses ≡ map (clause_from first) one.clauses ++ map (clause_from (first + length one.rows)) two.clauses
behind-clauses first one two =
    map-append (clause_from first) one.clauses (map (map (raised (length one.rows))) two.clauses)
    ∙ ap (λ (last : List (List Lit)). map (clause_from first) one.clauses ++ last) (clauses-raised first (length one.rows) two.clauses)

pub lays-none : (system : System) → Lays (record { rows = []; clauses = [] }) system system
lays-none system =
    ap₂ (λ (rows : List (List Part)) (clauses : List (List Lit)). let s : System = record { ranges = system.ranges; rows = rows; clauses = clauses } in s)
    (sym (append-nil system.rows)) (sym (append-nil system.clauses))

pub lays-behind : (one two : Layout) (old mid new : System) → Lays one old mid → Lays two mid new → Lays (behind one two) old new
lays-behind one two old mid new first second =
    let r = length old.rows in
    let row_count : length (old.rows ++ map row_of one.rows) ≡ r + length one.rows = omega (arith, length-append old.rows (map row_of one.rows), length-map one.rows row_of) in
    second
    ∙ ap {A = System} (λ s. record s { rows = s.rows ++ map row_of two.rows; clauses = s.clauses ++ map (clause_from (length s.rows)) two.clauses }) first
    ∙ ap₂ (λ (rows : List (List Part)) (clauses : List (List Lit)). let s : System = record { ranges = old.ranges; rows = rows; clauses = clauses } in s)
    (append_assoc old.rows (map row_of one.rows) (map row_of two.rows) ∙ ap (λ (rows : List (List Part)). old.rows ++ rows) (sym (map-append row_of one.rows two.rows)))
    (ap (λ k. (old.clauses ++ map (clause_from r) one.clauses) ++ map (clause_from k) two.clauses) row_count
    ∙ append_assoc old.clauses (map (clause_from r) one.clauses) (map (clause_from (r + length one.rows)) two.clauses)
    ∙ ap (λ (clauses : List (List Lit)). old.clauses ++ clauses) (sym (behind-clauses r one two)))

-- ---- what is laid says that each layout holds

both_pass : (a b : Bool) → (a && b) ≡ true → (a ≡ true) × (b ≡ true)
both_pass true b passes = (refl, passes)
both_pass false b passes = absurd (false≢true passes)

row_is_own : (rows : ℕ) (term : Term) → is_of_rows rows term ≡ true → IsOfRows rows term
row_is_own rows (Var var) passes = tt
row_is_own rows (Row row) passes = grind (arith, nat_tests)

lits_are_own : (rows : ℕ) (lits : List Lit) → list_all (λ lit. is_of_rows rows lit.term) lits ≡ true → Each (λ lit. IsOfRows rows lit.term) lits
lits_are_own rows [] passes = tt
lits_are_own rows (lit ∷ lits) passes =
    let parts = both_pass (is_of_rows rows lit.term) (list_all (λ lit. is_of_rows rows lit.term) lits) passes in
    (row_is_own rows lit.term parts.0, lits_are_own rows lits parts.1)

clauses_are_own : (rows : ℕ) (clauses : List (List Lit)) → list_all (list_all (λ lit. is_of_rows rows lit.term)) clauses ≡ true → Each (All (λ lit. IsOfRows rows lit.term)) clauses
clauses_are_own rows [] passes = tt
clauses_are_own rows (lits ∷ clauses) passes =
    let parts = both_pass (list_all (λ lit. is_of_rows rows lit.term) lits) (list_all (list_all (λ lit. is_of_rows rows lit.term)) clauses) passes in
    (All-from_Each (λ lit. IsOfRows rows lit.term) lits (lits_are_own rows lits parts.0), clauses_are_own rows clauses parts.1)

index_left : (xs ys : List (List Part)) (row : ℕ) → row < length xs → slice_index_or (xs ++ ys) row [] ≡ slice_index_or xs row []
index_left [] ys row within = absurd (omega (arith, within))
index_left (x ∷ xs) ys zero within = refl
index_left (x ∷ xs) ys (suc row) within = index_left xs ys row (omega (arith, within))

index_right : (xs ys : List (List Part)) (row at : ℕ) → at ≡ length xs + row → slice_index_or (xs ++ ys) at [] ≡ slice_index_or ys row []
index_right [] ys row at is = let same : at ≡ row = omega (arith, is) in ap (λ k. slice_index_or ys k []) same
index_right (x ∷ xs) ys row zero is = absurd (omega (arith, is))
index_right (x ∷ xs) ys row (suc at) is = index_right xs ys row at (omega (arith, is))

stands-left : (first : ℕ) (xs ys rows : List (List Part)) → StandsAt first (xs ++ ys) rows → StandsAt first xs rows
stands-left first xs ys rows stands =
    λ row within. stands row (omega (arith, within, length-append xs ys)) ∙ ap row_of (index_left xs ys row within)

stands-right : (first : ℕ) (xs ys rows : List (List Part)) → StandsAt first (xs ++ ys) rows → StandsAt (first + length xs) ys rows
stands-right first xs ys rows stands =
    λ row within.
    let same : first + length xs + row ≡ first + (length xs + row) = omega arith in
    ap (λ k. slice_index_or rows k []) same
    ∙ stands (length xs + row) (omega (arith, within, length-append xs ys))
    ∙ ap row_of (index_right xs ys row (length xs + row) refl)

module _ (rows : List (List Part)) (point : List ℤ) where
  abbrev True : List Lit → Type 0
  True = Any (IsTrueAt rows point)

  laid : (one : Layout) (first : ℕ) → names_own_rows one ≡ true → StandsAt first one.rows rows → All True (map (clause_from first) one.clauses) ↔ Holds one point
  laid one first own stands =
      laid-says one point first rows stands
      (All-from_Each (All (λ lit. IsOfRows (length one.rows) lit.term)) one.clauses (clauses_are_own (length one.rows) one.clauses own))

  pub all-said : (placed : List Placed) (first : ℕ) → StandsAt first (joined placed).rows rows → All True (map (clause_from first) (joined placed).clauses) → AllHold placed point
  all-said [] first stands all = tt
  all-said (it ∷ others) first stands all =
      let one = layout it.piece it.first in
      let two = joined others in
      let next = first + length one.rows in
      let left = map (clause_from first) one.clauses in
      let right = map (clause_from next) two.clauses in
      let each = Each-from_All True (left ++ right) (subst (All True) (behind-clauses first one two) all) in (
        (laid one first (own_rows it.piece it.first) (stands-left first one.rows two.rows rows stands)).0 (All-from_Each True left (Each-left True left right each)),
        all-said others next (stands-right first one.rows two.rows rows stands) (All-from_Each True right (Each-right True left right each)),
      )

  pub all-true_of : (placed : List Placed) (first : ℕ) → StandsAt first (joined placed).rows rows → AllHold placed point → All True (map (clause_from first) (joined placed).clauses)
  all-true_of [] first stands hold = All-from_Each True [] tt
  all-true_of (it ∷ others) first stands hold =
      let one = layout it.piece it.first in
      let two = joined others in
      let next = first + length one.rows in
      let left = map (clause_from first) one.clauses in
      let right = map (clause_from next) two.clauses in
      let here = (laid one first (own_rows it.piece it.first) (stands-left first one.rows two.rows rows stands)).1 hold.0 in
      let later = all-true_of others next (stands-right first one.rows two.rows rows stands) hold.1 in
      subst (All True) (sym (behind-clauses first one two))
      (All-from_Each True (left ++ right) (Each-append True left right (Each-from_All True left here) (Each-from_All True right later)))
