-- A point fits a function's system exactly where its parts hold there.
use Rattle.std.proofs.Common.{◌≡◌, ◌↔◌, ◌<◌, ◌+◌, ℕ, ℤ, true, List, [], ◌∷◌, ◌++◌, length, get_or, map, sym, subst, arith}
use Rattle.std.specs.Prelude.{Contains, All, Any, flat_map}
use Rattle.std.specs.List.{list_all, range_with_len}
use Rattle.std.proofs.lemmas.Bool.{and_parts}
use Rattle.std.proofs.lemmas.Bool.Decides.{nat_tests}
use Rattle.std.proofs.lemmas.List.Elements.{All-nil, All-cons, All-head, All-tail, All-append}
use Rattle.mix_system.specs.declared.literal.Term.{Term}
use Rattle.mix_system.specs.declared.literal.Term.TheVariants.{Var, Row}
use Rattle.mix_system.specs.declared.row.Part.{Part}
use Rattle.mix_system.specs.declared.literal.Lit.{Lit}
use Rattle.mix_system.specs.System.{System}
use Rattle.mix_system.specs.Row.{number_at}
use Rattle.mix_system.specs.Fits.{Fits, IsTrueAt, IsInRange, IsInRanges}
use Rattle.ll_tree.specs.declared.block.Operand.TheVariants as operand
use Rattle.ll_verifier.specs.Sound.{SoundFunc, IsSound}
use Rattle.ir_constants.specs.Counted.{counted_in}
use Rattle.ir_constants.specs.Constants.{HasVar}
use Rattle.sound_costs.specs.Costs.{FuncCosts}
use Rattle.portion_cuts.specs.declared.portion.Region.{Region}
use Rattle.wrap_rows.specs.Layout.{Layout, IsOfRows, StandsAt, clause_from, Holds}
use Rattle.wrap_rows.specs.Piece.{AreIn, is_of_rows, names_own_rows}
use Rattle.ir_pieces.specs.declared.list.Placed.{Placed}
use Rattle.ir_pieces.specs.Lists.{joined, AllHold}
use Rattle.path_encoding.specs.declared.spots.PathSpots.{PathSpots}
use Rattle.path_encoding.specs.Spots.{block_at}
use Rattle.path_encoding.specs.PathLayout.{path_layout}
use Rattle.system_runs.specs.Parts.{PiecesHold}
use Rattle.system_points.specs.Places.{constants_in}
use Rattle.system_points.specs.Encodes.{all_pieces, Encodes}
use Rattle.system_points.proofs.InLaws.{none, in_all}
use Rattle.system_points.proofs.PartLaws.{path_rows, piece_rows, ByParts, in_by_parts, marks_are, arguments_are, has_constants}

all_parts : {X : Type 0} (P : X → Type 0) (xs ys : List X) → All P (xs ++ ys) → All P xs × All P ys
all_parts P [] ys all = (All-nil P, all)
all_parts P (x ∷ xs) ys all =
    let rest = all_parts P xs ys (All-tail P x (xs ++ ys) all) in
    (All-cons P x xs (All-head P x (xs ++ ys) all) rest.0, rest.1)

-- ---- clauses that name their own rows

row_own : (rows : ℕ) (term : Term) → is_of_rows rows term ≡ true → IsOfRows rows term
row_own rows (Var var) passes = tt
row_own rows (Row row) passes = grind (arith, nat_tests)

lits_own : (rows : ℕ) (lits : List Lit) → list_all (λ (lit : Lit). is_of_rows rows lit.term) lits ≡ true → All (λ lit. IsOfRows rows lit.term) lits
lits_own rows [] passes = All-nil (λ (lit : Lit). IsOfRows rows lit.term)
lits_own rows (lit ∷ lits) passes =
    let parts = and_parts (is_of_rows rows lit.term) (list_all (λ (lit : Lit). is_of_rows rows lit.term) lits) passes in
    All-cons (λ (lit : Lit). IsOfRows rows lit.term) lit lits (row_own rows lit.term parts.0) (lits_own rows lits parts.1)

clauses_own : (rows : ℕ) (clauses : List (List Lit)) → list_all (list_all (λ (lit : Lit). is_of_rows rows lit.term)) clauses ≡ true → All (All (λ lit. IsOfRows rows lit.term)) clauses
clauses_own rows [] passes = All-nil (All (λ (lit : Lit). IsOfRows rows lit.term))
clauses_own rows (lits ∷ clauses) passes =
    let parts = and_parts (list_all (λ (lit : Lit). is_of_rows rows lit.term) lits) (list_all (list_all (λ (lit : Lit). is_of_rows rows lit.term)) clauses) passes in
    All-cons (All (λ (lit : Lit). IsOfRows rows lit.term)) lits clauses (lits_own rows lits parts.0) (clauses_own rows clauses parts.1)

-- ---- what the laws below say, at one point

abbrev pub LaidLaw : List ℤ → Type 0
LaidLaw point =
    (layout : Layout) (first : ℕ) (rows : List (List Part)) → StandsAt first layout.rows rows → All (All (λ lit. IsOfRows (length layout.rows) lit.term)) layout.clauses
    → All (Any (IsTrueAt rows point)) (map (clause_from first) layout.clauses) ↔ Holds layout point

abbrev pub PiecesLaw : List ℤ → Type 0
PiecesLaw point =
    (placed : List Placed) (first : ℕ) (rows : List (List Part)) → StandsAt first (joined placed).rows rows
    → All (Any (IsTrueAt rows point)) (map (clause_from first) (joined placed).clauses) ↔ AllHold placed point

abbrev pub VarLaw : SoundFunc → Type 0
VarLaw it = (n : ℕ) → Contains (flat_map counted_in (map (block_at it) (range_with_len 0 (length it.flow.order)))) (operand.Const n) → HasVar (constants_in it) n

module _ (it : SoundFunc) (sound : IsSound it) (costs : FuncCosts) (regions : List Region) (system : System) (spots : PathSpots) (own : List Placed) (encodes : Encodes it costs regions system spots own)
    (own_rows : names_own_rows (path_layout it spots) ≡ true) (point : List ℤ) (laid : LaidLaw point) (pieces : PiecesLaw point) where
  abbrev True : List Lit → Type 0
  True = Any (IsTrueAt system.rows point)

  abbrev paths : List (List Lit)
  paths = map (clause_from 0) (path_layout it spots).clauses

  abbrev later : List (List Lit)
  later = map (clause_from (length (path_layout it spots).rows)) (joined (all_pieces it own)).clauses

  of_paths : All True paths ↔ Holds (path_layout it spots) point
  of_paths =
      laid (path_layout it spots) 0 system.rows (path_rows it sound costs regions system spots own encodes)
      (clauses_own (length (path_layout it spots).rows) (path_layout it spots).clauses own_rows)

  of_pieces : All True later ↔ AllHold (all_pieces it own) point
  of_pieces = pieces (all_pieces it own) (length (path_layout it spots).rows) system.rows (piece_rows it sound costs regions system spots own encodes)

  -- variables in their ranges where all pieces hold
  module _ (within : IsInRanges system.ranges point) (hold : AllHold (all_pieces it own) point) where
    pub by : ByParts it sound costs regions system spots own encodes point
    by =
        let each : (k : ℕ) → k < length system.ranges → IsInRange (get_or system.ranges k none) (number_at point (0 + k)) =
        λ k low. let start : k ≡ 0 + k = omega arith in subst (λ (n : ℕ). IsInRange (get_or system.ranges k none) (number_at point n)) start (within k low) in
        in_by_parts it sound costs regions system spots own encodes point (subst (λ (list : List (ℤ × ℤ)). AreIn 0 list point) encodes.ranges (in_all point 0 system.ranges each))

    pub pieces_hold : VarLaw it → PiecesHold it spots (all_pieces it own) point
    pieces_hold has_var = record {
      numbers = record { zero_is = by.numbers 0 (omega arith); one_is = by.numbers 1 (omega arith) };
      constants = has_constants it sound costs regions system spots own encodes point has_var by.numbers;
      arguments = arguments_are it sound costs regions system spots own encodes point by.arguments;
      marks = marks_are it sound costs regions system spots own encodes point by;
      ranges = by.pieces;
      hold = hold;
    }

  module _ (fits : Fits system point) where
    clauses : All True paths × All True later
    clauses = all_parts True paths later (subst (All True) encodes.clauses fits.clauses_hold)

    pub paths_hold : Holds (path_layout it spots) point
    paths_hold = of_paths.0 clauses.0

    pub all_hold : AllHold (all_pieces it own) point
    all_hold = of_pieces.0 clauses.1

  pub fits_of : length point ≡ length system.ranges → IsInRanges system.ranges point → AllHold (all_pieces it own) point → Holds (path_layout it spots) point → Fits system point
  fits_of one_each within hold paths_too = record {
    one_each = one_each;
    in_ranges = within;
    clauses_hold = subst (All True) (sym encodes.clauses) (All-append True paths later (of_paths.1 paths_too) (of_pieces.1 hold));
  }
