-- The list of a function's pieces has a piece for each operation and each phi.
use Rattle.std.proofs.Common.{◌≡◌, ◌⊎◌, inl, inr, ◌<◌, ℕ, List, [], ◌∷◌, ◌++◌, length, map, Option, Some, sym, subst, arith}
use Rattle.std.specs.Prelude.{Contains, flat_map}
use Rattle.std.specs.List.{AllZip, range_with_len}
use Rattle.std.proofs.lemmas.List.Elements.{Contains-append_left, Contains-append_right}
use Rattle.ll_tree.specs.declared.func.Param.{Param}
use Rattle.ll_tree.specs.declared.func.Range.{Range}
use Rattle.ll_tree.specs.declared.block.Block.{Block}
use Rattle.ll_rules.specs.Items.{Item, OfPhi, OfInstr, OfEnd, items_of, result_width}
use Rattle.ll_flow.proofs.PlaceLaws.{no_item, cons_cases}
use Rattle.ll_verifier.specs.Sound.{SoundFunc, IsSound}
use Rattle.ir_runs.proofs.MemberLaws.{in_here, in_there, in_map, in_flat}
use Rattle.ir_runs.proofs.BlockLaws.{instr_among}
use Rattle.portion_cuts.proofs.WalkPaths.{position_of}
use Rattle.ir_pieces.specs.declared.piece.IrPiece.{IrPiece}
use Rattle.ir_pieces.specs.declared.list.Placed.{Placed}
use Rattle.ir_pieces.specs.Choice.{piece_of}
use Rattle.path_encoding.specs.declared.spots.PathSpots.{PathSpots}
use Rattle.path_encoding.specs.Spots.{block_at}
use Rattle.path_encoding.proofs.GraphLaws.{counted}
use Rattle.value_pieces.specs.Pieces.{operands_of, name_vars, IsPhiPiece}
use Rattle.piece_values.specs.Pieces.{Has, HasPieces}
use Rattle.piece_values.specs.Owners.{Owner, RangeOwner, PhiOwner, OpOwner, range_owner, op_owner, item_owner, block_owners, owners_of, StandsAs, IsPieceOf, ArePiecesOf}
use Rattle.piece_values.proofs.OrderLaws.{block_is}

-- what stands beside a member
partner : {X Y : Type 0} (P : X → Y → Type 0) (xs : List X) (ys : List Y) (x : X) → AllZip P xs ys → Contains xs x → (y : Y) × Contains ys y × P x y
partner P [] ys x all there = absurd (no_item x there)
partner P (first ∷ xs) [] x all there = absurd all
partner {X = X} {Y = Y} P (first ∷ xs) (other ∷ ys) x all there = by_cases (partner P xs ys x all.1) (cons_cases first xs x there)
  where
    by_cases : (Contains xs x → (y : Y) × Contains ys y × P x y) → (first ≡ x) ⊎ Contains xs x → (y : Y) × Contains (other ∷ ys) y × P x y
    by_cases rest (inl same) = (other, in_here other ys, subst (λ (z : X). P z other) same all.0)
    by_cases rest (inr later) =
        let found = rest later in
        (found.0, in_there other found.0 ys found.1, found.2)

module _ (it : SoundFunc) (sound : IsSound it) (spots : PathSpots) (placed : List Placed) (are : ArePiecesOf it spots placed) where
  pub of_item : (at : ℕ) → at < length it.flow.order → (item : Item) → Contains (items_of (block_at it at)) item → (owner : Owner) → Contains (item_owner at item) owner → Contains (owners_of it) owner
  of_item at low item inside owner mine =
      Contains-append_right (flat_map (λ (param : Param). range_owner param param.range) it.func.params) (flat_map (block_owners it) (range_with_len 0 (length it.flow.order))) owner
      (in_flat (block_owners it) (range_with_len 0 (length it.flow.order)) at owner (counted 0 (length it.flow.order) at (omega arith) (omega (arith, low)))
      (in_flat (item_owner at) (items_of (block_at it at)) item owner inside mine))

  pub has : (owner : Owner) → Contains (owners_of it) owner → (one : Placed) × Contains placed one × IsPieceOf it spots owner one
  has owner there = partner (IsPieceOf it spots) (owners_of it) placed owner are there

  -- the piece of a parameter with a range
  pub of_range : (param : Param) → Contains it.func.params param → (range : Range) → param.range ≡ Some range → Contains (owners_of it) (RangeOwner param range)
  of_range param there range is =
      Contains-append_left (flat_map (λ (param : Param). range_owner param param.range) it.func.params) (flat_map (block_owners it) (range_with_len 0 (length it.flow.order))) (RangeOwner param range)
      (in_flat (λ (param : Param). range_owner param param.range) it.func.params param (RangeOwner param range) there
      (subst (λ (o : Option Range). Contains (range_owner param o) (RangeOwner param range)) (sym is) (in_here (RangeOwner param range) [])))

  stands : (name : List ℕ) (Is : IrPiece → Type 0) (one : Placed) → Contains placed one → StandsAs it spots name one Is → Has placed (name_vars it spots name) Is
  stands name Is one among is = record { one = one; among = among; stands = is.stands; piece = is.piece }

  pub has_pieces : HasPieces it spots placed
  has_pieces = record {
    operations = λ block there instr inside width is.
        let at = position_of it sound block there in
        let same : block ≡ block_at it at.0 = block_is it sound block there at.0 at.1 at.2 in
        let item : Contains (items_of (block_at it at.0)) (OfInstr instr) = subst (λ (b : Block). Contains (items_of b) (OfInstr instr)) same (instr_among block instr inside) in
        let mine : Contains (op_owner instr (result_width instr.op)) (OpOwner instr) = subst (λ (o : Option ℕ). Contains (op_owner instr o) (OpOwner instr)) (sym is) (in_here (OpOwner instr) []) in
        let found = has (OpOwner instr) (of_item at.0 at.1 (OfInstr instr) item (OpOwner instr) mine) in
        stands instr.name (λ piece. piece_of instr.op (operands_of it spots instr.op) ≡ Some piece) found.0 found.1 found.2;
    phis = λ at low phi inside.
        let block = block_at it at in
        let item : Contains (items_of block) (OfPhi phi) = Contains-append_left (map OfPhi block.phis) (map OfInstr block.body ++ OfEnd block.end ∷ []) (OfPhi phi) (in_map OfPhi block.phis phi inside) in
        let found = has (PhiOwner at phi) (of_item at low (OfPhi phi) item (PhiOwner at phi) (in_here (PhiOwner at phi) [])) in
        stands phi.name (IsPhiPiece it spots at phi) found.0 found.1 found.2;
  }
