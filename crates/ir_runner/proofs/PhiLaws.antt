-- The phis of a block that is entered along an edge.
use Rattle.std.proofs.Common.{◌≡◌, ◌<◌, ℕ, List, [], ◌∷◌, ◌++◌, length, map, set, Option, Some, option_and_then, refl, sym, ◌∙◌, ap, subst, arith, append_assoc, append-nil}
use Rattle.std.specs.Prelude.{Contains}
use Rattle.std.specs.List.{AllByRecursion}
use Rattle.std.proofs.lemmas.List.Elements.{Contains-append_left}
use Rattle.ll_tree.specs.declared.func.Func.{Func}
use Rattle.ll_tree.specs.declared.block.Block.{Block}
use Rattle.ll_tree.specs.declared.block.Phi.{Phi}
use Rattle.ll_tree.specs.declared.block.Operand.{Operand}
use Rattle.ll_rules.specs.Items.{Item, OfPhi, items_of, values_of}
use Rattle.ll_links.specs.declared.link.Source.{Source}
use Rattle.ll_links.specs.Links.{source_of}
use Rattle.ll_flow.specs.Paths.{label_of, GoesTo, IsPathTo}
use Rattle.ll_verifier.specs.Rules.{Rules}
use Rattle.ir_meaning.specs.declared.value.Val.{Val}
use Rattle.ir_runs.specs.Values.{Vals, operand_value, phi_value}
use Rattle.ir_runs.specs.Walk.{IsValued, names_on}
use Rattle.ir_runs.proofs.MemberLaws.{in_here}
use Rattle.ir_runs.proofs.NamesLaws.{names_in}
use Rattle.ir_runs.proofs.UsedLaws.{block_label, AreWithin, entry_known}
use Rattle.ir_runs.proofs.EntryLaws.{entry_for, not_entry}
use Rattle.ir_runs.proofs.BlockLaws.{all_mid}
use Rattle.ir_runner.specs.declared.code.PhiMove.{PhiMove}
use Rattle.ir_runner.specs.Code.{known, source_code, move_code}
use Rattle.ir_runner.specs.Slots.{slot_value, IsThere, moved, CanMove}
use Rattle.ir_runner.proofs.SlotLaws.{names, placed, Holds, holds_more, holds_same, reads}
use Rattle.ir_runner.proofs.BodyLaws.{names_more, result_named}

-- ---- moves, one at a time

can_none : (slots : List Val) → CanMove [] slots
unfolding CanMove
can_none slots = tt

moved_none : (slots : List Val) → moved [] slots ≡ slots
unfolding moved
moved_none slots = refl

can_more : (move : PhiMove) (moves : List PhiMove) (slots : List Val) → move.to < length slots → IsThere slots move.source → CanMove moves (set slots move.to (slot_value slots move.source)) → CanMove (move ∷ moves) slots
unfolding CanMove
can_more move moves slots low there rest = (low, there, rest)

moved_more : (move : PhiMove) (moves : List PhiMove) (slots : List Val) → moved (move ∷ moves) slots ≡ moved moves (set slots move.to (slot_value slots move.source))
unfolding moved
moved_more move moves slots = refl

-- the entry has no phi
pub entry_free : (func : Func) (rules : Rules func) (block : Block) → Contains func.blocks block → block.label ≡ label_of func 0 → (phis : List Phi) (tail : List Item) → items_of block ≡ map OfPhi phis ++ tail → ((phi : Phi) → Contains phis phi → Contains block.phis phi) → phis ≡ []
entry_free func rules block there is [] tail items among = refl
entry_free func rules block there is (phi ∷ phis) tail items among =
    absurd (not_entry func rules block there [] (map OfPhi phis ++ tail) phi items (among phi (in_here phi phis)) is)

module _ (func : Func) (rules : Rules func) (vals : Vals) (done : List Block) (within : AreWithin func rules done) (block : Block) (there : Contains func.blocks block)
    (last : List ℕ) (path : IsPathTo func (map block_label done) last) (goes : GoesTo func last block.label) (valued : AllByRecursion (IsValued vals (Some last)) (items_of block)) where
  abbrev At : List Item → List (List ℕ)
  At front = names_on func done ++ names_in front

  module _ (front rest : List Item) (phi : Phi) (items : items_of block ≡ front ++ OfPhi phi ∷ rest) (slots : List Val) (holds : Holds func vals slots (At front)) where
    abbrev move : PhiMove
    move = move_code func last phi

    -- the value that the operand for the edge stands for
    record Comes : Type 0 where
      stands : IsThere slots move.source
      is : vals phi.name ≡ Some (slot_value slots move.source)

    comes : Comes
    comes =
        let entry = entry_for func rules block there front rest phi items last goes in
        let from : IsPathTo func (map block_label done) entry.0.from = subst (λ (label : List ℕ). IsPathTo func (map block_label done) label) (sym entry.2) path in
        let read = reads func vals slots (At front) holds entry.0.value (λ name is. Contains-append_left (names_on func done) (names_in front) name
        (entry_known func rules done within block there front rest (OfPhi phi) items phi refl entry.0 entry.1 from name is)) in
        let code : source_code func entry.0.value ≡ move.source = ap (λ (value : Option Operand). known (option_and_then (source_of (values_of func)) value)) (sym entry.3) in
        let given : vals phi.name ≡ phi_value vals (Some last) phi = all_mid (IsValued vals (Some last)) front rest (OfPhi phi) (subst (AllByRecursion (IsValued vals (Some last))) items valued) in
        record {
          stands = subst (IsThere slots) code read.there;
          is = given ∙ ap (option_and_then (operand_value vals)) entry.3 ∙ read.is ∙ ap (λ (from : Source). Some (slot_value slots from)) code;
        }

    named : Contains (names func) phi.name
    named = result_named func rules block there front rest (OfPhi phi) items phi.name (in_here phi.name [])

    low : move.to < length slots
    low = let at = (placed func phi.name named).within in let room = holds.room in omega (arith, at, room)

    next_holds : Holds func vals (set slots move.to (slot_value slots move.source)) (At (front ++ OfPhi phi ∷ []))
    next_holds =
        holds_same func vals (set slots move.to (slot_value slots move.source)) (At front ++ phi.name ∷ []) (At (front ++ OfPhi phi ∷ [])) (names_more func done front (OfPhi phi))
        (holds_more func vals slots (At front) holds phi.name named (slot_value slots move.source) comes.is)

  pub record Moves (phis : List Phi) (front : List Item) (slots : List Val) : Type 0 where
    pub can : CanMove (map (move_code func last) phis) slots
    pub holds : Holds func vals (moved (map (move_code func last) phis) slots) (At (front ++ map OfPhi phis))

  pub phis_move : (front : List Item) (phis : List Phi) (tail : List Item) → items_of block ≡ front ++ (map OfPhi phis ++ tail) → (slots : List Val) → Holds func vals slots (At front) → Moves phis front slots
  phis_move front [] tail items slots holds = record {
    can = can_none slots;
    holds = subst (λ (now : List Val). Holds func vals now (At (front ++ []))) (sym (moved_none slots)) (holds_same func vals slots (At front) (At (front ++ [])) (ap At (sym (append-nil front))) holds);
  }
  phis_move front (phi ∷ phis) tail items slots holds =
      let to : PhiMove = move_code func last phi in
      let next : List Val = set slots to.to (slot_value slots to.source) in
      let later = phis_move (front ++ OfPhi phi ∷ []) phis tail (items ∙ sym (append_assoc front (OfPhi phi ∷ []) (map OfPhi phis ++ tail))) next (next_holds front (map OfPhi phis ++ tail) phi items slots holds) in
      record {
        can = can_more to (map (move_code func last) phis) slots (low front (map OfPhi phis ++ tail) phi items slots holds) (comes front (map OfPhi phis ++ tail) phi items slots holds).stands later.can;
        holds = subst (λ (now : List Val). Holds func vals now (At (front ++ map OfPhi (phi ∷ phis)))) (sym (moved_more to (map (move_code func last) phis) slots))
            (holds_same func vals (moved (map (move_code func last) phis) next) (At ((front ++ OfPhi phi ∷ []) ++ map OfPhi phis)) (At (front ++ map OfPhi (phi ∷ phis))) (ap At (append_assoc front (OfPhi phi ∷ []) (map OfPhi phis))) later.holds);
      }
