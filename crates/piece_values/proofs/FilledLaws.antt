-- At a point whose pieces lie in their ranges and hold, each name's variables are a value, and arguments are those that are given.
use Rattle.std.proofs.Common.{◌≡◌, ◌⊎◌, inl, inr, ◌<◌, ◌≤◌, ⊎_elim, ℕ, suc, ℤ, pos, List, [], ◌∷◌, ◌++◌, length, get_or, map, Option, Some, None, refl, sym, ◌∙◌, ap, subst, arith}
use Rattle.std.specs.Prelude.{Contains, All, zip, flat_map, unsigned_abs}
use Rattle.std.specs.Ordering.{int_eq}
use Rattle.std.specs.List.{AllByRecursion}
use Rattle.std.specs.Option.{IfSome}
use Rattle.std.proofs.lemmas.Int.{ints}
use Rattle.std.proofs.lemmas.List.Elements.{All-contains, All-cons, All-head, All-nil, All-tail, Contains-append_cases, Contains-append_left}
use Rattle.mix_system.specs.Row.{number_at}
use Rattle.ll_tree.specs.Formed.{FitsRange, IsFormedParam, IsRange}
use Rattle.ll_tree.specs.declared.func.Param.{Param}
use Rattle.ll_tree.specs.declared.func.Range.{Range}
use Rattle.ll_tree.specs.declared.block.Block.{Block}
use Rattle.ll_tree.specs.declared.block.Phi.{Phi}
use Rattle.ll_tree.specs.declared.block.Instr.{Instr}
use Rattle.ll_rules.specs.Items.{OfPhi, OfInstr, OfEnd, items_of, result_width, named, block_values, values_of}
use Rattle.ll_flow.proofs.PlaceLaws.{no_item, cons_cases}
use Rattle.ll_verifier.specs.Sound.{SoundFunc, IsSound}
use Rattle.ir_meaning.specs.declared.value.Val.{Val}
use Rattle.ir_meaning.specs.Value.{poison_if}
use Rattle.ir_runs.specs.Values.{ranged}
use Rattle.ir_runs.proofs.MemberLaws.{in_here, in_there, in_map, map_in, flat_in}
use Rattle.ir_runs.proofs.BlockLaws.{instr_among}
use Rattle.portion_cuts.proofs.WalkPaths.{position_of}
use Rattle.wrap_rows.specs.declared.vars.ValueVars.{ValueVars}
use Rattle.wrap_rows.specs.Piece.{AreIn}
use Rattle.wrap_rows.specs.Vars.{IsMark, IsNumber, IsValue, value_at}
use Rattle.ir_pieces.specs.declared.piece.IrPiece.{IrPiece}
use Rattle.ir_pieces.specs.declared.list.Placed.{Placed}
use Rattle.ir_pieces.specs.Pieces.{ranges, vars, CanFill, CanSay, meaning}
use Rattle.ir_pieces.specs.Lists.{ArePlaced, AreInRanges, AllHold}
use Rattle.ir_pieces.specs.Choice.{range_piece, ranged_value}
use Rattle.ir_pieces.proofs.RangeLaws.{range_takes, range_means}
use Rattle.path_encoding.specs.declared.spots.PathSpots.{PathSpots}
use Rattle.path_encoding.specs.Spots.{value_vars, block_at, AreSpotsOf}
use Rattle.path_encoding.specs.Agree.{IsGiven, AgreesWith}
use Rattle.value_pieces.specs.Pieces.{name_vars}
use Rattle.piece_values.specs.Known.{AreKnown}
use Rattle.piece_values.specs.Owners.{RangeOwner, PhiOwner, OpOwner, op_owner, owners_of, IsPieceOf, ArePiecesOf}
use Rattle.piece_values.specs.Ready.{IsReady, IsArgument}
use Rattle.piece_values.proofs.OrderLaws.{block_is}
use Rattle.piece_values.proofs.OwnerLaws.{of_item, of_range, has, has_pieces}
use Rattle.piece_values.proofs.RangeLaws.{phi_value, op_value, range_mark}
use Rattle.piece_values.proofs.ReadyLaws.{of_some}
use Rattle.piece_values.proofs.TellLaws.{param_name, all_of_member, name_at, says}

abbrev Pair : Type 0
Pair = List ℕ × ℕ

module _ (it : SoundFunc) (sound : IsSound it) (spots : PathSpots) (are : AreSpotsOf it spots) (point : List ℤ) (path : List ℕ) (ready : IsReady it spots path point)
    (placed : List Placed) (from to : ℕ) (stand : ArePlaced from to placed) (all : ArePiecesOf it spots placed) (within : AreInRanges placed point) (hold : AllHold placed point) where
  abbrev Is : List ℕ → ℕ → Type 0
  Is name width = IsValue width (name_vars it spots name) point

  in_range : (one : Placed) → Contains placed one → AreIn one.first (ranges one.piece) point
  in_range one among = all_of_member (λ (p : Placed). AreIn p.first (ranges p.piece) point) placed one within among

  param_mark : (param : Param) → Contains it.func.params param → (range : Option Range) → param.range ≡ range → IsMark (number_at point (name_vars it spots param.name).mark)
  param_mark param there None is =
      let zero : number_at point (name_vars it spots param.name).mark ≡ pos 0 = ap (number_at point) (ready.unranged param there is) ∙ ready.numbers.zero_is in
      (omega (arith, ints, zero), omega (arith, ints, zero))
  param_mark param there (Some range) is =
      let found = has it sound spots placed all (RangeOwner param range) (of_range it sound spots placed all param there range is) in
      range_mark it spots point found.0 (in_range found.0 found.1) param range found.2

  param_value : (param : Param) → Contains it.func.params param → Is param.name param.width
  param_value param there = record { number = ready.arguments param there; mark = param_mark param there param.range refl }

  phi_is : (block : Block) → Contains it.func.blocks block → (phi : Phi) → Contains block.phis phi → Is phi.name phi.width
  phi_is block there phi inside =
      let at = position_of it sound block there in
      let same : block ≡ block_at it at.0 = block_is it sound block there at.0 at.1 at.2 in
      let mine : Block = block_at it at.0 in
      let item = Contains-append_left (map OfPhi mine.phis) (map OfInstr mine.body ++ OfEnd mine.end ∷ []) (OfPhi phi) (in_map OfPhi mine.phis phi (subst (λ (b : Block). Contains b.phis phi) same inside)) in
      let found = has it sound spots placed all (PhiOwner at.0 phi) (of_item it sound spots placed all at.0 at.1 (OfPhi phi) item (PhiOwner at.0 phi) (in_here (PhiOwner at.0 phi) [])) in
      phi_value it spots point found.0 (in_range found.0 found.1) at.0 phi found.2

  op_is : (block : Block) → Contains it.func.blocks block → (instr : Instr) → Contains block.body instr → (width : ℕ) → result_width instr.op ≡ Some width → Is instr.name width
  op_is block there instr inside width is =
      let at = position_of it sound block there in
      let same : block ≡ block_at it at.0 = block_is it sound block there at.0 at.1 at.2 in
      let item = subst (λ (b : Block). Contains (items_of b) (OfInstr instr)) same (instr_among block instr inside) in
      let mine : Contains (op_owner instr (result_width instr.op)) (OpOwner instr) = subst (λ (o : Option ℕ). Contains (op_owner instr o) (OpOwner instr)) (sym is) (in_here (OpOwner instr) []) in
      let found = has it sound spots placed all (OpOwner instr) (of_item it sound spots placed all at.0 at.1 (OfInstr instr) item (OpOwner instr) mine) in
      op_value it spots point found.0 (in_range found.0 found.1) instr width is found.2

  -- of a pair that is this one
  as_pair : (value : Pair) (name : List ℕ) (width : ℕ) → ◌≡◌ {A = Pair} value (name, width) → Is value.0 value.1 → Is name width
  as_pair value name width same is = subst (λ (pair : Pair). Is pair.0 pair.1) same is

  in_block : (block : Block) → Contains it.func.blocks block → (name : List ℕ) (width : ℕ) → Contains {X = Pair} (block_values block) (name, width) → Is name width
  in_block block there name width inside =
      ⊎_elim
      (λ of_phis. let found = map_in (λ (phi : Phi). (phi.name, phi.width)) block.phis (name, width) of_phis in as_pair (found.0.name, found.0.width) name width found.2 (phi_is block there found.0 found.1))
      (λ of_body. let found = flat_in (λ (instr : Instr). named instr.name (result_width instr.op)) block.body (name, width) of_body in by_width found.0 found.1 (result_width found.0.op) refl found.2)
      (Contains-append_cases (map (λ (phi : Phi). (phi.name, phi.width)) block.phis) (flat_map (λ (instr : Instr). named instr.name (result_width instr.op)) block.body) (name, width) inside)
    where
      by_width : (instr : Instr) → Contains block.body instr → (result : Option ℕ) → result_width instr.op ≡ result → Contains {X = List ℕ × ℕ} (named instr.name (result_width instr.op)) (name, width) → Is name width
      by_width instr among None is here = absurd (no_item {X = List ℕ × ℕ} (name, width) (subst (λ (o : Option ℕ). Contains {X = List ℕ × ℕ} (named instr.name o) (name, width)) is here))
      by_width instr among (Some own) is here =
          ⊎_elim (λ same. as_pair (instr.name, own) name width same (op_is block there instr among own is)) (λ none. absurd (no_item {X = List ℕ × ℕ} (name, width) none))
          (cons_cases {X = List ℕ × ℕ} (instr.name, own) [] (name, width) (subst (λ (o : Option ℕ). Contains {X = List ℕ × ℕ} (named instr.name o) (name, width)) is here))

  pub known : AreKnown it spots point
  known = record {
    numbers = ready.numbers;
    constants = ready.constants;
    values = λ name width there.
        ⊎_elim
        (λ of_params. let found = map_in (λ (param : Param). (param.name, param.width)) it.func.params (name, width) of_params in as_pair (found.0.name, found.0.width) name width found.2 (param_value found.0 found.1))
        (λ of_blocks. let found = flat_in block_values it.func.blocks (name, width) of_blocks in in_block found.0 found.1 name width found.2)
        (Contains-append_cases (map (λ (param : Param). (param.name, param.width)) it.func.params) (flat_map block_values it.func.blocks) (name, width) there);
  }

  -- ---- arguments

  range_said : (param : Param) → Contains it.func.params param → (range : Range) → param.range ≡ Some range → (arg : ℕ) → number_at point (name_vars it spots param.name).number ≡ pos arg → value_at (name_vars it spots param.name) point ≡ ranged (Some range) arg
  range_said param there range is arg number =
      let found = has it sound spots placed all (RangeOwner param range) (of_range it sound spots placed all param there range is) in
      let one = found.0 in
      let at = (name_vars it spots param.name).number in
      let formed : IsFormedParam param = All-contains IsFormedParam it.func.params param sound.rules.formed.params there in
      let fits : FitsRange param.width (Some range) = subst (FitsRange param.width) is formed.1 in
      let can = of_some (λ (p : IrPiece). CanFill p point × CanSay p point) (range_piece (Some range) param.width at) one.piece found.2.piece (range_takes range param.width at point (ready.arguments param there)) in
      let means = of_some (λ (p : IrPiece). meaning p point ≡ ranged_value range arg) (range_piece (Some range) param.width at) one.piece found.2.piece (range_means range param.width at arg point fits number) in
      let said = says it sound spots are point ready.marks known placed from to stand within hold (has_pieces it sound spots placed all) one found.1 can.1 in
      ap (λ (v : ValueVars). value_at v point) (sym found.2.stands) ∙ said ∙ means

  param_said : (param : Param) → Contains it.func.params param → (range : Option Range) → param.range ≡ range → (arg : ℕ) → number_at point (name_vars it spots param.name).number ≡ pos arg → value_at (name_vars it spots param.name) point ≡ ranged param.range arg
  param_said param there None is arg number =
      let zero : number_at point (name_vars it spots param.name).mark ≡ pos 0 = ap (number_at point) (ready.unranged param there is) ∙ ready.numbers.zero_is in
      (λ i. poison_if (int_eq (zero i) (pos 1)) (unsigned_abs (number i))) ∙ sym (ap (λ (o : Option Range). ranged o arg) is)
  param_said param there (Some range) is arg number = range_said param there range is arg number ∙ sym (ap (λ (o : Option Range). ranged o arg) is)

  given_one : (param : Param) → Contains it.func.params param → (arg : ℕ) (at : ValueVars) → name_vars it spots param.name ≡ at → number_at point at.number ≡ pos arg → IsGiven point ((param, arg), at)
  given_one param there arg at same number = record {
    mark = subst (λ (v : ValueVars). IsMark (number_at point v.mark)) same (param_mark param there param.range refl);
    value = ap (λ (v : ValueVars). value_at v point) (sym same) ∙ param_said param there param.range refl arg (ap (λ (v : ValueVars). number_at point v.number) same ∙ number);
  }

  given_all : (params : List Param) (args : List ℕ) (values : List ValueVars) → length params ≤ length values → ((param : Param) → Contains params param → Contains it.func.params param)
      → ((i : ℕ) → i < length params → name_vars it spots (get_or (map param_name params) i []) ≡ get_or values i (value_vars 0 0))
      → All (IsArgument point) (zip (zip params args) values) → All (IsGiven point) (zip (zip params args) values)
  given_all [] args values few inside stands given = All-nil (IsGiven point)
  given_all (param ∷ params) [] values few inside stands given = All-nil (IsGiven point)
  given_all (param ∷ params) (arg ∷ args) [] few inside stands given = absurd (omega (arith, few))
  given_all (param ∷ params) (arg ∷ args) (at ∷ values) few inside stands given =
      let here = All-head (IsArgument point) ((param, arg), at) (zip (zip params args) values) given in
      All-cons (IsGiven point) ((param, arg), at) (zip (zip params args) values) (given_one param (inside param (in_here param params)) arg at (stands 0 (omega arith)) here)
      (given_all params args values (omega (arith, few)) (λ other there. inside other (in_there param other params there)) (λ i low. stands (suc i) (omega (arith, low))) (All-tail (IsArgument point) ((param, arg), at) (zip (zip params args) values) given))

  pub agrees : (args : List ℕ) → length args ≡ length it.func.params → All (IsArgument point) (zip (zip it.func.params args) spots.values.items) → AgreesWith it spots point args
  agrees args one_each given = record {
    one_each = one_each;
    given = given_all it.func.params args spots.values.items are.params (λ param there. there)
        (name_at it sound spots are point ready.marks known placed from to stand within hold (has_pieces it sound spots placed all) path ready.taken) given;
  }
