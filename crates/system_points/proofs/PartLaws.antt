-- The parts of a function's system at a point: variables in their ranges, and clauses.
use Rattle.std.proofs.Common.{◌≡◌, ◌<◌, ◌≤◌, ◌+◌, ℕ, ℤ, pos, zero, suc, List, [], ◌∷◌, ◌++◌, length, get_or, map, Option, None, false, ◌≤ℤ◌, cond, leb, eqb, append_assoc, append-nil, length-append, refl, sym, ◌∙◌, ap, subst, arith}
use Rattle.std.specs.Prelude.{Contains, All, flat_map}
use Rattle.std.specs.Option.{unwrap_or}
use Rattle.std.specs.Map.{lookup}
use Rattle.std.specs.List.{range_with_len}
use Rattle.std.proofs.Math.ListN.{get_or-append}
use Rattle.std.proofs.lemmas.List.{length-map, get_or-map, get_or-append-add, get_or-take}
use Rattle.std.proofs.lemmas.List.FromFn.{length-range_with_len, get_or-range_with_len}
use Rattle.std.proofs.lemmas.List.Elements.{All-from_get_or, Contains-get_or, Contains-append_left, Contains-append_right}
use Rattle.mix_system.specs.declared.row.Part.{Part}
use Rattle.mix_system.specs.System.{System}
use Rattle.mix_system.specs.Row.{number_at}
use Rattle.ll_tree.specs.declared.func.Param.{Param}
use Rattle.ll_tree.specs.declared.func.Range.{Range}
use Rattle.ll_tree.specs.declared.block.Block.{Block}
use Rattle.ll_tree.specs.declared.block.Instr.{Instr}
use Rattle.ll_tree.specs.declared.block.Operand.{Operand}
use Rattle.ll_tree.specs.declared.block.Operand.TheVariants as operand
use Rattle.ll_rules.specs.Items.{block_values}
use Rattle.ll_links.specs.Links.{end_operands}
use Rattle.ll_verifier.specs.Sound.{SoundFunc, IsSound}
use Rattle.ir_runs.proofs.MemberLaws.{in_map, in_flat}
use Rattle.ir_constants.specs.Counted.{counted, counted_in, entries_of}
use Rattle.ir_constants.specs.Constants.{HasVar}
use Rattle.ir_constants.specs.Constants as constants
use Rattle.sound_costs.specs.Costs.{FuncCosts}
use Rattle.portion_cuts.specs.declared.portion.Region.{Region}
use Rattle.portion_cuts.proofs.WalkPaths.{position_of}
use Rattle.wrap_rows.specs.declared.vars.ValueVars.{ValueVars}
use Rattle.wrap_rows.specs.Layout.{StandsAt}
use Rattle.wrap_rows.specs.Normal.{row_of}
use Rattle.wrap_rows.specs.Piece.{AreIn}
use Rattle.wrap_rows.specs.Vars.{IsNumber, IsMark}
use Rattle.ir_pieces.specs.declared.list.Placed.{Placed}
use Rattle.ir_pieces.specs.Lists.{joined, AreInRanges}
use Rattle.path_encoding.specs.declared.spots.PathSpots.{PathSpots}
use Rattle.path_encoding.specs.Spots.{value_vars, constant_var, block_at, AreSpotsOf}
use Rattle.path_encoding.specs.PathLayout.{path_layout}
use Rattle.path_encoding.specs.Paths.{AreMarks}
use Rattle.path_encoding.proofs.GraphLaws.{counted as in_row}
use Rattle.value_pieces.specs.Pieces.{name_vars}
use Rattle.piece_values.specs.Known.{IsConst, HasConstants}
use Rattle.piece_values.proofs.OrderLaws.{block_is}
use Rattle.piece_list.specs.Params.{param_mark, param_ranges, params_vars, params_pieces}
use Rattle.piece_list.specs.Pieces.{own_ranges}
use Rattle.piece_list.proofs.SpotLaws.{name_at}
use Rattle.piece_list.proofs.ParamLaws.{param_place}
use Rattle.system_runs.specs.Parts.{AreParts}
use Rattle.system_points.specs.Places.{constants_in, first_block, first_edge, first_case, case_count, first_value, first_piece, fixed_ranges, bit_ranges, ranges_of}
use Rattle.system_points.specs.Encodes.{cost_rows, all_pieces, Encodes}
use Rattle.system_points.proofs.InLaws.{Ranges, in_parts, fixed_in, bits_in, joined_in, own_in, AreParams, params_in, param_in}

-- the mark of a parameter without a range is variable 0
unmarked : (first : ℕ) (params : List Param) (k : ℕ) (param : Param) → k < length params → (get_or params k param).range ≡ None → (get_or (params_vars first params) k (value_vars 0 0)).mark ≡ 0
unmarked first [] k param low is = absurd (omega (arith, low))
unmarked first (one ∷ params) zero param low is = ap (λ (range : Option Range). (value_vars first (param_mark first range)).mark) is
unmarked first (one ∷ params) (suc k) param low is = unmarked (first + length (param_ranges one)) params k param (omega (arith, low)) is

abbrev no_param : Param
no_param = record { name = []; width = 0; strict = false; range = None }

-- rows that stand behind some others
stands_behind : (front : List (List Part)) (mine : List (List Part)) (back rows : List (List Part)) (first : ℕ) → rows ≡ front ++ (map row_of mine ++ back) → length front ≡ first → StandsAt first mine rows
stands_behind front mine back rows first are size row low =
    let place : first + row ≡ length front + row = omega (arith, size) in
    ap (λ (list : List (List Part)). get_or list (first + row) []) are
    ∙ ap (λ (n : ℕ). get_or (front ++ (map row_of mine ++ back)) n []) place
    ∙ get_or-append-add front (map row_of mine ++ back) row []
    ∙ get_or-append (map row_of mine) back [] row (omega (arith, low, length-map mine row_of))
    ∙ get_or-map row_of mine row [] [] low

module _ (it : SoundFunc) (sound : IsSound it) (costs : FuncCosts) (regions : List Region) (system : System) (spots : PathSpots) (own : List Placed) (encodes : Encodes it costs regions system spots own) where
  abbrev pub placed : List Placed
  placed = all_pieces it own

  abbrev params : List Param
  params = it.func.params

  -- ---- spots

  pub spots_are : AreSpotsOf it spots
  spots_are = record {
    blocks = ap length encodes.order.blocks ∙ length-range_with_len (first_block it) (length it.flow.order);
    edges = ap length encodes.order.edges ∙ length-range_with_len (first_edge it) (length it.flow.edges);
    cases = ap length encodes.order.cases ∙ length-range_with_len (first_case it) (case_count it);
    params = omega (arith, encodes.order.count, length-append (map (λ (param : Param). (param.name, param.width)) params) (flat_map block_values it.func.blocks), length-map {B = List ℕ × ℕ} params (λ (param : Param). (param.name, param.width)));
  }

  param_is : (k : ℕ) (param : Param) → k < length params → name_vars it spots (get_or params k param).name ≡ get_or (params_vars (first_value it) params) k (value_vars 0 0)
  param_is k param low =
      name_at it spots (get_or params k param).name k (param_place it sound k param low)
      ∙ sym (get_or-take (length params) spots.values.items k (value_vars 0 0) low)
      ∙ ap (λ (list : List ValueVars). get_or list k (value_vars 0 0)) encodes.order.params

  pub parts : AreParts it spots placed 0 (length system.ranges)
  parts = record {
    vars = spots_are;
    stand = encodes.stand;
    pieces = encodes.pieces;
    unranged = λ param there is.
        let vars = subst (λ (p : Param). name_vars it spots p.name ≡ get_or (params_vars (first_value it) params) there.0 (value_vars 0 0)) there.2 (param_is there.0 param there.1) in
        ap (λ (v : ValueVars). v.mark) vars ∙ unmarked (first_value it) params there.0 param there.1 (ap (λ (p : Param). p.range) there.2 ∙ is);
  }

  -- ---- rows

  pub path_rows : StandsAt 0 (path_layout it spots).rows system.rows
  path_rows = stands_behind [] (path_layout it spots).rows (map row_of (joined placed).rows ++ map row_of (cost_rows it costs regions spots)) system.rows 0 encodes.rows refl

  pub piece_rows : StandsAt (length (path_layout it spots).rows) (joined placed).rows system.rows
  piece_rows =
      stands_behind (map row_of (path_layout it spots).rows) (joined placed).rows (map row_of (cost_rows it costs regions spots)) system.rows (length (path_layout it spots).rows) encodes.rows
      (length-map (path_layout it spots).rows row_of)

  pub spent_rows : StandsAt (length (path_layout it spots).rows + length (joined placed).rows) (cost_rows it costs regions spots) system.rows
  spent_rows =
      let paths = map row_of (path_layout it spots).rows in
      let pieces = map row_of (joined placed).rows in
      let spent = map row_of (cost_rows it costs regions spots) in
      let whole : paths ++ (pieces ++ spent) ≡ (paths ++ pieces) ++ (spent ++ []) = sym (append_assoc paths pieces spent) ∙ ap (λ (list : List (List Part)). (paths ++ pieces) ++ list) (sym (append-nil spent)) in
      stands_behind (paths ++ pieces) (cost_rows it costs regions spots) [] system.rows (length (path_layout it spots).rows + length (joined placed).rows) (encodes.rows ∙ whole)
      (omega (arith, length-append paths pieces, length-map (path_layout it spots).rows row_of, length-map (joined placed).rows row_of))

  -- ---- ranges

  abbrev fixed : Ranges
  fixed = fixed_ranges (0 ∷ 1 ∷ constants_in it)

  abbrev bits : Ranges
  bits = bit_ranges (length it.flow.order + length it.flow.edges + case_count it)

  fixed_size : 0 + length fixed ≡ first_block it
  fixed_size = omega (arith, length-map {B = ℤ × ℤ} (constants_in it) (λ (n : ℕ). (pos n, pos n)))

  bits_size : first_block it + length bits ≡ first_value it
  bits_size =
      let count = length it.flow.order + length it.flow.edges + case_count it in
      omega (arith, length-map {B = ℤ × ℤ} (range_with_len 0 count) (λ (k : ℕ). (pos 0, pos 1)), length-range_with_len 0 count)

  -- numbers in their ranges, part by part
  pub record ByParts (point : List ℤ) : Type 0 where
    pub numbers : (k : ℕ) → k < 2 + length (constants_in it) → number_at point k ≡ pos (get_or (0 ∷ 1 ∷ constants_in it) k 0)
    pub marks : (k : ℕ) → k < length it.flow.order + length it.flow.edges + case_count it → IsMark (number_at point (first_block it + k))
    pub arguments : AreParams point (first_value it) params
    pub pieces : AreInRanges placed point

  module _ (point : List ℤ) where
    pub in_by_parts : AreIn 0 (ranges_of it own) point → ByParts point
    in_by_parts are =
        let one = in_parts point 0 fixed (bits ++ (flat_map param_ranges params ++ own_ranges own)) are in
        let two = in_parts point (first_block it) bits (flat_map param_ranges params ++ own_ranges own) (subst (λ (n : ℕ). AreIn n (bits ++ (flat_map param_ranges params ++ own_ranges own)) point) fixed_size one.1) in
        let three = in_parts point (first_value it) (flat_map param_ranges params) (own_ranges own) (subst (λ (n : ℕ). AreIn n (flat_map param_ranges params ++ own_ranges own) point) bits_size two.1) in
        let given = params_in point (first_value it) params three.0 in
        record {
          numbers = λ k low. let start : k ≡ 0 + k = omega arith in ap (number_at point) start ∙ fixed_in point 0 (0 ∷ 1 ∷ constants_in it) one.0 k (omega (arith, low));
          marks = bits_in point (first_block it) 0 (length it.flow.order + length it.flow.edges + case_count it) two.0;
          arguments = given.0;
          pieces = joined_in point (params_pieces (first_value it) params) own given.1 (own_in point (first_piece it) own encodes.follow three.1);
        }

    marks_of : (first count from : ℕ) → first ≡ first_block it + from → from + count ≤ length it.flow.order + length it.flow.edges + case_count it → ByParts point → All (λ var. IsMark (number_at point var)) (range_with_len first count)
    marks_of first count from start room by =
        All-from_get_or (λ (var : ℕ). IsMark (number_at point var)) (range_with_len first count) 0
        (λ k low.
        let fits : k < count = omega (arith, low, length-range_with_len first count) in
        let place : first_block it + (from + k) ≡ get_or (range_with_len first count) k 0 = omega (arith, start, get_or-range_with_len first count k 0 fits) in
        subst (λ (n : ℕ). IsMark (number_at point n)) place (by.marks (from + k) (omega (arith, fits, room))))

    pub marks_are : ByParts point → AreMarks spots point
    marks_are by = record {
      blocks = subst (All (λ var. IsMark (number_at point var))) (sym encodes.order.blocks) (marks_of (first_block it) (length it.flow.order) 0 (omega arith) (omega arith) by);
      edges = subst (All (λ var. IsMark (number_at point var))) (sym encodes.order.edges) (marks_of (first_edge it) (length it.flow.edges) (length it.flow.order) refl (omega arith) by);
    }

    pub arguments_are : AreParams point (first_value it) params → (param : Param) → Contains params param → IsNumber param.width (number_at point (name_vars it spots param.name).number)
    arguments_are are param there =
        let mine = param_in point (first_value it) params are there.0 param there.1 in
        subst (λ (p : Param). IsNumber p.width (number_at point (name_vars it spots p.name).number)) there.2
        (subst (λ (v : ValueVars). IsNumber (get_or params there.0 param).width (number_at point v.number)) (sym (param_is there.0 param there.1)) mine)

    -- ---- constants

    module _ (has_var : (n : ℕ) → Contains (flat_map counted_in (map (block_at it) (range_with_len 0 (length it.flow.order)))) (operand.Const n) → HasVar (constants_in it) n) (numbers : (k : ℕ) → k < 2 + length (constants_in it) → number_at point k ≡ pos (get_or (0 ∷ 1 ∷ constants_in it) k 0)) where
      var_same : (n : ℕ) → constant_var spots.constants.items n ≡ constants.constant_var (constants_in it) n
      var_same n = ap (λ (pairs : List (ℕ × ℕ)). cond (leb n 1) n (unwrap_or (lookup (λ value. eqb value n) pairs) 0)) encodes.order.constants

      const_is : (n : ℕ) → Contains (flat_map counted_in (map (block_at it) (range_with_len 0 (length it.flow.order)))) (operand.Const n) → IsConst it spots point n
      const_is n there =
          let has = has_var n there in
          ap (number_at point) (var_same n) ∙ numbers (constants.constant_var (constants_in it) n) has.within ∙ ap pos has.stands

      counted_there : (block : Block) → Contains it.func.blocks block → (one : Operand) → Contains (counted_in block) one → Contains (flat_map counted_in (map (block_at it) (range_with_len 0 (length it.flow.order)))) one
      counted_there block there one inside =
          let at = position_of it sound block there in
          let same : block ≡ block_at it at.0 = block_is it sound block there at.0 at.1 at.2 in
          let among = in_map (block_at it) (range_with_len 0 (length it.flow.order)) at.0 (in_row 0 (length it.flow.order) at.0 (omega arith) (omega (arith, at.1))) in
          in_flat counted_in (map (block_at it) (range_with_len 0 (length it.flow.order))) (block_at it at.0) one among (subst (λ (b : Block). Contains (counted_in b) one) same inside)

      pub has_constants : HasConstants it spots point
      has_constants = record {
        operations = λ block there instr among n one. const_is n
            (counted_there block there (operand.Const n) (Contains-append_right (flat_map entries_of block.phis) (flat_map (λ (instr : Instr). counted instr.op) block.body ++ end_operands block.end) (operand.Const n)
            (Contains-append_left (flat_map (λ (instr : Instr). counted instr.op) block.body) (end_operands block.end) (operand.Const n) (in_flat (λ (instr : Instr). counted instr.op) block.body instr (operand.Const n) among one))));
        entries = λ block there phi among n one. const_is n
            (counted_there block there (operand.Const n) (Contains-append_left (flat_map entries_of block.phis) (flat_map (λ (instr : Instr). counted instr.op) block.body ++ end_operands block.end) (operand.Const n)
            (in_flat entries_of block.phis phi (operand.Const n) among one)));
        ends = λ block there n one. const_is n
            (counted_there block there (operand.Const n) (Contains-append_right (flat_map entries_of block.phis) (flat_map (λ (instr : Instr). counted instr.op) block.body ++ end_operands block.end) (operand.Const n)
            (Contains-append_right (flat_map (λ (instr : Instr). counted instr.op) block.body) (end_operands block.end) (operand.Const n) one)));
      }

  -- the arguments' numbers aren't negative
  pub some_argument : (point : List ℤ) → ((param : Param) → Contains params param → IsNumber param.width (number_at point (name_vars it spots param.name).number))
      → (k : ℕ) → k < length params → pos 0 ≤ℤ number_at point (get_or spots.values.items k (value_vars 0 0)).number
  some_argument point each k low =
      let param : Param = get_or params k no_param in
      let stands = name_at it spots param.name k (param_place it sound k no_param low) in
      subst (λ (v : ValueVars). pos 0 ≤ℤ number_at point v.number) stands (each param (Contains-get_or params k no_param low)).0
