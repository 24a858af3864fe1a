-- Where the pieces of a function hold, a point tells the values along the path that it takes.
use Rattle.std.proofs.Common.{◌≡◌, ◌⊎◌, inl, inr, ◌<◌, ◌≤◌, ℕ, suc, ℤ, List, [], ◌∷◌, ◌++◌, length, get_or, map, true, Option, Some, None, option_map, refl, sym, ◌∙◌, ap, subst, arith}
use Rattle.std.specs.Prelude.{Contains, All, zip, flat_map}
use Rattle.std.specs.List.{AllByRecursion, AllZip}
use Rattle.std.specs.Option.{unwrap_or, IfSome}
use Rattle.std.proofs.lemmas.Bool.{not-false}
use Rattle.std.proofs.lemmas.List.{get_or_append_left, length-map, length-append}
use Rattle.std.proofs.lemmas.List.Elements.{All-contains, All-head, All-tail, Contains-append_left}
use Rattle.ll_tree.specs.Formed.{IsFormedBlock, IsFormedInstr}
use Rattle.ll_tree.specs.declared.func.Param.{Param}
use Rattle.ll_tree.specs.declared.block.Block.{Block}
use Rattle.ll_tree.specs.declared.block.Phi.{Phi}
use Rattle.ll_tree.specs.declared.block.Instr.{Instr}
use Rattle.ll_tree.specs.declared.block.PhiEntry.{PhiEntry}
use Rattle.ll_tree.specs.declared.block.Operand.{Operand}
use Rattle.ll_tree.specs.declared.block.Operand.TheVariants as operand
use Rattle.flow_graph.specs.Paths.{HasEdge}
use Rattle.ir_constants.specs.Counted.{entries_of}
use Rattle.ll_rules.specs.Items.{OfPhi, OfInstr, OfEnd, items_of, parts_of, Use, Goal, result_width, values_of}
use Rattle.ll_rules.specs.Arithmetic.{is_linear}
use Rattle.name_table.specs.Names.{AreDifferent, place_of}
use Rattle.ll_flow.proofs.PlaceLaws.{no_item, cons_cases, place_is}
use Rattle.ll_links.specs.declared.link.Source.TheVariants as source
use Rattle.ll_links.specs.Links.{value_id, value_source}
use Rattle.ll_verifier.specs.Sound.{SoundFunc, IsSound}
use Rattle.ir_runs.specs.Values.{Vals, ranged, op_value, phi_value}
use Rattle.ir_runs.specs.Walk.{IsValued, AreValued, IsGiven as IsGivenTo, block_names}
use Rattle.ir_runs.proofs.MemberLaws.{in_here, in_there, in_map, in_flat}
use Rattle.ir_runs.proofs.NamesLaws.{value_name, param_names}
use Rattle.ir_runs.proofs.WidthLaws.{values_named, without_labels}
use Rattle.ir_runs.proofs.EntryLaws.{not_entry}
use Rattle.ir_runs.proofs.BlockLaws.{split_at, instr_among}
use Rattle.path_values.specs.Way.{HasValues, told}
use Rattle.portion_cuts.specs.Paths.{label_at, IsPath}
use Rattle.wrap_rows.specs.declared.vars.ValueVars.{ValueVars}
use Rattle.wrap_rows.specs.Layout.{Holds}
use Rattle.wrap_rows.specs.Piece.{AreIn}
use Rattle.wrap_rows.specs.Vars.{IsValue, value_at}
use Rattle.ir_pieces.specs.declared.piece.IrPiece.{IrPiece}
use Rattle.ir_pieces.specs.declared.piece.IrPiece.TheVariants as kind
use Rattle.ir_pieces.specs.declared.list.Placed.{Placed}
use Rattle.ir_pieces.specs.Pieces.{IsAt, ranges, layout, vars, CanFill, CanSay, meaning}
use Rattle.ir_pieces.specs.Lists.{end_of, ArePlaced, AreInRanges, AllHold}
use Rattle.ir_pieces.specs.Choice.{piece_of, AreOperands}
use Rattle.ir_pieces.proofs.ChoiceLaws.{takes, means}
use Rattle.ir_pieces.proofs.PieceLaws.{sound as piece_sound}
use Rattle.path_encoding.specs.declared.spots.PathSpots.{PathSpots}
use Rattle.path_encoding.specs.Spots.{value_vars, source_vars, block_at, AreSpotsOf}
use Rattle.path_encoding.specs.Paths.{Steps, IsTaken, AreMarks}
use Rattle.path_encoding.specs.Agree.{IsGiven, AgreesWith, blocks_on}
use Rattle.point_runs.specs.Told.{told_at}
use Rattle.point_runs.proofs.BlocksLaws.{path_low, label_is, block_there, begins}
use Rattle.value_pieces.specs.Pieces.{operands_of, name_vars}
use Rattle.piece_values.specs.Pieces.{HasPieces}
use Rattle.piece_values.specs.Known.{IsConst, AreKnown}
use Rattle.piece_values.proofs.NameLaws.{name_given, item_linear}
use Rattle.piece_values.proofs.OperandLaws.{are_operands, are_given, op_said}
use Rattle.piece_values.proofs.PhiLaws.{can_say, phi_said}

abbrev pub param_name : Param → List ℕ
param_name param = param.name

-- ---- lists

pub all_of_member : {X : Type 0} (P : X → Type 0) (xs : List X) (x : X) → AllByRecursion P xs → Contains xs x → P x
all_of_member P [] x all there = absurd (no_item x there)
all_of_member {X = X} P (first ∷ xs) x all there = by_cases (all_of_member P xs x all.1) (cons_cases first xs x there)
  where
    by_cases : (Contains xs x → P x) → (first ≡ x) ⊎ Contains xs x → P x
    by_cases rest (inl same) = subst P same all.0
    by_cases rest (inr later) = rest later

all_front : {X Y : Type 0} (P : Y → Type 0) (f : X → Y) (xs : List X) (ys : List Y) → ((x : X) → Contains xs x → P (f x)) → AllByRecursion P ys → AllByRecursion P (map f xs ++ ys)
all_front P f [] ys each rest = rest
all_front P f (x ∷ xs) ys each rest = (each x (in_here x xs), all_front P f xs ys (λ other there. each other (in_there x other xs there)) rest)

placed_at : (from to : ℕ) (placed : List Placed) (one : Placed) → ArePlaced from to placed → Contains placed one → IsAt one.piece one.first
placed_at from to [] one are there = absurd (no_item one there)
placed_at from to (first ∷ placed) one are there = by_cases (placed_at (end_of first) to placed one are.2) (cons_cases first placed one there)
  where
    by_cases : (Contains placed one → IsAt one.piece one.first) → (first ≡ one) ⊎ Contains placed one → IsAt one.piece one.first
    by_cases rest (inl same) = subst (λ (p : Placed). IsAt p.piece p.first) same are.1
    by_cases rest (inr later) = rest later

-- what holds of the piece that there is
of_some : {A : Type 0} (P : A → Type 0) (found : Option A) (a : A) → found ≡ Some a → IfSome found P → P a
of_some P found a is holds = subst (λ o. IfSome o P) is holds

module _ (it : SoundFunc) (sound : IsSound it) (spots : PathSpots) (are : AreSpotsOf it spots) (point : List ℤ) (marks : AreMarks spots point) (known : AreKnown it spots point)
    (placed : List Placed) (from to : ℕ) (stand : ArePlaced from to placed) (within : AreInRanges placed point) (hold : AllHold placed point) (pieces : HasPieces it spots placed) where
  abbrev said : Vals
  said = told (told_at it spots point)

  -- a piece that can be read says its meaning
  pub says : (one : Placed) → Contains placed one → CanSay one.piece point → value_at (vars one.piece one.first) point ≡ meaning one.piece point
  says one among can =
      piece_sound one.piece one.first point (placed_at from to placed one stand among) can
      (all_of_member (λ (p : Placed). AreIn p.first (ranges p.piece) point) placed one within among)
      (all_of_member (λ (p : Placed). Holds (layout p.piece p.first) point) placed one hold among)

  told_by : (name : List ℕ) (one : Placed) → Contains placed one → vars one.piece one.first ≡ name_vars it spots name → CanSay one.piece point → said name ≡ Some (meaning one.piece point)
  told_by name one among stands can = ap (λ (at : ValueVars). Some (value_at at point)) (sym stands) ∙ ap Some (says one among can)

  -- ---- operations

  module _ (block : Block) (there : Contains it.func.blocks block) (instr : Instr) (inside : Contains block.body instr) (width : ℕ) (has : result_width instr.op ≡ Some width) where
    formed : IsFormedInstr instr
    formed =
        let of_block : IsFormedBlock block = All-contains IsFormedBlock it.func.blocks block sound.rules.formed.blocks there in
        All-contains IsFormedInstr block.body instr of_block.body inside

    linear : is_linear instr.op ≡ true
    linear = not-false (is_linear instr.op) (item_linear it.func sound.rules block there (OfInstr instr) (instr_among block instr inside))

    operands : AreOperands instr.op (operands_of it spots instr.op) point
    operands =
        are_operands it spots point known.numbers instr.op formed.1 linear
        (λ name width used. known.values name width (name_given it.func sound.rules block there (OfInstr instr) (instr_among block instr inside) name width used))
        (known.constants.operations block there instr inside)

    operation_said : said instr.name ≡ op_value said instr.op
    operation_said =
        let piece = pieces.operations block there instr inside width has in
        let can = of_some (λ (p : IrPiece). CanFill p point × CanSay p point) (piece_of instr.op (operands_of it spots instr.op)) piece.one.piece piece.piece (takes point instr.op (operands_of it spots instr.op) known.numbers operands) in
        told_by instr.name piece.one piece.among piece.stands can.1
        ∙ sym (ap (option_map (λ (p : IrPiece). meaning p point)) piece.piece)
        ∙ means point instr.op (operands_of it spots instr.op) linear (are_given it spots point known.numbers instr.op) operands
        ∙ sym (op_said it spots point known.numbers instr.op)

  instr_valued : (block : Block) → Contains it.func.blocks block → (before : Option (List ℕ)) (instr : Instr) → Contains block.body instr → IsValued said before (OfInstr instr)
  instr_valued block there before instr inside = by_width (result_width instr.op) refl
    where
      by_width : (width : Option ℕ) → result_width instr.op ≡ width → IsGivenTo said (option_map (λ (w : ℕ). instr.name) (result_width instr.op)) (op_value said instr.op)
      by_width None is = subst (λ (o : Option ℕ). IsGivenTo said (option_map (λ (w : ℕ). instr.name) o) (op_value said instr.op)) (sym is) tt
      by_width (Some width) is = subst (λ (o : Option ℕ). IsGivenTo said (option_map (λ (w : ℕ). instr.name) o) (op_value said instr.op)) (sym is) (operation_said block there instr inside width is)

  block_valued : (block : Block) → Contains it.func.blocks block → (before : Option (List ℕ)) → ((phi : Phi) → Contains block.phis phi → IsValued said before (OfPhi phi)) → AllByRecursion (IsValued said before) (items_of block)
  block_valued block there before phis =
      all_front (IsValued said before) OfPhi block.phis (map OfInstr block.body ++ OfEnd block.end ∷ []) phis
      (all_front (IsValued said before) OfInstr block.body (OfEnd block.end ∷ []) (instr_valued block there before) (tt, tt))

  -- ---- phis

  module _ (at : ℕ) (low : at < length it.flow.order) (phi : Phi) (inside : Contains (block_at it at).phis phi) where
    abbrev phi_block : Block
    phi_block = block_at it at

    entries_named : (from : ℕ) → HasEdge it.flow.edges from at → (entry : PhiEntry) → Contains phi.entries entry → entry.from ≡ label_at it from → (name : List ℕ) → entry.value ≡ operand.Name name → IsValue phi.width (name_vars it spots name) point
    entries_named from edge entry among comes_from name is =
        let used : Contains (parts_of (OfPhi phi)) (Use entry.value phi.width) = in_flat (λ (entry : PhiEntry). Use entry.value phi.width ∷ Goal entry.from ∷ []) phi.entries entry (Use entry.value phi.width) among (in_here (Use entry.value phi.width) (Goal entry.from ∷ [])) in
        let item : Contains (items_of phi_block) (OfPhi phi) = Contains-append_left (map OfPhi phi_block.phis) (map OfInstr phi_block.body ++ OfEnd phi_block.end ∷ []) (OfPhi phi) (in_map OfPhi phi_block.phis phi inside) in
        known.values name phi.width (name_given it.func sound.rules phi_block (block_there it sound at low) (OfPhi phi) item name phi.width (subst (λ (o : Operand). Contains (parts_of (OfPhi phi)) (Use o phi.width)) is used))

    entries_const : (n : ℕ) → Contains (entries_of phi) (operand.Const n) → IsConst it spots point n
    entries_const = known.constants.entries phi_block (block_there it sound at low) phi inside

  -- ---- along a path

  module _ (path : List ℕ) (is : IsTaken it spots point path) where
    phi_valued : (before at : ℕ) → at < length it.flow.order → Steps path before at → (phi : Phi) → Contains (block_at it at).phis phi → said phi.name ≡ phi_value said (Some (label_at it before)) phi
    phi_valued before at low steps phi inside =
        let piece = pieces.phis at low phi inside in
        let of = piece.piece in
        let can : CanSay (kind.Phi of.of) point = can_say it sound spots are point known.numbers at low phi inside (entries_named at low phi inside) (entries_const at low phi inside) of.of of.width of.incoming marks path is before steps in
        told_by phi.name piece.one piece.among piece.stands (subst (λ (p : IrPiece). CanSay p point) (sym of.is) can)
        ∙ ap (λ (p : IrPiece). Some (meaning p point)) of.is
        ∙ sym (phi_said it sound spots are point known.numbers at low phi inside (entries_named at low phi inside) (entries_const at low phi inside) of.of of.width of.incoming marks path is before steps)

    low_on : (at : ℕ) → Contains path at → at < length it.flow.order
    low_on = path_low it sound path is.is_path

    along : (before : ℕ) (rest : List ℕ) → before < length it.flow.order → ((from to : ℕ) → Steps (before ∷ rest) from to → Steps path from to) → ((at : ℕ) → Contains rest at → at < length it.flow.order)
        → AreValued said (Some (block_at it before).label) (blocks_on it rest)
    along before [] low steps lows = tt
    along before (at ∷ rest) low steps lows =
        let here : at < length it.flow.order = lows at (in_here at rest) in
        let label : (block_at it before).label ≡ label_at it before = label_is it sound before low in (
          block_valued (block_at it at) (block_there it sound at here) (Some (block_at it before).label)
              (λ phi inside. phi_valued before at here (steps before at (inl (refl, refl))) phi inside ∙ ap (λ (l : List ℕ). phi_value said (Some l) phi) (sym label)),
          along at rest here (λ from to later. steps from to (inr later)) (λ other there. lows other (in_there at other rest there)),
        )

    -- the entry has no phi
    no_phi : (first : ℕ) (rest : List ℕ) → IsPath it.flow.edges (first ∷ rest) → first < length it.flow.order → (phi : Phi) → Contains (block_at it first).phis phi → ⊥
    no_phi first rest chain low phi inside =
        let block = block_at it first in
        let item : Contains (items_of block) (OfPhi phi) = Contains-append_left (map OfPhi block.phis) (map OfInstr block.body ++ OfEnd block.end ∷ []) (OfPhi phi) (in_map OfPhi block.phis phi inside) in
        let split = split_at (items_of block) (OfPhi phi) item in
        not_entry it.func sound.rules block (block_there it sound first low) split.0 split.1 phi split.2 inside (begins it sound (first ∷ rest) chain)

    values_on : (list : List ℕ) → path ≡ list → AreValued said None (blocks_on it list)
    values_on [] same = tt
    values_on (first ∷ rest) same =
        let chain : IsPath it.flow.edges (first ∷ rest) = subst (IsPath it.flow.edges) same is.is_path in
        let lows : (at : ℕ) → Contains (first ∷ rest) at → at < length it.flow.order = λ at there. low_on at (subst (λ (l : List ℕ). Contains l at) (sym same) there) in
        let low : first < length it.flow.order = lows first (in_here first rest) in (
          block_valued (block_at it first) (block_there it sound first low) None (λ phi inside. absurd (no_phi first rest chain low phi inside)),
          along first rest low (λ from to steps. subst (λ (l : List ℕ). Steps l from to) (sym same) steps) (λ at there. lows at (in_there first at rest there)),
        )

    -- ---- arguments

    pub name_at : (i : ℕ) → i < length it.func.params → name_vars it spots (get_or (map param_name it.func.params) i []) ≡ get_or spots.values.items i (value_vars 0 0)
    name_at i low =
        let names = map value_name (values_of it.func) in
        let named : names ≡ param_names it.func ++ flat_map block_names it.func.blocks = values_named it.func in
        let different : AreDifferent names = subst AreDifferent (sym named) (without_labels (param_names it.func) it.func.blocks sound.rules.names) in
        let below : i < length (param_names it.func) = omega (arith, low, length-map it.func.params param_name) in
        let same : get_or names i [] ≡ get_or (param_names it.func) i [] = ap (λ (l : List (List ℕ)). get_or l i []) named ∙ get_or_append_left (param_names it.func) (flat_map block_names it.func.blocks) [] i below in
        let within : i < length names = subst (λ (l : List (List ℕ)). i < length l) (sym named) (omega (arith, below, length-append (param_names it.func) (flat_map block_names it.func.blocks))) in
        let place : place_of (get_or (param_names it.func) i []) names ≡ Some i = ap (λ (n : List ℕ). place_of n names) (sym same) ∙ place_is names different i within in
        ap (λ (o : Option ℕ). source_vars spots (unwrap_or (value_source (option_map value_id o)) source.Poison)) place

    params_said : (params : List Param) (args : List ℕ) (values : List ValueVars) → length args ≡ length params → length params ≤ length values
        → ((i : ℕ) → i < length params → name_vars it spots (get_or (map param_name params) i []) ≡ get_or values i (value_vars 0 0))
        → All (IsGiven point) (zip (zip params args) values) → AllZip (λ param arg. said param.name ≡ Some (ranged param.range arg)) params args
    params_said [] [] values same few stands given = tt
    params_said [] (arg ∷ args) values same few stands given = absurd (omega (arith, same))
    params_said (param ∷ params) [] values same few stands given = absurd (omega (arith, same))
    params_said (param ∷ params) (arg ∷ args) [] same few stands given = absurd (omega (arith, few))
    params_said (param ∷ params) (arg ∷ args) (value ∷ values) same few stands given =
        let here = All-head (IsGiven point) ((param, arg), value) (zip (zip params args) values) given in (
          ap (λ (at : ValueVars). Some (value_at at point)) (stands 0 (omega arith)) ∙ ap Some here.value,
          params_said params args values (omega (arith, same)) (omega (arith, few)) (λ i low. stands (suc i) (omega (arith, low))) (All-tail (IsGiven point) ((param, arg), value) (zip (zip params args) values) given),
        )

    pub has_values : (args : List ℕ) → AgreesWith it spots point args → HasValues it.func args (blocks_on it path) said
    has_values args agrees = record {
      params = params_said it.func.params args spots.values.items agrees.one_each are.params name_at agrees.given;
      values = values_on path refl;
    }
