-- The pieces of a function can be filled in one behind the other.
use Rattle.std.proofs.Common.{◌≡◌, ◌⊎◌, inl, inr, ◌+◌, ◌<◌, ⊎_elim, ℕ, ℤ, true, List, [], ◌∷◌, ◌++◌, length, map, Option, Some, option_map, option_to_list, refl, sym, ◌∙◌, ap, subst, arith, append-nil}
use Rattle.std.specs.Prelude.{Contains, flat_map}
use Rattle.std.specs.Option.{IfSome}
use Rattle.std.proofs.lemmas.Bool.{cases_lt}
use Rattle.std.proofs.lemmas.List.Concat.{flat_map-append}
use Rattle.std.proofs.lemmas.List.Elements.{All-contains, Contains-append_left, Contains-append_right, Contains-append_cases}
use Rattle.flow_graph.specs.Paths.{HasEdge}
use Rattle.ll_tree.specs.Formed.{IsFormedBlock, IsFormedInstr}
use Rattle.ll_tree.specs.declared.func.Func.{Func}
use Rattle.ll_tree.specs.declared.func.Param.{Param}
use Rattle.ll_tree.specs.declared.block.Block.{Block}
use Rattle.ll_tree.specs.declared.block.Phi.{Phi}
use Rattle.ll_tree.specs.declared.block.PhiEntry.{PhiEntry}
use Rattle.ll_tree.specs.declared.block.Instr.{Instr}
use Rattle.ll_tree.specs.declared.block.Operand.{Operand}
use Rattle.ll_tree.specs.declared.block.Operand.TheVariants as operand
use Rattle.ll_rules.specs.Items.{Item, OfPhi, OfInstr, items_of, op_parts, parts_of, Use, Goal, result_width, named, block_values, values_of}
use Rattle.ll_rules.specs.Arithmetic.{is_linear}
use Rattle.std.proofs.lemmas.Bool.{not-false}
use Rattle.name_table.specs.Names.{AreDifferent}
use Rattle.ll_flow.proofs.PlaceLaws.{no_item, cons_cases, absent}
use Rattle.ll_verifier.specs.Sound.{SoundFunc, IsSound}
use Rattle.ll_verifier.specs.Rules.{Rules}
use Rattle.ir_runs.specs.Walk.{block_names}
use Rattle.ir_runs.proofs.MemberLaws.{in_here, in_map, in_flat}
use Rattle.ir_runs.proofs.NamesLaws.{value_name, item_names, names_in, param_names, block_names_are}
use Rattle.ir_runs.proofs.WidthLaws.{values_named, without_labels}
use Rattle.portion_cuts.specs.Paths.{label_at}
use Rattle.portion_cuts.proofs.LabelLaws.{edge_within}
use Rattle.wrap_rows.specs.declared.vars.ValueVars.{ValueVars}
use Rattle.wrap_rows.specs.Piece.{AreIn}
use Rattle.wrap_rows.specs.Vars.{IsValue}
use Rattle.ir_pieces.specs.declared.piece.IrPiece.{IrPiece}
use Rattle.ir_pieces.specs.declared.piece.IrPiece.TheVariants as kind
use Rattle.ir_pieces.specs.declared.list.Placed.{Placed}
use Rattle.ir_pieces.specs.Pieces.{ranges, vars, CanFill, CanSay}
use Rattle.ir_pieces.specs.Lists.{AreReady}
use Rattle.ir_pieces.specs.Choice.{piece_of}
use Rattle.ir_pieces.proofs.ChoiceLaws.{takes}
use Rattle.path_encoding.specs.declared.spots.PathSpots.{PathSpots}
use Rattle.path_encoding.specs.Spots.{block_at, AreSpotsOf}
use Rattle.point_runs.proofs.BlocksLaws.{block_there}
use Rattle.value_pieces.specs.Pieces.{operands_of, name_vars}
use Rattle.piece_values.specs.Owners.{PhiOwner, OpOwner, IsPieceOf}
use Rattle.piece_values.specs.Ready.{IsReady}
use Rattle.piece_values.proofs.NameLaws.{name_given, item_linear}
use Rattle.piece_values.proofs.OperandLaws.{are_operands}
use Rattle.piece_values.proofs.PhiLaws.{can_fill}
use Rattle.piece_values.proofs.RangeLaws.{phi_value, op_value}
use Rattle.piece_values.proofs.OrderLaws.{IsGivenBefore, used_before, entry_before}

abbrev Pair : Type 0
Pair = List ℕ × ℕ

-- ---- a value has one width

pairs_same : (values : List Pair) → AreDifferent (map value_name values) → (name : List ℕ) (a b : ℕ) → Contains {X = Pair} values (name, a) → Contains {X = Pair} values (name, b) → a ≡ b
pairs_same [] different name a b in_a in_b = absurd (no_item {X = Pair} (name, a) in_a)
pairs_same (first ∷ values) different name a b in_a in_b = by_cases (pairs_same values different.1 name a b) (cons_cases {X = Pair} first values (name, a) in_a) (cons_cases {X = Pair} first values (name, b) in_b)
  where
    never : (width : ℕ) → value_name first ≡ name → Contains {X = List ℕ × ℕ} values (name, width) → ⊥
    never width is there = absent (value_name first) (map value_name values) different.0 (subst (λ (n : List ℕ). Contains (map value_name values) n) (sym is) (in_map value_name values (name, width) there))

    by_cases : (Contains {X = List ℕ × ℕ} values (name, a) → Contains {X = List ℕ × ℕ} values (name, b) → a ≡ b) → ◌≡◌ {A = List ℕ × ℕ} first (name, a) ⊎ Contains {X = List ℕ × ℕ} values (name, a) → ◌≡◌ {A = List ℕ × ℕ} first (name, b) ⊎ Contains {X = List ℕ × ℕ} values (name, b) → a ≡ b
    by_cases rest (inl is_a) (inl is_b) = ap (λ (value : List ℕ × ℕ). value.1) (sym is_a ∙ is_b)
    by_cases rest (inl is_a) (inr later) = absurd (never b (ap value_name is_a) later)
    by_cases rest (inr later) (inl is_b) = absurd (never a (ap value_name is_b) later)
    by_cases rest (inr later_a) (inr later_b) = rest later_a later_b

one_width : (func : Func) → Rules func → (name : List ℕ) (a b : ℕ) → Contains {X = Pair} (values_of func) (name, a) → Contains {X = Pair} (values_of func) (name, b) → a ≡ b
one_width func rules = pairs_same (values_of func) (subst AreDifferent (sym (values_named func)) (without_labels (param_names func) func.blocks rules.names))

pub of_some : {A : Type 0} (P : A → Type 0) (found : Option A) (a : A) → found ≡ Some a → IfSome found P → P a
of_some P found a is holds = subst (λ o. IfSome o P) is holds

module _ (it : SoundFunc) (sound : IsSound it) (spots : PathSpots) (are : AreSpotsOf it spots) (path : List ℕ) where
  abbrev pub Points : Type 1
  Points = List ℤ → Type 0

  abbrev All_ready : Points → List Placed → Type 0
  All_ready Known placed = AreReady Known placed

  abbrev pub IsVal : List ℤ → List ℕ → ℕ → Type 0
  IsVal point name width = IsValue width (name_vars it spots name) point

  abbrev pub IsValueOf : List ℕ → ℕ → Type 0
  IsValueOf name width = Contains {X = Pair} (values_of it.func) (name, width)

  -- a name's value is known by one of its widths
  pub any_width : (name : List ℕ) (own width : ℕ) (point : List ℤ) → IsValueOf name own → IsValueOf name width → IsVal point name own → IsVal point name width
  any_width name own width point mine there is = subst (λ (w : ℕ). IsVal point name w) (one_width it.func sound.rules name own width mine there) is

  -- ---- what is known in a block

  abbrev pub GivenAt : ℕ → List Item → List ℕ → Type 0
  GivenAt at front name = IsGivenBefore it sound at name ⊎ Contains (names_in front) name

  pub record Knows (Known : Points) (at : ℕ) (front : List Item) : Type 0 where
    pub ready : (point : List ℤ) → Known point → IsReady it spots path point
    pub values : (point : List ℤ) → Known point → (name : List ℕ) (width : ℕ) → IsValueOf name width → GivenAt at front name → IsVal point name width

  names_more : (front : List Item) (item : Item) (name : List ℕ) → Contains (names_in (front ++ item ∷ [])) name → Contains (names_in front) name ⊎ Contains (item_names item) name
  names_more front item name there =
      let same : names_in (front ++ item ∷ []) ≡ names_in front ++ item_names item = flat_map-append item_names front (item ∷ []) ∙ ap (λ (names : List (List ℕ)). names_in front ++ names) (append-nil (item_names item)) in
      Contains-append_cases (names_in front) (item_names item) name (subst (λ (names : List (List ℕ)). Contains names name) same there)

  -- an item without a result
  pub knows_on : (Known : Points) (at : ℕ) (front : List Item) (item : Item) → item_names item ≡ [] → Knows Known at front → Knows Known at (front ++ item ∷ [])
  knows_on Known at front item none knows = record { ready = knows.ready; values = λ point is name width there given. knows.values point is name width there (earlier name given) }
    where
      earlier : (name : List ℕ) → GivenAt at (front ++ item ∷ []) name → GivenAt at front name
      earlier name (inl before) = inl before
      earlier name (inr own) =
          ⊎_elim (λ front_has. inr front_has) (λ mine. absurd (no_item name (subst (λ (names : List (List ℕ)). Contains names name) none mine))) (names_more front item name own)

  -- an item whose result has a value
  knows_more : (Known More : Points) (at : ℕ) (front : List Item) (item : Item) (result : List ℕ) (own : ℕ) → item_names item ≡ result ∷ [] → IsValueOf result own → ((point : List ℤ) → More point → Known point × IsVal point result own)
      → Knows Known at front → Knows More at (front ++ item ∷ [])
  knows_more Known More at front item result own names mine more knows = record {
    ready = λ point is. knows.ready point (more point is).0;
    values = λ point is name width there given. by_given point is name width there given;
  }
    where
      by_given : (point : List ℤ) → More point → (name : List ℕ) (width : ℕ) → IsValueOf name width → GivenAt at (front ++ item ∷ []) name → IsVal point name width
      by_given point is name width there (inl before) = knows.values point (more point is).0 name width there (inl before)
      by_given point is name width there (inr own_names) = by_own (names_more front item name own_names)
        where
          by_result : (result ≡ name) ⊎ Contains [] name → IsVal point name width
          by_result (inl same) =
              subst (λ (n : List ℕ). IsVal point n width) same (any_width result own width point mine (subst (λ (n : List ℕ). IsValueOf n width) (sym same) there) (more point is).1)
          by_result (inr none) = absurd (no_item name none)

          by_own : Contains (names_in front) name ⊎ Contains (item_names item) name → IsVal point name width
          by_own (inl earlier) = knows.values point (more point is).0 name width there (inr earlier)
          by_own (inr here) = by_result (cons_cases result [] name (subst (λ (all : List (List ℕ)). Contains all name) names here))

  -- at the end of a block
  pub knows_next : (Known : Points) (at : ℕ) → Knows Known at (items_of (block_at it at)) → Knows Known (at + 1) []
  knows_next Known at knows = record { ready = knows.ready; values = λ point is name width there given. knows.values point is name width there (before name given) }
    where
      before : (name : List ℕ) → GivenAt (at + 1) [] name → GivenAt at (items_of (block_at it at)) name
      before name (inr none) = absurd (no_item name none)
      before name (inl (inl param)) = inl (inl param)
      before name (inl (inr (block, is_before, of_block))) =
          ⊎_elim (λ below. inl (inr (block, record { position = is_before.position; below = below; low = is_before.low; is = is_before.is }, of_block)))
          (λ above.
          let same : is_before.position ≡ at = omega (arith, above, is_before.below) in
          let mine : block ≡ block_at it at = is_before.is ∙ ap (block_at it) same in
          inr (subst (λ (names : List (List ℕ)). Contains names name) (block_names_are (block_at it at)) (subst (λ (b : Block). Contains (block_names b) name) mine of_block)))
          (cases_lt is_before.position at)

  -- ---- the pieces of a block

  module _ (at : ℕ) (low : at < length it.flow.order) where
    abbrev block : Block
    block = block_at it at

    there : Contains it.func.blocks block
    there = block_there it sound at low

    formed : IsFormedBlock block
    formed = All-contains IsFormedBlock it.func.blocks block sound.rules.formed.blocks there

    value_of_block : (name : List ℕ) (width : ℕ) → Contains {X = Pair} (block_values block) (name, width) → IsValueOf name width
    value_of_block name width inside =
        Contains-append_right (map (λ (param : Param). (param.name, param.width)) it.func.params) (flat_map block_values it.func.blocks) (name, width) (in_flat block_values it.func.blocks block (name, width) there inside)

    module _ (front rest : List Item) where
      inside_item : (item : Item) → items_of block ≡ front ++ item ∷ rest → Contains (items_of block) item
      inside_item item items = subst (λ (l : List Item). Contains l item) (sym items) (Contains-append_right front (item ∷ rest) item (in_here item rest))

      -- ---- a phi

      module _ (phi : Phi) (items : items_of block ≡ front ++ OfPhi phi ∷ rest) (inside : Contains block.phis phi) (Known : Points) (knows : Knows Known at front) (one : Placed) (is : IsPieceOf it spots (PhiOwner at phi) one) where
        pub phi_fills : (point : List ℤ) → Known point → CanFill one.piece point
        phi_fills point known =
            let ready = knows.ready point known in
            subst (λ (p : IrPiece). CanFill p point) (sym is.piece.is)
            (can_fill it sound spots are point ready.numbers at low phi inside (entries_named point known) (ready.constants.entries block there phi inside) is.piece.of is.piece.width is.piece.incoming ready.marks path ready.taken)
          where
            entries_named : (point : List ℤ) → Known point → (from : ℕ) → HasEdge it.flow.edges from at → (entry : PhiEntry) → Contains phi.entries entry → entry.from ≡ label_at it from → (name : List ℕ) → entry.value ≡ operand.Name name → IsVal point name phi.width
            entries_named point known from edge entry among comes_from name is_name =
                let used : Contains (parts_of (OfPhi phi)) (Use entry.value phi.width) = in_flat (λ (entry : PhiEntry). Use entry.value phi.width ∷ Goal entry.from ∷ []) phi.entries entry (Use entry.value phi.width) among (in_here (Use entry.value phi.width) (Goal entry.from ∷ [])) in
                let from_low : from < length it.flow.order = (edge_within it sound from at edge).0 in
                knows.values point known name phi.width
                (name_given it.func sound.rules block there (OfPhi phi) (inside_item (OfPhi phi) items) name phi.width (subst (λ (o : Operand). Contains (parts_of (OfPhi phi)) (Use o phi.width)) is_name used))
                (inl (entry_before it sound at low front rest (OfPhi phi) items phi refl from edge from_low entry among comes_from name is_name))

        pub phi_known : Knows (λ point. Known point × AreIn one.first (ranges one.piece) point) at (front ++ OfPhi phi ∷ [])
        phi_known =
            knows_more Known (λ point. Known point × AreIn one.first (ranges one.piece) point) at front (OfPhi phi) phi.name phi.width refl
            (value_of_block phi.name phi.width (Contains-append_left (map (λ (phi : Phi). (phi.name, phi.width)) block.phis) (flat_map (λ (instr : Instr). named instr.name (result_width instr.op)) block.body) (phi.name, phi.width) (in_map (λ (phi : Phi). (phi.name, phi.width)) block.phis phi inside)))
            (λ point more. (more.0, phi_value it spots point one more.1 at phi is)) knows

      -- ---- an operation with a result

      module _ (instr : Instr) (items : items_of block ≡ front ++ OfInstr instr ∷ rest) (inside : Contains block.body instr) (width : ℕ) (has : result_width instr.op ≡ Some width) (Known : Points) (knows : Knows Known at front) (one : Placed) (is : IsPieceOf it spots (OpOwner instr) one) where
        pub op_fills : (point : List ℤ) → Known point → CanFill one.piece point
        op_fills point known =
            let ready = knows.ready point known in
            let instr_formed : IsFormedInstr instr = All-contains IsFormedInstr block.body instr formed.body inside in
            let linear : is_linear instr.op ≡ true = not-false (is_linear instr.op) (item_linear it.func sound.rules block there (OfInstr instr) (inside_item (OfInstr instr) items)) in
            let operands = are_operands it spots point ready.numbers instr.op instr_formed.1 linear (all_named point known) (ready.constants.operations block there instr inside) in
            (of_some (λ (p : IrPiece). CanFill p point × CanSay p point) (piece_of instr.op (operands_of it spots instr.op)) one.piece is.piece (takes point instr.op (operands_of it spots instr.op) ready.numbers operands)).0
          where
            all_named : (point : List ℤ) → Known point → (name : List ℕ) (w : ℕ) → Contains (op_parts instr.op) (Use (operand.Name name) w) → IsVal point name w
            all_named point known name w used =
                knows.values point known name w (name_given it.func sound.rules block there (OfInstr instr) (inside_item (OfInstr instr) items) name w used)
                (used_before it sound at low front rest (OfInstr instr) items (op_parts instr.op) (λ site. refl) name w used)

        pub op_known : Knows (λ point. Known point × AreIn one.first (ranges one.piece) point) at (front ++ OfInstr instr ∷ [])
        op_known =
            let pair : Contains {X = Pair} (named instr.name (result_width instr.op)) (instr.name, width) = subst (λ (o : Option ℕ). Contains {X = Pair} (named instr.name o) (instr.name, width)) (sym has) (in_here {X = Pair} (instr.name, width) []) in
            knows_more Known (λ point. Known point × AreIn one.first (ranges one.piece) point) at front (OfInstr instr) instr.name width (ap (λ (o : Option ℕ). option_to_list (option_map (λ (w : ℕ). instr.name) o)) has)
            (value_of_block instr.name width (Contains-append_right (map (λ (phi : Phi). (phi.name, phi.width)) block.phis) (flat_map (λ (instr : Instr). named instr.name (result_width instr.op)) block.body) (instr.name, width) (in_flat (λ (instr : Instr). named instr.name (result_width instr.op)) block.body instr (instr.name, width) inside pair)))
            (λ point more. (more.0, op_value it spots point one more.1 instr width has is))
            knows
