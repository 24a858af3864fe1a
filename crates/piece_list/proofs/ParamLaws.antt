-- The parameters, one after the other.
use Rattle.std.proofs.Common.{◌≡◌, ◌+◌, ◌^◌, ◌<◌, ◌≤◌, ℕ, suc, List, [], ◌∷◌, ◌++◌, length, get_or, set, take, drop, Option, Some, None, append_assoc, append-nil, length-append, refl, sym, ◌∙◌, ap, subst, arith}
use Rattle.std.specs.Prelude.{All, Contains, flat_map}
use Rattle.std.specs.List.{AllZip, range_with_len}
use Rattle.std.proofs.Math.ListN.{get_or-append}
use Rattle.std.proofs.lemmas.List.{length-map, get_or-map, drop_more, drop_all, take_more_set, get_or-take}
use Rattle.std.proofs.lemmas.List.Elements.{All-set, Contains-get_or}
use Rattle.mix_system.specs.System.{System}
use Rattle.name_table.specs.Names.{place_of, AreDifferent}
use Rattle.ll_tree.specs.declared.func.Param.{Param}
use Rattle.ll_tree.specs.declared.func.Range.{Range}
use Rattle.ll_rules.specs.Items.{values_of}
use Rattle.ll_flow.proofs.PlaceLaws.{place_is}
use Rattle.ll_verifier.specs.Sound.{SoundFunc, IsSound}
use Rattle.ir_runs.specs.Walk.{block_names}
use Rattle.ir_runs.proofs.MemberLaws.{in_map}
use Rattle.ir_runs.proofs.NamesLaws.{param_names}
use Rattle.ir_runs.proofs.WidthLaws.{values_named, without_labels}
use Rattle.wrap_rows.specs.declared.vars.ValueVars.{ValueVars}
use Rattle.ir_pieces.specs.declared.piece.IrPiece.{IrPiece}
use Rattle.ir_pieces.specs.declared.list.Placed.{Placed}
use Rattle.ir_pieces.specs.Choice.{range_piece}
use Rattle.ir_pieces.specs.Lists.{ArePlaced}
use Rattle.path_encoding.specs.declared.spots.PathSpots.{PathSpots}
use Rattle.path_encoding.specs.Spots.{value_vars, Exist}
use Rattle.value_pieces.specs.Pieces.{name_vars}
use Rattle.piece_values.specs.Owners.{Owner, range_owner, block_owners, IsPieceOf}
use Rattle.piece_reads.specs.Given.{given_before, AgreeOn}
use Rattle.piece_list.specs.declared.draft.Declared.{Declared}
use Rattle.piece_list.specs.Params.{mark_ranges, param_ranges, param_mark, param_vars, placed_at, param_piece, params_vars, params_pieces}
use Rattle.piece_list.specs.Drafts.{SameButValues, AreLeft, IsDrafted}
use Rattle.piece_list.proofs.SpotLaws.{value_names, name_at}
use Rattle.piece_list.proofs.BoundLaws.{Below}
use Rattle.piece_list.proofs.RangeLaws.{IsAdded}
use Rattle.piece_list.proofs.FollowLaws.{same_self, same_then, param_there}
use Rattle.piece_list.proofs.StepLaws.{all_below, exist_more}

-- ---- a turn of the loop

marks_few : (range : Option Range) → length (mark_ranges range) ≤ 1
marks_few None = omega arith
marks_few (Some range) = omega arith

vars_below : (number : ℕ) (param : Param) → Below (number + length (param_ranges param)) (param_vars number param)
vars_below number param = (omega arith, mark_below param.range)
  where
    mark_below : (range : Option Range) → param_mark number range < number + suc (length (mark_ranges range))
    mark_below None = omega arith
    mark_below (Some range) = omega arith

piece_few : (first : ℕ) (param : Param) → length (param_piece first param) ≤ 1
piece_few first param = of_piece (range_piece param.range param.width first)
  where
    of_piece : (piece : Option IrPiece) → length (placed_at (first + 1) piece) ≤ 1
    of_piece None = omega arith
    of_piece (Some piece) = omega arith

module _ (it : SoundFunc) (base : Declared) where
  pub left_first : base.placed.items ≡ [] → Exist (length base.system.ranges) base.spots → length base.system.ranges ≤ 2 ^ 30 → AreLeft it 0 base base
  left_first none exist room = record {
    values = refl;
    placed = ap (λ (list : List Placed). list ++ params_pieces (length base.system.ranges) it.func.params) none;
    ranges = refl;
    system = refl;
    same = same_self base.spots;
    exist = exist;
    stand = subst (ArePlaced 0 (length base.system.ranges)) (sym none) (omega arith);
    room = omega (arith, room);
    few = omega (arith, ap length none);
    compact = λ is. is;
  }

  module _ (at : ℕ) (draft next : Declared) (param : Param) (left : AreLeft it at base draft) (low : at < length it.func.params) (is : get_or it.func.params at param ≡ param) (fits : at < length draft.spots.values.items)
      (vars : ValueVars) (added : IsAdded param vars draft.system next.system draft.placed.items next.placed.items)
      (written : next.spots.values.items ≡ set draft.spots.values.items at vars) (others : SameButValues draft.spots next.spots) where
    split : drop at it.func.params ≡ param ∷ drop (at + 1) it.func.params
    split = drop_more it.func.params at param low ∙ ap (λ (one : Param). one ∷ drop (at + 1) it.func.params) is

    sizes : length next.system.ranges ≡ length draft.system.ranges + length (param_ranges param)
    sizes = ap (λ (s : System). length s.ranges) added.grown ∙ length-append draft.system.ranges (param_ranges param)

    values_on : take (at + 1) next.spots.values.items ++ params_vars (length next.system.ranges) (drop (at + 1) it.func.params) ≡ take at draft.spots.values.items ++ params_vars (length draft.system.ranges) (drop at it.func.params)
    values_on =
        let one = param_vars (length draft.system.ranges) param in
        let rest = params_vars (length next.system.ranges) (drop (at + 1) it.func.params) in
        let taken : take (at + 1) next.spots.values.items ≡ take at draft.spots.values.items ++ one ∷ [] =
        ap (take (at + 1)) (written ∙ ap (set draft.spots.values.items at) added.vars_are) ∙ take_more_set draft.spots.values.items at one fits in
        ap (λ (list : List ValueVars). list ++ rest) taken ∙ append_assoc (take at draft.spots.values.items) (one ∷ []) rest
        ∙ ap (λ (n : ℕ). take at draft.spots.values.items ++ one ∷ params_vars n (drop (at + 1) it.func.params)) sizes
        ∙ ap (λ (list : List Param). take at draft.spots.values.items ++ params_vars (length draft.system.ranges) list) (sym split)

    placed_on : next.placed.items ++ params_pieces (length next.system.ranges) (drop (at + 1) it.func.params) ≡ draft.placed.items ++ params_pieces (length draft.system.ranges) (drop at it.func.params)
    placed_on =
        let one = param_piece (length draft.system.ranges) param in
        let rest = params_pieces (length next.system.ranges) (drop (at + 1) it.func.params) in
        ap (λ (list : List Placed). list ++ rest) added.placed ∙ append_assoc draft.placed.items one rest
        ∙ ap (λ (n : ℕ). draft.placed.items ++ (one ++ params_pieces n (drop (at + 1) it.func.params))) sizes
        ∙ ap (λ (list : List Param). draft.placed.items ++ params_pieces (length draft.system.ranges) list) (sym split)

    ranges_on : next.system.ranges ++ flat_map param_ranges (drop (at + 1) it.func.params) ≡ draft.system.ranges ++ flat_map param_ranges (drop at it.func.params)
    ranges_on =
        let rest = flat_map param_ranges (drop (at + 1) it.func.params) in
        ap (λ (s : System). s.ranges ++ rest) added.grown ∙ append_assoc draft.system.ranges (param_ranges param) rest
        ∙ ap (λ (list : List Param). draft.system.ranges ++ flat_map param_ranges list) (sym split)

    values_low : All (Below (length next.system.ranges)) next.spots.values.items
    values_low =
        let more = length next.system.ranges in
        let old = all_below (length draft.system.ranges) more (omega (arith, sizes)) draft.spots.values.items left.exist.values in
        let one : Below more vars = subst (Below more) (sym added.vars_are) (subst (λ (n : ℕ). Below n (param_vars (length draft.system.ranges) param)) (sym sizes) (vars_below (length draft.system.ranges) param)) in
        subst (All (Below more)) (sym written) (All-set (Below more) draft.spots.values.items at vars one old)

    pub left_more : AreLeft it (at + 1) base next
    left_more = record {
      values = values_on ∙ left.values;
      placed = placed_on ∙ left.placed;
      ranges = ranges_on ∙ left.ranges;
      system = added.grown ∙ (λ i. record (left.system i) { ranges = draft.system.ranges ++ param_ranges param }) ∙ (λ i. record base.system { ranges = sym (ap (λ (s : System). s.ranges) added.grown) i });
      same = same_then base.spots draft.spots next.spots left.same others;
      exist = exist_more (length draft.system.ranges) (length next.system.ranges) (omega (arith, sizes)) draft.spots next.spots others values_low left.exist;
      stand = added.stand left.stand;
      room = omega (arith, left.room, sizes, marks_few param.range);
      few = omega (arith, left.few, ap length added.placed, length-append draft.placed.items (param_piece (length draft.system.ranges) param), piece_few (length draft.system.ranges) param);
      compact = λ compact. added.compact (left.compact compact);
    }

-- ---- all parameters

module _ (it : SoundFunc) (sound : IsSound it) where
  abbrev params : List Param
  params = it.func.params

  names_differ : AreDifferent (value_names it.func)
  names_differ = subst AreDifferent (sym (values_named it.func)) (without_labels (param_names it.func) it.func.blocks sound.rules.names)

  -- a parameter's number is its place
  pub param_place : (at : ℕ) (param : Param) → at < length params → place_of (get_or params at param).name (value_names it.func) ≡ Some at
  param_place at param low =
      let stands : get_or (value_names it.func) at [] ≡ (get_or params at param).name =
      ap (λ (names : List (List ℕ)). get_or names at []) (values_named it.func)
      ∙ get_or-append (param_names it.func) (flat_map block_names it.func.blocks) [] at (omega (arith, low, length-map params (λ (p : Param). p.name)))
      ∙ get_or-map (λ (p : Param). p.name) params at param [] low in
      let size : at < length (value_names it.func) =
      omega (arith, low, ap length (values_named it.func), length-append (param_names it.func) (flat_map block_names it.func.blocks), length-map params (λ (p : Param). p.name)) in
      subst (λ (name : List ℕ). place_of name (value_names it.func) ≡ Some at) stands (place_is (value_names it.func) names_differ at size)

  -- the pieces of parameters whose variables are known
  module _ (final : PathSpots) where
    of_range : (param : Param) (first : ℕ) (range : Option Range) → param.range ≡ range → name_vars it final param.name ≡ value_vars first (param_mark first range) → AllZip (IsPieceOf it final) (range_owner param range) (placed_at (first + 1) (range_piece range param.width first))
    of_range param first None is vars = tt
    of_range param first (Some range) is vars = (
      record {
        stands = sym vars;
        piece = ap (λ (at : ValueVars). range_piece (Some range) param.width at.number) vars;
      },
      tt,
    )

    zip_join : {X Y : Type 0} (R : X → Y → Type 0) (xs more : List X) (ys others : List Y) → AllZip R xs ys → AllZip R more others → AllZip R (xs ++ more) (ys ++ others)
    zip_join R [] more [] others all later = later
    zip_join R [] more (y ∷ ys) others all later = absurd all
    zip_join R (x ∷ xs) more [] others all later = absurd all
    zip_join R (x ∷ xs) more (y ∷ ys) others all later = (all.0, zip_join R xs more ys others all.1 later)

    of_params : (list : List Param) (first : ℕ) → ((k : ℕ) (param : Param) → k < length list → name_vars it final (get_or list k param).name ≡ get_or (params_vars first list) k (value_vars 0 0))
        → AllZip (IsPieceOf it final) (flat_map (λ (param : Param). range_owner param param.range) list) (params_pieces first list)
    of_params [] first known = tt
    of_params (param ∷ list) first known =
        zip_join (IsPieceOf it final) (range_owner param param.range) (flat_map (λ (p : Param). range_owner p p.range) list) (param_piece first param) (params_pieces (first + length (param_ranges param)) list)
        (of_range param first param.range refl (known 0 param (omega arith)))
        (of_params list (first + length (param_ranges param)) (λ k other low. known (suc k) other (omega (arith, low))))

  module _ (base made : Declared) (left : AreLeft it (length params) base made) where
    none_left : drop (length params) params ≡ []
    none_left = drop_all (length params) params (omega arith)

    pub values_made : take (length params) made.spots.values.items ≡ params_vars (length base.system.ranges) params
    values_made =
        sym (append-nil (take (length params) made.spots.values.items))
        ∙ ap (λ (list : List Param). take (length params) made.spots.values.items ++ params_vars (length made.system.ranges) list) (sym none_left) ∙ left.values

    pub placed_made : made.placed.items ≡ params_pieces (length base.system.ranges) params
    placed_made = sym (append-nil made.placed.items) ∙ ap (λ (list : List Param). made.placed.items ++ params_pieces (length made.system.ranges) list) (sym none_left) ∙ left.placed

    pub ranges_made : made.system.ranges ≡ base.system.ranges ++ flat_map param_ranges params
    ranges_made = sym (append-nil made.system.ranges) ∙ ap (λ (list : List Param). made.system.ranges ++ flat_map param_ranges list) (sym none_left) ∙ left.ranges

    pub params_drafted : length made.spots.edges.items ≡ length it.flow.edges → length made.spots.values.items ≡ length (values_of it.func) → IsDrafted it 0 [] made
    params_drafted edges values = record {
      pieces = pieces;
      stand = left.stand;
      exist = left.exist;
      edges = edges;
      values = values;
      few = omega (arith, left.few, sound.rules.limits.params);
      room = omega (arith, left.room, sound.rules.limits.params);
    }
      where
        owners : List Owner
        owners = flat_map (λ (param : Param). range_owner param param.range) params

        known : (final : PathSpots) → AgreeOn it (given_before it 0 []) made.spots final → (k : ℕ) (param : Param) → k < length params → name_vars it final (get_or params k param).name ≡ get_or (params_vars (length base.system.ranges) params) k (value_vars 0 0)
        known final agree k param low =
            let one = get_or params k param in
            let given : Contains (param_names it.func) one.name = in_map (λ (p : Param). p.name) params one (Contains-get_or params k param low) in
            agree.values one.name (param_there it one.name given)
            ∙ name_at it made.spots one.name k (param_place k param low)
            ∙ sym (get_or-take (length params) made.spots.values.items k (value_vars 0 0) low)
            ∙ ap (λ (list : List ValueVars). get_or list k (value_vars 0 0)) values_made

        pieces : (final : PathSpots) → AgreeOn it (given_before it 0 []) made.spots final → AllZip (IsPieceOf it final) ((owners ++ flat_map (block_owners it) (range_with_len 0 0)) ++ []) made.placed.items
        pieces final agree =
            subst (λ (list : List Placed). AllZip (IsPieceOf it final) ((owners ++ []) ++ []) list) (sym placed_made)
            (subst (λ (list : List Owner). AllZip (IsPieceOf it final) list (params_pieces (length base.system.ranges) params)) (sym (append-nil (owners ++ []) ∙ append-nil owners))
            (of_params final params (length base.system.ranges) (known final agree)))
