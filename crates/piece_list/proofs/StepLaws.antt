-- One item more: its piece is kept, or it has none.
use Rattle.std.proofs.Common.{◌≡◌, ◌+◌, ◌^◌, ◌<◌, ◌≤◌, ℕ, List, [], ◌∷◌, ◌++◌, length, take, drop, map, Option, Some, None, option_map, append_assoc, append-nil, length-append, refl, sym, ◌∙◌, ap, subst, arith}
use Rattle.std.specs.Prelude.{Contains, All, flat_map}
use Rattle.std.specs.List.{AllZip, range_with_len}
use Rattle.std.proofs.lemmas.List.{take-append-drop, drop_more, take_more, length-take}
use Rattle.std.proofs.lemmas.List.Concat.{flat_map-append}
use Rattle.std.proofs.lemmas.List.Elements.{All-weaker, All-set, Contains-append_right}
use Rattle.mix_system.specs.System.{System}
use Rattle.name_table.specs.Names.{place_of}
use Rattle.ll_tree.specs.declared.func.Param.{Param}
use Rattle.ll_tree.specs.declared.block.End.TheVariants as end
use Rattle.ll_rules.specs.Items.{Item, OfEnd, items_of, block_values, values_of}
use Rattle.ll_links.specs.declared.link.ValueId.{ValueId}
use Rattle.ll_links.specs.Links.{number_of, value_id}
use Rattle.ll_verifier.specs.Sound.{SoundFunc, IsSound}
use Rattle.ir_runs.specs.Walk.{block_names}
use Rattle.ir_runs.proofs.MemberLaws.{in_here, in_map, map_in, in_flat}
use Rattle.ir_runs.proofs.NamesLaws.{value_name, item_names, given_here}
use Rattle.wrap_rows.specs.declared.vars.ValueVars.{ValueVars}
use Rattle.ir_pieces.specs.declared.piece.IrPiece.{IrPiece}
use Rattle.ir_pieces.specs.declared.list.Placed.{Placed}
use Rattle.ir_pieces.specs.Pieces.{IsAt, ranges, vars}
use Rattle.ir_pieces.proofs.PieceLaws.{bounded}
use Rattle.path_encoding.specs.declared.spots.ConstSpot.{ConstSpot}
use Rattle.path_encoding.specs.declared.spots.PathSpots.{PathSpots}
use Rattle.path_encoding.specs.Spots.{block_at, Exist}
use Rattle.point_runs.proofs.BlocksLaws.{block_there}
use Rattle.value_pieces.specs.Pieces.{name_vars}
use Rattle.piece_values.specs.Owners.{Owner, range_owner, item_owner, block_owners, IsPieceOf}
use Rattle.piece_reads.specs.Given.{given_before, StandsBehind, AgreeOn}
use Rattle.piece_reads.proofs.GivenLaws.{given_more, agree_before, result_new, result_given}
use Rattle.piece_list.specs.declared.draft.Declared.{Declared}
use Rattle.piece_list.specs.Pieces.{put_vars}
use Rattle.piece_list.specs.Drafts.{SameButValues, IsKept, front_of, IsItem, owners_before, IsDrafted, GoesOn, IsOver}
use Rattle.piece_list.proofs.SpotLaws.{value_names, place_there, put_own, put_other}
use Rattle.piece_list.proofs.BoundLaws.{Below, vars_low}
use Rattle.piece_list.proofs.FollowLaws.{on_self, param_before}
use Rattle.piece_list.proofs.FormLaws.{blocks_few, items_few, items_count}

zip_more : {X Y : Type 0} (R : X → Y → Type 0) (xs : List X) (ys : List Y) (x : X) (y : Y) → AllZip R xs ys → R x y → AllZip R (xs ++ x ∷ []) (ys ++ y ∷ [])
zip_more R [] [] x y all last = (last, tt)
zip_more R [] (other ∷ ys) x y all last = absurd all
zip_more R (first ∷ xs) [] x y all last = absurd all
zip_more R (first ∷ xs) (other ∷ ys) x y all last = (all.0, zip_more R xs ys x y all.1 last)

all_low : (less more : ℕ) → less ≤ more → (vars : List ℕ) → All (λ var. var < less) vars → All (λ var. var < more) vars
all_low less more le vars all = All-weaker (λ var. var < less) (λ var. var < more) (λ var low. omega (arith, low, le)) vars all

-- more variables
pub exist_more : (less more : ℕ) → less ≤ more → (spots next : PathSpots) → SameButValues spots next → All (Below more) next.values.items → Exist less spots → Exist more next
exist_more less more le spots next same values exist = record {
  numbers = omega (arith, exist.numbers, le);
  blocks = subst (All (λ var. var < more)) (sym same.blocks) (all_low less more le spots.blocks.items exist.blocks);
  edges = subst (All (λ var. var < more)) (sym same.edges) (all_low less more le spots.edges.items exist.edges);
  cases = subst (All (λ var. var < more)) (sym same.cases) (all_low less more le spots.cases.items exist.cases);
  values = values;
  constants = subst (All (λ (spot : ConstSpot). spot.var < more)) (sym same.constants)
      (All-weaker (λ (spot : ConstSpot). spot.var < less) (λ (spot : ConstSpot). spot.var < more) (λ spot low. omega (arith, low, le)) spots.constants.items exist.constants);
}

pub all_below : (less more : ℕ) → less ≤ more → (values : List ValueVars) → All (Below less) values → All (Below more) values
all_below less more le values all = All-weaker (Below less) (Below more) (λ vars low. (omega (arith, low.0, le), omega (arith, low.1, le))) values all

module _ (it : SoundFunc) (sound : IsSound it) (at item : ℕ) (what : Item) (here : IsItem it at item what) where
  abbrev items : List Item
  items = items_of (block_at it at)

  abbrev front : List Item
  front = front_of it at item

  pub behind : StandsBehind it at front what
  behind = record {
    within = here.within;
    rest = drop (item + 1) items;
    items = sym (take-append-drop item items)
        ∙ ap (λ (list : List Item). take item items ++ list) (drop_more items item (OfEnd end.Unreachable) here.low ∙ ap (λ (one : Item). one ∷ drop (item + 1) items) here.is);
  }

  pub front_more : front_of it at (item + 1) ≡ front ++ what ∷ []
  front_more = take_more items item (OfEnd end.Unreachable) here.low ∙ ap (λ (one : Item). front ++ one ∷ []) here.is

  owners_more : owners_before it at (front ++ what ∷ []) ≡ owners_before it at front ++ item_owner at what
  owners_more =
      let before : List Owner = flat_map (λ (param : Param). range_owner param param.range) it.func.params ++ flat_map (block_owners it) (range_with_len 0 at) in
      let own : flat_map (item_owner at) (front ++ what ∷ []) ≡ flat_map (item_owner at) front ++ item_owner at what =
      flat_map-append (item_owner at) front (what ∷ []) ∙ ap (λ (list : List Owner). flat_map (item_owner at) front ++ list) (append-nil (item_owner at what)) in
      ap (λ (list : List Owner). before ++ list) own ∙ sym (append_assoc before (flat_map (item_owner at) front) (item_owner at what))

  front_size : length front ≡ item
  front_size = omega (arith, here.low, length-take item items)

  -- ---- an item without a piece

  pub skipped : (base : Declared) → IsDrafted it at front base → item_owner at what ≡ [] → item_names what ≡ [] → IsOver it at (item + 1) base base
  skipped base drafted no_owner no_name = record {
    drafted = subst (λ (list : List Item). IsDrafted it at list base) (sym front_more) more;
    on = on_self it base;
  }
    where
      names_same : given_before it at (front ++ what ∷ []) ≡ given_before it at front
      names_same = given_more it sound at front what behind ∙ ap (λ (names : List (List ℕ)). given_before it at front ++ names) no_name ∙ append-nil (given_before it at front)

      owners_same : owners_before it at (front ++ what ∷ []) ≡ owners_before it at front
      owners_same = owners_more ∙ ap (λ (list : List Owner). owners_before it at front ++ list) no_owner ∙ append-nil (owners_before it at front)

      more : IsDrafted it at (front ++ what ∷ []) base
      more = record {
        pieces = λ final agree. subst (λ (owners : List Owner). AllZip (IsPieceOf it final) owners base.placed.items) (sym owners_same)
            (drafted.pieces final (subst (λ (names : List (List ℕ)). AgreeOn it names base.spots final) names_same agree));
        stand = drafted.stand;
        exist = drafted.exist;
        edges = drafted.edges;
        values = drafted.values;
        few = omega (arith, drafted.few, length-append front (what ∷ []));
        room = drafted.room;
      }

  -- ---- an item with a piece

  module _ (base next : Declared) (drafted : IsDrafted it at front base) (piece : IrPiece) (stands : IsAt piece (length base.system.ranges)) where
    pub piece_small : length (ranges piece) ≤ 98
    piece_small = (bounded piece (length base.system.ranges) stands).vars

    pub has_room : length base.system.ranges + length (ranges piece) < 2 ^ 31
    has_room = omega (arith, piece_small, drafted.room, drafted.few, front_size, here.low, items_count it sound at here.within, items_few it sound at here.within, here.within, blocks_few it sound)

    module _ (name : List ℕ) (named : item_names what ≡ name ∷ []) where
      own_name : Contains (item_names what) name
      own_name = subst (λ (names : List (List ℕ)). Contains names name) (sym named) (in_here name [])

      pub value_there : Contains (value_names it.func) name
      value_there =
          let block = block_at it at in
          let there = block_there it sound at here.within in
          let inside : Contains (block_names block) name = given_here it.func sound.rules.names block there front behind.rest what behind.items name own_name in
          let found = map_in value_name (block_values block) name inside in
          let among : Contains {X = List ℕ × ℕ} (values_of it.func) found.0 =
          Contains-append_right {X = List ℕ × ℕ} (map (λ (param : Param). (param.name, param.width)) it.func.params) (flat_map block_values it.func.blocks) found.0 (in_flat block_values it.func.blocks block found.0 there found.1) in
          subst (Contains (value_names it.func)) found.2 (in_map value_name (values_of it.func) found.0 among)

      abbrev placing : (place : ℕ) × (place_of name (value_names it.func) ≡ Some place) × (place < length (values_of it.func))
      placing = place_there it name value_there

      pub number_is : number_of (values_of it.func) name ≡ Some (value_id placing.0)
      number_is = ap (λ (found : Option ℕ). option_map value_id found) placing.1

      pub place_low : placing.0 < length base.spots.values.items
      place_low = omega (arith, placing.2, drafted.values)

      module _ (kept : IsKept base next (number_of (values_of it.func) name) piece) where
        own_is : name_vars it next.spots name ≡ vars piece (length base.system.ranges)
        own_is = put_own it base.spots next.spots name (vars piece (length base.system.ranges)) placing.0 placing.1 kept.values place_low

        other_is : (other : List ℕ) → Contains (given_before it at front) other → name_vars it next.spots other ≡ name_vars it base.spots other
        other_is other given =
            put_other it base.spots next.spots name (vars piece (length base.system.ranges)) placing.0 placing.1 kept.values other
            (λ same. result_new it sound at front what behind name own_name (subst (Contains (given_before it at front)) same given))

        agree_front : AgreeOn it (given_before it at front) base.spots next.spots
        agree_front = record { edges = kept.same.edges; constants = kept.same.constants; values = other_is }

        sizes : length next.system.ranges ≡ length base.system.ranges + length (ranges piece)
        sizes = ap (λ (s : System). length s.ranges) kept.system ∙ length-append base.system.ranges (ranges piece)

        values_low : All (Below (length next.system.ranges)) next.spots.values.items
        values_low =
            let old : All (Below (length next.system.ranges)) base.spots.values.items = all_below (length base.system.ranges) (length next.system.ranges) (omega (arith, sizes)) base.spots.values.items drafted.exist.values in
            let new : Below (length next.system.ranges) (vars piece (length base.system.ranges)) = subst (λ (n : ℕ). Below n (vars piece (length base.system.ranges))) (sym sizes) (vars_low piece (length base.system.ranges) stands) in
            subst (All (Below (length next.system.ranges))) (sym kept.values) (put_all (number_of (values_of it.func) name) new old)
          where
            put_all : (id : Option ValueId) → Below (length next.system.ranges) (vars piece (length base.system.ranges)) → All (Below (length next.system.ranges)) base.spots.values.items
                → All (Below (length next.system.ranges)) (put_vars base.spots.values.items id (vars piece (length base.system.ranges)))
            put_all None new old = old
            put_all (Some id) new old = All-set (Below (length next.system.ranges)) base.spots.values.items id.0 (vars piece (length base.system.ranges)) new old

        goes : GoesOn it base next
        goes = record {
          own = record { first = length base.system.ranges; piece = piece } ∷ [];
          placed = kept.placed;
          follow = (refl, tt);
          system = kept.system ∙ (λ i. record base.system { ranges = base.system.ranges ++ sym (append-nil (ranges piece)) i });
          same = kept.same;
          params = record { edges = kept.same.edges; constants = kept.same.constants; values = λ other given. other_is other (param_before it at front other given) };
          compact = kept.compact;
        }

        pub over : (owner : Owner) → item_owner at what ≡ owner ∷ []
            → ((spots : PathSpots) → AgreeOn it (given_before it at front) base.spots spots → name_vars it spots name ≡ vars piece (length base.system.ranges) → IsPieceOf it spots owner (record { first = length base.system.ranges; piece = piece }))
            → IsOver it at (item + 1) base next
        over owner owned is_its = record { drafted = subst (λ (list : List Item). IsDrafted it at list next) (sym front_more) more; on = goes }
          where
            all_of : (final : PathSpots) → AgreeOn it (given_before it at (front ++ what ∷ [])) next.spots final → AllZip (IsPieceOf it final) (owners_before it at (front ++ what ∷ [])) next.placed.items
            all_of final agree =
                let before = agree_before it sound at front what behind next.spots final agree in
                let from_base : AgreeOn it (given_before it at front) base.spots final = record {
                  edges = before.edges ∙ kept.same.edges;
                  constants = before.constants ∙ kept.same.constants;
                  values = λ other given. before.values other given ∙ other_is other given;
                } in
                let own : name_vars it final name ≡ vars piece (length base.system.ranges) = agree.values name (result_given it sound at front what behind name own_name) ∙ own_is in
                let one : Placed = record { first = length base.system.ranges; piece = piece } in
                let zipped = zip_more (IsPieceOf it final) (owners_before it at front) base.placed.items owner one (drafted.pieces final from_base) (is_its final from_base own) in
                subst (λ (list : List Placed). AllZip (IsPieceOf it final) (owners_before it at (front ++ what ∷ [])) list) (sym kept.placed)
                (subst (λ (owners : List Owner). AllZip (IsPieceOf it final) owners (base.placed.items ++ one ∷ [])) (sym (owners_more ∙ ap (λ (list : List Owner). owners_before it at front ++ list) owned)) zipped)

            count : length next.placed.items ≡ length base.placed.items + 1
            count = ap length kept.placed ∙ length-append base.placed.items (record { first = length base.system.ranges; piece = piece } ∷ [])

            more : IsDrafted it at (front ++ what ∷ []) next
            more = record {
              pieces = all_of;
              stand = kept.stand drafted.stand;
              exist = exist_more (length base.system.ranges) (length next.system.ranges) (omega (arith, sizes)) base.spots next.spots kept.same values_low drafted.exist;
              edges = ap length kept.same.edges ∙ drafted.edges;
              values = kept.same.count ∙ drafted.values;
              few = omega (arith, drafted.few, count, length-append front (what ∷ []));
              room = omega (arith, drafted.room, count, sizes, piece_small);
            }
