-- Parameters, and behind them all blocks: the whole.
use Rattle.std.proofs.Common.{◌≡◌, ◌<◌, ◌≤◌, ◌+◌, ◌++◌, ℕ, ℤ, zero, suc, List, [], ◌∷◌, length, get_or, take, map, None, false, append_assoc, length-append, refl, sym, ◌∙◌, ap, subst, arith}
use Rattle.std.specs.Prelude.{flat_map}
use Rattle.std.proofs.lemmas.List.{length-map}
use Rattle.std.proofs.lemmas.List.Elements.{Contains-get_or}
use Rattle.ll_tree.specs.declared.func.Param.{Param}
use Rattle.ll_rules.specs.Items.{block_values, values_of}
use Rattle.ll_verifier.specs.Sound.{SoundFunc, IsSound}
use Rattle.ir_runs.proofs.MemberLaws.{in_map}
use Rattle.ir_pieces.specs.declared.list.Placed.{Placed}
use Rattle.path_encoding.specs.Spots.{value_vars}
use Rattle.piece_list.specs.declared.draft.Declared.{Declared}
use Rattle.piece_list.specs.Params.{param_ranges}
use Rattle.piece_list.specs.Pieces.{FollowOn, own_ranges}
use Rattle.piece_list.specs.Drafts.{AreLeft, IsOver}
use Rattle.piece_list.specs.Values.{AreDeclared}
use Rattle.piece_list.proofs.SpotLaws.{name_at}
use Rattle.piece_list.proofs.FollowLaws.{same_then, param_there}
use Rattle.piece_list.proofs.ParamLaws.{param_place, values_made, placed_made, ranges_made}
use Rattle.piece_list.proofs.EndLaws.{all_done}

-- two lists with the same first elements
abbrev no_param : Param
no_param = record { name = []; width = 0; range = None; strict = false }

take_same : {X : Type 0} (n : ℕ) (xs ys : List X) (d : X) → n ≤ length xs → n ≤ length ys → ((k : ℕ) → k < n → get_or xs k d ≡ get_or ys k d) → take n xs ≡ take n ys
take_same zero xs ys d few_x few_y same = refl
take_same (suc n) [] ys d few_x few_y same = absurd (omega (arith, few_x))
take_same (suc n) (x ∷ xs) [] d few_x few_y same = absurd (omega (arith, few_y))
take_same (suc n) (x ∷ xs) (y ∷ ys) d few_x few_y same =
    let here = same 0 (omega arith) in
    let rest = take_same n xs ys d (omega (arith, few_x)) (omega (arith, few_y)) (λ k low. same (suc k) (omega (arith, low))) in
    λ i. here i ∷ rest i

pub params_few : (it : SoundFunc) → length it.func.params ≤ length (values_of it.func)
params_few it =
    omega (arith, length-append (map (λ (param : Param). (param.name, param.width)) it.func.params) (flat_map block_values it.func.blocks), length-map {B = List ℕ × ℕ} it.func.params (λ (param : Param). (param.name, param.width)))

module _ (it : SoundFunc) (sound : IsSound it) (base made final : Declared) (left : AreLeft it (length it.func.params) base made) (over : IsOver it (length it.flow.order) 0 made final) (count : length base.spots.values.items ≡ length (values_of it.func)) where
  abbrev params : List Param
  params = it.func.params

  params_stay : (k : ℕ) → k < length params → get_or final.spots.values.items k (value_vars 0 0) ≡ get_or made.spots.values.items k (value_vars 0 0)
  params_stay k low =
      let one = get_or params k no_param in
      let given = param_there it one.name (in_map (λ (p : Param). p.name) params one (Contains-get_or params k no_param low)) in
      let place = param_place it sound k no_param low in
      sym (name_at it final.spots one.name k place) ∙ over.on.params.values one.name given ∙ name_at it made.spots one.name k place

  pub whole : AreDeclared it base.spots base.system final
  whole =
      let first = length base.system.ranges in
      let given = flat_map param_ranges params in
      let own = over.on.own in
      let made_is : made.system.ranges ≡ base.system.ranges ++ given = ranges_made it sound base made left in
      let size : length made.system.ranges ≡ first + length given = ap length made_is ∙ length-append base.system.ranges given in
      let joined : made.system.ranges ++ own_ranges own ≡ base.system.ranges ++ (given ++ own_ranges own) = ap (λ (list : List (ℤ × ℤ)). list ++ own_ranges own) made_is ∙ append_assoc base.system.ranges given (own_ranges own) in
      let few_made : length params ≤ length made.spots.values.items = omega (arith, params_few it, count, left.same.count) in
      let few_final : length params ≤ length final.spots.values.items = omega (arith, few_made, over.on.same.count) in
      record {
        own = own;
        params = take_same (length params) final.spots.values.items made.spots.values.items (value_vars 0 0) few_final few_made params_stay ∙ values_made it sound base made left;
        placed = over.on.placed ∙ ap (λ (list : List Placed). list ++ own) (placed_made it sound base made left);
        follow = subst (λ (n : ℕ). FollowOn n own) size over.on.follow;
        grown = over.on.system ∙ (λ i. record (left.system i) { ranges = joined i });
        same = same_then base.spots made.spots final.spots left.same over.on.same;
        pieces = all_done it final over.drafted;
        stand = over.drafted.stand;
        exist = over.drafted.exist;
        compact = λ compact. over.on.compact (left.compact compact);
      }
