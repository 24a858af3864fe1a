-- Pieces one behind the other, and what goes on behind what.
use Rattle.std.proofs.Common.{◌≡◌, ◌+◌, ⊎_elim, ℕ, ℤ, List, [], ◌∷◌, ◌++◌, length, map, append_assoc, append-nil, length-append, refl, sym, ◌∙◌, ap, subst, arith}
use Rattle.std.specs.Prelude.{Contains, flat_map}
use Rattle.std.proofs.lemmas.List.Concat.{flat_map-append}
use Rattle.std.proofs.lemmas.List.Elements.{Contains-append_left, Contains-append_cases}
use Rattle.mix_system.specs.System.{System}
use Rattle.ll_rules.specs.Items.{Item}
use Rattle.ll_flow.proofs.PlaceLaws.{no_item}
use Rattle.ll_verifier.specs.Sound.{SoundFunc}
use Rattle.ir_runs.specs.Walk.{block_names, names_on}
use Rattle.ir_runs.proofs.NamesLaws.{param_names}
use Rattle.ir_pieces.specs.declared.list.Placed.{Placed}
use Rattle.ir_pieces.specs.Pieces.{ranges}
use Rattle.ir_pieces.specs.Lists.{end_of}
use Rattle.path_encoding.specs.declared.spots.ConstSpot.{ConstSpot}
use Rattle.path_encoding.specs.declared.spots.PathSpots.{PathSpots}
use Rattle.value_pieces.specs.Sources.{AreConstants}
use Rattle.piece_reads.specs.Given.{blocks_before, results_of, given_before, AgreeOn}
use Rattle.piece_list.specs.declared.draft.Declared.{Declared}
use Rattle.piece_list.specs.Pieces.{FollowOn, own_ranges}
use Rattle.piece_list.specs.Drafts.{SameButValues, front_of, IsDrafted, GoesOn, IsOver}

abbrev piece_ranges : Placed → List (ℤ × ℤ)
piece_ranges one = ranges one.piece

pub own_append : (xs ys : List Placed) → own_ranges (xs ++ ys) ≡ own_ranges xs ++ own_ranges ys
own_append xs ys = flat_map-append piece_ranges xs ys

pub follow_append : (from : ℕ) (xs ys : List Placed) → FollowOn from xs → FollowOn (from + length (own_ranges xs)) ys → FollowOn from (xs ++ ys)
follow_append from [] ys first later = subst (λ (n : ℕ). FollowOn n ys) (omega arith) later
follow_append from (x ∷ xs) ys first later =
    let size : length (own_ranges (x ∷ xs)) ≡ length (piece_ranges x) + length (own_ranges xs) = length-append (piece_ranges x) (own_ranges xs) in
    let on : from + length (own_ranges (x ∷ xs)) ≡ end_of x + length (own_ranges xs) = omega (arith, size, first.0) in
    (first.0, follow_append (end_of x) xs ys first.1 (subst (λ (n : ℕ). FollowOn n ys) on later))

-- ---- spots

pub same_self : (spots : PathSpots) → SameButValues spots spots
same_self spots = record { blocks = refl; edges = refl; cases = refl; constants = refl; count = refl }

pub same_then : (a b c : PathSpots) → SameButValues a b → SameButValues b c → SameButValues a c
same_then a b c one two = record {
  blocks = two.blocks ∙ one.blocks;
  edges = two.edges ∙ one.edges;
  cases = two.cases ∙ one.cases;
  constants = two.constants ∙ one.constants;
  count = two.count ∙ one.count;
}

module _ (it : SoundFunc) where
  abbrev Names : Type 0
  Names = List (List ℕ)

  pub agree_self : (names : Names) (spots : PathSpots) → AgreeOn it names spots spots
  agree_self names spots = record { edges = refl; constants = refl; values = λ name there. refl }

  pub agree_then : (names : Names) (a b c : PathSpots) → AgreeOn it names a b → AgreeOn it names b c → AgreeOn it names a c
  agree_then names a b c one two = record {
    edges = two.edges ∙ one.edges;
    constants = two.constants ∙ one.constants;
    values = λ name there. two.values name there ∙ one.values name there;
  }

  -- what is given before all is a parameter
  pub param_given : (name : List ℕ) → Contains (given_before it 0 []) name → Contains (param_names it.func) name
  param_given name there =
      ⊎_elim
      (λ on. ⊎_elim (λ param. param) (λ none. absurd (no_item name none)) (Contains-append_cases (param_names it.func) [] name on))
      (λ none. absurd (no_item name none))
      (Contains-append_cases (names_on it.func []) [] name there)

  pub param_before : (at : ℕ) (front : List Item) (name : List ℕ) → Contains (given_before it 0 []) name → Contains (given_before it at front) name
  param_before at front name there =
      Contains-append_left (names_on it.func (blocks_before it at)) (results_of front) name
      (Contains-append_left (param_names it.func) (flat_map block_names (blocks_before it at)) name (param_given name there))

  pub param_there : (name : List ℕ) → Contains (param_names it.func) name → Contains (given_before it 0 []) name
  param_there name param = Contains-append_left (names_on it.func []) [] name (Contains-append_left (param_names it.func) [] name param)

  -- ---- going on

  pub on_self : (base : Declared) → GoesOn it base base
  on_self base = record {
    own = [];
    placed = sym (append-nil base.placed.items);
    follow = tt;
    system = λ i. record base.system { ranges = sym (append-nil base.system.ranges) i };
    same = same_self base.spots;
    params = agree_self (given_before it 0 []) base.spots;
    compact = λ is. is;
  }

  pub on_then : (a b c : Declared) → GoesOn it a b → GoesOn it b c → GoesOn it a c
  on_then a b c one two =
      let placed : c.placed.items ≡ a.placed.items ++ (one.own ++ two.own) = two.placed ∙ ap (λ (list : List Placed). list ++ two.own) one.placed ∙ append_assoc a.placed.items one.own two.own in
      let size : length b.system.ranges ≡ length a.system.ranges + length (own_ranges one.own) = ap (λ (s : System). length s.ranges) one.system ∙ length-append a.system.ranges (own_ranges one.own) in
      let joined : (a.system.ranges ++ own_ranges one.own) ++ own_ranges two.own ≡ a.system.ranges ++ own_ranges (one.own ++ two.own) =
      append_assoc a.system.ranges (own_ranges one.own) (own_ranges two.own) ∙ ap (λ (list : List (ℤ × ℤ)). a.system.ranges ++ list) (sym (own_append one.own two.own)) in
      let system : c.system ≡ record a.system { ranges = a.system.ranges ++ own_ranges (one.own ++ two.own) } =
      two.system ∙ (λ i. record (one.system i) { ranges = (one.system i).ranges ++ own_ranges two.own }) ∙ (λ i. record a.system { ranges = joined i }) in
      record {
        own = one.own ++ two.own;
        placed = placed;
        follow = follow_append (length a.system.ranges) one.own two.own one.follow (subst (λ (n : ℕ). FollowOn n two.own) size two.follow);
        system = system;
        same = same_then a.spots b.spots c.spots one.same two.same;
        params = agree_then (given_before it 0 []) a.spots b.spots c.spots one.params two.params;
        compact = λ is. two.compact (one.compact is);
      }

  pub over_self : (at item : ℕ) (base : Declared) → IsDrafted it at (front_of it at item) base → IsOver it at item base base
  over_self at item base drafted = record { drafted = drafted; on = on_self base }

  pub over_then : (at item : ℕ) (a b c : Declared) → GoesOn it a b → IsOver it at item b c → IsOver it at item a c
  over_then at item a b c one two = record { drafted = two.drafted; on = on_then a b c one two.on }

-- constants stand where they stood
pub constants_kept : (constants : List ℕ) (spots next : PathSpots) → SameButValues spots next → AreConstants constants spots → AreConstants constants next
constants_kept constants spots next same are = record {
  few = are.few;
  spots_are = ap (map (λ (spot : ConstSpot). (spot.value, spot.var))) same.constants ∙ are.spots_are;
}
