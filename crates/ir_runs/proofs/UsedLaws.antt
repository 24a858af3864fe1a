-- The names that items use are known where they are used.
use Rattle.std.proofs.Common.{◌≡◌, ◌⊎◌, inl, inr, ◌<◌, ℕ, List, [], ◌∷◌, ◌++◌, length, map, sym, ◌∙◌, ap, subst, arith}
use Rattle.std.specs.Prelude.{Contains, flat_map}
use Rattle.std.proofs.lemmas.List.Elements.{Contains-append_left, Contains-append_right, All-contains}
use Rattle.ll_tree.specs.declared.func.Func.{Func}
use Rattle.ll_tree.specs.declared.block.Block.{Block}
use Rattle.ll_tree.specs.declared.block.Phi.{Phi}
use Rattle.ll_tree.specs.declared.block.PhiEntry.{PhiEntry}
use Rattle.ll_tree.specs.declared.block.Operand.{Operand}
use Rattle.ll_tree.specs.declared.block.Operand.TheVariants as operand
use Rattle.ll_rules.specs.Items.{Item, OfPhi, items_of, Part, Use}
use Rattle.ll_items.specs.Sites.{Site, sites_of}
use Rattle.ll_flow.specs.declared.homes.Home.{Home}
use Rattle.ll_flow.specs.declared.uses.Moment.{Moment}
use Rattle.ll_flow.specs.declared.uses.Moment.TheVariants.{At, Leaving}
use Rattle.ll_flow.specs.Homes.{homes_of}
use Rattle.ll_flow.specs.Paths.{label_of, IsPathTo}
use Rattle.ll_flow.specs.Uses.{ValueUse, operand_uses, part_uses, entry_uses, item_uses, site_uses, uses_of, ComesBefore, IsGiven, IsDefined}
use Rattle.ll_verifier.specs.Rules.{Rules}
use Rattle.ir_runs.specs.Walk.{block_names, names_on}
use Rattle.ir_runs.proofs.MemberLaws.{in_here, in_there, map_in, in_flat}
use Rattle.ir_runs.proofs.NamesLaws.{item_names, names_in, param_names, same_block, given_here}
use Rattle.ir_runs.proofs.TrailLaws.{stands_in, stands_before}
use Rattle.ir_runs.proofs.SiteLaws.{block_place, block_there, site_at, site_here, IsParamHome, IsItemHome, home_in}

abbrev pub block_label : Block → List ℕ
block_label block = block.label

-- ---- an item that stands before another

abbrev first_or : Item → List Item → Item
first_or item [] = item
first_or item (first ∷ items) = first

abbrev rest_of : List Item → List Item
rest_of [] = []
rest_of (first ∷ items) = items

front_has : (front more other rest : List Item) (item : Item) → front ++ more ≡ other ++ item ∷ rest → length other < length front → Contains front item
front_has [] more other rest item e low = absurd (omega (arith, low))
front_has (first ∷ front) more [] rest item e low = subst (λ (i : Item). Contains (first ∷ front) i) (ap (first_or item) e) (in_here first front)
front_has (first ∷ front) more (other ∷ others) rest item e low = in_there first item front (front_has front more others rest item (ap rest_of e) (omega (arith, low)))

-- ---- what is given on a path is known

module _ (func : Func) (rules : Rules func) where
  abbrev pub AreWithin : List Block → Type 0
  AreWithin done = (block : Block) → Contains done block → Contains func.blocks block

  home_on : (done : List Block) → AreWithin done → (name : List ℕ) (given : Home) (is : IsItemHome func name given) → Contains (map block_label done) (label_of func is.place) → Contains (names_on func done) name
  home_on done within name given is there =
      let block : Block = is.stands.block in
      let at = block_there func.blocks is.place block is.stands.there in
      let other = map_in block_label done (label_of func is.place) there in
      let same : other.0 ≡ block = same_block func rules.names other.0 block (within other.0 other.1) at.0 (other.2 ∙ at.2) in
      Contains-append_right (param_names func) (flat_map block_names done) name
      (in_flat block_names done block name (subst (λ (b : Block). Contains done b) same other.1) (given_here func rules.names block at.0 is.stands.front is.stands.rest is.item is.stands.items name is.names))

  known_after : (done : List Block) → AreWithin done → (name : List ℕ) (given : Home) → Contains (homes_of func) (name, given) → (moment : Moment) → IsGiven func given moment (map block_label done) → Contains (names_on func done) name
  known_after done within name given there moment on = by_home (home_in func name given there)
    where
      by_home : IsParamHome func name given ⊎ IsItemHome func name given → Contains (names_on func done) name
      by_home (inl param) = Contains-append_left (param_names func) (flat_map block_names done) name param.1
      by_home (inr is) = home_on done within name given is (stands_in (label_of func is.place) is.at moment (map block_label done) (subst (λ (h : Home). IsGiven func h moment (map block_label done)) is.is_there on))

  module _ (done : List Block) (within : AreWithin done) (block : Block) (there : Contains func.blocks block) (front rest : List Item) (item : Item) (items : items_of block ≡ front ++ item ∷ rest) where
    abbrev known : List (List ℕ)
    known = names_on func done ++ names_in front

    known_before : (name : List ℕ) (given : Home) → Contains (homes_of func) (name, given) → IsGiven func given (At (length front)) (map block_label done ++ block.label ∷ []) → Contains known name
    known_before name given home_there on = by_home (home_in func name given home_there)
      where
        by_place : (is : IsItemHome func name given) → Contains (map block_label done) (label_of func is.place) ⊎ ((block.label ≡ label_of func is.place) × ComesBefore is.at (At (length front))) → Contains known name
        by_place is (inl earlier) = Contains-append_left (names_on func done) (names_in front) name (home_on done within name given is earlier)
        by_place is (inr own) =
            let at = block_there func.blocks is.place is.stands.block is.stands.there in
            let same : block ≡ is.stands.block = same_block func rules.names block is.stands.block there at.0 (own.0 ∙ at.2) in
            let list : front ++ item ∷ rest ≡ is.stands.front ++ is.item ∷ is.stands.rest = sym items ∙ ap items_of same ∙ is.stands.items in
            Contains-append_right (names_on func done) (names_in front) name
            (in_flat item_names front is.item name (front_has front (item ∷ rest) is.stands.front is.stands.rest is.item list (omega (arith, own.1, is.stands.before))) is.names)

        by_home : IsParamHome func name given ⊎ IsItemHome func name given → Contains known name
        by_home (inl param) = Contains-append_left (names_on func done) (names_in front) name (Contains-append_left (param_names func) (flat_map block_names done) name param.1)
        by_home (inr is) = by_place is (stands_before (label_of func is.place) is.at (At (length front)) (map block_label done) block.label (subst (λ (h : Home). IsGiven func h (At (length front)) (map block_label done ++ block.label ∷ [])) is.is_there on))

    place : (place : ℕ) × Contains (sites_of func) (site_at place (length front) item) × (label_of func place ≡ block.label)
    place =
        let at = block_place func.blocks block there in
        (at.0, site_here func at.0 block at.1 front rest item items, (block_there func.blocks at.0 block at.1).2)

    -- a name that an instruction or the terminator uses
    pub item_known : (parts : List Part) → ((site : Site) → item_uses func site item ≡ flat_map (part_uses site (label_of func site.block) (At site.item)) parts) → IsPathTo func (map block_label done ++ block.label ∷ []) block.label
        → (name : List ℕ) (width : ℕ) → Contains parts (Use (operand.Name name) width) → Contains known name
    item_known parts is path name width used =
        let site : Site = site_at place.0 (length front) item in
        let it : ValueUse = record { site = site; name = name; block = label_of func place.0; moment = At (length front) } in
        let own : Contains (flat_map (part_uses site (label_of func place.0) (At (length front))) parts) it = in_flat (part_uses site (label_of func place.0) (At (length front))) parts (Use (operand.Name name) width) it used (in_here it []) in
        let all : Contains (uses_of func) it = in_flat (site_uses func) (sites_of func) site it place.1 (subst (λ (uses : List ValueUse). Contains uses it) (sym (is site)) own) in
        let on = All-contains (IsDefined func) (uses_of func) it rules.defined all (map block_label done ++ block.label ∷ []) (subst (λ (label : List ℕ). IsPathTo func (map block_label done ++ block.label ∷ []) label) (sym place.2) path) in
        known_before name on.0 on.1 on.2

    -- a name that an entry of a phi uses
    pub entry_known : (phi : Phi) → item ≡ OfPhi phi → (entry : PhiEntry) → Contains phi.entries entry → IsPathTo func (map block_label done) entry.from → (name : List ℕ) → entry.value ≡ operand.Name name → Contains (names_on func done) name
    entry_known phi is entry among path name value =
        let site : Site = site_at place.0 (length front) (OfPhi phi) in
        let it : ValueUse = record { site = site; name = name; block = entry.from; moment = Leaving } in
        let own : Contains (entry_uses site entry) it = subst (λ (o : Operand). Contains (operand_uses site entry.from Leaving o) it) (sym value) (in_here it []) in
        let here : Contains (sites_of func) site = subst (λ (i : Item). Contains (sites_of func) (site_at place.0 (length front) i)) is place.1 in
        let all : Contains (uses_of func) it = in_flat (site_uses func) (sites_of func) site it here (in_flat (entry_uses site) phi.entries entry it among own) in
        let on = All-contains (IsDefined func) (uses_of func) it rules.defined all (map block_label done) path in
        known_after done within name on.0 on.1 Leaving on.2
