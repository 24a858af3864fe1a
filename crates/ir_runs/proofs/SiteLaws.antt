-- Where items stand, and where names are given.
use Rattle.std.proofs.Common.{◌≡◌, ◌⊎◌, inl, inr, ◌+◌, ◌<◌, ℕ, zero, suc, List, [], ◌∷◌, ◌++◌, length, get_or, map, Option, Some, None, option_map, option_to_list, refl, sym, ◌∙◌, ap, subst, arith}
use Rattle.std.specs.Prelude.{Contains, flat_map}
use Rattle.std.proofs.lemmas.List.Elements.{Contains-append_left, Contains-append_right, Contains-append_cases}
use Rattle.ll_tree.specs.declared.func.Func.{Func}
use Rattle.ll_tree.specs.declared.func.Param.{Param}
use Rattle.ll_tree.specs.declared.block.Block.{Block}
use Rattle.ll_rules.specs.Items.{Item, OfPhi, OfInstr, OfEnd, items_of, result_width}
use Rattle.ll_items.specs.Sites.{Site, sites_from, sites_in, sites_of}
use Rattle.ll_edges.specs.Graph.{IsBlockAt}
use Rattle.ll_flow.specs.declared.homes.Home.{Home}
use Rattle.ll_flow.specs.declared.homes.Home.TheVariants as home
use Rattle.ll_flow.specs.Homes.{result_home, item_homes, site_homes, homes_of}
use Rattle.ll_flow.proofs.PlaceLaws.{no_item, cons_cases}
use Rattle.ir_runs.proofs.MemberLaws.{in_here, in_there, in_map, map_in, flat_in}
use Rattle.ir_runs.proofs.NamesLaws.{item_names, param_names}

-- ---- blocks by their places

pub block_place : (blocks : List Block) (block : Block) → Contains blocks block → (place : ℕ) × IsBlockAt blocks place block
block_place [] block there = absurd (no_item block there)
block_place (first ∷ blocks) block (zero, within, is) = (0, is)
block_place (first ∷ blocks) block (suc k, within, is) =
    let later = block_place blocks block (k, omega arith, is) in
    (suc later.0, later.1)

pub block_there : (blocks : List Block) (place : ℕ) (block : Block) → IsBlockAt blocks place block → Contains blocks block × (place < length blocks) × (get_or (map (λ (block : Block). block.label) blocks) place [] ≡ block.label)
block_there [] place block there = absurd there
block_there (first ∷ blocks) zero block there = ((0, omega arith, there), omega arith, ap (λ (block : Block). block.label) there)
block_there (first ∷ blocks) (suc place) block there =
    let later = block_there blocks place block there in
    (in_there first block blocks later.0, omega (arith, later.1), later.2)

-- ---- items by their places

abbrev pub site_at : ℕ → ℕ → Item → Site
site_at block item what = record { block = block; item = item; what = what }

from_in : (block before : ℕ) (front rest : List Item) (item : Item) → Contains (sites_from block before (front ++ item ∷ rest)) (site_at block (before + length front) item)
from_in block before [] rest item = subst (λ (n : ℕ). Contains (sites_from block before (item ∷ rest)) (site_at block n item)) (omega arith) (in_here (site_at block before item) (sites_from block (before + 1) rest))
from_in block before (first ∷ front) rest item =
    subst (λ (n : ℕ). Contains (sites_from block before (first ∷ front ++ item ∷ rest)) (site_at block n item)) (omega arith)
    (in_there (site_at block before first) (site_at block (before + 1 + length front) item) (sites_from block (before + 1) (front ++ item ∷ rest)) (from_in block (before + 1) front rest item))

site_in : (before : ℕ) (blocks : List Block) (place : ℕ) (block : Block) → IsBlockAt blocks place block → (front rest : List Item) (item : Item) → items_of block ≡ front ++ item ∷ rest → Contains (sites_in before blocks) (site_at (before + place) (length front) item)
site_in before [] place block there front rest item is = absurd there
site_in before (first ∷ blocks) zero block there front rest item is =
    Contains-append_left (sites_from before 0 (items_of first)) (sites_in (before + 1) blocks) (site_at (before + 0) (length front) item)
    (subst (λ (items : List Item). Contains (sites_from before 0 items) (site_at (before + 0) (length front) item)) (sym is ∙ ap items_of (sym there))
    (subst (λ (site : Site). Contains (sites_from before 0 (front ++ item ∷ rest)) site) (λ i. site_at (zero_more i) (none_more i) item) (from_in before 0 front rest item)))
  where
    zero_more : before ≡ before + 0
    zero_more = omega arith

    none_more : 0 + length front ≡ length front
    none_more = omega arith
site_in before (first ∷ blocks) (suc place) block there front rest item is =
    Contains-append_right (sites_from before 0 (items_of first)) (sites_in (before + 1) blocks) (site_at (before + suc place) (length front) item)
    (subst (λ (n : ℕ). Contains (sites_in (before + 1) blocks) (site_at n (length front) item)) (omega arith) (site_in (before + 1) blocks place block there front rest item is))

-- the site of an item of a block
pub site_here : (func : Func) (place : ℕ) (block : Block) → IsBlockAt func.blocks place block → (front rest : List Item) (item : Item) → items_of block ≡ front ++ item ∷ rest → Contains (sites_of func) (site_at place (length front) item)
site_here func place block there front rest item is =
    subst (λ (n : ℕ). Contains (sites_of func) (site_at n (length front) item)) none_more (site_in 0 func.blocks place block there front rest item is)
  where
    none_more : 0 + place ≡ place
    none_more = omega arith

-- an item of a block, with what stands before it
pub record StandsAt (blocks : List Block) (place at : ℕ) (item : Item) : Type 0 where
  pub block : Block
  pub front : List Item
  pub rest : List Item
  pub there : IsBlockAt blocks place block
  pub items : items_of block ≡ front ++ item ∷ rest
  pub before : at ≡ length front

record IsFrom (items : List Item) (at : ℕ) (item : Item) : Type 0 where
  pub front : List Item
  pub rest : List Item
  pub items_are : items ≡ front ++ item ∷ rest
  pub before : at ≡ length front

from_out : (block before : ℕ) (items : List Item) (site : Site) → Contains (sites_from block before items) site → (at : ℕ) × (site.block ≡ block) × (site.item ≡ before + at) × IsFrom items at site.what
from_out block before [] site there = absurd (no_item site there)
from_out block before (item ∷ items) site there = by_cases (from_out block (before + 1) items site) (cons_cases (site_at block before item) (sites_from block (before + 1) items) site there)
  where
    by_cases : (Contains (sites_from block (before + 1) items) site → (at : ℕ) × (site.block ≡ block) × (site.item ≡ before + 1 + at) × IsFrom items at site.what) → (site_at block before item ≡ site) ⊎ Contains (sites_from block (before + 1) items) site
        → (at : ℕ) × (site.block ≡ block) × (site.item ≡ before + at) × IsFrom (item ∷ items) at site.what
    by_cases rest (inl same) =
        let number : before ≡ site.item = ap (λ (s : Site). s.item) same in
        (0, sym (ap (λ (s : Site). s.block) same), omega (arith, number), record { front = []; rest = items; items_are = ap (λ (s : Site). s.what ∷ items) same; before = refl })
    by_cases rest (inr later) =
        let found = rest later in
        (suc found.0, found.1, omega (arith, found.2), record { front = item ∷ found.3.front; rest = found.3.rest; items_are = ap (λ (l : List Item). item ∷ l) found.3.items_are; before = ap suc found.3.before })

site_out : (before : ℕ) (blocks : List Block) (site : Site) → Contains (sites_in before blocks) site → (place : ℕ) × (site.block ≡ before + place) × StandsAt blocks place site.item site.what
site_out before [] site there = absurd (no_item site there)
site_out before (block ∷ blocks) site there = by_cases (site_out (before + 1) blocks site) (Contains-append_cases (sites_from before 0 (items_of block)) (sites_in (before + 1) blocks) site there)
  where
    by_cases : (Contains (sites_in (before + 1) blocks) site → (place : ℕ) × (site.block ≡ before + 1 + place) × StandsAt blocks place site.item site.what) → Contains (sites_from before 0 (items_of block)) site ⊎ Contains (sites_in (before + 1) blocks) site
        → (place : ℕ) × (site.block ≡ before + place) × StandsAt (block ∷ blocks) place site.item site.what
    by_cases rest (inl here) =
        let found = from_out before 0 (items_of block) site here in
        (0, omega (arith, found.1), record { block = block; front = found.3.front; rest = found.3.rest; there = refl; items = found.3.items_are; before = omega (arith, found.2, found.3.before) })
    by_cases rest (inr later) =
        let found = rest later in
        (suc found.0, omega (arith, found.1), record { block = found.2.block; front = found.2.front; rest = found.2.rest; there = found.2.there; items = found.2.items; before = found.2.before })

-- ---- where a name is given

-- the name is a parameter's
abbrev pub IsParamHome : Func → List ℕ → Home → Type 0
IsParamHome func name given = (given ≡ home.Param) × Contains (param_names func) name

-- the name is the result of an item there
pub record IsItemHome (func : Func) (name : List ℕ) (given : Home) : Type 0 where
  pub place : ℕ
  pub at : ℕ
  pub item : Item
  pub is_there : given ≡ home.At place at
  pub stands : StandsAt func.blocks place at item
  pub names : Contains (item_names item) name

results_named : (name other : List ℕ) (here given : Home) (width : Option ℕ) → Contains (result_home name here width) (other, given) → (given ≡ here) × Contains (option_to_list (option_map (λ (w : ℕ). name) width)) other
results_named name other here given None there = absurd (no_item (other, given) there)
results_named name other here given (Some width) there = by_cases (cons_cases (name, here) [] (other, given) there)
  where
    by_cases : ◌≡◌ {A = List ℕ × Home} (name, here) (other, given) ⊎ Contains {X = List ℕ × Home} [] (other, given) → (given ≡ here) × Contains (name ∷ []) other
    by_cases (inl same) = (sym (ap (λ (pair : List ℕ × Home). pair.1) same), subst (λ (n : List ℕ). Contains (name ∷ []) n) (ap (λ (pair : List ℕ × Home). pair.0) same) (in_here name []))
    by_cases (inr none) = absurd (no_item (other, given) none)

named_by : (here : Home) (item : Item) (name : List ℕ) (given : Home) → Contains (item_homes here item) (name, given) → (given ≡ here) × Contains (item_names item) name
named_by here (OfPhi phi) name given there = results_named phi.name name here given (Some 0) there
named_by here (OfInstr instr) name given there = results_named instr.name name here given (result_width instr.op) there
named_by here (OfEnd end) name given there = absurd (no_item (name, given) there)

abbrev param_home : Param → List ℕ × Home
param_home param = (param.name, home.Param)

-- a name is a parameter's, or the result of an item
pub home_in : (func : Func) (name : List ℕ) (given : Home) → Contains (homes_of func) (name, given) → IsParamHome func name given ⊎ IsItemHome func name given
home_in func name given there = by_cases (Contains-append_cases (map param_home func.params) (flat_map site_homes (sites_of func)) (name, given) there)
  where
    by_cases : Contains (map param_home func.params) (name, given) ⊎ Contains (flat_map site_homes (sites_of func)) (name, given) → IsParamHome func name given ⊎ IsItemHome func name given
    by_cases (inl param) =
        let found = map_in param_home func.params (name, given) param in
        inl (
          sym (ap (λ (pair : List ℕ × Home). pair.1) found.2),
          subst (λ (n : List ℕ). Contains (param_names func) n) (ap (λ (pair : List ℕ × Home). pair.0) found.2) (in_map (λ (param : Param). param.name) func.params found.0 found.1),
        )
    by_cases (inr result) =
        let found = flat_in site_homes (sites_of func) (name, given) result in
        let site : Site = found.0 in
        let is = named_by (home.At site.block site.item) site.what name given found.2 in
        let out = site_out 0 func.blocks site found.1 in
        let place : site.block ≡ out.0 = omega (arith, out.1) in
        inr (record { place = out.0; at = site.item; item = site.what; is_there = is.0 ∙ ap (λ (b : ℕ). home.At b site.item) place; stands = out.2; names = is.1 })
