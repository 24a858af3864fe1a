-- Each value has one home, which its name and its number find.
use Rattle.std.proofs.Common.{◌≡◌, ◌<◌, ◌+◌, ◌⊎◌, inl, inr, ℕ, zero, suc, List, [], ◌∷◌, ◌++◌, length, get_or, map, Option, Some, None, refl, sym, ◌∙◌, ap, subst, arith}
use Rattle.std.specs.Prelude.{All, Contains}
use Rattle.std.specs.List.{flat_map}
use Rattle.std.proofs.lemmas.List.{map-append, length-map}
use Rattle.std.proofs.lemmas.List.Concat.{flat_map-append}
use Rattle.std.proofs.lemmas.List.Elements.{All-nil, All-cons, All-head, All-tail, All-append, All-contains}
use Rattle.ll_tree.specs.declared.func.Func.{Func}
use Rattle.ll_tree.specs.declared.func.Param.{Param}
use Rattle.ll_tree.specs.declared.block.Block.{Block}
use Rattle.ll_tree.specs.declared.block.Phi.{Phi}
use Rattle.ll_tree.specs.declared.block.Instr.{Instr}
use Rattle.ll_tree.specs.declared.block.End.{End}
use Rattle.ll_rules.specs.Items.{Item, OfPhi, OfInstr, OfEnd, items_of, block_values, values_of, named, result_width}
use Rattle.ll_items.specs.Sites.{Site, sites_from, sites_in, sites_of}
use Rattle.name_table.specs.Names.{place_of, AreDifferent}
use Rattle.ll_flow.specs.declared.homes.Home.{Home}
use Rattle.ll_flow.specs.declared.homes.Home.TheVariants as home
use Rattle.ll_flow.specs.Homes.{result_home, item_homes, site_homes, homes_of}
use Rattle.ll_flow.proofs.PlaceLaws.{no_item, cons_cases, found_at, absent}
use Rattle.ll_flow.proofs.SiteLaws.{IsBelow, all_below}

abbrev pub home_name : List ℕ × Home → List ℕ
home_name given = given.0

abbrev pub value_name : List ℕ × ℕ → List ℕ
value_name value = value.0

abbrev pub home_at : List ℕ × Home → Home
home_at given = given.1

-- ---- names of homes are names of values

result_name : (name : List ℕ) (home : Home) (width : Option ℕ) (homes : List (List ℕ × Home)) (values : List (List ℕ × ℕ)) → map home_name homes ≡ map value_name values
    → map home_name (result_home name home width ++ homes) ≡ map value_name (named name width ++ values)
result_name name home None homes values same = same
result_name name home (Some width) homes values same = ap (λ (names : List (List ℕ)). name ∷ names) same

abbrev instr_values : Instr → List (List ℕ × ℕ)
instr_values instr = named instr.name (result_width instr.op)

body_names : (block before : ℕ) (body : List Instr) (end : End) → map home_name (flat_map site_homes (sites_from block before (map OfInstr body ++ OfEnd end ∷ []))) ≡ map value_name (flat_map instr_values body)
body_names block before [] end = refl
body_names block before (instr ∷ body) end =
    result_name instr.name (home.At block before) (result_width instr.op) (flat_map site_homes (sites_from block (before + 1) (map OfInstr body ++ OfEnd end ∷ []))) (flat_map instr_values body) (body_names block (before + 1) body end)

abbrev phi_value : Phi → List ℕ × ℕ
phi_value phi = (phi.name, phi.width)

phi_names : (block before : ℕ) (phis : List Phi) (rest : List Item) (names : List (List ℕ)) → ((at : ℕ) → map home_name (flat_map site_homes (sites_from block at rest)) ≡ names)
    → map home_name (flat_map site_homes (sites_from block before (map OfPhi phis ++ rest))) ≡ map value_name (map phi_value phis) ++ names
phi_names block before [] rest names same = same before
phi_names block before (phi ∷ phis) rest names same = ap (λ (names : List (List ℕ)). phi.name ∷ names) (phi_names block (before + 1) phis rest names same)

block_names : (at : ℕ) (block : Block) → map home_name (flat_map site_homes (sites_from at 0 (items_of block))) ≡ map value_name (block_values block)
block_names at block =
    phi_names at 0 block.phis (map OfInstr block.body ++ OfEnd block.end ∷ []) (map value_name (flat_map instr_values block.body)) (λ before. body_names at before block.body block.end)
    ∙ sym (map-append value_name (map phi_value block.phis) (flat_map instr_values block.body))

site_names : (before : ℕ) (blocks : List Block) → map home_name (flat_map site_homes (sites_in before blocks)) ≡ map value_name (flat_map block_values blocks)
site_names before [] = refl
site_names before (block ∷ blocks) =
    ap (map home_name) (flat_map-append site_homes (sites_from before 0 (items_of block)) (sites_in (before + 1) blocks))
    ∙ map-append home_name (flat_map site_homes (sites_from before 0 (items_of block))) (flat_map site_homes (sites_in (before + 1) blocks))
    ∙ (λ i. block_names before block i ++ site_names (before + 1) blocks i)
    ∙ sym (map-append value_name (block_values block) (flat_map block_values blocks))

abbrev param_home : Param → List ℕ × Home
param_home param = (param.name, home.Param)

abbrev param_value : Param → List ℕ × ℕ
param_value param = (param.name, param.width)

param_names : (params : List Param) → map home_name (map param_home params) ≡ map value_name (map param_value params)
param_names [] = refl
param_names (param ∷ params) = ap (λ (names : List (List ℕ)). param.name ∷ names) (param_names params)

pub names_same : (func : Func) → map home_name (homes_of func) ≡ map value_name (values_of func)
names_same func =
    map-append home_name (map param_home func.params) (flat_map site_homes (sites_of func))
    ∙ (λ i. param_names func.params i ++ site_names 0 func.blocks i)
    ∙ sym (map-append value_name (map param_value func.params) (flat_map block_values func.blocks))

-- ---- one home for a name

has_name : (homes : List (List ℕ × Home)) (name : List ℕ) (home : Home) → Contains homes (name, home) → Contains (map home_name homes) name
has_name [] name home there = absurd (no_item (name, home) there)
has_name (first ∷ homes) name home (zero, within, is) = (0, omega arith, ap home_name is)
has_name (first ∷ homes) name home (suc k, within, is) =
    let later = has_name homes name home (k, omega arith, is) in
    (suc later.0, omega (arith, later.1), later.2)

one_home : (homes : List (List ℕ × Home)) → AreDifferent (map home_name homes) → (name : List ℕ) (a b : Home) → Contains homes (name, a) → Contains homes (name, b) → a ≡ b
one_home [] different name a b in_a in_b = absurd (no_item (name, a) in_a)
one_home (first ∷ homes) different name a b in_a in_b =
    by_cases (one_home homes different.1 name a b) (cons_cases first homes (name, a) in_a) (cons_cases first homes (name, b) in_b)
  where
    never : (home : Home) → home_name first ≡ name → Contains homes (name, home) → ⊥
    never home is there = absent (home_name first) (map home_name homes) different.0 (subst (λ (name : List ℕ). Contains (map home_name homes) name) (sym is) (has_name homes name home there))

    by_cases : (Contains homes (name, a) → Contains homes (name, b) → a ≡ b) → (first ≡ (name, a)) ⊎ Contains homes (name, a) → (first ≡ (name, b)) ⊎ Contains homes (name, b) → a ≡ b
    by_cases rest (inl is_a) (inl is_b) = ap home_at (sym is_a ∙ is_b)
    by_cases rest (inl is_a) (inr later) = absurd (never b (ap home_name is_a) later)
    by_cases rest (inr later) (inl is_b) = absurd (never a (ap home_name is_b) later)
    by_cases rest (inr in_a) (inr in_b) = rest in_a in_b

pub home_is : (func : Func) → AreDifferent (map value_name (values_of func)) → (name : List ℕ) (a b : Home) → Contains (homes_of func) (name, a) → Contains (homes_of func) (name, b) → a ≡ b
home_is func different = one_home (homes_of func) (subst AreDifferent (sym (names_same func)) different)

-- ---- by numbers

at_number : (homes : List (List ℕ × Home)) (name : List ℕ) (number : ℕ) (default : Home) → number < length homes → get_or (map home_name homes) number [] ≡ name → Contains homes (name, get_or (map home_at homes) number default)
at_number [] name number default low is = absurd (omega (arith, low))
at_number (first ∷ homes) name zero default low is = (0, omega arith, (λ i. (is i, first.1)))
at_number (first ∷ homes) name (suc number) default low is =
    let later = at_number homes name number default (omega arith) is in
    (suc later.0, omega (arith, later.1), later.2)

pub home_found : (func : Func) (values : List (List ℕ × ℕ)) (homes : List Home) (name : List ℕ) (number : ℕ) (default : Home) → values ≡ values_of func → homes ≡ map home_at (homes_of func)
    → place_of name (map value_name values) ≡ Some number → (number < length homes) × Contains (homes_of func) (name, get_or homes number default)
home_found func values homes name number default is_values is_homes place =
    let there = found_at name (map home_name (homes_of func)) number (ap (place_of name) (names_same func ∙ ap (map value_name) (sym is_values)) ∙ place) in
    let low : number < length (homes_of func) = omega (arith, there.0, length-map (homes_of func) home_name) in
    rw is_homes (omega (arith, low, length-map (homes_of func) home_at), at_number (homes_of func) name number default low there.1)

-- ---- homes are in blocks of the function

abbrev pub StandsBelow : ℕ → Home → Type 0
StandsBelow count home.Param = Unit {0}
StandsBelow count (home.At block item) = block < count

abbrev IsHomeBelow : ℕ → List ℕ × Home → Type 0
IsHomeBelow count given = StandsBelow count given.1

result_below : (count : ℕ) (name : List ℕ) (home : Home) (width : Option ℕ) → StandsBelow count home → All (IsHomeBelow count) (result_home name home width)
result_below count name home None low = All-nil (IsHomeBelow count)
result_below count name home (Some width) low = All-cons (IsHomeBelow count) (name, home) [] low (All-nil (IsHomeBelow count))

item_below : (count : ℕ) (home : Home) (item : Item) → StandsBelow count home → All (IsHomeBelow count) (item_homes home item)
item_below count home (OfPhi phi) low = All-cons (IsHomeBelow count) (phi.name, home) [] low (All-nil (IsHomeBelow count))
item_below count home (OfInstr instr) low = result_below count instr.name home (result_width instr.op) low
item_below count home (OfEnd end) low = All-nil (IsHomeBelow count)

sites_below : (count : ℕ) (sites : List Site) → All (IsBelow count) sites → All (IsHomeBelow count) (flat_map site_homes sites)
sites_below count [] h = All-nil (IsHomeBelow count)
sites_below count (site ∷ sites) h =
    All-append (IsHomeBelow count) (site_homes site) (flat_map site_homes sites) (item_below count (home.At site.block site.item) site.what (All-head (IsBelow count) site sites h)) (sites_below count sites (All-tail (IsBelow count) site sites h))

params_below : (count : ℕ) (params : List Param) → All (IsHomeBelow count) (map param_home params)
params_below count [] = All-nil (IsHomeBelow count)
params_below count (param ∷ params) = All-cons (IsHomeBelow count) (param.name, home.Param) (map param_home params) tt (params_below count params)

pub home_below : (func : Func) (name : List ℕ) (home : Home) → Contains (homes_of func) (name, home) → StandsBelow (length func.blocks) home
home_below func name home there =
    All-contains (IsHomeBelow (length func.blocks)) (homes_of func) (name, home)
    (All-append (IsHomeBelow (length func.blocks)) (map param_home func.params) (flat_map site_homes (sites_of func)) (params_below (length func.blocks) func.params) (sites_below (length func.blocks) (sites_of func) (all_below func)))
    there

-- ---- homes of parameters, and of items

given_params : (params : List Param) → map home_at (map param_home params) ≡ map (λ (param : Param). home.Param) params
given_params [] = refl
given_params (param ∷ params) = ap (λ (homes : List Home). home.Param ∷ homes) (given_params params)

homes_joined : (func : Func) (sites : List Site) → sites ≡ sites_of func → map (λ (param : Param). home.Param) func.params ++ map home_at (flat_map site_homes sites) ≡ map home_at (homes_of func)
homes_joined func sites is =
    ap (λ (sites : List Site). map (λ (param : Param). home.Param) func.params ++ map home_at (flat_map site_homes sites)) is
    ∙ ap (λ (homes : List Home). homes ++ map home_at (flat_map site_homes (sites_of func))) (sym (given_params func.params))
    ∙ sym (map-append home_at (map param_home func.params) (flat_map site_homes (sites_of func)))

pub homes_made : (func : Func) (sites : List Site) (params : List Param) (start first last : List Home) → start ≡ [] → params ≡ func.params → sites ≡ sites_of func
    → first ≡ start ++ map (λ (param : Param). home.Param) params → last ≡ first ++ map home_at (flat_map site_homes sites) → last ≡ map home_at (homes_of func)
homes_made func sites params start first last is_start is_params is_sites is_first is_last =
    is_last ∙ ap (λ (homes : List Home). homes ++ map home_at (flat_map site_homes sites)) (is_first ∙ (λ i. is_start i ++ map (λ (param : Param). home.Param) (is_params i)))
    ∙ homes_joined func sites is_sites
