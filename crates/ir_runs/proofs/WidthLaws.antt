-- The values of a walk fit the widths of their names.
use Rattle.std.proofs.Common.{◌≡◌, ◌⊎◌, inl, inr, ℕ, List, [], ◌∷◌, ◌++◌, length, map, Bool, true, false, cond, eqb, Option, Some, None, is_some, option_map, option_and_then, option_to_list, refl, sym, ◌∙◌, ap, subst, append_assoc, append-nil}
use Rattle.std.specs.Prelude.{Contains, flat_map}
use Rattle.std.specs.List.{AllByRecursion, AllZip, list_any}
use Rattle.std.specs.Str.{bytes_eq}
use Rattle.std.proofs.lemmas.Bool.{true≢false, or_parts, eqb-true, not-false}
use Rattle.std.proofs.lemmas.Option.{none-some, same_Some}
use Rattle.std.proofs.lemmas.Slice.Eq.{bytes_eq-Decides}
use Rattle.std.proofs.lemmas.List.{map-append}
use Rattle.std.proofs.lemmas.List.Concat.{flat_map-append}
use Rattle.std.proofs.lemmas.List.Elements.{All-contains, Contains-append_left, Contains-append_right, Contains-append_cases}
use Rattle.wx_base.specs.Args.{AreArguments}
use Rattle.ll_tree.specs.Formed.{FitsOperand, IsFormedBlock, IsFormedPhi, IsFormedInstr, IsFormedOp}
use Rattle.ll_tree.specs.declared.func.Func.{Func}
use Rattle.ll_tree.specs.declared.func.Param.{Param}
use Rattle.ll_tree.specs.declared.block.Block.{Block}
use Rattle.ll_tree.specs.declared.block.Phi.{Phi}
use Rattle.ll_tree.specs.declared.block.PhiEntry.{PhiEntry}
use Rattle.ll_tree.specs.declared.block.Instr.{Instr}
use Rattle.ll_tree.specs.declared.block.Operand.{Operand}
use Rattle.ll_tree.specs.declared.block.Operand.TheVariants as operand
use Rattle.ll_tree.specs.declared.op.Op.{Op}
use Rattle.ll_tree.specs.declared.op.Op.TheVariants.{Bin, Cmp, Cast, Select, Abs, Assume}
use Rattle.ll_rules.specs.Items.{Item, OfPhi, OfInstr, OfEnd, items_of, Use, Goal, op_parts, parts_of, result_width, named, block_values, values_of, labels_of}
use Rattle.ll_items.specs.Sites.{Site, sites_of}
use Rattle.name_table.specs.Names.{AreDifferent}
use Rattle.name_table.proofs.DifferentLaws.{different-around}
use Rattle.ll_item_rules.specs.Widths.{width_of, width_differs, part_differs, op_differs, item_differs}
use Rattle.ll_flow.specs.Paths.{label_of, IsPathTo}
use Rattle.ll_flow.proofs.PlaceLaws.{no_item, cons_cases, absent}
use Rattle.ll_verifier.specs.Rules.{Rules, differs, lacks_name, missing_name}
use Rattle.ir_meaning.specs.declared.value.Val.{Val}
use Rattle.ir_meaning.specs.declared.value.Val.TheVariants.{Poison, Num}
use Rattle.ir_meaning.specs.Value.{FitsWidth, on_number, select_of}
use Rattle.ir_meaning.specs.Rows.{bin_of, cast_of, abs_of}
use Rattle.ir_meaning.specs.Compare.{cmp_of}
use Rattle.ir_meaning.proofs.BitLaws.{FitsWidth-poison_if}
use Rattle.ir_runs.specs.Values.{Vals, ranged, operand_value, op_value, phi_value}
use Rattle.ir_runs.specs.Walk.{LeadOn, result_of, IsGiven, IsValued, AreValued, block_names, names_on, Walk}
use Rattle.ir_runs.specs.Fit.{AllFit}
use Rattle.ir_runs.proofs.MemberLaws.{in_here, in_there, in_map, map_in, in_flat}
use Rattle.ir_runs.proofs.NamesLaws.{value_name, item_names, names_in, param_names, all_names}
use Rattle.ir_runs.proofs.SiteLaws.{site_at}
use Rattle.ir_runs.proofs.ValueLaws.{one_some, two_some, three_some}
use Rattle.ir_runs.proofs.UsedLaws.{block_label, AreWithin, item_known, entry_known}
use Rattle.ir_runs.proofs.EntryLaws.{lacks_none, none_is, label_placed, item_site, entry_for, not_entry}
use Rattle.ir_runs.proofs.FitLaws.{bin_fits, cmp_fits, cast_fits, select_fits, abs_fits}
use Rattle.ir_runs.proofs.BlockLaws.{all_mid, Knows, leaving, Arrives}
use Rattle.ir_runs.proofs.WalkLaws.{valued_at, names_push, visited}
use Rattle.ir_runs.proofs.OperandLaws as operands

-- ---- a value has one width

pairs_same : (values : List (List ℕ × ℕ)) → AreDifferent (map value_name values) → (name : List ℕ) (a b : ℕ) → Contains {X = List ℕ × ℕ} values (name, a) → Contains {X = List ℕ × ℕ} values (name, b) → a ≡ b
pairs_same [] different name a b in_a in_b = absurd (no_item {X = List ℕ × ℕ} (name, a) in_a)
pairs_same (first ∷ values) different name a b in_a in_b = by_cases (pairs_same values different.1 name a b) (cons_cases {X = List ℕ × ℕ} first values (name, a) in_a) (cons_cases {X = List ℕ × ℕ} first values (name, b) in_b)
  where
    never : (width : ℕ) → value_name first ≡ name → Contains {X = List ℕ × ℕ} values (name, width) → ⊥
    never width is there = absent (value_name first) (map value_name values) different.0 (subst (λ (n : List ℕ). Contains (map value_name values) n) (sym is) (in_map value_name values (name, width) there))

    by_cases : (Contains {X = List ℕ × ℕ} values (name, a) → Contains {X = List ℕ × ℕ} values (name, b) → a ≡ b) → ◌≡◌ {A = List ℕ × ℕ} first (name, a) ⊎ Contains {X = List ℕ × ℕ} values (name, a) → ◌≡◌ {A = List ℕ × ℕ} first (name, b) ⊎ Contains {X = List ℕ × ℕ} values (name, b) → a ≡ b
    by_cases rest (inl is_a) (inl is_b) = ap (λ (value : List ℕ × ℕ). value.1) (sym is_a ∙ is_b)
    by_cases rest (inl is_a) (inr later) = absurd (never b (ap value_name is_a) later)
    by_cases rest (inr later) (inl is_b) = absurd (never a (ap value_name is_b) later)
    by_cases rest (inr later_a) (inr later_b) = rest later_a later_b

pub without_labels : (front : List (List ℕ)) (blocks : List Block) → AreDifferent (front ++ flat_map all_names blocks) → AreDifferent (front ++ flat_map block_names blocks)
without_labels front [] different = different
without_labels front (block ∷ blocks) different =
    let own : AreDifferent (front ++ (block_names block ++ flat_map all_names blocks)) = different-around front (block.label ∷ []) (block_names block ++ flat_map all_names blocks) different in
    let rest = without_labels (front ++ block_names block) blocks (subst AreDifferent (sym (append_assoc front (block_names block) (flat_map all_names blocks))) own) in
    subst AreDifferent (append_assoc front (block_names block) (flat_map block_names blocks)) rest

abbrev param_value : Param → List ℕ × ℕ
param_value param = (param.name, param.width)

params_named : (params : List Param) → map value_name (map param_value params) ≡ map (λ (param : Param). param.name) params
params_named [] = refl
params_named (param ∷ params) = ap (λ (names : List (List ℕ)). param.name ∷ names) (params_named params)

blocks_named : (blocks : List Block) → map value_name (flat_map block_values blocks) ≡ flat_map block_names blocks
blocks_named [] = refl
blocks_named (block ∷ blocks) = map-append value_name (block_values block) (flat_map block_values blocks) ∙ ap (λ (names : List (List ℕ)). block_names block ++ names) (blocks_named blocks)

pub values_named : (func : Func) → map value_name (values_of func) ≡ param_names func ++ flat_map block_names func.blocks
values_named func = map-append value_name (map param_value func.params) (flat_map block_values func.blocks) ∙ (λ i. params_named func.params i ++ blocks_named func.blocks i)

one_width : (func : Func) → Rules func → (name : List ℕ) (a b : ℕ) → Contains {X = List ℕ × ℕ} (values_of func) (name, a) → Contains {X = List ℕ × ℕ} (values_of func) (name, b) → a ≡ b
one_width func rules = pairs_same (values_of func) (subst AreDifferent (sym (values_named func)) (without_labels (param_names func) func.blocks rules.names))

width_found : (values : List (List ℕ × ℕ)) (name : List ℕ) → Contains (map value_name values) name → (width : ℕ) × (width_of name values ≡ Some width) × Contains {X = List ℕ × ℕ} values (name, width)
width_found [] name there = absurd (no_item name there)
width_found (first ∷ values) name there = by_test (bytes_eq name first.0) refl (width_found values name) (cons_cases first.0 (map value_name values) name there)
  where
    by_test : (b : Bool) → bytes_eq name first.0 ≡ b → (Contains (map value_name values) name → (width : ℕ) × (width_of name values ≡ Some width) × Contains {X = List ℕ × ℕ} values (name, width)) → (first.0 ≡ name) ⊎ Contains (map value_name values) name
        → (width : ℕ) × (width_of name (first ∷ values) ≡ Some width) × Contains {X = List ℕ × ℕ} (first ∷ values) (name, width)
    by_test true is rest which =
        let same : first.0 ≡ name = sym ((bytes_eq-Decides name first.0).0 is) in
        (first.1, rw is refl, subst (λ (n : List ℕ). Contains {X = List ℕ × ℕ} (first ∷ values) (n, first.1)) same (in_here {X = List ℕ × ℕ} first values))
    by_test false is rest (inl same) = absurd (true≢false (sym ((bytes_eq-Decides name first.0).1 (sym same)) ∙ is))
    by_test false is rest (inr later) =
        let found = rest later in
        (found.0, rw is found.1, in_there {X = List ℕ × ℕ} first (name, found.0) values found.2)

-- ---- an operation on operands that fit

abbrev FitsThere : Vals → Operand → ℕ → Type 0
FitsThere vals value width = (val : Val) → operand_value vals value ≡ Some val → FitsWidth width val

op_value_fits : (vals : Vals) (op : Op) → IsFormedOp op → op_differs op ≡ false → ((value : Operand) (width : ℕ) → Contains (op_parts op) (Use value width) → FitsOperand width value → FitsThere vals value width)
    → (width : ℕ) → result_width op ≡ Some width → (val : Val) → op_value vals op ≡ Some val → FitsWidth width val
op_value_fits vals (Bin kind flags width left right) formed converts all w has val is =
    let (x, y, is_x, is_y, same) = two_some (bin_of kind flags width) (operand_value vals left) (operand_value vals right) val is in
    let fits_x = all left width (in_here (Use left width) (Use right width ∷ [])) formed.1 x is_x in
    let fits_y = all right width (in_there (Use left width) (Use right width) (Use right width ∷ []) (in_here (Use right width) [])) formed.2 y is_y in
    subst (λ (n : ℕ). FitsWidth n val) (same_Some width w has) (subst (FitsWidth width) same (bin_fits kind flags width x y fits_x fits_y))
op_value_fits vals (Cmp pred flags width left right) formed converts all w has val is =
    let (x, y, is_x, is_y, same) = two_some (cmp_of pred flags width) (operand_value vals left) (operand_value vals right) val is in
    subst (λ (n : ℕ). FitsWidth n val) (same_Some 1 w has) (subst (FitsWidth 1) same (cmp_fits pred flags width x y))
op_value_fits vals (Cast kind flags from arg to) formed converts all w has val is =
    let (x, is_x, same) = one_some (cast_of kind flags from to) (operand_value vals arg) val is in
    let fits_x = all arg from (in_here (Use arg from) []) formed.2 x is_x in
    subst (λ (n : ℕ). FitsWidth n val) (same_Some to w has) (subst (FitsWidth to) same (cast_fits kind flags from to x converts fits_x))
op_value_fits vals (Select width cond first second) formed converts all w has val is =
    let (x, y, z, is_x, is_y, is_z, same) = three_some select_of (operand_value vals cond) (operand_value vals first) (operand_value vals second) val is in
    let fits_y = all first width (in_there (Use cond 1) (Use first width) (Use first width ∷ Use second width ∷ []) (in_here (Use first width) (Use second width ∷ []))) formed.2 y is_y in
    let fits_z = all second width (in_there (Use cond 1) (Use second width) (Use first width ∷ Use second width ∷ []) (in_there (Use first width) (Use second width) (Use second width ∷ []) (in_here (Use second width) []))) formed.3 z is_z in
    subst (λ (n : ℕ). FitsWidth n val) (same_Some width w has) (subst (FitsWidth width) same (select_fits width x y z fits_y fits_z))
op_value_fits vals (Abs width arg strict) formed converts all w has val is =
    let (x, is_x, same) = one_some (on_number (abs_of strict width)) (operand_value vals arg) val is in
    let fits_x = all arg width (in_here (Use arg width) []) formed.1 x is_x in
    subst (λ (n : ℕ). FitsWidth n val) (same_Some width w has) (subst (FitsWidth width) same (abs_fits strict width x fits_x))
op_value_fits vals (Assume cond) formed converts all w has val is = absurd (none-some val is)

any_at : {X : Type 0} (test : X → Bool) (xs : List X) (x : X) → list_any test xs ≡ false → Contains xs x → test x ≡ false
any_at test [] x none there = absurd (no_item x there)
any_at {X = X} test (first ∷ xs) x none there = by_cases (or_parts (test first) (list_any test xs) none) (any_at test xs x) (cons_cases first xs x there)
  where
    by_cases : (test first ≡ false) × (list_any test xs ≡ false) → (list_any test xs ≡ false → Contains xs x → test x ≡ false) → (first ≡ x) ⊎ Contains xs x → test x ≡ false
    by_cases parts rest (inl same) = subst (λ (z : X). test z ≡ false) same parts.0
    by_cases parts rest (inr later) = rest parts.1 later

-- ---- items, one kind at a time

IsKind : Block → Item → Type 0
IsKind block item = ((phi : Phi) × Contains block.phis phi × (OfPhi phi ≡ item)) ⊎ (((instr : Instr) × Contains block.body instr × (OfInstr instr ≡ item)) ⊎ (OfEnd block.end ≡ item))

kind_of : (block : Block) (item : Item) → Contains (items_of block) item → IsKind block item
unfolding IsKind
kind_of block item there = by_phi (Contains-append_cases (map OfPhi block.phis) (map OfInstr block.body ++ OfEnd block.end ∷ []) item there)
  where
    by_end : (OfEnd block.end ≡ item) ⊎ Contains [] item → OfEnd block.end ≡ item
    by_end (inl same) = same
    by_end (inr none) = absurd (no_item item none)

    by_body : Contains (map OfInstr block.body) item ⊎ Contains (OfEnd block.end ∷ []) item → ((instr : Instr) × Contains block.body instr × (OfInstr instr ≡ item)) ⊎ (OfEnd block.end ≡ item)
    by_body (inl here) = inl (map_in OfInstr block.body item here)
    by_body (inr later) = inr (by_end (cons_cases (OfEnd block.end) [] item later))

    by_phi : Contains (map OfPhi block.phis) item ⊎ Contains (map OfInstr block.body ++ OfEnd block.end ∷ []) item → ((phi : Phi) × Contains block.phis phi × (OfPhi phi ≡ item)) ⊎ (((instr : Instr) × Contains block.body instr × (OfInstr instr ≡ item)) ⊎ (OfEnd block.end ≡ item))
    by_phi (inl here) = inl (map_in OfPhi block.phis item here)
    by_phi (inr later) = inr (by_body (Contains-append_cases (map OfInstr block.body) (OfEnd block.end ∷ []) item later))

abbrev phi_pair : Phi → List ℕ × ℕ
phi_pair phi = (phi.name, phi.width)

abbrev instr_pairs : Instr → List (List ℕ × ℕ)
instr_pairs instr = named instr.name (result_width instr.op)

module _ (func : Func) (rules : Rules func) (vals : Vals) where
  abbrev Fits : List ℕ → Type 0
  Fits name = (width : ℕ) (val : Val) → Contains {X = List ℕ × ℕ} (values_of func) (name, width) → vals name ≡ Some val → FitsWidth width val

  abbrev AreFit : List (List ℕ) → Type 0
  AreFit names = (name : List ℕ) → Contains names name → Fits name

  -- a name fits where it fits its own width
  fits_own : (name : List ℕ) (own : ℕ) → Contains {X = List ℕ × ℕ} (values_of func) (name, own) → ((val : Val) → vals name ≡ Some val → FitsWidth own val) → Fits name
  fits_own name own there fits width val given is = subst (λ (w : ℕ). FitsWidth w val) (one_width func rules name own width there given) (fits val is)

  params_fit : (params : List Param) (args : List ℕ) → AreArguments (map (λ (param : Param). param.width) params) args → AllZip (λ (param : Param) (arg : ℕ). vals param.name ≡ Some (ranged param.range arg)) params args
      → ((param : Param) → Contains params param → Contains {X = List ℕ × ℕ} (values_of func) (param_value param)) → (name : List ℕ) → Contains (map (λ (param : Param). param.name) params) name → Fits name
  params_fit [] args fits holds among name there = absurd (no_item name there)
  params_fit (param ∷ params) [] fits holds among name there = absurd fits
  params_fit (param ∷ params) (arg ∷ args) fits holds among name there =
      by_cases (params_fit params args fits.1 holds.1 (λ other later. among other (in_there param other params later)) name) (cons_cases param.name (map (λ (param : Param). param.name) params) name there)
    where
      own : Fits param.name
      own = fits_own param.name param.width (among param (in_here param params)) (λ val is. subst (FitsWidth param.width) (same_Some (ranged param.range arg) val (sym holds.0 ∙ is)) (FitsWidth-poison_if param.width arg _ fits.0))

      by_cases : (Contains (map (λ (param : Param). param.name) params) name → Fits name) → (param.name ≡ name) ⊎ Contains (map (λ (param : Param). param.name) params) name → Fits name
      by_cases rest (inl same) = subst Fits same own
      by_cases rest (inr later) = rest later

  -- an operand that an item uses fits the width that is written
  pub operand_fits : (site : Site) → Contains (sites_of func) site → (value : Operand) (width : ℕ) → Contains (parts_of site.what) (Use value width) → FitsOperand width value → ((name : List ℕ) → value ≡ operand.Name name → Fits name) → FitsThere vals value width
  operand_fits site there (operand.Name name) width used formed named val is =
      let lacks : missing_name func site ≡ None = none_is (missing_name func site) (All-contains (λ (s : Site). lacks_name func s ≡ false) (sites_of func) site rules.named there) in
      let given : Contains (map value_name (values_of func)) name = label_placed (map value_name (values_of func)) name (lacks_none (values_of func) (labels_of func) (parts_of site.what) (Use (operand.Name name) width) lacks used) in
      let typed : differs func site ≡ false = All-contains (λ (s : Site). differs func s ≡ false) (sites_of func) site rules.typed there in
      let parts = or_parts (list_any (part_differs (values_of func)) (parts_of site.what)) (item_differs func.ret site.what) typed in
      let own : width_differs (width_of name (values_of func)) width ≡ false = any_at (part_differs (values_of func)) (parts_of site.what) (Use (operand.Name name) width) parts.0 used in
      let found = width_found (values_of func) name given in
      let same : found.0 ≡ width = eqb-true found.0 width (not-false (eqb found.0 width) (ap (λ (o : Option ℕ). width_differs o width) (sym found.1) ∙ own)) in
      named name refl width val (subst (λ (w : ℕ). Contains {X = List ℕ × ℕ} (values_of func) (name, w)) same found.2) is
  operand_fits site there (operand.Const n) width used formed named val is = subst (FitsWidth width) (same_Some (Num n) val is) formed
  operand_fits site there operand.Poison width used formed named val is = subst (FitsWidth width) (same_Some Poison val is) tt

  module _ (blocks : List Block) (within : AreWithin func rules blocks) (knows : Knows vals (names_on func blocks)) where
    module _ (done : List Block) (block : Block) (after : List Block) (are : blocks ≡ done ++ block ∷ after) (arrives : Arrives func done (leaving None done) block.label)
        (fits : AreFit (names_on func done)) (valued : AllByRecursion (IsValued vals (leaving None done)) (items_of block)) where
      there : Contains func.blocks block
      there = operands.there func rules vals blocks within knows done block after are arrives

      before_within : AreWithin func rules done
      before_within = operands.before_within func rules vals blocks within knows done block after are arrives

      path : IsPathTo func (map block_label done ++ block.label ∷ []) block.label
      path = operands.path func rules vals blocks within knows done block after are arrives

      formed : IsFormedBlock block
      formed = All-contains IsFormedBlock func.blocks block rules.formed.blocks there

      value_in : (name : List ℕ) (width : ℕ) → Contains {X = List ℕ × ℕ} (block_values block) (name, width) → Contains {X = List ℕ × ℕ} (values_of func) (name, width)
      value_in name width own = Contains-append_right (map param_value func.params) (flat_map block_values func.blocks) (name, width) (in_flat block_values func.blocks block (name, width) there own)

      given_value : (result : Option (List ℕ)) (name : List ℕ) (computed : Option Val) (val : Val) → result ≡ Some name → IsGiven vals result computed → vals name ≡ Some val → computed ≡ Some val
      given_value None name computed val has given is = absurd (none-some name has)
      given_value (Some own) name computed val has given is = sym given ∙ ap vals (same_Some own name has) ∙ is

      module _ (front rest : List Item) (item : Item) (items : items_of block ≡ front ++ item ∷ rest) (known : AreFit (names_on func done ++ names_in front)) where
        at : (place : ℕ) × Contains (sites_of func) (site_at place (length front) item) × (label_of func place ≡ block.label)
        at = item_site func rules block there front rest item items

        phi_fits : (phi : Phi) → Contains block.phis phi → OfPhi phi ≡ item → Fits phi.name
        phi_fits phi among same = fits_own phi.name phi.width (value_in phi.name phi.width (Contains-append_left (map phi_pair block.phis) (flat_map instr_pairs block.body) (phi.name, phi.width) (in_map phi_pair block.phis phi among)))
            (λ val is. by_before (leaving None done) arrives val (given_value (Some phi.name) phi.name (phi_value vals (leaving None done) phi) val refl (all_mid (IsValued vals (leaving None done)) front rest (OfPhi phi) (subst (AllByRecursion (IsValued vals (leaving None done))) own valued)) is))
          where
            own : items_of block ≡ front ++ OfPhi phi ∷ rest
            own = items ∙ ap (λ (i : Item). front ++ i ∷ rest) (sym same)

            by_before : (before : Option (List ℕ)) → Arrives func done before block.label → (val : Val) → phi_value vals before phi ≡ Some val → FitsWidth phi.width val
            by_before None (none, is) val computes = absurd (not_entry func rules block there front rest phi own among is)
            by_before (Some last) (is_path, goes) val computes =
                let entry = entry_for func rules block there front rest phi own last goes in
                let place = item_site func rules block there front rest (OfPhi phi) own in
                let phi_formed : IsFormedPhi phi = All-contains IsFormedPhi block.phis phi formed.phis among in
                let used : Contains (parts_of (OfPhi phi)) (Use entry.0.value phi.width) = in_flat (λ (entry : PhiEntry). Use entry.value phi.width ∷ Goal entry.from ∷ []) phi.entries entry.0 (Use entry.0.value phi.width) entry.1 (in_here (Use entry.0.value phi.width) (Goal entry.0.from ∷ [])) in
                operand_fits (site_at place.0 (length front) (OfPhi phi)) place.1 entry.0.value phi.width used (All-contains (λ (e : PhiEntry). FitsOperand phi.width e.value) phi.entries entry.0 phi_formed.2 entry.1)
                (λ name value. fits name (entry_known func rules done before_within block there front rest (OfPhi phi) own phi refl entry.0 entry.1 (subst (λ (label : List ℕ). IsPathTo func (map block_label done) label) (sym entry.2) is_path) name value))
                val (sym (ap (option_and_then (operand_value vals)) entry.3) ∙ computes)

        instr_fits : (instr : Instr) → Contains block.body instr → OfInstr instr ≡ item → (name : List ℕ) → result_of (OfInstr instr) ≡ Some name → Fits name
        instr_fits instr among same name has = by_width (result_width instr.op) refl
          where
            own : items_of block ≡ front ++ OfInstr instr ∷ rest
            own = items ∙ ap (λ (i : Item). front ++ i ∷ rest) (sym same)

            place : (place : ℕ) × Contains (sites_of func) (site_at place (length front) (OfInstr instr)) × (label_of func place ≡ block.label)
            place = item_site func rules block there front rest (OfInstr instr) own

            converts : op_differs instr.op ≡ false
            converts = (or_parts (list_any (part_differs (values_of func)) (op_parts instr.op)) (op_differs instr.op) (All-contains (λ (s : Site). differs func s ≡ false) (sites_of func) (site_at place.0 (length front) (OfInstr instr)) rules.typed place.1)).1

            instr_formed : IsFormedInstr instr
            instr_formed = All-contains IsFormedInstr block.body instr formed.body among

            all : (value : Operand) (width : ℕ) → Contains (op_parts instr.op) (Use value width) → FitsOperand width value → FitsThere vals value width
            all value width used value_formed =
                operand_fits (site_at place.0 (length front) (OfInstr instr)) place.1 value width used value_formed
                (λ other is. known other (item_known func rules done before_within block there front rest (OfInstr instr) own (op_parts instr.op) (λ site. refl) path other width (subst (λ (o : Operand). Contains (op_parts instr.op) (Use o width)) is used)))

            by_width : (width : Option ℕ) → result_width instr.op ≡ width → Fits name
            by_width None is = absurd (none-some name (sym (ap (option_map (λ (w : ℕ). instr.name)) is) ∙ has))
            by_width (Some width) is =
                let named_is : instr.name ≡ name = same_Some instr.name name (sym (ap (option_map (λ (w : ℕ). instr.name)) is) ∙ has) in
                let pair : Contains {X = List ℕ × ℕ} (instr_pairs instr) (instr.name, width) = subst (λ (o : Option ℕ). Contains {X = List ℕ × ℕ} (named instr.name o) (instr.name, width)) (sym is) (in_here {X = List ℕ × ℕ} (instr.name, width) []) in
                let inside : Contains {X = List ℕ × ℕ} (block_values block) (instr.name, width) = Contains-append_right (map phi_pair block.phis) (flat_map instr_pairs block.body) (instr.name, width) (in_flat instr_pairs block.body instr (instr.name, width) among pair) in
                subst Fits named_is (fits_own instr.name width (value_in instr.name width inside) (λ val held.
                op_value_fits vals instr.op instr_formed.1 converts all width is val
                (given_value (result_of (OfInstr instr)) name (op_value vals instr.op) val has (all_mid (IsValued vals (leaving None done)) front rest (OfInstr instr) (subst (AllByRecursion (IsValued vals (leaving None done))) own valued)) (ap vals (sym named_is) ∙ held))))

        item_fits : (name : List ℕ) → result_of item ≡ Some name → Fits name
        unfolding IsKind
        item_fits name has = by_kind (kind_of block item (subst (λ (l : List Item). Contains l item) (sym items) (Contains-append_right front (item ∷ rest) item (in_here item rest))))
          where
            by_kind : ((phi : Phi) × Contains block.phis phi × (OfPhi phi ≡ item)) ⊎ (((instr : Instr) × Contains block.body instr × (OfInstr instr ≡ item)) ⊎ (OfEnd block.end ≡ item)) → Fits name
            by_kind (inl (phi, among, same)) = subst Fits (same_Some phi.name name (ap result_of same ∙ has)) (phi_fits phi among same)
            by_kind (inr (inl (instr, among, same))) = instr_fits instr among same name (ap result_of same ∙ has)
            by_kind (inr (inr same)) = absurd (none-some name (ap result_of same ∙ has))

        next_fit : AreFit (names_on func done ++ names_in (front ++ item ∷ []))
        next_fit name among = by_cases (Contains-append_cases (names_on func done ++ names_in front) (item_names item) name (subst (λ (names : List (List ℕ)). Contains names name) more among))
          where
            more : names_on func done ++ names_in (front ++ item ∷ []) ≡ (names_on func done ++ names_in front) ++ item_names item
            more =
                ap (λ (names : List (List ℕ)). names_on func done ++ names) (flat_map-append item_names front (item ∷ []) ∙ ap (λ (names : List (List ℕ)). names_in front ++ names) (append-nil (item_names item)))
                ∙ sym (append_assoc (names_on func done) (names_in front) (item_names item))

            by_result : (result : Option (List ℕ)) → result_of item ≡ result → Contains (option_to_list result) name → Fits name
            by_result None is own = absurd (no_item name own)
            by_result (Some given) is own = by_own (cons_cases given [] name own)
              where
                by_own : (given ≡ name) ⊎ Contains [] name → Fits name
                by_own (inl same) = subst Fits same (item_fits given is)
                by_own (inr none) = absurd (no_item name none)

            by_cases : Contains (names_on func done ++ names_in front) name ⊎ Contains (item_names item) name → Fits name
            by_cases (inl earlier) = known name earlier
            by_cases (inr own) = by_result (result_of item) refl own

      items_fit : (front rest : List Item) → items_of block ≡ front ++ rest → AreFit (names_on func done ++ names_in front) → AreFit (names_on func done ++ names_in (items_of block))
      items_fit front [] items known = subst (λ (l : List Item). AreFit (names_on func done ++ names_in l)) (sym (items ∙ append-nil front)) known
      items_fit front (item ∷ rest) items known = items_fit (front ++ item ∷ []) rest (items ∙ sym (append_assoc front (item ∷ []) rest)) (next_fit front rest item items known)

      block_fits : AreFit (names_on func (done ++ block ∷ []))
      block_fits = subst AreFit (names_push func done block) (items_fit [] (items_of block) refl (subst AreFit (sym (append-nil (names_on func done))) fits))

    module _ (args : List ℕ) (leads : LeadOn func args vals blocks) (valued : AreValued vals None blocks) where
      blocks_fit : (done : List Block) (block : Block) (after : List Block) → blocks ≡ done ++ block ∷ after → Arrives func done (leaving None done) block.label → AreFit (names_on func done) → AreFit (names_on func (done ++ block ∷ after))
      blocks_fit done block [] are arrives fits = block_fits done block [] are arrives fits (valued_at vals None done block [] (subst (AreValued vals None) are valued))
      blocks_fit done block (next ∷ after) are arrives fits =
          let here = block_fits done block (next ∷ after) are arrives fits (valued_at vals None done block (next ∷ after) (subst (AreValued vals None) are valued)) in
          let on = operands.arrives_next func rules vals blocks within knows args leads done block next after are arrives in
          let same : (done ++ block ∷ []) ++ next ∷ after ≡ done ++ block ∷ next ∷ after = append_assoc done (block ∷ []) (next ∷ after) in
          subst (λ (l : List Block). AreFit (names_on func l)) same (blocks_fit (done ++ block ∷ []) next after (are ∙ sym same) on here)

pub walk_fits : (func : Func) (args : List ℕ) (path : List (List ℕ)) (vals : Vals) → Rules func → Walk func args path vals → AllFit func vals
walk_fits func args path vals rules walk name width val given is = by_blocks walk.blocks refl name ((walk.names name).0 (ap is_some is)) width val given is
  where
    within : AreWithin func rules walk.blocks
    within = (visited func rules args walk.arguments path walk.blocks walk.visits).1

    among : (param : Param) → Contains func.params param → Contains {X = List ℕ × ℕ} (values_of func) (param_value param)
    among param there = Contains-append_left (map param_value func.params) (flat_map block_values func.blocks) (param_value param) (in_map param_value func.params param there)

    start : AreFit func rules vals (names_on func [])
    start = subst (AreFit func rules vals) (sym (append-nil (param_names func))) (params_fit func rules vals func.params args walk.arguments walk.params among)

    by_blocks : (blocks : List Block) → walk.blocks ≡ blocks → AreFit func rules vals (names_on func walk.blocks)
    by_blocks [] are = subst (λ (l : List Block). AreFit func rules vals (names_on func l)) (sym are) start
    by_blocks (block ∷ after) are =
        subst (λ (l : List Block). AreFit func rules vals (names_on func l)) (sym are)
        (blocks_fit func rules vals walk.blocks within walk.names args walk.follow walk.values [] block after are (operands.first_arrives func args path vals rules walk block after are) start)
