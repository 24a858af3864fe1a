-- The values of a block, item by item, behind those of the blocks before it on a path.
use Rattle.std.proofs.Common.{◌≡◌, ◌⊎◌, ◌↔◌, inl, inr, ℕ, List, [], ◌∷◌, ◌++◌, map, Bool, true, false, cond, Option, Some, None, is_some, IsSome, option_map, option_and_then, option_to_list, refl, sym, ◌∙◌, ap, subst, append_assoc, append-nil}
use Rattle.std.specs.Prelude.{Contains, flat_map}
use Rattle.std.specs.List.{AllByRecursion}
use Rattle.std.specs.Map.{update}
use Rattle.std.specs.Str.{bytes_eq}
use Rattle.std.proofs.lemmas.Bool.{true≢false, false≢true}
use Rattle.std.proofs.lemmas.Option.{none-some, same_Some}
use Rattle.std.proofs.lemmas.Slice.Eq.{bytes_eq-Decides}
use Rattle.std.proofs.lemmas.List.Concat.{flat_map-append}
use Rattle.std.proofs.lemmas.List.Elements.{Contains-append_left, Contains-append_right, Contains-append_cases, Contains-push}
use Rattle.ll_tree.specs.declared.func.Func.{Func}
use Rattle.ll_tree.specs.declared.block.Block.{Block}
use Rattle.ll_tree.specs.declared.block.Phi.{Phi}
use Rattle.ll_tree.specs.declared.block.Instr.{Instr}
use Rattle.ll_tree.specs.declared.block.Operand.{Operand}
use Rattle.ll_tree.specs.declared.block.Operand.TheVariants as operand
use Rattle.ll_rules.specs.Items.{Item, OfPhi, OfInstr, OfEnd, items_of, Part, Use, op_parts, end_parts, result_width}
use Rattle.ll_items.specs.Sites.{Site}
use Rattle.ll_flow.specs.declared.uses.Moment.TheVariants.{At}
use Rattle.ll_flow.specs.Paths.{label_of, GoesTo, IsPathTo}
use Rattle.ll_flow.specs.Uses.{part_uses, item_uses}
use Rattle.ll_verifier.specs.Rules.{Rules}
use Rattle.ir_meaning.specs.declared.value.Val.{Val}
use Rattle.ir_runs.specs.Values.{Vals, operand_value, op_value}
use Rattle.ir_runs.specs.Walk.{result_of, item_value, IsGiven, IsValued, names_on}
use Rattle.ll_flow.proofs.PlaceLaws.{no_item, cons_cases}
use Rattle.ir_runs.proofs.MemberLaws.{in_here, in_map, map_in}
use Rattle.ir_runs.proofs.NamesLaws.{item_names, names_in, is_new}
use Rattle.ir_runs.proofs.TrailLaws.{path_more}
use Rattle.ir_runs.proofs.ValueLaws.{IsThere, AllThere, Grows, op_has, item_grows}
use Rattle.ir_runs.proofs.StepLaws.{IsReady}
use Rattle.ir_runs.proofs.UsedLaws.{block_label, AreWithin, item_known, entry_known}
use Rattle.ir_runs.proofs.EntryLaws.{entry_for, not_entry}

-- ---- lists

pub all_push : {X : Type 0} (P : X → Type 0) (xs : List X) (x : X) → AllByRecursion P xs → P x → AllByRecursion P (xs ++ x ∷ [])
all_push P [] x all here = (here, tt)
all_push P (first ∷ xs) x all here = (all.0, all_push P xs x all.1 here)

pub all_weaker : {X : Type 0} (P Q : X → Type 0) → ((x : X) → P x → Q x) → (xs : List X) → AllByRecursion P xs → AllByRecursion Q xs
all_weaker P Q weaker [] all = tt
all_weaker P Q weaker (x ∷ xs) all = (weaker x all.0, all_weaker P Q weaker xs all.1)

pub all_mid : {X : Type 0} (P : X → Type 0) (front rest : List X) (x : X) → AllByRecursion P (front ++ x ∷ rest) → P x
all_mid P [] rest x all = all.0
all_mid P (first ∷ front) rest x all = all_mid P front rest x all.1

pub split_at : {X : Type 0} (xs : List X) (x : X) → Contains xs x → (front : List X) × (rest : List X) × (xs ≡ front ++ x ∷ rest)
split_at [] x there = absurd (no_item x there)
split_at {X = X} (first ∷ xs) x there = by_cases (split_at xs x) (cons_cases first xs x there)
  where
    by_cases : (Contains xs x → (front : List X) × (rest : List X) × (xs ≡ front ++ x ∷ rest)) → (first ≡ x) ⊎ Contains xs x → (front : List X) × (rest : List X) × (first ∷ xs ≡ front ++ x ∷ rest)
    by_cases more (inl same) = ([], xs, ap (λ (z : X). z ∷ xs) same)
    by_cases more (inr later) =
        let found = more later in
        (first ∷ found.0, found.1, ap (λ (l : List X). first ∷ l) found.2)

-- ---- values that are firm: the items have them, and the map has them

abbrev pub IsHeld : Vals → Option (List ℕ) → Option Val → Type 0
IsHeld vals None val = Unit {0}
IsHeld vals (Some name) val = (held : Val) × (vals name ≡ Some held) × (val ≡ Some held)

abbrev pub IsFirm : Vals → Option (List ℕ) → Item → Type 0
IsFirm vals before item = IsHeld vals (result_of item) (item_value vals before item)

held_given : (vals : Vals) (result : Option (List ℕ)) (val : Option Val) → IsHeld vals result val → IsGiven vals result val
held_given vals None val is = tt
held_given vals (Some name) val (held, has, computes) = has ∙ sym computes

pub firm_valued : (vals : Vals) (before : Option (List ℕ)) (item : Item) → IsFirm vals before item → IsValued vals before item
firm_valued vals before item firm = held_given vals (result_of item) (item_value vals before item) firm

held_grows : (vals more : Vals) → Grows vals more → (before : Option (List ℕ)) (item : Item) (result : Option (List ℕ)) → IsHeld vals result (item_value vals before item) → IsHeld more result (item_value more before item)
held_grows vals more grows before item None is = tt
held_grows vals more grows before item (Some name) (held, has, computes) = (held, grows name held has, item_grows vals more grows before item held computes)

pub firm_grows : (vals more : Vals) → Grows vals more → (before : Option (List ℕ)) (item : Item) → IsFirm vals before item → IsFirm more before item
firm_grows vals more grows before item firm = held_grows vals more grows before item (result_of item) firm

abbrev is_phi : Item → Bool
is_phi (OfPhi phi) = true
is_phi (OfInstr instr) = false
is_phi (OfEnd end) = false

abbrev phi_in : Phi → Item → Phi
phi_in default (OfPhi phi) = phi
phi_in default (OfInstr instr) = default
phi_in default (OfEnd end) = default

-- ---- maps that know certain names

-- the map has values for these names and no others
abbrev pub Knows : Vals → List (List ℕ) → Type 0
Knows vals names = (name : List ℕ) → IsSome (vals name) ↔ Contains names name

some_value : (found : Option Val) → IsSome found → (val : Val) × (found ≡ Some val)
some_value None is = absurd (false≢true is)
some_value (Some val) is = (val, refl)

pub value_there : (vals : Vals) (names : List (List ℕ)) → Knows vals names → (value : Operand) → ((name : List ℕ) → value ≡ operand.Name name → Contains names name) → IsThere vals value
value_there vals names knows (operand.Name name) named = some_value (vals name) ((knows name).1 (named name refl))
value_there vals names knows (operand.Const n) named = (_, refl)
value_there vals names knows operand.Poison named = (_, refl)

pub unknown : (vals : Vals) (names : List (List ℕ)) → Knows vals names → (name : List ℕ) → (Contains names name → ⊥) → vals name ≡ None
unknown vals names knows name never = by_value (vals name) refl
  where
    by_value : (found : Option Val) → vals name ≡ found → vals name ≡ None
    by_value None is = is
    by_value (Some val) is = absurd (never ((knows name).0 (ap is_some is)))

-- a value more
abbrev pub with_value : Vals → List ℕ → Val → Vals
with_value vals name val = update bytes_eq vals name (Some val)

module _ (vals : Vals) (name : List ℕ) (val : Val) where
  value_here : with_value vals name val name ≡ Some val
  value_here = rw ((bytes_eq-Decides name name).1 refl) refl

  more_grows : vals name ≡ None → Grows vals (with_value vals name val)
  more_grows none other held is = by_test (bytes_eq name other) refl
    where
      by_test : (b : Bool) → bytes_eq name other ≡ b → with_value vals name val other ≡ Some held
      by_test true same = absurd (none-some held (sym none ∙ ap vals ((bytes_eq-Decides name other).0 same) ∙ is))
      by_test false apart = rw apart is

  more_shared : (other : Vals) → Grows vals other → other name ≡ Some val → Grows (with_value vals name val) other
  more_shared other grows has any held is = by_test (bytes_eq name any) refl
    where
      by_test : (b : Bool) → bytes_eq name any ≡ b → other any ≡ Some held
      by_test true same =
          let given : Some val ≡ Some held = subst (λ (b : Bool). cond b (Some val) (vals any) ≡ Some held) same is in
          ap other (sym ((bytes_eq-Decides name any).0 same)) ∙ has ∙ given
      by_test false apart = grows any held (subst (λ (b : Bool). cond b (Some val) (vals any) ≡ Some held) apart is)

  more_known : (names : List (List ℕ)) → Knows vals names → Knows (with_value vals name val) (names ++ name ∷ [])
  more_known names knows any = (there, back)
    where
      there : IsSome (with_value vals name val any) → Contains (names ++ name ∷ []) any
      there is = by_test (bytes_eq name any) refl
        where
          by_test : (b : Bool) → bytes_eq name any ≡ b → Contains (names ++ name ∷ []) any
          by_test true same = subst (λ (n : List ℕ). Contains (names ++ name ∷ []) n) ((bytes_eq-Decides name any).0 same) (Contains-push names name)
          by_test false apart = Contains-append_left names (name ∷ []) any ((knows any).0 (subst (λ (b : Bool). IsSome (cond b (Some val) (vals any))) apart is))

      back : Contains (names ++ name ∷ []) any → IsSome (with_value vals name val any)
      back known = by_test (bytes_eq name any) refl (Contains-append_cases names (name ∷ []) any known)
        where
          by_test : (b : Bool) → bytes_eq name any ≡ b → Contains names any ⊎ Contains (name ∷ []) any → IsSome (with_value vals name val any)
          by_test true same which = rw same refl
          by_test false apart (inl earlier) = rw apart ((knows any).1 earlier)
          by_test false apart (inr own) = absurd (by_own (cons_cases name [] any own))
            where
              by_own : (name ≡ any) ⊎ Contains [] any → ⊥
              by_own (inl same) = true≢false (sym ((bytes_eq-Decides name any).1 same) ∙ apart)
              by_own (inr none) = no_item any none

-- ---- paths that come to a block

-- the label of the last block, behind which the next is entered
abbrev pub leaving : Option (List ℕ) → List Block → Option (List ℕ)
leaving before [] = before
leaving before (block ∷ blocks) = leaving (Some block.label) blocks

-- some blocks lead from the entry to the next block
abbrev pub Arrives : Func → List Block → Option (List ℕ) → List ℕ → Type 0
Arrives func done None next = (done ≡ []) × (next ≡ label_of func 0)
Arrives func done (Some last) next = IsPathTo func (map block_label done) last × GoesTo func last next

-- and so a path does
pub path_to : (func : Func) (done : List Block) (before : Option (List ℕ)) (next : List ℕ) → Arrives func done before next → IsPathTo func (map block_label done ++ next ∷ []) next
path_to func done None next (none, is) = subst (λ (blocks : List Block). IsPathTo func (map block_label blocks ++ next ∷ []) next) (sym none) (is, refl)
path_to func done (Some last) next (path, goes) = path_more func (map block_label done) last next path goes

-- ---- what stands among the items of a block

pub instr_among : (block : Block) (instr : Instr) → Contains block.body instr → Contains (items_of block) (OfInstr instr)
instr_among block instr among =
    Contains-append_right (map OfPhi block.phis) (map OfInstr block.body ++ OfEnd block.end ∷ []) (OfInstr instr)
    (Contains-append_left (map OfInstr block.body) (OfEnd block.end ∷ []) (OfInstr instr) (in_map OfInstr block.body instr among))

pub end_among : (block : Block) → Contains (items_of block) (OfEnd block.end)
end_among block =
    Contains-append_right (map OfPhi block.phis) (map OfInstr block.body ++ OfEnd block.end ∷ []) (OfEnd block.end)
    (Contains-append_right (map OfInstr block.body) (OfEnd block.end ∷ []) (OfEnd block.end) (in_here (OfEnd block.end) []))

-- the values of the items at the front of a block, over those at its start
pub record AtItem (func : Func) (done : List Block) (before : Option (List ℕ)) (Other : Vals → Type 0) (vals : Vals) (front : List Item) (now : Vals) : Type 0 where
  pub knows : Knows now (names_on func done ++ names_in front)
  pub grows : Grows vals now
  pub firm : AllByRecursion (IsFirm now before) front
  pub shared : (other : Vals) → Other other → Grows now other

module _ (func : Func) (rules : Rules func) (done : List Block) (within : AreWithin func rules done) (block : Block) (there : Contains func.blocks block) (never : Contains done block → ⊥)
    (before : Option (List ℕ)) (arrives : Arrives func done before block.label) (path : IsPathTo func (map block_label done ++ block.label ∷ []) block.label) where
  phi_among : (phis : List Phi) (body : List Instr) (phi : Phi) → Contains (map OfPhi phis ++ (map OfInstr body ++ OfEnd block.end ∷ [])) (OfPhi phi) → Contains phis phi
  phi_among phis body phi among = by_cases (Contains-append_cases (map OfPhi phis) (map OfInstr body ++ OfEnd block.end ∷ []) (OfPhi phi) among)
    where
      by_end : (OfEnd block.end ≡ OfPhi phi) ⊎ Contains [] (OfPhi phi) → ⊥
      by_end (inl same) = false≢true (ap is_phi same)
      by_end (inr none) = no_item (OfPhi phi) none

      by_rest : Contains (map OfInstr body) (OfPhi phi) ⊎ Contains (OfEnd block.end ∷ []) (OfPhi phi) → ⊥
      by_rest (inl instr) = let found = map_in OfInstr body (OfPhi phi) instr in false≢true (ap is_phi found.2)
      by_rest (inr terminator) = by_end (cons_cases (OfEnd block.end) [] (OfPhi phi) terminator)

      by_cases : Contains (map OfPhi phis) (OfPhi phi) ⊎ Contains (map OfInstr body ++ OfEnd block.end ∷ []) (OfPhi phi) → Contains phis phi
      by_cases (inl here) =
          let found = map_in OfPhi phis (OfPhi phi) here in
          subst (λ (p : Phi). Contains phis p) (ap (phi_in phi) found.2) found.1
      by_cases (inr later) = absurd (by_rest (Contains-append_cases (map OfInstr body) (OfEnd block.end ∷ []) (OfPhi phi) later))

  module _ (front rest : List Item) (now : Vals) (knows : Knows now (names_on func done ++ names_in front)) where
    -- an item that has a result computes a value
    computes : (item : Item) → items_of block ≡ front ++ item ∷ rest → (name : List ℕ) → result_of item ≡ Some name → (val : Val) × (item_value now before item ≡ Some val)
    computes (OfPhi phi) items name has = by_before before arrives refl
      where
        among : Contains block.phis phi
        among = phi_among block.phis block.body phi (subst (λ (l : List Item). Contains l (OfPhi phi)) (sym items) (Contains-append_right front (OfPhi phi ∷ rest) (OfPhi phi) (in_here (OfPhi phi) rest)))

        by_before : (came : Option (List ℕ)) → Arrives func done came block.label → came ≡ before → (val : Val) × (item_value now came (OfPhi phi) ≡ Some val)
        by_before None (none, is) same = absurd (not_entry func rules block there front rest phi items among is)
        by_before (Some last) (is_path, goes) same =
            let entry = entry_for func rules block there front rest phi items last goes in
            let known = λ (name : List ℕ) (value : entry.0.value ≡ operand.Name name). Contains-append_left (names_on func done) (names_in front) name
            (entry_known func rules done within block there front rest (OfPhi phi) items phi refl entry.0 entry.1 (subst (λ (label : List ℕ). IsPathTo func (map block_label done) label) (sym entry.2) is_path) name value) in
            let val = value_there now (names_on func done ++ names_in front) knows entry.0.value known in
            (val.0, ap (option_and_then (operand_value now)) entry.3 ∙ val.1)
    computes (OfInstr instr) items name has = by_width (result_width instr.op) refl
      where
        all : AllThere now (op_parts instr.op)
        all value width used =
            value_there now (names_on func done ++ names_in front) knows value
            (λ name is. item_known func rules done within block there front rest (OfInstr instr) items (op_parts instr.op) (λ site. refl) path name width (subst (λ (o : Operand). Contains (op_parts instr.op) (Use o width)) is used))

        by_width : (width : Option ℕ) → result_width instr.op ≡ width → (val : Val) × (op_value now instr.op ≡ Some val)
        by_width None is = absurd (none-some name (sym (ap (option_map (λ (w : ℕ). instr.name)) is) ∙ has))
        by_width (Some width) is = op_has now instr.op all width is
    computes (OfEnd terminator) items name has = absurd (none-some name has)

  -- another walk, which has the block's values behind the same blocks
  abbrev pub HasBlock : Vals → Type 0
  HasBlock other = AllByRecursion (IsValued other before) (items_of block)

  module _ (vals : Vals) (Other : Vals → Type 0) (has_block : (other : Vals) → Other other → HasBlock other) where
    abbrev Now : List Item → Type 0
    Now front = (now : Vals) × AtItem func done before Other vals front now

    names_more : (front : List Item) (item : Item) → names_on func done ++ names_in (front ++ item ∷ []) ≡ (names_on func done ++ names_in front) ++ item_names item
    names_more front item =
        ap (λ (names : List (List ℕ)). names_on func done ++ names) (flat_map-append item_names front (item ∷ []) ∙ ap (λ (names : List (List ℕ)). names_in front ++ names) (append-nil (item_names item)))
        ∙ sym (append_assoc (names_on func done) (names_in front) (item_names item))

    given_is : (other : Vals) (result : Option (List ℕ)) (name : List ℕ) (val : Option Val) → result ≡ Some name → IsGiven other result val → other name ≡ val
    given_is other None name val has given = absurd (none-some name has)
    given_is other (Some own) name val has given = ap other (sym (same_Some own name has)) ∙ given

    next_item : (front rest : List Item) (item : Item) → items_of block ≡ front ++ item ∷ rest → Now front → Now (front ++ item ∷ [])
    next_item front rest item items (now, at) = by_result (result_of item) refl
      where
        by_result : (result : Option (List ℕ)) → result_of item ≡ result → Now (front ++ item ∷ [])
        by_result None is =
            let none : item_names item ≡ [] = ap option_to_list is in (
              now,
              record {
                knows = subst (Knows now) (sym (append-nil (names_on func done ++ names_in front)) ∙ ap (λ (names : List (List ℕ)). (names_on func done ++ names_in front) ++ names) (sym none) ∙ sym (names_more front item)) at.knows;
                grows = at.grows;
                firm = all_push (IsFirm now before) front item at.firm (subst (λ (r : Option (List ℕ)). IsHeld now r (item_value now before item)) (sym is) tt);
                shared = at.shared;
              },
            )
        by_result (Some name) is =
            let val = computes front rest now at.knows item items name is in
            let own : item_names item ≡ name ∷ [] = ap option_to_list is in
            let fresh : now name ≡ None = unknown now (names_on func done ++ names_in front) at.knows name (is_new func rules.names block there front rest item items done within never name (subst (λ (names : List (List ℕ)). Contains names name) (sym own) (in_here name []))) in
            let next : Vals = with_value now name val.0 in
            let more : Grows now next = more_grows now name val.0 fresh in (
              next,
              record {
                knows = subst (Knows next) (ap (λ (names : List (List ℕ)). (names_on func done ++ names_in front) ++ names) (sym own) ∙ sym (names_more front item)) (more_known now name val.0 (names_on func done ++ names_in front) at.knows);
                grows = λ any held has. more any held (at.grows any held has);
                firm = all_push (IsFirm next before) front item (all_weaker (IsFirm now before) (IsFirm next before) (firm_grows now next more before) front at.firm)
                    (subst (λ (r : Option (List ℕ)). IsHeld next r (item_value next before item)) (sym is) (val.0, value_here now name val.0, item_grows now next more before item val.0 val.1));
                shared = λ other walks.
                    let grows = at.shared other walks in
                    let given : IsValued other before item = all_mid (IsValued other before) front rest item (subst (AllByRecursion (IsValued other before)) items (has_block other walks)) in
                    more_shared now name val.0 other grows (given_is other (result_of item) name (item_value other before item) is given ∙ item_grows now other grows before item val.0 val.1);
              },
            )

    all_items : (front rest : List Item) → items_of block ≡ front ++ rest → Now front → Now (items_of block)
    all_items front [] items now = subst Now (sym (items ∙ append-nil front)) now
    all_items front (item ∷ rest) items now =
        all_items (front ++ item ∷ []) rest (items ∙ sym (append_assoc front (item ∷ []) rest)) (next_item front rest item items now)

    -- all items of the block get their values
    pub block_values_made : Knows vals (names_on func done) → ((other : Vals) → Other other → Grows vals other) → Now (items_of block)
    block_values_made knows shared =
        all_items [] (items_of block) refl (
          vals,
          record {
            knows = subst (Knows vals) (sym (append-nil (names_on func done))) knows;
            grows = λ name val has. has;
            firm = tt;
            shared = shared;
          },
        )

  -- with the values of all items the block is ready
  pub block_ready : (now : Vals) → Knows now (names_on func done ++ names_in (items_of block)) → IsReady now block
  block_ready now knows = record {
    body = λ instr among value width used. used_there (OfInstr instr) (instr_among block instr among) (op_parts instr.op) (λ site. refl) value width used;
    ends = λ value width used. used_there (OfEnd block.end) (end_among block) (end_parts block.end) (λ site. refl) value width used;
  }
    where
      used_there : (item : Item) → Contains (items_of block) item → (parts : List Part) → ((site : Site) → item_uses func site item ≡ flat_map (part_uses site (label_of func site.block) (At site.item)) parts) → AllThere now parts
      used_there item among parts is value width used =
          let at = split_at (items_of block) item among in
          value_there now (names_on func done ++ names_in (items_of block)) knows value (λ name named.
          wider at.0 at.1 item at.2 name (item_known func rules done within block there at.0 at.1 item at.2 parts is path name width (subst (λ (o : Operand). Contains parts (Use o width)) named used)))
        where
          wider : (front rest : List Item) (item : Item) → items_of block ≡ front ++ item ∷ rest → (name : List ℕ) → Contains (names_on func done ++ names_in front) name → Contains (names_on func done ++ names_in (items_of block)) name
          wider front rest item items name known = by_cases (Contains-append_cases (names_on func done) (names_in front) name known)
            where
              by_cases : Contains (names_on func done) name ⊎ Contains (names_in front) name → Contains (names_on func done ++ names_in (items_of block)) name
              by_cases (inl earlier) = Contains-append_left (names_on func done) (names_in (items_of block)) name earlier
              by_cases (inr own) =
                  Contains-append_right (names_on func done) (names_in (items_of block)) name
                  (subst (λ (names : List (List ℕ)). Contains names name) (sym (ap names_in items ∙ flat_map-append item_names front (item ∷ rest))) (Contains-append_left (names_in front) (names_in (item ∷ rest)) name own))
