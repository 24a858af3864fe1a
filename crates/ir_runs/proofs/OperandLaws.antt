-- No operand of a walk lacks its value.
use Rattle.std.proofs.Common.{◌≡◌, ◌⊎◌, inl, inr, ℕ, List, [], ◌∷◌, ◌++◌, map, Option, Some, None, is_some, IsSome, option_and_then, refl, sym, ◌∙◌, ap, subst, append_assoc}
use Rattle.std.specs.Prelude.{Contains, flat_map}
use Rattle.std.specs.List.{AllByRecursion}
use Rattle.std.proofs.lemmas.List.{map-append}
use Rattle.std.proofs.lemmas.List.Concat.{flat_map-append}
use Rattle.std.proofs.lemmas.List.Elements.{Contains-append_left, Contains-append_right, Contains-append_cases}
use Rattle.ll_tree.specs.declared.func.Func.{Func}
use Rattle.ll_tree.specs.declared.block.Block.{Block}
use Rattle.ll_tree.specs.declared.block.Phi.{Phi}
use Rattle.ll_tree.specs.declared.block.Instr.{Instr}
use Rattle.ll_tree.specs.declared.block.Operand.{Operand}
use Rattle.ll_tree.specs.declared.block.Operand.TheVariants as operand
use Rattle.ll_rules.specs.Items.{Item, OfPhi, OfInstr, OfEnd, items_of, Part, Use, op_parts, end_parts}
use Rattle.ll_items.specs.Sites.{Site}
use Rattle.ll_flow.specs.declared.uses.Moment.TheVariants.{At}
use Rattle.ll_flow.specs.Paths.{label_of, GoesTo, IsPathTo}
use Rattle.ll_flow.specs.Uses.{part_uses, item_uses}
use Rattle.ll_verifier.specs.Rules.{Rules}
use Rattle.ir_runs.specs.Values.{Vals, operand_value, phi_value}
use Rattle.ir_runs.specs.Walk.{Goes, step_of, LeadOn, block_names, names_on, Walk}
use Rattle.ir_runs.specs.Operands.{AreThere, HasOperands, HaveOperands}
use Rattle.ir_runs.proofs.MemberLaws.{in_here, in_there, in_map}
use Rattle.ir_runs.proofs.NamesLaws.{names_in, param_names, block_names_are}
use Rattle.ir_runs.proofs.StepLaws.{step_target}
use Rattle.ir_runs.proofs.UsedLaws.{block_label, AreWithin, item_known, entry_known}
use Rattle.ir_runs.proofs.EntryLaws.{entry_for, not_entry}
use Rattle.ir_runs.proofs.BlockLaws.{split_at, Knows, leaving, Arrives, path_to, instr_among, end_among}
use Rattle.ir_runs.proofs.WalkLaws.{lead_at, leaving_push, first_label, visited}

all_of : {X : Type 0} (P : X → Type 0) (xs : List X) → ((x : X) → Contains xs x → P x) → AllByRecursion P xs
all_of P [] each = tt
all_of P (x ∷ xs) each = (each x (in_here x xs), all_of P xs (λ other there. each other (in_there x other xs there)))

module _ (func : Func) (rules : Rules func) (vals : Vals) (blocks : List Block) (within : AreWithin func rules blocks) (knows : Knows vals (names_on func blocks)) where
  -- one block, behind those before it
  module _ (done : List Block) (block : Block) (after : List Block) (are : blocks ≡ done ++ block ∷ after) (arrives : Arrives func done (leaving None done) block.label) where
    pub there : Contains func.blocks block
    there = within block (subst (λ (l : List Block). Contains l block) (sym are) (Contains-append_right done (block ∷ after) block (in_here block after)))

    pub before_within : AreWithin func rules done
    before_within other among = within other (subst (λ (l : List Block). Contains l other) (sym are) (Contains-append_left done (block ∷ after) other among))

    pub path : IsPathTo func (map block_label done ++ block.label ∷ []) block.label
    path = path_to func done (leaving None done) block.label arrives

    all_names : names_on func blocks ≡ names_on func done ++ (block_names block ++ flat_map block_names after)
    all_names =
        ap (names_on func) are
        ∙ ap (λ (names : List (List ℕ)). param_names func ++ names) (flat_map-append block_names done (block ∷ after))
        ∙ sym (append_assoc (param_names func) (flat_map block_names done) (block_names block ++ flat_map block_names after))

    known_earlier : (name : List ℕ) → Contains (names_on func done) name → IsSome (vals name)
    known_earlier name known =
        (knows name).1 (subst (λ (names : List (List ℕ)). Contains names name) (sym all_names) (Contains-append_left (names_on func done) (block_names block ++ flat_map block_names after) name known))

    known_own : (front rest : List Item) (item : Item) → items_of block ≡ front ++ item ∷ rest → (name : List ℕ) → Contains (names_in front) name → IsSome (vals name)
    known_own front rest item items name known =
        let own : Contains (block_names block) name = subst (λ (names : List (List ℕ)). Contains names name) (sym (block_names_are block ∙ ap names_in items ∙ flat_map-append _ front (item ∷ rest))) (Contains-append_left (names_in front) (names_in (item ∷ rest)) name known) in
        (knows name).1 (subst (λ (names : List (List ℕ)). Contains names name) (sym all_names)
        (Contains-append_right (names_on func done) (block_names block ++ flat_map block_names after) name (Contains-append_left (block_names block) (flat_map block_names after) name own)))

    known : (front rest : List Item) (item : Item) → items_of block ≡ front ++ item ∷ rest → (name : List ℕ) → Contains (names_on func done ++ names_in front) name → IsSome (vals name)
    known front rest item items name is = by_cases (Contains-append_cases (names_on func done) (names_in front) name is)
      where
        by_cases : Contains (names_on func done) name ⊎ Contains (names_in front) name → IsSome (vals name)
        by_cases (inl earlier) = known_earlier name earlier
        by_cases (inr own) = known_own front rest item items name own

    operand_there : (value : Operand) → ((name : List ℕ) → value ≡ operand.Name name → IsSome (vals name)) → IsSome (operand_value vals value)
    operand_there (operand.Name name) named = named name refl
    operand_there (operand.Const n) named = refl
    operand_there operand.Poison named = refl

    used_there : (item : Item) → Contains (items_of block) item → (parts : List Part) → ((site : Site) → item_uses func site item ≡ flat_map (part_uses site (label_of func site.block) (At site.item)) parts) → AreThere vals parts
    used_there item among parts is value width used =
        let at = split_at (items_of block) item among in
        operand_there value (λ name named.
        known at.0 at.1 item at.2 name (item_known func rules done before_within block there at.0 at.1 item at.2 parts is path name width (subst (λ (o : Operand). Contains parts (Use o width)) named used)))

    phi_among : (phi : Phi) → Contains block.phis phi → Contains (items_of block) (OfPhi phi)
    phi_among phi among = Contains-append_left (map OfPhi block.phis) (map OfInstr block.body ++ OfEnd block.end ∷ []) (OfPhi phi) (in_map OfPhi block.phis phi among)

    phi_by : (before : Option (List ℕ)) → Arrives func done before block.label → (phi : Phi) → Contains block.phis phi → (front : List Item) (rest : List Item) → items_of block ≡ front ++ OfPhi phi ∷ rest → IsSome (phi_value vals before phi)
    phi_by None (none, is) phi among front rest items = absurd (not_entry func rules block there front rest phi items among is)
    phi_by (Some last) (is_path, goes) phi among front rest items =
        let entry = entry_for func rules block there front rest phi items last goes in
        let from : IsPathTo func (map block_label done) entry.0.from = subst (λ (label : List ℕ). IsPathTo func (map block_label done) label) (sym entry.2) is_path in
        let has : IsSome (operand_value vals entry.0.value) = operand_there entry.0.value (λ name value. known_earlier name (entry_known func rules done before_within block there front rest (OfPhi phi) items phi refl entry.0 entry.1 from name value)) in
        ap is_some (ap (option_and_then (operand_value vals)) entry.3) ∙ has

    block_has : HasOperands vals (leaving None done) block
    block_has = record {
      phis = all_of (λ (phi : Phi). IsSome (phi_value vals (leaving None done) phi)) block.phis (λ phi among.
          let at = split_at (items_of block) (OfPhi phi) (phi_among phi among) in
          phi_by (leaving None done) arrives phi among at.0 at.1 at.2);
      body = all_of (λ (instr : Instr). AreThere vals (op_parts instr.op)) block.body (λ instr among. used_there (OfInstr instr) (instr_among block instr among) (op_parts instr.op) (λ site. refl));
      ends = used_there (OfEnd block.end) (end_among block) (end_parts block.end) (λ site. refl);
    }

  module _ (args : List ℕ) (leads : LeadOn func args vals blocks) where
    pub arrives_next : (done : List Block) (block next : Block) (after : List Block) → blocks ≡ done ++ block ∷ next ∷ after → Arrives func done (leaving None done) block.label → Arrives func (done ++ block ∷ []) (leaving None (done ++ block ∷ [])) next.label
    arrives_next done block next after are arrives =
        let goes : step_of func args vals block ≡ Some (Goes next.label) = lead_at func args vals done block next after (subst (LeadOn func args vals) are leads) in
        let to : GoesTo func block.label next.label = (block, there done block (next ∷ after) are arrives, refl, step_target func args vals block next.label goes) in
        let on : IsPathTo func (map block_label (done ++ block ∷ [])) block.label =
        subst (λ (labels : List (List ℕ)). IsPathTo func labels block.label) (sym (map-append block_label done (block ∷ []))) (path done block (next ∷ after) are arrives) in
        subst (λ (before : Option (List ℕ)). Arrives func (done ++ block ∷ []) before next.label) (sym (leaving_push None done block)) (on, to)

    blocks_have : (done : List Block) (block : Block) (after : List Block) → blocks ≡ done ++ block ∷ after → Arrives func done (leaving None done) block.label → HaveOperands vals (leaving None done) (block ∷ after)
    blocks_have done block [] are arrives = (block_has done block [] are arrives, tt)
    blocks_have done block (next ∷ after) are arrives =
        let here = block_has done block (next ∷ after) are arrives in
        let arrived = arrives_next done block next after are arrives in
        let rest = blocks_have (done ++ block ∷ []) next after (are ∙ sym (append_assoc done (block ∷ []) (next ∷ after))) arrived in
        (here, subst (λ (before : Option (List ℕ)). HaveOperands vals before (next ∷ after)) (leaving_push None done block) rest)

pub first_arrives : (func : Func) (args : List ℕ) (path : List (List ℕ)) (vals : Vals) → Rules func → (walk : Walk func args path vals) → (block : Block) (after : List Block) → walk.blocks ≡ block ∷ after → Arrives func [] None block.label
first_arrives func args path vals rules walk block after are = (refl, ap first_label (ap (map block_label) (sym are) ∙ labels))
  where
    labels : map block_label walk.blocks ≡ label_of func 0 ∷ walk.entry.0
    labels = sym (visited func rules args walk.arguments path walk.blocks walk.visits).0 ∙ walk.entry.1

pub walk_has : (func : Func) (args : List ℕ) (path : List (List ℕ)) (vals : Vals) → Rules func → (walk : Walk func args path vals) → HaveOperands vals None walk.blocks
walk_has func args path vals rules walk = by_blocks walk.blocks refl
  where
    by_blocks : (blocks : List Block) → walk.blocks ≡ blocks → HaveOperands vals None blocks
    by_blocks [] are = tt
    by_blocks (block ∷ after) are =
        blocks_have func rules vals walk.blocks (visited func rules args walk.arguments path walk.blocks walk.visits).1 walk.names args walk.follow [] block after are
        (first_arrives func args path vals rules walk block after are)
