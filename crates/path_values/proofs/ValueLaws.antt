-- A way has one map of values.
use Rattle.std.proofs.Common.{◌≡◌, ◌⊎◌, inl, inr, ℕ, List, [], ◌∷◌, ◌++◌, Option, Some, None, is_some, refl, sym, ◌∙◌, ap, subst, append_assoc, append-nil}
use Rattle.std.specs.Prelude.{Contains, flat_map}
use Rattle.std.specs.List.{AllByRecursion}
use Rattle.std.proofs.lemmas.List.Concat.{flat_map-append}
use Rattle.std.proofs.lemmas.List.Elements.{Contains-append_left, Contains-append_right, Contains-append_cases}
use Rattle.ll_tree.specs.declared.func.Func.{Func}
use Rattle.ll_tree.specs.declared.block.Block.{Block}
use Rattle.ll_tree.specs.declared.block.Instr.{Instr}
use Rattle.ll_rules.specs.Items.{Item, OfInstr, OfEnd, items_of, Part, op_parts, end_parts}
use Rattle.ll_items.specs.Sites.{Site}
use Rattle.ll_flow.specs.declared.uses.Moment.TheVariants.{At}
use Rattle.ll_flow.specs.Paths.{label_of}
use Rattle.ll_flow.specs.Uses.{part_uses, item_uses}
use Rattle.ll_verifier.specs.Rules.{Rules}
use Rattle.ir_meaning.specs.declared.value.Val.{Val}
use Rattle.ir_runs.specs.Values.{Vals}
use Rattle.ir_runs.specs.Walk.{IsValued, AreValued, block_names, names_on}
use Rattle.ir_runs.proofs.NamesLaws.{names_in, param_names, block_names_are}
use Rattle.ir_runs.proofs.UsedLaws.{item_known}
use Rattle.ir_runs.proofs.BlockLaws.{all_weaker, split_at, IsFirm, firm_valued, firm_grows, Knows, leaving, instr_among, end_among, AtItem, block_values_made}
use Rattle.ir_runs.proofs.WalkLaws.{valued_at, names_push}
use Rattle.path_values.specs.Way.{IsWay, HasValues, AreTheValues, AreKnown, told, told_of}
use Rattle.path_values.proofs.KeptLaws.{Grows, told_is, told_knows, told_grows, told_same, grown_same, params_same, holds_same}
use Rattle.path_values.proofs.WayLaws.{there, before_within, path, never, arrives_at}

-- ---- values that are firm along some blocks

abbrev AreFirm : Vals → Option (List ℕ) → List Block → Type 0
AreFirm vals before [] = Unit {0}
AreFirm vals before (block ∷ blocks) = AllByRecursion (IsFirm vals before) (items_of block) × AreFirm vals (Some block.label) blocks

firm_push : (vals : Vals) (before : Option (List ℕ)) (done : List Block) (block : Block) → AreFirm vals before done → AllByRecursion (IsFirm vals (leaving before done)) (items_of block) → AreFirm vals before (done ++ block ∷ [])
firm_push vals before [] block firm here = (here, tt)
firm_push vals before (first ∷ done) block firm here = (firm.0, firm_push vals (Some first.label) done block firm.1 here)

all_firm_grows : (vals more : Vals) → Grows vals more → (before : Option (List ℕ)) (done : List Block) → AreFirm vals before done → AreFirm more before done
all_firm_grows vals more grows before [] firm = tt
all_firm_grows vals more grows before (block ∷ done) firm =
    (all_weaker (IsFirm vals before) (IsFirm more before) (firm_grows vals more grows before) (items_of block) firm.0, all_firm_grows vals more grows (Some block.label) done firm.1)

all_valued : (vals : Vals) (before : Option (List ℕ)) (done : List Block) → AreFirm vals before done → AreValued vals before done
all_valued vals before [] firm = tt
all_valued vals before (block ∷ done) firm = (all_weaker (IsFirm vals before) (IsValued vals before) (firm_valued vals before) (items_of block) firm.0, all_valued vals (Some block.label) done firm.1)

module _ (func : Func) (rules : Rules func) (blocks : List Block) (way : IsWay func blocks) where
  -- ---- what operands name

  module _ (block : Block) (among : Contains blocks block) (item : Item) (inside : Contains (items_of block) item) (parts : List Part)
      (is : (site : Site) → item_uses func site item ≡ flat_map (part_uses site (label_of func site.block) (At site.item)) parts) where
    at : (done : List Block) × (after : List Block) × (blocks ≡ done ++ block ∷ after)
    at = split_at blocks block among

    abbrev done : List Block
    done = at.0

    abbrev after : List Block
    after = at.1

    own : (front : List Item) × (rest : List Item) × (items_of block ≡ front ++ item ∷ rest)
    own = split_at (items_of block) item inside

    names_earlier : (name : List ℕ) → Contains (names_on func done) name → Contains (names_on func blocks) name
    names_earlier name known = by_cases (Contains-append_cases (param_names func) (flat_map block_names done) name known)
      where
        all : flat_map block_names blocks ≡ flat_map block_names done ++ flat_map block_names (block ∷ after)
        all = ap (flat_map block_names) at.2 ∙ flat_map-append block_names done (block ∷ after)

        by_cases : Contains (param_names func) name ⊎ Contains (flat_map block_names done) name → Contains (names_on func blocks) name
        by_cases (inl param) = Contains-append_left (param_names func) (flat_map block_names blocks) name param
        by_cases (inr result) =
            Contains-append_right (param_names func) (flat_map block_names blocks) name
            (subst (λ (names : List (List ℕ)). Contains names name) (sym all) (Contains-append_left (flat_map block_names done) (flat_map block_names (block ∷ after)) name result))

    names_here : (name : List ℕ) → Contains (names_in own.0) name → Contains (names_on func blocks) name
    names_here name known =
        let of_block : Contains (block_names block) name = subst (λ (names : List (List ℕ)). Contains names name) (sym (block_names_are block ∙ ap names_in own.2 ∙ flat_map-append _ own.0 (item ∷ own.1))) (Contains-append_left (names_in own.0) (names_in (item ∷ own.1)) name known) in
        let all : flat_map block_names blocks ≡ flat_map block_names done ++ flat_map block_names (block ∷ after) = ap (flat_map block_names) at.2 ∙ flat_map-append block_names done (block ∷ after) in
        Contains-append_right (param_names func) (flat_map block_names blocks) name
        (subst (λ (names : List (List ℕ)). Contains names name) (sym all)
        (Contains-append_right (flat_map block_names done) (flat_map block_names (block ∷ after)) name (Contains-append_left (block_names block) (flat_map block_names after) name of_block)))

    parts_known : AreKnown func blocks parts
    parts_known name width used =
        by_cases (Contains-append_cases (names_on func done) (names_in own.0) name
        (item_known func rules done (before_within func rules blocks way done block after at.2) block (there func rules blocks way done block after at.2) own.0 own.1 item own.2 parts is
        (path func rules blocks way done block after at.2 (arrives_at func rules blocks way done block after at.2)) name width used))
      where
        by_cases : Contains (names_on func done) name ⊎ Contains (names_in own.0) name → Contains (names_on func blocks) name
        by_cases (inl earlier) = names_earlier name earlier
        by_cases (inr here) = names_here name here

  pub body_known : (block : Block) → Contains blocks block → (instr : Instr) → Contains block.body instr → AreKnown func blocks (op_parts instr.op)
  body_known block among instr inside = parts_known block among (OfInstr instr) (instr_among block instr inside) (op_parts instr.op) (λ site. refl)

  pub end_known : (block : Block) → Contains blocks block → AreKnown func blocks (end_parts block.end)
  end_known block among = parts_known block among (OfEnd block.end) (end_among block) (end_parts block.end) (λ site. refl)

  -- ---- the values

  module _ (args : List ℕ) (value : List ℕ → Val) (has : HasValues func args blocks (told value)) where
    abbrev so_far : List Block → Vals
    so_far done = told_of (names_on func done) value

    abbrev Other : Vals → Type 0
    Other other = HasValues func args blocks other

    record Reached (done : List Block) : Type 0 where
      pub firm : AreFirm (so_far done) None done
      pub shared : (other : Vals) → Other other → Grows (so_far done) other

    begin : Reached []
    begin = record { firm = tt; shared = λ other others name val is. same other others name val is }
      where
        same : (other : Vals) → Other other → Grows (so_far []) other
        same other others name val is =
            let known : Contains (param_names func) name = subst (λ (names : List (List ℕ)). Contains names name) (append-nil (param_names func)) ((told_knows (names_on func []) value name).0 (ap is_some is)) in
            params_same other (told value) func.params args others.params has.params name known ∙ told_grows (names_on func []) value name val is

    module _ (reached_at : (done : List Block) (block : Block) (after : List Block) → blocks ≡ done ++ block ∷ after → Reached done → Reached (done ++ block ∷ [])) where
      all_reached : (done after : List Block) → blocks ≡ done ++ after → Reached done → Reached blocks
      all_reached done [] are reached = subst Reached (sym (are ∙ append-nil done)) reached
      all_reached done (block ∷ after) are reached =
          all_reached (done ++ block ∷ []) after (are ∙ sym (append_assoc done (block ∷ []) after)) (reached_at done block after are reached)

    module _ (done : List Block) (block : Block) (after : List Block) (are : blocks ≡ done ++ block ∷ after) (reached : Reached done) where
      abbrev Made : Vals → Type 0
      Made now = AtItem func done (leaving None done) Other (so_far done) (items_of block) now

      has_block : (other : Vals) → Other other → AllByRecursion (IsValued other (leaving None done)) (items_of block)
      has_block other others = valued_at other None done block after (subst (AreValued other None) are others.values)

      made : (now : Vals) × Made now
      made =
          block_values_made func rules done (before_within func rules blocks way done block after are) block (there func rules blocks way done block after are)
          (never func rules blocks way done block after are (arrives_at func rules blocks way done block after are)) (leaving None done) (arrives_at func rules blocks way done block after are)
          (path func rules blocks way done block after are (arrives_at func rules blocks way done block after are)) (so_far done) Other has_block (told_knows (names_on func done) value) reached.shared

      same : made.0 ≡ so_far (done ++ block ∷ [])
      same = told_same (names_on func (done ++ block ∷ [])) value made.0 (subst (Knows made.0) (names_push func done block) made.1.knows) (made.1.shared (told value) has)

      here : Made (so_far (done ++ block ∷ []))
      here = subst Made same made.1

      next : Reached (done ++ block ∷ [])
      next = record {
        firm = firm_push (so_far (done ++ block ∷ [])) None done block (all_firm_grows (so_far done) (so_far (done ++ block ∷ [])) here.grows None done reached.firm) here.firm;
        shared = here.shared;
      }

    reached : Reached blocks
    reached = all_reached next [] blocks refl begin

    pub the_values : AreTheValues func args blocks (so_far blocks)
    the_values = record {
      has = record {
        params = holds_same (told value) (so_far blocks) func.params args (λ name known. told_is (names_on func blocks) value name (Contains-append_left (param_names func) (flat_map block_names blocks) name known)) has.params;
        values = all_valued (so_far blocks) None blocks reached.firm;
      };
      names = told_knows (names_on func blocks) value;
    }

    pub only : (vals : Vals) → AreTheValues func args blocks vals → vals ≡ so_far blocks
    only vals are = grown_same (names_on func blocks) value vals are.names (reached.shared vals are.has)
