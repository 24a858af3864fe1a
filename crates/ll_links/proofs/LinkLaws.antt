-- Where no name is missing, what each item names has its number.
use Rattle.std.proofs.Common.{◌≡◌, ℕ, true, false, cond, List, [], ◌∷◌, map, Option, Some, None, refl, ◌∙◌, ap}
use Rattle.std.specs.Option.{option_map, is_some}
use Rattle.std.specs.List.{cons_option, filter_map, flat_map}
use Rattle.std.proofs.lemmas.List.Elements.{All-head, All-tail}
use Rattle.ll_tree.specs.declared.block.Block.{Block}
use Rattle.ll_tree.specs.declared.block.Case.{Case}
use Rattle.ll_tree.specs.declared.block.End.{End}
use Rattle.ll_tree.specs.declared.block.End.TheVariants as end
use Rattle.ll_tree.specs.declared.block.Operand.{Operand}
use Rattle.ll_tree.specs.declared.block.Operand.TheVariants as operand
use Rattle.ll_tree.specs.declared.block.PhiEntry.{PhiEntry}
use Rattle.ll_tree.specs.declared.op.Op.{Op}
use Rattle.ll_tree.specs.declared.op.Op.TheVariants.{Bin, Cmp, Cast, Select, Abs, Assume}
use Rattle.ll_rules.specs.Items.{Item, OfPhi, OfInstr, OfEnd, Part, Use, Goal, parts_of, op_parts, end_parts, targets_of}
use Rattle.ll_items.specs.Sites.{Site, sites_in}
use Rattle.name_table.specs.Names.{place_of}
use Rattle.ll_item_rules.specs.First.{NoneFails}
use Rattle.ll_item_rules.specs.Lacking.{lacking_value, lacking_label, lacking_name, or_else}
use Rattle.ll_links.specs.declared.link.BlockId.{BlockId}
use Rattle.ll_links.specs.declared.link.Source.{Source}
use Rattle.ll_links.specs.Links as spec
use Rattle.ll_links.specs.Table.{LinkLists, AreWhole, starts_from}

-- ---- operands and labels among parts

abbrev uses_in : List Part → List Operand
uses_in [] = []
uses_in (Use operand width ∷ parts) = operand ∷ uses_in parts
uses_in (Goal label ∷ parts) = uses_in parts

abbrev goals_in : List Part → List (List ℕ)
goals_in [] = []
goals_in (Use operand width ∷ parts) = goals_in parts
goals_in (Goal label ∷ parts) = label ∷ goals_in parts

abbrev entry_parts : ℕ → PhiEntry → List Part
entry_parts width entry = Use entry.value width ∷ Goal entry.from ∷ []

phi_uses : (width : ℕ) (entries : List PhiEntry) → uses_in (flat_map (entry_parts width) entries) ≡ map (λ (entry : PhiEntry). entry.value) entries
phi_uses width [] = refl
phi_uses width (entry ∷ entries) = ap (λ (l : List Operand). entry.value ∷ l) (phi_uses width entries)

phi_goals : (width : ℕ) (entries : List PhiEntry) → goals_in (flat_map (entry_parts width) entries) ≡ map (λ (entry : PhiEntry). entry.from) entries
phi_goals width [] = refl
phi_goals width (entry ∷ entries) = ap (λ (l : List (List ℕ)). entry.from ∷ l) (phi_goals width entries)

case_uses : (cases : List Case) → uses_in (map (λ (case : Case). Goal case.to) cases) ≡ []
case_uses [] = refl
case_uses (case ∷ cases) = case_uses cases

case_goals : (cases : List Case) → goals_in (map (λ (case : Case). Goal case.to) cases) ≡ map (λ (case : Case). case.to) cases
case_goals [] = refl
case_goals (case ∷ cases) = ap (λ (l : List (List ℕ)). case.to ∷ l) (case_goals cases)

op_uses : (op : Op) → uses_in (op_parts op) ≡ spec.op_operands op
op_uses (Bin kind flags width left right) = refl
op_uses (Cmp pred flags width left right) = refl
op_uses (Cast kind flags from arg to) = refl
op_uses (Select width cond first second) = refl
op_uses (Abs width arg strict) = refl
op_uses (Assume cond) = refl

op_goals : (op : Op) → goals_in (op_parts op) ≡ []
op_goals (Bin kind flags width left right) = refl
op_goals (Cmp pred flags width left right) = refl
op_goals (Cast kind flags from arg to) = refl
op_goals (Select width cond first second) = refl
op_goals (Abs width arg strict) = refl
op_goals (Assume cond) = refl

end_uses : (end : End) → uses_in (end_parts end) ≡ spec.end_operands end
end_uses end.RetVoid = refl
end_uses (end.Ret width value) = refl
end_uses (end.Br to) = refl
end_uses (end.CondBr cond on_one on_zero) = refl
end_uses (end.Switch width value default cases) = ap (λ (l : List Operand). value ∷ l) (case_uses cases)
end_uses end.Unreachable = refl

end_goals : (end : End) → goals_in (end_parts end) ≡ targets_of end
end_goals end.RetVoid = refl
end_goals (end.Ret width value) = refl
end_goals (end.Br to) = refl
end_goals (end.CondBr cond on_one on_zero) = refl
end_goals (end.Switch width value default cases) = ap (λ (l : List (List ℕ)). default ∷ l) (case_goals cases)
end_goals end.Unreachable = refl

item_uses : (what : Item) → uses_in (parts_of what) ≡ spec.operands_of what
item_uses (OfPhi phi) = phi_uses phi.width phi.entries
item_uses (OfInstr instr) = op_uses instr.op
item_uses (OfEnd end) = end_uses end

item_goals : (what : Item) → goals_in (parts_of what) ≡ spec.goals_of what
item_goals (OfPhi phi) = phi_goals phi.width phi.entries
item_goals (OfInstr instr) = op_goals instr.op
item_goals (OfEnd end) = end_goals end

-- ---- numbers of parts

one_more : {A : Type 0} (it : Option A) (rest : List A) → is_some it ≡ true → map Some (cons_option it rest) ≡ it ∷ map Some rest
one_more None rest e = absurd cc
one_more (Some x) rest e = refl

both : (first rest : Option (List ℕ)) → is_some (or_else first rest) ≡ false → (is_some first ≡ false) × (is_some rest ≡ false)
both None rest e = (refl, e)
both (Some name) rest e = absurd cc

module _ (values : List (List ℕ × ℕ)) (labels : List (List ℕ)) where
  has_source : (operand : Operand) → is_some (lacking_value values operand) ≡ false → is_some (spec.source_of values operand) ≡ true
  has_source (operand.Name name) named = by_place (place_of name (map (λ (value : List ℕ × ℕ). value.0) values)) named
    where
      by_place : (place : Option ℕ) → is_some (cond {A = Option (List ℕ)} (is_some place) None (Some name)) ≡ false → is_some (spec.value_source (option_map spec.value_id place)) ≡ true
      by_place None e = absurd cc
      by_place (Some number) e = refl
  has_source (operand.Const number) named = refl
  has_source operand.Poison named = refl

  has_block : (label : List ℕ) → is_some (lacking_label labels label) ≡ false → is_some (spec.block_of labels label) ≡ true
  has_block label named = by_place (place_of label labels) named
    where
      by_place : (place : Option ℕ) → is_some (cond {A = Option (List ℕ)} (is_some place) None (Some label)) ≡ false → is_some (option_map spec.block_id place) ≡ true
      by_place None e = absurd cc
      by_place (Some number) e = refl

  all_sources : (parts : List Part) → is_some (lacking_name values labels parts) ≡ false → map Some (filter_map (spec.source_in values) parts) ≡ map (spec.source_of values) (uses_in parts)
  all_sources [] e = refl
  all_sources (Use operand width ∷ parts) e =
      let named = both (lacking_value values operand) (lacking_name values labels parts) e in
      one_more (spec.source_of values operand) (filter_map (spec.source_in values) parts) (has_source operand named.0)
      ∙ ap (λ (l : List (Option Source)). spec.source_of values operand ∷ l) (all_sources parts named.1)
  all_sources (Goal label ∷ parts) e =
      let named = both (lacking_label labels label) (lacking_name values labels parts) e in
      all_sources parts named.1

  all_blocks : (parts : List Part) → is_some (lacking_name values labels parts) ≡ false → map Some (filter_map (spec.block_in labels) parts) ≡ map (spec.block_of labels) (goals_in parts)
  all_blocks [] e = refl
  all_blocks (Use operand width ∷ parts) e =
      let named = both (lacking_value values operand) (lacking_name values labels parts) e in
      all_blocks parts named.1
  all_blocks (Goal label ∷ parts) e =
      let named = both (lacking_label labels label) (lacking_name values labels parts) e in
      one_more (spec.block_of labels label) (filter_map (spec.block_in labels) parts) (has_block label named.0)
      ∙ ap (λ (l : List (Option BlockId)). spec.block_of labels label ∷ l) (all_blocks parts named.1)

  abbrev IsNamed : Site → Type 0
  IsNamed site = is_some (lacking_name values labels (parts_of site.what)) ≡ false

  site_sources : (sites : List Site) → NoneFails (λ (site : Site). is_some (lacking_name values labels (parts_of site.what))) sites
      → map (λ (list : List Source). map Some list) (map (λ (site : Site). spec.known_sources values site.what) sites) ≡ map (λ (site : Site). map (spec.source_of values) (spec.operands_of site.what)) sites
  site_sources [] h = refl
  site_sources (site ∷ sites) h =
      let here : map Some (spec.known_sources values site.what) ≡ map (spec.source_of values) (spec.operands_of site.what) =
      all_sources (parts_of site.what) (All-head IsNamed site sites h) ∙ ap (map (spec.source_of values)) (item_uses site.what) in
      λ i. here i ∷ site_sources sites (All-tail IsNamed site sites h) i

  site_blocks : (sites : List Site) → NoneFails (λ (site : Site). is_some (lacking_name values labels (parts_of site.what))) sites
      → map (λ (list : List BlockId). map Some list) (map (λ (site : Site). spec.known_blocks labels site.what) sites) ≡ map (λ (site : Site). map (spec.block_of labels) (spec.goals_of site.what)) sites
  site_blocks [] h = refl
  site_blocks (site ∷ sites) h =
      let here : map Some (spec.known_blocks labels site.what) ≡ map (spec.block_of labels) (spec.goals_of site.what) =
      all_blocks (parts_of site.what) (All-head IsNamed site sites h) ∙ ap (map (spec.block_of labels)) (item_goals site.what) in
      λ i. here i ∷ site_blocks sites (All-tail IsNamed site sites h) i

  -- the lists as they are made
  pub whole : (blocks : List Block) (sites : List Site) (it : LinkLists) → sites ≡ sites_in 0 blocks
      → NoneFails (λ (site : Site). is_some (lacking_name values labels (parts_of site.what))) sites
      → it.sources ≡ map (λ (site : Site). spec.known_sources values site.what) sites
      → it.blocks ≡ map (λ (site : Site). spec.known_blocks labels site.what) sites
      → it.results ≡ map (λ (site : Site). spec.result_of values site.what) sites
      → it.starts ≡ starts_from 0 blocks → AreWhole values labels blocks it
  whole blocks sites it same named sources goals results starts = record {
    sources = ap (map (λ (list : List Source). map Some list)) sources ∙ site_sources sites named ∙ ap (map (λ (site : Site). map (spec.source_of values) (spec.operands_of site.what))) same;
    goals = ap (map (λ (list : List BlockId). map Some list)) goals ∙ site_blocks sites named ∙ ap (map (λ (site : Site). map (spec.block_of labels) (spec.goals_of site.what))) same;
    results = results ∙ ap (map (λ (site : Site). spec.result_of values site.what)) same;
    starts = starts;
  }
