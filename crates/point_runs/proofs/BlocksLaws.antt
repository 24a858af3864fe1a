-- The blocks of a path by positions, and what values agree with.
use Rattle.std.proofs.Common.{◌≡◌, ◌<◌, ⊎_elim, ℕ, ℤ, List, [], ◌∷◌, length, map, Option, Some, refl, sym, ◌∙◌, ap, subst, arith}
use Rattle.std.specs.Prelude.{Contains}
use Rattle.std.proofs.lemmas.List.{get_or-map}
use Rattle.std.proofs.lemmas.List.Elements.{Contains-get_or}
use Rattle.block_order.specs.Walk.{IsChain}
use Rattle.ll_tree.specs.declared.block.Block.{Block}
use Rattle.ll_tree.specs.declared.block.Instr.{Instr}
use Rattle.ll_tree.specs.declared.block.Operand.{Operand}
use Rattle.ll_tree.specs.declared.block.Operand.TheVariants as operand
use Rattle.ll_tree.specs.declared.op.Op.{Op}
use Rattle.ll_tree.specs.declared.op.Op.TheVariants.{Bin, Cmp, Cast, Select, Abs, Assume}
use Rattle.ll_rules.specs.Items.{Part, Use, op_parts, end_parts}
use Rattle.ll_flow.specs.Paths.{label_of}
use Rattle.ll_flow.proofs.PlaceLaws.{no_item, cons_cases}
use Rattle.ll_verifier.specs.Sound.{SoundFunc, IsSound}
use Rattle.ir_meaning.specs.declared.value.Val.{Val}
use Rattle.ir_runs.specs.Values.{Vals, operand_value}
use Rattle.ir_runs.specs.Walk.{block_of}
use Rattle.ir_runs.proofs.EntryLaws.{block_is}
use Rattle.ir_runs.proofs.MemberLaws.{in_here, in_there, in_map, map_in}
use Rattle.ir_runs.proofs.UsedLaws.{block_label, AreWithin}
use Rattle.path_values.specs.Way.{Begins, told, told_of}
use Rattle.path_values.proofs.KeptLaws.{told_is}
use Rattle.portion_cuts.specs.Paths.{place_at, label_at, IsPath}
use Rattle.portion_cuts.proofs.EntryLaws.{first_place}
use Rattle.portion_cuts.proofs.LabelLaws.{edge_within, place_within}
use Rattle.path_encoding.specs.declared.spots.PathSpots.{PathSpots}
use Rattle.path_encoding.specs.Spots.{no_block, block_at}
use Rattle.path_encoding.specs.Agree.{AllAgree, AgreesIn, AgreesOn, assume_parts, blocks_on}

module _ (it : SoundFunc) (sound : IsSound it) where
  pub label_is : (at : ℕ) → at < length it.flow.order → (block_at it at).label ≡ label_at it at
  label_is at low = sym (get_or-map (λ (block : Block). block.label) it.func.blocks (place_at it at) no_block [] (place_within it sound at low))

  pub block_there : (at : ℕ) → at < length it.flow.order → Contains it.func.blocks (block_at it at)
  block_there at low = Contains-get_or it.func.blocks (place_at it at) no_block (place_within it sound at low)

  some_block : 0 < length it.flow.order
  some_block = omega (arith, sound.flow.entry, sound.flow.flow.size)

  abbrev AreLow : List ℕ → Type 0
  AreLow path = (at : ℕ) → Contains path at → at < length it.flow.order

  chain_low : (at : ℕ) (rest : List ℕ) → at < length it.flow.order → IsChain it.flow.edges at rest → AreLow (at ∷ rest)
  chain_low at [] low chain other there =
      ⊎_elim (λ same. subst (λ (n : ℕ). n < length it.flow.order) same low) (λ none. absurd (no_item other none)) (cons_cases at [] other there)
  chain_low at (next ∷ rest) low chain other there =
      ⊎_elim (λ same. subst (λ (n : ℕ). n < length it.flow.order) same low) (λ later. chain_low next rest (edge_within it sound at next chain.0).1 chain.1 other later) (cons_cases at (next ∷ rest) other there)

  pub path_low : (path : List ℕ) → IsPath it.flow.edges path → AreLow path
  path_low [] is = absurd is
  path_low (first ∷ rest) is = chain_low first rest (subst (λ (n : ℕ). n < length it.flow.order) (sym is.0) some_block) is.1

  pub labels_are : (path : List ℕ) → AreLow path → map block_label (blocks_on it path) ≡ map (label_at it) path
  labels_are [] low = refl
  labels_are (at ∷ path) low =
      let here = label_is at (low at (in_here at path)) in
      let rest = labels_are path (λ other there. low other (in_there at other path there)) in
      λ i. here i ∷ rest i

  pub within : (path : List ℕ) → AreLow path → AreWithin it.func sound.rules (blocks_on it path)
  within path low block there =
      let at = map_in (block_at it) path block there in
      subst (λ (b : Block). Contains it.func.blocks b) at.2 (block_there at.0 (low at.0 at.1))

  pub begins : (path : List ℕ) → IsPath it.flow.edges path → Begins it.func (blocks_on it path)
  begins [] is = absurd is
  begins (first ∷ rest) is =
      ap (λ (at : ℕ). (block_at it at).label) is.0 ∙ label_is 0 some_block ∙ ap (label_of it.func) (first_place it sound)

  abbrev some_first : List (Option Block) → Block
  some_first [] = no_block
  some_first (found ∷ rest) = cases found
    where
      cases : Option Block → Block
      cases (Some block) = block
      cases _ = no_block

  -- the blocks of these labels are those of the path
  pub blocks_are : (path : List ℕ) → AreLow path → (blocks : List Block) → map (block_of it.func) (map (label_at it) path) ≡ map Some blocks → blocks ≡ blocks_on it path
  blocks_are [] low [] visits = refl
  blocks_are [] low (block ∷ blocks) visits = absurd (omega (arith, ap length visits))
  blocks_are (at ∷ path) low [] visits = absurd (omega (arith, ap length visits))
  blocks_are (at ∷ path) low (block ∷ blocks) visits =
      let low_here : at < length it.flow.order = low at (in_here at path) in
      let found : block_of it.func (label_at it at) ≡ Some (block_at it at) =
      ap (block_of it.func) (sym (label_is at low_here)) ∙ block_is it.func sound.rules (block_at it at) (block_there at low_here) in
      let here : block ≡ block_at it at = ap some_first (sym visits) ∙ ap (λ (o : Option Block). some_first (o ∷ [])) found in
      let rest = blocks_are path (λ other there. low other (in_there at other path there)) blocks (ap rest_found visits) in
      λ i. here i ∷ rest i
    where
      rest_found : List (Option Block) → List (Option Block)
      rest_found [] = []
      rest_found (found ∷ rest) = rest

-- ---- values of known names agree as what is told

module _ (it : SoundFunc) (spots : PathSpots) (point : List ℤ) (names : List (List ℕ)) (value : List ℕ → Val) where
  abbrev vals : Vals
  vals = told_of names value

  operand_same : (asked : Operand) → ((name : List ℕ) → asked ≡ operand.Name name → Contains names name) → operand_value vals asked ≡ operand_value (told value) asked
  operand_same (operand.Name name) known = told_is names value name (known name refl)
  operand_same (operand.Const n) known = refl
  operand_same operand.Poison known = refl

  abbrev AreNames : List Part → Type 0
  AreNames parts = (name : List ℕ) (width : ℕ) → Contains parts (Use (operand.Name name) width) → Contains names name

  all_agree : (parts : List Part) → AreNames parts → AllAgree it spots point (told value) parts → AllAgree it spots point vals parts
  all_agree parts known agree asked width used =
      let here = agree asked width used in
      record {
        value = operand_same asked (λ name is. known name width (subst (λ (o : Operand). Contains parts (Use o width)) is used)) ∙ here.value;
        fits = here.fits;
      }

  assumed : (op : Op) → AreNames (op_parts op) → AreNames (assume_parts op)
  assumed (Bin kind flags width left right) known name w used = absurd (no_item (Use (operand.Name name) w) used)
  assumed (Cmp pred flags width left right) known name w used = absurd (no_item (Use (operand.Name name) w) used)
  assumed (Cast kind flags from arg to) known name w used = absurd (no_item (Use (operand.Name name) w) used)
  assumed (Select width cond first second) known name w used = absurd (no_item (Use (operand.Name name) w) used)
  assumed (Abs width arg strict) known name w used = absurd (no_item (Use (operand.Name name) w) used)
  assumed (Assume cond) known name w used = known name w used

  agrees_in : (block : Block) → ((instr : Instr) → Contains block.body instr → AreNames (op_parts instr.op)) → AreNames (end_parts block.end) → AgreesIn it spots point (told value) block → AgreesIn it spots point vals block
  agrees_in block body ends agree = record {
    assumes = λ instr there. all_agree (assume_parts instr.op) (assumed instr.op (body instr there)) (agree.assumes instr there);
    ends = all_agree (end_parts block.end) ends agree.ends;
  }

  pub agrees_on : (path : List ℕ) → ((block : Block) → Contains (blocks_on it path) block → (instr : Instr) → Contains block.body instr → AreNames (op_parts instr.op))
      → ((block : Block) → Contains (blocks_on it path) block → AreNames (end_parts block.end)) → AgreesOn it spots point (told value) path → AgreesOn it spots point vals path
  agrees_on path body ends agree at there =
      agrees_in (block_at it at) (body (block_at it at) (in_map (block_at it) path at there)) (ends (block_at it at) (in_map (block_at it) path at there)) (agree at there)
