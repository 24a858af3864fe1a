-- The operand of a phi for a block, by numbers.
use Rattle.std.proofs.Common.{◌≡◌, ◌≤◌, ◌==◌, ℕ, cond, true, false, List, [], ◌∷◌, length, get_or, drop, map, Option, Some, None, sym, ◌∙◌, ap, refl, arith}
use Rattle.std.specs.Option.{option_map, option_and_then}
use Rattle.std.specs.Map.{lookup}
use Rattle.std.specs.Str.{bytes_eq}
use Rattle.std.proofs.lemmas.Bool.{eqb-true, eq-eqb}
use Rattle.std.proofs.lemmas.Bool.Decides.{same_from_decides}
use Rattle.std.proofs.lemmas.List.{length-map}
use Rattle.std.proofs.lemmas.Slice.Eq.{bytes_eq-Decides}
use Rattle.ll_tree.specs.declared.block.Operand.{Operand}
use Rattle.ll_tree.specs.declared.block.PhiEntry.{PhiEntry}
use Rattle.ll_rules.specs.Items.{Item, OfPhi, OfInstr, OfEnd}
use Rattle.name_table.specs.Names.{place_of}
use Rattle.ll_links.specs.declared.link.BlockId.{BlockId}
use Rattle.ll_links.specs.declared.link.Source.{Source}
use Rattle.ll_links.specs.declared.link.Links.{Links}
use Rattle.ll_links.specs.Links.{block_id, block_of, source_of, source_coming, source_beside, AreLinks, IsPhi}
use Rattle.ll_flow.proofs.PlaceLaws.{found_at}

mapped : (block : BlockId) (found : Option ℕ) → Some block ≡ option_map block_id found → found ≡ Some block.0
mapped block None e = absurd cc
mapped block (Some place) e = ap (option_map (λ (other : BlockId). other.0)) (sym e)

same_number : (a b : ℕ) → Some a ≡ Some b → a ≡ b
same_number a b e = cc

module _ (values : List (List ℕ × ℕ)) (labels : List (List ℕ)) (label : List ℕ) (from : ℕ) (there : place_of label labels ≡ Some from) where
  -- the block with another label is this one where the labels are one
  same_test : (other : List ℕ) (block : BlockId) → Some block ≡ block_of labels other → (block.0 == from) ≡ bytes_eq label other
  same_test other block is =
      let place : place_of other labels ≡ Some block.0 = mapped block (place_of other labels) is in
      same_from_decides {P = label ≡ other} (block.0 == from) (bytes_eq label other) (
        λ test. sym (found_at label labels from there).1 ∙ ap (λ (n : ℕ). get_or labels n []) (sym (eqb-true block.0 from test)) ∙ (found_at other labels block.0 place).1,
        λ same. eq-eqb block.0 from (same_number block.0 from (sym place ∙ ap (λ (name : List ℕ). place_of name labels) (sym same) ∙ there)),
      )
      (bytes_eq-Decides label other)

  abbrev from_of : PhiEntry → List ℕ
  from_of entry = entry.from

  abbrev value_of : PhiEntry → Operand
  value_of entry = entry.value

  abbrev pair_of : PhiEntry → List ℕ × Operand
  pair_of entry = (entry.from, entry.value)

  coming : (entries : List PhiEntry) (blocks : List BlockId) (sources : List Source) → map Some blocks ≡ map (block_of labels) (map from_of entries) → map Some sources ≡ map (source_of values) (map value_of entries)
      → source_beside from blocks sources ≡ option_and_then (source_of values) (lookup (bytes_eq label) (map pair_of entries))
  coming [] [] sources b s = refl
  coming [] (block ∷ blocks) sources b s = absurd (cc b)
  coming (entry ∷ entries) [] sources b s = absurd (cc b)
  coming (entry ∷ entries) (block ∷ blocks) [] b s = absurd (cc s)
  coming (entry ∷ entries) (block ∷ blocks) (source ∷ sources) b s =
      let test : (block.0 == from) ≡ bytes_eq label entry.from = same_test entry.from block (ap (λ (l : List (Option BlockId)). get_or l 0 None) b) in
      let here : Some source ≡ source_of values entry.value = ap (λ (l : List (Option Source)). get_or l 0 None) s in
      let rest = coming entries blocks sources (ap (drop 1) b) (ap (drop 1) s) in
      ap (λ t. cond {A = Option Source} t (Some source) (source_beside from blocks sources)) test
      ∙ elim (bytes_eq label entry.from) as (λ t. cond {A = Option Source} t (Some source) (source_beside from blocks sources) ≡ option_and_then (source_of values) (cond {A = Option Operand} t (Some entry.value) (lookup (bytes_eq label) (map pair_of entries)))) [
        | true ↦ here
        | false ↦ rest
      ]

  pub comes : (what : Item) (links : Links) → IsPhi what → AreLinks values labels what links → source_beside from links.blocks.now links.sources.now ≡ source_coming values label what
  comes (OfPhi phi) links is are = coming phi.entries links.blocks.now links.sources.now are.blocks are.sources
  comes (OfInstr instr) links is are = absurd is
  comes (OfEnd end) links is are = absurd is

-- an operand for each block
pub beside : (values : List (List ℕ × ℕ)) (labels : List (List ℕ)) (what : Item) (links : Links) → IsPhi what → AreLinks values labels what links → length links.blocks.now ≤ length links.sources.now
beside values labels (OfPhi phi) links is are =
    let blocks = ap (length {A = Option BlockId}) are.blocks in
    let sources = ap (length {A = Option Source}) are.sources in
    let some_blocks = length-map {B = Option BlockId} links.blocks.now Some in
    let some_sources = length-map {B = Option Source} links.sources.now Some in
    let known_blocks = length-map (map (λ (entry : PhiEntry). entry.from) phi.entries) (block_of labels) in
    let known_sources = length-map (map (λ (entry : PhiEntry). entry.value) phi.entries) (source_of values) in
    let froms = length-map phi.entries (λ (entry : PhiEntry). entry.from) in
    let operands = length-map phi.entries (λ (entry : PhiEntry). entry.value) in
    omega (arith, blocks, sources, some_blocks, some_sources, known_blocks, known_sources, froms, operands)
beside values labels (OfInstr instr) links is are = absurd is
beside values labels (OfEnd end) links is are = absurd is
