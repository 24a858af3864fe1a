-- What the rules say of an item, and that blocks and items are few.
use Rattle.std.proofs.Common.{◌≡◌, ◌⊎◌, inl, inr, ◌+◌, ◌<◌, ◌≤◌, ⊎_elim, ℕ, false, List, [], ◌∷◌, ◌++◌, length, map, length-append, sym, ap, subst, arith}
use Rattle.std.specs.Prelude.{Contains, sum_by}
use Rattle.std.specs.List.{list_any}
use Rattle.std.proofs.lemmas.Bool.{not-false, or_parts}
use Rattle.std.proofs.lemmas.List.{length-map}
use Rattle.std.proofs.lemmas.List.Elements.{All-contains, Contains-append_cases, Contains-append_right}
use Rattle.std.proofs.lemmas.List.Sums.{sum_by-cons}
use Rattle.ll_tree.specs.Formed.{IsFormedBlock, IsFormedPhi, IsFormedInstr}
use Rattle.ll_tree.specs.declared.block.Block.{Block}
use Rattle.ll_tree.specs.declared.block.Instr.{Instr}
use Rattle.ll_tree.specs.declared.block.Phi.{Phi}
use Rattle.ll_rules.specs.Items.{Item, OfPhi, OfInstr, OfEnd, items_of, parts_of, values_of}
use Rattle.ll_rules.specs.Arithmetic.{is_linear, has_divisor}
use Rattle.ll_items.specs.Sites.{Site, sites_of}
use Rattle.ll_item_rules.specs.Widths.{part_differs, item_differs}
use Rattle.ll_item_rules.specs.Constants.{is_not_linear, has_bad_divisor}
use Rattle.ll_flow.proofs.PlaceLaws.{no_item, cons_cases}
use Rattle.ll_verifier.specs.Sound.{SoundFunc, IsSound}
use Rattle.ll_verifier.specs.Rules.{differs}
use Rattle.ir_runs.proofs.MemberLaws.{in_here, map_in}
use Rattle.ir_runs.proofs.EntryLaws.{item_site}
use Rattle.ir_runs.proofs.SiteLaws.{site_at}
use Rattle.ir_pieces.specs.Choice.{IsSoundOp}
use Rattle.path_encoding.specs.Spots.{block_at}
use Rattle.point_runs.proofs.BlocksLaws.{block_there}
use Rattle.piece_reads.specs.Given.{StandsBehind}

abbrev IsFormedItem : Item → Type 0
IsFormedItem (OfPhi phi) = IsFormedPhi phi
IsFormedItem (OfInstr instr) = IsFormedInstr instr
IsFormedItem (OfEnd end) = Unit {0}

formed_items : (block : Block) → IsFormedBlock block → (item : Item) → Contains (items_of block) item → IsFormedItem item
formed_items block formed item there = of_phis (Contains-append_cases (map OfPhi block.phis) (map OfInstr block.body ++ OfEnd block.end ∷ []) item there)
  where
    of_end : (OfEnd block.end ≡ item) ⊎ Contains [] item → IsFormedItem item
    of_end (inl same) = subst IsFormedItem same tt
    of_end (inr none) = absurd (no_item item none)

    of_body : Contains (map OfInstr block.body) item ⊎ Contains (OfEnd block.end ∷ []) item → IsFormedItem item
    of_body (inl body) = let found = map_in OfInstr block.body item body in subst IsFormedItem found.2 (All-contains IsFormedInstr block.body found.0 formed.body found.1)
    of_body (inr last) = of_end (cons_cases (OfEnd block.end) [] item last)

    of_phis : Contains (map OfPhi block.phis) item ⊎ Contains (map OfInstr block.body ++ OfEnd block.end ∷ []) item → IsFormedItem item
    of_phis (inl phis) = let found = map_in OfPhi block.phis item phis in subst IsFormedItem found.2 (All-contains IsFormedPhi block.phis found.0 formed.phis found.1)
    of_phis (inr later) = of_body (Contains-append_cases (map OfInstr block.body) (OfEnd block.end ∷ []) item later)

member_le : (f : Block → ℕ) (blocks : List Block) (block : Block) → Contains blocks block → f block ≤ sum_by f blocks
member_le f [] block there = absurd (no_item block there)
member_le f (first ∷ blocks) block there =
    ⊎_elim (λ same. omega (arith, ap f same, sum_by-cons f first blocks)) (λ later. omega (arith, member_le f blocks block later, sum_by-cons f first blocks)) (cons_cases first blocks block there)

module _ (it : SoundFunc) (sound : IsSound it) where
  pub blocks_few : length it.flow.order ≤ 256
  blocks_few = omega (arith, sound.flow.flow.size, sound.rules.limits.blocks)

  module _ (at : ℕ) (low : at < length it.flow.order) where
    there : Contains it.func.blocks (block_at it at)
    there = block_there it sound at low

    pub items_few : length (block_at it at).phis + length (block_at it at).body ≤ 2048
    items_few = omega (arith, member_le (λ (block : Block). length block.phis + length block.body) it.func.blocks (block_at it at) there, sound.rules.limits.values)

    pub items_count : length (items_of (block_at it at)) ≡ length (block_at it at).phis + length (block_at it at).body + 1
    items_count =
        let block = block_at it at in
        omega (arith, length-append (map OfPhi block.phis) (map OfInstr block.body ++ OfEnd block.end ∷ []), length-append (map OfInstr block.body) (OfEnd block.end ∷ []), length-map block.phis OfPhi, length-map block.body OfInstr)

  module _ (at : ℕ) (front : List Item) (item : Item) (stands : StandsBehind it at front item) where
    inside : Contains (items_of (block_at it at)) item
    inside = subst (λ (items : List Item). Contains items item) (sym stands.items) (Contains-append_right front (item ∷ stands.rest) item (in_here item stands.rest))

    formed_item : IsFormedItem item
    formed_item = formed_items (block_at it at) (All-contains IsFormedBlock it.func.blocks (block_at it at) sound.rules.formed.blocks (there at stands.within)) item inside

    site : (place : ℕ) × Contains (sites_of it.func) (site_at place (length front) item)
    site = let found = item_site it.func sound.rules (block_at it at) (there at stands.within) front stands.rest item stands.items in (found.0, found.1)

    linear_item : is_not_linear item ≡ false
    linear_item = All-contains (λ (s : Site). is_not_linear s.what ≡ false) (sites_of it.func) (site_at site.0 (length front) item) sound.rules.linear site.1

    divides_item : has_bad_divisor item ≡ false
    divides_item = All-contains (λ (s : Site). has_bad_divisor s.what ≡ false) (sites_of it.func) (site_at site.0 (length front) item) sound.rules.divisors site.1

    typed_item : item_differs it.func.ret item ≡ false
    typed_item =
        (or_parts (list_any (part_differs (values_of it.func)) (parts_of item)) (item_differs it.func.ret item)
        (All-contains (λ (s : Site). differs it.func s ≡ false) (sites_of it.func) (site_at site.0 (length front) item) sound.rules.typed site.1)).1

  module _ (at : ℕ) (front : List Item) where
    pub sound_op : (instr : Instr) → StandsBehind it at front (OfInstr instr) → IsSoundOp instr.op
    sound_op instr stands =
        let formed : IsFormedInstr instr = formed_item at front (OfInstr instr) stands in
        record {
          formed = formed.1;
          linear = not-false (is_linear instr.op) (linear_item at front (OfInstr instr) stands);
          divides = not-false (has_divisor instr.op) (divides_item at front (OfInstr instr) stands);
          converts = typed_item at front (OfInstr instr) stands;
        }

    pub sound_phi : (phi : Phi) → StandsBehind it at front (OfPhi phi) → IsFormedPhi phi
    sound_phi phi stands = formed_item at front (OfPhi phi) stands
