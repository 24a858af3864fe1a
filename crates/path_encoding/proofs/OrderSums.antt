-- What the blocks have together, by their positions and by their places.
use Rattle.std.proofs.Common.{◌≡◌, ◌≢◌, ◌<◌, ◌≤◌, ◌+◌, ⊎_elim, ℕ, zero, suc, List, [], ◌∷◌, length, get_or, set, refl, sym, ◌∙◌, ap, subst, arith}
use Rattle.std.specs.Prelude.{sum_by}
use Rattle.std.specs.List.{Contains, range_with_len}
use Rattle.std.proofs.Math.ListN.{length-set}
use Rattle.std.proofs.lemmas.List.{get_or-set_other}
use Rattle.std.proofs.lemmas.List.Elements.{All-contains}
use Rattle.std.proofs.lemmas.List.Sums.{sum_by-cons, sum_by-set}
use Rattle.ll_tree.specs.declared.block.Block.{Block}
use Rattle.flow_rules.proofs.OrderLaws.{places_apart, places_within}
use Rattle.ll_verifier.specs.Sound.{SoundFunc, IsSound}
use Rattle.ir_runs.proofs.MemberLaws.{in_here, in_there}
use Rattle.path_encoding.specs.Spots.{no_block, block_at}
use Rattle.path_encoding.proofs.MarkSums.{AreApart}
use Rattle.path_encoding.proofs.PutLaws.{apart_of}

-- by positions from one on, and by what stands there
by_positions : (h g : ℕ → ℕ) (xs : List ℕ) (first : ℕ) → ((i : ℕ) → i < length xs → h (first + i) ≡ g (get_or xs i 0)) → sum_by h (range_with_len first (length xs)) ≡ sum_by g xs
by_positions h g [] first same = refl
by_positions h g (x ∷ xs) first same =
    let start : first ≡ first + 0 = omega arith in
    let here : h first ≡ g x = ap h start ∙ same 0 (omega arith) in
    let later = by_positions h g xs (first + 1) (λ i low. let next : first + 1 + i ≡ first + suc i = omega arith in ap h next ∙ same (suc i) (omega (arith, low))) in
    omega (arith, here, later, sum_by-cons h first (range_with_len (first + 1) (length xs)), sum_by-cons g x xs)

module _ (f : Block → ℕ) (none : f no_block ≡ 0) where
  abbrev at_place : List Block → ℕ → ℕ
  at_place blocks place = f (get_or blocks place no_block)

  -- what stands elsewhere
  others_same : (blocks : List Block) (place : ℕ) (order : List ℕ) → ¬ Contains order place → sum_by (at_place (set blocks place no_block)) order ≡ sum_by (at_place blocks) order
  others_same blocks place [] never = refl
  others_same blocks place (other ∷ order) never =
      let apart : other ≢ place = λ same. never (subst (λ (n : ℕ). Contains (other ∷ order) n) same (in_here other order)) in
      let here : at_place (set blocks place no_block) other ≡ at_place blocks other = ap f (get_or-set_other blocks place other no_block no_block apart) in
      let later = others_same blocks place order (λ there. never (in_there other place order there)) in
      omega (arith, here, later, sum_by-cons (at_place (set blocks place no_block)) other order, sum_by-cons (at_place blocks) other order)

  -- blocks that stand at different places have no more than all
  some_at_most_all : (order : List ℕ) (blocks : List Block) → AreApart order → ((place : ℕ) → Contains order place → place < length blocks) → sum_by (at_place blocks) order ≤ sum_by f blocks
  some_at_most_all [] blocks apart within = omega arith
  some_at_most_all (place ∷ order) blocks apart within =
      let rest = set blocks place no_block in
      let size = length-set blocks place no_block in
      let low = within place (in_here place order) in
      let later = some_at_most_all order rest apart.1 (λ other there. omega (arith, size, within other (in_there place other order there))) in
      omega (arith, none, later, others_same blocks place order apart.0, sum_by-cons (at_place blocks) place order, sum_by-set f blocks place no_block no_block low)

  pub blocks_sum : (it : SoundFunc) → IsSound it → sum_by (λ at. f (block_at it at)) (range_with_len 0 (length it.flow.order)) ≤ sum_by f it.func.blocks
  blocks_sum it sound =
      let order = it.flow.order in
      let kept = sound.flow.flow.kept in
      let same = by_positions (λ at. f (block_at it at)) (at_place it.func.blocks) order 0 (λ i low. let start : 0 + i ≡ i = omega arith in ap (λ (n : ℕ). f (block_at it n)) start) in
      let within = places_within (length it.func.blocks) it.flow.graph order kept in
      let most = some_at_most_all order it.func.blocks (apart_of order (places_apart (length it.func.blocks) it.flow.graph order kept)) (λ place there. All-contains (λ (p : ℕ). p < length it.func.blocks) order place within there) in
      omega (arith, same, most)
