-- Arguments have one answer.
use Rattle.std.proofs.Common.{◌≡◌, ◌<◌, ℕ, List, [], ◌∷◌, length, map, Option, Some, None, refl, sym, ◌∙◌, ap, subst, arith}
use Rattle.std.specs.Prelude.{Contains, flat_map}
use Rattle.std.specs.List.{last_or}
use Rattle.std.proofs.lemmas.Option.{none-some, same_Some}
use Rattle.std.proofs.lemmas.List.{length-map}
use Rattle.std.proofs.lemmas.List.Elements.{Contains-get_or}
use Rattle.ll_tree.specs.declared.func.Func.{Func}
use Rattle.ll_tree.specs.declared.block.Block.{Block}
use Rattle.ll_rules.specs.Items.{labels_of}
use Rattle.name_table.specs.Names.{place_of, AreDifferent}
use Rattle.name_table.proofs.DifferentLaws.{place_of-append, different-right}
use Rattle.ll_flow.specs.Paths.{label_of}
use Rattle.ll_flow.proofs.PlaceLaws.{found_at, same_place, absent}
use Rattle.ll_verifier.specs.Rules.{Rules}
use Rattle.ir_runs.specs.Walk.{Returns, Fails, block_names}
use Rattle.ir_runs.specs.Costs.{LabelCosts, path_cost}
use Rattle.ir_runs.specs.Answer.{IsAnswer}
use Rattle.ir_runs.specs.declared.run_end.RunEnd.{RunEnd}
use Rattle.ir_runs.specs.declared.run_end.RunEnd.TheVariants.{Done, Undefined}
use Rattle.ir_runs.proofs.MemberLaws.{in_here, map_in, in_flat}
use Rattle.ir_runs.proofs.NamesLaws.{all_names, of_blocks}
use Rattle.ir_runs.proofs.UsedLaws.{block_label}
use Rattle.ir_runs.proofs.WalkLaws.{one}
use Rattle.ir_runs.proofs.OnceLaws.{returned, failed, ended_run, ended_stuck}

-- ---- labels differ

nowhere : (name : List ℕ) (names : List (List ℕ)) → (Contains names name → ⊥) → place_of name names ≡ None
nowhere name names never = by_place (place_of name names) refl
  where
    by_place : (found : Option ℕ) → place_of name names ≡ found → place_of name names ≡ None
    by_place None is = is
    by_place (Some place) is =
        let at = found_at name names place is in
        absurd (never (subst (λ (n : List ℕ). Contains names n) at.1 (Contains-get_or names place [] at.0)))

pub labels_apart : (blocks : List Block) → AreDifferent (flat_map all_names blocks) → AreDifferent (map block_label blocks)
labels_apart [] different = tt
labels_apart (block ∷ blocks) different =
    (nowhere block.label (map block_label blocks) never, labels_apart blocks (different-right (block_names block) (flat_map all_names blocks) different.1))
  where
    never : Contains (map block_label blocks) block.label → ⊥
    never there =
        let other = map_in block_label blocks block.label there in
        absent block.label (flat_map all_names blocks) (place_of-append block.label (block_names block) (flat_map all_names blocks) different.0).1
        (in_flat all_names blocks other.0 block.label other.1 (subst (λ (n : List ℕ). Contains (all_names other.0) n) other.2 (in_here other.0.label (block_names other.0))))

pub one_label : (func : Func) → Rules func → (a b : ℕ) → a < length func.blocks → b < length func.blocks → label_of func a ≡ label_of func b → a ≡ b
one_label func rules a b a_low b_low same =
    same_place (labels_of func) (labels_apart func.blocks (of_blocks func rules.names)) a b (omega (arith, a_low, length-map func.blocks block_label)) (omega (arith, b_low, length-map func.blocks block_label)) same

-- ---- one answer

pub one_answer : (func : Func) (costs : LabelCosts) (args : List ℕ) → Rules func → (path : List (List ℕ)) (given : RunEnd) → IsAnswer func costs args path given → (other : List (List ℕ)) (found : RunEnd) → IsAnswer func costs args other found → (other ≡ path) × (found ≡ given)
one_answer func costs args rules path (Done result cost) ((vals, run), is) other (Done value number) ((others, ran), counts) =
    let it = one func rules args run.walk.arguments in
    let first = it.only path vals (Returns result) (ended_run func args path vals result run) in
    let second = it.only other others (Returns value) (ended_run func args other others value ran) in
    let same : other ≡ path = second.0 ∙ sym first.0 in
    let results : value ≡ result = same_Some value result (ap returned (second.2 ∙ sym first.2)) in
    let numbers : number ≡ cost = counts ∙ ap (path_cost costs) same ∙ sym is in
    (same, λ i. Done (results i) (numbers i))
one_answer func costs args rules path (Done result cost) ((vals, run), is) other (Undefined block why) (low, (stuck, on)) =
    let it = one func rules args run.walk.arguments in
    let first = it.only path vals (Returns result) (ended_run func args path vals result run) in
    let second = it.only stuck.path stuck.vals (Fails why) (ended_stuck func args (label_of func block) why stuck) in
    absurd (none-some result (ap returned (second.2 ∙ sym first.2)))
one_answer func costs args rules path (Undefined block cause) (low, (stuck, on)) other (Done value number) ((others, ran), counts) =
    let it = one func rules args ran.walk.arguments in
    let first = it.only stuck.path stuck.vals (Fails cause) (ended_stuck func args (label_of func block) cause stuck) in
    let second = it.only other others (Returns value) (ended_run func args other others value ran) in
    absurd (none-some value (ap returned (first.2 ∙ sym second.2)))
one_answer func costs args rules path (Undefined block cause) (low, (stuck, on)) other (Undefined at why) (at_low, (fails, through)) =
    let it = one func rules args stuck.walk.arguments in
    let first = it.only stuck.path stuck.vals (Fails cause) (ended_stuck func args (label_of func block) cause stuck) in
    let second = it.only fails.path fails.vals (Fails why) (ended_stuck func args (label_of func at) why fails) in
    let paths : fails.path ≡ stuck.path = second.0 ∙ sym first.0 in
    let causes : why ≡ cause = same_Some why cause (ap failed (second.2 ∙ sym first.2)) in
    let labels : label_of func at ≡ label_of func block = same_Some (label_of func at) (label_of func block) (sym fails.there ∙ ap (last_or None) paths ∙ stuck.there) in
    let places : at ≡ block = one_label func rules at block at_low low labels in
    (sym through ∙ paths ∙ on, λ i. Undefined (places i) (causes i))
