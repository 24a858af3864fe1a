-- Counts of a phi's entries beside those of the edges that lead to its block.
use Rattle.std.proofs.Common.{◌≡◌, ◌<◌, ℕ, List, [], ◌∷◌, length, get_or, drop, map, true, refl, sym, ◌∙◌, ap, arith, eqb}
use Rattle.std.specs.List.{list_all}
use Rattle.std.proofs.lemmas.Bool.Decides.{Decides-eqb}
use Rattle.std.proofs.lemmas.List.{get_or-map, length-map}
use Rattle.ll_tree.specs.declared.block.Block.{Block}
use Rattle.ll_tree.specs.declared.block.PhiEntry.{PhiEntry}
use Rattle.ll_rules.specs.Items.{targets_of}
use Rattle.ll_phi_rules.specs.Phis.{times, has_entries}
use Rattle.ll_phi_rules.specs.Counts.{counts_of, target_counts, KnowsTargets}

abbrev froms : List PhiEntry → List (List ℕ)
froms entries = map (λ (entry : PhiEntry). entry.from) entries

column-targets : (labels : List (List ℕ)) (place : ℕ) (blocks : List Block) → place < length labels
    → map (λ (l : List ℕ). get_or l place 0) (target_counts labels blocks) ≡ map (λ (block : Block). times (get_or labels place []) (targets_of block.end)) blocks
column-targets labels place [] within = refl
column-targets labels place (block ∷ blocks) within =
    rw (get_or-map (λ (label : List ℕ). times label (targets_of block.end)) labels place [] 0 within, column-targets labels place blocks within) refl

by_block : (names : List (List ℕ)) (blocks : List Block) → counts_of (map (λ (block : Block). block.label) blocks) names ≡ map (λ (block : Block). times block.label names) blocks
by_block names [] = refl
by_block names (block ∷ blocks) = ap (λ (l : List ℕ). times block.label names ∷ l) (by_block names blocks)

all_counted : (label : List ℕ) (entries : List PhiEntry) (blocks : List Block)
    → map (λ (block : Block). times block.label (froms entries)) blocks ≡ map (λ (block : Block). times label (targets_of block.end)) blocks → list_all (has_entries label entries) blocks ≡ true
all_counted label entries [] e = refl
all_counted label entries (block ∷ blocks) e =
    let here : eqb (times block.label (froms entries)) (times label (targets_of block.end)) ≡ true = (Decides-eqb (times block.label (froms entries)) (times label (targets_of block.end))).1 (ap (λ (l : List ℕ). get_or l 0 0) e) in
    rw (here, all_counted label entries blocks (ap (drop 1) e)) refl

module _ (rows : List (List ℕ)) (blocks : List Block) (labels : List (List ℕ)) (knows : KnowsTargets blocks labels rows)
    (entries : List PhiEntry) (counts : List ℕ) (counted : counts ≡ counts_of labels (froms entries)) where
  as_many : length labels ≡ length blocks
  as_many = ap length knows.labels_are ∙ length-map blocks (λ (block : Block). block.label)

  -- a count for each row
  pub same_size : length counts ≡ length rows
  same_size = ap length counted ∙ length-map labels (λ (label : List ℕ). times label (froms entries)) ∙ as_many
      ∙ sym (length-map blocks (λ (block : Block). counts_of labels (targets_of block.end))) ∙ ap length (sym knows.counts)

  -- counts that are those of the edges, at the places of all labels
  pub all_have_edges : (place : ℕ) → place < length blocks → counts ≡ map (λ (row : List ℕ). get_or row place 0) rows
      → list_all (has_entries (get_or (map (λ (block : Block). block.label) blocks) place []) entries) blocks ≡ true
  all_have_edges place within same =
      let there : place < length labels = omega (arith, within, as_many) in
      all_counted (get_or (map (λ (block : Block). block.label) blocks) place []) entries blocks
      (sym (by_block (froms entries) blocks) ∙ ap (λ (l : List (List ℕ)). counts_of l (froms entries)) (sym knows.labels_are) ∙ sym counted ∙ same
      ∙ ap (map (λ (l : List ℕ). get_or l place 0)) knows.counts ∙ column-targets labels place blocks there
      ∙ ap (λ (l : List (List ℕ)). map (λ (block : Block). times (get_or l place []) (targets_of block.end)) blocks) knows.labels_are)
