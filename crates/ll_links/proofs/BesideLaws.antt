-- The source beside a block, one place after the other.
use Rattle.std.proofs.Common.{false, Option, sym, ◌≡◌, ◌<◌, ◌≤◌, ◌+◌, ◌==◌, ℕ, cond, List, ◌∷◌, length, get_or, drop, Some, ◌∙◌, ap, arith}
use Rattle.std.proofs.lemmas.Bool.{cond-false}
use Rattle.std.proofs.lemmas.List.{drop_more}
use Rattle.ll_links.specs.declared.link.BlockId.{BlockId}
use Rattle.ll_links.specs.declared.link.Source.{Source}
use Rattle.ll_links.specs.Links.{source_beside}

module _ (from : ℕ) (blocks : List BlockId) (sources : List Source) (i : ℕ) (block : BlockId) (source : Source) where
  beside_more : i < length blocks → length blocks ≤ length sources → source_beside from (drop i blocks) (drop i sources)
      ≡ cond ((get_or blocks i block).0 == from) (Some (get_or sources i source)) (source_beside from (drop (i + 1) blocks) (drop (i + 1) sources))
  beside_more within long =
      ap (λ (l : List BlockId). source_beside from l (drop i sources)) (drop_more blocks i block within)
      ∙ ap (source_beside from (get_or blocks i block ∷ drop (i + 1) blocks)) (drop_more sources i source (omega (arith, within, long)))

  -- the next place, where another block stands at this one
  pub beside_next : (whole : Option Source) → i < length blocks → length blocks ≤ length sources → ((get_or blocks i block).0 == from) ≡ false
      → source_beside from (drop i blocks) (drop i sources) ≡ whole → source_beside from (drop (i + 1) blocks) (drop (i + 1) sources) ≡ whole
  beside_next whole within long apart before =
      sym (beside_more within long ∙ cond-false ((get_or blocks i block).0 == from) (Some (get_or sources i source)) (source_beside from (drop (i + 1) blocks) (drop (i + 1) sources)) apart) ∙ before
