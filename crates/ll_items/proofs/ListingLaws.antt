-- Names and items of a block, joined from those of its parts.
use Rattle.std.proofs.Common.{◌≡◌, ◌<◌, ◌+◌, ℕ, suc, List, [], ◌∷◌, ◌++◌, length, get_or, drop, map, Result, Ok, Err, refl, sym, ◌∙◌, ap, arith, append_assoc}
use Rattle.std.specs.Prelude.{OnOk}
use Rattle.std.specs.List.{flat_map}
use Rattle.std.proofs.lemmas.List.{drop_more, map-append, length-map}
use Rattle.ll_tree.specs.declared.block.Block.{Block}
use Rattle.ll_tree.specs.declared.block.Phi.{Phi}
use Rattle.ll_tree.specs.declared.block.Instr.{Instr}
use Rattle.ll_tree.specs.declared.block.End.{End}
use Rattle.ll_rules.specs.Items.{Item, OfPhi, OfInstr, OfEnd, items_of, block_values, named, result_width}
use Rattle.ll_items.specs.Sites.{Site, sites_from, sites_in}

pub on_ok-map : {T E : Type 0} (r : Result T E) (P Q : Type 0) → OnOk r P → (P → Q) → OnOk r Q
on_ok-map (Ok x) P Q h f = f h
on_ok-map (Err e) P Q h f = tt

abbrev results : List Instr → List (List ℕ × ℕ)
results body = flat_map (λ (instr : Instr). named instr.name (result_width instr.op)) body

phi_names : (phis : List Phi) → map (λ (phi : Phi). phi.name) phis ≡ map (λ (value : List ℕ × ℕ). value.0) (map (λ (phi : Phi). (phi.name, phi.width)) phis)
phi_names [] = refl
phi_names (phi ∷ phis) = ap (λ (l : List (List ℕ)). phi.name ∷ l) (phi_names phis)

-- a block's label, its phis and its results
pub block_names : (block : Block) (old first second third : List (List ℕ)) (label : List ℕ) (phis : List Phi) (body : List Instr) → label ≡ block.label → phis ≡ block.phis → body ≡ block.body
    → first ≡ old ++ label ∷ [] → second ≡ first ++ map (λ (phi : Phi). phi.name) phis → third ≡ second ++ map (λ (value : List ℕ × ℕ). value.0) (results body)
    → third ≡ old ++ block.label ∷ map (λ (value : List ℕ × ℕ). value.0) (block_values block)
block_names block old first second third label phis body is_label is_phis is_body e f g =
    let parts : map (λ (value : List ℕ × ℕ). value.0) (block_values block) ≡ map (λ (phi : Phi). phi.name) block.phis ++ map (λ (value : List ℕ × ℕ). value.0) (results block.body) =
    map-append (λ (value : List ℕ × ℕ). value.0) (map (λ (phi : Phi). (phi.name, phi.width)) block.phis) (results block.body) ∙ ap (λ (l : List (List ℕ)). l ++ map (λ (value : List ℕ × ℕ). value.0) (results block.body)) (sym (phi_names block.phis)) in
    let opened : third ≡ ((old ++ block.label ∷ []) ++ map (λ (phi : Phi). phi.name) block.phis) ++ map (λ (value : List ℕ × ℕ). value.0) (results block.body) =
    g ∙ (λ i. f i ++ map (λ (value : List ℕ × ℕ). value.0) (results (is_body i))) ∙ (λ i. (e i ++ map (λ (phi : Phi). phi.name) (is_phis i)) ++ map (λ (value : List ℕ × ℕ). value.0) (results block.body))
    ∙ (λ i. ((old ++ is_label i ∷ []) ++ map (λ (phi : Phi). phi.name) block.phis) ++ map (λ (value : List ℕ × ℕ). value.0) (results block.body)) in
    opened ∙ append_assoc (old ++ block.label ∷ []) (map (λ (phi : Phi). phi.name) block.phis) (map (λ (value : List ℕ × ℕ). value.0) (results block.body))
    ∙ append_assoc old (block.label ∷ []) (map (λ (phi : Phi). phi.name) block.phis ++ map (λ (value : List ℕ × ℕ). value.0) (results block.body))
    ∙ ap (λ (l : List (List ℕ)). old ++ block.label ∷ l) (sym parts)

-- items of a block after others of it
sites_from-append : (block before : ℕ) (xs ys : List Item) → sites_from block before (xs ++ ys) ≡ sites_from block before xs ++ sites_from block (before + length xs) ys
sites_from-append block before [] ys = ap (λ n. sites_from block n ys) (omega arith)
sites_from-append block before (x ∷ xs) ys =
    ap (λ (l : List Site). (record { block = block; item = before; what = x }) ∷ l) (sites_from-append block (before + 1) xs ys
    ∙ ap (λ n. sites_from block (before + 1) xs ++ sites_from block n ys) (shifted before (length xs)))
  where
    shifted : (a b : ℕ) → (a + 1) + b ≡ a + suc b
    shifted a b = omega arith

-- a block's phis, its instructions and its terminator
pub block_sites : (block : Block) (at : ℕ) (old first second third : List Site) (phis : List Phi) (body : List Instr) (end : End) (many more : ℕ) → phis ≡ block.phis → body ≡ block.body → end ≡ block.end
    → many ≡ length block.phis → more ≡ length block.body
    → first ≡ old ++ sites_from at 0 (map OfPhi phis) → second ≡ first ++ sites_from at many (map OfInstr body)
    → third ≡ second ++ (record { block = at; item = many + more; what = OfEnd end }) ∷ []
    → third ≡ old ++ sites_from at 0 (items_of block)
block_sites block at old first second third phis body end many more is_phis is_body is_end is_many is_more e f g =
    let opened : third ≡ ((old ++ sites_from at 0 (map OfPhi block.phis)) ++ sites_from at (length block.phis) (map OfInstr block.body)) ++ sites_from at (length block.phis + length block.body) (OfEnd block.end ∷ []) =
    g ∙ (λ i. f i ++ sites_from at (is_many i + is_more i) (OfEnd (is_end i) ∷ [])) ∙ (λ i. (e i ++ sites_from at (is_many i) (map OfInstr (is_body i))) ++ sites_from at (length block.phis + length block.body) (OfEnd block.end ∷ []))
    ∙ (λ i. ((old ++ sites_from at 0 (map OfPhi (is_phis i))) ++ sites_from at (length block.phis) (map OfInstr block.body)) ++ sites_from at (length block.phis + length block.body) (OfEnd block.end ∷ [])) in
    let later : sites_from at (length block.phis) (map OfInstr block.body ++ OfEnd block.end ∷ []) ≡ sites_from at (length block.phis) (map OfInstr block.body) ++ sites_from at (length block.phis + length block.body) (OfEnd block.end ∷ []) =
    sites_from-append at (length block.phis) (map OfInstr block.body) (OfEnd block.end ∷ []) ∙ ap (λ n. sites_from at (length block.phis) (map OfInstr block.body) ++ sites_from at (length block.phis + n) (OfEnd block.end ∷ [])) (length-map block.body OfInstr) in
    let whole : sites_from at 0 (items_of block) ≡ sites_from at 0 (map OfPhi block.phis) ++ sites_from at (length block.phis) (map OfInstr block.body ++ OfEnd block.end ∷ []) =
    sites_from-append at 0 (map OfPhi block.phis) (map OfInstr block.body ++ OfEnd block.end ∷ []) ∙ ap (λ n. sites_from at 0 (map OfPhi block.phis) ++ sites_from at n (map OfInstr block.body ++ OfEnd block.end ∷ [])) (counted (length (map OfPhi block.phis)) (length block.phis) (length-map block.phis OfPhi)) in
    opened ∙ append_assoc (old ++ sites_from at 0 (map OfPhi block.phis)) (sites_from at (length block.phis) (map OfInstr block.body)) (sites_from at (length block.phis + length block.body) (OfEnd block.end ∷ []))
    ∙ append_assoc old (sites_from at 0 (map OfPhi block.phis)) (sites_from at (length block.phis) (map OfInstr block.body) ++ sites_from at (length block.phis + length block.body) (OfEnd block.end ∷ []))
    ∙ ap (λ (l : List Site). old ++ (sites_from at 0 (map OfPhi block.phis) ++ l)) (sym later) ∙ ap (λ (l : List Site). old ++ l) (sym whole)
  where
    counted : (a b : ℕ) → a ≡ b → 0 + a ≡ b
    counted a b e = omega arith

-- one block more
pub sites_more : (blocks : List Block) (at : ℕ) (block : Block) (old new whole : List Site) → at < length blocks → block ≡ get_or blocks at block
    → new ≡ old ++ sites_from at 0 (items_of block) → old ++ sites_in at (drop at blocks) ≡ whole → new ++ sites_in (at + 1) (drop (at + 1) blocks) ≡ whole
sites_more blocks at block old new whole within is e rest =
    let opened : drop at blocks ≡ block ∷ drop (at + 1) blocks = drop_more blocks at block within ∙ ap (λ (x : Block). x ∷ drop (at + 1) blocks) (sym is) in
    ap (λ (l : List Site). l ++ sites_in (at + 1) (drop (at + 1) blocks)) e ∙ append_assoc old (sites_from at 0 (items_of block)) (sites_in (at + 1) (drop (at + 1) blocks))
    ∙ ap (λ (l : List Block). old ++ sites_in at l) (sym opened) ∙ rest

-- the same of blocks that are lent
pub lent_sites_more : (items blocks : List Block) (at : ℕ) (block : Block) (old new whole : List Site) → items ≡ blocks → at < length items → block ≡ get_or items at block
    → new ≡ old ++ sites_from at 0 (items_of block) → old ++ sites_in at (drop at blocks) ≡ whole → new ++ sites_in (at + 1) (drop (at + 1) blocks) ≡ whole
lent_sites_more items blocks at block old new whole same within is e rest =
    ap (λ (l : List Block). new ++ sites_in (at + 1) (drop (at + 1) l)) (sym same)
    ∙ sites_more items at block old new whole within is e (ap (λ (l : List Block). old ++ sites_in at (drop at l)) same ∙ rest)
