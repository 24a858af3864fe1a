-- What spells blocks is read as them.
use Rattle.std.proofs.Common.{◌≡◌, ◌≤◌, ℕ, zero, suc, true, false, ◌&&◌, List, [], ◌∷◌, ◌++◌, length, drop, refl, sym, ap, ◌∙◌, subst, inl, inr, arith, append_assoc, append-nil}
use Rattle.ll_token.specs.declared.token.TokenKind.TheVariants as kinds
use Rattle.ll_tree.specs.declared.block.Block.{Block}
use Rattle.ll_tree.specs.declared.block.Phi.{Phi}
use Rattle.ll_tree.specs.declared.block.Instr.{Instr}
use Rattle.ll_tree.specs.declared.block.End.{End}
use Rattle.ll_grammar.specs.declared.block.Item.TheVariants as item
use Rattle.ll_grammar.specs.declared.stop.Place.TheVariants as place
use Rattle.ll_grammar.specs.Tokens.{Tok, is_empty, mark_at, kind_at, name_at, debug_at, starts_debug}
use Rattle.ll_grammar.specs.Reading.{Done}
use Rattle.ll_grammar.specs.Blocks.{passed, block_within, block, entry_block, labelled_block, blocks_within, blocks}
use Rattle.ll_grammar.specs.Spells.{IsNameOf, IsStatement, SpellsPhi, SpellsInstr, SpellsEnd, SpellPhis, SpellInstrs, SpellsBlock, SpellBlocks, SpellsEntryBlock, SpellBody}
use Rattle.ll_grammar.proofs.StatementLaws.{SpellsItem}
use Rattle.ll_grammar.proofs.LeavesLaws.{statement_leaves, phi_leaves, instr_leaves, end_leaves, block_leaves}
use Rattle.ll_grammar.proofs.TokenReadLaws.{then_reads, if_reads, else_reads, behind_first, at_mark, at_name, kind_there, name_reads}
use Rattle.ll_grammar.proofs.StatementReadLaws.{passed_reads, item_no_label, statement_no_comma, statement_reads}

-- ---- one block

-- instructions and the terminator behind them begin with no comma
ends_no_comma : (body : List Instr) (e : End) (ts c rest : List Tok) → SpellInstrs body ts c → IsStatement (SpellsEnd e) c rest → mark_at 44 ts ≡ false
ends_no_comma [] e ts c rest here ends = ap (mark_at 44) here ∙ statement_no_comma true (item.End e) c rest ends
ends_no_comma (i ∷ body) e ts c rest (a, is, more) ends = statement_no_comma true (item.Instr i) ts a is

block_no_comma : (phis : List Phi) (body : List Instr) (e : End) (ts a c rest : List Tok) → SpellPhis phis ts a → SpellInstrs body a c → IsStatement (SpellsEnd e) c rest → mark_at 44 ts ≡ false
block_no_comma [] body e ts a c rest here are ends = ap (mark_at 44) here ∙ ends_no_comma body e a c rest are ends
block_no_comma (p ∷ phis) body e ts a c rest (d, is, more) are ends = statement_no_comma true (item.Phi p) ts d (as_item is)
  where
    as_item : IsStatement (SpellsPhi p) ts d → IsStatement (SpellsItem true (item.Phi p)) ts d
    as_item (lines, pairs, x, y, passes, starts, is, meta) = (lines, pairs, x, y, passes, starts, (refl, is), meta)

instrs_read : (more : List Instr) (most : ℕ) (label : List ℕ) (phis : List Phi) (body : List Instr) (e : End) (ts c rest : List Tok) → length ts ≤ most
    → SpellInstrs more ts c → IsStatement (SpellsEnd e) c rest → mark_at 44 rest ≡ false → block_within most label phis body ts ≡ Done (record { label = label; phis = phis; body = body ++ more; end = e }) rest
unfolding block_within
instrs_read [] zero label phis body e ts c rest few here ends no_comma = absurd (omega (arith, few, ap length here, (statement_leaves (SpellsEnd e) (end_leaves e) c rest ends).takes))
instrs_read [] (suc most) label phis body e ts c rest few here ends no_comma =
    then_reads _ _ (statement_reads (is_empty body) (item.End e) ts rest (subst (λ l. IsStatement (SpellsEnd e) l rest) (sym here) ends) no_comma)
    (ap (λ (b : List Instr). Done (record { label = label; phis = phis; body = b; end = e }) rest) (sym (append-nil body)))
instrs_read (i ∷ more) zero label phis body e ts c rest few (a, is, are) ends no_comma = absurd (omega (arith, few, (statement_leaves (SpellsInstr i) (instr_leaves i) ts a is).takes))
instrs_read (i ∷ more) (suc most) label phis body e ts c rest few (a, is, are) ends no_comma =
    then_reads _ _ (statement_reads (is_empty body) (item.Instr i) ts a is (ends_no_comma more e a c rest are ends))
    (instrs_read more most label phis (body ++ i ∷ []) e a c rest (omega (arith, few, (statement_leaves (SpellsInstr i) (instr_leaves i) ts a is).takes)) are ends no_comma
    ∙ ap (λ (b : List Instr). Done (record { label = label; phis = phis; body = b; end = e }) rest) (append_assoc body (i ∷ []) more))

phis_read : (more : List Phi) (most : ℕ) (label : List ℕ) (phis : List Phi) (body : List Instr) (e : End) (ts a c rest : List Tok) → length ts ≤ most
    → SpellPhis more ts a → SpellInstrs body a c → IsStatement (SpellsEnd e) c rest → mark_at 44 rest ≡ false → block_within most label phis [] ts ≡ Done (record { label = label; phis = phis ++ more; body = body; end = e }) rest
unfolding block_within
phis_read [] most label phis body e ts a c rest few here are ends no_comma =
    instrs_read body most label phis [] e ts c rest few (subst (λ l. SpellInstrs body l c) (sym here) are) ends no_comma
    ∙ ap (λ (ps : List Phi). Done (record { label = label; phis = ps; body = body; end = e }) rest) (sym (append-nil phis))
phis_read (p ∷ more) zero label phis body e ts a c rest few (d, is, ps) are ends no_comma = absurd (omega (arith, few, (statement_leaves (SpellsPhi p) (phi_leaves p) ts d is).takes))
phis_read (p ∷ more) (suc most) label phis body e ts a c rest few (d, is, ps) are ends no_comma =
    then_reads _ _ (statement_reads true (item.Phi p) ts d (as_item is) (block_no_comma more body e d a c rest ps are ends))
    (phis_read more most label (phis ++ p ∷ []) body e d a c rest (omega (arith, few, (statement_leaves (SpellsPhi p) (phi_leaves p) ts d is).takes)) ps are ends no_comma
    ∙ ap (λ (ps : List Phi). Done (record { label = label; phis = ps; body = body; end = e }) rest) (append_assoc phis (p ∷ []) more))
  where
    as_item : IsStatement (SpellsPhi p) ts d → IsStatement (SpellsItem true (item.Phi p)) ts d
    as_item (lines, pairs, x, y, passes, starts, is, meta) = (lines, pairs, x, y, passes, starts, (refl, is), meta)

pub block_reads : (b : Block) (ts rest : List Tok) → SpellsBlock b ts rest → mark_at 44 rest ≡ false → block b.label ts ≡ Done b rest
unfolding block
block_reads b ts rest (a, c, ps, are, ends) no_comma = phis_read b.phis (length ts) b.label [] b.body b.end ts a c rest (omega arith) ps are ends no_comma

-- ---- all blocks

blocks_no_comma : (bs : List Block) (ts : List Tok) → SpellBlocks bs ts [] → mark_at 44 ts ≡ false
unfolding mark_at
blocks_no_comma [] ts here = ap (mark_at 44) here
blocks_no_comma (b ∷ bs) ts (a, c, label, is, more) = at_mark ts a label.0 label.1 kinds.Label label.2 44

pub labelled_block_reads : (b : Block) (ts a rest : List Tok) → IsNameOf kinds.Label b.label ts a → SpellsBlock b a rest → mark_at 44 rest ≡ false → labelled_block ts ≡ Done b rest
unfolding labelled_block
labelled_block_reads b ts a rest label is no_comma = then_reads _ _ (name_reads ts a kinds.Label place.BehindEnd b.label label) (block_reads b a rest is no_comma)

pub blocks_within_reads : (bs : List Block) (most : ℕ) (so_far : List Block) (ts : List Tok) → length ts ≤ most → SpellBlocks bs ts [] → blocks_within most so_far ts ≡ Done (so_far ++ bs) []
unfolding blocks_within
blocks_within_reads [] zero so_far ts few here = ap (λ (l : List Tok). Done so_far l) here ∙ ap (λ (bs : List Block). Done bs []) (sym (append-nil so_far))
blocks_within_reads [] (suc most) so_far ts few here =
    if_reads (is_empty ts) _ _ (ap is_empty here) (ap (λ (l : List Tok). Done so_far l) here ∙ ap (λ (bs : List Block). Done bs []) (sym (append-nil so_far)))
blocks_within_reads (b ∷ bs) zero so_far ts few (a, c, label, is, more) = absurd (omega (arith, few, ap length label.1))
blocks_within_reads (b ∷ bs) (suc most) so_far ts few (a, c, label, is, more) =
    else_reads (is_empty ts) _ _ (ap is_empty label.1)
    (then_reads _ _ (labelled_block_reads b ts a c label is (blocks_no_comma bs c more))
    (blocks_within_reads bs most (so_far ++ b ∷ []) c (omega (arith, few, ap length label.1, (block_leaves b a c is).takes)) more ∙ ap (λ (bs : List Block). Done bs []) (append_assoc so_far (b ∷ []) bs)))

-- ---- the entry

-- behind the lines that are passed over
abbrev Passes : Block → (ts rest : List Tok) → Type 0
Passes b ts rest = (a : List Tok) × (passed ts ≡ a) × (kind_at kinds.Label a ≡ false) × SpellsBlock b a rest

behind_passed : (Spelled : (ts rest : List Tok) → Type 0) (ts rest : List Tok) → IsStatement Spelled ts rest → (a b : List Tok) × (passed ts ≡ a) × Spelled a b × IsStatement Spelled a rest
behind_passed Spelled ts rest (lines, pairs, a, b, passes, starts, is, meta) = (a, b, passed_reads lines ts a passes starts, is, (0, pairs, a, b, refl, starts, is, meta))

instrs_pass : (body : List Instr) (e : End) (ts c rest : List Tok) → SpellInstrs body ts c → IsStatement (SpellsEnd e) c rest
    → (a d : List Tok) × (passed ts ≡ a) × (kind_at kinds.Label a ≡ false) × SpellInstrs body a d × IsStatement (SpellsEnd e) d rest
instrs_pass [] e ts c rest here ends =
    let w = behind_passed (SpellsEnd e) c rest ends in
    (w.0, w.0, ap passed here ∙ w.2, item_no_label true (item.End e) w.0 w.1 w.3, refl, w.4)
instrs_pass (i ∷ body) e ts c rest (d, is, more) ends =
    let w = behind_passed (SpellsInstr i) ts d is in
    (w.0, c, w.2, item_no_label true (item.Instr i) w.0 w.1 w.3, (d, w.4, more), ends)

block_passes : (b : Block) (ts rest : List Tok) → SpellsBlock b ts rest → Passes b ts rest
block_passes b ts rest (a, c, ps, are, ends) = go b.phis ps
  where
    go : (phis : List Phi) → SpellPhis phis ts a → (d : List Tok) × (passed ts ≡ d) × (kind_at kinds.Label d ≡ false) × ((x y : List Tok) × SpellPhis phis d x × SpellInstrs b.body x y × IsStatement (SpellsEnd b.end) y rest)
    go [] here = let w = instrs_pass b.body b.end a c rest are ends in (w.0, ap passed here ∙ w.2, w.3, (w.0, w.1, refl, w.4, w.5))
    go (p ∷ phis) (x, is, more) =
        let w = behind_passed (SpellsPhi p) ts x is in
        (w.0, w.2, item_no_label true (item.Phi p) w.0 w.1 (refl, w.3), (a, c, (x, w.4, more), are, ends))

label_starts : (ts rest : List Tok) (name : List ℕ) → IsNameOf kinds.Label name ts rest → debug_at ts ≡ false
unfolding debug_at
label_starts ts rest name (t, e, k, is) = ap debug_at e ∙ ap (λ k. starts_debug k && t.debug) k

pub entry_block_reads : (unwritten : List ℕ) (b : Block) (ts rest : List Tok) → SpellsEntryBlock unwritten b ts rest → mark_at 44 rest ≡ false → entry_block unwritten ts ≡ Done b rest
unfolding entry_block
entry_block_reads unwritten b ts rest (inl (lines, a, c, passes, label, is)) no_comma =
    let here = passed_reads lines ts a passes (label_starts a c b.label label) in
    if_reads (kind_at kinds.Label (passed ts)) _ _ (ap (kind_at kinds.Label) here ∙ kind_there a c kinds.Label b.label label)
    (ap (λ l. block (name_at l) (drop 1 l)) here ∙ ap (λ (n : List ℕ). block n (drop 1 a)) (at_name a c kinds.Label b.label label) ∙ ap (block b.label) (behind_first a c label.0 label.1) ∙ block_reads b c rest is no_comma)
entry_block_reads unwritten b ts rest (inr (label, is)) no_comma =
    let w = block_passes b ts rest is in
    else_reads (kind_at kinds.Label (passed ts)) _ _ (ap (kind_at kinds.Label) w.1 ∙ w.2)
    (ap (block unwritten) w.1 ∙ ap (λ (n : List ℕ). block n w.0) (sym label) ∙ block_reads b w.0 rest w.3 no_comma)

pub blocks_reads : (unwritten : List ℕ) (bs : List Block) (ts : List Tok) → SpellBody unwritten bs ts [] → blocks unwritten ts ≡ Done bs []
unfolding blocks
blocks_reads unwritten [] ts none = absurd none
blocks_reads unwritten (b ∷ bs) ts (a, is, more) =
    then_reads _ _ (entry_block_reads unwritten b ts a is (blocks_no_comma bs a more)) (blocks_within_reads bs (length a) (b ∷ []) a (omega arith) more)
