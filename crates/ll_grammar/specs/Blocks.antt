-- The body of a function: statements, blocks, and what has no meaning between them.
use Rattle.std.specs.Prelude.{ℕ, zero, suc, Bool, ◌&&◌, List, [], ◌∷◌, ◌++◌, length, drop, codes, if◌then◌else◌}
use Rattle.std.specs.Str.{bytes_eq}
use Rattle.ll_token.specs.declared.token.TokenKind.TheVariants as kinds
use Rattle.ll_tree.specs.declared.block.Block.{Block}
use Rattle.ll_tree.specs.declared.block.Phi.{Phi}
use Rattle.ll_tree.specs.declared.block.Instr.{Instr}
use Rattle.ll_grammar.specs.declared.stop.Place.TheVariants as place
use Rattle.ll_grammar.specs.declared.block.Item.{Item}
use Rattle.ll_grammar.specs.declared.block.Item.TheVariants as item
use Rattle.ll_grammar.specs.Tokens.{Tok, is_empty, word_at, kind_at, mark_at, name_at, debug_at, line_at, behind_line}
use Rattle.ll_grammar.specs.Reading.{Read, Done, RanOut, ◌>>=◌, mark, name, metadatum}
use Rattle.ll_grammar.specs.Forms.{is_call_word, assume, operation, phi, terminator}

-- ---- what has no meaning

-- `, META META`, so many times at most
unfoldable pub metadata_within : ℕ → List Tok → Read Unit
metadata_within zero ts = Done (tt {0}) ts
metadata_within (suc most) ts =
    if mark_at 44 ts then (metadatum (drop 1 ts) >>= λ _ ts. metadatum ts >>= λ _ ts. metadata_within most ts)
    else Done (tt {0}) ts

unfoldable pub metadata : List Tok → Read Unit
metadata ts = metadata_within (length ts) ts

-- behind lines that have no meaning, so many at most
unfoldable pub passed_within : ℕ → List Tok → List Tok
passed_within zero ts = ts
passed_within (suc most) ts = if debug_at ts then passed_within most (behind_line (line_at ts) (drop 1 ts)) else ts

unfoldable pub passed : List Tok → List Tok
passed ts = passed_within (length ts) ts

-- ---- statements

-- what stands behind `%r`; a phi only where it is open to one
unfoldable pub assignment : Bool → List ℕ → List Tok → Read Item
assignment first r ts =
    mark 61 ts >>= λ _ ts.
    if (first && bytes_eq (word_at ts) (codes "phi")) then (phi r (drop 1 ts) >>= λ p ts. Done (item.Phi p) ts)
    else (operation ts >>= λ computed ts. Done (item.Instr (record { name = r; op = computed })) ts)

-- a phi, an instruction or a terminator
unfoldable pub bare_statement : Bool → List Tok → Read Item
bare_statement first ts =
    if kind_at kinds.Local ts then assignment first (name_at ts) (drop 1 ts)
    else (if is_call_word (word_at ts) then (assume ts >>= λ computed ts. Done (item.Instr (record { name = []; op = computed })) ts)
    else (terminator ts >>= λ e ts. Done (item.End e) ts))

-- the same, behind lines without a meaning and before metadata
unfoldable pub statement : Bool → List Tok → Read Item
statement first ts = bare_statement first (passed ts) >>= λ s ts. metadata ts >>= λ _ ts. Done s ts

-- ---- blocks

-- the block goes on with its next statement
abbrev pub block_step : (List Phi → List Instr → List Tok → Read Block) → List ℕ → List Phi → List Instr → Item → List Tok → Read Block
block_step more label phis body (item.Phi p) ts = more (phis ++ p ∷ []) body ts
block_step more label phis body (item.Instr i) ts = more phis (body ++ i ∷ []) ts
block_step more label phis body (item.End e) ts = Done (record { label = label; phis = phis; body = body; end = e }) ts

-- the rest of a block behind these phis and instructions, so many statements at most
unfoldable pub block_within : ℕ → List ℕ → List Phi → List Instr → List Tok → Read Block
block_within zero label phis body ts = RanOut
block_within (suc most) label phis body ts = statement (is_empty body) ts >>= block_step (block_within most label) label phis body

-- a block behind its label
unfoldable pub block : List ℕ → List Tok → Read Block
block label ts = block_within (length ts) label [] [] ts

-- the entry, whose label may be left out
unfoldable pub entry_block : List ℕ → List Tok → Read Block
entry_block unwritten ts =
    let rest = passed ts in
    if kind_at kinds.Label rest then block (name_at rest) (drop 1 rest) else block unwritten rest

-- a block with its label
unfoldable pub labelled_block : List Tok → Read Block
labelled_block ts = name kinds.Label place.BehindEnd ts >>= block

-- blocks behind these to the end, so many at most
unfoldable pub blocks_within : ℕ → List Block → List Tok → Read (List Block)
blocks_within zero so_far ts = Done so_far ts
blocks_within (suc most) so_far ts =
    if is_empty ts then Done so_far ts
    else (labelled_block ts >>= λ b ts. blocks_within most (so_far ++ b ∷ []) ts)

-- all blocks, with the label of an entry that has none written
unfoldable pub blocks : List ℕ → List Tok → Read (List Block)
blocks unwritten ts = entry_block unwritten ts >>= λ first ts. blocks_within (length ts) (first ∷ []) ts
