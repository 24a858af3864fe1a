-- Statements and blocks look at no token behind the first one that they leave.
use Rattle.std.proofs.Common.{◌≡◌, ◌≤◌, ℕ, zero, suc, Bool, true, false, ◌&&◌, List, [], ◌∷◌, ◌++◌, length, drop, refl, sym, ap, ◌∙◌, subst, arith}
use Rattle.std.specs.Prelude.{codes, if◌then◌else◌, All}
use Rattle.std.specs.Str.{bytes_eq}
use Rattle.ll_token.specs.declared.token.TokenKind.TheVariants as kinds
use Rattle.ll_tree.specs.declared.block.Block.{Block}
use Rattle.ll_tree.specs.declared.block.Phi.{Phi}
use Rattle.ll_tree.specs.declared.block.Instr.{Instr}
use Rattle.ll_grammar.specs.declared.block.Item.{Item}
use Rattle.ll_grammar.specs.declared.block.Item.TheVariants as item
use Rattle.ll_grammar.specs.declared.stop.Place.TheVariants as place
use Rattle.ll_grammar.specs.Tokens.{Tok, is_empty, word_at, mark_at, kind_at, name_at, debug_at, line_at, behind_line}
use Rattle.ll_grammar.specs.Reading.{Read, Done, RanOut, ◌>>=◌, name, metadatum}
use Rattle.ll_grammar.specs.Forms.{is_call_word, assume, operation, phi, terminator}
use Rattle.ll_grammar.specs.Blocks.{metadata_within, metadata, passed_within, passed, assignment, bare_statement, statement, block_step, block_within, block, entry_block, labelled_block, blocks_within, blocks}
use Rattle.ll_grammar.specs.Spells.{LeavesLine}
use Rattle.ll_grammar.proofs.DoneLaws.{weaken}
use Rattle.ll_grammar.proofs.StatementLaws.{SpellsItem, metadatum_sound, behind_line_is, statement_sound}
use Rattle.ll_grammar.proofs.BlockLaws.{labelled_block_sound}
use Rattle.ll_grammar.proofs.LeavesLaws.{Leaves, phi_leaves, instr_leaves, end_leaves, statement_leaves, block_leaves}
use Rattle.ll_grammar.proofs.StatementReadLaws.{behind_line_reads}
use Rattle.ll_grammar.proofs.EarlyLaws.{IsEarly, Early, Looks, early_done, early_ran_out, early_taken, early_then, early_if, early_behind, early_within, settles_from, early_same, push_if}
use Rattle.ll_grammar.proofs.EarlyFormLaws.{looks_mark, looks_kind, looks_name, looks_of_word, early_mark, early_name, early_metadatum, early_operation, early_assume, early_phi, early_terminator, then_same, if_same, behind_fits}

-- ---- metadata

pub metadata_settle : (n : ℕ) (ts : List Tok) → length ts ≤ n → metadata_within n ts ≡ metadata_within (suc n) ts
unfolding metadata_within mark_at
metadata_settle zero [] fits = refl
metadata_settle zero (t ∷ ts) fits = absurd (omega arith)
metadata_settle (suc n) ts fits = if_same (mark_at 44 ts) _ _ _ _ (λ _. then_same (metadatum (drop 1 ts)) _ _ (weaken (metadatum_sound (drop 1 ts)) (λ _ a m. then_same (metadatum a) _ _ (weaken (metadatum_sound a) (λ _ b k.
    metadata_settle n b (omega (arith, behind_fits n ts fits, ap length m.1, ap length k.1))))))) (λ _. refl)

pub early_metadata_within : (n : ℕ) → IsEarly (metadata_within n)
unfolding metadata_within
early_metadata_within zero = early_done (tt {0})
early_metadata_within (suc n) = early_if (mark_at 44) (λ ts. metadatum (drop 1 ts) >>= λ _ ts. metadatum ts >>= λ _ ts. metadata_within n ts) (λ ts. Done (tt {0}) ts) (looks_mark 44)
    (early_then (λ ts. metadatum (drop 1 ts)) _ (early_behind metadatum early_metadatum) (λ _. early_then _ (λ _. metadata_within n) early_metadatum (λ _. early_metadata_within n)))
    (early_done (tt {0}))

pub early_metadata : IsEarly metadata
unfolding metadata
early_metadata = early_within metadata_within (settles_from _ metadata_settle) early_metadata_within

-- ---- lines that are passed over

pub looks_debug : Looks debug_at
unfolding debug_at
looks_debug t a c = refl

pub looks_line : Looks line_at
unfolding line_at
looks_line t a c = refl

pub early_behind_line : (line : ℕ) → IsEarly (λ ts. Done (tt {0}) (behind_line line ts))
early_behind_line line = record { early = λ ts. let w = behind_line_is line ts in go ts w.0 w.1 w.2 (behind_line line ts) refl w.3 }
  where
    go : (ts others : List Tok) → ts ≡ others ++ behind_line line ts → All (λ (o : Tok). o.line ≡ line) others → (l : List Tok) → behind_line line ts ≡ l → LeavesLine line (behind_line line ts)
        → Early (λ ts. Done (tt {0}) (behind_line line ts)) ts (Done (tt {0}) l)
    go ts others is all [] here leaves = (tt, tt)
    go ts others is all (t ∷ rest) here leaves = (
      tt,
      (
        others,
        is ∙ ap (λ (l : List Tok). others ++ l) here,
        λ more.
            ap (λ (l : List Tok). Done (tt {0}) l) (behind_line_reads line others (t ∷ more) all (subst (λ l. LeavesLine line l) here leaves)),
      ),
    )

-- a reading that passes over lines, so many at most
pub passes_within : ℕ → List Tok → Read Unit
passes_within n ts = Done (tt {0}) (passed_within n ts)

pub early_passes_within : (n : ℕ) → IsEarly (passes_within n)
unfolding passes_within passed_within
early_passes_within zero = early_done (tt {0})
early_passes_within (suc n) = early_same _ (λ ts. if debug_at ts then Done (line_at ts) (drop 1 ts) >>= (λ line ts. Done (tt {0}) (behind_line line ts) >>= λ _ ts. passes_within n ts) else Done (tt {0}) ts)
    (λ ts. push_if (λ (l : List Tok). Done (tt {0}) l) (debug_at ts) (passed_within n (behind_line (line_at ts) (drop 1 ts))) ts)
    (early_if debug_at _ (λ ts. Done (tt {0}) ts) looks_debug
    (early_then (λ ts. Done (line_at ts) (drop 1 ts)) (λ line ts. Done (tt {0}) (behind_line line ts) >>= λ _ ts. passes_within n ts) (early_taken line_at looks_line)
    (λ line. early_then (λ ts. Done (tt {0}) (behind_line line ts)) (λ _. passes_within n) (early_behind_line line) (λ _. early_passes_within n)))
    (early_done (tt {0})))

pub passed_settle : (n : ℕ) (ts : List Tok) → length ts ≤ n → passed_within n ts ≡ passed_within (suc n) ts
unfolding passed_within debug_at
passed_settle zero [] fits = refl
passed_settle zero (t ∷ ts) fits = absurd (omega arith)
passed_settle (suc n) ts fits = if_same_lists (debug_at ts) (passed_settle n (behind_line (line_at ts) (drop 1 ts)) (omega (arith, behind_fits n ts fits, (behind_line_is (line_at ts) (drop 1 ts)).4)))
  where
    if_same_lists : {r u : List Tok} (b : Bool) → r ≡ u → (if b then r else ts) ≡ (if b then u else ts)
    if_same_lists true e = e
    if_same_lists false e = refl

pub early_passes : IsEarly (λ ts. Done (tt {0}) (passed ts))
unfolding passed passes_within
early_passes = early_within passes_within (settles_from passes_within (λ n ts fits. ap (λ (l : List Tok). Done (tt {0}) l) (passed_settle n ts fits))) early_passes_within

-- behind lines that are passed over
pub early_behind_passed : {A : Type 0} (r : List Tok → Read A) → IsEarly r → IsEarly (λ ts. r (passed ts))
early_behind_passed r e = early_then (λ ts. Done (tt {0}) (passed ts)) (λ _. r) early_passes (λ _. e)

-- ---- statements

pub early_assignment : (first : Bool) (r : List ℕ) → IsEarly (assignment first r)
unfolding assignment
early_assignment first r = early_then _ _ (early_mark 61) (λ _.
    early_if (λ ts. first && bytes_eq (word_at ts) (codes "phi")) (λ ts. phi r (drop 1 ts) >>= λ p ts. Done (item.Phi p) ts) (λ ts. operation ts >>= λ computed ts. Done (item.Instr (record { name = r; op = computed })) ts)
    (looks_of_word (λ w. first && bytes_eq w (codes "phi")))
    (early_then (λ ts. phi r (drop 1 ts)) (λ p ts. Done (item.Phi p) ts) (early_behind (phi r) (early_phi r)) (λ p. early_done (item.Phi p)))
    (early_then operation (λ computed ts. Done (item.Instr (record { name = r; op = computed })) ts) early_operation (λ computed. early_done (item.Instr (record { name = r; op = computed })))))

pub early_bare_statement : (first : Bool) → IsEarly (bare_statement first)
unfolding bare_statement
early_bare_statement first =
    early_if (kind_at kinds.Local) (λ ts. assignment first (name_at ts) (drop 1 ts)) _ (looks_kind kinds.Local) (early_then (λ ts. Done (name_at ts) (drop 1 ts)) (assignment first) (early_taken name_at looks_name) (early_assignment first))
    (early_if (λ ts. is_call_word (word_at ts)) (λ ts. assume ts >>= λ computed ts. Done (item.Instr (record { name = []; op = computed })) ts) (λ ts. terminator ts >>= λ e ts. Done (item.End e) ts) (looks_of_word is_call_word)
    (early_then assume (λ computed ts. Done (item.Instr (record { name = []; op = computed })) ts) early_assume (λ computed. early_done (item.Instr (record { name = []; op = computed }))))
    (early_then terminator (λ e ts. Done (item.End e) ts) early_terminator (λ e. early_done (item.End e))))

pub early_statement : (first : Bool) → IsEarly (statement first)
unfolding statement
early_statement first = early_then (λ ts. bare_statement first (passed ts)) (λ s ts. metadata ts >>= λ _ ts. Done s ts) (early_behind_passed (bare_statement first) (early_bare_statement first))
    (λ s. early_then metadata (λ _ ts. Done s ts) early_metadata (λ _. early_done s))

-- ---- blocks

pub item_leaves : (first : Bool) (it : Item) (ts rest : List Tok) → SpellsItem first it ts rest → Leaves 1 ts rest
item_leaves first (item.Phi p) ts rest is = phi_leaves p ts rest is.1
item_leaves first (item.Instr i) ts rest is = instr_leaves i ts rest is
item_leaves first (item.End e) ts rest is = end_leaves e ts rest is

step_same : (n : ℕ) (label : List ℕ) (phis : List Phi) (body : List Instr) (it : Item) (a : List Tok)
    → ((phis : List Phi) (body : List Instr) → block_within n label phis body a ≡ block_within (suc n) label phis body a) → block_step (block_within n label) label phis body it a ≡ block_step (block_within (suc n) label) label phis body it a
step_same n label phis body (item.Phi p) a same = same (phis ++ p ∷ []) body
step_same n label phis body (item.Instr i) a same = same phis (body ++ i ∷ [])
step_same n label phis body (item.End e) a same = refl

nothing_starts : (first : Bool) → statement first [] ≡ RanOut
unfolding statement passed passed_within bare_statement kind_at word_at is_call_word terminator
nothing_starts first = refl

pub block_settle : (n : ℕ) (label : List ℕ) (phis : List Phi) (body : List Instr) (ts : List Tok) → length ts ≤ n → block_within n label phis body ts ≡ block_within (suc n) label phis body ts
unfolding block_within
block_settle zero label phis body [] fits = sym (ap (λ r. r >>= block_step (block_within zero label) label phis body) (nothing_starts (is_empty body)))
block_settle zero label phis body (t ∷ ts) fits = absurd (omega arith)
block_settle (suc n) label phis body ts fits = then_same (statement (is_empty body) ts) _ _ (weaken (statement_sound (is_empty body) ts) (λ it a is.
    step_same n label phis body it a (λ phis body. block_settle n label phis body a (omega (arith, fits, (statement_leaves (SpellsItem _ it) (item_leaves _ it) ts a is).takes)))))

pub early_step : (more : List Phi → List Instr → List Tok → Read Block) (label : List ℕ) (phis : List Phi) (body : List Instr) (it : Item) → ((phis : List Phi) (body : List Instr) → IsEarly (more phis body)) → IsEarly (λ ts. block_step more label phis body it ts)
early_step more label phis body (item.Phi p) ih = ih (phis ++ p ∷ []) body
early_step more label phis body (item.Instr i) ih = ih phis (body ++ i ∷ [])
early_step more label phis body (item.End e) ih = early_done (record { label = label; phis = phis; body = body; end = e })

pub early_block_within : (n : ℕ) (label : List ℕ) (phis : List Phi) (body : List Instr) → IsEarly (block_within n label phis body)
unfolding block_within
early_block_within zero label phis body = early_ran_out
early_block_within (suc n) label phis body = early_then (statement (is_empty body)) (λ it ts. block_step (block_within n label) label phis body it ts) (early_statement (is_empty body))
    (λ it. early_step (block_within n label) label phis body it (early_block_within n label))

pub early_block : (label : List ℕ) → IsEarly (block label)
unfolding block
early_block label = early_within (λ n. block_within n label [] []) (settles_from _ (λ n ts fits. block_settle n label [] [] ts fits)) (λ n. early_block_within n label [] [])

pub early_entry_block : (unwritten : List ℕ) → IsEarly (entry_block unwritten)
unfolding entry_block
early_entry_block unwritten = early_behind_passed (λ rest. if kind_at kinds.Label rest then block (name_at rest) (drop 1 rest) else block unwritten rest)
    (early_if (kind_at kinds.Label) (λ rest. block (name_at rest) (drop 1 rest)) (block unwritten) (looks_kind kinds.Label)
    (early_then (λ ts. Done (name_at ts) (drop 1 ts)) block (early_taken name_at looks_name) early_block) (early_block unwritten))

pub early_labelled_block : IsEarly labelled_block
unfolding labelled_block
early_labelled_block = early_then (name kinds.Label place.BehindEnd) block (early_name kinds.Label place.BehindEnd) early_block

pub blocks_settle : (n : ℕ) (so_far : List Block) (ts : List Tok) → length ts ≤ n → blocks_within n so_far ts ≡ blocks_within (suc n) so_far ts
unfolding blocks_within
blocks_settle zero so_far [] fits = refl
blocks_settle zero so_far (t ∷ ts) fits = absurd (omega arith)
blocks_settle (suc n) so_far ts fits = if_same (is_empty ts) _ _ _ _ (λ _. refl) (λ _. then_same (labelled_block ts) _ _ (weaken (labelled_block_sound ts) (λ b a is.
    blocks_settle n (so_far ++ b ∷ []) a (omega (arith, fits, ap length is.1.1, (block_leaves b is.0 a is.2).takes)))))

pub looks_empty : Looks (λ (ts : List Tok). is_empty ts)
looks_empty t a c = refl

pub early_blocks_within : (n : ℕ) (so_far : List Block) → IsEarly (blocks_within n so_far)
unfolding blocks_within
early_blocks_within zero so_far = early_done so_far
early_blocks_within (suc n) so_far = early_if (λ ts. is_empty ts) (λ ts. Done so_far ts) (λ ts. labelled_block ts >>= λ b ts. blocks_within n (so_far ++ b ∷ []) ts) looks_empty (early_done so_far)
    (early_then labelled_block (λ b. blocks_within n (so_far ++ b ∷ [])) early_labelled_block (λ b. early_blocks_within n (so_far ++ b ∷ [])))

pub early_blocks : (unwritten : List ℕ) → IsEarly (blocks unwritten)
unfolding blocks
early_blocks unwritten = early_then (entry_block unwritten) (λ first ts. blocks_within (length ts) (first ∷ []) ts) (early_entry_block unwritten)
    (λ first. early_within (λ n. blocks_within n (first ∷ [])) (settles_from _ (λ n ts fits. blocks_settle n (first ∷ []) ts fits)) (λ n. early_blocks_within n (first ∷ [])))
