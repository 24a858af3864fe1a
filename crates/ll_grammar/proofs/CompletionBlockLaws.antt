-- Tokens that begin statements and blocks can be completed to them.
use Rattle.std.proofs.Common.{◌≡◌, ◌≤◌, ℕ, zero, suc, Bool, false, ◌&&◌, List, [], ◌∷◌, ◌++◌, length, drop, refl, sym, ap, ◌∙◌, subst, arith, append_assoc}
use Rattle.std.specs.Prelude.{codes, if◌then◌else◌}
use Rattle.std.specs.Str.{bytes_eq}
use Rattle.ll_token.specs.declared.token.TokenKind.TheVariants as kinds
use Rattle.ll_tree.specs.declared.block.Block.{Block}
use Rattle.ll_tree.specs.declared.block.Phi.{Phi}
use Rattle.ll_tree.specs.declared.block.Instr.{Instr}
use Rattle.ll_tree.specs.declared.block.End.TheVariants as end
use Rattle.ll_grammar.specs.declared.block.Item.{Item}
use Rattle.ll_grammar.specs.declared.block.Item.TheVariants as item
use Rattle.ll_grammar.specs.declared.stop.Place.TheVariants as place
use Rattle.ll_grammar.specs.Tokens.{Tok, is_empty, word_at, mark_at, kind_at, name_at, group_at, debug_at, is_debug}
use Rattle.ll_grammar.specs.Reading.{Read, Done, ◌>>=◌, mark, name, metadatum}
use Rattle.ll_grammar.specs.Forms.{is_call_word, assume, operation, phi, terminator}
use Rattle.ll_grammar.specs.Blocks.{metadata_within, metadata, passed, assignment, bare_statement, statement, block_step, block_within, block, entry_block, labelled_block, blocks_within, blocks}
use Rattle.ll_grammar.specs.Spells.{ArePassed, LeavesLine}
use Rattle.ll_grammar.proofs.DoneLaws.{OnDone, weaken}
use Rattle.ll_grammar.proofs.FlagLaws.{and_false}
use Rattle.ll_grammar.proofs.StatementLaws.{SpellsItem, metadatum_sound, passed_is, statement_sound}
use Rattle.ll_grammar.proofs.BlockLaws.{labelled_block_sound}
use Rattle.ll_grammar.proofs.LeavesLaws.{statement_leaves, block_leaves}
use Rattle.ll_grammar.proofs.StatementReadLaws.{passed_reads, end_reads, statement_reads}
use Rattle.ll_grammar.proofs.EarlyLaws.{early_taken, early_behind, settles_from}
use Rattle.ll_grammar.proofs.EarlyFormLaws.{looks_mark, looks_kind, looks_name, looks_of_word, early_mark, early_name, early_metadatum, early_operation, early_assume, early_phi, early_terminator, then_same, if_same}
use Rattle.ll_grammar.proofs.EarlyBlockLaws.{metadata_settle, early_metadata, early_passes, early_bare_statement, early_statement, item_leaves, block_settle, early_entry_block, early_labelled_block, blocks_settle, looks_empty}
use Rattle.ll_grammar.proofs.CompletionLaws.{always_done, token, Older, older_behind, Ends, Finish, Any, FirstIs, Always, Starts, Completes, Comp, comp_weak, seq, seq_any, comp_done, comp_of, completes_if, completes_done, completes_taken, completes_same, completes_zero, completes_behind, completes_both, starts_done, starts_then, starts_weak, starts_else}
use Rattle.ll_grammar.proofs.CompletionFormLaws.{word, sign, comp_mark, comp_name, comp_metadatum}
use Rattle.ll_grammar.proofs.CompletionOpLaws.{NoGroup, NoComma, comp_assume, comp_operation, comp_phi, comp_terminator}

-- what may follow a statement
abbrev pub Apart : List Tok → Type 0
Apart k = NoComma k × NoGroup k

stop_apart : (n : ℕ) (k : List Tok) → FirstIs (word n (codes "unreachable")) k → Apart k
unfolding mark_at group_at
stop_apart n k (a, e) = (ap (mark_at 44) e, ap group_at e)

-- ---- metadata

metadata_unfold : (ts : List Tok) → metadata ts ≡ (if mark_at 44 ts then (metadatum (drop 1 ts) >>= λ _ ts. metadatum ts >>= λ _ ts. metadata ts) else Done (tt {0}) ts)
unfolding metadata metadata_within
metadata_unfold ts = metadata_settle (length ts) ts (omega arith) ∙ if_same (mark_at 44 ts) _ _ _ _ (λ _. then_same (metadatum (drop 1 ts)) _ _ (weaken (metadatum_sound (drop 1 ts)) (λ _ a m. then_same (metadatum a) _ _ (weaken (metadatum_sound a) (λ _ b k.
    settles_from metadata_within metadata_settle (length ts) b (omega (arith, fewer ts, ap length m.1, ap length k.1))))))) (λ _. refl)
  where
    fewer : (ts : List Tok) → length (drop 1 ts) ≤ length ts
    fewer [] = omega arith
    fewer (t ∷ ts) = omega arith

metadata_start : Starts metadata Always Apart Apart
metadata_start = record { more = []; value = tt {0}; fits = tt; reads = λ k apart. metadata_unfold k ∙ ap (λ b. if b then (metadatum (drop 1 k) >>= λ _ ts. metadatum ts >>= λ _ ts. metadata ts) else Done (tt {0}) k) apart.0; begins = λ k apart. apart }

metadata_complete : (n m : ℕ) → Completes n m metadata Always Apart
metadata_complete n zero = completes_zero
metadata_complete n (suc m) = completes_same metadata (λ ts. if mark_at 44 ts then (metadatum (drop 1 ts) >>= λ _ ts. metadatum ts >>= λ _ ts. metadata ts) else Done (tt {0}) ts) metadata_unfold
    (completes_if (mark_at 44) (λ ts. metadatum (drop 1 ts) >>= λ _ ts. metadatum ts >>= λ _ ts. metadata ts) (λ ts. Done (tt {0}) ts) (looks_mark 44)
    (completes_both (λ ts. metadatum (drop 1 ts)) (λ _ ts. metadatum ts >>= λ _ ts. metadata ts) Always Always Any Apart n (suc m) m Always
    (λ ts. weaken (metadatum_sound (drop 1 ts)) (λ _ a k. (tt, λ few. omega (arith, few, fewer ts, ap length k.1)))) (early_behind metadatum early_metadatum) (completes_behind metadatum ((comp_metadatum {C = Any} n).completes (suc m)) (comp_metadatum {C = Any} n).starts)
    (λ _ _. completes_both metadatum (λ _ ts. metadata ts) Always Always Any Apart n m m Always (λ ts. weaken (metadatum_sound ts) (λ _ a k. (tt, λ few. omega (arith, few, ap length k.1)))) early_metadatum ((comp_metadatum n).completes m)
    (λ _ _. metadata_complete n m) (λ _ _. starts_weak metadata_start (λ k _. tt)))
    (λ _ _. starts_weak (starts_then metadatum (λ _ ts. metadata ts) (comp_metadatum {C = Any} n).starts (λ _ _. starts_weak metadata_start (λ k _. tt))) (λ k _. tt)))
    (completes_done (tt {0})))
  where
    fewer : (ts : List Tok) → length (drop 1 ts) ≤ length ts
    fewer [] = omega arith
    fewer (t ∷ ts) = omega arith

comp_metadata : (n : ℕ) → Comp n metadata Always Apart Apart
comp_metadata n = record { completes = metadata_complete n; starts = metadata_start }

-- ---- lines that are passed over

-- a token of this line comes next, and begins no line that is passed over
abbrev pub Fresh : ℕ → List Tok → Type 0
Fresh n k = (v : Tok) × (a : List Tok) × (k ≡ v ∷ a) × (v.line ≡ n) × (is_debug v ≡ false)

leaves_fresh : (n line : ℕ) (a k : List Tok) → (line ≡ n → ⊥) → LeavesLine line a → Fresh n k → LeavesLine line (a ++ k)
leaves_fresh n line [] k other leaves (v, b, e, here, plain) = subst (LeavesLine line) (sym e) (λ same. other (sym same ∙ here))
leaves_fresh n line (t ∷ a) k other leaves fresh = leaves

passed_on : (n lines : ℕ) (ts k : List Tok) → Older n ts → ArePassed lines ts [] → Fresh n k → ArePassed lines (ts ++ k) k
passed_on n zero ts k old here fresh = ap (λ (l : List Tok). l ++ k) here
passed_on n (suc lines) ts k old (t, others, a, is, debug, all, leaves, more) fresh =
    let older = subst (Older n) is old in (
      t,
      others,
      a ++ k,
      ap (λ (l : List Tok). l ++ k) is ∙ ap (λ (l : List Tok). t ∷ l) (append_assoc others a k),
      debug,
      all,
      leaves_fresh n t.line a k older.0 leaves fresh,
      passed_on n lines a k (older_behind n others a older.1) more fresh,
    )

fresh_starts : (n : ℕ) (k : List Tok) → Fresh n k → debug_at k ≡ false
unfolding debug_at
fresh_starts n k (v, a, e, here, plain) = ap debug_at e ∙ plain

comp_passes : (n : ℕ) → Comp n (λ ts. Done (tt {0}) (passed ts)) Always (Fresh n) (Fresh n)
comp_passes n = record {
  completes = λ m. record { finish = λ t ts few old ends. go (t ∷ ts) old (passed (t ∷ ts)) refl ends };
  starts = record { more = []; value = tt {0}; fits = tt; reads = λ k fresh. ap (λ (l : List Tok). Done (tt {0}) l) (passed_reads 0 k k refl (fresh_starts n k fresh)); begins = λ k fresh. fresh };
}
  where
    go : (ts : List Tok) → Older n ts → (l : List Tok) → passed ts ≡ l → Ends (Done (tt {0}) l) → Finish (λ ts. Done (tt {0}) (passed ts)) Always ts (Fresh n)
    go ts old [] e ends = record {
      more = [];
      value = tt {0};
      fits = tt;
      reads = λ k fresh. let w = passed_is ts in
          ap (λ (l : List Tok). Done (tt {0}) l) (passed_reads w.0 (ts ++ k) k (passed_on n w.0 ts k old (subst (ArePassed w.0 ts) e w.1) fresh) (fresh_starts n k fresh));
    }
    go ts old (u ∷ l) e ends = absurd ends

-- ---- statements

sext_no_phi : (n : ℕ) (first : Bool) (k : List Tok) → FirstIs (word n (codes "sext")) k → (first && bytes_eq (word_at k) (codes "phi")) ≡ false
unfolding word_at
sext_no_phi n first k (a, e) = ap (λ l. first && bytes_eq (word_at l) (codes "phi")) e ∙ and_false first

comp_assignment : (n : ℕ) (first : Bool) (r : List ℕ) → Comp n (assignment first r) Always Apart (FirstIs (sign n 61))
unfolding assignment
comp_assignment n first r = seq_any (mark 61) (λ _ ts. if (first && bytes_eq (word_at ts) (codes "phi")) then (phi r (drop 1 ts) >>= λ p ts. Done (item.Phi p) ts) else (operation ts >>= λ computed ts. Done (item.Instr (record { name = r; op = computed })) ts)) (early_mark 61) (comp_mark n 61) (λ _. choice)
  where
    op_comp : Comp n (λ ts. operation ts >>= λ computed ts. Done (item.Instr (record { name = r; op = computed })) ts) Always Apart (FirstIs (word n (codes "sext")))
    op_comp = seq operation (λ computed ts. Done (item.Instr (record { name = r; op = computed })) ts) (λ ts. always_done (operation ts)) early_operation (comp_operation n) (λ computed _. comp_weak (comp_done {C = Apart} (item.Instr (record { name = r; op = computed })) tt) (λ k apart. apart.1))

    phi_comp : Comp n (λ ts. phi r ts >>= λ p ts. Done (item.Phi p) ts) Always Apart (FirstIs (word n (codes "i1")))
    phi_comp = seq (phi r) (λ p ts. Done (item.Phi p) ts) (λ ts. always_done (phi r ts)) (early_phi r) (comp_phi n r) (λ p _. comp_weak (comp_done {C = Apart} (item.Phi p) tt) (λ k apart. apart.0))

    choice : Comp n (λ ts. if (first && bytes_eq (word_at ts) (codes "phi")) then (phi r (drop 1 ts) >>= λ p ts. Done (item.Phi p) ts) else (operation ts >>= λ computed ts. Done (item.Instr (record { name = r; op = computed })) ts)) Always Apart (FirstIs (word n (codes "sext")))
    choice = record {
      completes = λ m. completes_if (λ ts. first && bytes_eq (word_at ts) (codes "phi")) (λ ts. phi r (drop 1 ts) >>= λ p ts. Done (item.Phi p) ts) (λ ts. operation ts >>= λ computed ts. Done (item.Instr (record { name = r; op = computed })) ts)
          (looks_of_word (λ w. first && bytes_eq w (codes "phi"))) (completes_behind (λ ts. phi r ts >>= λ p ts. Done (item.Phi p) ts) (phi_comp.completes m) phi_comp.starts) (op_comp.completes m);
      starts = starts_else (λ ts. first && bytes_eq (word_at ts) (codes "phi")) (λ ts. phi r (drop 1 ts) >>= λ p ts. Done (item.Phi p) ts) (λ ts. operation ts >>= λ computed ts. Done (item.Instr (record { name = r; op = computed })) ts) op_comp.starts (sext_no_phi n first);
    }

comp_bare_statement : (n : ℕ) (first : Bool) → Comp n (bare_statement first) Always Apart (FirstIs (word n (codes "unreachable")))
unfolding bare_statement
comp_bare_statement n first = comp_of (λ m.
    completes_if (kind_at kinds.Local) (λ ts. assignment first (name_at ts) (drop 1 ts)) _ (looks_kind kinds.Local)
    (completes_both (λ ts. Done (name_at ts) (drop 1 ts)) (assignment first) Always Always Any Apart n m m Always (λ ts. fewer ts m) (early_taken name_at looks_name) (completes_taken name_at looks_name (λ t. tt)) (λ r _. (comp_assignment n first r).completes m)
    (λ r _. starts_weak (comp_assignment n first r).starts (λ k _. tt)))
    (completes_if (λ ts. is_call_word (word_at ts)) (λ ts. assume ts >>= λ computed ts. Done (item.Instr (record { name = []; op = computed })) ts) (λ ts. terminator ts >>= λ e ts. Done (item.End e) ts) (looks_of_word is_call_word)
    ((seq assume (λ computed ts. Done (item.Instr (record { name = []; op = computed })) ts) (λ ts. always_done (assume ts)) early_assume (comp_assume n) (λ computed _. comp_weak (comp_done {C = Apart} (item.Instr (record { name = []; op = computed })) tt) (λ k apart. apart.1))).completes m)
    ((seq_any terminator (λ e ts. Done (item.End e) ts) early_terminator (comp_terminator n) (λ e. comp_done {C = Apart} (item.End e) tt)).completes m)))
    (word n (codes "unreachable")) (item.End end.Unreachable) tt (λ k c. end_reads first end.Unreachable (word n (codes "unreachable") ∷ k) k (word n (codes "unreachable"), refl, refl, refl)) (λ k. (k, refl))
  where
    fewer : (ts : List Tok) (m : ℕ) → OnDone (Done (name_at ts) (drop 1 ts)) (λ x a. Always x × (length ts ≤ m → length a ≤ m))
    fewer [] m = record { holds = (tt, λ few. omega (arith, few)) }
    fewer (t ∷ ts) m = record { holds = (tt, λ few. omega (arith, few)) }

pub fresh_first : (n : ℕ) (text : List ℕ) (k : List Tok) → FirstIs (word n text) k → Fresh n k
fresh_first n text k (a, e) = (word n text, a, e, refl, refl)

comp_statement : (n : ℕ) (first : Bool) → Comp n (statement first) Always Apart (Fresh n)
unfolding statement
comp_statement n first = seq (λ ts. Done (tt {0}) (passed ts)) (λ _ ts. bare_statement first ts >>= λ s ts. metadata ts >>= λ _ ts. Done s ts) (λ ts. always_done (Done (tt {0}) (passed ts))) early_passes (comp_passes n) (λ _ _. comp_weak
    (seq (bare_statement first) (λ s ts. metadata ts >>= λ _ ts. Done s ts) (λ ts. always_done (bare_statement first ts)) (early_bare_statement first) (comp_bare_statement n first)
    (λ s _. seq metadata (λ _ ts. Done s ts) (λ ts. always_done (metadata ts)) early_metadata (comp_metadata n) (λ _ _. comp_done s tt)))
    (fresh_first n (codes "unreachable")))

-- ---- blocks

stop_statement : (n : ℕ) (first : Bool) (k : List Tok) → Apart k → statement first (word n (codes "unreachable") ∷ k) ≡ Done (item.End end.Unreachable) k
unfolding debug_at
stop_statement n first k apart = statement_reads first (item.End end.Unreachable) (word n (codes "unreachable") ∷ k) k (0, 0, word n (codes "unreachable") ∷ k, k, refl, refl, (word n (codes "unreachable"), refl, refl, refl), refl) apart.0

more_block : List ℕ → List Phi → List Instr → List Tok → Read Block
more_block label phis body ts = block_within (length ts) label phis body ts

abbrev step_of : List ℕ → List Phi → List Instr → Item → List Tok → Read Block
step_of label phis body it ts = block_step (more_block label) label phis body it ts

step_agrees : (label : List ℕ) (phis : List Phi) (body : List Instr) (it : Item) (n : ℕ) (a : List Tok) → length a ≤ n → block_step (block_within n label) label phis body it a ≡ step_of label phis body it a
unfolding more_block
step_agrees label phis body (item.Phi p) n a fits = settles_from (λ n. block_within n label (phis ++ p ∷ []) body) (λ n ts fits. block_settle n label (phis ++ p ∷ []) body ts fits) n a fits
step_agrees label phis body (item.Instr i) n a fits = settles_from (λ n. block_within n label phis (body ++ i ∷ [])) (λ n ts fits. block_settle n label phis (body ++ i ∷ []) ts fits) n a fits
step_agrees label phis body (item.End e) n a fits = refl

block_unfold : (label : List ℕ) (phis : List Phi) (body : List Instr) (ts : List Tok) → more_block label phis body ts ≡ (statement (is_empty body) ts >>= step_of label phis body)
unfolding more_block block_within
block_unfold label phis body ts = block_settle (length ts) label phis body ts (omega arith) ∙ then_same (statement (is_empty body) ts) _ _ (weaken (statement_sound (is_empty body) ts) (λ it a is.
    step_agrees label phis body it (length ts) a (omega (arith, (statement_leaves (SpellsItem (is_empty body) it) (item_leaves (is_empty body) it) ts a is).takes))))

block_start : (n : ℕ) (label : List ℕ) (phis : List Phi) (body : List Instr) → Starts (more_block label phis body) Always Apart (FirstIs (word n (codes "unreachable")))
block_start n label phis body = record {
  more = word n (codes "unreachable") ∷ [];
  value = record { label = label; phis = phis; body = body; end = end.Unreachable };
  fits = tt;
  reads = λ k apart. block_unfold label phis body (word n (codes "unreachable") ∷ k) ∙ ap (λ r. r >>= step_of label phis body) (stop_statement n (is_empty body) k apart);
  begins = λ k apart. (k, refl);
}

step_starts : (n : ℕ) (label : List ℕ) (phis : List Phi) (body : List Instr) (it : Item) → Starts (step_of label phis body it) Always Apart Apart
step_starts n label phis body (item.Phi p) = starts_weak (block_start n label (phis ++ p ∷ []) body) (stop_apart n)
step_starts n label phis body (item.Instr i) = starts_weak (block_start n label phis (body ++ i ∷ [])) (stop_apart n)
step_starts n label phis body (item.End e) = starts_done (record { label = label; phis = phis; body = body; end = e }) tt

block_complete : (n m : ℕ) (label : List ℕ) (phis : List Phi) (body : List Instr) → Completes n m (more_block label phis body) Always Apart
block_complete n zero label phis body = completes_zero
block_complete n (suc m) label phis body = completes_same (more_block label phis body) (λ ts. statement (is_empty body) ts >>= step_of label phis body) (block_unfold label phis body)
    (completes_both (statement (is_empty body)) (step_of label phis body) Always Always Apart Apart n (suc m) m Always
    (λ ts. weaken (statement_sound (is_empty body) ts) (λ it a is. (tt, λ few. omega (arith, few, (statement_leaves (SpellsItem (is_empty body) it) (item_leaves (is_empty body) it) ts a is).takes))))
    (early_statement (is_empty body)) ((comp_statement n (is_empty body)).completes (suc m)) (λ it _. go it (block_complete n m label)) (λ it _. step_starts n label phis body it))
  where
    go : (it : Item) → ((phis : List Phi) (body : List Instr) → Completes n m (more_block label phis body) Always Apart) → Completes n m (step_of label phis body it) Always Apart
    go (item.Phi p) ih = ih (phis ++ p ∷ []) body
    go (item.Instr i) ih = ih phis (body ++ i ∷ [])
    go (item.End e) ih = completes_done (record { label = label; phis = phis; body = body; end = e })

comp_block : (n : ℕ) (label : List ℕ) → Comp n (block label) Always Apart (FirstIs (word n (codes "unreachable")))
unfolding block more_block
comp_block n label = record { completes = λ m. block_complete n m label [] []; starts = block_start n label [] [] }

-- a label and its block
comp_named_block : (n : ℕ) (m : ℕ) → Completes n m (λ ts. block (name_at ts) (drop 1 ts)) Always Apart
comp_named_block n m = completes_both (λ ts. Done (name_at ts) (drop 1 ts)) block Always Always Any Apart n m m Always (λ ts. fewer ts m) (early_taken name_at looks_name) (completes_taken name_at looks_name (λ t. tt))
    (λ label _. (comp_block n label).completes m) (λ label _. starts_weak (comp_block n label).starts (λ k _. tt))
  where
    fewer : (ts : List Tok) (m : ℕ) → OnDone (Done (name_at ts) (drop 1 ts)) (λ x a. Always x × (length ts ≤ m → length a ≤ m))
    fewer [] m = record { holds = (tt, λ few. omega (arith, few)) }
    fewer (t ∷ ts) m = record { holds = (tt, λ few. omega (arith, few)) }

stop_no_label : (n : ℕ) (k : List Tok) → FirstIs (word n (codes "unreachable")) k → kind_at kinds.Label k ≡ false
unfolding kind_at
stop_no_label n k (a, e) = ap (kind_at kinds.Label) e

comp_entry_block : (n : ℕ) (unwritten : List ℕ) → Comp n (entry_block unwritten) Always Apart (Fresh n)
unfolding entry_block
comp_entry_block n unwritten = seq (λ ts. Done (tt {0}) (passed ts)) (λ _ rest. if kind_at kinds.Label rest then block (name_at rest) (drop 1 rest) else block unwritten rest) (λ ts. always_done (Done (tt {0}) (passed ts))) early_passes (comp_passes n) (λ _ _. comp_weak choice (fresh_first n (codes "unreachable")))
  where
    choice : Comp n (λ rest. if kind_at kinds.Label rest then block (name_at rest) (drop 1 rest) else block unwritten rest) Always Apart (FirstIs (word n (codes "unreachable")))
    choice = record {
      completes = λ m. completes_if (kind_at kinds.Label) (λ rest. block (name_at rest) (drop 1 rest)) (block unwritten) (looks_kind kinds.Label) (comp_named_block n m) ((comp_block n unwritten).completes m);
      starts = starts_else (kind_at kinds.Label) (λ rest. block (name_at rest) (drop 1 rest)) (block unwritten) (comp_block n unwritten).starts (stop_no_label n);
    }

comp_labelled_block : (n : ℕ) → Comp n labelled_block Always Apart (FirstIs (token n kinds.Label (codes "a:")))
unfolding labelled_block
comp_labelled_block n = seq_any (name kinds.Label place.BehindEnd) block (early_name kinds.Label place.BehindEnd) (comp_name n kinds.Label place.BehindEnd (codes "a:")) (comp_block n)

more_blocks : List Block → List Tok → Read (List Block)
more_blocks bs ts = blocks_within (length ts) bs ts

blocks_unfold : (bs : List Block) (ts : List Tok) → more_blocks bs ts ≡ (if is_empty ts then Done bs ts else (labelled_block ts >>= λ b ts. more_blocks (bs ++ b ∷ []) ts))
unfolding more_blocks blocks_within
blocks_unfold bs ts = blocks_settle (length ts) bs ts (omega arith) ∙ if_same (is_empty ts) _ _ _ _ (λ _. refl) (λ _. then_same (labelled_block ts) _ _ (weaken (labelled_block_sound ts) (λ b a is.
    settles_from (λ n. blocks_within n (bs ++ b ∷ [])) (λ n ts fits. blocks_settle n (bs ++ b ∷ []) ts fits) (length ts) a (omega (arith, ap length is.1.1, (block_leaves b is.0 a is.2).takes)))))

-- nothing follows
abbrev pub Nothing : List Tok → Type 0
Nothing k = k ≡ []

nothing_apart : (k : List Tok) → Nothing k → Apart k
unfolding mark_at group_at
nothing_apart k none = (ap (mark_at 44) none, ap group_at none)

blocks_start : (bs : List Block) → Starts (more_blocks bs) Always Nothing Apart
unfolding more_blocks blocks_within
blocks_start bs = record { more = []; value = bs; fits = tt; reads = λ k none. ap (more_blocks bs) none ∙ ap (λ (l : List Tok). Done bs l) (sym none); begins = nothing_apart }

blocks_complete : (n m : ℕ) (bs : List Block) → Completes n m (more_blocks bs) Always Nothing
blocks_complete n zero bs = completes_zero
blocks_complete n (suc m) bs = completes_same (more_blocks bs) (λ ts. if is_empty ts then Done bs ts else (labelled_block ts >>= λ b ts. more_blocks (bs ++ b ∷ []) ts)) (blocks_unfold bs)
    (completes_if (λ ts. is_empty ts) (λ ts. Done bs ts) (λ ts. labelled_block ts >>= λ b ts. more_blocks (bs ++ b ∷ []) ts) looks_empty (completes_done bs)
    (completes_both labelled_block (λ b ts. more_blocks (bs ++ b ∷ []) ts) Always Always Apart Nothing n (suc m) m Always
    (λ ts. weaken (labelled_block_sound ts) (λ b a is. (tt, λ few. omega (arith, few, ap length is.1.1, (block_leaves b is.0 a is.2).takes)))) early_labelled_block ((comp_labelled_block n).completes (suc m))
    (λ b _. blocks_complete n m (bs ++ b ∷ [])) (λ b _. blocks_start (bs ++ b ∷ []))))

pub comp_blocks : (n : ℕ) (unwritten : List ℕ) → Comp n (blocks unwritten) Always Nothing (Fresh n)
unfolding blocks more_blocks
comp_blocks n unwritten = seq (entry_block unwritten) (λ first ts. blocks_within (length ts) (first ∷ []) ts) (λ ts. always_done (entry_block unwritten ts)) (early_entry_block unwritten) (comp_entry_block n unwritten)
    (λ first _. record { completes = λ m. blocks_complete n m (first ∷ []); starts = blocks_start (first ∷ []) })
