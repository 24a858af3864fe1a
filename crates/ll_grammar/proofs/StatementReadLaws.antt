-- What spells a statement is read as it.
use Rattle.std.proofs.Common.{◌≡◌, ◌⊎◌, ◌≤◌, ℕ, zero, suc, Bool, true, false, cond, ◌&&◌, List, [], ◌∷◌, ◌++◌, length, drop, refl, sym, ap, ◌∙◌, inl, inr, true≢false, arith, append_assoc, eq-eqb, ne_eqb}
use Rattle.std.specs.Prelude.{codes, All}
use Rattle.std.specs.Str.{bytes_eq}
use Rattle.ll_token.specs.declared.token.TokenKind.{TokenKind}
use Rattle.ll_token.specs.declared.token.TokenKind.TheVariants as kinds
use Rattle.ll_tree.specs.declared.block.Phi.{Phi}
use Rattle.ll_tree.specs.declared.block.PhiEntry.{PhiEntry}
use Rattle.ll_tree.specs.declared.block.End.{End}
use Rattle.ll_tree.specs.declared.block.End.TheVariants as end
use Rattle.ll_tree.specs.declared.block.Operand.{Operand}
use Rattle.ll_tree.specs.declared.op.Op.{Op}
use Rattle.ll_tree.specs.declared.op.Op.TheVariants as op
use Rattle.ll_grammar.specs.declared.block.Item.{Item}
use Rattle.ll_grammar.specs.declared.block.Item.TheVariants as item
use Rattle.ll_grammar.specs.declared.stop.Place.TheVariants as place
use Rattle.ll_grammar.specs.Tokens.{Tok, is_kind, word_at, mark_at, kind_at, debug_at, is_debug, starts_debug, line_at, behind_line}
use Rattle.ll_grammar.specs.Reading.{Read, Done, ◌>>=◌, metadatum}
use Rattle.ll_grammar.specs.Forms.{behind_comma, another, entry, entries, phi, is_call_word}
use Rattle.ll_grammar.specs.Blocks.{metadata_within, metadata, passed_within, passed, assignment, bare_statement, statement}
use Rattle.ll_grammar.specs.Spells.{IsWord, IsMark, IsNameOf, IsType, SpellsEntry, SpellEntries, SpellsOp, SpellsResultOf, SpellsEnd, AreMetadata, LeavesLine, ArePassed, IsStatement}
use Rattle.ll_grammar.proofs.TokenLaws.{both_true, bytes_same}
use Rattle.ll_grammar.proofs.OpLaws.{IsValued}
use Rattle.ll_grammar.proofs.StatementLaws.{SpellsItem}
use Rattle.ll_grammar.proofs.LeavesLaws.{metadata_leave, passed_leave, entry_leaves}
use Rattle.ll_grammar.proofs.TokenReadLaws.{then_reads, if_reads, else_reads, behind_first, at_word, at_kind, at_mark, at_name, mark_there, kind_there, mark_reads, name_reads, metadatum_reads, width_reads}
use Rattle.ll_grammar.proofs.FormReadLaws.{operand_reads, terminator_reads, word_of_end, end_word}
use Rattle.ll_grammar.proofs.OpReadLaws.{operation_reads, operation_word, assume_reads, call_word, call_is_word}

-- ---- metadata

pub metadata_within_reads : (n most : ℕ) (ts rest : List Tok) → n ≤ most → AreMetadata n ts rest → mark_at 44 rest ≡ false → metadata_within most ts ≡ Done (tt {0}) rest
unfolding metadata_within
metadata_within_reads zero zero ts rest few here none = ap (λ (l : List Tok). Done (tt {0}) l) here
metadata_within_reads zero (suc most) ts rest few here none = else_reads (mark_at 44 ts) _ _ (ap (mark_at 44) here ∙ none) (ap (λ (l : List Tok). Done (tt {0}) l) here)
metadata_within_reads (suc n) zero ts rest few are none = absurd (omega arith)
metadata_within_reads (suc n) (suc most) ts rest few (c, m, k, a, is, ck, ct, mk, kk, more) none =
    if_reads (mark_at 44 ts) _ _ (mark_there ts (m ∷ k ∷ a) 44 (c, is, ck, ct))
    (then_reads _ _ (ap metadatum (behind_first ts (m ∷ k ∷ a) c is) ∙ metadatum_reads (m ∷ k ∷ a) (k ∷ a) m refl mk) (then_reads _ _ (metadatum_reads (k ∷ a) a k refl kk)
    (metadata_within_reads n most a rest (omega (arith, few)) more none)))

pub metadata_reads : (n : ℕ) (ts rest : List Tok) → AreMetadata n ts rest → mark_at 44 rest ≡ false → metadata ts ≡ Done (tt {0}) rest
unfolding metadata
metadata_reads n ts rest are none = metadata_within_reads n (length ts) ts rest (omega (arith, (metadata_leave n ts rest are).takes)) are none

-- ---- phis

pub entry_reads : (w : ℕ) (e : PhiEntry) (ts rest : List Tok) → SpellsEntry w e ts rest → entry w ts ≡ Done e rest
unfolding entry
entry_reads w e ts rest (a, b, c, d, opens, x, comma, from, closes) =
    then_reads _ _ (mark_reads ts a 91 opens) (then_reads _ _ (operand_reads w e.value a b x) (then_reads _ _ (mark_reads b c 44 comma)
    (then_reads _ _ (name_reads c d kinds.Local place.Other e.from from) (then_reads _ _ (mark_reads d rest 93 closes) refl))))

pub another_follows : (ts a b : List Tok) → IsMark 44 ts a → IsMark 91 a b → another ts ≡ Done true a
unfolding another behind_comma
another_follows ts a b comma opens =
    if_reads (mark_at 44 ts) _ _ (mark_there ts a 44 comma) (ap behind_comma (behind_first ts a comma.0 comma.1) ∙ if_reads (mark_at 91 a) _ _ (mark_there a b 91 opens) refl)

-- a reading and the metadata that it leaves
abbrev pub Leaves : {A : Type 0} → Read A → A → (rest : List Tok) → Type 0
Leaves r x rest = (c : List Tok) × (more : ℕ) × (r ≡ Done x c) × AreMetadata more c rest

another_ends : (n : ℕ) (ts rest : List Tok) → AreMetadata n ts rest → mark_at 44 rest ≡ false → Leaves (another ts) false rest
unfolding another behind_comma
another_ends zero ts rest here none = (ts, 0, else_reads (mark_at 44 ts) _ _ (ap (mark_at 44) here ∙ none) refl, here)
another_ends (suc n) ts rest (c, m, k, a, is, ck, ct, mk, kk, more) none = (
  a,
  n,
  if_reads (mark_at 44 ts) _ _ (mark_there ts (m ∷ k ∷ a) 44 (c, is, ck, ct)) (ap behind_comma (behind_first ts (m ∷ k ∷ a) c is)
      ∙ else_reads (mark_at 91 (m ∷ k ∷ a)) _ _ (at_mark (m ∷ k ∷ a) (k ∷ a) m refl kinds.Meta mk 91)
      (then_reads _ _ (metadatum_reads (m ∷ k ∷ a) (k ∷ a) m refl mk) (then_reads _ _ (metadatum_reads (k ∷ a) a k refl kk) refl))),
  more,
)

pub entries_reads : (es : List PhiEntry) (w most : ℕ) (so_far : List PhiEntry) (ts b rest : List Tok) (n : ℕ) → length ts ≤ most → SpellEntries w es ts b → AreMetadata n b rest → mark_at 44 rest ≡ false
    → Leaves (entries w most so_far ts) (so_far ++ es) rest
unfolding entries
entries_reads [] w most so_far ts b rest n few none meta no_comma = absurd none
entries_reads (e ∷ es) w zero so_far ts b rest n few are meta no_comma = absurd (go es are)
  where
    go : (es : List PhiEntry) → SpellEntries w (e ∷ es) ts b → ⊥
    go [] is = omega (arith, few, (entry_leaves w e ts b is).takes)
    go (next ∷ es) (a, c, is, comma, more) = omega (arith, few, (entry_leaves w e ts a is).takes)
entries_reads (e ∷ []) w (suc most) so_far ts b rest n few is meta no_comma =
    let l = another_ends n b rest meta no_comma in
    (l.0, l.1, then_reads _ _ (entry_reads w e ts b is) (then_reads _ _ l.2 refl), l.3)
entries_reads (e ∷ next ∷ es) w (suc most) so_far ts b rest n few (a, c, is, comma, more) meta no_comma =
    let l = entries_reads (next ∷ es) w most (so_far ++ e ∷ []) c b rest n (omega (arith, few, (entry_leaves w e ts a is).takes, ap length comma.1)) more meta no_comma in
    let o = opens es more in
    (l.0, l.1, then_reads _ _ (entry_reads w e ts a is) (then_reads _ _ (another_follows a c o.0 comma o.1) (l.2 ∙ ap (λ (es : List PhiEntry). Done es l.0) (append_assoc so_far (e ∷ []) (next ∷ es)))), l.3)
  where
    opens : (es : List PhiEntry) → SpellEntries w (next ∷ es) c b → (d : List Tok) × IsMark 91 c d
    opens [] is = (is.0, is.4)
    opens (other ∷ es) is = (is.2.0, is.2.4)

pub phi_reads : (p : Phi) (ts a b rest : List Tok) (n : ℕ) → IsType p.width ts a → SpellEntries p.width p.entries a b → AreMetadata n b rest → mark_at 44 rest ≡ false → Leaves (phi p.name ts) p rest
unfolding phi
phi_reads p ts a b rest n t es meta no_comma =
    let l = entries_reads p.entries p.width (length a) [] a b rest n (omega arith) es meta no_comma in
    (l.0, l.1, then_reads _ _ (width_reads ts a p.width t) (then_reads _ _ l.2 refl), l.3)

-- ---- statements

assigned_phi : (p : Phi) (a rest : List Tok) (n : ℕ) (b c d e : List Tok) → IsMark 61 a b → IsWord (codes "phi") b c → IsType p.width c d → SpellEntries p.width p.entries d e → AreMetadata n e rest → mark_at 44 rest ≡ false
    → Leaves (assignment true p.name a) (item.Phi p) rest
unfolding assignment
assigned_phi p a rest n b c d e equals word t es meta no_comma =
    let l = phi_reads p c d e rest n t es meta no_comma in (
      l.0,
      l.1,
      then_reads _ _ (mark_reads a b 61 equals) (if_reads (bytes_eq (word_at b) (codes "phi")) _ _ (bytes_same _ _ (at_word b c _ word))
          (ap (λ r. r >>= λ p ts. Done (item.Phi p) ts) (ap (phi p.name) (behind_first b c word.0 word.1)) ∙ then_reads _ _ l.2 refl)),
      l.3,
    )

assigned_op : (first : Bool) (r : List ℕ) (computed : Op) (a b rest : List Tok) → IsValued computed → IsMark 61 a b → SpellsOp computed b rest → assignment first r a ≡ Done (item.Instr (record { name = r; op = computed })) rest
unfolding assignment
assigned_op first r computed a b rest valued equals is =
    then_reads _ _ (mark_reads a b 61 equals) (else_reads (first && bytes_eq (word_at b) (codes "phi")) _ _ (no_phi first) (then_reads _ _ (operation_reads computed b rest valued is) refl))
  where
    no_phi : (first : Bool) → (first && bytes_eq (word_at b) (codes "phi")) ≡ false
    no_phi true = operation_word computed b rest valued is
    no_phi false = refl

pub named_reads : (first : Bool) (r : List ℕ) (ts a : List Tok) → IsNameOf kinds.Local r ts a → bare_statement first ts ≡ assignment first r a
unfolding bare_statement
named_reads first r ts a named =
    if_reads (kind_at kinds.Local ts) _ _ (kind_there ts a kinds.Local r named)
    (ap (λ (n : List ℕ). assignment first n (drop 1 ts)) (at_name ts a kinds.Local r named) ∙ ap (assignment first r) (behind_first ts a named.0 named.1))

pub assumed_reads : (first : Bool) (x : Operand) (ts rest : List Tok) → SpellsOp (op.Assume x) ts rest → bare_statement first ts ≡ Done (item.Instr (record { name = []; op = op.Assume x })) rest
unfolding bare_statement
assumed_reads first x ts rest is =
    let w = call_is_word ts is.0 is.5 in
    else_reads (kind_at kinds.Local ts) _ _ (at_kind ts w.1 w.0 w.2 kinds.Word w.3 kinds.Local)
    (if_reads (is_call_word (word_at ts)) _ _ (call_word ts is.0 is.5).calls (then_reads _ _ (assume_reads x ts rest is) refl))

no_call : (e : End) → is_call_word (word_of_end e) ≡ false
unfolding is_call_word
no_call end.RetVoid = refl
no_call (end.Ret w x) = refl
no_call end.Unreachable = refl
no_call (end.Br to) = refl
no_call (end.CondBr x left right) = refl
no_call (end.Switch w x default cs) = refl

pub end_reads : (first : Bool) (e : End) (ts rest : List Tok) → SpellsEnd e ts rest → bare_statement first ts ≡ Done (item.End e) rest
unfolding bare_statement
end_reads first e ts rest is =
    let w = end_word e ts rest is in
    else_reads (kind_at kinds.Local ts) _ _ (at_kind ts w.0 w.1.0 w.1.1 kinds.Word w.1.2 kinds.Local)
    (else_reads (is_call_word (word_at ts)) _ _ (ap is_call_word (at_word ts w.0 _ w.1) ∙ no_call e) (then_reads _ _ (terminator_reads e ts rest is) refl))

pub instr_reads : (first : Bool) (r : List ℕ) (computed : Op) (ts rest : List Tok) → SpellsResultOf r computed ts rest → bare_statement first ts ≡ Done (item.Instr (record { name = r; op = computed })) rest
instr_reads first r (op.Assume x) ts rest (name, is) = assumed_reads first x ts rest is ∙ ap (λ (n : List ℕ). Done (item.Instr (record { name = n; op = op.Assume x })) rest) (sym name)
instr_reads first r (op.Bin kind f w left right) ts rest (a, b, named, equals, is) = named_reads first r ts a named ∙ assigned_op first r (op.Bin kind f w left right) a b rest tt equals is
instr_reads first r (op.Cmp p f w left right) ts rest (a, b, named, equals, is) = named_reads first r ts a named ∙ assigned_op first r (op.Cmp p f w left right) a b rest tt equals is
instr_reads first r (op.Cast kind f from arg to) ts rest (a, b, named, equals, is) = named_reads first r ts a named ∙ assigned_op first r (op.Cast kind f from arg to) a b rest tt equals is
instr_reads first r (op.Select w x left right) ts rest (a, b, named, equals, is) = named_reads first r ts a named ∙ assigned_op first r (op.Select w x left right) a b rest tt equals is
instr_reads first r (op.Abs w arg strict) ts rest (a, b, named, equals, is) = named_reads first r ts a named ∙ assigned_op first r (op.Abs w arg strict) a b rest tt equals is

pub bare_statement_reads : (first : Bool) (it : Item) (ts a rest : List Tok) (n : ℕ) → SpellsItem first it ts a → AreMetadata n a rest → mark_at 44 rest ≡ false → Leaves (bare_statement first ts) it rest
bare_statement_reads first (item.Phi p) ts a rest n (may, (b, c, d, e, named, equals, word, t, es)) meta no_comma =
    let l = assigned_phi p b rest n c d e a equals word t es meta no_comma in
    (l.0, l.1, named_reads first p.name ts b named ∙ ap (λ f. assignment f p.name b) may ∙ l.2, l.3)
bare_statement_reads first (item.Instr i) ts a rest n is meta no_comma = (a, n, instr_reads first i.name i.op ts a is, meta)
bare_statement_reads first (item.End e) ts a rest n is meta no_comma = (a, n, end_reads first e ts a is, meta)

-- ---- lines that are passed over

pub behind_line_reads : (line : ℕ) (others a : List Tok) → All (λ (o : Tok). o.line ≡ line) others → LeavesLine line a → behind_line line (others ++ a) ≡ a
unfolding behind_line
behind_line_reads line [] [] all leaves = refl
behind_line_reads line [] (t ∷ ts) all leaves = ap (λ b. cond b (behind_line line ts) (t ∷ ts)) (ne_eqb t.line line leaves)
behind_line_reads line (o ∷ others) a all leaves =
    ap (λ b. cond b (behind_line line (others ++ a)) (o ∷ (others ++ a))) (eq-eqb o.line line (all 0 o (omega arith))) ∙ behind_line_reads line others a (λ k d within. all (suc k) d (omega (arith, within))) leaves

at_debug : (ts : List Tok) (t : Tok) (a : List Tok) → ts ≡ t ∷ a → is_debug t ≡ true → debug_at ts ≡ true
unfolding debug_at
at_debug ts t a is debug = ap debug_at is ∙ debug

first_line : (t : Tok) (a : List Tok) → behind_line (line_at (t ∷ a)) a ≡ behind_line t.line a
unfolding line_at
first_line t a = refl

pub passed_within_reads : (n most : ℕ) (ts rest : List Tok) → n ≤ most → ArePassed n ts rest → debug_at rest ≡ false → passed_within most ts ≡ rest
unfolding passed_within
passed_within_reads zero zero ts rest few here none = here
passed_within_reads zero (suc most) ts rest few here none = else_reads (debug_at ts) _ _ (ap debug_at here ∙ none) here
passed_within_reads (suc n) zero ts rest few are none = absurd (omega arith)
passed_within_reads (suc n) (suc most) ts rest few (t, others, a, is, debug, all, leaves, more) none =
    if_reads (debug_at ts) _ _ (at_debug ts t (others ++ a) is debug)
    (ap (λ (l : List Tok). passed_within most (behind_line (line_at l) (drop 1 l))) is ∙ ap (passed_within most) (first_line t (others ++ a) ∙ behind_line_reads t.line others a all leaves) ∙ passed_within_reads n most a rest (omega (arith, few)) more none)

pub passed_reads : (n : ℕ) (ts rest : List Tok) → ArePassed n ts rest → debug_at rest ≡ false → passed ts ≡ rest
unfolding passed
passed_reads n ts rest are none = passed_within_reads n (length ts) ts rest (omega (arith, (passed_leave n ts rest are).takes)) are none

-- ---- how a statement begins

begins_no_mark : (kind : TokenKind) → starts_debug kind ≡ true → is_kind kind kinds.Mark ≡ false
begins_no_mark kinds.Mark is = absurd (true≢false (sym is))
begins_no_mark kinds.Local is = refl
begins_no_mark kinds.Global is = refl
begins_no_mark kinds.Label is = refl
begins_no_mark kinds.Number is = refl
begins_no_mark kinds.Word is = refl
begins_no_mark kinds.String is = refl
begins_no_mark kinds.Meta is = refl
begins_no_mark kinds.Hash is = refl

-- an item begins with a local name or a word
pub item_first : (first : Bool) (it : Item) (ts rest : List Tok) → SpellsItem first it ts rest → (t : Tok) × (a : List Tok) × (ts ≡ t ∷ a) × ((t.kind ≡ kinds.Local) ⊎ (t.kind ≡ kinds.Word))
item_first first (item.Phi p) ts rest (may, is) = (is.4.0, is.0, is.4.1, inl is.4.2)
item_first first (item.End e) ts rest is = let w = end_word e ts rest is in (w.1.0, w.0, w.1.1, inr w.1.2)
item_first first (item.Instr i) ts rest is = go i.op is
  where
    go : (computed : Op) → SpellsResultOf i.name computed ts rest → (t : Tok) × (a : List Tok) × (ts ≡ t ∷ a) × ((t.kind ≡ kinds.Local) ⊎ (t.kind ≡ kinds.Word))
    go (op.Assume x) (name, is) = let w = call_is_word ts is.0 is.5 in (w.0, w.1, w.2, inr w.3)
    go (op.Bin kind f w left right) is = (is.2.0, is.0, is.2.1, inl is.2.2)
    go (op.Cmp p f w left right) is = (is.2.0, is.0, is.2.1, inl is.2.2)
    go (op.Cast kind f from arg to) is = (is.2.0, is.0, is.2.1, inl is.2.2)
    go (op.Select w x left right) is = (is.2.0, is.0, is.2.1, inl is.2.2)
    go (op.Abs w arg strict) is = (is.2.0, is.0, is.2.1, inl is.2.2)

pub item_no_comma : (first : Bool) (it : Item) (ts rest : List Tok) → SpellsItem first it ts rest → mark_at 44 ts ≡ false
item_no_comma first it ts rest is = let w = item_first first it ts rest is in elim w.3 [ inl k ↦ at_mark ts w.1 w.0 w.2 kinds.Local k 44 | inr k ↦ at_mark ts w.1 w.0 w.2 kinds.Word k 44 ]

pub item_no_label : (first : Bool) (it : Item) (ts rest : List Tok) → SpellsItem first it ts rest → kind_at kinds.Label ts ≡ false
item_no_label first it ts rest is = let w = item_first first it ts rest is in elim w.3 [ inl k ↦ at_kind ts w.1 w.0 w.2 kinds.Local k kinds.Label | inr k ↦ at_kind ts w.1 w.0 w.2 kinds.Word k kinds.Label ]

pub statement_no_comma : (first : Bool) (it : Item) (ts rest : List Tok) → IsStatement (SpellsItem first it) ts rest → mark_at 44 ts ≡ false
statement_no_comma first it ts rest (zero, pairs, a, b, here, starts, is, meta) = ap (mark_at 44) here ∙ item_no_comma first it a b is
statement_no_comma first it ts rest (suc lines, pairs, a, b, (t, others, c, e, debug, all, leaves, more), starts, is, meta) =
    at_mark ts (others ++ c) t e t.kind refl 44 ∙ ap (λ m. m && bytes_eq t.text (44 ∷ [])) (begins_no_mark t.kind (both_true _ _ debug).0)

pub statement_reads : (first : Bool) (it : Item) (ts rest : List Tok) → IsStatement (SpellsItem first it) ts rest → mark_at 44 rest ≡ false → statement first ts ≡ Done it rest
unfolding statement
statement_reads first it ts rest (lines, pairs, a, b, passes, starts, is, meta) no_comma =
    let l = bare_statement_reads first it a b rest pairs is meta no_comma in
    then_reads _ _ (ap (bare_statement first) (passed_reads lines ts a passes starts) ∙ l.2) (then_reads _ _ (metadata_reads l.1 l.0 rest l.3 no_comma) refl)
