-- What is read of a statement is what spells it, behind lines that are passed over and with its metadata.
use Rattle.std.proofs.Common.{◌≡◌, ◌≤◌, ℕ, zero, suc, Bool, true, false, ◌&&◌, eqb, List, [], ◌∷◌, ◌++◌, length, drop, refl, sym, ap, ◌∙◌, subst, arith, append_assoc, eqb-true}
use Rattle.std.specs.Prelude.{codes, if◌then◌else◌, All}
use Rattle.std.specs.Str.{bytes_eq}
use Rattle.std.proofs.lemmas.Bool.{eqb-false}
use Rattle.std.proofs.lemmas.List.Elements.{All-cons}
use Rattle.ll_token.specs.declared.token.TokenKind.TheVariants as kinds
use Rattle.ll_tree.specs.declared.block.PhiEntry.{PhiEntry}
use Rattle.ll_tree.specs.declared.op.Op.{Op}
use Rattle.ll_tree.specs.declared.op.Op.TheVariants as op
use Rattle.ll_grammar.specs.declared.block.Item.{Item}
use Rattle.ll_grammar.specs.declared.block.Item.TheVariants as item
use Rattle.ll_grammar.specs.declared.stop.Place.TheVariants as place
use Rattle.ll_grammar.specs.Tokens.{Tok, word_at, mark_at, kind_at, name_at, debug_at, is_debug, line_at, behind_line}
use Rattle.ll_grammar.specs.Reading.{Done, metadatum}
use Rattle.ll_grammar.specs.Forms.{behind_comma, another, entry, entries, phi, is_call_word}
use Rattle.ll_grammar.specs.Blocks.{metadata_within, metadata, passed_within, passed, assignment, bare_statement, statement}
use Rattle.ll_grammar.specs.Spells.{IsWord, IsMark, IsNameOf, SpellsEntry, SpellEntries, SpellsPhi, SpellsOp, SpellsInstr, SpellsResultOf, SpellsEnd, AreMetadata, LeavesLine, ArePassed, IsStatement}
use Rattle.ll_grammar.proofs.DoneLaws.{OnDone, on_done, on_ran_out, on_then, on_if, on_take_if, weaken}
use Rattle.ll_grammar.proofs.TokenLaws.{same_bytes, both_true, word_is, mark_is, kind_is}
use Rattle.ll_grammar.proofs.FormLaws.{mark_sound, name_sound, width_sound, operand_sound, terminator_sound}
use Rattle.ll_grammar.proofs.OpLaws.{IsValued, operation_sound, assume_sound}

-- ---- metadata

abbrev pub IsMeta : (ts rest : List Tok) → Type 0
IsMeta ts rest = (t : Tok) × (ts ≡ t ∷ rest) × (t.kind ≡ kinds.Meta)

pub metadatum_sound : (ts : List Tok) → OnDone (metadatum ts) (λ _ rest. IsMeta ts rest)
unfolding metadatum
metadatum_sound ts = on_take_if _ _ _ ts (λ is. let k = kind_is kinds.Meta ts is in (k.0, k.1, k.2))

one_pair : (n : ℕ) (ts a b c rest : List Tok) → IsMark 44 ts a → IsMeta a b → IsMeta b c → AreMetadata n c rest → AreMetadata (suc n) ts rest
one_pair n ts a b c rest comma m k more =
    (comma.0, m.0, k.0, c, comma.1 ∙ ap (λ (xs : List Tok). comma.0 ∷ xs) (m.1 ∙ ap (λ (xs : List Tok). m.0 ∷ xs) k.1), comma.2, comma.3, m.2, k.2, more)

join_metadata : (m n : ℕ) (ts a rest : List Tok) → AreMetadata m ts a → AreMetadata n a rest → (k : ℕ) × AreMetadata k ts rest
join_metadata zero n ts a rest here more = (n, subst (λ xs. AreMetadata n xs rest) (sym here) more)
join_metadata (suc m) n ts a rest here more =
    let w = join_metadata m n here.3 a rest here.9 more in
    (suc w.0, (here.0, here.1, here.2, here.3, here.4, here.5, here.6, here.7, here.8, w.1))

abbrev pub SomeMetadata : (ts rest : List Tok) → Type 0
SomeMetadata ts rest = (pairs : ℕ) × AreMetadata pairs ts rest

metadata_within_sound : (most : ℕ) (ts : List Tok) → OnDone (metadata_within most ts) (λ _ rest. SomeMetadata ts rest)
unfolding metadata_within
metadata_within_sound zero ts = on_done (0, refl)
metadata_within_sound (suc most) ts = on_if (mark_at 44 ts) _ _
    (λ is. on_then _ _ (metadatum_sound (drop 1 ts)) (λ _ b m. on_then _ _ (metadatum_sound b) (λ _ c n. weaken (metadata_within_sound most c) (λ _ rest w.
    (suc w.0, one_pair w.0 ts (drop 1 ts) b c rest (mark_is 44 ts is) m n w.1)))))
    (λ _. on_done (0, refl))

metadata_sound : (ts : List Tok) → OnDone (metadata ts) (λ _ rest. SomeMetadata ts rest)
unfolding metadata
metadata_sound ts = metadata_within_sound (length ts) ts

-- ---- phis

pub entry_sound : (w : ℕ) (ts : List Tok) → OnDone (entry w ts) (λ e rest. SpellsEntry w e ts rest)
unfolding entry
entry_sound w ts =
    on_then _ _ (mark_sound 91 ts) (λ _ a opens. on_then _ _ (operand_sound w a) (λ x b o. on_then _ _ (mark_sound 44 b) (λ _ c comma.
    on_then _ _ (name_sound kinds.Local place.Other c) (λ from d named. on_then _ _ (mark_sound 93 d) (λ _ e closes. on_done (a, b, c, d, opens, o, comma, named, closes))))))

-- another entry follows behind a comma, or metadata do
abbrev pub Follows : Bool → (ts rest : List Tok) → Type 0
Follows true ts rest = IsMark 44 ts rest
Follows false ts rest = SomeMetadata ts rest

behind_comma_sound : (start ts : List Tok) → IsMark 44 start ts → OnDone (behind_comma ts) (λ follows rest. Follows follows start rest)
unfolding behind_comma
behind_comma_sound start ts comma = on_if (mark_at 91 ts) _ _
    (λ _. on_done comma)
    (λ _. on_then _ _ (metadatum_sound ts) (λ _ b m. on_then _ _ (metadatum_sound b) (λ _ c n. on_done (1, one_pair 0 start ts b c c comma m n refl))))

pub another_sound : (ts : List Tok) → OnDone (another ts) (λ follows rest. Follows follows ts rest)
unfolding another
another_sound ts = on_if (mark_at 44 ts) _ _ (λ is. behind_comma_sound ts (drop 1 ts) (mark_is 44 ts is)) (λ _. on_done (0, refl))

-- these entries and others, and metadata
abbrev AreEntries : ℕ → List PhiEntry → (ts : List Tok) → List PhiEntry → List Tok → Type 0
AreEntries w so_far ts all rest = (more : List PhiEntry) × (b : List Tok) × (all ≡ so_far ++ more) × SpellEntries w more ts b × SomeMetadata b rest

entries_sound : (w most : ℕ) (so_far : List PhiEntry) (ts : List Tok) → OnDone (entries w most so_far ts) (AreEntries w so_far ts)
unfolding entries
entries_sound w zero so_far ts = on_ran_out
entries_sound w (suc most) so_far ts =
    on_then _ _ (entry_sound w ts) (λ e a is. on_then _ _ (another_sound a) (λ follows b next. go (entries_sound w most) e a is follows b next))
  where
    more_entries : (e : PhiEntry) (a b : List Tok) → SpellsEntry w e ts a → IsMark 44 a b → (more : List PhiEntry) (c : List Tok) → SpellEntries w more b c → SpellEntries w (e ∷ more) ts c
    more_entries e a b is comma [] c none = absurd none
    more_entries e a b is comma (next ∷ more) c some = (a, b, is, comma, some)

    go : ((so_far : List PhiEntry) (ts : List Tok) → OnDone (entries w most so_far ts) (AreEntries w so_far ts)) → (e : PhiEntry) (a : List Tok) → SpellsEntry w e ts a → (follows : Bool) (b : List Tok) → Follows follows a b
        → OnDone (if follows then entries w most (so_far ++ e ∷ []) b else Done (so_far ++ e ∷ []) b) (AreEntries w so_far ts)
    go ih e a is true b comma = weaken (ih (so_far ++ e ∷ []) b) (λ all rest w.
        (e ∷ w.0, w.1, w.2 ∙ append_assoc so_far (e ∷ []) w.0, more_entries e a b is comma w.0 w.1 w.3, w.4))
    go ih e a is false b meta = on_done (e ∷ [], a, refl, is, meta)

-- a phi, and the metadata that were read with it
pub phi_sound : (r : List ℕ) (start a ts : List Tok) → IsNameOf kinds.Local r start a → (b : List Tok) → IsMark 61 a b → IsWord (codes "phi") b ts
    → OnDone (phi r ts) (λ p rest. (c : List Tok) × SpellsPhi p start c × SomeMetadata c rest)
unfolding phi
phi_sound r start a ts named b equals word =
    on_then _ _ (width_sound ts) (λ w c t. on_then _ _ (entries_sound w (length c) [] c) (λ es rest w'.
    on_done (w'.1, (a, b, ts, c, named, equals, word, t, subst (λ es. SpellEntries w es c w'.1) (sym w'.2) w'.3), w'.4)))

-- ---- statements

-- a phi only where it may stand
abbrev pub SpellsItem : Bool → Item → (ts rest : List Tok) → Type 0
SpellsItem first (item.Phi p) ts rest = (first ≡ true) × SpellsPhi p ts rest
SpellsItem first (item.Instr i) ts rest = SpellsInstr i ts rest
SpellsItem first (item.End e) ts rest = SpellsEnd e ts rest

-- an item, and the metadata that were read with it
abbrev Stands : Bool → (ts : List Tok) → Item → List Tok → Type 0
Stands first ts it rest = (c : List Tok) × SpellsItem first it ts c × SomeMetadata c rest

result_of : (r : List ℕ) (computed : Op) (start a ts rest : List Tok) → IsNameOf kinds.Local r start a → IsMark 61 a ts → IsValued computed → SpellsOp computed ts rest → SpellsResultOf r computed start rest
result_of r (op.Bin kind f w left right) start a ts rest named equals valued is = (a, ts, named, equals, is)
result_of r (op.Cmp p f w left right) start a ts rest named equals valued is = (a, ts, named, equals, is)
result_of r (op.Cast kind f from arg to) start a ts rest named equals valued is = (a, ts, named, equals, is)
result_of r (op.Select w cond_ left right) start a ts rest named equals valued is = (a, ts, named, equals, is)
result_of r (op.Abs w arg strict) start a ts rest named equals valued is = (a, ts, named, equals, is)
result_of r (op.Assume cond_) start a ts rest named equals valued is = absurd valued

assignment_sound : (first : Bool) (r : List ℕ) (start ts : List Tok) → IsNameOf kinds.Local r start ts → OnDone (assignment first r ts) (Stands first start)
unfolding assignment
assignment_sound first r start ts named = on_then _ _ (mark_sound 61 ts) (λ _ a equals. on_if (first && bytes_eq (word_at a) (codes "phi")) _ _
    (λ is. let p = both_true _ _ is in
    on_then _ _ (phi_sound r start ts (drop 1 a) named a equals (word_is _ a refl (same_bytes _ _ p.1))) (λ q rest w. on_done (w.0, (p.0, w.1), w.2)))
    (λ _. on_then _ _ (operation_sound a) (λ computed rest is. on_done (rest, result_of r computed start ts a rest named equals is.0 is.1, (0, refl)))))

bare_statement_sound : (first : Bool) (ts : List Tok) → OnDone (bare_statement first ts) (Stands first ts)
unfolding bare_statement
bare_statement_sound first ts = on_if (kind_at kinds.Local ts) _ _
    (λ is. assignment_sound first (name_at ts) ts (drop 1 ts) (kind_is kinds.Local ts is))
    (λ _. on_if (is_call_word (word_at ts)) _ _
    (λ is. on_then _ _ (assume_sound ts is) (λ computed rest w. on_done (rest, subst (λ o. SpellsResultOf [] o ts rest) (sym w.1) (refl, w.2), (0, refl))))
    (λ _. on_then _ _ (terminator_sound ts) (λ e rest is. on_done (rest, is, (0, refl)))))

-- ---- lines that are passed over

pub behind_line_is : (line : ℕ) (ts : List Tok) → (others : List Tok) × (ts ≡ others ++ behind_line line ts) × All (λ (o : Tok). o.line ≡ line) others × LeavesLine line (behind_line line ts) × (length (behind_line line ts) ≤ length ts)
unfolding behind_line
behind_line_is line [] = ([], refl, (λ k d within. absurd (omega arith)), tt, omega arith)
behind_line_is line (t ∷ ts) = go (behind_line_is line ts) (eqb t.line line) refl
  where
    go : (others : List Tok) × (ts ≡ others ++ behind_line line ts) × All (λ (o : Tok). o.line ≡ line) others × LeavesLine line (behind_line line ts) × (length (behind_line line ts) ≤ length ts)
        → (b : Bool) → eqb t.line line ≡ b
        → (others : List Tok) × (t ∷ ts ≡ others ++ (if b then behind_line line ts else t ∷ ts)) × All (λ (o : Tok). o.line ≡ line) others × LeavesLine line (if b then behind_line line ts else t ∷ ts) × (length (if b then behind_line line ts else t ∷ ts) ≤ suc (length ts))
    go ih true same = (t ∷ ih.0, ap (λ (xs : List Tok). t ∷ xs) ih.1, All-cons (λ (o : Tok). o.line ≡ line) t ih.0 (eqb-true _ _ same) ih.2, ih.3, omega (arith, ih.4))
    go ih false other = ([], refl, (λ k d within. absurd (omega arith)), eqb-false _ _ other, omega arith)

passed_within_is : (most : ℕ) (ts : List Tok) → length ts ≤ most → (lines : ℕ) × ArePassed lines ts (passed_within most ts) × (debug_at (passed_within most ts) ≡ false)
unfolding passed_within debug_at line_at
passed_within_is zero [] within = (0, refl, refl)
passed_within_is zero (t ∷ ts) within = absurd (omega arith)
passed_within_is (suc most) [] within = (0, refl, refl)
passed_within_is (suc most) (t ∷ ts) within =
    let w = behind_line_is t.line ts in
    go w (passed_within_is most (behind_line t.line ts) (omega (arith, w.4))) (is_debug t) refl
  where
    go : (others : List Tok) × (ts ≡ others ++ behind_line t.line ts) × All (λ (o : Tok). o.line ≡ t.line) others × LeavesLine t.line (behind_line t.line ts) × (length (behind_line t.line ts) ≤ length ts)
        → (lines : ℕ) × ArePassed lines (behind_line t.line ts) (passed_within most (behind_line t.line ts)) × (debug_at (passed_within most (behind_line t.line ts)) ≡ false)
        → (b : Bool) → is_debug t ≡ b → (lines : ℕ) × ArePassed lines (t ∷ ts) (if b then passed_within most (behind_line t.line ts) else t ∷ ts) × (debug_at (if b then passed_within most (behind_line t.line ts) else t ∷ ts) ≡ false)
    go w ih true is = (suc ih.0, (t, w.0, behind_line t.line ts, ap (λ (xs : List Tok). t ∷ xs) w.1, is, w.2, w.3, ih.1), ih.2)
    go w ih false other = (0, refl, other)

pub passed_is : (ts : List Tok) → (lines : ℕ) × ArePassed lines ts (passed ts) × (debug_at (passed ts) ≡ false)
unfolding passed
passed_is ts = passed_within_is (length ts) ts (omega arith)

-- an item with what is passed over before it and its metadata
abbrev pub IsStatementOf : Bool → Item → (ts rest : List Tok) → Type 0
IsStatementOf first it ts rest = IsStatement (SpellsItem first it) ts rest

pub statement_sound : (first : Bool) (ts : List Tok) → OnDone (statement first ts) (λ it rest. IsStatementOf first it ts rest)
unfolding statement
statement_sound first ts =
    let p = passed_is ts in
    on_then _ _ (bare_statement_sound first (passed ts)) (λ it a w. on_then _ _ (metadata_sound a) (λ _ rest m.
    let j = join_metadata w.2.0 m.0 w.0 a rest w.2.1 m.1 in
    on_done (p.0, j.0, passed ts, w.0, p.1, p.2, w.1, j.1)))
