-- What is read of blocks is what spells them.
use Rattle.std.proofs.Common.{◌≡◌, ℕ, zero, suc, true, false, List, [], ◌∷◌, ◌++◌, length, drop, refl, sym, ap, ◌∙◌, subst, inl, inr, true≢false, append_assoc, append-nil, ◌≤◌, arith}
use Rattle.ll_token.specs.declared.token.TokenKind.TheVariants as kinds
use Rattle.ll_tree.specs.declared.block.Block.{Block}
use Rattle.ll_tree.specs.declared.block.Phi.{Phi}
use Rattle.ll_tree.specs.declared.block.Instr.{Instr}
use Rattle.ll_tree.specs.declared.block.End.{End}
use Rattle.ll_grammar.specs.declared.block.Item.{Item}
use Rattle.ll_grammar.specs.declared.block.Item.TheVariants as item
use Rattle.ll_grammar.specs.declared.stop.Place.TheVariants as place
use Rattle.ll_grammar.specs.Tokens.{Tok, is_empty, kind_at, name_at}
use Rattle.ll_grammar.specs.Reading.{Read}
use Rattle.ll_grammar.specs.Blocks.{passed, block_step, block_within, block, entry_block, labelled_block, blocks_within, blocks}
use Rattle.ll_grammar.specs.Spells.{IsNameOf, ArePassed, IsStatement, SpellsPhi, SpellsInstr, SpellsEnd, SpellPhis, SpellInstrs, SpellsBlock, SpellBlocks, SpellsEntryBlock, SpellBody}
use Rattle.ll_grammar.proofs.DoneLaws.{OnDone, on_done, on_ran_out, on_then, on_if, weaken}
use Rattle.ll_grammar.proofs.TokenLaws.{kind_is}
use Rattle.ll_grammar.proofs.FormLaws.{name_sound}
use Rattle.ll_grammar.proofs.LeavesLaws.{block_leaves}
use Rattle.ll_grammar.proofs.StatementLaws.{IsStatementOf, statement_sound, passed_is}

-- a block that goes on behind these phis and instructions; a phi only where there is no instruction yet
abbrev EndsBlock : List ℕ → List Phi → List Instr → (ts : List Tok) → Block → List Tok → Type 0
EndsBlock label phis body ts b rest =
    (more_phis : List Phi) × (more_body : List Instr) × (a c : List Tok) × (b.label ≡ label) × (b.phis ≡ phis ++ more_phis) × (b.body ≡ body ++ more_body)
    × SpellPhis more_phis ts a × SpellInstrs more_body a c × IsStatement (SpellsEnd b.end) c rest × (is_empty body ≡ false → more_phis ≡ [])

snoc_some : {A : Type 0} (xs : List A) (x : A) → is_empty (xs ++ x ∷ []) ≡ false
snoc_some [] x = refl
snoc_some (y ∷ ys) x = refl

no_phis : (phis : List Phi) (ts a : List Tok) → phis ≡ [] → SpellPhis phis ts a → ts ≡ a
no_phis [] ts a none is = is
no_phis (p ∷ phis) ts a none is = absurd (true≢false (ap is_empty (sym none)))

abbrev Continues : (List Phi → List Instr → List Tok → Read Block) → List ℕ → Type 0
Continues more label = (phis : List Phi) (body : List Instr) (ts : List Tok) → OnDone (more phis body ts) (EndsBlock label phis body ts)

block_step_sound : (more : List Phi → List Instr → List Tok → Read Block) (label : List ℕ) → Continues more label → (phis : List Phi) (body : List Instr) (ts : List Tok) (it : Item) (a : List Tok)
    → IsStatementOf (is_empty body) it ts a → OnDone (block_step more label phis body it a) (EndsBlock label phis body ts)
block_step_sound more label ih phis body ts (item.Phi p) a (lines, pairs, b, c, passes, starts, is, meta) = weaken (ih (phis ++ p ∷ []) body a) (λ made rest w.
    (p ∷ w.0, w.1, w.2, w.3, w.4, w.5 ∙ append_assoc phis (p ∷ []) w.0, w.6, (a, (lines, pairs, b, c, passes, starts, is.1, meta), w.7), w.8, w.9, λ some. absurd (true≢false (sym is.0 ∙ some))))
block_step_sound more label ih phis body ts (item.Instr i) a (lines, pairs, b, c, passes, starts, is, meta) = weaken (ih phis (body ++ i ∷ []) a) (λ made rest w.
    let none = w.10 (snoc_some body i) in
    let here : a ≡ w.2 = no_phis w.0 a w.2 none w.7 in (
      [],
      i ∷ w.1,
      ts,
      w.3,
      w.4,
      w.5 ∙ ap (λ (xs : List Phi). phis ++ xs) none,
      w.6 ∙ append_assoc body (i ∷ []) w.1,
      refl,
      (a, (lines, pairs, b, c, passes, starts, is, meta), subst (λ xs. SpellInstrs w.1 xs w.3) (sym here) w.8),
      w.9,
      λ some. refl,
    ))
block_step_sound more label ih phis body ts (item.End e) a (lines, pairs, b, c, passes, starts, is, meta) =
    on_done ([], [], ts, ts, refl, sym (append-nil phis), sym (append-nil body), refl, refl, (lines, pairs, b, c, passes, starts, is, meta), λ some. refl)

block_within_sound : (most : ℕ) (label : List ℕ) → Continues (block_within most label) label
unfolding block_within
block_within_sound zero label phis body ts = on_ran_out
block_within_sound (suc most) label phis body ts =
    on_then _ _ (statement_sound (is_empty body) ts) (λ it a is. block_step_sound (block_within most label) label (block_within_sound most label) phis body ts it a is)

-- a block with this label, behind it
abbrev IsBlock : List ℕ → (ts : List Tok) → Block → List Tok → Type 0
IsBlock label ts b rest = (b.label ≡ label) × SpellsBlock b ts rest

block_sound : (label : List ℕ) (ts : List Tok) → OnDone (block label ts) (IsBlock label ts)
unfolding block
block_sound label ts = weaken (block_within_sound (length ts) label [] [] ts) (λ b rest w.
    (w.4, (w.2, w.3, subst (λ ps. SpellPhis ps ts w.2) (sym w.5) w.7, subst (λ is. SpellInstrs is w.2 w.3) (sym w.6) w.8, w.9)))

-- lines that are passed over before a block are those of its first statement
join_passed : (m n : ℕ) (ts a rest : List Tok) → ArePassed m ts a → ArePassed n a rest → (k : ℕ) × ArePassed k ts rest
join_passed zero n ts a rest here more = (n, subst (λ xs. ArePassed n xs rest) (sym here) more)
join_passed (suc m) n ts a rest here more =
    let w = join_passed m n here.2 a rest here.7 more in
    (suc w.0, (here.0, here.1, here.2, here.3, here.4, here.5, here.6, w.1))

before_statement : (Spelled : (ts rest : List Tok) → Type 0) (ts a rest : List Tok) (m : ℕ) → ArePassed m ts a → IsStatement Spelled a rest → IsStatement Spelled ts rest
before_statement Spelled ts a rest m passes (lines, pairs, b, c, more, starts, is, meta) =
    let w = join_passed m lines ts a b passes more in
    (w.0, pairs, b, c, w.1, starts, is, meta)

before_instrs : (body : List Instr) (e : End) (ts a c rest : List Tok) (m : ℕ) → ArePassed m ts a → SpellInstrs body a c → IsStatement (SpellsEnd e) c rest
    → (d : List Tok) × SpellInstrs body ts d × IsStatement (SpellsEnd e) d rest
before_instrs [] e ts a c rest m passes here ends = (ts, refl, before_statement (SpellsEnd e) ts a rest m passes (subst (λ xs. IsStatement (SpellsEnd e) xs rest) (sym here) ends))
before_instrs (i ∷ body) e ts a c rest m passes (d, is, more) ends = (c, (d, before_statement (SpellsInstr i) ts a d m passes is, more), ends)

before_block : (b : Block) (ts a rest : List Tok) (m : ℕ) → ArePassed m ts a → SpellsBlock b a rest → SpellsBlock b ts rest
before_block b ts a rest m passes (c, d, are, body, ends) = go b.phis are
  where
    go : (phis : List Phi) → SpellPhis phis a c → (c' d' : List Tok) × SpellPhis phis ts c' × SpellInstrs b.body c' d' × IsStatement (SpellsEnd b.end) d' rest
    go [] here = let w = before_instrs b.body b.end ts a d rest m passes (subst (λ xs. SpellInstrs b.body xs d) (sym here) body) ends in (ts, w.0, refl, w.1, w.2)
    go (p ∷ phis) (e, is, more) = (c, d, (e, before_statement (SpellsPhi p) ts a e m passes is, more), body, ends)

entry_block_sound : (unwritten : List ℕ) (ts : List Tok) → OnDone (entry_block unwritten ts) (λ b rest. SpellsEntryBlock unwritten b ts rest)
unfolding entry_block
entry_block_sound unwritten ts =
    let p = passed_is ts in
    on_if (kind_at kinds.Label (passed ts)) _ _
    (λ is. let k = kind_is kinds.Label (passed ts) is in weaken (block_sound (name_at (passed ts)) (drop 1 (passed ts))) (λ b rest w.
    inl (p.0, passed ts, drop 1 (passed ts), p.1, (k.0, k.1, k.2, k.3 ∙ sym w.0), w.1)))
    (λ _. weaken (block_sound unwritten (passed ts)) (λ b rest w. inr (w.0, before_block b ts (passed ts) rest p.0 p.1 w.1)))

pub labelled_block_sound : (ts : List Tok) → OnDone (labelled_block ts) (λ b rest. (a : List Tok) × IsNameOf kinds.Label b.label ts a × SpellsBlock b a rest)
unfolding labelled_block
labelled_block_sound ts = on_then _ _ (name_sound kinds.Label place.BehindEnd ts) (λ label a named. weaken (block_sound label a) (λ b rest w.
    (a, subst (λ l. IsNameOf kinds.Label l ts a) (sym w.0) named, w.1)))

-- these blocks and others, to the end where there may be as many as there are tokens
abbrev AreBlocks : ℕ → List Block → (ts : List Tok) → List Block → List Tok → Type 0
AreBlocks most so_far ts all rest = (more : List Block) × (all ≡ so_far ++ more) × SpellBlocks more ts rest × (length ts ≤ most → rest ≡ [])

none_left : (ts : List Tok) → length ts ≤ 0 → ts ≡ []
none_left [] none = refl
none_left (t ∷ ts) none = absurd (omega arith)

empty_is : (ts : List Tok) → is_empty ts ≡ true → ts ≡ []
empty_is [] e = refl
empty_is (t ∷ ts) e = absurd (true≢false (sym e))

blocks_within_sound : (most : ℕ) (so_far : List Block) (ts : List Tok) → OnDone (blocks_within most so_far ts) (AreBlocks most so_far ts)
unfolding blocks_within
blocks_within_sound zero so_far ts = on_done ([], sym (append-nil so_far), refl, λ few. none_left ts few)
blocks_within_sound (suc most) so_far ts = on_if (is_empty ts) _ _
    (λ is. on_done ([], sym (append-nil so_far), refl, λ few. empty_is ts is))
    (λ _. on_then _ _ (labelled_block_sound ts) (λ b a is. weaken (blocks_within_sound most (so_far ++ b ∷ []) a) (λ all rest w.
    (b ∷ w.0, w.1 ∙ append_assoc so_far (b ∷ []) w.0, (is.0, a, is.1, is.2, w.2), λ few. w.3 (omega (arith, few, ap length is.1.1, (block_leaves b is.0 a is.2).takes))))))

pub blocks_sound : (unwritten : List ℕ) (ts : List Tok) → OnDone (blocks unwritten ts) (λ bs rest. SpellBody unwritten bs ts rest × (rest ≡ []))
unfolding blocks
blocks_sound unwritten ts = on_then _ _ (entry_block_sound unwritten ts) (λ first a is. weaken (blocks_within_sound (length a) (first ∷ []) a) (λ all rest w.
    (subst (λ bs. SpellBody unwritten bs ts rest) (sym w.1) (a, is, w.2), w.3 (omega arith))))
