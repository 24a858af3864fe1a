-- What the grammar sees of tokens.
use Rattle.std.proofs.Common.{◌≡◌, ◌+◌, ◌<◌, ◌≤◌, ℕ, suc, Bool, true, false, cond, eqb, List, [], ◌∷◌, length, drop, get_or, ap, refl, sym, ◌∙◌, arith, add-one, drop-cons, eq-eqb, true≢false}
use Rattle.std.specs.List.{prefix_len}
use Rattle.std.specs.Prelude.{codes, All}
use Rattle.std.proofs.lemmas.List.Elements.{All-head, All-tail}
use Rattle.ll_token.specs.declared.token.TokenKind.{TokenKind}
use Rattle.ll_token.specs.Lexemes.{IsToken}
use Rattle.std.proofs.lemmas.Bool.{eqb-true}
use Rattle.std.proofs.lemmas.List.{drop_all}
use Rattle.ll_token.specs.declared.token.Token.{Token}
use Rattle.ll_token.specs.declared.token.TokenKind.TheVariants as kinds
use Rattle.ll_token.specs.Scan.{IsTokenOf, text_of}
use Rattle.ll_grammar.specs.Tokens.{seen, line_len, line_at, behind_line, names_debug, has_prefix, held_name, is_kind, AreNamed}
use Rattle.ll_grammar.proofs.NameLaws.{holds-name_in}

pub length-seen : (text : List ℕ) (before : ℕ) (tokens : List Token) → length (seen text before tokens) ≡ length tokens
unfolding seen
length-seen text before [] = refl
length-seen text before (t ∷ ts) = ap suc (length-seen text t.line ts)

-- what stands behind the tokens of a line
pub seen_behind : (line : ℕ) (text : List ℕ) (tokens : List Token) → behind_line line (seen text line tokens) ≡ seen text line (drop (line_len line tokens) tokens)
unfolding seen behind_line line_len
seen_behind line text [] = refl
seen_behind line text (t ∷ ts) = go (seen_behind line text ts) (eqb t.line line) refl
  where
    go : behind_line line (seen text line ts) ≡ seen text line (drop (line_len line ts) ts) → (b : Bool) → eqb t.line line ≡ b → cond b (behind_line line (seen text t.line ts)) (seen text line (t ∷ ts)) ≡ seen text line (drop (cond b (1 + prefix_len (λ (t : Token). eqb t.line line) ts) 0) (t ∷ ts))
    go ih true same =
        let more : 1 + prefix_len (λ (t : Token). eqb t.line line) ts ≡ suc (prefix_len (λ (t : Token). eqb t.line line) ts) = omega arith in
        rw (eqb-true t.line line same, more) ih
    go ih false other = refl

-- a line is passed over with its first token
pub seen_passed : (text : List ℕ) (before line : ℕ) (d : Token) (tokens : List Token) → 1 ≤ length tokens → line ≡ (get_or tokens 0 d).line
    → seen text line (drop (line_len line tokens) tokens) ≡ behind_line (line_at (seen text before tokens)) (drop 1 (seen text before tokens))
unfolding seen line_len line_at
seen_passed text before line d [] some first = absurd (omega arith)
seen_passed text before line d (t ∷ ts) some first =
    let here : eqb t.line line ≡ true = eq-eqb t.line line (sym first) in
    let more : 1 + prefix_len (λ (t : Token). eqb t.line line) ts ≡ suc (prefix_len (λ (t : Token). eqb t.line line) ts) = omega arith in
    ap (λ b. seen text line (drop (cond b (1 + prefix_len (λ (t : Token). eqb t.line line) ts) 0) (t ∷ ts))) here
    ∙ ap (λ (n : ℕ). seen text line (drop n (t ∷ ts))) more
    ∙ sym (seen_behind line text ts)
    ∙ ap (λ (l : ℕ). behind_line l (seen text l ts)) first

module _ (text : List ℕ) (line : List Token) (i : ℕ) (d : Token) (within : i < length line) where
  found : Bool
  found = has_prefix (codes "llvm.dbg.") (held_name (get_or line i d).kind (text_of text (get_or line i d)))

  -- the first global name of a line is not here, or it is
  pub names_debug-next : is_kind (get_or line i d).kind kinds.Global ≡ false → names_debug text (drop i line) ≡ names_debug text (drop (i + 1) line)
  unfolding names_debug found
  names_debug-next other = rw (add-one, drop-cons line i d) (ap (λ b. cond b found (names_debug text (drop (suc i) line))) other)

  pub names_debug-here : is_kind (get_or line i d).kind kinds.Global ≡ true → names_debug text (drop i line) ≡ has_prefix (codes "llvm.dbg.") (held_name (get_or line i d).kind (text_of text (get_or line i d)))
  unfolding names_debug found
  names_debug-here global = rw (drop-cons line i d) (ap (λ b. cond b found (names_debug text (drop (suc i) line))) global)

pub names_debug-end : (text : List ℕ) (line : List Token) (i : ℕ) → length line ≤ i → names_debug text (drop i line) ≡ false
unfolding names_debug
names_debug-end text line i past = ap (names_debug text) (drop_all i line past)

-- a local name of a text has a byte
name_has_byte : (kind : TokenKind) (text after : List ℕ) → kind ≡ kinds.Local → IsToken kind text after → held_name kind text ≡ [] → ⊥
unfolding held_name
name_has_byte kinds.Local text after local (name, holds) none = let e : name ≡ [] = holds-name_in kinds.Local text after name holds ∙ none in omega (arith, holds.3, ap length e)
name_has_byte other text after local form none = absurd (true≢false (sym (ap (λ kind. is_kind kind kinds.Local) local)))

pub seen_named : (text : List ℕ) (before : ℕ) (tokens : List Token) → All (IsTokenOf text) tokens → AreNamed (seen text before tokens)
unfolding seen
seen_named text before [] each = tt
seen_named text before (t ∷ ts) each =
    ((λ local none. name_has_byte t.kind (text_of text t) _ local (All-head (IsTokenOf text) t ts each).form none), seen_named text t.line ts (All-tail (IsTokenOf text) t ts each))
