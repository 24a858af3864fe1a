-- What the grammar sees of the tokens of pieces.
use Rattle.std.proofs.Common.{◌≡◌, ◌+◌, ◌-◌, ℕ, suc, Bool, true, false, cond, not, ◌&&◌, ◌||◌, eqb, List, [], ◌∷◌, ◌++◌, length, take, drop, refl, sym, ap, ◌∙◌, subst, inl, inr, arith, append_assoc, length-append, true≢false, eq-eqb}
use Rattle.std.specs.Prelude.{codes}
use Rattle.std.specs.Str.{bytes_eq}
use Rattle.std.specs.Fmt.{decimal}
use Rattle.std.proofs.lemmas.List.{take_at, drop_at}
use Rattle.ll_token.specs.declared.token.Token.{Token}
use Rattle.ll_token.specs.declared.token.TokenKind.{TokenKind}
use Rattle.ll_token.specs.declared.token.TokenKind.TheVariants as kinds
use Rattle.ll_token.specs.Lexemes.{HoldsName, has_name}
use Rattle.ll_token.specs.Scan.{text_of}
use Rattle.ll_tree.specs.Naming.{name_text}
use Rattle.ll_tree.specs.Words.{type_word}
use Rattle.ll_tree.specs.Pieces.{Piece, Word, Bits, Number, Local, Global, Label, Intrinsic, Mark, Blank, LineEnd, written}
use Rattle.ll_grammar.specs.Tokens.{name_in, held_name, is_kind, has_prefix, line_len, names_debug, is_word, is_before_call, begins_call, is_record, is_debug_line, begins_debug_line, seen, debug_at}
use Rattle.ll_grammar.proofs.NameLaws.{holds-name_in}
use Rattle.ll_grammar.proofs.FlagLaws.{and_false, neither}
use Rattle.canonical_text.specs.Shown.{ShowAll}
use Rattle.canonical_text.specs.Named.{AreNamed}
use Rattle.canonical_text.proofs.TokenLaws.{called_name, ends_piece, local_holds, global_holds, label_holds, intrinsic_holds}
use Rattle.canonical_text.proofs.ScanLaws.{token, tokens_of, is_calling, assumes, IsCalm, Stand}

slice : (whole front part after : List ℕ) (kind : TokenKind) (line at : ℕ) → whole ≡ front ++ (part ++ after) → at ≡ length front → text_of whole (token kind part line at) ≡ part
slice whole front part after kind line at parts at_is =
    let len : length part ≡ (at + length part) - at = omega arith in
    let behind : drop at whole ≡ part ++ after = ap (drop at) parts ∙ drop_at front (part ++ after) at (sym at_is) in
    ap (λ (x : List ℕ). take ((at + length part) - at) x) behind ∙ take_at part after ((at + length part) - at) len

held : (kind : TokenKind) (text after name : List ℕ) → has_name kind ≡ true → HoldsName kind text after name → held_name kind text ≡ name
unfolding held_name
held kind text after name named holds = ap (λ b. cond b (name_in kind text) []) named ∙ sym (holds-name_in kind text after name holds)

-- ---- lines that begin with a word

-- a word that may not begin a call
no_call : (text word : List ℕ) (t : Token) (xs : List Token) → t.kind ≡ kinds.Word → text_of text t ≡ word → is_calling word ≡ false → begins_call text (t ∷ xs) ≡ false
unfolding begins_call is_before_call
no_call text word t [] k is none =
    let p = neither (bytes_eq word (codes "call")) (bytes_eq word (codes "tail") || (bytes_eq word (codes "musttail") || bytes_eq word (codes "notail"))) none in
    ap (λ k. is_kind k kinds.Word && bytes_eq (text_of text t) (codes "call")) k ∙ ap (λ (x : List ℕ). bytes_eq x (codes "call")) is ∙ p.0
no_call text word t (next ∷ xs) k is none =
    ap (λ k. is_kind k kinds.Word && bytes_eq (text_of text t) (codes "call") || ((is_kind k kinds.Word && bytes_eq (text_of text t) (codes "tail") || (is_kind k kinds.Word && bytes_eq (text_of text t) (codes "musttail") || is_kind k kinds.Word && bytes_eq (text_of text t) (codes "notail"))) && is_word (codes "call") text next)) k
    ∙ ap (λ (x : List ℕ). bytes_eq x (codes "call") || ((bytes_eq x (codes "tail") || (bytes_eq x (codes "musttail") || bytes_eq x (codes "notail"))) && is_word (codes "call") text next)) is
    ∙ shut (bytes_eq word (codes "call")) (bytes_eq word (codes "tail") || (bytes_eq word (codes "musttail") || bytes_eq word (codes "notail"))) (is_word (codes "call") text next) none
  where
    shut : (a b c : Bool) → (a || b) ≡ false → (a || (b && c)) ≡ false
    shut true b c e = e
    shut false true c e = absurd (true≢false e)
    shut false false c e = refl

no_record : (text : List ℕ) (t : Token) (xs : List Token) → t.kind ≡ kinds.Word → is_record text (t ∷ xs) ≡ false
unfolding is_record
no_record text t xs k = ap (λ k. is_kind k kinds.Hash && has_prefix (codes "#dbg_") (text_of text t)) k

-- no line without a meaning, by its record and its call
no_debug : (text : List ℕ) (line : List Token) → is_record text line ≡ false → (begins_call text line && names_debug text line) ≡ false → is_debug_line text line ≡ false
unfolding is_debug_line
no_debug text line one other = ap (λ b. b || (begins_call text line && names_debug text line)) one ∙ other

names_behind : (text : List ℕ) (t : Token) (ts : List Token) → t.kind ≡ kinds.Word → names_debug text (t ∷ ts) ≡ names_debug text ts
unfolding names_debug
names_behind text t ts k = ap (λ k. cond (is_kind k kinds.Global) (has_prefix (codes "llvm.dbg.") (held_name t.kind (text_of text t))) (names_debug text ts)) k

names_assume : (text : List ℕ) (g : Token) (ts : List Token) → g.kind ≡ kinds.Global → held_name g.kind (text_of text g) ≡ codes "llvm.assume" → names_debug text (g ∷ ts) ≡ false
unfolding names_debug has_prefix
names_assume text g ts k is = ap (λ k. cond (is_kind k kinds.Global) (has_prefix (codes "llvm.dbg.") (held_name g.kind (text_of text g))) (names_debug text ts)) k ∙ ap (has_prefix (codes "llvm.dbg.")) is

line_step : (line : ℕ) (t : Token) (ts : List Token) → t.line ≡ line → line_len line (t ∷ ts) ≡ suc (line_len line ts)
unfolding line_len
line_step line t ts here = ap (λ (l : ℕ). cond (eqb l line) (1 + line_len line ts) 0) here ∙ ap (λ b. cond b (1 + line_len line ts) 0) (eq-eqb line line refl) ∙ omega arith

first_word : (whole word : List ℕ) (t : Token) (ts : List Token) (line : ℕ) → t.line ≡ line → t.kind ≡ kinds.Word → text_of whole t ≡ word → is_calling word ≡ false → is_debug_line whole (take (line_len line (t ∷ ts)) (t ∷ ts)) ≡ false
first_word whole word t ts line here k is none =
    ap (λ (n : ℕ). is_debug_line whole (take n (t ∷ ts))) (line_step line t ts here)
    ∙ no_debug whole (t ∷ take (line_len line ts) ts) (no_record whole t (take (line_len line ts) ts) k) (ap (λ b. b && names_debug whole (t ∷ take (line_len line ts) ts)) (no_call whole word t (take (line_len line ts) ts) k is none))

-- the call of an assume
assume_words : (whole : List ℕ) (t v g : Token) (ts : List Token) (line : ℕ) → t.line ≡ line → v.line ≡ line → g.line ≡ line → t.kind ≡ kinds.Word → v.kind ≡ kinds.Word → g.kind ≡ kinds.Global → held_name g.kind (text_of whole g) ≡ codes "llvm.assume"
    → is_debug_line whole (take (line_len line (t ∷ v ∷ g ∷ ts)) (t ∷ v ∷ g ∷ ts)) ≡ false
assume_words whole t v g ts line tl vl gl tk vk gk is =
    let n : ℕ = line_len line ts in
    let three : line_len line (t ∷ v ∷ g ∷ ts) ≡ suc (suc (suc n)) = line_step line t (v ∷ g ∷ ts) tl ∙ ap (λ (m : ℕ). suc m) (line_step line v (g ∷ ts) vl ∙ ap (λ (m : ℕ). suc m) (line_step line g ts gl)) in
    let names : names_debug whole (t ∷ v ∷ g ∷ take n ts) ≡ false = names_behind whole t (v ∷ g ∷ take n ts) tk ∙ names_behind whole v (g ∷ take n ts) vk ∙ names_assume whole g (take n ts) gk is in
    ap (λ (m : ℕ). is_debug_line whole (take m (t ∷ v ∷ g ∷ ts))) three
    ∙ no_debug whole (t ∷ v ∷ g ∷ take n ts) (no_record whole t (v ∷ g ∷ take n ts) tk) (ap (λ b. begins_call whole (t ∷ v ∷ g ∷ take n ts) && b) names ∙ and_false (begins_call whole (t ∷ v ∷ g ∷ take n ts)))

-- behind a line that isn't without a meaning, or in it
not_both : (line b : ℕ) (debug : Bool) → debug ≡ false → (not (eqb line b) && debug) ≡ false
not_both line b debug none = ap (λ c. not (eqb line b) && c) none ∙ and_false (not (eqb line b))

calm_assume : (whole front : List ℕ) (more : List Piece) (b line at : ℕ) → whole ≡ front ++ (codes "call" ++ written (assumes more)) → at ≡ length front → Stand false (assumes more) → AreNamed (assumes more)
    → begins_debug_line whole b (token kinds.Word (codes "call") line at) (tokens_of line (at + length (codes "call")) (assumes more)) ≡ false
calm_assume whole front more b line at parts at_is stand named =
    let name : List ℕ = codes "llvm.assume" in
    let text : List ℕ = 64 ∷ name_text name in
    let place : ℕ = at + length (codes "call") + 1 + length (codes "void") + 1 in
    let long : length (front ++ codes "call void ") ≡ length front + 10 = length-append front (codes "call void ") in
    let there : place ≡ length (front ++ codes "call void ") = omega (arith, long, at_is) in
    let is : text_of whole (token kinds.Global text line place) ≡ text = slice whole (front ++ codes "call void ") text (written more) kinds.Global line place (parts ∙ sym (append_assoc front (codes "call void ") (text ++ written more))) there in
    let holds = global_holds name (written more) named.1.1.1.0 (ends_piece (Global name) more refl stand.3.3.3.1) in
    not_both line b _ (assume_words whole (token kinds.Word (codes "call") line at) (token kinds.Word (codes "void") line (at + length (codes "call") + 1)) (token kinds.Global text line place) (tokens_of line (place + length text) more) line refl refl refl refl refl refl
    (ap (held_name kinds.Global) is ∙ held kinds.Global text (written more) name refl holds))

calm : (whole word front : List ℕ) (ps : List Piece) (b line at : ℕ) (fresh : Bool) → whole ≡ front ++ (word ++ written ps) → at ≡ length front → (fresh ≡ false → b ≡ line) → IsCalm fresh word ps → Stand false ps → AreNamed ps
    → begins_debug_line whole b (token kinds.Word word line at) (tokens_of line (at + length word) ps) ≡ false
calm whole word front ps b line at false parts at_is same is stand named =
    let t = token kinds.Word word line at in
    let ts = tokens_of line (at + length word) ps in
    ap (λ c. not c && is_debug_line whole (take (line_len line (t ∷ ts)) (t ∷ ts))) (eq-eqb line b (sym (same refl)))
calm whole word front ps b line at true parts at_is same (inl none) stand named =
    let t = token kinds.Word word line at in
    let ts = tokens_of line (at + length word) ps in
    not_both line b (is_debug_line whole (take (line_len line (t ∷ ts)) (t ∷ ts))) (first_word whole word t ts line refl refl (slice whole front word (written ps) kinds.Word line at parts at_is) none)
calm whole word front ps b line at true parts at_is same (inr (is, (more, e))) stand named =
    subst (λ (w : List ℕ). begins_debug_line whole b (token kinds.Word w line at) (tokens_of line (at + length w) ps) ≡ false) (sym is)
    (subst (λ (qs : List Piece). begins_debug_line whole b (token kinds.Word (codes "call") line at) (tokens_of line (at + length (codes "call")) qs) ≡ false) (sym e)
    (calm_assume whole front more b line at (parts ∙ ap (λ (w : List ℕ). front ++ (w ++ written ps)) is ∙ ap (λ (qs : List Piece). front ++ (codes "call" ++ written qs)) e) at_is (subst (Stand false) e stand) (subst AreNamed e named)))

-- ---- what is seen

-- the text up to the end of a part
module _ (whole front part after : List ℕ) (at : ℕ) (parts : whole ≡ front ++ (part ++ after)) (at_is : at ≡ length front) where
  farther : whole ≡ (front ++ part) ++ after
  farther = parts ∙ sym (append_assoc front part after)

  end_is : at + length part ≡ length (front ++ part)
  end_is = ap (λ (n : ℕ). n + length part) at_is ∙ sym (length-append front part)

  held_there : (kind : TokenKind) (name : List ℕ) (line : ℕ) → has_name kind ≡ true → HoldsName kind part after name → held_name kind (text_of whole (token kind part line at)) ≡ name
  held_there kind name line named holds = ap (held_name kind) (slice whole front part after kind line at parts at_is) ∙ held kind part after name named holds

pub view : (whole : List ℕ) (pieces : List Piece) (front : List ℕ) (b line at : ℕ) (fresh : Bool) → whole ≡ front ++ written pieces → at ≡ length front → (fresh ≡ false → b ≡ line) → Stand fresh pieces → AreNamed pieces
    → ShowAll pieces (seen whole b (tokens_of line at pieces)) []
unfolding seen debug_at
view whole [] front b line at fresh parts a same stand named = refl
view whole (Blank ∷ ps) front b line at fresh parts a same stand named =
    (_, refl, view whole ps (front ++ 32 ∷ []) b line (at + 1) fresh (farther whole front (32 ∷ []) (written ps) at parts a) (end_is whole front (32 ∷ []) (written ps) at parts a) same stand.3 named.1)
view whole (LineEnd ∷ ps) front b line at fresh parts a same stand named =
    (_, refl, view whole ps (front ++ 10 ∷ []) b (line + 1) (at + 1) true (farther whole front (10 ∷ []) (written ps) at parts a) (end_is whole front (10 ∷ []) (written ps) at parts a) (λ e. absurd (true≢false e)) stand.3 named.1)
view whole (Word w ∷ ps) front b line at fresh parts a same stand named = (
  _,
  ((_, refl, refl, slice whole front w (written ps) kinds.Word line at parts a), calm whole w front ps b line at fresh parts a same stand.2 stand.3 named.1),
  view whole ps (front ++ w) line line (at + length w) false (farther whole front w (written ps) at parts a) (end_is whole front w (written ps) at parts a) (λ e. refl) stand.3 named.1,
)
view whole (Bits w ∷ ps) front b line at fresh parts a same stand named =
    let text : List ℕ = type_word w in (
      _,
      (_, refl, refl, slice whole front text (written ps) kinds.Word line at parts a),
      view whole ps (front ++ text) line line (at + length text) false (farther whole front text (written ps) at parts a) (end_is whole front text (written ps) at parts a) (λ e. refl) stand.3 named.1,
    )
view whole (Number n ∷ ps) front b line at fresh parts a same stand named =
    let text : List ℕ = decimal n in (
      _,
      (_, refl, refl, slice whole front text (written ps) kinds.Number line at parts a),
      view whole ps (front ++ text) line line (at + length text) false (farther whole front text (written ps) at parts a) (end_is whole front text (written ps) at parts a) (λ e. refl) stand.3 named.1,
    )
view whole (Local n ∷ ps) front b line at fresh parts a same stand named =
    let text : List ℕ = 37 ∷ name_text n in (
      _,
      (_, refl, refl, held_there whole front text (written ps) at parts a kinds.Local n line refl (local_holds n (written ps) named.0 (ends_piece (Local n) ps refl stand.1))),
      view whole ps (front ++ text) line line (at + length text) false (farther whole front text (written ps) at parts a) (end_is whole front text (written ps) at parts a) (λ e. refl) stand.3 named.1,
    )
view whole (Global n ∷ ps) front b line at fresh parts a same stand named =
    let text : List ℕ = 64 ∷ name_text n in (
      _,
      (_, refl, refl, held_there whole front text (written ps) at parts a kinds.Global n line refl (global_holds n (written ps) named.0 (ends_piece (Global n) ps refl stand.1))),
      view whole ps (front ++ text) line line (at + length text) false (farther whole front text (written ps) at parts a) (end_is whole front text (written ps) at parts a) (λ e. refl) stand.3 named.1,
    )
view whole (Label n ∷ ps) front b line at fresh parts a same stand named =
    let text : List ℕ = name_text n ++ 58 ∷ [] in (
      _,
      (_, refl, refl, held_there whole front text (written ps) at parts a kinds.Label n line refl (label_holds n (written ps) named.0)),
      view whole ps (front ++ text) line line (at + length text) false (farther whole front text (written ps) at parts a) (end_is whole front text (written ps) at parts a) (λ e. refl) stand.3 named.1,
    )
view whole (Intrinsic word w ∷ ps) front b line at fresh parts a same stand named =
    let text : List ℕ = 64 ∷ called_name word w in (
      _,
      (_, refl, refl, held_there whole front text (written ps) at parts a kinds.Global (called_name word w) line refl (intrinsic_holds word w (written ps) stand.0 (ends_piece (Intrinsic word w) ps refl stand.1))),
      view whole ps (front ++ text) line line (at + length text) false (farther whole front text (written ps) at parts a) (end_is whole front text (written ps) at parts a) (λ e. refl) stand.3 named.1,
    )
view whole (Mark byte ∷ ps) front b line at fresh parts a same stand named =
    let text : List ℕ = byte ∷ [] in (
      _,
      (_, refl, refl, slice whole front text (written ps) kinds.Mark line at parts a),
      view whole ps (front ++ text) line line (at + length text) false (farther whole front text (written ps) at parts a) (end_is whole front text (written ps) at parts a) (λ e. refl) stand.3 named.1,
    )

pub pieces_seen : (pieces : List Piece) (first before : ℕ) → Stand true pieces → AreNamed pieces → ShowAll pieces (seen (written pieces) before (tokens_of first 0 pieces)) []
pieces_seen pieces first before stand named = view (written pieces) pieces [] before first 0 true refl refl (λ e. absurd (true≢false e)) stand named
