-- The bytes of pieces have these tokens.
use Rattle.std.proofs.Common.{◌≡◌, ◌⊎◌, ◌+◌, ℕ, Bool, true, false, ◌&&◌, ◌||◌, List, [], ◌∷◌, ◌++◌, length, refl, sym, ap, ◌∙◌, subst, inl, arith, append_assoc, append-nil, length-append}
use Rattle.std.specs.Prelude.{codes}
use Rattle.std.specs.List.{list_all}
use Rattle.std.specs.Str.{bytes_eq}
use Rattle.std.specs.Fmt.{decimal}
use Rattle.std.proofs.lemmas.Bool.{and_from}
use Rattle.std.proofs.lemmas.List.Folds.{list_all-append}
use Rattle.ll_token.specs.declared.token.Token.{Token}
use Rattle.ll_token.specs.declared.token.TokenKind.{TokenKind}
use Rattle.ll_token.specs.declared.token.TokenKind.TheVariants as kinds
use Rattle.ll_token.specs.Bytes.{is_space, line_ends}
use Rattle.ll_token.specs.Lexemes.{IsToken}
use Rattle.ll_token.specs.Scan.{IsGap, nothing, space, IsLastGap, StartsWith, Scans, AreTokens}
use Rattle.ll_token.proofs.ListLaws.{line_ends-append}
use Rattle.ll_token.proofs.ScanLaws.{starts_end}
use Rattle.ll_tree.specs.Naming.{name_text}
use Rattle.ll_tree.specs.Words.{type_word}
use Rattle.ll_tree.specs.Pieces.{Piece, Word, Bits, Number, Local, Global, Label, Intrinsic, Mark, Blank, LineEnd, written}
use Rattle.ll_grammar.proofs.TokenLaws.{both_true}
use Rattle.canonical_text.specs.Named.{AreNamed}
use Rattle.canonical_text.proofs.TokenLaws.{IsLexed, are_apart, called_name, ends_piece, word_token, bits_token, number_token, local_holds, global_holds, label_holds, intrinsic_holds}

abbrev pub token : TokenKind → List ℕ → (line at : ℕ) → Token
token kind text line at = record { kind = kind; start = at; end = at + length text; line = line }

-- the tokens of pieces that begin at this place in this line
abbrev pub tokens_of : (line at : ℕ) → List Piece → List Token
tokens_of line at [] = []
tokens_of line at (Blank ∷ ps) = tokens_of line (at + 1) ps
tokens_of line at (LineEnd ∷ ps) = tokens_of (line + 1) (at + 1) ps
tokens_of line at (Word w ∷ ps) = token kinds.Word w line at ∷ tokens_of line (at + length w) ps
tokens_of line at (Bits w ∷ ps) = token kinds.Word (type_word w) line at ∷ tokens_of line (at + length (type_word w)) ps
tokens_of line at (Number n ∷ ps) = token kinds.Number (decimal n) line at ∷ tokens_of line (at + length (decimal n)) ps
tokens_of line at (Local n ∷ ps) = token kinds.Local (37 ∷ name_text n) line at ∷ tokens_of line (at + length (37 ∷ name_text n)) ps
tokens_of line at (Global n ∷ ps) = token kinds.Global (64 ∷ name_text n) line at ∷ tokens_of line (at + length (64 ∷ name_text n)) ps
tokens_of line at (Label n ∷ ps) = token kinds.Label (name_text n ++ 58 ∷ []) line at ∷ tokens_of line (at + length (name_text n ++ 58 ∷ [])) ps
tokens_of line at (Intrinsic word w ∷ ps) = token kinds.Global (64 ∷ called_name word w) line at ∷ tokens_of line (at + length (64 ∷ called_name word w)) ps
tokens_of line at (Mark byte ∷ ps) = token kinds.Mark (byte ∷ []) line at ∷ tokens_of line (at + 1) ps

-- ---- pieces that stand well

-- the words that may begin a call
abbrev pub is_calling : List ℕ → Bool
is_calling word = bytes_eq word (codes "call") || (bytes_eq word (codes "tail") || (bytes_eq word (codes "musttail") || bytes_eq word (codes "notail")))

-- ` void @llvm.assume` and more
abbrev pub assumes : List Piece → List Piece
assumes more = Blank ∷ Word (codes "void") ∷ Blank ∷ Global (codes "llvm.assume") ∷ more

-- A word at the front of a line begins no call, but for that of an assume.
abbrev pub IsCalm : (fresh : Bool) → List ℕ → List Piece → Type 0
IsCalm false word pieces = Unit {0}
IsCalm true word pieces = (is_calling word ≡ false) ⊎ ((word ≡ codes "call") × ((more : List Piece) × (pieces ≡ assumes more)))

abbrev pub IsCalmAt : (fresh : Bool) → Piece → List Piece → Type 0
IsCalmAt fresh (Word word) pieces = IsCalm fresh word pieces
IsCalmAt fresh (Bits w) pieces = Unit {0}
IsCalmAt fresh (Number n) pieces = Unit {0}
IsCalmAt fresh (Local n) pieces = Unit {0}
IsCalmAt fresh (Global n) pieces = Unit {0}
IsCalmAt fresh (Label n) pieces = Unit {0}
IsCalmAt fresh (Intrinsic word w) pieces = Unit {0}
IsCalmAt fresh (Mark byte) pieces = Unit {0}
IsCalmAt fresh Blank pieces = Unit {0}
IsCalmAt fresh LineEnd pieces = Unit {0}

-- whether no token of the line stands before what follows the piece
abbrev pub fresh_behind : Bool → Piece → Bool
fresh_behind fresh (Word word) = false
fresh_behind fresh (Bits w) = false
fresh_behind fresh (Number n) = false
fresh_behind fresh (Local n) = false
fresh_behind fresh (Global n) = false
fresh_behind fresh (Label n) = false
fresh_behind fresh (Intrinsic word w) = false
fresh_behind fresh (Mark byte) = false
fresh_behind fresh Blank = fresh
fresh_behind fresh LineEnd = true

abbrev pub Stand : (fresh : Bool) → List Piece → Type 0
Stand fresh [] = Unit {0}
Stand fresh (piece ∷ pieces) = IsLexed piece × (are_apart piece pieces ≡ true) × IsCalmAt fresh piece pieces × Stand (fresh_behind fresh piece) pieces

-- ---- scanning

abbrev Scanned : (first_line : ℕ) (before bytes : List ℕ) → List Token → Type 0
Scanned first_line before bytes tokens = (read rest : List ℕ) × Scans first_line before bytes tokens read rest × IsLastGap rest

spaces_gap : (gap : List ℕ) → list_all is_space gap ≡ true → IsGap gap
spaces_gap [] all = nothing
spaces_gap (byte ∷ gap) all = let p = both_true (is_space byte) (list_all is_space gap) all in space byte gap p.0 (spaces_gap gap p.1)

-- one more token
scan_token : (first : ℕ) (kind : TokenKind) (text after before gap bytes : List ℕ) (line at : ℕ) (tokens : List Token) → bytes ≡ gap ++ (text ++ after) → at ≡ length before + length gap → line ≡ first + (line_ends before + line_ends gap)
    → list_all is_space gap ≡ true → IsToken kind text after → ((end : List ℕ) → at + length text ≡ length end + 0 → line ≡ first + (line_ends end + 0) → Scanned first end after tokens) → Scanned first before bytes (token kind text line at ∷ tokens)
scan_token first kind text after before gap bytes line at tokens parts at_is line_is spaces is onward =
    let end : List ℕ = (before ++ gap) ++ text in
    let place : at ≡ length (before ++ gap) = at_is ∙ sym (length-append before gap) in
    let here : line ≡ first + line_ends (before ++ gap) = line_is ∙ ap (λ (n : ℕ). first + n) (sym (line_ends-append before gap)) in
    let starts : StartsWith first before bytes (token kind text line at) end after = record {
      gap = gap;
      text = text;
      whole = parts;
      blank = spaces_gap gap spaces;
      is_token = record { start = place; end = ap (λ (n : ℕ). n + length text) place; line = here; form = is };
      up_to = refl;
    } in
    let facts = starts_end first before bytes (token kind text line at) end after starts in
    let more = onward end (omega (arith, facts.0)) (omega (arith, facts.1)) in
    (more.0, more.1, (end, after, starts, more.2), more.3)

-- a gap with a byte more
longer_gap : (gap rest bytes : List ℕ) (byte : ℕ) → bytes ≡ gap ++ (byte ∷ rest) → bytes ≡ (gap ++ byte ∷ []) ++ rest
longer_gap gap rest bytes byte parts = parts ∙ sym (append_assoc gap (byte ∷ []) rest)

all_spaces : (gap : List ℕ) (byte : ℕ) → list_all is_space gap ≡ true → is_space byte ≡ true → list_all is_space (gap ++ byte ∷ []) ≡ true
all_spaces gap byte all is = list_all-append is_space gap (byte ∷ []) ∙ and_from _ _ all (ap (λ b. b && true) is)

pub scan : (first : ℕ) (pieces : List Piece) (before gap bytes : List ℕ) (line at : ℕ) (fresh : Bool) → bytes ≡ gap ++ written pieces → at ≡ length before + length gap → line ≡ first + (line_ends before + line_ends gap)
    → list_all is_space gap ≡ true → Stand fresh pieces → AreNamed pieces → Scanned first before bytes (tokens_of line at pieces)
scan first [] before gap bytes line at fresh parts a l spaces stand named = (before, bytes, (refl, refl), inl (subst IsGap (sym (parts ∙ append-nil gap)) (spaces_gap gap spaces)))
scan first (Blank ∷ ps) before gap bytes line at fresh parts a l spaces stand named =
    let lines : line_ends (gap ++ 32 ∷ []) ≡ line_ends gap + 0 = line_ends-append gap (32 ∷ []) in
    scan first ps before (gap ++ 32 ∷ []) bytes line (at + 1) fresh (longer_gap gap (written ps) bytes 32 parts) (omega (arith, a, length-append gap (32 ∷ []))) (omega (arith, l, lines)) (all_spaces gap 32 spaces refl) stand.3 named.1
scan first (LineEnd ∷ ps) before gap bytes line at fresh parts a l spaces stand named =
    let lines : line_ends (gap ++ 10 ∷ []) ≡ line_ends gap + 1 = line_ends-append gap (10 ∷ []) in
    scan first ps before (gap ++ 10 ∷ []) bytes (line + 1) (at + 1) true (longer_gap gap (written ps) bytes 10 parts) (omega (arith, a, length-append gap (10 ∷ []))) (omega (arith, l, lines)) (all_spaces gap 10 spaces refl) stand.3 named.1
scan first (Word w ∷ ps) before gap bytes line at fresh parts a l spaces stand named =
    scan_token first kinds.Word w (written ps) before gap bytes line at _ parts a l spaces (word_token w (written ps) stand.0 (ends_piece (Word w) ps refl stand.1))
    (λ end a l. scan first ps end [] (written ps) line (at + length w) false refl a l refl stand.3 named.1)
scan first (Bits w ∷ ps) before gap bytes line at fresh parts a l spaces stand named =
    scan_token first kinds.Word (type_word w) (written ps) before gap bytes line at _ parts a l spaces (bits_token w (written ps) stand.0 (ends_piece (Bits w) ps refl stand.1))
    (λ end a l. scan first ps end [] (written ps) line (at + length (type_word w)) false refl a l refl stand.3 named.1)
scan first (Number n ∷ ps) before gap bytes line at fresh parts a l spaces stand named =
    scan_token first kinds.Number (decimal n) (written ps) before gap bytes line at _ parts a l spaces (number_token n (written ps) stand.0 (ends_piece (Number n) ps refl stand.1))
    (λ end a l. scan first ps end [] (written ps) line (at + length (decimal n)) false refl a l refl stand.3 named.1)
scan first (Local n ∷ ps) before gap bytes line at fresh parts a l spaces stand named =
    scan_token first kinds.Local (37 ∷ name_text n) (written ps) before gap bytes line at _ parts a l spaces (n, local_holds n (written ps) named.0 (ends_piece (Local n) ps refl stand.1))
    (λ end a l. scan first ps end [] (written ps) line (at + length (37 ∷ name_text n)) false refl a l refl stand.3 named.1)
scan first (Global n ∷ ps) before gap bytes line at fresh parts a l spaces stand named =
    scan_token first kinds.Global (64 ∷ name_text n) (written ps) before gap bytes line at _ parts a l spaces (n, global_holds n (written ps) named.0 (ends_piece (Global n) ps refl stand.1))
    (λ end a l. scan first ps end [] (written ps) line (at + length (64 ∷ name_text n)) false refl a l refl stand.3 named.1)
scan first (Label n ∷ ps) before gap bytes line at fresh parts a l spaces stand named =
    scan_token first kinds.Label (name_text n ++ 58 ∷ []) (written ps) before gap bytes line at _ parts a l spaces (n, label_holds n (written ps) named.0)
    (λ end a l. scan first ps end [] (written ps) line (at + length (name_text n ++ 58 ∷ [])) false refl a l refl stand.3 named.1)
scan first (Intrinsic word w ∷ ps) before gap bytes line at fresh parts a l spaces stand named =
    scan_token first kinds.Global (64 ∷ called_name word w) (written ps) before gap bytes line at _ parts a l spaces (called_name word w, intrinsic_holds word w (written ps) stand.0 (ends_piece (Intrinsic word w) ps refl stand.1))
    (λ end a l. scan first ps end [] (written ps) line (at + length (64 ∷ called_name word w)) false refl a l refl stand.3 named.1)
scan first (Mark byte ∷ ps) before gap bytes line at fresh parts a l spaces stand named =
    scan_token first kinds.Mark (byte ∷ []) (written ps) before gap bytes line at _ parts a l spaces (byte, refl, stand.0)
    (λ end a l. scan first ps end [] (written ps) line (at + 1) false refl a l refl stand.3 named.1)

pub pieces_scan : (first : ℕ) (pieces : List Piece) (fresh : Bool) → Stand fresh pieces → AreNamed pieces → AreTokens (written pieces) first (tokens_of first 0 pieces)
pieces_scan first pieces fresh stand named = scan first pieces [] [] (written pieces) first 0 fresh refl refl (omega arith) refl stand named
