-- The canonical text has the tokens of its pieces, and they spell its tree.
use Rattle.std.proofs.Common.{◌≡◌, ◌<◌, ◌≤◌, ◌+◌, ◌-◌, ◌^◌, ℕ, zero, suc, true, List, [], ◌∷◌, length, take, drop, refl, ap, arith}
use Rattle.std.specs.Prelude.{All}
use Rattle.std.proofs.lemmas.List.Elements.{All-head, All-tail}
use Rattle.ll_token.specs.declared.token.Token.{Token}
use Rattle.ll_token.specs.Scan.{AreTokens, AreInOrder, IsTokenOf}
use Rattle.ll_token.proofs.ScanLaws.{in_order, each_is}
use Rattle.ll_tree.specs.declared.func.Func.{Func}
use Rattle.ll_tree.specs.Pieces.{Piece, written}
use Rattle.ll_tree.specs.Text.{canonical, pieces_of}
use Rattle.ll_grammar.specs.Tokens.{Tok, seen}
use Rattle.ll_grammar.specs.Spells.{SpellsFunction}
use Rattle.canonical_text.specs.Shown.{ShowAll, open_pieces}
use Rattle.canonical_text.specs.Named.{AreBytes, AreNamed, AreReal}
use Rattle.canonical_text.proofs.HeaderLaws.{function_again}
use Rattle.canonical_text.proofs.ScanLaws.{tokens_of, Stand, pieces_scan}
use Rattle.canonical_text.proofs.ViewLaws.{pieces_seen}
use Rattle.canonical_text.proofs.NamedLaws.{function_named}
use Rattle.canonical_text.proofs.StandLaws.{function_stands, open_stands}

have_tokens : (pieces : List Piece) (first_line before : ℕ) → Stand true pieces → AreNamed pieces
    → (tokens : List Token) × AreTokens (written pieces) first_line tokens × ShowAll pieces (seen (written pieces) before tokens) []
have_tokens pieces first_line before stand named =
    (tokens_of first_line 0 pieces, pieces_scan first_line pieces true stand named, pieces_seen pieces first_line before stand named)

pub whole_tokens : (func : Func) (given : List Tok) (first_line before : ℕ) → SpellsFunction func given → AreNamed (pieces_of func)
    → (tokens : List Token) × AreTokens (canonical func) first_line tokens × ShowAll (pieces_of func) (seen (canonical func) before tokens) []
whole_tokens func given first_line before spells named = have_tokens (pieces_of func) first_line before (function_stands func given spells) named

pub open_tokens : (func : Func) (given : List Tok) (first_line before : ℕ) → SpellsFunction func given → AreNamed (open_pieces func)
    → (tokens : List Token) × AreTokens (written (open_pieces func)) first_line tokens × ShowAll (open_pieces func) (seen (written (open_pieces func)) before tokens) []
open_tokens func given first_line before spells named = have_tokens (open_pieces func) first_line before (open_stands func given spells) named

pub spelled_back : (func : Func) (given : List Tok) (first_line before : ℕ) → SpellsFunction func given → AreNamed (open_pieces func)
    → (tokens : List Token) × AreTokens (written (open_pieces func)) first_line tokens × SpellsFunction func (seen (written (open_pieces func)) before tokens)
spelled_back func given first_line before spells named =
    let (tokens, are, shown) = open_tokens func given first_line before spells named in
    (tokens, are, function_again func given (seen (written (open_pieces func)) before tokens) spells shown)

-- ---- of a text

pub take_bytes : (n : ℕ) (bytes : List ℕ) → AreBytes bytes → AreBytes (take n bytes)
take_bytes zero bytes are = tt
take_bytes (suc n) [] are = tt
take_bytes (suc n) (byte ∷ bytes) (is, are) = (is, take_bytes n bytes are)

pub drop_bytes : (n : ℕ) (bytes : List ℕ) → AreBytes bytes → AreBytes (drop n bytes)
drop_bytes zero bytes are = are
drop_bytes (suc n) [] are = tt
drop_bytes (suc n) (byte ∷ bytes) (is, are) = drop_bytes n bytes are

seen_real : (text : List ℕ) (before : ℕ) (tokens : List Token) → AreBytes text → All (IsTokenOf text) tokens → AreReal (seen text before tokens)
unfolding seen
seen_real text before [] bytes each = tt
seen_real text before (t ∷ ts) bytes each =
    let is = All-head (IsTokenOf text) t ts each in
    ((take_bytes (t.end - t.start) (drop t.start text) (drop_bytes t.start text bytes), (drop t.end text, is.form)), seen_real text t.line ts bytes (All-tail (IsTokenOf text) t ts each))

seen_length : (text : List ℕ) (before : ℕ) (tokens : List Token) → length (seen text before tokens) ≡ length tokens
unfolding seen
seen_length text before [] = refl
seen_length text before (t ∷ ts) = ap (λ (n : ℕ). suc n) (seen_length text t.line ts)

-- no text has more tokens than bytes
few_tokens : (from to : ℕ) (tokens : List Token) → AreInOrder from to tokens → from + length tokens ≤ to
few_tokens from to [] order = omega (arith, order)
few_tokens from to (t ∷ ts) (later, some, order) = omega (arith, later, some, few_tokens t.end to ts order)

-- each name of a tree that the tokens of a text spell has a byte
pub text_named : (text : List ℕ) (line before : ℕ) (tokens : List Token) (func : Func) → AreBytes text → length text < 2 ^ 64 → AreTokens text line tokens → SpellsFunction func (seen text before tokens) → AreNamed (open_pieces func)
text_named text line before tokens func bytes few (read, rest, scans, last) spells =
    let real = seen_real text before tokens bytes (each_is text line [] text tokens read rest refl scans) in
    let fewer = few_tokens 0 (length text) tokens (in_order line [] text tokens read rest (length text) (omega arith) scans) in
    let count : length (seen text before tokens) < 2 ^ 64 = omega (arith, few, fewer, seen_length text before tokens) in
    function_named func (seen text before tokens) count real spells

pub read_back : (text : List ℕ) (line again_line before again_before : ℕ) (tokens : List Token) (func : Func) → AreBytes text → length text < 2 ^ 64 → AreTokens text line tokens → SpellsFunction func (seen text before tokens)
    → (again : List Token) × AreTokens (written (open_pieces func)) again_line again × SpellsFunction func (seen (written (open_pieces func)) again_before again)
read_back text line again_line before again_before tokens func bytes few are spells =
    spelled_back func (seen text before tokens) again_line again_before spells (text_named text line before tokens func bytes few are spells)
