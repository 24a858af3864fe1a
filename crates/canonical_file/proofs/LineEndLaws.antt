-- No line ends within a line's pieces; the lines of pieces.
use Rattle.std.proofs.Common.{◌≡◌, ◌⊎◌, ◌<◌, ◌≤◌, ◌+◌, ℕ, zero, suc, Bool, true, false, cond, not, ◌&&◌, ◌||◌, eqb, List, [], ◌∷◌, ◌++◌, length, get_or, take, refl, sym, ap, ◌∙◌, subst, inl, inr, arith, true≢false, append_assoc, append-nil, length-append}
use Rattle.std.specs.Prelude.{codes}
use Rattle.std.specs.List.{list_all, flat_map}
use Rattle.std.specs.Str.{bytes_eq}
use Rattle.std.proofs.lemmas.Bool.{and_from}
use Rattle.std.proofs.lemmas.Grind.{flat_map-append}
use Rattle.std.proofs.lemmas.List.Folds.{list_all-append}
use Rattle.ll_token.specs.Bytes.{is_run_byte, is_inner, is_mark}
use Rattle.ll_token.specs.Names.{Writes}
use Rattle.ll_token.proofs.ListLaws.{all_weaker, apart}
use Rattle.ll_tree.specs.Naming.{is_run, name_text}
use Rattle.ll_tree.specs.Words.{type_word}
use Rattle.ll_tree.specs.Pieces.{Piece, Word, Bits, Number, Local, Global, Label, Intrinsic, Mark, Blank, LineEnd, piece_text, written}
use Rattle.ll_tree.specs.Text.{line}
use Rattle.ll_grammar.proofs.TokenLaws.{both_true, same_bytes}
use Rattle.ll_grammar.proofs.FlagLaws.{not_true_is}
use Rattle.canonical_text.specs.Named.{IsName, IsNamed, AreNamed}
use Rattle.canonical_text.proofs.NameLaws.{name_writes}
use Rattle.canonical_text.proofs.TokenLaws.{IsLexed, type_run, decimal_run, called_name, called_run}
use Rattle.canonical_text.proofs.LineLaws.{is_line_end, IsPlaced, IsLine}
use Rattle.ll_reader.specs.FileLines.{onto_first, lines, line_start, is_define, is_closing, has_prefix}

-- ---- bytes of a line

abbrev pub stays : ℕ → Bool
stays byte = not (eqb byte 10)

run_stays : (b : ℕ) → is_run_byte b ≡ true → stays b ≡ true
run_stays b is = ap not (apart is_run_byte b 10 is refl)

inner_stays : (b : ℕ) → is_inner b ≡ true → stays b ≡ true
inner_stays b is = ap not (apart is_inner b 10 is refl)

writes_stay : (body after name : List ℕ) → Writes body after name → list_all stays body ≡ true
writes_stay body after name (inl w) = all_weaker is_run_byte stays body run_stays w.0.each
writes_stay body after name (inr q) =
    let inside : list_all stays (q.inner ++ 34 ∷ []) ≡ true = list_all-append stays q.inner (34 ∷ []) ∙ and_from _ _ (all_weaker is_inner stays q.inner inner_stays q.in_line) refl in
    subst (λ (x : List ℕ). list_all stays x ≡ true) (sym q.quotes) inside

name_stays : (name : List ℕ) → IsName name → list_all stays (name_text name) ≡ true
name_stays name is = writes_stay (name_text name) [] name (name_writes name [] is.1 refl)

piece_stays : (piece : Piece) → IsPlaced piece → IsNamed piece → list_all stays (piece_text piece) ≡ true
piece_stays (Word word) placed named = all_weaker is_run_byte stays word run_stays (both_true _ _ placed.0.0).1
piece_stays (Bits w) placed named = all_weaker is_run_byte stays (type_word w) run_stays (type_run w placed.0)
piece_stays (Number n) placed named = all_weaker is_run_byte stays (piece_text (Number n)) run_stays (decimal_run n placed.0)
piece_stays (Local n) placed named = name_stays n named
piece_stays (Global n) placed named = name_stays n named
piece_stays (Label n) placed named = list_all-append stays (name_text n) (58 ∷ []) ∙ and_from _ _ (name_stays n named) refl
piece_stays (Intrinsic word w) placed named = all_weaker is_run_byte stays (called_name word w) run_stays (called_run word w placed.0)
piece_stays (Mark byte) placed named = ap (λ b. not b && true) (apart is_mark byte 10 placed.0 refl)
piece_stays Blank placed named = refl
piece_stays LineEnd placed named = absurd (true≢false placed.1)

pub line_stays : (pieces : List Piece) → IsLine pieces → AreNamed pieces → list_all stays (written pieces) ≡ true
line_stays [] is named = refl
line_stays (piece ∷ pieces) (placed, apart, is) named =
    list_all-append stays (piece_text piece) (written pieces) ∙ and_from _ _ (piece_stays piece placed named.0) (line_stays pieces is named.1)

-- ---- the first line of a text

pub lines_line : (bytes rest : List ℕ) → list_all stays bytes ≡ true → lines (bytes ++ 10 ∷ rest) ≡ (bytes ++ 10 ∷ []) ∷ lines rest
unfolding lines
lines_line [] rest all = refl
lines_line (byte ∷ bytes) rest all =
    let p = both_true (stays byte) (list_all stays bytes) all in
    let more = lines_line bytes rest p.1 in
    ap (λ b. cond b ((10 ∷ []) ∷ lines (bytes ++ 10 ∷ rest)) (onto_first byte (lines (bytes ++ 10 ∷ rest)))) (not_true_is (eqb byte 10) p.0)
    ∙ ap (onto_first byte) more

-- ---- lines in a row

-- These lines neither define nor close a function.
abbrev pub AreInner : List (List ℕ) → Type 0
AreInner [] = Unit {0}
AreInner (l ∷ ls) = (is_define l ≡ false) × (is_closing l ≡ false) × AreInner ls

abbrev pub total : List (List ℕ) → ℕ
total [] = 0
total (l ∷ ls) = length l + total ls

-- The bytes are such lines, whatever follows.
abbrev pub AreLines : List ℕ → List (List ℕ) → Type 0
AreLines bytes ls = AreInner ls × (total ls ≡ length bytes) × ((rest : List ℕ) → lines (bytes ++ rest) ≡ ls ++ lines rest)

inner_both : (one other : List (List ℕ)) → AreInner one → AreInner other → AreInner (one ++ other)
inner_both [] other is also = also
inner_both (l ∷ one) other (d, c, is) also = (d, c, inner_both one other is also)

pub total-append : (one other : List (List ℕ)) → total (one ++ other) ≡ total one + total other
total-append [] other = omega arith
total-append (l ∷ one) other = omega (arith, total-append one other)

pub no_lines : AreLines [] []
no_lines = (tt, refl, λ rest. refl)

pub lines_both : (one other : List ℕ) (ls ms : List (List ℕ)) → AreLines one ls → AreLines other ms → AreLines (one ++ other) (ls ++ ms)
lines_both one other ls ms is also = (
  inner_both ls ms is.0 also.0,
  omega (arith, total-append ls ms, is.1, also.1, length-append one other),
  λ rest. ap lines (append_assoc one other rest) ∙ is.2 (other ++ rest) ∙ ap (λ (x : List (List ℕ)). ls ++ x) (also.2 rest) ∙ sym (append_assoc ls ms (lines rest)),
)

-- one line
pub one_line : (bytes : List ℕ) → list_all stays bytes ≡ true → is_define (bytes ++ 10 ∷ []) ≡ false → is_closing (bytes ++ 10 ∷ []) ≡ false → AreLines (bytes ++ 10 ∷ []) ((bytes ++ 10 ∷ []) ∷ [])
one_line bytes all defines closes =
    ((defines, closes, tt), omega arith, λ rest. ap lines (append_assoc bytes (10 ∷ []) rest) ∙ lines_line bytes rest all)

-- a line behind two blanks
pub blank_line_lines : (pieces : List Piece) → IsLine pieces → AreNamed pieces → AreLines (written (line pieces)) (written (line pieces) ∷ [])
unfolding is_define is_closing has_prefix
blank_line_lines pieces is named =
    let bytes : List ℕ = 32 ∷ 32 ∷ written pieces in
    let whole : written (line pieces) ≡ bytes ++ 10 ∷ [] = ap (λ (x : List ℕ). 32 ∷ 32 ∷ x) (flat_map-append piece_text pieces (LineEnd ∷ [])) in
    subst (λ (x : List ℕ). AreLines x (x ∷ [])) (sym whole) (one_line bytes (line_stays pieces is named) refl refl)

-- ---- a label's line

-- neither a blank nor a tab
abbrev is_black : ℕ → Bool
is_black byte = not (eqb byte 32) && not (eqb byte 9)

all_taken : (n : ℕ) (bytes : List ℕ) → list_all is_black bytes ≡ true → list_all is_black (take n bytes) ≡ true
all_taken zero bytes all = refl
all_taken (suc n) [] all = refl
all_taken (suc n) (b ∷ bytes) all = let p = both_true (is_black b) (list_all is_black bytes) all in and_from _ _ p.0 (all_taken n bytes p.1)

no_prefix : (prefix bytes : List ℕ) → list_all is_black prefix ≡ false → list_all is_black bytes ≡ true → has_prefix prefix bytes ≡ false
unfolding has_prefix
no_prefix prefix bytes white all = go (bytes_eq (take (length prefix) bytes) prefix) refl
  where
    go : (b : Bool) → bytes_eq (take (length prefix) bytes) prefix ≡ b → bytes_eq (take (length prefix) bytes) prefix ≡ false
    go false e = e
    go true e = absurd (true≢false (sym (all_taken (length prefix) bytes all) ∙ ap (list_all is_black) (same_bytes (take (length prefix) bytes) prefix e) ∙ white))

no_define : (bytes : List ℕ) → list_all is_black bytes ≡ true → is_define bytes ≡ false
unfolding is_define
no_define bytes all = ap (λ b. b || has_prefix (codes "define\t") bytes) (no_prefix (codes "define ") bytes refl all) ∙ no_prefix (codes "define\t") bytes refl all

run_black : (b : ℕ) → is_run_byte b ≡ true → is_black b ≡ true
run_black b is = and_from _ _ (ap not (apart is_run_byte b 32 is refl)) (ap not (apart is_run_byte b 9 is refl))

label_apart : (text name : List ℕ) → Writes text (58 ∷ []) name → (is_define ((text ++ 58 ∷ []) ++ 10 ∷ []) ≡ false) × (is_closing ((text ++ 58 ∷ []) ++ 10 ∷ []) ≡ false)
unfolding is_define is_closing has_prefix
label_apart [] name (inl w) = (refl, refl)
label_apart (b ∷ text) name (inl w) =
    let p = both_true (is_run_byte b) (list_all is_run_byte text) w.0.each in
    let all : list_all is_black (((b ∷ text) ++ 58 ∷ []) ++ 10 ∷ []) ≡ true =
    list_all-append is_black ((b ∷ text) ++ 58 ∷ []) (10 ∷ []) ∙ and_from _ _ (list_all-append is_black (b ∷ text) (58 ∷ []) ∙ and_from _ _ (all_weaker is_run_byte is_black (b ∷ text) run_black w.0.each) refl) refl in
    (no_define (((b ∷ text) ++ 58 ∷ []) ++ 10 ∷ []) all, apart is_run_byte b 125 p.0 refl)
label_apart text name (inr q) =
    subst (λ (x : List ℕ). (is_define ((x ++ 58 ∷ []) ++ 10 ∷ []) ≡ false) × (is_closing ((x ++ 58 ∷ []) ++ 10 ∷ []) ≡ false)) (sym q.quotes) (refl, refl)

pub label_lines : (name : List ℕ) → IsName name → AreLines (written (Label name ∷ LineEnd ∷ [])) (written (Label name ∷ LineEnd ∷ []) ∷ [])
label_lines name is =
    let p = label_apart (name_text name) name (name_writes name (58 ∷ []) is.1 refl) in
    one_line (name_text name ++ 58 ∷ []) (list_all-append stays (name_text name) (58 ∷ []) ∙ and_from _ _ (name_stays name is) refl) p.0 p.1
