-- A canonical text as a file has its one function under its name.
use Rattle.std.proofs.Common.{◌≡◌, ◌⊎◌, ◌<◌, ◌≤◌, ◌+◌, ◌-◌, ◌^◌, ℕ, zero, suc, Bool, true, false, ◌&&◌, ◌||◌, List, [], ◌∷◌, ◌++◌, length, take, drop, get_or, refl, sym, ap, ◌∙◌, subst, inl, inr, arith, true≢false, append_assoc, append-nil, length-append}
use Rattle.std.specs.Prelude.{codes, slice_range}
use Rattle.std.specs.List.{flat_map, list_all}
use Rattle.std.specs.Fmt.{decimal}
use Rattle.std.proofs.lemmas.List.{take_at}
use Rattle.std.proofs.lemmas.Grind.{flat_map-append}
use Rattle.ll_tree.specs.declared.func.Func.{Func}
use Rattle.ll_tree.specs.Naming.{name_text}
use Rattle.ll_tree.specs.Pieces.{Piece, Word, Global, Mark, Blank, LineEnd, piece_text, written, separated}
use Rattle.ll_tree.specs.Text.{flag, range_pieces, ret_piece, ret_width, param_pieces, header_pieces, block_pieces, canonical, pieces_of}
use Rattle.ll_grammar.specs.Tokens.{Tok}
use Rattle.ll_grammar.specs.Spells.{SpellsFunction, count_unnamed}
use Rattle.canonical_text.specs.Shown.{open_pieces}
use Rattle.canonical_text.specs.Named as names
use Rattle.canonical_text.specs.Named.{AreBytes, IsName, AreNamed}
use Rattle.canonical_text.proofs.ReadBackLaws.{take_bytes, drop_bytes, text_named, read_back}
use Rattle.ll_token.specs.Scan.{AreTokens}
use Rattle.ll_grammar.specs.Tokens.{seen}
use Rattle.std.proofs.lemmas.Bool.{and_from}
use Rattle.canonical_text.proofs.LineLaws.{IsLine}
use Rattle.canonical_text.proofs.StandLaws.{header_line_pieces, header_is_line, header_line}
use Rattle.ll_reader.specs.declared.finder.Section.{Section}
use Rattle.ll_reader.specs.declared.finder.Found.TheVariants as found
use Rattle.ll_reader.specs.FileLines.{lines, nth_line, line_start, is_define, is_closing, has_prefix}
use Rattle.ll_reader.specs.DefineLine.{IsNamed}
use Rattle.ll_reader.specs.Functions.{BeginsFunction, HasName, Closes, section_of, Finds}
use Rattle.ll_reader.specs.FileSpells.{section_text, FileSpells}
use Rattle.canonical_file.proofs.LineEndLaws.{stays, line_stays, lines_line, AreInner, total, total-append, AreLines}
use Rattle.canonical_file.proofs.BodyLaws.{named_parts, HaveLines, body_have}
use Rattle.canonical_file.proofs.DefineLaws.{is_plain, is_clean, all_clean, plain_both, flag_plain, ret_plain, range_plain, named_line}

-- ---- the lines of the file

-- a define line, lines of the body and the line that closes
abbrev file_lines : List ℕ → List (List ℕ) → List (List ℕ)
file_lines header middle = header ∷ (middle ++ (125 ∷ 10 ∷ []) ∷ [])

place_front : (front behind : List (List ℕ)) → line_start (front ++ behind) (length front) ≡ total front
unfolding line_start
place_front [] [] = refl
place_front [] (l ∷ behind) = refl
place_front (l ∷ front) behind = ap (λ (n : ℕ). length l + n) (place_front front behind)

no_define_line : (middle : List (List ℕ)) (n : ℕ) → AreInner middle → is_define (get_or (middle ++ (125 ∷ 10 ∷ []) ∷ []) n []) ≡ false
unfolding is_define has_prefix
no_define_line [] zero inner = refl
no_define_line [] (suc n) inner = refl
no_define_line (l ∷ middle) zero inner = inner.0
no_define_line (l ∷ middle) (suc n) inner = no_define_line middle n inner.2

no_closing_line : (middle : List (List ℕ)) (n : ℕ) → AreInner middle → n < length middle → is_closing (get_or (middle ++ (125 ∷ 10 ∷ []) ∷ []) n []) ≡ false
no_closing_line [] n inner within = absurd (omega (arith, within))
no_closing_line (l ∷ middle) zero inner within = inner.1
no_closing_line (l ∷ middle) (suc n) inner within = no_closing_line middle n inner.2 (omega (arith, within))

last_line : (middle : List (List ℕ)) → is_closing (get_or (middle ++ (125 ∷ 10 ∷ []) ∷ []) (length middle) []) ≡ true
unfolding is_closing
last_line [] = refl
last_line (l ∷ middle) = last_line middle

-- What stands in such a file.
pub finds_in : (text name header : List ℕ) (middle : List (List ℕ)) → lines text ≡ file_lines header middle → AreInner middle → is_define header ≡ true → IsNamed header name
    → Finds text name (found.Closed (section_of (lines text) 0 (suc (length middle))))
finds_in text name header middle e inner defines named =
    let P : List (List ℕ) → Type 0 = λ ls. BeginsFunction ls 0 × IsNamed (nth_line ls 0) name in
    let begins : P (lines text) = subst P (sym e) (record { there = omega arith; defines = defines; outside = λ d below. absurd (omega (arith, below)) }, named) in
    let only : (other : ℕ) → HasName text name other → other ≡ 0 = λ other has. only_first other (subst (λ (ls : List (List ℕ)). is_define (nth_line ls other) ≡ true) e has.0.defines) in
    let closes : Closes (lines text) 0 (suc (length middle)) = subst (λ (ls : List (List ℕ)). Closes ls 0 (suc (length middle))) (sym e) (record {
      behind = omega arith;
      there = omega (arith, length-append middle ((125 ∷ 10 ∷ []) ∷ []));
      closing = last_line middle;
      first = λ c after before. none_before c after before;
    }) in
    (0, suc (length middle), (begins, only), closes, refl)
  where
    only_first : (other : ℕ) → is_define (nth_line (file_lines header middle) other) ≡ true → other ≡ 0
    only_first zero is = refl
    only_first (suc n) is = absurd (true≢false (sym is ∙ no_define_line middle n inner))

    none_before : (c : ℕ) → 0 < c → c < suc (length middle) → is_closing (nth_line (file_lines header middle) c) ≡ false
    none_before zero after before = absurd (omega (arith, after))
    none_before (suc c) after before = no_closing_line middle c inner (omega (arith, before))

-- ---- the canonical text

split_name : (F R Z : List Piece) (type name : Piece)
    → Word (codes "define") ∷ Blank ∷ (F ++ (R ++ type ∷ Blank ∷ name ∷ Mark 40 ∷ Z)) ≡ (Word (codes "define") ∷ Blank ∷ (F ++ (R ++ type ∷ Blank ∷ []))) ++ name ∷ Mark 40 ∷ Z
split_name F R Z type name = simp append_assoc

header_named : (func : Func) → IsLine (header_line_pieces func) → IsName func.name → IsNamed (written (header_line_pieces func) ++ 10 ∷ []) func.name
header_named func is named =
    let F : List Piece = flag func.ret_noundef (codes "noundef") in
    let R : List Piece = range_pieces (ret_piece func.ret) (ret_width func.ret) func.ret_range in
    let Z : List Piece = separated param_pieces func.params ++ Mark 41 ∷ Blank ∷ Mark 123 ∷ [] in
    let T : Piece = ret_piece func.ret in
    let N : Piece = Global func.name in
    let front : List Piece = Word (codes "define") ∷ Blank ∷ (F ++ (R ++ T ∷ Blank ∷ [])) in
    let plain : list_all is_plain front ≡ true =
    plain_both F (R ++ T ∷ Blank ∷ []) (flag_plain func.ret_noundef (codes "noundef")) (plain_both R (T ∷ Blank ∷ []) (range_plain T (ret_width func.ret) func.ret_range (ret_plain func.ret)) (and_from _ _ (ret_plain func.ret) refl)) in
    let whole : header_line_pieces func ≡ front ++ N ∷ Mark 40 ∷ Z = split_name F R Z T N in
    let clean = all_clean front (N ∷ Mark 40 ∷ Z) (subst IsLine whole is) plain in
    let text : written (header_line_pieces func) ≡ written front ++ ((64 ∷ name_text func.name) ++ 40 ∷ written Z) = ap written whole ∙ flat_map-append piece_text front (N ∷ Mark 40 ∷ Z) in
    let line : written (header_line_pieces func) ++ 10 ∷ [] ≡ written front ++ ((64 ∷ name_text func.name) ++ 40 ∷ (written Z ++ 10 ∷ [])) =
    ap (λ (x : List ℕ). x ++ 10 ∷ []) text ∙ append_assoc (written front) ((64 ∷ name_text func.name) ++ 40 ∷ written Z) (10 ∷ []) ∙ ap (λ (x : List ℕ). written front ++ x) (append_assoc (64 ∷ name_text func.name) (40 ∷ written Z) (10 ∷ [])) in
    subst (λ (x : List ℕ). IsNamed x func.name) (sym line) (named_line (written front) func.name (written Z ++ 10 ∷ []) clean named)

header_defines : (func : Func) → is_define (written (header_line_pieces func) ++ 10 ∷ []) ≡ true
unfolding is_define has_prefix
header_defines func = refl

-- the name among the pieces of the first line
name_there : (F R Z : List Piece) (type name : Piece) → AreNamed (Word (codes "define") ∷ Blank ∷ (F ++ (R ++ type ∷ Blank ∷ name ∷ Mark 40 ∷ Z))) → names.IsNamed name
name_there F R Z type name named = (named_parts (Word (codes "define") ∷ Blank ∷ (F ++ (R ++ type ∷ Blank ∷ []))) (name ∷ Mark 40 ∷ Z) (subst AreNamed (split_name F R Z type name) named)).1.0

-- where the closing line begins
open_text : (func : Func) → written (open_pieces func) ≡ written (header_line_pieces func) ++ 10 ∷ written (flat_map block_pieces func.blocks)
open_text func = ap written (header_is_line func (flat_map block_pieces func.blocks)) ∙ flat_map-append piece_text (header_line_pieces func) (LineEnd ∷ flat_map block_pieces func.blocks)

whole_text : (func : Func) → canonical func ≡ written (open_pieces func) ++ 125 ∷ 10 ∷ []
whole_text func =
    ap written (sym (append_assoc (header_pieces func) (flat_map block_pieces func.blocks) (Mark 125 ∷ LineEnd ∷ []))) ∙ flat_map-append piece_text (open_pieces func) (Mark 125 ∷ LineEnd ∷ [])

end_lines : lines (125 ∷ 10 ∷ []) ≡ (125 ∷ 10 ∷ []) ∷ []
unfolding lines
end_lines = lines_line (125 ∷ []) [] refl

canonical_lines : (func : Func) (middle : List (List ℕ)) → IsLine (header_line_pieces func) → AreNamed (header_line_pieces func) → AreLines (written (flat_map block_pieces func.blocks)) middle
    → lines (canonical func) ≡ file_lines (written (header_line_pieces func) ++ 10 ∷ []) middle
canonical_lines func middle is named body =
    let H : List ℕ = written (header_line_pieces func) in
    let B : List ℕ = written (flat_map block_pieces func.blocks) in
    ap lines (whole_text func ∙ ap (λ (x : List ℕ). x ++ 125 ∷ 10 ∷ []) (open_text func) ∙ append_assoc H (10 ∷ B) (125 ∷ 10 ∷ []))
    ∙ lines_line H (B ++ 125 ∷ 10 ∷ []) (line_stays (header_line_pieces func) is named)
    ∙ ap (λ (ls : List (List ℕ)). (H ++ 10 ∷ []) ∷ ls) (body.2 (125 ∷ 10 ∷ []) ∙ ap (λ (ls : List (List ℕ)). middle ++ ls) end_lines)

closing_place : (header : List ℕ) (middle : List (List ℕ)) → line_start (file_lines header middle) (suc (length middle)) ≡ length header + total middle
unfolding line_start
closing_place header middle = ap (λ (n : ℕ). length header + n) (place_front middle ((125 ∷ 10 ∷ []) ∷ []))

start_place : (ls : List (List ℕ)) → line_start ls 0 ≡ 0
unfolding line_start
start_place ls = refl

section_is : (func : Func) (middle : List (List ℕ)) → lines (canonical func) ≡ file_lines (written (header_line_pieces func) ++ 10 ∷ []) middle → AreLines (written (flat_map block_pieces func.blocks)) middle
    → section_text (canonical func) (section_of (lines (canonical func)) 0 (suc (length middle))) ≡ written (open_pieces func)
section_is func middle e body =
    let H : List ℕ = written (header_line_pieces func) in
    let B : List ℕ = written (flat_map block_pieces func.blocks) in
    let W : List ℕ = written (open_pieces func) in
    let start : line_start (lines (canonical func)) 0 ≡ 0 = start_place (lines (canonical func)) in
    let end : line_start (lines (canonical func)) (suc (length middle)) ≡ length (H ++ 10 ∷ []) + total middle = ap (λ (ls : List (List ℕ)). line_start ls (suc (length middle))) e ∙ closing_place (H ++ 10 ∷ []) middle in
    let long : length W ≡ length H + suc (length B) = ap (λ (x : List ℕ). length x) (open_text func) ∙ length-append H (10 ∷ B) in
    let here : length W ≡ line_start (lines (canonical func)) (suc (length middle)) - 0 = omega (arith, end, long, length-append H (10 ∷ []), body.1) in
    ap (λ (n : ℕ). slice_range (canonical func) n (line_start (lines (canonical func)) (suc (length middle)))) start
    ∙ ap (λ (x : List ℕ). take (line_start (lines (canonical func)) (suc (length middle)) - 0) x) (whole_text func)
    ∙ take_at W (125 ∷ 10 ∷ []) (line_start (lines (canonical func)) (suc (length middle)) - 0) here

-- ---- a file that is read

short_take : (n : ℕ) (bytes : List ℕ) → length (take n bytes) ≤ length bytes
short_take zero bytes = omega arith
short_take (suc n) [] = omega arith
short_take (suc n) (b ∷ bytes) = omega (arith, short_take n bytes)

short_drop : (n : ℕ) (bytes : List ℕ) → length (drop n bytes) ≤ length bytes
short_drop zero bytes = omega arith
short_drop (suc n) [] = omega arith
short_drop (suc n) (b ∷ bytes) = omega (arith, short_drop n bytes)

pub file_back : (text name : List ℕ) (func : Func) → AreBytes text → length text < 2 ^ 64 → FileSpells text name func → FileSpells (canonical func) func.name func
file_back text name func bytes few (section, ts, (finds, tokens, are, same), sentence) =
    let S : List ℕ = section_text text section in
    let within : length S < 2 ^ 64 = omega (arith, few, short_take (section.end - section.start) (drop section.start text), short_drop section.start text) in
    let real : AreBytes S = take_bytes (section.end - section.start) (drop section.start text) (drop_bytes section.start text bytes) in
    let spells : SpellsFunction func (seen S 0 tokens) = subst (SpellsFunction func) same sentence in
    let named : AreNamed (open_pieces func) = text_named S section.line 0 tokens func real within are spells in
    let parts = named_parts (header_pieces func) (flat_map block_pieces func.blocks) named in
    let line_named : AreNamed (header_line_pieces func) = (named_parts (header_line_pieces func) (LineEnd ∷ flat_map block_pieces func.blocks) (subst AreNamed (header_is_line func (flat_map block_pieces func.blocks)) named)).0 in
    let is_line = header_line func (seen S 0 tokens) spells in
    let (middle, body) = body_have (decimal (count_unnamed 0 func.params)) func.blocks spells.body spells.is_body parts.1 in
    let e = canonical_lines func middle is_line line_named body in
    let its_name : IsName func.name = name_there (flag func.ret_noundef (codes "noundef")) (range_pieces (ret_piece func.ret) (ret_width func.ret) func.ret_range) (separated param_pieces func.params ++ Mark 41 ∷ Blank ∷ Mark 123 ∷ []) (ret_piece func.ret) (Global func.name) line_named in
    let found = finds_in (canonical func) func.name (written (header_line_pieces func) ++ 10 ∷ []) middle e body.0 (header_defines func) (header_named func is_line its_name) in
    let again_section : Section = section_of (lines (canonical func)) 0 (suc (length middle)) in
    let is_section = section_is func middle e body in
    let (again, are_again, spells_again) = read_back S section.line again_section.line 0 0 tokens func real within are spells in (
      again_section,
      seen (section_text (canonical func) again_section) 0 again,
      (found, again, subst (λ (x : List ℕ). AreTokens x again_section.line again) (sym is_section) are_again, refl),
      subst (λ (x : List ℕ). SpellsFunction func (seen x 0 again)) (sym is_section) spells_again,
    )
