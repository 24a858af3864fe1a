-- The header and the whole function: what is shown spells them where something does.
use Rattle.std.proofs.Common.{◌≡◌, ◌&&◌, ℕ, Bool, true, false, List, [], ◌∷◌, ◌++◌, Option, Some, None, refl, sym, ap, ◌∙◌, subst, inl, inr, true≢false}
use Rattle.std.specs.Prelude.{codes}
use Rattle.std.specs.List.{flat_map, list_all}
use Rattle.std.proofs.lemmas.List.Elements.{All-nil}
use Rattle.op_table.specs.Words as tables
use Rattle.ll_tree.specs.declared.func.Func.{Func}
use Rattle.ll_tree.specs.declared.func.Ret.{Ret}
use Rattle.ll_tree.specs.declared.func.Ret.TheVariants as ret
use Rattle.ll_tree.specs.declared.func.Param.{Param}
use Rattle.ll_tree.specs.declared.func.Range.{Range}
use Rattle.ll_tree.specs.declared.block.Block.{Block}
use Rattle.ll_tree.specs.Pieces.{Piece, Word, Bits, Local, Global, Mark, Blank, LineEnd, separated}
use Rattle.ll_tree.specs.Text.{literal, flag, range_pieces, ret_piece, ret_width, param_pieces, ret_pieces, signature_pieces, header_pieces, block_pieces}
use Rattle.ll_grammar.specs.Tokens.{Tok}
use Rattle.ll_grammar.specs.Spells.{IsMark, has, SpellsRange, SpellsAttributes, SpellsResult, is_some, SpellsParam, SpellParams, unnamed_with, SpellsBlock, SpellsEntryBlock, SpellBody, IsNoBrace, SpellsFunction}
use Rattle.ll_grammar.proofs.FlagLaws.{and_true, and_false}
use Rattle.canonical_text.specs.Shown.{ShowAll, open_pieces}
use Rattle.canonical_text.proofs.ShownLaws.{split, spaced, blank, line_end, last}
use Rattle.canonical_text.proofs.OperandLaws.{literal_again, type_again}
use Rattle.canonical_text.proofs.FlagLaws.{with_word, flag_shown}
use Rattle.canonical_text.proofs.StatementLaws.{regroup, block_again, blocks_again}

-- ---- attributes

range_again : (w : ℕ) (r : Range) (pieces : List Piece) (us vs ts rest : List Tok) → SpellsRange w r us vs → ShowAll (range_pieces (Bits w) w (Some r) ++ pieces) ts rest → (a : List Tok) × SpellsRange w r ts a × ShowAll pieces a rest
range_again w r pieces us vs ts rest (differ, i, j, k, l, m, n, word, opens, type, lo, comma, hi, closes) s =
    let upper : List Piece = literal w r.hi ∷ Mark 41 ∷ Blank ∷ pieces in
    let (a, is, s) = s in
    let (b, is_open, s) = s in
    let (c, is_type, s) = spaced (Bits w) (literal w r.lo ∷ Mark 44 ∷ Blank ∷ upper) b rest s in
    let (d, is_lo, s) = s in
    let (e, is_comma, s) = spaced (Mark 44) upper d rest s in
    let (f, is_hi, s) = s in
    let (g, is_close, s) = spaced (Mark 41) pieces f rest s in
    (g, (differ, a, b, c, d, e, f, is.0, is_open, type_again w j k b c type is_type, literal_again w r.lo k l c d type.2 lo is_lo, is_comma, literal_again w r.hi m n e f type.2 hi is_hi, is_close), s)

-- `noundef`, where it is written, is a word of the table
all_there : (table : List (List ℕ)) (noundef : Bool) → has (codes "noundef") table ≡ true → list_all (λ word. has word table) (with_word noundef (codes "noundef") []) ≡ true
all_there table false there = refl
all_there table true there = ap (λ b. b && true) there

is_there : (noundef : Bool) → noundef ≡ has (codes "noundef") (with_word noundef (codes "noundef") [])
is_there false = refl
is_there true = refl

is_there_too : (noundef : Bool) → noundef ≡ has (codes "noundef") (with_word noundef (codes "noundef") [] ++ [])
is_there_too false = refl
is_there_too true = refl

attributes_again : (table : List (List ℕ)) (w : ℕ) (other noundef : Bool) (range : Option Range) (pieces : List Piece) (us vs ts rest : List Tok) → has (codes "noundef") table ≡ true → SpellsAttributes table w other range us vs
    → ShowAll (flag noundef (codes "noundef") ++ (range_pieces (Bits w) w range ++ pieces)) ts rest → (a : List Tok) × SpellsAttributes table w noundef range ts a × ShowAll pieces a rest
attributes_again table w other noundef None pieces us vs ts rest there given s =
    let (a, is, s) = split (flag noundef (codes "noundef")) pieces ts rest s in
    (a, (with_word noundef (codes "noundef") [], (flag_shown noundef (codes "noundef") [] ts a a is refl, all_there table noundef there), is_there noundef), s)
attributes_again table w other noundef (Some r) pieces us vs ts rest there (before, behind, k, l, first, given, others, same) s =
    let (a, is, s) = split (flag noundef (codes "noundef")) (range_pieces (Bits w) w (Some r) ++ pieces) ts rest s in
    let (b, is_range, s) = range_again w r pieces k l a rest given s in
    (b, (with_word noundef (codes "noundef") [], [], a, b, (flag_shown noundef (codes "noundef") [] ts a a is refl, all_there table noundef there), is_range, (refl, refl), is_there_too noundef), s)

-- ---- the type of the result

result_again : (r : Ret) (noundef : Bool) (range : Option Range) (us vs ts rest : List Tok) → SpellsResult r noundef range us vs
    → ShowAll (flag noundef (codes "noundef") ++ (range_pieces (ret_piece r) (ret_width r) range ++ ret_piece r ∷ [])) ts rest → SpellsResult r noundef range ts rest
result_again ret.Void noundef None us vs ts rest (k, none, given, void) s =
    let (a, are, s) = attributes_again tables.header 1 noundef noundef None (Word (codes "void") ∷ []) us k ts rest refl given s in
    (a, none, are, (last (Word (codes "void")) a rest s).0)
result_again ret.Void noundef (Some r) us vs ts rest (k, none, given, void) s = absurd (true≢false (ap is_some none))
result_again (ret.Int w) noundef range us vs ts rest (k, given, type) s =
    let (a, are, s) = attributes_again tables.header w noundef noundef range (Bits w ∷ []) us k ts rest refl given s in
    (a, are, type_again w k vs a rest type (last (Bits w) a rest s))

-- ---- parameters

strict_again : (strict noundef ranged : Bool) → strict ≡ (noundef && ranged) → strict ≡ (strict && ranged)
strict_again strict noundef true is = sym (and_true strict)
strict_again strict noundef false is = is ∙ and_false noundef ∙ sym (and_false strict)

param_again : (unnamed : ℕ) (p : Param) (us vs ts rest : List Tok) → SpellsParam unnamed p us vs → ShowAll (param_pieces p) ts rest → SpellsParam unnamed p ts rest
unfolding param_pieces
param_again unnamed p us vs ts rest (noundef, k, l, type, given, strict_is, name) s =
    let (a, is_type, s) = spaced (Bits p.width) (flag p.strict (codes "noundef") ++ (range_pieces (Bits p.width) p.width p.range ++ Local p.name ∷ [])) ts rest s in
    let (b, are, s) = attributes_again tables.attribute p.width noundef p.strict p.range (Local p.name ∷ []) k l a rest refl given s in
    (p.strict, a, b, type_again p.width us k ts a type is_type, are, strict_again p.strict noundef (is_some p.range) strict_is, inl (last (Local p.name) b rest s))

params_again : (unnamed : ℕ) (ps : List Param) (pieces : List Piece) (us vs ts rest : List Tok) → SpellParams unnamed ps us vs → ShowAll (separated param_pieces ps ++ Mark 41 ∷ pieces) ts rest → (a : List Tok) × SpellParams unnamed ps ts a × ShowAll pieces a rest
params_again unnamed [] pieces us vs ts rest given s = s
params_again unnamed (p ∷ []) pieces us vs ts rest (k, given, closes) s =
    let (a, is, s) = split (param_pieces p) (Mark 41 ∷ pieces) ts rest (regroup (param_pieces p) [] (Mark 41 ∷ pieces) ts rest s) in
    let (b, is_close, s) = s in
    (b, (a, param_again unnamed p us k ts a given is, is_close), s)
params_again unnamed (p ∷ next ∷ ps) pieces us vs ts rest (k, l, given, comma, others) s =
    let (a, is, s) = split (param_pieces p) (Mark 44 ∷ Blank ∷ (separated param_pieces (next ∷ ps) ++ Mark 41 ∷ pieces)) ts rest (regroup (param_pieces p) (Mark 44 ∷ Blank ∷ separated param_pieces (next ∷ ps)) (Mark 41 ∷ pieces) ts rest s) in
    let (b, is_comma, s) = spaced (Mark 44) (separated param_pieces (next ∷ ps) ++ Mark 41 ∷ pieces) a rest s in
    let (c, are, s) = params_again (unnamed_with unnamed p) (next ∷ ps) pieces l vs b rest others s in
    (c, (a, b, param_again unnamed p us k ts a given is, is_comma, are), s)

-- ---- the body

-- the block behind the label of an entry, whether that is written or not
pub entry_block : (unwritten : List ℕ) (b : Block) (us vs : List Tok) → SpellsEntryBlock unwritten b us vs → (k : List Tok) × SpellsBlock b k vs
entry_block unwritten b us vs (inl (lines, k, l, passed, label, is)) = (l, is)
entry_block unwritten b us vs (inr (same, is)) = (us, is)

body_again : (unwritten : List ℕ) (blocks : List Block) (us ts : List Tok) → SpellBody unwritten blocks us [] → ShowAll (flat_map block_pieces blocks) ts [] → SpellBody unwritten blocks ts []
body_again unwritten [] us ts given s = given
body_again unwritten (b ∷ blocks) us ts (k, first, others) s =
    let (l, given) = entry_block unwritten b us k first in
    let (a, c, label, is, s) = block_again b (flat_map block_pieces blocks) l k ts [] tt given s in
    (c, inl (0, ts, a, refl, label, is), blocks_again blocks k [] c [] tt others s)

-- ---- the whole

pub function_again : (func : Func) (given shown : List Tok) → SpellsFunction func given → ShowAll (open_pieces func) shown [] → SpellsFunction func shown
unfolding header_pieces ret_pieces signature_pieces
function_again func given shown spells s =
    let (h, header, blocks) = split (header_pieces func) (flat_map block_pieces func.blocks) shown [] s in
    let (r, before, signature) = split (ret_pieces func) (signature_pieces func) shown h header in
    let (a, define, type) = spaced (Word (codes "define")) (flag func.ret_noundef (codes "noundef") ++ (range_pieces (ret_piece func.ret) (ret_width func.ret) func.ret_range ++ ret_piece func.ret ∷ [])) shown r before in
    let tail : List Piece = separated param_pieces func.params ++ Mark 41 ∷ Blank ∷ Mark 123 ∷ LineEnd ∷ [] in
    let (c, name, signature) = blank (Global func.name ∷ Mark 40 ∷ tail) r h signature in
    let (d, opens, signature) = signature in
    let (p, params, signature) = params_again 0 func.params (Blank ∷ Mark 123 ∷ LineEnd ∷ []) spells.params spells.rest d h spells.are_params signature in
    let (q, brace, end) = blank (Mark 123 ∷ LineEnd ∷ []) p h signature in
    record {
      result = a;
      name = r;
      parenthesis = c;
      params = d;
      between = [];
      brace = p;
      body = h;
      rest = p;
      is_define = define.0;
      is_result = result_again func.ret func.ret_noundef func.ret_range spells.result spells.name a r spells.is_result type;
      is_name = name;
      opens = opens;
      are_params = params;
      is_between = refl;
      no_brace = All-nil IsNoBrace;
      opens_body = subst (λ (l : List Tok). IsMark 123 p l) (line_end [] q h end) brace;
      is_body = body_again _ func.blocks spells.body h spells.is_body blocks;
    }
