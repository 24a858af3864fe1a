-- The header of a function, and the whole function (LLVM Language Reference, "Functions", "Parameter Attributes").
use Rattle.std.specs.Prelude.{ℕ, zero, suc, ◌+◌, Bool, true, false, ◌&&◌, ◌||◌, ◌==◌, List, [], ◌∷◌, ◌++◌, length, drop, codes, Option, Some, None, if◌then◌else◌}
use Rattle.std.specs.Option.{option_map_or}
use Rattle.std.specs.List.{list_any, list_all}
use Rattle.std.specs.Str.{bytes_eq}
use Rattle.std.specs.Fmt.{decimal}
use Rattle.std.specs.Char.{is_ascii_digit}
use Rattle.op_table.specs.Words as tables
use Rattle.ll_token.specs.declared.token.TokenKind.TheVariants as kinds
use Rattle.ll_tree.specs.declared.func.Func.{Func}
use Rattle.ll_tree.specs.declared.func.Ret.{Ret}
use Rattle.ll_tree.specs.declared.func.Ret.TheVariants as ret
use Rattle.ll_tree.specs.declared.func.Param.{Param}
use Rattle.ll_tree.specs.declared.func.Range.{Range}
use Rattle.ll_grammar.specs.declared.header.Table.{Table}
use Rattle.ll_grammar.specs.declared.header.Table.TheVariants as table
use Rattle.ll_grammar.specs.declared.header.ResultType.{ResultType}
use Rattle.ll_grammar.specs.declared.header.ParamType.{ParamType}
use Rattle.ll_grammar.specs.declared.stop.Place.{Place}
use Rattle.ll_grammar.specs.declared.stop.Place.TheVariants as place
use Rattle.ll_grammar.specs.Tokens.{Tok, word_at, kind_at, mark_at, name_at}
use Rattle.ll_grammar.specs.Words.{has_width}
use Rattle.ll_grammar.specs.Reading.{Read, Done, RanOut, ◌>>=◌, stopped, take_if, take_some, mark, keyword, name, width, one_width, literal, literal_at}
use Rattle.ll_grammar.specs.Blocks.{blocks}

-- ---- words before a type and behind one

-- the words of the two tables
abbrev pub rows : Table → List (List ℕ)
rows table.Header = tables.header
rows table.Attribute = tables.attribute

abbrev pub is_among : List (List ℕ) → List ℕ → Bool
is_among those word = list_any (bytes_eq word) those

-- the words of a table that come next, so many at most: whether `noundef` is among them, or was before
unfoldable pub words_within : ℕ → List (List ℕ) → Bool → List Tok → Read Bool
words_within zero those noundef ts = Done noundef ts
words_within (suc most) those noundef ts =
    if is_among those (word_at ts) then words_within most those (noundef || bytes_eq (word_at ts) (codes "noundef")) (drop 1 ts)
    else Done noundef ts

unfoldable pub words : List (List ℕ) → Bool → List Tok → Read Bool
words those noundef ts = words_within (length ts) those noundef ts

-- ---- ranges

-- a literal of this width that isn't this number
unfoldable pub other_literal : ℕ → ℕ → List Tok → Option ℕ
other_literal w n ts = option_map_or (λ m. if m == n then None else Some m) (literal_at w ts) None

-- `NUM , NUM )`
unfoldable pub bounds : ℕ → List Tok → Read Range
bounds w ts =
    literal w ts >>= λ lo ts. mark 44 ts >>= λ _ ts.
    take_some (other_literal w lo ts) place.Literal ts >>= λ hi ts.
    mark 41 ts >>= λ _ ts. Done (record { lo = lo; hi = hi }) ts

abbrev pub range_at : List Tok → Bool
range_at ts = bytes_eq (word_at ts) (codes "range")

-- ---- what stands before the name

-- a type or `void`
unfoldable pub ret_type : List Tok → Read Ret
ret_type ts =
    if bytes_eq (word_at ts) (codes "void") then Done ret.Void (drop 1 ts)
    else (width ts >>= λ w ts. Done (ret.Int w) ts)

-- the type of a result with a range, behind the word `range`
unfoldable pub ranged_result : Bool → List Tok → Read ResultType
ranged_result noundef ts =
    mark 40 ts >>= λ _ ts. width ts >>= λ w ts. bounds w ts >>= λ r ts.
    words tables.header noundef ts >>= λ noundef ts.
    take_if (has_width w (word_at ts)) (record { ret = ret.Int w; noundef = noundef; range = Some r }) place.RangedResult ts

-- the words before the type of the result, and the type
unfoldable pub result_type : List Tok → Read ResultType
result_type ts =
    words tables.header false ts >>= λ noundef ts.
    if range_at ts then ranged_result noundef (drop 1 ts)
    else (ret_type ts >>= λ t ts. Done (record { ret = t; noundef = noundef; range = None }) ts)

-- ---- parameters

-- whether a parameter's name is that of one that has none written
abbrev pub is_unnamed : List ℕ → Bool
is_unnamed name = list_all is_ascii_digit name

-- a range behind a parameter's type, where one is written, and the attributes behind it
unfoldable pub param_range : ℕ → Bool → List Tok → Read ParamType
param_range w noundef ts =
    if range_at ts then (
    mark 40 (drop 1 ts) >>= λ _ ts. one_width w ts >>= λ _ ts. bounds w ts >>= λ r ts.
    words tables.attribute noundef ts >>= λ noundef ts.
    Done (record { width = w; noundef = noundef; range = Some r }) ts)
    else Done (record { width = w; noundef = noundef; range = None }) ts

-- a type and the attributes behind it
unfoldable pub param_type : List Tok → Read ParamType
param_type ts =
    width ts >>= λ w ts.
    words tables.attribute false ts >>= λ noundef ts.
    param_range w noundef ts

abbrev pub is_some : {A : Type 0} → Option A → Bool
is_some None = false
is_some (Some x) = true

abbrev pub param_of : List ℕ → ParamType → Param
param_of name typed = record { name = name; width = typed.width; range = typed.range; strict = typed.noundef && is_some typed.range }

-- the mark behind a parameter: whether another one follows; `at` is what could have stood there else
unfoldable pub closing : Place → List Tok → Read Bool
closing at ts = if mark_at 44 ts then Done true (drop 1 ts) else take_if (mark_at 41 ts) false at ts

-- a parameter behind so many unnamed ones, and whether another one follows
unfoldable pub param : ℕ → List Tok → Read (Param × Bool)
param unnamed ts =
    param_type ts >>= λ typed ts.
    if kind_at kinds.Local ts then (closing place.Other (drop 1 ts) >>= λ more rest. Done (param_of (name_at ts) typed, more) rest)
    else (closing place.Keyword ts >>= λ more rest. Done (param_of (decimal unnamed) typed, more) rest)

abbrev pub count_unnamed : ℕ → List ℕ → ℕ
count_unnamed unnamed name = if is_unnamed name then unnamed + 1 else unnamed

-- parameters behind these, with how many of them are unnamed; so many at most
unfoldable pub params_within : ℕ → List Param → ℕ → List Tok → Read (List Param × ℕ)
params_within zero so_far unnamed ts = RanOut
params_within (suc most) so_far unnamed ts =
    param unnamed ts >>= λ p ts.
    if p.1 then params_within most (so_far ++ p.0 ∷ []) (count_unnamed unnamed p.0.name) ts
    else Done (so_far ++ p.0 ∷ [], count_unnamed unnamed p.0.name) ts

-- behind `(`, up to the parenthesis that closes
unfoldable pub params : List Tok → Read (List Param × ℕ)
params ts = if mark_at 41 ts then Done ([], 0) (drop 1 ts) else params_within (length ts) [] 0 ts

-- ---- the whole function

-- the tokens between the parameters and the body, up to the brace that opens it; so many at most
unfoldable pub to_body_within : ℕ → List Tok → Read Unit
to_body_within zero ts = RanOut
to_body_within (suc most) ts =
    if mark_at 123 ts then Done (tt {0}) (drop 1 ts)
    else (if mark_at 125 ts then stopped place.Other ts
    else to_body_within most (drop 1 ts))

unfoldable pub to_body : List Tok → Read Unit
to_body ts = to_body_within (length ts) ts

-- the function that the tokens before the last brace spell
unfoldable pub function : List Tok → Read Func
function ts =
    keyword (codes "define") ts >>= λ _ ts.
    result_type ts >>= λ r ts.
    name kinds.Global place.Other ts >>= λ f ts.
    mark 40 ts >>= λ _ ts. params ts >>= λ ps ts.
    to_body ts >>= λ _ ts. blocks (decimal ps.1) ts >>= λ bs ts.
    Done (record { name = f; ret = r.ret; ret_noundef = r.noundef; ret_range = r.range; params = ps.0; blocks = bs }) ts
