-- The forms of instructions and terminators (LLVM Language Reference, "Instruction Reference").
use Rattle.std.specs.Prelude.{ℕ, zero, suc, Bool, true, false, ◌&&◌, ◌||◌, ◌==◌, List, [], ◌∷◌, ◌++◌, length, drop, codes, Option, None, if◌then◌else◌}
use Rattle.std.specs.Option.{option_map_or}
use Rattle.std.specs.Str.{bytes_eq}
use Rattle.ll_token.specs.declared.token.TokenKind.TheVariants as kinds
use Rattle.ll_tree.specs.declared.block.Operand.{Operand}
use Rattle.ll_tree.specs.declared.block.Operand.TheVariants as value
use Rattle.ll_tree.specs.declared.block.Phi.{Phi}
use Rattle.ll_tree.specs.declared.block.PhiEntry.{PhiEntry}
use Rattle.ll_tree.specs.declared.block.Case.{Case}
use Rattle.ll_tree.specs.declared.block.End.{End}
use Rattle.ll_tree.specs.declared.block.End.TheVariants as end
use Rattle.ll_tree.specs.declared.op.Op.{Op}
use Rattle.ll_tree.specs.declared.op.Op.TheVariants as op
use Rattle.ll_tree.specs.declared.op.Flags.{Flags}
use Rattle.ll_tree.specs.declared.op.BinKind.{BinKind}
use Rattle.ll_tree.specs.declared.op.CastKind.{CastKind}
use Rattle.ll_grammar.specs.declared.stop.Place.TheVariants as place
use Rattle.ll_grammar.specs.declared.opcodes.Callee.{Callee}
use Rattle.ll_grammar.specs.declared.opcodes.Callee.TheVariants as callee
use Rattle.ll_grammar.specs.Tokens.{Tok, word_at, kind_at, mark_at, name_at, group_at}
use Rattle.ll_grammar.specs.Words.{binary_of, cast_of, pred_of, callee_of, takes, cast_takes, compare_takes, no_flags, add_flag}
use Rattle.ll_grammar.specs.Reading.{Read, Done, RanOut, ◌>>=◌, stopped, take_if, take_some, mark, keyword, name, metadatum, width, one_width, literal}

-- ---- operands

-- a local name, `poison`, or a literal of this width
unfoldable pub operand : ℕ → List Tok → Read Operand
operand w ts =
    if kind_at kinds.Local ts then Done (value.Name (name_at ts)) (drop 1 ts)
    else (if bytes_eq (word_at ts) (codes "poison") then Done value.Poison (drop 1 ts)
    else (literal w ts >>= λ n ts. Done (value.Const n) ts))

-- a type, and an operand of it
unfoldable pub typed : List Tok → Read (ℕ × Operand)
typed ts = width ts >>= λ w ts. operand w ts >>= λ x ts. Done (w, x) ts

-- a type that must be this one, and an operand of it
unfoldable pub of_width : ℕ → List Tok → Read Operand
of_width w ts = one_width w ts >>= λ _ ts. operand w ts

-- `, OP`
unfoldable pub second : ℕ → List Tok → Read Operand
second w ts = mark 44 ts >>= λ _ ts. operand w ts

-- `label %l`
unfoldable pub target : List Tok → Read (List ℕ)
target ts = keyword (codes "label") ts >>= λ _ ts. name kinds.Local place.Other ts

-- `, label %l`
unfoldable pub next_target : List Tok → Read (List ℕ)
next_target ts = mark 44 ts >>= λ _ ts. target ts

-- ---- flags

-- the flags that come next behind these: of those that are allowed, each once; so many at most
unfoldable pub flags_within : ℕ → Flags → Flags → List Tok → Read Flags
flags_within zero allowed so_far ts = Done so_far ts
flags_within (suc most) allowed so_far ts =
    option_map_or (λ more. flags_within most allowed more (drop 1 ts)) (add_flag allowed so_far (word_at ts)) (Done so_far ts)

unfoldable pub flags : Flags → List Tok → Read Flags
flags allowed ts = flags_within (length ts) allowed no_flags ts

-- ---- instructions with a result, behind their word

unfoldable pub binary : BinKind → List Tok → Read Op
binary kind ts =
    flags (takes kind) ts >>= λ f ts.
    typed ts >>= λ left ts. second left.0 ts >>= λ right ts.
    Done (op.Bin kind f left.0 left.1 right) ts

unfoldable pub compare : List Tok → Read Op
compare ts =
    flags compare_takes ts >>= λ f ts.
    take_some (pred_of (word_at ts)) place.Keyword ts >>= λ p ts.
    typed ts >>= λ left ts. second left.0 ts >>= λ right ts.
    Done (op.Cmp p f left.0 left.1 right) ts

unfoldable pub conversion : CastKind → List Tok → Read Op
conversion kind ts =
    flags (cast_takes kind) ts >>= λ f ts.
    typed ts >>= λ arg ts. keyword (codes "to") ts >>= λ _ ts. width ts >>= λ to ts.
    Done (op.Cast kind f arg.0 arg.1 to) ts

unfoldable pub select : List Tok → Read Op
select ts =
    of_width 1 ts >>= λ cond ts. mark 44 ts >>= λ _ ts.
    typed ts >>= λ yes ts. mark 44 ts >>= λ _ ts.
    of_width yes.0 ts >>= λ no ts.
    Done (op.Select yes.0 cond yes.1 no) ts

-- ---- calls

unfoldable pub is_call_word : List ℕ → Bool
is_call_word word = bytes_eq word (codes "call") || (bytes_eq word (codes "tail") || bytes_eq word (codes "notail"))

-- `call`, or the word before it and `call`
unfoldable pub call_words : List Tok → Read Unit
call_words ts = keyword (codes "call") (if bytes_eq (word_at ts) (codes "call") then ts else drop 1 ts)

unfoldable pub callee_at : ℕ → List Tok → Option Callee
callee_at w ts = if kind_at kinds.Global ts then callee_of w (name_at ts) else None

-- the name of a function with operands of this width
unfoldable pub called : ℕ → List Tok → Read Callee
called w ts = take_some (callee_at w ts) place.Callee ts

-- the second argument, and what the call computes
unfoldable pub last_argument : Callee → ℕ → Operand → List Tok → Read Op
last_argument (callee.Bin kind) w left ts = of_width w ts >>= λ right ts. Done (op.Bin kind no_flags w left right) ts
last_argument callee.Abs w arg ts = one_width 1 ts >>= λ _ ts. literal 1 ts >>= λ n ts. Done (op.Abs w arg (n == 1)) ts

-- `)`, and the attributes of the call where they are written
unfoldable pub close_call : List Tok → Read Unit
close_call ts = mark 41 ts >>= λ _ ts. Done (tt {0}) (if group_at ts then drop 1 ts else ts)

-- a call with a result
unfoldable pub value_call : List Tok → Read Op
value_call ts =
    call_words ts >>= λ _ ts. width ts >>= λ w ts.
    called w ts >>= λ f ts.
    mark 40 ts >>= λ _ ts. of_width w ts >>= λ first ts. mark 44 ts >>= λ _ ts.
    last_argument f w first ts >>= λ computed ts.
    close_call ts >>= λ _ ts. Done computed ts

-- `llvm.assume`, by its name
unfoldable pub assume_at : List Tok → Bool
assume_at ts = kind_at kinds.Global ts && bytes_eq (name_at ts) (codes "llvm.assume")

unfoldable pub assume_callee : List Tok → Read Unit
assume_callee ts = take_if (assume_at ts) (tt {0}) place.Callee ts

unfoldable pub void : List Tok → Read Unit
void ts = take_if (bytes_eq (word_at ts) (codes "void")) (tt {0}) place.Type ts

-- a call without a result
unfoldable pub assume : List Tok → Read Op
assume ts =
    call_words ts >>= λ _ ts.
    void ts >>= λ _ ts. assume_callee ts >>= λ _ ts.
    mark 40 ts >>= λ _ ts. of_width 1 ts >>= λ cond ts.
    close_call ts >>= λ _ ts. Done (op.Assume cond) ts

-- what stands behind `%r =`, but for a phi
unfoldable pub operation : List Tok → Read Op
operation ts =
    let word = word_at ts in
    option_map_or (λ kind. binary kind (drop 1 ts)) (binary_of word) (
    option_map_or (λ kind. conversion kind (drop 1 ts)) (cast_of word) (
    if bytes_eq word (codes "icmp") then compare (drop 1 ts)
    else (if bytes_eq word (codes "select") then select (drop 1 ts)
    else (if is_call_word word then value_call ts
    else stopped place.Form ts))))

-- ---- phis

-- `[ OP, %l ]`
unfoldable pub entry : ℕ → List Tok → Read PhiEntry
entry w ts =
    mark 91 ts >>= λ _ ts. operand w ts >>= λ x ts. mark 44 ts >>= λ _ ts.
    name kinds.Local place.Other ts >>= λ from ts. mark 93 ts >>= λ _ ts.
    Done (record { value = x; from = from }) ts

-- Behind an entry and a comma stands another entry, which is left, or the phi's first pair of metadata.
unfoldable pub behind_comma : List Tok → Read Bool
behind_comma ts =
    if mark_at 91 ts then Done true ts
    else (metadatum ts >>= λ _ ts. metadatum ts >>= λ _ ts. Done false ts)

-- whether another entry follows
unfoldable pub another : List Tok → Read Bool
another ts = if mark_at 44 ts then behind_comma (drop 1 ts) else Done false ts

-- entries behind these, so many at most
abbrev pub entries_behind : (List PhiEntry → List Tok → Read (List PhiEntry)) → Bool → List PhiEntry → List Tok → Read (List PhiEntry)
entries_behind more follows entries ts = if follows then more entries ts else Done entries ts

unfoldable pub entries : ℕ → ℕ → List PhiEntry → List Tok → Read (List PhiEntry)
entries w zero so_far ts = RanOut
entries w (suc most) so_far ts = entry w ts >>= λ e ts. another ts >>= λ follows ts. entries_behind (entries w most) follows (so_far ++ e ∷ []) ts

-- behind `%r = phi`
unfoldable pub phi : List ℕ → List Tok → Read Phi
phi r ts = width ts >>= λ w ts. entries w (length ts) [] ts >>= λ es ts. Done (record { name = r; width = w; entries = es }) ts

-- ---- terminators, behind their word

unfoldable pub return_value : List Tok → Read End
return_value ts =
    if bytes_eq (word_at ts) (codes "void") then Done end.RetVoid (drop 1 ts)
    else (typed ts >>= λ x ts. Done (end.Ret x.0 x.1) ts)

unfoldable pub branch : List Tok → Read End
branch ts =
    if bytes_eq (word_at ts) (codes "label") then (target ts >>= λ to ts. Done (end.Br to) ts)
    else (keyword (codes "i1") ts >>= λ _ ts. operand 1 ts >>= λ cond ts.
    next_target ts >>= λ yes ts. next_target ts >>= λ no ts.
    Done (end.CondBr cond yes no) ts)

-- `TY NUM, label %l`
unfoldable pub case : List Tok → Read Case
case ts = width ts >>= λ w ts. literal w ts >>= λ n ts. next_target ts >>= λ to ts. Done (record { width = w; value = n; to = to }) ts

-- cases behind these up to the bracket, so many at most
unfoldable pub cases : ℕ → List Case → List Tok → Read (List Case)
cases zero so_far ts = RanOut
cases (suc most) so_far ts =
    if mark_at 93 ts then Done so_far (drop 1 ts)
    else (case ts >>= λ c ts. cases most (so_far ++ c ∷ []) ts)

unfoldable pub switch : List Tok → Read End
switch ts =
    typed ts >>= λ x ts. next_target ts >>= λ default ts. mark 91 ts >>= λ _ ts.
    cases (length ts) [] ts >>= λ cs ts.
    Done (end.Switch x.0 x.1 default cs) ts

unfoldable pub is_end_word : List ℕ → Bool
is_end_word word = bytes_eq word (codes "ret") || (bytes_eq word (codes "unreachable") || (bytes_eq word (codes "br") || bytes_eq word (codes "switch")))

-- a terminator, by its word
unfoldable pub terminator : List Tok → Read End
terminator ts =
    let word = word_at ts in
    if bytes_eq word (codes "ret") then return_value (drop 1 ts)
    else (if bytes_eq word (codes "br") then branch (drop 1 ts)
    else (if bytes_eq word (codes "switch") then switch (drop 1 ts)
    else (if bytes_eq word (codes "unreachable") then Done end.Unreachable (drop 1 ts)
    else stopped place.Keyword ts)))
