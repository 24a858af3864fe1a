-- What tokens spell, by recursion on the tree. Nothing here says how it is read: `X x ts rest` says that the tokens `ts`
-- are a spelling of x and then `rest`.
use Rattle.std.specs.Prelude.{◌≡◌, ◌⊎◌, ℕ, zero, suc, ◌+◌, ◌-◌, ◌*◌, ◌/◌, ◌%◌, ◌^◌, ◌<◌, ◌≤◌, Bool, true, false, ◌&&◌, ◌||◌, ◌==◌, IsTrue, List, [], ◌∷◌, ◌++◌, codes, Option, Some, None, if◌then◌else◌}
use Rattle.std.specs.List.{list_any, list_all, All}
use Rattle.std.specs.Str.{bytes_eq}
use Rattle.std.specs.Fmt.{decimal}
use Rattle.std.specs.Char.{is_ascii_digit}
use Rattle.op_table.specs.Words as tables
use Rattle.ll_token.specs.declared.token.TokenKind.{TokenKind}
use Rattle.ll_token.specs.declared.token.TokenKind.TheVariants as kinds
use Rattle.ll_tree.specs.declared.func.Func.{Func}
use Rattle.ll_tree.specs.declared.func.Ret.{Ret}
use Rattle.ll_tree.specs.declared.func.Ret.TheVariants as ret
use Rattle.ll_tree.specs.declared.func.Param.{Param}
use Rattle.ll_tree.specs.declared.func.Range.{Range}
use Rattle.ll_tree.specs.declared.block.Block.{Block}
use Rattle.ll_tree.specs.declared.block.Phi.{Phi}
use Rattle.ll_tree.specs.declared.block.PhiEntry.{PhiEntry}
use Rattle.ll_tree.specs.declared.block.Instr.{Instr}
use Rattle.ll_tree.specs.declared.block.Case.{Case}
use Rattle.ll_tree.specs.declared.block.Operand.{Operand}
use Rattle.ll_tree.specs.declared.block.Operand.TheVariants as value
use Rattle.ll_tree.specs.declared.block.End.{End}
use Rattle.ll_tree.specs.declared.block.End.TheVariants as end
use Rattle.ll_tree.specs.declared.op.Op.{Op}
use Rattle.ll_tree.specs.declared.op.Op.TheVariants as op
use Rattle.ll_tree.specs.declared.op.Flags.{Flags}
use Rattle.ll_tree.specs.declared.op.BinKind.{BinKind}
use Rattle.ll_tree.specs.declared.op.CastKind.{CastKind}
use Rattle.ll_tree.specs.declared.op.Pred.{Pred}
use Rattle.ll_tree.specs.Words.{is_called, bin_word, cast_word, pred_word}
use Rattle.ll_grammar.specs.Tokens.{Tok, held_name, has_prefix, is_debug, debug_at}
use Rattle.ll_grammar.specs.Words.{takes, cast_takes, compare_takes}

-- ---- single tokens

-- one token of this kind and these bytes
abbrev pub Is : TokenKind → List ℕ → (ts rest : List Tok) → Type 0
Is kind text ts rest = (t : Tok) × (ts ≡ t ∷ rest) × (t.kind ≡ kind) × (t.text ≡ text)

abbrev pub IsWord : List ℕ → (ts rest : List Tok) → Type 0
IsWord word ts rest = Is kinds.Word word ts rest

abbrev pub IsMark : ℕ → (ts rest : List Tok) → Type 0
IsMark byte ts rest = Is kinds.Mark (byte ∷ []) ts rest

-- one token of this kind that holds this name
abbrev pub IsNameOf : TokenKind → List ℕ → (ts rest : List Tok) → Type 0
IsNameOf kind name ts rest = (t : Tok) × (ts ≡ t ∷ rest) × (t.kind ≡ kind) × (held_name t.kind t.text ≡ name)

-- `i` and the width, 1 to 32
abbrev pub IsType : ℕ → (ts rest : List Tok) → Type 0
IsType w ts rest = IsWord (codes "i" ++ decimal w) ts rest × (1 ≤ w) × (w ≤ 32)

-- the number that digits write behind those whose value this is
abbrev pub value_behind : ℕ → List ℕ → ℕ
value_behind value [] = value
value_behind value (digit ∷ digits) = value_behind (10 * value + (digit - 48)) digits

-- A Number writes n at this width: a value below 2^w, or one that its sign takes down to -2^(w - 1); 45 is `-`.
abbrev pub WritesNumber : ℕ → ℕ → List ℕ → Type 0
WritesNumber w n [] = ⊥
WritesNumber w n (byte ∷ digits) =
    ((byte ≡ 45 → ⊥) × (n ≡ value_behind 0 (byte ∷ digits)) × (n < 2 ^ w))
    ⊎ ((byte ≡ 45) × (value_behind 0 digits ≤ 2 ^ w / 2) × (n ≡ (2 ^ w - value_behind 0 digits) % 2 ^ w))

-- `true` and `false` are of width 1
abbrev pub WritesBit : ℕ → ℕ → List ℕ → Type 0
WritesBit w n text = (w ≡ 1) × (((n ≡ 1) × (text ≡ codes "true")) ⊎ ((n ≡ 0) × (text ≡ codes "false")))

abbrev pub IsLiteral : ℕ → ℕ → (ts rest : List Tok) → Type 0
IsLiteral w n ts rest = (t : Tok) × (ts ≡ t ∷ rest) × (((t.kind ≡ kinds.Number) × WritesNumber w n t.text) ⊎ ((t.kind ≡ kinds.Word) × WritesBit w n t.text))

-- ---- operands and targets

abbrev pub IsOperand : ℕ → Operand → (ts rest : List Tok) → Type 0
IsOperand w (value.Name name) ts rest = IsNameOf kinds.Local name ts rest
IsOperand w (value.Const n) ts rest = IsLiteral w n ts rest
IsOperand w value.Poison ts rest = IsWord (codes "poison") ts rest

-- `TY OP`
abbrev pub IsTyped : ℕ → Operand → (ts rest : List Tok) → Type 0
IsTyped w x ts rest = (a : List Tok) × IsType w ts a × IsOperand w x a rest

-- `, OP`
abbrev pub IsSecond : ℕ → Operand → (ts rest : List Tok) → Type 0
IsSecond w x ts rest = (a : List Tok) × IsMark 44 ts a × IsOperand w x a rest

-- `label %l`
abbrev pub IsTarget : List ℕ → (ts rest : List Tok) → Type 0
IsTarget to ts rest = (a : List Tok) × IsWord (codes "label") ts a × IsNameOf kinds.Local to a rest

-- `, label %l`
abbrev pub IsNextTarget : List ℕ → (ts rest : List Tok) → Type 0
IsNextTarget to ts rest = (a : List Tok) × IsMark 44 ts a × IsTarget to a rest

-- ---- words

abbrev pub AreWords : List (List ℕ) → (ts rest : List Tok) → Type 0
AreWords [] ts rest = ts ≡ rest
AreWords (word ∷ words) ts rest = (a : List Tok) × IsWord word ts a × AreWords words a rest

abbrev pub has : List ℕ → List (List ℕ) → Bool
has word words = list_any (λ w. bytes_eq w word) words

-- no word stands twice
abbrev pub AreOnce : List (List ℕ) → Type 0
AreOnce [] = Unit {0}
AreOnce (word ∷ words) = (has word words ≡ false) × AreOnce words

-- the flags that these words are
abbrev pub flags_of : List (List ℕ) → Flags
flags_of words = record {
  nuw = has (codes "nuw") words;
  nsw = has (codes "nsw") words;
  exact = has (codes "exact") words;
  nneg = has (codes "nneg") words;
  samesign = has (codes "samesign") words;
  disjoint = has (codes "disjoint") words;
}

-- the words of these flags
abbrev pub flag_words : Flags → List ℕ → Bool
flag_words allowed word =
    (allowed.nuw && bytes_eq word (codes "nuw")) || ((allowed.nsw && bytes_eq word (codes "nsw")) || ((allowed.exact && bytes_eq word (codes "exact"))
    || ((allowed.nneg && bytes_eq word (codes "nneg")) || ((allowed.samesign && bytes_eq word (codes "samesign")) || (allowed.disjoint && bytes_eq word (codes "disjoint"))))))

-- flags of those that are allowed, in any order, each at most once
abbrev pub AreFlags : (allowed f : Flags) → (ts rest : List Tok) → Type 0
AreFlags allowed f ts rest = (words : List (List ℕ)) × AreWords words ts rest × IsTrue (list_all (flag_words allowed) words) × AreOnce words × (f ≡ flags_of words)

-- ---- instructions with a result, behind `%r =`

-- the word of an operation, or the name of the function that computes it without its type
abbrev pub word_of : BinKind → List ℕ
word_of kind = if is_called kind then codes "llvm." ++ (bin_word kind ++ codes ".") else bin_word kind

-- `call`, `tail call` or `notail call`
abbrev pub IsCall : (ts rest : List Tok) → Type 0
IsCall ts rest =
    IsWord (codes "call") ts rest
    ⊎ ((a : List Tok) × (IsWord (codes "tail") ts a ⊎ IsWord (codes "notail") ts a) × IsWord (codes "call") a rest)

-- a Hash that is no debug record, and where none is written no such Hash follows
abbrev pub IsGroup : Tok → Type 0
IsGroup t = (t.kind ≡ kinds.Hash) × (has_prefix (codes "#dbg_") t.text ≡ false)

abbrev pub IsNoGroup : List Tok → Type 0
IsNoGroup [] = Unit {0}
IsNoGroup (t ∷ ts) = IsGroup t → ⊥

-- `)`, and the attributes of the call where they are written
abbrev pub ClosesCall : (ts rest : List Tok) → Type 0
ClosesCall ts rest = (a : List Tok) × IsMark 41 ts a × (((t : Tok) × (a ≡ t ∷ rest) × IsGroup t) ⊎ ((a ≡ rest) × IsNoGroup rest))

-- `CALL TY @NAME.TY ( TY OP ,`
abbrev pub BeginsCall : (name : List ℕ) → ℕ → Operand → (ts rest : List Tok) → Type 0
BeginsCall name w x ts rest =
    (a b c d e : List Tok) × IsCall ts a × IsType w a b × IsNameOf kinds.Global (name ++ (codes "i" ++ decimal w)) b c × IsMark 40 c d × IsTyped w x d e × IsMark 44 e rest

abbrev pub SpellsBin : Bool → BinKind → Flags → ℕ → (left right : Operand) → (ts rest : List Tok) → Type 0
SpellsBin false kind f w left right ts rest =
    (a b c : List Tok) × IsWord (word_of kind) ts a × AreFlags (takes kind) f a b × IsTyped w left b c × IsSecond w right c rest
SpellsBin true kind f w left right ts rest =
    (f ≡ flags_of []) × (a b : List Tok) × BeginsCall (word_of kind) w left ts a × IsTyped w right a b × ClosesCall b rest

-- what an instruction computes
abbrev pub SpellsOp : Op → (ts rest : List Tok) → Type 0
SpellsOp (op.Bin kind f w left right) ts rest = SpellsBin (is_called kind) kind f w left right ts rest
SpellsOp (op.Cmp p f w left right) ts rest =
    (a b c d : List Tok) × IsWord (codes "icmp") ts a × AreFlags compare_takes f a b × IsWord (pred_word p) b c × IsTyped w left c d × IsSecond w right d rest
SpellsOp (op.Cast kind f from arg to) ts rest =
    (a b c d : List Tok) × IsWord (cast_word kind) ts a × AreFlags (cast_takes kind) f a b × IsTyped from arg b c × IsWord (codes "to") c d × IsType to d rest
SpellsOp (op.Select w cond left right) ts rest =
    (a b c d e : List Tok) × IsWord (codes "select") ts a × IsTyped 1 cond a b × IsMark 44 b c × IsTyped w left c d × IsMark 44 d e × IsTyped w right e rest
SpellsOp (op.Abs w arg strict) ts rest =
    (n : ℕ) × (strict ≡ (n == 1)) × (a b c : List Tok) × BeginsCall (codes "llvm.abs.") w arg ts a × IsType 1 a b × IsLiteral 1 n b c × ClosesCall c rest
SpellsOp (op.Assume cond) ts rest =
    (a b c d e : List Tok) × IsCall ts a × IsWord (codes "void") a b × IsNameOf kinds.Global (codes "llvm.assume") b c × IsMark 40 c d × IsTyped 1 cond d e × ClosesCall e rest

-- `%r =` and what it stands for; an assume has no result, and the empty name
abbrev pub SpellsResultOf : List ℕ → Op → (ts rest : List Tok) → Type 0
SpellsResultOf name (op.Assume cond) ts rest = (name ≡ []) × SpellsOp (op.Assume cond) ts rest
SpellsResultOf name computed ts rest = (a b : List Tok) × IsNameOf kinds.Local name ts a × IsMark 61 a b × SpellsOp computed b rest

abbrev pub SpellsInstr : Instr → (ts rest : List Tok) → Type 0
SpellsInstr i ts rest = SpellsResultOf i.name i.op ts rest

-- ---- phis

-- `[ OP, %l ]`
abbrev pub SpellsEntry : ℕ → PhiEntry → (ts rest : List Tok) → Type 0
SpellsEntry w e ts rest = (a b c d : List Tok) × IsMark 91 ts a × IsOperand w e.value a b × IsMark 44 b c × IsNameOf kinds.Local e.from c d × IsMark 93 d rest

-- entries with a comma between two
abbrev pub SpellEntries : ℕ → List PhiEntry → (ts rest : List Tok) → Type 0
SpellEntries w [] ts rest = ⊥
SpellEntries w (e ∷ []) ts rest = SpellsEntry w e ts rest
SpellEntries w (e ∷ next ∷ entries) ts rest = (a b : List Tok) × SpellsEntry w e ts a × IsMark 44 a b × SpellEntries w (next ∷ entries) b rest

abbrev pub SpellsPhi : Phi → (ts rest : List Tok) → Type 0
SpellsPhi p ts rest =
    (a b c d : List Tok) × IsNameOf kinds.Local p.name ts a × IsMark 61 a b × IsWord (codes "phi") b c × IsType p.width c d × SpellEntries p.width p.entries d rest

-- ---- terminators

abbrev pub SpellsCase : Case → (ts rest : List Tok) → Type 0
SpellsCase c ts rest = (a b : List Tok) × IsType c.width ts a × IsLiteral c.width c.value a b × IsNextTarget c.to b rest

abbrev pub SpellCases : List Case → (ts rest : List Tok) → Type 0
SpellCases [] ts rest = ts ≡ rest
SpellCases (c ∷ cases) ts rest = (a : List Tok) × SpellsCase c ts a × SpellCases cases a rest

abbrev pub SpellsEnd : End → (ts rest : List Tok) → Type 0
SpellsEnd end.RetVoid ts rest = (a : List Tok) × IsWord (codes "ret") ts a × IsWord (codes "void") a rest
SpellsEnd (end.Ret w x) ts rest = (a : List Tok) × IsWord (codes "ret") ts a × IsTyped w x a rest
SpellsEnd end.Unreachable ts rest = IsWord (codes "unreachable") ts rest
SpellsEnd (end.Br to) ts rest = (a : List Tok) × IsWord (codes "br") ts a × IsTarget to a rest
SpellsEnd (end.CondBr cond left right) ts rest =
    (a b c : List Tok) × IsWord (codes "br") ts a × IsTyped 1 cond a b × IsNextTarget left b c × IsNextTarget right c rest
SpellsEnd (end.Switch w x default cases) ts rest =
    (a b c d e : List Tok) × IsWord (codes "switch") ts a × IsTyped w x a b × IsNextTarget default b c × IsMark 91 c d × SpellCases cases d e × IsMark 93 e rest

-- ---- what has no meaning

-- so many times `, META META`
abbrev pub AreMetadata : ℕ → (ts rest : List Tok) → Type 0
AreMetadata zero ts rest = ts ≡ rest
AreMetadata (suc more) ts rest =
    (c m n : Tok) × (a : List Tok) × (ts ≡ c ∷ m ∷ n ∷ a) × (c.kind ≡ kinds.Mark) × (c.text ≡ 44 ∷ []) × (m.kind ≡ kinds.Meta) × (n.kind ≡ kinds.Meta) × AreMetadata more a rest

-- no more of the line is left
abbrev pub LeavesLine : ℕ → List Tok → Type 0
LeavesLine line [] = Unit {0}
LeavesLine line (t ∷ ts) = t.line ≡ line → ⊥

-- so many lines that are passed over, all tokens of each
abbrev pub ArePassed : ℕ → (ts rest : List Tok) → Type 0
ArePassed zero ts rest = ts ≡ rest
ArePassed (suc more) ts rest =
    (t : Tok) × (others a : List Tok) × (ts ≡ t ∷ (others ++ a)) × (is_debug t ≡ true) × All (λ (o : Tok). o.line ≡ t.line) others × LeavesLine t.line a × ArePassed more a rest

-- a statement, behind lines that are passed over and before its metadata; it begins no such line itself
abbrev pub IsStatement : ((ts rest : List Tok) → Type 0) → (ts rest : List Tok) → Type 0
IsStatement Spelled ts rest =
    (lines pairs : ℕ) × (a b : List Tok) × ArePassed lines ts a × (debug_at a ≡ false) × Spelled a b × AreMetadata pairs b rest

-- ---- blocks

abbrev pub SpellPhis : List Phi → (ts rest : List Tok) → Type 0
SpellPhis [] ts rest = ts ≡ rest
SpellPhis (p ∷ phis) ts rest = (a : List Tok) × IsStatement (SpellsPhi p) ts a × SpellPhis phis a rest

abbrev pub SpellInstrs : List Instr → (ts rest : List Tok) → Type 0
SpellInstrs [] ts rest = ts ≡ rest
SpellInstrs (i ∷ body) ts rest = (a : List Tok) × IsStatement (SpellsInstr i) ts a × SpellInstrs body a rest

-- a block behind its label
abbrev pub SpellsBlock : Block → (ts rest : List Tok) → Type 0
SpellsBlock b ts rest = (a c : List Tok) × SpellPhis b.phis ts a × SpellInstrs b.body a c × IsStatement (SpellsEnd b.end) c rest

-- blocks with their labels
abbrev pub SpellBlocks : List Block → (ts rest : List Tok) → Type 0
SpellBlocks [] ts rest = ts ≡ rest
SpellBlocks (b ∷ blocks) ts rest = (a c : List Tok) × IsNameOf kinds.Label b.label ts a × SpellsBlock b a c × SpellBlocks blocks c rest

-- the entry: its label is written behind lines that are passed over, or left out
abbrev pub SpellsEntryBlock : (unwritten : List ℕ) → Block → (ts rest : List Tok) → Type 0
SpellsEntryBlock unwritten b ts rest =
    ((lines : ℕ) × (a c : List Tok) × ArePassed lines ts a × IsNameOf kinds.Label b.label a c × SpellsBlock b c rest)
    ⊎ ((b.label ≡ unwritten) × SpellsBlock b ts rest)

abbrev pub SpellBody : (unwritten : List ℕ) → List Block → (ts rest : List Tok) → Type 0
SpellBody unwritten [] ts rest = ⊥
SpellBody unwritten (b ∷ blocks) ts rest = (a : List Tok) × SpellsEntryBlock unwritten b ts a × SpellBlocks blocks a rest

-- ---- the header

-- words of a table, and whether `noundef` is among them
abbrev pub AreAttributes : (table words : List (List ℕ)) → (ts rest : List Tok) → Type 0
AreAttributes table words ts rest = AreWords words ts rest × IsTrue (list_all (λ word. has word table) words)

-- `range ( TY NUM , NUM )`
abbrev pub SpellsRange : ℕ → Range → (ts rest : List Tok) → Type 0
SpellsRange w r ts rest =
    (r.lo ≡ r.hi → ⊥) × (a b c d e f : List Tok) × IsWord (codes "range") ts a × IsMark 40 a b × IsType w b c × IsLiteral w r.lo c d × IsMark 44 d e × IsLiteral w r.hi e f × IsMark 41 f rest

-- words of a table with at most one range among them; the words are given as those before it and those behind it
abbrev pub SpellsAttributes : (table : List (List ℕ)) → ℕ → (noundef : Bool) → Option Range → (ts rest : List Tok) → Type 0
SpellsAttributes table w noundef None ts rest =
    (words : List (List ℕ)) × AreAttributes table words ts rest × (noundef ≡ has (codes "noundef") words)
SpellsAttributes table w noundef (Some r) ts rest =
    (before behind : List (List ℕ)) × (a b : List Tok)
    × AreAttributes table before ts a × SpellsRange w r a b × AreAttributes table behind b rest × (noundef ≡ has (codes "noundef") (before ++ behind))

abbrev pub SpellsResult : Ret → (noundef : Bool) → Option Range → (ts rest : List Tok) → Type 0
SpellsResult ret.Void noundef range ts rest = (a : List Tok) × (range ≡ None) × SpellsAttributes tables.header 1 noundef range ts a × IsWord (codes "void") a rest
SpellsResult (ret.Int w) noundef range ts rest = (a : List Tok) × SpellsAttributes tables.header w noundef range ts a × IsType w a rest

abbrev pub is_some : {A : Type 0} → Option A → Bool
is_some None = false
is_some (Some x) = true

-- a parameter whose name is written, or left out where that many unnamed ones stand before it
abbrev pub SpellsParam : (unnamed : ℕ) → Param → (ts rest : List Tok) → Type 0
SpellsParam unnamed p ts rest =
    (noundef : Bool) × (a b : List Tok) × IsType p.width ts a × SpellsAttributes tables.attribute p.width noundef p.range a b
    × (p.strict ≡ (noundef && is_some p.range)) × (IsNameOf kinds.Local p.name b rest ⊎ ((b ≡ rest) × (p.name ≡ decimal unnamed)))

abbrev pub is_unnamed : Param → Bool
is_unnamed p = list_all is_ascii_digit p.name

abbrev pub unnamed_with : ℕ → Param → ℕ
unnamed_with unnamed p = if is_unnamed p then unnamed + 1 else unnamed

-- parameters with a comma between two, and the parenthesis that closes
abbrev pub SpellParams : (unnamed : ℕ) → List Param → (ts rest : List Tok) → Type 0
SpellParams unnamed [] ts rest = IsMark 41 ts rest
SpellParams unnamed (p ∷ []) ts rest = (a : List Tok) × SpellsParam unnamed p ts a × IsMark 41 a rest
SpellParams unnamed (p ∷ next ∷ params) ts rest = (a b : List Tok) × SpellsParam unnamed p ts a × IsMark 44 a b × SpellParams (unnamed_with unnamed p) (next ∷ params) b rest

-- how many parameters are unnamed
abbrev pub count_unnamed : ℕ → List Param → ℕ
count_unnamed unnamed [] = unnamed
count_unnamed unnamed (p ∷ params) = count_unnamed (unnamed_with unnamed p) params

-- no brace
abbrev pub IsNoBrace : Tok → Type 0
IsNoBrace t = (t.kind ≡ kinds.Mark) → ((t.text ≡ 123 ∷ []) ⊎ (t.text ≡ 125 ∷ [])) → ⊥

-- ---- functions

-- The tokens before the last brace of a text spell the function.
pub record SpellsFunction (f : Func) (ts : List Tok) : Type 0 where
  pub result : List Tok
  pub name : List Tok
  pub parenthesis : List Tok
  pub params : List Tok
  pub between : List Tok
  pub brace : List Tok
  pub body : List Tok
  pub rest : List Tok
  pub is_define : IsWord (codes "define") ts result
  pub is_result : SpellsResult f.ret f.ret_noundef f.ret_range result name
  pub is_name : IsNameOf kinds.Global f.name name parenthesis
  pub opens : IsMark 40 parenthesis params
  pub are_params : SpellParams 0 f.params params rest
  pub is_between : rest ≡ between ++ brace
  pub no_brace : All IsNoBrace between
  pub opens_body : IsMark 123 brace body
  pub is_body : SpellBody (decimal (count_unnamed 0 f.params)) f.blocks body []
