-- What is spelled takes tokens, and what is said of each token of a text is said of those behind.
use Rattle.std.proofs.Common.{◌≡◌, ◌⊎◌, ◌+◌, ◌≤◌, ℕ, zero, suc, Bool, true, false, List, [], ◌∷◌, ◌++◌, length, Option, Some, None, subst, ap, inl, inr, arith}
use Rattle.std.specs.Prelude.{codes}
use Rattle.ll_tree.specs.declared.func.Param.{Param}
use Rattle.ll_tree.specs.declared.func.Range.{Range}
use Rattle.ll_tree.specs.declared.func.Ret.{Ret}
use Rattle.ll_tree.specs.declared.func.Ret.TheVariants as ret
use Rattle.ll_tree.specs.declared.block.Block.{Block}
use Rattle.ll_tree.specs.declared.block.Phi.{Phi}
use Rattle.ll_tree.specs.declared.block.PhiEntry.{PhiEntry}
use Rattle.ll_tree.specs.declared.block.Instr.{Instr}
use Rattle.ll_tree.specs.declared.block.Case.{Case}
use Rattle.ll_tree.specs.declared.block.Operand.{Operand}
use Rattle.ll_tree.specs.declared.block.Operand.TheVariants as value
use Rattle.ll_tree.specs.declared.block.End.{End}
use Rattle.ll_tree.specs.declared.block.End.TheVariants as end
use Rattle.ll_tree.specs.declared.op.Op.{Op}
use Rattle.ll_tree.specs.declared.op.Op.TheVariants as op
use Rattle.ll_tree.specs.declared.op.Flags.{Flags}
use Rattle.ll_tree.specs.declared.op.BinKind.{BinKind}
use Rattle.ll_token.specs.declared.token.TokenKind.{TokenKind}
use Rattle.op_table.specs.Words as tables
use Rattle.ll_grammar.specs.Tokens.{Tok, AreNamed}
use Rattle.ll_grammar.specs.Words.{takes, cast_takes, compare_takes}
use Rattle.ll_tree.specs.Words.{is_called}
use Rattle.ll_grammar.specs.Spells.{Is, word_of, IsWord, IsNameOf, IsType, IsLiteral, IsOperand, IsTyped, IsSecond, IsTarget, IsNextTarget, AreWords, AreFlags, IsCall, ClosesCall, BeginsCall, SpellsBin, SpellsOp, SpellsResultOf, SpellsEntry, SpellEntries, SpellsPhi, SpellsCase, SpellCases, SpellsEnd, AreMetadata, ArePassed, IsStatement, SpellPhis, SpellInstrs, SpellsBlock, SpellsAttributes, SpellParams, SpellsParam, unnamed_with, SpellsResult}

-- `rest` is what is left of `ts` behind so many tokens at least.
pub record Leaves (least : ℕ) (ts rest : List Tok) : Type 0 where
  pub takes : least + length rest ≤ length ts
  pub keeps : AreNamed ts → AreNamed rest

pub one : {ts rest : List Tok} {t : Tok} → ts ≡ t ∷ rest → Leaves 1 ts rest
one e = record { takes = omega (arith, ap length e); keeps = λ n. (subst AreNamed e n).1 }

pub none : {ts rest : List Tok} → ts ≡ rest → Leaves 0 ts rest
none e = record { takes = omega (arith, ap length e); keeps = subst AreNamed e }

pub others : (os rest : List Tok) → Leaves 0 (os ++ rest) rest
others [] rest = record { takes = omega arith; keeps = λ n. n }
others (o ∷ os) rest = let more = others os rest in record { takes = omega (arith, more.takes); keeps = λ n. more.keeps n.1 }

-- two pieces, of which the first takes so many tokens, or the second
infixr 20 ◌▸◌
pub ◌▸◌ : {m n : ℕ} {ts a rest : List Tok} → Leaves m ts a → Leaves n a rest → Leaves m ts rest
first ▸ second = record { takes = omega (arith, first.takes, second.takes); keeps = λ n. second.keeps (first.keeps n) }

infixr 20 ◌▹◌
pub ◌▹◌ : {m n : ℕ} {ts a rest : List Tok} → Leaves m ts a → Leaves n a rest → Leaves n ts rest
first ▹ second = record { takes = omega (arith, first.takes, second.takes); keeps = λ n. second.keeps (first.keeps n) }

any : {n : ℕ} {ts rest : List Tok} → Leaves n ts rest → Leaves 0 ts rest
any is = record { takes = omega (arith, is.takes); keeps = is.keeps }

module _ (ts rest : List Tok) where
  pub operand_leaves : (w : ℕ) (x : Operand) → IsOperand w x ts rest → Leaves 1 ts rest
  operand_leaves w (value.Name name) is = one is.1
  operand_leaves w (value.Const n) is = one is.1
  operand_leaves w value.Poison is = one is.1

pub typed_leaves : (ts rest : List Tok) (w : ℕ) (x : Operand) → IsTyped w x ts rest → Leaves 1 ts rest
typed_leaves ts rest w x (a, t, o) = one t.0.1 ▸ operand_leaves a rest w x o

pub second_leaves : (ts rest : List Tok) (w : ℕ) (x : Operand) → IsSecond w x ts rest → Leaves 1 ts rest
second_leaves ts rest w x (a, comma, o) = one comma.1 ▸ operand_leaves a rest w x o

pub target_leaves : (ts rest : List Tok) (to : List ℕ) → IsTarget to ts rest → Leaves 1 ts rest
target_leaves ts rest to (a, label, is) = one label.1 ▸ one is.1

pub next_target_leaves : (ts rest : List Tok) (to : List ℕ) → IsNextTarget to ts rest → Leaves 1 ts rest
next_target_leaves ts rest to (a, comma, is) = one comma.1 ▸ target_leaves a rest to is

pub words_leave : (words : List (List ℕ)) (ts rest : List Tok) → AreWords words ts rest → Leaves (length words) ts rest
words_leave [] ts rest is = none is
words_leave (word ∷ words) ts rest (a, is, more) =
    let behind = words_leave words a rest more in record { takes = omega (arith, ap length is.1, behind.takes); keeps = λ n. behind.keeps ((one is.1).keeps n) }

flags_leave : (allowed f : Flags) (ts rest : List Tok) → AreFlags allowed f ts rest → Leaves 0 ts rest
flags_leave allowed f ts rest are = any (words_leave are.0 ts rest are.1)

-- ---- operations

call_leaves : (ts rest : List Tok) → IsCall ts rest → Leaves 1 ts rest
call_leaves ts rest (inl is) = one is.1
call_leaves ts rest (inr (a, before, is)) = first before ▸ one is.1
  where
    first : IsWord (codes "tail") ts a ⊎ IsWord (codes "notail") ts a → Leaves 1 ts a
    first (inl is) = one is.1
    first (inr is) = one is.1

closes_leaves : (ts rest : List Tok) → ClosesCall ts rest → Leaves 1 ts rest
closes_leaves ts rest (a, closes, inl group) = one closes.1 ▸ one group.1
closes_leaves ts rest (a, closes, inr empty) = one closes.1 ▸ none empty.0

begins_leave : (name : List ℕ) (w : ℕ) (x : Operand) (ts rest : List Tok) → BeginsCall name w x ts rest → Leaves 1 ts rest
begins_leave name w x ts rest (a, b, c, d, e, call, t, named, opens, first, comma) =
    call_leaves ts a call ▸ one t.0.1 ▸ one named.1 ▸ one opens.1 ▸ typed_leaves d e w x first ▸ one comma.1

bin_leaves : (called : Bool) (kind : BinKind) (f : Flags) (w : ℕ) (left right : Operand) (ts rest : List Tok) → SpellsBin called kind f w left right ts rest → Leaves 1 ts rest
bin_leaves false kind f w left right ts rest (a, b, c, word, fs, l, r) = one word.1 ▸ flags_leave (takes kind) f a b fs ▸ typed_leaves b c w left l ▸ second_leaves c rest w right r
bin_leaves true kind f w left right ts rest (no_flag, a, b, begins, r, closes) = begins_leave (word_of kind) w left ts a begins ▸ typed_leaves a b w right r ▸ closes_leaves b rest closes

pub op_leaves : (computed : Op) (ts rest : List Tok) → SpellsOp computed ts rest → Leaves 1 ts rest
op_leaves (op.Bin kind f w left right) ts rest is = bin_leaves (is_called kind) kind f w left right ts rest is
op_leaves (op.Cmp p f w left right) ts rest (a, b, c, d, word, fs, is, l, r) =
    one word.1 ▸ flags_leave compare_takes f a b fs ▸ one is.1 ▸ typed_leaves c d w left l ▸ second_leaves d rest w right r
op_leaves (op.Cast kind f from arg to) ts rest (a, b, c, d, word, fs, t, is, w) =
    one word.1 ▸ flags_leave (cast_takes kind) f a b fs ▸ typed_leaves b c from arg t ▸ one is.1 ▸ one w.0.1
op_leaves (op.Select w cond_ left right) ts rest (a, b, c, d, e, word, x, comma, l, again, r) =
    one word.1 ▸ typed_leaves a b 1 cond_ x ▸ one comma.1 ▸ typed_leaves c d w left l ▸ one again.1 ▸ typed_leaves e rest w right r
op_leaves (op.Abs w arg strict) ts rest (n, is, a, b, c, begins, t, l, closes) =
    begins_leave (codes "llvm.abs.") w arg ts a begins ▸ one t.0.1 ▸ one l.1 ▸ closes_leaves c rest closes
op_leaves (op.Assume cond_) ts rest (a, b, c, d, e, call, no_type, named, opens, typed, closes) =
    call_leaves ts a call ▸ one no_type.1 ▸ one named.1 ▸ one opens.1 ▸ typed_leaves d e 1 cond_ typed ▸ closes_leaves e rest closes

pub instr_leaves : (i : Instr) (ts rest : List Tok) → SpellsResultOf i.name i.op ts rest → Leaves 1 ts rest
instr_leaves i ts rest is = go i.op is
  where
    go : (computed : Op) → SpellsResultOf i.name computed ts rest → Leaves 1 ts rest
    go (op.Assume cond_) (name, is) = op_leaves (op.Assume cond_) ts rest is
    go (op.Bin kind f w left right) (a, b, named, equals, is) = one named.1 ▸ one equals.1 ▸ op_leaves (op.Bin kind f w left right) b rest is
    go (op.Cmp p f w left right) (a, b, named, equals, is) = one named.1 ▸ one equals.1 ▸ op_leaves (op.Cmp p f w left right) b rest is
    go (op.Cast kind f from arg to) (a, b, named, equals, is) = one named.1 ▸ one equals.1 ▸ op_leaves (op.Cast kind f from arg to) b rest is
    go (op.Select w cond_ left right) (a, b, named, equals, is) = one named.1 ▸ one equals.1 ▸ op_leaves (op.Select w cond_ left right) b rest is
    go (op.Abs w arg strict) (a, b, named, equals, is) = one named.1 ▸ one equals.1 ▸ op_leaves (op.Abs w arg strict) b rest is

-- ---- phis and terminators

pub entry_leaves : (w : ℕ) (e : PhiEntry) (ts rest : List Tok) → SpellsEntry w e ts rest → Leaves 1 ts rest
entry_leaves w e ts rest (a, b, c, d, opens, x, comma, from, closes) = one opens.1 ▸ operand_leaves a b w e.value x ▸ one comma.1 ▸ one from.1 ▸ one closes.1

entries_leave : (w : ℕ) (es : List PhiEntry) (ts rest : List Tok) → SpellEntries w es ts rest → Leaves 1 ts rest
entries_leave w [] ts rest empty = absurd empty
entries_leave w (e ∷ []) ts rest is = entry_leaves w e ts rest is
entries_leave w (e ∷ next ∷ es) ts rest (a, b, is, comma, more) = entry_leaves w e ts a is ▸ one comma.1 ▸ entries_leave w (next ∷ es) b rest more

pub phi_leaves : (p : Phi) (ts rest : List Tok) → SpellsPhi p ts rest → Leaves 1 ts rest
phi_leaves p ts rest (a, b, c, d, named, equals, word, t, es) = one named.1 ▸ one equals.1 ▸ one word.1 ▸ one t.0.1 ▸ entries_leave p.width p.entries d rest es

pub case_leaves : (c : Case) (ts rest : List Tok) → SpellsCase c ts rest → Leaves 1 ts rest
case_leaves c ts rest (a, b, t, l, to) = one t.0.1 ▸ one l.1 ▸ next_target_leaves b rest c.to to

cases_leave : (cs : List Case) (ts rest : List Tok) → SpellCases cs ts rest → Leaves 0 ts rest
cases_leave [] ts rest is = none is
cases_leave (c ∷ cs) ts rest (a, is, more) = case_leaves c ts a is ▹ cases_leave cs a rest more

pub end_leaves : (e : End) (ts rest : List Tok) → SpellsEnd e ts rest → Leaves 1 ts rest
end_leaves end.RetVoid ts rest (a, word, is) = one word.1 ▸ one is.1
end_leaves (end.Ret w x) ts rest (a, word, t) = one word.1 ▸ typed_leaves a rest w x t
end_leaves end.Unreachable ts rest is = one is.1
end_leaves (end.Br to) ts rest (a, word, is) = one word.1 ▸ target_leaves a rest to is
end_leaves (end.CondBr cond_ left right) ts rest (a, b, c, word, t, l, r) = one word.1 ▸ typed_leaves a b 1 cond_ t ▸ next_target_leaves b c left l ▸ next_target_leaves c rest right r
end_leaves (end.Switch w x default cs) ts rest (a, b, c, d, e, word, t, to, opens, are, closes) =
    one word.1 ▸ typed_leaves a b w x t ▸ next_target_leaves b c default to ▸ one opens.1 ▸ cases_leave cs d e are ▸ one closes.1

-- ---- statements and blocks

pub metadata_leave : (n : ℕ) (ts rest : List Tok) → AreMetadata n ts rest → Leaves n ts rest
metadata_leave zero ts rest is = none is
metadata_leave (suc n) ts rest (c, m, k, a, is, c1, c2, m1, k1, more) =
    let behind = metadata_leave n a rest more in record { takes = omega (arith, ap length is, behind.takes); keeps = λ named. behind.keeps ((one is).keeps named).1.1 }

pub passed_leave : (n : ℕ) (ts rest : List Tok) → ArePassed n ts rest → Leaves n ts rest
passed_leave zero ts rest is = none is
passed_leave (suc n) ts rest (t, line, a, is, debug, all, leaves, more) =
    let behind = others line a ▹ passed_leave n a rest more in record { takes = omega (arith, ap length is, behind.takes); keeps = λ named. behind.keeps ((one is).keeps named) }

pub statement_leaves : (Spelled : (ts rest : List Tok) → Type 0) → ((ts rest : List Tok) → Spelled ts rest → Leaves 1 ts rest) → (ts rest : List Tok) → IsStatement Spelled ts rest → Leaves 1 ts rest
statement_leaves Spelled each ts rest (lines, pairs, a, b, passes, starts, is, meta) = passed_leave lines ts a passes ▹ each a b is ▸ metadata_leave pairs b rest meta

pub phis_leave : (ps : List Phi) (ts rest : List Tok) → SpellPhis ps ts rest → Leaves 0 ts rest
phis_leave [] ts rest is = none is
phis_leave (p ∷ ps) ts rest (a, is, more) = statement_leaves (SpellsPhi p) (phi_leaves p) ts a is ▹ phis_leave ps a rest more

instrs_leave : (is : List Instr) (ts rest : List Tok) → SpellInstrs is ts rest → Leaves 0 ts rest
instrs_leave [] ts rest is = none is
instrs_leave (i ∷ body) ts rest (a, is, more) = statement_leaves (λ ts rest. SpellsResultOf i.name i.op ts rest) (instr_leaves i) ts a is ▹ instrs_leave body a rest more

pub block_leaves : (b : Block) (ts rest : List Tok) → SpellsBlock b ts rest → Leaves 1 ts rest
block_leaves b ts rest (a, c, ps, is, ends) = phis_leave b.phis ts a ps ▹ instrs_leave b.body a c is ▹ statement_leaves (SpellsEnd b.end) (end_leaves b.end) c rest ends

-- ---- parameters

pub attributes_leave : (table : List (List ℕ)) (w : ℕ) (noundef : Bool) (range : Option Range) (ts rest : List Tok) → SpellsAttributes table w noundef range ts rest → Leaves 0 ts rest
attributes_leave table w noundef None ts rest (words, are, is) = any (words_leave words ts rest are.0)
attributes_leave table w noundef (Some r) ts rest (before, behind, a, b, are, range, more, is) =
    words_leave before ts a are.0 ▹ one range.7.1 ▹ one range.8.1 ▹ one range.9.0.1 ▹ one range.10.1 ▹ one range.11.1 ▹ one range.12.1 ▹ one range.13.1 ▹ any (words_leave behind b rest more.0)

pub param_leaves : (unnamed : ℕ) (p : Param) (ts rest : List Tok) → SpellsParam unnamed p ts rest → Leaves 1 ts rest
param_leaves unnamed p ts rest (noundef, a, b, t, are, strict, name) =
    let front = one t.0.1 ▸ attributes_leave tables.attribute p.width noundef p.range a b are in
    elim name [
      | inl is ↦ front ▸ one is.1
      | inr is ↦ front ▸ none is.0
    ]

pub params_leave : (unnamed : ℕ) (ps : List Param) (ts rest : List Tok) → SpellParams unnamed ps ts rest → Leaves 1 ts rest
params_leave unnamed [] ts rest closes = one closes.1
params_leave unnamed (p ∷ []) ts rest (a, is, closes) = param_leaves unnamed p ts a is ▸ one closes.1
params_leave unnamed (p ∷ next ∷ ps) ts rest (a, b, is, comma, more) = param_leaves unnamed p ts a is ▸ one comma.1 ▸ params_leave (unnamed_with unnamed p) (next ∷ ps) b rest more

pub result_leaves : (r : Ret) (noundef : Bool) (range : Option Range) (ts rest : List Tok) → SpellsResult r noundef range ts rest → Leaves 1 ts rest
result_leaves ret.Void noundef range ts rest (a, empty, attributes, is) = attributes_leave tables.header 1 noundef range ts a attributes ▹ one is.1
result_leaves (ret.Int w) noundef range ts rest (a, attributes, t) = attributes_leave tables.header w noundef range ts a attributes ▹ one t.0.1
