-- What tokens spell is formed, where each local name among them has a byte.
use Rattle.std.proofs.Common.{◌≡◌, ◌<◌, ◌≤◌, ◌^◌, ℕ, Bool, true, false, ◌&&◌, List, [], ◌∷◌, length, Option, Some, None, sym, ◌∙◌, subst, inl, inr, true≢false, arith, pow_pos, lit<}
use Rattle.std.specs.Prelude.{All}
use Rattle.std.proofs.lemmas.List.Elements.{All-cons}
use Rattle.op_table.specs.Words as tables
use Rattle.ll_token.specs.declared.token.TokenKind.TheVariants as kinds
use Rattle.ll_tree.specs.declared.func.Func.{Func}
use Rattle.ll_tree.specs.declared.func.Param.{Param}
use Rattle.ll_tree.specs.declared.func.Range.{Range}
use Rattle.ll_tree.specs.declared.func.Ret.{Ret}
use Rattle.ll_tree.specs.declared.func.Ret.TheVariants as ret
use Rattle.ll_tree.specs.declared.block.Block.{Block}
use Rattle.ll_tree.specs.declared.block.Phi.{Phi}
use Rattle.ll_tree.specs.declared.block.PhiEntry.{PhiEntry}
use Rattle.ll_tree.specs.declared.block.Instr.{Instr}
use Rattle.ll_tree.specs.declared.block.Case.{Case}
use Rattle.ll_tree.specs.declared.block.Operand.{Operand}
use Rattle.ll_tree.specs.declared.block.Operand.TheVariants as value
use Rattle.ll_tree.specs.declared.block.End.{End}
use Rattle.ll_tree.specs.declared.block.End.TheVariants as end
use Rattle.ll_tree.specs.declared.op.Op.{Op}
use Rattle.ll_tree.specs.declared.op.Op.TheVariants as op
use Rattle.ll_tree.specs.declared.op.BinKind.{BinKind}
use Rattle.ll_tree.specs.declared.op.Flags.{Flags}
use Rattle.ll_tree.specs.Formed.{IsWidth, FitsOperand, FitsRange, HasStrictRange, IsFormedParam, IsFormedRet, IsFormedPhi, IsFormedOp, HasFormedName, IsFormedInstr, IsFormedCase, IsFormedEnd, IsFormedBlock, IsFormed}
use Rattle.ll_grammar.specs.Tokens.{Tok, AreNamed}
use Rattle.ll_grammar.specs.Spells as spells
use Rattle.ll_tree.specs.Words.{is_called}
use Rattle.ll_grammar.specs.Spells.{IsNameOf, IsType, IsLiteral, IsOperand, IsTyped, IsStatement, SpellsBin, SpellsOp, SpellsInstr, SpellsResultOf, SpellsPhi, SpellEntries, SpellsEnd, SpellsCase, SpellCases, SpellPhis, SpellInstrs, SpellsBlock, SpellBlocks, SpellsEntryBlock, SpellBody, SpellsAttributes, SpellsResult, is_some, SpellsParam, SpellParams, unnamed_with, SpellsFunction}
use Rattle.ll_grammar.proofs.LeavesLaws.{one, none, others, ◌▹◌, passed_leave, statement_leaves, instr_leaves, block_leaves, phis_leave, result_leaves, params_leave}

-- ---- numbers

literal_fits : (w n : ℕ) (ts rest : List Tok) → IsLiteral w n ts rest → n < 2 ^ w
literal_fits w n ts rest (t, e, inl (k, writes)) = go t.text writes
  where
    go : (text : List ℕ) → spells.WritesNumber w n text → n < 2 ^ w
    go [] none = absurd none
    go (byte ∷ digits) (inl p) = p.2
    go (byte ∷ digits) (inr p) = omega (arith, p.2, pow_pos w)
literal_fits w n ts rest (t, e, inr (k, (one, inl is))) = subst (λ w. n < 2 ^ w) (sym one) (subst (λ n. n < 2 ^ 1) (sym is.0) (lit< tt))
literal_fits w n ts rest (t, e, inr (k, (one, inr is))) = subst (λ w. n < 2 ^ w) (sym one) (subst (λ n. n < 2 ^ 1) (sym is.0) (lit< tt))

operand_fits : (w : ℕ) (x : Operand) (ts rest : List Tok) → IsOperand w x ts rest → FitsOperand w x
operand_fits w (value.Name name) ts rest is = tt
operand_fits w (value.Const n) ts rest is = literal_fits w n ts rest is
operand_fits w value.Poison ts rest is = tt

type_is_width : (w : ℕ) (ts rest : List Tok) → IsType w ts rest → IsWidth w
type_is_width w ts rest t = (t.1, t.2)

typed_fits : (w : ℕ) (x : Operand) (ts rest : List Tok) → IsTyped w x ts rest → IsWidth w × FitsOperand w x
typed_fits w x ts rest (a, t, o) = (type_is_width w ts a t, operand_fits w x a rest o)

-- ---- operations, phis and terminators

bin_formed : (called : Bool) (kind : BinKind) (f : Flags) (w : ℕ) (left right : Operand) (ts rest : List Tok) → SpellsBin called kind f w left right ts rest → IsFormedOp (op.Bin kind f w left right)
bin_formed false kind f w left right ts rest (a, b, c, word, fs, l, r) = let p = typed_fits w left b c l in (p.0, p.1, operand_fits w right r.0 rest r.2)
bin_formed true kind f w left right ts rest (none, a, b, begins, r, closes) = let p = typed_fits w left begins.3 begins.4 begins.9 in (p.0, p.1, (typed_fits w right a b r).1)

op_formed : (computed : Op) (ts rest : List Tok) → SpellsOp computed ts rest → IsFormedOp computed
op_formed (op.Bin kind f w left right) ts rest is = bin_formed (is_called kind) kind f w left right ts rest is
op_formed (op.Cmp p f w left right) ts rest (a, b, c, d, word, fs, is, l, r) = let q = typed_fits w left c d l in (q.0, q.1, operand_fits w right r.0 rest r.2)
op_formed (op.Cast kind f from arg to) ts rest (a, b, c, d, word, fs, t, is, w) = let q = typed_fits from arg b c t in (q.0, type_is_width to d rest w, q.1)
op_formed (op.Select w x left right) ts rest (a, b, c, d, e, word, t, comma, l, again, r) = let q = typed_fits w left c d l in (q.0, (typed_fits 1 x a b t).1, q.1, (typed_fits w right e rest r).1)
op_formed (op.Abs w arg strict) ts rest (n, is, a, b, c, begins, t, l, closes) = typed_fits w arg begins.3 begins.4 begins.9
op_formed (op.Assume x) ts rest (a, b, c, d, e, call, no_type, named, opens, typed, closes) = (typed_fits 1 x d e typed).1

some_name : (name : List ℕ) (ts a : List Tok) → AreNamed ts → IsNameOf kinds.Local name ts a → (name ≡ [] → ⊥)
some_name name ts a named (t, e, k, is) none = (subst AreNamed e named).0 k (is ∙ none)

instr_formed : (i : Instr) (ts rest : List Tok) → AreNamed ts → SpellsInstr i ts rest → IsFormedInstr i
instr_formed i ts rest named is = go i.op is
  where
    go : (computed : Op) → SpellsResultOf i.name computed ts rest → HasFormedName i.name computed × IsFormedOp computed
    go (op.Assume x) (name, is) = (name, op_formed (op.Assume x) ts rest is)
    go (op.Bin kind f w left right) (a, b, name, equals, is) = (some_name i.name ts a named name, op_formed (op.Bin kind f w left right) b rest is)
    go (op.Cmp p f w left right) (a, b, name, equals, is) = (some_name i.name ts a named name, op_formed (op.Cmp p f w left right) b rest is)
    go (op.Cast kind f from arg to) (a, b, name, equals, is) = (some_name i.name ts a named name, op_formed (op.Cast kind f from arg to) b rest is)
    go (op.Select w x left right) (a, b, name, equals, is) = (some_name i.name ts a named name, op_formed (op.Select w x left right) b rest is)
    go (op.Abs w arg strict) (a, b, name, equals, is) = (some_name i.name ts a named name, op_formed (op.Abs w arg strict) b rest is)

no_items : {A : Type 0} (P : A → Type 0) → All P []
no_items P k d within = absurd (omega arith)

entries_fit : (w : ℕ) (es : List PhiEntry) (ts rest : List Tok) → SpellEntries w es ts rest → (1 ≤ length es) × All (λ entry. FitsOperand w entry.value) es
entries_fit w [] ts rest none = absurd none
entries_fit w (e ∷ []) ts rest is = (omega arith, All-cons (λ entry. FitsOperand w entry.value) e [] (operand_fits w e.value is.0 is.1 is.5) (no_items (λ (entry : PhiEntry). FitsOperand w entry.value)))
entries_fit w (e ∷ next ∷ es) ts rest (a, b, is, comma, more) = (omega arith, All-cons (λ entry. FitsOperand w entry.value) e (next ∷ es) (operand_fits w e.value is.0 is.1 is.5) (entries_fit w (next ∷ es) b rest more).1)

phi_formed : (p : Phi) (ts rest : List Tok) → SpellsPhi p ts rest → IsFormedPhi p
phi_formed p ts rest (a, b, c, d, named, equals, word, t, es) = let q = entries_fit p.width p.entries d rest es in (type_is_width p.width c d t, q.0, q.1)

cases_fit : (cs : List Case) (ts rest : List Tok) → SpellCases cs ts rest → All IsFormedCase cs
cases_fit [] ts rest is = no_items IsFormedCase
cases_fit (c ∷ cs) ts rest (a, is, more) = All-cons IsFormedCase c cs (type_is_width c.width ts is.0 is.2, literal_fits c.width c.value is.0 is.1 is.3) (cases_fit cs a rest more)

end_formed : (e : End) (ts rest : List Tok) → SpellsEnd e ts rest → IsFormedEnd e
end_formed end.RetVoid ts rest is = tt
end_formed (end.Ret w x) ts rest is = typed_fits w x is.0 rest is.2
end_formed end.Unreachable ts rest is = tt
end_formed (end.Br to) ts rest is = tt
end_formed (end.CondBr x left right) ts rest is = (typed_fits 1 x is.0 is.1 is.4).1
end_formed (end.Switch w x default cs) ts rest is = let q = typed_fits w x is.0 is.1 is.6 in (q.0, q.1, cases_fit cs is.3 is.4 is.9)

-- ---- blocks

phis_formed : (ps : List Phi) (ts rest : List Tok) → SpellPhis ps ts rest → All IsFormedPhi ps
phis_formed [] ts rest is = no_items IsFormedPhi
phis_formed (p ∷ ps) ts rest (a, is, more) = All-cons IsFormedPhi p ps (phi_formed p is.2 is.3 is.6) (phis_formed ps a rest more)

instrs_formed : (body : List Instr) (ts rest : List Tok) → AreNamed ts → SpellInstrs body ts rest → All IsFormedInstr body
instrs_formed [] ts rest named is = no_items IsFormedInstr
instrs_formed (i ∷ body) ts rest named (a, is, more) =
    All-cons IsFormedInstr i body (instr_formed i is.2 is.3 ((passed_leave is.0 ts is.2 is.4).keeps named) is.6)
    (instrs_formed body a rest ((statement_leaves (λ ts rest. SpellsResultOf i.name i.op ts rest) (instr_leaves i) ts a is).keeps named) more)

block_formed : (b : Block) (ts rest : List Tok) → AreNamed ts → SpellsBlock b ts rest → IsFormedBlock b
block_formed b ts rest named (a, c, ps, body, ends) = record {
  phis = phis_formed b.phis ts a ps;
  body = instrs_formed b.body a c ((phis_leave b.phis ts a ps).keeps named) body;
  ends = end_formed b.end ends.2 ends.3 ends.6;
}

blocks_formed : (bs : List Block) (ts rest : List Tok) → AreNamed ts → SpellBlocks bs ts rest → All IsFormedBlock bs
blocks_formed [] ts rest named is = no_items IsFormedBlock
blocks_formed (b ∷ bs) ts rest named (a, c, label, is, more) =
    let behind = (one label.1).keeps named in
    All-cons IsFormedBlock b bs (block_formed b a c behind is) (blocks_formed bs c rest ((block_leaves b a c is).keeps behind) more)

entry_formed : (unwritten : List ℕ) (b : Block) (ts rest : List Tok) → AreNamed ts → SpellsEntryBlock unwritten b ts rest → IsFormedBlock b × AreNamed rest
entry_formed unwritten b ts rest named (inl (lines, a, c, passes, label, is)) =
    let behind = (passed_leave lines ts a passes ▹ one label.1).keeps named in
    (block_formed b c rest behind is, (block_leaves b c rest is).keeps behind)
entry_formed unwritten b ts rest named (inr (label, is)) = (block_formed b ts rest named is, (block_leaves b ts rest is).keeps named)

body_formed : (unwritten : List ℕ) (bs : List Block) (ts rest : List Tok) → AreNamed ts → SpellBody unwritten bs ts rest → (1 ≤ length bs) × All IsFormedBlock bs
body_formed unwritten [] ts rest named none = absurd none
body_formed unwritten (b ∷ bs) ts rest named (a, is, more) =
    let p = entry_formed unwritten b ts a named is in
    (omega arith, All-cons IsFormedBlock b bs p.0 (blocks_formed bs a rest p.1 more))

-- ---- the header

range_fits : (table : List (List ℕ)) (w : ℕ) (noundef : Bool) (range : Option Range) (ts rest : List Tok) → SpellsAttributes table w noundef range ts rest → FitsRange w range
range_fits table w noundef None ts rest is = tt
range_fits table w noundef (Some r) ts rest (before, behind, a, b, are, range, more, is) = (literal_fits w r.lo range.3 range.4 range.10, literal_fits w r.hi range.5 range.6 range.12, range.0)

ret_formed : (r : Ret) (noundef : Bool) (range : Option Range) (ts rest : List Tok) → SpellsResult r noundef range ts rest → IsFormedRet r range
ret_formed ret.Void noundef range ts rest is = is.1
ret_formed (ret.Int w) noundef range ts rest (a, attributes, t) = (type_is_width w a rest t, range_fits tables.header w noundef range ts a attributes)

strict_range : (strict noundef : Bool) (range : Option Range) → strict ≡ (noundef && is_some range) → HasStrictRange strict range
strict_range false noundef range e = tt
strict_range true noundef (Some r) e = tt
strict_range true true None e = absurd (true≢false e)
strict_range true false None e = absurd (true≢false e)

param_formed : (unnamed : ℕ) (p : Param) (ts rest : List Tok) → SpellsParam unnamed p ts rest → IsFormedParam p
param_formed unnamed p ts rest (noundef, a, b, t, attributes, strict, name) = (type_is_width p.width ts a t, range_fits tables.attribute p.width noundef p.range a b attributes, strict_range p.strict noundef p.range strict)

params_formed : (unnamed : ℕ) (ps : List Param) (ts rest : List Tok) → SpellParams unnamed ps ts rest → All IsFormedParam ps
params_formed unnamed [] ts rest closes = no_items IsFormedParam
params_formed unnamed (p ∷ []) ts rest (a, is, closes) = All-cons IsFormedParam p [] (param_formed unnamed p ts a is) (no_items IsFormedParam)
params_formed unnamed (p ∷ next ∷ ps) ts rest (a, b, is, comma, more) = All-cons IsFormedParam p (next ∷ ps) (param_formed unnamed p ts a is) (params_formed (unnamed_with unnamed p) (next ∷ ps) b rest more)

pub function_formed : (f : Func) (ts : List Tok) → AreNamed ts → SpellsFunction f ts → IsFormed f
function_formed f ts named s =
    let params = one s.is_define.1 ▹ result_leaves f.ret f.ret_noundef f.ret_range s.result s.name s.is_result ▹ one s.is_name.1 ▹ one s.opens.1 in
    let brace = params_leave 0 f.params s.params s.rest s.are_params ▹ none s.is_between ▹ others s.between s.brace ▹ one s.opens_body.1 in
    let body = body_formed _ f.blocks s.body [] ((params ▹ brace).keeps named) s.is_body in
    record {
      some_block = body.0;
      ret = ret_formed f.ret f.ret_noundef f.ret_range s.result s.name s.is_result;
      params = params_formed 0 f.params s.params s.rest s.are_params;
      blocks = body.1;
    }
