use Rattle.std.proofs.Common.{Option, subst, rules}
use Rattle.proof_text.specs.Line.{read}
use Rattle.proof_spelling.specs.declared.draft.Draft.{Draft}
use Rattle.proof_spelling.specs.Draft.{ReadComes}
use Rattle.proof_spelling.proofs.ParseLaws.{read_next, stuck_fault, read_end}
use Rattle.proof_spelling.proofs.parsing.parse.Goals as goal

pub returns-in-None : goal.returns-in-None
returns-in-None c =
    let stuck = subst (λ (o : Option Draft). ReadComes c.loop-line.draft (read c.in-Some.line.now) o) c.in-None.is c.in_ok-next.ensures in
    record { answer = stuck_fault c.args.text.now c.loop-line.left.now c.in-Some.line.now c.in-Some.behind.now c.loop-line.number c.loop-line.draft c.loop-line.invariant c.in-Some.ensures.0 stuck }

pub loop-line-preserved : goal.loop-line-preserved
loop-line-preserved c =
    let goes = subst (λ (o : Option Draft). ReadComes c.loop-line.draft (read c.in-Some.line.now) o) c.in-Some-2.is c.in_ok-next.ensures in
    read_next c.args.text.now c.loop-line.left.now c.in-Some.line.now c.in-Some.behind.now c.loop-line.number _ c.loop-line.draft c.in-Some-2.next c.loop-line.invariant c.in-Some.ensures.0 goes (search rules)

pub returns : goal.returns
returns c = record { answer = read_end c.args.text.now c.loop-line.left.now c.loop-line.number c.loop-line.draft c.ended.result c.loop-line.invariant c.in_default.ensures c.ended.ensures }
