use Rattle.std.proofs.Common.{Ok, refl, inl}
use Rattle.std.proofs.lemmas.Bool.{false≢true}
use Rattle.wx_base.specs.declared.no_memory.NoMemory.{NoMemory}
use Rattle.open_levels.specs.Kept.{stage_of}
use Rattle.proof_checker.specs.Place.{AtHeader, AtShape, AtGoal, AtStep}
use Rattle.proof_checker.proofs.ComesLaws.{kept_line}
use Rattle.proof_checker.proofs.KeptLaws.{tree_line}
use Rattle.proof_checker.proofs.line.placed.Goals as goal

pub at_step-requires : goal.at_step-requires
at_step-requires c =
    let is = rw c.in-Step.is at c.requires.kept.1 in
    record { sound = c.requires.sound; kept = is.1 }

pub at_node-requires : goal.at_node-requires
at_node-requires c =
    let is = rw c.in-Tree.is at c.requires.kept.1 in
    record { theory = (is.0, is.2); once = c.requires.once; clear = c.requires.clear }

pub returns-in-Header-clause-gives : goal.returns-in-Header-clause-gives
returns-in-Header-clause-gives c = kept_line {E = NoMemory} c.args.base.now c.args.kept AtHeader c.args.line (λ at is. rw c.in-Header.is at is) (Ok c.at_header.result) c.at_header.ensures

pub returns-in-Shape-clause-gives : goal.returns-in-Shape-clause-gives
returns-in-Shape-clause-gives c = kept_line {E = NoMemory} c.args.base.now c.args.kept AtShape c.args.line (λ at is. rw c.in-Shape.is at is) (Ok c.at_shape.result) c.at_shape.ensures

pub returns-in-Goal-clause-gives : goal.returns-in-Goal-clause-gives
returns-in-Goal-clause-gives c = kept_line c.args.base.now c.args.kept AtGoal c.args.line (λ at is. rw c.in-Goal.is at is) c.at_goal.result c.at_goal.ensures

pub returns-in-Step-clause-gives : goal.returns-in-Step-clause-gives
returns-in-Step-clause-gives c =
    kept_line c.args.base.now c.args.kept (AtStep (stage_of c.in-Step.levels)) c.args.line (λ at is. let here = rw c.in-Step.is at is in here.0) c.at_step.result c.at_step.ensures

pub returns-in-Tree-clause-gives : goal.returns-in-Tree-clause-gives
returns-in-Tree-clause-gives c = tree_line c.args.base.now c.args.kept c.in-Tree.theory c.args.line c.in-Tree.is c.at_node.result c.at_node.ensures.gives

pub returns-in-End-clause-gives : goal.returns-in-End-clause-gives
returns-in-End-clause-gives c = λ at is. let here = rw c.in-End.is at is in rw here (inl (false≢true, refl))
