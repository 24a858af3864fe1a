use Rattle.std.proofs.Common.{◌+◌, ◌∷◌, ◌++◌, [], refl, rules}
use Rattle.mix_system.specs.System.{System}
use Rattle.mix_system.specs.declared.literal.Term.{Term}
use Rattle.proof_checker.specs.Place.{AtHeader}
use Rattle.proof_checker.specs.Fed.{Pass, FailsFirst}
use Rattle.proof_checker.proofs.FedLaws.{over, found_failed, found_goes}
use Rattle.proof_checker.proofs.checker.Checker.take.Goals as goal

pub after_line-requires : goal.after_line-requires
after_line-requires c = record { sound = c.requires.3.sound; kept = (c.requires.3.found.0, c.requires.3.found.1); clear = c.requires.3.clear }

pub returns-in-Failed-clause-read : goal.returns-in-Failed-clause-read
returns-in-Failed-clause-read c = λ system cost fed read. record {
  system_is = read.system_is;
  cost_is = read.cost_is;
  sound = read.sound;
  clear = c.in_ok-found.ensures.clear;
  found = found_failed c.args.self.now.base fed c.args.kept c.args.self.now.number c.args.line.now c.in-Failed.reason read.found (λ at is. rw c.in-Failed.is at (c.in_ok-found.ensures.gives at is));
}

pub returns-in-Failed-clause-answer : goal.returns-in-Failed-clause-answer
returns-in-Failed-clause-answer c = λ system cost fed read.
    let base = c.args.self.now.base in
    let number = c.args.self.now.number in
    let fails = found_failed base fed c.args.kept number c.args.line.now c.in-Failed.reason read.found (λ at is. rw c.in-Failed.is at (c.in_ok-found.ensures.gives at is)) in
    (number, over base system cost (λ (s : System) (t : Term). FailsFirst s t AtHeader 1 (fed ++ c.args.line.now ∷ []) number c.in-Failed.reason) read.system_is read.cost_is fails)

pub returns-in-At-clause-read : goal.returns-in-At-clause-read
returns-in-At-clause-read c = λ system cost fed read. record {
  system_is = read.system_is;
  cost_is = read.cost_is;
  sound = read.sound;
  clear = c.in_ok-found.ensures.clear;
  found = found_goes c.args.self.now.base fed c.args.kept c.in-At.next c.args.self.now.number _ c.args.line.now read.found (λ at is. rw c.in-At.is at (c.in_ok-found.ensures.gives at is)) (search rules);
}

pub returns-in-At-clause-answer : goal.returns-in-At-clause-answer
returns-in-At-clause-answer c = λ system cost fed read.
    let base = c.args.self.now.base in
    let goes = found_goes base fed c.args.kept c.in-At.next c.args.self.now.number (c.args.self.now.number + 1) c.args.line.now read.found
    (λ at is. rw c.in-At.is at (c.in_ok-found.ensures.gives at is)) refl in
    (goes.0, over base system cost (λ (s : System) (t : Term). Pass s t AtHeader (fed ++ c.args.line.now ∷ []) goes.0) read.system_is read.cost_is goes.2)
