use Rattle.std.proofs.Common.{Bool, List, map, sym, subst, refl}
use Rattle.ir_meaning.specs.declared.value.Val.{Val}
use Rattle.ir_meaning.specs.declared.value.Val.TheVariants.{Num}
use Rattle.ir_runner.specs.Slots.{CanMove}
use Rattle.number_runner.specs.Ways.{GoesAlong, IsTaken, chosen, told}
use Rattle.number_runner.proofs.StepLaws.{as_numbers}
use Rattle.number_runner.proofs.leave.take.Goals as goal

pub along-requires : goal.along-requires
along-requires c =
    subst (CanMove c.args.fork.now.on_one.moves) (as_numbers c.args.numbers.now c.args.fork.now.to 1 (Num 1) refl)
    (subst (λ (holds : Bool). CanMove (chosen c.args.fork.now holds).moves (told c.args.fork.now holds (map Num c.args.numbers.now))) c.if-holds.true c.requires.moves)

pub along-requires-else-holds : goal.along-requires-else-holds
along-requires-else-holds c =
    subst (CanMove c.args.fork.now.on_zero.moves) (as_numbers c.args.numbers.now c.args.fork.now.to 0 (Num 0) refl)
    (subst (λ (holds : Bool). CanMove (chosen c.args.fork.now holds).moves (told c.args.fork.now holds (map Num c.args.numbers.now))) c.if-holds.false c.requires.moves)

pub returns-then-holds-clause-way : goal.returns-then-holds-clause-way
returns-then-holds-clause-way c =
    subst (λ (holds : Bool). IsTaken c.args.numbers.now c.args.fork.now holds c.along.new.numbers c.along.result) (sym c.if-holds.true)
    (subst (λ (slots : List Val). GoesAlong slots c.args.fork.now.on_one c.along.new.numbers c.along.result) (sym (as_numbers c.args.numbers.now c.args.fork.now.to 1 (Num 1) refl)) c.along.ensures.way)

pub returns-else-holds-clause-way : goal.returns-else-holds-clause-way
returns-else-holds-clause-way c =
    subst (λ (holds : Bool). IsTaken c.args.numbers.now c.args.fork.now holds c.along-else-holds.new.numbers c.along-else-holds.result) (sym c.if-holds.false)
    (subst (λ (slots : List Val). GoesAlong slots c.args.fork.now.on_zero c.along-else-holds.new.numbers c.along-else-holds.result) (sym (as_numbers c.args.numbers.now c.args.fork.now.to 0 (Num 0) refl)) c.along-else-holds.ensures.way)
