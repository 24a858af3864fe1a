use Rattle.std.proofs.Common.{◌≡◌, ◌≢◌, ◌+◌, length, ap, ◌∙◌, subst, rules, arith}
use Rattle.mix_system.specs.declared.tally.Work.TheVariants.{Split as SplitUnit}
use Rattle.mix_system.specs.Tally.{units, CountsOne}
use Rattle.bounded_simplex.specs.Combination.{IsRefutation}
use Rattle.integer_splits.specs.Boxes.{splits_of}
use Rattle.integer_splits.specs.Halving.{IsHalving}
use Rattle.integer_splits.specs.Stack.{IsHalved, IsTaken, IsLast}
use Rattle.integer_splits.specs.WholePoint.{IsWholePoint}
use Rattle.integer_splits.specs.Work.{Finds, IsNothing}
use Rattle.integer_splits.proofs.SearchLaws.{counts_first, counts_check, counts_split, searched_point, searched_out, searched_all}
use Rattle.integer_splits.proofs.StackLaws.{stand_first, stand_calm, stand_taken, stand_spare, stand_split, stand_leaf, stand_last, stand_same, halved_longer, taken_shorter}
use Rattle.integer_splits.proofs.TreeLaws.{leaves_push, splits_push}
use Rattle.integer_splits.proofs.search.search.Goals as goal

pub loop-halves-init : goal.loop-halves-init
loop-halves-init c =
    rw (c.new-nodes.ensures, c.new-halves.ensures.items) (record {
      stand = stand_first c.args.simplex.now.bounds c.requires.calm.small;
      counted = counts_first c.args.tally.now;
    })

pub work-requires : goal.work-requires
work-requires c =
    let base = c.args.simplex.now.bounds in
    record { calm = stand_calm base c.loop-halves.simplex.bounds c.loop-halves.nodes c.loop-halves.halves.items c.loop-halves.invariant.stand c.requires.calm.system c.requires.calm.formed }

pub returns-in-Point-clause-searched : goal.returns-in-Point-clause-searched
returns-in-Point-clause-searched c =
    let base = c.args.simplex.now.bounds in
    let now = c.work.new.simplex.bounds in
    let nodes = c.loop-halves.nodes in
    let halves = c.loop-halves.halves.items in
    let stand = stand_same base c.loop-halves.simplex.bounds now nodes halves c.work.ensures.bounds c.loop-halves.invariant.stand in
    let whole : IsWholePoint now c.in-Point.point = subst (Finds now) c.in-Point.is c.in_ok-point.ensures.found in
    let count : c.len-left.result ≡ length halves = search rules in
    searched_point base now nodes halves stand c.in-Point.point (c.len-left.result + 1) (omega (arith, count)) whole

pub returns-in-Spent-clause-searched : goal.returns-in-Spent-clause-searched
returns-in-Spent-clause-searched c =
    let out = c.out_of_budget.ensures in
    searched_out c.args.simplex.now.bounds c.loop-halves.simplex.bounds c.loop-halves.nodes c.loop-halves.halves.items c.loop-halves.invariant.stand c.out_of_budget.result out.nodes out.left out.ended

pub take_half-requires : goal.take_half-requires
take_half-requires c =
    let base = c.args.simplex.now.bounds in
    let now = c.work.new.simplex.bounds in
    let nodes = c.loop-halves.nodes in
    let halves = c.loop-halves.halves.items in
    let stand = stand_same base c.loop-halves.simplex.bounds now nodes halves c.work.ensures.bounds c.loop-halves.invariant.stand in
    record { waiting = stand_taken base now nodes halves stand c.requires.room }

pub loop-halves-preserved-then-branch : goal.loop-halves-preserved-then-branch
loop-halves-preserved-then-branch c =
    let base = c.args.simplex.now.bounds in
    let now = c.work.new.simplex.bounds in
    let nodes = c.loop-halves.nodes in
    let halves = c.loop-halves.halves.items in
    let farkas = c.in-Leaf.farkas in
    let more = c.take_half.new.nodes in
    let waiting = c.take_half.new.halves.items in
    let stand = stand_same base c.loop-halves.simplex.bounds now nodes halves c.work.ensures.bounds c.loop-halves.invariant.stand in
    let refuted : IsRefutation now farkas.parts = subst (Finds now) c.in-Leaf.is c.in_ok-point.ensures.found in
    let taken : IsTaken farkas now c.take_half.new.simplex.bounds nodes more halves waiting = c.in_ok-take_half-in-Leaf.ensures.taken c.if-branch.true in
    let unspent : units c.loop-halves.tally ≢ c.loop-halves.tally.budget = λ same. subst IsNothing c.in-Leaf.is (c.in_ok-point.ensures.spent.1 same) in
    let leaves : splits_of more ≡ splits_of nodes = ap splits_of taken.added ∙ leaves_push base nodes farkas in
    record {
      stand = stand_leaf base now nodes halves stand farkas c.take_half.new.simplex.bounds more waiting c.requires.calm.system c.requires.calm.formed refuted taken;
      counted = counts_check c.args.tally.now c.loop-halves.tally c.work.new.tally nodes more (length halves + 1) (length waiting + 1) c.loop-halves.invariant.counted
          (c.work.ensures.counted unspent) leaves (omega (arith, taken_shorter base farkas now c.take_half.new.simplex.bounds nodes more halves waiting taken));
    }

pub returns-in-Leaf-clause-searched : goal.returns-in-Leaf-clause-searched
returns-in-Leaf-clause-searched c =
    let base = c.args.simplex.now.bounds in
    let now = c.work.new.simplex.bounds in
    let nodes = c.loop-halves.nodes in
    let halves = c.loop-halves.halves.items in
    let farkas = c.in-Leaf.farkas in
    let more = c.take_half.new.nodes in
    let stand = stand_same base c.loop-halves.simplex.bounds now nodes halves c.work.ensures.bounds c.loop-halves.invariant.stand in
    let refuted : IsRefutation now farkas.parts = subst (Finds now) c.in-Leaf.is c.in_ok-point.ensures.found in
    let last : IsLast farkas nodes more halves = c.in_ok-take_half-in-Leaf.ensures.last c.if-branch.false in
    searched_all base more (stand_last base now nodes halves stand farkas more c.requires.calm.system c.requires.calm.formed refuted last)

pub returns-in-Leaf-clause-counted : goal.returns-in-Leaf-clause-counted
returns-in-Leaf-clause-counted c =
    let nodes = c.loop-halves.nodes in
    let halves = c.loop-halves.halves.items in
    let farkas = c.in-Leaf.farkas in
    let more = c.take_half.new.nodes in
    let last : IsLast farkas nodes more halves = c.in_ok-take_half-in-Leaf.ensures.last c.if-branch.false in
    let unspent : units c.loop-halves.tally ≢ c.loop-halves.tally.budget = λ same. subst IsNothing c.in-Leaf.is (c.in_ok-point.ensures.spent.1 same) in
    let leaves : splits_of more ≡ splits_of nodes = ap splits_of last.added ∙ leaves_push c.args.simplex.now.bounds nodes farkas in
    counts_check c.args.tally.now c.loop-halves.tally c.work.new.tally nodes more (length halves + 1) 0 c.loop-halves.invariant.counted (c.work.ensures.counted unspent) leaves (omega arith)

pub returns-then-not-tick-clause-searched : goal.returns-then-not-tick-clause-searched
returns-then-not-tick-clause-searched c =
    let out = c.out_of_budget-then-not-tick.ensures in
    searched_out c.args.simplex.now.bounds c.loop-halves.simplex.bounds c.loop-halves.nodes c.loop-halves.halves.items c.loop-halves.invariant.stand c.out_of_budget-then-not-tick.result out.nodes out.left
    out.ended

pub halve-requires-clause-spare : goal.halve-requires-clause-spare
halve-requires-clause-spare c =
    let base = c.args.simplex.now.bounds in
    let now = c.work.new.simplex.bounds in
    let nodes = c.loop-halves.nodes in
    let halves = c.loop-halves.halves.items in
    let halving = c.in-Halve.halving in
    let stand = stand_same base c.loop-halves.simplex.bounds now nodes halves c.work.ensures.bounds c.loop-halves.invariant.stand in
    let is : IsHalving now halving.var halving.at = subst (Finds now) c.in-Halve.is c.in_ok-point.ensures.found in
    stand_spare base now nodes halves stand c.requires.room halving.var halving.at is

pub loop-halves-preserved : goal.loop-halves-preserved
loop-halves-preserved c =
    let base = c.args.simplex.now.bounds in
    let now = c.work.new.simplex.bounds in
    let nodes = c.loop-halves.nodes in
    let halves = c.loop-halves.halves.items in
    let halving = c.in-Halve.halving in
    let more = c.halve.new.nodes in
    let waiting = c.halve.new.halves.items in
    let stand = stand_same base c.loop-halves.simplex.bounds now nodes halves c.work.ensures.bounds c.loop-halves.invariant.stand in
    let is : IsHalving now halving.var halving.at = subst (Finds now) c.in-Halve.is c.in_ok-point.ensures.found in
    let halved : IsHalved halving now c.halve.new.simplex.bounds nodes more halves waiting = c.in_ok-halve-in-Halve.ensures.halved in
    let unspent : units c.loop-halves.tally ≢ c.loop-halves.tally.budget = λ same. subst IsNothing c.in-Halve.is (c.in_ok-point.ensures.spent.1 same) in
    let two : CountsOne SplitUnit c.work.new.tally c.tick.new.self = search rules in
    let splits : splits_of more ≡ splits_of nodes + 1 = ap splits_of halved.added ∙ splits_push base nodes halving.var halving.at in
    record {
      stand = stand_split base now nodes halves stand halving c.halve.new.simplex.bounds more waiting is halved;
      counted = counts_split c.args.tally.now c.loop-halves.tally c.work.new.tally c.tick.new.self nodes more (length halves + 1) (length waiting + 1) c.loop-halves.invariant.counted
          (c.work.ensures.counted unspent) two splits (omega (arith, halved_longer base halving now c.halve.new.simplex.bounds nodes more halves waiting halved));
    }
